-- `any` over a range of numbers is the search by index. Assumes nothing.
use Rattle.std.specs.Prelude.{◌≡◌, Bool, List}
use Rattle.std.proofs.Math.Path.{refl, ap}
use Rattle.std.proofs.Common.{sym, ◌∙◌, arith}
use Rattle.std.proofs.Math.Bool.{true, false}
use Prim.Native.Nat.{ℕ, zero, suc, ◌≤◌, ◌<◌}
use denote.Param.Members.{Mut}
use lib.ListN.{length, get_or}
use Rattle.std.proofs.iter.Yields.{nat_range_steps}
use Rattle.std.proofs.lemmas.Iterator.{cases_from_any, YieldsList-from_range}
use Rattle.std.proofs.lemmas.List.FromFn.{length-range_with_len, get_or-range_with_len}
use Rattle.std.specs.Bool.{MatchBool}
use Rattle.std.specs.Fn.{Called}
use Rattle.std.specs.Iterator.{YieldsThen}
use Rattle.std.specs.declared.option.Option.{Option}
use Rattle.std.specs.List.{range_with_len, FoldsTo, AllWithin, HoldsAt}
use Rattle.std.specs.Option.{MatchOption}
use Rattle.file_bodies.specs.Bodies.{any_below}
use Rattle.file_bodies.specs.Search.{any_here}

-- `any` over the indices below n answers what the search does, where the closure passes at the same ones
pub any_answers : {F : Type 0} {g : Mut F (ℕ × Unit {0}) Bool} {s : _} (u : _) (call : F) (r : Bool) (f : ℕ → Bool) (n : ℕ)
    → (xs : List ℕ) × (o : Option ℕ) × (j : F) × YieldsThen nat_range_steps s xs o u × FoldsTo (λ p x q. Called g p (x, tt) false q) call xs j × MatchOption o (r ≡ false) (λ x. (r ≡ true) × ((h : F) × Called g j (x, tt) true h))
    → s ≡ record { start = 0; end = n }
    → ((x : ℕ) (q : F) → Called g call (x, tt) true q → f x ≡ true) → ((x : ℕ) (q : F) → Called g call (x, tt) false q → (q ≡ call) × (f x ≡ false))
    → r ≡ any_below f n
unfolding any_below
any_answers u call r f n ran same at_true at_false =
    go r (cases_from_any u call r (λ x. f x ≡ true) (λ x. f x ≡ false) ran (YieldsList-from_range 0 n n same (omega arith)) at_true at_false)
  where
    xs : List ℕ
    xs = range_with_len 0 n

    size : length xs ≡ n
    size = length-range_with_len 0 n

    at : (k : ℕ) → k < n → get_or xs k 0 ≡ k
    at k h = omega (arith, get_or-range_with_len 0 n k 0 h)

    none-to : (m : ℕ) → m ≤ n → AllWithin (λ x. f x ≡ false) xs 0 (length xs) → any_below f m ≡ false
    none-to zero h all = refl
    none-to (suc m) h all =
        let here = all m 0 (omega arith) (omega (arith, size)) in
        rw (ap f (sym (at m (omega arith))) ∙ here) (none-to m (omega arith) all)

    go : (b : Bool) → MatchBool b ((k : ℕ) × (k < length xs) × HoldsAt (λ x. f x ≡ true) xs k) (AllWithin (λ x. f x ≡ false) xs 0 (length xs)) → b ≡ any_below f n
    go true h =
        let inside : h.0 < n = omega (arith, size) in
        sym (any_here f h.0 n inside (ap f (sym (at h.0 inside)) ∙ h.2 0))
    go false h = sym (none-to n (omega arith) h)
