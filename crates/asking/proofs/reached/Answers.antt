-- `asking::reached` meets its contract: what is past the key by at most t has not wrapped. Assumes nothing.
use native.Mathlib.Nat.{mod-eq_of_lt}
use borrow.Author.Tests.{lt-leb}
use Rattle.std.proofs.Common.{◌≡◌, ℕ, ◌+◌, ◌-◌, ◌%◌, ◌≤◌, ◌<◌, leb, sym, ap, ◌∙◌, arith, le-leb}
use Rattle.std.proofs.Math.Decide.{dec_le}
use Rattle.asking.specs.Ask.{reach_of}
use Rattle.asking.specs.Reach.{reach_no, reach-yes}
use Rattle.asking.proofs.reached.Goals as goal

-- how far s is past the key, as the machine subtracts
abbrev past : ℕ → ℕ → ℕ
past key s = (s + (18446744073709551616 - key)) % 18446744073709551616

module _ (key t s : ℕ) (low : key < 4294967296) (small : t < 2048) (fits : s < 18446744073709551616) where
  past-more : key ≤ s → past key s ≡ s - key
  past-more h = let e : s + (18446744073709551616 - key) ≡ s - key + 18446744073709551616 = omega arith in ap (λ (m : ℕ). m % 18446744073709551616) e ∙ omega arith

  past_less : (key ≤ s → ⊥) → past key s ≡ s + (18446744073709551616 - key)
  past_less h = mod-eq_of_lt (omega arith)

  reached_is : leb (past key s) t ≡ reach_of key t s
  reached_is = go (dec_le key s)
    where
      near : key ≤ s → Dec (s - key ≤ t) → leb (s - key) t ≡ reach_of key t s
      near h (yes k) = le-leb (s - key) t k ∙ sym (reach-yes key t s h (omega arith))
      near h (no k) = lt-leb (s - key) t (omega arith) ∙ sym (reach_no key t s (λ (a : key ≤ s) (b : s ≤ key + t). k (omega (arith, a, b))))

      go : Dec (key ≤ s) → leb (past key s) t ≡ reach_of key t s
      go (yes h) = rw (past-more h) (near h (dec_le (s - key) t))
      go (no h) = rw (past_less h) (lt-leb (s + (18446744073709551616 - key)) t (omega arith) ∙ sym (reach_no key t s (λ a b. h a)))

pub returns : goal.returns
returns c = reached_is c.args.key c.args.t c.args.s (omega arith) (omega arith) (omega arith)
