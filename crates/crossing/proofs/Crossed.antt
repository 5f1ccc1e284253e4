-- Laws of crossing a partner's covers, one for each way through `across`. A piece passes over those with which it has no common choice, as `passed` counts them
-- where one is needed; then it has passed them all, or the next one cuts it. Assumes nothing.
use mathlib.Core.Path.{◌≡◌, refl, ap, sym, ◌∙◌}
use mathlib.Core.Bool.{Bool, true, false}
use mathlib.Core.List.{List, [], ◌∷◌}
use Prim.Native.Nat.{ℕ, suc, ◌+◌, ◌-◌, ◌≤◌, ◌<◌}
use native.Mathlib.Omega.{arith}
use lib.ListN.{length, take, drop, get_or, length-drop}
use lib.Seq.{drop-length, drop-drop, get_or-take, get_or-drop, length-take-le}
use lib.Bits.{bit_and}
use Rattle.rules.specs.Lists.{each}
use Rattle.cut.specs.declared.Pieces.{Pieces}
use Rattle.cut.specs.Cut.{Part, part, full_of, outs, carried, crossed, passed, fitting, Wrote}
use Rattle.crossing.specs.Crossing.{crossed_from}
use Rattle.cut.specs.Written.{fitting_join}
use Rattle.cut.proofs.Laws.{passed-meets, passed_on, passed-stops, still, carried-held}

-- ---- a piece among the partner's covers

module _ (on : ℕ → List Part) (p m : ℕ) (ms : List ℕ) where
  pub crossed_misses : full_of 8 (bit_and p m) ≡ false → crossed on (m ∷ ms) p ≡ crossed on ms p
  unfolding crossed
  crossed_misses e = simp e

  pub crossed-meets : full_of 8 (bit_and p m) ≡ true
      → crossed on (m ∷ ms) p ≡ part (bit_and p m) true ∷ each (crossed on ms) (outs 8 0 (bit_and p m) (p - bit_and p m))
  unfolding crossed
  crossed-meets e = simp e

pub crossed-end : (on : ℕ → List Part) (p : ℕ) → crossed on [] p ≡ on p
unfolding crossed
crossed-end on p = refl

-- a piece comes to the same whether it passes the covers over or meets them
pub crossed-passed : (on : ℕ → List Part) (p : ℕ) (ms : List ℕ) → crossed on ms p ≡ crossed on (drop (passed 1 p ms) ms) p
unfolding passed
crossed-passed on p [] = refl
crossed-passed on p (m ∷ ms) = go (crossed-passed on p ms) (full_of 8 (bit_and p m)) refl
  where
    one_left : 1 ≤ suc (length ms)
    one_left = omega arith

    go : crossed on ms p ≡ crossed on (drop (passed 1 p ms) ms) p → (t : Bool) → full_of 8 (bit_and p m) ≡ t
        → crossed on (m ∷ ms) p ≡ crossed on (drop (passed 1 p (m ∷ ms)) (m ∷ ms)) p
    go less true e = rw (passed-meets 1 p m ms one_left e)
    go less false e = rw (passed_on 1 p m ms one_left e) (crossed_misses on p m ms e ∙ less)

-- ---- what each way through `across` has written

module _ (room cap : ℕ) (met : List ℕ) (first at p : ℕ) (w : Pieces) (h e : List ℕ) (i : ℕ)
    (known : first ≤ length met) (place : i ≡ at + passed 1 p (drop at (take first met))) where
  abbrev on : ℕ → List Part
  on = carried cap (drop first met) 0

  abbrev partner : List ℕ
  partner = take first met

  long : length partner ≡ first
  long = length-take-le first met known

  across-from : crossed_from cap met first at p ≡ crossed_from cap met first i p
  across-from =
      crossed-passed on p (drop at partner)
      ∙ ap (λ (l : List ℕ). crossed on l p) (drop-drop (passed 1 p (drop at partner)) at partner ∙ ap (λ (k : ℕ). drop k partner) (sym place))

  -- all of the partner's are passed
  pub writes-passed : i ≡ first → {r : Pieces} {h₁ e₁ : List ℕ} → Wrote w h e (fitting room w (carried cap (drop first met) 0 p)) r h₁ e₁
      → Wrote w h e (fitting room w (crossed_from cap met first at p)) r h₁ e₁
  writes-passed z f =
      let done : drop i partner ≡ [] = ap (λ (k : ℕ). drop k partner) (z ∙ sym long) ∙ drop-length partner in
      rw (across-from, done, crossed-end on p) f

  abbrev common : ℕ
  common = bit_and p (get_or met i 0)

  -- the next of the partner's has a common choice with the piece
  module _ (more : i < first) where
    meets-next : full_of 8 common ≡ true
    meets-next =
        ap (λ (m : ℕ). full_of 8 (bit_and p m))
        (sym (get_or-take first met i 0 more) ∙ ap (λ (k : ℕ). get_or partner k 0) place ∙ sym (get_or-drop at partner (passed 1 p (drop at partner)) 0))
        ∙ passed-stops 1 p (drop at partner) (omega arith) (omega (arith, length-drop at partner, long))

    next : drop i partner ≡ get_or met i 0 ∷ drop (i + 1) partner
    next = still partner i (omega (arith, long)) ∙ ap (λ (m : ℕ). m ∷ drop (i + 1) partner) (get_or-take first met i 0 more)

    pub writes-inside : {r z : Pieces} {h₁ e₁ h₂ e₂ : List ℕ}
        → Wrote w h e (fitting room w (carried cap (drop first met) cap common)) r h₁ e₁
        → Wrote r h₁ e₁ (fitting room r (each (crossed_from cap met first (i + 1)) (outs 8 0 common (p - common)))) z h₂ e₂
        → Wrote w h e (fitting room w (crossed_from cap met first at p)) z h₂ e₂
    writes-inside f g =
        let held-once = carried-held cap cap common (drop first met) (omega arith) in
        rw (across-from, next, crossed-meets on p (get_or met i 0) (drop (i + 1) partner) meets-next)
        (fitting_join room (part common true ∷ []) (each (crossed_from cap met first (i + 1)) (outs 8 0 common (p - common))) (rw held-once at f) g)
