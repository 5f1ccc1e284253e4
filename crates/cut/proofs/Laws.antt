-- Laws of the cutting rule on packed covers, one for each way through the functions. Each opens one turn of its definition by the tests that were taken.
-- Assumes nothing.
use mathlib.Core.Path.{◌≡◌, refl, ap, sym, ◌∙◌}
use mathlib.Core.Bool.{Bool, true, false}
use mathlib.Core.List.{List, [], ◌∷◌, ◌++◌}
use Prim.Native.Nat.{ℕ, suc, ◌+◌, ◌-◌, ◌*◌, ◌/◌, ◌%◌, ◌^◌, ◌≤◌, ◌<◌}
use native.Mathlib.Nat.{pow-succ', mul_assoc, mul-le-mul_right, pow-le-pow_right, mod-eq_of_lt}
use native.Mathlib.Decide.{dec_le}
use native.Mathlib.Numerals.{add-one}
use native.Mathlib.Omega.{arith}
use borrow.Author.Tests.{ltb-false, lt-ltb, le-ltb, le-leb, lt-leb, ne_eqb}
use lib.ListN.{length, drop, get_or, set, length-drop}
use lib.Seq.{drop-cons, drop-drop, get_or-drop, take-nil}
use lib.Bits.{bit_and}
use lib.Dec.{ltb}
use Rattle.rules.specs.Lists.{each}
use Rattle.cut.specs.declared.Pieces.{Pieces}
use Rattle.cut.specs.Cut.{Part, part, full_of, outside_of, outs, carried, passed, Room, fitting, Wrote}
use Rattle.cut.specs.Outside.{power}
use Rattle.cut.specs.Written.{wrote_none, fitting-none, fitting-one, fitting_join, room_after}

-- ---- what is passed over

module _ (need p : ℕ) where
  -- too few are still to meet
  pub passed-short : (ms : List ℕ) → length ms < need → passed need p ms ≡ 0
  unfolding passed
  passed-short [] h = refl
  passed-short (m ∷ ms) h = simp (lt-ltb (suc (length ms)) need h)

  module _ (m : ℕ) (ms : List ℕ) (more : need ≤ suc (length ms)) where
    pub passed-meets : full_of 8 (bit_and p m) ≡ true → passed need p (m ∷ ms) ≡ 0
    unfolding passed
    passed-meets e = simp (le-ltb (suc (length ms)) need more, e)

    pub passed_on : full_of 8 (bit_and p m) ≡ false → passed need p (m ∷ ms) ≡ suc (passed need p ms)
    unfolding passed
    passed_on e = simp (le-ltb (suc (length ms)) need more, e)

-- the covers still to meet, taken apart
pub still : (l : List ℕ) (i : ℕ) → i < length l → drop i l ≡ get_or l i 0 ∷ drop (i + 1) l
still l i h = rw (add-one, drop-cons l i 0)

module _ (need p : ℕ) (l : List ℕ) (i : ℕ) where
  pub place_short : length l - i < need → i + passed need p (drop i l) ≡ i
  place_short h = let e : passed need p (drop i l) ≡ 0 = passed-short need p (drop i l) (omega (arith, length-drop i l)) in omega arith

  module _ (some : 0 < need) (more : need ≤ length l - i) where
    apart : drop i l ≡ get_or l i 0 ∷ drop (i + 1) l
    apart = still l i (omega arith)

    long : need ≤ suc (length (drop (i + 1) l))
    long = omega (arith, length-drop (i + 1) l)

    pub place-meets : full_of 8 (bit_and p (get_or l i 0)) ≡ true → i + passed need p (drop i l) ≡ i
    place-meets e = let z : passed need p (drop i l) ≡ 0 = rw apart (passed-meets need p (get_or l i 0) (drop (i + 1) l) long e) in omega arith

    pub place-on : full_of 8 (bit_and p (get_or l i 0)) ≡ false → i + passed need p (drop i l) ≡ i + 1 + passed need p (drop (i + 1) l)
    place-on e = let z : passed need p (drop i l) ≡ suc (passed need p (drop (i + 1) l)) = rw apart (passed_on need p (get_or l i 0) (drop (i + 1) l) long e) in omega arith

-- where enough are still to meet, the next has a common choice with the piece
pub passed-stops : (need p : ℕ) (ms : List ℕ) → 0 < need → need ≤ length ms - passed need p ms → full_of 8 (bit_and p (get_or ms (passed need p ms) 0)) ≡ true
passed-stops need p [] some more = absurd (omega arith)
passed-stops need p (m ∷ ms) some more = go (passed-stops need p ms some) (full_of 8 (bit_and p m)) refl
  where
    long : need ≤ suc (length ms)
    long = omega arith

    go : (need ≤ length ms - passed need p ms → full_of 8 (bit_and p (get_or ms (passed need p ms) 0)) ≡ true)
        → (t : Bool) → full_of 8 (bit_and p m) ≡ t → full_of 8 (bit_and p (get_or (m ∷ ms) (passed need p (m ∷ ms)) 0)) ≡ true
    go less true e = rw (passed-meets need p m ms long e) e
    go less false e = rw (passed_on need p m ms long e) (less (omega (arith, passed_on need p m ms long e)))

-- ---- a piece that is carried

module _ (cap n p : ℕ) where
  pub carried-held : (ms : List ℕ) → cap ≤ n → carried cap ms n p ≡ part p true ∷ []
  unfolding carried
  carried-held [] h = simp (le-leb cap n h)
  carried-held (m ∷ ms) h = simp (le-leb cap n h)

  module _ (low : n < cap) where
    pub carried-enters : (ms : List ℕ) → length ms < cap - n → carried cap ms n p ≡ part p false ∷ []
    unfolding carried
    carried-enters [] h = simp (lt-leb cap n low)
    carried-enters (m ∷ ms) h = let e : ltb (n + suc (length ms)) cap ≡ true = lt-ltb (n + suc (length ms)) cap (omega arith) in simp (lt-leb cap n low, e)

    module _ (m : ℕ) (ms : List ℕ) (more : cap - n ≤ suc (length ms)) where
      many : ltb (n + suc (length ms)) cap ≡ false
      many = le-ltb (n + suc (length ms)) cap (omega arith)

      pub carried_misses : full_of 8 (bit_and p m) ≡ false → carried cap (m ∷ ms) n p ≡ carried cap ms n p
      unfolding carried
      carried_misses e = simp (lt-leb cap n low, many, e)

      pub carried-meets : full_of 8 (bit_and p m) ≡ true
          → carried cap (m ∷ ms) n p ≡ carried cap ms (suc n) (bit_and p m) ++ each (carried cap ms n) (outs 8 0 (bit_and p m) (p - bit_and p m))
      unfolding carried
      carried-meets e = simp (lt-leb cap n low, many, e)

-- a piece comes to the same whether it passes the covers over or meets them
pub carried-passed : (cap n p : ℕ) → n < cap → (ms : List ℕ) → carried cap ms n p ≡ carried cap (drop (passed (cap - n) p ms) ms) n p
unfolding passed
carried-passed cap n p low [] = refl
carried-passed cap n p low (m ∷ ms) = go (carried-passed cap n p low ms) (ltb (suc (length ms)) (cap - n)) (full_of 8 (bit_and p m)) refl refl
  where
    go : carried cap ms n p ≡ carried cap (drop (passed (cap - n) p ms) ms) n p
        → (s t : Bool) → ltb (suc (length ms)) (cap - n) ≡ s → full_of 8 (bit_and p m) ≡ t
        → carried cap (m ∷ ms) n p ≡ carried cap (drop (passed (cap - n) p (m ∷ ms)) (m ∷ ms)) n p
    go less true t d e = simp d
    go less false true d e = simp (d, e)
    go less false false d e = simp (d, e) (carried_misses cap n p low m ms (ltb-false (suc (length ms)) (cap - n) d) e ∙ less)

-- ---- what each way through `carry` has written

-- no room is left
pub writes-none : (room : ℕ) (w : Pieces) (h e : List ℕ) (l : List Part) → w.held + w.entering ≡ room → Wrote w h e (fitting room w l) w h e
writes-none room w h e l z = rw (fitting-none room w l z) (wrote_none w h e)

module _ (room cap : ℕ) (met : List ℕ) (at n p : ℕ) (w : Pieces) (h e : List ℕ) where
  pub writes-held : w.held + w.entering < room → cap ≤ n
      → Wrote w h e (fitting room w (carried cap (drop at met) n p)) (record { held = w.held + 1; entering = w.entering }) (set h w.held p) e
  writes-held k c =
      rw (carried-held cap n p (drop at met) c, fitting-one room w (part p true) k)
      (record { held_place = refl; entering_place = omega arith; held_list = refl; entering_list = refl })

  module _ (i : ℕ) (low : n < cap) (place : i ≡ at + passed (cap - n) p (drop at met)) where
    onward-from : carried cap (drop at met) n p ≡ carried cap (drop i met) n p
    onward-from =
        carried-passed cap n p low (drop at met)
        ∙ ap (λ (l : List ℕ). carried cap l n p) (drop-drop (passed (cap - n) p (drop at met)) at met ∙ ap (λ (k : ℕ). drop k met) (sym place))

    pub writes-enters : w.held + w.entering < room → length met - i < cap - n
        → Wrote w h e (fitting room w (carried cap (drop at met) n p)) (record { held = w.held; entering = w.entering + 1 }) h (set e w.entering p)
    writes-enters k c =
        rw (onward-from, carried-enters cap n p low (drop i met) (omega (arith, length-drop i met)), fitting-one room w (part p false) k)
        (record { held_place = omega arith; entering_place = refl; held_list = refl; entering_list = refl })

    module _ (more : cap - n ≤ length met - i) where
      meets_at : full_of 8 (bit_and p (get_or met i 0)) ≡ true
      meets_at =
          ap (λ (k : ℕ). full_of 8 (bit_and p k)) (ap (λ (k : ℕ). get_or met k 0) place ∙ sym (get_or-drop at met (passed (cap - n) p (drop at met)) 0))
          ∙ passed-stops (cap - n) p (drop at met) (omega arith) (omega (arith, length-drop at met))

      pub writes_meets : {r z : Pieces} {h₁ e₁ h₂ e₂ : List ℕ}
          → Wrote w h e (fitting room w (carried cap (drop (i + 1) met) (n + 1) (bit_and p (get_or met i 0)))) r h₁ e₁
          → Wrote r h₁ e₁ (fitting room r (each (carried cap (drop (i + 1) met) n) (outs 8 0 (bit_and p (get_or met i 0)) (p - bit_and p (get_or met i 0))))) z h₂ e₂
          → Wrote w h e (fitting room w (carried cap (drop at met) n p)) z h₂ e₂
      writes_meets f g =
          let long : cap - n ≤ suc (length (drop (i + 1) met)) = omega (arith, length-drop (i + 1) met) in
          rw (onward-from, still met i (omega arith), carried-meets cap n p low (get_or met i 0) (drop (i + 1) met) long meets_at, ← (add-one n))
          (fitting_join room (carried cap (drop (i + 1) met) (n + 1) (bit_and p (get_or met i 0)))
          (each (carried cap (drop (i + 1) met) n) (outs 8 0 (bit_and p (get_or met i 0)) (p - bit_and p (get_or met i 0)))) f g)

-- ---- the outside pieces

pub shifted : (x k : ℕ) → x * 256 ^ k < 2 ^ 64 → x * 2 ^ (8 * k) % 2 ^ 64 ≡ x * 256 ^ k
shifted x k h = rw (power k) (mod-eq_of_lt h)

pub mask_small : (k : ℕ) → k < 8 → 255 * 256 ^ k < 2 ^ 64
mask_small k h = omega (arith, pow-le-pow_right {n = 256} (omega arith) {i = k} {j = 7} (omega arith))

module _ (k c d : ℕ) (few : k < 8) where
  next : 8 - k ≡ suc (8 - (k + 1))
  next = omega arith

  pub outs-same : d % 256 ≡ 0 → outs (8 - k) k c d ≡ outs (8 - (k + 1)) (k + 1) c (d / 256)
  unfolding outs
  outs-same e = rw next (simp (e, add-one))

  outs-other : (d % 256 ≡ 0 → ⊥) → outs (8 - k) k c d ≡ outside_of k c d ∷ outs (8 - (k + 1)) (k + 1) c (d / 256)
  unfolding outs
  outs-other e = rw next (simp (ne_eqb (d % 256) 0 e, add-one))

  -- the piece of this train comes first
  pub first-is : {q : ℕ} → (d % 256 ≡ 0 → ⊥) → q ≡ outside_of k c d → outs (8 - k) k c d ≡ q ∷ outs (8 - (k + 1)) (k + 1) c (d / 256)
  first-is e o = rw o (outs-other e)

-- what an `Outsides` has still to give fits in 64 bits, so trains are left where something is lost, and what is left after one train fits too
module _ (c lost k : ℕ) (within : c + lost * 256 ^ k < 2 ^ 64) (some : lost ≡ 0 → ⊥) where
  pub trains-left : k < 8
  trains-left = go (dec_le 8 k)
    where
      go : Dec (8 ≤ k) → k < 8
      go (no n) = omega arith
      go (yes l) =
          absurd (omega (arith, within, pow-le-pow_right {n = 256} (omega arith) {i = 8} {j = k} l, mul-le-mul_right {m = 1} {n = lost} (256 ^ k) (omega arith)))

  pub next-within : c + lost / 256 * 256 ^ (k + 1) < 2 ^ 64
  next-within =
      let e : lost / 256 * 256 ^ (k + 1) ≡ lost / 256 * 256 * 256 ^ k = ap (λ (m : ℕ). lost / 256 * m) (ap (λ (m : ℕ). 256 ^ m) (add-one k) ∙ pow-succ' 256 k) ∙ sym (mul_assoc (lost / 256) 256 (256 ^ k)) in
      omega (arith, within, mul-le-mul_right {m = lost / 256 * 256} {n = lost} (256 ^ k) (omega arith))

-- of the pieces L that are to be carried, those of l are left: what they add to what is written is what is to be written
pub record Cutting (room : ℕ) (w : Pieces) (h e : List ℕ) (f : ℕ → List Part) (L : List ℕ) (h₁ e₁ : List ℕ) (l : List ℕ) (z : Pieces) : Type 0 where
  pub space : Room room z h₁ e₁
  pub after : (r : Pieces) (h₂ e₂ : List ℕ) → Wrote z h₁ e₁ (fitting room z (each f l)) r h₂ e₂ → Wrote w h e (fitting room w (each f L)) r h₂ e₂

module _ {room : ℕ} {w : Pieces} {h e : List ℕ} {f : ℕ → List Part} {L : List ℕ} where
  pub cutting_start : {l : List ℕ} → Room room w h e → l ≡ L → Cutting room w h e f L h e l w
  cutting_start s g = rw g (record { space = s; after = λ r h₂ e₂ t. t })

  module _ {h₁ e₁ l : List ℕ} {z : Pieces} (s : Cutting room w h e f L h₁ e₁ l z) where
    pub cutting_end : l ≡ [] → Wrote w h e (fitting room w (each f L)) z h₁ e₁
    cutting_end g = s.after z h₁ e₁ (rw (g, take-nil {A = Part} (room - (z.held + z.entering))) (wrote_none z h₁ e₁))

    pub cutting_next : {z₂ : Pieces} {h₂ e₂ rest : List ℕ} (q : ℕ) → l ≡ q ∷ rest
        → Wrote z h₁ e₁ (fitting room z (f q)) z₂ h₂ e₂ → Cutting room w h e f L h₂ e₂ rest z₂
    cutting_next q o g = record {
      space = room_after (f q) s.space g;
      after = λ r h₃ e₃ t. s.after r h₃ e₃ (rw o (fitting_join room (f q) (each f _) g t));
    }
