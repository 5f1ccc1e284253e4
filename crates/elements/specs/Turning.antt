-- Laws of the loops over trains and elements: an element of which no pair is stirred changes nothing, what its word says, and one more train or element.
-- Lent memory keeps its length. Assumes nothing.
use Rattle.std.specs.Prelude.{◌≡◌, Bool, List, length, take, set}
use Rattle.std.proofs.Math.Path.{refl, ap, sym}
use Rattle.std.proofs.Common.{◌∙◌}
use Rattle.std.proofs.Math.Bool.{true, false, cond}
use Prim.Native.Nat.{ℕ, zero, suc, ◌+◌, ◌*◌, ◌/◌, ◌%◌, ◌<◌}
use native.Mathlib.Omega.{arith}
use borrow.Author.Tests.{eqb-true, eqb-false, ltb-true}
use Rattle.std.proofs.Math.ListN.{get_or, length-set}
use Rattle.std.proofs.Math.Seq.{get_or-set_same, get_or-set_other}
use Rattle.std.specs.Int.Bits.{bit_and, bit_or, and_zero_r}
use Rattle.std.proofs.Math.Dec.{eqb, ltb}
use Rattle.theory_lists.specs.Every.{every_more}
use Rattle.cut.specs.Cut.{full_of}
use Rattle.rows.specs.Rows.{Row, rows_of}
use Rattle.quiet.specs.Parts.{sub_or_left, sub_or_right}
use Rattle.serving.specs.Pass.{Lent}
use Rattle.waiting.specs.Calm.{spot, spot_of, Still, Settled}
use Rattle.waiting.specs.Calm.Still.{stirred, rests}
use Rattle.waiting.specs.Notes.{stir_in, asked_in, Flagged}
use Rattle.visiting.specs.Visit.{Outcome, pass_of, read, Kept, Noted, Seen}
use Rattle.visiting.specs.Unmoved.{unseen, pass_same}
use Rattle.elements.specs.Elements.{up_to, element_of, elements_of, union_of, tidied_of}

-- ---- an element of which no pair is stirred

none-stirred : (N : List ℕ) (e k : ℕ) → Flagged N → e < 128 → get_or N (1024 + e) 0 ≡ 0 → stir_in N (spot k e) ≡ 0
unfolding stir_in
none-stirred N e k F low z = go (ltb (spot k e) 1024) refl
  where
    go : (b : Bool) → ltb (spot k e) 1024 ≡ b → cond b (get_or N (spot k e) 0) 0 ≡ 0
    go true h = let m : spot k e % 128 ≡ e = omega arith in F.flags (spot k e) (ltb-true (spot k e) 1024 h) (ap (λ (y : ℕ). get_or N (1024 + y) 0) m ∙ z)
    go false h = refl

module _ (T : List ℕ) (t e w : ℕ) (rows weights N : List ℕ) (kept : Kept w rows) (F : Flagged N) (noted : w < length rows → Noted T t N (rows_of (take w rows)))
    (room : length rows ≡ get_or T 3 0 * 2 + 2) (low : e < 128) where
  pub element_idle : (n : ℕ) → get_or N (1024 + e) 0 ≡ 0 → Seen T t (element_of T t e n (read w rows weights)) w rows weights N
  unfolding element_of
  element_idle n z = unseen T t e w rows weights N kept F noted (sym (go n))
    where
      go : (m : ℕ) → up_to (λ j. pass_of T t e (get_or T (8 + j) 0)) m (read w rows weights) ≡ read w rows weights
      go zero = refl
      go (suc m) =
          ap (pass_of T t e (get_or T (8 + m) 0)) (go m)
          ∙ pass_same T t e w rows weights N kept F noted (get_or T (8 + m) 0) room (none-stirred N e (get_or T (8 + m) 0) F low z)

-- ---- the element's word

or_none : (a b : ℕ) → bit_or a b ≡ 0 → (a ≡ 0) × (b ≡ 0)
or_none a b h =
    (sym (sub_or_left a b) ∙ ap (bit_and a) h ∙ and_zero_r a, sym (sub_or_right a b) ∙ ap (bit_and b) h ∙ and_zero_r b)

union_none : (k : ℕ) (N : List ℕ) (e : ℕ) → union_of k N e ≡ 0 → (j : ℕ) → j < k → get_or N (spot j e) 0 ≡ 0
unfolding union_of
union_none zero N e h j l = absurd (omega arith)
union_none (suc k) N e h j l = go (eqb j k) refl (or_none (union_of k N e) (get_or N (spot k e) 0) h) (λ z. union_none k N e z j)
  where
    go : (b : Bool) → eqb j k ≡ b → (union_of k N e ≡ 0) × (get_or N (spot k e) 0 ≡ 0) → (union_of k N e ≡ 0 → j < k → get_or N (spot j e) 0 ≡ 0) → get_or N (spot j e) 0 ≡ 0
    go true q z ih = ap (λ (y : ℕ). get_or N (spot y e) 0) (eqb-true j k q) ∙ z.1
    go false q z ih = let other : j ≡ k → ⊥ = eqb-false j k q in ih z.0 (omega arith)

module _ (N : List ℕ) (e : ℕ) (F : Flagged N) (low : e < 128) where
  pub tidied_flagged : Flagged (tidied_of N e)
  unfolding tidied_of
  tidied_flagged = record {
    long = length-set N (1024 + e) (union_of 8 N e) ∙ F.long;
    flags = λ j l z. get_or-set_other N (1024 + e) j (union_of 8 N e) 0 (λ q. omega arith) ∙ go j l (eqb (j % 128) e) refl z;
  }
    where
      go : (j : ℕ) → j < 1024 → (b : Bool) → eqb (j % 128) e ≡ b → get_or (set N (1024 + e) (union_of 8 N e)) (1024 + j % 128) 0 ≡ 0 → get_or N j 0 ≡ 0
      go j l true q z =
          let same : j % 128 ≡ e = eqb-true (j % 128) e q in
          let none : union_of 8 N e ≡ 0 = sym (ap (λ (y : ℕ). get_or (set N (1024 + e) (union_of 8 N e)) (1024 + y) 0) same ∙ get_or-set_same N (1024 + e) (union_of 8 N e) 0 (omega (arith, F.long))) ∙ z in
          let is : spot (j / 128) e ≡ j = omega arith in
          ap (λ (y : ℕ). get_or N y 0) (sym is) ∙ union_none 8 N e none (j / 128) (omega arith)
      go j l false q z = F.flags j l (sym (get_or-set_other N (1024 + e) (1024 + j % 128) (union_of 8 N e) 0 (λ y. eqb-false (j % 128) e q (omega arith))) ∙ z)

  same-stir : (i : ℕ) → stir_in (tidied_of N e) i ≡ stir_in N i
  unfolding tidied_of stir_in
  same-stir i = go (ltb i 1024) refl
    where
      go : (b : Bool) → ltb i 1024 ≡ b → cond b (get_or (set N (1024 + e) (union_of 8 N e)) i 0) 0 ≡ cond b (get_or N i 0) 0
      go true h = get_or-set_other N (1024 + e) i (union_of 8 N e) 0 (λ q. omega (arith, ltb-true i 1024 h))
      go false h = refl

  same_asked : (i : ℕ) → asked_in (tidied_of N e) i ≡ asked_in N i
  unfolding tidied_of asked_in
  same_asked i = ap (λ (x : ℕ). cond (ltb i 1024) x 0) (get_or-set_other N (1024 + e) (1152 + i) (union_of 8 N e) 0 (λ q. omega arith))

  pub tidied_noted : (T : List ℕ) (t : ℕ) (l : List Row) → Noted T t N l → Noted T t (tidied_of N e) l
  unfolding tidied_of
  tidied_noted T t l h = record {
    calm = every_more (Settled T (t + 1) (stir_in N) (asked_in N) l) (Settled T (t + 1) (stir_in (tidied_of N e)) (asked_in (tidied_of N e)) l) settled l h.calm;
    shown = every_more (λ r. get_or N (2176 + r.state % 4096) 0 ≡ 0 → ⊥) (λ r. get_or (tidied_of N e) (2176 + r.state % 4096) 0 ≡ 0 → ⊥)
        (λ r k z. k (sym (get_or-set_other N (1024 + e) (2176 + r.state % 4096) (union_of 8 N e) 0 (λ q. omega arith)) ∙ z)) l h.shown;
    current = h.current;
  }
    where
      settled : (r : Row) → Settled T (t + 1) (stir_in N) (asked_in N) l r → Settled T (t + 1) (stir_in (tidied_of N e)) (asked_in (tidied_of N e)) l r
      settled r k = record {
        full = k.full;
        train = k.train;
        place = k.place;
        known = λ w z. k.known w (sym (same_asked (spot_of T r.state)) ∙ z);
        still = λ w. go (k.still w);
      }
        where
          go : Still T (stir_in N) l r.state r.cover → Still T (stir_in (tidied_of N e)) l r.state r.cover
          go (stirred x) = stirred (ap (λ (y : ℕ). full_of 8 (bit_and r.cover y)) (same-stir (spot_of T r.state)) ∙ x)
          go (rests x) = rests x

pub tidied_seen : (T : List ℕ) (t e r : ℕ) (o : Outcome) (rows weights N : List ℕ) → e < 128 → Seen T t o r rows weights N → Seen T t o r rows weights (tidied_of N e)
tidied_seen T t e r o rows weights N low s = record {
  outcome = s.outcome;
  kept = s.kept;
  flagged = tidied_flagged N e s.flagged low;
  noted = λ h. tidied_noted N e s.flagged low T t (rows_of (take r rows)) (s.noted h);
}

-- ---- one more

pub element-none : (T : List ℕ) (t e : ℕ) (o : Outcome) → element_of T t e 0 o ≡ o
unfolding element_of
element-none T t e o = refl

pub element-more : (T : List ℕ) (t e j : ℕ) (o : Outcome) → element_of T t e (j + 1) o ≡ pass_of T t e (get_or T (8 + j) 0) (element_of T t e j o)
unfolding element_of
element-more T t e j o = let z : j + 1 ≡ suc j = omega arith in ap (λ (y : ℕ). up_to (λ i. pass_of T t e (get_or T (8 + i) 0)) y o) z

pub elements-none : (T : List ℕ) (t : ℕ) (o : Outcome) → elements_of T t 0 o ≡ o
unfolding elements_of
elements-none T t o = refl

pub elements-more : (T : List ℕ) (t e : ℕ) (o : Outcome) → elements_of T t (e + 1) o ≡ element_of T t e (get_or T 0 0) (elements_of T t e o)
unfolding elements_of
elements-more T t e o = let z : e + 1 ≡ suc e = omega arith in ap (λ (y : ℕ). up_to (λ i. element_of T t i (get_or T 0 0)) y o) z

-- ---- lent memory

pub lent_same : {T rows tmp met held entering : List ℕ} (rows' tmp' met' held' entering' : List ℕ) → Lent T rows tmp met held entering
    → length rows' ≡ length rows → length tmp' ≡ length tmp → length met' ≡ length met → length held' ≡ length held → length entering' ≡ length entering
    → Lent T rows' tmp' met' held' entering'
lent_same rows' tmp' met' held' entering' l a b c d e = record {
  rows_are = omega (arith, l.rows_are);
  tmp_long = omega (arith, l.tmp_long);
  met_long = omega (arith, l.met_long);
  held_long = omega (arith, l.held_long);
  entering_long = omega (arith, l.entering_long);
}

pub union_more : (k : ℕ) (N : List ℕ) (e : ℕ) → bit_or (union_of k N e) (get_or N (k * 128 + e) 0) ≡ union_of (k + 1) N e
unfolding union_of
union_more k N e = let z : suc k ≡ k + 1 = omega arith in ap (λ (y : ℕ). union_of y N e) z
