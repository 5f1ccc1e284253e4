-- What the run of a choice asks of its tables, said of their words alone, and that the tables of a sound case have it. Assumes nothing but delays of one
-- byte, which `ByteDelays` names.
use Rattle.std.specs.Prelude.{◌≡◌, refl, true, List, [], ◌∷◌, ℕ, zero, suc, ◌≤◌, ◌<◌, length, get_or}
use Rattle.std.proofs.Common.{sym, ap, ◌∙◌, subst, arith}
use Rattle.std.proofs.lemmas.Bool.{false≢true}
use Rattle.rules.specs.Files.{Case}
use Rattle.theory_lists.specs.Every.{Every, every_at}
use Rattle.theory_sound.specs.Facts.{Sound}
use Rattle.theory_codes.specs.Tables.{order, tables}
use Rattle.theory_codes.specs.Lookups.{table-trains, table-order}
use Rattle.theory_codes.specs.Partners.{partner-low, first_alone, partner-back}
use Rattle.theory_passes.specs.Order.{Ordered, earlier, earlier_self, order-ordered, order-known, order-length}
use Rattle.theory_passes.specs.Bounds.{ByteDelays}
use Rattle.moving.specs.Words.{Small, trains_in, order_in, partner_of}
use Rattle.single_laws.specs.Low.{words_small}

pub record Planned (T : List ℕ) : Type 0 where
  pub small : Small T
  pub few : trains_in T ≤ 8
  -- the order has trains of the case, and none twice
  pub known : (i : ℕ) → i < trains_in T → order_in T i < trains_in T
  pub once : (i j : ℕ) → i < trains_in T → j < trains_in T → order_in T i ≡ order_in T j → i ≡ j
  -- a partner is an element, element 0 has none, and each is the other's
  pub partners : (e : ℕ) → partner_of T e < 64
  pub alone : partner_of T 0 ≡ 0
  pub back : (e : ℕ) → (partner_of T e ≡ 0 → ⊥) → partner_of T (partner_of T e) ≡ e

-- no train goes before itself, so none stands twice where each goes before all after it
twice : (C : Case) (k : ℕ) (l : List ℕ) → Every (λ j. earlier C k j ≡ true) l → (i : ℕ) → i < length l → get_or l i 0 ≡ k → ⊥
twice C k l h i f e =
    false≢true (sym (earlier_self C k) ∙ subst (λ (j : ℕ). earlier C k j ≡ true) e (every_at (λ j. earlier C k j ≡ true) l 0 h i f))

ordered-apart : (C : Case) (l : List ℕ) → Ordered C l → (i j : ℕ) → i < length l → j < length l → get_or l i 0 ≡ get_or l j 0 → i ≡ j
ordered-apart C [] o i j f g e = absurd (omega arith)
ordered-apart C (k ∷ l) o zero zero f g e = refl
ordered-apart C (k ∷ l) o zero (suc j) f g e = absurd (twice C k l o.0 j (omega arith) (sym e))
ordered-apart C (k ∷ l) o (suc i) zero f g e = absurd (twice C k l o.0 i (omega arith) e)
ordered-apart C (k ∷ l) o (suc i) (suc j) f g e = ap suc (ordered-apart C l o.1 i j (omega arith) (omega arith) e)

module _ (C : Case) (sound : Sound C) (bytes : ByteDelays C) where
  abbrev n : ℕ
  n = length C.trains

  at-order : (i : ℕ) → i < trains_in (tables C) → order_in (tables C) i ≡ get_or (order C) i 0
  at-order i l = table-order C i (omega (arith, table-trains C)) (omega (arith, table-trains C, sound.few_trains))

  pub tables-planned : Planned (tables C)
  tables-planned = record {
    small = words_small C sound bytes;
    few = omega (arith, table-trains C, sound.few_trains);
    known = λ i l.
        let low = every_at (λ k. k < n) (order C) 0 (order-known C) i (omega (arith, table-trains C, order-length C)) in
        omega (arith, at-order i l, table-trains C, low);
    once = λ i j l m e.
        ordered-apart C (order C) (order-ordered C) i j (omega (arith, table-trains C, order-length C)) (omega (arith, table-trains C, order-length C))
        (sym (at-order i l) ∙ e ∙ at-order j m);
    partners = partner-low C sound;
    alone = first_alone C sound;
    back = partner-back C sound;
  }
