-- What an accepted file holds is what its whole fields say, one after another: things of a kind are gathered from the places at which
-- the file's fields stand, by following the reading. Assumes nothing.
use Rattle.std.specs.Prelude.{◌≡◌, Bool, false, not, ℕ, ◌+◌, ◌≤◌, length, drop}
use Rattle.std.proofs.Math.Path.{refl, ap, sym}
use Rattle.std.proofs.Common.{◌∙◌, arith, length-drop}
use mathlib.Core.List.{List, [], ◌++◌, append-nil, append_assoc}
use Rattle.std.proofs.Math.Dec.{eqb}
use Rattle.rules.specs.Lists.{one, each}
use Rattle.rules.specs.Refusals.{verdict}
use Rattle.rules.specs.Refusals.Result.{answer}
use Rattle.rules.specs.Files.{File, Contents, kind_of, byte, word, train_of, field_rules, more, empty, read}
use Rattle.rules.specs.Files.Kind.{train}
use Rattle.file_bodies.specs.Bodies.{bad_length}
use Rattle.theory_sound.specs.Kinds.{is-tag}
use Rattle.theory_sound.specs.Verdicts.{field-accepted, with_field}
use Rattle.file_fields.specs.Fields.{past, body_at, places_from, places}
use Rattle.file_fields.specs.At.{tag-here, size-here, body-here, whole_of, whole-none, body_of}
use Rattle.file_fields.specs.Walk.{Walked, walked_start, walked_next}
use Rattle.file_bodies.specs.Agree.{length_agrees}
use Rattle.file_reader.specs.Along.{read_along}

-- a whole field of a possible length stands at i
pub record Stands (l : List ℕ) (i : ℕ) : Type 0 where
  pub inside : past l i ≤ length l
  pub possible : bad_length (byte l i) (word l (i + 1)) ≡ false

module _ (f : File) (l : List ℕ) where
  stands : (c : Contents) (i : ℕ) → verdict (field_rules f c i (drop i l)) ≡ 0 → Stands l i
  stands c i h =
      let a = field-accepted f c i (drop i l) h in
      record {
        inside = omega (arith, length-drop i l, size-here l i, a.whole);
        possible = sym (length_agrees (byte l i) (word l (i + 1)) (rw (tag-here l i) at a.a_tag)) ∙ ap not (rw (tag-here l i, size-here l i) at a.a_length);
      }

  module _ {A : Type 0} (of : Contents → List A) (test : ℕ → Bool) (make : ℕ → A)
      (step : (c : Contents) (i : ℕ) → Stands l i → of (more c i (kind_of (byte l i)) (body_at l i)) ≡ of c ++ one (test i) (make i)) where
    -- what is gathered from the places ahead stands behind what was read
    abbrev Gathering : ℕ → Contents → Type 0
    Gathering i c = Walked l i (λ n. each (λ j. one (test j) (make j)) (places l) ≡ of c ++ each (λ j. one (test j) (make j)) (places_from n l i))

    gathering_more : (c : Contents) (i : ℕ) → verdict (field_rules f c i (drop i l)) ≡ 0 → Gathering i c → Gathering (past l i) (with_field c i (drop i l))
    unfolding places_from
    gathering_more c i v p =
        let s = stands c i v in
        let b : with_field c i (drop i l) ≡ more c i (kind_of (byte l i)) (body_at l i) = rw (tag-here l i, body-here l i, body_of l i s.inside) in
        walked_next _ p (past l i) (omega arith) s.inside (λ n q.
        let ahead = each (λ j. one (test j) (make j)) (places_from n l (past l i)) in
        (rw (whole_of l i s.inside) at q) ∙ sym (append_assoc (of c) (one (test i) (make i)) ahead) ∙ ap (λ (x : List A). x ++ ahead) (sym (ap of b ∙ step c i s)))

    pub gathered : (d : Contents) → read f l ≡ answer d → of empty ≡ [] → of d ≡ each (λ j. one (test j) (make j)) (places l)
    unfolding places places_from
    gathered d h e =
        let first = walked_start l _ (ap (λ (x : List A). x ++ each (λ j. one (test j) (make j)) (places l)) (sym e)) in
        let q = (read_along f l Gathering gathering_more d first h).0.same in
        sym ((rw (whole-none l (length l) (omega arith)) at q) ∙ append-nil (of d))

  module _ (d : Contents) (h : read f l ≡ answer d) where
    pub trains_decoded : d.trains ≡ each (λ i. one (eqb (byte l i) 4) (train_of i (body_at l i))) (places l)
    unfolding more
    trains_decoded = gathered (λ c. c.trains) (λ i. eqb (byte l i) 4) (λ i. train_of i (body_at l i)) (λ c i s. rw (is-tag train (byte l i) (omega arith))) d h refl
