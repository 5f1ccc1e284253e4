-- The viewer and the reader agree on what a field is. Of an accepted file the viewer gives the fields that were read, one after another, and then
-- says that the file has ended; a refused file is refused at a place that the viewer reaches by fields, and where it is refused with 1 the viewer
-- gives refusal 1. By induction on the turns of the reading: a field that breaks no rule is whole. Assumes nothing.
use Rattle.std.specs.Prelude.{◌≡◌, Bool, not, ◌&&◌, List, [], ◌∷◌, drop, ltb}
use Rattle.std.proofs.Math.Path.{refl, ap, sym}
use Rattle.std.proofs.Common.{◌∙◌, arith, drop_of_length-le}
use Rattle.std.proofs.Math.Bool.{true, false}
use Rattle.std.proofs.lemmas.Bool.{false≢true}
use Prim.Native.Nat.{ℕ, zero, suc, ◌+◌, ◌≤◌, ◌<◌}
use Rattle.std.proofs.Math.ListN.{length, length-drop}
use Rattle.std.proofs.Math.Dec.{leb}
use borrow.Author.Tests.{leb-true, leb-false, ltb-true}
use Rattle.rules.specs.Lists.{has}
use Rattle.rules.specs.Refusals.{Rule, Refusal, number, first_of, verdict}
use Rattle.rules.specs.Refusals.Fault.{overrun}
use Rattle.rules.specs.Refusals.Result.{refused, answer}
use Rattle.rules.specs.Files.{File, file_number, spot, Contents, Kind, kind_of, byte, word, kind, size, body, known, in_place, lengths, most, how_many, head_rules, station_rules, track_rules, train_rules, table_rules, couple_rules, body_rules, field_rules, more, end_rules, read_field, read_fields, empty, read}
use Rattle.rules.specs.Files.File.{case, book}
use Rattle.rules.specs.Files.Kind.{head, station, track, train, table, couple, no_field}
use Rattle.theory_sound.specs.Verdicts.{refused-answer, answer-answer, unless_answer, onward-answer, unless_refused, onward-refused, field-accepted}
use Rattle.theory_sound.specs.Verdicts.{Field as Accepted}
use Rattle.rules.specs.Viewer.{View, refusal_of, viewed, next_place, place_from}
use Rattle.rules.specs.Viewer.View.{field, ended, overruns}
use Rattle.file_fields.specs.Fields.{past, whole}
use Rattle.file_fields.specs.At.{size-here, body_here, read_here, whole_of, viewed-ended, viewed-overrun, viewed-field}
use Rattle.file_viewer.specs.Viewing.{with_given, held_from}

-- ---- the statements

-- a viewer at i gives a field each of the next n times
abbrev pub Gives : List ℕ → ℕ → ℕ → Type 0
Gives l i n = (k : ℕ) → k < n → whole l (place_from k l i) ≡ true

-- a viewer at i gives some fields and then the end; with these fields what c has becomes what d has
pub record ToTheEnd (l : List ℕ) (i : ℕ) (c d : Contents) : Type 0 where
  pub many : ℕ
  pub fields : Gives l i many
  pub to_end : viewed l (place_from many l i) ≡ ended
  pub holds : held_from many l i c ≡ d

-- a viewer at i gives some fields and stands then at the refusal's place; if it is refusal 1, that is what the viewer gives there
pub record Stopped (l : List ℕ) (i : ℕ) (r : Refusal) : Type 0 where
  pub many : ℕ
  pub fields : Gives l i many
  pub place : place_from many l i ≡ r.place
  pub one : r.number ≡ number overrun → refusal_of (viewed l r.place) ≡ r.number

-- ---- the field at a place

-- a viewer at i gives a field
abbrev WholeHere : List ℕ → ℕ → Type 0
WholeHere l i = (viewed l i ≡ field (byte l i) (word l (i + 1)) (past l i)) × (whole l i ≡ true)

-- a field that breaks no rule is whole
whole_here : (l : List ℕ) (i : ℕ) (f : File) (c : Contents) → Accepted f c i (drop i l) → i < length l → WholeHere l i
whole_here l i f c a h =
    let y : past l i ≤ length l = omega (arith, length-drop i l, size-here l i, a.whole) in
    (viewed-field l i y, whole_of l i y)

-- ---- which rules give refusal 1

-- no rule of the list has the number 1
abbrev no_one : List Rule → Bool
no_one [] = true
no_one (r ∷ rs) = ltb 1 (number r.fault) && no_one rs

verdict_no_one : (rs : List Rule) → no_one rs ≡ true → verdict rs ≡ 1 → ⊥
verdict_no_one [] h v = omega arith
verdict_no_one (r ∷ rs) h v = go (ltb 1 (number r.fault)) r.broken refl h v (verdict_no_one rs)
  where
    go : (a b : Bool) → ltb 1 (number r.fault) ≡ a → a && no_one rs ≡ true → first_of b (number r.fault) (verdict rs) ≡ 1 → (no_one rs ≡ true → verdict rs ≡ 1 → ⊥) → ⊥
    go true true e h v ih = let p = ltb-true 1 (number r.fault) e in omega arith
    go true false e h v ih = ih h v
    go false b e h v ih = false≢true h

body_no_one : (c : Contents) (at : ℕ) (k : Kind) (b : List ℕ) → no_one (body_rules c at k b) ≡ true
unfolding body_rules head_rules station_rules track_rules train_rules table_rules couple_rules
body_no_one c at no_field b = refl
body_no_one c at head b = refl
body_no_one c at station b = refl
body_no_one c at track b = refl
body_no_one c at train b = refl
body_no_one c at table b = refl
body_no_one c at couple b = refl

end_no_one : (f : File) (c : Contents) → no_one (end_rules f c) ≡ true
unfolding end_rules
end_no_one case c = refl
end_no_one book c = refl

-- refusal 1 is a header or a body that runs past the end
one-overruns : (f : File) (c : Contents) (at : ℕ) (m : List ℕ) → verdict (field_rules f c at m) ≡ 1 → length m < 3 + size m
unfolding field_rules
one-overruns f c at m h = go (ltb (length m) 3) (not (known (kind m))) (not (in_place f c (kind m))) (not (has (lengths (kind m)) (size m))) (ltb (length m) (3 + size m)) (leb (most (kind m)) (how_many c (kind m))) refl refl h
  where
    go : (p q r s t u : Bool) → ltb (length m) 3 ≡ p → ltb (length m) (3 + size m) ≡ t
        → first_of p 1 (first_of q 2 (first_of r 3 (first_of s 4 (first_of t 1 (first_of u 5 (verdict (body_rules c at (kind m) (body m)))))))) ≡ 1 → length m < 3 + size m
    go true q r s t u e o h = let a = ltb-true (length m) 3 e in omega arith
    go false true r s t u e o h = absurd (omega arith)
    go false false true s t u e o h = absurd (omega arith)
    go false false false true t u e o h = absurd (omega arith)
    go false false false false true u e o h = ltb-true (length m) (3 + size m) o
    go false false false false false true e o h = absurd (omega arith)
    go false false false false false false e o h = absurd (verdict_no_one (body_rules c at (kind m) (body m)) (body_no_one c at (kind m) (body m)) h)

-- ---- one field more

-- a field at i, and then what a viewer past it gives
gives_onward : (l : List ℕ) (i n : ℕ) → WholeHere l i → Gives l (past l i) n → Gives l i (suc n)
unfolding place_from
gives_onward l i n w g zero b = w.1
gives_onward l i n w g (suc k) b = ap (λ (a : View). whole l (place_from k l (next_place i a))) w.0 ∙ g k (omega arith)

-- ---- the reading, field by field

module _ (f : File) (l : List ℕ) (d : Contents) where
  onward-to-the-end : (i : ℕ) (c : Contents) → WholeHere l i → ToTheEnd l (past l i) (more c i (kind_of (byte l i)) (body_here l i)) d → ToTheEnd l i c d
  unfolding place_from held_from
  onward-to-the-end i c w t = record {
    many = suc t.many;
    fields = gives_onward l i t.many w t.fields;
    to_end = ap (λ (a : View). viewed l (place_from t.many l (next_place i a))) w.0 ∙ t.to_end;
    holds = ap (λ (a : View). held_from t.many l (next_place i a) (with_given l i c a)) w.0 ∙ t.holds;
  }

  to_the_end : (n i : ℕ) (c : Contents) → length l < i + n → read_fields n f i (drop i l) c ≡ answer d → ToTheEnd l i c d
  unfolding read_fields read_field place_from held_from
  to_the_end zero i c h r =
      record { many = 0; fields = λ k b. absurd (omega arith); to_end = viewed-ended l i (omega arith); holds = answer-answer c d r }
  to_the_end (suc n) i c h r = go (leb (length l) i) refl (to_the_end n)
    where
      go : (b : Bool) → leb (length l) i ≡ b
          → ((j : ℕ) (e : Contents) → length l < j + n → read_fields n f j (drop j l) e ≡ answer d → ToTheEnd l j e d) → ToTheEnd l i c d
      go true e ih =
          let o = leb-true (length l) i e in
          let u = unless_answer (verdict (end_rules f c)) (spot f i) c d (rw (drop_of_length-le l o) at r) in
          record { many = 0; fields = λ k b. absurd (omega arith); to_end = viewed-ended l i o; holds = u.1 }
      go false e ih =
          let o = leb-false (length l) i e in
          let u = onward-answer (verdict (field_rules f c i (drop i l))) (spot f i) _ _ d (sym (read_here l i (read_fields n f) f c o) ∙ r) in
          onward-to-the-end i c (whole_here l i f c (field-accepted f c i (drop i l) u.0) o) (ih (past l i) _ (omega arith) u.1)

module _ (f : File) (l : List ℕ) (r : Refusal) where
  onward-stopped : (i : ℕ) → WholeHere l i → Stopped l (past l i) r → Stopped l i r
  unfolding place_from
  onward-stopped i w t = record {
    many = suc t.many;
    fields = gives_onward l i t.many w t.fields;
    place = ap (λ (a : View). place_from t.many l (next_place i a)) w.0 ∙ t.place;
    one = t.one;
  }

  stopped-here : (i n : ℕ) → ◌≡◌ {A = Refusal} (record { number = n; file = file_number f; place = i }) r → (n ≡ 1 → viewed l i ≡ overruns) → Stopped l i r
  unfolding place_from
  stopped-here i n e o =
      let p : i ≡ r.place = ap (λ (q : Refusal). q.place) e in
      let m : n ≡ r.number = ap (λ (q : Refusal). q.number) e in
      record { many = 0; fields = λ k b. absurd (omega arith); place = p; one = λ z. ap (λ (j : ℕ). refusal_of (viewed l j)) (sym p) ∙ ap refusal_of (o (m ∙ z)) ∙ sym z }

  stopped : (n i : ℕ) (c : Contents) → read_fields n f i (drop i l) c ≡ refused r → Stopped l i r
  unfolding read_fields read_field
  stopped zero i c q = absurd (refused-answer r c (sym q))
  stopped (suc n) i c q = go (leb (length l) i) refl (stopped n)
    where
      go : (b : Bool) → leb (length l) i ≡ b → ((j : ℕ) (e : Contents) → read_fields n f j (drop j l) e ≡ refused r → Stopped l j r) → Stopped l i r
      go true e ih =
          let u = unless_refused (verdict (end_rules f c)) (spot f i) c r (rw (drop_of_length-le l (leb-true (length l) i e)) at q) in
          stopped-here i (verdict (end_rules f c)) u.1 (λ z. absurd (verdict_no_one (end_rules f c) (end_no_one f c) z))
      go false e ih =
          let o = leb-false (length l) i e in
          onward-refused (Stopped l i r) (verdict (field_rules f c i (drop i l))) (spot f i) _ _ r (sym (read_here l i (read_fields n f) f c o) ∙ q)
          (λ v a. onward-stopped i (whole_here l i f c (field-accepted f c i (drop i l) v) o) (ih (past l i) _ a))
          (λ v a. stopped-here i _ a (λ z.
          let m = one-overruns f c i (drop i l) z in
          let p = length-drop i l in
          let s = size-here l i in
          viewed-overrun l i o (omega arith)))

-- what an accepted file holds are the fields that a viewer gives, one after another, and then the file has ended
pub read-viewed : (f : File) (l : List ℕ) (c : Contents) → read f l ≡ answer c → ToTheEnd l 0 empty c
unfolding read
read-viewed f l c r = to_the_end f l c (suc (length l)) 0 empty (omega arith) r

-- a file is refused at a place that a viewer reaches by giving fields; where the reader gives refusal 1, so does the viewer
pub refused-viewed : (f : File) (l : List ℕ) (r : Refusal) → read f l ≡ refused r → Stopped l 0 r
unfolding read
refused-viewed f l r q = stopped f l r (suc (length l)) 0 empty q
