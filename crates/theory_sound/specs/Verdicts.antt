-- An accepted field breaks no rule: what a verdict of 0 says of each rule, and what an answer says of the steps before it.
-- Each law is by cases on the first rule, the verdict or the result. Assumes nothing.
use Rattle.std.specs.Prelude.{◌≡◌, refl, Bool, true, false, List, [], ◌∷◌, ℕ, zero, suc, ◌+◌, ◌-◌, ◌≤◌, ◌<◌, length, drop}
use Rattle.std.proofs.Common.{sym, ap, arith, length-drop, ltb-false, leb-false}
use Rattle.std.proofs.lemmas.Bool.{not-false}
use Rattle.rules.specs.Lists.{has}
use Rattle.rules.specs.Refusals.{Fault, number, Rule, first_of, verdict, Refusal, Spot, Result, then, answer_unless}
use Rattle.rules.specs.Refusals.Fault.{overrun, unknown_tag, misplaced, wrong_length, wrong_count, out_of_range, wrong_ends, wrong_path, wrong_times, wrong_table, no_table, no_room, too_short, wrong_choice, no_train, stop_too_late, wrong_couple}
use Rattle.rules.specs.Refusals.Result.{refused, answer}
use Rattle.rules.specs.Files.{File, Contents, kind, known, in_place, lengths, most, how_many, size, body, body_rules, field_rules, more}
use Rattle.theory_lists.specs.Every.{Every}

-- ---- refusals and answers

pub refused-answer : {A : Type 0} (r : Refusal) (a : A) → refused r ≡ answer a → ⊥
refused-answer r a e =
    let z : ◌≡◌ {A = ℕ} 0 1 = cc in
    omega arith

pub answer-answer : {A : Type 0} (a b : A) → answer a ≡ answer b → a ≡ b
answer-answer a b e = cc

pub then-answer : {A B : Type 0} (r : Result A) (go : A → Result B) (b : B) → then r go ≡ answer b
    → (a : A) × (r ≡ answer a) × (go a ≡ answer b)
then-answer (refused r) go b h = absurd (refused-answer r b h)
then-answer (answer a) go b h = (a, refl, h)

pub unless_answer : {A : Type 0} (n : ℕ) (s : Spot) (a b : A) → answer_unless n s a ≡ answer b → (n ≡ 0) × (a ≡ b)
unless_answer zero s a b h = (refl, answer-answer a b h)
unless_answer (suc n) s a b h = absurd (refused-answer _ b h)

-- and of what goes on from there
pub onward-answer : {A B : Type 0} (n : ℕ) (s : Spot) (a : A) (go : A → Result B) (b : B) → then (answer_unless n s a) go ≡ answer b
    → (n ≡ 0) × (go a ≡ answer b)
onward-answer zero s a go b h = (refl, h)
onward-answer (suc n) s a go b h = absurd (refused-answer _ b h)

pub refused-refused : {A : Type 0} (r s : Refusal) → ◌≡◌ {A = Result A} (refused r) (refused s) → r ≡ s
refused-refused r s e = cc

pub unless_refused : {A : Type 0} (n : ℕ) (s : Spot) (a : A) (r : Refusal) → answer_unless n s a ≡ refused r
    → (1 ≤ n) × (record { number = n; file = s.file; place = s.place } ≡ r)
unless_refused zero s a r h = absurd (refused-answer r a (sym h))
unless_refused (suc n) s a r h = (omega arith, refused-refused _ r h)

-- a refusal is the verdict's, or comes from what goes on
pub onward-refused : {A B : Type 0} (X : Type 0) (n : ℕ) (s : Spot) (a : A) (go : A → Result B) (r : Refusal) → then (answer_unless n s a) go ≡ refused r
    → (n ≡ 0 → go a ≡ refused r → X) → (1 ≤ n → record { number = n; file = s.file; place = s.place } ≡ r → X) → X
onward-refused X zero s a go r h on off = on refl h
onward-refused X (suc n) s a go r h on off = off (omega arith) (refused-refused _ r h)

-- a refusal is the first step's, or comes from the second
pub then-refused : {A B : Type 0} (X : Type 0) (s : Result A) (go : A → Result B) (r : Refusal) → then s go ≡ refused r
    → ((a : A) → s ≡ answer a → go a ≡ refused r → X) → (s ≡ refused r → X) → X
then-refused X (refused q) go r h on off = off (ap refused (refused-refused q r h))
then-refused X (answer a) go r h on off = on a refl h

-- ---- rules

-- a number that a refusal can have: 0 says that nothing was refused, and 13 is retired (request 10 of 02)
abbrev pub Given : ℕ → Type 0
Given n = (1 ≤ n) × (n ≡ 13 → ⊥)

pub number-given : (f : Fault) → Given (number f)
number-given overrun = (omega arith, λ e. omega arith)
number-given unknown_tag = (omega arith, λ e. omega arith)
number-given misplaced = (omega arith, λ e. omega arith)
number-given wrong_length = (omega arith, λ e. omega arith)
number-given wrong_count = (omega arith, λ e. omega arith)
number-given out_of_range = (omega arith, λ e. omega arith)
number-given wrong_ends = (omega arith, λ e. omega arith)
number-given wrong_path = (omega arith, λ e. omega arith)
number-given wrong_times = (omega arith, λ e. omega arith)
number-given wrong_table = (omega arith, λ e. omega arith)
number-given no_table = (omega arith, λ e. omega arith)
number-given no_room = (omega arith, λ e. omega arith)
number-given too_short = (omega arith, λ e. omega arith)
number-given wrong_choice = (omega arith, λ e. omega arith)
number-given no_train = (omega arith, λ e. omega arith)
number-given stop_too_late = (omega arith, λ e. omega arith)
number-given wrong_couple = (omega arith, λ e. omega arith)

-- 0 is the number of no refusal
number-some : (f : Fault) → 1 ≤ number f
number-some overrun = omega arith
number-some unknown_tag = omega arith
number-some misplaced = omega arith
number-some wrong_length = omega arith
number-some wrong_count = omega arith
number-some out_of_range = omega arith
number-some wrong_ends = omega arith
number-some wrong_path = omega arith
number-some wrong_times = omega arith
number-some wrong_table = omega arith
number-some no_table = omega arith
number-some no_room = omega arith
number-some too_short = omega arith
number-some wrong_choice = omega arith
number-some no_train = omega arith
number-some stop_too_late = omega arith
number-some wrong_couple = omega arith

-- no rule is broken
abbrev pub Unbroken : List Rule → Type 0
Unbroken rs = Every (λ r. r.broken ≡ false) rs

pub verdict-unbroken : (rs : List Rule) → verdict rs ≡ 0 → Unbroken rs
verdict-unbroken [] h = tt
verdict-unbroken (r ∷ rs) h = go r.broken h (verdict-unbroken rs)
  where
    go : (b : Bool) → first_of b (number r.fault) (verdict rs) ≡ 0 → (verdict rs ≡ 0 → Unbroken rs) → (b ≡ false) × Unbroken rs
    go true h i = absurd (omega (arith, number-some r.fault))
    go false h i = (refl, i h)

-- what holds of 0 and of the number of each rule holds of the verdict
pub verdict_every : (P : ℕ → Type 0) (rs : List Rule) → P 0 → Every (λ r. P (number r.fault)) rs → P (verdict rs)
verdict_every P [] z e = z
verdict_every P (r ∷ rs) z e = go r.broken (verdict_every P rs z e.1)
  where
    go : (b : Bool) → P (verdict rs) → P (first_of b (number r.fault) (verdict rs))
    go true h = e.0
    go false h = h

-- ---- a field

-- the offset past the field at the front of the bytes, and the bytes there
abbrev pub past : ℕ → List ℕ → ℕ
past at l = at + (3 + size l)

abbrev pub rest : List ℕ → List ℕ
rest l = drop (3 + size l) l

pub length_rest : (l : List ℕ) → length (rest l) ≡ length l - (3 + size l)
length_rest l = length-drop (3 + size l) l

-- what the file holds with the field
abbrev pub with_field : Contents → ℕ → List ℕ → Contents
with_field c at l = more c at (kind l) (body l)

-- what is known of an accepted field at offset `at`, where the bytes l stand
pub record Field (f : File) (c : Contents) (at : ℕ) (l : List ℕ) : Type 0 where
  pub a_tag : known (kind l) ≡ true
  pub stands_in_place : in_place f c (kind l) ≡ true
  pub a_length : has (lengths (kind l)) (size l) ≡ true
  pub whole : 3 + size l ≤ length l
  pub not_full : how_many c (kind l) < most (kind l)
  pub unbroken : Unbroken (body_rules c at (kind l) (body l))

pub field-accepted : (f : File) (c : Contents) (at : ℕ) (l : List ℕ) → verdict (field_rules f c at l) ≡ 0 → Field f c at l
unfolding field_rules
field-accepted f c at l h =
    let e = verdict-unbroken (field_rules f c at l) h in
    record {
      a_tag = not-false (known (kind l)) e.1.0;
      stands_in_place = not-false (in_place f c (kind l)) e.1.1.0;
      a_length = not-false (has (lengths (kind l)) (size l)) e.1.1.1.0;
      whole = ltb-false (length l) (3 + size l) e.1.1.1.1.0;
      not_full = leb-false (most (kind l)) (how_many c (kind l)) e.1.1.1.1.1.0;
      unbroken = e.1.1.1.1.1.1;
    }
