-- What stands past the first 964 bytes of a file never changes what is read, so neither does what stands past the 4,096 that are handed on.
-- A field that is accepted begins at 919 at the most, and what decides on it are its length, if that is impossible, or its 45 bytes. Assumes nothing.
use Rattle.std.specs.Prelude.{◌≡◌, Bool, not, List, [], ◌∷◌, ℕ, zero, suc, ◌+◌, ◌-◌, ◌*◌, ◌≤◌, ◌<◌, length, take, drop, leb, ltb}
use Rattle.std.proofs.Math.Path.{refl, ap}
use Rattle.std.proofs.Common.{sym, ◌∙◌, zero-add, suc-add, arith, length-take, take-take, get_or-take, ltb-true, ltb-false, lt-ltb, le-ltb}
use Rattle.std.proofs.Math.Bool.{true, false}
use Rattle.std.proofs.Math.Seq.{take-nil}
use Rattle.std.proofs.lemmas.Bool.{not-false}
use Rattle.rules.specs.Lists.{has}
use Rattle.rules.specs.Refusals.{Rule, ◌when◌, verdict, Result, then, answer_unless}
use Rattle.rules.specs.Refusals.Fault.{overrun, unknown_tag, misplaced, wrong_length, wrong_count}
use Rattle.rules.specs.Files.{File, Kind, kind_of, spot, Contents, byte, kind, known, in_place, lengths, most, how_many, body_rules, size, body, field_rules, more, read_field, read_fields, empty, read}
use Rattle.rules.specs.Files.Kind.{head, station, track, train, table, couple, no_field}
use Rattle.theory_lists.specs.Every.{Every, has_every}
use Rattle.theory_sound.specs.Verdicts.{Field, field-accepted, past, rest, with_field}
use Rattle.theory_sound.specs.Bounds.{Within, within-empty, within-bytes, within_more, turns_suffice}

-- ---- a list and its beginning

-- the beginning of w elements is too short for k where the list is
ltb-take : (w k : ℕ) (l : List ℕ) → k ≤ w → ltb (length (take w l)) k ≡ ltb (length l) k
ltb-take w k l h = go (ltb (length l) k) refl
  where
    go : (b : Bool) → ltb (length l) k ≡ b → ltb (length (take w l)) k ≡ b
    go true e = lt-ltb (length (take w l)) k (omega (arith, length-take w l, ltb-true (length l) k e))
    go false e = le-ltb (length (take w l)) k (omega (arith, length-take w l, ltb-false (length l) k e))

drop-take : (k w : ℕ) (l : List ℕ) → drop k (take (k + w) l) ≡ take w (drop k l)
drop-take zero w l = ap (λ (n : ℕ). take n l) (zero-add w)
drop-take (suc k) w [] = ap (λ (m : List ℕ). drop (suc k) m) (take-nil (suc k + w)) ∙ sym (take-nil w)
drop-take (suc k) w (a ∷ l) = ap (λ (n : ℕ). drop (suc k) (take n (a ∷ l))) (suc-add k w) ∙ drop-take k w l

drop-take-less : (k w : ℕ) (l : List ℕ) → k ≤ w → drop k (take w l) ≡ take (w - k) (drop k l)
drop-take-less k w l h = ap (λ (n : ℕ). drop k (take n l)) (sum_back h) ∙ drop-take k (w - k) l
  where
    sum_back : k ≤ w → w ≡ k + (w - k)
    sum_back h = omega arith

-- ---- a field and its beginning

-- no possible length is above 42
lengths-small : (k : Kind) (n : ℕ) → has (lengths k) n ≡ true → n ≤ 42
unfolding lengths
lengths-small k n h = has_every Small (lengths k) n (small k) h
  where
    Small : ℕ → Type 0
    Small m = m ≤ 42

    small : (k : Kind) → Every Small (lengths k)
    small no_field = tt
    small head = omega arith
    small station = omega arith
    small track = omega arith
    small train = omega arith
    small table = omega arith
    small couple = omega arith

module _ (f : File) (c : Contents) (at w : ℕ) (l : List ℕ) (h : 45 ≤ w) where
  byte-take : (i : ℕ) → i < w → byte (take w l) i ≡ byte l i
  byte-take i b = get_or-take w l i 0 b

  size-take : size (take w l) ≡ size l
  size-take i = byte-take 1 (omega arith) i * 256 + byte-take 2 (omega arith) i

  body-take : size l ≤ 42 → body (take w l) ≡ body l
  body-take s =
      ap (λ (n : ℕ). take n (drop 3 (take w l))) size-take
      ∙ ap (λ (m : List ℕ). take (size l) m) (drop-take-less 3 w l (omega arith))
      ∙ take-take (size l) (w - 3) (drop 3 l) (omega arith)

  -- the rules of a field, by what they look at
  rules : Bool → Kind → Bool → Bool → List ℕ → List Rule
  rules cut k impossible short b =
      overrun when cut
      ∷ unknown_tag when not (known k)
      ∷ misplaced when not (in_place f c k)
      ∷ wrong_length when impossible
      ∷ overrun when short
      ∷ wrong_count when leb (most k) (how_many c k)
      ∷ body_rules c at k b

  abbrev impossible : List ℕ → Bool
  impossible m = not (has (lengths (kind m)) (size m))

  abbrev short : List ℕ → Bool
  short m = ltb (length m) (3 + size m)

  cut-take : ltb (length (take w l)) 3 ≡ ltb (length l) 3
  cut-take = ltb-take w 3 l (omega arith)

  kind-take : kind (take w l) ≡ kind l
  kind-take = ap kind_of (byte-take 0 (omega arith))

  impossible-take : impossible (take w l) ≡ impossible l
  impossible-take i = not (has (lengths (kind-take i)) (size-take i))

  short-take : size l ≤ 42 → short (take w l) ≡ short l
  short-take s = ap (λ (n : ℕ). ltb (length (take w l)) (3 + n)) size-take ∙ ltb-take w (3 + size l) l (omega arith)

  -- an impossible length decides on the field, whatever stands behind it
  verdict-take : verdict (field_rules f c at (take w l)) ≡ verdict (field_rules f c at l)
  unfolding field_rules rules
  verdict-take = go (impossible l) refl
    where
      go : (b : Bool) → impossible l ≡ b → verdict (field_rules f c at (take w l)) ≡ verdict (field_rules f c at l)
      go true e =
          ap verdict (λ i. rules (cut-take i) (kind-take i) ((impossible-take ∙ e) i) (short (take w l)) (body (take w l)))
          ∙ ap verdict (λ i. rules (ltb (length l) 3) (kind l) (sym e i) (short l) (body l))
      go false e =
          let s = lengths-small (kind l) (size l) (not-false (has (lengths (kind l)) (size l)) e) in
          ap verdict (λ i. rules (cut-take i) (kind-take i) (impossible-take i) (short-take s i) (body-take s i))

-- ---- the reading of the beginning

-- from offset `at` on, of a file of which at least 964 bytes are handed on
read_fields-window : (n at w : ℕ) (f : File) (l : List ℕ) (c : Contents) → Within at c → 964 ≤ at + w
    → read_fields n f at (take w l) c ≡ read_fields n f at l c
unfolding read_fields read_field
read_fields-window zero at w f l c p h = refl
read_fields-window (suc n) at w f [] c p h = ap (λ (m : List ℕ). read_fields (suc n) f at m c) (take-nil w)
read_fields-window (suc n) at zero f (b ∷ l) c p h = absurd (omega (arith, within-bytes at c p))
read_fields-window (suc n) at (suc w) f (b ∷ l) c p h =
    ap (λ (v : ℕ). then (answer_unless v (spot f at) (now (b ∷ take w l))) (on (b ∷ take w l))) (verdict-take f c at (suc w) (b ∷ l) wide)
    ∙ go (verdict (field_rules f c at (b ∷ l))) (field-accepted f c at (b ∷ l))
    (read_fields-window n (past at (b ∷ l)) left f (rest (b ∷ l)) (now (b ∷ l)))
  where
    on : List ℕ → Contents → Result Contents
    on m = read_fields n f (past at m) (rest m)

    now : List ℕ → Contents
    now m = with_field c at m

    left : ℕ
    left = suc w - (3 + size (b ∷ l))

    wide : 45 ≤ suc w
    wide = omega (arith, within-bytes at c p)

    sized : size (b ∷ take w l) ≡ size (b ∷ l)
    sized = size-take f c at (suc w) (b ∷ l) wide

    go : (v : ℕ) → (v ≡ 0 → Field f c at (b ∷ l))
        → (Within (past at (b ∷ l)) (now (b ∷ l)) → 964 ≤ past at (b ∷ l) + left
        → read_fields n f (past at (b ∷ l)) (take left (rest (b ∷ l))) (now (b ∷ l)) ≡ on (b ∷ l) (now (b ∷ l)))
        → then (answer_unless v (spot f at) (now (b ∷ take w l))) (on (b ∷ take w l)) ≡ then (answer_unless v (spot f at) (now (b ∷ l))) (on (b ∷ l))
    go (suc v) e r = refl
    go zero e r =
        (λ i. read_fields n f (at + (3 + sized i)) (drop (3 + sized i) (b ∷ take w l)) (more c at (kind_of b) (body-take f c at (suc w) (b ∷ l) wide small i)))
        ∙ ap (λ (m : List ℕ). read_fields n f (past at (b ∷ l)) m (now (b ∷ l)))
        (drop-take-less (3 + size (b ∷ l)) (suc w) (b ∷ l) (omega (arith, small, wide)))
        ∙ r (within_more f c at (b ∷ l) (e refl) p) (omega (arith, small, wide, h))
      where
        small : size (b ∷ l) ≤ 42
        small = lengths-small (kind_of b) (size (b ∷ l)) (e refl).a_length

pub read-window : (w : ℕ) (f : File) (l : List ℕ) → 964 ≤ w → read f (take w l) ≡ read f l
unfolding read
read-window w f l h =
    sym (turns_suffice (suc (length l)) f (take w l) (omega (arith, length-take w l)))
    ∙ read_fields-window (suc (length l)) 0 w f l empty within-empty (omega arith)
