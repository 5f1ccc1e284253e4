-- What the small state of a reading says of the contents read so far, and that the verdict on the next field is then that of 01's rules:
-- each rule speaks of the contents only through counts, the last minute, the tracks and the types, which the state has too. Assumes nothing.
use Rattle.std.specs.Prelude.{◌≡◌, refl, Bool, true, false, cond, not, ◌&&◌, ◌||◌, List, ℕ, zero, suc, ◌+◌, ◌-◌, ◌*◌, ◌/◌, ◌≤◌, ◌<◌, length, get_or, take, drop, leb, ltb, eqb}
use Rattle.std.proofs.Common.{ap, ◌∙◌, arith, length-drop, get_or-take, length-take-le}
use Rattle.std.proofs.Math.Path.{sym}
use Rattle.std.proofs.Math.Seq.{drop-drop}
use borrow.Author.Tests.{lt-ltb, le-ltb, eq-eqb, ne_eqb, ltb-true, ltb-false, leb-true, leb-false, eqb-true, eqb-false, not-false}
use Rattle.rules.specs.Lists.{any, has}
use Rattle.rules.specs.Refusals.{verdict, first_of}
use Rattle.rules.specs.Files.{File, Head, Contents, kind_of, head_of, track_of, couple_of, byte, word, known, in_place, most, how_many, leads, track_at, coupled, couple_rules, body_rules, field_rules}
use Rattle.rules.specs.Files.File.{case, book}
use Rattle.theory_lists.specs.Tests.{or_false-first, or_false-second}
use Rattle.theory_sound.specs.Kinds.{rank-tag}
use Rattle.file_fields.specs.At.{byte-drop, word-drop, length_part, tag-here, size-here}
use Rattle.file_bodies.specs.Bodies.{ends, joined, in_couple, taken, first_couple, couple_verdict, bad_length}
use Rattle.file_bodies.specs.Search.{any_same}
use Rattle.file_bodies.specs.Agree.{head_agrees, station_agrees, track_agrees, train_agrees, table_agrees, couple_agrees, length_agrees}
use Rattle.file_reader.specs.declared.Seen.{Seen}
use Rattle.file_reader.specs.Reading.{out_of_place, too_many, frame_verdict, base, body_verdict, or_else, tag_of, size_of, body_of, field_verdict}
use Rattle.file_reader.specs.Facts.{Within}
use Rattle.file_reader.specs.Laws.{Framed, six, train-length, train-stops, table_only}
use Rattle.file_reader.specs.Places.{Placed, heads-first}

abbrev pub is_book : File → Bool
is_book case = false
is_book book = true

-- of a case: head, stations and tracks stand where the counts say, one of the tracks leads from here to there where one of the fields does, and a track
-- is coupled where one of the last fields has it
pub record InCase (l : List ℕ) (s : Seen) (c : Contents) : Type 0 where
  pub placed : Placed s
  pub unheaded : s.tag ≡ 0 → s.heads ≡ 0
  pub untouched : s.tag ≡ 0 → s.at ≡ 0
  pub reached : base s + 6 * s.counts.tracks ≤ s.at
  pub head_stands : (s.heads ≡ 0 → ⊥) → head_of (drop 3 l) ≡ c.head
  pub stations_stand : (j : ℕ) → j < s.counts.stations → byte l (11 + 4 * j) ≡ get_or c.stations j 0
  pub tracks_stand : (j : ℕ) → j < s.counts.tracks → track_of (drop (base s + 6 * j + 3) l) ≡ track_at c j
  pub tracks_lead : (from to : ℕ) → joined l (base s) s.counts.tracks from to ≡ any (leads from to) c.tracks
  pub couples_stand : (t : ℕ) → taken l (s.at - 5 * s.counts.couples) s.counts.couples t ≡ has (coupled c.couples) t

abbrev pub OfFile : File → List ℕ → Seen → Contents → Type 0
OfFile case l s c = InCase l s c
OfFile book l s c = Unit {0}

-- the state s of the reading of l has seen the contents c
pub record Holds (f : File) (l : List ℕ) (s : Seen) (c : Contents) : Type 0 where
  pub same_rank : c.rank ≡ s.tag
  pub stations : length c.stations ≡ s.counts.stations
  pub tracks : length c.tracks ≡ s.counts.tracks
  pub trains : length c.trains ≡ s.counts.trains
  pub tables : length c.tables ≡ s.counts.tables
  pub couples : length c.couples ≡ s.counts.couples
  pub types : (x : ℕ) → any (λ e. leb x e.type) c.tables ≡ cond (eqb s.counts.tables 0) false (leb x s.kind)
  pub is_of_file : OfFile f l s c

-- ---- tests of the frame

known_agrees : (tag : ℕ) → not (known (kind_of tag)) ≡ eqb tag 0 || ltb 6 tag
unfolding known kind_of
known_agrees zero = refl
known_agrees (suc zero) = refl
known_agrees (suc (suc zero)) = refl
known_agrees (suc (suc (suc zero))) = refl
known_agrees (suc (suc (suc (suc zero)))) = refl
known_agrees (suc (suc (suc (suc (suc zero))))) = refl
known_agrees (suc (suc (suc (suc (suc (suc zero)))))) = refl
known_agrees (suc (suc (suc (suc (suc (suc (suc n))))))) =
    let t : ℕ = suc (suc (suc (suc (suc (suc (suc n)))))) in
    rw (ne_eqb t 0 (λ q. omega arith), lt-ltb 6 t (omega arith))

not_least : (a b : ℕ) → not (leb a b) ≡ ltb b a
not_least a b = go (leb a b) refl
  where
    go : (x : Bool) → leb a b ≡ x → not x ≡ ltb b a
    go true e = sym (le-ltb b a (leb-true a b e))
    go false e = sym (lt-ltb b a (leb-false a b e))

pub same-zero : (a b : ℕ) → (a ≡ 0 → b ≡ 0) → (b ≡ 0 → a ≡ 0) → eqb a 0 ≡ eqb b 0
same-zero a b h k = go (eqb b 0) refl
  where
    go : (x : Bool) → eqb b 0 ≡ x → eqb a 0 ≡ x
    go true e = eq-eqb a 0 (k (eqb-true b 0 e))
    go false e = ne_eqb a 0 (λ q. eqb-false b 0 e (h q))

place_agrees : (f : File) (l : List ℕ) (s : Seen) (c : Contents) → Holds f l s c → (tag : ℕ) → tag ≤ 6 → not (in_place f c (kind_of tag)) ≡ out_of_place (is_book f) s tag
unfolding in_place out_of_place
place_agrees case l s c h tag t =
    let z : eqb s.tag 0 ≡ eqb s.heads 0 = same-zero s.tag s.heads h.is_of_file.unheaded h.is_of_file.placed.headed in
    rw (h.same_rank, z, rank-tag tag t, ← not_least s.tag tag) (go (eqb s.heads 0) (eqb tag 1) (leb s.tag tag))
  where
    go : (z t y : Bool) → not (cond z t (not t && y)) ≡ cond z (not t) (cond t true (not y))
    go true t y = refl
    go false true y = refl
    go false false y = refl
place_agrees book l s c h tag t = rw (rank-tag tag t)

count_agrees : (f : File) (l : List ℕ) (s : Seen) (c : Contents) → Holds f l s c → (tag : ℕ) → 1 ≤ tag → tag ≤ 6 → leb (most (kind_of tag)) (how_many c (kind_of tag)) ≡ too_many s tag
unfolding kind_of most how_many too_many
count_agrees f l s c h tag a b =
    six (λ t. leb (most (kind_of t)) (how_many c (kind_of t)) ≡ too_many s t) tag a b refl (rw h.stations) (rw h.tracks) (rw h.trains) (rw h.tables) (rw h.couples)

-- ---- the body

joined-take : (m : ℕ) (l : List ℕ) (base n from to : ℕ) → base + 6 * n ≤ m → joined (take m l) base n from to ≡ joined l base n from to
unfolding joined ends
joined-take m l base n from to h =
    any_same _ _ n (λ k p. rw (get_or-take m l (base + 6 * k + 3) 0 (omega arith), get_or-take m l (base + 6 * k + 4) 0 (omega arith)))

taken-take : (m : ℕ) (l : List ℕ) (first n t : ℕ) → first + 5 * n ≤ m → taken (take m l) first n t ≡ taken l first n t
unfolding taken in_couple
taken-take m l first n t h =
    any_same _ _ n (λ k p. rw (get_or-take m l (first + 5 * k + 3) 0 (omega arith), get_or-take m l (first + 5 * k + 4) 0 (omega arith)))

-- a track whose field stands before m
track-take : (m : ℕ) (l : List ℕ) (i : ℕ) → i + 3 ≤ m → track_of (drop i (take m l)) ≡ track_of (drop i l)
unfolding track_of
track-take m l i h =
    let here : (k : ℕ) → k < 3 → byte (drop i (take m l)) k ≡ byte (drop i l) k =
    λ k p. byte-drop (take m l) i k (i + k) refl ∙ get_or-take m l (i + k) 0 (omega arith) ∙ sym (byte-drop l i k (i + k) refl) in
    rw (here 0 (omega arith), here 1 (omega arith), here 2 (omega arith))

word-take : (m : ℕ) (l : List ℕ) (i : ℕ) → i + 2 ≤ m → word (take m l) i ≡ word l i
word-take m l i h = rw (get_or-take m l i 0 (omega arith), get_or-take m l (i + 1) 0 (omega arith))

minute-of : (l : List ℕ) (c : Contents) → head_of (drop 3 l) ≡ c.head → word (drop 3 l) 0 ≡ c.head.last_minute
unfolding head_of
minute-of l c h = ap (λ (a : Head). a.last_minute) h

couple-case : (l : List ℕ) (s : Seen) (c : Contents) → Holds case l s c → Within l s → (b : List ℕ)
    → couple_verdict (take s.at l) (base s) s.counts.tracks s.counts.couples b ≡ verdict (couple_rules c (couple_of b))
couple-case l s c h w b = couple_agrees c (take s.at l) (base s) s.counts.tracks s.counts.couples (sym h.tracks) stand known b
  where
    i : InCase l s c
    i = h.is_of_file

    stand : (j : ℕ) → j < s.counts.tracks → track_of (drop (base s + 6 * j + 3) (take s.at l)) ≡ track_at c j
    stand j k = track-take s.at l (base s + 6 * j + 3) (omega (arith, i.reached)) ∙ i.tracks_stand j k

    known : (t : ℕ) → taken (take s.at l) (first_couple (take s.at l) s.counts.couples) s.counts.couples t ≡ has (coupled c.couples) t
    known t =
        rw (length-take-le s.at l w.inside)
        (taken-take s.at l (s.at - 5 * s.counts.couples) s.counts.couples t (omega (arith, w.behind)) ∙ i.couples_stand t)

body_agrees : (f : File) (l : List ℕ) (s : Seen) (c : Contents) → Holds f l s c → Within l s → (tag n : ℕ) → Framed (length l) (is_book f) s tag n → (b : List ℕ) → length b ≡ n
    → body_verdict (take s.at l) s tag b ≡ verdict (body_rules c s.at (kind_of tag) b)
unfolding body_verdict body_rules kind_of
body_agrees case l s c h w tag n d b e =
    let i = h.is_of_file in
    let lead : (from to : ℕ) → joined (take s.at l) (base s) s.counts.tracks from to ≡ any (leads from to) c.tracks = λ from to. joined-take s.at l (base s) s.counts.tracks from to i.reached ∙ i.tracks_lead from to in
    six (λ t. out_of_place false s t ≡ false → bad_length t n ≡ false → body_verdict (take s.at l) s t b ≡ verdict (body_rules c s.at (kind_of t) b)) tag d.low d.high
    (λ p q. head_agrees b)
    (λ p q. station_agrees b)
    (λ p q. track_agrees c (take s.at l) (base s) s.counts.tracks s.counts.stations (sym h.stations) lead b)
    (λ p q.
    let z = heads-first s 4 p (λ y. omega arith) in
    let r = i.reached in
    let k = train-length n q in
    train_agrees c (take s.at l) (base s) s.counts.tracks s.counts.stations (sym h.stations) lead b (n / 5 - 1) s.at (word-take s.at l 3 (omega arith) ∙ sym (word-drop l 3 0 3 refl) ∙ minute-of l c (i.head_stands z)) (e ∙ train-stops n q))
    (λ p q. table_agrees c s.counts.tables s.kind h.types b)
    (λ p q. couple-case l s c h w b)
    d.placed d.possible
body_agrees book l s c h w tag n d b e = let t = table_only s tag d.placed in rw t (table_agrees c s.counts.tables s.kind h.types b)

-- ---- the field

first_on : (a b : Bool) (n x y : ℕ) → a ≡ b → (b ≡ false → x ≡ y) → first_of a n x ≡ cond b n y
first_on a true n x y e h = rw e
first_on a false n x y e h = rw e (h refl)

or_one : (b : Bool) (k x y : ℕ) → or_else (cond b (suc k) x) y ≡ cond b (suc k) (or_else x y)
or_one true k x y = refl
or_one false k x y = refl

or_two : (a b : Bool) (k x y : ℕ) → or_else (cond a (suc k) (cond b (suc k) x)) y ≡ cond (a || b) (suc k) (or_else x y)
or_two true b k x y = refl
or_two false true k x y = refl
or_two false false k x y = refl

-- the bytes left, held against a number, are the file's length held against a place
left_test : (l : List ℕ) (at n k : ℕ) → at ≤ length l → at + n ≡ k → ltb (length (drop at l)) n ≡ ltb (length l) k
left_test l at n k h e = go (ltb (length l) k) refl
  where
    go : (b : Bool) → ltb (length l) k ≡ b → ltb (length (drop at l)) n ≡ b
    go true p = let q = ltb-true (length l) k p in lt-ltb (length (drop at l)) n (omega (arith, length-drop at l))
    go false p = let q = ltb-false (length l) k p in le-ltb (length (drop at l)) n (omega (arith, length-drop at l))

module _ (f : File) (l : List ℕ) (s : Seen) (c : Contents) (h : Holds f l s c) (w : Within l s) where
  pub field_agrees : verdict (field_rules f c s.at (drop s.at l)) ≡ field_verdict (is_book f) l s
  unfolding field_rules field_verdict frame_verdict
  field_agrees =
      let t = tag_of l s in
      let n = size_of l s in
      let B = body_verdict (take s.at l) s (tag_of l s) (body_of l s) in
      rw (tag-here l s.at, size-here l s.at, drop-drop 3 s.at l)
      (first_on _ _ 1 _ _ (left_test l s.at 3 (s.at + 3) w.inside refl) (λ a.
      first_on _ _ 2 _ _ (known_agrees t) (λ u.
      let low = eqb-false t 0 (or_false-first (eqb t 0) (ltb 6 t) u) in
      let high = ltb-false 6 t (or_false-second (eqb t 0) (ltb 6 t) u) in
      first_on _ _ 3 _ _ (place_agrees f l s c h t high) (λ m.
      first_on _ _ 4 _ _ (length_agrees t n (not-false (known (kind_of t)) (known_agrees t ∙ u))) (λ q.
      first_on _ _ 1 _ _ (left_test l s.at (3 + n) (s.at + 3 + n) w.inside (omega arith)) (λ o.
      first_on _ _ 5 _ _ (count_agrees f l s c h t (omega arith) high) (λ r.
      let whole = ltb-false (length l) (s.at + 3 + n) o in
      sym (body_agrees f l s c h w t n (record { low = omega arith; high = high; placed = m; possible = q; whole = whole; room = r }) (body_of l s) (length_part l (s.at + 3) n whole)))
      ∙ sym (or_one (too_many s t) 4 0 B))
      ∙ sym (or_one (ltb (length l) (s.at + 3 + n)) 0 (cond (too_many s t) 5 0) B))
      ∙ sym (or_one (bad_length t n) 3 (cond (ltb (length l) (s.at + 3 + n)) 1 (cond (too_many s t) 5 0)) B))
      ∙ sym (or_one (out_of_place (is_book f) s t) 2 (cond (bad_length t n) 4 (cond (ltb (length l) (s.at + 3 + n)) 1 (cond (too_many s t) 5 0))) B))
      ∙ sym (or_two (eqb t 0) (ltb 6 t) 1 (cond (out_of_place (is_book f) s t) 3 (cond (bad_length t n) 4 (cond (ltb (length l) (s.at + 3 + n)) 1 (cond (too_many s t) 5 0)))) B)))
