-- The laws of a reading. Assumes nothing.
use Rattle.std.specs.Prelude.{◌≡◌, Result, Ok, Err, Bool, true, cond, not, List, length, get_or, take, drop, ltb, eqb}
use Rattle.std.proofs.Math.Path.{refl, sym, subst}
use Rattle.std.proofs.Common.{ap, ◌∙◌, true≢false}
use Rattle.std.proofs.Math.Bool.{false}
use Prim.Native.Nat.{ℕ, zero, suc, ◌+◌, ◌-◌, ◌*◌, ◌/◌, ◌%◌, ◌≤◌, ◌<◌}
use native.Mathlib.Omega.{arith}
use borrow.Author.Tests.{lt-ltb, le-ltb, le-leb, lt-leb, ltb-false, leb-false, eqb-true, eqb-false, not-false}
use Rattle.file_fields.specs.At.{length_part}
use Rattle.file_fields.specs.declared.refusals.Fault.{Fault}
use Rattle.file_fields.specs.declared.refusals.Fault.TheVariants.{Overrun, UnknownTag, Misplaced, WrongLength, WrongCount, OutOfRange, WrongEnds, WrongPath, WrongTimes, WrongTable, NoTable, NoRoom, TooShort, WrongChoice, NoTrain, StopTooLate, WrongCouple}
use Rattle.file_fields.specs.Faults.{number_of}
use Rattle.file_fields.specs.Walk.{Walked, walked_start, walked_next}
use Rattle.file_bodies.specs.Bodies.{bad_length}
use Rattle.file_reader.specs.declared.Seen.{Seen}
use Rattle.file_reader.specs.declared.Counts.{Counts}
use Rattle.std.specs.Result.{is_ok, MatchResult}
use Rattle.file_reader.specs.declared.Misread.{Misread}
use Rattle.file_reader.specs.Told.{Judged, judged_of}
use Rattle.file_reader.specs.Told.Judged.{Sound, Unsound}
use Rattle.file_reader.specs.Told.Reading.{Accepted, Refused}
use Rattle.file_reader.specs.Reading.{out_of_place, too_many, frame_verdict, body_verdict, or_else, tag_of, size_of, body_of, field_verdict, counted, newer, after, next, judged, field_of, at_end, stopped, turn, read_from, start, reading}
use Rattle.file_reader.specs.Facts.{Within}

-- ---- answers that are told apart

pub sound_unsound : (s : Seen) (n : ℕ) → Sound s ≡ Unsound n → ⊥
sound_unsound s n e =
    let z : ◌≡◌ {A = ℕ} 0 1 = cc in
    omega arith

pub accepted-refused : (s : Counts) (n i : ℕ) → Accepted s ≡ Refused n i → ⊥
accepted-refused s n i e =
    let z : ◌≡◌ {A = ℕ} 0 1 = cc in
    omega arith

-- ---- one field

-- a chain of refusals that comes to 0 has passed each test
skip : (b : Bool) (k x : ℕ) → cond b (suc k) x ≡ 0 → (b ≡ false) × (x ≡ 0)
skip true k x h = absurd (omega arith)
skip false k x h = (refl, h)

past : (b x : Bool) → cond b true x ≡ false → (b ≡ false) × (x ≡ false)
past true x h = absurd (true≢false h)
past false x h = (refl, h)

none : (a b : ℕ) → or_else a b ≡ 0 → (a ≡ 0) × (b ≡ 0)
none zero b h = (refl, h)
none (suc a) b h = absurd (omega arith)

or_here : (a b : ℕ) → (a ≡ 0 → ⊥) → or_else a b ≡ a
or_here zero b k = absurd (k refl)
or_here (suc a) b k = refl

judged_bad : (a : ℕ) (s : Seen) → (a ≡ 0 → ⊥) → judged a s ≡ Unsound a
judged_bad zero s k = absurd (k refl)
judged_bad (suc a) s k = refl

-- a fault has a number
fault_number : (f : Fault) → number_of f ≡ 0 → ⊥
fault_number Overrun h = absurd (omega arith)
fault_number UnknownTag h = absurd (omega arith)
fault_number Misplaced h = absurd (omega arith)
fault_number WrongLength h = absurd (omega arith)
fault_number WrongCount h = absurd (omega arith)
fault_number OutOfRange h = absurd (omega arith)
fault_number WrongEnds h = absurd (omega arith)
fault_number WrongPath h = absurd (omega arith)
fault_number WrongTimes h = absurd (omega arith)
fault_number WrongTable h = absurd (omega arith)
fault_number NoTable h = absurd (omega arith)
fault_number NoRoom h = absurd (omega arith)
fault_number TooShort h = absurd (omega arith)
fault_number WrongChoice h = absurd (omega arith)
fault_number NoTrain h = absurd (omega arith)
fault_number StopTooLate h = absurd (omega arith)
fault_number WrongCouple h = absurd (omega arith)

-- what a sound frame says
pub record Framed (size : ℕ) (book : Bool) (s : Seen) (tag n : ℕ) : Type 0 where
  pub low : 1 ≤ tag
  pub high : tag ≤ 6
  pub placed : out_of_place book s tag ≡ false
  pub possible : bad_length tag n ≡ false
  pub whole : s.at + 3 + n ≤ size
  pub room : too_many s tag ≡ false

pub framed : (size : ℕ) (book : Bool) (s : Seen) (tag n : ℕ) → frame_verdict size book s tag n ≡ 0 → Framed size book s tag n
unfolding frame_verdict
framed size book s tag n h =
    let a = skip (eqb tag 0) 1 _ h in
    let b = skip (ltb 6 tag) 1 _ a.1 in
    let d = skip (out_of_place book s tag) 2 _ b.1 in
    let e = skip (bad_length tag n) 3 _ d.1 in
    let f = skip (ltb size (s.at + 3 + n)) 0 _ e.1 in
    let g = skip (too_many s tag) 4 _ f.1 in
    let nz = eqb-false tag 0 a.0 in
    record {
      low = omega arith;
      high = ltb-false 6 tag b.0;
      placed = d.0;
      possible = e.0;
      whole = ltb-false size (s.at + 3 + n) f.0;
      room = g.0;
    }

-- possible lengths
pub head-length : (n : ℕ) → bad_length 1 n ≡ false → n ≡ 5
unfolding bad_length
head-length n h = eqb-true n 5 (not-false _ h)

pub station-length : (n : ℕ) → bad_length 2 n ≡ false → n ≡ 1
unfolding bad_length
station-length n h = eqb-true n 1 (not-false _ h)

pub track-length : (n : ℕ) → bad_length 3 n ≡ false → n ≡ 3
unfolding bad_length
track-length n h = eqb-true n 3 (not-false _ h)

pub train-length : (n : ℕ) → bad_length 4 n ≡ false → (12 ≤ n) × (n ≤ 42)
unfolding bad_length
train-length n h =
    let a = past (ltb n 12) _ h in
    let b = past (ltb 42 n) _ a.1 in
    (ltb-false n 12 a.0, ltb-false 42 n b.0)

-- a train of a possible length has its stops and nothing else
pub train-stops : (n : ℕ) → bad_length 4 n ≡ false → n ≡ 5 * suc (n / 5 - 1) + 2
unfolding bad_length
train-stops n h =
    let a = past (ltb n 12) _ h in
    let b = past (ltb 42 n) _ a.1 in
    let r = eqb-true (n % 5) 2 (not-false _ b.1) in
    let k = ltb-false n 12 a.0 in
    omega arith

pub table-length : (n : ℕ) → bad_length 5 n ≡ false → (3 ≤ n) × (n ≤ 17)
unfolding bad_length
table-length n h =
    let a = past (ltb n 3) _ h in
    let b = past (ltb 17 n) _ a.1 in
    (ltb-false n 3 a.0, ltb-false 17 n b.0)

pub couple-length : (n : ℕ) → bad_length 6 n ≡ false → n ≡ 2
unfolding bad_length
couple-length n h = eqb-true n 2 (not-false _ h)

-- a book has tables only
pub table_only : (s : Seen) (tag : ℕ) → out_of_place true s tag ≡ false → tag ≡ 5
unfolding out_of_place
table_only s tag h = eqb-true tag 5 (not-false _ h)

-- a head is the first
pub head_first : (book : Bool) (s : Seen) → out_of_place book s 1 ≡ false → s.heads ≡ 0
unfolding out_of_place
head_first true s h = absurd (true≢false h)
head_first false s h = go (eqb s.heads 0) refl h
  where
    go : (b : Bool) → eqb s.heads 0 ≡ b → cond b (not (eqb 1 1)) (cond (eqb 1 1) true (ltb 1 s.tag)) ≡ false → s.heads ≡ 0
    go true e h = eqb-true s.heads 0 e
    go false e h = absurd (true≢false h)

-- a tag is one of six
pub six : (P : ℕ → Type 0) (tag : ℕ) → 1 ≤ tag → tag ≤ 6 → P 1 → P 2 → P 3 → P 4 → P 5 → P 6 → P tag
six P zero h k a b d e f g = absurd (omega arith)
six P (suc zero) h k a b d e f g = a
six P (suc (suc zero)) h k a b d e f g = b
six P (suc (suc (suc zero))) h k a b d e f g = d
six P (suc (suc (suc (suc zero)))) h k a b d e f g = e
six P (suc (suc (suc (suc (suc zero))))) h k a b d e f g = f
six P (suc (suc (suc (suc (suc (suc zero)))))) h k a b d e f g = g
six P (suc (suc (suc (suc (suc (suc (suc n))))))) h k a b d e f g = absurd (omega arith)

module _ (l : List ℕ) (book : Bool) (s : Seen) (w : Within l s) where
  -- a sound frame keeps the counts
  within-after : (tag n x : ℕ) → Framed (length l) book s tag n → Within l (after s tag (s.at + 3 + n) x)
  unfolding after counted newer too_many
  within-after tag n x f =
      six (λ t. out_of_place book s t ≡ false → bad_length t n ≡ false → too_many s t ≡ false → Within l (after s t (s.at + 3 + n) x))
      tag f.low f.high
      (λ p q r. let a = head_first book s p in let b = head-length n q in
      record {
        inside = f.whole;
        one_head = omega arith;
        few_stations = w.few_stations;
        few_tracks = w.few_tracks;
        few_trains = w.few_trains;
        few_tables = w.few_tables;
        few_couples = w.few_couples;
        near = omega arith;
        behind = omega (arith, w.behind);
      })
      (λ p q r. let a = leb-false 24 s.counts.stations r in let b = station-length n q in
      record {
        inside = f.whole;
        one_head = w.one_head;
        few_stations = omega arith;
        few_tracks = w.few_tracks;
        few_trains = w.few_trains;
        few_tables = w.few_tables;
        few_couples = w.few_couples;
        near = omega arith;
        behind = omega (arith, w.behind);
      })
      (λ p q r. let a = leb-false 40 s.counts.tracks r in let b = track-length n q in
      record {
        inside = f.whole;
        one_head = w.one_head;
        few_stations = w.few_stations;
        few_tracks = omega arith;
        few_trains = w.few_trains;
        few_tables = w.few_tables;
        few_couples = w.few_couples;
        near = omega arith;
        behind = omega (arith, w.behind);
      })
      (λ p q r. let a = leb-false 7 s.counts.trains r in let b = train-length n q in
      record {
        inside = f.whole;
        one_head = w.one_head;
        few_stations = w.few_stations;
        few_tracks = w.few_tracks;
        few_trains = omega arith;
        few_tables = w.few_tables;
        few_couples = w.few_couples;
        near = omega arith;
        behind = omega (arith, w.behind);
      })
      (λ p q r. let a = leb-false 8 s.counts.tables r in let b = table-length n q in
      record {
        inside = f.whole;
        one_head = w.one_head;
        few_stations = w.few_stations;
        few_tracks = w.few_tracks;
        few_trains = w.few_trains;
        few_tables = omega arith;
        few_couples = w.few_couples;
        near = omega arith;
        behind = omega (arith, w.behind);
      })
      (λ p q r. let a = leb-false 20 s.counts.couples r in let b = couple-length n q in
      record {
        inside = f.whole;
        one_head = w.one_head;
        few_stations = w.few_stations;
        few_tracks = w.few_tracks;
        few_trains = w.few_trains;
        few_tables = w.few_tables;
        few_couples = omega arith;
        near = omega arith;
        behind = omega (arith, w.behind);
      })
      f.placed f.possible f.room

  pub within-next : field_verdict book l s ≡ 0 → Within l (next l s)
  unfolding next field_verdict
  within-next h =
      let a = skip (ltb (length l) (s.at + 3)) 0 _ h in
      let b = none (frame_verdict (length l) book s (tag_of l s) (size_of l s)) _ a.1 in
      within-after (tag_of l s) (size_of l s) (get_or l (s.at + 3) 0) (framed _ _ _ _ _ b.0)

  pub field_framed : field_verdict book l s ≡ 0 → Framed (length l) book s (tag_of l s) (size_of l s)
  unfolding field_verdict
  field_framed h = framed _ _ _ _ _ (none (frame_verdict (length l) book s (tag_of l s) (size_of l s)) _ (skip (ltb (length l) (s.at + 3)) 0 _ h).1).0

  pub body-sound : field_verdict book l s ≡ 0 → body_verdict (take s.at l) s (tag_of l s) (body_of l s) ≡ 0
  unfolding field_verdict
  body-sound h = (none (frame_verdict (length l) book s (tag_of l s) (size_of l s)) _ (skip (ltb (length l) (s.at + 3)) 0 _ h).1).1

  far : field_verdict book l s ≡ 0 → s.at + 3 ≤ (next l s).at
  unfolding next after
  far h = omega arith

  -- a sound field
  pub record Passed (s' : Seen) : Type 0 where
    pub there : Within l s'
    pub further : s.at + 3 ≤ s'.at
    pub is : s' ≡ next l s

  pub passes : (s' : Seen) → field_of book l s ≡ Sound s' → Passed s'
  unfolding field_of
  passes s' h = go (field_verdict book l s) refl h
    where
      go : (n : ℕ) → field_verdict book l s ≡ n → judged n (next l s) ≡ Sound s' → Passed s'
      go zero e h =
          let p : next l s ≡ s' = cc in
          record { there = subst (λ (t : Seen). Within l t) p (within-next e); further = subst (λ (t : Seen). s.at + 3 ≤ t.at) p (far e); is = sym p }
      go (suc n) e h = absurd (sound_unsound s' (suc n) (sym h))

-- the reading as far as s
pub record Left (book : Bool) (l : List ℕ) (s : Seen) : Type 0 where
  pub walked : Walked l s.at (λ n. read_from n book l s ≡ reading book l)

pub left-start : (book : Bool) (l : List ℕ) → Left book l start
unfolding reading
left-start book l = record { walked = walked_start l _ refl }

module _ {book : Bool} {l : List ℕ} {s : Seen} (h : Left book l s) where
  pub left_end : length l ≤ s.at → at_end book (length l) s ≡ reading book l
  unfolding read_from
  left_end e = rw (le-leb _ _ e) at h.walked.same

  left-turn : s.at < length l → turn (read_from h.walked.turns book l) s.at (field_of book l s) ≡ reading book l
  unfolding read_from
  left-turn e = rw (lt-leb _ _ e) at h.walked.same

  pub left-stop : s.at < length l → {f : Judged} {n : ℕ} → f ≡ field_of book l s → f ≡ Unsound n → stopped f s.at ≡ reading book l
  left-stop e {f} {n} p q = ap (λ (x : Judged). stopped x s.at) q ∙ (rw (sym p ∙ q) at (left-turn e))

  pub left-next : Within l s → s.at < length l → (t : Seen) → field_of book l s ≡ Sound t → Left book l t
  unfolding read_from
  left-next w e t p =
      let q = passes l book s w t p in
      record { walked = walked_next _ h.walked t.at (omega (arith, q.further)) q.there.inside (λ n r. rw (lt-leb _ _ e, p) at r) }

module _ (l : List ℕ) (book : Bool) (s : Seen) where
  pub field-short : length l < s.at + 3 → field_verdict book l s ≡ 1
  unfolding field_verdict
  field-short h = simp (lt-ltb _ _ h)

  module _ {tag n no : ℕ} (h : s.at + 3 ≤ length l) (t : tag ≡ tag_of l s) (z : n ≡ size_of l s) (e : no ≡ frame_verdict (length l) book s tag n) where
    fits : field_verdict book l s ≡ or_else no (body_verdict (take s.at l) s tag (take n (drop (s.at + 3) l)))
    unfolding field_verdict
    fits = simp (le-ltb _ _ h, ← z, ← t, ← e)

    pub field_frame : (no ≡ 0 → ⊥) → field_verdict book l s ≡ no
    field_frame k = fits ∙ or_here no _ k

    pub frame-fault : (f : Fault) → number_of f ≡ no → number_of f ≡ field_verdict book l s
    frame-fault f p = p ∙ sym (field_frame (λ z. fault_number f (p ∙ z)))

    -- the body as the code cuts it out
    pub field-body : no ≡ 0 → field_verdict book l s ≡ body_verdict (take s.at l) s tag (take (s.at + 3 + n - (s.at + 3)) (drop (s.at + 3) l))
    field-body k =
        let c : s.at + 3 + n - (s.at + 3) ≡ n = omega arith in
        fits ∙ rw (k, c)

  pub field_bad : {no : ℕ} → no ≡ field_verdict book l s → (no ≡ 0 → ⊥) → field_of book l s ≡ Unsound no
  unfolding field_of
  field_bad {no} e k = rw (← e) (judged_bad no (next l s) k)

  pub field-fault : (f : Fault) → number_of f ≡ field_verdict book l s → Unsound (number_of f) ≡ field_of book l s
  field-fault f e = sym (field_bad e (fault_number f))

  pub field_good : {no : ℕ} {t : Seen} → no ≡ field_verdict book l s → no ≡ 0 → t ≡ next l s → field_of book l s ≡ Sound t
  unfolding field_of
  field_good e k p = rw (← e, k, p)

-- a judgment whose fault was given a place
pub sound_of : (Q : Fault → Type 0) (r : Result Seen Fault) (t : Seen) → true ≡ is_ok r → MatchResult r (λ x. ◌≡◌ {A = Result Seen Misread} (Ok t) (Ok x)) Q → Sound t ≡ judged_of r
sound_of Q (Ok x) t v h = cc
sound_of Q (Err f) t v h = absurd (true≢false v)

-- the fault of a judgment
abbrev pub fault_in : Result Seen Fault → Fault
fault_in (Ok x) = Overrun
fault_in (Err f) = f

pub faulty : (r : Result Seen Fault) → false ≡ is_ok r → r ≡ Err (fault_in r)
faulty (Ok x) v = absurd (true≢false (sym v))
faulty (Err f) v = refl

-- nothing seen yet
pub fresh : (s : Seen) → (s.at ≡ 0) × ((s.tag ≡ 0) × ((s.heads ≡ 0) × ((s.kind ≡ 0)
    × ((s.counts.stations ≡ 0) × ((s.counts.tracks ≡ 0) × ((s.counts.trains ≡ 0) × ((s.counts.tables ≡ 0) × (s.counts.couples ≡ 0)))))))) → s ≡ start
fresh s (a, (t, (h, (k, (st, (tr, (tn, (tb, c)))))))) = rw (a, t, h, k, st, tr, tn, tb, c)

pub within-start : (l : List ℕ) → Within l start
within-start l = record {
  inside = omega arith;
  one_head = omega arith;
  few_stations = omega arith;
  few_tracks = omega arith;
  few_trains = omega arith;
  few_tables = omega arith;
  few_couples = omega arith;
  near = omega arith;
  behind = omega arith;
}

pub part_length : (l : List ℕ) (a n : ℕ) → a + n ≤ length l → length (take (a + n - a) (drop a l)) ≡ n
part_length l a n h = let e : a + n - a ≡ n = omega arith in rw e (length_part l a n h)
