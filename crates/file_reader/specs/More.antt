-- One sound field more keeps what the state says of the contents: each count grows by the tag's own, and the field's body stands where
-- the counts say. Assumes nothing.
use Rattle.std.specs.Prelude.{◌≡◌, Bool, ◌&&◌, ◌||◌, length, take, drop, ltb}
use Rattle.std.proofs.Math.Path.{refl, ap, sym}
use Rattle.std.proofs.Common.{◌∙◌, length-append}
use Rattle.std.proofs.Math.Bool.{true, false, cond, or-false}
use mathlib.Core.List.{List, [], ◌∷◌, ◌++◌, append-nil}
use Prim.Native.Nat.{ℕ, ◌+◌, ◌-◌, ◌*◌, ◌≤◌, ◌<◌}
use Rattle.std.proofs.Math.Numerals.{add-one}
use native.Mathlib.Omega.{arith}
use Rattle.std.proofs.Math.ListN.{get_or, get_or-append}
use Rattle.std.proofs.Math.Seq.{get_or-take, get_or-append_seam}
use Rattle.std.proofs.Math.Dec.{leb, eqb}
use borrow.Author.Tests.{le-leb, leb-true, leb-false, ltb-true, ltb-false, ne_eqb, eqb-true}
use Rattle.rules.specs.Lists.{one, any, has}
use Rattle.rules.specs.Files.{File, Contents, Track, Couple, kind_of, byte, head_of, track_of, train_of, table_of, couple_of, leads, no_track, track_at, coupled, more}
use Rattle.rules.specs.Files.File.{case, book}
use Rattle.rules.specs.Files.Kind.{station, track, train, table, couple}
use Rattle.theory_lists.specs.Each.{each_append}
use Rattle.theory_lists.specs.Every.{any_append}
use Rattle.theory_sound.specs.Kinds.{rank-tag, is-tag}
use Rattle.file_fields.specs.At.{byte-part}
use Rattle.file_bodies.specs.Bodies.{ends, joined, in_couple, taken, bad_length, pairs_verdict, table_verdict}
use Rattle.file_bodies.specs.Search.{any_none, any-suc}
use Rattle.file_reader.specs.declared.Seen.{Seen}
use Rattle.file_reader.specs.Reading.{out_of_place, base, body_verdict, tag_of, size_of, body_of, field_verdict, counted, newer, after, next}
use Rattle.file_reader.specs.Facts.{Within}
use Rattle.file_reader.specs.Laws.{Framed, head_first, six, field_framed, body-sound, head-length, station-length, track-length, table-length, couple-length}
use Rattle.file_reader.specs.Places.{heads-first, rises, placed-next}
use Rattle.file_reader.specs.Holds.{is_book, InCase, OfFile, Holds}

-- ---- counts

count-more : {A : Type 0} (b : Bool) (x : A) (l : List A) (n : ℕ) → length l ≡ n → length (l ++ one b x) ≡ cond b (n + 1) n
count-more true x l n h = length-append l (x ∷ []) ∙ ap (λ (k : ℕ). k + 1) h
count-more false x l n h = ap length (append-nil l) ∙ h

any-more : {A : Type 0} (t : A → Bool) (b : Bool) (x : A) (l : List A) → any t (l ++ one b x) ≡ cond b (any t l || t x) (any t l)
any-more t true x l = any_append t l (x ∷ []) ∙ ap (λ (y : Bool). any t l || y) (or-false (t x))
any-more t false x l = ap (any t) (append-nil l)

any-empty : {A : Type 0} (t : A → Bool) (l : List A) → length l ≡ 0 → any t l ≡ false
any-empty t [] h = refl
any-empty t (a ∷ l) h = absurd (omega arith)

none-coupled : (cs : List Couple) (t : ℕ) → length cs ≡ 0 → has (coupled cs) t ≡ false
unfolding coupled
none-coupled [] t h = refl
none-coupled (p ∷ cs) t h = absurd (omega arith)

-- one more at the end: the earlier ones stay, and the last is the new one
snoc : {A : Type 0} {y : A} (l : List A) (x d : A) (j n : ℕ) → length l ≡ n → j < n + 1 → (j < n → y ≡ get_or l j d) → (j ≡ n → y ≡ x) → y ≡ get_or (l ++ (x ∷ [])) j d
snoc {A} {y} l x d j n e k old new = go (ltb j n) refl
  where
    go : (b : Bool) → ltb j n ≡ b → y ≡ get_or (l ++ (x ∷ [])) j d
    go true p = let q = ltb-true j n p in old q ∙ sym (get_or-append l (x ∷ []) d j (omega arith))
    go false p =
        let q = ltb-false j n p in
        let r : j ≡ length l = omega arith in
        new (omega arith) ∙ sym (ap (λ (m : ℕ). get_or (l ++ (x ∷ [])) m d) r ∙ get_or-append_seam l x [] d)

-- ---- types of tables

-- a table after others has a type above theirs
rose : (tables kind : ℕ) (b : List ℕ) → table_verdict tables kind b ≡ 0 → eqb tables 0 ≡ false → kind < byte b 0
unfolding table_verdict
rose tables kind b h e = go (leb (byte b 0) kind) refl (rw e at h)
  where
    go : (x : Bool) → leb (byte b 0) kind ≡ x → cond x 10 (pairs_verdict b) ≡ 0 → kind < byte b 0
    go true p q = absurd (omega arith)
    go false p q = leb-false (byte b 0) kind p

higher : (x a b : ℕ) → a < b → leb x a || leb x b ≡ leb x b
higher x a b h = go (leb x a) refl
  where
    go : (y : Bool) → leb x a ≡ y → y || leb x b ≡ leb x b
    go true e = let k = leb-true x a e in sym (le-leb x b (omega arith))
    go false e = refl

types_more : (c : Contents) (tables kind : ℕ) → ((x : ℕ) → any (λ e. leb x e.type) c.tables ≡ cond (eqb tables 0) false (leb x kind))
    → (b : List ℕ) → table_verdict tables kind b ≡ 0 → (x : ℕ) → any (λ e. leb x e.type) c.tables || leb x (byte b 0) ≡ cond (eqb (tables + 1) 0) false (leb x (byte b 0))
types_more c tables kind h b v x = rw (h x, ne_eqb (tables + 1) 0 (λ q. omega arith)) (go (eqb tables 0) refl)
  where
    go : (z : Bool) → eqb tables 0 ≡ z → cond z false (leb x kind) || leb x (byte b 0) ≡ leb x (byte b 0)
    go true e = refl
    go false e = higher x kind (byte b 0) (rose tables kind b v e)

-- ---- a case

module _ (l : List ℕ) (s : Seen) (c : Contents) (h : Holds case l s c) (w : Within l s) (tag n x : ℕ) (f : Framed (length l) false s tag n) where
  abbrev i : InCase l s c
  i = h.is_of_file

  -- the body of the field
  abbrev b : List ℕ
  b = take n (drop (s.at + 3) l)

  abbrev grown : ℕ → Seen
  grown t = after s t (s.at + 3 + n) x

  -- a head comes first
  fresh : out_of_place false s 1 ≡ false → (s.at ≡ 0) × (s.counts.tracks ≡ 0) × (s.tag ≡ 0)
  fresh p =
      let a = head_first false s p in
      let t = i.placed.headed a in
      (i.untouched t, i.placed.none_yet (omega arith), t)

  reached-more : base (grown tag) + 6 * (grown tag).counts.tracks ≤ s.at + 3 + n
  unfolding after counted
  reached-more =
      let r = i.reached in
      six (λ t. bad_length t n ≡ false → base (grown t) + 6 * (grown t).counts.tracks ≤ s.at + 3 + n) tag f.low f.high
      (λ q. let e = head-length n q in omega arith)
      (λ q. let e = station-length n q in omega arith)
      (λ q. let e = track-length n q in omega arith)
      (λ q. omega arith)
      (λ q. omega arith)
      (λ q. omega arith)
      f.possible

  head_more : ((grown tag).heads ≡ 0 → ⊥) → head_of (drop 3 l) ≡ (more c s.at (kind_of tag) b).head
  unfolding after counted more kind_of head_of
  head_more =
      six (λ t. out_of_place false s t ≡ false → bad_length t n ≡ false → ((grown t).heads ≡ 0 → ⊥) → head_of (drop 3 l) ≡ (more c s.at (kind_of t) b).head) tag f.low f.high
      (λ p q z.
      let e = head-length n q in
      let a : s.at + 3 ≡ 3 = rw (fresh p).0 in
      rw (e, a) (sym (rw (get_or-take 5 (drop 3 l) 0 0 (omega arith), get_or-take 5 (drop 3 l) 1 0 (omega arith), get_or-take 5 (drop 3 l) 2 0 (omega arith), get_or-take 5 (drop 3 l) 3 0 (omega arith), get_or-take 5 (drop 3 l) 4 0 (omega arith)))))
      (λ p q z. i.head_stands z)
      (λ p q z. i.head_stands z)
      (λ p q z. i.head_stands z)
      (λ p q z. i.head_stands z)
      (λ p q z. i.head_stands z)
      f.placed f.possible

  stations-more : (j : ℕ) → j < (grown tag).counts.stations → byte l (11 + 4 * j) ≡ get_or (more c s.at (kind_of tag) b).stations j 0
  unfolding after counted more kind_of
  stations-more j =
      six (λ t. out_of_place false s t ≡ false → bad_length t n ≡ false → j < (grown t).counts.stations → byte l (11 + 4 * j) ≡ get_or (more c s.at (kind_of t) b).stations j 0) tag f.low f.high
      (λ p q k. old k)
      (λ p q k.
      let r = rises s 2 p (λ e. omega arith) in
      let a = i.placed.so_far (omega arith) in
      let d = i.placed.none_yet r in
      let z = heads-first s 2 p (λ e. omega arith) in
      let e = station-length n q in
      snoc c.stations (byte b 0) 0 j s.counts.stations h.stations k (i.stations_stand j)
      (λ g. sym (byte-part l (s.at + 3) n 0 (11 + 4 * j) (omega arith) (omega arith))))
      (λ p q k. old k)
      (λ p q k. old k)
      (λ p q k. old k)
      (λ p q k. old k)
      f.placed f.possible
    where
      old : j < s.counts.stations → byte l (11 + 4 * j) ≡ get_or (c.stations ++ []) j 0
      old k = i.stations_stand j k ∙ sym (ap (λ (m : List ℕ). get_or m j 0) (append-nil c.stations))

  tracks-more : (j : ℕ) → j < (grown tag).counts.tracks → track_of (drop (base (grown tag) + 6 * j + 3) l) ≡ track_at (more c s.at (kind_of tag) b) j
  unfolding after counted more kind_of track_of track_at
  tracks-more j =
      six (λ t. out_of_place false s t ≡ false → bad_length t n ≡ false → j < (grown t).counts.tracks → track_of (drop (base (grown t) + 6 * j + 3) l) ≡ track_at (more c s.at (kind_of t) b) j) tag f.low f.high
      (λ p q k. let z = (fresh p).1 in absurd (omega arith))
      (λ p q k. let r = rises s 2 p (λ e. omega arith) in let z = i.placed.none_yet r in absurd (omega arith))
      (λ p q k.
      let r = rises s 3 p (λ e. omega arith) in
      let a = i.placed.so_far r in
      let e = track-length n q in
      snoc c.tracks (track_of b) no_track j s.counts.tracks h.tracks k (i.tracks_stand j)
      (λ g.
      let u : s.at + 3 ≡ base s + 6 * j + 3 = omega arith in
      rw (e, u) (sym (rw (get_or-take 3 (drop (base s + 6 * j + 3) l) 0 0 (omega arith), get_or-take 3 (drop (base s + 6 * j + 3) l) 1 0 (omega arith), get_or-take 3 (drop (base s + 6 * j + 3) l) 2 0 (omega arith))))))
      (λ p q k. old k)
      (λ p q k. old k)
      (λ p q k. old k)
      f.placed f.possible
    where
      old : j < s.counts.tracks → track_of (drop (base s + 6 * j + 3) l) ≡ get_or (c.tracks ++ []) j no_track
      old k = i.tracks_stand j k ∙ sym (ap (λ (m : List Track). get_or m j no_track) (append-nil c.tracks))

  none-lead : (k : ℕ) (from to : ℕ) → s.counts.tracks ≡ 0 → joined l k s.counts.tracks from to ≡ any (leads from to) (c.tracks ++ [])
  unfolding joined
  none-lead k from to e = rw e (any_none _) ∙ sym (ap (any (leads from to)) (append-nil c.tracks) ∙ any-empty (leads from to) c.tracks (h.tracks ∙ e))

  one-leads : (from to : ℕ) → n ≡ 3 → s.at ≡ base s + 6 * s.counts.tracks → joined l (base s) (s.counts.tracks + 1) from to ≡ any (leads from to) (c.tracks ++ (track_of b ∷ []))
  unfolding joined ends leads track_of
  one-leads from to e a =
      let u = byte-part l (s.at + 3) n 0 (base s + 6 * s.counts.tracks + 3) (omega arith) (omega arith) in
      let v = byte-part l (s.at + 3) n 1 (base s + 6 * s.counts.tracks + 4) (omega arith) (omega arith) in
      ap (λ (k : ℕ). joined l (base s) k from to) (add-one s.counts.tracks)
      ∙ any-suc (λ j. ends l (base s + 6 * j) from to) s.counts.tracks
      ∙ go (eqb (byte l (base s + 6 * s.counts.tracks + 3)) from) (eqb (byte l (base s + 6 * s.counts.tracks + 4)) to) (joined l (base s) s.counts.tracks from to)
      ∙ ap (λ (y : Bool). joined l (base s) s.counts.tracks from to || y) (rw (u, v))
      ∙ ap (λ (y : Bool). y || leads from to (track_of b)) (i.tracks_lead from to)
      ∙ sym (any-more (leads from to) true (track_of b) c.tracks)
    where
      go : (p q y : Bool) → cond (cond p q false) true y ≡ y || (p && q)
      go true true true = refl
      go true true false = refl
      go true false true = refl
      go true false false = refl
      go false q true = refl
      go false q false = refl

  lead-more : (from to : ℕ) → joined l (base (grown tag)) (grown tag).counts.tracks from to ≡ any (leads from to) (more c s.at (kind_of tag) b).tracks
  unfolding after counted more kind_of
  lead-more from to =
      six (λ t. out_of_place false s t ≡ false → bad_length t n ≡ false → joined l (base (grown t)) (grown t).counts.tracks from to ≡ any (leads from to) (more c s.at (kind_of t) b).tracks) tag f.low f.high
      (λ p q. none-lead _ from to (fresh p).1)
      (λ p q. let r = rises s 2 p (λ e. omega arith) in none-lead _ from to (i.placed.none_yet r))
      (λ p q. let r = rises s 3 p (λ e. omega arith) in one-leads from to (track-length n q) (i.placed.so_far r))
      (λ p q. old)
      (λ p q. old)
      (λ p q. old)
      f.placed f.possible
    where
      old : joined l (base s) s.counts.tracks from to ≡ any (leads from to) (c.tracks ++ [])
      old = i.tracks_lead from to ∙ sym (ap (any (leads from to)) (append-nil c.tracks))

  none-taken : (first t : ℕ) → s.counts.couples ≡ 0 → taken l first s.counts.couples t ≡ has (coupled (c.couples ++ [])) t
  unfolding taken
  none-taken first t e =
      rw e (any_none _) ∙ sym (ap (λ (m : List Couple). has (coupled m) t) (append-nil c.couples) ∙ none-coupled c.couples t (h.couples ∙ e))

  one-taken : (t : ℕ) → n ≡ 2 → taken l (s.at + 3 + n - 5 * (s.counts.couples + 1)) (s.counts.couples + 1) t ≡ has (coupled (c.couples ++ (couple_of b ∷ []))) t
  unfolding taken in_couple coupled couple_of
  one-taken t e =
      let here : s.at + 3 + n - 5 * (s.counts.couples + 1) ≡ first = omega (arith, w.behind) in
      let u = byte-part l (s.at + 3) n 0 (first + 5 * s.counts.couples + 3) (omega arith) (omega (arith, w.behind)) in
      let v = byte-part l (s.at + 3) n 1 (first + 5 * s.counts.couples + 4) (omega arith) (omega (arith, w.behind)) in
      rw (here, add-one s.counts.couples)
      (any-suc (λ k. in_couple l (first + 5 * k) t) s.counts.couples
      ∙ go (eqb t (byte l (first + 5 * s.counts.couples + 3))) (eqb t (byte l (first + 5 * s.counts.couples + 4))) (taken l first s.counts.couples t)
      ∙ (rw (u, v, i.couples_stand t))
      ∙ sym (any_append (eqb t) (coupled c.couples) (byte b 0 ∷ byte b 1 ∷ []))
      ∙ sym (ap (λ (m : List ℕ). has m t) (each_append (λ p. p.first ∷ p.second ∷ []) c.couples (couple_of b ∷ []))))
    where
      first : ℕ
      first = s.at - 5 * s.counts.couples

      go : (p q y : Bool) → cond (cond p true q) true y ≡ y || (p || (q || false))
      go true q true = refl
      go true q false = refl
      go false true true = refl
      go false true false = refl
      go false false true = refl
      go false false false = refl

  couples-more : (t : ℕ) → taken l (s.at + 3 + n - 5 * (grown tag).counts.couples) (grown tag).counts.couples t ≡ has (coupled (more c s.at (kind_of tag) b).couples) t
  unfolding after counted more kind_of
  couples-more t =
      six (λ k. out_of_place false s k ≡ false → bad_length k n ≡ false
      → taken l (s.at + 3 + n - 5 * (grown k).counts.couples) (grown k).counts.couples t ≡ has (coupled (more c s.at (kind_of k) b).couples) t) tag f.low f.high
      (λ p q. let r = (fresh p).2 in none-taken _ t (i.placed.no_couples (omega arith)))
      (λ p q. let r = rises s 2 p (λ e. omega arith) in none-taken _ t (i.placed.no_couples (omega arith)))
      (λ p q. let r = rises s 3 p (λ e. omega arith) in none-taken _ t (i.placed.no_couples (omega arith)))
      (λ p q. let r = rises s 4 p (λ e. omega arith) in none-taken _ t (i.placed.no_couples (omega arith)))
      (λ p q. let r = rises s 5 p (λ e. omega arith) in none-taken _ t (i.placed.no_couples (omega arith)))
      (λ p q. one-taken t (couple-length n q))
      f.placed f.possible

-- ---- one field more

module _ (f : File) (l : List ℕ) (s : Seen) (c : Contents) (h : Holds f l s c) (w : Within l s) (v : field_verdict (is_book f) l s ≡ 0) where
  of_table : (tag : ℕ) (b : List ℕ) → tag ≡ 5 → body_verdict (take s.at l) s tag b ≡ 0 → table_verdict s.counts.tables s.kind b ≡ 0
  unfolding body_verdict
  of_table tag b e q = rw e at q

  types-next : (x : ℕ) → any (λ e. leb x e.type) (more c s.at (kind_of (tag_of l s)) (body_of l s)).tables
      ≡ cond (eqb (counted (tag_of l s) 5 s.counts.tables) 0) false (leb x (newer (tag_of l s) (get_or l (s.at + 3) 0) s.kind))
  unfolding more counted newer table_of
  types-next x =
      rw (is-tag table (tag_of l s) (omega arith))
      (any-more (λ e. leb x e.type) (eqb (tag_of l s) 5) (table_of (body_of l s)) c.tables ∙ go (eqb (tag_of l s) 5) refl)
    where
      go : (y : Bool) → eqb (tag_of l s) 5 ≡ y
          → cond y (any (λ e. leb x e.type) c.tables || leb x (byte (body_of l s) 0)) (any (λ e. leb x e.type) c.tables)
          ≡ cond (eqb (cond y (s.counts.tables + 1) s.counts.tables) 0) false (leb x (cond y (get_or l (s.at + 3) 0) s.kind))
      go true e =
          let t = eqb-true (tag_of l s) 5 e in
          let d = field_framed l (is_book f) s w v in
          let n = table-length (size_of l s) (ap (λ (k : ℕ). bad_length k (size_of l s)) (sym t) ∙ d.possible) in
          let y = byte-part l (s.at + 3) (size_of l s) 0 (s.at + 3) (omega arith) (omega arith) in
          types_more c s.counts.tables s.kind h.types (body_of l s) (of_table (tag_of l s) (body_of l s) t (body-sound l (is_book f) s w v)) x
          ∙ ap (λ (k : ℕ). cond (eqb (s.counts.tables + 1) 0) false (leb x k)) y
      go false e = h.types x

case-next : (l : List ℕ) (s : Seen) (c : Contents) (h : Holds case l s c) (w : Within l s) (v : field_verdict false l s ≡ 0) → InCase l (next l s) (more c s.at (kind_of (tag_of l s)) (body_of l s))
unfolding next after
case-next l s c h w v =
    let i = h.is_of_file in
    let d = field_framed l false s w v in
    let y = get_or l (s.at + 3) 0 in
    record {
      placed = placed-next l s i.placed w v;
      unheaded = λ z. absurd (omega arith);
      untouched = λ z. absurd (omega arith);
      reached = reached-more l s c h w (tag_of l s) (size_of l s) y d;
      head_stands = head_more l s c h w (tag_of l s) (size_of l s) y d;
      stations_stand = stations-more l s c h w (tag_of l s) (size_of l s) y d;
      tracks_stand = tracks-more l s c h w (tag_of l s) (size_of l s) y d;
      tracks_lead = lead-more l s c h w (tag_of l s) (size_of l s) y d;
      couples_stand = couples-more l s c h w (tag_of l s) (size_of l s) y d;
    }

pub holds-next : (f : File) (l : List ℕ) (s : Seen) (c : Contents) → Holds f l s c → Within l s → field_verdict (is_book f) l s ≡ 0
    → Holds f l (next l s) (more c s.at (kind_of (tag_of l s)) (body_of l s))
unfolding next after more counted
holds-next f l s c h w v = record {
  same_rank = rank-tag (tag_of l s) (field_framed l (is_book f) s w v).high;
  stations = rw (is-tag station (tag_of l s) (omega arith)) (count-more (eqb (tag_of l s) 2) (byte (body_of l s) 0) c.stations s.counts.stations h.stations);
  tracks = rw (is-tag track (tag_of l s) (omega arith)) (count-more (eqb (tag_of l s) 3) (track_of (body_of l s)) c.tracks s.counts.tracks h.tracks);
  trains = rw (is-tag train (tag_of l s) (omega arith)) (count-more (eqb (tag_of l s) 4) (train_of s.at (body_of l s)) c.trains s.counts.trains h.trains);
  tables = rw (is-tag table (tag_of l s) (omega arith)) (count-more (eqb (tag_of l s) 5) (table_of (body_of l s)) c.tables s.counts.tables h.tables);
  couples = rw (is-tag couple (tag_of l s) (omega arith)) (count-more (eqb (tag_of l s) 6) (couple_of (body_of l s)) c.couples s.counts.couples h.couples);
  types = types-next f l s c h w v;
  is_of_file = go f h v;
}
  where
    go : (f : File) → Holds f l s c → field_verdict (is_book f) l s ≡ 0 → OfFile f l (next l s) (more c s.at (kind_of (tag_of l s)) (body_of l s))
    go case h v = case-next l s c h w v
    go book h v = tt
