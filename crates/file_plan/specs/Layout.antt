-- Where the things of an accepted case stand: the head, 4 bytes a station, 6 bytes a track, then the trains one after another; last the couples, 5 bytes each.
-- Each accepted field keeps this of the file as far as it was read, and a train's field says what its bytes say. Assumes nothing.
use Rattle.std.specs.Prelude.{◌≡◌, Bool, true, false, cond, not, ◌&&◌, drop, leb, eqb}
use Rattle.std.proofs.Math.Path.{refl, ap, ap₂, sym}
use Rattle.std.proofs.Common.{◌∙◌, not-suc-le-zero, add-zero, zero-add, mul-zero, mul-suc, get_or-drop, leb-true}
use Rattle.std.proofs.lemmas.Bool.{false≢true, eqb-false}
use mathlib.Core.List.{List, [], ◌∷◌, ◌++◌, map, append-nil}
use Prim.Native.Nat.{ℕ, zero, suc, ◌+◌, ◌-◌, ◌*◌, ◌/◌, ◌≤◌, ◌<◌}
use native.Mathlib.Omega.{arith}
use Rattle.std.proofs.Math.ListN.{length, length-drop, length-take}
use Rattle.rules.specs.Lists.{has, span}
use Rattle.rules.specs.Refusals.Result.{answer}
use Rattle.rules.specs.Files.{Head, Track, Stop, Train, Couple, Contents, Kind, byte, word, head_of, track_of, stop_of, train_of, couple_of, rank, is, kind, known, in_place, lengths, size, body, more, empty, read}
use Rattle.rules.specs.Files.File.{case}
use Rattle.rules.specs.Files.Kind.{head, station, track, train, table, couple, no_field}
use Rattle.theory_lists.specs.Every.{has_every}
use Rattle.theory_sound.specs.Verdicts.{Field, field-accepted, with_field}
use Rattle.theory_sound.specs.Kept.{head_first}
use Rattle.file_fields.specs.Fields.{past}
use Rattle.file_fields.specs.At.{byte-part, size-here, body-here}
use Rattle.file_reader.specs.Along.{read_along}
use Rattle.file_tables.specs.Model.{onward, gather, track_in, tracks_from, stop_in, stops_at, train_in, couple_in, couples_from, track_place, train_place}
use Rattle.file_tables.specs.Fills.{onward-more, gather-more}

-- ---- what a body says is what the file says there

module _ (w : List ℕ) (at : ℕ) where
  body-byte : (i j : ℕ) → i < size (drop at w) → at + 3 + i ≡ j → byte (body (drop at w)) i ≡ byte w j
  body-byte i j h e = ap (λ (b : List ℕ). byte b i) (body-here w at) ∙ byte-part w (at + 3) (word w (at + 1)) i j (omega (arith, size-here w at)) e

  body-word : (i j : ℕ) → i + 1 < size (drop at w) → at + 3 + i ≡ j → word (body (drop at w)) i ≡ word w j
  body-word i j h e = ap₂ (λ (x y : ℕ). x * 256 + y) (body-byte i j (omega arith) e) (body-byte (i + 1) (j + 1) h (omega arith))

  drop-byte : (k i j : ℕ) → k + i < size (drop at w) → at + 3 + (k + i) ≡ j → byte (drop k (body (drop at w))) i ≡ byte w j
  drop-byte k i j h e = get_or-drop k (body (drop at w)) i 0 ∙ body-byte (k + i) j h e

  drop-word : (k i j : ℕ) → k + (i + 1) < size (drop at w) → at + 3 + (k + i) ≡ j → word (drop k (body (drop at w))) i ≡ word w j
  drop-word k i j h e = ap₂ (λ (x y : ℕ). x * 256 + y) (drop-byte k i j (omega arith) e) (drop-byte k (i + 1) (j + 1) h (omega arith))

track-same : (a b : Track) → a.from ≡ b.from → a.to ≡ b.to → a.capacity ≡ b.capacity → a ≡ b
track-same a b p q r = λ i. record { from = p i; to = q i; capacity = r i }

couple-same : (a b : Couple) → a.first ≡ b.first → a.second ≡ b.second → a ≡ b
couple-same a b p q = λ i. record { first = p i; second = q i }

stop-same : (a b : Stop) → a.station ≡ b.station → a.arrival ≡ b.arrival → a.departure ≡ b.departure → a ≡ b
stop-same a b p q r = λ i. record { station = p i; arrival = q i; departure = r i }

train_same : (a b : Train) → a.place ≡ b.place → a.priority ≡ b.priority → a.type ≡ b.type → a.stops ≡ b.stops → a ≡ b
train_same a b p q r s = λ i. record { place = p i; priority = q i; type = r i; stops = s i }

pub onward-add : (d k o : ℕ) → onward (λ i. i + d) k o ≡ o + d * k
onward-add d zero o = sym (ap (λ (x : ℕ). o + x) (mul-zero d) ∙ add-zero o)
onward-add d (suc k) o = onward-add d k (o + d) ∙ (let e = mul-suc d k in omega arith)

-- numbers in order, as things one after another
pub span-gather : {A : Type 0} (f g : ℕ → A) (next : ℕ → ℕ) (m i o : ℕ) → ((k : ℕ) → k < m → f (i + k) ≡ g (onward next k o)) → map f (span m i) ≡ gather g next m o
span-gather f g next zero i o h = refl
span-gather f g next (suc m) i o h =
    ap₂ (λ (x : _) (l : List _). x ∷ l) (ap f (sym (add-zero i)) ∙ h 0 (omega arith))
    (span-gather f g next m (suc i) (next o) (λ k q. let e : suc i + k ≡ i + suc k = omega arith in ap f e ∙ h (suc k) (omega arith)))

module _ (w : List ℕ) (at : ℕ) where
  track-read : size (drop at w) ≡ 3 → track_of (body (drop at w)) ≡ track_in w at
  unfolding track_of track_in
  track-read z =
      track-same _ _ (body-byte w at 0 (at + 3) (omega arith) (omega arith)) (body-byte w at 1 (at + 4) (omega arith) (omega arith)) (body-byte w at 2 (at + 5) (omega arith) (omega arith))

  couple-read : size (drop at w) ≡ 2 → couple_of (body (drop at w)) ≡ couple_in w at
  unfolding couple_of couple_in
  couple-read z = couple-same _ _ (body-byte w at 0 (at + 3) (omega arith) (omega arith)) (body-byte w at 1 (at + 4) (omega arith) (omega arith))

  stop-read : (k : ℕ) → 2 + 5 * k + 5 ≤ size (drop at w) → stop_of (drop (2 + 5 * k) (body (drop at w))) ≡ stop_in w (at + 5 + 5 * k)
  unfolding stop_of stop_in
  stop-read k h =
      stop-same _ _
      (drop-byte w at (2 + 5 * k) 0 (at + 5 + 5 * k) (omega arith) (omega arith))
      (drop-word w at (2 + 5 * k) 1 (at + 5 + 5 * k + 1) (omega arith) (omega arith))
      (drop-word w at (2 + 5 * k) 3 (at + 5 + 5 * k + 3) (omega arith) (omega arith))

  train-read : 2 ≤ size (drop at w) → 3 + size (drop at w) ≤ length (drop at w) → size (drop at w) ≡ word w (at + 1) → train_of at (body (drop at w)) ≡ train_in w at
  unfolding train_of train_in stops_at
  train-read h y z =
      let b = body (drop at w) in
      let n : length b ≡ word w (at + 1) = length-take (size (drop at w)) (drop 3 (drop at w)) ∙ omega (arith, length-drop 3 (drop at w)) in
      train_same _ _ refl
      (body-byte w at 0 (at + 3) (omega arith) (omega arith))
      (body-byte w at 1 (at + 4) (omega arith) (omega arith))
      (rw n
      (span-gather (λ k. stop_of (drop (2 + 5 * k) b)) (stop_in w) (λ i. i + 5) ((word w (at + 1) - 2) / 5) 0 (at + 5)
      (λ k q. ap (λ (i : ℕ). stop_of (drop (2 + 5 * i) b)) (zero-add k) ∙ stop-read k (omega arith) ∙ ap (stop_in w) (sym (onward-add 5 k (at + 5))))))

-- ---- where things stand, as far as the file was read

pub record HeadAt (w : List ℕ) (h : Head) : Type 0 where
  pub last_minute : h.last_minute ≡ word w 3
  pub safety : h.safety ≡ byte w 5
  pub room : h.room ≡ word w 6

abbrev pub station_in : List ℕ → ℕ → ℕ
station_in w o = byte w (o + 3)

pub record Laid (w : List ℕ) (at : ℕ) (c : Contents) : Type 0 where
  pub s : ℕ
  pub r : ℕ
  pub n : ℕ
  pub q : ℕ
  pub stations : c.stations ≡ gather (station_in w) (λ i. i + 4) s 8
  pub tracks : c.tracks ≡ tracks_from w r (track_place s)
  pub trains : c.trains ≡ gather (train_in w) (past w) n (train_place s r)
  pub couples : c.couples ≡ couples_from w q (at - 5 * q)
  pub head : 1 ≤ c.rank → HeadAt w c.head
  pub start : c.rank ≡ 0 → (at ≡ 0) × (s ≡ 0)
  pub no_tracks : c.rank ≤ 2 → r ≡ 0
  pub no_trains : c.rank ≤ 3 → n ≡ 0
  pub no_couples : c.rank ≤ 5 → q ≡ 0
  pub behind : 5 * q ≤ at
  pub here : 1 ≤ c.rank → c.rank ≤ 4 → at ≡ onward (past w) n (train_place s r)

laid-empty : (w : List ℕ) → Laid w 0 empty
laid-empty w = record {
  s = 0;
  r = 0;
  n = 0;
  q = 0;
  stations = refl;
  tracks = refl;
  trains = refl;
  couples = refl;
  head = λ h. absurd (not-suc-le-zero h);
  start = λ h. (refl, refl);
  no_tracks = λ h. refl;
  no_trains = λ h. refl;
  no_couples = λ h. refl;
  behind = omega arith;
  here = λ h k. absurd (not-suc-le-zero h);
}

-- a field that is no head comes after one, and tags do not fall
rises : (c : Contents) (k : Kind) → is head k ≡ false → in_place case c k ≡ true → (1 ≤ c.rank) × (c.rank ≤ rank k)
unfolding in_place
rises c k e h = go (eqb c.rank 0) refl (is head k) e (leb c.rank (rank k)) refl h
  where
    go : (a : Bool) → eqb c.rank 0 ≡ a → (b : Bool) → b ≡ false → (d : Bool) → leb c.rank (rank k) ≡ d → cond a b (not b && d) ≡ true → (1 ≤ c.rank) × (c.rank ≤ rank k)
    go true p b q d r h = absurd (false≢true (sym q ∙ h))
    go false p true q d r h = absurd (false≢true (sym q))
    go false p false q false r h = absurd (false≢true h)
    go false p false q true r h = let z = eqb-false c.rank 0 p in (some c.rank z, leb-true c.rank (rank k) r)
      where
        some : (m : ℕ) → (m ≡ 0 → ⊥) → 1 ≤ m
        some zero z = absurd (z refl)
        some (suc m) z = omega arith

module _ (w : List ℕ) (c : Contents) (at : ℕ) (d : Field case c at (drop at w)) (p : Laid w at c) where
  abbrev l : List ℕ
  l = drop at w

  abbrev b : List ℕ
  b = body (drop at w)

  abbrev Step : Kind → Type 0
  Step k = in_place case c k ≡ true → has (lengths k) (size l) ≡ true → Laid w (past w at) (more c at k b)

  z : size l ≡ word w (at + 1)
  z = size-here w at

  abbrev none : {A : Type 0} (a : List A) → a ++ [] ≡ a
  none a = append-nil a

  -- no couple stands before a field of another kind
  uncoupled : c.rank ≤ 5 → c.couples ++ [] ≡ []
  uncoupled h = none _ ∙ p.couples ∙ ap (λ (m : ℕ). couples_from w m (at - 5 * m)) (p.no_couples h)

  head_step : Step head
  unfolding more head_of lengths
  head_step i k =
      let t = head_first case c i in
      let e = p.start t in
      let q = has_every (λ m. m ≡ 5) (5 ∷ []) (size l) (refl, tt) k in
      let r = p.no_tracks (omega arith) in
      let n = p.no_trains (omega arith) in
      record {
        s = 0;
        r = 0;
        n = 0;
        q = 0;
        stations = none _ ∙ p.stations ∙ ap (λ (m : ℕ). gather (station_in w) (λ i. i + 4) m 8) e.1;
        tracks = none _ ∙ p.tracks ∙ ap (λ (m : ℕ). tracks_from w m (track_place p.s)) r;
        trains = none _ ∙ p.trains ∙ ap (λ (m : ℕ). gather (train_in w) (past w) m (train_place p.s p.r)) n;
        couples = uncoupled (omega arith);
        head = λ h. record {
          last_minute = body-word w at 0 3 (omega arith) (omega (arith, e.0));
          safety = body-byte w at 2 5 (omega arith) (omega (arith, e.0));
          room = body-word w at 3 6 (omega arith) (omega (arith, e.0));
        };
        start = λ h. absurd (omega arith);
        no_tracks = λ h. refl;
        no_trains = λ h. refl;
        no_couples = λ h. refl;
        behind = omega arith;
        here = λ h m. omega (arith, e.0, z);
      }

  station-step : Step station
  unfolding more lengths
  station-step i k =
      let t = rises c station refl i in
      let q = has_every (λ m. m ≡ 1) (1 ∷ []) (size l) (refl, tt) k in
      let r = p.no_tracks t.1 in
      let n = p.no_trains (omega arith) in
      let a : at ≡ 8 + 4 * p.s = p.here t.0 (omega arith) ∙ ap (λ (m : ℕ). onward (past w) m (train_place p.s p.r)) n ∙ omega arith in
      record {
        s = suc p.s;
        r = 0;
        n = 0;
        q = 0;
        stations = ap₂ (λ (x : List ℕ) (y : ℕ). x ++ (y ∷ [])) p.stations (body-byte w at 0 (onward (λ i. i + 4) p.s 8 + 3) (omega arith) (omega (arith, onward-add 4 p.s 8)))
            ∙ sym (gather-more (station_in w) (λ i. i + 4) p.s 8);
        tracks = none _ ∙ p.tracks ∙ ap (λ (m : ℕ). tracks_from w m (track_place p.s)) r;
        trains = none _ ∙ p.trains ∙ ap (λ (m : ℕ). gather (train_in w) (past w) m (train_place p.s p.r)) n;
        couples = uncoupled (omega arith);
        head = λ h. p.head t.0;
        start = λ h. absurd (omega arith);
        no_tracks = λ h. refl;
        no_trains = λ h. refl;
        no_couples = λ h. refl;
        behind = omega arith;
        here = λ h m. omega (arith, z);
      }

  track-step : Step track
  unfolding more lengths
  track-step i k =
      let t = rises c track refl i in
      let q = has_every (λ m. m ≡ 3) (3 ∷ []) (size l) (refl, tt) k in
      let n = p.no_trains t.1 in
      let a : at ≡ 8 + 4 * p.s + 6 * p.r = p.here t.0 (omega arith) ∙ ap (λ (m : ℕ). onward (past w) m (train_place p.s p.r)) n in
      let o : at ≡ onward (λ i. i + 6) p.r (track_place p.s) = omega (arith, onward-add 6 p.r (track_place p.s)) in
      record {
        s = p.s;
        r = suc p.r;
        n = 0;
        q = 0;
        stations = none _ ∙ p.stations;
        tracks = ap₂ (λ (x : List Track) (y : Track). x ++ (y ∷ [])) p.tracks (track-read w at q ∙ ap (track_in w) o)
            ∙ sym (gather-more (track_in w) (λ i. i + 6) p.r (track_place p.s));
        trains = none _ ∙ p.trains ∙ ap (λ (m : ℕ). gather (train_in w) (past w) m (train_place p.s p.r)) n;
        couples = uncoupled (omega arith);
        head = λ h. p.head t.0;
        start = λ h. absurd (omega arith);
        no_tracks = λ h. absurd (omega arith);
        no_trains = λ h. refl;
        no_couples = λ h. refl;
        behind = omega arith;
        here = λ h m. omega (arith, z);
      }

  train-step : Step train
  unfolding more lengths
  train-step i k =
      let t = rises c train refl i in
      let q = has_every (λ m. 2 ≤ m) (lengths train) (size l) (omega arith) k in
      let a = p.here t.0 t.1 in
      record {
        s = p.s;
        r = p.r;
        n = suc p.n;
        q = 0;
        stations = none _ ∙ p.stations;
        tracks = none _ ∙ p.tracks;
        trains = ap₂ (λ (x : List Train) (y : Train). x ++ (y ∷ [])) p.trains (train-read w at q d.whole z ∙ ap (train_in w) a)
            ∙ sym (gather-more (train_in w) (past w) p.n (train_place p.s p.r));
        couples = uncoupled (omega arith);
        head = λ h. p.head t.0;
        start = λ h. absurd (omega arith);
        no_tracks = λ h. absurd (omega arith);
        no_trains = λ h. absurd (omega arith);
        no_couples = λ h. refl;
        behind = omega arith;
        here = λ h m. ap (past w) a ∙ sym (onward-more (past w) (past w) p.n (train_place p.s p.r));
      }

  table_step : Step table
  unfolding more lengths
  table_step i k =
      let t = rises c table refl i in
      record {
        s = p.s;
        r = p.r;
        n = p.n;
        q = 0;
        stations = none _ ∙ p.stations;
        tracks = none _ ∙ p.tracks;
        trains = none _ ∙ p.trains;
        couples = uncoupled (omega arith);
        head = λ h. p.head t.0;
        start = λ h. absurd (omega arith);
        no_tracks = λ h. absurd (omega arith);
        no_trains = λ h. absurd (omega arith);
        no_couples = λ h. refl;
        behind = omega arith;
        here = λ h m. absurd (omega arith);
      }

  couple-step : Step couple
  unfolding more lengths
  couple-step i k =
      let t = rises c couple refl i in
      let e = has_every (λ m. m ≡ 2) (2 ∷ []) (size l) (refl, tt) k in
      let first : past w at - 5 * suc p.q ≡ at - 5 * p.q = omega (arith, z, p.behind) in
      let o : at ≡ onward (λ i. i + 5) p.q (at - 5 * p.q) = omega (arith, onward-add 5 p.q (at - 5 * p.q), p.behind) in
      record {
        s = p.s;
        r = p.r;
        n = p.n;
        q = suc p.q;
        stations = none _ ∙ p.stations;
        tracks = none _ ∙ p.tracks;
        trains = none _ ∙ p.trains;
        couples = ap₂ (λ (x : List Couple) (y : Couple). x ++ (y ∷ [])) p.couples (couple-read w at e ∙ ap (couple_in w) o)
            ∙ sym (gather-more (couple_in w) (λ i. i + 5) p.q (at - 5 * p.q))
            ∙ ap (couples_from w (suc p.q)) (sym first);
        head = λ h. p.head t.0;
        start = λ h. absurd (omega arith);
        no_tracks = λ h. absurd (omega arith);
        no_trains = λ h. absurd (omega arith);
        no_couples = λ h. absurd (omega arith);
        behind = omega (arith, z, p.behind);
        here = λ h m. absurd (omega arith);
      }

  step : (k : Kind) → known k ≡ true → Step k
  unfolding known
  step no_field a = absurd (false≢true a)
  step head a = head_step
  step station a = station-step
  step track a = track-step
  step train a = train-step
  step table a = table_step
  step couple a = couple-step

  laid-step : Laid w (past w at) (with_field c at l)
  laid-step = step (kind l) d.a_tag d.stands_in_place d.a_length

-- of an accepted case
pub case-laid : (w : List ℕ) (c : Contents) → read case w ≡ answer c → Laid w (length w) c
case-laid w c h = (read_along case w (Laid w) (λ c at v p. laid-step w c at (field-accepted case c at (drop at w) v) p) c (laid-empty w) h).0
