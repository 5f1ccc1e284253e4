-- The arrivals that a joint run has logged are no more than the entries of its list.
-- Each arrival leaves an entry that stands at or past its train's last station; such an entry is never lost: it is cut into as many or more, or goes on. Assumes nothing.
use Rattle.std.specs.Prelude.{◌≡◌, Bool, not, ◌&&◌, ℕ, ◌+◌, ◌≤◌, ◌<◌, leb}
use Rattle.std.proofs.Math.Path.{refl}
use Rattle.std.proofs.Common.{sym, ap, ◌∙◌, length-append, leb-true, le-leb}
use Rattle.std.proofs.Math.Bool.{true, false}
use Rattle.std.proofs.lemmas.Bool.{false≢true}
use mathlib.Core.List.{List, [], ◌∷◌, ◌++◌, map}
use native.Mathlib.Omega.{arith}
use Rattle.std.proofs.Math.ListN.{length}
use Rattle.rules.specs.Lists.{one, each, keep, tick, sum, count}
use Rattle.rules.specs.Files.{Case}
use Rattle.rules.specs.Turns.{Place, same, Mark, stands, last_station, ended, asks, leaving, entered, arriving, elements, Served, due_again, Arrival, arrives}
use Rattle.rules.specs.Joint.{Piece, Entry, entry, pieces, serve_entry, first_list, joint_rules, joint, covered}
use Rattle.theory_sound.specs.Facts.{Sound}
use Rattle.theory_lists.specs.Every.{every_all}
use Rattle.theory_lists.specs.Sums.{sum-append, count-le}
use Rattle.theory_sound.specs.Ways.{same_true}
use Rattle.theory_simulation.specs.Places.{Asked, asked}
use Rattle.theory_simulation.specs.Orderly.{to_go}
use Rattle.theory_lists.specs.Items.{served_list}
use Rattle.theory_simulation.specs.Keeping.{run_keeps}
use Rattle.theory_trace.specs.Longest.{serve_entry-grows}
use Rattle.theory_trace.specs.Room.{list-fits}

-- the mark has come in: it stands at its train's last station, or past it
abbrev pub has_come : Case → Mark → Bool
has_come C m = not m.blocks && leb (to_go C m.train m.place) (to_go C m.train (last_station C m.train))

-- the entry has come in
abbrev pub entry_come : Case → Entry → Bool
entry_come C r = has_come C r.mark

-- ---- the ends of blocks

-- those that have come in are no blocks, so none of them ends
count_kept : (C : Case) (t : ℕ) (l : List Entry) → count (entry_come C) l ≤ count (entry_come C) (keep (λ r. not (ended t r.mark)) l)
unfolding ended
count_kept C t [] = omega arith
count_kept C t (r ∷ l) = go r.mark.blocks refl (count_kept C t l)
  where
    rest : List Entry
    rest = keep (λ r. not (ended t r.mark)) l

    go : (b : Bool) → r.mark.blocks ≡ b → count (entry_come C) l ≤ count (entry_come C) rest
        → tick (not b && leb (to_go C r.mark.train r.mark.place) (to_go C r.mark.train (last_station C r.mark.train))) + count (entry_come C) l
        ≤ count (entry_come C) (one (not (b && leb r.mark.minute t)) r ++ rest)
    go true q ih = omega (arith, sum-append (λ r. tick (entry_come C r)) (one (not (leb r.mark.minute t)) r) rest)
    go false q ih = rw q (omega arith)

-- ---- serving

-- as many as the list is long, or none
abbrev as_many : {A : Type 0} → Bool → List A → ℕ
as_many b l = sum (λ a. tick b) l

as_many-length : {A : Type 0} (l : List A) → as_many true l ≡ length l
as_many-length [] = refl
as_many-length (a ∷ l) = omega (arith, as_many-length l)

as_many-none : {A : Type 0} (l : List A) → as_many false l ≡ 0
as_many-none [] = refl
as_many-none (a ∷ l) = omega (arith, as_many-none l)

module _ (C : Case) (sound : Sound C) (t : ℕ) (e : Place) (a : Entry) where
  abbrev k : ℕ
  k = a.mark.train

  -- whether a train that enters the element has then come in
  abbrev comes_in : Bool
  comes_in = leb (to_go C k e) (to_go C k (last_station C k))

  -- what pieces of the entry come to
  abbrev held_of : List Piece → List Entry
  held_of ps = map (λ q. entry a.mark q.cover) ps

  abbrev added_of : List Piece → List Entry
  added_of ps = each (λ q. map (λ m. entry m q.cover) (entered C t e a.mark)) ps

  abbrev arrived_of : List Piece → List (Arrival Entry)
  arrived_of ps = each (λ q. map (covered q.cover) (arriving C t e a.mark)) ps

  -- each held piece has come in where the entry had
  count_held : (ps : List Piece) → count (entry_come C) (held_of ps) ≡ as_many (entry_come C a) ps
  count_held [] = refl
  count_held (q ∷ ps) = omega (arith, count_held ps)

  -- each entering piece adds an entry that stands on the element
  count-added : (ps : List Piece) → as_many comes_in ps ≤ count (entry_come C) (added_of ps)
  unfolding entered
  count-added [] = omega arith
  count-added (q ∷ ps) =
      omega (arith, count-added ps, sum-append (λ r. tick (entry_come C r)) (map (λ m. entry m q.cover) (leaving C t a.mark)) (added_of ps))

  -- each entering piece arrives where the element is the train's last station
  length-arrived : (ps : List Piece) → length (arrived_of ps) ≡ as_many (same e (last_station C k)) ps
  unfolding arriving
  length-arrived ps = go (same e (last_station C k)) ps
    where
      go : (b : Bool) (ps : List Piece) → length (each (λ q. map (covered q.cover) (one b (arrives (stands k e (due_again C t k e)) t))) ps) ≡ as_many b ps
      go true [] = refl
      go true (q ∷ ps) = omega (arith, go true ps)
      go false [] = refl
      go false (q ∷ ps) = omega (arith, go false ps)

  -- a train that has come in goes on, and arrives no more
  in_goes-on : Asked C t e a.mark → entry_come C a ≡ true → (comes_in ≡ true) × (same e (last_station C k) ≡ false)
  in_goes-on q h = (le-leb (to_go C k e) (to_go C k (last_station C k)) (omega (arith, less)), go (same e (last_station C k)) refl)
    where
      less : to_go C k e < to_go C k (last_station C k)
      less =
          omega (arith, sound.onward k a.mark.place e q.goes, leb-true (to_go C k a.mark.place) (to_go C k (last_station C k)) (sym (ap (λ (b : Bool). not b && leb (to_go C k a.mark.place) (to_go C k (last_station C k))) q.stood) ∙ h))

      go : (b : Bool) → same e (last_station C k) ≡ b → b ≡ false
      go true s = absurd (omega (arith, less, ap (to_go C k) (same_true e (last_station C k) s)))
      go false s = refl

  -- a train that arrives has come in
  arrives_in_lem : same e (last_station C k) ≡ true → comes_in ≡ true
  arrives_in_lem s = le-leb (to_go C k e) (to_go C k (last_station C k)) (omega (arith, ap (to_go C k) (same_true e (last_station C k) s)))

  -- serving adds no arrival without an entry that has come in, and loses none that had
  served_in_lem : Asked C t e a.mark → (hs es : List Piece) → 1 ≤ length (held_of hs) + length (added_of es)
      → length (arrived_of es) + tick (entry_come C a) ≤ count (entry_come C) (held_of hs) + count (entry_come C) (added_of es)
  served_in_lem q hs es some =
      omega (arith, length-arrived es, count_held hs, count-added es, go (entry_come C a) comes_in (same e (last_station C k)) (in_goes-on q) arrives_in_lem)
    where
      left : (hs es : List Piece) → 1 ≤ length (held_of hs) + length (added_of es) → 1 ≤ length hs + length es
      left [] [] h = h
      left [] (p ∷ es) h = omega arith
      left (p ∷ hs) es h = omega arith

      go : (x y z : Bool) → (x ≡ true → (y ≡ true) × (z ≡ false)) → (z ≡ true → y ≡ true) → as_many z es + tick x ≤ as_many x hs + as_many y es
      go true true false f g = omega (arith, as_many-length hs, as_many-length es, as_many-none es, left hs es some)
      go true true true f g = absurd (false≢true (sym (f refl).1))
      go true false z f g = absurd (false≢true (f refl).0)
      go false true true f g = omega arith
      go false y false f g = omega (arith, as_many-none es)
      go false false true f g = absurd (false≢true (g refl))

-- ---- the run

-- no more have arrived than entries of the list have come in
abbrev Logged : Case → List Entry → List (Arrival Entry) → Type 0
Logged C l v = length v ≤ count (entry_come C) l

logged_serve : (C : Case) → Sound C → (t : ℕ) (e : Place) (b : List Entry) (a : Entry) (c : List Entry) (v : List (Arrival Entry)) → asks C t e a.mark ≡ true → Logged C (b ++ (a ∷ c)) v
    → Logged C (served_list ((joint_rules C).serve t e (b ++ (a ∷ c)) a) b c) (v ++ ((joint_rules C).serve t e (b ++ (a ∷ c)) a).arrived)
unfolding joint_rules serve_entry
logged_serve C sound t e b a c v q h =
    omega (
      arith,
      length-append v s.arrived,
      sum-append (λ r. tick (entry_come C r)) (b ++ s.rows ++ c) s.added,
      sum-append (λ r. tick (entry_come C r)) (b ++ s.rows) c,
      sum-append (λ r. tick (entry_come C r)) b s.rows,
      sum-append (λ r. tick (entry_come C r)) b (a ∷ c),
      served_in_lem C sound t e a (asked C t e a.mark q) (keep (λ q. q.held) ps) (keep (λ q. not q.held) ps) (serve_entry-grows C t e (b ++ (a ∷ c)) a),
    )
  where
    ps : List Piece
    ps = pieces C e (b ++ (a ∷ c)) a

    s : Served Entry
    s = serve_entry C t e (b ++ (a ∷ c)) a

-- after each minute no more have arrived than the list has entries
pub arrived-list : (C : Case) → Sound C → (m : ℕ) → length (joint C m).arrived ≤ length (joint C m).list
unfolding joint joint_rules
arrived-list C sound m =
    omega (
      arith,
      count-le (entry_come C) (joint C m).list,
      run_keeps C (joint_rules C) m (λ e. Unit) (every_all (λ e. Unit) (λ e. tt) (elements C)) (Logged C)
          (λ t h l v p. omega (arith, count_kept C t l))
          (λ t h e u b a c v q p. logged_serve C sound t e b a c v q p)
          (first_list C) (omega arith) m (omega arith),
    )

-- an answered run has logged at most 1,024 arrivals
pub arrived-few : (C : Case) → Sound C → (m : ℕ) → (joint C m).met ≡ 0 → length (joint C m).arrived ≤ 1024
arrived-few C sound m answered = omega (arith, arrived-list C sound m, list-fits C m answered m (omega arith), sound.in_room)
