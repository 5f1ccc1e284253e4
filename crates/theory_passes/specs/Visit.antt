-- A visit of an element is one walk after another, train by train in `order`: the askers fixed beforehand are served by priority, train and row.
-- While the trains still to come are known, the rows that have yet to be served are those of these trains that ask, so they need not be kept. Assumes nothing.
use Rattle.std.specs.Prelude.{◌≡◌, Bool, ◌&&◌, ◌||◌, cond, ℕ, zero, suc, ◌≤◌, ◌<◌, length, ltb, eqb}
use Rattle.std.proofs.Math.Path.{refl, sym, ap}
use Rattle.std.proofs.Common.{ap₂, ◌∙◌, le_trans, le_of_eq, arith, ltb-true, ltb-false, eqb-true, eq-eqb}
use Rattle.std.proofs.Math.Bool.{true, false, and-false, or-true}
use Rattle.std.proofs.lemmas.Bool.{false≢true}
use mathlib.Core.List.{List, [], ◌∷◌, ◌++◌, map, append-nil, append_assoc}
use Rattle.std.proofs.lemmas.List.{length-map}
use Rattle.std.proofs.Math.ListN.{get_or-eq_default}
use Rattle.rules.specs.Lists.{fold, has}
use Rattle.rules.specs.Files.{Train, Case}
use Rattle.rules.specs.Turns.{Place, same, Mark, Leg, absent, legs, way, after, ahead, head_is, asks, sooner, Served, State, state, Row, row, items, quiet, Turn, Rules, visiting, left, next, serve_next, turns, visit, Arrival}
use Rattle.rules.specs.Turns.Place.{outside}
use Rattle.rules.specs.Turns.Turn.{somebody}
use Rattle.theory_codes.specs.Tables.{order}
use Rattle.theory_lists.specs.Each.{map-append}
use Rattle.theory_lists.specs.Every.{Every, every_append, every_map, every_all, every_more, has_every}
use Rattle.theory_lists.specs.Sums.{count-le}
use Rattle.theory_simulation.specs.Askers.{Asking, next-first}
use Rattle.theory_simulation.specs.Places.{asked}
use Rattle.theory_lists.specs.Items.{items-start, served_rows, served_list, items-served}
use Rattle.theory_simulation.specs.Runs.{askers, askers-served, turns-nobody}
use Rattle.theory_lists.specs.Tests.{and_true-first}
use Rattle.theory_passes.specs.Passes.{asks_for}
use Rattle.theory_passes.specs.Order.{earlier, sooner-trains, earlier_asym, earlier_self, Ordered, ordered-once, order-ordered, order-has}
use Rattle.theory_passes.specs.Marks.{Own}
use Rattle.theory_passes.specs.Walk.{asks_for-asks, asks_for-train, mine, met_with, walk_one, walk, walk_all}

module _ {A : Type 0} (C : Case) (R : Rules A) (t : ℕ) (e : Place) where
  -- the state after f turns
  abbrev after_turns : ℕ → List (Row A) → List (Arrival A) → ℕ → State A
  after_turns f rs v n = left (turns C R f t e (visiting rs v n))

  -- the items of the trains ks that ask have yet to be served
  abbrev flag : List ℕ → List A → List (Row A)
  flag ks l = map (λ a. row a (has ks (R.mark a).train && asks C t e (R.mark a))) l

  -- rows that have yet to be served are of these trains
  flag-asking : (P : Mark → Type 0) (ks : List ℕ) → ((m : Mark) → has ks m.train ≡ true → P m) → (l : List A) → Every (Asking R P) (flag ks l)
  flag-asking P ks h l =
      every_map (λ a. Unit) (Asking R P) (λ a. row a (has ks (R.mark a).train && asks C t e (R.mark a)))
      (λ a u q. h (R.mark a) (and_true-first (has ks (R.mark a).train) (asks C t e (R.mark a)) q)) l (every_all (λ a. Unit) (λ a. tt) l)

  flag-append : (ks : List ℕ) (s u : List A) → flag ks (s ++ u) ≡ flag ks s ++ flag ks u
  flag-append ks s u = map-append (λ a. row a (has ks (R.mark a).train && asks C t e (R.mark a))) s u

  -- items of another train need not be served
  flag-quiet : (ks : List ℕ) (k : ℕ) → has ks k ≡ false → (l : List A) → Every (λ i. (R.mark i).train ≡ k) l → quiet l ≡ flag ks l
  flag-quiet ks k h [] q = refl
  flag-quiet ks k h (a ∷ l) q =
      ap₂ (λ (z : Bool) (w : List (Row A)). row a z ∷ w) (sym (ap (λ (j : ℕ). has ks j && asks C t e (R.mark a)) q.0 ∙ ap (λ (z : Bool). z && asks C t e (R.mark a)) h)) (flag-quiet ks k h l q.1)

  flag-nobody : (l : List A) → Every (λ r. r.asking ≡ false) (flag [] l)
  flag-nobody [] = tt
  flag-nobody (a ∷ l) = (refl, flag-nobody l)

  items-flag : (ks : List ℕ) (l : List A) → items (flag ks l) ≡ l
  items-flag ks l = items-start (λ a. has ks (R.mark a).train && asks C t e (R.mark a)) l

  module _ (own : Own R) (k : ℕ) (ks : List ℕ) (sorted : Ordered C (k ∷ ks)) where
    -- rows on the way of train k's walk
    abbrev rows_of : List A → List A → List A → List (Row A)
    rows_of done rest new = flag ks done ++ (flag (k ∷ ks) rest ++ flag ks new)

    after-k : (m : Mark) → has ks m.train ≡ true → earlier C k m.train ≡ true
    after-k m h = has_every (λ j. earlier C k j ≡ true) ks m.train sorted.0 h

    not-before-k : (m : Mark) → has (k ∷ ks) m.train ≡ true → earlier C m.train k ≡ false
    not-before-k m h = go (eqb m.train k) refl h
      where
        go : (b : Bool) → eqb m.train k ≡ b → (b || has ks m.train) ≡ true → earlier C m.train k ≡ false
        go true q h = ap (λ (j : ℕ). earlier C j k) (eqb-true m.train k q) ∙ earlier_self C k
        go false q h = earlier_asym C k m.train (after-k m h)

    module _ (done : List A) (a : A) (rest new : List A) (asker : mine C R t e k a ≡ true) where
      is-k : (R.mark a).train ≡ k
      is-k = asks_for-train C t e k (R.mark a) asker

      -- the first asker of train k is next
      next-is : next C R (flag ks done ++ (row a true ∷ (flag (k ∷ ks) rest ++ flag ks new))) ≡ somebody (flag ks done) a (flag (k ∷ ks) rest ++ flag ks new)
      next-is =
          next-first C R (flag ks done) a (flag (k ∷ ks) rest ++ flag ks new)
          (flag-asking (λ m. sooner C (R.mark a) m ≡ true) ks (λ m h. sooner-trains C (R.mark a) m ∙ ap (λ (j : ℕ). earlier C j m.train) is-k ∙ after-k m h) done)
          (every_append (Asking R (λ m. sooner C m (R.mark a) ≡ false)) (flag (k ∷ ks) rest) (flag ks new)
          (flag-asking (λ m. sooner C m (R.mark a) ≡ false) (k ∷ ks) not-sooner rest)
          (flag-asking (λ m. sooner C m (R.mark a) ≡ false) ks (λ m h. not-sooner m (ap (λ (z : Bool). eqb m.train k || z) h ∙ or-true (eqb m.train k))) new))
        where
          not-sooner : (m : Mark) → has (k ∷ ks) m.train ≡ true → sooner C m (R.mark a) ≡ false
          not-sooner m h = sooner-trains C m (R.mark a) ∙ ap (earlier C m.train) is-k ∙ not-before-k m h

      -- the rows after it is served
      rows-served : (l : List A) → let s = R.serve t e l a in served_rows s (flag ks done) (flag (k ∷ ks) rest ++ flag ks new) ≡ rows_of (done ++ s.rows) rest (new ++ s.added)
      rows-served l =
          ap₂ (λ (y z : List (Row A)). flag ks done ++ y ++ (flag (k ∷ ks) rest ++ flag ks new) ++ z)
          (flag-quiet ks k (ordered-once C k ks sorted) s.rows (of-k s.rows (own t e l a).0))
          (flag-quiet ks k (ordered-once C k ks sorted) s.added (of-k s.added (own t e l a).1))
          ∙ append_assoc (flag ks done ++ flag ks s.rows) (flag (k ∷ ks) rest ++ flag ks new) (flag ks s.added)
          ∙ ap₂ (λ (y z : List (Row A)). y ++ z) (sym (flag-append ks done s.rows))
          (append_assoc (flag (k ∷ ks) rest) (flag ks new) (flag ks s.added) ∙ ap (λ (z : List (Row A)). flag (k ∷ ks) rest ++ z) (sym (flag-append ks new s.added)))
        where
          s : Served A
          s = R.serve t e l a

          of-k : (w : List A) → Every (λ i. (R.mark i).train ≡ (R.mark a).train) w → Every (λ i. (R.mark i).train ≡ k) w
          of-k w h = every_more (λ i. (R.mark i).train ≡ (R.mark a).train) (λ i. (R.mark i).train ≡ k) (λ i q. q ∙ is-k) w h

    -- a row that is not served now stays as it is
    stays-row : (a : A) → mine C R t e k a ≡ false → (has (k ∷ ks) (R.mark a).train && asks C t e (R.mark a)) ≡ (has ks (R.mark a).train && asks C t e (R.mark a))
    unfolding asks_for
    stays-row a h = go (eqb (R.mark a).train k) (asks C t e (R.mark a)) h
      where
        go : (b c : Bool) → (b && c) ≡ false → ((b || has ks (R.mark a).train) && c) ≡ (has ks (R.mark a).train && c)
        go true true q = absurd (false≢true (sym q))
        go true false q = sym (and-false (has ks (R.mark a).train))
        go false c q = refl

    serves_row : (a : A) → mine C R t e k a ≡ true → (has (k ∷ ks) (R.mark a).train && asks C t e (R.mark a)) ≡ true
    serves_row a h =
        ap₂ (λ (y z : Bool). (y || has ks (R.mark a).train) && z) (eq-eqb (R.mark a).train k (asks_for-train C t e k (R.mark a) h)) (asks_for-asks C t e k (R.mark a) h)

    items-rows : (done rest new : List A) → items (rows_of done rest new) ≡ done ++ (rest ++ new)
    items-rows done rest new =
        map-append (λ r. r.item) (flag ks done) (flag (k ∷ ks) rest ++ flag ks new)
        ∙ ap₂ (λ (y z : List A). y ++ z) (items-flag ks done)
        (map-append (λ r. r.item) (flag (k ∷ ks) rest) (flag ks new) ∙ ap₂ (λ (y z : List A). y ++ z) (items-flag (k ∷ ks) rest) (items-flag ks new))

    -- serving goes on with the walk of train k, and then with what `finish` does
    module _ (finish : State A → State A)
        (law : (f : ℕ) (l : List A) (v : List (Arrival A)) (n : ℕ) → askers (flag ks l) ≤ f → after_turns f (flag ks l) v n ≡ finish (state l v n)) where
      serve-walk : (done rest new : List A) (v : List (Arrival A)) (n f : ℕ) → askers (rows_of done rest new) ≤ f
          → after_turns f (rows_of done rest new) v n ≡ finish (walk C R t e k done rest new v n)
      unfolding walk turns
      serve-walk done [] new v n f h =
          ap (λ (rs : List (Row A)). after_turns f rs v n) (sym (flag-append ks done new))
          ∙ law f (done ++ new) v n (le_trans (le_of_eq (ap askers (flag-append ks done new))) h)
      serve-walk done (a ∷ rest) new v n f h = go (mine C R t e k a) refl (λ d w. serve-walk d rest w)
        where
          go : (b : Bool) → mine C R t e k a ≡ b
              → ((d w : List A) (v : List (Arrival A)) (n f : ℕ) → askers (rows_of d rest w) ≤ f → after_turns f (rows_of d rest w) v n ≡ finish (walk C R t e k d rest w v n))
              → after_turns f (rows_of done (a ∷ rest) new) v n ≡ finish (walk_one C R t e (λ d w. walk C R t e k d rest w) done a rest new v n b)
          go true q ih = by f h
            where
              c : List (Row A)
              c = flag (k ∷ ks) rest ++ flag ks new

              here : rows_of done (a ∷ rest) new ≡ flag ks done ++ (row a true ∷ c)
              here = ap (λ (z : Bool). flag ks done ++ (row a z ∷ c)) (serves_row a q)

              listed : items (flag ks done ++ (row a true ∷ c)) ≡ done ++ (a ∷ (rest ++ new))
              listed = ap items (sym here) ∙ items-rows done (a ∷ rest) new

              s : Served A
              s = R.serve t e (done ++ (a ∷ (rest ++ new))) a

              checked : items (served_rows s (flag ks done) c) ≡ served_list s done (rest ++ new)
              checked =
                  items-served s (flag ks done) c
                  ∙ ap₂ (λ (y z : List A). served_list s y z) (items-flag ks done)
                  (map-append (λ r. r.item) (flag (k ∷ ks) rest) (flag ks new) ∙ ap₂ (λ (y z : List A). y ++ z) (items-flag (k ∷ ks) rest) (items-flag ks new))

              fewer : suc (askers (served_rows s (flag ks done) c)) ≡ askers (rows_of done (a ∷ rest) new)
              fewer = askers-served s (flag ks done) a c ∙ ap askers (sym here)

              by : (f : ℕ) → askers (rows_of done (a ∷ rest) new) ≤ f
                  → after_turns f (rows_of done (a ∷ rest) new) v n ≡ finish (walk_one C R t e (λ d w. walk C R t e k d rest w) done a rest new v n true)
              by zero h = absurd (omega (arith, fewer))
              by (suc f) h =
                  ap (λ (rs : List (Row A)). left (turns C R f t e (serve_next C R t e (visiting rs v n) (next C R rs)))) here
                  ∙ ap (λ (u : Turn A). left (turns C R f t e (serve_next C R t e (visiting (flag ks done ++ (row a true ∷ c)) v n) u))) (next-is done a rest new q)
                  ∙ ap (λ (l : List A). let u = R.serve t e l a in after_turns f (served_rows u (flag ks done) c) (v ++ u.arrived) (met_with C R t e n (items (served_rows u (flag ks done) c)))) listed
                  ∙ ap₂ (λ (rs : List (Row A)) (l : List A). after_turns f rs (v ++ s.arrived) (met_with C R t e n l)) (rows-served done a rest new q (done ++ (a ∷ (rest ++ new)))) checked
                  ∙ ih (done ++ s.rows) (new ++ s.added) (v ++ s.arrived) (met_with C R t e n (served_list s done (rest ++ new))) f
                  (omega (arith, fewer, ap askers (rows-served done a rest new q (done ++ (a ∷ (rest ++ new))))))
          go false q ih =
              ap (λ (rs : List (Row A)). after_turns f rs v n) here
              ∙ ih (done ++ (a ∷ [])) new v n f (le_trans (le_of_eq (ap askers (sym here))) h)
            where
              here : rows_of done (a ∷ rest) new ≡ rows_of (done ++ (a ∷ [])) rest new
              here =
                  ap (λ (z : Bool). flag ks done ++ (row a z ∷ (flag (k ∷ ks) rest ++ flag ks new))) (stays-row a q)
                  ∙ sym (append_assoc (flag ks done) (flag ks (a ∷ [])) (flag (k ∷ ks) rest ++ flag ks new))
                  ∙ ap (λ (z : List (Row A)). z ++ (flag (k ∷ ks) rest ++ flag ks new)) (sym (flag-append ks done (a ∷ [])))

  -- the askers of trains in order, served as they come, are served train by train
  serve_walks : Own R → (ks : List ℕ) → Ordered C ks → (f : ℕ) (l : List A) (v : List (Arrival A)) (n : ℕ) → askers (flag ks l) ≤ f
      → after_turns f (flag ks l) v n ≡ fold (walk_all C R t e) ks (state l v n)
  serve_walks own [] o f l v n h =
      ap left (turns-nobody C R f t e (visiting (flag [] l) v n) (flag-nobody l)) ∙ ap (λ (w : List A). state w v n) (items-flag [] l)
  serve_walks own (k ∷ ks) o f l v n h =
      ap (λ (rs : List (Row A)). after_turns f rs v n) (sym (append-nil (flag (k ∷ ks) l)))
      ∙ serve-walk own k ks o (fold (walk_all C R t e) ks) (serve_walks own ks o.1) [] l [] v n f (le_trans (le_of_eq (ap askers (append-nil (flag (k ∷ ks) l)))) h)

  -- a train that asks is one of the case
  pub asks-known : (m : Mark) → asks C t e m ≡ true → m.train < length C.trains
  unfolding ahead way
  asks-known m h = go (ltb m.train (length C.trains)) refl
    where
      -- a train that is not there has no way
      none : (b : Bool) (w : List Leg) → w ≡ [] → head_is e (cond b w (after m.place w)) ≡ false
      none true w q = ap (head_is e) q
      none false w q = ap (λ (u : List Leg). head_is e (after m.place u)) q

      go : (b : Bool) → ltb m.train (length C.trains) ≡ b → m.train < length C.trains
      go true q = ltb-true m.train (length C.trains) q
      go false q =
          absurd (false≢true (sym (none (same m.place outside) (way C m.train) (ap (λ (u : Train). legs C.tracks u.stops) (get_or-eq_default C.trains absent (ltb-false m.train (length C.trains) q))))
          ∙ (asked C t e m h).goes))

  -- so those in order that ask are all that ask
  flag-order : (l : List A) → map (λ a. row a (asks C t e (R.mark a))) l ≡ flag (order C) l
  flag-order [] = refl
  flag-order (a ∷ l) = ap₂ (λ (z : Bool) (w : List (Row A)). row a z ∷ w) (go (asks C t e (R.mark a)) refl) (flag-order l)
    where
      go : (b : Bool) → asks C t e (R.mark a) ≡ b → b ≡ (has (order C) (R.mark a).train && b)
      go true h = sym (ap (λ (z : Bool). z && true) (order-has C (R.mark a).train (asks-known (R.mark a) h)))
      go false h = sym (and-false (has (order C) (R.mark a).train))

  -- a visit is the walks of all trains, in order
  pub visit_walks : Own R → (s : State A) → visit C R t e s ≡ fold (walk_all C R t e) (order C) s
  unfolding visit
  visit_walks own s =
      ap (λ (rs : List (Row A)). after_turns (length s.list) rs s.arrived s.met) (flag-order s.list)
      ∙ serve_walks own (order C) (order-ordered C) (length s.list) s.list s.arrived s.met
      (le_trans (count-le (λ r. r.asking) (flag (order C) s.list)) (le_of_eq (length-map s.list (λ a. row a (has (order C) (R.mark a).train && asks C t e (R.mark a))))))
