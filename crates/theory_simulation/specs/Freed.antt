-- Request 3 of 02, of the single run alone: an element of capacity 1 that a train has left is held by its block before minute t + safety time, and free from
-- then on. Where the block is on the element nothing else is, and each step before its end keeps it; once it has gone, or where none was left, nothing is on
-- the element until its next turn. Takes `Sound` as given, and assumes nothing else.
use Rattle.std.specs.Prelude.{◌≡◌, Bool, ◌&&◌, ◌||◌, cond, ℕ, zero, suc, ◌+◌, ◌≤◌, ◌<◌, eqb}
use Rattle.std.proofs.Math.Path.{refl, ap, ap₂, subst}
use Rattle.std.proofs.Common.{sym, ◌∙◌, le_trans, le_refl}
use Rattle.std.proofs.Math.Bool.{true, false, not, and-false}
use Rattle.std.proofs.lemmas.Bool.{false≢true}
use mathlib.Core.List.{List, [], ◌∷◌, ◌++◌, append-nil, append_assoc}
use native.Mathlib.Omega.{arith}
use Rattle.std.proofs.Math.Dec.{ltb}
use borrow.Author.Tests.{eqb-true, ltb-true, ltb-false, lt-ltb, le-ltb, eq-eqb}
use Rattle.rules.specs.Lists.{one, keep, any, tick, count, fold}
use Rattle.rules.specs.Files.{Case}
use Rattle.rules.specs.Turns.{Place, same, Mark, block, elements, capacity, ended, asks, leaves_block, leaving, entered, Arrival, arriving, served}
use Rattle.rules.specs.Turns.{State, state, visit, minute, minutes, run_from}
use Rattle.rules.specs.Turns.Place.{outside, station, track, gone}
use Rattle.rules.specs.Single.{first_marks, trains_on, partner_held, enters, serve_train, single_rules, single}
use Rattle.rules.specs.Demands.{is_standing}
use Rattle.rules.specs.Freed.{visited_before, at_turn, after_turn, Leaves, Later, FirstTurn, FreeAgain}
use Rattle.rules.specs.Freed.Later.{in_later_minute, in_same_minute}
use Rattle.theory_sound.specs.Facts.{Sound}
use Rattle.theory_sound.specs.Ways.{same_true}
use Rattle.theory_lists.specs.Tests.{and_true-first, and_true-second}
use Rattle.theory_lists.specs.Every.{Every, every_all, none_any}
use Rattle.theory_lists.specs.Sums.{sum_every, sum-zero, sum-keep-le}
use Rattle.theory_lists.specs.Folds.{fold-append}
use Rattle.theory_lists.specs.Items.{served_list}
use Rattle.theory_simulation.specs.Keeping.{visits_keep, minutes-keep}
use Rattle.theory_simulation.specs.Orderly.{is_on, to_go, Orderly, trains_on-count}
use Rattle.theory_simulation.specs.Steps.{sum_around, sum-entered, nearer, after-elsewhere, serve-orderly, end-orderly}
use Rattle.theory_simulation.specs.Start.{first-orderly}
use Rattle.theory_simulation.specs.Visited.{visited_after, visited_split, before-others, before-before, after_every, after-others, elements-once}
use Rattle.theory_simulation.specs.Blocks.{leaves_when, is_block, block-is, blocks-on, asker_other, block-stays, block-goes-not, block_goes, block-alone}

-- ---- whether one passes a test, and how many do

-- one passes, so they are at least one
some-count : {A : Type 0} (test : A → Bool) (l : List A) → any test l ≡ true → 1 ≤ count test l
some-count test [] h = absurd (false≢true h)
some-count test (a ∷ l) h = go (test a) h (some-count test l)
  where
    go : (b : Bool) → (b || any test l) ≡ true → (any test l ≡ true → 1 ≤ count test l) → 1 ≤ tick b + count test l
    go true h ih = omega arith
    go false h ih = omega (arith, ih h)

-- none passes, so they are none
none-count : {A : Type 0} (test : A → Bool) (l : List A) → any test l ≡ false → count test l ≡ 0
none-count test l h = sum_every (λ a. test a ≡ false) (λ a. tick (test a)) (λ a. 0) (λ a q. ap tick q) l (none_any test l h) ∙ sum-zero l

-- ---- one minute of marks that are in order

-- Q of the marks is kept in minute t, where the elements have E and each mark that enters keeps it
module _ (C : Case) (sound : Sound C) (t : ℕ) (E : Place → Type 0) (Q : List Mark → Type 0)
    (by-enter : (p : Place) → E p → (b : List Mark) (m : Mark) (c : List Mark) (v : List (Arrival Mark)) → asks C t p m ≡ true → Orderly C (b ++ (m ∷ c)) v
    → Q (b ++ (m ∷ c)) → Q (b ++ [] ++ c ++ entered C t p m)) where
  -- marks in order that have Q
  abbrev Both : List Mark → List (Arrival Mark) → Type 0
  Both l v = Orderly C l v × Q l

  serve-both : (p : Place) → E p → (b : List Mark) (m : Mark) (c : List Mark) (v : List (Arrival Mark)) → asks C t p m ≡ true → Both (b ++ (m ∷ c)) v
      → Both (served_list (serve_train C t p (b ++ (m ∷ c)) m) b c) (v ++ (serve_train C t p (b ++ (m ∷ c)) m).arrived)
  unfolding serve_train
  serve-both p h b m c v ask both = (serve-orderly C sound t p m ask b c v both.0, go (enters C p m.train (b ++ (m ∷ c))))
    where
      go : (z : Bool) → Q (served_list (cond z (served [] (entered C t p m) (arriving C t p m)) (served (m ∷ []) [] [])) b c)
      go true = by-enter p h b m c v ask both.0 both.1
      go false = subst Q (sym (append-nil (b ++ (m ∷ []) ++ c) ∙ append_assoc b (m ∷ []) c)) both.1

  visits_both : (ps : List Place) → Every E ps → (s : State Mark) → Both s.list s.arrived
      → Both (fold (visit C (single_rules C) t) ps s).list (fold (visit C (single_rules C) t) ps s).arrived
  unfolding single_rules
  visits_both = visits_keep C (single_rules C) t E Both serve-both

-- ---- an element of capacity 1

module _ (C : Case) (e : Place) (room : capacity C e ≡ 1) where
  -- it is an element proper: neither outside nor the way out
  not-outside : same e outside ≡ false
  unfolding capacity same
  not-outside = go e room
    where
      go : (p : Place) → capacity C p ≡ 1 → same p outside ≡ false
      go outside h = absurd (omega arith)
      go (station i) h = refl
      go (track j) h = refl
      go gone h = absurd (omega arith)

  not-gone : same e gone ≡ false
  unfolding capacity same
  not-gone = go e room
    where
      go : (p : Place) → capacity C p ≡ 1 → same p gone ≡ false
      go outside h = absurd (omega arith)
      go (station i) h = refl
      go (track j) h = refl
      go gone h = absurd (omega arith)

  module _ (l : List Mark) (v : List (Arrival Mark)) (o : Orderly C l v) where
    -- at most one mark is on it
    on-few : count (is_on e) l ≤ 1
    on-few = omega (arith, o.within e not-outside not-gone, room)

    -- where one is, nobody enters
    enters-not : (j : ℕ) → 1 ≤ count (is_on e) l → enters C e j l ≡ false
    unfolding enters
    enters-not j h =
        let held : ltb (trains_on C e l) (capacity C e) ≡ false = le-ltb (trains_on C e l) (capacity C e) (omega (arith, trains_on-count C l v o e, room)) in
        ap₂ (λ (a b : Bool). a || (b && not (partner_held C e j l))) not-gone held

    -- where none is, who asks may enter, unless the partner is held
    enters-free : (j : ℕ) → count (is_on e) l ≡ 0 → enters C e j l ≡ not (partner_held C e j l)
    unfolding enters
    enters-free j h =
        let free : ltb (trains_on C e l) (capacity C e) ≡ true = lt-ltb (trains_on C e l) (capacity C e) (omega (arith, trains_on-count C l v o e, room)) in
        ap₂ (λ (a b : Bool). a || (b && not (partner_held C e j l))) not-gone free

-- while other elements are visited, nothing comes on an empty one
stays-empty : (C : Case) → Sound C → (e : Place) (t : ℕ) (ps : List Place) → Every (λ p. same p e ≡ false) ps
    → (s : State Mark) → Orderly C s.list s.arrived → count (is_on e) s.list ≡ 0 → count (is_on e) (fold (visit C (single_rules C) t) ps s).list ≡ 0
stays-empty C sound e t ps others s o h =
    (visits_both C sound t (λ p. same p e ≡ false) (λ l. count (is_on e) l ≡ 0)
    (λ p other b m c v ask d none. omega (arith, after-elsewhere C sound t p m ask b c v d e other)) ps others s (o, h)).1

-- ---- the states of a run

module _ (C : Case) (sound : Sound C) (x : List ℕ) where
  -- before minute t
  abbrev before : ℕ → State Mark
  before t = minutes C (single_rules C) t (state (first_marks C x) [] 0)

  -- in minute t, when the blocks that ended have gone
  abbrev opened : ℕ → State Mark
  opened t = state (keep (λ m. not (ended t m)) (before t).list) (before t).arrived (before t).met

  -- after minute t
  single-before : (t : ℕ) → single C x t ≡ before (suc t)
  unfolding single run_from single_rules
  single-before t = refl

  -- minute t
  minute_visits : (t : ℕ) → before (suc t) ≡ fold (visit C (single_rules C) t) (elements C) (opened t)
  unfolding minutes minute single_rules
  minute_visits t = refl

  -- the rest of minute t after the turn of f
  minute-after : (t : ℕ) (f : Place) → any (λ p. same p f) (elements C) ≡ true
      → before (suc t) ≡ fold (visit C (single_rules C) t) (visited_after f (elements C)) (after_turn C x t f)
  unfolding at_turn
  minute-after t f h =
      minute_visits t
      ∙ ap (λ (l : List Place). fold (visit C (single_rules C) t) l (opened t)) (visited_split f (elements C) h)
      ∙ fold-append (visit C (single_rules C) t) (visited_before f (elements C)) (f ∷ visited_after f (elements C)) (opened t)

  -- the rest of minute t between the turn of f and that of e
  turn-after : (t : ℕ) (f e : Place) → any (λ p. same p f) (visited_before e (elements C)) ≡ true
      → at_turn C x t e ≡ fold (visit C (single_rules C) t) (visited_after f (visited_before e (elements C))) (after_turn C x t f)
  unfolding at_turn
  turn-after t f e h =
      let visits = fold (visit C (single_rules C) t) in
      let front = visited_before e (elements C) in
      ap (λ (l : List Place). visits l (opened t)) (visited_split f front h)
      ∙ fold-append (visit C (single_rules C) t) (visited_before f front) (f ∷ visited_after f front) (opened t)
      ∙ ap (λ (l : List Place). visits (f ∷ visited_after f front) (visits l (opened t))) (before-before f e (elements C) h)

  -- the marks are in order before each minute
  before-orderly : (t : ℕ) → Orderly C (before t).list (before t).arrived
  unfolding single_rules
  before-orderly t =
      minutes-keep C (single_rules C) t (λ p. Unit) (every_all (λ p. Unit) (λ p. tt) (elements C)) (Orderly C)
      (λ u h l v o. end-orderly C u l v o) (λ u h p i b m c v ask o. serve-orderly C sound u p m ask b c v o)
      t (omega arith) (state (first_marks C x) [] 0) (first-orderly C x)

  opened-orderly : (t : ℕ) → Orderly C (opened t).list (opened t).arrived
  opened-orderly t = end-orderly C t (before t).list (before t).arrived (before-orderly t)

  -- and at each turn
  turn-orderly : (t : ℕ) (p : Place) → Orderly C (at_turn C x t p).list (at_turn C x t p).arrived
  unfolding at_turn
  turn-orderly t p =
      (visits_both C sound t (λ q. Unit) (λ l. Unit) (λ q i b m c v ask o u. tt) (visited_before p (elements C))
      (every_all (λ q. Unit) (λ q. tt) (visited_before p (elements C))) (opened t) (opened-orderly t, tt)).0

  -- ---- an element of capacity 1 that is left

  module _ (t k : ℕ) (e f : Place) (room : capacity C e ≡ 1) (leaves : Leaves C x t k e f) where
    -- the minute from which on the element is free
    abbrev end : ℕ
    end = t + C.head.safety

    -- the train stands on the element
    abbrev is_here : Mark → Bool
    is_here m = is_standing k m && same m.place e

    -- it does when the turn of f comes, and no longer when that is over
    here-before : 1 ≤ count is_here (at_turn C x t f).list
    here-before = some-count is_here (at_turn C x t f).list leaves.stood

    here-after : count is_here (after_turn C x t f).list ≡ 0
    here-after = none-count is_here (after_turn C x t f).list leaves.left

    after-orderly : Orderly C (after_turn C x t f).list (after_turn C x t f).arrived
    after-orderly =
        (visits_both C sound t (λ q. Unit) (λ l. Unit) (λ q i b m c v ask o u. tt) (f ∷ []) (tt, tt) (at_turn C x t f) (turn-orderly t f, tt)).0

    -- ---- where it leaves a block

    -- a mark that stood on the element and enters another leaves the block
    leaves_block_lem : 0 < C.head.safety → (p : Place) (m : Mark) → tick (is_here m) ≤ count (is_block k e end) (entered C t p m)
    unfolding entered leaving
    leaves_block_lem some p m = go (is_here m) refl
      where
        go : (z : Bool) → is_here m ≡ z → tick z ≤ count (is_block k e end) (entered C t p m)
        go false q = omega arith
        go true q =
            let standing : is_standing k m ≡ true = and_true-first (is_standing k m) (same m.place e) q in
            let train_is : m.train ≡ k = eqb-true m.train k (and_true-first (eqb m.train k) (not m.blocks) standing) in
            let place_is : m.place ≡ e = same_true m.place e (and_true-second (is_standing k m) (same m.place e) q) in
            let blocked : leaves_block C m.place ≡ true =
            leaves_when C m.place
            ∙ ap₂ (λ (a b : Bool). a && not b) (lt-ltb 0 C.head.safety some) (ap (λ (d : Place). same d outside) place_is ∙ not-outside C e room) in
            let it : is_block k e end (block m.train m.place end) ≡ true =
            ap₂ (λ (j : ℕ) (d : Place). is_block k e end (block j d end)) train_is place_is ∙ block-is k e end in
            omega (arith, ap (λ (z : Bool). count (is_block k e end) (one z (block m.train m.place end))) blocked, ap tick it)

    -- so the block is there when the turn is over
    block-left : 0 < C.head.safety → 1 ≤ count (is_block k e end) (after_turn C x t f).list
    block-left some =
        omega (
          arith,
          here-after,
          (visits_both C sound t (λ q. Unit) (λ l. 1 ≤ count is_here l + count (is_block k e end) l)
              (λ p i b m c v ask o h.
              omega (
                arith,
                sum_around (λ a. tick (is_here a)) b m c,
                sum_around (λ a. tick (is_block k e end a)) b m c,
                sum-entered (λ a. tick (is_here a)) b c (entered C t p m),
                sum-entered (λ a. tick (is_block k e end a)) b c (entered C t p m),
                asker_other k e end C t p m ask,
                leaves_block_lem some p m,
              ))
              (f ∷ []) (tt, tt) (at_turn C x t f) (turn-orderly t f, omega (arith, here-before))).1,
        )

    -- visits keep it
    visits_block : (u : ℕ) (ps : List Place) (s : State Mark) → Orderly C s.list s.arrived → 1 ≤ count (is_block k e end) s.list
        → 1 ≤ count (is_block k e end) (fold (visit C (single_rules C) u) ps s).list
    visits_block u ps s o h =
        (visits_both C sound u (λ q. Unit) (λ l. 1 ≤ count (is_block k e end) l) (λ p i b m c v ask d. block-stays k e end C u p b m c ask)
        ps (every_all (λ q. Unit) (λ q. tt) ps) s (o, h)).1

    -- the block is there before each minute after t up to its end
    before-block : (u : ℕ) → t < u → u ≤ end → 1 ≤ count (is_block k e end) (before u).list
    before-block zero h l = absurd (omega arith)
    before-block (suc u) h l = go (ltb t u) refl (before-block u)
      where
        go : (z : Bool) → ltb t u ≡ z → (t < u → u ≤ end → 1 ≤ count (is_block k e end) (before u).list) → 1 ≤ count (is_block k e end) (before (suc u)).list
        go true q ih =
            subst (λ (s : State Mark). 1 ≤ count (is_block k e end) s.list) (sym (minute_visits u))
            (visits_block u (elements C) (opened u) (opened-orderly u)
            (omega (arith, block-goes-not k e end u (omega arith) (before u).list, ih (ltb-true t u q) (omega arith))))
        go false q ih =
            let now : t ≡ u = omega (arith, ltb-false t u q) in
            subst (λ (w : ℕ). 1 ≤ count (is_block k e end) (before (suc w)).list) now
            (subst (λ (s : State Mark). 1 ≤ count (is_block k e end) s.list) (sym (minute-after t f leaves.element))
            (visits_block t (visited_after f (elements C)) (after_turn C x t f) after-orderly (block-left (omega arith))))

    -- and at each turn of the element before it
    turn-block : (u : ℕ) → Later C t f u e → u < end → 1 ≤ count (is_block k e end) (at_turn C x u e).list
    unfolding at_turn
    turn-block u (in_later_minute h) l =
        visits_block u (visited_before e (elements C)) (opened u) (opened-orderly u)
        (omega (arith, block-goes-not k e end u l (before u).list, before-block u h (omega arith)))
    turn-block u (in_same_minute q h) l =
        subst (λ (w : ℕ). 1 ≤ count (is_block k e end) (at_turn C x w e).list) q
        (subst (λ (s : State Mark). 1 ≤ count (is_block k e end) s.list) (sym (turn-after t f e h))
        (visits_block t (visited_after f (visited_before e (elements C))) (after_turn C x t f) after-orderly (block-left (omega arith))))

    -- ---- where it leaves none

    -- nobody who asks for the element stands on it
    asker_elsewhere : (p : Place) → same p e ≡ true → (m : Mark) → asks C t p m ≡ true → tick (is_here m) ≡ 0
    asker_elsewhere p is m ask = go (same m.place e) refl
      where
        go : (z : Bool) → same m.place e ≡ z → tick (is_standing k m && z) ≡ 0
        go false q = ap tick (and-false (is_standing k m))
        go true q =
            let here : m.place ≡ p = same_true m.place e q ∙ sym (same_true p e is) in
            absurd (omega (arith, nearer C sound t p m ask m.train (eq-eqb m.train m.train refl), ap (to_go C m.train) here))

    -- so it is left in the turn of another
    other-turn : same f e ≡ false
    other-turn = go (same f e) refl
      where
        go : (z : Bool) → same f e ≡ z → z ≡ false
        go false q = refl
        go true q =
            absurd (omega (
              arith,
              here-after,
              (visits_both C sound t (λ p. same p e ≡ true) (λ l. 1 ≤ count is_here l)
                  (λ p is b m c v ask o h.
                  omega (
                    arith,
                    sum_around (λ a. tick (is_here a)) b m c,
                    sum-entered (λ a. tick (is_here a)) b c (entered C t p m),
                    asker_elsewhere p is m ask,
                  ))
                  (f ∷ []) (q, tt) (at_turn C x t f) (turn-orderly t f, here-before)).1,
            ))

    -- a mark elsewhere, and a block that is not left
    none-on : (a : Bool) → a ≡ false → (z : Bool) → z ≡ false → (m : Mark) → tick a + count (is_on e) (one z m) ≡ 0
    none-on a q z h m = omega (arith, ap tick q, ap (λ (y : Bool). count (is_on e) (one y m)) h)

    -- with safety time 0 what enters another element is on that alone
    leaves_nothing : C.head.safety ≡ 0 → (p : Place) → same p e ≡ false → (m : Mark) → count (is_on e) (entered C t p m) ≡ 0
    unfolding entered leaving
    leaves_nothing none p other m =
        let nothing : leaves_block C m.place ≡ false =
        leaves_when C m.place ∙ ap (λ (n : ℕ). ltb 0 n && not (same m.place outside)) none in
        none-on (same p e) other (leaves_block C m.place) nothing _

    here_on : (m : Mark) → tick (is_here m) ≤ tick (is_on e m)
    here_on m = go (is_standing k m) (same m.place e)
      where
        go : (a b : Bool) → tick (a && b) ≤ tick b
        go true b = omega arith
        go false b = omega arith

    -- so nothing is on the element when the turn is over
    emptied : C.head.safety ≡ 0 → count (is_on e) (after_turn C x t f).list ≡ 0
    emptied none =
        omega (
          arith,
          here-after,
          (visits_both C sound t (λ p. same p e ≡ false) (λ l. count (is_on e) l ≤ count is_here l)
              (λ p other b m c v ask o h.
              omega (
                arith,
                sum_around (λ a. tick (is_on e a)) b m c,
                sum_around (λ a. tick (is_here a)) b m c,
                sum-entered (λ a. tick (is_on e a)) b c (entered C t p m),
                sum-entered (λ a. tick (is_here a)) b c (entered C t p m),
                leaves_nothing none p other m,
                here_on m,
              ))
              (f ∷ []) (other-turn, tt) (at_turn C x t f)
              (turn-orderly t f, le_trans (on-few C e room (at_turn C x t f).list (at_turn C x t f).arrived (turn-orderly t f)) here-before)).1,
        )

    -- ---- when it is free

    -- what is empty at the start of a minute is empty at the turn
    turn-empty : (u : ℕ) → count (is_on e) (opened u).list ≡ 0 → count (is_on e) (at_turn C x u e).list ≡ 0
    unfolding at_turn
    turn-empty u h = stays-empty C sound e u (visited_before e (elements C)) (before-others e (elements C)) (opened u) (opened-orderly u) h

    -- after a block: at its end
    empty-at-end : 0 < C.head.safety → count (is_on e) (at_turn C x end e).list ≡ 0
    empty-at-end some =
        turn-empty end (omega (
          arith,
          block_goes k e end (before end).list,
          before-block end (omega arith) (le_refl end),
          on-few C e room (before end).list (before end).arrived (before-orderly end),
        ))

    -- after none: later in the same minute, where its turn is still to come
    empty-now : C.head.safety ≡ 0 → any (λ p. same p f) (visited_before e (elements C)) ≡ true → count (is_on e) (at_turn C x t e).list ≡ 0
    empty-now none h =
        let between = visited_after f (visited_before e (elements C)) in
        let others : Every (λ p. same p e ≡ false) between =
        after_every (λ p. same p e ≡ false) f (visited_before e (elements C)) (before-others e (elements C)) in
        subst (λ (s : State Mark). count (is_on e) s.list ≡ 0) (sym (turn-after t f e h))
        (stays-empty C sound e t between others (after_turn C x t f) after-orderly (emptied none))

    -- or in the next minute, where its turn is over
    empty-next : C.head.safety ≡ 0 → any (λ p. same p f) (visited_before e (elements C)) ≡ false → count (is_on e) (at_turn C x (suc t) e).list ≡ 0
    empty-next none h =
        let rest = visited_after f (elements C) in
        let over : count (is_on e) (before (suc t)).list ≡ 0 =
        subst (λ (s : State Mark). count (is_on e) s.list ≡ 0) (sym (minute-after t f leaves.element))
        (stays-empty C sound e t rest (after-others e f (elements C) (elements-once C e) h) (after_turn C x t f) after-orderly (emptied none)) in
        turn-empty (suc t) (omega (arith, sum-keep-le (λ m. tick (is_on e m)) (λ m. not (ended (suc t) m)) (before (suc t)).list))

    -- which minute has the first turn of the element from its end on
    turn-at-end : 0 < C.head.safety → (u : ℕ) → FirstTurn C t f end u e → end ≡ u
    turn-at-end some u turn = go (ltb end u) refl
      where
        go : (z : Bool) → ltb end u ≡ z → end ≡ u
        go true q = absurd (turn.first end (le_refl end) (ltb-true end u q) (in_later_minute (omega arith)))
        go false q = omega (arith, turn.in_time, ltb-false end u q)

    turn-now : C.head.safety ≡ 0 → any (λ p. same p f) (visited_before e (elements C)) ≡ true → (u : ℕ) → FirstTurn C t f end u e → t ≡ u
    turn-now none h u turn = go (ltb t u) refl
      where
        go : (z : Bool) → ltb t u ≡ z → t ≡ u
        go true q = absurd (turn.first t (omega arith) (ltb-true t u q) (in_same_minute refl h))
        go false q = omega (arith, turn.in_time, ltb-false t u q)

    turn-next : C.head.safety ≡ 0 → any (λ p. same p f) (visited_before e (elements C)) ≡ false → (u : ℕ) → FirstTurn C t f end u e → suc t ≡ u
    turn-next none h u turn = go (ltb (suc t) u) refl turn.later
      where
        go : (z : Bool) → ltb (suc t) u ≡ z → Later C t f u e → suc t ≡ u
        go z q (in_same_minute p g) = absurd (false≢true (sym h ∙ g))
        go true q (in_later_minute g) = absurd (turn.first (suc t) (omega arith) (ltb-true (suc t) u q) (in_later_minute (omega arith)))
        go false q (in_later_minute g) = omega (arith, ltb-false (suc t) u q)

    -- at that turn nothing is on it
    first-empty : (u : ℕ) → FirstTurn C t f end u e → count (is_on e) (at_turn C x u e).list ≡ 0
    first-empty u turn = go (ltb 0 C.head.safety) refl
      where
        at : (w : ℕ) → w ≡ u → count (is_on e) (at_turn C x w e).list ≡ 0 → count (is_on e) (at_turn C x u e).list ≡ 0
        at w q h = subst (λ (n : ℕ). count (is_on e) (at_turn C x n e).list ≡ 0) q h

        by : C.head.safety ≡ 0 → (z : Bool) → any (λ p. same p f) (visited_before e (elements C)) ≡ z → count (is_on e) (at_turn C x u e).list ≡ 0
        by none true h = at t (turn-now none h u turn) (empty-now none h)
        by none false h = at (suc t) (turn-next none h u turn) (empty-next none h)

        go : (z : Bool) → ltb 0 C.head.safety ≡ z → count (is_on e) (at_turn C x u e).list ≡ 0
        go true q = at end (turn-at-end (ltb-true 0 C.head.safety q) u turn) (empty-at-end (ltb-true 0 C.head.safety q))
        go false q =
            let none : C.head.safety ≡ 0 = omega (arith, ltb-false 0 C.head.safety q) in
            by none (any (λ p. same p f) (visited_before e (elements C))) refl

    -- ---- the three laws

    held : (u j : ℕ) → Later C t f u e → u < end → enters C e j (at_turn C x u e).list ≡ false
    held u j later h =
        enters-not C e room (at_turn C x u e).list (at_turn C x u e).arrived (turn-orderly u e) j
        (le_trans (turn-block u later h) (blocks-on k e end (at_turn C x u e).list))

    blocked : (u : ℕ) → t ≤ u → u < end → keep (is_on e) (single C x u).list ≡ block k e end ∷ []
    blocked u h l =
        ap (λ (s : State Mark). keep (is_on e) s.list) (single-before u)
        ∙ block-alone k e end (before (suc u)).list
        (on-few C e room (before (suc u)).list (before (suc u)).arrived (before-orderly (suc u))) (before-block (suc u) (omega arith) l)

    free : (u j : ℕ) → FirstTurn C t f end u e → enters C e j (at_turn C x u e).list ≡ not (partner_held C e j (at_turn C x u e).list)
    free u j turn = enters-free C e room (at_turn C x u e).list (at_turn C x u e).arrived (turn-orderly u e) j (first-empty u turn)

-- an element of capacity 1 that is left at t can be entered again at t + safety time, and not before
pub free_again : (C : Case) → Sound C → (x : List ℕ) (t k : ℕ) (e f : Place) → capacity C e ≡ 1 → Leaves C x t k e f → FreeAgain C x t k e f
free_again C sound x t k e f room leaves = record {
  held = held C sound x t k e f room leaves;
  blocked = blocked C sound x t k e f room leaves;
  free = free C sound x t k e f room leaves;
}
