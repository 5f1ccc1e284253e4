-- Serving an asker never shortens the list, so of a minute's lists the last is the longest: some list has passed the room exactly when the first list
-- or the list after some minute has. Each piece leaves or adds at least one entry, and there is at least one piece. Assumes nothing.
use Rattle.std.specs.Prelude.{◌≡◌, refl, true, false, ◌||◌, cond, length}
use Rattle.std.proofs.Common.{sym, ◌∙◌, le_trans, le_of_eq, arith, length-append, ltb-true, lt-ltb}
use Rattle.std.proofs.Math.Path.{ap, subst}
use Rattle.std.proofs.Math.Bool.{Bool, not, or_assoc, or-false}
use mathlib.Core.List.{List, [], ◌∷◌, ◌++◌, map}
use Prim.Native.Nat.{ℕ, zero, suc, ◌+◌, ◌≤◌}
use Rattle.rules.specs.Lists.{one, each, keep, any, below, fold}
use Rattle.rules.specs.Files.{Case}
use Rattle.rules.specs.Turns.{Place, Mark, State, state, Row, items, Visit, Turn, Rules, ended, asks, elements, entered, next, serve_next, turns, visit, minute, minutes, run_from}
use Rattle.rules.specs.Turns.Turn.{nobody, somebody}
use Rattle.rules.specs.Joint.{Cover, Piece, carry, across, pieces, Entry, serve_entry, joint_rules}
use Rattle.rules.specs.Demands.{rows_after, turn_list, turn_lists, visit_lists, visits_lists, minute_lists, minutes_lists, run_lists, passes}
use Rattle.theory_lists.specs.Tests.{or_true-second, or_brings, or_middle}
use Rattle.theory_lists.specs.Every.{any_append}
use Rattle.theory_lists.specs.Sums.{count-le, length-keep}
use Rattle.theory_lists.specs.Below.{any_below_lem}
use Rattle.theory_lists.specs.Items.{items-start}
use Rattle.theory_trace.specs.Trace.{Splits, next_splits, items-after}

-- what comes of an asker is at least one item
abbrev pub Grows : {A : Type 0} → Rules A → Type 0
Grows {A} R = (t : ℕ) (e : Place) (l : List A) (a : A) → 1 ≤ length (R.serve t e l a).rows + length (R.serve t e l a).added

-- a longer list passes the room too
passes-more : {A : Type 0} (room : ℕ) (s t : List A) → length s ≤ length t → passes room s ≡ true → passes room t ≡ true
passes-more room s t h e = lt-ltb room (length t) (omega (arith, ltb-true room (length s) e))

-- ---- the lists of a run

-- from the list l, the lists ls led to the list l', which is no shorter: if l passed the room only where it was known,
-- one of them passes it exactly where l' does
pub record Longest {A : Type 0} (room : ℕ) (l : List A) (ls : List (List A)) (l' : List A) : Type 0 where
  pub longer : length l ≤ length l'
  pub last : (known : Bool) → (passes room l ≡ true → known ≡ true) → (known || any (passes room) ls) ≡ (known || passes room l')

module _ {A : Type 0} (room : ℕ) where
  longest_none : (l : List A) → Longest room l [] l
  longest_none l = record { longer = omega arith; last = λ known h. or-false known ∙ sym (or_brings (passes room l) known h) }

  longest_then : (l m n : List A) (s t : List (List A)) → Longest room l s m → Longest room m t n → Longest room l (s ++ t) n
  longest_then l m n s t g h = record {
    longer = omega (arith, g.longer, h.longer);
    last = λ known k.
        ap (λ (b : Bool). known || b) (any_append (passes room) s t)
        ∙ sym (or_assoc known (any (passes room) s) (any (passes room) t))
        ∙ ap (λ (b : Bool). b || any (passes room) t) (g.last known k)
        ∙ h.last (known || passes room m) (or_true-second known (passes room m))
        ∙ or_middle known (passes room m) (passes room n) (passes-more room m n h.longer);
  }

  longest_one : (l m : List A) → length l ≤ length m → Longest room l (m ∷ []) m
  longest_one l m h = record { longer = h; last = λ known k. ap (λ (b : Bool). known || b) (or-false (passes room m)) }

  module _ (C : Case) (R : Rules A) (grows : Grows R) where
    after-longer : (t : ℕ) (e : Place) (rs b : List (Row A)) (a : A) (c : List (Row A)) → Splits rs (somebody b a c)
        → length (items rs) ≤ length (items (rows_after C R t e rs b a c))
    after-longer t e rs b a c split =
        let s = R.serve t e (items rs) a in
        omega (
          arith,
          ap length split,
          length-append (items b) (a ∷ items c),
          ap length (items-after C R t e rs b a c),
          length-append (items b ++ s.rows ++ items c) s.added,
          length-append (items b ++ s.rows) (items c),
          length-append (items b) s.rows,
          grows t e (items rs) a,
        )

    turn_longest : (t : ℕ) (e : Place) (v : Visit A) (u : Turn A) → Splits v.rows u
        → Longest room (items v.rows) (turn_list C R t e v.rows u) (items (serve_next C R t e v u).rows)
    turn_longest t e v nobody split = longest_none (items v.rows)
    turn_longest t e v (somebody b a c) split = longest_one (items v.rows) (items (rows_after C R t e v.rows b a c)) (after-longer t e v.rows b a c split)

    turns_longest : (k t : ℕ) (e : Place) (v : Visit A) → Longest room (items v.rows) (turn_lists C R k t e v) (items (turns C R k t e v).rows)
    unfolding turns turn_lists
    turns_longest zero t e v = longest_none (items v.rows)
    turns_longest (suc k) t e v =
        let u = next C R v.rows in
        longest_then (items v.rows) (items (serve_next C R t e v u).rows) _ (turn_list C R t e v.rows u) (turn_lists C R k t e (serve_next C R t e v u))
        (turn_longest t e v u (next_splits C R v.rows)) (turns_longest k t e (serve_next C R t e v u))

    visit_longest : (t : ℕ) (e : Place) (s : State A) → Longest room s.list (visit_lists C R t e s) (visit C R t e s).list
    unfolding visit visit_lists
    visit_longest t e s =
        subst (λ (l : List A). Longest room l (visit_lists C R t e s) (visit C R t e s).list) (items-start (λ a. asks C t e (R.mark a)) s.list)
        (turns_longest _ t e _)

    visits_longest : (t : ℕ) (es : List Place) (s : State A) → Longest room s.list (visits_lists C R t es s) (fold (visit C R t) es s).list
    visits_longest t [] s = longest_none s.list
    visits_longest t (e ∷ es) s =
        longest_then s.list (visit C R t e s).list _ (visit_lists C R t e s) (visits_lists C R t es (visit C R t e s)) (visit_longest t e s) (visits_longest t es (visit C R t e s))

    -- of a minute's lists the last is the longest, but for the blocks that went at its start
    minute_longest : (t : ℕ) (s : State A) (known : Bool) → (passes room s.list ≡ true → known ≡ true)
        → (known || any (passes room) (minute_lists C R t s)) ≡ (known || passes room (minute C R t s).list)
    unfolding minute minute_lists
    minute_longest t s known h =
        (visits_longest t (elements C) _).last known (λ e. h (passes-more room left s.list (le_trans (le_of_eq (length-keep stays s.list)) (count-le stays s.list)) e))
      where
        stays : A → Bool
        stays a = not (ended t (R.mark a))

        left : List A
        left = keep stays s.list

    -- the list after minute i
    abbrev After : State A → ℕ → Bool
    After s i = passes room (minutes C R (suc i) s).list

    -- the first n minutes: one of the lists passes the room exactly where the first list or the list after some minute does
    abbrev Told : State A → ℕ → Type 0
    Told s n =
        ((passes room s.list || any (passes room) (minutes_lists C R n s)) ≡ (passes room s.list || any (After s) (below n)))
        × (passes room (minutes C R n s).list ≡ true → (passes room s.list || any (After s) (below n)) ≡ true)

    minutes_longest : (n : ℕ) (s : State A) → Told s n
    unfolding minutes minutes_lists
    minutes_longest zero s = (refl, λ h. ap (λ (b : Bool). b || false) h)
    minutes_longest (suc n) s = (told (minutes_longest n s), λ h. grouped ∙ or_true-second known (After s n) h)
      where
        first : Bool
        first = passes room s.list

        known : Bool
        known = first || any (After s) (below n)

        grouped : (first || any (After s) (below (suc n))) ≡ (known || After s n)
        grouped = ap (λ (b : Bool). first || b) (any_below_lem (After s) n) ∙ sym (or_assoc first (any (After s) (below n)) (After s n))

        told : Told s n → (first || any (passes room) (minutes_lists C R (suc n) s)) ≡ (first || any (After s) (below (suc n)))
        told ih =
            ap (λ (b : Bool). first || b) (any_append (passes room) (minutes_lists C R n s) (minute_lists C R n (minutes C R n s)))
            ∙ sym (or_assoc first (any (passes room) (minutes_lists C R n s)) (any (passes room) (minute_lists C R n (minutes C R n s))))
            ∙ ap (λ (b : Bool). b || any (passes room) (minute_lists C R n (minutes C R n s))) ih.0
            ∙ minute_longest n (minutes C R n s) known ih.1
            ∙ sym grouped

    -- one of the run's lists passes the room exactly where the first list or the list after some minute up to m does
    pub run_longest : (l : List A) (m : ℕ)
        → any (passes room) (run_lists C R l m) ≡ (passes room l || any (λ i. passes room (run_from C R l i).list) (below (suc m)))
    unfolding run_lists run_from
    run_longest l m = (minutes_longest (suc m) (state l [] (R.check l))).0

-- ---- the joint run

some-map : {A B : Type 0} (f : A → B) (l : List A) → 1 ≤ length l → 1 ≤ length (map f l)
some-map f [] h = h
some-map f (a ∷ l) h = omega arith

some-append : {A : Type 0} (s t : List A) → 1 ≤ length s → 1 ≤ length (s ++ t)
some-append s t h = omega (arith, length-append s t)

some-piece : (p : Piece) (ps : List Piece) → 1 ≤ length (p ∷ ps)
some-piece p ps = omega arith

-- of two ways each comes to at least one piece
cond-some : (b : Bool) (s t : List Piece) → 1 ≤ length s → 1 ≤ length t → 1 ≤ length (cond b s t)
cond-some true s t h k = h
cond-some false s t h k = k

-- a carried cover comes to at least one piece
carry-some : (cap : ℕ) (qs : List Cover) (n : ℕ) (p : Cover) → 1 ≤ length (carry cap qs n p)
unfolding carry
carry-some cap [] n p = omega arith
carry-some cap (q ∷ qs) n p =
    let carried = carry-some cap qs in
    search (cond-some, some-piece, some-append, carried)

-- and so does one that first meets the partner's entries, if what goes on does
across-some : (on : Cover → List Piece) → ((c : Cover) → 1 ≤ length (on c)) → (qs : List Cover) (p : Cover) → 1 ≤ length (across on qs p)
unfolding across
across-some on h [] p = h p
across-some on h (q ∷ qs) p =
    let carried = across-some on h qs in
    search (cond-some, some-piece, carried)

pieces-some : (C : Case) (e : Place) (rs : List Entry) (r : Entry) → 1 ≤ length (pieces C e rs r)
unfolding pieces
pieces-some C e rs r = search (cond-some, some-piece, across-some, carry-some)

-- held pieces leave an entry, and the others add at least one
pieces_grow : (held : Piece → Entry) (new : Piece → List Entry) → ((q : Piece) → 1 ≤ length (new q)) → (ps : List Piece) → 1 ≤ length ps
    → 1 ≤ length (map held (keep (λ q. q.held) ps)) + length (each new (keep (λ q. not q.held) ps))
pieces_grow held new some [] h = absurd (omega arith)
pieces_grow held new some (q ∷ ps) h = go q.held
  where
    go : (b : Bool) → 1 ≤ length (map held (one b q ++ keep (λ q. q.held) ps)) + length (each new (one (not b) q ++ keep (λ q. not q.held) ps))
    go true = omega arith
    go false = omega (arith, some q, length-append (new q) (each new (keep (λ q. not q.held) ps)))

entered-some : (C : Case) (t : ℕ) (e : Place) (m : Mark) → 1 ≤ length (entered C t e m)
unfolding entered
entered-some C t e m = omega arith

-- each piece leaves or adds at least one entry
pub serve_entry-grows : (C : Case) → Grows (joint_rules C)
unfolding joint_rules serve_entry
serve_entry-grows C t e rs r =
    let some = pieces-some C e rs r in
    search (pieces_grow, some-map, entered-some)
