-- The joint run and the single run of a choice, turn by turn: what the choice sees of the one is the other, and the other is in order.
-- An asker that covers the choice is next in both; one that does not changes nothing that the choice sees. Takes `Sound` as given, and assumes nothing else.
use Rattle.std.specs.Prelude.{◌≡◌, Bool, false, cond, length}
use Rattle.std.proofs.Math.Path.{refl, sym, ap, subst}
use Rattle.std.proofs.Common.{◌∙◌, le_trans, le_of_eq}
use Rattle.std.proofs.Math.Bool.{true, not}
use mathlib.Core.List.{List, [], ◌∷◌, ◌++◌, map, append-nil}
use Prim.Native.Nat.{ℕ, zero, suc, ◌+◌, ◌≤◌}
use native.Mathlib.Omega.{arith}
use Rattle.std.proofs.lemmas.List.{length-map}
use Rattle.rules.specs.Lists.{one, keep, tick, count, fold}
use Rattle.rules.specs.Files.{Case}
use Rattle.rules.specs.Turns.{Place, Mark, elements, ended, asks, sooner, Arrival, Served, served, State, state, Row, row, items, quiet, Visit, visiting, left, Turn, Rules, next, serve_next, turns, visit, minute, minutes, run_from}
use Rattle.rules.specs.Turns.Turn.{nobody, somebody}
use Rattle.rules.specs.Single.{serve_train, single_rules}
use Rattle.rules.specs.Joint.{covers, Entry, serve_entry, joint_rules}
use Rattle.rules.specs.Demands.{Choice, view, arrivals_seen}
use Rattle.theory_sound.specs.Facts.{Sound}
use Rattle.theory_lists.specs.Every.{Every, every_right, every_keep}
use Rattle.theory_lists.specs.Sums.{sum-append, count-le, count_none}
use Rattle.theory_simulation.specs.Askers.{Asking, First, Chosen, next-chosen, next-nobody, next-first}
use Rattle.theory_lists.specs.Items.{items-start, served_rows, served_list, items_asker, items-served}
use Rattle.theory_simulation.specs.Keeping.{asking-start, served-asking}
use Rattle.theory_simulation.specs.Orderly.{Orderly}
use Rattle.theory_simulation.specs.Steps.{serve-orderly, end-orderly}
use Rattle.theory_simulation.specs.View.{view_rows, view_served, arrivals_seen-append, view_rows-append, view_rows_cons, view_rows-start, items-view, view_rows-asking, view_rows-none, view-end}
use Rattle.theory_simulation.specs.Serving.{Proper, serve-proper, serve-view, view_rows-served}

-- ---- how many rows ask

module _ {A : Type 0} where
  abbrev pub askers : List (Row A) → ℕ
  askers rs = count (λ r. r.asking) rs

  askers-quiet : (l : List A) → askers (quiet l) ≡ 0
  askers-quiet [] = refl
  askers-quiet (a ∷ l) = omega (arith, askers-quiet l)

  -- serving an asker leaves one less
  pub askers-served : (s : Served A) (b : List (Row A)) (a : A) (c : List (Row A)) → suc (askers (served_rows s b c)) ≡ askers (b ++ (row a true ∷ c))
  askers-served s b a c =
      omega (
        arith,
        sum-append f (b ++ quiet s.rows ++ c) (quiet s.added),
        sum-append f (b ++ quiet s.rows) c,
        sum-append f b (quiet s.rows),
        sum-append f b (row a true ∷ c),
        askers-quiet s.rows,
        askers-quiet s.added,
      )
    where
      f : Row A → ℕ
      f r = tick r.asking

  -- where nobody asks, however many turns there are, nothing happens
  pub turns-nobody : (C : Case) (R : Rules A) (k t : ℕ) (e : Place) (v : Visit A) → Every (λ r. r.asking ≡ false) v.rows → turns C R k t e v ≡ v
  unfolding turns
  turns-nobody C R zero t e v h = refl
  turns-nobody C R (suc k) t e v h = ap (λ (u : Turn A). turns C R k t e (serve_next C R t e v u)) (next-nobody C R v.rows h) ∙ turns-nobody C R k t e v h

  -- as many turns as there are askers suffice: more change nothing
  pub turns_suffice : (C : Case) (R : Rules A) (k j t : ℕ) (e : Place) (v : Visit A) → askers v.rows ≤ k → turns C R (k + j) t e v ≡ turns C R k t e v
  unfolding turns
  turns_suffice C R zero j t e v h = turns-nobody C R (0 + j) t e v (count_none (λ r. r.asking) v.rows h)
  turns_suffice C R (suc k) j t e v h =
      let more : suc k + j ≡ suc (k + j) = omega arith in
      ap (λ (i : ℕ). turns C R i t e v) more ∙ go (next C R v.rows) (next-chosen C R v.rows) (turns_suffice C R k j t e)
    where
      go : (u : Turn A) → Chosen C R v.rows u → ((w : Visit A) → askers w.rows ≤ k → turns C R (k + j) t e w ≡ turns C R k t e w)
          → turns C R (k + j) t e (serve_next C R t e v u) ≡ turns C R k t e (serve_next C R t e v u)
      go nobody f ih = turns-nobody C R (k + j) t e v f ∙ sym (turns-nobody C R k t e v f)
      go (somebody b a c) f ih =
          ih (serve_next C R t e v (somebody b a c)) (omega (arith, askers-served (R.serve t e (items v.rows) a) b a c, ap askers f.apart))

-- ---- the two runs

-- what the choice sees of a state of the joint run is a state of its single run, which is in order
pub record Twin (C : Case) (x : List ℕ) (s : State Entry) (u : State Mark) : Type 0 where
  pub list : view x s.list ≡ u.list
  pub arrived : arrivals_seen x s.arrived ≡ u.arrived
  pub proper : Every (Proper C) s.list
  pub orderly : Orderly C u.list u.arrived

-- the same between two turns: rs and ws are the rows, v and w what has arrived
record Rows (C : Case) (x : List ℕ) (t : ℕ) (e : Place) (rs : List (Row Entry)) (v : List (Arrival Entry)) (ws : List (Row Mark)) (w : List (Arrival Mark)) : Type 0 where
  rows : view_rows x rs ≡ ws
  arrived : arrivals_seen x v ≡ w
  asking : Every (Asking (joint_rules C) (λ m. asks C t e m ≡ true)) rs
  proper : Every (Proper C) (items rs)
  orderly : Orderly C (items ws) w

module _ (C : Case) (sound : Sound C) (x : List ℕ) (ch : Choice C x) where
  -- the rows around the next asker, as the choice sees them
  around_view : (b : List (Row Entry)) (a : Entry) (c : List (Row Entry)) (z : Bool) → covers a.cover x ≡ z
      → view_rows x (b ++ (row a true ∷ c)) ≡ view_rows x b ++ (one z (row a.mark true) ++ view_rows x c)
  around_view b a c z q =
      view_rows-append x b (row a true ∷ c)
      ∙ ap (λ (l : List (Row Mark)). view_rows x b ++ l) (view_rows_cons x (row a true) c ∙ ap (λ (y : Bool). one y (row a.mark true) ++ view_rows x c) q)

  -- a next asker that covers the choice is next in the single run
  next-view : (rs b : List (Row Entry)) (a : Entry) (c : List (Row Entry)) → First C (joint_rules C) rs b a c → covers a.cover x ≡ true
      → next C (single_rules C) (view_rows x rs) ≡ somebody (view_rows x b) a.mark (view_rows x c)
  unfolding joint_rules single_rules
  next-view rs b a c f q =
      ap (next C (single_rules C)) (ap (view_rows x) f.apart ∙ around_view b a c true q)
      ∙ next-first C (single_rules C) (view_rows x b) a.mark (view_rows x c)
      (view_rows-asking x C (λ m. sooner C a.mark m ≡ true) b f.earlier)
      (view_rows-asking x C (λ m. sooner C m a.mark ≡ false) c f.later)

  module _ (t : ℕ) (e : Place) where
    -- ---- one asker

    module _ (rs b : List (Row Entry)) (a : Entry) (c : List (Row Entry)) (v : List (Arrival Entry)) (ws : List (Row Mark)) (w : List (Arrival Mark))
        (first : First C (joint_rules C) rs b a c) (at : Rows C x t e rs v ws w) where
      abbrev came : Served Entry
      came = serve_entry C t e (items rs) a

      abbrev went : Served Mark
      went = serve_train C t e (items ws) a.mark

      here : items rs ≡ items b ++ (a ∷ items c)
      here = ap items first.apart ∙ items_asker b a c

      asking-here : Every (Asking (joint_rules C) (λ m. asks C t e m ≡ true)) (b ++ (row a true ∷ c))
      asking-here = subst (Every (Asking (joint_rules C) (λ m. asks C t e m ≡ true))) first.apart at.asking

      proper-here : Every (Proper C) (items b ++ (a ∷ items c))
      proper-here = subst (Every (Proper C)) here at.proper

      asks-here : asks C t e a.mark ≡ true
      unfolding joint_rules
      asks-here = (every_right (Asking (joint_rules C) (λ m. asks C t e m ≡ true)) b (row a true ∷ c) asking-here).0 refl

      marks-here : items ws ≡ view x (items b ++ (a ∷ items c))
      marks-here = ap items (sym at.rows) ∙ items-view x rs ∙ ap (view x) here

      came-seen : view_served x came ≡ cond (covers a.cover x) went (served [] [] [])
      came-seen =
          ap (λ (l : List Entry). view_served x (serve_entry C t e l a)) here
          ∙ serve-view C sound x ch t e (items b) a (items c) w proper-here asks-here (subst (λ (l : List Mark). Orderly C l w) marks-here at.orderly)
          ∙ ap (λ (l : List Mark). cond (covers a.cover x) (serve_train C t e l a.mark) (served [] [] [])) (sym marks-here)

      proper-after : Every (Proper C) (items (served_rows came b c))
      proper-after =
          subst (Every (Proper C)) (sym (items-served came b c))
          (subst (λ (l : List Entry). Every (Proper C) (served_list (serve_entry C t e l a) (items b) (items c))) (sym here)
          (serve-proper C t e (items b) a (items c) [] proper-here tt).0)

      asking-after : Every (Asking (joint_rules C) (λ m. asks C t e m ≡ true)) (served_rows came b c)
      asking-after = served-asking (joint_rules C) (λ m. asks C t e m ≡ true) came b a c asking-here

      arrived-after : arrivals_seen x (v ++ came.arrived) ≡ w ++ (view_served x came).arrived
      arrived-after = arrivals_seen-append x v came.arrived ∙ ap (λ (l : List (Arrival Mark)). l ++ arrivals_seen x came.arrived) at.arrived

      -- an asker that does not cover the choice leaves what the choice sees
      apart-after : covers a.cover x ≡ false → Rows C x t e (served_rows came b c) (v ++ came.arrived) ws w
      apart-after q = record {
        rows =
            view_rows-served x came b c
            ∙ ap (λ (s : Served Mark). served_rows s (view_rows x b) (view_rows x c)) nothing
            ∙ append-nil (view_rows x b ++ [] ++ view_rows x c)
            ∙ ap (λ (l : List (Row Mark)). l ++ view_rows x c) (append-nil (view_rows x b))
            ∙ sym (around_view b a c false q)
            ∙ ap (view_rows x) (sym first.apart)
            ∙ at.rows;
        arrived = arrived-after ∙ ap (λ (s : Served Mark). w ++ s.arrived) nothing ∙ append-nil w;
        asking = asking-after;
        proper = proper-after;
        orderly = at.orderly;
      }
        where
          nothing : view_served x came ≡ served [] [] []
          nothing = came-seen ∙ ap (λ (z : Bool). cond z went (served [] [] [])) q

      -- an asker that covers the choice is seen to be served as in the single run
      same_after : covers a.cover x ≡ true
          → Rows C x t e (served_rows came b c) (v ++ came.arrived) (served_rows went (view_rows x b) (view_rows x c)) (w ++ went.arrived)
      same_after q = record {
        rows = view_rows-served x came b c ∙ ap (λ (s : Served Mark). served_rows s (view_rows x b) (view_rows x c)) same;
        arrived = arrived-after ∙ ap (λ (s : Served Mark). w ++ s.arrived) same;
        asking = asking-after;
        proper = proper-after;
        orderly =
            subst (λ (l : List Mark). Orderly C l (w ++ went.arrived)) (sym (items-served went (view_rows x b) (view_rows x c)))
            (subst (λ (l : List Mark). Orderly C (served_list (serve_train C t e l a.mark) (items (view_rows x b)) (items (view_rows x c))) (w ++ (serve_train C t e l a.mark).arrived))
            (sym marks)
            (serve-orderly C sound t e a.mark asks-here (items (view_rows x b)) (items (view_rows x c)) w (subst (λ (l : List Mark). Orderly C l w) marks at.orderly)));
      }
        where
          same : view_served x came ≡ went
          same = came-seen ∙ ap (λ (z : Bool). cond z went (served [] [] [])) q

          marks : items ws ≡ items (view_rows x b) ++ (a.mark ∷ items (view_rows x c))
          marks = ap items (sym at.rows ∙ ap (view_rows x) first.apart ∙ around_view b a c true q) ∙ items_asker (view_rows x b) a.mark (view_rows x c)

    -- ---- one turn after another

    abbrev Alike : Visit Entry → Visit Mark → Type 0
    Alike v w = Rows C x t e v.rows v.arrived w.rows w.arrived

    -- k turns of the joint run are enough, and h of the single run
    abbrev Turns : ℕ → Type 0
    Turns k = (h : ℕ) (v : Visit Entry) (w : Visit Mark) → Alike v w → askers v.rows ≤ k → askers w.rows ≤ h
        → Twin C x (left (turns C (joint_rules C) k t e v)) (left (turns C (single_rules C) h t e w))

    nobody_twin : (k h : ℕ) (v : Visit Entry) (w : Visit Mark) → Alike v w → Every (λ r. r.asking ≡ false) v.rows
        → Twin C x (left (turns C (joint_rules C) k t e v)) (left (turns C (single_rules C) h t e w))
    nobody_twin k h v w at f =
        subst (λ (u : Visit Entry). Twin C x (left u) (left (turns C (single_rules C) h t e w))) (sym (turns-nobody C (joint_rules C) k t e v f))
        (subst (λ (u : Visit Mark). Twin C x (left v) (left u))
        (sym (turns-nobody C (single_rules C) h t e w (subst (Every (λ r. r.asking ≡ false)) at.rows (view_rows-none x v.rows f))))
        (record { list = sym (items-view x v.rows) ∙ ap items at.rows; arrived = at.arrived; proper = at.proper; orderly = at.orderly }))

    turn_twin : (k : ℕ) → Turns k → (h : ℕ) (v : Visit Entry) (w : Visit Mark) → Alike v w
        → askers v.rows ≤ suc k → askers w.rows ≤ h → (b : List (Row Entry)) (a : Entry) (c : List (Row Entry)) → First C (joint_rules C) v.rows b a c
        → Twin C x (left (turns C (joint_rules C) k t e (serve_next C (joint_rules C) t e v (somebody b a c)))) (left (turns C (single_rules C) h t e w))
    unfolding turns joint_rules single_rules
    turn_twin k ih h v w at enough full b a c first = go (covers a.cover x) refl h full
      where
        s : Served Entry
        s = serve_entry C t e (items v.rows) a

        less : suc (askers (served_rows s b c)) ≡ askers v.rows
        less = askers-served s b a c ∙ ap askers (sym first.apart)

        after : Visit Entry
        after = serve_next C (joint_rules C) t e v (somebody b a c)

        go : (z : Bool) → covers a.cover x ≡ z → (h : ℕ) → askers w.rows ≤ h
            → Twin C x (left (turns C (joint_rules C) k t e after)) (left (turns C (single_rules C) h t e w))
        go false q h full = ih h after w (apart-after v.rows b a c v.arrived w.rows w.arrived first at q) (omega (arith, less)) full
        go true q h full = by h full
          where
            u : Served Mark
            u = serve_train C t e (items w.rows) a.mark

            wb : List (Row Mark)
            wb = view_rows x b

            wc : List (Row Mark)
            wc = view_rows x c

            next-is : next C (single_rules C) w.rows ≡ somebody wb a.mark wc
            next-is = ap (next C (single_rules C)) (sym at.rows) ∙ next-view v.rows b a c first q

            fewer : suc (askers (served_rows u wb wc)) ≡ askers w.rows
            fewer = askers-served u wb a.mark wc ∙ ap askers (sym (sym at.rows ∙ ap (view_rows x) first.apart ∙ around_view b a c true q))

            by : (h : ℕ) → askers w.rows ≤ h → Twin C x (left (turns C (joint_rules C) k t e after)) (left (turns C (single_rules C) h t e w))
            by zero full = absurd (omega (arith, fewer))
            by (suc h) full =
                subst (λ (y : Turn Mark). Twin C x (left (turns C (joint_rules C) k t e after)) (left (turns C (single_rules C) h t e (serve_next C (single_rules C) t e w y)))) (sym next-is)
                (ih h after (serve_next C (single_rules C) t e w (somebody wb a.mark wc))
                (same_after v.rows b a c v.arrived w.rows w.arrived first at q) (omega (arith, less)) (omega (arith, fewer)))

    turns_twin : (k : ℕ) → Turns k
    unfolding turns
    turns_twin zero h v w at enough full = nobody_twin zero h v w at (count_none (λ r. r.asking) v.rows enough)
    turns_twin (suc k) h v w at enough full = go (next C (joint_rules C) v.rows) (next-chosen C (joint_rules C) v.rows) (turns_twin k)
      where
        go : (y : Turn Entry) → Chosen C (joint_rules C) v.rows y → Turns k
            → Twin C x (left (turns C (joint_rules C) k t e (serve_next C (joint_rules C) t e v y))) (left (turns C (single_rules C) h t e w))
        go nobody f ih = nobody_twin k h v w at f
        go (somebody b a c) f ih = turn_twin k ih h v w at enough full b a c f

    -- ---- one element after another

    visit_twin : (s : State Entry) (u : State Mark) → Twin C x s u → Twin C x (visit C (joint_rules C) t e s) (visit C (single_rules C) t e u)
    unfolding visit joint_rules single_rules
    visit_twin s u w =
        turns_twin (length s.list) (length u.list) (visiting rs s.arrived s.met) (visiting ws u.arrived u.met)
        (record {
          rows = view_rows-start x (asks C t e) s.list ∙ ap (map (λ m. row m (asks C t e m))) w.list;
          arrived = w.arrived;
          asking = asking-start C (joint_rules C) t e s.list;
          proper = subst (Every (Proper C)) (sym (items-start (λ r. asks C t e r.mark) s.list)) w.proper;
          orderly = subst (λ (l : List Mark). Orderly C l u.arrived) (sym (items-start (asks C t e) u.list)) w.orderly;
        })
        (le_trans (count-le (λ r. r.asking) rs) (le_of_eq (length-map s.list (λ r. row r (asks C t e r.mark)))))
        (le_trans (count-le (λ r. r.asking) ws) (le_of_eq (length-map u.list (λ m. row m (asks C t e m)))))
      where
        rs : List (Row Entry)
        rs = map (λ r. row r (asks C t e r.mark)) s.list

        ws : List (Row Mark)
        ws = map (λ m. row m (asks C t e m)) u.list

  visits_twin : (t : ℕ) (es : List Place) (s : State Entry) (u : State Mark) → Twin C x s u
      → Twin C x (fold (visit C (joint_rules C) t) es s) (fold (visit C (single_rules C) t) es u)
  visits_twin t [] s u w = w
  visits_twin t (e ∷ es) s u w = visits_twin t es (visit C (joint_rules C) t e s) (visit C (single_rules C) t e u) (visit_twin t e s u w)

  -- ---- one minute after another

  minute_twin : (t : ℕ) (s : State Entry) (u : State Mark) → Twin C x s u → Twin C x (minute C (joint_rules C) t s) (minute C (single_rules C) t u)
  unfolding minute joint_rules single_rules
  minute_twin t s u w =
      visits_twin t (elements C) (state (keep (λ r. not (ended t r.mark)) s.list) s.arrived s.met) (state (keep (λ m. not (ended t m)) u.list) u.arrived u.met)
      (record {
        list = view-end x t s.list ∙ ap (keep (λ m. not (ended t m))) w.list;
        arrived = w.arrived;
        proper = every_keep (Proper C) (λ r. not (ended t r.mark)) s.list w.proper;
        orderly = end-orderly C t u.list u.arrived w.orderly;
      })

  minutes_twin : (n : ℕ) (s : State Entry) (u : State Mark) → Twin C x s u → Twin C x (minutes C (joint_rules C) n s) (minutes C (single_rules C) n u)
  unfolding minutes
  minutes_twin zero s u w = w
  minutes_twin (suc n) s u w = minute_twin n (minutes C (joint_rules C) n s) (minutes C (single_rules C) n u) (minutes_twin n s u w)

  -- runs from lists of which the choice sees the one as the other
  pub run_twin : (l : List Entry) (ms : List Mark) → view x l ≡ ms → Every (Proper C) l → Orderly C ms []
      → (m : ℕ) → Twin C x (run_from C (joint_rules C) l m) (run_from C (single_rules C) ms m)
  unfolding run_from view arrivals_seen
  run_twin l ms seen proper orderly m =
      minutes_twin (suc m) (state l [] ((joint_rules C).check l)) (state ms [] ((single_rules C).check ms))
      (record { list = seen; arrived = refl; proper = proper; orderly = orderly })
