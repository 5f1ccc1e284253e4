-- An asker served in the joint run is seen by a choice as served in the single run if the asker covers it, and else as nothing at all.
-- Every cover that results is again a part of the whole one, so the cutting law applies to it. Takes `Sound` as given, and assumes nothing else.
use Rattle.std.specs.Prelude.{◌≡◌, Bool, true, false, not, ◌&&◌, ◌||◌, cond, ℕ, leb, ltb}
use Rattle.std.proofs.Math.Path.{refl}
use Rattle.std.proofs.Common.{sym, ap, ap₂, ◌∙◌, subst, ltb-true, ltb-false, le-leb}
use Rattle.std.proofs.Math.Bool.{and-false}
use mathlib.Core.List.{List, [], ◌∷◌, ◌++◌, map}
use Rattle.std.proofs.lemmas.Bool.{lt-leb}
use Rattle.rules.specs.Lists.{one, each, keep, count}
use Rattle.rules.specs.Files.{Case}
use Rattle.rules.specs.Turns.{Place, same, Mark, capacity, asks, entered, Arrival, arriving, Served, served, Row, quiet}
use Rattle.rules.specs.Turns.Place.{gone}
use Rattle.rules.specs.Single.{trains_on, partner_held, enters, serve_train}
use Rattle.rules.specs.Joint.{Cover, covers, whole, Entry, entry, covered, Piece, meets, pieces, serve_entry}
use Rattle.rules.specs.Demands.{Choice, view}
use Rattle.theory_sound.specs.Facts.{Sound}
use Rattle.theory_lists.specs.Every.{Every, every_append, every_left, every_right, every_map, every_each, every_keep, every_all, every_more}
use Rattle.theory_simulation.specs.Covers.{Fits, covers-length}
use Rattle.theory_simulation.specs.Cutting.{verdicts, hits}
use Rattle.theory_simulation.specs.Parts.{Parts, parts-length, carry-parts, parts-cond, across-parts}
use Rattle.theory_lists.specs.Items.{served_rows, served_list}
use Rattle.theory_simulation.specs.Orderly.{is_other, Orderly}
use Rattle.theory_simulation.specs.View.{view_rows, view_served, meets-covers, across-covers, view-append, view_cons, view_rows-append, view_rows-quiet, held-view, entering_view, arriving-view, meets-hits, pieces-verdict, others-on}

-- ---- proper covers

-- an entry whose cover has a set for each train, each a part of the whole set
abbrev pub Proper : Case → Entry → Type 0
Proper C r = Parts (whole C) r.cover

-- what holds of each piece's cover holds of the cover of an entry with the mark m for each of some pieces
module _ (P : Cover → Type 0) where
  kept-covers : (m : Mark) (test : Piece → Bool) (ps : List Piece) → Every (λ q. P q.cover) ps
      → Every (λ a. P a.cover) (map (λ q. entry m q.cover) (keep test ps))
  kept-covers m test ps h =
      every_map (λ q. P q.cover) (λ a. P a.cover) (λ q. entry m q.cover) (λ q f. f) (keep test ps) (every_keep (λ q. P q.cover) test ps h)

  -- and of entries with some marks for each
  new-covers : (new : List Mark) (test : Piece → Bool) (ps : List Piece) → Every (λ q. P q.cover) ps
      → Every (λ a. P a.cover) (each (λ q. map (λ m. entry m q.cover) new) (keep test ps))
  new-covers new test ps h =
      every_each (λ q. P q.cover) (λ a. P a.cover) (λ q. map (λ m. entry m q.cover) new)
      (λ q f. every_map (λ m. Unit) (λ a. P a.cover) (λ m. entry m q.cover) (λ m u. f) new (every_all (λ m. Unit) (λ m. tt) new))
      (keep test ps) (every_keep (λ q. P q.cover) test ps h)

  -- and of arrivals for each
  home-covers : (new : List (Arrival Mark)) (test : Piece → Bool) (ps : List Piece) → Every (λ q. P q.cover) ps
      → Every (λ v. P v.who.cover) (each (λ q. map (covered q.cover) new) (keep test ps))
  home-covers new test ps h =
      every_each (λ q. P q.cover) (λ v. P v.who.cover) (λ q. map (covered q.cover) new)
      (λ q f. every_map (λ v. Unit) (λ v. P v.who.cover) (covered q.cover) (λ v u. f) new (every_all (λ v. Unit) (λ v. tt) new))
      (keep test ps) (every_keep (λ q. P q.cover) test ps h)

module _ (C : Case) (t : ℕ) (e : Place) where
  pub pieces-proper : (rs : List Entry) (r : Entry) → Every (Proper C) rs → Proper C r → Every (λ q. Parts (whole C) q.cover) (pieces C e rs r)
  unfolding pieces
  pieces-proper rs r hs h =
      let met = meets-covers (Parts (whole C)) e r.mark.train rs hs in
      let far = across-covers (Parts (whole C)) C e r.mark.train rs hs in
      search (parts-cond (whole C), across-parts (whole C), carry-parts (whole C), met, far)

  -- what comes of an asker has the covers of its pieces, and no other: what holds of each piece's cover holds of each of these
  pub serve-covers : (P : Cover → Type 0) (rs : List Entry) (r : Entry) → Every (λ q. P q.cover) (pieces C e rs r)
      → Every (λ a. P a.cover) (serve_entry C t e rs r).rows × Every (λ a. P a.cover) (serve_entry C t e rs r).added × Every (λ v. P v.who.cover) (serve_entry C t e rs r).arrived
  unfolding serve_entry
  serve-covers P rs r h = search (kept-covers P, new-covers P, home-covers P)

  -- serving keeps covers proper, in the list and among the arrivals
  pub serve-proper : (b : List Entry) (r : Entry) (c : List Entry) (v : List (Arrival Entry)) → Every (Proper C) (b ++ (r ∷ c)) → Every (λ a. Proper C a.who) v
      → Every (Proper C) (served_list (serve_entry C t e (b ++ (r ∷ c)) r) b c) × Every (λ a. Proper C a.who) (v ++ (serve_entry C t e (b ++ (r ∷ c)) r).arrived)
  serve-proper b r c v h k =
      let s = serve_entry C t e (b ++ (r ∷ c)) r in
      let here = every_right (Proper C) b (r ∷ c) h in
      let came = serve-covers (Parts (whole C)) (b ++ (r ∷ c)) r (pieces-proper (b ++ (r ∷ c)) r h here.0) in (
        every_append (Proper C) (b ++ s.rows ++ c) s.added
            (every_append (Proper C) (b ++ s.rows) c (every_append (Proper C) b s.rows (every_left (Proper C) b (r ∷ c) h) came.0) here.1)
            came.1,
        every_append (λ a. Proper C a.who) v s.arrived k came.2,
      )

-- ---- an asker served, as a choice sees it

-- a proper cover has a set for each train of a choice
pub proper-fits : (C : Case) (x : List ℕ) → Choice C x → (r : Entry) → Proper C r → Fits x r.cover
proper-fits C x ch r h = parts-length (whole C) r.cover h ∙ covers-length (whole C) x ch

-- no way in, in the words of both runs
not-enters : (g : Bool) (n cap : ℕ) (held : Bool) → (not g && (held || leb cap n)) ≡ not (g || (ltb n cap && not held))
not-enters true n cap held = refl
not-enters false n cap true = sym (ap not (and-false (ltb n cap)))
not-enters false n cap false = go (ltb n cap) refl
  where
    go : (b : Bool) → ltb n cap ≡ b → leb cap n ≡ not (b && true)
    go true q = lt-leb cap n (ltb-true n cap q)
    go false q = le-leb cap n (ltb-false n cap q)

module _ (C : Case) (sound : Sound C) (x : List ℕ) (ch : Choice C x) (t : ℕ) (e : Place) where
  -- what is seen of an asker whose pieces give the verdicts
  served-seen : (rs : List Entry) (r : Entry) (c h : Bool) → verdicts x (pieces C e rs r) ≡ one c h
      → view_served x (serve_entry C t e rs r)
      ≡ served (cond c (one h r.mark) []) (cond c (cond h [] (entered C t e r.mark)) []) (cond c (cond h [] (arriving C t e r.mark)) [])
  unfolding serve_entry
  served-seen rs r c h v =
      λ i. served
      (held-view x r.mark (pieces C e rs r) c h v i)
      (entering_view x (entered C t e r.mark) (pieces C e rs r) c h v i)
      (arriving-view x (arriving C t e r.mark) (pieces C e rs r) c h v i)

  pub serve-view : (b : List Entry) (r : Entry) (c : List Entry) (v : List (Arrival Mark)) → Every (Proper C) (b ++ (r ∷ c)) → asks C t e r.mark ≡ true
      → Orderly C (view x (b ++ (r ∷ c))) v
      → view_served x (serve_entry C t e (b ++ (r ∷ c)) r) ≡ cond (covers r.cover x) (serve_train C t e (view x (b ++ (r ∷ c))) r.mark) (served [] [] [])
  unfolding serve_train enters
  serve-view b r c v ps ask o = go (covers r.cover x) refl
    where
      rs : List Entry
      rs = b ++ (r ∷ c)

      k : ℕ
      k = r.mark.train

      held : Bool
      held = partner_held C e k (view x rs)

      full : Bool
      full = not (same e gone) && (held || leb (capacity C e) (hits x (meets e k rs)))

      verdict : verdicts x (pieces C e rs r) ≡ one (covers r.cover x) full
      verdict = pieces-verdict x C e rs r
          (every_more (Proper C) (λ a. Fits x a.cover) (proper-fits C x ch) rs ps)
          (proper-fits C x ch r (every_right (Proper C) b (r ∷ c) ps).0)

      go : (z : Bool) → covers r.cover x ≡ z → view_served x (serve_entry C t e rs r) ≡ cond z (serve_train C t e (view x rs) r.mark) (served [] [] [])
      go false q = served-seen rs r false full (verdict ∙ ap (λ (y : Bool). one y full) q)
      go true q = served-seen rs r true full (verdict ∙ ap (λ (y : Bool). one y full) q) ∙ last (enters C e k (view x rs)) shut
        where
          here : view x rs ≡ view x b ++ (r.mark ∷ view x c)
          here = view-append x b (r ∷ c) ∙ ap (λ (l : List Mark). view x b ++ l) (view_cons x r c ∙ ap (λ (y : Bool). one y r.mark ++ view x c) q)

          trains : hits x (meets e k rs) ≡ trains_on C e (view x rs)
          trains =
              meets-hits x e k rs
              ∙ ap (count (is_other k e)) here
              ∙ others-on x C sound t e r.mark ask (view x b) (view x c) v (subst (λ (l : List Mark). Orderly C l v) here o)
              ∙ ap (trains_on C e) (sym here)

          shut : full ≡ not (enters C e k (view x rs))
          shut =
              ap (λ (n : ℕ). not (same e gone) && (held || leb (capacity C e) n)) trains
              ∙ not-enters (same e gone) (trains_on C e (view x rs)) (capacity C e) held

          last : (y : Bool) → full ≡ not y
              → served (one full r.mark) (cond full [] (entered C t e r.mark)) (cond full [] (arriving C t e r.mark))
              ≡ cond y (served [] (entered C t e r.mark) (arriving C t e r.mark)) (served (r.mark ∷ []) [] [])
          last true w = ap (λ (f : Bool). served (one f r.mark) (cond f [] (entered C t e r.mark)) (cond f [] (arriving C t e r.mark))) w
          last false w = ap (λ (f : Bool). served (one f r.mark) (cond f [] (entered C t e r.mark)) (cond f [] (arriving C t e r.mark))) w

-- ---- the rows after an asker is served, as a choice sees them

pub view_rows-served : (x : List ℕ) (s : Served Entry) (b c : List (Row Entry)) → view_rows x (served_rows s b c) ≡ served_rows (view_served x s) (view_rows x b) (view_rows x c)
view_rows-served x s b c =
    view_rows-append x (b ++ quiet s.rows ++ c) (quiet s.added)
    ∙ ap₂ ◌++◌
    (view_rows-append x (b ++ quiet s.rows) c
    ∙ ap (λ (z : List (Row Mark)). z ++ view_rows x c)
    (view_rows-append x b (quiet s.rows) ∙ ap (λ (z : List (Row Mark)). view_rows x b ++ z) (view_rows-quiet x s.rows)))
    (view_rows-quiet x s.added)
