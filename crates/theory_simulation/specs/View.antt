-- What a choice sees of the joint run, and that it sees an asker served as the single run serves it.
-- The pieces give the choice one verdict; other trains' entries that cover it are as many as the trains on the element, by the order kept, and one of them is on the
-- partner where another train is. Takes `Sound` as given, and assumes nothing else.
use Rattle.std.specs.Prelude.{◌≡◌, ◌&&◌, leb, eqb}
use Rattle.std.proofs.Math.Path.{refl, sym, ap, ap₂}
use Rattle.std.proofs.Common.{◌∙◌, arith}
use Rattle.std.proofs.Math.Bool.{Bool, true, false, not, ◌||◌, cond}
use mathlib.Core.List.{List, [], ◌∷◌, ◌++◌, map, append-nil}
use Prim.Native.Nat.{ℕ}
use Rattle.rules.specs.Lists.{one, each, keep, any, tick, sum, count}
use Rattle.rules.specs.Files.{Case}
use Rattle.rules.specs.Turns.{Place, same, Mark, capacity, paired, asks, ended, Arrival, arrives, Served, served, Row, row, items, quiet}
use Rattle.rules.specs.Turns.Place.{gone}
use Rattle.rules.specs.Single.{trains_on, partner_held, single_rules}
use Rattle.rules.specs.Joint.{Cover, covers, Entry, entry, covered, Piece, piece, carry, meets, meets_across, across, pieces, joint_rules}
use Rattle.rules.specs.Demands.{view, arrivals_seen}
use Rattle.theory_sound.specs.Facts.{Sound}
use Rattle.theory_lists.specs.Each.{each_append, each_map, each-each, each_same, each_none, each_self, each_one}
use Rattle.theory_lists.specs.Every.{Every, every_each, every_one, any_append}
use Rattle.theory_lists.specs.Sums.{sum_same, sum-each, sum_one}
use Rattle.theory_simulation.specs.Covers.{Fits}
use Rattle.theory_simulation.specs.Cutting.{verdicts, hits, carry_law, hit, across_law}
use Rattle.theory_simulation.specs.Askers.{Asking}
use Rattle.theory_simulation.specs.Orderly.{is_other, on-split, Orderly, trains_on-count}
use Rattle.theory_simulation.specs.Steps.{asker_none}

-- ---- the definitions

-- the same of rows, which ask or do not
unfoldable pub view_rows : List ℕ → List (Row Entry) → List (Row Mark)
view_rows x rs = each (λ r. one (covers r.item.cover x) (row r.item.mark r.asking)) rs

-- the same of what comes of an asker
abbrev pub view_served : List ℕ → Served Entry → Served Mark
view_served x s = served (view x s.rows) (view x s.added) (arrivals_seen x s.arrived)

-- ---- the covers that are met

-- what holds of each entry's cover holds of each that an asker meets
pub meets-covers : (P : Cover → Type 0) (e : Place) (k : ℕ) (rs : List Entry) → Every (λ r. P r.cover) rs → Every P (meets e k rs)
unfolding meets
meets-covers P e k rs h = search (every_each, every_one)

pub across-covers : (P : Cover → Type 0) (C : Case) (e : Place) (k : ℕ) (rs : List Entry) → Every (λ r. P r.cover) rs → Every P (meets_across C e k rs)
unfolding meets_across
across-covers P C e k rs h = search (every_each, every_one)

-- ---- views of lists and of rows

-- two tests of one item may change places
one_swap : (m : Mark) (a b : Bool) → cond a (one b m) [] ≡ cond b (one a m) []
one_swap m true true = refl
one_swap m true false = refl
one_swap m false true = refl
one_swap m false false = refl

module _ (x : List ℕ) where
  pub view-append : (s t : List Entry) → view x (s ++ t) ≡ view x s ++ view x t
  unfolding view
  view-append s t = each_append (λ r. one (covers r.cover x) r.mark) s t

  pub arrivals_seen-append : (s t : List (Arrival Entry)) → arrivals_seen x (s ++ t) ≡ arrivals_seen x s ++ arrivals_seen x t
  unfolding arrivals_seen
  arrivals_seen-append s t = each_append (λ v. one (covers v.who.cover x) (arrives v.who.mark v.minute)) s t

  pub view_rows-append : (s t : List (Row Entry)) → view_rows x (s ++ t) ≡ view_rows x s ++ view_rows x t
  unfolding view_rows
  view_rows-append s t = each_append (λ r. one (covers r.item.cover x) (row r.item.mark r.asking)) s t

  pub view_cons : (r : Entry) (rs : List Entry) → view x (r ∷ rs) ≡ one (covers r.cover x) r.mark ++ view x rs
  unfolding view
  view_cons r rs = refl

  pub view_rows_cons : (r : Row Entry) (rs : List (Row Entry)) → view_rows x (r ∷ rs) ≡ one (covers r.item.cover x) (row r.item.mark r.asking) ++ view_rows x rs
  unfolding view_rows
  view_rows_cons r rs = refl

  -- the rows seen of a list's rows are those of the list seen
  pub view_rows-start : (f : Mark → Bool) (l : List Entry) → view_rows x (map (λ r. row r (f r.mark)) l) ≡ map (λ m. row m (f m)) (view x l)
  unfolding view_rows view
  view_rows-start f [] = refl
  view_rows-start f (r ∷ l) = go (covers r.cover x) (view_rows-start f l)
    where
      go : (c : Bool) → view_rows x (map (λ r. row r (f r.mark)) l) ≡ map (λ m. row m (f m)) (view x l)
          → one c (row r.mark (f r.mark)) ++ view_rows x (map (λ r. row r (f r.mark)) l) ≡ map (λ m. row m (f m)) (one c r.mark ++ view x l)
      go true ih = ap (λ (z : List (Row Mark)). row r.mark (f r.mark) ∷ z) ih
      go false ih = ih

  pub view_rows-quiet : (l : List Entry) → view_rows x (quiet l) ≡ quiet (view x l)
  view_rows-quiet l = view_rows-start (λ m. false) l

  pub items-view : (rs : List (Row Entry)) → items (view_rows x rs) ≡ view x (items rs)
  unfolding view_rows view
  items-view [] = refl
  items-view (r ∷ rs) = go (covers r.item.cover x) (items-view rs)
    where
      go : (c : Bool) → items (view_rows x rs) ≡ view x (items rs) → items (one c (row r.item.mark r.asking) ++ view_rows x rs) ≡ one c r.item.mark ++ view x (items rs)
      go true ih = ap (λ (z : List Mark). r.item.mark ∷ z) ih
      go false ih = ih

  -- what asking rows have, the rows seen of them have
  pub view_rows-asking : (C : Case) (P : Mark → Type 0) (rs : List (Row Entry)) → Every (Asking (joint_rules C) P) rs → Every (Asking (single_rules C) P) (view_rows x rs)
  unfolding view_rows joint_rules single_rules
  view_rows-asking C P rs h =
      every_each (Asking (joint_rules C) P) (Asking (single_rules C) P) (λ r. one (covers r.item.cover x) (row r.item.mark r.asking))
      (λ r f. every_one (Asking (single_rules C) P) (covers r.item.cover x) (row r.item.mark r.asking) (λ q. f)) rs h

  pub view_rows-none : (rs : List (Row Entry)) → Every (λ r. r.asking ≡ false) rs → Every (λ r. r.asking ≡ false) (view_rows x rs)
  unfolding view_rows
  view_rows-none rs h =
      every_each (λ r. r.asking ≡ false) (λ r. r.asking ≡ false) (λ r. one (covers r.item.cover x) (row r.item.mark r.asking))
      (λ r f. every_one (λ r. r.asking ≡ false) (covers r.item.cover x) (row r.item.mark r.asking) (λ q. f)) rs h

  -- the entries of a kind that cover the choice have the marks of that kind that it sees
  pub view-keep : (test : Mark → Bool) (rs : List Entry) → map (λ r. r.mark) (keep (λ r. covers r.cover x && test r.mark) rs) ≡ keep test (view x rs)
  unfolding view
  view-keep test [] = refl
  view-keep test (r ∷ rs) = go (covers r.cover x) (test r.mark) refl (view-keep test rs)
    where
      rest : List Entry
      rest = keep (λ a. covers a.cover x && test a.mark) rs

      go : (c b : Bool) → test r.mark ≡ b → map (λ a. a.mark) rest ≡ keep test (view x rs)
          → map (λ a. a.mark) (one (c && b) r ++ rest) ≡ keep test (one c r.mark ++ view x rs)
      go true true q ih = ap (λ (l : List Mark). r.mark ∷ l) ih ∙ ap (λ (z : Bool). one z r.mark ++ keep test (view x rs)) (sym q)
      go true false q ih = ih ∙ ap (λ (z : Bool). one z r.mark ++ keep test (view x rs)) (sym q)
      go false b q ih = ih

  -- blocks that end are seen to end
  pub view-end : (t : ℕ) (rs : List Entry) → view x (keep (λ r. not (ended t r.mark)) rs) ≡ keep (λ m. not (ended t m)) (view x rs)
  unfolding view
  view-end t rs =
      each-each (λ r. one (covers r.cover x) r.mark) (λ r. one (not (ended t r.mark)) r) rs
      ∙ each_same (λ r. each (λ a. one (covers a.cover x) a.mark) (one (not (ended t r.mark)) r))
      (λ r. each (λ m. one (not (ended t m)) m) (one (covers r.cover x) r.mark))
      (λ r. each_one (λ a. one (covers a.cover x) a.mark) (not (ended t r.mark)) r
      ∙ one_swap r.mark (not (ended t r.mark)) (covers r.cover x)
      ∙ sym (each_one (λ m. one (not (ended t m)) m) (covers r.cover x) r.mark)) rs
      ∙ sym (each-each (λ m. one (not (ended t m)) m) (λ r. one (covers r.cover x) r.mark) rs)

  -- ---- views of pieces

  -- what is made of the pieces, seen through what is made of their verdicts
  through {ℓ} : {B : Type ℓ} (f : Piece → List B) (g : Bool → List B) → ((q : Piece) → f q ≡ cond (covers q.cover x) (g q.held) [])
      → (ps : List Piece) (c h : Bool) → verdicts x ps ≡ one c h → each f ps ≡ cond c (g h) []
  unfolding verdicts
  through f g e ps c h v =
      each_same f (λ q. each g (one (covers q.cover x) q.held)) (λ q. e q ∙ sym (each_one g (covers q.cover x) q.held)) ps
      ∙ sym (each-each g (λ q. one (covers q.cover x) q.held) ps)
      ∙ ap (each g) v
      ∙ each_one g c h

  -- held pieces of an entry with the mark m
  pub held-view : (m : Mark) (ps : List Piece) (c h : Bool) → verdicts x ps ≡ one c h
      → view x (map (λ q. entry m q.cover) (keep (λ q. q.held) ps)) ≡ cond c (one h m) []
  unfolding view
  held-view m ps c h v =
      each_map (λ r. one (covers r.cover x) r.mark) (λ q. entry m q.cover) (keep (λ q. q.held) ps)
      ∙ each-each (λ q. one (covers q.cover x) m) (λ q. one q.held q) ps
      ∙ through (λ q. each (λ a. one (covers a.cover x) m) (one q.held q)) (λ b. one b m)
      (λ q. each_one (λ a. one (covers a.cover x) m) q.held q ∙ one_swap m q.held (covers q.cover x)) ps c h v

  -- what is made of each of `new` under a piece's cover, where it is seen by the choices that the cover covers
  module _ {X Y : Type 0} (under : Cover → X → Y) (seen : Y → List X) (here : (p : Cover) (v : X) → seen (under p v) ≡ one (covers p x) v) where
    under_seen : (p : Cover) (new : List X) → each seen (map (under p) new) ≡ cond (covers p x) new []
    under_seen p new = each_map seen (under p) new ∙ each_same (λ v. seen (under p v)) (λ v. one (covers p x) v) (here p) new ∙ go (covers p x)
      where
        go : (c : Bool) → each (λ v. one c v) new ≡ cond c new []
        go true = each_self new
        go false = each_none new

    entering_seen : (new : List X) (ps : List Piece) (c h : Bool) → verdicts x ps ≡ one c h
        → each seen (each (λ q. map (under q.cover) new) (keep (λ q. not q.held) ps)) ≡ cond c (cond h [] new) []
    entering_seen new ps c h v =
        each-each seen (λ q. map (under q.cover) new) (keep (λ q. not q.held) ps)
        ∙ each-each (λ q. each seen (map (under q.cover) new)) (λ q. one (not q.held) q) ps
        ∙ through (λ q. each (λ a. each seen (map (under a.cover) new)) (one (not q.held) q)) (λ b. cond b [] new)
        (λ q. each_one (λ a. each seen (map (under a.cover) new)) (not q.held) q
        ∙ ap (λ (z : List X). cond (not q.held) z []) (under_seen q.cover new)
        ∙ go q.held (covers q.cover x)) ps c h v
      where
        go : (a b : Bool) → cond (not a) (cond b new []) [] ≡ cond b (cond a [] new) []
        go true true = refl
        go true false = refl
        go false true = refl
        go false false = refl

  -- the marks that entering pieces make, and their arrivals
  pub entering_view : (new : List Mark) (ps : List Piece) (c h : Bool) → verdicts x ps ≡ one c h
      → view x (each (λ q. map (λ m. entry m q.cover) new) (keep (λ q. not q.held) ps)) ≡ cond c (cond h [] new) []
  unfolding view
  entering_view = entering_seen (λ p m. entry m p) (λ r. one (covers r.cover x) r.mark) (λ p m. refl)

  pub arriving-view : (new : List (Arrival Mark)) (ps : List Piece) (c h : Bool) → verdicts x ps ≡ one c h
      → arrivals_seen x (each (λ q. map (covered q.cover) new) (keep (λ q. not q.held) ps)) ≡ cond c (cond h [] new) []
  unfolding arrivals_seen
  arriving-view = entering_seen covered (λ v. one (covers v.who.cover x) (arrives v.who.mark v.minute)) (λ p v. refl)

  -- ---- the verdict

  -- the entries to meet that cover the choice are the marks of other trains on the element
  pub meets-hits : (e : Place) (k : ℕ) (rs : List Entry) → hits x (meets e k rs) ≡ count (is_other k e) (view x rs)
  unfolding meets view
  meets-hits e k rs =
      sum-each (λ q. tick (covers q x)) (λ r. one (is_other k e r.mark) r.cover) rs
      ∙ sum_same (λ r. sum (λ q. tick (covers q x)) (one (is_other k e r.mark) r.cover)) (λ r. sum (λ m. tick (is_other k e m)) (one (covers r.cover x) r.mark))
      (λ r. sum_one (λ q. tick (covers q x)) (is_other k e r.mark) r.cover
      ∙ go (is_other k e r.mark) (covers r.cover x)
      ∙ sym (sum_one (λ m. tick (is_other k e m)) (covers r.cover x) r.mark)) rs
      ∙ sym (sum-each (λ m. tick (is_other k e m)) (λ r. one (covers r.cover x) r.mark) rs)
    where
      go : (a b : Bool) → cond a (tick b) 0 ≡ cond b (tick a) 0
      go true true = refl
      go true false = refl
      go false true = refl
      go false false = refl

  -- one of the partner's entries to meet covers the choice where another train is on the partner
  pub across-hit : (C : Case) (e : Place) (k : ℕ) (rs : List Entry) → hit x (meets_across C e k rs) ≡ partner_held C e k (view x rs)
  unfolding meets_across partner_held view
  across-hit C e k [] = refl
  across-hit C e k (r ∷ rs) =
      any_append (λ q. covers q x) (one (other r.mark) r.cover) (meets_across C e k rs)
      ∙ ap₂ ◌||◌ (go (other r.mark) (covers r.cover x) refl refl) (across-hit C e k rs)
      ∙ sym (any_append other (one (covers r.cover x) r.mark) (view x rs))
    where
      other : Mark → Bool
      other m = not (eqb m.train k) && paired C e m.place

      go : (a b : Bool) → other r.mark ≡ a → covers r.cover x ≡ b → any (λ q. covers q x) (one a r.cover) ≡ any other (one b r.mark)
      go true true p q = ap (λ (z : Bool). z || false) (q ∙ sym p)
      go true false p q = ap (λ (z : Bool). z || false) q
      go false true p q = sym (ap (λ (z : Bool). z || false) p)
      go false false p q = refl

  pub pieces-verdict : (C : Case) (e : Place) (rs : List Entry) (r : Entry) → Every (λ a. Fits x a.cover) rs → Fits x r.cover
      → verdicts x (pieces C e rs r)
      ≡ one (covers r.cover x) (not (same e gone) && (partner_held C e r.mark.train (view x rs) || leb (capacity C e) (hits x (meets e r.mark.train rs))))
  unfolding pieces verdicts
  pieces-verdict C e rs r fs f = go (same e gone)
    where
      k : ℕ
      k = r.mark.train

      met : List Cover
      met = meets e k rs

      full : Bool
      full = leb (capacity C e) (hits x met)

      own : (p : Cover) → Fits x p → verdicts x (carry (capacity C e) met 0 p) ≡ one (covers p x) full
      own p g = carry_law x (capacity C e) met (meets-covers (Fits x) e k rs fs) 0 p g ∙ ap (λ (z : ℕ). one (covers p x) (leb (capacity C e) z)) (omega arith)

      go : (b : Bool) → verdicts x (cond b (piece r.cover false ∷ []) (across (carry (capacity C e) met 0) (meets_across C e k rs) r.cover))
          ≡ one (covers r.cover x) (not b && (partner_held C e k (view x rs) || full))
      go true = append-nil (one (covers r.cover x) false)
      go false =
          across_law x (carry (capacity C e) met 0) full own (meets_across C e k rs) (across-covers (Fits x) C e k rs fs) r.cover f
          ∙ ap (λ (z : Bool). one (covers r.cover x) (z || full)) (across-hit C e k rs)

  -- the order that the view has makes the verdict the single run's
  pub others-on : (C : Case) → Sound C → (t : ℕ) (e : Place) (m : Mark) → asks C t e m ≡ true → (b c : List Mark) (v : List (Arrival Mark)) → Orderly C (b ++ (m ∷ c)) v
      → count (is_other m.train e) (b ++ (m ∷ c)) ≡ trains_on C e (b ++ (m ∷ c))
  others-on C sound t e m ask b c v o =
      omega (arith, trains_on-count C (b ++ (m ∷ c)) v o e, asker_none C sound t e m ask b c v o, on-split m.train e (b ++ (m ∷ c)))
