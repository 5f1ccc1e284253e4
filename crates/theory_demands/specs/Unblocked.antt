-- Safety time 0 leaves no block at all (request 3 of 02), of the joint run: no entry of any list that it goes through blocks, so none takes room for a block.
-- What comes of an asker stands, and so does each entry of the first list. Assumes nothing.
use Rattle.std.specs.Prelude.{◌≡◌, refl, ◌&&◌, ℕ, length, get_or, set}
use Rattle.std.proofs.Common.{sym, ◌∙◌}
use Rattle.std.proofs.Math.Path.{ap}
use Rattle.std.proofs.Math.Bool.{false, not}
use Rattle.std.proofs.lemmas.Bool.{false≢true}
use mathlib.Core.List.{List, [], ◌∷◌, map}
use Rattle.std.proofs.Math.Dec.{ltb}
use Rattle.rules.specs.Lists.{keep, below}
use Rattle.rules.specs.Files.{Case}
use Rattle.rules.specs.Turns.{Place, same, Mark, stands, last_station, due_again, leaves_block, leaving, entered, arrives, arriving}
use Rattle.rules.specs.Turns.Place.{outside}
use Rattle.rules.specs.Single.{waits}
use Rattle.rules.specs.Joint.{whole, Entry, entry, covered, Piece, pieces, serve_entry, first_list, joint_rules, joint}
use Rattle.rules.specs.Demands.{run_lists}
use Rattle.theory_lists.specs.Every.{Every, every_each, every_map, every_one, every_all}
use Rattle.theory_simulation.specs.Blocks.{leaves_when}
use Rattle.theory_weights.specs.Kept.{Keeps, KeptAll, run-kept}

-- the entry stands somewhere, and blocks nothing
abbrev pub Stands : Entry → Type 0
Stands r = r.mark.blocks ≡ false

module _ (C : Case) (none : C.head.safety ≡ 0) where
  -- a mark that enters leaves nothing behind
  entered-stands : (t : ℕ) (e : Place) (m : Mark) → Every (λ a. a.blocks ≡ false) (entered C t e m)
  unfolding entered leaving
  entered-stands t e m =
      let nothing : leaves_block C m.place ≡ false = leaves_when C m.place ∙ ap (λ (n : ℕ). ltb 0 n && not (same m.place outside)) none in
      (refl, every_one (λ a. a.blocks ≡ false) (leaves_block C m.place) _ (λ q. absurd (false≢true (sym nothing ∙ q))))

  arriving-stands : (t : ℕ) (e : Place) (m : Mark) → Every (λ v. v.who.blocks ≡ false) (arriving C t e m)
  unfolding arriving
  arriving-stands t e m =
      every_one (λ v. v.who.blocks ≡ false) (same e (last_station C m.train)) (arrives (stands m.train e (due_again C t m.train e)) t) (λ q. refl)

  -- serving keeps it
  serve-stands : Keeps (joint_rules C) Stands
  unfolding joint_rules serve_entry
  serve-stands t e l a h own = record {
    rows = every_map (λ q. Unit) Stands (λ q. entry a.mark q.cover) (λ q u. own) held (every_all (λ q. Unit) (λ q. tt) held);
    added = every_each (λ q. Unit) Stands (λ q. map (λ m. entry m q.cover) (entered C t e a.mark))
        (λ q u. every_map (λ m. m.blocks ≡ false) Stands (λ m. entry m q.cover) (λ m z. z) (entered C t e a.mark) (entered-stands t e a.mark))
        entering (every_all (λ q. Unit) (λ q. tt) entering);
    arrived = every_each (λ q. Unit) (λ v. Stands v.who) (λ q. map (covered q.cover) (arriving C t e a.mark))
        (λ q u. every_map (λ v. v.who.blocks ≡ false) (λ v. Stands v.who) (covered q.cover) (λ v z. z) (arriving C t e a.mark) (arriving-stands t e a.mark))
        entering (every_all (λ q. Unit) (λ q. tt) entering);
  }
    where
      held : List Piece
      held = keep (λ q. q.held) (pieces C e l a)

      entering : List Piece
      entering = keep (λ q. not q.held) (pieces C e l a)

  -- at first each train waits outside
  first-stands : Every Stands (first_list C)
  unfolding first_list waits
  first-stands =
      every_each (λ k. Unit) Stands (λ k. map (λ d. entry (waits C k d) (set (whole C) k (d ∷ []))) (below (length (get_or C.tables k []))))
      (λ k u. every_map (λ d. Unit) Stands (λ d. entry (waits C k d) (set (whole C) k (d ∷ []))) (λ d v. refl) (below (length (get_or C.tables k [])))
      (every_all (λ d. Unit) (λ d. tt) (below (length (get_or C.tables k [])))))
      (below (length C.trains)) (every_all (λ k. Unit) (λ k. tt) (below (length C.trains)))

  kept : (m : ℕ) → KeptAll Stands (run_lists C (joint_rules C) (first_list C) m) (joint C m)
  unfolding joint
  kept m = run-kept C (joint_rules C) Stands serve-stands (first_list C) m first-stands

  -- after every minute no entry blocks
  pub joint-stands : (m : ℕ) → Every Stands (joint C m).list
  joint-stands m = (kept m).list

  -- nor does any of the first list, or of the list after some asking entry was served
  pub lists_stand : (m : ℕ) → Every (Every Stands) (run_lists C (joint_rules C) (first_list C) m)
  lists_stand m = (kept m).lists
