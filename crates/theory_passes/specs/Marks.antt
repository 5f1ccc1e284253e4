-- The marks that come of an asker: in its row its own mark stays, at the end are the marks with which it enters. So what these have, all have.
-- By the cases of serving, in the joint run and in the single run. Assumes nothing.
use Rattle.std.specs.Prelude.{◌≡◌, refl, Bool, true, false, not, cond, List, [], ◌∷◌, map, ℕ, ◌+◌}
use Rattle.rules.specs.Lists.{keep}
use Rattle.rules.specs.Files.{Case}
use Rattle.rules.specs.Turns.{Place, Mark, block, leaves_block, leaving, entered, arriving, served, Rules}
use Rattle.rules.specs.Single.{enters, serve_train, single_rules}
use Rattle.rules.specs.Joint.{entry, Piece, pieces, serve_entry, joint_rules}
use Rattle.theory_lists.specs.Every.{Every, every_map, every_each, every_all, every_one}

-- what an asker's mark and the marks with which it enters have, what comes of it in its row and at the end has
abbrev pub Marks : {A : Type 0} → Case → Rules A → Type 1
Marks {A} C R = (Q : Mark → Type 0) (t : ℕ) (e : Place) (l : List A) (a : A) → Q (R.mark a) → Every Q (entered C t e (R.mark a))
    → Every (λ i. Q (R.mark i)) (R.serve t e l a).rows × Every (λ i. Q (R.mark i)) (R.serve t e l a).added

pub joint-marks : (C : Case) → Marks C (joint_rules C)
unfolding joint_rules serve_entry
joint-marks C Q t e l a own new = (
  every_map (λ q. Unit) (λ i. Q i.mark) (λ q. entry a.mark q.cover) (λ q u. own) held (every_all (λ q. Unit) (λ q. tt) held),
  every_each (λ q. Unit) (λ i. Q i.mark) (λ q. map (λ m. entry m q.cover) (entered C t e a.mark))
      (λ q u. every_map Q (λ i. Q i.mark) (λ m. entry m q.cover) (λ m h. h) (entered C t e a.mark) new) entering (every_all (λ q. Unit) (λ q. tt) entering),
)
  where
    held : List Piece
    held = keep (λ q. q.held) (pieces C e l a)

    entering : List Piece
    entering = keep (λ q. not q.held) (pieces C e l a)

pub single-marks : (C : Case) → Marks C (single_rules C)
unfolding single_rules serve_train
single-marks C Q t e l a own new = go (enters C e a.train l)
  where
    go : (b : Bool) → let s = cond b (served [] (entered C t e a) (arriving C t e a)) (served (a ∷ []) [] []) in Every Q s.rows × Every Q s.added
    go true = (tt, new)
    go false = ((own, tt), tt)

-- ---- the train of what comes of an asker

-- it is the asker's
abbrev pub Own : {A : Type 0} → Rules A → Type 0
Own {A} R = (t : ℕ) (e : Place) (l : List A) (a : A)
    → Every (λ i. (R.mark i).train ≡ (R.mark a).train) (R.serve t e l a).rows × Every (λ i. (R.mark i).train ≡ (R.mark a).train) (R.serve t e l a).added

entered-train : (C : Case) (t : ℕ) (e : Place) (m : Mark) → Every (λ i. i.train ≡ m.train) (entered C t e m)
unfolding entered leaving
entered-train C t e m =
    (refl, every_one (λ i. i.train ≡ m.train) (leaves_block C m.place) (block m.train m.place (t + C.head.safety)) (λ h. refl))

own : {A : Type 0} (C : Case) (R : Rules A) → Marks C R → Own R
own C R h t e l a = h (λ m. m.train ≡ (R.mark a).train) t e l a refl (entered-train C t e (R.mark a))

pub joint-own : (C : Case) → Own (joint_rules C)
joint-own C = own C (joint_rules C) (joint-marks C)

pub single-own : (C : Case) → Own (single_rules C)
single-own C = own C (single_rules C) (single-marks C)
