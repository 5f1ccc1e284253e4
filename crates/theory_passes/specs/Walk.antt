-- The askers of one train for one element, served one after another in list order, each against the list as it then stands: what serving keeps the walk
-- keeps, it never shortens the list, and where it meets the room is told by its last list. Each law is an induction on the rows still to look at. Assumes nothing.
use Rattle.std.specs.Prelude.{◌≡◌, Bool, ◌&&◌, cond, ℕ, zero, suc, ◌≤◌, ltb, eqb}
use Rattle.std.proofs.Math.Path.{refl, sym, ap}
use Rattle.std.proofs.Common.{◌∙◌, subst, length-append}
use Rattle.std.proofs.Math.Bool.{true, false}
use Rattle.std.proofs.lemmas.Bool.{false≢true}
use mathlib.Core.List.{List, [], ◌∷◌, ◌++◌, append_assoc}
use native.Mathlib.Omega.{arith}
use Rattle.std.proofs.Math.ListN.{length}
use borrow.Author.Tests.{eqb-true, ltb-true, ltb-false, lt-ltb, le-ltb}
use Rattle.rules.specs.Refusals.{first_of}
use Rattle.rules.specs.Files.{Case}
use Rattle.rules.specs.Turns.{Place, Mark, asks, Served, State, state, Rules, Arrival}
use Rattle.rules.specs.Demands.{passes}
use Rattle.theory_lists.specs.Every.{Every}
use Rattle.theory_lists.specs.Items.{served_list}
use Rattle.theory_lists.specs.Tests.{and_true-first}
use Rattle.theory_trace.specs.Longest.{Grows}
use Rattle.theory_trace.specs.Trace.{first_assoc}
use Rattle.theory_passes.specs.Passes.{asks_for}

-- ---- who asks

pub asks_for-asks : (C : Case) (t : ℕ) (e : Place) (k : ℕ) (m : Mark) → asks_for C t e k m ≡ true → asks C t e m ≡ true
unfolding asks_for
asks_for-asks C t e k m h = second (eqb m.train k) h
  where
    second : (b : Bool) → (b && asks C t e m) ≡ true → asks C t e m ≡ true
    second true q = q
    second false q = absurd (false≢true q)

pub asks_for-train : (C : Case) (t : ℕ) (e : Place) (k : ℕ) (m : Mark) → asks_for C t e k m ≡ true → m.train ≡ k
unfolding asks_for
asks_for-train C t e k m h = eqb-true m.train k (and_true-first (eqb m.train k) (asks C t e m) h)

-- ---- what is met

-- a list that passed the room tells no more than a longer one
met-then : (n : ℕ) (a b : Bool) (x y : ℕ) → x ≡ cond a 12 0 → y ≡ cond b 12 0 → (a ≡ true → b ≡ true)
    → first_of (ltb 0 (first_of (ltb 0 n) n x)) (first_of (ltb 0 n) n x) y ≡ first_of (ltb 0 n) n y
met-then n a b x y p q h = first_assoc n x y ∙ ap (first_of (ltb 0 n) n) (ap (λ (z : ℕ). first_of (ltb 0 z) z y) p ∙ go a h)
  where
    go : (a : Bool) → (a ≡ true → b ≡ true) → first_of (ltb 0 (cond a 12 0)) (cond a 12 0) y ≡ y
    go true h = sym (q ∙ ap (λ (z : Bool). cond z 12 0) (h refl))
    go false h = refl

-- a list within the room adds nothing
met-stays : (n : ℕ) (a : Bool) (x : ℕ) → x ≡ cond a 12 0 → (n ≡ 0 → a ≡ false) → first_of (ltb 0 n) n x ≡ n
met-stays zero a x p h = p ∙ ap (λ (z : Bool). cond z 12 0) (h refl)
met-stays (suc n) a x p h = ap (λ (z : Bool). first_of z (suc n) x) (lt-ltb 0 (suc n) (omega arith))

-- where nothing is met, the list is within the room
pub met-within : (n : ℕ) (a : Bool) (x : ℕ) → x ≡ cond a 12 0 → first_of (ltb 0 n) n x ≡ 0 → a ≡ false
met-within zero true x p h = let z : ◌≡◌ {A = ℕ} 12 0 = sym p ∙ h in absurd (omega arith)
met-within zero false x p h = refl
met-within (suc n) a x p h = let z : suc n ≡ 0 = sym (ap (λ (z : Bool). first_of z (suc n) x) (lt-ltb 0 (suc n) (omega arith))) ∙ h in absurd (omega arith)

-- ---- the walk

module _ {A : Type 0} (C : Case) (R : Rules A) (t : ℕ) (e : Place) where
  -- the item is train k's and asks
  abbrev pub mine : ℕ → A → Bool
  mine k a = asks_for C t e k (R.mark a)

  -- what is met once the list l stands
  abbrev pub met_with : ℕ → List A → ℕ
  met_with n l = first_of (ltb 0 n) n (R.check l)

  -- an asker a with the list before it and after it served; `go` looks at what follows, with the rows passed and those added
  abbrev pub walk_one : (List A → List A → List (Arrival A) → ℕ → State A) → List A → A → List A → List A → List (Arrival A) → ℕ → Bool → State A
  walk_one go done a rest new v n true =
      let s = R.serve t e (done ++ (a ∷ (rest ++ new))) a in
      go (done ++ s.rows) (new ++ s.added) (v ++ s.arrived) (met_with n (served_list s done (rest ++ new)))
  walk_one go done a rest new v n false = go (done ++ (a ∷ [])) new v n

  -- the rows `done` are passed, `rest` are still to look at, `new` were added
  unfoldable pub walk : ℕ → List A → List A → List A → List (Arrival A) → ℕ → State A
  walk k done [] new v n = state (done ++ new) v n
  walk k done (a ∷ rest) new v n = walk_one (λ d w. walk k d rest w) done a rest new v n (mine k a)

  -- the walk of train k over a whole list
  abbrev pub walk_all : ℕ → State A → State A
  walk_all k s = walk k [] s.list [] s.arrived s.met

  -- ---- lists on the way

  -- the list after an asker is served, as the walk has it
  pub served-list : (s : Served A) (done rest new : List A) → served_list s done (rest ++ new) ≡ (done ++ s.rows) ++ (rest ++ (new ++ s.added))
  served-list s done rest new =
      append_assoc (done ++ s.rows) (rest ++ new) s.added ∙ ap (λ (z : List A). (done ++ s.rows) ++ z) (append_assoc rest new s.added)

  pub stayed_list : (done : List A) (a : A) (rest new : List A) → (done ++ (a ∷ [])) ++ (rest ++ new) ≡ done ++ (a ∷ (rest ++ new))
  stayed_list done a rest new = append_assoc done (a ∷ []) (rest ++ new)

  -- ---- what serving keeps

  module _ (P : List A → List (Arrival A) → Type 0)
      (by-serve : (b : List A) (a : A) (c : List A) (v : List (Arrival A)) → asks C t e (R.mark a) ≡ true → P (b ++ (a ∷ c)) v
      → P (served_list (R.serve t e (b ++ (a ∷ c)) a) b c) (v ++ (R.serve t e (b ++ (a ∷ c)) a).arrived)) where
    pub walk_keeps : (k : ℕ) (done rest new : List A) (v : List (Arrival A)) (n : ℕ) → P (done ++ (rest ++ new)) v → P (walk k done rest new v n).list (walk k done rest new v n).arrived
    unfolding walk
    walk_keeps k done [] new v n p = p
    walk_keeps k done (a ∷ rest) new v n p = go (mine k a) refl (λ d w. walk_keeps k d rest w)
      where
        go : (b : Bool) → mine k a ≡ b
            → ((d w : List A) (v : List (Arrival A)) (n : ℕ) → P (d ++ (rest ++ w)) v → P (walk k d rest w v n).list (walk k d rest w v n).arrived)
            → P (walk_one (λ d w. walk k d rest w) done a rest new v n b).list (walk_one (λ d w. walk k d rest w) done a rest new v n b).arrived
        go true q ih =
            ih (done ++ s.rows) (new ++ s.added) (v ++ s.arrived) (met_with n (served_list s done (rest ++ new)))
            (subst (λ (l : List A). P l (v ++ s.arrived)) (served-list s done rest new) (by-serve done a (rest ++ new) v (asks_for-asks C t e k (R.mark a) q) p))
          where
            s : Served A
            s = R.serve t e (done ++ (a ∷ (rest ++ new))) a
        go false q ih = ih (done ++ (a ∷ [])) new v n (subst (λ (l : List A). P l v) (sym (stayed_list done a rest new)) p)

  -- ---- nobody of the train asks

  pub walk-nobody : (k : ℕ) (done rest new : List A) (v : List (Arrival A)) (n : ℕ) → Every (λ a. mine k a ≡ false) rest → walk k done rest new v n ≡ state (done ++ (rest ++ new)) v n
  unfolding walk
  walk-nobody k done [] new v n h = refl
  walk-nobody k done (a ∷ rest) new v n h =
      ap (walk_one (λ d w. walk k d rest w) done a rest new v n) h.0
      ∙ walk-nobody k (done ++ (a ∷ [])) rest new v n h.1
      ∙ ap (λ (l : List A). state l v n) (stayed_list done a rest new)

  -- ---- the length of the list

  module _ (grows : Grows R) where
    served-longer : (done : List A) (a : A) (c : List A) → let s = R.serve t e (done ++ (a ∷ c)) a in length (done ++ (a ∷ c)) ≤ length (served_list s done c)
    served-longer done a c =
        let s = R.serve t e (done ++ (a ∷ c)) a in
        omega (
          arith,
          grows t e (done ++ (a ∷ c)) a,
          length-append done (a ∷ c),
          length-append (done ++ s.rows ++ c) s.added,
          length-append (done ++ s.rows) c,
          length-append done s.rows,
        )

    pub walk-longer : (k : ℕ) (done rest new : List A) (v : List (Arrival A)) (n : ℕ) → length (done ++ (rest ++ new)) ≤ length (walk k done rest new v n).list
    unfolding walk
    walk-longer k done [] new v n = omega arith
    walk-longer k done (a ∷ rest) new v n = go (mine k a) (λ d w. walk-longer k d rest w)
      where
        go : (b : Bool) → ((d w : List A) (v : List (Arrival A)) (n : ℕ) → length (d ++ (rest ++ w)) ≤ length (walk k d rest w v n).list)
            → length (done ++ (a ∷ (rest ++ new))) ≤ length (walk_one (λ d w. walk k d rest w) done a rest new v n b).list
        go true ih =
            let s = R.serve t e (done ++ (a ∷ (rest ++ new))) a in
            omega (
              arith,
              ih (done ++ s.rows) (new ++ s.added) (v ++ s.arrived) (met_with n (served_list s done (rest ++ new))),
              served-longer done a (rest ++ new),
              ap length (served-list s done rest new),
            )
        go false ih = omega (arith, ih (done ++ (a ∷ [])) new v n, ap length (stayed_list done a rest new))

    -- ---- the room

    -- where lists are refused for the room alone
    module _ (room : ℕ) (by_room : (l : List A) → R.check l ≡ cond (passes room l) 12 0) where
      -- 12 is met during the walk exactly where its last list passes the room
      pub walk-met : (k : ℕ) (done rest new : List A) (v : List (Arrival A)) (n : ℕ) → (n ≡ 0 → length (done ++ (rest ++ new)) ≤ room)
          → (walk k done rest new v n).met ≡ met_with n (walk k done rest new v n).list
      unfolding walk
      walk-met k done [] new v n fits =
          sym (met-stays n (passes room (done ++ new)) (R.check (done ++ new)) (by_room (done ++ new)) (λ z. le-ltb room (length (done ++ new)) (fits z)))
      walk-met k done (a ∷ rest) new v n fits = go (mine k a) (λ d w. walk-met k d rest w)
        where
          go : (b : Bool)
              → ((d w : List A) (v : List (Arrival A)) (n : ℕ) → (n ≡ 0 → length (d ++ (rest ++ w)) ≤ room) → (walk k d rest w v n).met ≡ met_with n (walk k d rest w v n).list)
              → (walk_one (λ d w. walk k d rest w) done a rest new v n b).met ≡ met_with n (walk_one (λ d w. walk k d rest w) done a rest new v n b).list
          go true ih =
              ih (done ++ s.rows) (new ++ s.added) (v ++ s.arrived) m within
              ∙ met-then n (passes room mid) (passes room last) (R.check mid) (R.check last) (by_room mid) (by_room last)
              (λ h. lt-ltb room (length last)
              (omega (arith, ltb-true room (length mid) h, walk-longer k (done ++ s.rows) rest (new ++ s.added) (v ++ s.arrived) m, ap length (served-list s done rest new))))
            where
              s : Served A
              s = R.serve t e (done ++ (a ∷ (rest ++ new))) a

              mid : List A
              mid = served_list s done (rest ++ new)

              m : ℕ
              m = met_with n mid

              last : List A
              last = (walk k (done ++ s.rows) rest (new ++ s.added) (v ++ s.arrived) m).list

              within : m ≡ 0 → length ((done ++ s.rows) ++ (rest ++ (new ++ s.added))) ≤ room
              within z =
                  omega (
                    arith,
                    ltb-false room (length mid) (met-within n (passes room mid) (R.check mid) (by_room mid) z),
                    ap length (served-list s done rest new),
                  )
          go false ih = ih (done ++ (a ∷ [])) new v n (λ z. omega (arith, fits z, ap length (stayed_list done a rest new)))
