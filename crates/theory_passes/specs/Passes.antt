-- The runs in the form in which code computes them: minute by minute, element by element, train by train. A pass serves all askers of one train for one
-- element at once, each against the list as it stands before the pass. Assumes nothing: these are definitions.
use Rattle.std.specs.Prelude.{Bool, false, not, ◌&&◌, ◌||◌, cond, List, [], ◌∷◌, ◌++◌, map, ℕ, zero, suc, ltb, eqb}
use Rattle.rules.specs.Lists.{each, keep, count, fold, below}
use Rattle.rules.specs.Refusals.{first_of}
use Rattle.rules.specs.Files.{Case}
use Rattle.rules.specs.Turns.{Place, same, Mark, capacity, ended, asks, entered, arriving, Served, served, State, state, Arrival}
use Rattle.rules.specs.Turns.Place.{gone}
use Rattle.rules.specs.Single.{partner_held, first_marks}
use Rattle.rules.specs.Joint.{Cover, Entry, entry, Piece, piece, carry, meets, meets_across, across, first_list, check_list, covered}
use Rattle.theory_codes.specs.Codes.{place_of}
use Rattle.theory_codes.specs.Tables.{order}

-- the mark is train k's and asks for e in minute t
unfoldable pub asks_for : Case → ℕ → Place → ℕ → Mark → Bool
asks_for C t e k m = eqb m.train k && asks C t e m

-- ---- the joint run

-- the pieces of the cover p, carried first through the partner's covers, `far`, and then through the element's own, qs
unfoldable pub pieces_among : Case → Place → List Cover → List Cover → Cover → List Piece
pieces_among C e far qs p = cond (same e gone) (piece p false ∷ []) (across (carry (capacity C e) qs 0) far p)

-- what comes of an asker that meets these covers
unfoldable pub serve_among : Case → ℕ → Place → List Cover → List Cover → Entry → Served Entry
serve_among C t e far qs r =
    let ps = pieces_among C e far qs r.cover in
    let entering = keep (λ q. not q.held) ps in
    served
    (map (λ q. entry r.mark q.cover) (keep (λ q. q.held) ps))
    (each (λ q. map (λ m. entry m q.cover) (entered C t e r.mark)) entering)
    (each (λ q. map (covered q.cover) (arriving C t e r.mark)) entering)

-- what comes of an entry in the pass of train k: an asker of that train is served, any other entry stays
unfoldable pub passed : Case → ℕ → Place → ℕ → List Cover → List Cover → Entry → Served Entry
passed C t e k far qs r = cond (asks_for C t e k r.mark) (serve_among C t e far qs r) (served (r ∷ []) [] [])

-- the list after the pass: what stands in the rows, then what is added
unfoldable pub pass_list : Case → ℕ → Place → ℕ → List Entry → List Entry
pass_list C t e k l =
    let far = meets_across C e k l in
    let qs = meets e k l in
    each (λ r. (passed C t e k far qs r).rows) l ++ each (λ r. (passed C t e k far qs r).added) l

unfoldable pub pass_arrived : Case → ℕ → Place → ℕ → List Entry → List (Arrival Entry)
pass_arrived C t e k l = each (λ r. (passed C t e k (meets_across C e k l) (meets e k l) r).arrived) l

-- one pass of train k for e in minute t; the list is held against the room once, at its end
unfoldable pub pass : Case → ℕ → Place → ℕ → State Entry → State Entry
pass C t e k s =
    let l = pass_list C t e k s.list in
    state l (s.arrived ++ pass_arrived C t e k s.list) (first_of (ltb 0 s.met) s.met (check_list C l))

-- ---- the single run

-- e is the way out, or fewer marks than its capacity are on it and no other train than k is on its partner
unfoldable pub admits : Case → Place → ℕ → List Mark → Bool
admits C e k ms = same e gone || (ltb (count (λ m. same m.place e) ms) (capacity C e) && not (partner_held C e k ms))

-- the mark is train k's, asks for e and enters it
unfoldable pub goes : Case → ℕ → Place → ℕ → List Mark → Mark → Bool
goes C t e k ms m = asks_for C t e k m && admits C e k ms

-- one pass of train k for e in minute t: a mark that enters leaves its row, and its new marks go to the end
unfoldable pub pass_train : Case → ℕ → Place → ℕ → State Mark → State Mark
pass_train C t e k s =
    let going = keep (goes C t e k s.list) s.list in
    state (keep (λ m. not (goes C t e k s.list m)) s.list ++ each (entered C t e) going) (s.arrived ++ each (arriving C t e) going) s.met

-- ---- minutes of passes

-- the blocks that have ended by t are gone
abbrev pub cleared : {A : Type 0} → (A → Mark) → ℕ → State A → State A
cleared mark t s = state (keep (λ a. not (ended t (mark a))) s.list) s.arrived s.met

-- the codes of all elements, in the order in which they are visited
abbrev pub element_codes : List ℕ
element_codes = below 65

-- the passes of all trains for the element with code c
abbrev pub element_passes : {A : Type 0} → Case → (ℕ → Place → ℕ → State A → State A) → ℕ → ℕ → State A → State A
element_passes C step t c s = fold (step t (place_of c)) (order C) s

module _ {A : Type 0} (C : Case) (mark : A → Mark) (step : ℕ → Place → ℕ → State A → State A) where
  -- minute t: the elements of all codes one after another
  unfoldable pub minute_passes : ℕ → State A → State A
  minute_passes t s = fold (element_passes C step t) element_codes (cleared mark t s)

  -- the first n minutes
  unfoldable pub minutes_passes : ℕ → State A → State A
  minutes_passes zero s = s
  minutes_passes (suc n) s = minute_passes n (minutes_passes n s)

-- the joint run after minute m, pass by pass
unfoldable pub joint_passes : Case → ℕ → State Entry
joint_passes C m = minutes_passes C (λ r. r.mark) (pass C) (suc m) (state (first_list C) [] (check_list C (first_list C)))

-- the single run after minute m, pass by pass
unfoldable pub single_passes : Case → List ℕ → ℕ → State Mark
single_passes C x m = minutes_passes C (λ a. a) (pass_train C) (suc m) (state (first_marks C x) [] 0)
