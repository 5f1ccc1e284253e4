-- Request 3 of 02 in words of its own: with safety time s an element that is left at t can be entered by another train at t + s, and not before, where its
-- capacity is 1. Of the single run, turn by turn. Assumes nothing: these are definitions.
use Rattle.std.specs.Prelude.{◌≡◌, Bool, true, false, not, ◌&&◌, cond, List, [], ◌∷◌, ℕ, ◌+◌, ◌≤◌, ◌<◌}
use Rattle.rules.specs.Lists.{keep, any, fold}
use Rattle.rules.specs.Files.{Case}
use Rattle.rules.specs.Turns.{Place, same, Mark, block, elements, ended, State, state, visit, minutes}
use Rattle.rules.specs.Single.{first_marks, partner_held, enters, single_rules, single}
use Rattle.rules.specs.Demands.{is_standing}

-- of these elements, those that are visited before e
abbrev pub visited_before : Place → List Place → List Place
visited_before e [] = []
visited_before e (p ∷ ps) = cond (same p e) [] (p ∷ visited_before e ps)

-- the single run of the choice x in minute t when the turn of e comes: the blocks that ended have gone, and the elements before e were visited
unfoldable pub at_turn : Case → List ℕ → ℕ → Place → State Mark
at_turn C x t e =
    let s = minutes C (single_rules C) t (state (first_marks C x) [] 0) in
    fold (visit C (single_rules C) t) (visited_before e (elements C)) (state (keep (λ m. not (ended t m)) s.list) s.arrived s.met)

-- and when that turn is over
abbrev pub after_turn : Case → List ℕ → ℕ → Place → State Mark
after_turn C x t e = visit C (single_rules C) t e (at_turn C x t e)

-- train k stands on e
abbrev pub stands_on : ℕ → Place → List Mark → Bool
stands_on k e ms = any (λ m. is_standing k m && same m.place e) ms

-- in minute t train k leaves e in the turn of the element f
pub record Leaves (C : Case) (x : List ℕ) (t k : ℕ) (e f : Place) : Type 0 where
  pub element : any (λ p. same p f) (elements C) ≡ true
  pub stood : stands_on k e (at_turn C x t f).list ≡ true
  pub left : stands_on k e (after_turn C x t f).list ≡ false

-- the turn of e in minute u comes after that of f in minute t: in a later minute, or in the same one if f is visited before e
pub data Later (C : Case) (t : ℕ) (f : Place) (u : ℕ) (e : Place) : Type 0 where
  in_later_minute : t < u → Later C t f u e
  in_same_minute : t ≡ u → any (λ p. same p f) (visited_before e (elements C)) ≡ true → Later C t f u e

-- minute u has the first turn of e that comes after that of f in minute t and is not before minute n
pub record FirstTurn (C : Case) (t : ℕ) (f : Place) (n u : ℕ) (e : Place) : Type 0 where
  pub later : Later C t f u e
  pub in_time : n ≤ u
  pub first : (w : ℕ) → n ≤ w → w < u → Later C t f w e → ⊥

-- what holds of an element e of capacity 1 that train k left at t in the turn of f
pub record FreeAgain (C : Case) (x : List ℕ) (t k : ℕ) (e f : Place) : Type 0 where
  -- before minute t + s nobody enters it
  pub held : (u j : ℕ) → Later C t f u e → u < t + C.head.safety → enters C e j (at_turn C x u e).list ≡ false
  -- after each minute until then, what is on it is the block that the train left, whose end is t + s
  pub blocked : (u : ℕ) → t ≤ u → u < t + C.head.safety → keep (λ m. same m.place e) (single C x u).list ≡ block k e (t + C.head.safety) ∷ []
  -- at its first turn from minute t + s on, any train that asks may enter it, unless another train holds the partner of a coupled track; this turn is in minute
  -- t + s itself, but for safety time 0 where its turn in minute t is over: then it is in the next minute
  pub free : (u j : ℕ) → FirstTurn C t f (t + C.head.safety) u e → enters C e j (at_turn C x u e).list ≡ not (partner_held C e j (at_turn C x u e).list)
