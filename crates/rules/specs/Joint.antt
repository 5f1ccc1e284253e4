-- 01, "The joint run", and 02, request 1: all choices of delays together, entry by entry. Assumes nothing: these are definitions.
use Rattle.std.specs.Prelude.{Bool, true, false, not, ◌&&◌, cond, List, [], ◌∷◌, ◌++◌, map, ℕ, suc, ◌+◌, ◌*◌, ◌^◌, length, get_or, set, leb, ltb, eqb}
use Rattle.rules.specs.Lists.{one, each, keep, any, sum, below, has}
use Rattle.rules.specs.Refusals.{◌when◌, verdict}
use Rattle.rules.specs.Refusals.Fault.{no_room}
use Rattle.rules.specs.Files.{Case}
use Rattle.rules.specs.Turns.{Place, same, Mark, capacity, paired, entered, Arrival, arrives, arriving, Served, served, State, Rules, run_from}
use Rattle.rules.specs.Turns.Place.{gone}
use Rattle.rules.specs.Single.{pair_at, waits}

-- ---- covers

-- A set of a train's delays is the list of their indices, rising. A cover has a set for each train, by number; it covers the choices that take each train's delay
-- from its set.
abbrev pub Cover : Type 0
Cover = List (List ℕ)

-- the delays that two sets have in common
unfoldable pub common : List ℕ → List ℕ → List ℕ
common s u = keep (has u) s

-- what is left of a set that loses these delays
unfoldable pub without : List ℕ → List ℕ → List ℕ
without s u = keep (λ d. not (has u d)) s

-- the set has no delay
abbrev pub is_empty : List ℕ → Bool
is_empty [] = true
is_empty (d ∷ s) = false

-- the common part of two covers, train by train
unfoldable pub inside : Cover → Cover → Cover
inside [] q = []
inside (s ∷ p) [] = []
inside (s ∷ p) (u ∷ q) = common s u ∷ inside p q

-- a cover that covers no choice: some train's set is empty
unfoldable pub apart : Cover → Bool
apart p = any is_empty p

-- the outside pieces of p by its common part c, by rising train number k: sets before k are the common ones, set k loses the common delays
-- (skipped if nothing is left), sets after k are the piece's own
unfoldable pub outsides : Cover → Cover → List Cover
outsides [] c = []
outsides (s ∷ p) [] = []
outsides (s ∷ p) (u ∷ c) = one (not (is_empty (without s u))) (without s u ∷ p) ++ map (λ q. u ∷ q) (outsides p c)

-- the choices that a cover covers: one delay from each set
unfoldable pub choices_in : Cover → List (List ℕ)
choices_in [] = [] ∷ []
choices_in (s ∷ p) = each (λ d. map (λ x. d ∷ x) (choices_in p)) s

-- the cover covers the choice
unfoldable pub covers : Cover → List ℕ → Bool
covers [] [] = true
covers [] (d ∷ x) = false
covers (s ∷ p) [] = false
covers (s ∷ p) (d ∷ x) = has s d && covers p x

-- the cover in which each train's set is whole
unfoldable pub whole : Case → Cover
whole C = map (λ pairs. below (length pairs)) C.tables

-- all choices
unfoldable pub choices : Case → List (List ℕ)
choices C = choices_in (whole C)

-- the product of the weights of a choice's pairs, from train k on
abbrev pub weight_from : Case → ℕ → List ℕ → ℕ
weight_from C k [] = 1
weight_from C k (d ∷ x) = (pair_at C k d).weight * weight_from C (suc k) x

-- the weight of a choice is the product of the weights
unfoldable pub weight_of : Case → List ℕ → ℕ
weight_of C x = weight_from C 0 x

-- an entry's weight is the sum of the weights of the choices it covers
unfoldable pub weight : Case → Cover → ℕ
weight C p = sum (weight_of C) (choices_in p)

-- all choices of n trains together weigh 100^n (`choices_weigh`, crate `theory_demands`)
unfoldable pub total : Case → ℕ
total C = 100 ^ length C.trains

-- ---- entries

-- a mark with a cover
pub record Entry : Type 0 where
  pub mark : Mark
  pub cover : Cover

abbrev pub entry : Mark → Cover → Entry
entry m p = record { mark = m; cover = p }

-- one entry per train and delay, by train, then delay; other trains' sets are whole
unfoldable pub first_list : Case → List Entry
first_list C =
    each (λ k. map (λ d. entry (waits C k d) (set (whole C) k (d ∷ []))) (below (length (get_or C.tables k [])))) (below (length C.trains))

-- ---- the cutting rule

-- a piece of a cover, held or entering
pub record Piece : Type 0 where
  pub cover : Cover
  pub held : Bool

abbrev pub piece : Cover → Bool → Piece
piece p h = record { cover = p; held = h }

-- the count n has reached the capacity
abbrev pub reached : ℕ → ℕ → Bool
reached cap n = leb cap n

-- the count n plus the number of entries still to meet is below the capacity
abbrev pub stays_below : ℕ → ℕ → ℕ → Bool
stays_below cap n left = ltb (n + left) cap

-- What becomes of the piece p with count n, carried through the covers still to meet; `cap` is the capacity. A piece whose count has reached the capacity is held.
-- Otherwise, if its count plus the number of entries still to meet is below the capacity, it enters uncut. Otherwise it meets the next, q. No common choice: it goes
-- on. Else the inside, c, goes on first with count plus 1; then the outside pieces with the same count; each is carried through the entries still to meet.
unfoldable pub carry : ℕ → List Cover → ℕ → Cover → List Piece
carry cap [] n p = piece p (reached cap n) ∷ []
carry cap (q ∷ qs) n p =
    let c = inside p q in
    cond (reached cap n) (piece p true ∷ [])
    (cond (stays_below cap n (suc (length qs))) (piece p false ∷ [])
    (cond (apart c) (carry cap qs n p)
    (carry cap qs (suc n) c ++ each (carry cap qs n) (outsides p c))))

-- the covers of the entries of other trains than k that stand on or block the element, in list order
unfoldable pub meets : Place → ℕ → List Entry → List Cover
meets e k rs = each (λ r. one (not (eqb r.mark.train k) && same r.mark.place e) r.cover) rs

-- the same of those that stand on or block the partner of e
unfoldable pub meets_across : Case → Place → ℕ → List Entry → List Cover
meets_across C e k rs = each (λ r. one (not (eqb r.mark.train k) && paired C e r.mark.place) r.cover) rs

-- What becomes of the piece p, carried through the partner's covers still to meet (request 1 of 02). With the next, q, no common choice: it goes on. Else the inside
-- is held at once, and then the outside pieces go on. No piece enters before the last of them is passed; what becomes of it then, `on` says.
unfoldable pub across : (Cover → List Piece) → List Cover → Cover → List Piece
across on [] p = on p
across on (q ∷ qs) p =
    let c = inside p q in
    cond (apart c) (across on qs p) (piece c true ∷ each (across on qs) (outsides p c))

-- what becomes of an asking entry r: it first meets the partner's entries, where the track is coupled; then a piece starts with count 0 and meets the element's own;
-- the way out has no limit
unfoldable pub pieces : Case → Place → List Entry → Entry → List Piece
pieces C e rs r =
    let k = r.mark.train in
    cond (same e gone) (piece r.cover false ∷ [])
    (across (carry (capacity C e) (meets e k rs) 0) (meets_across C e k rs) r.cover)

-- the same arrival, of a piece with the cover p
abbrev pub covered : Cover → Arrival Mark → Arrival Entry
covered p v = arrives (entry v.who p) v.minute

-- held pieces replace the asking entry in its row, minute unchanged; then each entering piece adds at the end its standing entry and the block
-- that it leaves, if any
unfoldable pub serve_entry : Case → ℕ → Place → List Entry → Entry → Served Entry
serve_entry C t e rs r =
    let ps = pieces C e rs r in
    let entering = keep (λ q. not q.held) ps in
    served
    (map (λ q. entry r.mark q.cover) (keep (λ q. q.held) ps))
    (each (λ q. map (λ m. entry m q.cover) (entered C t e r.mark)) entering)
    (each (λ q. map (covered q.cover) (arriving C t e r.mark)) entering)

-- 12: the list has more entries than the room
unfoldable pub check_list : Case → List Entry → ℕ
check_list C rs = verdict (no_room when ltb C.head.room (length rs) ∷ [])

-- the items of the joint run are entries
unfoldable pub joint_rules : Case → Rules Entry
joint_rules C = record { mark = λ r. r.mark; serve = serve_entry C; check = check_list C }

-- the joint run after minute m
unfoldable pub joint : Case → ℕ → State Entry
joint C m = run_from C (joint_rules C) (first_list C) m

-- the weight that has arrived for train k in minute t
unfoldable pub weight_at : Case → List (Arrival Entry) → ℕ → ℕ → ℕ
weight_at C arrived k t =
    sum (λ v. weight C v.who.cover) (keep (λ v. eqb v.who.mark.train k && eqb v.minute t) arrived)
