-- The cutting rule on packed covers: a cover is one number, train k's set in byte k, delay d as bit d. Assumes nothing: these are definitions.
use Rattle.std.specs.Prelude.{◌≡◌, Bool, true, false, not, cond, List, [], ◌∷◌, ◌++◌, map, ℕ, zero, suc, ◌+◌, ◌-◌, ◌*◌, ◌/◌, ◌%◌, ◌^◌, ◌≤◌, ◌<◌, length, take, drop, leb, ltb, eqb, Option, MatchOption}
use Rattle.std.proofs.lemmas.List.Edits.{sets}
use Rattle.std.specs.Int.Bits.{bit_and}
use Rattle.rules.specs.Lists.{one, each, keep}
use Rattle.cut.specs.declared.Pieces.{Pieces}

-- a piece with its packed cover, held or entering
pub record Part : Type 0 where
  pub cover : ℕ
  pub held : Bool

abbrev pub part : ℕ → Bool → Part
part p h = record { cover = p; held = h }

-- no set is empty: each of the n low bytes of v is above 0
unfoldable pub full_of : ℕ → ℕ → Bool
full_of zero v = true
full_of (suc n) v = cond (eqb (v % 256) 0) false (full_of n (v / 256))

-- the outside piece of train k by the common part c, where d has what train k and those after it lose, train k's in its low byte:
-- the sets before k are the common ones, set k loses the common delays, and the sets after k are the piece's own
unfoldable pub outside_of : ℕ → ℕ → ℕ → ℕ
outside_of k c d = c + d * 256 ^ k - bit_and c (255 * 256 ^ k)

-- the outside pieces of n trains from train k on, skipped if nothing is left
unfoldable pub outs : ℕ → ℕ → ℕ → ℕ → List ℕ
outs zero k c d = []
outs (suc n) k c d = one (not (eqb (d % 256) 0)) (outside_of k c d) ++ outs n (suc k) c (d / 256)

-- one turn of a piece p, as `cut` of the definitions has it
abbrev pub turn : Bool → Bool → Bool → (ℕ → ℕ → List Part) → ℕ → ℕ → ℕ → List Part
turn true few meets on n p c = part p true ∷ []
turn false true meets on n p c = part p false ∷ []
turn false false false on n p c = on n p
turn false false true on n p c = on (suc n) c ++ each (on n) (outs 8 0 c (p - c))

-- the piece p with count n, carried through the covers still to meet
unfoldable pub carried : ℕ → List ℕ → ℕ → ℕ → List Part
carried cap [] n p = part p (leb cap n) ∷ []
carried cap (m ∷ ms) n p = turn (leb cap n) (ltb (n + suc (length ms)) cap) (full_of 8 (bit_and p m)) (carried cap ms) n p (bit_and p m)

-- the piece p, carried through the partner's covers still to meet: the inside is held at once, and the outside pieces go on; what becomes of a piece that has
-- passed them all, `on` says
unfoldable pub crossed : (ℕ → List Part) → List ℕ → ℕ → List Part
crossed on [] p = on p
crossed on (m ∷ ms) p =
    let c = bit_and p m in
    cond (full_of 8 c) (part c true ∷ each (crossed on ms) (outs 8 0 c (p - c))) (crossed on ms p)

-- what an asker meets: the capacity, the partner's covers and the element's own, each in list order
pub record Met : Type 0 where
  pub cap : ℕ
  pub partner : List ℕ
  pub own : List ℕ

-- what becomes of the asking piece p: it meets the partner's covers, and then, with count 0, the element's own
abbrev pub cut_by : Met → ℕ → List Part
cut_by m p = crossed (carried m.cap m.own 0) m.partner p

abbrev pub onward : Bool → Bool → ℕ → ℕ
onward true meets k = 0
onward false true k = 0
onward false false k = suc k

-- how many covers the piece p passes over, with which it has no common choice, before fewer than `need` are still to meet
unfoldable pub passed : ℕ → ℕ → List ℕ → ℕ
passed need p [] = 0
passed need p (m ∷ ms) = onward (ltb (suc (length ms)) need) (full_of 8 (bit_and p m)) (passed need p ms)

-- the next cover that the piece p meets from the place `at` on is at i, where at least `need` were still to meet; or fewer are, behind those that it passes over
abbrev pub MeetsNext : ℕ → ℕ → ℕ → List ℕ → Option ℕ → Type 0
MeetsNext need p at met r =
    MatchOption r ((length met - (at + passed need p (drop at met)) < need) × (at + passed need p (drop at met) ≤ length met))
    (λ i. (i ≡ at + passed need p (drop at met)) × (need ≤ length met - i))

-- ---- what is written

-- the covers of the held pieces, and of the entering ones, in cutting order
abbrev pub held_of : List Part → List ℕ
held_of l = map (λ q. q.cover) (keep (λ q. q.held) l)

abbrev pub entering_of : List Part → List ℕ
entering_of l = map (λ q. q.cover) (keep (λ q. not q.held) l)

-- both outputs have places for `room` pieces, of which those counted by w are written
pub record Room (room : ℕ) (w : Pieces) (held entering : List ℕ) : Type 0 where
  pub count : w.held + w.entering ≤ room
  pub held_long : room ≤ length held
  pub entering_long : room ≤ length entering

-- of the pieces l, those that there is room for after the pieces counted by w
abbrev pub fitting : ℕ → Pieces → List Part → List Part
fitting room w l = take (room - (w.held + w.entering)) l

-- the pieces l are written from the places w on, held and entering apart; all else stays, and r counts what is written then
pub record Wrote (w : Pieces) (held entering : List ℕ) (l : List Part) (r : Pieces) (held' entering' : List ℕ) : Type 0 where
  pub held_place : r.held ≡ w.held + length (held_of l)
  pub entering_place : r.entering ≡ w.entering + length (entering_of l)
  pub held_list : held' ≡ sets held w.held (held_of l)
  pub entering_list : entering' ≡ sets entering w.entering (entering_of l)
