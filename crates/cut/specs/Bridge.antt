-- The cutting rule on packed covers is the cutting rule of 01: the pieces of packed covers are the pieces of the covers, packed, in order.
-- `carried` and `carry` take the same turns, and so do `crossed` and `across`, since each test and each cover of a turn is the other's, packed. Assumes nothing.
use Rattle.std.specs.Prelude.{◌≡◌, Bool, true, false, not, cond, length, leb, ltb}
use Rattle.std.proofs.Math.Path.{refl}
use Rattle.std.proofs.Common.{ap}
use mathlib.Core.List.{List, [], ◌∷◌, ◌++◌, map, map-append}
use Prim.Native.Nat.{ℕ, suc, ◌+◌, ◌-◌}
use Rattle.std.proofs.lemmas.List.{length-map}
use Rattle.rules.specs.Lists.{one, each, keep}
use Rattle.rules.specs.Joint.{Cover, inside, apart, outsides, Piece, piece, carry, across}
use Rattle.theory_lists.specs.Every.{Every}
use Rattle.cut.specs.Cut.{Part, part, outs, turn, carried, crossed, held_of, entering_of}
use Rattle.cut.specs.Packed.{packed, packed_piece, Packable}
use Rattle.cut.specs.Covers.{inside-packed, inside-sets, full-packed, outs_are, outsides-sets}

-- ---- the pieces

each-packed : {n : ℕ} (f : ℕ → List Part) (g : Cover → List Piece) → ((p : Cover) → Packable n p → f (packed p) ≡ map packed_piece (g p))
    → (L : List Cover) → Every (Packable n) L → each f (map packed L) ≡ map packed_piece (each g L)
each-packed f g h [] q = refl
each-packed f g h (p ∷ L) q = rw (h p q.0, each-packed f g h L q.1, map-append packed_piece (g p) (each g L))

turn-cut : (s f a : Bool) (on' : ℕ → ℕ → List Part) (on : ℕ → Cover → List Piece) (n : ℕ) (p c : Cover)
    → on' n (packed p) ≡ map packed_piece (on n p)
    → on' (suc n) (packed c) ≡ map packed_piece (on (suc n) c)
    → each (on' n) (outs 8 0 (packed c) (packed p - packed c)) ≡ map packed_piece (each (on n) (outsides p c))
    → turn s f (not a) on' n (packed p) (packed c) ≡ map packed_piece (cond s (piece p true ∷ []) (cond f (piece p false ∷ []) (cond a (on n p) (on (suc n) c ++ each (on n) (outsides p c)))))
turn-cut true f a on' on n p c x y z = refl
turn-cut false true a on' on n p c x y z = refl
turn-cut false false true on' on n p c x y z = x
turn-cut false false false on' on n p c x y z = rw (y, z, map-append packed_piece (on (suc n) c) (each (on n) (outsides p c)))

module _ {k : ℕ} (cap : ℕ) where
  pub carried-carry : (es : List Cover) → Every (Packable k) es → (n : ℕ) (p : Cover) → Packable k p → carried cap (map packed es) n (packed p) ≡ map packed_piece (carry cap es n p)
  unfolding carried carry
  carried-carry [] h n p own = refl
  carried-carry (q ∷ qs) h n p own =
      rw (length-map qs packed, inside-packed own h.0, full-packed (inside-sets own h.0))
      (turn-cut (leb cap n) (ltb (n + suc (length qs)) cap) (apart (inside p q)) (carried cap (map packed qs)) (carry cap qs) n p (inside p q)
      (carried-carry qs h.1 n p own)
      (carried-carry qs h.1 (suc n) (inside p q) (inside-sets own h.0))
      (rw (outs_are own h.0) (each-packed (carried cap (map packed qs) n) (carry cap qs n) (carried-carry qs h.1 n) (outsides p (inside p q)) (outsides-sets own h.0))))

-- ---- the pieces that meet a partner's covers first

cross_cut : (a : Bool) (c : Cover) (x y : List Part) (x' y' : List Piece) → x ≡ map packed_piece x' → y ≡ map packed_piece y'
    → cond (not a) (part (packed c) true ∷ x) y ≡ map packed_piece (cond a y' (piece c true ∷ x'))
cross_cut true c x y x' y' e f = f
cross_cut false c x y x' y' e f = ap (λ (l : List Part). part (packed c) true ∷ l) e

module _ {k : ℕ} (on' : ℕ → List Part) (on : Cover → List Piece)
    (same : (p : Cover) → Packable k p → on' (packed p) ≡ map packed_piece (on p)) where
  pub crossed-across : (ms : List Cover) → Every (Packable k) ms → (p : Cover) → Packable k p
      → crossed on' (map packed ms) (packed p) ≡ map packed_piece (across on ms p)
  unfolding crossed across
  crossed-across [] h p own = same p own
  crossed-across (q ∷ qs) h p own =
      rw (inside-packed own h.0, full-packed (inside-sets own h.0))
      (cross_cut (apart (inside p q)) (inside p q) _ _ (each (across on qs) (outsides p (inside p q))) (across on qs p)
      (rw (outs_are own h.0)
      (each-packed (crossed on' (map packed qs)) (across on qs) (crossed-across qs h.1) (outsides p (inside p q)) (outsides-sets own h.0)))
      (crossed-across qs h.1 p own))

-- ---- what is written, in the words of 01

-- the packed covers of the held pieces, and of the entering ones, in cutting order
abbrev pub held_covers : List Piece → List ℕ
held_covers l = map (λ q. packed q.cover) (keep (λ q. q.held) l)

abbrev pub entering_covers : List Piece → List ℕ
entering_covers l = map (λ q. packed q.cover) (keep (λ q. not q.held) l)

picked_one : (t : Bool) (q : Piece) (a : List Part) (b : List Piece) → map (λ x. x.cover) a ≡ map (λ x. packed x.cover) b
    → map (λ x. x.cover) (one t (packed_piece q) ++ a) ≡ map (λ x. packed x.cover) (one t q ++ b)
picked_one true q a b e = ap (λ l. packed q.cover ∷ l) e
picked_one false q a b e = e

picked_packed : (test : Bool → Bool) (l : List Piece)
    → map (λ x. x.cover) (keep (λ x. test x.held) (map packed_piece l)) ≡ map (λ x. packed x.cover) (keep (λ x. test x.held) l)
picked_packed test [] = refl
picked_packed test (q ∷ l) = picked_one (test q.held) q (keep (λ x. test x.held) (map packed_piece l)) (keep (λ x. test x.held) l) (picked_packed test l)

pub held-packed : (l : List Piece) → held_of (map packed_piece l) ≡ held_covers l
held-packed l = picked_packed (λ b. b) l

pub entering_packed : (l : List Piece) → entering_of (map packed_piece l) ≡ entering_covers l
entering_packed l = picked_packed not l
