-- Laws of what the cut writes: what one call writes after another is what both write together, and whether all pieces found room shows in their number.
-- The first pieces of two lists together are the first of the one, and of the other as many as are left. Assumes nothing.
use Rattle.std.specs.Prelude.{◌≡◌, refl, Bool, true, false, not, List, [], ◌∷◌, ◌++◌, map, ℕ, suc, ◌+◌, ◌-◌, min, ◌≤◌, ◌<◌, length, take}
use Rattle.std.proofs.Common.{ap, ◌∙◌, arith, length-append, length-take, take_all}
use Rattle.std.proofs.lemmas.List.{map-append}
use Rattle.std.proofs.Math.Seq.{length-sets}
use Rattle.rules.specs.Lists.{one, keep}
use Rattle.theory_lists.specs.Each.{each_append}
use Rattle.theory_lists.specs.Writes.{take-append, sets-append}
use Rattle.cut.specs.declared.Pieces.{Pieces}
use Rattle.cut.specs.Cut.{Part, held_of, entering_of, Room, fitting, Wrote}

-- ---- held and entering pieces

-- the covers of the pieces that the test picks
picked_append : (test : Part → Bool) (a b : List Part) → map (λ q. q.cover) (keep test (a ++ b)) ≡ map (λ q. q.cover) (keep test a) ++ map (λ q. q.cover) (keep test b)
picked_append test a b =
    ap (λ l. map (λ q. q.cover) l) (each_append (λ q. one (test q) q) a b) ∙ map-append (λ q. q.cover) (keep test a) (keep test b)

pub held_of-append : (a b : List Part) → held_of (a ++ b) ≡ held_of a ++ held_of b
held_of-append a b = picked_append (λ q. q.held) a b

pub entering_of-append : (a b : List Part) → entering_of (a ++ b) ≡ entering_of a ++ entering_of b
entering_of-append a b = picked_append (λ q. not q.held) a b

-- each piece is one of the two
pub length-apart : (l : List Part) → length (held_of l) + length (entering_of l) ≡ length l
length-apart [] = refl
length-apart (q ∷ l) = go (length-apart l) q.held refl
  where
    go : length (held_of l) + length (entering_of l) ≡ length l → (t : Bool) → q.held ≡ t → length (held_of (q ∷ l)) + length (entering_of (q ∷ l)) ≡ suc (length l)
    go e true h = simp h (omega arith)
    go e false h = simp h (omega arith)

-- ---- what is written

pub wrote_none : (w : Pieces) (h e : List ℕ) → Wrote w h e [] w h e
wrote_none w h e = record { held_place = omega arith; entering_place = omega arith; held_list = refl; entering_list = refl }

pub wrote_join : {w r z : Pieces} {h e h₁ e₁ h₂ e₂ : List ℕ} {a b : List Part} → Wrote w h e a r h₁ e₁ → Wrote r h₁ e₁ b z h₂ e₂ → Wrote w h e (a ++ b) z h₂ e₂
wrote_join {w} {r} {z} {h} {e} {h₁} {e₁} {h₂} {e₂} {a} {b} f g = record {
  held_place = omega (arith, f.held_place, g.held_place, ap length (held_of-append a b), length-append (held_of a) (held_of b));
  entering_place = omega (arith, f.entering_place, g.entering_place, ap length (entering_of-append a b), length-append (entering_of a) (entering_of b));
  held_list = g.held_list ∙ rw (f.held_list, f.held_place, held_of-append a b, sets-append (held_of a) (held_of b) h w.held);
  entering_list = g.entering_list ∙ rw (f.entering_list, f.entering_place, entering_of-append a b, sets-append (entering_of a) (entering_of b) e w.entering);
}

-- each piece counts
pub wrote_count : {w r : Pieces} {h e h₁ e₁ : List ℕ} {l : List Part} → Wrote w h e l r h₁ e₁ → r.held + r.entering ≡ w.held + w.entering + length l
wrote_count {l = l} f = omega (arith, f.held_place, f.entering_place, length-apart l)

-- no output changes its length
pub wrote_held-length : {w r : Pieces} {h e h₁ e₁ : List ℕ} {l : List Part} → Wrote w h e l r h₁ e₁ → length h₁ ≡ length h
wrote_held-length {w} {h = h} {l = l} f = ap length f.held_list ∙ length-sets h w.held (held_of l)

pub wrote_entering_length : {w r : Pieces} {h e h₁ e₁ : List ℕ} {l : List Part} → Wrote w h e l r h₁ e₁ → length e₁ ≡ length e
wrote_entering_length {w} {e = e} {l = l} f = ap length f.entering_list ∙ length-sets e w.entering (entering_of l)

-- ---- what there is room for

pub fitting-none : (room : ℕ) (w : Pieces) (l : List Part) → w.held + w.entering ≡ room → fitting room w l ≡ []
fitting-none room w l h = let z : room - (w.held + w.entering) ≡ 0 = omega arith in ap (λ (k : ℕ). take k l) z

pub fitting-one : (room : ℕ) (w : Pieces) (q : Part) → w.held + w.entering < room → fitting room w (q ∷ []) ≡ q ∷ []
fitting-one room w q h = take_all (room - (w.held + w.entering)) (q ∷ []) (omega arith)

-- after what there was room for of a, there is room for as much of b as of a and b together
pub fitting_join : (room : ℕ) {w r z : Pieces} {h e h₁ e₁ h₂ e₂ : List ℕ} (a b : List Part)
    → Wrote w h e (fitting room w a) r h₁ e₁ → Wrote r h₁ e₁ (fitting room r b) z h₂ e₂ → Wrote w h e (fitting room w (a ++ b)) z h₂ e₂
fitting_join room {w} {r} a b f g =
    let n : ℕ = room - (w.held + w.entering) in
    let k : n - length a ≡ room - (r.held + r.entering) = omega (arith, wrote_count f, length-take n a) in
    rw (take-append n a b, k) (wrote_join f g)

pub room_after : {room : ℕ} {w r : Pieces} {h e h₁ e₁ : List ℕ} (l : List Part) → Room room w h e → Wrote w h e (fitting room w l) r h₁ e₁ → Room room r h₁ e₁
room_after {room} {w} l k f = record {
  count = omega (arith, k.count, wrote_count f, length-take (room - (w.held + w.entering)) l);
  held_long = omega (arith, k.held_long, wrote_held-length f);
  entering_long = omega (arith, k.entering_long, wrote_entering_length f);
}

-- ---- for callers

-- the room is used up where the pieces reach it, and only there
pub fitting-count : {room : ℕ} {w r : Pieces} {h e h₁ e₁ : List ℕ} (l : List Part) → Room room w h e → Wrote w h e (fitting room w l) r h₁ e₁
    → r.held + r.entering ≡ min (w.held + w.entering + length l) room
fitting-count {room} {w} l k f = omega (arith, k.count, wrote_count f, length-take (room - (w.held + w.entering)) l)

-- where room is left, all pieces are written
pub fitting-all : {room : ℕ} {w r : Pieces} {h e h₁ e₁ : List ℕ} (l : List Part) → Wrote w h e (fitting room w l) r h₁ e₁
    → r.held + r.entering < room → Wrote w h e l r h₁ e₁
fitting-all {room} {w} {r} {h} {e} {h₁} {e₁} l f less =
    let n : ℕ = room - (w.held + w.entering) in
    let all : length l ≤ n = omega (arith, wrote_count f, length-take n l) in
    rw (take_all n l all) at f
