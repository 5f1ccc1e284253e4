-- Laws of the two outputs of a pass, the rows and the covers that enter: what one row writes after another is what both write together.
-- Each piece makes a row in one of the two, so pieces that leave no place leave none in the rows. Assumes nothing.
use Rattle.std.specs.Prelude.{◌≡◌, Bool, true, false, cond, ℕ, ◌+◌, ◌-◌, ◌*◌, ◌≤◌, ◌<◌, take, get_or, eqb}
use Rattle.std.proofs.Math.Path.{refl}
use Rattle.std.proofs.Common.{ap, sym, ◌∙◌, arith, length-append, eqb-true}
use mathlib.Core.List.{List, [], ◌∷◌, ◌++◌, map}
use Rattle.std.proofs.Math.Decide.{dec_lt}
use Rattle.std.proofs.Math.ListN.{length}
use Rattle.std.proofs.lemmas.List.{length-map}
use Rattle.std.specs.Int.Bits.{bit_or, and_self}
use Rattle.std.proofs.lemmas.List.Edits.{sets}
use Rattle.std.proofs.Math.Seq.{length-sets}
use Rattle.cut.specs.declared.Pieces.{Pieces}
use Rattle.cut.specs.Cut.{Part, held_of, entering_of, Room, fitting, Wrote}
use Rattle.cut.specs.Written.{length-apart, wrote_entering_length, fitting-count, fitting-all}
use Rattle.quiet.specs.Parts.{Sub, sub_or_left, sub_or_right}
use Rattle.theory_lists.specs.Writes.{sets-append, Put, put_none, put_join, put_length, put_fits, put_start}
use Rattle.rows.specs.Rows.{row, words, held_rows}
use Rattle.rows.specs.Written.{words-length}
use Rattle.serving.specs.Pass.{moved_of, Came, Two, Stays, Went}
use Rattle.serving.specs.Pass.Stays.{whole, moved_on}
use Rattle.serving.specs.Pass.Went.{as_it_is, moves}
use Rattle.serving.specs.Pass.Two.{fits, over}

-- ---- covers that enter

came_join : {l : List ℕ} {a : ℕ} {A : List ℕ} {y : ℕ} {k : List ℕ} {B : List ℕ} {z : ℕ} {m : List ℕ} → Came l a A y k → Came k y B z m → Came l a (A ++ B) z m
came_join {l} {a} {A} {y} {k} {B} {z} {m} f g = record {
  place = omega (arith, f.place, g.place, length-append A B);
  list = g.list ∙ rw (f.list, f.place) (sets-append A B l a);
}

came-length : {l : List ℕ} {a : ℕ} {A : List ℕ} {z : ℕ} {k : List ℕ} → Came l a A z k → length k ≡ length l
came-length {l} {a} {A} f = ap length f.list ∙ length-sets l a A

pub came-taken : {l : List ℕ} {A : List ℕ} {z : ℕ} {k : List ℕ} → Came l 0 A z k → length A ≤ length l → take z k ≡ A
came-taken {l} {A} {z} {k} f h = put_start {l = l} {L = A} {r = z} {l' = k} (record { place = omega (arith, f.place); list = f.list }) h

-- ---- both outputs

-- where the writing ends, and that no output changes its length
pub record Bounds (rows : List ℕ) (r : ℕ) (rows' entering : List ℕ) (z : ℕ) (entering' : List ℕ) : Type 0 where
  pub place : r ≤ length rows'
  pub rows_length : length rows' ≡ length rows
  pub entering_length : length entering' ≡ length entering
  pub few : z * 2 ≤ length rows

pub two_bounds : {rows : List ℕ} {d : ℕ} {H : List ℕ} {r : ℕ} {rows' entering : List ℕ} {a : ℕ} {A : List ℕ} {z : ℕ} {entering' : List ℕ}
    → Two rows d H r rows' entering a A z entering' → Bounds rows r rows' entering z entering'
two_bounds (fits h k f g) = record { place = put_fits f; rows_length = put_length f; entering_length = came-length g; few = k }
two_bounds (over e k h l m) = record { place = omega arith; rows_length = l; entering_length = m; few = k }

pub two_none : (rows : List ℕ) (d : ℕ) (entering : List ℕ) → d < length rows → Two rows d [] d rows entering 0 [] 0 entering
two_none rows d entering h = fits h (omega arith) (put_none rows d (omega arith)) (record { place = omega arith; list = refl })

-- both written, wherever the rows end
pub two-both : {rows : List ℕ} {d : ℕ} {H : List ℕ} {r : ℕ} {rows' entering : List ℕ} {a : ℕ} {A : List ℕ} {z : ℕ} {entering' : List ℕ}
    → z * 2 ≤ length rows → Put rows d H r rows' → Came entering a A z entering' → Two rows d H r rows' entering a A z entering'
two-both {rows} {d} {H} {r} {rows'} {entering} {a} {A} {z} {entering'} k f g = go (dec_lt r (length rows))
  where
    go : Dec (r < length rows) → Two rows d H r rows' entering a A z entering'
    go (yes h) = fits h k f g
    go (no h) = over (omega (arith, f.place)) k (omega (arith, f.place)) (put_length f) (came-length g)

-- a row is written, and nothing enters
pub two-row : {rows : List ℕ} {d : ℕ} {H : List ℕ} {r : ℕ} {rows' : List ℕ} (entering : List ℕ) (a : ℕ)
    → a * 2 ≤ length rows → Put rows d H r rows' → Two rows d H r rows' entering a [] a entering
two-row entering a k f = two-both k f (record { place = omega arith; list = refl })

pub two_join : {rows : List ℕ} {d : ℕ} {H : List ℕ} {r : ℕ} {rows' entering : List ℕ} {a : ℕ} {A : List ℕ} {z : ℕ} {entering' : List ℕ}
    {G : List ℕ} {y : ℕ} {rows'' : List ℕ} {B : List ℕ} {x : ℕ} {entering'' : List ℕ}
    → Two rows d H r rows' entering a A z entering' → Two rows' r G y rows'' entering' z B x entering''
    → Two rows d (H ++ G) y rows'' entering a (A ++ B) x entering''
two_join {H = H} {A = A} {G = G} {B = B} (fits h k f g) (fits h' k' f' g') =
    fits (omega (arith, put_length f)) (omega (arith, put_length f)) (put_join f f') (came_join g g')
two_join {H = H} {A = A} {G = G} {B = B} (fits h k f g) (over e' k' h' l' m') =
    over (omega (arith, put_length f)) (omega (arith, put_length f)) (omega (arith, put_length f, f.place, g.place, length-append H G, length-append A B))
    (l' ∙ put_length f) (m' ∙ came-length g)
two_join {H = H} {A = A} {G = G} {B = B} (over e k h l m) (fits h' k' f' g') = absurd (omega (arith, f'.place))
two_join {H = H} {A = A} {G = G} {B = B} (over e k h l m) (over e' k' h' l' m') =
    over (omega arith) (omega arith) (omega (arith, length-append H G, length-append A B)) (l' ∙ l) (m' ∙ m)

-- ---- the pieces of a row

held-length : (s : ℕ) (cs : List ℕ) → length (words (held_rows s cs)) ≡ length cs * 2
unfolding held_rows
held-length s cs = words-length (map (λ c. row s c) cs) ∙ ap (λ (n : ℕ). n * 2) (length-map cs (λ c. row s c))

module _ (room : ℕ) (w : Pieces) {z : Pieces} {held entering held' entering' : List ℕ} (P : List Part)
    (ready : Room room w held entering) (none : w.held ≡ 0) (f : Wrote w held entering (fitting room w P) z held' entering') where
  pub pieces-count : z.held + z.entering ≤ room
  pieces-count = omega (arith, fitting-count P ready f)

  -- the pieces used the room up
  pub pieces-over : (rows : List ℕ) (s d : ℕ) → z.held + z.entering ≡ room → room * 2 ≡ length rows
      → Two rows d (words (held_rows s (held_of P))) (length rows) rows entering w.entering (entering_of P) z.entering entering'
  pieces-over rows s d full long =
      over refl (omega (arith, fitting-count P ready f)) (omega (arith, fitting-count P ready f, held-length s (held_of P), length-apart P)) refl
      (wrote_entering_length f)

  -- all pieces are written
  pub pieces_fit : {rows rows' : List ℕ} {r : ℕ} (s d : ℕ) → (z.held + z.entering ≡ room → ⊥) → room * 2 ≡ length rows
      → Put rows d (words (held_rows s (take z.held held'))) r rows'
      → Two rows d (words (held_rows s (held_of P))) r rows' entering w.entering (entering_of P) z.entering entering'
  pieces_fit {rows} {rows'} {r} s d some long put =
      let all : Wrote w held entering P z held' entering' = fitting-all P f (omega (arith, pieces-count)) in
      let few : length (held_of P) ≤ length held = omega (arith, all.held_place, pieces-count, ready.held_long) in
      let came : Came held 0 (held_of P) z.held held' =
      record { place = omega (arith, all.held_place); list = all.held_list ∙ ap (λ (i : ℕ). sets held i (held_of P)) none } in
      let written : Put rows d (words (held_rows s (held_of P))) r rows' = rw (came-taken came few) at put in
      two-both (omega (arith, pieces-count)) written (record { place = all.entering_place; list = all.entering_list })

  -- the pieces that are held where all are written
  pub pieces-held : (z.held + z.entering ≡ room → ⊥) → take z.held held' ≡ held_of P
  pieces-held some =
      let all : Wrote w held entering P z held' entering' = fitting-all P f (omega (arith, pieces-count)) in
      let few : length (held_of P) ≤ length held = omega (arith, all.held_place, pieces-count, ready.held_long) in
      let came : Came held 0 (held_of P) z.held held' =
      record { place = omega (arith, all.held_place); list = all.held_list ∙ ap (λ (i : ℕ). sets held i (held_of P)) none } in
      came-taken came few

  -- a cover that is held as it is, or is among all that moved
  pub pieces-went : (s c : ℕ) (moved : ℕ) → (z.held + z.entering ≡ room → ⊥) → Stays (take z.held held') (z.entering - w.entering) c moved
      → Went (held_rows s (held_of P)) (entering_of P) moved (row s c)
  unfolding held_rows
  pieces-went s c moved some (whole h e) =
      let all : Wrote w held entering P z held' entering' = fitting-all P f (omega (arith, pieces-count)) in
      as_it_is (ap (map (λ x. row s x)) (sym (pieces-held some) ∙ h)) (empty (entering_of P) (omega (arith, all.entering_place)))
    where
      empty : (l : List ℕ) → length l ≡ 0 → l ≡ []
      empty [] k = refl
      empty (x ∷ l) k = absurd (omega arith)
  pieces-went s c moved some (moved_on k) = moves k

-- ---- a cover that is held as it is

held_whole : (l : List ℕ) (h c entered m : ℕ) → h ≡ 1 → h ≤ length l → get_or l 0 0 ≡ c → entered ≡ 0 → Sub m m × Stays (take h l) entered c m
held_whole [] h c entered m e k g z = absurd (omega arith)
held_whole (x ∷ l) h c entered m e k g z = (and_self m, whole (ap (λ (n : ℕ). take n (x ∷ l)) e ∙ ap (λ (y : ℕ). y ∷ []) g) z)

moved_more : (hs : List ℕ) (entered c m : ℕ) → Sub m (bit_or m c) × Stays hs entered c (bit_or m c)
moved_more hs entered c m = (sub_or_left m c, moved_on (sub_or_right m c))

-- what moved before is kept, and the cover is held as it is or among all that moved
pub moved-stays : (l : List ℕ) (h entered c m : ℕ) {r : ℕ} → r ≡ moved_of h (get_or l 0 0) entered c m → h ≤ length l → Sub m r × Stays (take h l) entered c r
unfolding moved_of
moved-stays l h entered c m {r} w k = rw w (go (eqb h 1) (eqb entered 0) (eqb (get_or l 0 0) c) refl refl refl)
  where
    go : (x y z : Bool) → eqb h 1 ≡ x → eqb entered 0 ≡ y → eqb (get_or l 0 0) c ≡ z
        → Sub m (cond x (cond y (cond z m (bit_or m c)) (bit_or m c)) (bit_or m c)) × Stays (take h l) entered c (cond x (cond y (cond z m (bit_or m c)) (bit_or m c)) (bit_or m c))
    go true true true f g e = held_whole l h c entered m (eqb-true h 1 f) k (eqb-true (get_or l 0 0) c e) (eqb-true entered 0 g)
    go true true false f g e = moved_more (take h l) entered c m
    go true false z f g e = moved_more (take h l) entered c m
    go false y z f g e = moved_more (take h l) entered c m
