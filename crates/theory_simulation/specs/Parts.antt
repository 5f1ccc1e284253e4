-- Each cover of the joint run has one set per train, none empty, each listing delays of the train's whole set in its order, so none twice.
-- Cutting only keeps some delays of a set, and drops a set that would be left empty with its piece. Assumes nothing.
use Rattle.std.specs.Prelude.{◌≡◌, refl, Bool, true, false, ◌&&◌, ◌||◌, cond, List, [], ◌∷◌, ◌++◌, ℕ, zero, suc, ◌≤◌, ◌<◌, length, get_or, set, eqb}
use Rattle.std.proofs.Common.{sym, ap, ◌∙◌, subst, arith}
use Rattle.std.proofs.lemmas.Bool.{false≢true, not-true}
use Rattle.rules.specs.Lists.{one, each, keep, any, tick, count, has}
use Rattle.rules.specs.Joint.{Cover, common, without, is_empty, inside, apart, outsides, Piece, piece, reached, stays_below, carry, across}
use Rattle.theory_lists.specs.Each.{each-each, each_one, each_same}
use Rattle.theory_lists.specs.Every.{Every, every_append, every_map, every_one, every_each, has-keep}
use Rattle.theory_lists.specs.Sums.{sum-keep-le}

-- ---- a part of a set

-- s is not empty and lists, in w's order, some of w's delays
pub record Part (w s : List ℕ) : Type 0 where
  pub filled : is_empty s ≡ false
  pub listed : keep (has s) w ≡ s

keep_same : (f g : ℕ → Bool) → ((d : ℕ) → f d ≡ g d) → (l : List ℕ) → keep f l ≡ keep g l
keep_same f g h l = each_same (λ d. one (f d) d) (λ d. one (g d) d) (λ d. ap (λ (z : Bool). one z d) (h d)) l

keep-keep : (f g : ℕ → Bool) (l : List ℕ) → keep f (keep g l) ≡ keep (λ d. g d && f d) l
keep-keep f g l =
    each-each (λ d. one (f d) d) (λ d. one (g d) d) l
    ∙ each_same (λ d. each (λ a. one (f a) a) (one (g d) d)) (λ d. one (g d && f d) d) (λ d. each_one (λ a. one (f a) a) (g d) d ∙ go d (g d)) l
  where
    go : (d : ℕ) (b : Bool) → cond b (one (f d) d) [] ≡ one (b && f d) d
    go d true = refl
    go d false = refl

keep-part : (w s : List ℕ) (f : ℕ → Bool) → Part w s → is_empty (keep f s) ≡ false → Part w (keep f s)
keep-part w s f p h = record {
  filled = h;
  listed =
      keep_same (has (keep f s)) (λ d. has s d && f d) (has-keep f s) w
      ∙ sym (keep-keep f (has s) w)
      ∙ ap (keep f) p.listed;
}

-- a delay of the part is one of the set
pub part-within : (w s : List ℕ) → Part w s → (d : ℕ) → has s d ≡ true → has w d ≡ true
part-within w s p d h = go (has w d) (sym (ap (λ (l : List ℕ). has l d) p.listed ∙ h) ∙ has-keep (has s) w d)
  where
    go : (b : Bool) → true ≡ (b && has s d) → b ≡ true
    go true e = refl
    go false e = sym e

-- no delay stands twice in the part, where none does in the set
pub part-once : (w s : List ℕ) → Part w s → (d : ℕ) → count (eqb d) s ≤ count (eqb d) w
part-once w s p d = subst (λ (l : List ℕ). count (eqb d) l ≤ count (eqb d) w) p.listed (sum-keep-le (λ a. tick (eqb d a)) (has s) w)

-- ---- parts of covers

-- a cover whose sets are parts of the sets of another
abbrev pub Parts : Cover → Cover → Type 0
Parts [] [] = Unit
Parts [] (s ∷ p) = ⊥
Parts (w ∷ ws) [] = ⊥
Parts (w ∷ ws) (s ∷ p) = Part w s × Parts ws p

pub parts-length : (ws p : Cover) → Parts ws p → length p ≡ length ws
parts-length [] [] h = refl
parts-length [] (s ∷ p) h = absurd h
parts-length (w ∷ ws) [] h = absurd h
parts-length (w ∷ ws) (s ∷ p) h = ap suc (parts-length ws p h.1)

pub parts_at : (ws p : Cover) → Parts ws p → (k : ℕ) → k < length ws → Part (get_or ws k []) (get_or p k [])
parts_at [] p h k l = absurd (omega arith)
parts_at (w ∷ ws) [] h k l = absurd h
parts_at (w ∷ ws) (s ∷ p) h zero l = h.0
parts_at (w ∷ ws) (s ∷ p) h (suc k) l = parts_at ws p h.1 k (omega arith)

pub parts-set : (ws p : Cover) → Parts ws p → (k : ℕ) (s : List ℕ) → Part (get_or ws k []) s → Parts ws (set p k s)
parts-set [] [] h k s f = tt
parts-set [] (u ∷ p) h k s f = absurd h
parts-set (w ∷ ws) [] h k s f = absurd h
parts-set (w ∷ ws) (u ∷ p) h zero s f = (f, h.1)
parts-set (w ∷ ws) (u ∷ p) h (suc k) s f = (h.0, parts-set ws p h.1 k s f)

inside-parts : (ws p q : Cover) → Parts ws p → Parts ws q → apart (inside p q) ≡ false → Parts ws (inside p q)
unfolding inside apart common
inside-parts [] [] q h k f = tt
inside-parts [] (s ∷ p) q h k f = absurd h
inside-parts (w ∷ ws) [] q h k f = absurd h
inside-parts (w ∷ ws) (s ∷ p) [] h k f = absurd k
inside-parts (w ∷ ws) (s ∷ p) (u ∷ q) h k f = go (is_empty (keep (has u) s)) refl f (inside-parts ws p q h.1 k.1)
  where
    go : (b : Bool) → is_empty (keep (has u) s) ≡ b → (b || any is_empty (inside p q)) ≡ false → (any is_empty (inside p q) ≡ false → Parts ws (inside p q))
        → Part w (keep (has u) s) × Parts ws (inside p q)
    go true g e ih = absurd (false≢true (sym e))
    go false g e ih = (keep-part w s (has u) h.0 g, ih e)

outsides-parts : (ws p c : Cover) → Parts ws p → Parts ws c → Every (Parts ws) (outsides p c)
unfolding outsides without
outsides-parts ws [] c h k = tt
outsides-parts ws (s ∷ p) [] h k = tt
outsides-parts [] (s ∷ p) (u ∷ c) h k = absurd h
outsides-parts (w ∷ ws) (s ∷ p) (u ∷ c) h k =
    let later = every_map (Parts ws) (Parts (w ∷ ws)) (λ q. u ∷ q) (λ q g. (k.0, g)) (outsides p c) (outsides-parts ws p c h.1 k.1) in
    search (every_append, every_one, keep-part, not-true, later)

-- one turn of a piece, where what is carried on stays a part, whatever the tests and the counts
cut_parts : (ws : Cover) (cap : ℕ) (qs : List Cover) (full few none : Bool) (n a b : ℕ) (p c : Cover)
    → ((m : ℕ) (q : Cover) → Parts ws q → Every (λ r. Parts ws r.cover) (carry cap qs m q)) → Parts ws p → (none ≡ false → Parts ws c)
    → Every (λ r. Parts ws r.cover)
    (cond full (piece p true ∷ []) (cond few (piece p false ∷ []) (cond none (carry cap qs n p) (carry cap qs a c ++ each (carry cap qs b) (outsides p c)))))
cut_parts ws cap qs true few none n a b p c carried h k = (h, tt)
cut_parts ws cap qs false true none n a b p c carried h k = (h, tt)
cut_parts ws cap qs false false true n a b p c carried h k = carried _ p h
cut_parts ws cap qs false false false n a b p c carried h k =
    let outer = outsides-parts ws p c h (k refl) in
    search (every_append, every_each, carried, k)

-- the pieces of a cover
pub carry-parts : (ws : Cover) (cap : ℕ) (qs : List Cover) → Every (Parts ws) qs → (n : ℕ) (p : Cover) → Parts ws p
    → Every (λ r. Parts ws r.cover) (carry cap qs n p)
unfolding carry
carry-parts ws cap [] fs n p h = (h, tt)
carry-parts ws cap (q ∷ qs) fs n p h =
    cut_parts ws cap qs (reached cap n) (stays_below cap n (suc (length qs))) (apart (inside p q)) _ _ _ p (inside p q) (carry-parts ws cap qs fs.1) h
    (inside-parts ws p q h fs.0)

-- pieces of parts: of two ways, the second where the test fails, and of one piece more
pub parts-cond : (ws : Cover) (b : Bool) (s t : List Piece) → Every (λ r. Parts ws r.cover) s → (b ≡ false → Every (λ r. Parts ws r.cover) t)
    → Every (λ r. Parts ws r.cover) (cond b s t)
parts-cond ws true s t h k = h
parts-cond ws false s t h k = k refl

parts-piece : (ws p : Cover) (held : Bool) (ps : List Piece) → Parts ws p → Every (λ r. Parts ws r.cover) ps → Every (λ r. Parts ws r.cover) (piece p held ∷ ps)
parts-piece ws p held ps h k = (h, k)

-- the pieces of a cover that first meets the partner's, where what goes on stays a part
pub across-parts : (ws : Cover) (on : Cover → List Piece) → ((c : Cover) → Parts ws c → Every (λ r. Parts ws r.cover) (on c)) → (qs : List Cover) → Every (Parts ws) qs
    → (p : Cover) → Parts ws p → Every (λ r. Parts ws r.cover) (across on qs p)
unfolding across
across-parts ws on goes [] fs p h = goes p h
across-parts ws on goes (q ∷ qs) fs p h =
    let carried = across-parts ws on goes qs fs.1 in
    let inner = inside-parts ws p q h fs.0 in
    let each_of = every_each (Parts ws) (λ (r : Piece). Parts ws r.cover) in
    search (parts-cond, parts-piece, each_of, outsides-parts, carried, inner)
