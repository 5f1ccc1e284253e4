-- Which states are reached from a key. Assumes nothing.
use Rattle.std.specs.Prelude.{◌≡◌, ℕ, ◌+◌, ◌*◌, ◌/◌, ◌%◌, ◌<◌, ◌≤◌, Bool, true, false, cond, not, List, ◌==◌, ◌≢◌, nat_lt, slice_index, length, take, get_or, refl, Option, Some, None}
use Rattle.std.proofs.Common.{ap, ap₂, sym, ◌∙◌, subst, arith, take-take, length-take-le, lt-ltb, le-ltb, ltb-false, eq-eqb, ne_eqb}
use Rattle.std.proofs.lemmas.Bool.{false≢true, eqb-false}
use Rattle.std.proofs.Math.Decide.{dec_lt}
use Rattle.std.proofs.Math.Seq.{slice}
use Rattle.std.proofs.lemmas.List.{get_or-take}
use Rattle.theory_lists.specs.Every.{every_more}
use Rattle.rows.specs.Rows.{Row, row, rows_of, row_at}
use Rattle.asking.specs.Ask.{due_of, next_of, asks_of, reach_of, Found, Finds}
use Rattle.asking.specs.Asking.{Asking}

pub reach-yes : (key t s : ℕ) → key ≤ s → s ≤ key + t → reach_of key t s ≡ true
unfolding reach_of
reach-yes key t s h k = rw (le-ltb s key h, le-ltb (key + t) s k) refl

pub reach_no : (key t s : ℕ) → (key ≤ s → s ≤ key + t → ⊥) → reach_of key t s ≡ false
unfolding reach_of
reach_no key t s h = go (dec_lt s key) (dec_lt (key + t) s)
  where
    go : Dec (s < key) → Dec (key + t < s) → cond (nat_lt s key) false (not (nat_lt (key + t) s)) ≡ false
    go (yes k) d = rw (lt-ltb s key k) refl
    go (no k) (yes j) = rw (le-ltb s key (omega arith), lt-ltb (key + t) s j) refl
    go (no k) (no j) = absurd (h (omega arith) (omega arith))

-- what a state that is reached shows
pub reach-is : (key t s : ℕ) → reach_of key t s ≡ true → (key ≤ s) × (s ≤ key + t)
unfolding reach_of
reach-is key t s h = go (nat_lt s key) (nat_lt (key + t) s) refl refl h
  where
    go : (a b : Bool) → nat_lt s key ≡ a → nat_lt (key + t) s ≡ b → cond a false (not b) ≡ true → (key ≤ s) × (s ≤ key + t)
    go false false f g q = (omega (arith, ltb-false s key f), omega (arith, ltb-false (key + t) s g))
    go false true f g q = absurd (false≢true q)
    go true b f g q = absurd (false≢true q)

-- from none of the places before p, nor from p, does the train go on to e
pub nowhere-more : (T : List ℕ) (k e p : ℕ) → ((j : ℕ) → j < p → slice_index T (240 + (k * 128 + j)) ≢ e) → (slice_index T (240 + (k * 128 + p)) ≢ e) → (j : ℕ) → j < p + 1
    → slice_index T (240 + (k * 128 + j)) ≢ e
nowhere-more T k e p h here j less g = go (dec_lt j p)
  where
    go : Dec (j < p) → ⊥
    go (yes y) = h j y g
    go (no y) = let same : j ≡ p = omega arith in here (ap (λ (x : ℕ). slice_index T (240 + (k * 128 + x))) (sym same) ∙ g)

-- what is found where more is said
found-more : (P Q : Row → Bool → Type 0) (i n : ℕ) (rows : List ℕ) (r : Option ℕ) → ((x : Row) (b : Bool) → P x b → Q x b) → Found P i n rows r → Found Q i n rows r
found-more P Q i n rows None more f = every_more (λ x. P x false) (λ x. Q x false) (λ x. more x false) (rows_of (slice (i * 2) (n * 2) rows)) f
found-more P Q i n rows (Some j) more f =
    (f.0, f.1, every_more (λ x. P x false) (λ x. Q x false) (λ x. more x false) (rows_of (slice (i * 2) (j * 2) rows)) f.2, more (row_at rows j) true f.3)

pub found_by : {P : Row → Bool → Type 0} (Q : Row → Bool → Type 0) {i n : ℕ} {rows : List ℕ} {r : Option ℕ} → Finds P i n rows r → ((x : Row) (b : Bool) → P x b → Q x b) → Found Q i n rows r
found_by {P} Q {i} {n} {rows} {r} f more = found-more P Q i n rows r more f.found

-- what is found among the first n rows alone, as a slice of their own
pub found_lent : (says : Row → Bool → Type 0) (i n : ℕ) (l : List ℕ) (r : Option ℕ) → i ≤ n → n * 2 ≤ length l
    → Found says i (length (take (n * 2) l) / 2) (take (n * 2) l) r → Found says i n l r
found_lent says i n l r h long f = go r (rw few at f)
  where
    few : length (take (n * 2) l) / 2 ≡ n
    few = omega (arith, length-take-le (n * 2) l long)

    go : (o : Option ℕ) → Found says i n (take (n * 2) l) o → Found says i n l o
    go None g = rw (take-take (n * 2) (n * 2) l (omega arith)) at g
    go (Some j) g =
        let before : take (j * 2) (take (n * 2) l) ≡ take (j * 2) l = take-take (j * 2) (n * 2) l (omega (arith, g.1)) in
        let state : get_or (take (n * 2) l) (j * 2) 0 ≡ get_or l (j * 2) 0 = get_or-take (n * 2) l (j * 2) 0 (omega (arith, g.1)) in
        let cover : get_or (take (n * 2) l) (j * 2 + 1) 0 ≡ get_or l (j * 2 + 1) 0 = get_or-take (n * 2) l (j * 2 + 1) 0 (omega (arith, g.1)) in
        (g.0, g.1, rw before at g.2, subst (λ (x : Row). says x true) (ap₂ (λ (s c : ℕ). row s c) state cover) g.3)

-- ---- a state that is due

pub due-is : (t s : ℕ) → due_of t s ≡ true → (s / 2048 % 2 ≢ 1) × (s % 2048 ≤ t)
unfolding due_of
due-is t s h = go (s / 2048 % 2 == 1) (nat_lt t (s % 2048)) refl refl h
  where
    go : (a b : Bool) → (s / 2048 % 2 == 1) ≡ a → nat_lt t (s % 2048) ≡ b → cond a false (not b) ≡ true → (s / 2048 % 2 ≢ 1) × (s % 2048 ≤ t)
    go false false f g q = (eqb-false (s / 2048 % 2) 1 f, omega (arith, ltb-false t (s % 2048) g))
    go false true f g q = absurd (false≢true q)
    go true b f g q = absurd (false≢true q)

pub due-yes : (t s : ℕ) → (s / 2048 % 2 ≢ 1) → s % 2048 ≤ t → due_of t s ≡ true
unfolding due_of
due-yes t s h k = rw (ne_eqb (s / 2048 % 2) 1 h, le-ltb t (s % 2048) k) refl

pub asks-yes : (T : List ℕ) (t e k s : ℕ) → Asking T t e k s → asks_of T t e k s ≡ true
unfolding asks_of
asks-yes T t e k s a = rw (eq-eqb (s / 524288) k a.train, a.due, eq-eqb (next_of T s) e a.next) refl
