-- Minutes, elements and trains one after another are turns one after another: a minute is its 1,024 turns, of which those of no element and of no train
-- change nothing. And what is the least of some numbers. Assumes nothing.
use Rattle.std.specs.Prelude.{◌≡◌, true, false, ◌&&◌, leb, eqb}
use Rattle.std.proofs.Math.Path.{refl, ap}
use Rattle.std.proofs.Common.{◌∙◌, leb-true, leb-false, ltb-true, ltb-false, eqb-true, lt-ltb, le-ltb}
use Rattle.std.proofs.Math.Bool.{Bool, cond}
use mathlib.Core.List.{List}
use Prim.Native.Nat.{ℕ, zero, suc, ◌+◌, ◌*◌, ◌/◌, ◌%◌, ◌≤◌, ◌<◌}
use native.Mathlib.Omega.{arith}
use Rattle.std.proofs.Math.Dec.{ltb}
use Rattle.std.proofs.lemmas.Bool.{eqb-false}
use Rattle.rules.specs.Lists.{fold, span, below}
use Rattle.theory_lists.specs.Folds.{fold-below}
use Rattle.words.specs.Spans.{onward, fold_next}
use Rattle.moving.specs.Words.{trains_in, order_in, served_in, element_in, minute_in, nearer, turn_minute, turn_element, turn_rank, served_at}

-- ---- the least

-- what a turn makes of the best so far is at most that, and at most q where q is from e on
nearer-most : (e q b : ℕ) → (nearer e q b ≤ b) × (e ≤ q → nearer e q b ≤ q) × (e ≤ b → e ≤ nearer e q b)
nearer-most e q b = go (leb e q) (ltb q b) refl refl
  where
    go : (f g : Bool) → leb e q ≡ f → ltb q b ≡ g
        → (cond f (cond g q b) b ≤ b) × (e ≤ q → cond f (cond g q b) b ≤ q) × (e ≤ b → e ≤ cond f (cond g q b) b)
    go true true h i = let l : q < b = ltb-true q b i in (omega arith, λ m. omega arith, λ m. leb-true e q h)
    go true false h i = (omega arith, λ m. ltb-false q b i, λ m. m)
    go false g h i = let l : q < e = leb-false e q h in (omega arith, λ m. absurd (omega arith), λ m. m)

-- a minimum over the numbers of a span
module _ (e : ℕ) (q : ℕ → ℕ) where
  pub least_most : (n k b : ℕ) → fold (λ i c. nearer e (q i) c) (span n k) b ≤ b
  least_most zero k b = omega arith
  least_most (suc n) k b = omega (arith, (nearer-most e (q k) b).0, least_most n (suc k) (nearer e (q k) b))

  pub least_each : (n k b i : ℕ) → k ≤ i → i < k + n → e ≤ q i → fold (λ j c. nearer e (q j) c) (span n k) b ≤ q i
  least_each zero k b i l m h = absurd (omega arith)
  least_each (suc n) k b i l m h = go (eqb i k) refl (least_each n (suc k) (nearer e (q k) b) i)
    where
      go : (c : Bool) → eqb i k ≡ c → (suc k ≤ i → i < suc k + n → e ≤ q i → fold (λ j c. nearer e (q j) c) (span n (suc k)) (nearer e (q k) b) ≤ q i)
          → fold (λ j c. nearer e (q j) c) (span n (suc k)) (nearer e (q k) b) ≤ q i
      go true r ih =
          let same : q i ≡ q k = ap q (eqb-true i k r) in
          let from : e ≤ q k = omega arith in
          omega (arith, (nearer-most e (q k) b).1 from, least_most n (suc k) (nearer e (q k) b))
      go false r ih = let other : i ≡ k → ⊥ = eqb-false i k r in ih (omega arith) (omega arith) h

  pub least_from : (n k b : ℕ) → e ≤ b → e ≤ fold (λ i c. nearer e (q i) c) (span n k) b
  least_from zero k b h = h
  least_from (suc n) k b h = least_from n (suc k) (nearer e (q k) b) ((nearer-most e (q k) b).2 h)

  -- what is so of the bound and of each number is so of the least
  pub least_among : (P : ℕ → Type 0) (n k b : ℕ) → P b → ((i : ℕ) → k ≤ i → i < k + n → P (q i)) → P (fold (λ i c. nearer e (q i) c) (span n k) b)
  least_among P zero k b p h = p
  least_among P (suc n) k b p h = least_among P n (suc k) (nearer e (q k) b) (go (leb e (q k)) (ltb (q k) b)) (λ i l m. h i (omega arith) (omega arith))
    where
      go : (f g : Bool) → P (cond f (cond g (q k) b) b)
      go true true = h k (omega arith) (omega arith)
      go true false = p
      go false g = p

-- ---- folds

module _ {ℓ} {S : Type ℓ} where
  -- from a on, d steps that change nothing may be left out
  pub fold_skip : (f : ℕ → S → S) (s : S) (n d a : ℕ) → a + d ≤ n → ((i : ℕ) → a ≤ i → i < a + d → f i s ≡ s)
      → fold f (onward n a) s ≡ fold f (onward n (a + d)) s
  fold_skip f s n zero a h stays = let e : a ≡ a + 0 = omega arith in ap (λ (j : ℕ). fold f (onward n j) s) e
  fold_skip f s n (suc d) a h stays =
      let e : (a + 1) + d ≡ a + suc d = omega arith in
      fold_next f n a s (omega arith)
      ∙ ap (fold f (onward n (a + 1))) (stays a (omega arith) (omega arith))
      ∙ fold_skip f s n d (a + 1) (omega arith) (λ i l m. stays i (omega arith) (omega arith))
      ∙ ap (λ (j : ℕ). fold f (onward n j) s) e

  -- steps that are the same below n
  fold_same : (f g : ℕ → S → S) (n k : ℕ) → ((i : ℕ) → i < n + k → (s : S) → f i s ≡ g i s) → (s : S) → fold f (span n k) s ≡ fold g (span n k) s
  fold_same f g zero k h s = refl
  fold_same f g (suc n) k h s = ap (fold f (span n (suc k))) (h k (omega arith) s) ∙ fold_same f g n (suc k) (λ i l u. h i (omega arith) u) (g k s)

  -- n + d steps are n steps and d more
  fold_more : (f : ℕ → S → S) (n d k : ℕ) (s : S) → fold f (span (n + d) k) s ≡ fold f (span d (n + k)) (fold f (span n k) s)
  fold_more f zero d k s =
      let a : 0 + d ≡ d = omega arith in
      let b : k ≡ 0 + k = omega arith in
      ap (λ (m : ℕ). fold f (span m k) s) a ∙ ap (λ (j : ℕ). fold f (span d j) s) b
  fold_more f (suc n) d k s =
      let a : suc n + d ≡ suc (n + d) = omega arith in
      let b : n + suc k ≡ suc n + k = omega arith in
      ap (λ (m : ℕ). fold f (span m k) s) a
      ∙ fold_more f n d (suc k) (f k s)
      ∙ ap (λ (j : ℕ). fold f (span d j) (fold f (span n (suc k)) (f k s))) b

  -- the steps after n steps
  pub fold-last : (f : ℕ → S → S) (n : ℕ) (s : S) → fold f (below (suc n)) s ≡ f n (fold f (below n) s)
  fold-last f n s =
      let a : suc n ≡ n + 1 = omega arith in
      let b : n + 0 ≡ n = omega arith in
      ap (λ (m : ℕ). fold f (below m) s) a ∙ fold_more f n 1 0 s ∙ ap (λ (j : ℕ). f j (fold f (below n) s)) b

  -- steps from c on are steps from 0 on, c further
  fold-shift : (f : ℕ → S → S) (c n k : ℕ) (s : S) → fold f (span n (c + k)) s ≡ fold (λ i. f (c + i)) (span n k) s
  fold-shift f c zero k s = refl
  fold-shift f c (suc n) k s =
      let e : suc (c + k) ≡ c + suc k = omega arith in
      ap (λ (j : ℕ). fold f (span n j) (f (c + k) s)) e ∙ fold-shift f c n (suc k) (f (c + k) s)

  -- n rows of b steps each
  fold-rows : (f g : ℕ → S → S) (b : ℕ) → ((i : ℕ) (s : S) → fold f (span b (i * b)) s ≡ g i s)
      → (n k : ℕ) (s : S) → fold f (span (n * b) (k * b)) s ≡ fold g (span n k) s
  fold-rows f g b h zero k s = let e : 0 * b ≡ 0 = omega arith in ap (λ (m : ℕ). fold f (span m (k * b)) s) e
  fold-rows f g b h (suc n) k s =
      let a : suc n * b ≡ b + n * b = omega arith in
      let c : b + k * b ≡ suc k * b = omega arith in
      ap (λ (m : ℕ). fold f (span m (k * b)) s) a
      ∙ fold_more f b (n * b) (k * b) s
      ∙ ap (λ (j : ℕ). fold f (span (n * b) j) (fold f (span b (k * b)) s)) c
      ∙ ap (fold f (span (n * b) (suc k * b))) (h k s)
      ∙ fold-rows f g b h n (suc k) (g k s)

  -- of m steps those from n on change nothing
  fold-first : (f : ℕ → S → S) (n m : ℕ) → n ≤ m → (s : S) → fold (λ i u. cond (ltb i n) (f i u) u) (below m) s ≡ fold f (below n) s
  fold-first f n m h s =
      fold-below (λ i u. cond (ltb i n) (f i u) u) m n h (λ j u l. ap (λ (b : Bool). cond b (f j u) u) (le-ltb j n l)) s
      ∙ fold_same (λ i u. cond (ltb i n) (f i u) u) f n 0 (λ i l u. ap (λ (b : Bool). cond b (f i u) u) (lt-ltb i n (omega arith))) s

-- ---- a minute's turns

module _ (T : List ℕ) where
  -- a turn by its parts
  served-parts : (q t e i : ℕ) (w : List ℕ) → turn_minute q ≡ t → turn_element q ≡ e → turn_rank q ≡ i
      → served_at T q w ≡ cond (ltb e 65 && ltb i (trains_in T)) (served_in T t e (order_in T i) w) w
  unfolding served_at
  served-parts q t e i w f g h =
      ap (λ (t : ℕ). cond (ltb (turn_element q) 65 && ltb (turn_rank q) (trains_in T)) (served_in T t (turn_element q) (order_in T (turn_rank q)) w) w) f
      ∙ ap (λ (e : ℕ). cond (ltb e 65 && ltb (turn_rank q) (trains_in T)) (served_in T t e (order_in T (turn_rank q)) w) w) g
      ∙ ap (λ (i : ℕ). cond (ltb e 65 && ltb i (trains_in T)) (served_in T t e (order_in T i) w) w) h

  module _ (few : trains_in T ≤ 8) where
    -- eight turns, one for each train that there can be, are an element's, if there is such an element
    row-turns : (r : ℕ) (w : List ℕ) → fold (served_at T) (span 8 (r * 8)) w ≡ cond (ltb (r % 128) 65) (element_in T (r / 128) (r % 128) w) w
    unfolding element_in
    row-turns r w =
        let e : r * 8 ≡ r * 8 + 0 = omega arith in
        ap (λ (j : ℕ). fold (served_at T) (span 8 j) w) e ∙ fold-shift (served_at T) (r * 8) 8 0 w ∙ go (ltb (r % 128) 65) refl
      where
        serves : Bool → ℕ → List ℕ → List ℕ
        serves b i u = cond (b && ltb i (trains_in T)) (served_in T (r / 128) (r % 128) (order_in T i) u) u

        parts : (b : Bool) → ltb (r % 128) 65 ≡ b → (i : ℕ) → i < 8 + 0 → (u : List ℕ) → served_at T (r * 8 + i) u ≡ serves b i u
        parts b h i l u =
            served-parts (r * 8 + i) (r / 128) (r % 128) i u (omega arith) (omega arith) (omega arith)
            ∙ ap (λ (b : Bool). cond (b && ltb i (trains_in T)) (served_in T (r / 128) (r % 128) (order_in T i) u) u) h

        go : (b : Bool) → ltb (r % 128) 65 ≡ b
            → fold (λ i. served_at T (r * 8 + i)) (span 8 0) w ≡ cond b (fold (λ i u. served_in T (r / 128) (r % 128) (order_in T i) u) (below (trains_in T)) w) w
        go true h =
            fold_same (λ i. served_at T (r * 8 + i)) (serves true) 8 0 (parts true h) w
            ∙ fold-first (λ i u. served_in T (r / 128) (r % 128) (order_in T i) u) (trains_in T) 8 few w
        go false h = fold_same (λ i. served_at T (r * 8 + i)) (serves false) 8 0 (parts false h) w

    minute-turns : (t : ℕ) (w : List ℕ) → fold (served_at T) (span 1024 (t * 1024)) w ≡ minute_in T t w
    unfolding minute_in
    minute-turns t w =
        let a : t * 1024 ≡ t * 128 * 8 = omega arith in
        let b : t * 128 ≡ t * 128 + 0 = omega arith in
        ap (λ (j : ℕ). fold (served_at T) (span 1024 j) w) a
        ∙ fold-rows (served_at T) rows 8 row-turns 128 (t * 128) w
        ∙ ap (λ (j : ℕ). fold rows (span 128 j) w) b
        ∙ fold-shift rows (t * 128) 128 0 w
        ∙ fold_same (λ i. rows (t * 128 + i)) (λ i u. cond (ltb i 65) (element_in T t i u) u) 128 0 parts w
        ∙ fold-first (element_in T t) 65 128 (omega arith) w
      where
        rows : ℕ → List ℕ → List ℕ
        rows r u = cond (ltb (r % 128) 65) (element_in T (r / 128) (r % 128) u) u

        parts : (i : ℕ) → i < 128 + 0 → (u : List ℕ) → rows (t * 128 + i) u ≡ cond (ltb i 65) (element_in T t i u) u
        parts i l u =
            let e : (t * 128 + i) % 128 ≡ i = omega arith in
            let m : (t * 128 + i) / 128 ≡ t = omega arith in
            ap (λ (j : ℕ). cond (ltb j 65) (element_in T ((t * 128 + i) / 128) j u) u) e ∙ ap (λ (j : ℕ). cond (ltb i 65) (element_in T j i u) u) m

    -- the minutes up to m are the turns below those of minute m + 1
    pub minutes-turns : (m : ℕ) (w : List ℕ) → fold (served_at T) (below ((m + 1) * 1024)) w ≡ fold (minute_in T) (below (suc m)) w
    minutes-turns m w =
        let a : (m + 1) * 1024 ≡ suc m * 1024 = omega arith in
        ap (λ (n : ℕ). fold (served_at T) (below n) w) a ∙ fold-rows (served_at T) (minute_in T) 1024 minute-turns (suc m) 0 w
