-- How a number is taken apart into a choice, from the last train to the first, and how its weight is multiplied up on the way; neither passes 64 bits.
-- Each step divides by the size of one more table. Assumes nothing.
use Rattle.std.specs.Prelude.{◌≡◌, ℕ, zero, suc, ◌+◌, ◌-◌, ◌*◌, ◌/◌, ◌%◌, ◌^◌, ◌<◌, ◌≤◌, List, [], ◌∷◌, length, take, drop, slice_index, slice_set, refl}
use Rattle.std.proofs.Common.{sym, ap, ap₂, ◌∙◌, mul_comm, mul-le-mul, mod-lt, div-one, arith, length-set, drop-cons, get_or-set_same, drop-set-lt, length-take-le}
use Rattle.std.proofs.Math.Nat.{div-div-eq-div-mul, pow-succ', pow-le-pow_right}
use Rattle.std.proofs.Math.Seq.{take-set-lt, drop-length}
use Rattle.theory_lists.specs.Below.{get_d_below, length-span-map}
use Rattle.theory_plain.specs.Numbered.{times, indices}
use Rattle.plain.specs.Words.{sizes_in, weight_in, Sized}

-- ---- lists of sizes

pub indices-length : (l : List ℕ) (i : ℕ) → length (indices l i) ≡ length l
indices-length [] i = refl
indices-length (s ∷ l) i = ap suc (indices-length l i)

-- the index of a train: the number divided by how many choices the trains after it have, and what is left over
indices-at : (l : List ℕ) (i j : ℕ) → j < length l → slice_index (indices l i) j ≡ i / times (drop (suc j) l) % slice_index l j
indices-at [] i j h = absurd (omega arith)
indices-at (s ∷ l) i zero h = refl
indices-at (s ∷ l) i (suc j) h = indices-at l i j (omega arith)

times-drop : (l : List ℕ) (j : ℕ) → j < length l → times (drop j l) ≡ slice_index l j * times (drop (suc j) l)
times-drop [] j h = absurd (omega arith)
times-drop (s ∷ l) zero h = refl
times-drop (s ∷ l) (suc j) h = times-drop l j (omega arith)

-- ---- products in 64 bits

-- one factor more of at most b, after n - k factors
pub power_more : (b n k s p : ℕ) → 0 < k → k ≤ n → s ≤ b → p ≤ b ^ (n - k) → s * p ≤ b ^ (n - (k - 1))
power_more b n k s p h l m q =
    let e : n - (k - 1) ≡ suc (n - k) = omega arith in
    omega (arith, mul-le-mul m q, pow-succ' b (n - k), ap (λ (i : ℕ). b ^ i) e)

pub eights_fit : (j p : ℕ) → j ≤ 8 → p ≤ 8 ^ j → p < 18446744073709551616
eights_fit j p h m = omega (arith, pow-le-pow_right {n = 8} (omega arith) h)

pub hundreds_fit : (j p : ℕ) → j ≤ 8 → p ≤ 100 ^ j → p < 18446744073709551616
hundreds_fit j p h m = omega (arith, pow-le-pow_right {n = 100} (omega arith) h)

-- ---- what a step writes

-- the places from j on, after place j was set
drop_put : (n j v : ℕ) (l : List ℕ) → j < n → n ≤ length l → drop j (take n (slice_set l j v)) ≡ v ∷ drop (suc j) (take n l)
drop_put n j v l h m =
    ap (drop j) (take-set-lt n l j v h)
    ∙ drop-cons (slice_set (take n l) j v) j 0 (omega (arith, length-set (take n l) j v, length-take-le n l m))
    ∙ ap₂ (λ (a : ℕ) (r : List ℕ). a ∷ r) (get_or-set_same (take n l) j v 0 (omega (arith, length-take-le n l m))) (drop-set-lt (suc j) (take n l) j v (omega arith))

module _ (T : List ℕ) (sized : Sized T) where
  abbrev n : ℕ
  n = slice_index T 0

  pub sizes-length : length (sizes_in T) ≡ n
  unfolding sizes_in
  sizes-length = length-span-map (λ k. slice_index T (40 + k)) n 0

  pub size-at : (k : ℕ) → k < n → slice_index (sizes_in T) k ≡ slice_index T (40 + k)
  unfolding sizes_in
  size-at k h = get_d_below (λ k. slice_index T (40 + k)) n k 0 h

  -- ---- how many choices

  pub times-end : times (drop n (sizes_in T)) ≡ 1
  times-end = ap (λ (m : ℕ). times (drop m (sizes_in T))) (sym sizes-length) ∙ ap times (drop-length (sizes_in T))

  pub times-next : (k : ℕ) → k < n → slice_index T (40 + k) * times (drop (k + 1) (sizes_in T)) ≡ times (drop k (sizes_in T))
  times-next k h =
      let e : k + 1 ≡ suc k = omega arith in
      ap₂ (λ (s m : ℕ). s * times (drop m (sizes_in T))) (sym (size-at k h)) e ∙ sym (times-drop (sizes_in T) k (omega (arith, sizes-length)))

  -- ---- a number taken apart

  module _ (i : ℕ) where
    abbrev ix : List ℕ
    ix = indices (sizes_in T) i

    pub ix-length : length ix ≡ n
    ix-length = indices-length (sizes_in T) i ∙ sizes-length

    pub index_at : (k : ℕ) → k < n → i / times (drop (k + 1) (sizes_in T)) % slice_index T (40 + k) ≡ slice_index ix k
    index_at k h =
        let e : k + 1 ≡ suc k = omega arith in
        ap₂ (λ (m s : ℕ). i / times (drop m (sizes_in T)) % s) e (sym (size-at k h)) ∙ sym (indices-at (sizes_in T) i k (omega (arith, sizes-length)))

    pub left-next : (k : ℕ) → k < n → i / times (drop (k + 1) (sizes_in T)) / slice_index T (40 + k) ≡ i / times (drop k (sizes_in T))
    left-next k h =
        div-div-eq-div-mul i (times (drop (k + 1) (sizes_in T))) (slice_index T (40 + k))
        ∙ ap (λ (m : ℕ). i / m) (mul_comm (times (drop (k + 1) (sizes_in T))) (slice_index T (40 + k)) ∙ times-next k h)

    -- the places of the choice from k on
    pub chosen-next : (k : ℕ) (l : List ℕ) → k < n → n ≤ length l → drop (k + 1) (take n l) ≡ drop (k + 1) ix → drop k (take n (slice_set l k (slice_index ix k))) ≡ drop k ix
    chosen-next k l h m q =
        let e : suc k ≡ k + 1 = omega arith in
        drop_put n k (slice_index ix k) l h m
        ∙ ap (λ (j : ℕ). slice_index ix k ∷ drop j (take n l)) e
        ∙ ap (λ (r : List ℕ). slice_index ix k ∷ r) q
        ∙ ap (λ (j : ℕ). slice_index ix k ∷ drop j ix) (sym e)
        ∙ sym (drop-cons ix k 0 (omega (arith, ix-length)))

    pub chosen_none : (l : List ℕ) → n ≤ length l → drop n (take n l) ≡ drop n ix
    chosen_none l m =
        ap (λ (j : ℕ). drop j (take n l)) (sym (length-take-le n l m))
        ∙ drop-length (take n l)
        ∙ sym (drop-length ix)
        ∙ ap (λ (j : ℕ). drop j ix) ix-length

    -- the weight from k on
    pub weight-none : weight_in T n (drop n ix) ≡ 1
    weight-none = ap (λ (j : ℕ). weight_in T n (drop j ix)) (sym ix-length) ∙ ap (weight_in T n) (drop-length ix)

    pub weight-next : (k : ℕ) → k < n → slice_index T (112 + (k * 8 + slice_index ix k)) * weight_in T (k + 1) (drop (k + 1) ix) ≡ weight_in T k (drop k ix)
    weight-next k h =
        let e : k + 1 ≡ suc k = omega arith in
        ap (λ (j : ℕ). slice_index T (112 + (k * 8 + slice_index ix k)) * weight_in T j (drop j ix)) e
        ∙ ap (weight_in T k) (sym (drop-cons ix k 0 (omega (arith, ix-length))))

-- ---- the loop: the indices and the weight from train k on are there, and `left` is what is left of the number

pub record Choosing (T : List ℕ) (i n : ℕ) (choice : List ℕ) (k left weight : ℕ) : Type 0 where
  pub within : k ≤ n
  pub all : n ≡ slice_index T 0
  pub size : length choice ≡ 8
  pub rest : left ≡ i / times (drop k (sizes_in T))
  pub chosen : drop k (take n choice) ≡ drop k (indices (sizes_in T) i)
  pub weighs : weight ≡ weight_in T k (drop k (indices (sizes_in T) i))
  pub light : weight ≤ 100 ^ (n - k)

module _ (T : List ℕ) (sized : Sized T) (i : ℕ) where
  pub choosing_first : (n : ℕ) (choice : List ℕ) → n ≡ slice_index T 0 → length choice ≡ 8 → Choosing T i n choice n i 1
  choosing_first n choice e h =
      let none : n - n ≡ 0 = omega arith in
      record {
        within = omega arith;
        all = e;
        size = h;
        rest = sym (div-one i) ∙ ap (λ (m : ℕ). i / m) (sym (times-end T sized) ∙ ap (λ (k : ℕ). times (drop k (sizes_in T))) (sym e));
        chosen =
            ap (λ (k : ℕ). drop k (take k choice)) e
            ∙ chosen_none T sized i choice (omega (arith, sized.few))
            ∙ ap (λ (k : ℕ). drop k (indices (sizes_in T) i)) (sym e);
        weighs = sym (ap (λ (k : ℕ). weight_in T k (drop k (indices (sizes_in T) i))) e ∙ weight-none T sized i);
        light = omega (arith, ap (λ (j : ℕ). 100 ^ j) none);
      }

  module _ {n : ℕ} {choice : List ℕ} {k left weight : ℕ} (h : Choosing T i n choice k left weight) (some : 0 < k) {size : ℕ} (sizes : size ≡ slice_index T (40 + (k - 1))) where
    low : k - 1 < slice_index T 0
    low = omega (arith, h.within, h.all)

    pub size-some : 0 < size
    size-some = omega (arith, sized.some (k - 1) low)

    size-most : size ≤ 8
    size-most = omega (arith, sized.most (k - 1) low)

    pub train-low : k - 1 < 8
    train-low = omega (arith, low, sized.few)

    back : k ≡ k - 1 + 1
    back = omega arith

    rest_back : left ≡ i / times (drop (k - 1 + 1) (sizes_in T))
    rest_back = h.rest ∙ ap (λ (j : ℕ). i / times (drop j (sizes_in T))) back

    -- what is left over is the train's index
    index_is : left % size ≡ slice_index (indices (sizes_in T) i) (k - 1)
    index_is = ap₂ (λ (a b : ℕ). a % b) rest_back sizes ∙ index_at T sized i (k - 1) low

    pub index-low : left % size < 8
    index-low = omega (arith, mod-lt left size-some, size-most)

    module _ {w : ℕ} (weights : w ≡ slice_index T (112 + ((k - 1) * 8 + left % size))) where
      weight-low : w ≤ 100
      weight-low = omega (arith, sized.light (k - 1) (left % size) train-low index-low)

      product-low : w * weight ≤ 100 ^ (n - (k - 1))
      product-low = power_more 100 n k w weight some h.within weight-low h.light

      pub product-fits : w * weight < 18446744073709551616
      product-fits = hundreds_fit (n - (k - 1)) (w * weight) (omega (arith, h.all, sized.few)) product-low

      pub choosing_next : Choosing T i n (slice_set choice (k - 1) (left % size)) (k - 1) (left / size) (w * weight)
      choosing_next = record {
        within = omega (arith, h.within);
        all = h.all;
        size = length-set choice (k - 1) (left % size) ∙ h.size;
        rest = ap₂ (λ (a b : ℕ). a / b) rest_back sizes ∙ left-next T sized i (k - 1) low;
        chosen =
            ap₂ (λ (m v : ℕ). drop (k - 1) (take m (slice_set choice (k - 1) v))) h.all index_is
            ∙ chosen-next T sized i (k - 1) choice low (omega (arith, h.size, sized.few)) chosen-back;
        weighs =
            ap₂ ◌*◌ (weights ∙ ap (λ (d : ℕ). slice_index T (112 + ((k - 1) * 8 + d))) index_is)
            (h.weighs ∙ ap (λ (j : ℕ). weight_in T j (drop j (indices (sizes_in T) i))) back)
            ∙ weight-next T sized i (k - 1) low;
        light = product-low;
      }
        where
          chosen-back : drop (k - 1 + 1) (take (slice_index T 0) choice) ≡ drop (k - 1 + 1) (indices (sizes_in T) i)
          chosen-back =
              ap₂ (λ (j m : ℕ). drop j (take m choice)) (sym back) (sym h.all) ∙ h.chosen ∙ ap (λ (j : ℕ). drop j (indices (sizes_in T) i)) back

  pub choosing_done : {n : ℕ} {choice : List ℕ} {k left weight : ℕ} → Choosing T i n choice k left weight → k ≤ 0
      → (take (slice_index T 0) choice ≡ indices (sizes_in T) i) × (weight ≡ weight_in T 0 (indices (sizes_in T) i))
  choosing_done {n = n} {choice = choice} {k = k} h l =
      let none : k ≡ 0 = omega arith in (
        ap (λ (m : ℕ). take m choice) (sym h.all) ∙ ap (λ (j : ℕ). drop j (take n choice)) (sym none) ∙ h.chosen ∙ ap (λ (j : ℕ). drop j (indices (sizes_in T) i)) none,
        h.weighs ∙ ap (λ (j : ℕ). weight_in T j (drop j (indices (sizes_in T) i))) none,
      )
