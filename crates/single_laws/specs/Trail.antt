-- What the run of a choice leaves in the words: blocks on the elements of its trains' ways alone, as far as they came. So the next choice clears these and
-- no others, and begins as if all words were 0. Assumes nothing.
use Rattle.std.specs.Prelude.{◌≡◌, refl, Bool, true, false, List, ℕ, zero, suc, ◌+◌, ◌-◌, ◌*◌, ◌/◌, ◌%◌, ◌≤◌, ◌<◌, get_or, set, replicate, eqb}
use Rattle.std.proofs.Math.Path.{sym}
use Rattle.std.proofs.Common.{ap, ◌∙◌, arith, length-set, get_or-set_same, get_or-set_other, eqb-true}
use Rattle.std.proofs.Math.Decide.{dec_lt, dec_le}
use Rattle.std.proofs.Math.ListN.{length}
use Rattle.std.proofs.lemmas.List.{length-replicate}
use Rattle.std.proofs.Math.Seq.{ext_get_or}
use Rattle.std.proofs.lemmas.Bool.{eqb-false}
use Rattle.theory_lists.specs.Writes.{zeros-at}
use Rattle.moving.specs.Words.{run_size, trains_in, start_in}
use Rattle.single_laws.specs.Waiting.{begun, begun-length, begun-other, begun-own}

-- sixteen words beside those of the run: the next turn of each train in order, then how many elements each train has entered
abbrev pub asks_size : ℕ
asks_size = 16

abbrev pub moves_in : List ℕ → ℕ → ℕ
moves_in a k = get_or a (8 + k) 0

-- the code of the j-th place of train k's way, from outside on
abbrev pub way_in : List ℕ → ℕ → ℕ → ℕ
way_in T k zero = 65
way_in T k (suc j) = get_or T (240 + k * 128 + way_in T k j) 0

-- train k blocks nothing but what stands in its way from place i up to place m
abbrev pub Trod : List ℕ → List ℕ → ℕ → ℕ → ℕ → Type 0
Trod T w k i m = (e : ℕ) → e < 65 → ((j : ℕ) → i ≤ j → j < m → way_in T k j ≡ e → ⊥) → get_or w (24 + e * 8 + k) 0 ≡ 0

-- train k blocks nothing
abbrev pub Blank : List ℕ → ℕ → Type 0
Blank w k = (e : ℕ) → e < 65 → get_or w (24 + e * 8 + k) 0 ≡ 0

-- what the run of some choice left
pub record Left (T w a : List ℕ) : Type 0 where
  pub size : length w ≡ run_size
  pub room : length a ≡ asks_size
  pub trod : (k : ℕ) → k < 8 → Trod T w k 1 (moves_in a k)
  -- there are no words of trains that are not there
  pub away : (k : ℕ) → trains_in T ≤ k → k < 8 → (get_or w k 0 ≡ 0) × (get_or w (8 + k) 0 ≡ 0) × (get_or w (16 + k) 0 ≡ 0) × (moves_in a k ≡ 0)

-- words of 0 are what no run left
pub left-first : (T : List ℕ) → Left T (replicate {A = ℕ} 544 0) (replicate {A = ℕ} 16 0)
left-first T = record {
  size = length-replicate {A = ℕ} 544 0;
  room = length-replicate {A = ℕ} 16 0;
  trod = λ k l e m h. zeros-at 544 (24 + e * 8 + k);
  away = λ k l m. (zeros-at 544 k, zeros-at 544 (8 + k), zeros-at 544 (16 + k), zeros-at 16 (8 + k));
}

-- ---- clearing one train's blocks

-- the words that are not of train k's blocks, nor its arrival, are as they were
abbrev pub Besides : ℕ → List ℕ → List ℕ → Type 0
Besides k w v =
    (length v ≡ length w)
    × ((i : ℕ) → i < 24 → (i ≡ 16 + k → ⊥) → get_or v i 0 ≡ get_or w i 0)
    × ((e j : ℕ) → j < 8 → (j ≡ k → ⊥) → get_or v (24 + e * 8 + j) 0 ≡ get_or w (24 + e * 8 + j) 0)

pub besides_self : (k : ℕ) (w : List ℕ) → Besides k w w
besides_self k w = (refl, λ i l d. refl, λ e j l d. refl)

module _ (k : ℕ) (few : k < 8) (w v : List ℕ) (b : Besides k w v) where
  -- one of its blocks is cleared
  pub besides_block : (c : ℕ) → Besides k w (set v (24 + c * 8 + k) 0)
  besides_block c = (
    length-set v (24 + c * 8 + k) 0 ∙ b.0,
    λ i l d. get_or-set_other v (24 + c * 8 + k) i 0 0 (λ h. omega arith) ∙ b.1 i l d,
    λ e j l d. get_or-set_other v (24 + c * 8 + k) (24 + e * 8 + j) 0 0 (λ h. d (omega arith)) ∙ b.2 e j l d,
  )

  -- its arrival is
  pub besides_arrival : Besides k w (set v (16 + k) 0)
  besides_arrival = (
    length-set v (16 + k) 0 ∙ b.0,
    λ i l d. get_or-set_other v (16 + k) i 0 0 d ∙ b.1 i l d,
    λ e j l d. get_or-set_other v (16 + k) (24 + e * 8 + j) 0 0 (λ h. omega arith) ∙ b.2 e j l d,
  )

-- a place of the way is cleared
pub trod-next : (T v : List ℕ) (k i m c : ℕ) → k < 8 → length v ≡ run_size → c ≡ way_in T k i → Trod T v k i m → Trod T (set v (24 + c * 8 + k) 0) k (i + 1) m
trod-next T v k i m c few size here h e low off = go (eqb e c) refl
  where
    go : (b : Bool) → eqb e c ≡ b → get_or (set v (24 + c * 8 + k) 0) (24 + e * 8 + k) 0 ≡ 0
    go true q =
        let own : e ≡ c = eqb-true e c q in
        let place : 24 + e * 8 + k ≡ 24 + c * 8 + k = omega arith in
        ap (λ (p : ℕ). get_or (set v (24 + c * 8 + k) 0) p 0) place ∙ get_or-set_same v (24 + c * 8 + k) 0 0 (omega arith)
    go false q =
        let other : e ≡ c → ⊥ = eqb-false e c q in
        get_or-set_other v (24 + c * 8 + k) (24 + e * 8 + k) 0 0 (λ r. other (omega arith)) ∙ h e low (λ j l n r. by j l n r (dec_le (i + 1) j) other)
      where
        by : (j : ℕ) → i ≤ j → j < m → way_in T k j ≡ e → Dec (i + 1 ≤ j) → (e ≡ c → ⊥) → ⊥
        by j l n r (yes p) other = off j p n r
        by j l n r (no p) other = let same : j ≡ i = omega arith in other (sym r ∙ ap (way_in T k) same ∙ sym here)

-- past the end of the way there is nothing left to clear
pub trod-end : (T v : List ℕ) (k i m : ℕ) → m ≤ i → Trod T v k i m → Blank v k
trod-end T v k i m l h e low = h e low (λ j p q r. omega arith)

pub blank-arrival : (v : List ℕ) (k : ℕ) → k < 8 → Blank v k → Blank (set v (16 + k) 0) k
blank-arrival v k few h e low = get_or-set_other v (16 + k) (24 + e * 8 + k) 0 0 (λ r. omega arith) ∙ h e low

-- ---- clearing all

-- the trains below m are cleared
pub record Clearing (T : List ℕ) (m : ℕ) (w a : List ℕ) : Type 0 where
  pub size : length w ≡ run_size
  pub room : length a ≡ asks_size
  pub cleared : (k : ℕ) → k < m → Blank w k × (get_or w (16 + k) 0 ≡ 0) × (moves_in a k ≡ 0)
  pub trod : (k : ℕ) → m ≤ k → k < 8 → Trod T w k 1 (moves_in a k)
  pub away : (k : ℕ) → trains_in T ≤ k → k < 8 → (get_or w k 0 ≡ 0) × (get_or w (8 + k) 0 ≡ 0) × (get_or w (16 + k) 0 ≡ 0) × (moves_in a k ≡ 0)

pub clearing_first : {T w a : List ℕ} → Left T w a → Clearing T 0 w a
clearing_first l = record {
  size = l.size;
  room = l.room;
  cleared = λ k h. absurd (omega arith);
  trod = λ k h m. l.trod k m;
  away = l.away;
}

pub clearing_next : (T w a v b : List ℕ) (k : ℕ) → k < trains_in T → k < 8 → Clearing T k w a → Besides k w v → Blank v k → get_or v (16 + k) 0 ≡ 0
    → b ≡ set a (8 + k) 0 → Clearing T (k + 1) v b
clearing_next T w a v b k here few c besides blank none moved = record {
  size = besides.0 ∙ c.size;
  room = ap (λ (l : List ℕ). length l) moved ∙ length-set a (8 + k) 0 ∙ c.room;
  cleared = λ j l. by j l (dec_lt j k);
  trod = λ j l m e low off.
      besides.2 e j m (λ r. omega arith) ∙ c.trod j (omega arith) m e low (λ i p q r. off i p (omega (arith, moves j (λ r. omega arith))) r);
  away = λ j l m. (
    besides.1 j (omega arith) (λ r. omega arith) ∙ (c.away j l m).0,
    besides.1 (8 + j) (omega arith) (λ r. omega arith) ∙ (c.away j l m).1,
    besides.1 (16 + j) (omega arith) (λ r. omega arith) ∙ (c.away j l m).2,
    moves j (λ r. omega arith) ∙ (c.away j l m).3,
  );
}
  where
    moves : (j : ℕ) → (j ≡ k → ⊥) → moves_in b j ≡ moves_in a j
    moves j d = ap (λ (l : List ℕ). get_or l (8 + j) 0) moved ∙ get_or-set_other a (8 + k) (8 + j) 0 0 (λ r. d (omega arith))

    own : moves_in b k ≡ 0
    own = ap (λ (l : List ℕ). get_or l (8 + k) 0) moved ∙ get_or-set_same a (8 + k) 0 0 (omega (arith, c.room))

    by : (j : ℕ) → j < k + 1 → Dec (j < k) → Blank v j × (get_or v (16 + j) 0 ≡ 0) × (moves_in b j ≡ 0)
    by j l (yes h) = (
      λ e low. besides.2 e j (omega arith) (λ r. omega arith) ∙ (c.cleared j h).0 e low,
      besides.1 (16 + j) (omega arith) (λ r. omega arith) ∙ (c.cleared j h).1,
      moves j (λ r. omega arith) ∙ (c.cleared j h).2,
    )
    by j l (no h) =
        let same : j ≡ k = omega arith in (
          λ e low. ap (λ (i : ℕ). get_or v (24 + e * 8 + i) 0) same ∙ blank e low,
          ap (λ (i : ℕ). get_or v (16 + i) 0) same ∙ none,
          ap (moves_in b) same ∙ own,
        )

-- all are cleared: but for places and due minutes of trains every word is 0
pub record Cleared (T w a : List ℕ) : Type 0 where
  pub size : length w ≡ run_size
  pub room : length a ≡ asks_size
  pub blank : (k : ℕ) → k < 8 → Blank w k
  pub arrivals : (k : ℕ) → k < 8 → get_or w (16 + k) 0 ≡ 0
  pub moves : (k : ℕ) → k < 8 → moves_in a k ≡ 0
  pub away : (k : ℕ) → trains_in T ≤ k → k < 8 → (get_or w k 0 ≡ 0) × (get_or w (8 + k) 0 ≡ 0)

pub clearing_end : {T w a : List ℕ} {m : ℕ} → m ≡ trains_in T → Clearing T m w a → Cleared T w a
clearing_end {T} {w} {a} {m} all c = record {
  size = c.size;
  room = c.room;
  blank = λ k l. (by k l (dec_lt k m)).0;
  arrivals = λ k l. (by k l (dec_lt k m)).1;
  moves = λ k l. (by k l (dec_lt k m)).2;
  away = λ k l h. ((c.away k l h).0, (c.away k l h).1);
}
  where
    by : (k : ℕ) → k < 8 → Dec (k < m) → Blank w k × (get_or w (16 + k) 0 ≡ 0) × (moves_in a k ≡ 0)
    by k l (yes h) = c.cleared k h
    by k l (no h) =
        let none = c.away k (omega arith) l in
        (trod-end T w k 1 (moves_in a k) (omega (arith, none.3)) (c.trod k (omega arith) l), none.2, none.3)

-- ---- the start

module _ {T w a : List ℕ} (few : trains_in T ≤ 8) (c : Cleared T w a) (x : List ℕ) where
  abbrev n : ℕ
  n = trains_in T

  abbrev zeros : List ℕ
  zeros = replicate {A = ℕ} run_size 0

  -- a word that is no place or due minute of a train
  abbrev Free : ℕ → Type 0
  Free i = (k : ℕ) → k < n → (i ≡ k → ⊥) × (i ≡ 8 + k → ⊥)

  free-zero : (i : ℕ) → i < 544 → Free i → get_or w i 0 ≡ 0
  free-zero i l free = by (dec_lt i 8) (dec_lt i 16) (dec_lt i 24)
    where
      place : Dec (i < n) → i < 8 → get_or w i 0 ≡ 0
      place (yes h) low = absurd ((free i h).0 refl)
      place (no h) low = (c.away i (omega arith) low).0

      due : (k : ℕ) → i ≡ 8 + k → k < 8 → Dec (k < n) → get_or w i 0 ≡ 0
      due k e low (yes h) = absurd ((free k h).1 e)
      due k e low (no h) = ap (λ (j : ℕ). get_or w j 0) e ∙ (c.away k (omega arith) low).1

      by : Dec (i < 8) → Dec (i < 16) → Dec (i < 24) → get_or w i 0 ≡ 0
      by (yes h) q r = place (dec_lt i n) h
      by (no h) (yes q) r = due (i - 8) (omega arith) (omega arith) (dec_lt (i - 8) n)
      by (no h) (no q) (yes r) = let e : i ≡ 16 + (i - 16) = omega arith in ap (λ (j : ℕ). get_or w j 0) e ∙ c.arrivals (i - 16) (omega arith)
      by (no h) (no q) (no r) =
          let e : i ≡ 24 + (i - 24) / 8 * 8 + (i - 24) % 8 = omega arith in
          ap (λ (j : ℕ). get_or w j 0) e ∙ c.blank ((i - 24) % 8) (omega arith) ((i - 24) / 8) (omega arith)

  -- the choice begins as if all words were 0
  pub start_again : start_in T x w ≡ start_in T x zeros
  unfolding start_in
  start_again =
      ext_get_or 0 (begun T x n 0 w) (begun T x n 0 zeros) (size ∙ sym zeros-size) (λ i l. each i (omega (arith, size)) (dec_lt i n) (dec_lt i 8) (dec_lt i (8 + n)))
    where
      size : length (begun T x n 0 w) ≡ run_size
      size = begun-length T x n 0 w ∙ c.size

      zeros-size : length (begun T x n 0 zeros) ≡ run_size
      zeros-size = begun-length T x n 0 zeros ∙ length-replicate {A = ℕ} run_size 0

      same : ℕ → Type 0
      same i = get_or (begun T x n 0 w) i 0 ≡ get_or (begun T x n 0 zeros) i 0

      own : (k : ℕ) → k < n → same k × same (8 + k)
      own k l =
          let f = begun-own T x n 0 k w c.size (omega arith) (omega arith) (omega arith) in
          let z = begun-own T x n 0 k zeros (length-replicate {A = ℕ} run_size 0) (omega arith) (omega arith) (omega arith) in
          (f.0 ∙ sym z.0, f.1 ∙ sym z.1)

      free : (i : ℕ) → i < 544 → Free i → same i
      free i l f =
          begun-other T x n 0 i w (λ k p q. f k (omega arith))
          ∙ free-zero i l f
          ∙ sym (begun-other T x n 0 i zeros (λ k p q. f k (omega arith)) ∙ zeros-at run_size i)

      each : (i : ℕ) → i < 544 → Dec (i < n) → Dec (i < 8) → Dec (i < 8 + n) → same i
      each i l (yes h) q r = (own i h).0
      each i l (no h) (yes q) r = free i l (λ k p. (λ e. omega arith, λ e. omega arith))
      each i l (no h) (no q) (yes r) =
          let e : i ≡ 8 + (i - 8) = omega arith in
          ap (λ (j : ℕ). get_or (begun T x n 0 w) j 0) e ∙ (own (i - 8) (omega arith)).1 ∙ ap (λ (j : ℕ). get_or (begun T x n 0 zeros) j 0) (sym e)
      each i l (no h) (no q) (no r) = free i l (λ k p. (λ e. omega arith, λ e. omega arith))
