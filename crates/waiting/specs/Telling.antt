-- Laws of what a run notes: telling a pair of a cover, and telling all pairs of an element, only makes words grow, and the pair then knows of the cover.
-- Assumes nothing.
use Rattle.std.specs.Prelude.{◌≡◌, Bool, List, [], ◌∷◌, ℕ, zero, suc, ◌+◌, ◌*◌, ◌%◌, ◌≤◌, ◌<◌, length, get_or, set}
use Rattle.std.proofs.Math.Path.{refl, ap, sym}
use Rattle.std.proofs.Common.{◌∙◌, subst, arith, length-set, get_or-set_same}
use Rattle.std.proofs.Math.Bool.{true, false, cond}
use borrow.Author.Tests.{eqb-true, eqb-false, lt-ltb, ltb-true, ltb-false}
use Rattle.std.proofs.Math.Seq.{get_or-set_other}
use Rattle.std.specs.Int.Bits.{bit_and, bit_or, and_self, and_zero_l}
use Rattle.std.proofs.Math.Dec.{ltb, eqb}
use Rattle.quiet.specs.Parts.{Sub, sub_trans, sub_or_left, sub_or_right}
use Rattle.asking.specs.Ask.{partner_of, Mutual}
use Rattle.waiting.specs.Calm.{spot, Told, Meets}
use Rattle.waiting.specs.Calm.Meets.{own, across}
use Rattle.waiting.specs.Calm.Told.{nobody, told}
use Rattle.waiting.specs.Notes.{stir_in, asked_in, told_of, told_all, told_across, told_left, fresh_of, Flagged, Grows}

-- ---- growing

pub grows_same : (N : List ℕ) → Grows N N
grows_same N = record { stir = λ i. and_self (stir_in N i); asked = λ i h. h; minutes = λ i l h. h }

pub grows_trans : {N M L : List ℕ} → Grows N M → Grows M L → Grows N L
grows_trans {N} {M} {L} f g = record {
  stir = λ i. sub_trans (stir_in N i) (stir_in M i) (stir_in L i) (f.stir i) (g.stir i);
  asked = λ i h. f.asked i (g.asked i h);
  minutes = λ i l h. f.minutes i l (g.minutes i l h);
}

-- ---- one word

past : (l : List ℕ) (i : ℕ) → length l ≤ i → get_or l i 0 ≡ 0
past [] i h = refl
past (x ∷ l) zero h = absurd (omega arith)
past (x ∷ l) (suc i) h = past l i (omega arith)

module _ (N : List ℕ) (i v : ℕ) where
  other_word : (j : ℕ) → (j ≡ i → ⊥) → get_or (set N i v) j 0 ≡ get_or N j 0
  other_word j h = get_or-set_other N i j v 0 h

  own-word : i < length N → get_or (set N i v) i 0 ≡ v
  own-word h = get_or-set_same N i v 0 h

  -- a pair's word that is raised
  pub grows-stir : i < 1024 → Sub (get_or N i 0) v → Grows N (set N i v)
  unfolding stir_in asked_in
  grows-stir h s = record {
    stir = λ j. go j (ltb j 1024) (eqb j i) refl refl;
    asked = λ j k. ap (λ (x : ℕ). cond (ltb j 1024) x 0) (sym (other_word (1152 + j) (λ e. omega arith))) ∙ k;
    minutes = λ j l k. sym (other_word (2176 + j) (λ e. omega arith)) ∙ k;
  }
    where
      go : (j : ℕ) (a b : Bool) → ltb j 1024 ≡ a → eqb j i ≡ b → Sub (cond a (get_or N j 0) 0) (cond a (get_or (set N i v) j 0) 0)
      go j false b e f = and_zero_l 0
      go j true false e f = ap (bit_and (get_or N j 0)) (other_word j (eqb-false j i f)) ∙ and_self (get_or N j 0)
      go j true true e f = same (eqb-true j i f)
        where
          same : j ≡ i → Sub (get_or N j 0) (get_or (set N i v) j 0)
          same z = rw z (put (ltb i (length N)) refl)
            where
              put : (b : Bool) → ltb i (length N) ≡ b → Sub (get_or N i 0) (get_or (set N i v) i 0)
              put true q = ap (bit_and (get_or N i 0)) (own-word (ltb-true i (length N) q)) ∙ s
              put false q = rw (past N i (omega (arith, ltb-false i (length N) q))) (and_zero_l (get_or (set N i v) i 0))

  -- an element's word
  pub grows-flag : 1024 ≤ i → i < 1152 → Grows N (set N i v)
  unfolding stir_in asked_in
  grows-flag h l = record {
    stir = λ j. go j (ltb j 1024) refl;
    asked = λ j k. ap (λ (x : ℕ). cond (ltb j 1024) x 0) (sym (other_word (1152 + j) (λ e. omega arith))) ∙ k;
    minutes = λ j m k. sym (other_word (2176 + j) (λ e. omega arith)) ∙ k;
  }
    where
      go : (j : ℕ) (a : Bool) → ltb j 1024 ≡ a → Sub (cond a (get_or N j 0) 0) (cond a (get_or (set N i v) j 0) 0)
      go j false e = and_zero_l 0
      go j true e = ap (bit_and (get_or N j 0)) (other_word j (λ z. omega (arith, ltb-true j 1024 e))) ∙ and_self (get_or N j 0)

  -- that rows of a pair wait
  pub grows-asked : 1152 ≤ i → i < 2176 → (v ≡ 0 → ⊥) → i < length N → Grows N (set N i v)
  unfolding stir_in asked_in
  grows-asked h l some long = record {
    stir = λ j. go j (ltb j 1024) refl;
    asked = λ j k. asks j (eqb (1152 + j) i) refl k;
    minutes = λ j m k. sym (other_word (2176 + j) (λ e. omega arith)) ∙ k;
  }
    where
      go : (j : ℕ) (a : Bool) → ltb j 1024 ≡ a → Sub (cond a (get_or N j 0) 0) (cond a (get_or (set N i v) j 0) 0)
      go j false e = and_zero_l 0
      go j true e = ap (bit_and (get_or N j 0)) (other_word j (λ z. omega (arith, ltb-true j 1024 e))) ∙ and_self (get_or N j 0)

      asks : (j : ℕ) (b : Bool) → eqb (1152 + j) i ≡ b → cond (ltb j 1024) (get_or (set N i v) (1152 + j) 0) 0 ≡ 0 → cond (ltb j 1024) (get_or N (1152 + j) 0) 0 ≡ 0
      asks j false e k = ap (λ (x : ℕ). cond (ltb j 1024) x 0) (sym (other_word (1152 + j) (eqb-false (1152 + j) i e))) ∙ k
      asks j true e k = inner (ltb j 1024) k
        where
          inner : (a : Bool) → cond a (get_or (set N i v) (1152 + j) 0) 0 ≡ 0 → cond a (get_or N (1152 + j) 0) 0 ≡ 0
          inner false m = refl
          inner true m = absurd (some (sym (ap (λ (y : ℕ). get_or (set N i v) y 0) (eqb-true (1152 + j) i e) ∙ own-word long) ∙ m))

  -- a minute that is shown
  pub grows-minute : 2176 ≤ i → (v ≡ 0 → ⊥) → i < length N → Grows N (set N i v)
  unfolding stir_in asked_in
  grows-minute h some long = record {
    stir = λ j. go j (ltb j 1024) refl;
    asked = λ j k. asks j (ltb j 1024) refl k;
    minutes = λ j m k. shown j (eqb (2176 + j) i) refl k;
  }
    where
      go : (j : ℕ) (a : Bool) → ltb j 1024 ≡ a → Sub (cond a (get_or N j 0) 0) (cond a (get_or (set N i v) j 0) 0)
      go j false e = and_zero_l 0
      go j true e = ap (bit_and (get_or N j 0)) (other_word j (λ z. omega (arith, ltb-true j 1024 e))) ∙ and_self (get_or N j 0)

      asks : (j : ℕ) (a : Bool) → ltb j 1024 ≡ a → cond a (get_or (set N i v) (1152 + j) 0) 0 ≡ 0 → cond a (get_or N (1152 + j) 0) 0 ≡ 0
      asks j false e k = k
      asks j true e k = sym (other_word (1152 + j) (λ z. omega (arith, ltb-true j 1024 e))) ∙ k

      shown : (j : ℕ) (b : Bool) → eqb (2176 + j) i ≡ b → get_or (set N i v) (2176 + j) 0 ≡ 0 → get_or N (2176 + j) 0 ≡ 0
      shown j false e k = sym (other_word (2176 + j) (eqb-false (2176 + j) i e)) ∙ k
      shown j true e k = absurd (some (sym (ap (λ (y : ℕ). get_or (set N i v) y 0) (eqb-true (2176 + j) i e) ∙ own-word long) ∙ k))

-- ---- a pair and its element's word

module _ (N : List ℕ) (i x : ℕ) (small : i < 1024) (F : Flagged N) where
  abbrev M : List ℕ
  M = set (set N i x) (1024 + i % 128) 1

  M-long : length M ≡ length N
  M-long = length-set (set N i x) (1024 + i % 128) 1 ∙ length-set N i x

  M-pair : get_or M i 0 ≡ x
  M-pair = get_or-set_other (set N i x) (1024 + i % 128) i 1 0 (λ e. omega arith) ∙ get_or-set_same N i x 0 (omega (arith, F.long))

  pub pair-grows : Sub (get_or N i 0) x → Grows N M
  pair-grows s = grows_trans (grows-stir N i x small s) (grows-flag (set N i x) (1024 + i % 128) 1 (omega arith) (omega arith))

  pub pair-flagged : Flagged M
  pair-flagged = record { long = M-long ∙ F.long; flags = λ j l z. go j l (eqb (j % 128) (i % 128)) refl z }
    where
      go : (j : ℕ) → j < 1024 → (b : Bool) → eqb (j % 128) (i % 128) ≡ b → get_or M (1024 + j % 128) 0 ≡ 0 → get_or M j 0 ≡ 0
      go j l true e z =
          let one : get_or M (1024 + j % 128) 0 ≡ 1 = ap (λ (y : ℕ). get_or M (1024 + y) 0) (eqb-true (j % 128) (i % 128) e) ∙ get_or-set_same (set N i x) (1024 + i % 128) 1 0 (omega (arith, length-set N i x, F.long)) in
          absurd (omega arith)
      go j l false e z =
          let other : j % 128 ≡ i % 128 → ⊥ = eqb-false (j % 128) (i % 128) e in
          let flag : get_or M (1024 + j % 128) 0 ≡ get_or N (1024 + j % 128) 0 =
          get_or-set_other (set N i x) (1024 + i % 128) (1024 + j % 128) 1 0 (λ q. other (omega arith)) ∙ get_or-set_other N i (1024 + j % 128) x 0 (λ q. omega arith) in
          get_or-set_other (set N i x) (1024 + i % 128) j 1 0 (λ q. omega arith)
          ∙ get_or-set_other N i j x 0 (λ q. other (ap (λ (y : ℕ). y % 128) q))
          ∙ F.flags j l (sym flag ∙ z)

  pub pair-stir : stir_in M i ≡ x
  unfolding stir_in
  pair-stir = ap (λ (b : Bool). cond b (get_or M i 0) 0) (lt-ltb i 1024 small) ∙ M-pair

  pub pair-asked : (j : ℕ) → asked_in M j ≡ asked_in N j
  unfolding asked_in
  pair-asked j =
      ap (λ (y : ℕ). cond (ltb j 1024) y 0)
      (get_or-set_other (set N i x) (1024 + i % 128) (1152 + j) 1 0 (λ q. omega arith) ∙ get_or-set_other N i (1152 + j) x 0 (λ q. omega arith))

-- ---- telling a pair

pub asked_is : (N : List ℕ) (i : ℕ) → i < 1024 → asked_in N i ≡ get_or N (1152 + i) 0
unfolding asked_in
asked_is N i h = ap (λ (b : Bool). cond b (get_or N (1152 + i) 0) 0) (lt-ltb i 1024 h)

pub stir-is : (N : List ℕ) (i : ℕ) → i < 1024 → stir_in N i ≡ get_or N i 0
unfolding stir_in
stir-is N i h = ap (λ (b : Bool). cond b (get_or N i 0) 0) (lt-ltb i 1024 h)

-- what telling leaves: words grew, none waits that did not, and the pair knows
pub record Tells (N : List ℕ) (i c : ℕ) (M : List ℕ) : Type 0 where
  pub grows : Grows N M
  pub flagged : Flagged M
  pub asked : (j : ℕ) → asked_in M j ≡ asked_in N j
  pub told : Told (stir_in M) (asked_in M) i c

pub told_law : (N : List ℕ) (i c : ℕ) → i < 1024 → Flagged N → Tells N i c (told_of N i c)
unfolding told_of
told_law N i c small F = go (eqb (get_or N (1152 + i) 0) 0) refl
  where
    x : ℕ
    x = bit_or (get_or N i 0) c

    none : eqb (get_or N (1152 + i) 0) 0 ≡ true → asked_in N i ≡ 0
    none e = asked_is N i small ∙ eqb-true (get_or N (1152 + i) 0) 0 e

    go : (b : Bool) → eqb (get_or N (1152 + i) 0) 0 ≡ b → Tells N i c (cond b N (set (set N i x) (1024 + i % 128) 1))
    go true e = record { grows = grows_same N; flagged = F; asked = λ j. refl; told = nobody (none e) }
    go false e = record {
      grows = pair-grows N i x small F (sub_or_left (get_or N i 0) c);
      flagged = pair-flagged N i x small F;
      asked = pair-asked N i x small F;
      told = told (ap (bit_and c) (pair-stir N i x small F) ∙ sub_or_right (get_or N i 0) c);
    }

-- ---- telling all pairs of an element

pub record TellsAll (k : ℕ) (N : List ℕ) (e c : ℕ) (M : List ℕ) : Type 0 where
  pub grows : Grows N M
  pub flagged : Flagged M
  pub asked : (j : ℕ) → asked_in M j ≡ asked_in N j
  pub told : (j : ℕ) → j < k → Told (stir_in M) (asked_in M) (spot j e) c

pub told_keeps : {N M : List ℕ} (i c : ℕ) → Grows N M → ((j : ℕ) → asked_in M j ≡ asked_in N j) → Told (stir_in N) (asked_in N) i c → Told (stir_in M) (asked_in M) i c
told_keeps i c g a (nobody z) = nobody (a i ∙ z)
told_keeps {N} {M} i c g a (told z) = told (sub_trans c (stir_in N i) (stir_in M i) z (g.stir i))

pub told-all : (k : ℕ) (N : List ℕ) (e c : ℕ) → k ≤ 8 → e < 128 → Flagged N → TellsAll k N e c (told_all k N e c)
unfolding told_all
told-all zero N e c h l F = record { grows = grows_same N; flagged = F; asked = λ j. refl; told = λ j less. absurd (omega arith) }
told-all (suc k) N e c h l F = go (told-all k N e c (omega arith) l F)
  where
    go : TellsAll k N e c (told_all k N e c) → TellsAll (suc k) N e c (told_of (told_all k N e c) (spot k e) c)
    go t =
        let one : Tells (told_all k N e c) (spot k e) c (told_of (told_all k N e c) (spot k e) c) = told_law (told_all k N e c) (spot k e) c (omega arith) t.flagged in
        record {
          grows = grows_trans t.grows one.grows;
          flagged = one.flagged;
          asked = λ j. one.asked j ∙ t.asked j;
          told = λ j less. pick j (eqb j k) refl less one;
        }
      where
        pick : (j : ℕ) (b : Bool) → eqb j k ≡ b → j < suc k → Tells (told_all k N e c) (spot k e) c (told_of (told_all k N e c) (spot k e) c)
            → Told (stir_in (told_of (told_all k N e c) (spot k e) c)) (asked_in (told_of (told_all k N e c) (spot k e) c)) (spot j e) c
        pick j true q less one = rw (eqb-true j k q) one.told
        pick j false q less one =
            let other : j ≡ k → ⊥ = eqb-false j k q in
            let fewer : j < k = omega arith in
            told_keeps (spot j e) c one.grows one.asked (t.told j fewer)

-- ---- telling the pairs of a partner

-- the pairs that meet what is at e across their element are told
pub record TellsAcross (T N : List ℕ) (e c : ℕ) (M : List ℕ) : Type 0 where
  pub grows : Grows N M
  pub flagged : Flagged M
  pub asked : (j : ℕ) → asked_in M j ≡ asked_in N j
  pub told : (k i : ℕ) → k < 8 → i < 128 → (partner_of T i ≡ 0 → ⊥) → e ≡ partner_of T i → Told (stir_in M) (asked_in M) (spot k i) c

pub told-across : (T N : List ℕ) (e c : ℕ) → Mutual T → e < 128 → Flagged N → TellsAcross T N e c (told_across T N e c)
unfolding told_across
told-across T N e c pairs low F = go (eqb (partner_of T e) 0) refl
  where
    -- whose partner e is, is the partner of e
    is : (i : ℕ) → i < 128 → (partner_of T i ≡ 0 → ⊥) → e ≡ partner_of T i → partner_of T e ≡ i
    is i l some z = ap (partner_of T) z ∙ pairs.back i l some

    go : (b : Bool) → eqb (partner_of T e) 0 ≡ b → TellsAcross T N e c (cond b N (told_all 8 N (partner_of T e) c))
    go true h = record {
      grows = grows_same N;
      flagged = F;
      asked = λ j. refl;
      told = λ k i small l some z. absurd (some (ap (partner_of T) (sym (is i l some z) ∙ eqb-true (partner_of T e) 0 h) ∙ pairs.alone));
    }
    go false h =
        let all : TellsAll 8 N (partner_of T e) c (told_all 8 N (partner_of T e) c) = told-all 8 N (partner_of T e) c (omega arith) (omega (arith, pairs.low e low)) F in
        record {
          grows = all.grows;
          flagged = all.flagged;
          asked = all.asked;
          told = λ k i small l some z. subst (λ (x : ℕ). Told (stir_in (told_all 8 N (partner_of T e) c)) (asked_in (told_all 8 N (partner_of T e) c)) (spot k x) c) (is i l some z) (all.told k small);
        }

-- the pairs that meet what is at e are told
pub record TellsLeft (T N : List ℕ) (e c : ℕ) (M : List ℕ) : Type 0 where
  pub grows : Grows N M
  pub flagged : Flagged M
  pub asked : (j : ℕ) → asked_in M j ≡ asked_in N j
  pub told : (k i : ℕ) → k < 8 → i < 128 → Meets T i e → Told (stir_in M) (asked_in M) (spot k i) c

pub told-left : (T N : List ℕ) (e c : ℕ) → Mutual T → e < 128 → Flagged N → TellsLeft T N e c (told_left T N e c)
unfolding told_left
told-left T N e c pairs low F = record {
  grows = grows_trans here.grows there.grows;
  flagged = there.flagged;
  asked = λ j. there.asked j ∙ here.asked j;
  told = meeting;
}
  where
    N₁ : List ℕ
    N₁ = told_all 8 N e c

    M : List ℕ
    M = told_across T N₁ e c

    here : TellsAll 8 N e c N₁
    here = told-all 8 N e c (omega arith) low F

    there : TellsAcross T N₁ e c M
    there = told-across T N₁ e c pairs low here.flagged

    meeting : (k i : ℕ) → k < 8 → i < 128 → Meets T i e → Told (stir_in M) (asked_in M) (spot k i) c
    meeting k i small l (own z) = subst (λ (x : ℕ). Told (stir_in M) (asked_in M) (spot k x) c) z (told_keeps (spot k e) c there.grows there.asked (here.told k small))
    meeting k i small l (across some z) = there.told k i small l some z

-- ---- a row that now waits

pub record Freshens (N : List ℕ) (i c : ℕ) (M : List ℕ) : Type 0 where
  pub grows : Grows N M
  pub flagged : Flagged M
  pub asked : asked_in M i ≡ 0 → ⊥
  pub stir : Sub c (stir_in M i)

pub fresh_law : (N : List ℕ) (i c : ℕ) → i < 1024 → Flagged N → Freshens N i c (fresh_of N i c)
unfolding fresh_of
fresh_law N i c small F =
    let A : List ℕ = set N (1152 + i) 1 in
    let same : get_or A i 0 ≡ get_or N i 0 = get_or-set_other N (1152 + i) i 1 0 (λ q. omega arith) in
    let G : Flagged A = record {
      long = length-set N (1152 + i) 1 ∙ F.long;
      flags = λ j l z. get_or-set_other N (1152 + i) j 1 0 (λ q. omega arith) ∙ F.flags j l (sym (get_or-set_other N (1152 + i) (1024 + j % 128) 1 0 (λ q. omega arith)) ∙ z);
    } in
    record {
      grows = grows_trans (grows-asked N (1152 + i) 1 (omega arith) (omega arith) (λ q. omega arith) (omega (arith, F.long)))
          (pair-grows A i (bit_or (get_or N i 0) c) small G (ap (λ (y : ℕ). bit_and y (bit_or (get_or N i 0) c)) same ∙ sub_or_left (get_or N i 0) c ∙ sym same));
      flagged = pair-flagged A i (bit_or (get_or N i 0) c) small G;
      asked = λ z. (let one : asked_in (set (set A i (bit_or (get_or N i 0) c)) (1024 + i % 128) 1) i ≡ 1 =
          pair-asked A i (bit_or (get_or N i 0) c) small G i ∙ asked_is A i small ∙ get_or-set_same N (1152 + i) 1 0 (omega (arith, F.long)) in omega arith);
      stir = ap (bit_and c) (pair-stir A i (bit_or (get_or N i 0) c) small G) ∙ sub_or_right (get_or N i 0) c;
    }

-- ---- in code

pub told_all-more : (k : ℕ) (N : List ℕ) (e c : ℕ) → told_of (told_all k N e c) (k * 128 + e) c ≡ told_all (k + 1) N e c
unfolding told_all
told_all-more k N e c = let z : suc k ≡ k + 1 = omega arith in ap (λ (y : ℕ). told_all y N e c) z
