-- What is noted after a pass is what its rows need to stay calm: the pair that asked starts anew, the pairs that the pass concerns are told of all that
-- moved, and the minutes of the new states are shown. Each step only makes the other words grow. Assumes nothing.
use Rattle.std.specs.Prelude.{◌≡◌, Bool, List, ℕ, ◌+◌, ◌*◌, ◌/◌, ◌%◌, ◌≤◌, ◌<◌, set, eqb}
use Rattle.std.proofs.Math.Path.{refl, ap, sym}
use Rattle.std.proofs.Common.{◌∙◌}
use Rattle.std.proofs.Math.Bool.{true, false, cond}
use Rattle.std.proofs.lemmas.Bool.{false≢true}
use native.Mathlib.Omega.{arith}
use borrow.Author.Tests.{eq-eqb, eqb-true, eqb-false, ltb-true}
use Rattle.std.proofs.Math.ListN.{get_or, length-set}
use Rattle.std.proofs.Math.Seq.{get_or-set_same, get_or-set_other}
use Rattle.std.specs.Int.Bits.{bit_and}
use Rattle.std.proofs.Math.Dec.{ltb}
use Rattle.quiet.specs.Parts.{Sub, sub_trans}
use Rattle.weigh.specs.Weigh.{Small}
use Rattle.asking.specs.declared.Job.{Job}
use Rattle.asking.specs.Ask.{due_of, asks_of, job_of, Within}
use Rattle.asking.specs.Asking.{asking}
use Rattle.waiting.specs.Calm.{waits_of, spot, spot_of}
use Rattle.waiting.specs.Stirred.{due-waits, Spread, Ready}
use Rattle.waiting.specs.Notes.{stir_in, asked_in, told_across, told_left, fresh_of, Flagged, Grows}
use Rattle.waiting.specs.Telling.{grows_same, grows_trans, grows-minute, told_keeps, TellsAcross, told-across, TellsLeft, told-left, Freshens, fresh_law}
use Rattle.visiting.specs.Visit.{show_of, wake_of, settled_of, Ways}

-- ---- the pair of a state

pub spot-low : (T : List ℕ) (s : ℕ) → Ways T → s / 524288 < 8 → spot_of T s < 1024
spot-low T s w h = omega (arith, w.nexts (s / 4096) (omega arith))

-- ---- the pair that asked

module _ (N : List ℕ) (i : ℕ) (small : i < 1024) (F : Flagged N) where
  pub reset_stir : (j : ℕ) → (j ≡ i → ⊥) → stir_in (set N i 0) j ≡ stir_in N j
  unfolding stir_in
  reset_stir j h = ap (λ (x : ℕ). cond (ltb j 1024) x 0) (get_or-set_other N i j 0 0 h)

  pub reset_asked : (j : ℕ) → asked_in (set N i 0) j ≡ asked_in N j
  unfolding asked_in
  reset_asked j = ap (λ (x : ℕ). cond (ltb j 1024) x 0) (get_or-set_other N i (1152 + j) 0 0 (λ e. omega arith))

  pub reset_flagged : Flagged (set N i 0)
  reset_flagged = record { long = length-set N i 0 ∙ F.long; flags = λ j l z. go j l (eqb j i) refl (sym (get_or-set_other N i (1024 + j % 128) 0 0 (λ e. omega arith)) ∙ z) }
    where
      go : (j : ℕ) → j < 1024 → (b : Bool) → eqb j i ≡ b → get_or N (1024 + j % 128) 0 ≡ 0 → get_or (set N i 0) j 0 ≡ 0
      go j l true e z = ap (λ (y : ℕ). get_or (set N i 0) y 0) (eqb-true j i e) ∙ get_or-set_same N i 0 0 (omega (arith, F.long))
      go j l false e z = get_or-set_other N i j 0 0 (eqb-false j i e) ∙ F.flags j l z

  pub reset_minutes : (j : ℕ) → get_or (set N i 0) (2176 + j) 0 ≡ get_or N (2176 + j) 0
  reset_minutes j = get_or-set_other N i (2176 + j) 0 0 (λ e. omega arith)

-- ---- a minute that is shown

module _ (N : List ℕ) (s : ℕ) (F : Flagged N) where
  pub show_grows : Grows N (show_of N s)
  unfolding show_of
  show_grows = grows-minute N (2176 + s % 4096) 1 (omega arith) (λ z. omega arith) (omega (arith, F.long))

  pub show_asked : (j : ℕ) → asked_in (show_of N s) j ≡ asked_in N j
  unfolding show_of asked_in
  show_asked j = go (ltb j 1024) refl
    where
      go : (b : Bool) → ltb j 1024 ≡ b → cond b (get_or (set N (2176 + s % 4096) 1) (1152 + j) 0) 0 ≡ cond b (get_or N (1152 + j) 0) 0
      go true e = get_or-set_other N (2176 + s % 4096) (1152 + j) 1 0 (λ z. omega (arith, ltb-true j 1024 e))
      go false e = refl

  pub show_flagged : Flagged (show_of N s)
  unfolding show_of
  show_flagged = record {
    long = length-set N (2176 + s % 4096) 1 ∙ F.long;
    flags = λ j l z. get_or-set_other N (2176 + s % 4096) j 1 0 (λ e. omega arith) ∙ F.flags j l (sym (get_or-set_other N (2176 + s % 4096) (1024 + j % 128) 1 0 (λ e. omega arith)) ∙ z);
  }

  pub show_own : get_or (show_of N s) (2176 + s % 4096) 0 ≡ 0 → ⊥
  unfolding show_of
  show_own z = let one : get_or (set N (2176 + s % 4096) 1) (2176 + s % 4096) 0 ≡ 1 = get_or-set_same N (2176 + s % 4096) 1 0 (omega (arith, F.long)) in omega arith

-- ---- all of it

pub record Settles (T : List ℕ) (q : Job) (from moved : ℕ) (N M : List ℕ) : Type 0 where
  pub spread : Spread T q (stir_in N) (asked_in N) from moved (stir_in M) (asked_in M)
  pub flagged : Flagged M
  pub minutes : (i : ℕ) → i < 4096 → get_or M (2176 + i) 0 ≡ 0 → get_or N (2176 + i) 0 ≡ 0
  pub stands_shown : get_or M (2176 + q.stands % 4096) 0 ≡ 0 → ⊥
  pub blocks_shown : get_or M (2176 + q.blocks % 4096) 0 ≡ 0 → ⊥

module _ (T : List ℕ) (q : Job) (from moved : ℕ) (N : List ℕ) (F : Flagged N) (ways : Ways T) (train : q.train < 8) (place : q.place < 128)
    (low : from < 128) (state : q.stands / 524288 < 8) where
  abbrev own : ℕ
  own = spot q.train q.place

  abbrev N₁ : List ℕ
  N₁ = set N own 0

  abbrev N₂ : List ℕ
  N₂ = wake_of T q.minute q.stands moved N₁

  abbrev N₃ : List ℕ
  N₃ = told_left T N₂ from moved

  abbrev N₄ : List ℕ
  N₄ = told_across T N₃ q.place moved

  abbrev N₅ : List ℕ
  N₅ = show_of N₄ q.stands

  abbrev N₆ : List ℕ
  N₆ = show_of N₅ q.blocks

  F₁ : Flagged N₁
  F₁ = reset_flagged N own (omega arith) F

  -- rows that are due at once are told of
  woken : Grows N₁ N₂ × Flagged N₂ × (due_of q.minute q.stands ≡ true → (asked_in N₂ (spot_of T q.stands) ≡ 0 → ⊥) × Sub moved (stir_in N₂ (spot_of T q.stands)))
  unfolding wake_of
  woken = go (due_of q.minute q.stands) refl
    where
      fresh : Freshens N₁ (spot_of T q.stands) moved (fresh_of N₁ (spot_of T q.stands) moved)
      fresh = fresh_law N₁ (spot_of T q.stands) moved (spot-low T q.stands ways state) F₁

      go : (b : Bool) → due_of q.minute q.stands ≡ b
          → Grows N₁ (cond b (fresh_of N₁ (spot_of T q.stands) moved) N₁) × Flagged (cond b (fresh_of N₁ (spot_of T q.stands) moved) N₁)
          × (b ≡ true → (asked_in (cond b (fresh_of N₁ (spot_of T q.stands) moved) N₁) (spot_of T q.stands) ≡ 0 → ⊥) × Sub moved (stir_in (cond b (fresh_of N₁ (spot_of T q.stands) moved) N₁) (spot_of T q.stands)))
      go true e = (fresh.grows, fresh.flagged, λ z. (fresh.asked, fresh.stir))
      go false e = (grows_same N₁, F₁, λ z. absurd (false≢true z))

  told₃ : TellsLeft T N₂ from moved N₃
  told₃ = told-left T N₂ from moved ways.pairs low woken.1

  told₄ : TellsAcross T N₃ q.place moved N₄
  told₄ = told-across T N₃ q.place moved ways.pairs place told₃.flagged

  F₅ : Flagged N₅
  F₅ = show_flagged N₄ q.stands told₄.flagged

  G₄ : Grows N₄ N₆
  G₄ = grows_trans (show_grows N₄ q.stands told₄.flagged) (show_grows N₅ q.blocks F₅)

  G₃ : Grows N₃ N₆
  G₃ = grows_trans told₄.grows G₄

  G₂ : Grows N₂ N₆
  G₂ = grows_trans told₃.grows G₃

  G₁ : Grows N₁ N₆
  G₁ = grows_trans woken.0 G₂

  asked₄ : (j : ℕ) → asked_in N₆ j ≡ asked_in N₄ j
  asked₄ j = show_asked N₅ q.blocks F₅ j ∙ show_asked N₄ q.stands told₄.flagged j

  asked₃ : (j : ℕ) → asked_in N₆ j ≡ asked_in N₃ j
  asked₃ j = asked₄ j ∙ told₄.asked j

  fresh₆ : waits_of (q.minute + 1) q.stands ≡ true → (asked_in N₆ (spot_of T q.stands) ≡ 0 → ⊥) × Sub moved (stir_in N₆ (spot_of T q.stands))
  fresh₆ w =
      let d = woken.2 (due-waits q.minute q.stands ∙ w) in
      (λ z. d.0 (G₂.asked (spot_of T q.stands) z), sub_trans moved (stir_in N₂ (spot_of T q.stands)) (stir_in N₆ (spot_of T q.stands)) d.1 (G₂.stir (spot_of T q.stands)))

  pub settles : Settles T q from moved N (settled_of T q from moved N)
  unfolding settled_of
  settles = record {
    spread = record {
      grown = λ i h. ap (λ (x : ℕ). bit_and x (stir_in N₆ i)) (sym (reset_stir N own (omega arith) F i h)) ∙ G₁.stir i ∙ reset_stir N own (omega arith) F i h;
      more = λ i z. sym (reset_asked N own (omega arith) F i) ∙ G₁.asked i z;
      left = λ k e l near other m. told_keeps (spot k e) moved G₃ asked₃ (told₃.told k e l near m);
      came = λ k e l near other some at. told_keeps (spot k e) moved G₄ asked₄ (told₄.told k e l near some at);
      fresh = fresh₆;
    };
    flagged = show_flagged N₅ q.blocks F₅;
    minutes = λ i l z. sym (reset_minutes N own (omega arith) F i) ∙ G₁.minutes i l z;
    stands_shown = λ z. show_own N₄ q.stands told₄.flagged ((show_grows N₅ q.blocks F₅).minutes (q.stands % 4096) (omega arith) z);
    blocks_shown = show_own N₅ q.blocks F₅;
  }

-- ---- the job of a pass

module _ (T : List ℕ) (t e k s : ℕ) (within : Within t e k) (small : Small T) (ways : Ways T) where
  pub job_stands : (job_of T t e k s).stands / 524288 ≡ k
  unfolding job_of
  job_stands = omega (arith, within.minute, within.place, small.words (1264 + (k * 128 + e)))

  pub job_blocks : (job_of T t e k s).blocks / 524288 ≡ k
  unfolding job_of
  job_blocks = omega (arith, within.minute, small.safety)

  job_at : (job_of T t e k s).stands / 4096 % 128 ≡ e
  unfolding job_of
  job_at = omega (arith, within.minute, within.place, ways.stays (k * 128 + e) (omega (arith, within.place, within.train)))

  job_from : (job_of T t e k s).blocks / 4096 % 128 ≡ s / 4096 % 128
  unfolding job_of
  job_from = omega (arith, within.minute, small.safety)

  -- a block is not one that waits
  job_block : waits_of (t + 1) (job_of T t e k s).blocks ≡ false
  unfolding job_of waits_of
  job_block =
      let z : (k * 524288 + s / 4096 % 128 * 4096 + 2048 + (t + get_or T 2 0)) / 2048 % 2 ≡ 1 = omega (arith, within.minute, small.safety) in
      ap (λ (b : Bool). cond b false (ltb ((k * 524288 + s / 4096 % 128 * 4096 + 2048 + (t + get_or T 2 0)) % 2048) (t + 1))) (eq-eqb ((k * 524288 + s / 4096 % 128 * 4096 + 2048 + (t + get_or T 2 0)) / 2048 % 2) 1 z)

module _ (T : List ℕ) (t e k s : ℕ) (within : Within t e k) (small : Small T) (ways : Ways T) (near : s / 4096 % 128 ≤ 65) (asks : asks_of T t e k s ≡ true) where
  same_place : (x : ℕ) → x / 4096 % 128 ≤ 65 → asks_of T t e k x ≡ true → x / 4096 % 128 ≡ s / 4096 % 128
  same_place x close h =
      let a = asking T t e k s asks in
      let b = asking T t e k x h in
      let i : x / 4096 < 1024 = omega (arith, b.train, within.train) in
      let j : s / 4096 < 1024 = omega (arith, a.train, within.train) in
      let same : x / 4096 / 128 ≡ s / 4096 / 128 = omega (arith, a.train, b.train) in
      let next : get_or T (240 + x / 4096) 0 ≤ 64 = omega (arith, b.next, within.place) in
      ap (λ (y : ℕ). y % 128) (ways.one_place (x / 4096) (s / 4096) i j close near same next (b.next ∙ sym a.next))

  pub job_ready : Ready T (job_of T t e k s) (s / 4096 % 128)
  unfolding job_of
  job_ready = record {
    suits = record { cap = refl; partner = refl };
    train = within.train;
    place = omega (arith, within.place);
    near = near;
    stands = job_stands T t e k s within small ways;
    blocks = job_blocks T t e k s within small ways;
    block = job_block T t e k s within small ways;
    stands_place = job_at T t e k s within small ways;
    blocks_place = job_from T t e k s within small ways;
    nexts = λ x h. ways.nexts (x / 4096) (omega arith);
    one_place = same_place;
  }

-- ---- the steps

pub settled_steps : (T : List ℕ) (q : Job) (from moved : ℕ) (N a b c d : List ℕ) → a ≡ wake_of T q.minute q.stands moved (set N (spot q.train q.place) 0)
    → b ≡ told_left T a from moved → c ≡ told_across T b q.place moved → d ≡ show_of c q.stands → show_of d q.blocks ≡ settled_of T q from moved N
unfolding settled_of
settled_steps T q from moved N a b c d x y w z = rw (z, w, y, x) refl
