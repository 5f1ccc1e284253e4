-- What is known where a call's run is answered: the case is the files', the run is the joint run to the last minute, and what is made of the words
-- is made of its arrivals. Each law follows from what an answered run is. Assumes nothing.
use Rattle.std.specs.Prelude.{◌≡◌, ℕ, ◌+◌, ◌-◌, ◌^◌, ◌≤◌, ◌<◌, take, drop, replicate}
use Rattle.std.proofs.Math.Path.{sym, ap}
use Rattle.std.proofs.Common.{◌∙◌, subst, arith, drop_of_length-le, length-take-le}
use mathlib.Core.List.{List, [], ◌++◌, append_assoc, append-nil}
use Rattle.std.proofs.Math.ListN.{length, get_or}
use Rattle.rules.specs.Files.{Case}
use Rattle.rules.specs.Turns.{State, Arrival}
use Rattle.rules.specs.Joint.{Entry, joint, total}
use Rattle.rules.specs.Listing.{listing}
use Rattle.rules.specs.Figures as rules
use Rattle.rules.specs.Calls.{Run, filled, text_of}
use Rattle.theory_sound.specs.Facts.{Sound}
use Rattle.theory_sound.proofs.Accepted.{accepted-sound}
use Rattle.theory_sound.specs.Runs.{Answered}
use Rattle.theory_codes.specs.Tables.{tables}
use Rattle.out_images.specs.Rows.{Weighed}
use Rattle.out_listing.specs.Text.{Listed, Prints}
use Rattle.out_listing.specs.Suffices.{listing-suffices}
use Rattle.out_figures.specs.Sums as figures
use Rattle.out_figures.specs.Weighed.{holds-weighed, holds-planned}
use Rattle.out_figures.specs.declared.Figures.{Figures}
use Rattle.out_figures.specs.Answers.{figures_answer, Holds}
use Rattle.laying.specs.declared.Answer.{Answer}
use Rattle.laying.specs.Answers.{answered}
use Rattle.telling.specs.Steps.{Printable, Printed, Measurable, Measured}
use Rattle.theory_codes.specs.Lookups.{table-plan}
use Rattle.theory_weights.specs.Arrivals.{joint-seen}

-- ---- the listing

-- text of which the first part was written
written-part : (L text : List ℕ) → 32768 ≤ length text → filled (length (take 32768 text)) L (take 32768 text) ++ drop 32768 text ≡ filled 32768 L text
unfolding filled
written-part L text h =
    let n : length (take 32768 text) ≡ 32768 = length-take-le 32768 text h in
    let none : drop 32768 (take 32768 text) ≡ [] = drop_of_length-le (take 32768 text) {i = 32768} (omega arith) in
    ap (λ (i : ℕ). (L ++ replicate {A = ℕ} (i - length L) 0 ++ drop i (take 32768 text)) ++ drop 32768 text) n
    ∙ ap (λ (z : List ℕ). (L ++ replicate {A = ℕ} (32768 - length L) 0 ++ z) ++ drop 32768 text) none
    ∙ simp (append_assoc, append-nil)

pub printed : (tb ws text : List ℕ) {n m r : ℕ} {a : Answer} (l' : List ℕ) → n ≡ get_or tb 0 0 → m ≡ get_or tb 1 0 → 32768 ≤ length text
    → Prints n m ws (take 32768 text) r l' → a ≡ answered r → Printed tb ws text a (l' ++ drop 32768 text)
printed tb ws text {n} {m} {r} {a} l' p q long prints e C v w fits =
    let z : Listed (take 32768 text) (listing C v) r l' =
    prints C v (record { all_trains = w.all_trains ∙ sym p; all_minutes = w.all_minutes ∙ sym q; words = λ k t i j. w.words k t (omega arith) (omega arith) })
    (omega (arith, length-take-le 32768 text long)) in
    (e ∙ ap answered z.answer, ap (λ (l : List ℕ). l ++ drop 32768 text) z.bytes ∙ written-part (listing C v) text long)

module _ {cs bk : List ℕ} {u : Run} (w : Answered cs bk u.of.head.last_minute u) (tb : List ℕ) (looked : tb ≡ tables u.of) where
  pub case-sound : Sound u.of
  case-sound = accepted-sound cs bk u.of w.accepted

  trains-looked : get_or tb 0 0 ≡ length u.of.trains
  unfolding tables
  trains-looked = ap (λ (l : List ℕ). get_or l 0 0) looked

  last-looked : get_or tb 1 0 ≡ u.of.head.last_minute
  unfolding tables
  last-looked = ap (λ (l : List ℕ). get_or l 1 0) looked

  pub printable : Printable tb
  printable = record {
    trains = omega (arith, trains-looked, case-sound.few_trains);
    last = omega (arith, last-looked, case-sound.in_window);
  }

  pub printed-listing : (ws text : List ℕ) {a : Answer} {text' : List ℕ} → Weighed u.of u.state.arrived ws → Printed tb ws text a text'
      → (a ≡ answered (length (text_of u))) × (text' ≡ filled 32768 (text_of u) text)
  unfolding text_of
  printed-listing ws text h p =
      p u.of u.state.arrived
      (record {
        all_trains = sym trains-looked;
        all_minutes = sym last-looked;
        words = λ k t i j. h.words k t (omega (arith, trains-looked, case-sound.few_trains)) (omega (arith, last-looked, case-sound.in_window));
      })
      (omega (arith, listing-suffices u.of case-sound w.unrefused, ap (λ (s : State Entry). length (listing u.of s.arrived)) w.state))

-- ---- the figures

module _ (tb ws : List ℕ) (k : ℕ) {p m n w : ℕ} (planned : p ≡ get_or tb (24 + k) 0) (last : m ≡ get_or tb 1 0) (trains : n ≡ get_or tb 0 0) (whole : w ≡ 100 ^ n) where
  whole-looked : w ≡ 100 ^ get_or tb 0 0
  whole-looked = whole ∙ ap (λ (i : ℕ). 100 ^ i) trains

  pub measure_asks : Measurable tb ws k → figures.Weighed ws k m w × (p ≤ 719)
  measure_asks h = (
    subst (λ (i : ℕ). figures.Weighed ws k i w) (sym last) (subst (λ (i : ℕ). figures.Weighed ws k (get_or tb 1 0) i) (sym whole-looked) h.weighed),
    omega (arith, h.plan),
  )

  pub measure_gives : (L : ℕ) {r : Figures} → ((C : Case) (v : List (Arrival Entry)) → Holds C v ws k p m w → r ≡ figures_answer (rules.figures C v k L)) → Measured tb ws k L r
  measure_gives L g C v h =
      g C v (record { weights = h.weights; planned = planned ∙ h.planned; window = last ∙ h.window; whole = whole-looked ∙ h.whole })

module _ {cs bk : List ℕ} {k : ℕ} {u : Run} (o : Answered cs bk u.of.head.last_minute u × (k < length u.of.trains)) (tb : List ℕ) (looked : tb ≡ tables u.of) (ws : List ℕ) (h : Weighed u.of u.state.arrived ws) where
  sound-case : Sound u.of
  sound-case = case-sound o.0 tb looked

  words-hold : Holds u.of u.state.arrived ws k (get_or tb (24 + k) 0) (get_or tb 1 0) (100 ^ get_or tb 0 0)
  unfolding total
  words-hold = record {
    weights = λ t l. h.words k t (omega (arith, o.1, sound-case.few_trains)) (omega (arith, sound-case.in_window));
    planned = ap (λ (l : List ℕ). get_or l (24 + k) 0) looked ∙ table-plan u.of k o.1 (omega (arith, o.1, sound-case.few_trains));
    window = last-looked o.0 tb looked;
    whole = ap (λ (i : ℕ). 100 ^ i) (trains-looked o.0 tb looked);
  }

  pub measurable : Measurable tb ws k
  measurable =
      let at_last : Holds u.of (joint u.of u.of.head.last_minute).arrived ws k (get_or tb (24 + k) 0) (get_or tb 1 0) (100 ^ get_or tb 0 0) =
      subst (λ (s : State Entry). Holds u.of s.arrived ws k (get_or tb (24 + k) 0) (get_or tb 1 0) (100 ^ get_or tb 0 0)) o.0.state words-hold in
      let seen_all = joint-seen u.of sound-case u.of.head.last_minute in record {
        trains = omega (arith, trains-looked o.0 tb looked, sound-case.few_trains);
        plan = holds-planned u.of sound-case seen_all ws k (get_or tb (24 + k) 0) (get_or tb 1 0) (100 ^ get_or tb 0 0) at_last o.1;
        weighed = holds-weighed u.of sound-case seen_all ws k (get_or tb (24 + k) 0) (get_or tb 1 0) (100 ^ get_or tb 0 0) at_last o.1;
      }

  pub measured_figures : (L : ℕ) {f : Figures} → Measured tb ws k L f → f ≡ figures_answer (rules.figures u.of u.state.arrived k L)
  measured_figures L g = g u.of u.state.arrived words-hold
