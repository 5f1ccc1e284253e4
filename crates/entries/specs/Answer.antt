-- What the run in code answers, in the words of the definitions: the list of the joint run after minute `stop`, as rows in order, and the weights arrived;
-- or the refusal that the joint run met. The run on rows agrees with the run by passes, and this is the joint run. Assumes nothing.
use Rattle.std.specs.Prelude.{◌≡◌, List, map, length, take, get_or, replicate}
use Rattle.std.proofs.Common.{ap, sym, ◌∙◌, mod-eq_of_lt, length-take-le}
use Prim.Native.Nat.{ℕ, suc, ◌+◌, ◌*◌, ◌/◌, ◌%◌, ◌^◌, ◌≤◌, ◌<◌}
use Rattle.std.proofs.Math.Decide.{dec_lt}
use native.Mathlib.Omega.{arith}
use Rattle.std.proofs.lemmas.List.{length-map}
use Rattle.rules.specs.Files.{Case}
use Rattle.rules.specs.Joint.{joint, weight_at}
use Rattle.theory_sound.specs.Facts.{Sound}
use Rattle.theory_weights.specs.Arrivals.{joint-seen, weight_at-most}
use Rattle.theory_weights.specs.Most.{total-most}
use Rattle.theory_codes.specs.Tables.{tables}
use Rattle.theory_passes.specs.Passes.{joint_passes}
use Rattle.theory_passes.proofs.Joint.{joint-passes}
use Rattle.theory_passes.specs.Bounds.{ByteDelays}
use Rattle.rows.specs.Rows.{rows_of, words}
use Rattle.rows.specs.Written.{words-rows_of, words-length}
use Rattle.opening.specs.First.{first_rows}
use Rattle.visiting.specs.Visit.{Outcome, guard, read, Kept}
use Rattle.entries.specs.Run.{minutes_of, Ran}
use Rattle.visiting.specs.Visit.Outcome.{refused, stands}
use Rattle.visiting.specs.Visiting.{read_in, read_out}
use Rattle.entries.specs.Encoded.{row_of}
use Rattle.entries.specs.Agreeing.{Agrees, pair-minutes}
use Rattle.entries.specs.Agreeing.Agrees.{agree, over}
use Rattle.entries.specs.Started.{start-kind, start_agrees}

-- the answer r of the run through the minute `stop`, with the rows and weights that it leaves
pub record Answer (C : Case) (stop r : ℕ) (rows weights : List ℕ) : Type 0 where
  -- where the joint run is refused, r is the length of the lent rows
  pub refusal : 0 < (joint C stop).met → r ≡ length rows
  -- else it is the number of words of the list, which leaves a place
  pub less : (joint C stop).met ≡ 0 → r < length rows
  pub count : (joint C stop).met ≡ 0 → r ≡ length (joint C stop).list * 2
  -- and they are the rows of the list, in order
  pub list : (joint C stop).met ≡ 0 → take r rows ≡ words (map row_of (joint C stop).list)
  -- train k's weight arrived in minute t stands at k · 720 + t
  pub weight : (joint C stop).met ≡ 0 → (k t : ℕ) → k < 8 → t < 720 → get_or weights (k * 720 + t) 0 ≡ weight_at C (joint C stop).arrived k t

-- for each case whose tables the words T are
abbrev pub Answers : List ℕ → ℕ → ℕ → ℕ → List ℕ → List ℕ → Type 0
Answers T stop size r rows weights =
    (C : Case) → Sound C → ByteDelays C → T ≡ tables C → stop ≤ C.head.last_minute → size ≡ 5760 → Answer C stop r rows weights

-- ---- agreement

module _ (C : Case) (sound : Sound C) where
  -- no weight wraps
  weight-fits : (m k t : ℕ) → weight_at C (joint C m).arrived k t % 2 ^ 64 ≡ weight_at C (joint C m).arrived k t
  weight-fits m k t = mod-eq_of_lt (omega (arith, weight_at-most C sound m (joint-seen C sound m) k t, total-most C sound))

  agreed : (stop r : ℕ) (rows weights : List ℕ) (o : Outcome) → Kept r rows → read r rows weights ≡ o → Agrees C (joint C stop) o → Answer C stop r rows weights
  agreed stop r rows weights o kept e (over m) = go (dec_lt r (length rows))
    where
      none : (joint C stop).met ≡ 0 → ⊥
      none z = omega arith

      go : Dec (r < length rows) → Answer C stop r rows weights
      go (yes u) =
          let q : stands (rows_of (take r rows)) weights ≡ refused = sym (read_in r rows weights u) ∙ e in
          let z : ◌≡◌ {A = ℕ} 0 1 = cc in
          absurd (omega arith)
      go (no u) = record {
        refusal = λ h. omega (arith, kept.within);
        less = λ z. absurd (none z);
        count = λ z. absurd (none z);
        list = λ z. absurd (none z);
        weight = λ z. absurd (none z);
      }
  agreed stop r rows weights o kept e (agree {v} z w) = go (dec_lt r (length rows))
    where
      go : Dec (r < length rows) → Answer C stop r rows weights
      go (no u) =
          let q : refused ≡ stands (map row_of (joint C stop).list) v = sym (read_out r rows weights (omega arith)) ∙ e in
          let y : ◌≡◌ {A = ℕ} 0 1 = cc in
          absurd (omega arith)
      go (yes u) =
          let q : stands (rows_of (take r rows)) weights ≡ stands (map row_of (joint C stop).list) v = sym (read_in r rows weights u) ∙ e in
          let rows_are : rows_of (take r rows) ≡ map row_of (joint C stop).list = cc in
          let weights_are : weights ≡ v = cc in
          let whole : take r rows ≡ words (map row_of (joint C stop).list) =
          sym (words-rows_of (r / 2) (take r rows) (length-take-le r rows kept.within ∙ sym kept.even)) ∙ ap words rows_are in
          record {
            refusal = λ h. absurd (omega arith);
            less = λ h. u;
            count = λ h. omega (arith, length-take-le r rows kept.within, ap length whole, words-length (map row_of (joint C stop).list), length-map (joint C stop).list row_of);
            list = λ h. whole;
            weight = λ h k t a b. ap (λ (l : List ℕ). get_or l (k * 720 + t) 0) weights_are ∙ w.each k t a b ∙ weight-fits stop k t;
          }

  joint_agrees : ByteDelays C → (stop : ℕ) → stop ≤ C.head.last_minute
      → Agrees C (joint C stop) (minutes_of (tables C) (stop + 1) (guard (get_or (tables C) 3 0) (first_rows (tables C)) (replicate {A = ℕ} 5760 0)))
  unfolding joint_passes
  joint_agrees bytes stop h =
      let e : stop + 1 ≡ suc stop = omega arith in
      rw (joint-passes C sound stop, e) (pair-minutes C sound (suc stop) (omega arith) _ _ (start-kind C sound bytes, start_agrees C sound)).1

-- the run in code answers what the joint run is
pub ran-answers : {T : List ℕ} {stop size r : ℕ} {rows weights : List ℕ} → Ran T stop size r rows weights → Answers T stop size r rows weights
ran-answers {T} {stop} {size} {r} {rows} {weights} ran C sound bytes e h n =
    agreed C sound stop r rows weights (minutes_of (tables C) (stop + 1) (guard (get_or (tables C) 3 0) (first_rows (tables C)) (replicate {A = ℕ} 5760 0)))
    ran.kept
    (ran.outcome ∙ ap (λ (l : List ℕ). minutes_of l (stop + 1) (guard (get_or l 3 0) (first_rows l) (replicate {A = ℕ} size 0))) e
    ∙ ap (λ (m : ℕ). minutes_of (tables C) (stop + 1) (guard (get_or (tables C) 3 0) (first_rows (tables C)) (replicate {A = ℕ} m 0))) n)
    (joint_agrees C sound bytes stop h)
