-- Meeting on one track (request 1 of 02), of the single run alone: at no time do both tracks of a pair hold a train, standing or blocking.
-- A train that enters finds no other train on the partner, and is not there itself, since no way has both tracks; whatever else happens, no place holds more than
-- before. Takes `Sound` as given, and assumes nothing else.
use Rattle.std.specs.Prelude.{◌≡◌, not, ◌&&◌, ◌||◌, cond, ℕ, ◌≤◌, ◌<◌, eqb}
use Rattle.std.proofs.Math.Path.{refl, ap, subst}
use Rattle.std.proofs.Common.{sym, ◌∙◌, le_refl, arith}
use Rattle.std.proofs.Math.Bool.{Bool, true, false}
use Rattle.std.proofs.lemmas.Bool.{false≢true, not-true}
use mathlib.Core.List.{List, [], ◌∷◌, ◌++◌, append-nil, append_assoc}
use Rattle.std.proofs.Math.Dec.{ltb}
use Rattle.rules.specs.Lists.{keep, tick, count}
use Rattle.rules.specs.Files.{Case}
use Rattle.rules.specs.Turns.{Place, same, Mark, capacity, paired, elements, ended, asks, entered, Arrival, arriving, served}
use Rattle.rules.specs.Turns.Place.{outside, track, gone}
use Rattle.rules.specs.Single.{first_marks, trains_on, partner_held, enters, serve_train, single_rules, single}
use Rattle.theory_sound.specs.Facts.{Sound}
use Rattle.theory_sound.specs.Ways.{same_true}
use Rattle.theory_sound.specs.Couples.{paired-turn, paired_mirrored, paired-apart}
use Rattle.theory_lists.specs.Tests.{and_true-second}
use Rattle.theory_lists.specs.Every.{every_all, none_any}
use Rattle.theory_lists.specs.Sums.{sum_every, sum-zero, sum-keep-le}
use Rattle.theory_lists.specs.Items.{served_list}
use Rattle.theory_simulation.specs.Keeping.{run_keeps}
use Rattle.theory_simulation.specs.Orderly.{is_on, is_other, on-split, Orderly, trains_on-count}
use Rattle.theory_simulation.specs.Steps.{asker_across, after-elsewhere, serve-orderly, end-orderly}
use Rattle.theory_simulation.specs.Start.{first-within, first-orderly}

-- of no pair are both tracks held: where a mark is on the one, none is on the other
abbrev OneSide : Case → List Mark → Type 0
OneSide C ms = (e f : Place) → paired C e f ≡ true → 1 ≤ count (is_on e) ms → count (is_on f) ms ≡ 0

-- where blocks end, no place holds more than before
end_side : (C : Case) (t : ℕ) (ms : List Mark) → OneSide C ms → OneSide C (keep (λ m. not (ended t m)) ms)
end_side C t ms side e f pair some = omega (arith, less f, side e f pair (omega (arith, less e)))
  where
    less : (p : Place) → count (is_on p) (keep (λ m. not (ended t m)) ms) ≤ count (is_on p) ms
    less p = sum-keep-le (λ m. tick (is_on p m)) (λ m. not (ended t m)) ms

-- no other train is on the partner p of e where the partner is not held
others-none : (C : Case) (e p : Place) (k : ℕ) (ms : List Mark) → paired C e p ≡ true → partner_held C e k ms ≡ false → count (is_other k p) ms ≡ 0
unfolding partner_held
others-none C e p k ms pair free =
    sum_every (λ m. held m ≡ false) (λ m. tick (is_other k p m)) (λ m. 0) (λ m h. go m (not (eqb m.train k)) (same m.place p) refl h) ms (none_any held ms free)
    ∙ sum-zero ms
  where
    held : Mark → Bool
    held m = not (eqb m.train k) && paired C e m.place

    go : (m : Mark) (a b : Bool) → same m.place p ≡ b → (a && paired C e m.place) ≡ false → tick (a && b) ≡ 0
    go m true true q h = absurd (false≢true (sym h ∙ ap (paired C e) (same_true m.place p q) ∙ pair))
    go m true false q h = refl
    go m false b q h = refl

module _ (C : Case) (sound : Sound C) where
  -- the two of a pair are tracks, so neither is the way out, nor outside
  pair_inside : (e f : Place) → paired C e f ≡ true → (same e gone ≡ false) × (same e outside ≡ false)
  unfolding same
  pair_inside e f pair = (ap (λ (p : Place). same p gone) is, ap (λ (p : Place). same p outside) is)
    where
      is : e ≡ track (paired_mirrored C sound e f pair).one
      is = (paired_mirrored C sound e f pair).is_one

  turned : (e f : Place) → paired C e f ≡ true → paired C f e ≡ true
  turned e f pair = paired-turn C f e ∙ pair

  -- ---- an asker that enters

  module _ (t : ℕ) (e : Place) (m : Mark) (ask : asks C t e m ≡ true) (b c : List Mark) (v : List (Arrival Mark)) (o : Orderly C (b ++ (m ∷ c)) v) where
    abbrev before : List Mark
    before = b ++ (m ∷ c)

    abbrev after : List Mark
    after = b ++ [] ++ c ++ entered C t e m

    -- it found the partner empty: no other train was on it, and its own is not
    partner-empty : enters C e m.train before ≡ true → (p : Place) → paired C e p ≡ true → count (is_on p) before ≡ 0
    unfolding enters
    partner-empty h p pair = omega (arith, on-split m.train p before, others-none C e p m.train before pair free, asker_across C sound t e m ask p pair b c v o)
      where
        few : Bool
        few = ltb (trains_on C e before) (capacity C e)

        held : Bool
        held = partner_held C e m.train before

        free : held ≡ false
        free = not-true held (and_true-second few (not held) (sym (ap (λ (z : Bool). z || (few && not held)) (pair_inside e p pair).0) ∙ h))

    -- and leaves it empty, whatever it held itself
    partner-stays : enters C e m.train before ≡ true → (p : Place) → paired C e p ≡ true → count (is_on p) after ≡ 0
    partner-stays h p pair = omega (arith, partner-empty h p pair, after-elsewhere C sound t e m ask b c v o p (paired-apart C sound e p pair))

    entered_side : enters C e m.train before ≡ true → OneSide C before → OneSide C after
    entered_side h side f g pair some = go (same e f) (same e g) refl refl
      where
        go : (x y : Bool) → same e f ≡ x → same e g ≡ y → count (is_on g) after ≡ 0
        go true y p q = partner-stays h g (subst (λ (d : Place). paired C d g ≡ true) (sym (same_true e f p)) pair)
        go false true p q = absurd (omega (arith, partner-stays h f (subst (λ (d : Place). paired C d f ≡ true) (sym (same_true e g q)) (turned f g pair))))
        go false false p q =
            omega (arith, after-elsewhere C sound t e m ask b c v o g q, side f g pair (omega (arith, after-elsewhere C sound t e m ask b c v o f p)))

    serve_side : OneSide C before → OneSide C (served_list (serve_train C t e before m) b c)
    unfolding serve_train
    serve_side side = go (enters C e m.train before) refl
      where
        go : (z : Bool) → enters C e m.train before ≡ z → OneSide C (served_list (cond z (served [] (entered C t e m) (arriving C t e m)) (served (m ∷ []) [] [])) b c)
        go true h = entered_side h side
        go false h = subst (OneSide C) (sym (append-nil (b ++ (m ∷ []) ++ c) ∙ append_assoc b (m ∷ []) c)) side

  -- ---- the run

  -- from the outside, where all wait
  first_side : (x : List ℕ) → OneSide C (first_marks C x)
  first_side x e f pair some = first-within C x f (pair_inside f e (turned e f pair)).1

  run_side : (x : List ℕ) (m : ℕ) → Orderly C (single C x m).list (single C x m).arrived × OneSide C (single C x m).list
  unfolding single single_rules
  run_side x m =
      run_keeps C (single_rules C) m (λ e. Unit) (every_all (λ e. Unit) (λ e. tt) (elements C)) (λ l v. Orderly C l v × OneSide C l)
      (λ t h l v p. (end-orderly C t l v p.0, end_side C t l p.1))
      (λ t h e u b a c v ask p. (serve-orderly C sound t e a ask b c v p.0, serve_side t e a ask b c v p.0 p.1))
      (first_marks C x) (first-orderly C x, first_side x) m (le_refl m)

  -- after every minute, where a train is on one track of a pair, standing or blocking, none is on the other
  pub never_both : (x : List ℕ) (m : ℕ) (e f : Place) → paired C e f ≡ true → 0 < trains_on C e (single C x m).list → trains_on C f (single C x m).list ≡ 0
  never_both x m e f pair some =
      let kept = run_side x m in
      let ms = (single C x m).list in
      let v = (single C x m).arrived in
      trains_on-count C ms v kept.0 f ∙ kept.1 e f pair (omega (arith, trains_on-count C ms v kept.0 e))
