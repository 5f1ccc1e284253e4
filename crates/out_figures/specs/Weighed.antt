-- The words of a joint run keep what the figures ask of their weights: those of a train are part of all, and all is at most 10^14.
-- What has arrived and what has not make up all, and at most seven trains weigh 100^7. Takes `Seen` as given, and assumes nothing else.
use Rattle.std.specs.Prelude.{List, ℕ, ◌≤◌, ◌<◌, length}
use Rattle.std.proofs.Common.{arith}
use Rattle.rules.specs.Files.{Case}
use Rattle.rules.specs.Joint.{joint}
use Rattle.rules.specs.Figures.{lateness_weight}
use Rattle.theory_sound.specs.Facts.{Sound}
use Rattle.theory_sound.specs.Trains.{plan-most}
use Rattle.theory_weights.specs.Arrivals.{Seen, arrived-total}
use Rattle.theory_weights.specs.Most.{total-most}
use Rattle.out_figures.specs.Sums.{Weighed}
use Rattle.out_figures.specs.Answers.{Holds}
use Rattle.out_figures.specs.Laws.{arrived-case}

module _ (C : Case) (sound : Sound C) (S : Seen C C.head.last_minute) (ws : List ℕ) (k p last whole : ℕ) where
  -- the words of a joint run are weighed
  pub holds-weighed : Holds C (joint C C.head.last_minute).arrived ws k p last whole → k < length C.trains → Weighed ws k last whole
  unfolding lateness_weight
  holds-weighed h l = record {
    train = omega (arith, sound.few_trains);
    minutes = omega (arith, h.window, sound.in_window);
    part =
        omega (arith, h.whole, arrived-case C (joint C C.head.last_minute).arrived ws k p last whole h, arrived-total C S k sound);
    whole = omega (arith, h.whole, total-most C sound);
  }

  -- and the plan is within the window
  pub holds-planned : Holds C (joint C C.head.last_minute).arrived ws k p last whole → k < length C.trains → p ≤ 719
  holds-planned h l = omega (arith, h.planned, plan-most C sound k l, sound.in_window)
