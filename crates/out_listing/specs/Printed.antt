-- The text made of words that hold the weights of a case's arrivals is 01's listing, and cleared text into which it is written holds it and zeros.
-- Train by train and minute by minute the words are the weights. Assumes nothing.
use Rattle.std.specs.Prelude.{◌≡◌, refl}
use Rattle.std.proofs.Common.{sym, ◌∙◌, add-one, arith}
use Rattle.std.proofs.Math.Path.{ap, ap₂}
use mathlib.Core.List.{List, [], ◌++◌}
use Prim.Native.Nat.{ℕ, suc, ◌+◌, ◌-◌, ◌^◌, ◌≤◌, ◌<◌}
use Rattle.std.proofs.Math.ListN.{length}
use Rattle.rules.specs.Lists.{each, sum, below}
use Rattle.rules.specs.Files.{Case}
use Rattle.rules.specs.Turns.{Arrival}
use Rattle.rules.specs.Joint.{Entry, total, weight_at}
use Rattle.rules.specs.Listing.{minute_line, window, not_arrived_of, train_lines, listing}
use Rattle.rules.specs.Calls.{filled}
use Rattle.theory_lists.specs.Sums.{sum_every}
use Rattle.theory_lists.specs.Below.{every_below}
use Rattle.theory_lists.specs.Writes.{Put}
use Rattle.out_images.specs.Filled.{cleared-length, cleared-filled, filled-sets}
use Rattle.theory_lists.specs.Below.{each-below-same}
use Rattle.out_listing.specs.Text.{held_at, minute_lines, left_of, last_line, lines_of, trains_lines, first_line, text_from, Weighs, Listed}

module _ (C : Case) (v : List (Arrival Entry)) (ws : List ℕ) (h : Weighs C v (length C.trains) C.head.last_minute ws) (k : ℕ) (l : k < length C.trains) where
  word_at : (t : ℕ) → t < suc C.head.last_minute → held_at ws k t ≡ weight_at C v k t
  word_at t m = h.words k t l (omega arith)

  minutes_weigh : minute_lines ws k (C.head.last_minute + 1) ≡ each (λ t. minute_line k t (weight_at C v k t)) (window C)
  unfolding minute_lines
  minutes_weigh =
      ap (λ (n : ℕ). each (λ t. minute_line k t (held_at ws k t)) (below n)) (add-one C.head.last_minute)
      ∙ each-below-same _ (λ t. minute_line k t (weight_at C v k t)) (suc C.head.last_minute) (λ t m. ap (minute_line k t) (word_at t m))

  left-weighs : left_of (100 ^ length C.trains) ws k (C.head.last_minute + 1) ≡ not_arrived_of C v k
  unfolding left_of not_arrived_of total
  left-weighs =
      ap (λ (n : ℕ). 100 ^ length C.trains - sum (held_at ws k) (below n)) (add-one C.head.last_minute)
      ∙ ap (λ (n : ℕ). 100 ^ length C.trains - n)
      (sum_every (λ t. t < suc C.head.last_minute) (held_at ws k) (weight_at C v k) word_at (window C) (every_below (suc C.head.last_minute)))

  lines_weigh : lines_of (100 ^ length C.trains) C.head.last_minute ws k ≡ train_lines C v k
  unfolding lines_of train_lines last_line
  lines_weigh = ap₂ ◌++◌ minutes_weigh (ap (last_line k) left-weighs)

pub text-listing : (C : Case) (v : List (Arrival Entry)) (trains last : ℕ) (ws : List ℕ) → Weighs C v trains last ws → text_from trains last ws ≡ listing C v
unfolding text_from listing first_line trains_lines total
text-listing C v trains last ws h =
    ap₂ (λ (n m : ℕ). text_from n m ws) (sym h.all_trains) (sym h.all_minutes)
    ∙ ap (λ (z : List ℕ). first_line (100 ^ length C.trains) ++ z)
    (each-below-same _ (train_lines C v) (length C.trains) (λ k l. lines_weigh C v ws here k l))
  where
    here : Weighs C v (length C.trains) C.head.last_minute ws
    here = record { all_trains = refl; all_minutes = refl; words = λ k t l m. h.words k t (omega (arith, h.all_trains)) (omega (arith, h.all_minutes)) }

-- what was written into cleared text, where it fits
pub wrote_listed : (l L : List ℕ) (r : ℕ) (l' : List ℕ) → Put (filled (length l) [] l) 0 L r l' → length L ≤ length l → Listed l L r l'
wrote_listed l L r l' h fits = record {
  bytes = h.list ∙ filled-sets (length l) L l (omega arith) fits;
  answer = omega (arith, h.place, ap length (cleared-filled (length l) l), cleared-length (length l) l (omega arith));
}
