-- What is made of the words of an answered run: the listing's text and the figures. Assumes nothing: these are definitions.
use Rattle.std.specs.Prelude.{◌≡◌, List, ℕ, ◌+◌, ◌^◌, ◌≤◌, length, get_or}
use Rattle.rules.specs.Files.{Case}
use Rattle.rules.specs.Turns.{Arrival}
use Rattle.rules.specs.Joint.{Entry}
use Rattle.rules.specs.Calls.{filled}
use Rattle.rules.specs.Listing.{listing}
use Rattle.rules.specs.Figures as rules
use Rattle.out_listing.specs.Text.{Weighs}
use Rattle.out_figures.specs.Sums as figures
use Rattle.out_figures.specs.declared.Figures.{Figures}
use Rattle.out_figures.specs.Answers.{figures_answer, Holds}
use Rattle.laying.specs.declared.Answer.{Answer}
use Rattle.laying.specs.Answers.{answered}

-- trains and last minute in range
pub record Printable (tables : List ℕ) : Type 0 where
  pub trains : get_or tables 0 0 ≤ 8
  pub last : get_or tables 1 0 ≤ 719

-- the text holds the listing of the weights in the words, and the answer is its length
abbrev pub Printed : List ℕ → List ℕ → List ℕ → Answer → List ℕ → Type 0
Printed tables ws text a text' =
    (C : Case) (v : List (Arrival Entry)) → Weighs C v (get_or tables 0 0) (get_or tables 1 0) ws → length (listing C v) ≤ 32768
    → (a ≡ answered (length (listing C v))) × (text' ≡ filled 32768 (listing C v) text)

-- train and weights in range
pub record Measurable (tables ws : List ℕ) (k : ℕ) : Type 0 where
  pub trains : get_or tables 0 0 ≤ 7
  pub plan : get_or tables (24 + k) 0 ≤ 719
  pub weighed : figures.Weighed ws k (get_or tables 1 0) (100 ^ get_or tables 0 0)

-- the figures of the weights in the words
abbrev pub Measured : List ℕ → List ℕ → ℕ → ℕ → Figures → Type 0
Measured tables ws k limit r =
    (C : Case) (v : List (Arrival Entry)) → Holds C v ws k (get_or tables (24 + k) 0) (get_or tables 1 0) (100 ^ get_or tables 0 0)
    → r ≡ figures_answer (rules.figures C v k limit)
