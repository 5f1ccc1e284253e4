-- What is gathered one after the other, the partner's covers and then the element's own, is what is met. Assumes nothing.
use Rattle.std.specs.Prelude.{◌≡◌, ℕ, ◌+◌, ◌-◌, List, ◌++◌, length, take, drop}
use Rattle.std.proofs.Common.{ap, ap₂, sym, ◌∙◌, arith, length-append, length-take-le, take_all}
use Rattle.std.proofs.lemmas.List.{take-append-le}
use Rattle.std.proofs.Math.Seq.{drop-append_seam}
use Rattle.theory_lists.specs.Writes.{take-append}
use Rattle.cut.specs.Cut.{Met}
use Rattle.rows.specs.Rows.{Begins}
use Rattle.asking.specs.Ask.{Gathered}

module _ (m : Met) (f r : ℕ) (was ys : List ℕ) (across : Begins m.partner f was) (own : Begins m.own r ys) (long : length ys ≡ length was - f) where
  abbrev rest : List ℕ
  rest = ys ++ drop (length was - f) (drop f was)

  first-long : length (take f was) ≡ f
  first-long = length-take-le f was across.few

  -- those after the partner's
  own_are : drop f (take (f + r) (take f was ++ rest)) ≡ take r ys
  own_are =
      let more : f + r - length (take f was) ≡ r = omega (arith, first-long) in
      ap (drop f) (take-append (f + r) (take f was) rest
      ∙ ap₂ (λ (a : List ℕ) (k : ℕ). a ++ take k rest) (take_all (f + r) (take f was) (omega (arith, first-long))) more)
      ∙ ap (λ (k : ℕ). drop k (take f was ++ take r rest)) (sym first-long)
      ∙ drop-append_seam (take f was) (take r rest)
      ∙ take-append-le r ys (drop (length was - f) (drop f was)) own.few

  pub gathered : Gathered m f (f + r) (take f was ++ (ys ++ drop (length was - f) (drop f was)))
  gathered = record {
    some = omega arith;
    few = omega (arith, length-append (take f was) rest, length-append ys (drop (length was - f) (drop f was)), first-long, own.few);
    partner = take-append-le f (take f was) rest (omega (arith, first-long)) ∙ take_all f (take f was) (omega (arith, first-long)) ∙ across.list;
    own = own_are ∙ own.list;
  }
