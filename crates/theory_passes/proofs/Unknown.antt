-- A number that no train has arrives in no single run: who arrives is a train that goes, and those that go are trains of the order. Takes `Sound` as given, and
-- assumes nothing else.
use Rattle.std.specs.Prelude.{◌≡◌, Bool, ◌&&◌, cond, List, [], ◌∷◌}
use Rattle.std.proofs.Math.Path.{refl, ap}
use Rattle.std.proofs.Common.{◌∙◌, arith}
use Rattle.std.proofs.Math.Bool.{true, false}
use Rattle.std.proofs.lemmas.Bool.{false≢true}
use Rattle.std.proofs.Math.Option.{none, some}
use Prim.Native.Nat.{ℕ, zero, suc, ◌≤◌, ◌<◌}
use Rattle.std.proofs.Math.ListN.{length}
use Rattle.std.proofs.Math.Dec.{eqb}
use borrow.Author.Tests.{eqb-true, ne_eqb}
use Rattle.rules.specs.Lists.{each, keep, fold, below}
use Rattle.rules.specs.Files.{Case}
use Rattle.rules.specs.Turns.{Place, same, Mark, Arrival, asks, arriving, last_station, State}
use Rattle.rules.specs.Single.{single, minute_of}
use Rattle.theory_sound.specs.Facts.{Sound}
use Rattle.theory_lists.specs.Every.{Every, every_append, every_each, every_more, every_one}
use Rattle.theory_lists.specs.Kept.{keep-passes}
use Rattle.theory_codes.specs.Codes.{place_of}
use Rattle.theory_codes.specs.Tables.{order}
use Rattle.theory_passes.specs.Order.{order-known}
use Rattle.theory_passes.specs.Passes.{asks_for, admits, goes, pass_train, cleared, element_passes, minute_passes, minutes_passes, single_passes}
use Rattle.theory_passes.proofs.Single.{single-passes}

module _ (C : Case) where
  -- the arrivals are all of trains of the case
  abbrev Known : State Mark → Type 0
  Known s = Every (λ v. v.who.train < length C.trains) s.arrived

  -- who goes is the train of the pass
  goes-train : (t : ℕ) (e : Place) (k : ℕ) (ms : List Mark) (m : Mark) → goes C t e k ms m ≡ true → m.train ≡ k
  unfolding goes asks_for
  goes-train t e k ms m h = go (eqb m.train k) refl h
    where
      go : (b : Bool) → eqb m.train k ≡ b → ((b && asks C t e m) && admits C e k ms) ≡ true → m.train ≡ k
      go true q h = eqb-true m.train k q
      go false q h = absurd (false≢true h)

  pass-known : (t : ℕ) (e : Place) (k : ℕ) → k < length C.trains → (s : State Mark) → Known s → Known (pass_train C t e k s)
  unfolding pass_train arriving
  pass-known t e k l s h =
      every_append (λ v. v.who.train < length C.trains) s.arrived (each (arriving C t e) (keep (goes C t e k s.list) s.list)) h
      (every_each (λ m. m.train ≡ k) (λ v. v.who.train < length C.trains) (arriving C t e)
      (λ m q. every_one (λ v. v.who.train < length C.trains) (same e (last_station C m.train)) _ (λ r. omega (arith, q)))
      (keep (goes C t e k s.list) s.list)
      (every_more (λ m. goes C t e k s.list m ≡ true) (λ m. m.train ≡ k) (goes-train t e k s.list) (keep (goes C t e k s.list) s.list)
      (keep-passes (goes C t e k s.list) s.list)))

  passes-known : (t : ℕ) (e : Place) (ks : List ℕ) → Every (λ k. k < length C.trains) ks → (s : State Mark) → Known s → Known (fold (pass_train C t e) ks s)
  passes-known t e [] o s h = h
  passes-known t e (k ∷ ks) o s h = passes-known t e ks o.1 (pass_train C t e k s) (pass-known t e k o.0 s h)

  elements-known : (t : ℕ) (cs : List ℕ) (s : State Mark) → Known s → Known (fold (element_passes C (pass_train C) t) cs s)
  elements-known t [] s h = h
  elements-known t (c ∷ cs) s h = elements-known t cs (element_passes C (pass_train C) t c s) (passes-known t (place_of c) (order C) (order-known C) s h)

  minutes-known : (n : ℕ) (s : State Mark) → Known s → Known (minutes_passes C (λ m. m) (pass_train C) n s)
  unfolding minutes_passes minute_passes
  minutes-known zero s h = h
  minutes-known (suc n) s h =
      elements-known n (below 65) (cleared (λ m. m) n (minutes_passes C (λ m. m) (pass_train C) n s)) (minutes-known n s h)

  unknown-none : (k : ℕ) → length C.trains ≤ k → (vs : List (Arrival Mark)) → Every (λ v. v.who.train < length C.trains) vs → minute_of k vs ≡ none
  unknown-none k l [] h = refl
  unknown-none k l (v ∷ vs) h =
      ap (λ (b : Bool). cond b (some v.minute) (minute_of k vs)) (ne_eqb v.who.train k (λ e. omega (arith, h.0))) ∙ unknown-none k l vs h.1

  pub unknown-never : Sound C → (x : List ℕ) (m k : ℕ) → length C.trains ≤ k → minute_of k (single C x m).arrived ≡ none
  unfolding single_passes
  unknown-never sound x m k l =
      ap (λ (s : State Mark). minute_of k s.arrived) (single-passes C sound x m)
      ∙ unknown-none k l (single_passes C x m).arrived (minutes-known (suc m) _ tt)
