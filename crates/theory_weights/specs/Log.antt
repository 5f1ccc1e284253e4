-- What a run has logged: each minute adds arrivals of that minute at the end, so an arrival logged by the run after minute m has a minute of at most m,
-- and later minutes only add later arrivals. Each asker adds at the end what its serving says. Assumes nothing.
use Rattle.std.specs.Prelude.{◌≡◌, Bool, cond, List, [], ◌∷◌, ◌++◌}
use Rattle.std.proofs.Math.Path.{refl, subst}
use Rattle.std.proofs.Common.{sym, ap, ◌∙◌, append_assoc, append-nil}
use Rattle.std.proofs.Math.Bool.{true, false}
use Prim.Native.Nat.{ℕ, zero, suc, ◌≤◌, ◌<◌}
use native.Mathlib.Omega.{arith}
use Rattle.std.proofs.Math.Dec.{leb}
use borrow.Author.Tests.{leb-true, leb-false}
use Rattle.rules.specs.Lists.{fold}
use Rattle.rules.specs.Files.{Case}
use Rattle.rules.specs.Turns.{Place, same, served, State, Visit, Turn, Rules, last_station, entered, Arrival, arriving, elements, next, serve_next, turns, visit, minute, minutes, run_from}
use Rattle.rules.specs.Turns.Turn.{nobody, somebody}
use Rattle.rules.specs.Single.{enters, serve_train, single_rules, first_marks, single}
use Rattle.theory_lists.specs.Every.{Every, every_append, every_more, every_one}

-- the list v has grown into w by items with the property
pub record Grown {A : Type 0} (p : A → Type 0) (v w : List A) : Type 0 where
  pub new : List A
  pub grown : w ≡ v ++ new
  pub kind : Every p new

module _ {A : Type 0} {p : A → Type 0} where
  pub grown-not : (v : List A) → Grown p v v
  grown-not v = record { new = []; grown = sym (append-nil v); kind = tt }

  pub grown_by : (v s : List A) → Every p s → Grown p v (v ++ s)
  grown_by v s h = record { new = s; grown = refl; kind = h }

  pub grown-then : {u v w : List A} → Grown p u v → Grown p v w → Grown p u w
  grown-then {u} g h = record {
    new = g.new ++ h.new;
    grown = h.grown ∙ ap (λ (l : List A). l ++ h.new) g.grown ∙ append_assoc u g.new h.new;
    kind = every_append p g.new h.new g.kind h.kind;
  }

  pub grown-same : (q : A → Type 0) → ((a : A) → p a → q a) → {v w : List A} → Grown p v w → Grown q v w
  grown-same q f g = record { new = g.new; grown = g.grown; kind = every_more p q f g.new g.kind }

  pub grown-all : {v w : List A} → Grown p v w → Every p v → Every p w
  grown-all {v} g h = subst (Every p) (sym g.grown) (every_append p v g.new h g.kind)

-- an asker served in minute t logs arrivals of minute t only
abbrev pub Prompt : {A : Type 0} → Rules A → Type 0
Prompt {A} R = (t : ℕ) (e : Place) (l : List A) (a : A) → Every (λ v. v.minute ≡ t) (R.serve t e l a).arrived

module _ {A : Type 0} (C : Case) (R : Rules A) (prompt : Prompt R) where
  -- the arrivals v have grown into w in minute t
  abbrev InMinute : ℕ → List (Arrival A) → List (Arrival A) → Type 0
  InMinute t = Grown (λ v. v.minute ≡ t)

  turns_log : (k t : ℕ) (e : Place) (v : Visit A) → InMinute t v.arrived (turns C R k t e v).arrived
  unfolding turns
  turns_log zero t e v = grown-not v.arrived
  turns_log (suc k) t e v = go (next C R v.rows) (turns_log k t e)
    where
      go : (u : Turn A) → ((w : Visit A) → InMinute t w.arrived (turns C R k t e w).arrived)
          → InMinute t v.arrived (turns C R k t e (serve_next C R t e v u)).arrived
      go nobody ih = ih v
      go (somebody b a c) ih = grown-then (grown_by v.arrived _ (prompt t e _ a)) (ih _)

  visit_logs : (t : ℕ) (e : Place) (s : State A) → InMinute t s.arrived (visit C R t e s).arrived
  unfolding visit
  visit_logs t e s = turns_log _ t e _

  visits_log : (t : ℕ) (es : List Place) (s : State A) → InMinute t s.arrived (fold (visit C R t) es s).arrived
  visits_log t [] s = grown-not s.arrived
  visits_log t (e ∷ es) s = grown-then (visit_logs t e s) (visits_log t es (visit C R t e s))

  pub minute_logs : (t : ℕ) (s : State A) → InMinute t s.arrived (minute C R t s).arrived
  unfolding minute
  minute_logs t s = visits_log t (elements C) _

  minutes_log : (n : ℕ) (s : State A) → s.arrived ≡ [] → Every (λ a. a.minute < n) (minutes C R n s).arrived
  unfolding minutes
  minutes_log zero s h = subst (Every (λ a. a.minute < 0)) (sym h) tt
  minutes_log (suc n) s h =
      grown-all (grown-same _ (λ a e. omega arith) (minute_logs n (minutes C R n s))) (every_more _ _ (λ a l. omega arith) (minutes C R n s).arrived (minutes_log n s h))

  minutes-later : (n m : ℕ) (s : State A) → n ≤ m → Grown (λ a. n ≤ a.minute) (minutes C R n s).arrived (minutes C R m s).arrived
  unfolding minutes
  minutes-later n zero s h =
      let eq : 0 ≡ n = omega arith in
      subst (λ (i : ℕ). Grown (λ a. i ≤ a.minute) (minutes C R i s).arrived s.arrived) eq (grown-not s.arrived)
  minutes-later n (suc m) s h = go (leb n m) refl (minutes-later n m s)
    where
      go : (b : Bool) → leb n m ≡ b → (n ≤ m → Grown (λ a. n ≤ a.minute) (minutes C R n s).arrived (minutes C R m s).arrived)
          → Grown (λ a. n ≤ a.minute) (minutes C R n s).arrived (minute C R m (minutes C R m s)).arrived
      go true e ih =
          let le : n ≤ m = leb-true n m e in
          grown-then (ih le) (grown-same _ (λ a q. omega arith) (minute_logs m (minutes C R m s)))
      go false e ih =
          let eq : n ≡ suc m = omega (arith, leb-false n m e) in
          subst (λ (i : ℕ). Grown (λ a. i ≤ a.minute) (minutes C R i s).arrived (minutes C R (suc m) s).arrived) (sym eq) (grown-not _)

  -- what the run after minute m has logged arrived by m
  pub run_logged : (l : List A) (m : ℕ) → Every (λ a. a.minute ≤ m) (run_from C R l m).arrived
  unfolding run_from
  run_logged l m = every_more _ _ (λ a h. omega arith) (minutes C R (suc m) _).arrived (minutes_log (suc m) _ refl)

  -- what the run logs after minute m arrives after m
  pub run-later : (l : List A) (m n : ℕ) → m ≤ n → Grown (λ a. m < a.minute) (run_from C R l m).arrived (run_from C R l n).arrived
  unfolding run_from
  run-later l m n h = minutes-later (suc m) (suc n) _ (omega arith)

-- ---- the single run

prompt_single : (C : Case) → Prompt (single_rules C)
unfolding single_rules serve_train arriving
prompt_single C t e ms m = go (enters C e m.train ms)
  where
    go : (b : Bool) → Every (λ v. v.minute ≡ t) (cond b (served [] (entered C t e m) (arriving C t e m)) (served (m ∷ []) [] [])).arrived
    go true = every_one (λ v. v.minute ≡ t) (same e (last_station C m.train)) _ (λ q. refl)
    go false = tt

-- an arrival that the single run has logged after minute m has a minute of at most m
pub single_logged : (C : Case) (x : List ℕ) (m : ℕ) → Every (λ v. v.minute ≤ m) (single C x m).arrived
unfolding single single_rules
single_logged C x m = run_logged C (single_rules C) (prompt_single C) (first_marks C x) m

-- an arrival that the single run logs after minute m has a later minute
pub single-later : (C : Case) (x : List ℕ) (m n : ℕ) → m ≤ n → Grown (λ v. m < v.minute) (single C x m).arrived (single C x n).arrived
unfolding single single_rules
single-later C x m n h = run-later C (single_rules C) (prompt_single C) (first_marks C x) m n h
