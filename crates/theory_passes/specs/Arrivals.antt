-- The weights that a pass adds: all its arrivals are of its train and its minute, so they add at one train and minute alone, and they are the entering
-- pieces of the askers, if the element is the train's last station. By the cases of serving. Assumes nothing.
use Rattle.std.specs.Prelude.{◌≡◌, Bool, ◌&&◌}
use Rattle.std.proofs.Math.Path.{refl, ap, ap₂, subst}
use Rattle.std.proofs.Common.{sym, ◌∙◌, arith}
use Rattle.std.proofs.Math.Bool.{true, false, not, cond}
use mathlib.Core.List.{List, [], ◌∷◌, ◌++◌, map}
use Prim.Native.Nat.{ℕ, ◌+◌, ◌*◌}
use Rattle.std.proofs.Math.Dec.{eqb}
use Rattle.rules.specs.Lists.{one, each, keep, tick, sum}
use Rattle.rules.specs.Files.{Case}
use Rattle.rules.specs.Turns.{Place, same, stands, last_station, Served, served, State, Arrival, arrives, due_again}
use Rattle.rules.specs.Joint.{Cover, Entry, Piece, meets, meets_across, weight, weight_at, covered}
use Rattle.theory_sound.specs.Facts.{Sound}
use Rattle.theory_lists.specs.Each.{each_none, each_self}
use Rattle.theory_lists.specs.Every.{each_every, Every, every_map, every_each, every_one, every_all}
use Rattle.theory_lists.specs.Sums.{sum-append, sum-each, sum_every, sum-zero, sum-keep}
use Rattle.theory_passes.specs.Passes.{asks_for, pieces_among, passed, pass_arrived, pass}
use Rattle.theory_passes.specs.Before.{new_marks, arrival_marks, serve_with, passed_with}

-- the weight of the entering pieces of a cover that meets the partner's covers, `far`, and the element's own, qs
unfoldable pub entering_weight : Case → Place → List Cover → List Cover → Cover → ℕ
entering_weight C e far qs p = sum (λ q. weight C q.cover) (keep (λ q. not q.held) (pieces_among C e far qs p))

-- the weight that arrives in the pass of train k for e in minute t
unfoldable pub arrived_weight : Case → ℕ → Place → ℕ → List Entry → ℕ
arrived_weight C t e k l =
    let far = meets_across C e k l in
    let qs = meets e k l in
    cond (same e (last_station C k)) (sum (λ r. cond (asks_for C t e k r.mark) (entering_weight C e far qs r.cover) 0) l) 0

-- the weights of more arrivals are added
weight_at-append : (C : Case) (rs us : List (Arrival Entry)) (k t : ℕ) → weight_at C (rs ++ us) k t ≡ weight_at C rs k t + weight_at C us k t
unfolding weight_at
weight_at-append C rs us k t =
    sum-keep (λ r. weight C r.who.cover) test (rs ++ us)
    ∙ sum-append (λ r. tick (test r) * weight C r.who.cover) rs us
    ∙ ap₂ ◌+◌ (sym (sum-keep (λ r. weight C r.who.cover) test rs)) (sym (sum-keep (λ r. weight C r.who.cover) test us))
  where
    test : Arrival Entry → Bool
    test r = eqb r.who.mark.train k && eqb r.minute t

module _ (C : Case) (sound : Sound C) (t : ℕ) (e : Place) (k : ℕ) where
  -- what arrives of an entry
  passed-arrived : (far qs : List Cover) (r : Entry)
      → (passed C t e k far qs r).arrived
      ≡ cond (asks_for C t e k r.mark) (each (λ q. map (covered q.cover) (arrival_marks C t e k)) (keep (λ q. not q.held) (pieces_among C e far qs r.cover))) []
  unfolding serve_with
  passed-arrived far qs r = ap (λ (s : Served Entry). s.arrived) (passed_with C sound t e k far qs r) ∙ go (asks_for C t e k r.mark)
    where
      go : (b : Bool)
          → (cond b (serve_with r.mark (new_marks C t e k) (arrival_marks C t e k) (pieces_among C e far qs r.cover)) (served (r ∷ []) [] [])).arrived
          ≡ cond b (each (λ q. map (covered q.cover) (arrival_marks C t e k)) (keep (λ q. not q.held) (pieces_among C e far qs r.cover))) []
      go true = refl
      go false = refl

  -- the arrival is of the train and the minute of the pass
  abbrev pub Here : Arrival Entry → Type 0
  Here v = (v.who.mark.train ≡ k) × (v.minute ≡ t)

  -- every arrival of a pass is of its train, in its minute
  pub arrived-here : (l : List Entry) → Every Here (pass_arrived C t e k l)
  unfolding pass_arrived arrival_marks
  arrived-here l =
      every_each (λ r. Unit) Here (λ r. (passed C t e k far qs r).arrived)
      (λ r u. subst (Every Here) (sym (passed-arrived far qs r)) (go (asks_for C t e k r.mark) (keep (λ q. not q.held) (pieces_among C e far qs r.cover))))
      l (every_all (λ r. Unit) (λ r. tt) l)
    where
      far : List Cover
      far = meets_across C e k l

      qs : List Cover
      qs = meets e k l

      go : (b : Bool) (ps : List Piece) → Every Here (cond b (each (λ q. map (covered q.cover) (arrival_marks C t e k)) ps) [])
      go true ps =
          every_each (λ q. Unit) Here (λ q. map (covered q.cover) (arrival_marks C t e k))
          (λ q u. every_map (λ a. (a.who.train ≡ k) × (a.minute ≡ t)) Here (covered q.cover) (λ a h. h) (arrival_marks C t e k)
          (every_one (λ a. (a.who.train ≡ k) × (a.minute ≡ t)) (same e (last_station C k)) (arrives (stands k e (due_again C t k e)) t) (λ h. (refl, refl)))) ps (every_all (λ q. Unit) (λ q. tt) ps)
      go false ps = tt

  -- the weight of all arrivals of the pass
  arrived-sum : (l : List Entry) → sum (λ v. weight C v.who.cover) (pass_arrived C t e k l) ≡ arrived_weight C t e k l
  unfolding pass_arrived arrived_weight entering_weight arrival_marks
  arrived-sum l =
      sum-each f (λ r. (passed C t e k far qs r).arrived) l
      ∙ sum_every (λ r. Unit) (λ r. sum f (passed C t e k far qs r).arrived) (λ r. cond (asks_for C t e k r.mark) (cond (same e (last_station C k)) (piece_sum r) 0) 0)
      (λ r u. ap (sum f) (passed-arrived far qs r) ∙ row (asks_for C t e k r.mark) (same e (last_station C k)) (keep (λ q. not q.held) (pieces_among C e far qs r.cover)))
      l (every_all (λ r. Unit) (λ r. tt) l)
      ∙ last (same e (last_station C k))
    where
      f : Arrival Entry → ℕ
      f v = weight C v.who.cover

      far : List Cover
      far = meets_across C e k l

      qs : List Cover
      qs = meets e k l

      piece_sum : Entry → ℕ
      piece_sum r = sum (λ q. weight C q.cover) (keep (λ q. not q.held) (pieces_among C e far qs r.cover))

      row : (a b : Bool) (ps : List Piece)
          → sum f (cond a (each (λ q. map (covered q.cover) (one b (arrives (stands k e (due_again C t k e)) t))) ps) []) ≡ cond a (cond b (sum (λ q. weight C q.cover) ps) 0) 0
      row true true ps =
          sum-each f (λ q. covered q.cover (arrives (stands k e (due_again C t k e)) t) ∷ []) ps
          ∙ sum_every (λ q. Unit) (λ q. weight C q.cover + 0) (λ q. weight C q.cover) (λ q u. omega arith) ps (every_all (λ q. Unit) (λ q. tt) ps)
      row true false ps = ap (sum f) (each_none ps)
      row false b ps = refl

      last : (b : Bool) → sum (λ r. cond (asks_for C t e k r.mark) (cond b (piece_sum r) 0) 0) l ≡ cond b (sum (λ r. cond (asks_for C t e k r.mark) (piece_sum r) 0) l) 0
      last true = refl
      last false =
          sum_every (λ r. Unit) (λ r. cond (asks_for C t e k r.mark) 0 0) (λ r. 0) (λ r u. none (asks_for C t e k r.mark)) l (every_all (λ r. Unit) (λ r. tt) l) ∙ sum-zero l
        where
          none : (a : Bool) → ◌≡◌ {A = ℕ} (cond a 0 0) 0
          none true = refl
          none false = refl

  -- arrivals of one train and minute weigh there alone
  here-weight : (v : List (Arrival Entry)) (j u : ℕ) → Every Here v → weight_at C v j u ≡ cond (eqb k j && eqb t u) (sum (λ r. weight C r.who.cover) v) 0
  unfolding weight_at
  here-weight v j u h =
      ap (sum (λ r. weight C r.who.cover))
      (each_every Here (λ r. one (eqb r.who.mark.train j && eqb r.minute u) r) (λ r. one (eqb k j && eqb t u) r)
      (λ r q. ap₂ (λ (i n : ℕ). one (eqb i j && eqb n u) r) q.0 q.1) v h)
      ∙ go (eqb k j && eqb t u)
    where
      go : (b : Bool) → sum (λ r. weight C r.who.cover) (each (λ r. one b r) v) ≡ cond b (sum (λ r. weight C r.who.cover) v) 0
      go true = ap (sum (λ r. weight C r.who.cover)) (each_self v)
      go false = ap (sum (λ r. weight C r.who.cover)) (each_none v)

  -- a pass adds its arrivals at its train and its minute, and nothing else
  pub pass-weight : (s : State Entry) (j u : ℕ) → weight_at C (pass C t e k s).arrived j u ≡ weight_at C s.arrived j u + cond (eqb k j && eqb t u) (arrived_weight C t e k s.list) 0
  unfolding pass
  pass-weight s j u =
      weight_at-append C s.arrived (pass_arrived C t e k s.list) j u
      ∙ ap (λ (z : ℕ). weight_at C s.arrived j u + z)
      (here-weight (pass_arrived C t e k s.list) j u (arrived-here s.list) ∙ ap (λ (z : ℕ). cond (eqb k j && eqb t u) z 0) (arrived-sum s.list))
