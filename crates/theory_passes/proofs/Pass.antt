-- A walk of the joint run is a pass: while one train asks for one element, only rows of that train change, so all its askers meet the same covers, on the
-- element and on its partner.
-- By induction on the rows still to look at, with the covers that are met kept. Assumes nothing.
use Rattle.std.specs.Prelude.{◌≡◌, Bool, true, false, not, ◌&&◌, ℕ, eqb}
use Rattle.std.proofs.Math.Path.{refl, sym, ap, ap₂}
use Rattle.std.proofs.Common.{◌∙◌, subst, subst₂, eq-eqb}
use Rattle.std.proofs.Math.Bool.{cond}
use mathlib.Core.List.{List, [], ◌∷◌, ◌++◌, append-nil, append_assoc}
use Rattle.rules.specs.Lists.{one, each}
use Rattle.rules.specs.Files.{Case}
use Rattle.rules.specs.Turns.{Place, same, paired, Served, served, State, Arrival}
use Rattle.rules.specs.Joint.{Cover, Entry, meets, meets_across, serve_entry, joint_rules}
use Rattle.theory_lists.specs.Each.{each_append, each_none}
use Rattle.theory_lists.specs.Every.{each_every, Every, every_more}
use Rattle.theory_lists.specs.Items.{served_list}
use Rattle.theory_passes.specs.Passes.{asks_for, serve_among, passed, pass_list, pass_arrived}
use Rattle.theory_passes.specs.Walk.{asks_for-train, mine, met_with, walk_one, walk}
use Rattle.theory_passes.specs.Marks.{joint-own}
use Rattle.theory_passes.specs.Pass.{serve_entry_among}

-- ---- what other trains' entries a train meets

abbrev joins : List Cover → List Cover → List Cover → List Cover
joins a b c = a ++ (b ++ c)

-- the covers of the entries of other trains than k at the places that pass a test, as on an element or on its partner
module _ (test : Place → Bool) (k : ℕ) where
  abbrev others : List Entry → List Cover
  others l = each (λ r. one (not (eqb r.mark.train k) && test r.mark.place) r.cover) l

  others-append : (s u : List Entry) → others (s ++ u) ≡ others s ++ others u
  others-append s u = each_append (λ r. one (not (eqb r.mark.train k) && test r.mark.place) r.cover) s u

  -- a train does not meet its own entries
  others-own : (l : List Entry) → Every (λ r. r.mark.train ≡ k) l → others l ≡ []
  others-own l h =
      each_every (λ r. r.mark.train ≡ k) (λ r. one (not (eqb r.mark.train k) && test r.mark.place) r.cover) (λ r. [])
      (λ r q. ap (λ (z : Bool). one (not z && test r.mark.place) r.cover) (eq-eqb r.mark.train k q)) l h
      ∙ each_none l

  others-parts : (a b c : List Entry) → others (a ++ (b ++ c)) ≡ joins (others a) (others b) (others c)
  others-parts a b c = others-append a (b ++ c) ∙ ap (λ (z : List Cover). others a ++ z) (others-append b c)

  -- what is met after an asker of train k is served is what was met before
  others_same : (done : List Entry) (r : Entry) (rest new rows added : List Entry) → r.mark.train ≡ k
      → Every (λ i. i.mark.train ≡ r.mark.train) rows → Every (λ i. i.mark.train ≡ r.mark.train) added
      → others ((done ++ rows) ++ (rest ++ (new ++ added))) ≡ others (done ++ ((r ∷ rest) ++ new))
  others_same done r rest new rows added h f g =
      others-parts (done ++ rows) rest (new ++ added)
      ∙ ap₂ (λ (y z : List Cover). joins y (others rest) z) (own done rows f) (own new added g)
      ∙ sym (others-parts done (r ∷ rest) new
      ∙ ap (λ (z : List Cover). joins (others done) z (others new)) (others-append (r ∷ []) rest ∙ ap (λ (z : List Cover). z ++ others rest) (others-own (r ∷ []) (h, tt))))
    where
      own : (l w : List Entry) → Every (λ i. i.mark.train ≡ r.mark.train) w → others (l ++ w) ≡ others l
      own l w q =
          others-append l w
          ∙ ap (λ (z : List Cover). others l ++ z) (others-own w (every_more (λ i. i.mark.train ≡ r.mark.train) (λ i. i.mark.train ≡ k) (λ i j. j ∙ h) w q))
          ∙ append-nil (others l)

-- ---- a walk is a pass

module _ (C : Case) (t : ℕ) (e : Place) (k : ℕ) (far qs : List Cover) where
  abbrev hold : Entry → List Entry
  hold r = (passed C t e k far qs r).rows

  abbrev add : Entry → List Entry
  add r = (passed C t e k far qs r).added

  abbrev arrive : Entry → List (Arrival Entry)
  arrive r = (passed C t e k far qs r).arrived

  passed_asker : (r : Entry) → asks_for C t e k r.mark ≡ true → passed C t e k far qs r ≡ serve_among C t e far qs r
  unfolding passed
  passed_asker r h = ap (λ (z : Bool). cond z (serve_among C t e far qs r) (served (r ∷ []) [] [])) h

  passed-other : (r : Entry) → asks_for C t e k r.mark ≡ false → passed C t e k far qs r ≡ served (r ∷ []) [] []
  unfolding passed
  passed-other r h = ap (λ (z : Bool). cond z (serve_among C t e far qs r) (served (r ∷ []) [] [])) h

  -- a train's askers meet these covers, on the partner and on the element
  record Met (l : List Entry) : Type 0 where
    across : meets_across C e k l ≡ far
    own : meets e k l ≡ qs

  -- and still do after one of them is served
  met-after : (done : List Entry) (r : Entry) (rest new rows added : List Entry) → r.mark.train ≡ k
      → Every (λ i. i.mark.train ≡ r.mark.train) rows → Every (λ i. i.mark.train ≡ r.mark.train) added
      → Met (done ++ ((r ∷ rest) ++ new)) → Met ((done ++ rows) ++ (rest ++ (new ++ added)))
  unfolding meets meets_across
  met-after done r rest new rows added h f g met = record {
    across = others_same (paired C e) k done r rest new rows added h f g ∙ met.across;
    own = others_same (λ p. same p e) k done r rest new rows added h f g ∙ met.own;
  }

  abbrev after_walk : List Entry → List Entry → List Entry → List Entry
  after_walk done rest new = (done ++ each hold rest) ++ (new ++ each add rest)

  record Walked (done rest new : List Entry) (v : List (Arrival Entry)) (s : State Entry) : Type 0 where
    list : s.list ≡ after_walk done rest new
    arrived : s.arrived ≡ v ++ each arrive rest

  walk-passed : (done rest new : List Entry) (v : List (Arrival Entry)) (n : ℕ) → Met (done ++ (rest ++ new)) → Walked done rest new v (walk C (joint_rules C) t e k done rest new v n)
  unfolding walk joint_rules
  walk-passed done [] new v n h = record { list = sym (ap₂ ◌++◌ (append-nil done) (append-nil new)); arrived = sym (append-nil v) }
  walk-passed done (r ∷ rest) new v n h = go (mine C (joint_rules C) t e k r) refl (λ d w. walk-passed d rest w)
    where
      -- what the next rows come to, put together with what this row came to
      joined : (s : State Entry) (rows added : List Entry) (arrived : List (Arrival Entry)) → hold r ≡ rows → add r ≡ added → arrive r ≡ arrived
          → Walked (done ++ rows) rest (new ++ added) (v ++ arrived) s → Walked done (r ∷ rest) new v s
      joined s rows added arrived a b c w = record {
        list = w.list ∙ ap₂ ◌++◌
            (append_assoc done rows (each hold rest) ∙ ap (λ (z : List Entry). done ++ (z ++ each hold rest)) (sym a))
            (append_assoc new added (each add rest) ∙ ap (λ (z : List Entry). new ++ (z ++ each add rest)) (sym b));
        arrived = w.arrived ∙ append_assoc v arrived (each arrive rest) ∙ ap (λ (z : List (Arrival Entry)). v ++ (z ++ each arrive rest)) (sym c);
      }

      go : (b : Bool) → mine C (joint_rules C) t e k r ≡ b
          → ((d w : List Entry) (v : List (Arrival Entry)) (n : ℕ) → Met (d ++ (rest ++ w)) → Walked d rest w v (walk C (joint_rules C) t e k d rest w v n))
          → Walked done (r ∷ rest) new v (walk_one C (joint_rules C) t e (λ d w. walk C (joint_rules C) t e k d rest w) done r rest new v n b)
      go true q ih =
          joined (walk C (joint_rules C) t e k (done ++ s.rows) rest (new ++ s.added) (v ++ s.arrived) (met_with C (joint_rules C) t e n (served_list s done (rest ++ new))))
          s.rows s.added s.arrived (ap (λ (z : Served Entry). z.rows) came) (ap (λ (z : Served Entry). z.added) came) (ap (λ (z : Served Entry). z.arrived) came)
          (ih (done ++ s.rows) (new ++ s.added) (v ++ s.arrived) (met_with C (joint_rules C) t e n (served_list s done (rest ++ new)))
          (met-after done r rest new s.rows s.added is-k (joint-own C t e cur r).0 (joint-own C t e cur r).1 h))
        where
          cur : List Entry
          cur = done ++ (r ∷ (rest ++ new))

          s : Served Entry
          s = serve_entry C t e cur r

          is-k : r.mark.train ≡ k
          is-k = asks_for-train C t e k r.mark q

          came : passed C t e k far qs r ≡ s
          came =
              passed_asker r q
              ∙ ap₂ (λ (y z : List Cover). serve_among C t e y z r) (sym (ap (λ (j : ℕ). meets_across C e j cur) is-k ∙ h.across)) (sym (ap (λ (j : ℕ). meets e j cur) is-k ∙ h.own))
              ∙ sym (serve_entry_among C t e cur r)
      go false q ih =
          joined (walk C (joint_rules C) t e k (done ++ (r ∷ [])) rest new v n) (r ∷ []) [] []
          (ap (λ (z : Served Entry). z.rows) (passed-other r q)) (ap (λ (z : Served Entry). z.added) (passed-other r q)) (ap (λ (z : Served Entry). z.arrived) (passed-other r q))
          (subst₂ (λ (y : List Entry) (z : List (Arrival Entry)). Walked (done ++ (r ∷ [])) rest y z (walk C (joint_rules C) t e k (done ++ (r ∷ [])) rest new v n))
          (sym (append-nil new)) (sym (append-nil v))
          (ih (done ++ (r ∷ [])) new v n (subst Met (sym (append_assoc done (r ∷ []) (rest ++ new))) h)))

-- ---- a whole list

module _ (C : Case) (t : ℕ) (e : Place) (k : ℕ) (l : List Entry) (v : List (Arrival Entry)) (n : ℕ) where
  walked : Walked C t e k (meets_across C e k l) (meets e k l) [] l [] v (walk C (joint_rules C) t e k [] l [] v n)
  walked =
      walk-passed C t e k (meets_across C e k l) (meets e k l) [] l [] v n
      (record { across = ap (meets_across C e k) (append-nil l); own = ap (meets e k) (append-nil l) })

  pub walk-list : (walk C (joint_rules C) t e k [] l [] v n).list ≡ pass_list C t e k l
  unfolding pass_list
  walk-list = walked.list

  pub walk-arrived : (walk C (joint_rules C) t e k [] l [] v n).arrived ≡ v ++ pass_arrived C t e k l
  unfolding pass_arrived
  walk-arrived = walked.arrived
