-- The run on rows agrees with the run by passes, step by step: while nothing is met it holds the rows of the list and the weights of the arrivals, and
-- else it is refused. A pass, an element, a minute and the minutes keep the agreement. Assumes nothing.
use Rattle.std.specs.Prelude.{◌≡◌, Bool, cond, take, set, ltb}
use Rattle.std.proofs.Math.Path.{refl, ap, subst, subst₂}
use Rattle.std.proofs.Common.{ap₂, sym, ◌∙◌, take-suc, ltb-true, ltb-false}
use Rattle.std.proofs.Math.Bool.{true, false}
use mathlib.Core.List.{List, [], ◌∷◌, map}
use Prim.Native.Nat.{ℕ, zero, suc, ◌+◌, ◌*◌, ◌%◌, ◌^◌, ◌≤◌, ◌<◌}
use native.Mathlib.Omega.{arith}
use Rattle.std.proofs.Math.ListN.{length, get_or}
use Rattle.std.proofs.lemmas.List.{length-map}
use Rattle.std.proofs.Math.Seq.{take-length}
use Rattle.rules.specs.Lists.{fold, below}
use Rattle.rules.specs.Files.{Case}
use Rattle.rules.specs.Turns.{Place, last_station, same, State}
use Rattle.rules.specs.Joint.{Entry}
use Rattle.theory_sound.specs.Facts.{Sound}
use Rattle.theory_lists.specs.Every.{Every}
use Rattle.theory_simulation.specs.Serving.{Proper}
use Rattle.theory_codes.specs.Codes.{place_of}
use Rattle.theory_codes.specs.Tables.{order, tables}
use Rattle.theory_passes.specs.Passes.{pass_list, pass, cleared, element_passes, minute_passes, minutes_passes}
use Rattle.theory_lists.specs.Folds.{fold-append}
use Rattle.theory_passes.specs.Order.{order-known, order-length}
use Rattle.theory_passes.specs.Joint.{Lawful}
use Rattle.theory_passes.proofs.Joint.{pass_lawful, pass-nobody, pass-met, pass-refused, cleared_lawful}
use Rattle.theory_passes.specs.Bounds.{AllBounded, cleared-bounded}
use Rattle.theory_passes.proofs.Bounds.{pass-bounded}
use Rattle.theory_passes.specs.Arrivals.{arrived_weight}
use Rattle.rows.specs.Rows.{Row}
use Rattle.visiting.specs.Visit.{Outcome, guard, some_asks, job_for, after_pass, pass_of}
use Rattle.elements.specs.Elements.{element_of, elements_of}
use Rattle.entries.specs.Run.{cleared_of, minute_of, minutes_of}
use Rattle.visiting.specs.Visit.Outcome.{refused, stands}
use Rattle.visiting.specs.Visiting.{guard_in, guard_out}
use Rattle.theory_lists.specs.Below.{below_more}
use Rattle.theory_codes.specs.Lookups.{table-order, table-trains, table-room}
use Rattle.entries.specs.Encoded.{row_of, Good, swept_rows}
use Rattle.entries.specs.Rowed.{Asker, asker_of_lem, asked-none, passed_is}
use Rattle.entries.specs.Weighed.{Weighs, arrived-is, weighs-pass}

-- ---- agreement

pub data Agrees (C : Case) (s : State Entry) : Outcome → Type 0 where
  agree : {v : List ℕ} → s.met ≡ 0 → Weighs C v s.arrived → Agrees C s (stands (map row_of s.list) v)
  over : 0 < s.met → Agrees C s refused

-- a state of the run: lawful, with bounded marks
abbrev pub Kind : Case → State Entry → Type 0
Kind C s = Lawful C s × AllBounded C (λ r. r.mark) s.list

pub good_every : (C : Case) (l : List Entry) → Every (Proper C) l → AllBounded C (λ r. r.mark) l → Every (Good C) l
good_every C [] p b = tt
good_every C (r ∷ l) p b = ((b.0, p.0), good_every C l p.1 b.1)

pass-list : (C : Case) (t : ℕ) (e : Place) (k : ℕ) (s : State Entry) → (pass C t e k s).list ≡ pass_list C t e k s.list
unfolding pass
pass-list C t e k s = refl

-- a pass that leaves the list within the room
standing : (C : Case) (t : ℕ) (e : Place) (k : ℕ) (s : State Entry) {v : List ℕ} → Weighs C v (pass C t e k s).arrived → (pass C t e k s).met ≡ 0
    → Agrees C (pass C t e k s) (stands (map row_of (pass_list C t e k s.list)) v)
standing C t e k s {v} w m = subst (λ (l : List Entry). Agrees C (pass C t e k s) (stands (map row_of l) v)) (pass-list C t e k s) (agree m w)

every_get : (P : ℕ → Type 0) (l : List ℕ) → Every P l → (j : ℕ) → j < length l → P (get_or l j 0)
every_get P [] h j k = absurd (omega arith)
every_get P (a ∷ l) h zero k = h.0
every_get P (a ∷ l) h (suc j) k = every_get P l h.1 j (omega arith)

module _ (C : Case) (sound : Sound C) (t : ℕ) (early : t ≤ C.head.last_minute) where
  pub kind-pass : (e : Place) (k : ℕ) (s : State Entry) → Kind C s → Kind C (pass C t e k s)
  kind-pass e k s h = (pass_lawful C t e k s h.0, pass-bounded C sound t early e k s h.1)

  -- ---- a pass

  module _ (e k : ℕ) (low : e ≤ 64) (train : k < length C.trains) where
    abbrev few : k < 8
    few = omega (arith, sound.few_trains)

    abbrev minute : t < 720
    minute = omega (arith, sound.in_window)

    made : (s : State Entry) {v : List ℕ} → Kind C s → s.met ≡ 0 → Weighs C v s.arrived → some_asks (tables C) t e k (map row_of s.list) ≡ true
        → Agrees C (pass C t (place_of e) k s) (after_pass (tables C) (job_for (tables C) t e k (map row_of s.list)) (map row_of s.list) v)
    made s {v} h z w q =
        subst (Agrees C (pass C t (place_of e) k s)) (sym same_outcome) (go (ltb C.head.room (length l')) refl)
      where
        l : List Entry
        l = s.list

        l' : List Entry
        l' = pass_list C t (place_of e) k l

        good : Every (Good C) l
        good = good_every C l h.0.proper h.1

        a : Asker C sound t e k low l
        a = asker_of_lem C sound t e k low l good q

        v' : List ℕ
        v' = cond (same (place_of e) (last_station C k)) (set v (k * 720 + t) ((get_or v (k * 720 + t) 0 + arrived_weight C t (place_of e) k l % 2 ^ 64) % 2 ^ 64)) v

        same_outcome : after_pass (tables C) (job_for (tables C) t e k (map row_of l)) (map row_of l) v ≡ guard C.head.room (map row_of l') v'
        same_outcome =
            ap₂ (λ (r : List Row) (u : List ℕ). guard (get_or (tables C) 3 0) r u) (passed_is C sound t e k low few l a good) (arrived-is C sound t e k low train l a good v (omega (arith, w.each k t few minute)))
            ∙ ap (λ (n : ℕ). guard n (map row_of l') v') (table-room C)

        weighs : Weighs C v' (pass C t (place_of e) k s).arrived
        weighs = weighs-pass C sound t e k v s few minute w

        met : (pass C t (place_of e) k s).met ≡ cond (ltb C.head.room (length l')) 12 0
        met = pass-met C t (place_of e) k s z

        go : (b : Bool) → ltb C.head.room (length l') ≡ b → Agrees C (pass C t (place_of e) k s) (guard C.head.room (map row_of l') v')
        go true r =
            let more : C.head.room < length l' = ltb-true C.head.room (length l') r in
            let twelve : (pass C t (place_of e) k s).met ≡ 12 = met ∙ ap (λ (y : Bool). cond y 12 0) r in
            subst (Agrees C (pass C t (place_of e) k s)) (sym (guard_out C.head.room (map row_of l') v' (omega (arith, length-map l' row_of)))) (over (omega arith))
        go false r =
            let less : length l' ≤ C.head.room = ltb-false C.head.room (length l') r in
            subst (Agrees C (pass C t (place_of e) k s)) (sym (guard_in C.head.room (map row_of l') v' (omega (arith, length-map l' row_of))))
            (standing C t (place_of e) k s weighs (met ∙ ap (λ (y : Bool). cond y 12 0) r))

    pub agrees_pass : (s : State Entry) (o : Outcome) → Kind C s → Agrees C s o → Agrees C (pass C t (place_of e) k s) (pass_of (tables C) t e k o)
    unfolding pass_of
    agrees_pass s refused h (over m) = over (subst (λ (n : ℕ). 0 < n) (sym (pass-refused C t (place_of e) k s m)) m)
    agrees_pass s (stands r v) h (agree z w) = go (some_asks (tables C) t e k (map row_of s.list)) refl
      where
        go : (b : Bool) → some_asks (tables C) t e k (map row_of s.list) ≡ b
            → Agrees C (pass C t (place_of e) k s) (cond b (after_pass (tables C) (job_for (tables C) t e k (map row_of s.list)) (map row_of s.list) v) (stands (map row_of s.list) v))
        go true q = made s h z w q
        go false q =
            subst (λ (u : State Entry). Agrees C u (stands (map row_of s.list) v))
            (sym (pass-nobody C t (place_of e) k s h.0 (asked-none C sound t e k low s.list (good_every C s.list h.0.proper h.1) q))) (agree z w)

  -- ---- an element

  -- a run of passes and its rows
  abbrev Pair : State Entry → Outcome → Type 0
  Pair s o = Kind C s × Agrees C s o

  module _ (e : ℕ) (low : e ≤ 64) where
    some-trains : (n : ℕ) → n ≤ length C.trains → (s : State Entry) (o : Outcome) → Pair s o
        → Pair (fold (pass C t (place_of e)) (take n (order C)) s) (element_of (tables C) t e n o)
    unfolding element_of
    some-trains zero h s o p = p
    some-trains (suc n) h s o p =
        let ih = some-trains n (omega arith) s o p in
        let k : ℕ = get_or (order C) n 0 in
        let known : k < length C.trains = order-at n (omega arith) in
        let more : fold (pass C t (place_of e)) (take (suc n) (order C)) s ≡ pass C t (place_of e) k (fold (pass C t (place_of e)) (take n (order C)) s) =
        ap (λ (l : List ℕ). fold (pass C t (place_of e)) l s) (take-suc (order C) n 0 (omega (arith, order-length C)))
        ∙ fold-append (pass C t (place_of e)) (take n (order C)) (k ∷ []) s in
        subst₂ Pair (sym more) (ap (λ (j : ℕ). pass_of (tables C) t e j (element_of (tables C) t e n o)) (sym (table-order C n (omega arith) (omega (arith, sound.few_trains)))))
        (kind-pass (place_of e) k (fold (pass C t (place_of e)) (take n (order C)) s) ih.0, agrees_pass e k low known (fold (pass C t (place_of e)) (take n (order C)) s) (element_of (tables C) t e n o) ih.0 ih.1)
      where
        order-at : (j : ℕ) → j < length C.trains → get_or (order C) j 0 < length C.trains
        order-at j l = every_get (λ k. k < length C.trains) (order C) (order-known C) j (omega (arith, order-length C))

    pair-element : (s : State Entry) (o : Outcome) → Pair s o → Pair (element_passes C (pass C) t e s) (element_of (tables C) t e (get_or (tables C) 0 0) o)
    pair-element s o p =
        subst₂ Pair
        (ap (λ (l : List ℕ). fold (pass C t (place_of e)) l s) (ap (λ (n : ℕ). take n (order C)) (sym (order-length C)) ∙ take-length (order C)))
        (ap (λ (n : ℕ). element_of (tables C) t e n o) (sym (table-trains C)))
        (some-trains (length C.trains) (omega arith) s o p)

  -- ---- a minute

  some-elements : (m : ℕ) → m ≤ 65 → (s : State Entry) (o : Outcome) → Pair s o → Pair (fold (element_passes C (pass C) t) (below m) s) (elements_of (tables C) t m o)
  unfolding elements_of
  some-elements zero h s o p = p
  some-elements (suc m) h s o p =
      subst (λ (u : State Entry). Pair u (elements_of (tables C) t (suc m) o)) (sym more)
      (pair-element m (omega arith) (fold (element_passes C (pass C) t) (below m) s) (elements_of (tables C) t m o) (some-elements m (omega arith) s o p))
    where
      more : fold (element_passes C (pass C) t) (below (suc m)) s ≡ element_passes C (pass C) t m (fold (element_passes C (pass C) t) (below m) s)
      more =
          ap (λ (l : List ℕ). fold (element_passes C (pass C) t) l s) (ap below (let z : suc m ≡ m + 1 = omega arith in z) ∙ below_more m)
          ∙ fold-append (element_passes C (pass C) t) (below m) (m ∷ []) s

  cleared_agrees : (s : State Entry) (o : Outcome) → Kind C s → Agrees C s o → Agrees C (cleared (λ r. r.mark) t s) (cleared_of t o)
  unfolding cleared_of
  cleared_agrees s refused h (over m) = over m
  cleared_agrees s (stands r v) h (agree z w) =
      subst (λ (l : List Row). Agrees C (cleared (λ r. r.mark) t s) (stands l v)) (sym (swept_rows C sound t s.list (good_every C s.list h.0.proper h.1))) (agree z w)

  pub pair-minute : (s : State Entry) (o : Outcome) → Pair s o → Pair (minute_passes C (λ r. r.mark) (pass C) t s) (minute_of (tables C) t o)
  unfolding minute_passes minute_of
  pair-minute s o p =
      some-elements 65 (omega arith) (cleared (λ r. r.mark) t s) (cleared_of t o)
      ((cleared_lawful C t s p.0.0, cleared-bounded C sound (λ r. r.mark) t s p.0.1), cleared_agrees s o p.0 p.1)

-- ---- the minutes

module _ (C : Case) (sound : Sound C) where
  pub pair-minutes : (n : ℕ) → n ≤ suc C.head.last_minute → (s : State Entry) (o : Outcome) → Kind C s × Agrees C s o
      → Kind C (minutes_passes C (λ r. r.mark) (pass C) n s) × Agrees C (minutes_passes C (λ r. r.mark) (pass C) n s) (minutes_of (tables C) n o)
  unfolding minutes_passes minutes_of
  pair-minutes zero h s o p = p
  pair-minutes (suc n) h s o p = pair-minute C sound n (omega arith) (minutes_passes C (λ r. r.mark) (pass C) n s) (minutes_of (tables C) n o) (pair-minutes n (omega arith) s o p)
