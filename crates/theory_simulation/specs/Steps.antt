-- Each step keeps order: a mark that enters counts no more than the asker that it was, and a held asker or an ended block adds nothing.
-- An asker comes nearer to the end of its way, so a place that it comes to was ahead of it before. Takes `Sound` as given, and assumes nothing else.
use Rattle.std.specs.Prelude.{◌≡◌, not, ◌&&◌, ◌||◌, cond, ℕ, ◌+◌, ◌≤◌, ◌<◌, length}
use Rattle.std.proofs.Math.Path.{refl, ap, subst₂}
use Rattle.std.proofs.Common.{sym, ap₂, ◌∙◌, subst, eqb-true, ltb-true, ltb-false, lt-ltb, eq-eqb}
use Rattle.std.proofs.Math.Bool.{Bool, true, false, and-false, and-true}
use mathlib.Core.List.{List, [], ◌∷◌, ◌++◌, append-nil, append_assoc}
use Rattle.std.proofs.Math.Nat.{le_trans}
use native.Mathlib.Omega.{arith}
use Rattle.std.proofs.Math.Dec.{ltb, eqb}
use Rattle.rules.specs.Lists.{one, keep, tick, sum, count}
use Rattle.rules.specs.Files.{Case}
use Rattle.rules.specs.Turns.{Place, same, Mark, stands, block, last_station, capacity, paired, ended, asks, due_again, leaves_block, leaving, entered, Arrival, arrives, arriving, served}
use Rattle.rules.specs.Turns.Place.{outside, gone}
use Rattle.rules.specs.Single.{trains_on, partner_held, enters, serve_train}
use Rattle.rules.specs.Demands.{is_at, is_standing}
use Rattle.theory_sound.specs.Facts.{Sound}
use Rattle.theory_lists.specs.Tests.{and_true-first}
use Rattle.theory_lists.specs.Every.{Every, every_append, every_left, every_right, every_one, every_keep, every_all}
use Rattle.theory_lists.specs.Sums.{tick-le, sum-append, sum-each, sum_every, sum_less, sum-one-le, sum-keep-le}
use Rattle.theory_lists.specs.Items.{served_list}
use Rattle.theory_sound.specs.Ways.{same_true}
use Rattle.theory_sound.specs.Couples.{partner_off}
use Rattle.theory_simulation.specs.Places.{asked}
use Rattle.theory_simulation.specs.Orderly.{is_on, to_go, is_before, reach, Orderly, trains_on-count}

-- ---- a sum after a step

-- the sum of the list around a mark
pub sum_around : (f : Mark → ℕ) (b : List Mark) (m : Mark) (c : List Mark) → sum f (b ++ (m ∷ c)) ≡ sum f b + sum f c + f m
sum_around f b m c = omega (arith, sum-append f b (m ∷ c))

pub sum-entered : (f : Mark → ℕ) (b c new : List Mark) → sum f (b ++ [] ++ c ++ new) ≡ sum f b + sum f c + sum f new
sum-entered f b c new = omega (arith, sum-append f (b ++ [] ++ c) new, sum-append f (b ++ []) c, sum-append f b [])

-- what a mark leaves counts at the most as a block on its place
leaving-le : (f : Mark → ℕ) (C : Case) (t : ℕ) (m : Mark) → sum f (leaving C t m) ≤ f (block m.train m.place (t + C.head.safety))
unfolding leaving
leaving-le f C t m = sum-one-le f (leaves_block C m.place) (block m.train m.place (t + C.head.safety))

-- a mark and, where c holds, a block on some place: a test that no block of the train passes counts the mark alone
block-passes-not : (test : Mark → Bool) (k : ℕ) → ((p : Place) (n : ℕ) → test (block k p n) ≡ false) → (m : Mark) (c : Bool) (p : Place) (n : ℕ)
    → count test (m ∷ one c (block k p n)) ≡ tick (test m)
block-passes-not test k h m true p n = omega (arith, ap tick (h p n))
block-passes-not test k h m false p n = omega arith

-- of what comes of a mark that enters, the standing mark alone stands
entered-stands : (test : Mark → Bool) (C : Case) (t : ℕ) (e : Place) (m : Mark) → ((p : Place) (n : ℕ) → test (block m.train p n) ≡ false)
    → count test (entered C t e m) ≡ tick (test (stands m.train e (due_again C t m.train e)))
unfolding entered leaving
entered-stands test C t e m h = search (block-passes-not test m.train)

module _ (C : Case) (sound : Sound C) (t : ℕ) (e : Place) (m : Mark) (ask : asks C t e m ≡ true) where
  -- an asker comes nearer to its end
  pub nearer : (j : ℕ) → eqb m.train j ≡ true → to_go C j e < to_go C j m.place
  nearer j q = subst (λ (k : ℕ). to_go C k e < to_go C k m.place) (eqb-true m.train j q) (sound.onward m.train m.place e (asked C t e m ask).goes)

  stood : (b : Bool) → (b && not m.blocks) ≡ b
  stood b = ap (λ (z : Bool). b && not z) (asked C t e m ask).stood ∙ and-true b

  entered-standing : (j : ℕ) → count (is_standing j) (entered C t e m) ≡ tick (is_standing j m)
  entered-standing j =
      entered-stands (is_standing j) C t e m (λ p n. and-false (eqb m.train j))
      ∙ ap tick (and-true (eqb m.train j) ∙ sym (stood (eqb m.train j)))

  -- what is ahead from e was ahead from where the asker stood, and so was e
  ahead-less : (j : ℕ) (p : Place) (a : Bool) → eqb m.train j ≡ a
      → tick (a && same e p) + tick (a && true && ltb (to_go C j p) (to_go C j e)) ≤ tick (a && not m.blocks && ltb (to_go C j p) (to_go C j m.place))
  ahead-less j p false q = omega arith
  ahead-less j p true q =
      go (same e p) (ltb (to_go C j p) (to_go C j e)) (ltb (to_go C j p) (to_go C j m.place)) refl refl refl (nearer j q)
    where
      go : (a b c : Bool) → same e p ≡ a → ltb (to_go C j p) (to_go C j e) ≡ b → ltb (to_go C j p) (to_go C j m.place) ≡ c → to_go C j e < to_go C j m.place
          → tick a + tick b ≤ tick (not m.blocks && c)
      go true true c f g h l = absurd (omega (arith, ltb-true (to_go C j p) (to_go C j e) g, ap (to_go C j) (same_true e p f)))
      go true false true f g h l = omega (arith, ap tick (stood true), ap (λ (z : Bool). tick (not z && true)) (asked C t e m ask).stood)
      go true false false f g h l = absurd (omega (arith, ltb-false (to_go C j p) (to_go C j m.place) h, ap (to_go C j) (same_true e p f)))
      go false true true f g h l = omega (arith, ap (λ (z : Bool). tick (not z && true)) (asked C t e m ask).stood)
      go false true false f g h l = absurd (omega (arith, ltb-false (to_go C j p) (to_go C j m.place) h, ltb-true (to_go C j p) (to_go C j e) g))
      go false false c f g h l = omega arith

  -- it comes to one place, and leaves a block at most where it stood
  entered_on : (p : Place) → count (is_on p) (entered C t e m) ≤ tick (same e p) + tick (is_on p m)
  unfolding entered
  entered_on p = omega (arith, leaving-le (λ a. tick (is_on p a)) C t m)

  -- the block is where the asker stood, and the standing mark where it had yet to come to
  entered-reach : (j : ℕ) (p : Place) → sum (reach C j p) (entered C t e m) ≤ reach C j p m
  unfolding entered
  entered-reach j p =
      omega (
        arith,
        leaving-le (reach C j p) C t m,
        ahead-less j p (eqb m.train j) refl,
        ap (λ (z : Bool). tick (z && ltb (to_go C j p) (to_go C j m.place))) (and-false (eqb m.train j)),
      )

  entered-before : (j : ℕ) (p : Place) → tick (eqb m.train j && same e p) + count (is_before C j p) (entered C t e m) ≤ tick (is_before C j p m)
  entered-before j p =
      omega (
        arith,
        entered-stands (is_before C j p) C t e m (λ q n. ap (λ (z : Bool). z && ltb (to_go C j p) (to_go C j q)) (and-false (eqb m.train j))),
        ahead-less j p (eqb m.train j) refl,
      )

  -- an asker's train is not on a place that has less of its way ahead, nor does it block it
  asker_behind : (p : Place) → to_go C m.train p < to_go C m.train m.place
      → (b c : List Mark) (v : List (Arrival Mark)) → Orderly C (b ++ (m ∷ c)) v → count (is_at m.train p) (b ++ (m ∷ c)) ≡ 0
  asker_behind p less b c v o =
      omega (
        arith,
        sum_around (λ a. tick (is_at k p a)) b m c,
        sum_around (reach C k p) b m c,
        o.reach_once k p,
        sum_less (λ a. tick (is_at k p a)) (reach C k p) (λ a. omega arith) b,
        sum_less (λ a. tick (is_at k p a)) (reach C k p) (λ a. omega arith) c,
        ap tick (ap₂ (λ (y z : Bool). y && z) (stood (eqb k k) ∙ eq-eqb k k refl) (lt-ltb (to_go C k p) (to_go C k m.place) less)),
      )
    where
      k : ℕ
      k = m.train

  -- an asker for e is not on e, nor does it block e
  pub asker_none : (b c : List Mark) (v : List (Arrival Mark)) → Orderly C (b ++ (m ∷ c)) v → count (is_at m.train e) (b ++ (m ∷ c)) ≡ 0
  asker_none = asker_behind e (nearer m.train (eq-eqb m.train m.train refl))

  -- nor is it on the partner of e, which is not on its way
  pub asker_across : (p : Place) → paired C e p ≡ true
      → (b c : List Mark) (v : List (Arrival Mark)) → Orderly C (b ++ (m ∷ c)) v → count (is_at m.train p) (b ++ (m ∷ c)) ≡ 0
  asker_across p h =
      asker_behind p
      (omega (arith, ap length (partner_off C sound m.train m.place e p (asked C t e m ask).goes h), nearer m.train (eq-eqb m.train m.train refl)))

  -- ---- an asker that enters

  entered-known : (P : Mark → Type 0) → ((p : Place) (q : Bool) (n : ℕ) → P (record { train = m.train; place = p; blocks = q; minute = n })) → Every P (entered C t e m)
  unfolding entered leaving
  entered-known P h = search (every_one P)

  -- the asker's arrival is at the last station
  arriving-le : (j : ℕ) → count (λ a. eqb a.who.train j) (arriving C t e m) ≤ tick (eqb m.train j && same e (last_station C j))
  unfolding arriving
  arriving-le j = go (same e (last_station C m.train)) (eqb m.train j) refl refl
    where
      go : (b a : Bool) → same e (last_station C m.train) ≡ b → eqb m.train j ≡ a
          → count (λ a. eqb a.who.train j) (one b (arrives (stands m.train e (due_again C t m.train e)) t)) ≤ tick (a && same e (last_station C j))
      go true true q r = omega (arith, tick-le (eqb m.train j), ap tick (sym (ap (λ (k : ℕ). same e (last_station C k)) (eqb-true m.train j r)) ∙ q))
      go true false q r = omega (arith, ap tick r)
      go false a q r = omega arith

  module _ (b c : List Mark) (v : List (Arrival Mark)) (o : Orderly C (b ++ (m ∷ c)) v) where
    abbrev after : List Mark
    after = b ++ [] ++ c ++ entered C t e m

    -- a sum that an entering mark does not raise is not raised
    after-le : (f : Mark → ℕ) → sum f (entered C t e m) ≤ f m → sum f after ≤ sum f (b ++ (m ∷ c))
    after-le f h = omega (arith, sum_around f b m c, sum-entered f b c (entered C t e m))

    -- a place that it does not enter holds no more than before
    pub after-elsewhere : (p : Place) → same e p ≡ false → count (is_on p) after ≤ count (is_on p) (b ++ (m ∷ c))
    after-elsewhere p q = after-le (λ a. tick (is_on p a)) (omega (arith, entered_on p, ap tick q))

    after-within : enters C e m.train (b ++ (m ∷ c)) ≡ true → (p : Place) → same p outside ≡ false → same p gone ≡ false → count (is_on p) after ≤ capacity C p
    unfolding enters
    after-within h p out way = go (same e p) refl
      where
        go : (a : Bool) → same e p ≡ a → count (is_on p) after ≤ capacity C p
        go false q = le_trans (after-elsewhere p q) (o.within p out way)
        go true q =
            omega (
              arith,
              sum_around (λ a. tick (is_on p a)) b m c,
              sum-entered (λ a. tick (is_on p a)) b c (entered C t e m),
              entered_on p,
              tick-le (same e p),
              room,
            )
          where
            few : Bool
            few = ltb (trains_on C e (b ++ (m ∷ c))) (capacity C e)

            free : Bool
            free = not (partner_held C e m.train (b ++ (m ∷ c)))

            test : few ≡ true
            test = and_true-first few free (sym (ap (λ (z : Bool). z || (few && free)) (ap (λ (d : Place). same d gone) (same_true e p q) ∙ way)) ∙ h)

            room : count (is_on p) (b ++ (m ∷ c)) < capacity C p
            room = subst (λ (d : Place). count (is_on d) (b ++ (m ∷ c)) < capacity C d) (same_true e p q)
                (omega (arith, trains_on-count C (b ++ (m ∷ c)) v o e, ltb-true (trains_on C e (b ++ (m ∷ c))) (capacity C e) test))

    after-orderly : enters C e m.train (b ++ (m ∷ c)) ≡ true → Orderly C after (v ++ arriving C t e m)
    after-orderly h = record {
      known = every_append known (b ++ [] ++ c) (entered C t e m)
          (every_append known (b ++ []) c (every_append known b [] (every_left known b (m ∷ c) o.known) tt) (every_right known b (m ∷ c) o.known).1)
          (entered-known known (λ p q n. (every_right known b (m ∷ c) o.known).0));
      stands_once = λ j l. omega (
        arith,
        o.stands_once j l,
        entered-standing j,
        sum_around (λ a. tick (is_standing j a)) b m c,
        sum-entered (λ a. tick (is_standing j a)) b c (entered C t e m),
      );
      reach_once = λ j p. le_trans (after-le (reach C j p) (entered-reach j p)) (o.reach_once j p);
      within = after-within h;
      arrives_once = λ j. omega (
        arith,
        o.arrives_once j,
        sum-append (λ a. tick (eqb a.who.train j)) v (arriving C t e m),
        arriving-le j,
        entered-before j (last_station C j),
        sum_around (λ a. tick (is_before C j (last_station C j) a)) b m c,
        sum-entered (λ a. tick (is_before C j (last_station C j) a)) b c (entered C t e m),
      );
    }
      where
        known : Mark → Type 0
        known a = a.train < length C.trains

    pub serve-orderly : Orderly C (served_list (serve_train C t e (b ++ (m ∷ c)) m) b c) (v ++ (serve_train C t e (b ++ (m ∷ c)) m).arrived)
    unfolding serve_train
    serve-orderly = go (enters C e m.train (b ++ (m ∷ c))) refl
      where
        go : (z : Bool) → enters C e m.train (b ++ (m ∷ c)) ≡ z
            → Orderly C (served_list (cond z (served [] (entered C t e m) (arriving C t e m)) (served (m ∷ []) [] [])) b c)
            (v ++ (cond z (served [] (entered C t e m) (arriving C t e m)) (served (m ∷ []) [] [])).arrived)
        go true h = after-orderly h
        go false h = subst₂ (Orderly C) (sym (append-nil (b ++ (m ∷ []) ++ c) ∙ append_assoc b (m ∷ []) c)) (sym (append-nil v)) o

-- ---- blocks that end

end-standing : (t j : ℕ) (ms : List Mark) → count (is_standing j) (keep (λ m. not (ended t m)) ms) ≡ count (is_standing j) ms
unfolding ended
end-standing t j ms =
    sum-each (λ m. tick (is_standing j m)) (λ m. one (not (ended t m)) m) ms
    ∙ sum_every (λ m. Unit) (λ m. sum (λ a. tick (is_standing j a)) (one (not (ended t m)) m)) (λ m. tick (is_standing j m)) (λ m u. go m m.blocks _ refl)
    ms (every_all (λ m. Unit) (λ m. tt) ms)
  where
    go : (m : Mark) (b l : Bool) → m.blocks ≡ b → sum (λ a. tick (is_standing j a)) (one (not (b && l)) m) ≡ tick (is_standing j m)
    go m true true q = sym (ap (λ (z : Bool). tick (eqb m.train j && not z)) q ∙ ap tick (and-false (eqb m.train j)))
    go m true false q = omega arith
    go m false l q = omega arith

pub end-orderly : (C : Case) (t : ℕ) (ms : List Mark) (v : List (Arrival Mark)) → Orderly C ms v → Orderly C (keep (λ m. not (ended t m)) ms) v
end-orderly C t ms v o = record {
  known = every_keep (λ m. m.train < length C.trains) (λ m. not (ended t m)) ms o.known;
  stands_once = λ j l. end-standing t j ms ∙ o.stands_once j l;
  reach_once = λ j p. le_trans (sum-keep-le (reach C j p) (λ m. not (ended t m)) ms) (o.reach_once j p);
  within = λ p out way. le_trans (sum-keep-le (λ m. tick (is_on p m)) (λ m. not (ended t m)) ms) (o.within p out way);
  arrives_once = λ j. omega (arith, o.arrives_once j, sum-keep-le (λ m. tick (is_before C j (last_station C j) m)) (λ m. not (ended t m)) ms);
}
