-- Laws of the weights that arrive: nothing where nothing entered or the element is not the train's last station, and else the sum of what entered.
-- Assumes nothing.
use Rattle.std.specs.Prelude.{◌≡◌, Bool, true, false, ℕ, ◌+◌, ◌*◌, ◌%◌, ◌^◌, length, get_or, set, eqb}
use Rattle.std.proofs.Math.Path.{refl, sym}
use Rattle.std.proofs.Common.{ap, ◌∙◌, arith, eq-eqb, ne_eqb, add-zero}
use Rattle.std.proofs.Math.Bool.{cond}
use mathlib.Core.List.{List, [], ◌∷◌}
use Rattle.std.proofs.lemmas.List.{set-get_or}
use Rattle.weigh.specs.Weigh.{brought_of}
use Rattle.asking.specs.declared.Job.{Job}
use Rattle.visiting.specs.Visit.{arrived_of}

module _ (T : List ℕ) (q : Job) (covers v : List ℕ) where
  abbrev i : ℕ
  i = q.train * 720 + q.minute

  abbrev home : ℕ
  home = get_or T (16 + q.train) 0

  pub arrived-none : length covers ≡ 0 → v ≡ arrived_of T q covers v
  unfolding arrived_of
  arrived-none h = go covers h
    where
      go : (cs : List ℕ) → length cs ≡ 0 → v ≡ arrived_of T q cs v
      go [] z = refl
      go (c ∷ cs) z = absurd (omega arith)

  by_place : (cs : List ℕ) → (q.place ≡ home → ⊥) → v ≡ arrived_of T q cs v
  unfolding arrived_of
  by_place [] h = refl
  by_place (c ∷ cs) h = sym (ap (λ (b : Bool). cond b (set v i ((get_or v i 0 + brought_of T (c ∷ cs)) % 2 ^ 64)) v) (ne_eqb q.place home h))

  pub arrived-other : (q.place ≡ home → ⊥) → v ≡ arrived_of T q covers v
  arrived-other h = by_place covers h

  at_home : (cs : List ℕ) → (cs ≡ [] → ⊥) → q.place ≡ home → set v i ((get_or v i 0 + brought_of T cs) % 2 ^ 64) ≡ arrived_of T q cs v
  unfolding arrived_of
  at_home [] h e = absurd (h refl)
  at_home (c ∷ cs) h e = sym (ap (λ (b : Bool). cond b (set v i ((get_or v i 0 + brought_of T (c ∷ cs)) % 2 ^ 64)) v) (eq-eqb q.place home e))

  pub arrived-there : {x : ℕ} → (length covers ≡ 0 → ⊥) → q.place ≡ home → x ≡ brought_of T covers → set v i ((get_or v i 0 + x) % 2 ^ 64) ≡ arrived_of T q covers v
  arrived-there h e z = ap (λ (y : ℕ). set v i ((get_or v i 0 + y) % 2 ^ 64)) z ∙ at_home covers (λ k. h (ap length k)) e

-- whatever entered, where the weight fits its word
pub arrived-any : (T : List ℕ) (q : Job) (cs v : List ℕ) → get_or v (q.train * 720 + q.minute) 0 % 2 ^ 64 ≡ get_or v (q.train * 720 + q.minute) 0
    → arrived_of T q cs v
    ≡ cond (eqb q.place (get_or T (16 + q.train) 0)) (set v (q.train * 720 + q.minute) ((get_or v (q.train * 720 + q.minute) 0 + brought_of T cs) % 2 ^ 64)) v
unfolding arrived_of brought_of
arrived-any T q [] v small = sym (go (eqb q.place (get_or T (16 + q.train) 0)))
  where
    x : ℕ
    x = get_or v (q.train * 720 + q.minute) 0

    same : (x + 0) % 2 ^ 64 ≡ x
    same = ap (λ (y : ℕ). y % 2 ^ 64) (add-zero x) ∙ small

    go : (b : Bool) → cond b (set v (q.train * 720 + q.minute) ((x + 0) % 2 ^ 64)) v ≡ v
    go true = ap (set v (q.train * 720 + q.minute)) same ∙ set-get_or v (q.train * 720 + q.minute) 0
    go false = refl
arrived-any T q (c ∷ cs) v small = refl
