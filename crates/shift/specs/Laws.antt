-- The listing's call gives what the program prints: its text where it is answered, and where it is refused the refusal of which the line is written.
-- It goes by the cases of the run over the whole window. Assumes nothing.
use Rattle.std.specs.Prelude.{◌≡◌}
use Rattle.std.proofs.Math.Path.{refl, sym, ap}
use Rattle.std.proofs.Common.{◌∙◌, arith, length-take-le}
use mathlib.Core.List.{List, [], ◌∷◌, ◌++◌, append_assoc}
use Prim.Native.Nat.{ℕ, zero, suc, ◌+◌, ◌-◌, ◌≤◌}
use Rattle.std.proofs.Math.ListN.{length, take, drop, replicate, length-append}
use Rattle.std.proofs.lemmas.List.Edits.{sets-eq}
use Rattle.std.proofs.Math.Seq.{length-sets, take_at}
use Rattle.rules.specs.Refusals.{Refusal, nowhere, Result, then, answer_unless}
use Rattle.rules.specs.Refusals.Result.{refused, answer}
use Rattle.rules.specs.Files.{Case, files}
use Rattle.rules.specs.Joint.{joint}
use Rattle.rules.specs.Listing.{decimal, line, refused_word, refused_line}
use Rattle.rules.specs.Calls.{Run, run_to, whole_run, text_of, filled, Lent, lent, listing_call}
use Rattle.rules.specs.Program.{text_for, printed}
use Rattle.theory_sound.proofs.Places.{files-told}
use Rattle.theory_lists.specs.Writes.{Put}
use Rattle.out_listing.specs.Suffices.{decimal-most}
use Rattle.laying.specs.declared.Answer.{Answer}
use Rattle.laying.specs.Answers.{answer_of}
use Rattle.desk.specs.Answers.{lent_three, GivesText}
use Rattle.desk.specs.Ends.{long, call_long}
use Rattle.shift.specs.Shift.{Prints}

-- a refusal has a number
whole-told : (cs bk : List ℕ) (r : Refusal) → whole_run cs bk ≡ refused r → 1 ≤ r.number
unfolding whole_run
whole-told cs bk r h = go (files cs bk) refl h
  where
    met : (C : Case) (n : ℕ) → answer_unless {A = Run} n nowhere (record { of = C; state = joint C C.head.last_minute }) ≡ refused r → 1 ≤ r.number
    met C zero q = let z : ◌≡◌ {A = ℕ} 0 1 = cc q in absurd (omega arith)
    met C (suc n) q =
        let is : ◌≡◌ {A = Refusal} (record { number = suc n; file = 0; place = 0 }) r = cc q in
        omega (arith, ap (λ (a : Refusal). a.number) is)

    go : (R : Result Case) → files cs bk ≡ R → then R (λ C. run_to C.head.last_minute C) ≡ refused r → 1 ≤ r.number
    go (refused s) e q =
        let is : s ≡ r = cc q in
        omega (arith, ap (λ (a : Refusal). a.number) is, (files-told cs bk s e).given.0)
    go (answer C) e q = met C (joint C C.head.last_minute).met q

-- a line of a refusal is short
line-few : (r : Refusal) → length (refused_line r) ≤ 80
unfolding refused_line
line-few r =
    omega (
      arith,
      length-append refused_word (32 ∷ line (decimal r.number ∷ decimal r.file ∷ decimal r.place ∷ [])),
      length-append (decimal r.number) (32 ∷ line (decimal r.file ∷ decimal r.place ∷ [])),
      length-append (decimal r.file) (32 ∷ line (decimal r.place ∷ [])),
      length-append (decimal r.place) (10 ∷ []),
      decimal-most r.number,
      decimal-most r.file,
      decimal-most r.place,
    )

module _ (cs bk rows weights text : List ℕ) {a : Answer} {rows' weights' text' : List ℕ}
    (enough : 16384 ≤ length rows) (space : 40320 ≤ length weights) (size : length text ≡ 32768)
    (g : GivesText answer_of (listing_call cs bk (lent_three rows weights text)) a rows' weights' text') where
  called : listing_call cs bk (lent_three rows weights text) ≡ lent 32768 (λ u. length (text_of u)) text_of (lent_three rows weights text) (whole_run cs bk)
  unfolding listing_call
  called = call_long 32768 (λ u. length (text_of u)) text_of (lent_three rows weights text) (whole_run cs bk) (long 32768 rows weights text enough space (omega arith))

  answer-is : a ≡ answer_of (lent 32768 (λ u. length (text_of u)) text_of (lent_three rows weights text) (whole_run cs bk)).result
  answer-is = g.two.result ∙ ap (λ (L : Lent ℕ). answer_of L.result) called

  text_is : text' ≡ (lent 32768 (λ u. length (text_of u)) text_of (lent_three rows weights text) (whole_run cs bk)).memory.text
  text_is = g.text_is ∙ ap (λ (L : Lent ℕ). L.memory.text) called

  -- answered, the first bytes of the text are the listing
  pub prints_listing : a.refusal ≡ 0 → Prints cs bk a.value text'
  unfolding printed filled
  prints_listing z = go (whole_run cs bk) refl answer-is text_is
    where
      go : (U : Result Run) → whole_run cs bk ≡ U → a ≡ answer_of (lent 32768 (λ u. length (text_of u)) text_of (lent_three rows weights text) U).result
          → text' ≡ (lent 32768 (λ u. length (text_of u)) text_of (lent_three rows weights text) U).memory.text → Prints cs bk a.value text'
      go (refused r) e q t = absurd (omega (arith, whole-told cs bk r e, ap (λ (b : Answer). b.refusal) q))
      go (answer u) e q t =
          let n : a.value ≡ length (text_of u) = ap (λ (b : Answer). b.value) q in
          let rest : List ℕ = replicate (32768 - length (text_of u)) 0 ++ drop 32768 text in
          let written : text' ≡ text_of u ++ rest = t ∙ append_assoc (text_of u) (replicate {A = ℕ} (32768 - length (text_of u)) 0) (drop 32768 text) in
          let few : a.value ≤ length text' = omega (arith, ap length written, length-append (text_of u) rest) in record {
            fits = few;
            count = sym (length-take-le a.value text' few);
            bytes = ap (λ (l : List ℕ). take a.value l) written ∙ take_at (text_of u) rest a.value (sym n) ∙ ap text_for (sym e);
          }

  -- refused, the line that is written is the refusal's
  pub prints_line : (a.refusal ≡ 0 → ⊥) → length text' ≡ 32768 → {r : ℕ} {text'' : List ℕ}
      → Put text' 0 (refused_line (record { number = a.refusal; file = a.file; place = a.place })) r text'' → Prints cs bk r text''
  unfolding printed
  prints_line some same {r} {text''} w = go (whole_run cs bk) refl answer-is
    where
      line-is : List ℕ
      line-is = refused_line (record { number = a.refusal; file = a.file; place = a.place })

      go : (U : Result Run) → whole_run cs bk ≡ U → a ≡ answer_of (lent 32768 (λ u. length (text_of u)) text_of (lent_three rows weights text) U).result → Prints cs bk r text''
      go (answer u) e q = absurd (some (ap (λ (b : Answer). b.refusal) q))
      go (refused s) e q =
          let few = line-few (record { number = a.refusal; file = a.file; place = a.place }) in
          let n : r ≡ length line-is = omega (arith, w.place) in
          let written : text'' ≡ line-is ++ drop (0 + length line-is) text' = w.list ∙ sets-eq line-is text' 0 (omega arith) in record {
            fits = omega (arith, ap length w.list, length-sets text' 0 line-is);
            count = sym (length-take-le r text'' (omega (arith, ap length w.list, length-sets text' 0 line-is)));
            bytes =
                ap (λ (l : List ℕ). take r l) written
                ∙ take_at line-is (drop (0 + length line-is) text') r (sym n)
                ∙ ap (λ (b : Answer). refused_line (record { number = b.refusal; file = b.file; place = b.place })) q
                ∙ ap text_for (sym e);
          }
