-- The arguments of a call are judged by the code as by 01: of a sound case the tables, the number of trains and the last minute stand in
-- the bytes, and each way to answer is one of 01's. Assumes nothing.
use Rattle.std.specs.Prelude.{◌≡◌, Bool, ◌||◌, List, [], ℕ, ◌+◌, ◌≤◌, ◌<◌, get_or, ltb, eqb}
use Rattle.std.proofs.Math.Path.{refl, ap, sym}
use Rattle.std.proofs.Common.{◌∙◌, map-id}
use Rattle.std.proofs.Math.Bool.{true, false, cond, not}
use Rattle.std.proofs.Math.ListN.{length}
use Rattle.std.proofs.Math.Dec.{leb}
use borrow.Author.Tests.{lt-ltb, le-ltb, le-leb, lt-leb}
use Rattle.rules.specs.Lists.{any, below}
use Rattle.rules.specs.Refusals.{Result, then}
use Rattle.rules.specs.Refusals.Result.{refused, answer}
use Rattle.rules.specs.Files.{Case, Head, byte, word, head_of, case_of, files}
use Rattle.rules.specs.Calls.{choice_broken, no_such_train}
use Rattle.theory_sound.specs.Bodies.{pairs-count}
use Rattle.theory_sound.specs.Accepted.{accepted_reads}
use Rattle.file_fields.specs.At.{word-drop}
use Rattle.file_bodies.specs.Search.{any_same, any_below_lem}
use Rattle.file_reader.specs.Stands.{head-of}
use Rattle.file_lookup.specs.declared.Sizes.{Sizes}
use Rattle.file_lookup.specs.Told.{Files}
use Rattle.file_lookup.specs.Told.Files.{Sound, Unsound}
use Rattle.file_lookup.specs.Answers.{sizes_of, files_of}
use Rattle.file_lookup.specs.Laws.{sound_unsound}
use Rattle.file_lookup.specs.Lookup.{table_bytes, train_place}
use Rattle.file_lookup.specs.Tables.{case-pairs}
use Rattle.file_arguments.specs.Arguments.{for_single, for_train, for_stop, past_table, choice_wrong}

-- ---- the choice

module _ (cs bk : List ℕ) (C : Case) (h : files cs bk ≡ answer C) where
  past_agrees : (x : List ℕ) (k : ℕ) → k < length C.trains → past_table cs bk x k ≡ leb (length (get_or C.tables k [])) (get_or x k 0)
  unfolding past_table
  past_agrees x k p = ap (λ (n : ℕ). leb n (byte x k)) (sym (pairs-count (table_bytes cs bk (byte cs (train_place cs k + 4)))) ∙ ap length (case-pairs cs bk C h k p))

  pub choice_agrees : (x : List ℕ) → choice_wrong cs bk (length C.trains) x ≡ choice_broken C x
  unfolding choice_wrong choice_broken
  choice_agrees x =
      go (eqb (length x) (length C.trains))
      (any_same (past_table cs bk x) (λ k. leb (length (get_or C.tables k [])) (get_or x k 0)) (length C.trains) (past_agrees x)
      ∙ sym (ap (any (λ k. leb (length (get_or C.tables k [])) (get_or x k 0))) (sym (map-id (below (length C.trains)))) ∙ any_below_lem (λ k. leb (length (get_or C.tables k [])) (get_or x k 0)) (λ (k : ℕ). k) (length C.trains)))
    where
      go : (b : Bool) {p q : Bool} → p ≡ q → cond b p true ≡ not b || q
      go true e = e
      go false e = refl

  -- the last minute stands in the head's field
  pub minute_agrees : word cs 3 ≡ C.head.last_minute
  unfolding case_of head_of
  minute_agrees =
      let w = accepted_reads cs bk C h in
      sym (word-drop cs 3 0 3 refl) ∙ sym (ap (λ (D : Case). D.head.last_minute) w.assembled ∙ ap (λ (a : Head). a.last_minute) (head-of cs w.of_case w.case_read))

-- ---- the ways to answer

module _ (cs bk : List ℕ) where
  -- the files are refused
  module _ {r : Files} {n f i : ℕ} (e : r ≡ files_of (files cs bk)) (p : r ≡ Unsound n f i) where
    stays : (go : Case → Result Case) → r ≡ files_of (then (files cs bk) go)
    stays go = from (files cs bk) refl
      where
        from : (a : Result Case) → files cs bk ≡ a → r ≡ files_of (then a go)
        from (refused q) h = e ∙ ap files_of h
        from (answer C) h = absurd (sound_unsound _ _ _ _ (sym (sym p ∙ e ∙ ap files_of h)))

    pub single-files : (x : List ℕ) (k : ℕ) → r ≡ files_of (for_single cs bk x k)
    unfolding for_single
    single-files x k = stays _

    pub train-files : (k : ℕ) → r ≡ files_of (for_train cs bk k)
    unfolding for_train
    train-files k = stays _

    pub stop-files : (m : ℕ) → r ≡ files_of (for_stop cs bk m)
    unfolding for_stop
    stop-files m = stays _

  -- the files are sound
  module _ {r : Files} {s : Sizes} (e : r ≡ files_of (files cs bk)) (p : r ≡ Sound s) where
    record Of : Type 0 where
      inside : Case
      is : files cs bk ≡ answer inside
      sizes : s ≡ sizes_of inside

    of_case : Of
    of_case = from (files cs bk) refl
      where
        from : (a : Result Case) → files cs bk ≡ a → Of
        from (refused q) h = absurd (sound_unsound _ _ _ _ (sym p ∙ e ∙ ap files_of h))
        from (answer C) h = let x = sym p ∙ e ∙ ap files_of h in record { inside = C; is = h; sizes = cc x }

    trains : s.trains ≡ length of_case.inside.trains
    trains = ap (λ (t : Sizes). t.trains) of_case.sizes

    -- a call whose arguments stand answers as the files do
    answers : r ≡ Sound (sizes_of of_case.inside)
    answers = p ∙ ap Sound of_case.sizes

    known-train : (k : ℕ) → leb (length of_case.inside.trains) k ≡ leb s.trains k
    known-train k = ap (λ (n : ℕ). leb n k) (sym trains)

    module _ (x : List ℕ) (k : ℕ) {b : Bool} (w : b ≡ choice_wrong cs bk s.trains x) where
      choice-is : choice_broken of_case.inside x ≡ b
      choice-is = sym (choice_agrees cs bk of_case.inside of_case.is x) ∙ ap (λ (n : ℕ). choice_wrong cs bk n x) (sym trains) ∙ sym w

      pub single-choice : b ≡ true → Unsound 15 0 0 ≡ files_of (for_single cs bk x k)
      unfolding for_single
      single-choice t = sym (rw (of_case.is, choice-is, t))

      pub single-train : b ≡ false → s.trains ≤ k → Unsound 16 0 0 ≡ files_of (for_single cs bk x k)
      unfolding for_single no_such_train
      single-train t h = sym (rw (of_case.is, choice-is, t, known-train k, le-leb s.trains k h))

      pub single-sound : b ≡ false → k < s.trains → r ≡ files_of (for_single cs bk x k)
      unfolding for_single no_such_train
      single-sound t h = answers ∙ sym (rw (of_case.is, choice-is, t, known-train k, lt-leb s.trains k h))

    pub train-none : (k : ℕ) → s.trains ≤ k → Unsound 16 0 0 ≡ files_of (for_train cs bk k)
    unfolding for_train no_such_train
    train-none k h = sym (rw (of_case.is, known-train k, le-leb s.trains k h))

    pub train-sound : (k : ℕ) → k < s.trains → r ≡ files_of (for_train cs bk k)
    unfolding for_train no_such_train
    train-sound k h = answers ∙ sym (rw (of_case.is, known-train k, lt-leb s.trains k h))

    module _ (m : ℕ) {t : ℕ} (w : t ≡ word cs 3) where
      last-is : ltb of_case.inside.head.last_minute m ≡ ltb t m
      last-is = ap (λ (n : ℕ). ltb n m) (sym (minute_agrees cs bk of_case.inside of_case.is) ∙ sym w)

      pub stop-late : t < m → Unsound 17 0 0 ≡ files_of (for_stop cs bk m)
      unfolding for_stop
      stop-late h = sym (rw (of_case.is, last-is, lt-ltb t m h))

      pub stop-sound : m ≤ t → r ≡ files_of (for_stop cs bk m)
      unfolding for_stop
      stop-sound h = answers ∙ sym (rw (of_case.is, last-is, le-ltb t m h))
