-- The joint run in code, in the words of the steps: refusal 12, or rows that hold the list and words that hold the weights.
-- A row's words are the same in the run and in its image, and each entry of the list is bounded. Assumes nothing.
use Rattle.std.specs.Prelude.{◌≡◌, refl, Bool, true, false, cond, ◌||◌, List, [], ◌∷◌, ◌++◌, map, ℕ, suc, ◌*◌, ◌/◌, ◌≤◌, ◌<◌, length, get_or, take, Option, None, Some}
use Rattle.std.proofs.Common.{sym, ap, ◌∙◌, subst, arith}
use Rattle.std.proofs.lemmas.List.{take-append-le}
use Rattle.rules.specs.Lists.{each, any, below}
use Rattle.rules.specs.Files.{Case, files}
use Rattle.rules.specs.Turns.{State}
use Rattle.rules.specs.Joint.{Entry, first_list, joint}
use Rattle.theory_sound.specs.Facts.{Sound}
use Rattle.theory_lists.specs.Every.{Every, every_more}
use Rattle.theory_simulation.specs.Simulation.{joint-proper}
use Rattle.theory_trace.specs.Room.{room-minutes, list-fits}
use Rattle.theory_passes.proofs.Joint.{joint-passes}
use Rattle.theory_passes.specs.Bounds.{ByteDelays, Bounded, bounded-train}
use Rattle.theory_passes.proofs.Bounds.{joint-bounded}
use Rattle.theory_codes.specs.Codes.{state_of}
use Rattle.cut.specs.Packed.{packed}
use Rattle.cut.specs.Covers.{sets_fit}
use Rattle.rows.specs.Rows as rows
use Rattle.entries.specs.Coded.{bounded_fit}
use Rattle.entries.specs.Agreeing.{good_every}
use Rattle.entries.specs.Encoded as encoded
use Rattle.entries.specs.Answer as joints
use Rattle.out_images.specs.Rows.{row_of, SmallEntry}
use Rattle.rules.specs.Refusals.Result.{answer}
use Rattle.rules.specs.Demands.{passes}
use Rattle.rules.specs.Promised.{Bytes}
use Rattle.theory_sound.proofs.Accepted.{accepted-sound}
use Rattle.theory_codes.specs.Tables.{tables}
use Rattle.file_lookup.specs.declared.Sizes.{Sizes}
use Rattle.weigh.specs.Weigh.{Small}
use Rattle.theory_codes.specs.Lookups.{table-room}
use Rattle.laying.specs.Delays.{byte-delays}
use Rattle.visiting.specs.Visit.{Ways}
use Rattle.entries.specs.Onward.{tables_ways}
use Rattle.laying.specs.Tables.{tables-small}
use Rattle.laying.specs.Steps.{Begins, Came, Ran}
use Rattle.laying.specs.Steps.Came.{over, stands}

-- ---- a row's words

words_same : (es : List Entry) → rows.words (map encoded.row_of es) ≡ each row_of es
unfolding rows.words encoded.row_of row_of
words_same [] = refl
words_same (r ∷ es) = ap (λ (l : List ℕ). state_of r.mark ∷ packed r.cover ∷ l) (words_same es)

-- ---- the entries of the run

module _ (C : Case) (sound : Sound C) where
  entry-small : (r : Entry) → encoded.Good C r → SmallEntry (length C.trains) r
  entry-small r g =
      let fits = sets_fit (encoded.proper_packable C sound r.cover g.1) in
      record {
        train = omega (arith, bounded-train C sound r.mark g.0);
        mark = bounded_fit C sound r.mark g.0;
        cover = record { few = omega (arith, sound.few_trains); each_train = fits.0 ∙ sound.tabled; sets = fits.1 };
      }

  module _ (bytes : ByteDelays C) (m : ℕ) (within : m ≤ C.head.last_minute) where
    list-small : Every (SmallEntry (length C.trains)) (joint C m).list
    list-small =
        every_more (encoded.Good C) (SmallEntry (length C.trains)) entry-small (joint C m).list
        (good_every C (joint C m).list (joint-proper C sound m).0
        (subst (λ (s : State Entry). Every (λ r. Bounded C r.mark) s.list) (sym (joint-passes C sound m)) (joint-bounded C sound bytes m within)))

    -- what the run in code answers, with its rows at the start of the lent list
    run-came : {w end : ℕ} {r : Option ℕ} (rows list rest ws : List ℕ) → joints.Answer C m w rows ws → list ≡ rows ++ rest → length rows ≡ end → end ≤ 2050 → length ws ≡ 5760
        → (w ≡ end → r ≡ None) → ((w ≡ end → ⊥) → r ≡ Some (w / 2)) → Came C m r list ws
    run-came {w} {end} {r} rows list rest ws a e n few long full fits =
        go (passes C.head.room (first_list C) || any (λ n. passes C.head.room (joint C n).list) (below (suc m))) (room-minutes C m)
      where
        go : (b : Bool) → (joint C m).met ≡ cond b 12 0 → Came C m r list ws
        go true q = over q (full (omega (arith, a.refusal (omega arith))))
        go false q =
            let less : w < length rows = a.less q in
            let count : w ≡ length (joint C m).list * 2 = a.count q in
            let half : r ≡ Some (w / 2) = fits (λ z. omega arith) in
            stands q half (omega arith) (omega (arith, list-fits C m q m (omega arith), sound.in_room))
            (record {
              words =
                  ap (λ (l : List ℕ). take (length (joint C m).list * 2) l) e
                  ∙ ap (λ (i : ℕ). take i (rows ++ rest)) (sym count)
                  ∙ take-append-le w rows rest (omega arith)
                  ∙ a.list q
                  ∙ words_same (joint C m).list;
              small = list-small;
            })
            (record { long = omega arith; words = λ k t i j. a.weight q k t (omega arith) j })

-- ---- the run of accepted files

module _ (cs bk : List ℕ) (m : ℕ) {s : Sizes} (b : Begins cs bk m s) (tb : List ℕ) (looked : tb ≡ tables b.of) where
  begun-sound : Sound b.of
  begun-sound = accepted-sound cs bk b.of b.accepted

  pub room-few : get_or tb 3 0 ≤ 1024
  room-few = omega (arith, ap (λ (l : List ℕ). get_or l 3 0) looked, table-room b.of, begun-sound.in_room)

  pub stop-few : m < 720
  stop-few = omega (arith, b.within, begun-sound.in_window)

  pub small-tables : Bytes cs → Bytes bk → Small tb
  small-tables p q = subst Small (sym looked) (tables-small b.of begun-sound (byte-delays cs bk b.of p q b.accepted))

  pub ways_tables : Ways tb
  ways_tables = subst Ways (sym looked) (tables_ways b.of begun-sound)

  pub run_ran : Bytes cs → Bytes bk → {n w end : ℕ} {r : Option ℕ} (rows rest ws : List ℕ) → joints.Answers tb m n w rows ws → n ≡ 5760 → length rows ≡ end → end ≤ 2050 → length ws ≡ 5760
      → (w ≡ end → r ≡ None) → ((w ≡ end → ⊥) → r ≡ Some (w / 2)) → (C : Case) → files cs bk ≡ answer C → Ran C m r (rows ++ rest) ws tb
  run_ran p q {n} {w} {end} {r} rows rest ws a size len few long full fits C e =
      let same : b.of ≡ C = cc (sym b.accepted ∙ e) in
      let bytes = byte-delays cs bk b.of p q b.accepted in
      subst (λ (D : Case). Ran D m r (rows ++ rest) ws tb) same
      (record {
        looked = looked;
        came = run-came b.of begun-sound bytes m b.within rows (rows ++ rest) rest ws (a b.of begun-sound bytes looked b.within size) refl len few long full fits;
      })
