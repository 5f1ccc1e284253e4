-- The pass in code is the pass of the definitions on rows, for any test of who is served: what stands before the first of them stays, what comes after it
-- was walked, and what entered is put at the end. Assumes nothing.
use Rattle.std.specs.Prelude.{◌≡◌, Bool, true, false, List, [], ◌∷◌, ◌++◌, ℕ, suc, ◌+◌, ◌-◌, ◌*◌, ◌≤◌, ◌<◌, length, take}
use Rattle.std.proofs.Common.{ap, ap₂, sym, ◌∙◌, subst, append_assoc, arith, length-append, take-take}
use Rattle.std.proofs.Math.Seq.{slice, length-slice}
use Rattle.rules.specs.Lists.{one, each}
use Rattle.theory_lists.specs.Each.{each_append}
use Rattle.theory_lists.specs.Every.{Every, every_append}
use Rattle.cut.specs.Cut.{Met}
use Rattle.theory_lists.specs.Writes.{Put, put_join, put_length, put_start, put_taken}
use Rattle.rows.specs.Rows.{Row, row, words, rows_of, rows_in, entered_rows}
use Rattle.rows.specs.Written.{words_append, words-length, rows_in-words, rows_in-length, rows_split}
use Rattle.asking.specs.declared.Job.{Job}
use Rattle.asking.specs.declared.Count.{Count}
use Rattle.serving.specs.declared.Ends.{Ends}
use Rattle.asking.specs.Ask.{met_for, Gathered}
use Rattle.serving.specs.Pass.{hold_by, enter_by, covers_by, pass_by, met_in, Went, Two, Passed, Space}
use Rattle.serving.specs.Pass.Two.{fits, over}
use Rattle.serving.specs.Outputs.{came-taken, two_bounds}
use Rattle.serving.specs.Passing.{hold-quiet, enter-quiet, went-quiet}

-- ---- rows that entered

-- each cover that enters has a row
entered-length : (s b : ℕ) (two : Bool) (cs : List ℕ) → length cs ≤ length (entered_rows s b two cs)
unfolding entered_rows
entered-length s b two [] = omega arith
entered-length s b two (c ∷ cs) = go two (entered-length s b two cs)
  where
    go : (x : Bool) → length cs ≤ length (entered_rows s b two cs) → suc (length cs) ≤ length ((row s c ∷ one x (row b c)) ++ entered_rows s b two cs)
    go true h = omega arith
    go false h = omega arith

-- ---- the pass

module _ (test : Row → Bool) (q : Job) (n i : ℕ) (rows : List ℕ) where
  abbrev L : List Row
  L = rows_in n rows

  abbrev es : Met
  es = met_for q L

  abbrev A : List ℕ
  A = covers_by test q L

  abbrev S : List Row
  S = rows_of (slice (i * 2) (n * 2) rows)

  abbrev H : List Row
  H = each (hold_by test es) S

  abbrev E : List Row
  E = entered_rows q.stands q.blocks q.two A

  module _ {tmp met held entering : List ℕ} (lent : Space rows tmp met held entering) (long : n * 2 < length rows) (before : i ≤ n)
      (quiet : Every (λ y. test y ≡ false) (rows_in i rows)) where
    holds_are : each (hold_by test es) L ≡ rows_in i rows ++ H
    holds_are =
        ap (each (hold_by test es)) (rows_split i n rows before (omega arith))
        ∙ each_append (hold_by test es) (rows_in i rows) S
        ∙ ap (λ (l : List Row). l ++ H) (hold-quiet test es (rows_in i rows) quiet)

    enters_are : A ≡ each (enter_by test es) S
    enters_are =
        ap (each (enter_by test es)) (rows_split i n rows before (omega arith))
        ∙ each_append (enter_by test es) (rows_in i rows) S
        ∙ ap (λ (l : List ℕ). l ++ each (enter_by test es) S) (enter-quiet test es (rows_in i rows) quiet)

    passed_are : pass_by test q L ≡ rows_in i rows ++ (H ++ E)
    passed_are = ap (λ (l : List Row). l ++ E) holds_are ∙ append_assoc (rows_in i rows) H E

    passed_length : length (pass_by test q L) * 2 ≡ i * 2 + length (words H) + length E * 2
    passed_length =
        omega (
          arith,
          ap length passed_are,
          length-append (rows_in i rows) (H ++ E),
          length-append H E,
          rows_in-length i rows (omega arith),
          words-length H,
        )

    met-is : {c : Count} {met' : List ℕ} → Gathered es c.partner c.all met' → met_in q.cap c.partner (take c.all met') ≡ es
    met-is {c} {met'} f =
        ap₂ (λ (a b : List ℕ). record { cap = q.cap; partner = a; own = b }) (take-take c.partner c.all met' f.some ∙ f.partner) f.own

    copy_is : {x : ℕ} {tmp' : List ℕ} → Put tmp 0 (slice (i * 2) (n * 2) rows) x tmp' → rows_in (n - i) tmp' ≡ S
    copy_is {x} {tmp'} f =
        let s : length (slice (i * 2) (n * 2) rows) ≡ n * 2 - i * 2 = length-slice (i * 2) (n * 2) rows (omega arith) in
        let e : (n - i) * 2 ≡ x = omega (arith, f.place, lent.tmp_long) in
        ap (λ (y : ℕ). rows_of (take y tmp')) e ∙ ap rows_of (put_start f (omega (arith, lent.tmp_long)))

    walked : {z : Ends} {r : ℕ} {rows' entering' rows'' : List ℕ} → Two rows (i * 2) (words H) z.place rows' entering 0 A z.entering entering'
        → Put rows' z.place (words (entered_rows q.stands q.blocks q.two (take z.entering entering'))) r rows''
        → Passed (pass_by test q L) A (record { place = r; entering = z.entering; moved = z.moved }) rows'' entering'
    walked {z} {r} {rows'} {entering'} {rows''} (fits h k f g) w =
        let few : length A ≤ length entering = omega (arith, g.place, lent.entering_long) in
        let took : take z.entering entering' ≡ A = came-taken g few in
        let all : Put rows (i * 2) (words H ++ words E) r rows'' = put_join f (rw took at w) in
        let same : length rows'' ≡ length rows = put_length all in
        let both : length (words H ++ words E) ≡ length (words H) + length E * 2 = length-append (words H) (words E) ∙ ap (λ (y : ℕ). length (words H) + y) (words-length E) in
        record {
          place = omega (arith, all.place, passed_length);
          list = λ y. put_taken all (omega (arith, all.place))
              ∙ ap₂ ◌++◌ (sym (rows_in-words i rows (omega arith))) (sym (words_append H E))
              ∙ sym (ap words passed_are ∙ words_append (rows_in i rows) (H ++ E));
          few = omega (arith, g.place, (two_bounds (fits h k f g)).entering_length);
          covers = λ y. took;
        }
    walked {z} {r} {rows'} {entering'} {rows''} (over e k h l m') w =
        let same : length rows'' ≡ length rows' = put_length w in
        record {
          place = omega (arith, w.place, passed_length, entered-length q.stands q.blocks q.two A);
          list = λ y. absurd (omega (arith, w.place));
          few = omega (arith, lent.entering_long);
          covers = λ y. absurd (omega (arith, w.place));
        }

    pub pass_law : {x r : ℕ} {c : Count} {z : Ends} {tmp' met' rows' entering' rows'' : List ℕ} → Gathered (met_for q (rows_in n rows)) c.partner c.all met' → Put tmp 0 (slice (i * 2) (n * 2) rows) x tmp'
        → Two rows (i * 2) (words (each (hold_by test (met_in q.cap c.partner (take c.all met'))) (rows_in (n - i) tmp'))) z.place rows' entering 0
        (each (enter_by test (met_in q.cap c.partner (take c.all met'))) (rows_in (n - i) tmp')) z.entering entering'
        → Put rows' z.place (words (entered_rows q.stands q.blocks q.two (take z.entering entering'))) r rows''
        → Passed (pass_by test q (rows_in n rows)) (covers_by test q (rows_in n rows)) (record { place = r; entering = z.entering; moved = z.moved }) rows'' entering'
    pass_law {c = c} {z = z} f g t w = walked {z = z} (rw enters_are (rw (met-is {c = c} f, copy_is g) at t)) w

    -- what moved of the rows that were walked is what moved of all
    pub pass-went : (moved : ℕ) {x : ℕ} {c : Count} {tmp' met' : List ℕ} → Gathered (met_for q (rows_in n rows)) c.partner c.all met' → Put tmp 0 (slice (i * 2) (n * 2) rows) x tmp'
        → Every (λ y. Went (hold_by test (met_in q.cap c.partner (take c.all met')) y) (enter_by test (met_in q.cap c.partner (take c.all met')) y) moved y) (rows_in (n - i) tmp')
        → Every (λ y. Went (hold_by test (met_for q (rows_in n rows)) y) (enter_by test (met_for q (rows_in n rows)) y) moved y) (rows_in n rows)
    pass-went moved {c = c} {met' = met'} f g w =
        subst (λ (l : List Row). Every (λ y. Went (hold_by test es y) (enter_by test es y) moved y) l) (sym (rows_split i n rows before (omega arith)))
        (every_append (λ y. Went (hold_by test es y) (enter_by test es y) moved y) (rows_in i rows) S (went-quiet test es moved (rows_in i rows) quiet)
        (subst (λ (e : Met). Every (λ y. Went (hold_by test e y) (enter_by test e y) moved y) S) (met-is {c = c} f)
        (subst (λ (l : List Row). Every (λ y. Went (hold_by test (met_in q.cap c.partner (take c.all met')) y) (enter_by test (met_in q.cap c.partner (take c.all met')) y) moved y) l) (copy_is g) w)))
