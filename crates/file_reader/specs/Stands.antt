-- Where an accepted case has its head: at its first field, so that it can be read without a walk. The state at the end of the reading says so,
-- and the reading carries it there. Assumes nothing.
use Rattle.std.specs.Prelude.{◌≡◌, refl, List, ℕ, length, drop, eqb}
use Rattle.std.proofs.Math.Path.{ap, sym}
use Rattle.std.proofs.Common.{◌∙◌, subst}
use borrow.Author.Tests.{eqb-false}
use Rattle.rules.specs.Refusals.{verdict}
use Rattle.rules.specs.Refusals.Result.{answer}
use Rattle.rules.specs.Files.{File, Contents, kind_of, byte, head_of, field_rules, more, end_rules, read}
use Rattle.rules.specs.Files.File.{case}
use Rattle.theory_lists.specs.Tests.{or_three_false}
use Rattle.theory_sound.specs.Verdicts.{Unbroken, with_field}
use Rattle.file_fields.specs.Fields.{past}
use Rattle.file_fields.specs.At.{tag-here, body_here, body-here}
use Rattle.file_reader.specs.declared.Seen.{Seen}
use Rattle.file_reader.specs.Reading.{field_verdict, after, next, start}
use Rattle.file_reader.specs.Facts.{Within}
use Rattle.file_reader.specs.Laws.{within-start, within-next}
use Rattle.file_reader.specs.Holds.{is_book, Holds, field_agrees}
use Rattle.file_reader.specs.More.{holds-next}
use Rattle.file_reader.specs.Agree.{holds-start}
use Rattle.file_reader.specs.Along.{read_along}

-- a state of the reading at place i that holds what was read
record Reached (f : File) (l : List ℕ) (i : ℕ) (c : Contents) : Type 0 where
  seen : Seen
  here : seen.at ≡ i
  inside : Within l seen
  holds : Holds f l seen c

module _ (f : File) (l : List ℕ) where
  reached-more : (c : Contents) (i : ℕ) → verdict (field_rules f c i (drop i l)) ≡ 0 → Reached f l i c → Reached f l (past l i) (with_field c i (drop i l))
  unfolding next after
  reached-more c i v p =
      let s = p.seen in
      let e : field_verdict (is_book f) l s ≡ 0 = sym (field_agrees f l s c p.holds p.inside) ∙ (rw p.here v) in
      record {
        seen = next l s;
        here = ap (past l) p.here;
        inside = within-next l (is_book f) s p.inside e;
        holds = rw (tag-here l i, body-here l i) (subst (λ (j : ℕ). Holds f l (next l s) (more c j (kind_of (byte l j)) (body_here l j))) p.here (holds-next f l s c p.holds p.inside e));
      }

  ends : (d : Contents) → read f l ≡ answer d → Reached f l (length l) d × Unbroken (end_rules f d)
  ends d r = read_along f l (Reached f l) reached-more d (record { seen = start; here = refl; inside = within-start l; holds = holds-start f l }) r

module _ (l : List ℕ) (d : Contents) (r : read case l ≡ answer d) where
  -- an accepted case has a head
  headed : (ends case l d r).0.seen.heads ≡ 0 → ⊥
  unfolding end_rules
  headed z =
      let e = ends case l d r in
      let t : d.rank ≡ 0 = e.0.holds.same_rank ∙ e.0.holds.is_of_file.placed.headed z in
      eqb-false d.rank 0 (or_three_false (eqb d.rank 0) (eqb (length d.stations) 0) (eqb (length d.trains) 0) e.1.0).0 t

  pub head-of : d.head ≡ head_of (drop 3 l)
  head-of = sym ((ends case l d r).0.holds.is_of_file.head_stands headed)
