-- Where the tracks of a case stand: track k begins at 8 for the head, 4 for each station and 6 for each track before it; each tag moves the
-- offset by its own field, since tags never fall. Assumes nothing.
use Rattle.std.specs.Prelude.{◌≡◌, refl, Bool, true, cond, not, List, ℕ, ◌+◌, ◌*◌, ◌≤◌, length, get_or, ltb, eqb}
use Rattle.std.proofs.Math.Bool.{false}
use Rattle.std.proofs.Common.{true≢false, arith, ltb-false, eqb-true}
use Rattle.file_bodies.specs.Bodies.{bad_length}
use Rattle.file_reader.specs.declared.Seen.{Seen}
use Rattle.file_reader.specs.Reading.{out_of_place, tag_of, size_of, field_verdict, base, counted, newer, after, next, start}
use Rattle.file_reader.specs.Facts.{Within}
use Rattle.file_reader.specs.Laws.{Framed, field_framed, head_first, six, head-length, station-length, track-length}

pub record Placed (s : Seen) : Type 0 where
  pub none_yet : s.tag ≤ 2 → s.counts.tracks ≡ 0
  pub no_couples : s.tag ≤ 5 → s.counts.couples ≡ 0
  pub so_far : s.tag ≤ 3 → s.at ≡ base s + 6 * s.counts.tracks
  pub headed : s.heads ≡ 0 → s.tag ≡ 0

pub placed-start : Placed start
placed-start = record { none_yet = λ h. refl; no_couples = λ h. refl; so_far = λ h. refl; headed = λ h. refl }

-- in a case a tag never falls, and one that is no head comes after a head
pub rises : (s : Seen) (tag : ℕ) → out_of_place false s tag ≡ false → (tag ≡ 1 → ⊥) → s.tag ≤ tag
unfolding out_of_place
rises s tag h k = go (eqb s.heads 0) (eqb tag 1) refl h
  where
    go : (a b : Bool) → eqb tag 1 ≡ b → cond a (not b) (cond b true (ltb tag s.tag)) ≡ false → s.tag ≤ tag
    go true true e h = absurd (k (eqb-true tag 1 e))
    go true false e h = absurd (true≢false h)
    go false true e h = absurd (true≢false h)
    go false false e h = ltb-false tag s.tag h

pub heads-first : (s : Seen) (tag : ℕ) → out_of_place false s tag ≡ false → (tag ≡ 1 → ⊥) → s.heads ≡ 0 → ⊥
unfolding out_of_place
heads-first s tag h k z = go (eqb tag 1) refl (rw z at h)
  where
    go : (b : Bool) → eqb tag 1 ≡ b → not b ≡ false → ⊥
    go true e h = k (eqb-true tag 1 e)
    go false e h = true≢false h

module _ (l : List ℕ) (s : Seen) (p : Placed s) where
  placed-after : (tag n x : ℕ) → Framed (length l) false s tag n → Placed (after s tag (s.at + 3 + n) x)
  unfolding after counted newer
  placed-after tag n x f =
      six (λ t. out_of_place false s t ≡ false → bad_length t n ≡ false → Placed (after s t (s.at + 3 + n) x))
      tag f.low f.high
      (λ m q. let h = head_first false s m in let t = p.headed h in let a = p.none_yet (omega arith) in let b = p.so_far (omega arith) in let c = head-length n q in
      record { none_yet = λ k. a; no_couples = λ k. p.no_couples (omega arith); so_far = λ k. omega arith; headed = λ k. absurd (omega arith) })
      (λ m q. let r = rises s 2 m (λ e. omega arith) in let h = heads-first s 2 m (λ e. omega arith) in let a = p.none_yet (omega arith) in let b = p.so_far (omega arith) in let c = station-length n q in
      record { none_yet = λ k. a; no_couples = λ k. p.no_couples (omega arith); so_far = λ k. omega arith; headed = λ k. absurd (h k) })
      (λ m q. let r = rises s 3 m (λ e. omega arith) in let h = heads-first s 3 m (λ e. omega arith) in let b = p.so_far (omega arith) in let c = track-length n q in
      record { none_yet = λ k. absurd (omega arith); no_couples = λ k. p.no_couples (omega arith); so_far = λ k. omega arith; headed = λ k. absurd (h k) })
      (λ m q. let r = rises s 4 m (λ e. omega arith) in let h = heads-first s 4 m (λ e. omega arith) in
      record {
        none_yet = λ k. absurd (omega arith);
        no_couples = λ k. p.no_couples (omega arith);
        so_far = λ k. absurd (omega arith);
        headed = λ k. absurd (h k);
      })
      (λ m q. let r = rises s 5 m (λ e. omega arith) in let h = heads-first s 5 m (λ e. omega arith) in
      record {
        none_yet = λ k. absurd (omega arith);
        no_couples = λ k. p.no_couples (omega arith);
        so_far = λ k. absurd (omega arith);
        headed = λ k. absurd (h k);
      })
      (λ m q. let h = heads-first s 6 m (λ e. omega arith) in
      record { none_yet = λ k. absurd (omega arith); no_couples = λ k. absurd (omega arith); so_far = λ k. absurd (omega arith); headed = λ k. absurd (h k) })
      f.placed f.possible

  module _ (w : Within l s) (h : field_verdict false l s ≡ 0) where
    pub placed-next : Placed (next l s)
    unfolding next
    placed-next = placed-after (tag_of l s) (size_of l s) (get_or l (s.at + 3) 0) (field_framed l false s w h)
