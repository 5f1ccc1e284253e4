-- A reading by offset that refuses gives a number, at a place of at most 919 that is within the file: the place of a field is bounded by the counts.
-- Assumes nothing.
use Rattle.std.specs.Prelude.{◌≡◌, Bool, List, eqb}
use Rattle.std.proofs.Math.Path.{refl}
use Rattle.std.proofs.Math.Bool.{true, false, cond}
use Prim.Native.Nat.{ℕ, zero, suc, ◌+◌, ◌≤◌, ◌<◌}
use native.Mathlib.Omega.{arith}
use Rattle.std.proofs.Math.ListN.{length}
use Rattle.std.proofs.Math.Dec.{leb}
use borrow.Author.Tests.{leb-true}
use Rattle.file_reader.specs.declared.Seen.{Seen}
use Rattle.file_reader.specs.Told.{Judged}
use Rattle.file_reader.specs.Told.Judged.{Sound, Unsound}
use Rattle.file_reader.specs.Told.Reading.{Accepted, Refused}
use Rattle.file_reader.specs.Reading.{field_verdict, next, judged, field_of, counts_seen, at_end, turn, read_from, start, reading}
use Rattle.file_reader.specs.Facts.{Within}
use Rattle.file_reader.specs.Laws.{sound_unsound, accepted-refused, passes, within-start}

-- a refusal at the end is 5, at the file's length
end_refused : (book : Bool) (size : ℕ) (s : Seen) (k i : ℕ) → at_end book size s ≡ Refused k i → (k ≡ 5) × (i ≡ size)
unfolding at_end
end_refused true size s k i h = absurd (accepted-refused (counts_seen s) k i h)
end_refused false size s k i h = go (eqb s.heads 0) (eqb s.counts.stations 0) (eqb s.counts.trains 0) h
  where
    go : (a b c : Bool) → cond a (Refused 5 size) (cond b (Refused 5 size) (cond c (Refused 5 size) (Accepted (counts_seen s)))) ≡ Refused k i → (k ≡ 5) × (i ≡ size)
    go true b c h = (cc, cc)
    go false true c h = (cc, cc)
    go false false true h = (cc, cc)
    go false false false h = absurd (accepted-refused (counts_seen s) k i h)

-- the number of a field that is not sound is not 0
unsound_no : (book : Bool) (l : List ℕ) (s : Seen) (k : ℕ) → field_of book l s ≡ Unsound k → 1 ≤ k
unfolding field_of
unsound_no book l s k h = go (field_verdict book l s) h
  where
    go : (n : ℕ) → judged n (next l s) ≡ Unsound k → 1 ≤ k
    go zero h = absurd (sound_unsound (next l s) k h)
    go (suc n) h = let z : suc n ≡ k = cc in omega arith

module _ (book : Bool) (l : List ℕ) where
  refused : (n : ℕ) (s : Seen) (k i : ℕ) → Within l s → length l < s.at + n → read_from n book l s ≡ Refused k i → (1 ≤ k) × (i ≤ 919) × (i ≤ length l)
  unfolding read_from
  refused zero s k i w m h = absurd (omega arith)
  refused (suc n) s k i w m h = go (leb (length l) s.at) refl (field_of book l s) refl h (λ u v p. refused n u k i v p)
    where
      go : (b : Bool) → leb (length l) s.at ≡ b → (f : Judged) → field_of book l s ≡ f
          → cond b (at_end book (length l) s) (turn (read_from n book l) s.at f) ≡ Refused k i
          → ((u : Seen) → Within l u → length l < u.at + n → read_from n book l u ≡ Refused k i → (1 ≤ k) × (i ≤ 919) × (i ≤ length l)) → (1 ≤ k) × (i ≤ 919) × (i ≤ length l)
      go true e f p h ih = let a = leb-true (length l) s.at e in let b = end_refused book (length l) s k i h in (omega arith, omega arith, omega arith)
      go false e (Sound u) p h ih = let q = passes l book s w u p in ih u q.there (omega arith) h
      go false e (Unsound j) p h ih = let a : j ≡ k = cc in let b : s.at ≡ i = cc in let c = unsound_no book l s j p in (omega arith, omega arith, omega arith)

  -- the turns never run out, and a place is at most 919 and within the file
  pub refused-place : (k i : ℕ) → reading book l ≡ Refused k i → (1 ≤ k) × (i ≤ 919) × (i ≤ length l)
  unfolding reading
  refused-place k i h = refused (suc (length l)) start k i (within-start l) (omega arith) h
