-- The first list in code, read as an outcome, is the first list of the run on rows: refused where it has more rows than the room. Assumes nothing.
use Rattle.std.specs.Prelude.{◌≡◌, Bool, length, take, replicate, eqb}
use Rattle.std.proofs.Math.Path.{refl}
use Rattle.std.proofs.Common.{ap, sym, ◌∙◌, subst}
use Rattle.std.proofs.Math.Bool.{true, false, cond}
use mathlib.Core.List.{List, map}
use Prim.Native.Nat.{ℕ, zero, suc, ◌+◌, ◌-◌, ◌*◌, ◌/◌, ◌%◌, ◌^◌, ◌≤◌, ◌<◌}
use Rattle.std.proofs.Math.Decide.{dec_lt}
use native.Mathlib.Omega.{arith}
use borrow.Author.Tests.{ne_eqb, ltb-true}
use Rattle.std.proofs.Math.ListN.{get_or}
use Rattle.std.proofs.Math.Dec.{ltb}
use Rattle.std.proofs.Math.Pow.{pow_mono}
use Rattle.rules.specs.Lists.{below}
use Rattle.theory_lists.specs.Every.{Every, every_each, every_map}
use Rattle.theory_lists.specs.Below.{every_below}
use Rattle.cut.specs.Cut.{full_of}
use Rattle.theory_lists.specs.Writes.{Put, put_start, put_length, put_fits, zeros-at}
use Rattle.rows.specs.Rows.{Row, rows_of, words}
use Rattle.rows.specs.Written.{words-length, rows_of-words}
use Rattle.weigh.specs.Weigh.{Small}
use Rattle.waiting.specs.Notes.{Flagged}
use Rattle.opening.specs.First.{first_byte, first_bytes, first_row, first_rows}
use Rattle.visiting.specs.Visit.{guard, read, Kept, Ways}
use Rattle.visiting.specs.Visit.Outcome.{stands}
use Rattle.clearing.specs.Clear.{Due, Enrols}
use Rattle.clearing.specs.Clearing.{Proper, first-due}
use Rattle.visiting.specs.Visiting.{read_in, read_out, guard_in, guard_out}

module _ (T : List ℕ) {rows : List ℕ} {r : ℕ} (rows' weights : List ℕ) (room : length rows ≡ get_or T 3 0 * 2 + 2) (f : Put rows 0 (words (first_rows T)) r rows') where
  pub begin-kept : Kept r rows'
  begin-kept = record { within = put_fits f; even = omega (arith, f.place, words-length (first_rows T)) }

  pub begin-outcome : read r rows' weights ≡ guard (get_or T 3 0) (first_rows T) weights
  begin-outcome = go (dec_lt r (length rows'))
    where
      go : Dec (r < length rows') → read r rows' weights ≡ guard (get_or T 3 0) (first_rows T) weights
      go (yes u) =
          read_in r rows' weights u
          ∙ ap (λ (l : List Row). stands l weights) (ap rows_of (put_start f (omega (arith, f.place, put_length f))) ∙ rows_of-words (first_rows T))
          ∙ sym (guard_in (get_or T 3 0) (first_rows T) weights (omega (arith, f.place, put_length f, words-length (first_rows T))))
      go (no u) =
          read_out r rows' weights (omega arith)
          ∙ sym (guard_out (get_or T 3 0) (first_rows T) weights (omega (arith, f.place, put_length f, words-length (first_rows T))))

-- ---- the first rows

module _ (T : List ℕ) (small : Small T) (ways : Ways T) where
  byte_fits : (k d j : ℕ) → d < 8 → j < 8 → (1 ≤ first_byte T k d j) × (first_byte T k d j < 256)
  unfolding first_byte
  byte_fits k d j low few = go (eqb j k) (ltb j (get_or T 0 0)) refl
    where
      go : (a b : Bool) → ltb j (get_or T 0 0) ≡ b → (1 ≤ cond a (2 ^ d) (cond b (2 ^ get_or T (40 + j) 0 - 1) 1)) × (cond a (2 ^ d) (cond b (2 ^ get_or T (40 + j) 0 - 1) 1) < 256)
      go true b e = (omega (arith, pow_mono {i = 0} {j = d} (omega arith)), omega (arith, pow_mono {i = d} {j = 7} (omega arith)))
      go false true e =
          let some : 1 ≤ get_or T (40 + j) 0 = ways.delays j (ltb-true j (get_or T 0 0) e) in
          (omega (arith, pow_mono {i = 1} {j = get_or T (40 + j) 0} some), omega (arith, pow_mono {i = get_or T (40 + j) 0} {j = 8} (small.delays j few)))
      go false false e = (omega arith, omega arith)

  bytes-full : (k d : ℕ) → d < 8 → (n j : ℕ) → n + j ≤ 8 → full_of n (first_bytes T k d n j) ≡ true
  unfolding full_of first_bytes
  bytes-full k d low zero j h = refl
  bytes-full k d low (suc n) j h =
      let b = byte_fits k d j low (omega arith) in
      let x : ℕ = first_bytes T k d n (suc j) in
      let y : ℕ = first_byte T k d j in
      let first : (x * 256 + y) % 256 ≡ y = omega (arith, b.1) in
      let rest : (x * 256 + y) / 256 ≡ x = omega (arith, b.1) in
      let some : y ≡ 0 → ⊥ = λ z. omega (arith, b.0) in
      rw (first, rest, ne_eqb y 0 some) (bytes-full k d low n (suc j) (omega arith))

  row-proper : (k d : ℕ) → k < 8 → d < 8 → Proper (first_row T k d)
  unfolding first_row
  row-proper k d few low = record {
    full = bytes-full k d low 8 0 (omega arith);
    train = omega (arith, small.words (32 + k), small.words (48 + (k * 8 + d)));
    place = omega (arith, small.words (32 + k), small.words (48 + (k * 8 + d)));
  }

  pub first-proper : Every Proper (first_rows T)
  unfolding first_rows
  first-proper =
      every_each (λ k. k < get_or T 0 0) Proper (λ k. map (first_row T k) (below (get_or T (40 + k) 0)))
      (λ k h. every_map (λ d. d < get_or T (40 + k) 0) Proper (first_row T k) (λ d l. row-proper k d (omega (arith, small.trains)) (omega (arith, small.delays k (omega (arith, small.trains))))) (below (get_or T (40 + k) 0)) (every_below (get_or T (40 + k) 0)))
      (below (get_or T 0 0)) (every_below (get_or T 0 0))

  pub begin-due : {rows : List ℕ} {r : ℕ} (rows' N : List ℕ) → Put rows 0 (words (first_rows T)) r rows' → Kept r rows' → Enrols (rows_of (take r rows')) N
      → r < length rows' → Due T 0 N (rows_of (take r rows'))
  begin-due {rows} {r} rows' N f kept h less =
      let same : rows_of (take r rows') ≡ first_rows T = ap rows_of (put_start f (omega (arith, f.place, put_length f))) ∙ rows_of-words (first_rows T) in
      first-due T N (rows_of (take r rows')) (subst (Every Proper) (sym same) first-proper) h

-- notes of which none is set
pub cleared-flagged : (N : List ℕ) → length N ≡ 6272 → N ≡ replicate {A = ℕ} 6272 0 → Flagged N
cleared-flagged N long h = record { long = long; flags = λ i l z. ap (λ (x : List ℕ). get_or x i 0) h ∙ zeros-at 6272 i }
