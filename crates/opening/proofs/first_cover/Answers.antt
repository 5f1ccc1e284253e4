-- `opening::first_cover` meets its contract. The invariant: the bytes of the trains from j on are packed. Assumes nothing.
use mathlib.Core.Path.{◌≡◌, sym, ap, ap₂, ◌∙◌}
use Prim.Native.Nat.{ℕ, ◌+◌, ◌-◌, ◌*◌}
use native.Mathlib.Omega.{arith}
use Rattle.opening.specs.First.{first_bytes, first_byte}
use Rattle.opening.specs.Beginning.{bytes-none, bytes-more, byte_fits}
use Rattle.opening.proofs.first_cover.Goals as goal

pub loop-j-init : goal.loop-j-init
loop-j-init c = (sym (bytes-none _ _ _ _), omega arith)

pub first_byte-b-requires : goal.first_byte-b-requires
first_byte-b-requires c = (c.requires.0, c.requires.1, omega (arith, c.loop-j-test.true))

pub overflow_mul-c : goal.overflow_mul-c
overflow_mul-c c =
    omega (arith, (byte_fits (8 - c.loop-j.j) c.loop-j.c c.first_byte-b.result (omega (arith, c.loop-j-test.true)) c.loop-j.invariant.1 c.first_byte-b.ensures.1).1)

pub overflow_add-c : goal.overflow_add-c
overflow_add-c c =
    omega (arith, (byte_fits (8 - c.loop-j.j) c.loop-j.c c.first_byte-b.result (omega (arith, c.loop-j-test.true)) c.loop-j.invariant.1 c.first_byte-b.ensures.1).1)

pub loop-j-preserved : goal.loop-j-preserved
loop-j-preserved c =
    let s = c.args in
    let l = c.loop-j in
    let a : 8 - (l.j - 1) ≡ 8 - l.j + 1 = omega (arith, c.loop-j-test.true) in
    let b : l.j - 1 + 1 ≡ l.j = omega (arith, c.loop-j-test.true) in
    let f = byte_fits (8 - l.j) l.c c.first_byte-b.result (omega (arith, c.loop-j-test.true)) l.invariant.1 c.first_byte-b.ensures.1 in (
      ap₂ (λ (y z : ℕ). y * 256 + z) l.invariant.0 c.first_byte-b.ensures.0
          ∙ ap (λ (z : ℕ). first_bytes s.tables.now s.k s.d (8 - l.j) z * 256 + first_byte s.tables.now s.k s.d (l.j - 1)) (sym b)
          ∙ sym (bytes-more s.tables.now s.k s.d (8 - l.j) (l.j - 1))
          ∙ ap (λ (z : ℕ). first_bytes s.tables.now s.k s.d z (l.j - 1)) (sym a),
      rw a f.0,
    )

pub returns : goal.returns
returns c =
    let s = c.args in
    let l = c.loop-j in
    let e : l.j ≡ 0 = omega (arith, c.loop-j-test.false) in
    l.invariant.0 ∙ ap (λ (z : ℕ). first_bytes s.tables.now s.k s.d (8 - z) z) e
