-- The field at a place of a file, by the bytes from there on and by the bytes before it: its tag, its length and its body stand at
-- offsets of the file, and the reading goes on where it ends. Each law drops the bytes before the place. Assumes nothing.
use Rattle.std.specs.Prelude.{◌≡◌, Bool, ℕ, ◌+◌, ◌≤◌, ◌<◌, take, drop, leb, ltb}
use Rattle.std.proofs.Math.Path.{refl}
use Rattle.std.proofs.Common.{ap, ◌∙◌, length-take, get_or-take, get_or-drop, drop-drop}
use Rattle.std.proofs.Math.Bool.{true, false, cond}
use Rattle.std.proofs.lemmas.Bool.{false≢true}
use mathlib.Core.List.{List, [], ◌∷◌}
use native.Mathlib.Omega.{arith}
use Rattle.std.proofs.Math.ListN.{length, length-drop}
use borrow.Author.Tests.{leb-true, lt-ltb, le-ltb, le-leb, lt-leb}
use Rattle.rules.specs.Refusals.{Result, then, judged}
use Rattle.rules.specs.Files.{File, spot, Contents, kind_of, byte, word, kind, size, body, field_rules, more, read_field}
use Rattle.rules.specs.Viewer.{viewed}
use Rattle.rules.specs.Viewer.View.{field, ended, overruns}
use Rattle.file_fields.specs.Fields.{past, whole, body_at}

-- ---- bytes of a part

pub byte-drop : (l : List ℕ) (n i j : ℕ) → n + i ≡ j → byte (drop n l) i ≡ byte l j
byte-drop l n i j e = get_or-drop n l i 0 ∙ ap (byte l) e

pub word-drop : (l : List ℕ) (n i j : ℕ) → n + i ≡ j → word (drop n l) i ≡ word l j
word-drop l n i j e =
    let a = byte-drop l n i j e in
    let b = byte-drop l n (i + 1) (j + 1) (omega arith) in
    rw (a, b)

-- a byte of a part of n bytes that starts at k
pub byte-part : (l : List ℕ) (k n i j : ℕ) → i < n → k + i ≡ j → byte (take n (drop k l)) i ≡ byte l j
byte-part l k n i j h e = get_or-take n (drop k l) i 0 h ∙ byte-drop l k i j e

pub length_part : (l : List ℕ) (k n : ℕ) → k + n ≤ length l → length (take n (drop k l)) ≡ n
length_part l k n h = omega (arith, length-take n (drop k l), length-drop k l)

-- ---- the field at i

module _ (l : List ℕ) (i : ℕ) where
  pub tag-here : byte (drop i l) 0 ≡ byte l i
  tag-here = byte-drop l i 0 i (omega arith)

  pub size-here : size (drop i l) ≡ word l (i + 1)
  size-here = word-drop l i 1 (i + 1) refl

  -- the bytes of its body
  abbrev pub body_here : List ℕ
  body_here = take (word l (i + 1)) (drop (i + 3) l)

  pub body-here : body (drop i l) ≡ body_here
  body-here = ap (λ (n : ℕ). take n (drop 3 (drop i l))) size-here ∙ ap (take (word l (i + 1))) (drop-drop 3 i l)

  pub past-here : i + (3 + size (drop i l)) ≡ past l i
  past-here = let s = size-here in omega arith

  -- the reading goes on past it
  pub read_here : (go : ℕ → List ℕ → Contents → Result Contents) (f : File) (c : Contents) → i < length l
      → read_field go f i (drop i l) c ≡ then (judged (field_rules f c i (drop i l)) (spot f i) (more c i (kind_of (byte l i)) body_here)) (go (past l i) (drop (past l i) l))
  unfolding read_field
  read_here go f c h =
      front (drop i l) (omega (arith, length-drop i l))
      ∙ rw (drop-drop (3 + size (drop i l)) i l, past-here, tag-here, body-here)
    where
      front : (m : List ℕ) → 0 < length m
          → read_field go f i m c ≡ then (judged (field_rules f c i m) (spot f i) (more c i (kind m) (body m))) (go (i + (3 + size m)) (drop (3 + size m) m))
      front [] h = absurd (omega arith)
      front (b ∷ m) h = refl

  -- ---- whether it is whole

  pub whole_of : past l i ≤ length l → whole l i ≡ true
  unfolding whole
  whole_of h = let a : i + 3 ≤ length l = omega arith in simp (le-ltb _ _ a, le-leb _ _ h)

  pub whole-none : length l < i + 3 → whole l i ≡ false
  unfolding whole
  whole-none h = simp (lt-ltb _ _ h)

  pub whole-inside : whole l i ≡ true → past l i ≤ length l
  unfolding whole
  whole-inside h = go (ltb (length l) (i + 3)) h
    where
      go : (b : Bool) → cond b false (leb (past l i) (length l)) ≡ true → past l i ≤ length l
      go true h = absurd (false≢true h)
      go false h = leb-true (past l i) (length l) h

  pub body_of : past l i ≤ length l → body_at l i ≡ body_here
  unfolding body_at
  body_of h = rw (whole_of h)

  -- ---- what stands there

  pub viewed-ended : length l ≤ i → viewed l i ≡ ended
  unfolding viewed
  viewed-ended h = simp (le-leb _ _ h)

  pub viewed-overrun : i < length l → length l < past l i → viewed l i ≡ overruns
  unfolding viewed
  viewed-overrun h o = rw (lt-leb _ _ h, lt-ltb _ _ o) (go (ltb (length l) (i + 3)))
    where
      go : (b : Bool) → cond b overruns overruns ≡ overruns
      go true = refl
      go false = refl

  pub viewed-field : past l i ≤ length l → viewed l i ≡ field (byte l i) (word l (i + 1)) (past l i)
  unfolding viewed
  viewed-field h =
      let a : i < length l = omega arith in
      let b : i + 3 ≤ length l = omega arith in
      simp (lt-leb _ _ a, le-ltb _ _ b, le-ltb _ _ h)
