-- Each image belongs to one value: what its bytes say is the number, set, cover, entry or weight that it was made of, so two values never share one.
-- A number is read back byte by byte, a set bit by bit, and a list part by part, since all its parts are equally long. Assumes nothing.
use Rattle.std.specs.Prelude.{◌≡◌, refl, Bool, true, false, cond, List, [], ◌∷◌, ◌++◌, map, ℕ, zero, suc, ◌+◌, ◌-◌, ◌*◌, ◌/◌, ◌%◌, ◌^◌, ◌≤◌, ◌<◌, length, take, drop, replicate, eqb}
use Rattle.std.proofs.Common.{sym, ap, ap₂, ◌∙◌, append_assoc, mod-lt, mod-eq_of_lt, div-add-mod', add-mul, mul_assoc, mul_comm, mul-le-mul_right, suc-mul, pow-suc, arith, length-append, take_at, drop_at}
use Rattle.std.proofs.Math.Nat.{add-mul-mod_self_right}
use Rattle.std.proofs.lemmas.List.{length-replicate, length-map}
use Rattle.std.proofs.Math.Seq.{drop-append-add}
use Rattle.rules.specs.Lists.{each, span, below}
use Rattle.rules.specs.Files.{most_trains}
use Rattle.rules.specs.Turns.{Place, kind_of, number_of}
use Rattle.rules.specs.Turns.Place.{outside, station, track, gone}
use Rattle.rules.specs.Joint.{Cover, is_empty, Entry, weight_at}
use Rattle.rules.specs.Calls.{bytes, set_image, cover_image, row_image, Run, image_by, weights_image}
use Rattle.rules.specs.Decoded.{number_in, delays_in, cover_in, place_in, entry_in, entries_in, weight_in}
use Rattle.theory_lists.specs.Every.{Every}
use Rattle.theory_lists.specs.Below.{each-span-next, each-below-same, length-parts, each-blocks}
use Rattle.cut.specs.Packed.{Delays, Sets, Packable}
use Rattle.cut.specs.Packed.Delays.{none, takes, skips}
use Rattle.cut.specs.Sets.{image_delays, image_empty}

-- ---- numbers

pub length-bytes : (n v : ℕ) → length (bytes n v) ≡ n
length-bytes zero v = refl
length-bytes (suc n) v = ap suc (length-bytes n v)

pow_some : (n : ℕ) → 0 < 256 ^ n
pow_some zero = omega arith
pow_some (suc n) = omega (arith, pow-suc 256 n, pow_some n)

-- the highest digit and the rest
high-low : (v m : ℕ) → 0 < m → v / m % 256 * m + v % m ≡ v % (m * 256)
high-low v m h =
    sym (mod-eq_of_lt {n = digit * m + v % m} {m = m * 256} small)
    ∙ sym (add-mul-mod_self_right (digit * m + v % m) (v / m / 256) (m * 256))
    ∙ ap (λ (n : ℕ). n % (m * 256)) whole
  where
    digit : ℕ
    digit = v / m % 256

    small : digit * m + v % m < m * 256
    small = omega (arith, mod-lt v {m = m} h, mul-le-mul_right {m = digit} {n = 255} m (omega arith))

    whole : digit * m + v % m + v / m / 256 * (m * 256) ≡ v
    whole =
        omega (
          arith,
          div-add-mod' v m,
          ap (λ (n : ℕ). n * m) (div-add-mod' (v / m) 256),
          add-mul (v / m / 256 * 256) digit m,
          mul_assoc (v / m / 256) 256 m,
          ap (λ (n : ℕ). v / m / 256 * n) (mul_comm 256 m),
        )

-- the bytes say the number, but for what is above them
number_above : (n v : ℕ) → number_in (bytes n v) + v / 256 ^ n * 256 ^ n ≡ v
number_above zero v = omega arith
number_above (suc n) v =
    ap (λ (i : ℕ). v / 256 ^ n % 256 * 256 ^ i + number_in (bytes n v) + v / 256 ^ suc n * 256 ^ suc n) (length-bytes n v)
    ∙ ap (λ (m : ℕ). v / 256 ^ n % 256 * 256 ^ n + number_in (bytes n v) + v / m * m) (pow-suc 256 n)
    ∙ omega (arith, high-low v (256 ^ n) (pow_some n), div-add-mod' v (256 ^ n * 256), div-add-mod' v (256 ^ n), number_above n v)

-- the bytes say the number, as far as so many bytes hold it
number-bytes : (n v : ℕ) → number_in (bytes n v) ≡ v % 256 ^ n
number-bytes n v = omega (arith, number_above n v, div-add-mod' v (256 ^ n))

pub number_in_lem : (n v : ℕ) → v < 256 ^ n → number_in (bytes n v) ≡ v
number_in_lem n v h = omega (arith, number_above n v, div-add-mod' v (256 ^ n), mod-eq_of_lt {n = v} {m = 256 ^ n} h)

pub bytes_one : (n v w : ℕ) → v < 256 ^ n → w < 256 ^ n → bytes n v ≡ bytes n w → v ≡ w
bytes_one n v w h k e = sym (number_in_lem n v h) ∙ ap number_in e ∙ number_in_lem n w k

-- ---- sets and covers

even : (v : ℕ) → v * 2 % 2 ≡ 0
even v = omega arith

odd : (v : ℕ) → (v * 2 + 1) % 2 ≡ 1
odd v = omega arith

half-even : (v : ℕ) → v * 2 / 2 ≡ v
half-even v = omega arith

half_odd : (v : ℕ) → (v * 2 + 1) / 2 ≡ v
half_odd v = omega arith

delays_in_lem : {n k : ℕ} {s : List ℕ} {v : ℕ} → Delays n k s v → delays_in n k v ≡ s
delays_in_lem none = refl
delays_in_lem (takes {v = v} r) = rw (odd v, half_odd v, delays_in_lem r)
delays_in_lem (skips {v = v} r) = rw (even v, half-even v, delays_in_lem r)

-- a set of delays below 8 is read back from its byte
pub set_in : {s : List ℕ} {v : ℕ} → Delays 8 0 s v → delays_in 8 0 (set_image s) ≡ s
set_in r = ap (delays_in 8 0) (image_delays r) ∙ delays_in_lem r

pub set-one : {s u : List ℕ} {v x : ℕ} → Delays 8 0 s v → Delays 8 0 u x → set_image s ≡ set_image u → s ≡ u
set-one r t e = sym (set_in r) ∙ ap (delays_in 8 0) e ∙ set_in t

-- no set is empty
abbrev pub AllFilled : Cover → Type 0
AllFilled p = Every (λ s. is_empty s ≡ false) p

none_in : (n : ℕ) → cover_in (replicate n 0) ≡ []
none_in zero = refl
none_in (suc n) = refl

sets_in : {b n : ℕ} {p : Cover} → Sets b n p → AllFilled p → (m : ℕ) → cover_in (map set_image p ++ replicate m 0) ≡ p
sets_in Sets.none f m = none_in m
sets_in (Sets.more {s = s} {p = p} r q) f m =
    ap (λ (b : Bool). cond b [] (delays_in 8 0 (set_image s) ∷ cover_in (map set_image p ++ replicate m 0))) (image_empty s ∙ f.0)
    ∙ ap₂ ◌∷◌ (set_in r) (sets_in q f.1 m)

-- a cover of sets of delays below 8, none empty, is read back from its bytes
pub cover_in_lem : {n : ℕ} (p : Cover) → Packable n p → AllFilled p → cover_in (cover_image p) ≡ p
unfolding cover_image
cover_in_lem p h f = sets_in h f (8 - length p)

pub cover_one : {n m : ℕ} (p q : Cover) → Packable n p → Packable m q → AllFilled p → AllFilled q → cover_image p ≡ cover_image q → p ≡ q
cover_one p q h k f g e = sym (cover_in_lem p h f) ∙ ap cover_in e ∙ cover_in_lem q k g

sets-few : {b n : ℕ} {p : Cover} → Sets b n p → length p ≤ b
sets-few Sets.none = omega arith
sets-few (Sets.more r q) = omega (arith, sets-few q)

length-cover : {n : ℕ} {p : Cover} → Packable n p → length (cover_image p) ≡ 8
unfolding cover_image
length-cover {n} {p} h =
    omega (
      arith,
      length-append (map set_image p) (replicate (8 - length p) 0),
      length-map p set_image,
      length-replicate {A = ℕ} (8 - length p) 0,
      sets-few h,
    )

-- ---- rows

-- an entry that a row shows whole: two bytes hold its minute, and its cover has for each of at most eight trains a set of delays below 8, none empty
pub record Shown (r : Entry) : Type 0 where
  pub minute : r.mark.minute < 65536
  pub trains : ℕ
  pub cover : Packable trains r.cover
  pub filled : AllFilled r.cover

place_in_lem : (p : Place) → place_in (kind_of p) (number_of p) ≡ p
place_in_lem outside = refl
place_in_lem (station i) = refl
place_in_lem (track j) = refl
place_in_lem gone = refl

blocks_in : (b : Bool) → eqb (cond b 2 1) 2 ≡ b
blocks_in true = refl
blocks_in false = refl

pub entry_in_lem : (r : Entry) → Shown r → entry_in (row_image r) ≡ r
unfolding entry_in row_image
entry_in_lem r h =
    rw (place_in_lem r.mark.place, blocks_in r.mark.blocks, number_in_lem 2 r.mark.minute h.minute, cover_in_lem r.cover h.cover h.filled)

pub row_one : (r s : Entry) → Shown r → Shown s → row_image r ≡ row_image s → r ≡ s
row_one r s h k e = sym (entry_in_lem r h) ∙ ap (entry_in) e ∙ entry_in_lem s k

pub length-row : (r : Entry) → Shown r → length (row_image r) ≡ 16
unfolding row_image
length-row r h = omega (arith, length-cover h.cover)

pub length-rows : (es : List Entry) → Every Shown es → length (each row_image es) ≡ 16 * length es
length-rows [] h = refl
length-rows (r ∷ es) h = omega (arith, length-append (row_image r) (each row_image es), length-row r h.0, length-rows es h.1)

-- the rows of a list are read back, whatever stands behind them
pub entries_in_lem : (es : List Entry) → Every Shown es → (rest : List ℕ) → entries_in (length es) (each row_image es ++ rest) ≡ es
entries_in_lem [] h rest = refl
entries_in_lem (r ∷ es) h rest =
    ap (λ (l : List ℕ). entry_in (take 16 l) ∷ entries_in (length es) (drop 16 l)) (append_assoc (row_image r) (each row_image es) rest)
    ∙ ap₂ (λ (a l : List ℕ). entry_in a ∷ entries_in (length es) l)
    (take_at (row_image r) (each row_image es ++ rest) 16 (length-row r h.0))
    (drop_at (row_image r) (each row_image es ++ rest) 16 (length-row r h.0))
    ∙ ap₂ ◌∷◌ (entry_in_lem r h.0) (entries_in_lem es h.1 rest)

pub rows-one : (es fs : List Entry) → Every Shown es → Every Shown fs → each row_image es ≡ each row_image fs → es ≡ fs
rows-one es fs h k e =
    let long : length es ≡ length fs = omega (arith, length-rows es h, length-rows fs k, ap length e) in
    sym (entries_in_lem es h [])
    ∙ ap₂ (λ (m : ℕ) (l : List ℕ). entries_in m (l ++ [])) long e
    ∙ entries_in_lem fs k []

-- ---- weights

-- one of n parts of one width
part_at : (f : ℕ → List ℕ) (w : ℕ) → ((i : ℕ) → length (f i) ≡ w) → (n i : ℕ) → i < n → (rest : List ℕ)
    → take w (drop (i * w) (each f (below n) ++ rest)) ≡ f i
part_at f w h zero i l rest = absurd (omega arith)
part_at f w h (suc n) zero l rest =
    let none : zero * w ≡ 0 = omega arith in
    ap₂ (λ (j : ℕ) (z : List ℕ). take w (drop j z)) none (append_assoc (f 0) (each f (span n 1)) rest)
    ∙ take_at (f 0) (each f (span n 1) ++ rest) w (h 0)
part_at f w h (suc n) (suc i) l rest =
    let next : suc i * w ≡ length (f 0) + i * w = omega (arith, h 0, suc-mul i w) in
    ap₂ (λ (j : ℕ) (z : List ℕ). take w (drop j z)) next (append_assoc (f 0) (each f (span n 1)) rest)
    ∙ ap (take w) (drop-append-add (f 0) (each f (span n 1) ++ rest) (i * w))
    ∙ ap (λ (z : List ℕ). take w (drop (i * w) (z ++ rest))) (each-span-next f n 0)
    ∙ part_at (λ j. f (suc j)) w (λ j. h (suc j)) n i (omega arith) rest

-- the image of weights has 7 by 720 of them, eight bytes each
pub length_image : (w : ℕ → ℕ → ℕ) → length (image_by w) ≡ 40320
length_image w = length-parts (λ k. each (λ t. bytes 8 (w k t)) (below 720)) 5760 (λ k. length-parts (λ t. bytes 8 (w k t)) 8 (λ t. length-bytes 8 (w k t)) 720) most_trains

-- weights that are alike have one image
pub image_same : (v w : ℕ → ℕ → ℕ) → ((k t : ℕ) → k < most_trains → t < 720 → v k t ≡ w k t) → image_by v ≡ image_by w
image_same v w h =
    each-below-same _ (λ k. each (λ t. bytes 8 (w k t)) (below 720)) most_trains
    (λ k l. each-below-same _ (λ t. bytes 8 (w k t)) 720 (λ t m. ap (bytes 8) (h k t l m)))

-- each weight is read back from its place
pub image_in : (w : ℕ → ℕ → ℕ) → ((k t : ℕ) → w k t < 256 ^ 8) → (k t : ℕ) → k < most_trains → t < 720 → (rest : List ℕ) → weight_in (image_by w ++ rest) k t ≡ w k t
unfolding weight_in
image_in w h k t l m rest =
    ap (λ (z : List ℕ). number_in (take 8 (drop ((k * 720 + t) * 8) (z ++ rest)))) (sym blocks)
    ∙ ap number_in (part_at place 8 (λ i. length-bytes 8 (w (i / 720) (i % 720))) (most_trains * 720) (k * 720 + t) (omega arith) rest)
    ∙ number_in_lem 8 (w ((k * 720 + t) / 720) ((k * 720 + t) % 720)) (h ((k * 720 + t) / 720) ((k * 720 + t) % 720))
    ∙ ap₂ w (over k t m) (under k t m)
  where
    place : ℕ → List ℕ
    place i = bytes 8 (w (i / 720) (i % 720))

    over : (k t : ℕ) → t < 720 → (k * 720 + t) / 720 ≡ k
    over k t m = omega arith

    under : (k t : ℕ) → t < 720 → (k * 720 + t) % 720 ≡ t
    under k t m = omega arith

    blocks : each place (below (most_trains * 720)) ≡ image_by w
    blocks =
        each-blocks place most_trains 720
        ∙ image_same (λ k t. w ((k * 720 + t) / 720) ((k * 720 + t) % 720)) w (λ k t l m. ap₂ w (over k t m) (under k t m))

-- the weights of a run in a word each
abbrev pub Weighable : Run → Type 0
Weighable u = (k t : ℕ) → weight_at u.of u.state.arrived k t < 256 ^ 8

pub length-weights : (u : Run) → length (weights_image u) ≡ 40320
unfolding weights_image
length-weights u = length_image (weight_at u.of u.state.arrived)

pub weight_in_lem : (u : Run) → Weighable u → (k t : ℕ) → k < most_trains → t < 720 → (rest : List ℕ)
    → weight_in (weights_image u ++ rest) k t ≡ weight_at u.of u.state.arrived k t
unfolding weights_image
weight_in_lem u h k t l m rest = image_in (weight_at u.of u.state.arrived) h k t l m rest

pub weights-one : (u v : Run) → Weighable u → Weighable v → weights_image u ≡ weights_image v → (k t : ℕ) → k < most_trains → t < 720
    → weight_at u.of u.state.arrived k t ≡ weight_at v.of v.state.arrived k t
unfolding weights_image
weights-one u v h j e k t l m =
    sym (image_in (weight_at u.of u.state.arrived) h k t l m [])
    ∙ ap (λ (z : List ℕ). weight_in (z ++ []) k t) e
    ∙ image_in (weight_at v.of v.state.arrived) j k t l m []
