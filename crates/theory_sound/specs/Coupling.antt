-- A couple that breaks no rule is sound: it has two tracks that lead there and back, and neither stands in an earlier couple.
-- It stays sound while tracks are added, and no track ever stands in two couples, since what is added is new. Assumes nothing.
use Rattle.std.specs.Prelude.{◌≡◌, refl, Bool, true, false, not, ◌||◌, List, [], ◌∷◌, ◌++◌, map, ℕ, zero, suc, ◌<◌, length, get_or, leb, eqb}
use Rattle.std.proofs.Common.{sym, ap, ◌∙◌, append-nil, append_assoc, arith, length-append, leb-false, eqb-true, ne_eqb}
use Rattle.std.proofs.lemmas.List.{length-map}
use Rattle.std.proofs.Math.ListN.{get_or-append}
use Rattle.std.proofs.lemmas.Bool.{not-false}
use Rattle.rules.specs.Lists.{one, has}
use Rattle.rules.specs.Files.{Track, Couple, Contents, leads, repeats, no_track, track_at, coupled, unlike, couple_rules}
use Rattle.theory_lists.specs.Tests.{eqb-turn, or_false-first, or_false-second, or_three_false, and_true-first, and_true-second}
use Rattle.theory_lists.specs.Each.{each_append, map-append}
use Rattle.theory_lists.specs.Every.{Every, every_at, any_append}
use Rattle.theory_sound.specs.Facts.{SoundTrack, SoundCouple}
use Rattle.theory_sound.specs.Verdicts.{Unbroken}

-- ---- a new couple

-- what a track says, read from the list of what each says
of-track : (f : Track → ℕ) → f no_track ≡ 0 → (ts : List Track) (j : ℕ) → get_or (map f ts) j 0 ≡ f (get_or ts j no_track)
of-track f z [] j = sym z
of-track f z (r ∷ ts) zero = refl
of-track f z (r ∷ ts) (suc j) = of-track f z ts j

-- two tracks that make a couple
like_sound : (c : Contents) (p : Couple) → unlike c p.first p.second ≡ false → SoundCouple c.tracks p
unfolding unlike leads track_at
like_sound c p h = record {
  known_first = leb-false (length c.tracks) p.first rules.0;
  known_second = leb-false (length c.tracks) p.second rules.1;
  there = of (λ t. t.from) refl p.first ∙ there ∙ sym (of (λ t. t.to) refl p.second);
  back = of (λ t. t.to) refl p.first ∙ back ∙ sym (of (λ t. t.from) refl p.second);
  equal = of (λ t. t.capacity) refl p.first ∙ equal ∙ sym (of (λ t. t.capacity) refl p.second);
}
  where
    r : Track
    r = get_or c.tracks p.first no_track

    s : Track
    s = get_or c.tracks p.second no_track

    of : (f : Track → ℕ) → f no_track ≡ 0 → (j : ℕ) → get_or (map f c.tracks) j 0 ≡ f (get_or c.tracks j no_track)
    of f z j = of-track f z c.tracks j

    strange : ℕ → Bool
    strange j = leb (length c.tracks) j

    ends : Bool
    ends = not (leads s.to s.from r)

    rules : (strange p.first ≡ false) × (strange p.second ≡ false) × (ends ≡ false)
    rules =
        or_three_false (strange p.first) (strange p.second) ends
        (or_false-first (strange p.first || strange p.second || ends) (not (eqb r.capacity s.capacity)) h)

    mirrored : leads s.to s.from r ≡ true
    mirrored = not-false (leads s.to s.from r) rules.2

    there : r.from ≡ s.to
    there = eqb-true r.from s.to (and_true-first (eqb r.from s.to) (eqb r.to s.from) mirrored)

    back : r.to ≡ s.from
    back = eqb-true r.to s.from (and_true-second (eqb r.from s.to) (eqb r.to s.from) mirrored)

    equal : r.capacity ≡ s.capacity
    equal =
        eqb-true r.capacity s.capacity (not-false (eqb r.capacity s.capacity)
        (or_false-second (strange p.first || strange p.second || ends) (not (eqb r.capacity s.capacity)) h))

-- a couple that breaks no rule: its tracks make one, and neither stands in an earlier one
pub record NewCouple (c : Contents) (p : Couple) : Type 0 where
  pub sound : SoundCouple c.tracks p
  pub first_free : has (coupled c.couples) p.first ≡ false
  pub second_free : has (coupled c.couples) p.second ≡ false

pub couple-sound : (c : Contents) (p : Couple) → Unbroken (couple_rules c p) → NewCouple c p
unfolding couple_rules
couple-sound c p u =
    let rules = or_three_false (unlike c p.first p.second) (has (coupled c.couples) p.first) (has (coupled c.couples) p.second) u.0 in
    record { sound = like_sound c p rules.0; first_free = rules.1; second_free = rules.2 }

-- ---- the old couples

pub couple-grows : (ts us : List Track) (p : Couple) → SoundCouple ts p → SoundCouple (ts ++ us) p
couple-grows ts us p s = record {
  known_first = omega (arith, length-append ts us, s.known_first);
  known_second = omega (arith, length-append ts us, s.known_second);
  there = stays (λ r. r.from) p.first s.known_first ∙ s.there ∙ sym (stays (λ r. r.to) p.second s.known_second);
  back = stays (λ r. r.to) p.first s.known_first ∙ s.back ∙ sym (stays (λ r. r.from) p.second s.known_second);
  equal = stays (λ r. r.capacity) p.first s.known_first ∙ s.equal ∙ sym (stays (λ r. r.capacity) p.second s.known_second);
}
  where
    stays : (f : Track → ℕ) (j : ℕ) → j < length ts → get_or (map f (ts ++ us)) j 0 ≡ get_or (map f ts) j 0
    stays f j h =
        ap (λ (l : List ℕ). get_or l j 0) (map-append f ts us)
        ∙ get_or-append (map f ts) (map f us) 0 j (omega (arith, length-map ts f))

-- ---- no track in two couples

-- a sound couple has two different tracks, since a track has two different ends
two-tracks : (n : ℕ) (ts : List Track) (p : Couple) → Every (SoundTrack n) ts → SoundCouple ts p → p.first ≡ p.second → ⊥
two-tracks n ts p e s q = (every_at (SoundTrack n) ts no_track e p.first s.known_first).two_ends ends
  where
    ends : (get_or ts p.first no_track).from ≡ (get_or ts p.first no_track).to
    ends =
        sym (of-track (λ r. r.from) refl ts p.first) ∙ s.there
        ∙ ap (λ (j : ℕ). get_or (map (λ r. r.to) ts) j 0) (sym q) ∙ of-track (λ r. r.to) refl ts p.first

repeats-last : (l : List ℕ) (a : ℕ) → repeats l ≡ false → has l a ≡ false → repeats (l ++ (a ∷ [])) ≡ false
repeats-last [] a r h = refl
repeats-last (x ∷ l) a r h =
    rw (any_append (eqb x) l (a ∷ []), or_false-first (has l x) (repeats l) r, eqb-turn x a, or_false-first (eqb a x) (has l a) h)
    (repeats-last l a (or_false-second (has l x) (repeats l) r) (or_false-second (eqb a x) (has l a) h))

coupled-more : (cs : List Couple) (p : Couple) → repeats (coupled cs) ≡ false → has (coupled cs) p.first ≡ false → has (coupled cs) p.second ≡ false
    → eqb p.second p.first ≡ false → repeats (coupled (cs ++ (p ∷ []))) ≡ false
unfolding coupled
coupled-more cs p r a b n =
    ap repeats (each_append both cs (p ∷ []) ∙ sym (append_assoc (coupled cs) (p.first ∷ []) (p.second ∷ [])))
    ∙ repeats-last (coupled cs ++ (p.first ∷ [])) p.second (repeats-last (coupled cs) p.first r a) apart
  where
    both : Couple → List ℕ
    both c = c.first ∷ c.second ∷ []

    apart : has (coupled cs ++ (p.first ∷ [])) p.second ≡ false
    apart = any_append (eqb p.second) (coupled cs) (p.first ∷ []) ∙ rw (b, n)

pub coupled_once : (n : ℕ) (c : Contents) (b : Bool) (p : Couple) → Every (SoundTrack n) c.tracks → repeats (coupled c.couples) ≡ false
    → (b ≡ true → NewCouple c p) → repeats (coupled (c.couples ++ one b p)) ≡ false
coupled_once n c true p e r h =
    let new = h refl in
    coupled-more c.couples p r new.first_free new.second_free
    (ne_eqb p.second p.first (λ q. two-tracks n c.tracks p e new.sound (sym q)))
coupled_once n c false p e r h = ap (λ (l : List Couple). repeats (coupled l)) (append-nil c.couples) ∙ r
