-- A pass on rows is the pass of the definitions: row by row what is held stays as rows, and what enters makes the same rows at the end.
-- All askers stand at one place, so the first one tells the block. Assumes nothing.
use Rattle.std.specs.Prelude.{◌≡◌, ◌&&◌, ◌||◌, ℕ, ◌+◌, ◌/◌, ◌%◌, ◌≤◌, ◌<◌, eqb}
use Rattle.std.proofs.Math.Path.{refl, ap, ap₂, sym}
use Rattle.std.proofs.Common.{◌∙◌, subst, arith, ne_eqb}
use Rattle.std.proofs.Math.Bool.{Bool, true, false, not, cond}
use Rattle.std.proofs.lemmas.Bool.{false≢true}
use mathlib.Core.List.{List, [], ◌∷◌, ◌++◌, map}
use Rattle.std.proofs.Math.Dec.{ltb}
use Rattle.rules.specs.Lists.{one, each, keep}
use Rattle.rules.specs.Files.{Case}
use Rattle.rules.specs.Turns.{Place, same, Mark, stands, block, due_again, leaves_block, Served, served}
use Rattle.rules.specs.Turns.Place.{outside, station, track, gone}
use Rattle.rules.specs.Joint.{Cover, Entry, entry, Piece, meets, meets_across}
use Rattle.theory_sound.specs.Facts.{Sound}
use Rattle.theory_lists.specs.Each.{each_append, map-append}
use Rattle.theory_lists.specs.Every.{Every}
use Rattle.theory_sound.specs.Ways.{same_self}
use Rattle.theory_codes.specs.Codes.{code_of, place_of, state_of}
use Rattle.theory_codes.specs.Tables.{stay_on, tables}
use Rattle.theory_passes.specs.Passes.{asks_for, pieces_among, passed, pass_list}
use Rattle.theory_passes.specs.Before.{place_before, new_marks, arrival_marks, serve_with, passed_with, asks_for-place}
use Rattle.theory_passes.specs.Bounds.{Bounded}
use Rattle.cut.specs.Cut.{Met, cut_by, held_of, entering_of}
use Rattle.cut.specs.Packed.{packed, packed_piece}
use Rattle.cut.specs.Bridge.{held_covers, entering_covers, held-packed, entering_packed}
use Rattle.rows.specs.Rows.{Row, row, held_rows, entered_rows}
use Rattle.asking.specs.declared.Job.{Job}
use Rattle.asking.specs.Ask.{asks_of, asker_of, leaves_of, job_of, met_for, asking_of, Suits}
use Rattle.serving.specs.Pass.{hold_row, enter_row, covers_of, passed_of}
use Rattle.visiting.specs.Visit.{some_asks, job_for}
use Rattle.theory_codes.specs.Places.{Coded, code_place}
use Rattle.theory_codes.specs.States.{state-place}
use Rattle.entries.specs.Coded.{bounded-coded, bounded_fit}
use Rattle.theory_codes.specs.Lookups.{table-stay, table-safety}
use Rattle.entries.specs.Encoded.{row_of, Good, asks-row, pieces-row}

-- ---- rows of pieces

held-rows : (m : Mark) (ps : List Piece) → held_rows (state_of m) (map (λ q. packed q.cover) ps) ≡ map row_of (map (λ q. entry m q.cover) ps)
unfolding held_rows row_of
held-rows m [] = refl
held-rows m (q ∷ ps) = ap (λ (l : List Row). row (state_of m) (packed q.cover) ∷ l) (held-rows m ps)

-- the rows of a cover that enters with a standing mark and, where b holds, a block
entered-row : (a m : Mark) (b : Bool) (p : Cover) → row (state_of a) (packed p) ∷ one b (row (state_of m) (packed p)) ≡ map row_of (map (λ n. entry n p) (a ∷ one b m))
unfolding row_of
entered-row a m true p = refl
entered-row a m false p = refl

entered-rows : (a m : Mark) (b : Bool) (ps : List Piece)
    → entered_rows (state_of a) (state_of m) b (map (λ q. packed q.cover) ps) ≡ map row_of (each (λ q. map (λ n. entry n q.cover) (a ∷ one b m)) ps)
unfolding entered_rows
entered-rows a m b [] = refl
entered-rows a m b (q ∷ ps) =
    ap₂ ◌++◌ (entered-row a m b q.cover) (entered-rows a m b ps)
    ∙ sym (map-append row_of (map (λ n. entry n q.cover) (a ∷ one b m)) (each (λ q. map (λ n. entry n q.cover) (a ∷ one b m)) ps))

entered-append : (s b : ℕ) (two : Bool) (x y : List ℕ) → entered_rows s b two (x ++ y) ≡ entered_rows s b two x ++ entered_rows s b two y
unfolding entered_rows
entered-append s b two x y = each_append (λ c. row s c ∷ one two (row b c)) x y

entered-none : (s b : ℕ) (two : Bool) → entered_rows s b two [] ≡ []
unfolding entered_rows
entered-none s b two = refl

state-row : (r : Entry) (cs : List ℕ) → held_rows (row_of r).state cs ≡ held_rows (state_of r.mark) cs
unfolding row_of
state-row r cs = refl

-- a place on the way is not outside
station-out : (i : ℕ) → same (station i) outside ≡ false
unfolding same
station-out i = refl

track-out : (j : ℕ) → same (track j) outside ≡ false
unfolding same
track-out j = refl

gone-out : same gone outside ≡ false
unfolding same
gone-out = refl

-- ---- the first asker

module _ (C : Case) (sound : Sound C) (t e k : ℕ) (low : e ≤ 64) where
  pub record Asker (l : List Entry) : Type 0 where
    pub mark : Mark
    pub bounded : Bounded C mark
    pub asks : asks_for C t (place_of e) k mark ≡ true
    pub state : asker_of (tables C) t e k (map row_of l) ≡ state_of mark

  pub asker_of_lem : (l : List Entry) → Every (Good C) l → some_asks (tables C) t e k (map row_of l) ≡ true → Asker l
  unfolding asker_of row_of
  asker_of_lem [] g h = absurd (false≢true h)
  asker_of_lem (r ∷ l) g h = go (asks_of (tables C) t e k (state_of r.mark)) refl h (asker_of_lem l g.1)
    where
      go : (b : Bool) → asks_of (tables C) t e k (state_of r.mark) ≡ b → (b || some_asks (tables C) t e k (map row_of l)) ≡ true
          → (some_asks (tables C) t e k (map row_of l) ≡ true → Asker l) → Asker (r ∷ l)
      go true q z ih = record {
        mark = r.mark;
        bounded = g.0.0;
        asks = sym (asks-row C sound t e k low r.mark g.0.0) ∙ q;
        state = ap (λ (b : Bool). cond b (state_of r.mark) (asker_of (tables C) t e k (map row_of l))) q;
      }
      go false q z ih =
          let a = ih z in
          record { mark = a.mark; bounded = a.bounded; asks = a.asks; state = ap (λ (b : Bool). cond b (state_of r.mark) (asker_of (tables C) t e k (map row_of l))) q ∙ a.state }

  -- nobody asks among the entries where no row asks
  pub asked-none : (l : List Entry) → Every (Good C) l → some_asks (tables C) t e k (map row_of l) ≡ false → Every (λ r. asks_for C t (place_of e) k r.mark ≡ false) l
  unfolding row_of
  asked-none [] g h = tt
  asked-none (r ∷ l) g h = go (asks_of (tables C) t e k (state_of r.mark)) refl h (asked-none l g.1)
    where
      go : (b : Bool) → asks_of (tables C) t e k (state_of r.mark) ≡ b → (b || some_asks (tables C) t e k (map row_of l)) ≡ false
          → (some_asks (tables C) t e k (map row_of l) ≡ false → Every (λ r. asks_for C t (place_of e) k r.mark ≡ false) l)
          → Every (λ r. asks_for C t (place_of e) k r.mark ≡ false) (r ∷ l)
      go true q z ih = absurd (false≢true (sym z))
      go false q z ih = (sym (asks-row C sound t e k low r.mark g.0.0) ∙ q, ih z)

  -- ---- the job

  outside_test : (p : Place) → Coded p → eqb (code_of p) 65 ≡ same p outside
  outside_test outside h = sym (same_self outside)
  outside_test (station i) h = ne_eqb i 65 (λ z. omega arith) ∙ sym (station-out i)
  outside_test (track j) h = ne_eqb (24 + j) 65 (λ z. omega arith) ∙ sym (track-out j)
  outside_test gone h = sym gone-out

  module _ (train : k < 8) (l : List Entry) (a : Asker l) where
    abbrev q : Job
    q = job_for (tables C) t e k (map row_of l)

    from_is : asker_of (tables C) t e k (map row_of l) / 4096 % 128 ≡ code_of (place_before C k (place_of e))
    from_is =
        ap (λ (s : ℕ). s / 4096 % 128) a.state
        ∙ state-place a.mark (bounded_fit C sound a.mark a.bounded)
        ∙ ap code_of (asks_for-place C sound t (place_of e) k a.mark a.asks)

    before-coded : Coded (place_before C k (place_of e))
    before-coded = subst Coded (asks_for-place C sound t (place_of e) k a.mark a.asks) (bounded-coded C sound a.mark a.bounded)

    abbrev new_standing : Mark
    new_standing = stands k (place_of e) (due_again C t k (place_of e))

    abbrev new_block : Mark
    new_block = block k (place_before C k (place_of e)) (t + C.head.safety)

    stands-is : q.stands ≡ state_of new_standing
    unfolding job_of state_of due_again stay_on
    stands-is =
        omega (arith, code_place e (omega arith), table-stay C k e train (omega arith))

    blocks_is : q.blocks ≡ state_of new_block
    unfolding job_of state_of
    blocks_is = omega (arith, from_is, table-safety C)

    two_is : q.two ≡ leaves_block C (place_before C k (place_of e))
    unfolding job_of leaves_of
    two_is =
        ap₂ (λ (s c : ℕ). ltb 0 s && not (eqb c 65)) (table-safety C) from_is
        ∙ ap (λ (b : Bool). ltb 0 C.head.safety && not b) (outside_test (place_before C k (place_of e)) before-coded)

    job_place : q.place ≡ e
    unfolding job_of
    job_place = refl

    job_train : q.train ≡ k
    unfolding job_of
    job_train = refl

    job_suits : Suits (tables C) q
    unfolding job_of
    job_suits = record { cap = refl; partner = refl }

    -- ---- the pass

    module _ (good : Every (Good C) l) where
      abbrev qs : List Cover
      qs = meets (place_of e) k l

      abbrev far : List Cover
      far = meets_across C (place_of e) k l

      abbrev es : Met
      es = met_for q (map row_of l)

      abbrev ps : Entry → List Piece
      ps r = pieces_among C (place_of e) far qs r.cover

      asking-is : (r : Entry) → Good C r → asking_of (tables C) q (row_of r) ≡ asks_for C t (place_of e) k r.mark
      unfolding row_of job_of
      asking-is r g = asks-row C sound t e k low r.mark g.0

      cut-is : (r : Entry) → Good C r → cut_by es (row_of r).cover ≡ map packed_piece (ps r)
      unfolding row_of
      cut-is r g = pieces-row C sound t e k low q job_place job_train job_suits l good r.cover g.1

      hold-is : (r : Entry) → Good C r → hold_row (tables C) q es (row_of r) ≡ map row_of (passed C t (place_of e) k far qs r).rows
      unfolding hold_row serve_with
      hold-is r g =
          ap₂ (λ (b : Bool) (x : List ℕ). cond b (held_rows (row_of r).state x) (row_of r ∷ [])) (asking-is r g) (ap held_of (cut-is r g) ∙ held-packed (ps r))
          ∙ go (asks_for C t (place_of e) k r.mark)
          ∙ sym (ap (λ (s : Served Entry). map row_of s.rows) (passed_with C sound t (place_of e) k far qs r))
        where
          go : (b : Bool) → cond b (held_rows (row_of r).state (held_covers (ps r))) (row_of r ∷ [])
              ≡ map row_of (cond b (serve_with r.mark (new_marks C t (place_of e) k) (arrival_marks C t (place_of e) k) (ps r)) (served (r ∷ []) [] [])).rows
          go true = state-row r (held_covers (ps r)) ∙ held-rows r.mark (keep (λ x. x.held) (ps r))
          go false = refl

      -- the covers of an entry that enter
      pub enter-is : (r : Entry) → Good C r → enter_row (tables C) q es (row_of r) ≡ cond (asks_for C t (place_of e) k r.mark) (entering_covers (ps r)) []
      unfolding enter_row
      enter-is r g =
          ap₂ (λ (b : Bool) (x : List ℕ). cond b x []) (asking-is r g) (ap entering_of (cut-is r g) ∙ entering_packed (ps r))

      added_is : (r : Entry) → Good C r → entered_rows q.stands q.blocks q.two (enter_row (tables C) q es (row_of r)) ≡ map row_of (passed C t (place_of e) k far qs r).added
      unfolding serve_with new_marks
      added_is r g =
          ap (entered_rows q.stands q.blocks q.two) (enter-is r g)
          ∙ ap₂ (λ (x y : ℕ). entered_rows x y q.two (cond (asks_for C t (place_of e) k r.mark) (entering_covers (ps r)) [])) stands-is blocks_is
          ∙ ap (λ (z : Bool). entered_rows (state_of new_standing) (state_of new_block) z (cond (asks_for C t (place_of e) k r.mark) (entering_covers (ps r)) [])) two_is
          ∙ go (asks_for C t (place_of e) k r.mark)
          ∙ sym (ap (λ (s : Served Entry). map row_of s.added) (passed_with C sound t (place_of e) k far qs r))
        where
          b : Bool
          b = leaves_block C (place_before C k (place_of e))

          go : (z : Bool) → entered_rows (state_of new_standing) (state_of new_block) b (cond z (entering_covers (ps r)) [])
              ≡ map row_of (cond z (serve_with r.mark (new_marks C t (place_of e) k) (arrival_marks C t (place_of e) k) (ps r)) (served (r ∷ []) [] [])).added
          go true = entered-rows new_standing new_block b (keep (λ x. not x.held) (ps r))
          go false = entered-none (state_of new_standing) (state_of new_block) b

      holds_are : (m : List Entry) → Every (Good C) m → each (hold_row (tables C) q es) (map row_of m) ≡ map row_of (each (λ r. (passed C t (place_of e) k far qs r).rows) m)
      holds_are [] g = refl
      holds_are (r ∷ m) g =
          ap₂ ◌++◌ (hold-is r g.0) (holds_are m g.1)
          ∙ sym (map-append row_of (passed C t (place_of e) k far qs r).rows (each (λ r. (passed C t (place_of e) k far qs r).rows) m))

      adds_are : (m : List Entry) → Every (Good C) m
          → entered_rows q.stands q.blocks q.two (each (enter_row (tables C) q es) (map row_of m)) ≡ map row_of (each (λ r. (passed C t (place_of e) k far qs r).added) m)
      adds_are [] g = entered-none q.stands q.blocks q.two
      adds_are (r ∷ m) g =
          entered-append q.stands q.blocks q.two (enter_row (tables C) q es (row_of r)) (each (enter_row (tables C) q es) (map row_of m))
          ∙ ap₂ ◌++◌ (added_is r g.0) (adds_are m g.1)
          ∙ sym (map-append row_of (passed C t (place_of e) k far qs r).added (each (λ r. (passed C t (place_of e) k far qs r).added) m))

      pub passed_is : passed_of (tables C) q (map row_of l) ≡ map row_of (pass_list C t (place_of e) k l)
      unfolding passed_of covers_of pass_list
      passed_is =
          ap₂ ◌++◌ (holds_are l good) (adds_are l good)
          ∙ sym (map-append row_of (each (λ r. (passed C t (place_of e) k far qs r).rows) l) (each (λ r. (passed C t (place_of e) k far qs r).added) l))
