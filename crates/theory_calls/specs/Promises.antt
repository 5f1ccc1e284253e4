-- The three demands over the calls, as definitions. The exported functions answer what `single_run`, `run_call`, `listing_call` and
-- `figures_call` say, so what they promise (crate `promises`) follows from these theorems. Each proof cites the crates below. Assumes nothing.
use Rattle.std.specs.Prelude.{◌≡◌, refl, Bool, true, false, cond, ◌↔◌, List, [], ℕ, ◌≤◌, ◌<◌, length, take, leb}
use Rattle.std.proofs.Common.{sym, ap, ◌∙◌, subst, arith}
use Rattle.std.proofs.lemmas.Bool.{false≢true}
use Rattle.rules.specs.Lists.{keep, sum}
use Rattle.rules.specs.Refusals.{Refusal, nowhere, Result, refuse}
use Rattle.rules.specs.Refusals.Result.{refused, answer}
use Rattle.rules.specs.Files.{Case, files}
use Rattle.rules.specs.Turns.{State}
use Rattle.rules.specs.Joint.{choices, weight_of, Entry, joint, weight_at}
use Rattle.rules.specs.Listing.{not_arrived_of, listing}
use Rattle.rules.specs.Calls.{Run, stopped_run, whole_run, train_run, Memory, text_bytes, text_of, short, Lent, call, single_run, run_call, listing_call, figures_call}
use Rattle.rules.specs.Figures.{figures}
use Rattle.rules.specs.Demands.{Choice, Simulates, arrives_in}
use Rattle.rules.specs.Promised.{missing, counted_listing, refusal_of, full, missing_train, RefusedWith, Full}
use Rattle.theory_sound.proofs.Window.{files-window}
use Rattle.theory_sound.proofs.Places.{files-told}
use Rattle.theory_sound.specs.Verdicts.{refused-answer, answer-answer, refused-refused}
use Rattle.theory_trace.specs.Room.{list-fits}
use Rattle.theory_demands.specs.Demands.{demand_3, demand_2, demand_2_later, demand_2_not-arrived}
use Rattle.theory_sound.specs.Runs.{Answered, stopped-answer, whole-answer, train-answer}
use Rattle.theory_calls.specs.Decided.{Decided, whole_decided, train_decided}
use Rattle.theory_calls.specs.Decided.Decided.{by_files, by_arguments, by_room, by_run}
use Rattle.theory_calls.specs.Counted.{listing-counted}
use Rattle.theory_calls.specs.Memory.{cleared, written, call-short, call-refused, call-answered}

-- ---- demand 1: all inputs, and every byte of lent memory

-- what a call that is lent memory comes to
pub data Comes {A : Type 0} (asked : ℕ) (value : Run → A) (text : Run → List ℕ) (m : Memory) (r : Result Run) (l : Lent A) : Type 0 where
  -- the memory is too short: refusal 14, and it is untouched
  short_of : short asked m ≡ true → l ≡ record { result = refuse 14 nowhere; memory = m } → Comes asked value text m r l
  -- the first refusal of the files, the arguments and the run, and the required parts are 0
  refused_for : (f : Refusal) → short asked m ≡ false → r ≡ refused f → l ≡ record { result = refused f; memory = cleared asked m } → Comes asked value text m r l
  -- the answer, and the required parts hold the rows, the weights and the text, 0 where they are unused
  answered_by : (u : Run) → short asked m ≡ false → r ≡ answer u → l ≡ record { result = answer (value u); memory = written asked text u m } → Comes asked value text m r l

pub call_comes : {A : Type 0} (asked : ℕ) (value : Run → A) (text : Run → List ℕ) (m : Memory) (r : Result Run) → Comes asked value text m r (call asked value text m r)
call_comes asked value text m r = go (short asked m) refl r refl
  where
    go : (b : Bool) → short asked m ≡ b → (q : Result Run) → r ≡ q → Comes asked value text m r (call asked value text m r)
    go true h q e = short_of h (call-short asked value text m r h)
    go false h (refused f) e = refused_for f h e (call-refused asked value text m r f h e)
    go false h (answer u) e = answered_by u h e (call-answered asked value text m r u h e)

-- the run, the listing and the figures, for every case, book, argument and memory
pub run_comes : (cs bk : List ℕ) (t : ℕ) (m : Memory) → Comes 0 (λ u. length u.state.list) (λ u. []) m (stopped_run cs bk t) (run_call cs bk t m)
unfolding run_call
run_comes cs bk t m = call_comes 0 (λ u. length u.state.list) (λ u. []) m (stopped_run cs bk t)

pub listing_comes : (cs bk : List ℕ) (m : Memory) → Comes text_bytes (λ u. length (text_of u)) text_of m (whole_run cs bk) (listing_call cs bk m)
unfolding listing_call
listing_comes cs bk m = call_comes text_bytes (λ u. length (text_of u)) text_of m (whole_run cs bk)

pub figures_comes : (cs bk : List ℕ) (k L : ℕ) (m : Memory)
    → Comes 0 (λ u. figures u.of u.state.arrived k L) (λ u. []) m (train_run cs bk k) (figures_call cs bk k L m)
unfolding figures_call
figures_comes cs bk k L m = call_comes 0 (λ u. figures u.of u.state.arrived k L) (λ u. []) m (train_run cs bk k)

-- what stands past the first 4,096 bytes of a file never changes what a call comes to
pub handed-single : (cs bk x : List ℕ) (k : ℕ) → single_run (take 4096 cs) (take 4096 bk) x k ≡ single_run cs bk x k
unfolding single_run
handed-single cs bk x k = rw (files-window cs bk)

pub handed-run : (cs bk : List ℕ) (t : ℕ) (m : Memory) → run_call (take 4096 cs) (take 4096 bk) t m ≡ run_call cs bk t m
unfolding run_call stopped_run
handed-run cs bk t m = rw (files-window cs bk)

pub handed-part : (cs bk : List ℕ) (m : Memory) → listing_call (take 4096 cs) (take 4096 bk) m ≡ listing_call cs bk m
unfolding listing_call whole_run
handed-part cs bk m = rw (files-window cs bk)

pub handed-figures : (cs bk : List ℕ) (k L : ℕ) (m : Memory) → figures_call (take 4096 cs) (take 4096 bk) k L m ≡ figures_call cs bk k L m
unfolding figures_call train_run
handed-figures cs bk k L m = rw (files-window cs bk)

-- ---- demands 2 and 3 of every run that was answered

-- after minute m of the window
pub record Promised (cs bk : List ℕ) (m : ℕ) (u : Run) : Type 0 where
  pub answered : Answered cs bk m u
  -- demand 3, after every minute up to m and for every choice of delays
  pub simulates : (x : List ℕ) → Choice u.of x → (n : ℕ) → n ≤ m → Simulates u.of x n
  -- no list up to m has more entries than the room
  pub fits : (n : ℕ) → n ≤ m → length (joint u.of n).list ≤ u.of.head.room
  -- demand 2: the weight for a train and a minute is that of exactly the choices whose single run brings the train in in that minute
  pub weighs : (k t : ℕ) → t ≤ m → weight_at u.of u.state.arrived k t ≡ sum (weight_of u.of) (keep (arrives_in u.of k t) (choices u.of))
  pub later : (k t : ℕ) → m < t → weight_at u.of u.state.arrived k t ≡ 0

promised : (cs bk : List ℕ) (m : ℕ) (u : Run) → Answered cs bk m u → Promised cs bk m u
promised cs bk m u a = record {
  answered = a;
  simulates = λ x choice n h. demand_3 cs bk u.of a.accepted x choice n;
  fits = λ n h. list-fits u.of m a.unrefused n h;
  weighs = λ k t h. ap (λ (s : State Entry). weight_at u.of s.arrived k t) a.state ∙ demand_2 cs bk u.of a.accepted m a.in_window k t h;
  later = λ k t h. ap (λ (s : State Entry). weight_at u.of s.arrived k t) a.state ∙ demand_2_later cs bk u.of a.accepted m k t h;
}

pub run_promised : (cs bk : List ℕ) (m : ℕ) (u : Run) → stopped_run cs bk m ≡ answer u → Promised cs bk m u
run_promised cs bk m u e = promised cs bk m u (stopped-answer cs bk m u e)

pub listing_promised : (cs bk : List ℕ) (u : Run) → whole_run cs bk ≡ answer u → Promised cs bk u.of.head.last_minute u
listing_promised cs bk u e = promised cs bk u.of.head.last_minute u (whole-answer cs bk u e)

pub figures_promised : (cs bk : List ℕ) (k : ℕ) (u : Run) → train_run cs bk k ≡ answer u → Promised cs bk u.of.head.last_minute u
figures_promised cs bk k u e = promised cs bk u.of.head.last_minute u (train-answer cs bk k u e).0

-- "not arrived" is counted from the same runs: in the listing
pub not-arrived : (cs bk : List ℕ) (u : Run) → whole_run cs bk ≡ answer u → (k : ℕ) → not_arrived_of u.of u.state.arrived k ≡ missing u.of k
not-arrived cs bk u e k =
    let a = whole-answer cs bk u e in
    ap (λ (s : State Entry). not_arrived_of u.of s.arrived k) a.state ∙ demand_2_not-arrived cs bk u.of a.accepted k

-- the text of the listing is counted over choices, line by line
pub text_is : (cs bk : List ℕ) (u : Run) → whole_run cs bk ≡ answer u → text_of u ≡ counted_listing u.of
unfolding text_of
text_is cs bk u e =
    let a = whole-answer cs bk u e in
    ap (λ (s : State Entry). listing u.of s.arrived) a.state ∙ listing-counted cs bk u.of a.accepted

-- ---- the list counts as full only by the stated cutting rule

module _ {A : Type 0} (asked : ℕ) (value : Run → A) (text : Run → List ℕ) (m : Memory) (cs bk : List ℕ) (arguments stop : Case → ℕ)
    (other : (C : Case) → arguments C ≡ 12 → ⊥) (r : Result Run) (d : Decided cs bk arguments stop r) where
  refused_full : short asked m ≡ false → (f : Refusal) → r ≡ refused f → f.number ≡ 12 → Full asked m cs bk arguments stop
  refused_full h f e n = go d
    where
      number_is : (g : Refusal) → r ≡ refused g → g.number ≡ 12
      number_is g q = ap (λ (z : Refusal). z.number) (refused-refused g f (sym q ∙ e)) ∙ n

      go : Decided cs bk arguments stop r → Full asked m cs bk arguments stop
      go (by_files g a q) =
          let full = number_is g q in
          absurd (omega (arith, full, (files-told cs bk g a).of_files.not_of_calls (omega (arith, full))))
      go (by_arguments C a b q) = absurd (other C (number_is (refusal_of (arguments C)) q))
      go (by_room C a b p q) = record { of = C; suffices = h; accepted = a; sound = b; passed = p }
      go (by_run C a b p q) = absurd (refused-answer f _ (sym e ∙ q))

  full-refused : Full asked m cs bk arguments stop → r ≡ refused (refusal_of 12)
  full-refused f = go d
    where
      same : (C : Case) → files cs bk ≡ answer C → f.of ≡ C
      same C a = answer-answer f.of C (sym f.accepted ∙ a)

      go : Decided cs bk arguments stop r → r ≡ refused (refusal_of 12)
      go (by_files g a q) = absurd (refused-answer g f.of (sym a ∙ f.accepted))
      go (by_arguments C a b q) = absurd (omega (arith, f.sound, ap arguments (same C a)))
      go (by_room C a b p q) = q
      go (by_run C a b p q) = absurd (false≢true (sym p ∙ sym (ap (λ (D : Case). full D (stop D)) (same C a)) ∙ f.passed))

  -- a call is refused 12 exactly then
  pub call-full : RefusedWith 12 (call asked value text m r).result ↔ Full asked m cs bk arguments stop
  call-full = (λ h. forth (call_comes asked value text m r) h, λ f. back f)
    where
      forth : {l : Lent A} → Comes asked value text m r l → RefusedWith 12 l.result → Full asked m cs bk arguments stop
      forth (short_of s q) h = absurd (omega (arith, subst (λ (z : Lent A). RefusedWith 12 z.result) q h))
      forth (refused_for f s e q) h = refused_full s f e (subst (λ (z : Lent A). RefusedWith 12 z.result) q h)
      forth (answered_by u s e q) h = absurd (subst (λ (z : Lent A). RefusedWith 12 z.result) q h)

      back : Full asked m cs bk arguments stop → RefusedWith 12 (call asked value text m r).result
      back f = subst (λ (z : Lent A). RefusedWith 12 z.result) (sym (call-refused asked value text m r (refusal_of 12) f.suffices (full-refused f))) refl

-- the listing
pub listing_full : (cs bk : List ℕ) (m : Memory) → RefusedWith 12 (listing_call cs bk m).result ↔ Full text_bytes m cs bk (λ C. 0) (λ C. C.head.last_minute)
unfolding listing_call
listing_full cs bk m =
    call-full text_bytes (λ u. length (text_of u)) text_of m cs bk (λ C. 0) (λ C. C.head.last_minute) (λ C h. omega arith) (whole_run cs bk) (whole_decided cs bk)

-- the figures of train k for a limit of L minutes
pub figures-full : (cs bk : List ℕ) (k L : ℕ) (m : Memory) → RefusedWith 12 (figures_call cs bk k L m).result ↔ Full 0 m cs bk (missing_train k) (λ C. C.head.last_minute)
unfolding figures_call
figures-full cs bk k L m =
    call-full 0 (λ u. figures u.of u.state.arrived k L) (λ u. []) m cs bk (missing_train k) (λ C. C.head.last_minute)
    (λ C. other (leb (length C.trains) k)) (train_run cs bk k) (train_decided cs bk k)
  where
    other : (b : Bool) → ◌≡◌ {A = ℕ} (cond b 16 0) 12 → ⊥
    other true h = omega arith
    other false h = omega arith
