-- Each answer belongs to one result: what a call answers as numbers tells whether it was refused, for what, and otherwise its value.
-- A refusal's number is never 0, and 65,535 is no minute of a window. The field viewer's answer tells whether a field was given, and which. Assumes nothing.
use Rattle.std.specs.Prelude.{◌≡◌, refl, List, ℕ, ◌<◌, Float}
use Rattle.std.proofs.Common.{sym, ap, ◌∙◌, subst, arith}
use Rattle.std.proofs.Math.Option.{Option, none, some}
use Rattle.rules.specs.Refusals.{Refusal, Result}
use Rattle.rules.specs.Refusals.Result.{refused, answer}
use Rattle.rules.specs.Files.{Case, files}
use Rattle.rules.specs.Single.{arrival}
use Rattle.rules.specs.Figures.{Punctuality, Shares, Figures}
use Rattle.rules.specs.Figures.Punctuality.{never, always, share}
use Rattle.rules.specs.Viewer.{View, viewed}
use Rattle.rules.specs.Viewer.View.{field, ended, overruns}
use Rattle.rules.specs.Calls.{Memory, single_run, run_call, listing_call, figures_call}
use Rattle.rules.specs.Answers.{Answer, number_answer, minute_number, minute_answer, punctuality_number, punctuality_value, FiguresAnswer, figures_answer, ViewAnswer, view_answer}
use Rattle.theory_sound.proofs.Accepted.{accepted-sound}
use Rattle.theory_calls.specs.Decided.{SingleDecided, single_decided}
use Rattle.theory_calls.specs.Decided.{SingleDecided as singles}
use Rattle.theory_calls.specs.Plan.{arrival-window}
use Rattle.laying.specs.declared.Answer.{Answer as Struct}
use Rattle.telling.specs.declared.TrainFigures.{TrainFigures}
use Rattle.desk.specs.declared.Viewed.{Viewed}
use Rattle.laying.specs.Answers.{answer_of}
use Rattle.telling.specs.Answers.{figures_of}
use Rattle.desk.specs.Answers.{single_answer, viewed_of}
use Rattle.promises.specs.Numbers.{Numbered, run_numbered, listing_numbered, figures_numbered, single_numbered}

-- ---- the definitions

-- a minute, if there is one, is below 65,535
abbrev pub Early : Option ℕ → Type 0
Early none = Unit
Early (some t) = t < 65535

abbrev pub EarlyAnswer : Result (Option ℕ) → Type 0
EarlyAnswer (refused r) = Unit
EarlyAnswer (answer o) = Early o

-- ---- one result for one answer

refusal-same : (r s : Refusal) → r.number ≡ s.number → r.file ≡ s.file → r.place ≡ s.place → r ≡ s
refusal-same r s n f p =
    ap (λ (i : ℕ). record { number = i; file = r.file; place = r.place }) n
    ∙ ap (λ (i : ℕ). record { number = s.number; file = i; place = r.place }) f
    ∙ ap (λ (i : ℕ). record { number = s.number; file = s.file; place = i }) p

-- the run and the listing
pub number-one : (a b : Result ℕ) → Numbered a → Numbered b → number_answer a ≡ number_answer b → a ≡ b
number-one (refused r) (refused s) h k e =
    ap (λ (z : Refusal). refused z) (refusal-same r s (ap (λ (z : Answer). z.refusal) e) (ap (λ (z : Answer). z.file) e) (ap (λ (z : Answer). z.place) e))
number-one (refused r) (answer w) h k e = absurd (omega (arith, h.0, ap (λ (z : Answer). z.refusal) e))
number-one (answer v) (refused s) h k e = absurd (omega (arith, k.0, ap (λ (z : Answer). z.refusal) e))
number-one (answer v) (answer w) h k e = ap (λ (z : ℕ). answer z) (ap (λ (z : Answer). z.value) e)

minute-one : (a b : Option ℕ) → Early a → Early b → minute_number a ≡ minute_number b → a ≡ b
minute-one none none h k e = refl
minute-one none (some t) h k e = absurd (omega arith)
minute-one (some t) none h k e = absurd (omega arith)
minute-one (some t) (some u) h k e = ap (λ (z : ℕ). some z) e

-- the single run
pub single-one : (a b : Result (Option ℕ)) → Numbered a → Numbered b → EarlyAnswer a → EarlyAnswer b → minute_answer a ≡ minute_answer b → a ≡ b
single-one (refused r) (refused s) h k f g e =
    ap (λ (z : Refusal). refused z) (refusal-same r s (ap (λ (z : Answer). z.refusal) e) (ap (λ (z : Answer). z.file) e) (ap (λ (z : Answer). z.place) e))
single-one (refused r) (answer w) h k f g e = absurd (omega (arith, h.0, ap (λ (z : Answer). z.refusal) e))
single-one (answer v) (refused s) h k f g e = absurd (omega (arith, k.0, ap (λ (z : Answer). z.refusal) e))
single-one (answer v) (answer w) h k f g e = ap (λ (z : Option ℕ). answer z) (minute-one v w f g (ap (λ (z : Answer). z.value) e))

-- each case of punctuality
pub punctuality-one : (p q : Option Punctuality) → punctuality_number p ≡ punctuality_number q → punctuality_value p ≡ punctuality_value q → p ≡ q
punctuality-one none none n v = refl
punctuality-one none (some never) n v = absurd (omega arith)
punctuality-one none (some always) n v = absurd (omega arith)
punctuality-one none (some (share y)) n v = absurd (omega arith)
punctuality-one (some never) none n v = absurd (omega arith)
punctuality-one (some never) (some never) n v = refl
punctuality-one (some never) (some always) n v = absurd (omega arith)
punctuality-one (some never) (some (share y)) n v = absurd (omega arith)
punctuality-one (some always) none n v = absurd (omega arith)
punctuality-one (some always) (some never) n v = absurd (omega arith)
punctuality-one (some always) (some always) n v = refl
punctuality-one (some always) (some (share y)) n v = absurd (omega arith)
punctuality-one (some (share x)) none n v = absurd (omega arith)
punctuality-one (some (share x)) (some never) n v = absurd (omega arith)
punctuality-one (some (share x)) (some always) n v = absurd (omega arith)
punctuality-one (some (share x)) (some (share y)) n v = ap (λ (z : Float). some (share z)) v

shares-same : (s t : Shares) → s.on_time_of ≡ t.on_time_of → s.late ≡ t.late → s.not_arrived_of ≡ t.not_arrived_of → s ≡ t
shares-same s t o l n =
    ap (λ (x : Float). record { on_time_of = x; late = s.late; not_arrived_of = s.not_arrived_of }) o
    ∙ ap (λ (x : Float). record { on_time_of = t.on_time_of; late = x; not_arrived_of = s.not_arrived_of }) l
    ∙ ap (λ (x : Float). record { on_time_of = t.on_time_of; late = t.late; not_arrived_of = x }) n

figures-same : (f g : Figures) → f.punctuality ≡ g.punctuality → f.shares ≡ g.shares → f.sum ≡ g.sum → f.weight ≡ g.weight → f ≡ g
figures-same f g p s l w =
    ap (λ (z : Punctuality). record { punctuality = z; shares = f.shares; sum = f.sum; weight = f.weight }) p
    ∙ ap (λ (z : Shares). record { punctuality = g.punctuality; shares = z; sum = f.sum; weight = f.weight }) s
    ∙ ap (λ (z : ℕ). record { punctuality = g.punctuality; shares = g.shares; sum = z; weight = f.weight }) l
    ∙ ap (λ (z : ℕ). record { punctuality = g.punctuality; shares = g.shares; sum = g.sum; weight = z }) w

-- the figures
pub figures-one : (a b : Result Figures) → Numbered a → Numbered b → figures_answer a ≡ figures_answer b → a ≡ b
figures-one (refused r) (refused s) h k e =
    ap (λ (z : Refusal). refused z)
    (refusal-same r s (ap (λ (z : FiguresAnswer). z.refusal) e) (ap (λ (z : FiguresAnswer). z.file) e) (ap (λ (z : FiguresAnswer). z.place) e))
figures-one (refused r) (answer g) h k e = absurd (omega (arith, h.0, ap (λ (z : FiguresAnswer). z.refusal) e))
figures-one (answer f) (refused s) h k e = absurd (omega (arith, k.0, ap (λ (z : FiguresAnswer). z.refusal) e))
figures-one (answer f) (answer g) h k e =
    let case : some f.punctuality ≡ some g.punctuality =
    punctuality-one (some f.punctuality) (some g.punctuality) (ap (λ (z : FiguresAnswer). z.punctuality) e) (ap (λ (z : FiguresAnswer). z.share) e) in
    let same : f.punctuality ≡ g.punctuality = cc in
    ap (λ (z : Figures). answer z)
    (figures-same f g same
    (shares-same f.shares g.shares (ap (λ (z : FiguresAnswer). z.on_time_of) e) (ap (λ (z : FiguresAnswer). z.late) e) (ap (λ (z : FiguresAnswer). z.not_arrived_of) e))
    (ap (λ (z : FiguresAnswer). z.lateness) e) (ap (λ (z : FiguresAnswer). z.arrived) e))

field-same : (a b c d e f : ℕ) → a ≡ b → c ≡ d → e ≡ f → field a c e ≡ field b d f
field-same a b c d e f p q r =
    ap (λ (z : ℕ). field z c e) p ∙ ap (λ (z : ℕ). field b z e) q ∙ ap (λ (z : ℕ). field b d z) r

-- what the field viewer gives, wherever it stood
pub view-one : (i j : ℕ) (v w : View) → view_answer i v ≡ view_answer j w → v ≡ w
view-one i j (field a c e) (field b d f) h =
    field-same a b c d e f (ap (λ (z : ViewAnswer). z.tag) h) (ap (λ (z : ViewAnswer). z.size) h) (ap (λ (z : ViewAnswer). z.next) h)
view-one i j (field a c e) ended h = absurd (omega (arith, ap (λ (z : ViewAnswer). z.given) h))
view-one i j (field a c e) overruns h = absurd (omega (arith, ap (λ (z : ViewAnswer). z.given) h))
view-one i j ended (field b d f) h = absurd (omega (arith, ap (λ (z : ViewAnswer). z.given) h))
view-one i j ended ended h = refl
view-one i j ended overruns h = absurd (omega (arith, ap (λ (z : ViewAnswer). z.refusal) h))
view-one i j overruns (field b d f) h = absurd (omega (arith, ap (λ (z : ViewAnswer). z.given) h))
view-one i j overruns ended h = absurd (omega (arith, ap (λ (z : ViewAnswer). z.refusal) h))
view-one i j overruns overruns h = refl

-- ---- the minute of a single run

pub single_early : (cs bk x : List ℕ) (k : ℕ) → EarlyAnswer (single_run cs bk x k)
single_early cs bk x k = go (single_decided cs bk x k)
  where
    early : (C : Case) → files cs bk ≡ answer C → (o : Option ℕ) → arrival C x k ≡ o → Early o
    early C a none e = tt
    early C a (some t) e = omega (arith, arrival-window cs bk C a x k t e, (accepted-sound cs bk C a).in_window)

    go : SingleDecided cs bk x k (single_run cs bk x k) → EarlyAnswer (single_run cs bk x k)
    go (singles.by_files f a q) = subst EarlyAnswer (sym q) tt
    go (singles.by_choice C a c q) = subst EarlyAnswer (sym q) tt
    go (singles.by_train C a c l q) = subst EarlyAnswer (sym q) tt
    go (singles.by_run C a c l q) = subst EarlyAnswer (sym q) (early C a (arrival C x k) refl)

-- ---- one result for one struct

abbrev struct_answer : Struct → Answer
struct_answer z = record { refusal = z.refusal; file = z.file; place = z.place; value = z.value }

abbrev struct_figures : TrainFigures → FiguresAnswer
struct_figures z = record {
  refusal = z.refusal;
  file = z.file;
  place = z.place;
  punctuality = z.punctuality;
  share = z.share;
  on_time_of = z.on_time;
  late = z.late;
  not_arrived_of = z.not_arrived;
  lateness = z.lateness;
  arrived = z.arrived;
}

abbrev struct_view : Viewed → ViewAnswer
struct_view z = record { refusal = z.refusal; given = z.given; tag = z.tag; size = z.size; next = z.next }

-- two calls, whatever their files, arguments and memory, that answer the same struct have the same result
pub single-told : (cs bk x ds ck y : List ℕ) (k j : ℕ) → single_answer (single_run cs bk x k) ≡ single_answer (single_run ds ck y j)
    → single_run cs bk x k ≡ single_run ds ck y j
single-told cs bk x ds ck y k j e =
    single-one (single_run cs bk x k) (single_run ds ck y j) (single_numbered cs bk x k) (single_numbered ds ck y j) (single_early cs bk x k) (single_early ds ck y j)
    (ap struct_answer e)

pub run-told : (cs bk ds ck : List ℕ) (s t : ℕ) (m n : Memory) → answer_of (run_call cs bk s m).result ≡ answer_of (run_call ds ck t n).result
    → (run_call cs bk s m).result ≡ (run_call ds ck t n).result
run-told cs bk ds ck s t m n e =
    number-one (run_call cs bk s m).result (run_call ds ck t n).result (run_numbered cs bk s m) (run_numbered ds ck t n) (ap struct_answer e)

pub listing-told : (cs bk ds ck : List ℕ) (m n : Memory) → answer_of (listing_call cs bk m).result ≡ answer_of (listing_call ds ck n).result
    → (listing_call cs bk m).result ≡ (listing_call ds ck n).result
listing-told cs bk ds ck m n e =
    number-one (listing_call cs bk m).result (listing_call ds ck n).result (listing_numbered cs bk m) (listing_numbered ds ck n) (ap struct_answer e)

pub figures-told : (cs bk ds ck : List ℕ) (k j L M : ℕ) (m n : Memory) → figures_of (figures_call cs bk k L m).result ≡ figures_of (figures_call ds ck j M n).result
    → (figures_call cs bk k L m).result ≡ (figures_call ds ck j M n).result
figures-told cs bk ds ck k j L M m n e =
    figures-one (figures_call cs bk k L m).result (figures_call ds ck j M n).result (figures_numbered cs bk k L m) (figures_numbered ds ck j M n) (ap struct_figures e)

-- two viewings, whatever their files and places, that answer the same struct gave the same: the same field, or both the end, or both refusal 1
pub field_told : (l m : List ℕ) (i j : ℕ) → viewed_of l i ≡ viewed_of m j → viewed l i ≡ viewed m j
field_told l m i j e = view-one i j (viewed l i) (viewed m j) (ap struct_view e)
