-- What two accepted files hold, which is kept through the reading; each train's table is one of theirs. That an accepted case is sound is proved in
-- proofs/Accepted.antt. Assumes nothing.
use Rattle.std.specs.Prelude.{◌≡◌, refl, Bool, true, false, List, [], ◌∷◌, ◌++◌, ℕ, ◌≤◌, length, eqb}
use Rattle.std.proofs.Common.{sym}
use Rattle.std.proofs.lemmas.Bool.{eqb-false}
use Rattle.rules.specs.Lists.{one, keep}
use Rattle.rules.specs.Refusals.{then}
use Rattle.rules.specs.Refusals.Result.{answer}
use Rattle.rules.specs.Files.{Train, Table, Contents, File, end_rules, read, Case, tables_of, case_of, lacking, none_lacking, files}
use Rattle.rules.specs.Files.File.{case, book}
use Rattle.theory_lists.specs.Every.{Every}
use Rattle.theory_sound.specs.Facts.{SoundHead}
use Rattle.theory_lists.specs.Tests.{or_three_false, eqb-zero-false}
use Rattle.theory_sound.specs.Verdicts.{refused-answer, answer-answer, then-answer, Unbroken}
use Rattle.theory_sound.specs.Reading.{read_keeps}
use Rattle.theory_sound.specs.Kept.{Kept, kept-empty, kept_more, Headed, headed-more}

-- ---- the two files

-- what two accepted files hold, and that each train finds a table in them
pub record Reads (cs bk : List ℕ) (C : Case) : Type 0 where
  pub of_case : Contents
  pub of_book : Contents
  pub case_read : read case cs ≡ answer of_case
  pub book_read : read book bk ≡ answer of_book
  pub assembled : C ≡ case_of of_case of_book
  pub found : Every (λ t. 1 ≤ length (tables_of of_case of_book t.type)) of_case.trains

-- an answer is the case that was given, and no train lacks a table
lacking-answer : (f : Train → List Table) (ts : List Train) (C D : Case) → none_lacking (keep (λ t. eqb (length (f t)) 0) ts) C ≡ answer D
    → (D ≡ C) × Every (λ t. 1 ≤ length (f t)) ts
lacking-answer f [] C D h = (sym (answer-answer C D h), tt)
lacking-answer f (t ∷ ts) C D h = go (eqb (length (f t)) 0) refl h (lacking-answer f ts C D)
  where
    go : (b : Bool) → eqb (length (f t)) 0 ≡ b → none_lacking (one b t ++ keep (λ t. eqb (length (f t)) 0) ts) C ≡ answer D
        → (none_lacking (keep (λ t. eqb (length (f t)) 0) ts) C ≡ answer D → (D ≡ C) × Every (λ t. 1 ≤ length (f t)) ts)
        → (D ≡ C) × ((1 ≤ length (f t)) × Every (λ t. 1 ≤ length (f t)) ts)
    go true e h r = absurd (refused-answer _ D h)
    go false e h r = ((r h).0, (eqb-zero-false (length (f t)) e, (r h).1))

pub accepted_reads : (cs bk : List ℕ) (C : Case) → files cs bk ≡ answer C → Reads cs bk C
unfolding files
accepted_reads cs bk C h = record {
  of_case = c.0;
  of_book = k.0;
  case_read = c.1;
  book_read = k.1;
  assembled = l.0;
  found = l.1;
}
  where
    c : (c : Contents) × (read case cs ≡ answer c)
        × (then (read book bk) (λ k. none_lacking (lacking c k) (case_of c k)) ≡ answer C)
    c = then-answer (read case cs) _ C h

    k : (k : Contents) × (read book bk ≡ answer k)
        × (none_lacking (lacking c.0 k) (case_of c.0 k) ≡ answer C)
    k = then-answer (read book bk) _ C c.2

    l : (C ≡ case_of c.0 k.0) × Every (λ t. 1 ≤ length (tables_of c.0 k.0 t.type)) c.0.trains
    l = lacking-answer (λ t. tables_of c.0 k.0 t.type) c.0.trains (case_of c.0 k.0) C k.2

-- ---- what they hold

pub read_kept : (f : File) (l : List ℕ) (c : Contents) → read f l ≡ answer c → Kept c
read_kept f l c h = (read_keeps f (λ at k. Kept k) (λ k at l d. kept_more f k at l d) l c kept-empty h).0

-- an accepted case has a head, a station and a train
pub record Complete (c : Contents) : Type 0 where
  pub head : SoundHead c.head
  pub some_station : 1 ≤ length c.stations
  pub some_train : 1 ≤ length c.trains

pub case_complete : (l : List ℕ) (c : Contents) → read case l ≡ answer c → Complete c
unfolding end_rules
case_complete l c h = record {
  head = r.0 (eqb-false c.rank 0 parts.0);
  some_station = eqb-zero-false (length c.stations) parts.1;
  some_train = eqb-zero-false (length c.trains) parts.2;
}
  where
    r : Headed c × Unbroken (end_rules case c)
    r = read_keeps case (λ at k. Headed k) headed-more l c (λ n. absurd (n refl)) h

    parts : (eqb c.rank 0 ≡ false) × (eqb (length c.stations) 0 ≡ false) × (eqb (length c.trains) 0 ≡ false)
    parts = or_three_false (eqb c.rank 0) (eqb (length c.stations) 0) (eqb (length c.trains) 0) r.1.0

-- ---- the case

pub accepted-couples : (cs bk : List ℕ) (C : Case) → files cs bk ≡ answer C → length C.couples ≤ 20
unfolding case_of
accepted-couples cs bk C h =
    let r = accepted_reads cs bk C h in
    rw r.assembled (read_kept case cs r.of_case r.case_read).few_couples
