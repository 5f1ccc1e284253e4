-- The delays of an accepted case of bytes are bytes: each is one of the files' bytes. Assumes nothing.
use Rattle.std.specs.Prelude.{◌≡◌, List, [], ◌∷◌, ℕ, suc, ◌≤◌, get_or}
use Rattle.rules.specs.Refusals.Result.{answer}
use Rattle.rules.specs.Files.{Case, files}
use Rattle.theory_lists.specs.Every.{Every}
use Rattle.rules.specs.Promised.{Bytes}
use Rattle.theory_passes.specs.Bounds.{ByteDelays}
use Rattle.file_plan.specs.Small.{files-small}

every_by : {A : Type 0} (P : A → Type 0) (d : A) (l : List A) → ((k : ℕ) → P (get_or l k d)) → Every P l
every_by P d [] h = tt
every_by P d (a ∷ l) h = (h 0, every_by P d l (λ k. h (suc k)))

-- the delays of an accepted case of bytes are bytes
pub byte-delays : (cs bk : List ℕ) (C : Case) → Bytes cs → Bytes bk → files cs bk ≡ answer C → ByteDelays C
byte-delays cs bk C p q e =
    let h = files-small cs bk C p q e in
    every_by (Every (λ p. p.delay ≤ 255)) [] C.tables
    (λ k. every_by (λ p. p.delay ≤ 255) (record { delay = 0; weight = 0 }) (get_or C.tables k []) (h k))
