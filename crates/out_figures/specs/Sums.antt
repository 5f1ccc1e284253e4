-- The figures of a train from a list of words, as the program holds the weights: the weight of train k in minute t is word k · 720 + t.
-- Assumes nothing: these are definitions.
use Rattle.std.specs.Prelude.{Bool, cond, List, ℕ, suc, ◌+◌, ◌-◌, ◌*◌, ◌≤◌, ◌<◌, get_or, leb, ltb, eqb}
use Rattle.rules.specs.Lists.{keep, sum, below}
use Rattle.rules.specs.Figures.{Punctuality, Shares, Figures, double}
use Rattle.rules.specs.Figures.Punctuality.{never, always, share}

-- the weight of train k in minute t
abbrev pub word_of : List ℕ → ℕ → ℕ → ℕ
word_of ws k t = get_or ws (k * 720 + t) 0

-- the weight of train k in the minutes of a list that pass the test
abbrev pub weight_where : List ℕ → ℕ → (ℕ → Bool) → List ℕ → ℕ
weight_where ws k test l = sum (word_of ws k) (keep test l)

-- the weight in the minutes up to the last
unfoldable pub arrived_weight : List ℕ → ℕ → ℕ → ℕ
arrived_weight ws k last = sum (word_of ws k) (below (suc last))

-- the weight that arrives at the latest in minute `end`
unfoldable pub on_time_weight : List ℕ → ℕ → ℕ → ℕ → ℕ
on_time_weight ws k last end = weight_where ws k (λ t. leb t end) (below (suc last))

-- the weight that arrives after minute `end`
unfoldable pub late_weight : List ℕ → ℕ → ℕ → ℕ → ℕ
late_weight ws k last end = weight_where ws k (λ t. ltb end t) (below (suc last))

-- the lateness against a planned minute, each minute by its weight
unfoldable pub lateness : List ℕ → ℕ → ℕ → ℕ → ℕ
lateness ws k last plan = sum (λ t. (t - plan) * word_of ws k t) (below (suc last))

-- the weights of train k up to the last minute, that of minute t as many times as f says
unfoldable pub weight_times : List ℕ → ℕ → ℕ → (ℕ → ℕ) → ℕ
weight_times ws k last f = sum (λ t. f t * word_of ws k t) (below (suc last))

-- never where no weight is on time, always where all is, and otherwise the share
unfoldable pub judgement : ℕ → ℕ → Punctuality
judgement w total = cond (eqb w 0) never (cond (eqb w total) always (share (double w total)))

-- the shares on time, late, and not arrived of a whole
unfoldable pub shares_in : ℕ → ℕ → ℕ → Shares
shares_in on after total = record { on_time_of = double on total; late = double after total; not_arrived_of = double (total - (on + after)) total }

-- the figures of train k for a limit of L minutes
unfoldable pub figures_in : List ℕ → ℕ → ℕ → ℕ → ℕ → ℕ → Figures
figures_in ws k plan last total L = record {
  punctuality = judgement (on_time_weight ws k last (plan + L)) total;
  shares = shares_in (on_time_weight ws k last (plan + L)) (late_weight ws k last (plan + L)) total;
  sum = lateness ws k last plan;
  weight = arrived_weight ws k last;
}

-- the weights of one of eight trains in a window of at most 720 minutes, all of which are at most the whole, and that at most 10^14
pub record Weighed (ws : List ℕ) (k last total : ℕ) : Type 0 where
  pub train : k < 8
  pub minutes : last ≤ 719
  pub part : arrived_weight ws k last ≤ total
  pub whole : total ≤ 100000000000000
