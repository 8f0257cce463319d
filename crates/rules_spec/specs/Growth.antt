-- How much a plan makes of the numbers that it is walked with.
use Rattle.std.specs.Prelude.{ℕ, ◌+◌, ◌*◌, List, [], ◌∷◌, slice_index_or}
use Rattle.index_shift.specs.declared.entry.Entry.{Entry}
use Rattle.rules_spec.specs.Plan as p
use Rattle.rules_spec.specs.Plan.{Step, Part}

-- how often a map takes entries, all together
abbrev pub span : List Entry → ℕ
span [] = 0
span (e ∷ es) = e.times + span es

-- one map after the other
abbrev pub spans : List Step → ℕ
spans [] = 1
spans (s ∷ ss) = spans ss * span s.entries

-- all of some maps
abbrev pub all_spans : List (List Entry) → ℕ
all_spans [] = 0
all_spans (es ∷ ess) = span es + all_spans ess

-- what the results of a Let bring to the context of the rest
abbrev pub join_spans : List Part → ℕ
join_spans [] = 0
join_spans (part ∷ parts) = span part.joins + join_spans parts

-- the bound form of a Let for each tuple, by what its plan at each budget makes
abbrev pub each_growth : List ℕ → List Part → ℕ
each_growth gs [] = 0
each_growth gs (part ∷ parts) = slice_index_or gs part.degree 0 * (1 + span part.there.entries) + each_growth gs parts

-- Where all that a plan is walked with is at most b, and multiples make at most w times b, each total is at most growth times b.
module _ (w : ℕ) where
  abbrev mutual
    pub growth : p.Plan → ℕ
    growth (p.Ends n cells steps) = 1 + n + (cells + spans steps)
    growth (p.Pays n ticks e) = growth e * (1 + n + ticks)
    growth (p.Moves n step e) = growth e * (1 + span step.entries) * (1 + n)
    growth (p.Forks n step a other b) = (growth a * (1 + span step.entries) + growth b * (1 + span other.entries)) * (1 + n)
    growth (p.Shares n size step e) = 1 + n + (span step.entries + growth e)
    growth (p.Calls n c) = 1 + n + (2 + (all_spans c.args_from + all_spans c.result_from) * w)
    growth (p.Lets n parts firsts size e) = (1 + each_growth (growths firsts) parts) * (1 + n) + growth e * (1 + join_spans parts)

    pub growths : p.Plans → List ℕ
    growths p.NoPlans = []
    growths (p.More e es) = growth e ∷ growths es
