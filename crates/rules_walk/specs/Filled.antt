-- The blocks whose signatures the calls of a plan may take, told beside it.
use Rattle.std.specs.Prelude.{ℕ, ◌-◌, nat_le, List, [], map, filter, slice_index_or, Vec}
use Rattle.std.specs.Global.{Global}
use Rattle.rules_spec.specs.Plan as p
use Rattle.rules_walk.specs.declared.plan.Usage.{Usage}

-- at a budget, of a function, by the numbers of the blocks
abbrev pub Uses : Type 0
Uses = ℕ → ℕ → List ℕ

-- the numbers of the blocks of budget at most d
abbrev pub blocks_at : ℕ → List Usage → List ℕ
blocks_at d uses = map (λ (u : Usage). u.block) (filter (λ (u : Usage). nat_le u.budget d) uses)

-- a table by functions, and what it tells
abbrev pub table_of : List (Vec Usage Global) → List (List Usage)
table_of table = map (λ us. us.items) table

abbrev pub uses_of : List (List Usage) → Uses
uses_of table d f = blocks_at d (slice_index_or table f [])

module _ (uses : Uses) where
  abbrev pub with_uses : ℕ → p.Called → p.Called
  with_uses d c = record {
    function = c.function;
    own = c.own;
    usable = uses d c.function;
    args = c.args;
    result = c.result;
    args_from = c.args_from;
    result_from = c.result_from;
  }

  -- A plan at budget d, whose calls may take these. The first plan of a Let's bound form is at the same budget, and
  -- each other one at the next lower one.
  abbrev mutual
    pub filled : ℕ → p.Plan → p.Plan
    filled d (p.Ends n cells steps) = p.Ends n cells steps
    filled d (p.Pays n ticks e) = p.Pays n ticks (filled d e)
    filled d (p.Moves n step e) = p.Moves n step (filled d e)
    filled d (p.Forks n step a other b) = p.Forks n step (filled d a) other (filled d b)
    filled d (p.Shares n size step e) = p.Shares n size step (filled d e)
    filled d (p.Calls n c) = p.Calls n (with_uses d c)
    filled d (p.Lets n parts firsts size e) = p.Lets n parts (all_filled d firsts) size (filled d e)

    pub all_filled : ℕ → p.Plans → p.Plans
    all_filled d p.NoPlans = p.NoPlans
    all_filled d (p.More e es) = p.More (filled d e) (all_filled (d - 1) es)
