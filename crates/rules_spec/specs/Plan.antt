-- Plans: what the rules do to annotations, form by form, where contexts, types and tuples are gone and positions alone are left.
use Rattle.std.specs.Prelude.{ℕ, List, Option}
use Rattle.index_shift.specs.declared.entry.Entry.{Entry}

-- a map to so many positions
pub record Step : Type 0 where
  pub size : ℕ
  pub entries : List Entry

-- Of a Let, a tuple of the variables that the bound form does not use: the map to the bound form's context, at the
-- budget that the tuple leaves; how many positions the bound form's result has there, and the entries from these to the
-- context of the rest; and the tuple's degree.
pub record Part : Type 0 where
  pub there : Step
  pub size : ℕ
  pub joins : List Entry
  pub degree : ℕ

-- Of a call: the function, its place in the present group where it is of it, the numbers of the cost-free blocks whose
-- signatures may be taken, how many positions the context and the result have, and, for a signature at each budget from
-- 0 on, the entries from its arguments and from its result.
pub record Called : Type 0 where
  pub function : ℕ
  pub own : Option ℕ
  pub usable : List ℕ
  pub args : ℕ
  pub result : ℕ
  pub args_from : List (List Entry)
  pub result_from : List (List Entry)

-- The plan of a form; the form's nodes stand first.
mutual
  pub data Plan : Type 0 where
    -- a form without parts: its cells, and the maps by which the result's annotation comes to the context, one after the other
    Ends : ℕ → ℕ → List Step → Plan
    -- ticks, and the rest
    Pays : ℕ → ℕ → Plan → Plan
    -- the context changes
    Moves : ℕ → Step → Plan → Plan
    -- it changes for each of two branches
    Forks : ℕ → Step → Plan → Step → Plan → Plan
    -- how many positions the context has with the variable twice, the map from there, and the rest
    Shares : ℕ → ℕ → Step → Plan → Plan
    Calls : ℕ → Called → Plan
    -- the tuples of the other variables, the bound form at each budget from the present one down, how many positions
    -- the context of the rest has, and the rest
    Lets : ℕ → List Part → Plans → ℕ → Plan → Plan

  pub data Plans : Type 0 where
    NoPlans : Plans
    More : Plan → Plans → Plans
