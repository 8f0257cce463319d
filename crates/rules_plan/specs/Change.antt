-- Changes of a context.
use Rattle.std.specs.Prelude.{ℕ, List}
use Rattle.raml_syntax.specs.Tree.{Type'}
use Rattle.base_poly.specs.Read.{context_of}
use Rattle.normal_spec.specs.Context.{types}
use Rattle.normal_spec.specs.Read.{parameters_of}
use Rattle.index_shift.specs.declared.entry.Entry.{Entry}
use Rattle.index_shift.specs.Maps.{opening, leaving, sharing}
use Rattle.rules_spec.specs.Plan as p
use Rattle.rules_spec.specs.Planned.{step}
use Rattle.rules_plan.specs.declared.change.Change.{Change}
use Rattle.rules_plan.specs.declared.change.Change.TheVariants.{Opening, Leaving, Sharing}
use Rattle.rules_plan.specs.declared.change.Move.{Move}

abbrev pub changed : Change → List Type' → ℕ → ℕ → List Entry
changed Opening As at d = opening As at d
changed Leaving As at d = leaving As at d
changed Sharing As at d = sharing As at d

-- the map at a budget
abbrev pub step_at : Move → ℕ → p.Step
step_at m d = step (types (parameters_of m.next.items)) d (changed m.change (context_of m.types.items) m.at d)
