-- What the code's maps are as plain data.
use Rattle.rules_spec.specs.Plan as p
use Rattle.rules_walk.specs.declared.plan.Step.{Step}
use Rattle.rules_walk.specs.declared.plan.Part.{Part}

abbrev pub step_of : Step → p.Step
step_of s = record { size = s.size; entries = s.entries.items }

abbrev pub part_of : Part → p.Part
part_of s = record { there = step_of s.there; size = s.size; joins = s.joins.items; degree = s.degree }
