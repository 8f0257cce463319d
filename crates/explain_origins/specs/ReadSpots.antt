-- What the code's spots and turns are as plain data.
use Rattle.std.specs.Prelude.{ℕ, List, Option, None}
use Rattle.std.specs.Borrow.{Bor}
use Rattle.raml_syntax.specs.Tree.{Term}
use Rattle.normal_spec.specs.Norm.{Norm}
use Rattle.normal_spec.specs.Read.{norm_of}
use Rattle.rules_spec.specs.Plan as p
use Rattle.rules_walk.specs.Read.{plan_of}
use Rattle.rules_walk.specs.declared.plan.Plan.{Plan}
use Rattle.explain_origins.specs.Paths.{in_one, in_two, origin_at}
use Rattle.explain_origins.specs.ReadCursors.{origins_of}
use Rattle.explain_origins.specs.declared.spot.Parted.{Parted}
use Rattle.explain_origins.specs.declared.spot.Parted.TheVariants.{Alone, One, Two}
use Rattle.explain_origins.specs.declared.spot.Spot.{Spot}
use Rattle.explain_origins.specs.declared.turn.Turn.{Turn}

abbrev pub turn_of : Turn × Bor Plan → Turn × p.Plan
turn_of t = (t.0, plan_of t.1.now)

abbrev pub from_spot : Spot → List ℕ → Option Term
from_spot s = origin_at (plan_of s.plan.now) (norm_of s.form.now) (origins_of s.cursor)

abbrev pub part_in : Parted → Turn → Option Norm
part_in Alone = λ turn. None
part_in (One a) = in_one (norm_of a.now)
part_in (Two a b) = in_two (norm_of a.now) (norm_of b.now)
