use Rattle.std.proofs.Common.{◌≡◌, ◌++◌, drop, flat_map}
use Rattle.raml_syntax.specs.Read.{ty_of}
use Rattle.cost_free.specs.Target.{joined_over}
use Rattle.cost_free.specs.Joining.{all_joined}
use Rattle.cost_free.specs.Read.{sets_of}
use Rattle.cost_free.proofs.join.joined_over_all.Given as goal

abbrev pub invariant-loop-set : goal.invariant-loop-set
invariant-loop-set l =
    all_joined l.found.items ++ flat_map (joined_over (ty_of l.ty) l.d) (sets_of (drop l.set-index l.sets)) ≡ flat_map (joined_over (ty_of l.ty) l.d) (sets_of l.sets)
