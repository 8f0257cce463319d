use Rattle.std.proofs.Common.{◌≡◌, ◌++◌, map}
use Rattle.raml_syntax.specs.Read.{ty_of}
use Rattle.base_poly.specs.Read.{plains_of}
use Rattle.cost_free.specs.Target.{joined}
use Rattle.cost_free.specs.Joining.{all_joined}
use Rattle.cost_free.specs.Read.{places_of}
use Rattle.cost_free.proofs.join.append_joined.Given as goal

abbrev pub invariant-loop-list : goal.invariant-loop-list
invariant-loop-list l =
    all_joined l.found.items ≡ all_joined l.fn.found.items ++ map (joined (ty_of l.ty) (places_of l.holders)) (plains_of l.yielded)
