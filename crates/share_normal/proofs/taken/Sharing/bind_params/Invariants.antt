use Rattle.std.proofs.Common.{◌≡◌, ◌+◌, ◌++◌, drop, map, length}
use Rattle.raml_syntax.specs.Read.{parameter_of}
use Rattle.normal_spec.specs.One as one
use Rattle.normal_spec.specs.Read.{parameters_of}
use Rattle.share_normal.proofs.taken.Sharing.bind_params.Given as goal

abbrev pub invariant-loop-param : goal.invariant-loop-param
invariant-loop-param l =
    (parameters_of l.made.items ++ one.numbered (map parameter_of (drop l.param-index l.params)) l.self.next ≡ one.numbered (map parameter_of l.params) l.fn.self.next)
    × (length (map parameter_of (drop l.param-index l.params)) + l.self.next ≡ length (map parameter_of l.params) + l.fn.self.next)
