use Rattle.std.proofs.Common.{◌≡◌, ◌+◌, map, drop}
use Rattle.std.specs.Option.{option_map}
use Rattle.raml_syntax.specs.Read.{program_of, function_of}
use Rattle.raml_syntax.specs.Place.{place_of}
use Rattle.raml_syntax.proofs.program.Program.find.Given as goal

abbrev pub invariant-loop-fun : goal.invariant-loop-fun
invariant-loop-fun l =
    (l.place ≡ l.fun-index) × (option_map (λ k. l.place + k) (place_of l.name (map function_of (drop l.fun-index l.self.funs.items))) ≡ place_of l.name (program_of l.self))
