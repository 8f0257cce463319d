use Rattle.std.proofs.Common.{◌≡◌, ◌++◌, List, drop}
use Rattle.std.specs.Option.{option_map}
use Rattle.bound_file.specs.Reading.{Counted, all_counted}
use Rattle.bound_file.specs.Seen.{terms_of, all_counted_of}
use Rattle.bound_file.proofs.numbers.all_counted.Given as goal

abbrev pub invariant-loop-term : goal.invariant-loop-term
invariant-loop-term l =
    option_map (λ (cs : List Counted). all_counted_of l.found.items ++ cs) (all_counted (terms_of (drop l.term-index l.terms))) ≡ all_counted (terms_of l.terms)
