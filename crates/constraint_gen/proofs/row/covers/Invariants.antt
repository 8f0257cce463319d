use Rattle.std.proofs.Common.{◌≡◌, nat_lt, not, ◌&&◌, drop}
use Rattle.std.specs.List.{list_all}
use Rattle.rules_spec.specs.Capped.{cap}
use Rattle.constraint_gen.specs.Sums.{total_of}
use Rattle.constraint_gen.proofs.row.covers.Given as goal

abbrev pub invariant-loop-term : goal.invariant-loop-term
invariant-loop-term l =
    list_all (λ t. not (nat_lt t.0 l.unknowns && nat_lt (cap (total_of t.0 l.left.terms)) t.1)) (drop l.term-index l.terms)
    ≡ list_all (λ t. not (nat_lt t.0 l.unknowns && nat_lt (cap (total_of t.0 l.left.terms)) t.1)) l.terms
