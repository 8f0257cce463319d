use Rattle.std.proofs.Common.{◌≡◌, ◌≤◌, ◌+◌, ◌-◌, ◌++◌, All}
use Rattle.base_poly.specs.Plain.{degrees}
use Rattle.base_poly.specs.Indices.{by_degree, index_list}
use Rattle.base_poly.specs.Read.{context_of}
use Rattle.base_poly.proofs.list.indices.Given as goal

abbrev pub invariant-loop-degree : goal.invariant-loop-degree
invariant-loop-degree l = record {
  done : l.ordered.items ++ by_degree (1 + l.d - l.degree) l.degree l.found.items ≡ index_list (context_of l.types) l.d;
  low : All (λ t. degrees t ≤ 255) l.found.items;
}
