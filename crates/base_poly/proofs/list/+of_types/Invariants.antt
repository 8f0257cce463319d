use Rattle.std.proofs.Common.{◌≡◌, ◌≤◌, ◌+◌, ◌*◌, ◌++◌, drop, length, vec_len}
use Rattle.raml_syntax.specs.Read.{ty_of}
use Rattle.base_poly.specs.Indices.{indices_up_to, tuples_up_to}
use Rattle.base_poly.specs.Read.{plains_of, context_of}
use Rattle.base_poly.proofs.Longer.{joined, behind}
use Rattle.base_poly.proofs.list.+of_types.Given as goal

abbrev pub decreases-append_tuples : goal.decreases-append_tuples
decreases-append_tuples l = 3 * length l.types.now

abbrev pub decreases-append_by_first_type : goal.decreases-append_by_first_type
decreases-append_by_first_type l = 3 * length l.rest.now + 2

abbrev pub decreases-append_by_first_index : goal.decreases-append_by_first_index
decreases-append_by_first_index l = 3 * length l.rest.now + 1

abbrev pub invariant-append_by_first_type-loop-head : goal.invariant-append_by_first_type-loop-head
invariant-append_by_first_type-loop-head l = record {
  heads : plains_of l.head-items ≡ indices_up_to (ty_of l.first) l.d;
  done :
      l.found.items ++ joined (tuples_up_to (context_of l.rest)) (behind (plains_of l.fn.before.items)) l.d (plains_of (drop l.head-index l.head-items))
      ≡ l.fn.found.items ++ joined (tuples_up_to (context_of l.rest)) (behind (plains_of l.fn.before.items)) l.d (plains_of l.head-items);
  kept : l.before.items ≡ l.fn.before.items;
  few : vec_len l.found ≤ l.most;
}
