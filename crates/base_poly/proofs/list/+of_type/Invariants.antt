use Rattle.std.proofs.Common.{◌≡◌, ◌≤◌, ◌+◌, ◌*◌, ◌++◌, drop, vec_len}
use Rattle.raml_syntax.specs.Read.{ty_of}
use Rattle.base_poly.specs.Indices.{tuples_led, pairs_led, lists, indices_up_to}
use Rattle.base_poly.specs.Read.{plains_of}
use Rattle.base_poly.proofs.Height.{nodes}
use Rattle.base_poly.proofs.list.+of_type.Given as goal

-- 2 ^ 35 for each node of the type leaves room for the degree
abbrev pub decreases-indices_up_to : goal.decreases-indices_up_to
decreases-indices_up_to l = 34359738368 * nodes (ty_of l.ty.now)

abbrev pub decreases-pairs_up_to : goal.decreases-pairs_up_to
decreases-pairs_up_to l = 34359738368 * (nodes (ty_of l.first.now) + nodes (ty_of l.second.now)) + 2

abbrev pub decreases-append_pairs_by_head : goal.decreases-append_pairs_by_head
decreases-append_pairs_by_head l = 34359738368 * nodes (ty_of l.second.now) + 1

abbrev pub decreases-lists_up_to : goal.decreases-lists_up_to
decreases-lists_up_to l = 34359738368 * nodes (ty_of l.element.now) + (3 * l.d + 1)

abbrev pub decreases-with_nonempty_lists : goal.decreases-with_nonempty_lists
decreases-with_nonempty_lists l = 34359738368 * nodes (ty_of l.element.now) + (3 * l.d + 3)

abbrev pub decreases-append_lists_by_head : goal.decreases-append_lists_by_head
decreases-append_lists_by_head l = 34359738368 * nodes (ty_of l.element.now) + (3 * l.d + 2)

abbrev pub invariant-pairs_up_to-loop-head : goal.invariant-pairs_up_to-loop-head
invariant-pairs_up_to-loop-head l = record {
  heads : plains_of l.head-items ≡ indices_up_to (ty_of l.first) l.d;
  done : plains_of l.found.items ++ pairs_led (indices_up_to (ty_of l.second)) l.d (plains_of (drop l.head-index l.head-items))
      ≡ pairs_led (indices_up_to (ty_of l.second)) l.d (plains_of l.head-items);
  few : vec_len l.found ≤ l.most;
}

abbrev pub invariant-with_nonempty_lists-loop-head : goal.invariant-with_nonempty_lists-loop-head
invariant-with_nonempty_lists-loop-head l = record {
  heads : plains_of l.head-items ≡ indices_up_to (ty_of l.element) l.d;
  done : l.found.items ++ tuples_led (λ k. lists (indices_up_to (ty_of l.element)) k k) l.d (plains_of (drop l.head-index l.head-items))
      ≡ l.fn.found.items ++ tuples_led (λ k. lists (indices_up_to (ty_of l.element)) k k) l.d (plains_of l.head-items);
  few : vec_len l.found ≤ l.most;
}

abbrev pub decreases-options_up_to : goal.decreases-options_up_to
decreases-options_up_to l = 34359738368 * nodes (ty_of l.content.now) + 1
