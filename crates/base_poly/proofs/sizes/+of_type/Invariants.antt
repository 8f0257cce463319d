use Rattle.std.proofs.Common.{◌+◌, ◌*◌}
use Rattle.raml_syntax.specs.Read.{ty_of}
use Rattle.base_poly.proofs.Height.{nodes}
use Rattle.base_poly.proofs.sizes.+of_type.Given as goal

abbrev pub decreases-of_type : goal.decreases-of_type
decreases-of_type l = 3 * nodes (ty_of l.ty.now)

abbrev pub decreases-of_pairs : goal.decreases-of_pairs
decreases-of_pairs l = 3 * (nodes (ty_of l.first.now) + nodes (ty_of l.second.now)) + 1

abbrev pub decreases-of_lists : goal.decreases-of_lists
decreases-of_lists l = 3 * nodes (ty_of l.element.now) + 2

abbrev pub decreases-of_entries : goal.decreases-of_entries
decreases-of_entries l = 3 * nodes (ty_of l.element.now) + 1

abbrev pub decreases-of_options : goal.decreases-of_options
decreases-of_options l = 3 * nodes (ty_of l.content.now) + 1
