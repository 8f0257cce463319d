use Rattle.std.proofs.Common.{◌+◌, ◌*◌}
use Rattle.std.specs.Prelude.{string_bytes}
use Rattle.raml_syntax.specs.Read.{ty_of}
use Rattle.explain_made.specs.Made.{AddsItems}
use Rattle.explain_made.proofs.Weights.{weight}
use Rattle.explain_made.proofs.values.+values.Given as goal

abbrev pub decreases-push_value : goal.decreases-push_value
decreases-push_value l = 8589934592 * weight (ty_of l.ty.now)

abbrev pub decreases-push_pair : goal.decreases-push_pair
decreases-push_pair l = 8589934592 * (weight (ty_of l.first.now) + weight (ty_of l.second.now)) + 1

abbrev pub decreases-push_list : goal.decreases-push_list
decreases-push_list l = 8589934592 * weight (ty_of l.element.now) + 2

abbrev pub decreases-push_others : goal.decreases-push_others
decreases-push_others l = 8589934592 * weight (ty_of l.element.now) + 1

abbrev pub decreases-push_tree : goal.decreases-push_tree
decreases-push_tree l = 8589934592 * weight (ty_of l.element.now) + (1 + l.count)

abbrev pub decreases-push_option : goal.decreases-push_option
decreases-push_option l = 8589934592 * weight (ty_of l.content.now) + 1

abbrev pub invariant-push_others-elements : goal.invariant-push_others-elements
invariant-push_others-elements l = AddsItems (ty_of l.element) (string_bytes l.initial.text) (string_bytes l.text)
