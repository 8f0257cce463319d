use Rattle.std.specs.Prelude.{codes}
use Rattle.explain_made.proofs.Added.{at_last, nil_added, leaf_added, none_added, both_added, just_added, node_added, list_added, item_added}
use Rattle.explain_made.proofs.values.+values.Goals as goal

pub push_list-returns-then-count-eq0 : goal.push_list-returns-then-count-eq0
push_list-returns-then-count-eq0 t c = at_last c.push_str.result _ _ (codes "[]") c.push_str.ensures.bytes (nil_added _ _ _)

pub push_list-returns-then-not-takes_cell : goal.push_list-returns-then-not-takes_cell
push_list-returns-then-not-takes_cell t c = at_last c.push_str-then-not-takes_cell.result _ _ (codes "[]") c.push_str-then-not-takes_cell.ensures.bytes (nil_added _ _ _)

pub push_list-returns : goal.push_list-returns
push_list-returns t c =
    at_last c.push_str-3.result _ _ (codes "]") c.push_str-3.ensures.bytes
    (list_added _ _ _ _ _ _ c.in_ok-push_str.ensures.bytes c.in_ok-push_value.ensures c.in_ok-push_others.ensures)

pub push_option-returns-then-up_to-eq0 : goal.push_option-returns-then-up_to-eq0
push_option-returns-then-up_to-eq0 t c = at_last c.push_str.result _ _ (codes "none") c.push_str.ensures.bytes (none_added _ _ _)

pub push_option-returns-then-not-takes_cell : goal.push_option-returns-then-not-takes_cell
push_option-returns-then-not-takes_cell t c = at_last c.push_str-then-not-takes_cell.result _ _ (codes "none") c.push_str-then-not-takes_cell.ensures.bytes (none_added _ _ _)

pub push_option-returns : goal.push_option-returns
push_option-returns t c =
    at_last c.push_str-3.result _ _ (codes ")") c.push_str-3.ensures.bytes
    (just_added _ _ _ _ _ c.in_ok-push_str.ensures.bytes c.in_ok-push_value.ensures)

pub push_pair-returns : goal.push_pair-returns
push_pair-returns t c =
    at_last c.push_str-3.result _ _ (codes ")") c.push_str-3.ensures.bytes
    (both_added _ _ _ _ _ _ _ _ c.in_ok-push_str.ensures.bytes c.in_ok-push_value.ensures c.in_ok-push_str-2.ensures.bytes c.in_ok-push_value-2.ensures)

pub push_tree-returns-then-count-eq0 : goal.push_tree-returns-then-count-eq0
push_tree-returns-then-count-eq0 t c = at_last c.push_str.result _ _ (codes "leaf") c.push_str.ensures.bytes (leaf_added _ _ _)

pub push_tree-returns-then-not-takes_cell : goal.push_tree-returns-then-not-takes_cell
push_tree-returns-then-not-takes_cell t c = at_last c.push_str-then-not-takes_cell.result _ _ (codes "leaf") c.push_str-then-not-takes_cell.ensures.bytes (leaf_added _ _ _)

pub push_tree-returns : goal.push_tree-returns
push_tree-returns t c =
    at_last c.push_str-5.result _ _ (codes ")") c.push_str-5.ensures.bytes
    (node_added _ _ _ _ _ _ _ _ _ c.in_ok-push_str.ensures.bytes c.in_ok-push_value.ensures c.in_ok-push_str-2.ensures.bytes c.in_ok-push_tree.ensures
    c.in_ok-push_str-3.ensures.bytes c.in_ok-push_tree-2.ensures)

pub push_others-elements-preserved : goal.push_others-elements-preserved
push_others-elements-preserved t c = item_added _ _ _ _ _ c.elements.invariant c.in_ok-push_str.ensures.bytes c.in_ok-push_value.ensures
