use Rattle.std.proofs.Common.{sym, ap, ◌∙◌}
use Rattle.raml_syntax.specs.Read.{ty_of}
use Rattle.raml_syntax.specs.Tree.{ListOf, PairOf, TreeOf, OptionOf}
use Rattle.value_text.proofs.Types.{type_list, type_pair, type_tree, type_option, both_ok}
use Rattle.value_text.specs.Held.{held}
use Rattle.value_text.proofs.Pieces.{plain_has, list_has, list_prints, pair_prints, node_prints, content_prints}
use Rattle.value_text.proofs.printing.print_cell.Goals as goal

pub print_item-requires : goal.print_item-requires
print_item-requires c =
    let at = type_list c.args.ty.now c.in-List.element c.in-List.is ∙ ap (λ x. ListOf (ty_of x)) (sym c.deref.ensures) in
    λ plain. plain_has (held c.args.heap.now.cells) c.cons_cell-head.result.0 (ty_of c.deref.result.now) (list_has _ _ _ _ c.args.ty c.deref.result c.cons_cell-head.ensures.earlier c.cons_cell-head.ensures.cell c.requires.fine at).0 plain

pub returns-in-List : goal.returns-in-List
returns-in-List c =
    let at = type_list c.args.ty.now c.in-List.element c.in-List.is ∙ ap (λ x. ListOf (ty_of x)) (sym c.deref.ensures) in
    both_ok c.print_item.result (λ t p. list_prints _ _ _ _ _ c.deref.result _ _ _ _ c.cons_cell-head.ensures.earlier c.cons_cell-head.ensures.cell c.requires.fine at t p) c.print_item.ensures.text c.print_item.ensures.pieces

pub returns-in-Pair : goal.returns-in-Pair
returns-in-Pair c =
    let at = type_pair c.args.ty.now c.in-Pair.left c.in-Pair.right c.in-Pair.is ∙ (λ i. PairOf (ty_of (sym c.deref-in-Pair.ensures i)) (ty_of (sym c.deref-in-Pair-2.ensures i))) in
    both_ok c.print_pair.result (λ t p. pair_prints _ _ _ _ _ c.deref-in-Pair.result c.deref-in-Pair-2.result _ _ _ _ c.pair_cell-first.ensures.earlier c.pair_cell-first.ensures.cell c.requires.fine at t p) c.print_pair.ensures.text c.print_pair.ensures.pieces

pub returns-in-Tree : goal.returns-in-Tree
returns-in-Tree c =
    let at = type_tree c.args.ty.now c.in-Tree.element c.in-Tree.is ∙ ap (λ x. TreeOf (ty_of x)) (sym c.deref-in-Tree.ensures) in
    both_ok c.print_node.result (λ t p. node_prints _ _ _ _ _ _ c.deref-in-Tree.result _ _ _ _ c.node_cell-item.ensures.earlier c.node_cell-item.ensures.cell c.requires.fine at t p) c.print_node.ensures.text c.print_node.ensures.pieces

pub returns-in-Opt : goal.returns-in-Opt
returns-in-Opt c =
    let at = type_option c.args.ty.now c.in-Opt.content c.in-Opt.is ∙ ap (λ x. OptionOf (ty_of x)) (sym c.deref-in-Opt.ensures) in
    both_ok c.print_content.result (λ t p. content_prints _ _ _ _ c.deref-in-Opt.result _ _ _ _ c.just_cell-word.ensures.earlier c.just_cell-word.ensures.cell c.requires.fine at t p) c.print_content.ensures.text c.print_content.ensures.pieces
