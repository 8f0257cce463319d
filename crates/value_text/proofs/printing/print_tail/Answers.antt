use Rattle.std.proofs.Common.{subst}
use Rattle.raml_syntax.specs.Read.{ty_of}
use Rattle.value_text.specs.Held.{held}
use Rattle.value_text.specs.Pieces.{IsFine}
use Rattle.value_text.specs.declared.printing.Piece.TheVariants as p
use Rattle.value_text.proofs.Pieces.{plain_has, tail_has}
use Rattle.value_text.proofs.printing.print_tail.Goals as goal

pub print_item-requires : goal.print_item-requires
print_item-requires c =
    let fine = subst (λ x. IsFine c.args.heap.now.cells (p.Tail x c.args.element)) c.in-Cell.is c.requires.fine in
    λ plain. plain_has (held c.args.heap.now.cells) c.cons_cell-head.result.0 (ty_of c.args.element.now) (tail_has _ _ _ _ c.args.element c.cons_cell-head.ensures.earlier c.cons_cell-head.ensures.cell fine) plain
