use Rattle.std.proofs.Common.{ap, ◌∙◌}
use Rattle.value_text.specs.Held.{held, held_of, value_held, value_of}
use Rattle.value_text.specs.declared.word.Word.TheVariants as w
use Rattle.value_text.proofs.States.{cell_made}
use Rattle.value_text.proofs.cells.add_cell.Goals as goal

pub returns-clause-value : goal.returns-clause-value
returns-clause-value c =
    ap (λ n. value_of (held c.add.new.self.cells) (w.Cell n)) c.add.ensures.number ∙ cell_made _ _ c.args.cell c.add.ensures.cells ∙ ap (λ l. value_held (held_of (held l) c.args.cell)) c.in_ok-reserve.ensures.cells
