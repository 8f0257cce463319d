use Rattle.stack_compile.specs.Ready.{IsOption}
use Rattle.metered_vm.proofs.CellKinds.{read_word, cell_is, no_other_option}
use Rattle.metered_vm.proofs.operands.content.Goals as goal

pub unreachable-requires : goal.unreachable-requires
unreachable-requires c = no_other_option _ _ (cell_is IsOption _ _ _ _ c.in-Cell.is c.get.ensures.earlier c.get.ensures.cell c.requires.option) c.in_default-get.not-Just

pub returns-in-Just : goal.returns-in-Just
returns-in-Just c = let r = read_word _ _ _ _ c.in-Cell.is c.in-Just.ensures.earlier c.in-Just.ensures.cell in (r.0, r.1)
