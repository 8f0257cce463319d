use Rattle.stack_compile.specs.Ready.{IsList}
use Rattle.metered_vm.proofs.CellKinds.{read_word, cell_is, no_other_list}
use Rattle.metered_vm.proofs.operands.list_parts.Goals as goal

pub unreachable-requires : goal.unreachable-requires
unreachable-requires c = no_other_list _ _ (cell_is IsList _ _ _ _ c.in-Cell.is c.get.ensures.earlier c.get.ensures.cell c.requires.list) c.in_default-get.not-Cons

pub returns-in-Cons : goal.returns-in-Cons
returns-in-Cons c = let r = read_word _ _ _ _ c.in-Cell.is c.in-Cons.ensures.earlier c.in-Cons.ensures.cell in (r.0, r.1.0, r.1.1)
