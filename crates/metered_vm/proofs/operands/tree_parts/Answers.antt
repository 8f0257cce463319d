use Rattle.stack_compile.specs.Ready.{IsTree}
use Rattle.metered_vm.proofs.CellKinds.{read_word, cell_is, no_other_tree}
use Rattle.metered_vm.proofs.operands.tree_parts.Goals as goal

pub unreachable-requires : goal.unreachable-requires
unreachable-requires c = no_other_tree _ _ (cell_is IsTree _ _ _ _ c.in-Cell.is c.get.ensures.earlier c.get.ensures.cell c.requires.tree) c.in_default-get.not-Node

pub returns-in-Node : goal.returns-in-Node
returns-in-Node c = let r = read_word _ _ _ _ c.in-Cell.is c.in-Node.ensures.earlier c.in-Node.ensures.cell in (r.0, r.1.0, r.1.1, r.1.2)
