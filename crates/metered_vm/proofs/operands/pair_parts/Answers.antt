use Rattle.stack_compile.specs.Ready.{IsPair}
use Rattle.metered_vm.proofs.CellKinds.{read_word, cell_is, no_other_pair}
use Rattle.metered_vm.proofs.operands.pair_parts.Goals as goal

pub unreachable-requires : goal.unreachable-requires
unreachable-requires c = no_other_pair _ _ (cell_is IsPair _ _ _ _ c.in-Cell.is c.get.ensures.earlier c.get.ensures.cell c.requires.pair) c.in_default-get.not-Pair

pub returns : goal.returns
returns c = let r = read_word _ _ _ _ c.in-Cell.is c.in-Pair.ensures.earlier c.in-Pair.ensures.cell in (r.0, r.1.0, r.1.1)
