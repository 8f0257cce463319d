use Rattle.poly_point.proofs.Values.{cell_value, words_there, no_parts}
use Rattle.poly_point.proofs.elements.parts.Goals as goal

pub returns-in-Pair-clause-some : goal.returns-in-Pair-clause-some
returns-in-Pair-clause-some c = cell_value _ _ _ _ c.in-Pair.ensures.earlier c.in-Cell.is c.in-Pair.ensures.cell

pub returns-in-Pair-clause-first : goal.returns-in-Pair-clause-first
returns-in-Pair-clause-first c = (words_there _ _ _ c.in-Pair.ensures.earlier c.in-Pair.ensures.cell).0

pub returns-in-Pair-clause-second : goal.returns-in-Pair-clause-second
returns-in-Pair-clause-second c = (words_there _ _ _ c.in-Pair.ensures.earlier c.in-Pair.ensures.cell).1

pub returns-in-Cons : goal.returns-in-Cons
returns-in-Cons c = record { some = tt; first = tt; second = tt; none = no_parts _ _ _ _ c.get.ensures.earlier c.in-Cell.is c.get.ensures.cell c.in-Cons.is }
