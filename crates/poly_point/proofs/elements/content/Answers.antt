use Rattle.poly_point.proofs.Values.{cell_value, words_there, no_content}
use Rattle.poly_point.proofs.elements.content.Goals as goal

pub returns-in-Just-clause-some : goal.returns-in-Just-clause-some
returns-in-Just-clause-some c = cell_value _ _ _ _ c.in-Just.ensures.earlier c.in-Cell.is c.in-Just.ensures.cell

pub returns-in-Just-clause-below : goal.returns-in-Just-clause-below
returns-in-Just-clause-below c = words_there _ _ _ c.in-Just.ensures.earlier c.in-Just.ensures.cell

pub returns-in-Cons : goal.returns-in-Cons
returns-in-Cons c = record { some = tt; below = tt; none = no_content _ _ _ _ c.get.ensures.earlier c.in-Cell.is c.get.ensures.cell c.in-Cons.is }
