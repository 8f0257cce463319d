use Rattle.simplex_rows.proofs.ShortTells.{next_too}
use Rattle.simplex_rows.proofs.short.ShortNumbers.next_column.Goals as goal

pub returns-in-Few : goal.returns-in-Few
returns-in-Few c = rw c.in-Few.is (next_too c.args.from c.in-Few.row c.next_column.result c.next_column.ensures.short c.next_column.ensures.next)

pub returns-in-Many : goal.returns-in-Many
returns-in-Many c = rw c.in-Many.is (next_too c.args.from c.in-Many.row c.next_column-in-Many.result c.next_column-in-Many.ensures.short c.next_column-in-Many.ensures.next)
