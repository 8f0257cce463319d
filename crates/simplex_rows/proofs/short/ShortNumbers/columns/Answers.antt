use Rattle.simplex_rows.proofs.ShortReads.{same_columns, row_sparse}
use Rattle.simplex_rows.proofs.short.ShortNumbers.columns.Goals as goal

pub returns-in-Few-clause-columns : goal.returns-in-Few-clause-columns
returns-in-Few-clause-columns c = rw (c.in-Few.is, same_columns c.in-Few.row.den c.in-Few.row.numbers) c.columns.ensures.columns

pub returns-in-Few-clause-sparse : goal.returns-in-Few-clause-sparse
returns-in-Few-clause-sparse c = rw c.in-Few.is (row_sparse c.in-Few.row c.columns.ensures.short)

pub returns-in-Many-clause-columns : goal.returns-in-Many-clause-columns
returns-in-Many-clause-columns c = rw (c.in-Many.is, same_columns c.in-Many.row.den c.in-Many.row.numbers) c.columns-in-Many.ensures.columns

pub returns-in-Many-clause-sparse : goal.returns-in-Many-clause-sparse
returns-in-Many-clause-sparse c = rw c.in-Many.is (row_sparse c.in-Many.row c.columns-in-Many.ensures.short)
