-- The forms in which a row is kept, and what a row and a lead are multiplied by.
use Rattle.simplex_rows.specs.Entries.{Entries}
use Rattle.simplex_rows.specs.ShortRows.{ShortRow, fractions_of}
use Rattle.simplex_rows.specs.declared.short.ShortNumbers.{ShortNumbers}
use Rattle.simplex_rows.specs.declared.short.ShortNumbers.TheVariants as short
use Rattle.simplex_rows.specs.declared.row.Numbers.{Numbers}
use Rattle.simplex_rows.specs.declared.row.Numbers.TheVariants as kept

abbrev pub row_of : ShortNumbers → ShortRow
row_of (short.Few row) = row
row_of (short.Many row) = row

abbrev pub entries_of : Numbers → Entries
entries_of (kept.Short numbers) = fractions_of (row_of numbers)
entries_of (kept.Wide entries) = entries
