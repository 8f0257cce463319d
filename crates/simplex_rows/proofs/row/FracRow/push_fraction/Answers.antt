use Rattle.std.proofs.Common.{subst, sym}
use Rattle.simplex_rows.specs.Entries.{EndsBefore}
use Rattle.simplex_rows.specs.Forms.{row_of}
use Rattle.simplex_rows.specs.ShortRows.{fractions_of}
use Rattle.simplex_rows.proofs.row.FracRow.push_fraction.Goals as goal

pub push_whole-requires : goal.push_whole-requires
push_whole-requires c =
    let before : EndsBefore c.args.column (fractions_of (row_of c.in-Short.row)) = rw c.in-Short.is at (subst (EndsBefore c.args.column) (sym c.self.view_is) c.requires) in
    c.in_ok-wide-in-Short.ensures.ends c.args.column before
