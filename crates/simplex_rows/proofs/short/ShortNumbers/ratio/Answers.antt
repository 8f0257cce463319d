use Rattle.std.proofs.lemmas.Int.{to_z-of_z}
use Rattle.std.specs.Int.{w64}
use Rattle.simplex_rows.specs.Forms.{row_of}
use Rattle.simplex_rows.proofs.ShortTells.{ratio_is, number_positive, number_fits}
use Rattle.simplex_rows.proofs.short.ShortNumbers.ratio.Goals as goal

pub short-requires : goal.short-requires
short-requires c =
    let by = number_fits (row_of c.args.self.now) c.number_at.ensures.short c.args.by in
    simp (c.number_at-2.ensures.value, to_z-of_z w64 _ by) (number_positive (row_of c.args.self.now) c.number_at.ensures.short c.args.by c.requires)

pub returns : goal.returns
returns c =
    let number = number_fits (row_of c.args.self.now) c.number_at.ensures.short c.args.column in
    let by = number_fits (row_of c.args.self.now) c.number_at.ensures.short c.args.by in
    ratio_is (row_of c.args.self.now) c.number_at.ensures.short c.args.column c.args.by c.short.result (number_positive (row_of c.args.self.now) c.number_at.ensures.short c.args.by c.requires)
    (simp (c.number_at.ensures.value, c.number_at-2.ensures.value, to_z-of_z w64 _ number, to_z-of_z w64 _ by) at c.short.ensures)
