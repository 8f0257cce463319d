use Rattle.std.proofs.lemmas.Int.{to_z-of_z}
use Rattle.std.specs.Int.{w64}
use Rattle.simplex_rows.specs.Forms.{row_of}
use Rattle.simplex_rows.proofs.ShortTells.{it_reads, number_fits, den_fits}
use Rattle.simplex_rows.proofs.short.ShortNumbers.at.Goals as goal

pub returns : goal.returns
returns c =
    let number = number_fits (row_of c.args.self.now) c.den.ensures.short c.args.column in
    let den = den_fits (row_of c.args.self.now) c.den.ensures.short in
    it_reads (row_of c.args.self.now) c.den.ensures.short c.args.column c.short.result (simp (c.den.ensures.value, c.number_at.ensures.value, to_z-of_z w64 _ number, to_z-of_z w64 _ den) at c.short.ensures)
