use Rattle.std.proofs.Common.{◌∙◌}
use Rattle.std.proofs.lemmas.Int.{to_z-of_z}
use Rattle.std.specs.Int.{w64}
use Rattle.simplex_rows.specs.Forms.{row_of}
use Rattle.simplex_rows.proofs.ShortTells.{sign_is, number_fits}
use Rattle.simplex_rows.proofs.short.ShortNumbers.sign_at.Goals as goal

pub returns : goal.returns
returns c =
    let number = number_fits (row_of c.args.self.now) c.number_at.ensures.short c.args.column in
    (simp (c.number_at.ensures.value, to_z-of_z w64 _ number) at c.cmp.ensures) ∙ sign_is (row_of c.args.self.now) c.number_at.ensures.short c.args.column
