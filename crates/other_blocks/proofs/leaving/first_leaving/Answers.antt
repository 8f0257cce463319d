use Rattle.std.proofs.Common.{◌≡◌, ◌*◌, ap, ◌∙◌}
use Rattle.std.specs.Prelude.{nat_lt, unsigned_abs}
use Rattle.std.specs.Int.{w128}
use Rattle.std.proofs.lemmas.Int.{to_z-of_z}
use Rattle.annot_types.specs.Read.{blocks_of}
use Rattle.simplex_integers.specs.Wholes.{most}
use Rattle.other_blocks.specs.Leaving.{first_leaving}
use Rattle.other_blocks.proofs.Multiplied.{found_some, found_none}
use Rattle.other_blocks.proofs.leaving.first_leaving.Goals as goal

pub returns-clause-some : goal.returns-clause-some
returns-clause-some c =
    let size : c.unsigned_abs.result ≡ unsigned_abs c.args.factor = simp (to_z-of_z w128 _ c.ranges.factor) at c.unsigned_abs.ensures.value in
    let found : c.first_among.result ≡ first_leaving c.args.meter c.args.factor c.product_fits-scale_fits.result (blocks_of c.args.blocks.now) =
    simp (to_z-of_z w128 _ c.ranges.factor) at c.first_among.ensures in
    found_some c.args.meter c.args.factor c.args.scale c.requires (blocks_of c.args.blocks.now) c.product_fits-scale_fits.result
    (c.product_fits-scale_fits.ensures ∙ ap (λ n. nat_lt (n * c.args.scale) most) size) c.first_among.result found

pub returns-clause-none : goal.returns-clause-none
returns-clause-none c =
    let size : c.unsigned_abs.result ≡ unsigned_abs c.args.factor = simp (to_z-of_z w128 _ c.ranges.factor) at c.unsigned_abs.ensures.value in
    let found : c.first_among.result ≡ first_leaving c.args.meter c.args.factor c.product_fits-scale_fits.result (blocks_of c.args.blocks.now) =
    simp (to_z-of_z w128 _ c.ranges.factor) at c.first_among.ensures in
    found_none c.args.meter c.args.factor c.args.scale c.requires (blocks_of c.args.blocks.now) c.product_fits-scale_fits.result
    (c.product_fits-scale_fits.ensures ∙ ap (λ n. nat_lt (n * c.args.scale) most) size) c.first_among.result found
