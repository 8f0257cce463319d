use Rattle.std.proofs.lemmas.Int.{to_z-of_z}
use Rattle.std.specs.Int.{w128}
use Rattle.linear_rows.specs.Systems.{ProvesLeast}
use Rattle.farkas_check.specs.Checks.{proving_least}
use Rattle.farkas_check.proofs.Firsts.{says, one_verdict}
use Rattle.farkas_check.proofs.Meaning.{least_met}
use Rattle.farkas_check.proofs.least_quickly.Goals as goal

pub returns : goal.returns
returns c =
    let met = least_met _ _ _ _ c.of_least.ensures.sound.one_each c.requires.each_unknown c.requires.each_row c.requires.x_natural c.requires.y_natural c.requires.positive in
    let h = simp (to_z-of_z w128 _ c.ranges.scale) at c.of_least.ensures.first in
    let s = says (proving_least c.args.system.now c.args.x.now c.args.y.now c.args.scale) (ProvesLeast c.args.system.now c.args.x.now c.args.y.now c.args.scale) _ c.unwrap_or.result met h c.unwrap_or.ensures in
    record { first = s.first; same = λ plain is. one_verdict _ _ _ s.first is; yes = s.yes; no = s.no }
