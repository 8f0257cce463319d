use Rattle.linear_rows.specs.Systems.{Refutes}
use Rattle.farkas_check.proofs.Firsts.{says}
use Rattle.farkas_check.proofs.Meaning.{refutes_met}
use Rattle.farkas_check.proofs.refutes.Goals as goal

pub returns : goal.returns
returns c =
    let s = says _ (Refutes c.args.system.now c.args.y.now) _ c.unwrap_or.result (refutes_met _ _ c.requires.one_each c.requires.natural) c.of_refuting.ensures c.unwrap_or.ensures in
    record { first = s.first; yes = s.yes; no = s.no }
