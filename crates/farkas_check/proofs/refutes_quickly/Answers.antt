use Rattle.linear_rows.specs.Systems.{Refutes}
use Rattle.farkas_check.proofs.Firsts.{says, one_verdict}
use Rattle.farkas_check.proofs.Meaning.{refutes_met}
use Rattle.farkas_check.proofs.refutes_quickly.Goals as goal

pub returns : goal.returns
returns c =
    let s = says _ (Refutes c.args.system.now c.args.y.now) _ c.unwrap_or.result (refutes_met _ _ c.requires.one_each c.requires.natural) c.of_refuting.ensures c.unwrap_or.ensures in
    record { first = s.first; same = λ plain is. one_verdict _ _ _ s.first is; yes = s.yes; no = s.no }
