use Rattle.std.proofs.Common.{arith}
use Rattle.std.proofs.lemmas.Grind.{common_steps}
use Rattle.std.proofs.lemmas.Result.{on_ok_weaker}
use Rattle.explain_verdicts.proofs.object.write_head.Goals as goal

pub returns-clause-written : goal.returns-clause-written
returns-clause-written c =
    let name = c.in_ok-write_text.ensures.written in
    let meter = rw c.meter_name.ensures at c.in_ok-write_text-2.ensures.written in
    let key = c.in_ok-key.ensures.ok in
    let degree = c.in_ok-u64.ensures.ok in
    on_ok_weaker c.write_text-3.result (λ verdict. grind (arith, common_steps, name, meter, key, degree, rw c.verdict_name.ensures at verdict)) c.write_text-3.ensures.written
