use Rattle.std.proofs.Common.{arith}
use Rattle.std.proofs.lemmas.Grind.{common_steps}
use Rattle.std.proofs.lemmas.Result.{on_ok_weaker}
use Rattle.explain_json.proofs.terms.write_pair.Goals as goal

pub returns-clause-written : goal.returns-clause-written
returns-clause-written c =
    let first = c.in_ok-begin_object.ensures.ok in
    let index = c.in_ok-write_text.ensures.written in
    let coefficient = c.in_ok-write_text-2.ensures.written in
    on_ok_weaker c.end_object.result (λ last. grind (arith, common_steps, first, index, coefficient, last)) c.end_object.ensures.ok
