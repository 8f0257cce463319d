use Rattle.std.proofs.Common.{◌≡◌, refl, ap, ◌∙◌}
use Rattle.cost_free.specs.Read.{task_of}
use Rattle.annot_types.specs.Read.{certificate_of, body_of}
use Rattle.rules_spec.specs.Capped.{cap}
use Rattle.rules_plan.specs.Read.{program_in}
use Rattle.cert_check.specs.At.{sizes_in}
use Rattle.cert_check.proofs.Knowing.{knows_of}
use Rattle.cert_check.proofs.Grouped.{if_solved_more}
use Rattle.cert_check.proofs.course.check_there.Goals as goal

pub returns-in-Ok-go_on-clause-goes : goal.returns-in-Ok-go_on-clause-goes
returns-in-Ok-go_on-clause-goes c = λ blocks come count next.
    let held = certificate_of c.args.certificate.now in
    let P = program_in c.args.program.now in
    c.in-Ok-go_on.ensures held blocks refl come next
    (if_solved_more (body_of c.args.block.now.body) _
    (c.deref.result.now ≡ sizes_in P held.degree blocks (task_of c.args.block.now.task))
    (λ e. c.deref.ensures.value ∙ e)
    (c.in-Ok.ensures.sizes held blocks (record {
      count = count;
      degree = refl;
      scale = ap cap c.scale_for.ensures;
      knows = knows_of P held.degree blocks c.args.earlier.now come.remembers;
    }) come.remembers))

pub check_body-requires-clause-remembers : goal.check_body-requires-clause-remembers
check_body-requires-clause-remembers c = (c.requires.came.0, c.requires.came.1.remembers)
