use Rattle.std.proofs.Common.{true, refl, sym, subst}
use Rattle.rules_plan.specs.Read.{program_in}
use Rattle.cert_check.specs.Checked.{Checking}
use Rattle.constraint_gen.proofs.Whole.{if_ok, if_err}
use Rattle.infer_spec.specs.Good.{AllLeast}
use Rattle.infer_spec.specs.States.{certificate_of}
use Rattle.infer_systems_laws.proofs.Proper.{ordered_are_proper}
use Rattle.bound_infer.specs.Keeping.{state_of, analysis_in}
use Rattle.bound_infer.specs.Inferred.{IsInferred}
use Rattle.bound_infer.proofs.Stepping.{if_ok_both}
use Rattle.bound_infer.proofs.Leading.{ended, check_cause}
use Rattle.bound_infer.proofs.Whole.{small}
use Rattle.bound_infer.proofs.cursor.Inference.finish.Goals as goal

pub ended-requires-clause-proper : goal.ended-requires-clause-proper
ended-requires-clause-proper g c = ordered_are_proper (program_in c.args.self.program.now) c.requires.course.ordered

pub ended-requires-clause-small : goal.ended-requires-clause-small
ended-requires-clause-small g c =
    let P = program_in c.args.self.program.now in
    let one = c.requires.course.answers in
    let A = analysis_in c.args.self.program.now c.args.self.degree one.pick in
    let g' = c.systems_generate.ensures P c.requires.course.ordered c.args.self.degree one.pick in
    let cert = certificate_of c.args.self.degree true (state_of c.args.self.run) in
    let certifies = c.courses_certify.ensures A g' c.requires.course.least_degree c.requires.course.most_degree cert (ended A (state_of c.args.self.run) (c.requires.course.reached one.pick one.answers) (c.requires.over one.pick one.answers)) in
    let valid = certifies.valid in
    small P c.args.self.degree one.pick cert valid.held (c.courses_stay_within.ensures A g' cert (ended A (state_of c.args.self.run) (c.requires.course.reached one.pick one.answers) (c.requires.over one.pick one.answers))) refl (c.limits_are_told.ensures P c.args.self.degree)

pub ended-requires-clause-valid : goal.ended-requires-clause-valid
ended-requires-clause-valid g c =
    let P = program_in c.args.self.program.now in
    let one = c.requires.course.answers in
    let A = analysis_in c.args.self.program.now c.args.self.degree one.pick in
    let g' = c.systems_generate.ensures P c.requires.course.ordered c.args.self.degree one.pick in
    let cert = certificate_of c.args.self.degree true (state_of c.args.self.run) in
    let certifies = c.courses_certify.ensures A g' c.requires.course.least_degree c.requires.course.most_degree cert (ended A (state_of c.args.self.run) (c.requires.course.reached one.pick one.answers) (c.requires.over one.pick one.answers)) in
    certifies.valid

pub ended-requires-clause-refuted : goal.ended-requires-clause-refuted
ended-requires-clause-refuted g c =
    let P = program_in c.args.self.program.now in
    let one = c.requires.course.answers in
    let A = analysis_in c.args.self.program.now c.args.self.degree one.pick in
    let g' = c.systems_generate.ensures P c.requires.course.ordered c.args.self.degree one.pick in
    let cert = certificate_of c.args.self.degree true (state_of c.args.self.run) in
    let certifies = c.courses_certify.ensures A g' c.requires.course.least_degree c.requires.course.most_degree cert (ended A (state_of c.args.self.run) (c.requires.course.reached one.pick one.answers) (c.requires.over one.pick one.answers)) in
    certifies.refuted

pub ended-requires-clause-systems : goal.ended-requires-clause-systems
ended-requires-clause-systems g c =
    let P = program_in c.args.self.program.now in
    let one = c.requires.course.answers in
    let A = analysis_in c.args.self.program.now c.args.self.degree one.pick in
    let g' = c.systems_generate.ensures P c.requires.course.ordered c.args.self.degree one.pick in
    c.none_too_large.ensures A g' (certificate_of c.args.self.degree true (state_of c.args.self.run)) (ended A (state_of c.args.self.run) (c.requires.course.reached one.pick one.answers) (c.requires.over one.pick one.answers))

pub returns-clause-least : goal.returns-clause-least
returns-clause-least g c =
    let P = program_in c.args.self.program.now in
    let one = c.requires.course.answers in
    let A = analysis_in c.args.self.program.now c.args.self.degree one.pick in
    let g' = c.systems_generate.ensures P c.requires.course.ordered c.args.self.degree one.pick in
    let cert = certificate_of c.args.self.degree true (state_of c.args.self.run) in
    let certifies = c.courses_certify.ensures A g' c.requires.course.least_degree c.requires.course.most_degree cert (ended A (state_of c.args.self.run) (c.requires.course.reached one.pick one.answers) (c.requires.over one.pick one.answers)) in
    if_ok c.ended.result _ _ (λ verified e. subst (λ (x : Checking). AllLeast P x.certificate) (sym e) certifies.least) c.ended.ensures.certificate

pub returns-clause-course : goal.returns-clause-course
returns-clause-course g c = if_ok_both c.ended.result _ _ _
    (λ verified e passes pick by.
    let A = analysis_in c.args.self.program.now c.args.self.degree pick in
    let ends = ended A (state_of c.args.self.run) (c.requires.course.reached pick by) (c.requires.over pick by) in
    subst (λ (x : Checking). IsInferred A x.certificate) (sym e) (record { ends = ends; passes = passes }))
    c.ended.ensures.certificate c.ended.ensures.passes

pub returns-clause-fault : goal.returns-clause-fault
returns-clause-fault g c = if_err c.ended.result _ _
    (λ fault h pick by.
    let A = analysis_in c.args.self.program.now c.args.self.degree pick in
    let st = state_of c.args.self.run in
    check_cause A (certificate_of c.args.self.degree true st) (ended A st (c.requires.course.reached pick by) (c.requires.over pick by)) fault h)
    c.ended.ensures.fault
