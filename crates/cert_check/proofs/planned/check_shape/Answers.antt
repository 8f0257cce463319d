use Rattle.std.proofs.Common.{ap, sym, ◌∙◌, subst, map, length, inl}
use Rattle.std.proofs.lemmas.List.{length-map}
use Rattle.cost_free.specs.Read.{task_of}
use Rattle.annot_types.specs.Read as a
use Rattle.rules_spec.specs.Tasks as t
use Rattle.rules_spec.specs.Asked.{asked}
use Rattle.rules_plan.specs.Read.{body_of}
use Rattle.cert_check.specs.At.{program_at}
use Rattle.cert_check.specs.Asking.{all_asks_of}
use Rattle.cert_check.specs.Finds.{SigsFit, AllFit, asks_by, TargetFinds, ShapeFinds}
use Rattle.cert_check.proofs.Ended.{fit_length}
use Rattle.cert_check.proofs.Telling.{tells_more}
use Rattle.cert_check.proofs.planned.check_shape.Goals as goal

pub check_target-requires-clause-told : goal.check_target-requires-clause-told
check_target-requires-clause-told c =
    let bs = map body_of c.args.bodies.now in
    let fit = (c.is_shapely.ensures.0 c.if-is_shapely.true).1.0 in
    sym (length-map c.args.hints.now a.hints_of) ∙ fit_length (all_asks_of c.args.asks.now) (map a.hints_of c.args.hints.now) fit
    ∙ ap length c.requires.asked ∙ length-map bs (λ (b : t.Body). asked b.plan) ∙ length-map c.args.bodies.now body_of

pub returns-then-is_shapely : goal.returns-then-is_shapely
returns-then-is_shapely c = λ held blocks is eb.
    let at = c.args.at.now in
    let sigs = map a.sig_of c.args.sigs.now in
    let hints = map a.hints_of c.args.hints.now in
    let s = c.is_shapely.ensures.0 c.if-is_shapely.true in
    tells_more c.check_target.result (TargetFinds (program_at at) held blocks (task_of at.task) sigs hints)
    (ShapeFinds (program_at at) held blocks (task_of at.task) sigs hints)
    (λ x h. inl (
      record {
        sigs_fit = subst (λ bs. SigsFit bs sigs) eb s.0.0;
        sigs_rise = s.0.1;
        hints_fit = subst (λ bs. AllFit (asks_by bs) hints) eb (subst (λ asks. AllFit asks hints) c.requires.asked s.1.0);
        hints_rise = s.1.1;
      },
      h,
    )) (c.check_target.ensures held blocks is eb c.requires.asked)
