use Rattle.std.proofs.Common.{List, Some, ap, refl, sym, subst, inl, inr, string_bytes}
use Rattle.raml_syntax.specs.Tree.{Text}
use Rattle.explain_sizes.specs.Read.{all_sizes}
use Rattle.explain_sizes.specs.declared.size.Size.{Size}
use Rattle.raml_syntax.specs.declared.program.Param.{Param}
use Rattle.explain_at.specs.Asked.{asked}
use Rattle.explain_at.specs.Read.{all_given, parameters, AreFilled, IsSizeFault}
use Rattle.explain_profile_call.specs.Calls.{EndsBy, GivenIs, misfit_line}
use Rattle.explain_profile_call.specs.Read.{callee_of}
use Rattle.explain_profile_call.proofs.Calling.{refused, told_so}
use Rattle.explain_profile_call.proofs.call.tell_given.Goals as goal

pub returns-in-Ok : goal.returns-in-Ok
returns-in-Ok c =
    let callee = callee_of c.args.callee in
    let gs = all_given c.args.given.now in
    let params = c.args.callee.function.now.params.items in
    let ss = all_sizes c.deref-in-Ok.result.now in
    let read = subst (λ (ps : List Param). AreFilled (asked gs (parameters ps)) (all_sizes c.in-Ok.sizes.items)) c.deref.ensures.value c.in-Ok.ensures.sizes in
    let are = subst (λ (sizes : List Size). AreFilled (asked gs (parameters params)) (all_sizes sizes)) (sym c.deref-in-Ok.ensures.value) read in
    told_so (GivenIs callee gs) (EndsBy callee (Some ss)) (string_bytes c.args.text.now) (string_bytes c.tell_at.new.text) (string_bytes c.args.report.now)
    (string_bytes c.tell_at.new.report) c.tell_at.result (λ end shown part ends. inr (ss, are, ends)) c.tell_at.ensures

pub returns-in-Err : goal.returns-in-Err
returns-in-Err c =
    let callee = callee_of c.args.callee in
    let gs = all_given c.args.given.now in
    let fault = subst (λ (ps : List Param). IsSizeFault (asked gs (parameters ps)) c.in-Err.fault) c.deref.ensures.value c.in-Err.ensures.fault in
    let name = c.text-name.result.now in
    let same = ap (λ (name : Text). misfit_line callee.words.file.now name c.in-Err.fault) c.text-name.ensures in
    refused (GivenIs callee gs) (string_bytes c.args.text.now) (string_bytes c.args.report.now) (string_bytes c.refuse_sizes.new.report)
    (misfit_line callee.words.file.now name c.in-Err.fault) c.refuse_sizes.result (inl (refl, refl, (c.in-Err.fault, fault, same)))
    c.refuse_sizes.ensures.end c.refuse_sizes.ensures.report
