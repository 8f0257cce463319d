use Rattle.std.proofs.Common.{◌≡◌, subst, slice_get, Some}
use Rattle.std.specs.Prelude.{IfOk, IfSome}
use Rattle.std.proofs.lemmas.Result.{IfOk-weaker}
use Rattle.raml_syntax.specs.Tree.{Function}
use Rattle.base_poly.specs.Poly.{den_of, terms_of}
use Rattle.share_normal.specs.Program.{source_in, norm_in}
use Rattle.annot_types.specs.Read.{certificate_of}
use Rattle.rules_soundness_laws.specs.Bounds.{Bounds}
use Rattle.cert_check.specs.Checked.{Checking}
use Rattle.cert_check.proofs.Signed.{bounds_told}
use Rattle.cert_check.proofs.checked.Checked.bound.Goals as goal

pub returns-clause-bounds : goal.returns-clause-bounds
returns-clause-bounds c =
    let f = c.args.fun.0 in
    let kept = c.self.inside.program.now in
    subst (λ (x : Checking). IfOk c.bound_of.result (λ found. IfSome found (λ poly. (source : Function) → slice_get (source_in x.program) f ≡ Some source →
    Bounds (source_in x.program) f source c.args.meter (den_of poly) (terms_of poly))))
    c.self.view_is
    (IfOk-weaker c.bound_of.result _ _
    (bounds_told (source_in kept) c.source-source.ensures.typed c.source-source.ensures.numbers kept.groups.list (certificate_of c.self.inside.certificate)
    (norm_in kept) c.functions-functions.ensures.norm c.self.invariant.held c.args.meter f)
    c.bound_of.ensures.told)
