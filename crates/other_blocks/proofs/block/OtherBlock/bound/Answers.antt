use Rattle.std.proofs.Common.{◌≡◌, ap, sym, ◌∙◌, subst, true, slice_get, Some, FitsSigned, rules}
use Rattle.std.specs.Prelude.{IfOk, unsigned_abs}
use Rattle.std.specs.Int.{w128}
use Rattle.std.proofs.lemmas.Int.{to_z-of_z}
use Rattle.std.proofs.lemmas.Result.{IfOk-weaker}
use Rattle.raml_syntax.specs.Tree.{Function}
use Rattle.base_poly.specs.Poly.{den_of, terms_of}
use Rattle.normal_spec.specs.Context.{types}
use Rattle.normal_spec.specs.Read.{parameters_of}
use Rattle.share_normal.specs.Program.{source_in}
use Rattle.cost_free.specs.declared.task.Meter.{Meter}
use Rattle.cost_free.specs.Task.{With}
use Rattle.cost_free.specs.Blocked.{is_among}
use Rattle.annot_types.specs.Program.{members}
use Rattle.annot_types.specs.Held as h
use Rattle.annot_types.specs.Read as a
use Rattle.annot_types.specs.Signature.{sig_among, sig_in}
use Rattle.rules_soundness_laws.specs.Bounds.{Bounds}
use Rattle.rules_plan.specs.Read.{program_in}
use Rattle.cert_check.specs.Bound.{told_of}
use Rattle.other_blocks.specs.Over.{Over}
use Rattle.other_blocks.proofs.Bounding.{not_missing, not_unsigned, params_annotated, params_few, told_is, bounds_over}
use Rattle.other_blocks.proofs.block.OtherBlock.bound.Goals as goal

pub unreachable-requires : goal.unreachable-requires
unreachable-requires c =
    let inside = c.self.inside in
    let o : Over = record { program = inside.program.now; degree = inside.degree; scale = unsigned_abs inside.scale; block = a.block_of inside.block } in
    let asked : is_among c.args.fun.0 (members (program_in o.program) o.block.task.group) ≡ true =
    subst (λ (x : Over). is_among c.args.fun.0 (members (program_in x.program) x.block.task.group) ≡ true) (sym c.self.view_is) c.requires in
    not_missing o c.self.invariant.1 c.args.fun.0 asked c.in_default.ensures

pub unreachable-requires-in_default-sig_of : goal.unreachable-requires-in_default-sig_of
unreachable-requires-in_default-sig_of c =
    let inside = c.self.inside in
    let o : Over = record { program = inside.program.now; degree = inside.degree; scale = unsigned_abs inside.scale; block = a.block_of inside.block } in
    let asked : is_among c.args.fun.0 (members (program_in o.program) o.block.task.group) ≡ true =
    subst (λ (x : Over). is_among c.args.fun.0 (members (program_in x.program) x.block.task.group) ≡ true) (sym c.self.view_is) c.requires in
    not_unsigned o c.self.invariant.1 c.args.fun.0 asked
    (c.in_default-sig_of.ensures ∙ (λ i. sig_among (c.members-functions.ensures i) (c.sigs_of.ensures i) c.args.fun.0))

pub poly_of-requires-clause-within : goal.poly_of-requires-clause-within
poly_of-requires-clause-within c =
    let inside = c.self.inside in
    let o : Over = record { program = inside.program.now; degree = inside.degree; scale = unsigned_abs inside.scale; block = a.block_of inside.block } in
    let s = a.sig_of c.in-Some-sig_of.sig.now in
    let signed : sig_in (program_in o.program) o.block c.args.fun.0 ≡ Some s =
    sym (c.in-Some-sig_of.ensures ∙ (λ i. sig_among (c.members-functions.ensures i) (c.sigs_of.ensures i) c.args.fun.0)) in
    params_annotated o c.self.invariant.1 c.args.fun.0 s (parameters_of c.in-Some.params.now) signed c.in-Some.ensures

pub poly_of-requires-clause-few : goal.poly_of-requires-clause-few
poly_of-requires-clause-few c =
    let inside = c.self.inside in
    let o : Over = record { program = inside.program.now; degree = inside.degree; scale = unsigned_abs inside.scale; block = a.block_of inside.block } in
    let s = a.sig_of c.in-Some-sig_of.sig.now in
    let signed : sig_in (program_in o.program) o.block c.args.fun.0 ≡ Some s =
    sym (c.in-Some-sig_of.ensures ∙ (λ i. sig_among (c.members-functions.ensures i) (c.sigs_of.ensures i) c.args.fun.0)) in
    params_few o c.self.invariant.1 c.args.fun.0 s (parameters_of c.in-Some.params.now) signed c.in-Some.ensures

pub returns-clause-bounds : goal.returns-clause-bounds
returns-clause-bounds c =
    let inside = c.self.inside in
    let kept = inside.program.now in
    let f = c.args.fun.0 in
    let o : Over = record { program = kept; degree = inside.degree; scale = unsigned_abs inside.scale; block = a.block_of inside.block } in
    let asked : is_among f (members (program_in o.program) o.block.task.group) ≡ true =
    subst (λ (x : Over). is_among f (members (program_in x.program) x.block.task.group) ≡ true) (sym c.self.view_is) c.requires in
    let s = a.sig_of c.in-Some-sig_of.sig.now in
    let signed : sig_in (program_in o.program) o.block f ≡ Some s =
    sym (c.in-Some-sig_of.ensures ∙ (λ i. sig_among (c.members-functions.ensures i) (c.sigs_of.ensures i) f)) in
    let fits : FitsSigned w128 inside.scale = search rules in
    subst (λ (x : Over). IfOk c.poly_of.result (λ poly. (meter : Meter) → x.block.task.kind ≡ With meter → (source : Function) → slice_get (source_in x.program) f ≡ Some source →
    Bounds (source_in x.program) f source meter (den_of poly) (terms_of poly)))
    c.self.view_is
    (IfOk-weaker c.poly_of.result _ _
    (λ poly told meter kind source at. bounds_over o c.self.invariant.1 (source_in kept) c.source-source.ensures.typed c.source-source.ensures.numbers
    c.functions-functions.ensures.norm f (told_of poly) asked
    (ap Some (told ∙ (λ i. (unsigned_abs (to_z-of_z w128 inside.scale fits i), h.terms_of (types (parameters_of c.in-Some.params.now)) inside.degree s.args))) ∙ told_is o c.self.invariant.1 f s (parameters_of c.in-Some.params.now) signed c.in-Some.ensures) meter kind source at)
    c.poly_of.ensures.told)
