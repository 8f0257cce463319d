use Rattle.std.proofs.Common.{[], ◌∷◌, All, sym, ap, ◌∙◌, subst}
use Rattle.std.proofs.lemmas.Result.{IfOk-weaker}
use Rattle.raml_syntax.specs.Read.{ty_of}
use Rattle.base_poly.specs.Indices.{tuples_up_to}
use Rattle.base_poly.specs.Read.{context_of}
use Rattle.index_shift.specs.Maps.{leaves}
use Rattle.index_shift.specs.Local.{IsLocal, alone_of}
use Rattle.index_shift.specs.Read.{CanCarry}
use Rattle.index_shift.specs.declared.carry.Carry.TheVariants.{Leave}
use Rattle.index_shift.proofs.Alone.{can_leave, left_alone}
use Rattle.index_shift.proofs.local.left_out.Goals as goal

pub carried_alone-requires : goal.carried_alone-requires
carried_alone-requires c =
    let from = ap context_of c.from_ref.ensures.value in
    record { can = subst (λ As. All (CanCarry Leave) (tuples_up_to As c.args.d)) (sym from) (can_leave (ty_of c.args.ty.now) c.args.d c.requires.low) }

pub returns-clause-is : goal.returns-clause-is
returns-clause-is c =
    let from = ap context_of c.from_ref.ensures.value in
    IfOk-weaker c.carried_alone.result _ (λ local. IsLocal leaves (ty_of c.args.ty.now ∷ []) [] c.args.d local)
    (λ local h. subst (IsLocal leaves (ty_of c.args.ty.now ∷ []) [] c.args.d) (sym (h ∙ (λ n. alone_of leaves (from n) [] c.args.d))) (left_alone (ty_of c.args.ty.now) c.args.d)) c.carried_alone.ensures.is
