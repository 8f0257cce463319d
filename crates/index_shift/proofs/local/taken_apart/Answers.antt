use Rattle.std.proofs.Common.{[], ◌∷◌, All, sym, ap, ◌∙◌, subst}
use Rattle.std.proofs.lemmas.Result.{IfOk-weaker}
use Rattle.raml_syntax.specs.Read.{ty_of}
use Rattle.base_poly.specs.Indices.{tuples_up_to}
use Rattle.base_poly.specs.Read.{context_of}
use Rattle.index_shift.specs.Parts.{type_parts}
use Rattle.index_shift.specs.Maps.{opens}
use Rattle.index_shift.specs.Local.{IsLocal, alone_of}
use Rattle.index_shift.specs.Read.{CanCarry}
use Rattle.index_shift.specs.declared.carry.Carry.TheVariants.{Open}
use Rattle.index_shift.proofs.Alone.{can_open, opened_alone}
use Rattle.index_shift.proofs.local.taken_apart.Goals as goal

pub carried_alone-requires : goal.carried_alone-requires
carried_alone-requires c =
    let from = ap context_of c.from_ref.ensures.value in
    record { can = subst (λ As. All (CanCarry (Open c.args.ty)) (tuples_up_to As c.args.d)) (sym from) (can_open c.args.ty (ty_of c.args.ty.now) c.args.d) }

pub returns-clause-is : goal.returns-clause-is
returns-clause-is c =
    let from = ap context_of c.from_ref.ensures.value in
    let to = ap context_of c.deref.ensures.value ∙ c.in_ok-to.ensures in
    IfOk-weaker c.carried_alone.result _ (λ local. IsLocal (opens (ty_of c.args.ty.now)) (ty_of c.args.ty.now ∷ []) (type_parts (ty_of c.args.ty.now)) c.args.d local)
    (λ local h. subst (IsLocal (opens (ty_of c.args.ty.now)) (ty_of c.args.ty.now ∷ []) (type_parts (ty_of c.args.ty.now)) c.args.d) (sym (h ∙ (λ n. alone_of (opens (ty_of c.args.ty.now)) (from n) (to n) c.args.d))) (opened_alone (ty_of c.args.ty.now) c.args.d)) c.carried_alone.ensures.is
