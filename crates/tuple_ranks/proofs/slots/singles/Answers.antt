use Rattle.std.proofs.Common.{◌≡◌, [], ◌∷◌, ap, sym, subst, length, arith}
use Rattle.std.proofs.lemmas.Result.{IfOk-weaker}
use Rattle.raml_syntax.specs.Read.{ty_of}
use Rattle.base_poly.specs.Indices.{Ascends, each_in_turn, tuples_up_to}
use Rattle.base_poly.specs.Read.{context_of}
use Rattle.base_poly.proofs.Exact.{tuples_ascend}
use Rattle.tuple_ranks.proofs.Loops.{alone_large}
use Rattle.tuple_ranks.proofs.slots.singles.Goals as goal

pub returns-clause-many : goal.returns-clause-many
returns-clause-many c = λ e.
    let many = c.tuples_up_to.ensures.many e in
    let types : context_of c.from_ref-types.result.now ≡ ty_of c.args.ty.now ∷ [] = ap context_of c.from_ref-types.ensures.value in
    let same : length (tuples_up_to (context_of c.from_ref-types.result.now) c.from.result) ≡ length (tuples_up_to (ty_of c.args.ty.now ∷ []) c.args.d) = λ i. length (tuples_up_to (types i) (c.from.ensures i)) in
    let most = c.from-2.ensures in
    alone_large (ty_of c.args.ty.now) c.args.d (omega (arith, many, same, most))

pub returns-clause-ascend : goal.returns-clause-ascend
returns-clause-ascend c =
    IfOk-weaker c.tuples_up_to.result _ (λ found. Ascends each_in_turn found.items) (λ found h. subst (Ascends each_in_turn) (sym h) (tuples_ascend (context_of c.from_ref-types.result.now) c.from.result)) c.tuples_up_to.ensures.all
