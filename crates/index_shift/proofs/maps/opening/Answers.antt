use Rattle.std.proofs.Common.{◌≡◌, Err, ◌≢◌, [], ◌∷◌, sym, ap, ◌∙◌, subst}
use Rattle.std.proofs.lemmas.Result.{IfOk-weaker, on_ok_weaker}
use Rattle.raml_syntax.specs.Read.{ty_of}
use Rattle.raml_syntax.specs.Value.{Value}
use Rattle.base_poly.specs.Read.{context_of}
use Rattle.index_shift.specs.Parts.{type_parts, value_parts}
use Rattle.index_shift.specs.Maps.{in_place, opens, opening}
use Rattle.index_shift.specs.Laws.{KeepsParts}
use Rattle.index_shift.proofs.Faults.{of_fault}
use Rattle.index_shift.proofs.Kept.{opening_keeps}
use Rattle.index_shift.proofs.Listed.{opened, alone_there, same_place, alone_large, as_large}
use Rattle.index_shift.proofs.maps.opening.Goals as goal

pub returns-in_err-local-clause-many : goal.returns-in_err-local-clause-many
returns-in_err-local-clause-many c =
    let A = c.index-context-at.result in
    let alone = alone_there c.args.context.now c.args.at c.args.d A c.requires.there c.index-context-at.is in
    let parts = same_place c.args.context.now c.args.at c.args.d A c.requires.there c.index-context-at.is type_parts in
    λ e. as_large (in_place c.args.at (λ _. ty_of A ∷ []) (context_of c.args.context.now)) (in_place c.args.at (λ _. type_parts (ty_of A)) (context_of c.args.context.now)) (context_of c.args.context.now) (in_place c.args.at type_parts (context_of c.args.context.now)) c.args.d alone parts (alone_large (opens (ty_of A)) (ty_of A ∷ []) (type_parts (ty_of A)) c.args.context.now c.args.at c.args.d c.requires.there
    (c.in_err-local.ensures.many (ap Err (of_fault _ _ c.from_residual.ensures.1 e))))

pub returns-clause-map : goal.returns-clause-map
returns-clause-map c =
    let A = c.index-context-at.result in
    IfOk-weaker c.map_at.result _ (λ found. found.items ≡ opening (context_of c.args.context.now) c.args.at c.args.d)
    (λ found h. h (opens (ty_of A)) (ty_of A ∷ []) (type_parts (ty_of A)) c.in_ok-local.ensures.is
    ∙ opened c.args.context.now c.args.at c.args.d A c.requires.there c.index-context-at.is) c.map_at.ensures.map

pub returns-clause-kept : goal.returns-clause-kept
returns-clause-kept c =
    IfOk-weaker c.map_at.result _ (λ found. (v : Value) → value_parts v ≢ [] → KeepsParts found.items (context_of c.args.context.now) c.args.at c.args.d v)
    (λ found h v some. subst (λ es. KeepsParts es (context_of c.args.context.now) c.args.at c.args.d v) (sym h) (opening_keeps (context_of c.args.context.now) c.args.at c.args.d v some)) (returns-clause-map c)

pub returns-clause-few : goal.returns-clause-few
returns-clause-few c =
    let A = c.index-context-at.result in
    let alone = alone_there c.args.context.now c.args.at c.args.d A c.requires.there c.index-context-at.is in
    let parts = same_place c.args.context.now c.args.at c.args.d A c.requires.there c.index-context-at.is type_parts in
    on_ok_weaker c.map_at.result (λ h large. h (opens (ty_of A)) (ty_of A ∷ []) (type_parts (ty_of A)) c.in_ok-local.ensures.is (as_large (context_of c.args.context.now) (in_place c.args.at type_parts (context_of c.args.context.now)) (in_place c.args.at (λ _. ty_of A ∷ []) (context_of c.args.context.now)) (in_place c.args.at (λ _. type_parts (ty_of A)) (context_of c.args.context.now)) c.args.d (sym alone) (sym parts) large)) c.map_at.ensures.few

pub returns-clause-many : goal.returns-clause-many
returns-clause-many c =
    let A = c.index-context-at.result in
    let alone = alone_there c.args.context.now c.args.at c.args.d A c.requires.there c.index-context-at.is in
    let parts = same_place c.args.context.now c.args.at c.args.d A c.requires.there c.index-context-at.is type_parts in
    λ e. as_large (in_place c.args.at (λ _. ty_of A ∷ []) (context_of c.args.context.now)) (in_place c.args.at (λ _. type_parts (ty_of A)) (context_of c.args.context.now)) (context_of c.args.context.now) (in_place c.args.at type_parts (context_of c.args.context.now)) c.args.d alone parts (c.map_at.ensures.many e (opens (ty_of A)) (ty_of A ∷ []) (type_parts (ty_of A)) c.in_ok-local.ensures.is)
