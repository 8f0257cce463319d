use Rattle.std.proofs.Common.{◌≡◌, Err, [], ◌∷◌, sym, ap, ◌∙◌, subst}
use Rattle.std.proofs.lemmas.Result.{IfOk-weaker, on_ok_weaker}
use Rattle.raml_syntax.specs.Read.{ty_of}
use Rattle.raml_syntax.specs.Value.{Value}
use Rattle.base_poly.specs.Read.{context_of}
use Rattle.index_shift.specs.Maps.{in_place, twice, joins, sharing}
use Rattle.index_shift.specs.Laws.{KeepsShared}
use Rattle.index_shift.proofs.Faults.{of_fault}
use Rattle.index_shift.proofs.Kept.{sharing_keeps}
use Rattle.index_shift.proofs.Listed.{shared, alone_there, same_place, alone_large, as_large}
use Rattle.index_shift.proofs.maps.share_map.Goals as goal

pub returns-in_err-local-clause-many : goal.returns-in_err-local-clause-many
returns-in_err-local-clause-many c =
    let A = c.index-context-at.result in
    let alone = alone_there c.args.context.now c.args.at c.args.d A c.requires.there c.index-context-at.is in
    let parts = same_place c.args.context.now c.args.at c.args.d A c.requires.there c.index-context-at.is twice in
    λ e. as_large (in_place c.args.at (λ _. ty_of A ∷ ty_of A ∷ []) (context_of c.args.context.now)) (in_place c.args.at (λ _. ty_of A ∷ []) (context_of c.args.context.now)) (in_place c.args.at twice (context_of c.args.context.now)) (context_of c.args.context.now) c.args.d parts alone (alone_large joins (ty_of A ∷ ty_of A ∷ []) (ty_of A ∷ []) c.args.context.now c.args.at c.args.d c.requires.there
    (c.in_err-local.ensures.many (ap Err (of_fault _ _ c.from_residual.ensures.1 e))))

pub returns-clause-map : goal.returns-clause-map
returns-clause-map c =
    let A = c.index-context-at.result in
    IfOk-weaker c.map_at.result _ (λ found. found.items ≡ sharing (context_of c.args.context.now) c.args.at c.args.d)
    (λ found h. h joins (ty_of A ∷ ty_of A ∷ []) (ty_of A ∷ []) c.in_ok-local.ensures.is
    ∙ shared c.args.context.now c.args.at c.args.d A c.requires.there c.index-context-at.is) c.map_at.ensures.map

pub returns-clause-kept : goal.returns-clause-kept
returns-clause-kept c =
    IfOk-weaker c.map_at.result _ (λ found. (v : Value) → KeepsShared found.items (context_of c.args.context.now) c.args.at c.args.d v)
    (λ found h v. subst (λ es. KeepsShared es (context_of c.args.context.now) c.args.at c.args.d v) (sym h) (sharing_keeps (context_of c.args.context.now) c.args.at c.args.d v)) (returns-clause-map c)

pub returns-clause-few : goal.returns-clause-few
returns-clause-few c =
    let A = c.index-context-at.result in
    let alone = alone_there c.args.context.now c.args.at c.args.d A c.requires.there c.index-context-at.is in
    let parts = same_place c.args.context.now c.args.at c.args.d A c.requires.there c.index-context-at.is twice in
    on_ok_weaker c.map_at.result (λ h large. h joins (ty_of A ∷ ty_of A ∷ []) (ty_of A ∷ []) c.in_ok-local.ensures.is (as_large (in_place c.args.at twice (context_of c.args.context.now)) (context_of c.args.context.now) (in_place c.args.at (λ _. ty_of A ∷ ty_of A ∷ []) (context_of c.args.context.now)) (in_place c.args.at (λ _. ty_of A ∷ []) (context_of c.args.context.now)) c.args.d (sym parts) (sym alone) large)) c.map_at.ensures.few

pub returns-clause-many : goal.returns-clause-many
returns-clause-many c =
    let A = c.index-context-at.result in
    let alone = alone_there c.args.context.now c.args.at c.args.d A c.requires.there c.index-context-at.is in
    let parts = same_place c.args.context.now c.args.at c.args.d A c.requires.there c.index-context-at.is twice in
    λ e. as_large (in_place c.args.at (λ _. ty_of A ∷ ty_of A ∷ []) (context_of c.args.context.now)) (in_place c.args.at (λ _. ty_of A ∷ []) (context_of c.args.context.now)) (in_place c.args.at twice (context_of c.args.context.now)) (context_of c.args.context.now) c.args.d parts alone (c.map_at.ensures.many e joins (ty_of A ∷ ty_of A ∷ []) (ty_of A ∷ []) c.in_ok-local.ensures.is)
