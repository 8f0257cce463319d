use Rattle.std.proofs.Common.{◌≡◌, Err, [], ◌∷◌, sym, ap, ◌∙◌, refl, subst}
use Rattle.std.proofs.lemmas.Result.{IfOk-weaker, on_ok_weaker}
use Rattle.raml_syntax.specs.Read.{ty_of}
use Rattle.raml_syntax.specs.Value.{Value, Empty}
use Rattle.base_poly.specs.Read.{context_of}
use Rattle.index_shift.specs.Maps.{in_place, none, leaves, leaving}
use Rattle.index_shift.specs.Laws.{KeepsRest, KeepsZero, LowersRest}
use Rattle.index_shift.proofs.Faults.{of_fault}
use Rattle.index_shift.proofs.Kept.{leaving_keeps, leaving_keeps_zero, leaving_lowers}
use Rattle.index_shift.proofs.Listed.{left, alone_there, alone_large, as_large}
use Rattle.index_shift.proofs.maps.leaving.Goals as goal

pub returns-in_err-local-clause-many : goal.returns-in_err-local-clause-many
returns-in_err-local-clause-many c =
    let A = c.index-context-at.result in
    let alone = alone_there c.args.context.now c.args.at c.args.d A c.requires.there c.index-context-at.is in
    λ e. as_large (in_place c.args.at (λ _. ty_of A ∷ []) (context_of c.args.context.now)) (in_place c.args.at (λ _. []) (context_of c.args.context.now)) (context_of c.args.context.now) (in_place c.args.at none (context_of c.args.context.now)) c.args.d alone refl (alone_large leaves (ty_of A ∷ []) [] c.args.context.now c.args.at c.args.d c.requires.there
    (c.in_err-local.ensures.many (ap Err (of_fault _ _ c.from_residual.ensures.1 e))))

pub returns-clause-map : goal.returns-clause-map
returns-clause-map c =
    let A = c.index-context-at.result in
    IfOk-weaker c.map_at.result _ (λ found. found.items ≡ leaving (context_of c.args.context.now) c.args.at c.args.d)
    (λ found h. h leaves (ty_of A ∷ []) [] c.in_ok-local.ensures.is
    ∙ left c.args.context.now c.args.at c.args.d A c.requires.there c.index-context-at.is) c.map_at.ensures.map

pub returns-clause-kept : goal.returns-clause-kept
returns-clause-kept c =
    IfOk-weaker c.map_at.result _ (λ found. KeepsRest found.items (context_of c.args.context.now) c.args.at c.args.d Empty)
    (λ found h. subst (λ es. KeepsRest es (context_of c.args.context.now) c.args.at c.args.d Empty) (sym h) (leaving_keeps (context_of c.args.context.now) c.args.at c.args.d)) (returns-clause-map c)

pub returns-clause-zero : goal.returns-clause-zero
returns-clause-zero c =
    IfOk-weaker c.map_at.result _ (λ found. (v : Value) → KeepsZero found.items (context_of c.args.context.now) c.args.at c.args.d v)
    (λ found h v. subst (λ es. KeepsZero es (context_of c.args.context.now) c.args.at c.args.d v) (sym h) (leaving_keeps_zero (context_of c.args.context.now) c.args.at c.args.d v)) (returns-clause-map c)

pub returns-clause-lowered : goal.returns-clause-lowered
returns-clause-lowered c =
    IfOk-weaker c.map_at.result _ (λ found. (v : Value) → LowersRest found.items (context_of c.args.context.now) c.args.at c.args.d v)
    (λ found h v. subst (λ es. LowersRest es (context_of c.args.context.now) c.args.at c.args.d v) (sym h) (leaving_lowers (context_of c.args.context.now) c.args.at c.args.d v)) (returns-clause-map c)

pub returns-clause-few : goal.returns-clause-few
returns-clause-few c =
    let A = c.index-context-at.result in
    let alone = alone_there c.args.context.now c.args.at c.args.d A c.requires.there c.index-context-at.is in
    on_ok_weaker c.map_at.result (λ h large. h leaves (ty_of A ∷ []) [] c.in_ok-local.ensures.is (as_large (context_of c.args.context.now) (in_place c.args.at none (context_of c.args.context.now)) (in_place c.args.at (λ _. ty_of A ∷ []) (context_of c.args.context.now)) (in_place c.args.at (λ _. []) (context_of c.args.context.now)) c.args.d (sym alone) refl large)) c.map_at.ensures.few

pub returns-clause-many : goal.returns-clause-many
returns-clause-many c =
    let A = c.index-context-at.result in
    let alone = alone_there c.args.context.now c.args.at c.args.d A c.requires.there c.index-context-at.is in
    λ e. as_large (in_place c.args.at (λ _. ty_of A ∷ []) (context_of c.args.context.now)) (in_place c.args.at (λ _. []) (context_of c.args.context.now)) (context_of c.args.context.now) (in_place c.args.at none (context_of c.args.context.now)) c.args.d alone refl (c.map_at.ensures.many e leaves (ty_of A ∷ []) [] c.in_ok-local.ensures.is)
