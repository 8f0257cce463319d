use Rattle.std.proofs.Common.{◌≡◌, List, Err, ap, ◌∙◌, arith}
use Rattle.std.proofs.lemmas.Result.{IfOk-weaker, on_ok_weaker}
use Rattle.raml_syntax.specs.Tree.{Type'}
use Rattle.base_poly.specs.Read.{context_of}
use Rattle.index_shift.specs.Maps.{Carry, in_place, behind, entries}
use Rattle.index_shift.specs.Local.{IsLocal}
use Rattle.index_shift.proofs.Faults.{of_index_fault}
use Rattle.index_shift.proofs.Listed.{placed_map, placed_small, placed_large, front_large, back_large}
use Rattle.index_shift.proofs.maps.map_at.Goals as goal

pub returns-in_err-before-clause-many : goal.returns-in_err-before-clause-many
returns-in_err-before-clause-many c = λ e c' Fs Ts h.
    let past = c.in_err-before.ensures.many (ap Err (of_index_fault _ _ c.from_residual.ensures.1 e)) in
    front_large c' Fs Ts c.args.context.now c.args.at c.args.d c.requires.there (omega (arith, past, c.from.ensures))

pub returns-in_err-after-clause-many : goal.returns-in_err-after-clause-many
returns-in_err-after-clause-many c = λ e c' Fs Ts h.
    let past = c.in_err-after.ensures.many (ap Err (of_index_fault _ _ c.from_residual-in_err-after.ensures.1 e)) in
    back_large c' Fs Ts c.args.context.now c.args.at c.args.d c.requires.there (omega (arith, past, c.from-2.ensures))

pub returns-clause-map : goal.returns-clause-map
returns-clause-map c =
    IfOk-weaker c.map.result _ (λ found. (c' : Carry) (Fs Ts : List Type') → IsLocal c' Fs Ts c.args.d c.args.local.now →
    found.items ≡ entries (behind c.args.at c') (in_place c.args.at (λ _. Fs) (context_of c.args.context.now)) (in_place c.args.at (λ _. Ts) (context_of c.args.context.now)) c.args.d)
    (λ found is c' Fs Ts h. placed_map c' Fs Ts c.args.context.now c.args.at c.args.d c.requires.there _ _ c.args.local.now (c.deref.ensures.value ∙ c.in_ok-before.ensures.all) (c.deref-2.ensures.value ∙ c.in_ok-after.ensures.all) h found.items is) c.map.ensures.map

pub returns-clause-few : goal.returns-clause-few
returns-clause-few c =
    on_ok_weaker c.map.result
    (λ are c' Fs Ts h. placed_small c' Fs Ts c.args.context.now c.args.at c.args.d c.requires.there _ _ c.args.local.now (c.deref.ensures.value ∙ c.in_ok-before.ensures.all) (c.deref-2.ensures.value ∙ c.in_ok-after.ensures.all) h are) c.map.ensures.few

pub returns-clause-many : goal.returns-clause-many
returns-clause-many c = λ e c' Fs Ts h.
    placed_large c' Fs Ts c.args.context.now c.args.at c.args.d c.requires.there _ _ c.args.local.now (c.deref.ensures.value ∙ c.in_ok-before.ensures.all) (c.deref-2.ensures.value ∙ c.in_ok-after.ensures.all) h (c.map.ensures.many e)
