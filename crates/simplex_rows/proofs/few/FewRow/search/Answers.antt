use Rattle.std.proofs.Common.{ℕ, ℤ, pos, rules, sym, ap, ◌∙◌}
use Rattle.std.proofs.lemmas.List.{get_or_default}
use Rattle.std.proofs.lemmas.List.Sorted.{answers_always}
use Rattle.simplex_rows.proofs.FewFinding.{found, missing}
use Rattle.simplex_rows.proofs.Wholes.{number_kept}
use Rattle.simplex_rows.proofs.few.FewRow.search.Goals as goal

pub returns-in-Ok : goal.returns-in-Ok
returns-in-Ok c =
    let by_key = c.in-Ok.ensures.position (λ e. e.0) (answers_always _ _ _ (λ f a r g called. search rules)) in
    let there = found _ c.self.invariant.ascends c.args.column c.in-Ok.place (rw c.deref.ensures.value at c.in-Ok.ensures.bound) (rw c.deref.ensures.value at by_key) in
    let same = c.index.ensures ∙ get_or_default c.self.inside.entries.items c.in-Ok.place c.index.result.now (0, pos 0) (rw c.deref.ensures.value at c.in-Ok.ensures.bound) in
    let value = ap (λ (e : ℕ × ℤ). e.1) same ∙ sym there in
    rw (← c.self.view_is) (rw value (number_kept _ c.args.column c.self.invariant))

pub returns-in-Err : goal.returns-in-Err
returns-in-Err c =
    let by_key = c.in-Err.ensures.position (λ e. e.0) (answers_always _ _ _ (λ f a r g called. search rules)) in
    rw (← c.self.view_is) (sym (missing _ c.self.invariant.ascends c.args.column c.in-Err.field-0 (rw c.deref.ensures.value at by_key)))
