use Rattle.std.proofs.Common.{sym, ap, ◌∙◌, rules, pos, FitsSigned, ℕ, ℤ}
use Rattle.std.proofs.lemmas.Int.{to_z-of_z}
use Rattle.std.proofs.lemmas.List.{get_or_default}
use Rattle.std.specs.Int.{w128}
use Rattle.linear_rows.specs.Terms.{IsAt}
use Rattle.linear_rows.proofs.Places.{coefficient_at, coefficient_in_gap}
use Rattle.linear_rows.proofs.row.Row.coefficient.Goals as goal

-- the term is at its place, and the pair there is the one that was read
pub returns-in-Ok : goal.returns-in-Ok
returns-in-Ok c =
    let f : FitsSigned w128 c.index.result.now.1 = search rules in
    let found : IsAt c.self.inside.terms.items c.args.unknown c.in-Ok.at = rw (← c.self.view_is) at c.in-Ok.ensures.found in
    let read = get_or_default c.self.inside.terms.items c.in-Ok.at c.index.result.now (0, pos 0) found.in_range in
    rw (to_z-of_z w128 _ f, ← c.self.view_is) (ap (λ (e : ℕ × ℤ). e.1) (c.index.ensures ∙ read) ∙ sym (coefficient_at c.self.inside.terms.items c.self.invariant c.args.unknown c.in-Ok.at found))

pub returns-in-Err : goal.returns-in-Err
returns-in-Err c = sym (coefficient_in_gap _ _ _ c.in-Err.ensures.absent)
