use Rattle.std.proofs.Common.{◌≡◌, ℕ, rules, sym, ap, ◌∙◌}
use Rattle.std.proofs.lemmas.List.{get_or_default}
use Rattle.std.proofs.lemmas.List.Sorted.{answers_always}
use Rattle.frac128.specs.declared.Frac.{Frac}
use Rattle.frac128.specs.Values.{numerator, denominator}
use Rattle.frac128.specs.Nought.{nought}
use Rattle.simplex_rows.proofs.Finding.{found, missing}
use Rattle.simplex_rows.specs.Entries.{at}
use Rattle.simplex_rows.proofs.wide.WideRow.search.Goals as goal

-- what is read there
read : (c : goal.After-result-1) → c.index.result.now.1 ≡ at c.args.column c.args.self.now
read c =
    let by_key = c.in-Ok.ensures.position (λ e. e.0) (answers_always _ _ _ (λ f a r g called. search rules)) in
    let there = found _ c.self.invariant c.args.column c.in-Ok.place (rw c.deref.ensures.value at c.in-Ok.ensures.bound) (rw c.deref.ensures.value at by_key) in
    let same = c.index.ensures ∙ get_or_default c.self.inside.entries.items c.in-Ok.place c.index.result.now (0, nought) (rw c.deref.ensures.value at c.in-Ok.ensures.bound) in
    rw (← c.self.view_is) (ap (λ (e : ℕ × Frac). e.1) same ∙ sym there)

pub returns-in-Ok-clause-num : goal.returns-in-Ok-clause-num
returns-in-Ok-clause-num c = ap (λ (x : Frac). numerator x) (read c)

pub returns-in-Ok-clause-den : goal.returns-in-Ok-clause-den
returns-in-Ok-clause-den c = ap (λ (x : Frac). denominator x) (read c)

-- what is not there
none : (c : goal.After-zero) → at c.args.column c.args.self.now ≡ nought
none c =
    let by_key = c.in-Err.ensures.position (λ e. e.0) (answers_always _ _ _ (λ f a r g called. search rules)) in
    rw (← c.self.view_is) (missing _ c.self.invariant c.args.column c.in-Err.field-0 (rw c.deref.ensures.value at by_key))

pub returns-in-Err-clause-num : goal.returns-in-Err-clause-num
returns-in-Err-clause-num c = rw (none c) c.zero.ensures.num

pub returns-in-Err-clause-den : goal.returns-in-Err-clause-den
returns-in-Err-clause-den c = rw (none c) c.zero.ensures.den
