use Rattle.std.proofs.Common.{rules}
use Rattle.std.proofs.lemmas.List.Sorted.{answers_always}
use Rattle.linear_rows.proofs.Places.{searched}
use Rattle.linear_rows.proofs.row.Row.search.Goals as goal

-- the closure gives a term's unknown, and the slice is the row's terms
pub returns : goal.returns
returns c =
    let facts = c.binary_search_by_key.ensures in
    let by_key = facts.position (λ term. term.0) (answers_always _ _ _ (λ f a r g called. search rules)) in
    rw (← c.self.view_is, ← c.deref.ensures.value) (searched _ (rw c.deref.ensures.value c.self.invariant) c.args.unknown _ facts.bound by_key)
