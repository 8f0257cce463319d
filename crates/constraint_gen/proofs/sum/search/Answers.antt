use Rattle.std.proofs.Common.{rules}
use Rattle.std.proofs.lemmas.List.Sorted.{answers_always}
use Rattle.constraint_gen.proofs.Sums.{searched}
use Rattle.constraint_gen.proofs.sum.search.Goals as goal

-- the closure gives a term's unknown
pub returns : goal.returns
returns c =
    let facts = c.binary_search_by_key.ensures in
    let by_key = facts.position (λ term. term.0) (answers_always _ _ _ (λ f a r g called. search rules)) in
    searched _ c.requires.sum c.args.unknown _ facts.bound by_key
