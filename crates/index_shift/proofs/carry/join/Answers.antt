use Rattle.std.proofs.Common.{◌≡◌, [], ◌∷◌, map, rules, ap, ◌∙◌}
use Rattle.std.specs.Map.Iter.{deref_pair}
use Rattle.std.proofs.lemmas.Map.Iter.{iter_end}
use Rattle.base_poly.specs.Count.{counts_of}
use Rattle.index_shift.proofs.carry.join.Goals as goal

pub returns : goal.returns
returns c =
    let start : c.into_iter-index-iterator.result ≡ c.in_ok-terms.terms.entries = search rules in
    let all = (iter_end deref_pair c.in_ok-terms.terms.entries c.loop-index.yielded c.into_iter-index-iterator.result c.loop-index.index-iterator c.next.new.self c.next.result start c.loop-index.yielded_by c.in-None.is c.next.ensures.steps).0 in
    c.loop-index.invariant ∙ ap (map (λ e. (e.0 ∷ [], e.1))) (ap counts_of all ∙ c.in_ok-terms.ensures.tallied)
