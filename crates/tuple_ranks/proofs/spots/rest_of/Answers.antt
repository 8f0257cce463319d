use Rattle.std.proofs.Common.{◌≡◌, ◌++◌, ◌∷◌, [], subst, rules}
use Rattle.tuple_ranks.specs.Columns.{sizes_in}
use Rattle.tuple_ranks.specs.Read.{lists_of}
use Rattle.tuple_ranks.specs.Spots.{AreLarge}
use Rattle.tuple_ranks.proofs.spots.rest_of.Goals as goal

pub returns-clause-many : goal.returns-clause-many
returns-clause-many c = λ e.
    let same : lists_of c.as_slice.result.now ≡ sizes_in c.args.others.now.columns ++ c.args.last.now ∷ [] = search rules in
    subst (λ pss. AreLarge pss c.args.d) same (c.new.ensures.many e)
