use Rattle.std.proofs.Common.{◌≡◌, ◌∙◌}
use Rattle.std.proofs.lemmas.Result.{IfOk-weaker}
use Rattle.base_poly.specs.Read.{context_of}
use Rattle.index_shift.specs.Maps.{opening}
use Rattle.rules_plan.proofs.Changed.{opening_is}
use Rattle.rules_plan.proofs.change.opening.Goals as goal

pub returns : goal.returns
returns c =
    IfOk-weaker c.map.result _ (λ found. found.items ≡ opening (context_of c.args.types.now) c.args.at c.args.d)
    (λ found is. opening_is c.args.types.now c.args.at c.args.d c.index-types-at.result c.requires.there c.index-types-at.is _ _ _
    (c.deref.ensures.value ∙ c.in_ok-before.ensures.all) (c.deref-2.ensures.value ∙ c.in_ok-after.ensures.all) c.in_ok-local.ensures.is found.items is) c.map.ensures.map
