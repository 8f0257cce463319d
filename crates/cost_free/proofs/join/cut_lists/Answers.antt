use Rattle.std.proofs.Common.{filter, flat_map, nat_lt, ap, ◌∙◌, arith}
use Rattle.raml_syntax.specs.Read.{ty_of}
use Rattle.base_poly.specs.Plain.{deg}
use Rattle.cost_free.proofs.Low.{cuts_are_low}
use Rattle.cost_free.proofs.join.cut_lists.Goals as goal

pub returns-clause-low : goal.returns-clause-low
returns-clause-low c =
    cuts_are_low (ty_of c.args.element.now) c.args.d c.in_ok-found.found.items (omega (arith, c.ranges.d.fits))
    (c.in_ok-found.ensures ∙ ap (λ ts. filter (λ l. nat_lt 0 (deg l)) (flat_map (λ t. t) ts)) (c.deref.ensures.value ∙ c.in_ok-tuples.ensures))
