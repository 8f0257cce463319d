use Rattle.std.proofs.Common.{◌+◌, ◌++◌, map, flat_map, filter, nat_eq, ◌∙◌, arith}
use Rattle.std.specs.List.{range_with_len}
use Rattle.raml_syntax.specs.Read.{ty_of}
use Rattle.base_poly.specs.Plain.{capped}
use Rattle.cost_free.specs.Target.{degree_of}
use Rattle.cost_free.specs.Joining.{joined_of}
use Rattle.cost_free.proofs.Listed.{degrees_made}
use Rattle.cost_free.proofs.target_degrees.all_degrees.Goals as goal

pub returns : goal.returns
returns c =
    let joined = c.in_ok-joined.joined.items in
    degrees_made (ty_of c.args.ty.now) c.args.d c.args.units.now _ joined (omega (arith, c.ranges.d.fits)) c.requires c.in_ok-joined.ensures
    (c.in_ok-append_joined.ensures
    ∙ (λ k. c.in_ok-append_ascending.ensures k ++ map (λ j. capped (degree_of (joined_of j).target)) (c.deref.ensures.value k))
    ∙ (λ k. (c.in_ok-found.ensures.items k ++ flat_map (λ g. filter (λ n. nat_eq n g) c.args.units.now) (range_with_len 0 (c.args.d + 1))) ++ map (λ j. capped (degree_of (joined_of j).target)) joined))
