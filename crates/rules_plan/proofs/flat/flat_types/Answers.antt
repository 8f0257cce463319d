use Rattle.std.proofs.Common.{sym, ap, ◌∙◌, arith}
use Rattle.base_poly.specs.Read.{context_of}
use Rattle.rules_plan.specs.Flat.{flat_size}
use Rattle.rules_plan.proofs.Flatness.{size_flat}
use Rattle.rules_plan.proofs.flat.flat_types.Goals as goal

pub returns : goal.returns
returns c =
    let is = c.in_ok-held_among.ensures.0 in
    let few = c.in_ok-held_among.ensures.1 in
    c.flat_size.ensures ∙ ap (λ n. flat_size n c.args.d) is ∙ sym (size_flat (context_of c.args.types.now) c.args.d (omega (arith, is, few)))
