use Rattle.std.proofs.Common.{◌≤◌, ◌+◌, not, ap, ◌∙◌, arith}
use Rattle.std.specs.List.{list_all}
use Rattle.std.proofs.lemmas.Bool.Decides.{nat_tests}
use Rattle.rules_spec.specs.Capped.{cap}
use Rattle.constraint_gen.proofs.Kept.{covered, kept_is}
use Rattle.constraint_gen.proofs.row.is_kept.Goals as goal

pub returns-else-asked-held : goal.returns-else-asked-held
returns-else-asked-held c =
    let least : cap (c.args.right.now.plus + c.args.left.now.minus) ≤ cap (c.args.left.now.plus + c.args.right.now.minus) =
    grind (arith, nat_tests, c.if-asked-held.false, c.asked.ensures, c.held.ensures) in
    ap not c.covers.ensures
    ∙ ap (λ ts. not (list_all (covered c.args.unknowns c.args.left.now) ts)) c.terms.ensures.terms
    ∙ kept_is c.args.unknowns c.args.left.now c.args.right.now c.terms.ensures.sum least
