use Rattle.std.proofs.Common.{map, ap, ◌∙◌}
use Rattle.rules_plan.specs.Read.{body_of}
use Rattle.bound_contract.specs.Sites.{program_at, certificate_at, before_at}
use Rattle.bound_contract.proofs.deciding.system_by.Goals as goal

pub line_system-requires-clause-bodies : goal.line_system-requires-clause-bodies
line_system-requires-clause-bodies c =
    let site = c.args.site.now in
    ap (map body_of) c.deref.ensures.value
    ∙ c.in-Ok.ensures (program_at site) site.group (certificate_at site).degree (before_at site) c.requires.plans c.requires.before.usable
