use Rattle.explain_rebuild.proofs.Reaching.{copied}
use Rattle.explain_rebuild.proofs.mending.first_sites.Goals as goal

pub returns-then-is_some : goal.returns-then-is_some
returns-then-is_some c = copied c.args.sites.now c.from_slice.result (λ found. found.items) c.from_slice.ensures.items
