use Rattle.bound_contract.specs.Sites.{program_at}
use Rattle.bound_contract.proofs.decider.tried.Goals as goal

pub planned-requires-clause-kept : goal.planned-requires-clause-kept
planned-requires-clause-kept g c = c.kept_or_none-kept.ensures (program_at c.args.site.now) c.requires.kept
