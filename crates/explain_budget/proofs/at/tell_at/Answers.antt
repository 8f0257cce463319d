use Rattle.explain_budget.proofs.at.tell_at.Goals as goal

pub tell_verified-requires-clause-within : goal.tell_verified-requires-clause-within
tell_verified-requires-clause-within c = (rw (c.source-source.ensures.source, c.in-Some.is) at c.in_ok-found.ensures.told.1).1
