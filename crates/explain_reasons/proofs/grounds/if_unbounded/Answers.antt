use Rattle.std.proofs.Common.{inr, sym, ◌∙◌}
use Rattle.explain_reasons.proofs.grounds.if_unbounded.Goals as goal

pub returns-then-some_unbounded : goal.returns-then-some_unbounded
returns-then-some_unbounded c =
    let unbounded = rw c.deref.ensures.value at (sym c.some_unbounded.ensures ∙ c.if-some_unbounded.true) in
    inr (record {
      all = c.requires.all;
      some = c.requires.some;
      unbounded = record { found = c.in_ok-rounds.rounds; finds = c.in_ok-rounds.ensures; unbounded = unbounded };
    })
