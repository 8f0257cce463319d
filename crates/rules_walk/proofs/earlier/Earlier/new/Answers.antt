use Rattle.std.proofs.Common.{ap, map}
use Rattle.rules_walk.proofs.Remembering.{nothing_remembered}
use Rattle.rules_walk.proofs.earlier.Earlier.new.Goals as goal

pub returns : goal.returns
returns c = λ P d count. nothing_remembered P d c.args.functions
    (record {
      free = map (λ ss. ss.items) c.new.result.items;
      usable = map (λ us. us.items) c.in_ok-usable.usable.items;
      ticks = c.in_ok-ticks.ticks.items;
      cells = c.in_ok-cells.cells.items;
      work = c.in_ok-work.work.items;
    })
    (ap (map (λ ss. ss.items)) c.new.ensures.items) c.in_ok-usable.ensures c.in_ok-ticks.ensures c.in_ok-cells.ensures c.in_ok-work.ensures count
