use Rattle.simplex.proofs.Gains.{written_over_zeros}
use Rattle.simplex.proofs.Solves.{written_back}
use Rattle.simplex.proofs.reading.first_of.Goals as goal

pub returns : goal.returns
returns c =
    let made = rw (c.deref_mut.ensures.value, c.deref.ensures.value, c.in_ok-columns.ensures.columns) at c.write.ensures in
    let back = written_back c.in_ok-all.all.len c.in_ok-all.all.items c.write.new.all c.in_ok-all.all.ok.0 made.count in
    rw back (written_over_zeros c.args.count c.args.row.now c.in_ok-all.all.items c.write.new.all c.in_ok-all.ensures made)
