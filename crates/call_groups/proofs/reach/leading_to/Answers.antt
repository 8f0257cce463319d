use Rattle.std.proofs.Common.{◌≡◌, ◌<◌, length, slice_index_or, true, false, ap, ◌∙◌, rules, arith}
use Rattle.call_groups.specs.Read.{rows_of}
use Rattle.call_groups.specs.Sets.{has}
use Rattle.call_groups.proofs.Leads.{leading_with, leading_without}
use Rattle.call_groups.proofs.Lists.{row_read}
use Rattle.call_groups.proofs.reach.leading_to.Goals as goal
use Rattle.call_groups.proofs.reach.leading_to.Goals.{then-contains, else-contains}

pub loop-from-preserved : goal.loop-from-preserved
loop-from-preserved c =
    let within : c.loop-from.from < length c.args.leads.now = omega arith in
    let read = row_read c.args.leads.now c.loop-from.from (record { low = 0; high = 0 }) within in
    elim c.if-contains.branch [
      | then-contains w ↦
          let yes : has (slice_index_or c.args.leads.now c.loop-from.from (record { low = 0; high = 0 })) c.args.fun ≡ true = search rules in
          leading_with (rows_of c.args.leads.now) c.args.fun c.loop-from.from (has c.loop-from.set) (has c.if-contains.set) (ap (λ r. r c.args.fun) read ∙ yes) (ap has w.set-is ∙ w.insert.ensures) c.loop-from.invariant
      | else-contains w ↦
          let no_ : has (slice_index_or c.args.leads.now c.loop-from.from (record { low = 0; high = 0 })) c.args.fun ≡ false = search rules in
          leading_without (rows_of c.args.leads.now) c.args.fun c.loop-from.from (has c.loop-from.set) (has c.if-contains.set) (ap (λ r. r c.args.fun) read ∙ no_) (ap has w.set-is) c.loop-from.invariant
    ]
