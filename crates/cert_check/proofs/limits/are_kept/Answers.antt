use Rattle.std.proofs.Common.{◌-◌, length}
use Rattle.cert_check.proofs.Little.{among_all}
use Rattle.cert_check.proofs.limits.are_kept.Goals as goal

pub returns-then-are_among : goal.returns-then-are_among
returns-then-are_among c t =
    let made = c.args.kept.now.made.items in
    let first = c.partition_point-first.result in
    among_all c.args.group c.args.budget first (length made - first) made (rw c.deref-2.ensures.value at (c.are_among.ensures t))
