use Rattle.std.proofs.Common.{string_bytes}
use Rattle.explain_plot.proofs.Held.{read_step}
use Rattle.explain_plot.proofs.files.+read_on.Goals as goal

pub returns-in_ok-push-in-Some-clause-told : goal.returns-in_ok-push-in-Some-clause-told
returns-in_ok-push-in-Some-clause-told g t c =
    let read = c.in_ok-bytes-in-len1-up.ensures.told in
    read_step (g.S.Store.holds c.args.store.now) (g.S.Store.holds c.read_file.new.store) (g.S.Store.faults c.args.store.now) (g.S.Store.faults c.read_file.new.store) (g.S.Store.faults c.read_on.new.store)
    c.read_file.ensures.kept c.read_file.ensures.later c.args.names.now c.in-len1-up.len_at_least _ c.in_ok-bytes-in-len1-up.field-0 c.in-Some.bytes c.args.read.now.items c.push.new.self.items
    c.read_on.new.read.items read.0 (string_bytes c.args.report.now) (string_bytes c.read_file.new.report) (string_bytes c.read_on.new.report) c.read_on.result c.in-Some.is read.1 c.in_ok-push-in-Some.ensures.items
    read.2 c.read_on.ensures.told
