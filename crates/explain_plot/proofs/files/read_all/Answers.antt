use Rattle.explain_check.specs.Stores.{store_of}
use Rattle.explain_words.specs.Commands.{texts}
use Rattle.explain_plot.proofs.Held.{all_read, one_lacks}
use Rattle.explain_plot.proofs.files.read_all.Goals as goal

pub returns-then-branch-clause-told : goal.returns-then-branch-clause-told
returns-then-branch-clause-told g c =
    let store = store_of (g.S.Store.holds c.args.store.now) (g.S.Store.faults c.args.store.now) (g.S.Store.faults c.read_on.new.store) in
    let told = c.in_ok-read_on.ensures.told in
    let read = all_read store (texts c.args.names.now) c.in_ok-read_on.field-0 c.new-read.result.items c.read_on.new.read.items told.0 c.if-branch.true c.new-read.ensures.items told.1 in
    (told.0, read, told.2)

pub returns-clause-told : goal.returns-clause-told
returns-clause-told g c =
    let store = store_of (g.S.Store.holds c.args.store.now) (g.S.Store.faults c.args.store.now) (g.S.Store.faults c.read_on.new.store) in
    let told = c.in_ok-read_on.ensures.told in
    (told.0, one_lacks store (texts c.args.names.now) c.in_ok-read_on.field-0 c.new-read.result.items c.read_on.new.read.items told.0 c.if-branch.false told.1, told.2)
