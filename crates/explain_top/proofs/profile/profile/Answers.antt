use Rattle.std.proofs.Common.{string_bytes}
use Rattle.explain_check.specs.Stores.{store_of}
use Rattle.explain_profile_call.specs.Calls.{CallIs}
use Rattle.explain_top.specs.Answers.{status_at}
use Rattle.explain_top.proofs.Telling.{tells}
use Rattle.explain_top.proofs.profile.profile.Goals as goal

pub returns-in-Ok-clause-told : goal.returns-in-Ok-clause-told
returns-in-Ok-clause-told g c =
    let store = store_of (g.S.Store.holds c.args.store.now) (g.S.Store.faults c.args.store.now) (g.S.Store.faults c.tell_profile.new.store) in
    let told = c.in-Ok.ensures.told in
    tells (CallIs store c.args.words.now) status_at _ _ c.in-Ok.end c.from.result c.put_text.result c.deref-in-Ok.result.now (string_bytes c.tell_profile.new.text) (string_bytes c.new-text.result) told.0
    c.deref.result.now (string_bytes c.tell_profile.new.report) (string_bytes c.new-report.result) told.1 told.2 c.from.ensures
    c.deref-in-Ok.ensures told.3 c.new-text.ensures.bytes c.deref.ensures told.4 c.new-report.ensures.bytes c.put_text.ensures c.write_report.ensures
