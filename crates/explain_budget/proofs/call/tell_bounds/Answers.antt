use Rattle.std.proofs.Common.{[], ℕ, Option, Vec, Global, refl, sym, subst, inl, option_map, string_bytes, vec_items}
use Rattle.std.proofs.lemmas.List.{append-nil}
use Rattle.raml_syntax.specs.Read.{program_of}
use Rattle.explain_check.specs.Checks.{most_bytes}
use Rattle.explain_check.specs.Stores.{store_of, FileGives, Unread}
use Rattle.explain_budget.proofs.Calling.{of_bytes}
use Rattle.explain_budget.proofs.call.tell_bounds.Goals as goal

pub returns-in-None-clause-told : goal.returns-in-None-clause-told
returns-in-None-clause-told g c =
    let read = c.in_ok-bytes.ensures.told in
    let store = store_of (g.S.Store.holds c.args.store.now) (g.S.Store.faults c.args.store.now) (g.S.Store.faults c.read_file.new.store) in
    let unread : Unread store most_bytes c.args.bounds.now read.0 = rw c.in-None.is at read.1 in
    ([], read.0, inl (refl, refl, unread), sym (append-nil _), read.2)

pub returns-in-Some-clause-told : goal.returns-in-Some-clause-told
returns-in-Some-clause-told g c =
    let read = c.in_ok-bytes.ensures.told in
    let bounds = c.args.bounds.now in
    let store = store_of (g.S.Store.holds c.args.store.now) (g.S.Store.faults c.args.store.now) (g.S.Store.faults c.read_file.new.store) in
    let gives = subst (λ (found : Option (Vec ℕ Global)). FileGives store most_bytes bounds (option_map vec_items found) read.0) c.in-Some.is read.1 in
    of_bytes store (program_of c.args.typed.now) bounds c.args.degree (λ bytes. record { name = bounds; bytes = bytes; width = c.args.width; json = c.args.json }) c.in-Some.bytes.items c.deref.result.now
    read.0 (string_bytes c.args.text.now) (string_bytes c.tell_program.new.text) (string_bytes c.args.report.now) (string_bytes c.read_file.new.report) (string_bytes c.tell_program.new.report) c.tell_program.result
    gives read.2 c.deref.ensures.value c.tell_program.ensures
