use Rattle.std.proofs.Common.{[], Option, refl, sym, subst, inl, string_bytes}
use Rattle.std.proofs.lemmas.List.{append-nil}
use Rattle.explain_check.specs.Checks.{LacksProgram, ProgramGives}
use Rattle.explain_check.specs.Stores.{store_of}
use Rattle.explain_check.specs.declared.program.Source.{Source}
use Rattle.explain_profile_call.proofs.Calling.{of_call}
use Rattle.explain_profile_call.proofs.call.tell_profile.Goals as goal

pub returns-in-None-clause-told : goal.returns-in-None-clause-told
returns-in-None-clause-told g c =
    let read = c.in_ok-source.ensures.told in
    let store = store_of (g.S.Store.holds c.args.store.now) (g.S.Store.faults c.args.store.now) (g.S.Store.faults c.read_program.new.store) in
    let lacks : LacksProgram store c.args.words.now.file.now read.0 = rw c.in-None.is at read.1 in
    ([], read.0, inl (refl, refl, lacks), sym (append-nil _), read.2)

pub returns-in-Some-clause-told : goal.returns-in-Some-clause-told
returns-in-Some-clause-told g c =
    let store = store_of (g.S.Store.holds c.args.store.now) (g.S.Store.faults c.args.store.now) (g.S.Store.faults c.read_program.new.store) in
    let words = c.args.words.now in
    let read = c.in_ok-source.ensures.told in
    let gives = subst (λ (found : Option Source). ProgramGives store words.file.now found read.0) c.in-Some.is read.1 in
    of_call store words c.in-Some.source read.0 (string_bytes c.args.text.now) (string_bytes c.tell_program.new.text) (string_bytes c.args.report.now)
    (string_bytes c.read_program.new.report) (string_bytes c.tell_program.new.report) c.tell_program.result gives read.2 c.tell_program.ensures
