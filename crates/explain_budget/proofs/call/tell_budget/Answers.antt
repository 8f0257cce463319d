use Rattle.std.proofs.Common.{[], Option, refl, sym, subst, inl, string_bytes}
use Rattle.std.proofs.lemmas.List.{append-nil}
use Rattle.explain_check.specs.Checks.{LacksProgram, ProgramGives}
use Rattle.explain_check.specs.Stores.{store_of}
use Rattle.explain_check.specs.declared.program.Source.{Source}
use Rattle.explain_budget.specs.Calls.{words_of}
use Rattle.explain_budget.proofs.Calling.{of_call}
use Rattle.explain_budget.proofs.call.tell_budget.Goals as goal

pub returns-in-None-clause-told : goal.returns-in-None-clause-told
returns-in-None-clause-told g c =
    let read = c.in_ok-source.ensures.told in
    let store = store_of (g.S.Store.holds c.args.store.now) (g.S.Store.faults c.args.store.now) (g.S.Store.faults c.read_program.new.store) in
    let lacks : LacksProgram store c.args.file.now read.0 = rw c.in-None.is at read.1 in
    ([], read.0, inl (refl, refl, lacks), sym (append-nil _), read.2)

pub returns-in-Some-clause-told : goal.returns-in-Some-clause-told
returns-in-Some-clause-told g c =
    let holds = g.S.Store.holds c.args.store.now in
    let before = g.S.Store.faults c.args.store.now in
    let mid = g.S.Store.faults c.read_program.new.store in
    let words = words_of c.args.file.now c.args.bounds.now c.args.degree c.args.width c.args.json in
    let read = c.in_ok-source.ensures.told in
    let gives = subst (λ (found : Option Source). ProgramGives (store_of holds before mid) c.args.file.now found read.0) c.in-Some.is read.1 in
    of_call holds (g.S.Store.holds c.read_program.new.store) before mid (g.S.Store.faults c.tell_bounds.new.store) c.read_program.ensures.kept c.read_program.ensures.later words c.in-Some.source read.0
    (string_bytes c.args.text.now) (string_bytes c.tell_bounds.new.text) (string_bytes c.args.report.now) (string_bytes c.read_program.new.report) (string_bytes c.tell_bounds.new.report) c.tell_bounds.result
    gives read.2 c.tell_bounds.ensures.told
