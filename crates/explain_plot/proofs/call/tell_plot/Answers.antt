use Rattle.std.proofs.Common.{Option, Vec, Global, subst, inl, string_bytes}
use Rattle.explain_check.specs.Checks.{LacksProgram, ProgramGives}
use Rattle.explain_check.specs.Stores.{store_of}
use Rattle.explain_check.specs.declared.program.Source.{Source}
use Rattle.explain_marks.specs.declared.marks.Given.{Given}
use Rattle.explain_plot.specs.Calls.{CallIs}
use Rattle.explain_plot.specs.Files.{AreRead, names_of}
use Rattle.explain_plot.proofs.Calling.{of_lacking, of_program, tells_refused}
use Rattle.explain_plot.proofs.Held.{held_short}
use Rattle.explain_plot.proofs.call.tell_plot.Goals as goal

pub tell_program-requires-clause-short : goal.tell_program-requires-clause-short
tell_program-requires-clause-short g c =
    let store = store_of (g.S.Store.holds c.read_program.new.store) (g.S.Store.faults c.read_program.new.store) (g.S.Store.faults c.read_files.new.store) in
    let names = names_of c.args.words.now.arguments in
    let read = c.in_ok-files-in-Some.ensures.told in
    let held = subst (λ (found : Option (Vec Given Global)). AreRead store names found read.0) c.in-Some-2.is read.1 in
    rw c.deref.ensures.value (held_short store names c.in-Some-2.files.items held.0)

pub returns-clause-told : goal.returns-clause-told
returns-clause-told g c =
    let read = c.in_ok-source.ensures.told in
    let store = store_of (g.S.Store.holds c.args.store.now) (g.S.Store.faults c.args.store.now) (g.S.Store.faults c.read_program.new.store) in
    let lacks : LacksProgram store c.args.words.now.file.now read.0 = rw c.in-None.is at read.1 in
    tells_refused (CallIs store c.args.words.now) c.refused-in-None.result (string_bytes c.args.text.now) (string_bytes c.args.report.now) (string_bytes c.read_program.new.report) read.0
    c.refused-in-None.ensures (λ outcome is. inl (read.0, lacks, is)) read.2

pub returns-in-Some-2-clause-told : goal.returns-in-Some-2-clause-told
returns-in-Some-2-clause-told g c =
    let holds = g.S.Store.holds c.args.store.now in
    let same = g.S.Store.holds c.read_program.new.store in
    let before = g.S.Store.faults c.args.store.now in
    let mid = g.S.Store.faults c.read_program.new.store in
    let after = g.S.Store.faults c.read_files.new.store in
    let words = c.args.words.now in
    let read = c.in_ok-source.ensures.told in
    let more = c.in_ok-files-in-Some.ensures.told in
    let gives = subst (λ (found : Option Source). ProgramGives (store_of holds before mid) words.file.now found read.0) c.in-Some.is read.1 in
    let held = subst (λ (found : Option (Vec Given Global)). AreRead (store_of same mid after) (names_of words.arguments) found more.0) c.in-Some-2.is more.1 in
    of_program holds same before mid after c.read_program.ensures.kept c.read_program.ensures.later words c.in-Some.source read.0 (string_bytes c.args.report.now)
    (string_bytes c.read_program.new.report) gives read.2 c.in-Some-2.files.items more.0 (string_bytes c.args.text.now) (string_bytes c.tell_program.new.text)
    (string_bytes c.read_files.new.report) (string_bytes c.tell_program.new.report) c.tell_program.result held.0 held.1 more.2 (rw c.deref.ensures.value at c.tell_program.ensures)

pub returns-in-Some-clause-told : goal.returns-in-Some-clause-told
returns-in-Some-clause-told g c =
    let holds = g.S.Store.holds c.args.store.now in
    let same = g.S.Store.holds c.read_program.new.store in
    let before = g.S.Store.faults c.args.store.now in
    let mid = g.S.Store.faults c.read_program.new.store in
    let after = g.S.Store.faults c.read_files.new.store in
    let words = c.args.words.now in
    let read = c.in_ok-source.ensures.told in
    let more = c.in_ok-files-in-Some.ensures.told in
    let gives = subst (λ (found : Option Source). ProgramGives (store_of holds before mid) words.file.now found read.0) c.in-Some.is read.1 in
    let lacks = subst (λ (found : Option (Vec Given Global)). AreRead (store_of same mid after) (names_of words.arguments) found more.0) c.in-None-2.is more.1 in
    of_lacking holds same before mid after c.read_program.ensures.kept c.read_program.ensures.later words c.in-Some.source read.0 (string_bytes c.args.report.now)
    (string_bytes c.read_program.new.report) gives read.2 c.refused.result (string_bytes c.args.text.now) (string_bytes c.read_files.new.report) more.0 c.refused.ensures lacks more.2
