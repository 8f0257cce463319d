use Rattle.std.proofs.Common.{string_bytes, vec_items, Option, Vec, Global, ℕ, option_map, subst, ap}
use Rattle.raml_syntax.specs.Read.{program_of}
use Rattle.raml_syntax.specs.declared.program.Program.{Program}
use Rattle.explain_check.specs.Checks.{SourceGives, most_bytes}
use Rattle.explain_check.specs.Stores.{store_of, FileGives}
use Rattle.explain_data.proofs.Calling.{of_call}
use Rattle.explain_data.proofs.call.check_call.Goals as goal

pub returns-clause-told : goal.returns-clause-told
returns-clause-told g c =
    let holds = g.S.Store.holds c.args.store.now in
    let before = g.S.Store.faults c.args.store.now in
    let mid = g.S.Store.faults c.read_file.new.store in
    let after = g.S.Store.faults c.check_in_program.new.store in
    let read = c.in_ok-source.ensures.told in
    let typed = c.in_ok-typed.ensures.told in
    let gives = subst (λ (found : Option (Vec ℕ Global)). FileGives (store_of holds before mid) most_bytes c.args.file.now (option_map vec_items found) read.0) c.in-Some.is read.1 in
    let spelled = subst (λ (found : Option Program). SourceGives c.args.file.now c.deref.result.now found typed.0) c.in-Some-2.is typed.1 in
    of_call holds (g.S.Store.holds c.read_file.new.store) before mid after c.args.file.now c.args.name.now c.args.input.now c.in-Some.source.items c.deref.result.now c.in-Some-2.typed (program_of c.program.result.now)
    (string_bytes c.args.report.now) (string_bytes c.read_file.new.report) (string_bytes c.typed_source.new.report) (string_bytes c.check_in_program.new.report) read.0 typed.0 c.check_in_program.result
    c.read_file.ensures.kept c.read_file.ensures.later gives read.2 c.deref.ensures.value spelled typed.2 (ap program_of c.program.ensures.program) c.check_in_program.ensures.told
