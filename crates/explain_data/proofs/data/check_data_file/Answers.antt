use Rattle.std.proofs.Common.{map, string_bytes, vec_items, Option, Vec, Global, ℕ, option_map, subst}
use Rattle.raml_syntax.specs.Read.{ty_of}
use Rattle.explain_check.specs.Stores.{store_of, FileGives}
use Rattle.explain_data.specs.Data.{most_data_bytes}
use Rattle.explain_data.proofs.Telling.{of_file}
use Rattle.explain_data.proofs.data.check_data_file.Goals as goal

pub returns-in-Some-clause-told : goal.returns-in-Some-clause-told
returns-in-Some-clause-told g c =
    let store = store_of (g.S.Store.holds c.args.store.now) (g.S.Store.faults c.args.store.now) (g.S.Store.faults c.read_file.new.store) in
    let told = c.in_ok-data.ensures.told in
    let gives = subst (λ (found : Option (Vec ℕ Global)). FileGives store most_data_bytes c.args.name.now (option_map vec_items found) told.0) c.in-Some.is told.1 in
    of_file store c.args.name.now c.in-Some.data.items c.deref.result.now (map ty_of c.args.types.now) (string_bytes c.args.report.now) (string_bytes c.read_file.new.report) (string_bytes c.check_data.new.report) told.0 c.check_data.result
    gives told.2 c.deref.ensures.value c.check_data.ensures
