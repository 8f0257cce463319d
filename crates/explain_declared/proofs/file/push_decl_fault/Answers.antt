use Rattle.std.proofs.Common.{◌≡◌, ◌++◌, OnOk, sym, subst}
use Rattle.std.specs.Prelude.{string_bytes}
use Rattle.raml_syntax.specs.Tree.{Text}
use Rattle.bound_file.specs.declared.fault.DeclFault.{DeclFault}
use Rattle.explain_check.specs.Checks.{fault_head}
use Rattle.explain_declared.specs.Places.{place_of}
use Rattle.explain_declared.proofs.file.push_decl_fault.Goals as goal

pub returns-in-NotUtf8 : goal.returns-in-NotUtf8
returns-in-NotUtf8 c =
    subst (λ (fault : DeclFault). OnOk c.push_fault.result ((x : Text) × (string_bytes c.push_fault.new.report ≡ string_bytes c.args.report.now ++ (fault_head c.args.name.now c.args.bytes.now (place_of c.args.bytes.now fault) ++ x))))
    (sym c.in-NotUtf8.is) c.push_fault.ensures

pub returns-in-Ok : goal.returns-in-Ok
returns-in-Ok c =
    let told = λ (bytes : Text) (fault : DeclFault). OnOk c.push_line_fault.result ((x : Text) × (string_bytes c.push_line_fault.new.report ≡ string_bytes c.args.report.now ++ (fault_head c.args.name.now bytes (place_of bytes fault) ++ x))) in
    subst (told c.args.bytes.now) (sym c.in-Line.is) (subst (λ bytes. told bytes (DeclFault.Line c.in-Line.line c.in-Line.fault)) c.in-Ok.ensures.cases.0 c.push_line_fault.ensures)
