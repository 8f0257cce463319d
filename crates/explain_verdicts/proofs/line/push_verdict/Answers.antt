use Rattle.std.proofs.Common.{◌≡◌, ◌++◌, ◌∙◌, codes, string_bytes, refl}
use Rattle.std.proofs.lemmas.Result.{on_ok_weaker}
use Rattle.base_poly.specs.Read.{context_of}
use Rattle.raml_syntax.specs.Read.{program_of}
use Rattle.explain_algebra.specs.Algebra.{texts}
use Rattle.explain_bounds.specs.Lines.{at_most}
use Rattle.explain_verdicts.specs.Line.{is_kept, verdict_text}
use Rattle.explain_verdicts.proofs.Appended.{verdict_then}
use Rattle.explain_verdicts.proofs.line.push_verdict.Goals as goal

pub returns : goal.returns
returns c =
    let sum = string_bytes c.in_ok-declared.declared.sum in
    let meaning = string_bytes c.in_ok-declared.declared.legend in
    let word = verdict_text (is_kept c.args.judged.now.verdict) in
    let written = rw c.verdict_name-word.ensures at c.in_ok-write.ensures.bytes in
    on_ok_weaker c.push_found.result
    (λ found. let told = rw c.deref.ensures at found in (
      codes " " ++ (word ++ (codes ":" ++ (at_most ++ (sum ++ (codes " declared," ++ told.0))))),
      record { declared = sum; meaning = meaning; behind = told.0; reads = c.in_ok-declared.ensures; tells = told.1; is = refl },
      verdict_then (string_bytes c.args.text.now) (string_bytes c.write.new.self) (string_bytes c.push_found.new.text) word sum told.0 written told.2,
    ))
    c.push_found.ensures
