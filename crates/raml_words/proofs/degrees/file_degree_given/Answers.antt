use Rattle.std.proofs.Common.{map, string_bytes, sym, ap, subst, ◌∙◌}
use Rattle.std.specs.Prelude.{option_and_then}
use Rattle.raml_words.specs.Sorting.{given_of}
use Rattle.raml_words.specs.Apps.{file_degree_app}
use Rattle.raml_words.specs.Clapped.{one_text}
use Rattle.raml_words.specs.Made.{degree_read}
use Rattle.raml_words.specs.Asked.{Tells, file_degree_of}
use Rattle.raml_words.proofs.DegreeWalk.{file_degree_law}
use Rattle.raml_words.proofs.degrees.file_degree_given.Goals as goal

pub returns-in-Ok : goal.returns-in-Ok
returns-in-Ok c =
    let read = degree_read file_degree_app one_text in
    let words = ap (λ ws. read (map string_bytes ws)) c.deref.ensures.value ∙ sym (ap (option_and_then read) c.in-Ok.ensures) in
    subst (Tells file_degree_of c.file_degree_read.result) (words ∙ file_degree_law c.args.command.now (given_of c.args.given.now)) c.file_degree_read.ensures
