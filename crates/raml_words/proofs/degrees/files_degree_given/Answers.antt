use Rattle.std.proofs.Common.{map, string_bytes, sym, ap, subst, ◌∙◌}
use Rattle.std.specs.Prelude.{option_and_then}
use Rattle.raml_words.specs.Sorting.{given_of}
use Rattle.raml_words.specs.Apps.{files_degree_app}
use Rattle.raml_words.specs.Clapped.{two_texts}
use Rattle.raml_words.specs.Made.{degree_read}
use Rattle.raml_words.specs.Asked.{Tells, files_degree_of}
use Rattle.raml_words.proofs.DegreeWalk.{files_degree_law}
use Rattle.raml_words.proofs.degrees.files_degree_given.Goals as goal

pub returns-in-Ok : goal.returns-in-Ok
returns-in-Ok c =
    let read = degree_read files_degree_app two_texts in
    let words = ap (λ ws. read (map string_bytes ws)) c.deref.ensures.value ∙ sym (ap (option_and_then read) c.in-Ok.ensures) in
    subst (Tells files_degree_of c.files_degree_read.result) (words ∙ files_degree_law c.args.command.now (given_of c.args.given.now)) c.files_degree_read.ensures
