use Rattle.std.proofs.Common.{◌≡◌, ◌∙◌, sym, ap, subst, length, map, string_bytes}
use Rattle.std.specs.List.{All}
use Rattle.std.proofs.lemmas.List.{length-map}
use Rattle.std.proofs.lemmas.List.Elements.{All-map}
use Rattle.raml_syntax.specs.Read.{program_of, function_of}
use Rattle.raml_syntax.specs.Types.{types_of}
use Rattle.explain_made.specs.Made.{AreArguments}
use Rattle.explain_kept.proofs.Keeping.{value_kept}
use Rattle.explain_kept.proofs.values.keeps_value.Goals as goal

pub returns : goal.returns
returns c =
    let g = function_of c.in-Some.function.now in
    let items = c.in_ok-texts.texts.items in
    let lent = c.deref.ensures.value in
    let made = All-map (AreArguments (types_of g)) string_bytes items c.in_ok-texts.ensures.arguments in
    value_kept c.agree.result (program_of c.args.first.now) (program_of c.args.second.now) c.args.fun.0 g (map string_bytes c.deref.result.now) c.in-Some.ensures
    (length-map c.deref.result.now string_bytes ∙ ap length lent ∙ c.in_ok-texts.ensures.count)
    (subst (λ xs. All (AreArguments (types_of g)) (map string_bytes xs)) (sym lent) made)
    c.agree.ensures
