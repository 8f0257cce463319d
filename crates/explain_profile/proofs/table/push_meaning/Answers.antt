use Rattle.std.proofs.Common.{◌++◌, ◌∙◌, List, ap, map, string_bytes}
use Rattle.std.proofs.lemmas.Result.{on_ok_weaker}
use Rattle.raml_syntax.specs.Tree.{Parameter}
use Rattle.raml_syntax.specs.Types.{types_of}
use Rattle.raml_syntax.specs.Read.{parameter_of, function_of}
use Rattle.raml_syntax.specs.declared.program.Param.{Param}
use Rattle.base_poly.specs.Read.{context_of}
use Rattle.explain_algebra.specs.Algebra.{texts}
use Rattle.explain_profile.specs.Rows.{line_with, sizes_meaning}
use Rattle.explain_profile.proofs.table.push_meaning.Goals as goal

pub returns : goal.returns
returns c =
    let g = function_of c.args.fun.now in
    let types = ap context_of c.deref-3.ensures.value ∙ c.in_ok-types.ensures ∙ ap (λ (ps : List Param). map (λ (p : Parameter). p.type) (map parameter_of ps)) c.deref.ensures.value in
    let names = ap texts c.deref-4.ensures.value ∙ c.in_ok-names.ensures ∙ ap (λ (ps : List Param). map (λ (p : Parameter). p.name) (map parameter_of ps)) c.deref-2.ensures.value in
    let is = c.deref-5.ensures ∙ c.in_ok-meaning.ensures ∙ ap (λ As. sizes_meaning As (texts c.deref-4.result.now)) types ∙ ap (sizes_meaning (types_of g)) names in
    on_ok_weaker c.push_line.result (λ told. told ∙ ap (λ line. string_bytes c.args.text.now ++ line_with line) is) c.push_line.ensures
