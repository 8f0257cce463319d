use Rattle.std.proofs.Common.{◌≡◌, ◌∙◌, ◌++◌, [], List, map, ap, subst, OnOk}
use Rattle.std.proofs.lemmas.List.{append_assoc}
use Rattle.raml_syntax.specs.Tree.{Parameter}
use Rattle.raml_syntax.specs.Read.{parameter_of, term_of}
use Rattle.explain_scopes.specs.Scopes.{Occurrence, bind_parameters, names_in, parameter, variable}
use Rattle.explain_scopes.specs.Read.{bounds_of, occurrences_of}
use Rattle.explain_scopes.proofs.program.push_function_names.Goals as goal

pub returns : goal.returns
returns c =
    let old = occurrences_of c.args.found.now.items in
    let params = map parameter_of c.args.fun.now.params.items in
    let bound = map (λ (p : Parameter). variable (parameter p)) params in
    let body = names_in (bounds_of c.args.functions.now) (bind_parameters [] params) (term_of c.args.fun.now.body) in
    let parameters = c.in_ok-push_parameters.ensures in
    let first : occurrences_of c.push_parameters.new.found.items ≡ old ++ bound = rw c.deref.ensures.value at parameters in
    let given = c.push_body.ensures in
    let told : OnOk c.push_body.result (occurrences_of c.push_body.new.found.items ≡ occurrences_of c.push_parameters.new.found.items ++ body) =
    rw (c.deref-2.ensures.value, c.empty-scope.ensures) at given in
    subst (λ (all : List Occurrence). OnOk c.push_body.result (occurrences_of c.push_body.new.found.items ≡ all)) (ap (λ (m : List Occurrence). m ++ body) first ∙ append_assoc old bound body) told
