use Rattle.std.proofs.Common.{◌≤◌, ◌∙◌, ap, length, arith}
use Rattle.std.specs.Prelude.{map}
use Rattle.std.proofs.lemmas.List.{length-map}
use Rattle.raml_syntax.specs.Read.{program_of}
use Rattle.parse_table.specs.Tokens.{as_token}
use Rattle.parse_table.specs.Read.{pieces}
use Rattle.raml_parse.proofs.Answered.{spelled_is, fault_answered, limits_hold, nodes_fit}
use Rattle.parse_table.proofs.Parts.{each_has_parameters}
use Rattle.raml_parse.proofs.source.parse_text.Goals as goal

pub returns-in-Ok-parse_tokens-clause-spelled : goal.returns-in-Ok-parse_tokens-clause-spelled
returns-in-Ok-parse_tokens-clause-spelled c =
    let are = ap pieces c.deref-2.ensures.value ∙ c.in_ok-pieces.ensures ∙ ap (map (as_token c.args.text.now)) c.deref.ensures.value in
    spelled_is c.args.text.now (pieces c.deref-2.result.now) (record { utf8 = c.requires.utf8; lexed = c.in-Ok.tokens.items; spelled = c.in-Ok.ensures.spelled; are = are }) (program_of c.in-Ok-parse_tokens.program) c.in-Ok-parse_tokens.ensures.same

pub returns-in-Ok-parse_tokens-clause-limits : goal.returns-in-Ok-parse_tokens-clause-limits
returns-in-Ok-parse_tokens-clause-limits c =
    let are = ap pieces c.deref-2.ensures.value ∙ c.in_ok-pieces.ensures ∙ ap (map (as_token c.args.text.now)) c.deref.ensures.value in
    limits_hold c.args.text.now (pieces c.deref-2.result.now) (record { utf8 = c.requires.utf8; lexed = c.in-Ok.tokens.items; spelled = c.in-Ok.ensures.spelled; are = are }) (program_of c.in-Ok-parse_tokens.program) c.in-Ok-parse_tokens.ensures.same

pub returns-in-Ok-parse_tokens-clause-few_nodes : goal.returns-in-Ok-parse_tokens-clause-few_nodes
returns-in-Ok-parse_tokens-clause-few_nodes c =
    let are = ap pieces c.deref-2.ensures.value ∙ c.in_ok-pieces.ensures ∙ ap (map (as_token c.args.text.now)) c.deref.ensures.value in
    let same = ap length are ∙ length-map c.in-Ok.tokens.items (as_token c.args.text.now) in
    let few : length (pieces c.deref-2.result.now) ≤ length c.args.text.now = omega (arith, same, c.in-Ok.ensures.few, c.in-Ok.tokens.ok.0) in
    nodes_fit c.args.text.now (pieces c.deref-2.result.now) (record { utf8 = c.requires.utf8; lexed = c.in-Ok.tokens.items; spelled = c.in-Ok.ensures.spelled; are = are }) (length c.args.text.now) few (program_of c.in-Ok-parse_tokens.program) c.in-Ok-parse_tokens.ensures.same

pub returns-clause-fault : goal.returns-clause-fault
returns-clause-fault c =
    let are = ap pieces c.deref-2.ensures.value ∙ c.in_ok-pieces.ensures ∙ ap (map (as_token c.args.text.now)) c.deref.ensures.value in
    fault_answered c.args.text.now (pieces c.deref-2.result.now) (record { utf8 = c.requires.utf8; lexed = c.in-Ok.tokens.items; spelled = c.in-Ok.ensures.spelled; are = are }) c.in-Err-parse_tokens.stop c.fault_of.result c.in-Err-parse_tokens.ensures.same c.fault_of.ensures

pub returns-in-Ok-parse_tokens-clause-parameters : goal.returns-in-Ok-parse_tokens-clause-parameters
returns-in-Ok-parse_tokens-clause-parameters c = each_has_parameters c.in-Ok-parse_tokens.program.funs.items c.in-Ok-parse_tokens.ensures.some
