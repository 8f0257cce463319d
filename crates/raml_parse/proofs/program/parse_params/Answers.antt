use Rattle.std.proofs.Common.{◌≡◌, ◌≤◌, ◌<◌, ◌-◌, ◌∙◌, ap, sym, arith, [], ◌∷◌}
use Rattle.std.specs.Prelude.{vec_len}
use Rattle.parse_spec.specs.Reading.{read, rule_of, items_of}
use Rattle.parse_spec.proofs.Steps.{items_fail, items_more}
use Rattle.raml_syntax.specs.Read.{parameter_of}
use Rattle.parse_table.specs.Table.{grammar, param_rule, key, Header}
use Rattle.parse_table.specs.Read.{pieces, headers, headers_back}
use Rattle.parse_table.specs.declared.token.Sign.TheVariants.{Comma}
use Rattle.parse_table.proofs.Chains.{fails_as, refused}
use Rattle.parse_table.proofs.Parts.{headers_push}
use Rattle.raml_parse.proofs.program.parse_params.Goals as goal

pub loop-next-preserved : goal.loop-next-preserved
loop-next-preserved c =
    let item = rule_of grammar (read grammar 0 c.args.depth) 0 c.args.depth param_rule [] in
    let old = c.loop-next.params in
    let new = c.push-in-Some.new.self in
    let inv = c.loop-next.invariant in
    let more = c.in_ok-push-2.ensures.len in
    let seven = c.if-len-eq-MAX_PARAMS.false in
    let few : vec_len old < 8 = omega (arith, inv.2, seven, c.len.ensures) in
    let one : 8 - vec_len old - 1 ≡ 8 - vec_len new = omega (arith, more) in
    let high : c.max-height.result ≤ c.args.depth = omega (arith, c.max-height.ensures, inv.1, c.in_ok-param.ensures.low) in
    let room : vec_len new ≤ 8 = omega (arith, more, few) in
    let some : 0 < vec_len new = omega (arith, more) in
    let step = items_more item (key Comma) (8 - vec_len old) (headers_back old.items) [] c.loop-next.height (pieces c.loop-next.rest.now) (Header (parameter_of c.in_ok-param.param)) c.in_ok-param.part (pieces c.in_ok-param.after.now)
    (λ q. omega (arith, q, few)) c.in-Some.ensures.0 (ap item c.in-Some.ensures.1 ∙ c.in_ok-param.ensures.same) in
    let is : items_of item (key Comma) (8 - vec_len old - 1) (Header (parameter_of c.in_ok-param.param) ∷ headers_back old.items) _ _ ≡ items_of item (key Comma) (8 - vec_len new) (headers_back new.items) c.max-height.result _ =
    λ i. items_of item (key Comma) (one i) (sym (ap headers_back c.in_ok-push-2.ensures.items ∙ headers_push old.items c.in_ok-param.param) i) (sym c.max-height.ensures i) (pieces c.in_ok-param.after.now) in
    (inv.0 ∙ step ∙ is, high, room, some)

pub returns-in_err-param-clause-same : goal.returns-in_err-param-clause-same
returns-in_err-param-clause-same c =
    let item = rule_of grammar (read grammar 0 c.args.depth) 0 c.args.depth param_rule [] in
    let e = c.from_residual-in_err-param.ensures in
    let few : vec_len c.loop-next.params < 8 = omega (arith, c.loop-next.invariant.2, c.if-len-eq-MAX_PARAMS.false, c.len.ensures) in
    refused headers c.from_residual-in_err-param.result _ c.in_err-param.field-0.0 e.0 e.1
    (fails_as c.in_err-param.field-0.0 (item (pieces c.in-Some.next.now)) _
    (λ y q. c.loop-next.invariant.0 ∙ items_fail item (key Comma) (8 - vec_len c.loop-next.params) (headers_back c.loop-next.params.items) [] c.loop-next.height (pieces c.loop-next.rest.now) y (λ z. omega (arith, z, few)) c.in-Some.ensures.0 (ap item c.in-Some.ensures.1 ∙ q))
    c.in_err-param.ensures.same)
