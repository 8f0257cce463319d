use Rattle.std.proofs.Common.{◌≡◌, ◌≤◌, ◌<◌, ◌-◌, ◌+◌, ◌∙◌, ap, sym, arith, suc, [], ◌∷◌}
use Rattle.std.specs.Prelude.{vec_len, max}
use Rattle.parse_spec.specs.Rules.{Done}
use Rattle.parse_spec.specs.Reading.{read, rule_of, items_of}
use Rattle.parse_spec.proofs.Steps.{items_end, items_fail, items_more}
use Rattle.raml_syntax.specs.Read.{term_of}
use Rattle.parse_table.specs.Table.{grammar, Exprs, key, expr, inner_act, At, Phrase}
use Rattle.parse_table.specs.Forms.{start_rule, infix_level}
use Rattle.parse_table.specs.Read.{pieces, phrases, phrases_back}
use Rattle.parse_table.specs.declared.token.Sign.TheVariants.{Comma}
use Rattle.parse_table.proofs.Parts.{phrases_push}
use Rattle.parse_table.proofs.Chains.{reads_on, fails_as, refused}
use Rattle.parse_table.proofs.ExprSteps.{level_empty, level_begins, level_goes_on}
use Rattle.parse_exprs.proofs.PhraseSteps.{given, some_is, node_is, let_is, if_is, match_is}
use Rattle.parse_exprs.proofs.exprs.+expression.Goals as goal

pub parse_level-returns-in_default-clause-same : goal.parse_level-returns-in_default-clause-same
parse_level-returns-in_default-clause-same t c = level_empty c.args.depth c.args.level (pieces c.args.tokens.now) c.in_default.ensures

pub parse_level-returns-in-Some-at-clause-same : goal.parse_level-returns-in-Some-at-clause-same
parse_level-returns-in-Some-at-clause-same t c =
    rw (level_begins c.args.depth c.args.level (pieces c.args.tokens.now) (pieces c.in-Some-at.rest.now) (At c.in-Some.at.0 ∷ []) (start_rule c.in-Some-at.start) c.in-Some-at.ensures.0 c.in-Some.ensures c.in-Some-at.ensures.1)
    c.parse_form.ensures.same

pub parse_level-returns-clause-same : goal.parse_level-returns-clause-same
parse_level-returns-clause-same t c =
    rw (level_goes_on c.args.depth c.args.level (pieces c.args.tokens.now) c.in-Some.at.0 c.if-level-eq0.false c.in_default-at.ensures c.in-Some.ensures)
    c.parse_operators.ensures.same

pub parse_compound-returns-in-Node-clause-same : goal.parse_compound-returns-in-Node-clause-same
parse_compound-returns-in-Node-clause-same t c = rw c.in-Node.is (given c.parse_node.result (node_is c.args.depth c.args.at.0 (pieces c.args.tokens.now)) c.parse_node.ensures.same)

pub parse_compound-returns-in-Just-clause-same : goal.parse_compound-returns-in-Just-clause-same
parse_compound-returns-in-Just-clause-same t c = rw c.in-Just.is (given c.parse_some.result (some_is c.args.depth c.args.at.0 (pieces c.args.tokens.now)) c.parse_some.ensures.same)

pub parse_compound-returns-in-Let-clause-same : goal.parse_compound-returns-in-Let-clause-same
parse_compound-returns-in-Let-clause-same t c = rw c.in-Let.is (given c.parse_let.result (let_is c.args.depth c.args.at.0 (pieces c.args.tokens.now)) c.parse_let.ensures.same)

pub parse_compound-returns-in-If-clause-same : goal.parse_compound-returns-in-If-clause-same
parse_compound-returns-in-If-clause-same t c = rw c.in-If.is (given c.parse_if.result (if_is c.args.depth c.args.at.0 (pieces c.args.tokens.now)) c.parse_if.ensures.same)

pub parse_compound-returns-in-Match-clause-same : goal.parse_compound-returns-in-Match-clause-same
parse_compound-returns-in-Match-clause-same t c = rw c.in-Match.is (given c.parse_match.result (match_is c.args.depth c.args.at.0 (pieces c.args.tokens.now)) c.parse_match.ensures.same)

pub operators::parse_behind-returns-then-chains-clause-same : goal.operators::parse_behind-returns-then-chains-clause-same
operators::parse_behind-returns-then-chains-clause-same t c =
    let n = infix_level c.args.operator in
    let high : suc (max c.args.height c.in_ok-joined.right_height) ≡ 1 + c.max-height.result = omega (arith, c.max-height.ensures) in
    let e = reads_on Exprs c.args.depth n c.level.result (At c.args.at.0 ∷ []) c.args.height (1 + c.max-height.result) (grammar.chains Exprs n) _ (Phrase (term_of c.in_ok-joined.joined)) c.in_ok-joined.right_height (pieces c.in_ok-joined.rest.now) (sym c.chains.ensures ∙ c.if-chains.true) (sym c.level.ensures) high c.in_ok-joined.ensures.same in
    rw e c.parse_chain.ensures.same

pub calls::parse_args-returns-in_err-arg-clause-same : goal.calls::parse_args-returns-in_err-arg-clause-same
calls::parse_args-returns-in_err-arg-clause-same t c =
    let e = c.from_residual-in_err-arg.ensures in
    let item = rule_of grammar (read grammar 0 c.args.depth) 0 c.args.depth (expr (Done inner_act)) [] in
    let few : vec_len c.loop-next.args < 8 = omega (arith, c.loop-next.invariant.2, c.if-len-eq-MAX_ARGS.false, c.len.ensures) in
    refused phrases c.from_residual-in_err-arg.result _ c.in_err-arg.field-0.0 e.0 e.1
    (fails_as c.in_err-arg.field-0.0 (item (pieces c.in-Some.next.now)) _
    (λ y q. c.loop-next.invariant.0 ∙ items_fail item (key Comma) (8 - vec_len c.loop-next.args) (phrases_back c.loop-next.args.items) [] c.loop-next.height (pieces c.loop-next.rest.now) y (λ z. omega (arith, z, few)) c.in-Some.ensures.0 (ap item c.in-Some.ensures.1 ∙ q))
    c.in_err-arg.ensures.same)

pub calls::parse_args-loop-next-preserved : goal.calls::parse_args-loop-next-preserved
calls::parse_args-loop-next-preserved t c =
    let item = rule_of grammar (read grammar 0 c.args.depth) 0 c.args.depth (expr (Done inner_act)) [] in
    let old = c.loop-next.args in
    let new = c.push-in-Some.new.self in
    let inv = c.loop-next.invariant in
    let more = c.in_ok-push-2.ensures.len in
    let seven = c.if-len-eq-MAX_ARGS.false in
    let few : vec_len old < 8 = omega (arith, inv.2, seven, c.len.ensures) in
    let one : 8 - vec_len old - 1 ≡ 8 - vec_len new = omega (arith, more) in
    let high : c.max-height.result ≤ c.args.depth = omega (arith, c.max-height.ensures, inv.1, c.in_ok-arg.ensures.low) in
    let room : vec_len new ≤ 8 = omega (arith, more, few) in
    let some : 0 < vec_len new = omega (arith, more) in
    let step = items_more item (key Comma) (8 - vec_len old) (phrases_back old.items) [] c.loop-next.height (pieces c.loop-next.rest.now) (Phrase (term_of c.in_ok-arg.arg)) c.in_ok-arg.part (pieces c.in_ok-arg.after.now)
    (λ q. omega (arith, q, few)) c.in-Some.ensures.0 (ap item c.in-Some.ensures.1 ∙ c.in_ok-arg.ensures.same) in
    let is : items_of item (key Comma) (8 - vec_len old - 1) (Phrase (term_of c.in_ok-arg.arg) ∷ phrases_back old.items) _ _ ≡ items_of item (key Comma) (8 - vec_len new) (phrases_back new.items) c.max-height.result _ =
    λ i. items_of item (key Comma) (one i) (sym (ap phrases_back c.in_ok-push-2.ensures.items ∙ phrases_push old.items c.in_ok-arg.arg) i) (sym c.max-height.ensures i) (pieces c.in_ok-arg.after.now) in
    (inv.0 ∙ step ∙ is, high, room, some)

pub calls::parse_args-returns-clause-same : goal.calls::parse_args-returns-clause-same
calls::parse_args-returns-clause-same t c =
    let item = rule_of grammar (read grammar 0 c.args.depth) 0 c.args.depth (expr (Done inner_act)) [] in
    c.loop-next.invariant.0 ∙ items_end item (key Comma) (8 - vec_len c.loop-next.args) (phrases_back c.loop-next.args.items) c.loop-next.height (pieces c.loop-next.rest.now) c.in_default.ensures
