use Rattle.std.proofs.Common.{◌≡◌, ◌≤◌, ◌<◌, ◌-◌, ◌∙◌, ap, sym, subst, arith, [], ◌∷◌, ◌++◌}
use Rattle.std.specs.Prelude.{vec_len}
use Rattle.parse_spec.specs.Reading.{◌>>=◌, read, rule_of, items_of}
use Rattle.parse_spec.proofs.Steps.{items_fail, items_more}
use Rattle.parse_table.specs.Table.{grammar, function_rule, place, At}
use Rattle.parse_table.specs.Read.{StartsAt, HaveParameters, pieces, headed, functions, functions_back}
use Rattle.parse_table.specs.declared.token.Sign.TheVariants.{Fun}
use Rattle.parse_table.proofs.Chains.{fails_as, refused}
use Rattle.parse_table.proofs.Parts.{functions_push, starts_push, parameters_push}
use Rattle.raml_parse.proofs.program.parse_functions.Goals as goal

pub loop-next_at-preserved : goal.loop-next_at-preserved
loop-next_at-preserved c =
    let item = rule_of grammar (read grammar 0 c.args.depth) 0 c.args.depth function_rule [] in
    let old = c.loop-next_at.funs in
    let new = c.push-in-Some.new.self in
    let inv = c.loop-next_at.invariant in
    let more = c.in_ok-push-2.ensures.len in
    let full = c.if-len-eq-MAX_FUNCTIONS.false in
    let few : vec_len old < 256 = omega (arith, inv.2, full, c.len.ensures) in
    let one : 256 - vec_len old - 1 ≡ 256 - vec_len new = omega (arith, more) in
    let high : c.max-height.result ≤ c.args.depth = omega (arith, c.max-height.ensures, inv.1, c.in_ok-function.ensures.low) in
    let room : vec_len new ≤ 256 = omega (arith, more, few) in
    let some : 0 < vec_len new = omega (arith, more) in
    let g = c.in_ok-function.function in
    let step = items_more item (place Fun) (256 - vec_len old) (functions_back old.items) (At c.in-Some.next_at.0 ∷ []) c.loop-next_at.height (pieces c.loop-next_at.rest.now) (headed g) c.in_ok-function.part (pieces c.in_ok-function.after.now)
    (λ q. omega (arith, q, few)) c.in-Some.ensures.0 (ap item c.in-Some.ensures.1 ∙ c.in_ok-function.ensures.same) in
    let back : headed g ∷ At c.in-Some.next_at.0 ∷ functions_back old.items ≡ functions_back new.items =
    ap (λ p. headed g ∷ At p.0 ∷ functions_back old.items) (sym c.in_ok-function.ensures.place) ∙ sym (ap functions_back c.in_ok-push-2.ensures.items ∙ functions_push old.items c.args.at.0 g inv.4) in
    let is : items_of item (place Fun) (256 - vec_len old - 1) (headed g ∷ At c.in-Some.next_at.0 ∷ functions_back old.items) _ _ ≡ items_of item (place Fun) (256 - vec_len new) (functions_back new.items) c.max-height.result _ =
    λ i. items_of item (place Fun) (one i) (back i) (sym c.max-height.ensures i) (pieces c.in_ok-function.after.now) in (
      inv.0 ∙ step ∙ is,
      high,
      room,
      some,
      subst (StartsAt c.args.at.0) (sym c.in_ok-push-2.ensures.items) (starts_push old.items c.args.at.0 g inv.4),
      subst HaveParameters (sym c.in_ok-push-2.ensures.items) (parameters_push old.items g inv.5 c.in_ok-function.ensures.some),
    )

pub loop-next_at-init : goal.loop-next_at-init
loop-next_at-init c =
    let item = rule_of grammar (read grammar 0 c.args.depth) 0 c.args.depth function_rule [] in
    let first = c.in_ok-first.first in
    let new = c.push.new.self in
    let only : new.items ≡ first ∷ [] = c.in_ok-push.ensures.items ∙ ap (λ fs. fs ++ first ∷ []) c.new-funs.ensures.items in
    let one : vec_len new ≡ 1 = omega (arith, c.in_ok-push.ensures.len, c.new-funs.ensures.len) in
    let more : 255 ≡ 256 - vec_len new = omega (arith, one) in
    let room : vec_len new ≤ 256 = omega (arith, one) in
    let some : 0 < vec_len new = omega (arith, one) in (
      ap (λ o. o >>= (λ x. items_of item (place Fun) 255 (x.0 ∷ []) x.1 x.2)) c.in_ok-first.ensures.same
          ∙ (λ i. items_of item (place Fun) (more i) (sym (ap functions_back only) i) c.in_ok-first.height (pieces c.in_ok-first.rest.now)),
      c.in_ok-first.ensures.low,
      room,
      some,
      subst (StartsAt c.args.at.0) (sym only) (ap (λ p. p.0) c.in_ok-first.ensures.place),
      subst HaveParameters (sym only) (c.in_ok-first.ensures.some, tt),
    )

pub returns-in_err-function-clause-same : goal.returns-in_err-function-clause-same
returns-in_err-function-clause-same c =
    let item = rule_of grammar (read grammar 0 c.args.depth) 0 c.args.depth function_rule [] in
    let e = c.from_residual-in_err-function.ensures in
    let few : vec_len c.loop-next_at.funs < 256 = omega (arith, c.loop-next_at.invariant.2, c.if-len-eq-MAX_FUNCTIONS.false, c.len.ensures) in
    refused functions c.from_residual-in_err-function.result _ c.in_err-function.field-0.0 e.0 e.1
    (fails_as c.in_err-function.field-0.0 (item (pieces c.in-Some.next.now)) _
    (λ y q. c.loop-next_at.invariant.0 ∙ items_fail item (place Fun) (256 - vec_len c.loop-next_at.funs) (functions_back c.loop-next_at.funs.items) (At c.in-Some.next_at.0 ∷ []) c.loop-next_at.height (pieces c.loop-next_at.rest.now) y (λ z. omega (arith, z, few)) c.in-Some.ensures.0 (ap item c.in-Some.ensures.1 ∙ q))
    c.in_err-function.ensures.same)
