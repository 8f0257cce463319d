use Rattle.std.proofs.Common.{◌≡◌, ◌<◌, ◌≤◌, ◌+◌, ◌-◌, ◌++◌, All, nat_eq, not, sym, ap, ◌∙◌, subst, arith}
use Rattle.std.proofs.lemmas.Grind.{common_steps}
use Rattle.std.proofs.lemmas.List.Elements.{All-filter}
use Rattle.base_poly.specs.Plain.{degrees}
use Rattle.base_poly.specs.Indices.{ListsTuples, tuples_up_to, by_degree}
use Rattle.base_poly.specs.Read.{context_of}
use Rattle.base_poly.proofs.Exact.{exact}
use Rattle.base_poly.proofs.Graded.{as_many, low_tuples, degree_done, all_done}
use Rattle.base_poly.proofs.list.indices.Goals as goal

pub returns-in_err-found-clause-many : goal.returns-in_err-found-clause-many
returns-in_err-found-clause-many c = let same = as_many (context_of c.args.types.now) c.args.d in grind (arith, common_steps, same)

pub loop-degree-init : goal.loop-degree-init
loop-degree-init c =
    let d = c.ranges.d in
    let found = c.in_ok-found.ensures.all ∙ ap (tuples_up_to (context_of c.args.types.now)) c.from.ensures in
    let whole : 1 + c.args.d - 0 ≡ 1 + c.args.d = omega arith in
    record {
      done = λ n. c.in_ok-ordered.ensures.items n ++ by_degree (whole n) 0 (found n);
      low = low_tuples (context_of c.args.types.now) c.args.d c.in_ok-found.found.items found (omega arith);
    }

pub loop-degree-preserved : goal.loop-degree-preserved
loop-degree-preserved c =
    let end = c.from-degree-end.ensures in
    let before : 0 < 1 + c.args.d - c.loop-degree.degree = omega (arith, c.loop-degree-test.true, end) in
    let next : 1 + c.args.d - (c.loop-degree.degree + 1) ≡ 1 + c.args.d - c.loop-degree.degree - 1 = omega arith in
    record {
      done = degree_done _ _ _ _ _ (1 + c.args.d - c.loop-degree.degree) (1 + c.args.d - (c.loop-degree.degree + 1)) c.loop-degree.degree c.in_ok-found-2.ensures.moved c.in_ok-found-2.ensures.left before next c.loop-degree.invariant.done;
      low = subst (λ ts. All (λ t. degrees t ≤ 255) ts) (sym c.in_ok-found-2.ensures.left) (All-filter (λ t. not (nat_eq (degrees t) c.loop-degree.degree)) (λ t. degrees t ≤ 255) c.loop-degree.found.items c.loop-degree.invariant.low);
    }

pub returns-clause-exact : goal.returns-clause-exact
returns-clause-exact c =
    let end = c.from-degree-end.ensures in
    let none : 1 + c.args.d - c.loop-degree.degree ≡ 0 = omega (arith, c.loop-degree-test.false, end) in
    let all = all_done _ _ _ (1 + c.args.d - c.loop-degree.degree) c.loop-degree.degree none c.loop-degree.invariant.done in
    subst (ListsTuples (context_of c.args.types.now) c.args.d) (sym all) (exact (context_of c.args.types.now) c.args.d)

pub returns-clause-few : goal.returns-clause-few
returns-clause-few c = let same = as_many (context_of c.args.types.now) c.args.d in grind (arith, common_steps, same)
