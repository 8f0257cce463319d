use Rattle.std.proofs.Common.{refl, arith, [], ◌∷◌, ◌++◌, codes, decimal}
use Rattle.std.proofs.lemmas.Grind.{common_steps}
use Rattle.std.proofs.lemmas.Result.{on_ok_weaker}
use Rattle.json.specs.Json.{null, member, no_members}
use Rattle.json.specs.Token as token
use Rattle.raml_syntax.specs.Read.{program_of}
use Rattle.base_poly.specs.Poly.{den_of, terms_of}
use Rattle.report_text.specs.Names.{name_at}
use Rattle.explain_json.specs.Terms.{terms_json}
use Rattle.explain_json.proofs.Appended.{more}
use Rattle.explain_bounds.specs.Objects.{named, counted, unbounded}
use Rattle.explain_bounds.proofs.object.write_finding.Goals as goal

pub returns-in_ok-write_bound-in-Bound-clause-written : goal.returns-in_ok-write_bound-in-Bound-clause-written
returns-in_ok-write_bound-in-Bound-clause-written c =
    let degree = c.in_ok-write_degree-in-Bound.ensures.written in
    let bound = c.in_ok-write_bound-in-Bound.ensures.written in
    let poly = c.in-Bound.poly in
    let terms = terms_json (den_of poly) (terms_of poly) in
    on_ok_weaker c.write_behind.result
    (λ last. (
      counted (codes "degree") c.in-Bound.degree (member (codes "bound") terms last.0),
      rw c.in-Bound.is (last.0, rw c.deref.ensures.value at last.1, refl),
      (let tokens = last.2 in grind (arith, common_steps, degree, bound, tokens)),
    ))
    c.write_behind.ensures.written

pub returns-in_ok-write_null-in-NoBound-clause-written : goal.returns-in_ok-write_null-in-NoBound-clause-written
returns-in_ok-write_null-in-NoBound-clause-written c =
    let degree = c.in_ok-write_degree-in-NoBound.ensures.written in
    let bound = c.in_ok-write_null-in-NoBound.ensures.written in
    on_ok_weaker c.end_object.result
    (λ last. (unbounded c.in-NoBound.degree no_members, rw c.in-NoBound.is refl, grind (arith, common_steps, degree, bound, last)))
    c.end_object.ensures.ok

pub returns-in_ok-write_text-in-Calls-clause-written : goal.returns-in_ok-write_text-in-Calls-clause-written
returns-in_ok-write_text-in-Calls-clause-written c =
    let degree = c.in_ok-write_degree-in-Calls.ensures.written in
    let bound = c.in_ok-write_null-in-Calls.ensures.written in
    let calls = rw c.name_at.ensures at c.in_ok-write_text-in-Calls.ensures.written in
    let name = name_at (program_of c.args.program.now) c.in-Calls.callee.0 in
    let t0 = c.args.writer.now.tokens in
    let t1 = c.write_degree-in-Calls.new.writer.tokens in
    let t2 = c.write_null-in-Calls.new.writer.tokens in
    let t3 = c.write_text.new.writer.tokens in
    let t4 = c.end_object-in-Calls.new.self.tokens in
    let a = token.key (codes "degree") ∷ token.number (decimal c.in-Calls.degree) ∷ [] in
    let b = token.key (codes "bound") ∷ token.null ∷ [] in
    let d = token.key (codes "calls") ∷ token.string name ∷ [] in
    let e = token.end_object ∷ [] in
    on_ok_weaker c.end_object-in-Calls.result
    (λ last. (
      unbounded c.in-Calls.degree (named (codes "calls") name no_members),
      rw c.in-Calls.is refl,
      more t0 t1 t4 a (b ++ (d ++ e)) degree (more t1 t2 t4 b (d ++ e) bound (more t2 t3 t4 d e calls last)),
    ))
    c.end_object-in-Calls.ensures.ok

pub returns-in_ok-write_null-in-Refused-2-clause-written : goal.returns-in_ok-write_null-in-Refused-2-clause-written
returns-in_ok-write_null-in-Refused-2-clause-written c =
    let degree = c.in_ok-write_null-in-Refused.ensures.written in
    let bound = c.in_ok-write_null-in-Refused-2.ensures.written in
    on_ok_weaker c.end_object-in-Refused.result
    (λ last. (
      member (codes "degree") null (member (codes "bound") null no_members),
      rw c.in-Refused.is refl,
      grind (arith, common_steps, degree, bound, last),
    ))
    c.end_object-in-Refused.ensures.ok
