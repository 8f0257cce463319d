use Rattle.std.proofs.Common.{rules, ◌≡◌, ◌≢◌, refl, inl, inr, arith, [], ◌∷◌, codes, decimal}
use Rattle.std.proofs.lemmas.Grind.{common_steps}
use Rattle.std.proofs.lemmas.Result.{on_ok_weaker}
use Rattle.json.specs.Json.{object, member, no_members}
use Rattle.explain_sizes.specs.Counts.{whole_at}
use Rattle.explain_sizes.specs.Read.{all_sizes}
use Rattle.explain_at.specs.Asked.{all_names}
use Rattle.explain_at.specs.Read.{all_given, parameters}
use Rattle.explain_bounds.specs.Objects.{named, sizes_members, value_json, within_json}
use Rattle.explain_bounds.proofs.behind.write_behind.Goals as goal

pub returns-in-Nothing-clause-written : goal.returns-in-Nothing-clause-written
returns-in-Nothing-clause-written c =
    on_ok_weaker c.end_object.result (λ last. (no_members, rw c.in-Nothing.is refl, last)) c.end_object.ensures.ok

pub returns-in_ok-write_value-in-At-clause-written : goal.returns-in_ok-write_value-in-At-clause-written
returns-in_ok-write_value-in-At-clause-written c =
    let given = c.in_ok-write_given-in-At.ensures.written in
    let value = c.in_ok-write_value-in-At.ensures.written in
    let at = object (sizes_members (all_given c.in-At.given.now)) in
    let worth = value_json (whole_at c.args.poly.now (all_sizes c.in-At.sizes.items)) in
    on_ok_weaker c.end_object-in-At.result
    (λ last. (member (codes "at") at (member (codes "value") worth no_members), rw c.in-At.is refl, grind (arith, common_steps, given, value, last)))
    c.end_object-in-At.ensures.ok

pub returns-in_ok-write_within-in-Within-clause-written : goal.returns-in_ok-write_within-in-Within-clause-written
returns-in_ok-write_within-in-Within-clause-written c =
    let most = c.in_ok-write_most-in-Within.ensures.written in
    let sizes = c.in_ok-write_within-in-Within.ensures.written in
    let same : c.args.meter ≡ c.in-Within.one = search rules in
    let within = within_json (all_given c.in-Within.given.now) (all_names (parameters c.args.params.now)) c.in_ok-within-in-Within.within in
    on_ok_weaker c.end_object-then-eq.result
    (λ last. (
      named (codes "within") (decimal c.in-Within.most) (member (codes "sizes") within no_members),
      rw c.in-Within.is (inr (same, c.in_ok-within-in-Within.within, search rules, refl)),
      grind (arith, common_steps, most, sizes, last),
    ))
    c.end_object-then-eq.ensures.ok

pub returns-else-eq-clause-written : goal.returns-else-eq-clause-written
returns-else-eq-clause-written c =
    let other : c.args.meter ≢ c.in-Within.one = search rules in
    on_ok_weaker c.end_object-else-eq.result (λ last. (no_members, rw c.in-Within.is (inl (other, refl)), last)) c.end_object-else-eq.ensures.ok
