use Rattle.std.proofs.Common.{rules, ◌≡◌, ◌≤◌, ◌+◌, ap, sym, ◌∙◌, subst, Err, unsigned_abs, FitsSigned, to_z, of_z}
use Rattle.std.specs.Int.{w128}
use Rattle.std.proofs.lemmas.Int.{to_z-of_z}
use Rattle.linear_rows.specs.Systems.{LinearSystem}
use Rattle.bound_contract.specs.Sites.{scale_at}
use Rattle.bound_contract.proofs.Lined.{line_made, line_fine, right_first}
use Rattle.bound_contract.proofs.extended.with_line.Goals as goal

pub add_rows-requires-clause-unknowns : goal.add_rows-requires-clause-unknowns
add_rows-requires-clause-unknowns c = subst (λ (s : LinearSystem). c.args.first + c.args.count ≤ s.unknowns) (sym c.requires.system) c.requires.unknowns

pub returns-in-Ok-clause-made : goal.returns-in-Ok-clause-made
returns-in-Ok-clause-made c =
    let site = c.args.site.now in
    let f : FitsSigned w128 c.scale.result = search rules in
    let scaled : unsigned_abs (to_z w128 (of_z w128 c.scale.result)) ≡ scale_at site = ap unsigned_abs (to_z-of_z w128 c.scale.result f ∙ c.scale.ensures.is) in
    line_made site c.args.count _ c.requires.count scaled c.args.system c.add_rows.new.system c.args.first c.requires.system c.requires.first c.in-Ok.ensures.added

pub returns-in-Ok-clause-fine : goal.returns-in-Ok-clause-fine
returns-in-Ok-clause-fine c =
    let site = c.args.site.now in
    let f : FitsSigned w128 c.scale.result = search rules in
    let scaled : unsigned_abs (to_z w128 (of_z w128 c.scale.result)) ≡ scale_at site = ap unsigned_abs (to_z-of_z w128 c.scale.result f ∙ c.scale.ensures.is) in
    line_fine site c.args.count _ c.requires.count scaled c.requires.fit c.requires.few c.in-Ok.ensures.fit

pub returns-in-Err-Right-clause-first : goal.returns-in-Err-Right-clause-first
returns-in-Err-Right-clause-first c =
    let site = c.args.site.now in
    let f : FitsSigned w128 c.scale.result = search rules in
    let scaled : unsigned_abs (to_z w128 (of_z w128 c.scale.result)) ≡ scale_at site = ap unsigned_abs (to_z-of_z w128 c.scale.result f ∙ c.scale.ensures.is) in
    rw c.in-Err-Right.field-0-is
    (right_first site c.args.count _ c.requires.count scaled c.requires.site c.tried_have_tasks.ensures c.seen_is_first.ensures c.requires.fit c.requires.few
    c.in-Err-Right.position (c.in-Err-Right.ensures.leaves c.in-Err-Right.position (ap Err c.in-Err-Right.field-0-is)))
