use Rattle.std.proofs.Common.{rules, ◌≡◌, ℕ, ◌∙◌, List, map, unsigned_abs, FitsSigned, to_z, of_z, sym, ap, subst, arith}
use Rattle.std.specs.Int.{w128}
use Rattle.std.proofs.lemmas.Int.{ints, to_z-of_z}
use Rattle.share_normal.specs.Program.{Kept}
use Rattle.cost_free.specs.Task.{Task}
use Rattle.annot_types.specs.Certificate.{Block}
use Rattle.rules_spec.specs.Systems.{IsTask}
use Rattle.rules_spec.specs.Told.{bodies_of}
use Rattle.rules_walk.specs.Remembers.{Remembers}
use Rattle.rules_plan.specs.Read.{program_in, body_of}
use Rattle.constraint_gen.specs.Cause.{IsWithin, IsMade, IsCause}
use Rattle.bound_contract.specs.Sites.{program_at, certificate_at, before_at, task_at, scale_at}
use Rattle.bound_contract.proofs.Limits.{is_within}
use Rattle.bound_contract.proofs.Rowing.{MadeAt, fit_made, none_large, row_first}
use Rattle.bound_contract.proofs.Sited.{site_task}
use Rattle.bound_contract.proofs.extended.own_rows.Goals as goal

pub rows_by-requires-clause-indices : goal.rows_by-requires-clause-indices
rows_by-requires-clause-indices c =
    let site = c.args.site.now in
    subst (λ (x : Kept × ℕ × Task). IsWithin (program_in x.0) x.1 x.2)
    (λ i. (sym c.program-program.ensures i, (sym c.certificate-certificate.ensures.certificate i).degree, sym c.task-task.ensures i))
    (is_within c.limits_are_told.ensures (program_at site) (certificate_at site).degree (before_at site) (task_at site) (scale_at site) c.requires.site.within)

pub rows_by-requires-clause-natural : goal.rows_by-requires-clause-natural
rows_by-requires-clause-natural c =
    let fits : FitsSigned w128 c.scale-scale.result = search rules in
    let positive = c.scale-scale.ensures.positive in
    rw (to_z-of_z w128 c.scale-scale.result fits) (omega (arith, ints, positive))

pub returns-in-Ok-clause-made : goal.returns-in-Ok-clause-made
returns-in-Ok-clause-made c =
    let site = c.args.site.now in
    let fits : FitsSigned w128 c.scale-scale.result = search rules in
    let scale : unsigned_abs (to_z w128 (of_z w128 c.scale-scale.result)) ≡ scale_at site = ap unsigned_abs (to_z-of_z w128 c.scale-scale.result fits ∙ c.scale-scale.ensures.is) in
    let m : MadeAt site c.in-Ok.made =
    subst (λ (x : Kept × ℕ × Task × ℕ). (blocks : List Block) → Remembers (program_in x.0) x.1 blocks c.args.earlier.now →
    map body_of c.args.bodies.now ≡ bodies_of (program_in x.0) x.1 blocks x.2 → IsTask (program_in x.0) x.1 blocks x.2 x.3 → IsMade (program_in x.0) x.1 blocks x.2 x.3 c.in-Ok.made)
    (λ i. (c.program-program.ensures i, (c.certificate-certificate.ensures.certificate i).degree, c.task-task.ensures i, scale i)) c.in-Ok.ensures.made
    (before_at site) c.requires.before c.requires.bodies (site_task site c.requires.site c.tried_have_tasks.ensures) in
    m.is

pub returns-in-Ok-clause-few : goal.returns-in-Ok-clause-few
returns-in-Ok-clause-few c =
    let site = c.args.site.now in
    let fits : FitsSigned w128 c.scale-scale.result = search rules in
    let scale : unsigned_abs (to_z w128 (of_z w128 c.scale-scale.result)) ≡ scale_at site = ap unsigned_abs (to_z-of_z w128 c.scale-scale.result fits ∙ c.scale-scale.ensures.is) in
    let m : MadeAt site c.in-Ok.made =
    subst (λ (x : Kept × ℕ × Task × ℕ). (blocks : List Block) → Remembers (program_in x.0) x.1 blocks c.args.earlier.now →
    map body_of c.args.bodies.now ≡ bodies_of (program_in x.0) x.1 blocks x.2 → IsTask (program_in x.0) x.1 blocks x.2 x.3 → IsMade (program_in x.0) x.1 blocks x.2 x.3 c.in-Ok.made)
    (λ i. (c.program-program.ensures i, (c.certificate-certificate.ensures.certificate i).degree, c.task-task.ensures i, scale i)) c.in-Ok.ensures.made
    (before_at site) c.requires.before c.requires.bodies (site_task site c.requires.site c.tried_have_tasks.ensures) in
    m.unknowns

pub returns-in-Ok-clause-fit : goal.returns-in-Ok-clause-fit
returns-in-Ok-clause-fit c =
    let site = c.args.site.now in
    let fits : FitsSigned w128 c.scale-scale.result = search rules in
    let scale : unsigned_abs (to_z w128 (of_z w128 c.scale-scale.result)) ≡ scale_at site = ap unsigned_abs (to_z-of_z w128 c.scale-scale.result fits ∙ c.scale-scale.ensures.is) in
    let m : MadeAt site c.in-Ok.made =
    subst (λ (x : Kept × ℕ × Task × ℕ). (blocks : List Block) → Remembers (program_in x.0) x.1 blocks c.args.earlier.now →
    map body_of c.args.bodies.now ≡ bodies_of (program_in x.0) x.1 blocks x.2 → IsTask (program_in x.0) x.1 blocks x.2 x.3 → IsMade (program_in x.0) x.1 blocks x.2 x.3 c.in-Ok.made)
    (λ i. (c.program-program.ensures i, (c.certificate-certificate.ensures.certificate i).degree, c.task-task.ensures i, scale i)) c.in-Ok.ensures.made
    (before_at site) c.requires.before c.requires.bodies (site_task site c.requires.site c.tried_have_tasks.ensures) in
    fit_made site c.in-Ok.made m

pub unreachable-requires : goal.unreachable-requires
unreachable-requires c =
    let site = c.args.site.now in
    let fits : FitsSigned w128 c.scale-scale.result = search rules in
    let scale : unsigned_abs (to_z w128 (of_z w128 c.scale-scale.result)) ≡ scale_at site = ap unsigned_abs (to_z-of_z w128 c.scale-scale.result fits ∙ c.scale-scale.ensures.is) in
    none_large site c.requires.site c.limits_are_told.ensures _
    (subst (IsCause (program_at site) (certificate_at site).degree (before_at site) (task_at site) (scale_at site)) c.in-Err-TooLarge.field-0-is
    (subst (λ (x : Kept × ℕ × Task × ℕ). (blocks : List Block) → Remembers (program_in x.0) x.1 blocks c.args.earlier.now →
    map body_of c.args.bodies.now ≡ bodies_of (program_in x.0) x.1 blocks x.2 → IsTask (program_in x.0) x.1 blocks x.2 x.3 → IsCause (program_in x.0) x.1 blocks x.2 x.3 c.in-Err-TooLarge.field-0)
    (λ i. (c.program-program.ensures i, (c.certificate-certificate.ensures.certificate i).degree, c.task-task.ensures i, scale i)) c.in-Err-TooLarge.ensures.fault
    (before_at site) c.requires.before c.requires.bodies (site_task site c.requires.site c.tried_have_tasks.ensures)))

pub returns-in-Err-Leaves-clause-first : goal.returns-in-Err-Leaves-clause-first
returns-in-Err-Leaves-clause-first c =
    let site = c.args.site.now in
    let fits : FitsSigned w128 c.scale-scale.result = search rules in
    let scale : unsigned_abs (to_z w128 (of_z w128 c.scale-scale.result)) ≡ scale_at site = ap unsigned_abs (to_z-of_z w128 c.scale-scale.result fits ∙ c.scale-scale.ensures.is) in
    row_first site c.requires.site c.tried_have_tasks.ensures c.seen_is_first.ensures c.in-Err-Leaves.row
    (subst (IsCause (program_at site) (certificate_at site).degree (before_at site) (task_at site) (scale_at site)) c.in-Err-Leaves.field-0-is
    (subst (λ (x : Kept × ℕ × Task × ℕ). (blocks : List Block) → Remembers (program_in x.0) x.1 blocks c.args.earlier.now →
    map body_of c.args.bodies.now ≡ bodies_of (program_in x.0) x.1 blocks x.2 → IsTask (program_in x.0) x.1 blocks x.2 x.3 → IsCause (program_in x.0) x.1 blocks x.2 x.3 c.in-Err-Leaves.field-0)
    (λ i. (c.program-program.ensures i, (c.certificate-certificate.ensures.certificate i).degree, c.task-task.ensures i, scale i)) c.in-Err-Leaves.ensures.fault
    (before_at site) c.requires.before c.requires.bodies (site_task site c.requires.site c.tried_have_tasks.ensures)))
