use Rattle.std.proofs.Common.{◌*◌, ap, sym, ◌∙◌, subst}
use Rattle.std.specs.Prelude.{unsigned_abs}
use Rattle.std.specs.Int.{w128}
use Rattle.std.proofs.lemmas.Int.{to_z-of_z}
use Rattle.cost_free.specs.Task.{Task}
use Rattle.annot_types.specs.Certificate.{Block}
use Rattle.annot_types.specs.Held.{scale_for}
use Rattle.annot_types.specs.Read.{block_of}
use Rattle.cert_check.specs.Read.{fault_of, OfFault}
use Rattle.other_blocks.specs.Other.{IsOwn, OtherFinds}
use Rattle.bound_contract.specs.Sites.{program_at, certificate_at}
use Rattle.bound_contract.proofs.Telling.{own_here, leaves_alone, check_first, check_clear, kept_here}
use Rattle.bound_contract.proofs.keeping.checked_block.Goals as goal

pub other_by-requires-clause-own : goal.other_by-requires-clause-own
other_by-requires-clause-own c =
    let site = c.args.site.now in
    subst (λ (u : Task). IsOwn (certificate_at site) u site.place) (sym (ap (λ (b : Block). b.task) c.requires.told.told_by.is)) (own_here site c.requires.site)

pub unreachable-requires : goal.unreachable-requires
unreachable-requires c =
    let site = c.args.site.now in
    let t = unsigned_abs c.args.times in
    let found = simp (to_z-of_z w128 _ c.ranges.times) at c.in-Err-Shape.ensures.fault in
    leaves_alone site c.requires.site t c.requires.rises c.rises_fit.ensures c.limits_are_told.ensures c.read_leaves_alone.ensures (block_of c.args.block) c.requires.told _
    (subst (λ f. OfFault (fault_of f) (OtherFinds (program_at site) (certificate_at site) t (block_of c.args.block))) c.in-Err-Shape.field-0-is found)

pub unreachable-requires-in-Err-Fails : goal.unreachable-requires-in-Err-Fails
unreachable-requires-in-Err-Fails c =
    let site = c.args.site.now in
    let t = unsigned_abs c.args.times in
    let found = simp (to_z-of_z w128 _ c.ranges.times) at c.in-Err-Fails.ensures.fault in
    leaves_alone site c.requires.site t c.requires.rises c.rises_fit.ensures c.limits_are_told.ensures c.read_leaves_alone.ensures (block_of c.args.block) c.requires.told _
    (subst (λ f. OfFault (fault_of f) (OtherFinds (program_at site) (certificate_at site) t (block_of c.args.block))) c.in-Err-Fails.field-0-is found)

pub returns-in-Ok-clause-kept : goal.returns-in-Ok-clause-kept
returns-in-Ok-clause-kept c =
    let site = c.args.site.now in
    let kind = ap (λ (b : Block). b.task.kind) c.requires.told.told_by.is in
    kept_here site c.requires.site c.readings_decide.ensures (unsigned_abs c.args.times) (block_of c.args.block) c.requires.told c.in-Ok.other
    ((simp (to_z-of_z w128 _ c.ranges.times) at c.in-Ok.ensures.kept)
    ∙ (λ i. record { program = site.checked.now.program; degree = (certificate_at site).degree; scale = scale_for (certificate_at site) (kind i) * unsigned_abs c.args.times; block = block_of c.args.block }))

pub returns-in-Ok-clause-clear : goal.returns-in-Ok-clause-clear
returns-in-Ok-clause-clear c = λ pick x by.
    let site = c.args.site.now in
    check_clear site c.requires.site (unsigned_abs c.args.times) c.requires.rises c.rises_fit.ensures c.limits_are_told.ensures c.read_leaves_alone.ensures c.tried_have_tasks.ensures
    c.requires.fine (block_of c.args.block) c.requires.told pick x by c.fine_is_clear.ensures (simp (to_z-of_z w128 _ c.ranges.times) at c.in-Ok.ensures.fits)

pub returns-in-Ok-clause-once : goal.returns-in-Ok-clause-once
returns-in-Ok-clause-once c = simp (to_z-of_z w128 _ c.ranges.times) at c.other_by.ensures.once

pub returns-in-Err-Leaves-clause-first : goal.returns-in-Err-Leaves-clause-first
returns-in-Err-Leaves-clause-first c = λ pick x by.
    let site = c.args.site.now in
    let t = unsigned_abs c.args.times in
    let found = simp (to_z-of_z w128 _ c.ranges.times) at c.in-Err-Leaves.ensures.fault in
    check_first site c.requires.site t c.requires.rises c.rises_fit.ensures c.limits_are_told.ensures c.read_leaves_alone.ensures c.tried_have_tasks.ensures
    c.requires.fine (block_of c.args.block) c.requires.told pick x by c.seen_is_first.ensures _ c.in-Err-Leaves.path.items c.in-Err-Leaves.index
    (subst (λ f. OfFault (fault_of f) (OtherFinds (program_at site) (certificate_at site) t (block_of c.args.block))) c.in-Err-Leaves.field-0-is found)
