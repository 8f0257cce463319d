use Rattle.std.proofs.Common.{rules, ◌≡◌, ◌<◌, ◌*◌, ℕ, ℤ, pos, ◌*ℤ◌, ◌<ℤ◌, unsigned_abs, FitsSigned, Err, map, sym, ap, ◌∙◌, subst, arith}
use Rattle.std.specs.Int.{w128}
use Rattle.std.proofs.lemmas.Int.{ints, to_z-of_z}
use Rattle.std.proofs.lemmas.List.{with_items_is}
use Rattle.annot_types.specs.Holds.{raised}
use Rattle.annot_types.specs.Read.{blocks_of}
use Rattle.rules_walk.specs.Raised.{NonePasses}
use Rattle.rules_walk.specs.Remembers.{Remembers}
use Rattle.rules_plan.specs.Read.{program_in}
use Rattle.cost_free.specs.Task.{Kind}
use Rattle.simplex_integers.specs.Wholes.{most}
use Rattle.infer_spec.specs.Places.{RescaleLeaves}
use Rattle.infer_spec.specs.States.{raise as raise_state}
use Rattle.bound_infer.specs.Raised.{AllFit, EachFits}
use Rattle.bound_infer.specs.Keeping.{state_of}
use Rattle.bound_infer.proofs.Kept.{still_come, scales_raised, raised_count}
use Rattle.bound_infer.proofs.Ones.{state_one}
use Rattle.bound_infer.proofs.Passing.{none_passes}
use Rattle.bound_infer.proofs.Staying.{fits_at, each_raised}
use Rattle.bound_infer.proofs.solved.raise_meter.Goals as goal

positive : (t s : ℕ) (z : ℤ) → 0 < t → 0 < s → z ≡ pos t *ℤ pos s → pos 0 <ℤ z
positive t s z pt ps e = grind (arith, ints)

natural : (t s : ℕ) (z : ℤ) → z ≡ pos t *ℤ pos s → unsigned_abs z ≡ t * s
natural t s z e = ap unsigned_abs e ∙ same t s
  where
    same : (t s : ℕ) → unsigned_abs (pos t *ℤ pos s) ≡ t * s
    same t s = grind (arith, ints)

pub returns-then-is_one-clause-state : goal.returns-then-is_one-clause-state
returns-then-is_one-clause-state c =
    let one = c.is_one.ensures.0 c.if-is_one.true in
    let st = state_of c.args.run.now in
    sym ((λ i. raise_state (c.requires.kind i) (one i) st) ∙ state_one c.args.meter st)

pub returns-then-is_one-clause-fit : goal.returns-then-is_one-clause-fit
returns-then-is_one-clause-fit c = λ place leaves.
    let one = c.is_one.ensures.0 c.if-is_one.true in
    let st = state_of c.args.run.now in
    let l = subst (λ (x : Kind × ℕ). RescaleLeaves x.0 x.1 st place) (λ i. (c.requires.kind i, one i)) leaves in
    let scale : 1 * st.scales c.args.meter < most = omega (arith, c.value-scale.ensures.fits, c.of_meter.ensures) in
    l.leaves (record { numbers = fits_at st.blocks place l.block c.requires.keeps.fit l.there; scale = scale })

pub new-requires : goal.new-requires
new-requires c =
    let fits : FitsSigned w128 c.in-Ok.product = search rules in
    let scale : FitsSigned w128 c.value-scale.result = search rules in
    let e = simp (to_z-of_z w128 _ scale) at c.in-Ok.ensures.scale in
    rw (to_z-of_z w128 _ fits) (positive c.args.factor.now c.of_meter.result.now c.in-Ok.product c.value-value.ensures.positive c.value-scale.ensures.positive (e ∙ ap (λ z. pos c.args.factor.now *ℤ z) c.value-scale.ensures.value))

pub returns-in-Err-clause-fault : goal.returns-in-Err-clause-fault
returns-in-Err-clause-fault c =
    let scale : FitsSigned w128 c.value-scale.result = search rules in
    let st = state_of c.args.run.now in
    let t = c.args.factor.now in
    c.rescale.ensures t st (λ place e. subst (λ kind. RescaleLeaves kind t st place) (sym c.requires.kind)
    (c.raise.ensures.leaves place (c.in-Err.is ∙ ap Err e) st (sym (ap blocks_of c.deref_mut.ensures.value))
    (rw (to_z-of_z w128 _ scale) (ap pos (sym c.of_meter.ensures) ∙ sym c.value-scale.ensures.value))))

pub returns-in-Ok-clause-keeps : goal.returns-in-Ok-clause-keeps
returns-in-Ok-clause-keeps c =
    let kept = c.args.program.now in
    let P = program_in kept in
    let run = c.args.run.now in
    let meter = c.args.meter in
    let t = c.args.factor.now in
    let bs = blocks_of run.blocks.items in
    let seen : blocks_of c.deref_mut.result.now ≡ bs = ap blocks_of c.deref_mut.ensures.value in
    let e : blocks_of c.raise.new.blocks ≡ map (raised meter t) bs = c.in-Ok.ensures.raised ∙ ap (map (raised meter t)) seen in
    let count = raised_count meter t run.blocks.items c.raise.new.blocks e in
    let back = with_items_is run.blocks c.raise.new.blocks (omega (arith, count)) in
    let each = subst (AllFit meter t) seen c.in-Ok.ensures.each in
    let come = still_come kept c.args.d meter t bs _ run.schedule run.earlier c.raise-in-Ok.new.self (ap blocks_of back ∙ e) c.requires.keeps.come
    (subst (λ n. NonePasses P meter n bs → Remembers P c.args.d bs run.earlier → Remembers P c.args.d (map (raised meter n) bs) c.raise-in-Ok.new.self) c.size.ensures (c.raise-in-Ok.ensures.remembers P c.args.d bs)
    (none_passes P meter t bs each)) in
    record { come = come; fit = subst EachFits (sym (ap blocks_of back ∙ e)) (each_raised meter t bs each c.requires.keeps.fit) }

pub returns-in-Ok-clause-state : goal.returns-in-Ok-clause-state
returns-in-Ok-clause-state c =
    let run = c.args.run.now in
    let meter = c.args.meter in
    let t = c.args.factor.now in
    let fits : FitsSigned w128 c.in-Ok.product = search rules in
    let scale : FitsSigned w128 c.value-scale.result = search rules in
    let bs = blocks_of run.blocks.items in
    let e : blocks_of c.raise.new.blocks ≡ map (raised meter t) bs = c.in-Ok.ensures.raised ∙ ap (λ xs. map (raised meter t) (blocks_of xs)) c.deref_mut.ensures.value in
    let count = raised_count meter t run.blocks.items c.raise.new.blocks e in
    let back = with_items_is run.blocks c.raise.new.blocks (omega (arith, count)) in
    let product = (simp (to_z-of_z w128 _ scale) at c.in-Ok.ensures.scale) ∙ ap (λ z. pos t *ℤ z) c.value-scale.ensures.value in
    let made = (simp (to_z-of_z w128 _ fits) at c.new.ensures) ∙ natural t c.of_meter.result.now c.in-Ok.product product ∙ ap (λ n. t * n) c.of_meter.ensures in
    let scales = scales_raised meter t c.new.result run.scales c.set.new.self made c.set.ensures.ticks c.set.ensures.cells c.set.ensures.work in
    (λ i. record { blocks = (ap blocks_of back ∙ e) i; scales = scales i }) ∙ sym (ap (λ kind. raise_state kind t (state_of run)) c.requires.kind)
