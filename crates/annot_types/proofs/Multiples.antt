-- The laws of blocks that hold.
use Rattle.std.proofs.Common.{◌≡◌, ◌≤◌, ◌<◌, ℕ, ◌*◌, Bool, true, false, cond, List, [], ◌∷◌, map, position, Option, None, Some}
use Rattle.std.proofs.Common.{refl, arith, ap, sym, ◌∙◌, subst}
use Rattle.std.specs.Option.{option_map}
use Rattle.std.proofs.Math.Nat.{mul-le-mul, mul-le-mul_left}
use Rattle.raml_syntax.specs.Tree.{Type'}
use Rattle.base_poly.specs.Plain.{alike}
use Rattle.base_poly.specs.Indices.{index_list}
use Rattle.index_shift.specs.Potential.{Annotation}
use Rattle.normal_spec.specs.Context.{types}
use Rattle.cost_free.specs.declared.task.Meter.{Meter}
use Rattle.cost_free.specs.declared.task.Meter.TheVariants.{Ticks, Cells, Work}
use Rattle.cost_free.specs.Target.{Target}
use Rattle.cost_free.specs.Task as k
use Rattle.cost_free.specs.Task.{Task, Kind, Free, same_meter}
use Rattle.cost_free.specs.Blocked.{is_for_meter}
use Rattle.annot_types.specs.Program.{Program, members}
use Rattle.annot_types.specs.Certificate.{annotation, Sig, Hint, Body, Solved, Refuted, Calls, IsSolved, Block}
use Rattle.annot_types.specs.Rules.{Mode, With, Setting, Ann}
use Rattle.annot_types.specs.Holds.{times, times_sig, times_hint, times_block, raised, mode_of, blocks_before, setting}
use Rattle.annot_types.specs.Holds.{FunctionsHold, number_of, CoversTarget, ReachesTarget, Holds}
use Rattle.annot_types.specs.Held.{IfSolved, HoldsInPlace}
use Rattle.annot_types.specs.Laws.{MultiplesHold, RaisingKeeps, SolvedBlocksHold, raised_scale}
use Rattle.annot_types.proofs.Linear.{mul, annotation_mul, annotates_mul}
use Rattle.annot_types.proofs.Times.{SettingTimes, times_setting, times_hints, sig_among_times}
use Rattle.annot_types.proofs.Derived.{derived}
use Rattle.annot_types.proofs.Raised.{all_same, all_more_raised, all_raised_before, all_free_kept, all_other_kept, body_once, same_meters, on, off}

functions_times : (u : ℕ) (m : Mode) (S : Setting) (earlier : List Block) (scale : ℕ) → SettingTimes u m S earlier scale →
    (fs : List ℕ) (ss : List Sig) (hss : List (List Hint)) →
    FunctionsHold S m fs ss hss → FunctionsHold (times_setting u S earlier scale) m fs (map (times_sig u) ss) (map (map (times_hint u)) hss)
functions_times u m S earlier scale h [] [] [] f = tt
functions_times u m S earlier scale h [] [] (hs ∷ hss) f = absurd f
functions_times u m S earlier scale h [] (s ∷ ss) hss f = absurd f
functions_times u m S earlier scale h (g ∷ fs) [] hss f = absurd f
functions_times u m S earlier scale h (g ∷ fs) (s ∷ ss) [] f = absurd f
functions_times u m S earlier scale h (g ∷ fs) (s ∷ ss) (hs ∷ hss) f = (
  record {
    fun = f.0.fun;
    there = f.0.there;
    args = annotates_mul u (types f.0.fun.params) S.budget s.args f.0.args;
    result = annotates_mul u (f.0.fun.result ∷ []) S.budget s.result f.0.result;
    fits = subst (λ q. Ann (times_setting u S earlier scale) m S.budget f.0.fun.params q f.0.fun.body f.0.fun.result (annotation (times u s.result)) (times_hints u hs) [])
        (sym (annotation_mul u s.args))
        (subst (λ r. Ann (times_setting u S earlier scale) m S.budget f.0.fun.params (mul u (annotation s.args)) f.0.fun.body f.0.fun.result r (times_hints u hs) [])
        (sym (annotation_mul u s.result))
        (derived u S earlier scale m h S.budget f.0.fun.params (annotation s.args) f.0.fun.body f.0.fun.result (annotation s.result) hs [] f.0.fits));
  },
  functions_times u m S earlier scale h fs ss hss f.1,
)

abbrev block_of : Task → List Sig → List (List Hint) → Block
block_of task sigs hints = record { task = task; body = Solved sigs hints }

-- A block that holds, with all its numbers times u, over other blocks before it.
pub holds_times : (u : ℕ) (P : Program) (d : ℕ) (earlier before : List Block) (scale scale2 : ℕ) (task : Task) (sigs : List Sig) (hints : List (List Hint)) (t t2 : ℕ) →
    SettingTimes u (mode_of task.kind) (setting P d earlier scale (block_of task sigs hints) t) (blocks_before task.kind t2 before) (scale2 * t2) → 0 < t2 →
    (ReachesTarget P d (block_of task sigs hints) t task.kind → ReachesTarget P d (times_block u (block_of task sigs hints)) t2 task.kind) →
    Holds P d earlier scale (block_of task sigs hints) t → Holds P d before scale2 (times_block u (block_of task sigs hints)) t2
holds_times u P d earlier before scale scale2 task sigs hints t t2 times positive reach h = record {
  positive = positive;
  solved = tt;
  functions = functions_times u (mode_of task.kind) (setting P d earlier scale (block_of task sigs hints) t) (blocks_before task.kind t2 before) (scale2 * t2) times
      (members P task.group) sigs hints h.functions;
  reaches = reach h.reaches;
}

-- Targets

number_times : (u : ℕ) (q : Annotation) (o : Option ℕ) → number_of (mul u q) o ≡ u * number_of q o
number_times u q None = grind arith
number_times u q (Some k) = refl

covers_times : (u t : ℕ) (A : Type') (budget : ℕ) (r : Annotation) (target : Target) → CoversTarget A budget r t target → CoversTarget A budget (mul u r) (u * t) target
covers_times u t A budget r [] c = tt
covers_times u t A budget r (x ∷ xs) c = (
  subst (λ n. u * t ≤ n) (sym (number_times u r (position (alike x) (index_list (A ∷ []) budget)))) (mul-le-mul_left u c.0),
  covers_times u t A budget r xs c.1,
)

reaches_times : (u t : ℕ) (P : Program) (d : ℕ) (task : Task) (sigs : List Sig) (hints : List (List Hint)) (kind : Kind) →
    ReachesTarget P d (block_of task sigs hints) t kind → ReachesTarget P d (times_block u (block_of task sigs hints)) (u * t) kind
reaches_times u t P d task sigs hints (k.With meter) r = tt
reaches_times u t P d task sigs hints (Free budget f number) r = record {
  fun = r.fun;
  there = r.there;
  target = r.target;
  numbered = r.numbered;
  sig = times_sig u r.sig;
  signed = sig_among_times u (members P task.group) sigs f ∙ ap (option_map (times_sig u)) r.signed;
  covers = subst (λ q. CoversTarget r.fun.result budget q (u * t) r.target) (sym (annotation_mul u r.sig.result))
      (covers_times u t r.fun.result budget (annotation r.sig.result) r.target r.covers);
}

-- A block that holds with t holds with u t.

nothing : (u : ℕ) → 0 ≡ u * 0
nothing u = grind arith

inner : (u n s t : ℕ) → n * (s * (u * t)) ≡ u * (n * (s * t))
inner u n s t = grind arith

multiple_setting : (u : ℕ) (P : Program) (d : ℕ) (earlier : List Block) (scale group : ℕ) (kind : Kind) (sigs : List Sig) (hints : List (List Hint)) (t : ℕ) →
    SettingTimes u (mode_of kind) (setting P d earlier scale (block_of (record { group = group; kind = kind }) sigs hints) t) (blocks_before kind (u * t) earlier) (scale * (u * t))
multiple_setting u P d earlier scale group (Free budget f number) sigs hints t =
    record { blocks = all_same u P earlier; prices = λ nodes ticks cells. nothing u; refunds = nothing u }
multiple_setting u P d earlier scale group (k.With Ticks) sigs hints t =
    record { blocks = all_more_raised u t P Ticks earlier; prices = λ nodes ticks cells. inner u ticks scale t; refunds = nothing u }
multiple_setting u P d earlier scale group (k.With Cells) sigs hints t =
    record { blocks = all_more_raised u t P Cells earlier; prices = λ nodes ticks cells. inner u cells scale t; refunds = nothing u }
multiple_setting u P d earlier scale group (k.With Work) sigs hints t =
    record { blocks = all_more_raised u t P Work earlier; prices = λ nodes ticks cells. inner u nodes scale t; refunds = scaled }
  where
    scaled : scale * (u * t) ≡ u * (scale * t)
    scaled = grind arith

both_positive : (u t : ℕ) → 0 < u → 0 < t → 0 < u * t
both_positive u t pu pt =
    let one : 1 ≤ u = omega (arith, pu) in
    let more : 1 ≤ t = omega (arith, pt) in
    let all : 1 * 1 ≤ u * t = mul-le-mul one more in
    omega (arith, all)

pub multiples_hold : MultiplesHold
multiples_hold P d earlier scale block t u positive h = by block.task block.body h
  where
    by : (task : Task) (body : Body) → Holds P d earlier scale (record { task = task; body = body }) t →
        Holds P d earlier scale (times_block u (record { task = task; body = body })) (u * t)
    by task (Refuted farkas) h = absurd h.solved
    by task (Calls fun) h = absurd h.solved
    by task (Solved sigs hints) h =
        holds_times u P d earlier earlier scale scale task sigs hints t (u * t) (multiple_setting u P d earlier scale task.group task.kind sigs hints t) (both_positive u t positive h.positive)
        (reaches_times u t P d task sigs hints task.kind) h

-- A meter's blocks and its scale are raised.

outer : (u n s t : ℕ) → n * ((u * s) * t) ≡ u * (n * (s * t))
outer u n s t = grind arith

raised_setting : (u : ℕ) (P : Program) (d : ℕ) (earlier : List Block) (scale group : ℕ) (meter : Meter) (sigs : List Sig) (hints : List (List Hint)) (t : ℕ) →
    SettingTimes u (With meter) (setting P d earlier scale (block_of (record { group = group; kind = k.With meter }) sigs hints) t)
    (map (raised meter t) (map (raised meter u) earlier)) ((u * scale) * t)
raised_setting u P d earlier scale group Ticks sigs hints t =
    record { blocks = all_raised_before u t P Ticks earlier; prices = λ nodes ticks cells. outer u ticks scale t; refunds = nothing u }
raised_setting u P d earlier scale group Cells sigs hints t =
    record { blocks = all_raised_before u t P Cells earlier; prices = λ nodes ticks cells. outer u cells scale t; refunds = nothing u }
raised_setting u P d earlier scale group Work sigs hints t =
    record { blocks = all_raised_before u t P Work earlier; prices = λ nodes ticks cells. outer u nodes scale t; refunds = scaled }
  where
    scaled : (u * scale) * t ≡ u * (scale * t)
    scaled = grind arith

once : (n : ℕ) → n ≡ 1 * n
once n = omega arith

other_setting : (u : ℕ) (P : Program) (d : ℕ) (earlier : List Block) (scale group : ℕ) (kind : Kind) (meter : Meter) (sigs : List Sig) (hints : List (List Hint)) (t : ℕ) →
    is_for_meter meter kind ≡ false →
    SettingTimes 1 (mode_of kind) (setting P d earlier scale (block_of (record { group = group; kind = kind }) sigs hints) t) (blocks_before kind t (map (raised meter u) earlier)) (scale * t)
other_setting u P d earlier scale group (Free budget f number) meter sigs hints t e =
    record { blocks = all_free_kept u P meter earlier; prices = λ nodes ticks cells. refl; refunds = refl }
other_setting u P d earlier scale group (k.With Ticks) meter sigs hints t e =
    record { blocks = all_other_kept u t P meter Ticks e earlier; prices = λ nodes ticks cells. once (ticks * (scale * t)); refunds = refl }
other_setting u P d earlier scale group (k.With Cells) meter sigs hints t e =
    record { blocks = all_other_kept u t P meter Cells e earlier; prices = λ nodes ticks cells. once (cells * (scale * t)); refunds = refl }
other_setting u P d earlier scale group (k.With Work) meter sigs hints t e =
    record { blocks = all_other_kept u t P meter Work e earlier; prices = λ nodes ticks cells. once (nodes * (scale * t)); refunds = once (scale * t) }

pub reaches_same : (u t : ℕ) (P : Program) (d : ℕ) (task : Task) (sigs : List Sig) (hints : List (List Hint)) (kind : Kind) →
    ReachesTarget P d (block_of task sigs hints) t kind → ReachesTarget P d (times_block 1 (block_of task sigs hints)) t kind
reaches_same u t P d task sigs hints kind r =
    subst (λ body. ReachesTarget P d (record { task = task; body = body }) t kind) (sym (body_once (Solved sigs hints))) r

pub raising_keeps : RaisingKeeps
raising_keeps P d earlier scale block t meter u positive h = by block.task.group block.task.kind block.body (is_for_meter meter block.task.kind) refl h
  where
    by : (group : ℕ) (kind : Kind) (body : Body) (c : Bool) → is_for_meter meter kind ≡ c →
        Holds P d earlier scale (record { task = record { group = group; kind = kind }; body = body }) t →
        Holds P d (map (raised meter u) earlier) (raised_scale meter u kind scale) (raised meter u (record { task = record { group = group; kind = kind }; body = body })) t
    by group kind (Refuted farkas) c e h = absurd h.solved
    by group kind (Calls fun) c e h = absurd h.solved
    by group kind (Solved sigs hints) false e h =
        let task : Task = record { group = group; kind = kind } in
        let kept = holds_times 1 P d earlier (map (raised meter u) earlier) scale scale task sigs hints t t (other_setting u P d earlier scale group kind meter sigs hints t e) h.positive
        (reaches_same 1 t P d task sigs hints kind) h in
        subst (λ c. Holds P d (map (raised meter u) earlier) (cond c (u * scale) scale) (raised meter u (block_of task sigs hints)) t) (sym e)
        (subst (λ b. Holds P d (map (raised meter u) earlier) scale b t) (sym (off meter u (block_of task sigs hints) e))
        (subst (λ body. Holds P d (map (raised meter u) earlier) scale (record { task = task; body = body }) t) (body_once (Solved sigs hints)) kept))
    by group (Free budget f number) (Solved sigs hints) true e h = absurd (cc)
    by group (k.With other) (Solved sigs hints) true e h =
        let task : Task = record { group = group; kind = k.With other } in
        let kept = holds_times u P d earlier (map (raised other u) earlier) scale (u * scale) task sigs hints t t (raised_setting u P d earlier scale group other sigs hints t) h.positive
        (λ r. tt) h in
        subst (λ c. Holds P d (map (raised meter u) earlier) (cond c (u * scale) scale) (raised meter u (block_of task sigs hints)) t) (sym e)
        (subst (λ b. Holds P d (map (raised meter u) earlier) (u * scale) b t) (sym (on meter u (block_of task sigs hints) e))
        (subst (λ m. Holds P d (map (raised m u) earlier) (u * scale) (times_block u (block_of task sigs hints)) t) (sym (same_meters meter other e)) kept))

pub solved_blocks_hold : SolvedBlocksHold
solved_blocks_hold P c place block held there solved = by block.body solved (held.blocks place block there).holds
  where
    by : (body : Body) → IsSolved body → IfSolved body (HoldsInPlace P c place block) → HoldsInPlace P c place block
    by (Solved sigs hints) s h = h
    by (Refuted farkas) s h = absurd s
    by (Calls fun) s h = absurd s
