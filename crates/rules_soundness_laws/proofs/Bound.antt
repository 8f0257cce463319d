-- A potential as a polynomial's value, and the bounds of blocks.
use Rattle.std.proofs.Common.{◌≡◌, ◌≤◌, ◌==◌, if◌then◌else◌, ℕ, zero, suc, ◌+◌, ◌*◌, ℤ, Bool, true, false, List, [], ◌∷◌, slice_get, Some}
use Rattle.std.proofs.Common.{refl, subst, arith}
use Rattle.std.proofs.Math.Nat.{mul-le-mul_left}
use Rattle.std.specs.Prelude.{unsigned_abs, slice_index_or}
use Rattle.raml_syntax.specs.Tree.{Type'}
use Rattle.raml_syntax.specs.Value.{Value}
use Rattle.base_poly.specs.Plain.{Plain}
use Rattle.base_poly.specs.Base.{bases}
use Rattle.base_poly.specs.Indices.{index_list}
use Rattle.poly_point.specs.Point.{worth}
use Rattle.index_shift.specs.Potential.{potential}
use Rattle.index_shift.proofs.Brought.{weighed_none, weighed_sum, worth_at, one_moved}
use Rattle.normal_spec.specs.Norm.{NormFun}
use Rattle.normal_spec.specs.Uses.{types_of, IsNormal}
use Rattle.normal_spec.proofs.KeepCalls.{all_at}
use Rattle.cost_free.specs.declared.task.Meter.{Meter}
use Rattle.annot_types.specs.Program.{Program}
use Rattle.annot_types.specs.Certificate.{Entries, number_at, annotation, Sig, Certificate}
use Rattle.annot_types.specs.Held.{terms_of, scale_of, scale_for, before, Held}
use Rattle.rules_soundness_laws.specs.Bounds.{BoundsNormal}
use Rattle.rules_soundness_laws.specs.Laws.{Signs, NormalRunsAreBounded}
use Rattle.rules_soundness_laws.proofs.Weighed.{weighed_covers}
use Rattle.rules_soundness_laws.proofs.Blocks.{KindPays, own_pays, all_before}

-- what stands at a position counts no more than its tuple
worth_there : (ts : List (List Plain)) (vs : List Value) (k : ℕ) → worth_at (λ t. bases t vs) ts k ≤ bases (slice_index_or ts k []) vs
worth_there [] vs k = omega arith
worth_there (t ∷ ts) vs zero = omega arith
worth_there (t ∷ ts) vs (suc k) = worth_there ts vs k

-- Where a position stands twice the terms count more than the annotation, which has the first number.
pub potential_less : (As : List Type') (d : ℕ) (es : Entries) (vs : List Value) → potential As d (annotation es) vs ≤ worth (terms_of As d es) vs
potential_less As d [] vs = let none = weighed_none (λ t. bases t vs) (index_list As d) (annotation []) (λ k. refl) in omega (arith, none)
potential_less As d (e ∷ es) vs =
    let n = unsigned_abs e.1 in
    let first = weighed_covers (λ t. bases t vs) (index_list As d) (λ k. (if e.0 == k then n else 0) + annotation es k) (annotation (e ∷ es)) (λ k l. at (e.0 == k) (number_at k es)) in
    let sum = weighed_sum (λ t. bases t vs) (index_list As d) (λ k. if e.0 == k then n else 0) (annotation es) in
    let one = one_moved (λ t. bases t vs) (index_list As d) e.0 n in
    let there : n * worth_at (λ t. bases t vs) (index_list As d) e.0 ≤ n * bases (slice_index_or (index_list As d) e.0 []) vs = mul-le-mul_left n (worth_there (index_list As d) vs e.0) in
    let rest = potential_less As d es vs in
    omega (arith, first, sum, one, there, rest)
  where
    at : (b : Bool) (z : ℤ) → unsigned_abs (if b then e.1 else z) ≤ (if b then unsigned_abs e.1 else 0) + unsigned_abs z
    at true z = omega arith
    at false z = omega arith

pub runs_of_block : (P : Program) → ((f : ℕ) (g : NormFun) → slice_get P.funs f ≡ Some g → IsNormal P.funs g) → (c : Certificate) → Held P c →
    (meter : Meter) (t f : ℕ) (g : NormFun) (s : Sig) → slice_get P.funs f ≡ Some g → Signs P c meter t f s →
    BoundsNormal P.funs g meter (unsigned_abs (scale_of c meter) * t) (terms_of (types_of g) c.degree s.args)
runs_of_block P normal c held meter t f g s there signs args limit typed =
    let b = signs.block in
    let pay = own_pays P normal c.degree (scale_for c) (before c signs.place) (all_before P normal c held signs.place) b.task.group b.task.kind b.body t signs.holds in
    let low = subst (λ j. KindPays P c.degree (scale_for c j * t) j limit g s) signs.kind (pay limit f g s there signs.sig) args typed in
    let less = potential_less (types_of g) c.degree s.args args in
    omega (arith, low, less)

pub normal_runs_are_bounded : NormalRunsAreBounded
normal_runs_are_bounded P normal c held = runs_of_block P (λ f g there. all_at (IsNormal P.funs) P.funs f g normal there) c held
