-- What is kept is a bound.
use Rattle.std.proofs.Common.{◌≡◌, ◌≤◌, ◌<◌, ◌⊎◌, inl, inr, ℕ, suc, ◌+◌, ◌*◌, ℤ, pos, ◌<ℤ◌, nat_eq, Bool, true, false, cond, List, [], ◌∷◌, refl, sym, ap, ◌∙◌, subst, arith}
use Rattle.std.specs.Prelude.{unsigned_abs}
use Rattle.std.proofs.Math.Nat.{mul-le-mul_left}
use Rattle.std.proofs.lemmas.Int.{ints}
use Rattle.raml_syntax.specs.Tree.{Type'}
use Rattle.raml_syntax.specs.Value.{Value}
use Rattle.raml_syntax.specs.Types as source
use Rattle.base_poly.specs.Plain.{Plain}
use Rattle.base_poly.specs.Base.{bases}
use Rattle.base_poly.specs.Indices.{index_list}
use Rattle.poly_point.specs.Point.{worth}
use Rattle.index_shift.specs.Potential.{Annotation, weighed, potential}
use Rattle.normal_spec.specs.Norm.{NormFun, NormProg}
use Rattle.normal_spec.specs.Run.{run_norm}
use Rattle.normal_spec.specs.Two.{norm_fun, norm}
use Rattle.normal_spec.specs.Context.{types}
use Rattle.normal_spec.specs.Laws.{IsNormalForm}
use Rattle.normal_spec.proofs.Keep.{normal_forms_keep}
use Rattle.cost_free.specs.declared.task.Meter.{Meter}
use Rattle.cost_free.specs.Task as k
use Rattle.annot_types.specs.Program.{Program}
use Rattle.annot_types.specs.Certificate.{annotation}
use Rattle.annot_types.specs.Rows.{size}
use Rattle.annot_types.specs.Held.{before, scale_of, scale_for, Held}
use Rattle.rules_soundness_laws.specs.Enough.{cost}
use Rattle.rules_soundness_laws.specs.Bounds.{Bounds}
use Rattle.rules_soundness_laws.specs.Laws.{normal_of}
use Rattle.rules_soundness_laws.proofs.Weighed.{some_is, weighed_times, weighed_covers}
use Rattle.rules_soundness_laws.proofs.Blocks.{KindPays, own_pays, all_before}
use Rattle.rules_soundness_laws.proofs.Source.{normal, of_normal}
use Rattle.share_normal.specs.Program.{source_in}
use Rattle.rules_plan.specs.Read.{program_in}
use Rattle.bound_file.specs.Lines.{Coefficient, ArePositive, numerator_at, denominator_at}
use Rattle.other_blocks.specs.Other.{place}
use Rattle.bound_contract.specs.Under.{IsUnder, LiesUnder, AreDeclared, with_numbers, terms_at}
use Rattle.bound_contract.specs.Kept.{KeepsThere}
use Rattle.bound_contract.specs.Laws.{KeptIsBound, LinesHaveNumbers, OthersUnderAreBounds}

-- a positive factor cancels
less_or_not : (a b : ℕ) → (a ≤ b) ⊎ (b < a)
less_or_not a b = grind arith

pub cancel : (n a b : ℕ) → 0 < n → n * a ≤ n * b → a ≤ b
cancel n a b p h = elim (less_or_not a b) [ inl l ↦ l | inr l ↦ absurd (let more : n * (b + 1) ≤ n * a = mul-le-mul_left n (omega (arith, l)) in let sum : n * (b + 1) ≡ n * b + n = grind arith in omega (arith, p, h, more, sum)) ]

-- Numbers over one denominator

positive_at : (bound : List Coefficient) → ArePositive bound → (k : ℕ) → 0 < denominator_at bound k
positive_at [] h k = omega arith
positive_at (c ∷ cs) h k = by (nat_eq k c.position) (positive_at cs h.1 k) where
  by : (b : Bool) → 0 < denominator_at cs k → 0 < cond b c.denominator (denominator_at cs k)
  by true rest = h.0
  by false rest = rest

abbrev product : List Coefficient → ℕ
product [] = 1
product (c ∷ cs) = c.denominator * product cs

abbrev numbers : List Coefficient → ℕ → ℕ
numbers [] k = 0
numbers (c ∷ cs) k = cond (nat_eq k c.position) (c.numerator * product cs) (c.denominator * numbers cs k)

product_positive : (bound : List Coefficient) → ArePositive bound → 0 < product bound
product_positive [] h = omega arith
product_positive (c ∷ cs) h = let rest = product_positive cs h.1 in let one = mul-le-mul_left c.denominator rest in let same : c.denominator * 1 ≡ c.denominator = grind arith in let first = h.0 in omega (arith, one, same, first)

numbers_are : (bound : List Coefficient) (k : ℕ) → numbers bound k * denominator_at bound k ≡ numerator_at bound k * product bound
numbers_are [] k = refl
numbers_are (c ∷ cs) k = by (nat_eq k c.position) (numbers_are cs k) where
  by : (b : Bool) → numbers cs k * denominator_at cs k ≡ numerator_at cs k * product cs →
      cond b (c.numerator * product cs) (c.denominator * numbers cs k) * cond b c.denominator (denominator_at cs k)
      ≡ cond b c.numerator (numerator_at cs k) * (c.denominator * product cs)
  by true rest = grind arith
  by false rest = grind (arith, rest)

pub lines_have_numbers : LinesHaveNumbers
lines_have_numbers bound h count = (product bound, product_positive bound h, numbers bound, λ k low. numbers_are bound k)

-- The numbers of an annotation under a line are in proportion at most those of the line.

in_proportion : (n m s den a q : ℕ) → 0 < m → a * m ≤ n * s → q * m ≡ n * den → den * a ≤ s * q
in_proportion n m s den a q p h e =
    let low : den * (a * m) ≤ den * (n * s) = mul-le-mul_left den h in
    let same : s * (q * m) ≡ s * (n * den) = ap (λ v. s * v) e in
    let left : den * (a * m) ≡ m * (den * a) = grind arith in
    let right : s * (q * m) ≡ m * (s * q) = grind arith in
    let turn : den * (n * s) ≡ s * (n * den) = grind arith in
    cancel m (den * a) (s * q) p (omega (arith, low, same, left, right, turn))

worth_is : (ts : List (List Plain)) (q : Annotation) (vs : List Value) → worth (with_numbers ts q) vs ≡ weighed (λ t. bases t vs) ts q
worth_is [] q vs = refl
worth_is (t ∷ ts) q vs = ap (λ n. q 0 * bases t vs + n) (worth_is ts (λ k. q (suc k)) vs)

module _ (bound : List Coefficient) (positive : ArePositive bound) (As : List Type') (d s : ℕ) (a q : Annotation) (den : ℕ)
    (under : LiesUnder bound (size As d) s a) (declared : AreDeclared bound (size As d) den q) (vs : List Value) where
  abbrev at_tuple : List Plain → ℕ
  at_tuple t = bases t vs

  potentials : den * potential As d a vs ≤ s * worth (terms_at As d q) vs
  potentials =
      let covers = weighed_covers at_tuple (index_list As d) (λ k. s * q k) (λ k. den * a k)
      (λ k low. in_proportion (numerator_at bound k) (denominator_at bound k) s den (a k) (q k) (positive_at bound positive k) (under k low) (declared k low)) in
      let left = weighed_times at_tuple (index_list As d) den a in
      let right = weighed_times at_tuple (index_list As d) s q in
      let same = worth_is (index_list As d) q vs in
      let scaled = ap (λ n. s * n) same in
      omega (arith, covers, left, right, scaled)

  -- so what the potential pays for, over the scale, they pay for
  pub pays : (cost : ℕ) → 0 < s → s * cost ≤ potential As d a vs → den * cost ≤ worth (terms_at As d q) vs
  pays cost p h =
      let low : den * (s * cost) ≤ den * potential As d a vs = mul-le-mul_left den h in
      let turn : den * (s * cost) ≡ s * (den * cost) = grind arith in
      let high = potentials in
      cancel s (den * cost) (worth (terms_at As d q) vs) p (omega (arith, low, turn, high))

-- From the normal form to the source and the machine

magnitude : (z : ℤ) → pos 0 <ℤ z → 0 < unsigned_abs z
magnitude z h = grind (arith, ints, h)

both_positive : (a b : ℕ) → 0 < a → 0 < b → 0 < a * b
both_positive a b p q = let one : a * 1 ≤ a * b = mul-le-mul_left a q in let same : a * 1 ≡ a = grind arith in omega (arith, one, same, p)

pub kept_is_bound : KeptIsBound
kept_is_bound P typed fit groups c held line positive place block t kind keeps fun at den p q declared =
    let N = normal_of P groups in
    let form : IsNormalForm P line.fun fun (norm_fun P fun) = normal_forms_keep P typed fit line.fun fun at in
    let u = keeps.under in
    let g : NormFun = norm_fun P fun in
    let is : u.fun ≡ g = some_is u.fun g (sym u.there ∙ form.there) in
    let scale = unsigned_abs (scale_of c line.meter) in
    let pay = own_pays N (normal P typed fit) c.degree (scale_for c) (before c place) (all_before N (normal P typed fit) c held place) block.task.group block.task.kind block.body t keeps.holds in
    let some = both_positive scale t (magnitude (scale_of c line.meter) (held.scales line.meter)) keeps.holds.positive in
    let under : LiesUnder line.bound (size (types g.params) c.degree) (scale * t) (annotation u.sig.args) =
    subst (λ (g : NormFun). LiesUnder line.bound (size (types g.params) c.degree) (scale * t) (annotation u.sig.args)) is
    (subst (λ j. LiesUnder line.bound (size (types u.fun.params) c.degree) (scale_for c j * t) (annotation u.sig.args)) kind u.under) in
    subst (λ As. Bounds P line.fun fun line.meter den (terms_at As c.degree q)) form.params
    (of_normal P typed fit line.fun fun at line.meter den (terms_at (types g.params) c.degree q) p
    (λ args limit has.
    let low = subst (λ j. KindPays N c.degree (scale_for c j * t) j limit g u.sig) kind (pay limit line.fun g u.sig form.there u.signed) args has in
    pays line.bound positive (types g.params) c.degree (scale * t) (annotation u.sig.args) q den under
    (subst (λ As. AreDeclared line.bound (size As c.degree) den q) (sym form.params) declared) args (cost line.meter (run_norm (norm P) g args limit)) some (omega (arith, low))))

same_meter : (kind : k.Kind) (a b : Meter) → kind ≡ k.With a → kind ≡ k.With b → a ≡ b
same_meter kind a b e h = of (sym e ∙ h) where
  of : k.With a ≡ k.With b → a ≡ b
  of e = cc

pub others_under_are_bounds : OthersUnderAreBounds
others_under_are_bounds o over typed fit same line positive kind under fun at den p q declared =
    let c = over.certificate in
    let at_place = place (program_in o.program) c over.t o.block in
    let text = source_in o.program in
    let groups = o.program.groups.list in
    let meters : over.meter ≡ line.meter = same_meter o.block.task.kind over.meter line.meter over.kind kind in
    let scale : o.scale ≡ scale_for c o.block.task.kind * over.t = over.scale ∙ ap (λ kind. scale_for c kind * over.t) (sym over.kind) in
    let there : Program = normal_of text groups in
    let whole : program_in o.program ≡ there = ap (λ (N : NormProg). record { funs = N; groups = groups }) same in
    let held : Held there c = subst (λ P. Held P c) whole over.faultless.held in
    let keeps : KeepsThere there c at_place o.block.task line o.block over.t =
    subst (λ P. KeepsThere P c at_place o.block.task line o.block over.t) whole
    (record { holds = over.other.holds; under = subst (λ n. IsUnder (program_in o.program) c.degree line n o.block) scale (subst (λ d. IsUnder (program_in o.program) d line o.scale o.block) over.degree under) }) in
    subst (λ d. Bounds text line.fun fun line.meter den (terms_at (source.types_of fun) d q)) (sym over.degree)
    (kept_is_bound text typed fit groups c held line positive at_place o.block over.t kind keeps fun at den p q
    (subst (λ d. AreDeclared line.bound (size (source.types_of fun) d) den q) over.degree declared))
