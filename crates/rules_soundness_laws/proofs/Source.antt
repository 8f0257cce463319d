-- Bounds of the source's functions, and of the machine that runs them.
use Rattle.std.proofs.Common.{◌≡◌, ◌≤◌, ◌<◌, ◌<ℤ◌, ℕ, suc, ◌*◌, ◌/◌, ℤ, pos, List, slice_get, Option, None, Some, refl, sym, ap, ◌∙◌, subst, arith}
use Rattle.std.specs.Prelude.{unsigned_abs}
use Rattle.std.specs.List.{All}
use Rattle.std.specs.Option.{option_map}
use Rattle.std.proofs.Math.Nat.{mul-le-mul_left}
use Rattle.std.proofs.lemmas.Int.{ints}
use Rattle.std.proofs.lemmas.Nat.{le-div}
use Rattle.std.proofs.lemmas.Option.{slice_get-map}
use Rattle.raml_syntax.specs.Tree.{Function, Prog}
use Rattle.raml_syntax.specs.Value.{Value, HaveTypes}
use Rattle.raml_syntax.specs.Eval.{Run, run_of}
use Rattle.raml_syntax.specs.Types as source
use Rattle.raml_syntax.specs.Types.{Typed}
use Rattle.raml_syntax.specs.Node.{AllNodes, NumberFits}
use Rattle.base_poly.specs.Poly.{Term}
use Rattle.poly_point.specs.Point.{worth}
use Rattle.normal_spec.specs.Norm.{NormFun}
use Rattle.normal_spec.specs.Run.{run_norm}
use Rattle.normal_spec.specs.Two.{norm_fun, norm}
use Rattle.normal_spec.specs.Uses.{types, IsNormal}
use Rattle.normal_spec.specs.Laws.{RunsAlike, IsNormalForm}
use Rattle.normal_spec.proofs.Keep.{normal_forms_keep}
use Rattle.stack_compile.specs.Laws.{at, Linked}
use Rattle.stack_compile.proofs.Linked.{machine_is_linked}
use Rattle.cost_free.specs.declared.task.Meter.{Meter}
use Rattle.cost_free.specs.declared.task.Meter.TheVariants.{Ticks, Cells, Work}
use Rattle.annot_types.specs.Certificate.{Sig, Certificate}
use Rattle.annot_types.specs.Held.{scale_of, terms_of, Held}
use Rattle.rules_soundness_laws.specs.Enough.{cost}
use Rattle.rules_soundness_laws.specs.Bounds.{BoundsNormal, BoundsState, Bounds}
use Rattle.rules_soundness_laws.specs.Laws.{Signs, normal_of, SourcesAreBounded, CellsStayBelow}
use Rattle.rules_soundness_laws.proofs.Weighed.{some_is}
use Rattle.rules_soundness_laws.proofs.Bound.{runs_of_block}

cost_less : (meter : Meter) (r s : Run Value) → RunsAlike r s → cost meter r ≤ cost meter s
cost_less Ticks r s h = let same = h.ticks in omega (arith, same)
cost_less Cells r s h = let same = h.cells in omega (arith, same)
cost_less Work r s h = h.work_at_least

-- a number that is within a bound is within its whole part
within : (den n most : ℕ) → 0 < den → den * n ≤ most → n ≤ most / den
within den n most positive low = le-div n most den positive (let same : n * den ≡ den * n = grind arith in omega (arith, low, same))

module _ (P : Prog) (typed : Typed P) (numbers : All (λ (g : Function). AllNodes NumberFits g.body) P) where
  -- what is in normal form is the normal form of a function
  pub is_form : (f : ℕ) (g : NormFun) → slice_get (norm P) f ≡ Some g → (fun : Function) → slice_get P f ≡ Some fun → norm_fun P fun ≡ g
  is_form f g there fun at = some_is (norm_fun P fun) g (sym (normal_forms_keep P typed numbers f fun at).there ∙ there)

  pub normal : (f : ℕ) (g : NormFun) → slice_get (norm P) f ≡ Some g → IsNormal (norm P) g
  normal f g there = by (slice_get P f) refl
    where
      by : (o : Option Function) → slice_get P f ≡ o → IsNormal (norm P) g
      by None q = absurd (let none = slice_get-map (norm_fun P) P f ∙ ap (option_map (norm_fun P)) q in cc)
      by (Some fun) q = subst (IsNormal (norm P)) (is_form f g there fun q) (normal_forms_keep P typed numbers f fun q).normal

  -- a bound of the normal form's runs is one of the source and of the machine
  pub of_normal : (f : ℕ) (fun : Function) → slice_get P f ≡ Some fun → (meter : Meter) (den : ℕ) (terms : List Term) → 0 < den →
      BoundsNormal (norm P) (norm_fun P fun) meter den terms → Bounds P f fun meter den terms
  of_normal f fun there meter den terms positive h = record { runs = runs; machine = λ args m has. by meter runs args m has (machine_is_linked P typed numbers f fun args there has) }
    where
      form : IsNormalForm P f fun (norm_fun P fun)
      form = normal_forms_keep P typed numbers f fun there

      runs : (args : List Value) (limit : ℕ) → HaveTypes args (source.types_of fun) → den * cost meter (run_of P fun args limit) ≤ worth terms args
      runs args limit has =
          let low = h args limit (subst (HaveTypes args) (sym form.params) has) in
          let less = mul-le-mul_left den (cost_less meter (run_of P fun args limit) (run_norm (norm P) (norm_fun P fun) args limit) (form.runs args limit)) in
          omega (arith, low, less)

      by : (meter : Meter) → ((args : List Value) (limit : ℕ) → HaveTypes args (source.types_of fun) → den * cost meter (run_of P fun args limit) ≤ worth terms args) →
          (args : List Value) (m : ℕ) → HaveTypes args (source.types_of fun) → Linked P f fun args → BoundsState meter den (worth terms args) m (at P f args m)
      by Ticks runs args m has linked =
          let low = runs args m has in let less = mul-le-mul_left den (linked.at_most m m (omega arith)).0 in omega (arith, low, less)
      by Cells runs args m has linked =
          let low = runs args m has in let less = mul-le-mul_left den (linked.at_most m m (omega arith)).1 in omega (arith, low, less)
      by Work runs args m has linked = λ going.
          let low = runs args (suc m) has in
          let few = linked.goes_on m going in
          let work = within den (run_of P fun args (suc m)).work (worth terms args) positive low in
          omega (arith, few, work)

  pub of_block : (groups : List (List ℕ)) (c : Certificate) → Held (normal_of P groups) c →
      (meter : Meter) (t f : ℕ) (fun : Function) (s : Sig) → slice_get P f ≡ Some fun → Signs (normal_of P groups) c meter t f s →
      Bounds P f fun meter (unsigned_abs (scale_of c meter) * t) (terms_of (types (norm_fun P fun).params) c.degree s.args)
  of_block groups c held meter t f fun s there signs =
      of_normal f fun there meter (unsigned_abs (scale_of c meter) * t) (terms_of (types (norm_fun P fun).params) c.degree s.args)
      (positive (held.scales meter) signs.holds.positive)
      (runs_of_block (normal_of P groups) normal c held meter t f (norm_fun P fun) s (normal_forms_keep P typed numbers f fun there).there signs)
    where
      magnitude : (z : ℤ) → pos 0 <ℤ z → 0 < unsigned_abs z
      magnitude z h = grind (arith, ints, h)

      positive : pos 0 <ℤ scale_of c meter → 0 < t → 0 < unsigned_abs (scale_of c meter) * t
      positive h g =
          let one : unsigned_abs (scale_of c meter) * 1 ≤ unsigned_abs (scale_of c meter) * t = mul-le-mul_left (unsigned_abs (scale_of c meter)) (omega (arith, g)) in
          let some = magnitude (scale_of c meter) h in
          let same : unsigned_abs (scale_of c meter) * 1 ≡ unsigned_abs (scale_of c meter) = grind arith in omega (arith, one, some, same)

pub sources_are_bounded : SourcesAreBounded
sources_are_bounded P typed numbers groups c held meter t f fun s there signs =
    subst (λ As. Bounds P f fun meter (unsigned_abs (scale_of c meter) * t) (terms_of As c.degree s.args)) (normal_forms_keep P typed numbers f fun there).params
    (of_block P typed numbers groups c held meter t f fun s there signs)

pub cells_stay_below : CellsStayBelow
cells_stay_below P f fun den terms positive bounds args m has = within den (at P f args m).cells (worth terms args) positive (bounds.machine args m has)
