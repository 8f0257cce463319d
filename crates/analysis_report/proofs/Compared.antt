-- What is told of functions and their counterparts.
use Rattle.std.proofs.Common.{◌≡◌, ◌<◌, ◌<ℤ◌, ℕ, pos, ℤ, Option, Some, None, slice_get, get_or, List, [], ◌++◌, ◌+◌, length, map, flat_map, refl, sym, ap, ◌∙◌, subst, arith}
use Rattle.std.specs.Prelude.{unsigned_abs}
use Rattle.std.specs.List.{range_with_len}
use Rattle.std.specs.Option.{option_map}
use Rattle.std.proofs.lemmas.Int.{ints}
use Rattle.std.proofs.lemmas.Option.{same_Some, slice_get_within, slice_get_read, slice_get-map}
use Rattle.raml_syntax.specs.Tree.{Text, Function, Prog}
use Rattle.raml_syntax.specs.Place.{place_of}
use Rattle.raml_syntax.specs.Read.{function_of}
use Rattle.raml_syntax.specs.Types.{types_of}
use Rattle.raml_syntax.specs.declared.program.Fun.{Fun}
use Rattle.base_poly.specs.Poly.{IsPoly}
use Rattle.base_poly.specs.declared.tuple.Poly.{Poly}
use Rattle.bound_compare.specs.Compare.{sum_of, Stands}
use Rattle.bound_compare.specs.Laws.{RelationsPromise}
use Rattle.bound_compare.specs.declared.compared.Compared.{Compared}
use Rattle.bound_compare.specs.declared.compared.Compared.TheVariants.{Absent, NoBound, Bounds}
use Rattle.bound_compare.specs.declared.relation.Relation.{Relation}
use Rattle.bound_compare.specs.declared.relation.Relation.TheVariants.{Equal, Below, Above, Mixed}
use Rattle.cost_free.specs.declared.task.Meter.{Meter}
use Rattle.annot_types.specs.Program.{Program}
use Rattle.annot_types.specs.Certificate.{Certificate}
use Rattle.annot_types.specs.Held as h
use Rattle.annot_types.specs.Held.{Claim, Bound}
use Rattle.report_text.specs.Names.{name_at}
use Rattle.report_text.specs.Report.{types_in}
use Rattle.analysis_report.specs.Comparison.{IsCounterpart, Promises, AreRelated, AreCompared, IsComparison, comparisons_text, AreComparisons}
use Rattle.analysis_report.specs.Steps.{IsCounterpartIn, ComparesIn, HasComparisons, by_meter}
use Rattle.analysis_report.specs.declared.comparing.Comparisons.{Comparisons}
use Rattle.analysis_report.proofs.InOrder.{AreTold, none_told, next_told}

-- The relation in which two polynomials stand, with what it promises.
pub are_related : RelationsPromise → (r : Relation) (p q : Poly) → IsPoly p → IsPoly q → Stands r (sum_of p) (sum_of q) → AreRelated r (sum_of p) (sum_of q)
are_related law r p q first second stands = record {
  first_positive = above_zero p.den first.positive;
  second_positive = above_zero q.den second.positive;
  stands = stands;
  promises = promised r stands;
}
  where
    above_zero : (z : ℤ) → pos 0 <ℤ z → 0 < unsigned_abs z
    above_zero z h = grind (arith, ints, h)

    promised : (r : Relation) → Stands r (sum_of p) (sum_of q) → Promises r (sum_of p) (sum_of q)
    promised Equal h = (λ values. (law.equal p q first second h values).0, λ values. (law.equal p q first second h values).1)
    promised Below h = law.below p q first second h
    promised Above h = law.below q p second first h
    promised Mixed h = tt

-- Of functions of the code: the other one stands at the place of the first of this one's name.
pub record AreNamed (funs : List Fun) (x y : Fun) (other : ℕ) : Type 0 where
  pub named : place_of x.name (map function_of funs) ≡ Some other
  pub there : slice_get funs other ≡ Some y

pub are_named : (funs xs : List Fun) → xs ≡ funs → (x y : Fun) (name : Text) → name ≡ x.name → (other : ℕ) → Some other ≡ place_of name (map function_of funs) →
    other < length xs → y ≡ get_or xs other y → AreNamed funs x y other
are_named funs xs same x y name is other found below at = record {
  named = sym (found ∙ ap (λ t. place_of t (map function_of funs)) is);
  there = ap (λ ys. slice_get ys other) (sym same) ∙ slice_get_read xs (length xs) other y refl below at;
}

pub is_counterpart : (funs : List Fun) (x y : Fun) (other : ℕ) → AreNamed funs x y other → types_in y.params.items ≡ types_in x.params.items →
    IsCounterpart (map function_of funs) (function_of x) other
is_counterpart funs x y other named types = record {
  named = named.named;
  fun = function_of y;
  there = slice_get-map function_of funs other ∙ ap (option_map function_of) named.there;
  types = types;
}

pub no_counterpart : (funs : List Fun) (x y : Fun) (other : ℕ) → AreNamed funs x y other → (types_in y.params.items ≡ types_in x.params.items → ⊥) →
    (k : ℕ) → IsCounterpart (map function_of funs) (function_of x) k → ⊥
no_counterpart funs x y other named differ k h = differ (ap types_of (same_Some (function_of y) h.fun found) ∙ h.types)
  where
    found : Some (function_of y) ≡ Some h.fun
    found =
        sym (ap (option_map function_of) named.there) ∙ sym (slice_get-map function_of funs other)
        ∙ ap (slice_get (map function_of funs)) (same_Some other k (sym named.named ∙ h.named)) ∙ h.there

-- claims that are compared are told of a counterpart
never_absent : (x y : Claim) → AreCompared x y Absent → ⊥
never_absent (Bound den terms) (Bound other others) h = h
never_absent (Bound den terms) h.NoBound h = cc
never_absent (Bound den terms) (h.CallsUnbounded f) h = cc
never_absent h.NoBound y h = cc
never_absent (h.CallsUnbounded f) y h = cc

pub is_comparison : (N : Program) (c : Certificate) (Q : Prog) (M : Program) (e : Certificate) (f : ℕ) (g : Function) (meter : Meter) (other : Option ℕ) (comparison : Compared) →
    IsCounterpartIn Q g other → ComparesIn N c f M e other meter comparison → IsComparison N c Q M e f g meter comparison
is_comparison N c Q M e f g meter None comparison none is = subst (IsComparison N c Q M e f g meter) (sym is) none
is_comparison N c Q M e f g meter (Some other) Absent counterpart compare = absurd (never_absent compare.claim compare.other_claim compare.compared)
is_comparison N c Q M e f g meter (Some other) NoBound counterpart compare = (other, counterpart, compare)
is_comparison N c Q M e f g meter (Some other) (Bounds r) counterpart compare = (other, counterpart, compare)

-- The function at a place is the reading of that of the code.
pub same_function : (P : Prog) (funs : List Fun) → map function_of funs ≡ P → (f : ℕ) (x : Fun) → slice_get funs f ≡ Some x → (g : Function) → slice_get P f ≡ Some g → function_of x ≡ g
same_function P funs is f x there g at =
    same_Some (function_of x) g (sym (ap (option_map function_of) there) ∙ sym (slice_get-map function_of funs f) ∙ ap (λ gs. slice_get gs f) is ∙ at)

pub has_comparisons : (P : Prog) (N : Program) (c : Certificate) (Q : Prog) (M : Program) (e : Certificate) (funs : List Fun) → map function_of funs ≡ P →
    (f : ℕ) (x : Fun) → slice_get funs f ≡ Some x → (other : Option ℕ) → IsCounterpartIn Q (function_of x) other →
    (found : Comparisons) → ((meter : Meter) → ComparesIn N c f M e other meter (by_meter found meter)) →
    (old new : Text) → new ≡ old ++ comparisons_text (name_at P f) (by_meter found) → HasComparisons P N c Q M e f old new
has_comparisons P N c Q M e funs is f x there other counterpart found compare old new longer = record {
  comparisons = by_meter found;
  each = λ g meter at.
      is_comparison N c Q M e f g meter other (by_meter found meter)
      (subst (λ h. IsCounterpartIn Q h other) (same_function P funs is f x there g at) counterpart) (compare meter);
  is = longer;
}

-- The comparisons of the first functions.
module _ (P : Prog) (N : Program) (c : Certificate) (Q : Prog) (M : Program) (e : Certificate) where
  abbrev pub FunctionCompares : ℕ → (Meter → Compared) → Type 0
  FunctionCompares f comparisons = (g : Function) (meter : Meter) → slice_get P f ≡ Some g → IsComparison N c Q M e f g meter (comparisons meter)

  abbrev pub function_text : ℕ → (Meter → Compared) → Text
  function_text f comparisons = comparisons_text (name_at P f) comparisons

  abbrev pub FirstCompare : ℕ → Text → Type 0
  FirstCompare n text = AreTold FunctionCompares function_text n text

  pub none_compare : (text : Text) → text ≡ [] → FirstCompare 0 text
  none_compare text none = none_told FunctionCompares function_text text none (λ meter. Absent)

  pub next_compare : (n : ℕ) (old new : Text) → FirstCompare n old → HasComparisons P N c Q M e n old new → FirstCompare (n + 1) new
  next_compare n old new first more = next_told FunctionCompares function_text n old new first more.comparisons more.each more.is

  pub all_compare : (n : ℕ) (text : Text) → n ≡ length P → FirstCompare n text → AreComparisons P N c Q M e text
  all_compare n text all told = record {
    comparisons = told.told;
    each = λ f g meter there. told.each f (let below = slice_get_within P f g there in omega (arith, below, all)) g meter there;
    is = told.is ∙ ap (λ m. flat_map (λ f. comparisons_text (name_at P f) (told.told f)) (range_with_len 0 m)) all;
  }
