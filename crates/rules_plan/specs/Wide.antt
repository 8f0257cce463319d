-- What is made once for all budgets: of constructors, of calls, and of Lets.
use Rattle.std.specs.Prelude.{◌≡◌, ℕ, suc, List, [], ◌∷◌, ◌++◌, ◌-◌, map, take, slice_get, slice_index_or}
use Rattle.raml_syntax.specs.Tree.{Type'}
use Rattle.raml_syntax.specs.declared.ty.Ty.{Ty}
use Rattle.base_poly.specs.Plain.{Plain, degrees}
use Rattle.base_poly.specs.Indices.{index_list}
use Rattle.base_poly.specs.Read.{context_of}
use Rattle.index_shift.specs.declared.entry.Entry.{Entry}
use Rattle.index_shift.specs.Contexts.{projects}
use Rattle.index_shift.specs.Maps.{opening}
use Rattle.index_shift.specs.Parts.{type_parts}
use Rattle.normal_spec.specs.Norm.{Norm}
use Rattle.normal_spec.specs.Context.{Context, types, inners, others}
use Rattle.annot_types.specs.Carried.{to, marks}
use Rattle.annot_types.specs.Rows.{size as size_of}
use Rattle.annot_types.specs.System.{args_of}
use Rattle.rules_spec.specs.Plan as p
use Rattle.rules_spec.specs.Planned.{place_in, entries_of, operand_entries}
use Rattle.rules_plan.specs.Down.{up}
use Rattle.rules_plan.specs.Given.{Given}
use Rattle.rules_plan.specs.Entries.{placed_at, picked_at, restricted}
use Rattle.rules_plan.specs.declared.constructed.Built.{Built}
use Rattle.rules_plan.specs.declared.called.Callee.{Callee}
use Rattle.rules_plan.specs.declared.lets.Cut.{Cut}
use Rattle.rules_plan.specs.declared.lets.Seam.{Seam}
use Rattle.rules_plan.specs.declared.lets.Sizes.{Sizes}

abbrev pub at_budget : List ℕ → ℕ → ℕ
at_budget sizes d = slice_index_or sizes d 0

-- a map at a budget, from its entries at the greatest
abbrev pub narrowed : List Ty → List Ty → List Entry → ℕ → p.Step
narrowed from to wide d =
    record { size = size_of (context_of to) d; entries = restricted (size_of (context_of from) d) (size_of (context_of to) d) wide }

-- a constructor's maps at a budget
abbrev pub built_steps : Built → ℕ → List p.Step
built_steps b d = narrowed b.whole.items b.parts.items b.opens.items d ∷ narrowed b.parts.items b.types.items b.places.items d ∷ []

-- they are those of a constructor with these operands
pub record IsBuilt (C : Context) (xs : List ℕ) (T : Type') (top : ℕ) (b : Built) : Type 0 where
  pub whole : context_of b.whole.items ≡ T ∷ []
  pub parts : context_of b.parts.items ≡ type_parts T
  pub types : context_of b.types.items ≡ types C
  pub opens : b.opens.items ≡ opening (T ∷ []) 0 top
  pub places : b.places.items ≡ operand_entries C xs (type_parts T) top top

-- a call at a budget
abbrev pub called_at : Callee → ℕ → p.Called
called_at c d = record {
  function = c.function;
  own = c.own;
  usable = [];
  args = at_budget c.context.items d;
  result = at_budget c.result.items d;
  args_from = map (λ n. restricted n (at_budget c.context.items d) c.operands.items) c.args.items;
  result_from = map (λ n. restricted n (at_budget c.result.items d) c.same.items) c.result.items;
}

-- it is that of a call
pub record IsCallee (G : Given) (C : Context) (f : ℕ) (xs : List ℕ) (T : Type') (c : Callee) : Type 0 where
  pub function : c.function ≡ f
  pub own : c.own ≡ place_in G.group f
  pub args : c.args.items ≡ up (size_of (args_of (slice_get G.funs f))) G.top
  pub context : c.context.items ≡ up (size_of (types C)) G.top
  pub result : c.result.items ≡ up (size_of (T ∷ [])) G.top
  pub operands : c.operands.items ≡ operand_entries C xs (args_of (slice_get G.funs f)) G.top G.top
  pub same : c.same.items ≡ entries_of (to (λ t. t)) (T ∷ []) G.top (T ∷ []) G.top

-- a tuple of the variables that a Let's bound form does not use: its degree, and the entries to the bound form's
-- context and from its result
pub record WideSeam : Type 0 where
  pub degree : ℕ
  pub there : List Entry
  pub joins : List Entry

abbrev pub seam_of : Seam → WideSeam
seam_of s = record { degree = s.degree; there = s.there.items; joins = s.joins.items }

-- at the greatest budget, where the first entries go to all positions of the bound form
abbrev pub wide_seam : Norm → Context → Type' → ℕ → List Plain → WideSeam
wide_seam a C A top j = record {
  degree = degrees j;
  there = entries_of (projects (marks a C) j) (types C) top (types (inners a C)) top;
  joins = entries_of (to (λ t. j ++ t)) (A ∷ []) (top - degrees j) (types (others a C) ++ A ∷ []) top;
}

-- The same by positions: from where the halves of all tuples stand, how many positions there are, the place of the
-- tuple and what stands behind it.
abbrev pub seam_at : List (ℕ × ℕ) → ℕ → ℕ → ℕ → ℕ × List ℕ → WideSeam
seam_at halves inner rest q j = record { degree = j.0; there = picked_at q inner 0 halves; joins = placed_at rest 0 j.1 }

abbrev pub seams_from : (ℕ → ℕ × List ℕ → WideSeam) → ℕ → List (ℕ × List ℕ) → List WideSeam
seams_from f q [] = []
seams_from f q (j ∷ js) = f q j ∷ seams_from f (suc q) js

-- at a budget
abbrev pub part_at : Sizes → ℕ → WideSeam → p.Part
part_at s d seam = record {
  there = record {
    size = at_budget s.inner.items (d - seam.degree);
    entries = restricted (at_budget s.context.items d) (at_budget s.inner.items (d - seam.degree)) seam.there;
  };
  size = at_budget s.bound.items (d - seam.degree);
  joins = restricted (at_budget s.bound.items (d - seam.degree)) (at_budget s.rest.items d) seam.joins;
  degree = seam.degree;
}

abbrev pub parts_at : Cut → ℕ → List p.Part
parts_at c d = map (part_at c.sizes d) (take (at_budget c.sizes.others.items d) (map seam_of c.seams.items))

-- what is made once of a Let with this bound form
pub record IsCut (a : Norm) (C : Context) (A : Type') (top : ℕ) (c : Cut) : Type 0 where
  pub whole_sizes : c.sizes.context.items ≡ up (size_of (types C)) top
  pub inner_sizes : c.sizes.inner.items ≡ up (size_of (types (inners a C))) top
  pub other_sizes : c.sizes.others.items ≡ up (size_of (types (others a C))) top
  pub bound_sizes : c.sizes.bound.items ≡ up (size_of (A ∷ [])) top
  pub rest_sizes : c.sizes.rest.items ≡ up (size_of (types (others a C) ++ A ∷ [])) top
  pub seams : map seam_of c.seams.items ≡ map (wide_seam a C A top) (index_list (types (others a C)) top)
