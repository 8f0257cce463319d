-- How annotations are compared, and carried from one context to another.
use Rattle.std.specs.Prelude.{ℕ, zero, suc, ◌+◌, ◌-◌, ◌<◌, ◌≤◌, Bool, List, [], ◌∷◌, ◌++◌, map, length}
use Rattle.raml_syntax.specs.Tree.{Type'}
use Rattle.base_poly.specs.Plain.{Plain, degrees}
use Rattle.base_poly.specs.Indices.{index_list}
use Rattle.index_shift.specs.Parts.{type_parts}
use Rattle.index_shift.specs.Potential.{Annotation, moved}
use Rattle.index_shift.specs.Maps.{Carry, entries_from, opening}
use Rattle.index_shift.specs.Contexts.{permutes, projection}
use Rattle.normal_spec.specs.Norm.{Norm}
use Rattle.normal_spec.specs.Free.{free_in}
use Rattle.normal_spec.specs.Context.{Context, types, place, without}

-- at each position of the context the first annotation has at least the number of the second
abbrev pub Covers : List Type' → ℕ → Annotation → Annotation → Type 0
Covers As d q r = (k : ℕ) → k < length (index_list As d) → r k ≤ q k

-- so much less at the zero index
abbrev pub less : ℕ → Annotation → Annotation
less n q zero = q 0 - n
less n q (suc k) = q (suc k)

-- so much more at the zero index
abbrev pub more : ℕ → Annotation → Annotation
more n q zero = n + q 0
more n q (suc k) = q (suc k)

-- from the context As at budget b to the context Bs at budget d, tuple by tuple
abbrev pub carried : Carry → List Type' → ℕ → List Type' → ℕ → Annotation → Annotation
carried c As b Bs d q = moved (entries_from 0 c (index_list As b) (index_list Bs d)) q

-- each tuple to one that is made of it
abbrev pub to : (List Plain → List Plain) → Carry
to make t = (make t, 1) ∷ []

-- the same tuples at another budget
abbrev pub rebudgeted : List Type' → ℕ → ℕ → Annotation → Annotation
rebudgeted As b d q = carried (to (λ t. t)) As b As d q

-- Of operands that are the whole context: the place of each, where those before it are taken out.
abbrev pub operand_places : Context → List ℕ → List ℕ
operand_places C [] = []
operand_places C (x ∷ xs) = place x C ∷ operand_places (without x C) xs

-- an annotation of the operands, which have these types, as one of the context
abbrev pub at_operands : Context → List ℕ → List Type' → ℕ → ℕ → Annotation → Annotation
at_operands C xs As b d q = carried (permutes (operand_places C xs)) As b (types C) d q

-- Of a constructor with these operands: what the context must have so that the result has the annotation.
abbrev pub at_parts : Context → List ℕ → Type' → ℕ → Annotation → Annotation
at_parts C xs T d r = at_operands C xs (type_parts T) d d (moved (opening (T ∷ []) 0 d) r)

-- the tuples of the context of degree at most d
abbrev pub tuples : Context → ℕ → List (List Plain)
tuples C d = index_list (types C) d

-- which variables the form uses
abbrev pub marks : Norm → Context → List Bool
marks a C = map (λ (b : ℕ × Type'). free_in b.0 a) C

-- Of a Let: the part of an annotation at a tuple j of the variables that the bound form does not use. It has, at each
-- tuple of those that it uses, the number of both tuples together, and its budget is d less the degree of j.
abbrev pub part : Norm → Context → ℕ → List Plain → Annotation → Annotation
part a C d j q = moved (projection (marks a C) (types C) d j) q

-- Of a Let: the annotation of the other variables and the bound one that has, at (j, k), what the annotation for j has at k.
abbrev pub joined : List Type' → Type' → ℕ → List (List Plain) → List Annotation → Annotation
joined Bs A d (j ∷ js) (r ∷ rs) k = carried (to (λ t. j ++ t)) (A ∷ []) (d - degrees j) (Bs ++ A ∷ []) d r k + joined Bs A d js rs k
joined Bs A d _ _ k = 0
