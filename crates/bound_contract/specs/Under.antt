-- Annotations that lie under declared bounds.
use Rattle.std.specs.Prelude.{◌≡◌, ◌≤◌, ◌<◌, ◌*◌, ℕ, suc, List, [], ◌∷◌, slice_get, Some}
use Rattle.raml_syntax.specs.Tree.{Type'}
use Rattle.base_poly.specs.Plain.{Plain}
use Rattle.base_poly.specs.Indices.{index_list}
use Rattle.base_poly.specs.Poly.{Term}
use Rattle.index_shift.specs.Potential.{Annotation}
use Rattle.normal_spec.specs.Norm.{NormFun}
use Rattle.normal_spec.specs.Context.{types}
use Rattle.annot_types.specs.Program.{Program}
use Rattle.annot_types.specs.Certificate.{annotation, Sig, Block}
use Rattle.annot_types.specs.Signature.{sig_in}
use Rattle.annot_types.specs.Rows.{size}
use Rattle.bound_file.specs.Lines.{Coefficient, Line, numerator_at, denominator_at}

-- At each of so many positions the annotation's number, over the scale, is at most what is declared.
abbrev pub LiesUnder : List Coefficient → ℕ → ℕ → Annotation → Type 0
LiesUnder bound count scale q = (k : ℕ) → k < count → q k * denominator_at bound k ≤ numerator_at bound k * scale

-- The block has a signature of the line's function, whose argument annotation lies under the line at the scale.
pub record IsUnder (P : Program) (d : ℕ) (line : Line) (scale : ℕ) (block : Block) : Type 0 where
  pub fun : NormFun
  pub there : slice_get P.funs line.fun ≡ Some fun
  pub sig : Sig
  pub signed : sig_in P block line.fun ≡ Some sig
  pub under : LiesUnder line.bound (size (types fun.params) d) scale (annotation sig.args)

-- The numbers at so many positions, over one denominator, are those that are declared.
abbrev pub AreDeclared : List Coefficient → ℕ → ℕ → Annotation → Type 0
AreDeclared bound count den q = (k : ℕ) → k < count → q k * denominator_at bound k ≡ numerator_at bound k * den

-- each tuple with the number at its position
abbrev pub with_numbers : List (List Plain) → Annotation → List Term
with_numbers [] q = []
with_numbers (t ∷ ts) q = (t, q 0) ∷ with_numbers ts (λ k. q (suc k))

-- the terms of the arguments' tuples
abbrev pub terms_at : List Type' → ℕ → Annotation → List Term
terms_at As d q = with_numbers (index_list As d) q
