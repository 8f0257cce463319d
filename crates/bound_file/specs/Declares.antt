-- What a line declares of a program, at a degree; or why it declares nothing.
use Rattle.std.specs.Prelude.{◌≡◌, ◌≤◌, ◌<◌, ◌^◌, ◌⊎◌, ◌↔◌, ◌==◌, ℕ, List, [], ◌∷◌, length, cond, slice_get, Some, None, Contains}
use Rattle.std.specs.Str.Parse.{digits_value}
use Rattle.raml_syntax.specs.Tree.{Text, Type', Function, Prog}
use Rattle.raml_syntax.specs.Types.{types_of}
use Rattle.raml_syntax.specs.Place.{place_of}
use Rattle.base_poly.specs.Plain.{Plain}
use Rattle.base_poly.specs.Indices.{index_list}
use Rattle.bound_file.specs.Lines.{Coefficient, Line, AscendFrom}
use Rattle.bound_file.specs.Spelling.{Term, tuple_text, Written, IsLine}
use Rattle.bound_file.specs.declared.fault.LineFault.{LineFault}
use Rattle.bound_file.specs.declared.fault.LineFault.TheVariants.{Shape, Number, Unknown, Index, Twice}

abbrev pub numerator_of : Term → ℕ
numerator_of t = digits_value 10 t.numerator

-- without a stroke it is 1
abbrev pub denominator_of : Term → ℕ
denominator_of t = cond (length t.denominator == 0) 1 (digits_value 10 t.denominator)

-- its numbers are from 1 to 2^127 - 1
pub record InRange (t : Term) : Type 0 where
  pub some : 0 < numerator_of t
  pub fits : numerator_of t < 2 ^ 127
  pub over_some : 0 < denominator_of t
  pub over_fits : denominator_of t < 2 ^ 127

abbrev pub AllInRange : List Term → Type 0
AllInRange [] = Unit {0}
AllInRange (t ∷ ts) = InRange t × AllInRange ts

-- the tuple that is so written stands at the position of these types
abbrev pub StandsAt : List Type' → ℕ → Text → ℕ → Type 0
StandsAt As d text k = (t : List Plain) × (slice_get (index_list As d) k ≡ Some t) × (text ≡ tuple_text t)

-- the coefficient is the term's, at a position of its tuple
pub record IsOf (As : List Type') (d : ℕ) (t : Term) (c : Coefficient) : Type 0 where
  pub at : StandsAt As d t.tuple c.position
  pub numerator : c.numerator ≡ numerator_of t
  pub denominator : c.denominator ≡ denominator_of t

-- the coefficient is that of one of the terms
abbrev pub IsOfSome : List Type' → ℕ → List Term → Coefficient → Type 0
IsOfSome As d ts c = (t : Term) × Contains ts t × IsOf As d t c

-- no term is written; or there are at most 2000 positions, and each term's tuple stands at one
abbrev pub HavePlaces : List Type' → ℕ → List Term → Type 0
HavePlaces As d ts = (ts ≡ []) ⊎ ((length (index_list As d) ≤ 2000) × ((t : Term) → Contains ts t → (k : ℕ) × StandsAt As d t.tuple k))

-- the bound that the terms declare: their coefficients and no others, in the order of positions
pub record IsBound (As : List Type') (d : ℕ) (ts : List Term) (cs : List Coefficient) : Type 0 where
  pub places : HavePlaces As d ts
  pub ascend : AscendFrom 0 cs
  pub exactly : (c : Coefficient) → Contains cs c ↔ IsOfSome As d ts c

-- a term is written, and there are more than 2000 positions; or a term's tuple stands at none
abbrev pub HaveNoPlaces : List Type' → ℕ → List Term → Type 0
HaveNoPlaces As d ts =
    ((0 < length ts) × (2000 < length (index_list As d)))
    ⊎ ((t : Term) × Contains ts t × ((k : ℕ) → StandsAt As d t.tuple k → ⊥))

-- Of a program, at a degree:
module _ (P : Prog) (d : ℕ) where
  -- what is written in the line has numbers in range, and its name is that of this function
  pub record Names (text : Text) (w : Written) (place : ℕ) (fun : Function) : Type 0 where
    pub is : IsLine text w
    pub ranged : AllInRange w.terms
    pub named : place_of w.name P ≡ Some place
    pub there : slice_get P place ≡ Some fun

  -- the line, as a text, declares this
  pub record Declares (text : Text) (line : Line) : Type 0 where
    pub written : Written
    pub fun : Function
    pub names : Names text written line.fun fun
    pub meter : line.meter ≡ written.meter
    pub bound : IsBound (types_of fun) d written.terms line.bound

  -- Why a line declares nothing: the first of these that is so.
  abbrev pub DeclaresNothing : Text → LineFault → Type 0
  DeclaresNothing text Shape = (w : Written) → IsLine text w → ⊥
  DeclaresNothing text Number = (w : Written) × IsLine text w × (AllInRange w.terms → ⊥)
  DeclaresNothing text Unknown = (w : Written) × IsLine text w × AllInRange w.terms × (place_of w.name P ≡ None)
  DeclaresNothing text Index =
      (w : Written) × (place : ℕ) × (fun : Function) × Names text w place fun × HaveNoPlaces (types_of fun) d w.terms
  DeclaresNothing text Twice = ⊥
