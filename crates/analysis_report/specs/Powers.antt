-- The lines of bounds as powers of element counts.
use Rattle.std.specs.Prelude.{◌≡◌, ◌<◌, ◌⊎◌, ℕ, ◌*◌, pos, true, false, List, length, flat_map, slice_get, Some}
use Rattle.std.specs.List.{Contains, range_with_len}
use Rattle.raml_syntax.specs.Tree.{Text, Type', Function, Prog}
use Rattle.raml_syntax.specs.Types.{types_of}
use Rattle.raml_syntax.specs.Value.{Value}
use Rattle.base_poly.specs.Poly.{Term}
use Rattle.poly_point.specs.Point.{worth}
use Rattle.bound_compare.specs.Powers.{Powers, are_flat, ArePowers, Fits, Leaves, powers_worth, element_counts}
use Rattle.bound_compare.specs.Text.{powers_line, not_flat_line}
use Rattle.cost_free.specs.declared.task.Meter.{Meter}
use Rattle.cost_free.specs.Schedule.{meters}
use Rattle.annot_types.specs.Program.{Program}
use Rattle.annot_types.specs.Certificate.{Certificate, has_work}
use Rattle.annot_types.specs.Held as c
use Rattle.annot_types.specs.Held.{Claim, Bound}
use Rattle.report_text.specs.Names.{name_at, meter_text}
use Rattle.report_text.specs.Claims.{no_bound_line, calls_line}
use Rattle.analysis_report.specs.Floors.{rank}
use Rattle.analysis_report.specs.Lines.{Claims}

-- What is told of a function and a meter: powers over a denominator; that the function is not flat; that there is no
-- bound; or that there is none since a function that is called has none.
pub data PowerClaim : Type 0 where
  InPowers : ℕ → Powers → PowerClaim
  NotFlat : PowerClaim
  NoBound : PowerClaim
  CallsUnbounded : ℕ → PowerClaim

-- The powers of the bound of a flat function, over 24 times its denominator. At the element counts of any arguments
-- they are worth what it is.
pub record ArePowersOf (As : List Type') (den : ℕ) (terms : List Term) (over : ℕ) (ps : Powers) : Type 0 where
  pub flat : are_flat As ≡ true
  pub positive : 0 < den
  pub over_is : over ≡ 24 * den
  pub powers : ArePowers terms ps
  pub worth : (values : List Value) → length values ≡ length As → powers_worth (element_counts values) ps ≡ pos (24 * worth terms values)

-- what is told of a claim on a function with these parameter types
abbrev pub IsPowersOf : List Type' → Claim → PowerClaim → Type 0
IsPowersOf As (Bound den terms) (InPowers over ps) = ArePowersOf As den terms over ps
IsPowersOf As (Bound den terms) told = (told ≡ NotFlat) × (are_flat As ≡ false)
IsPowersOf As c.NoBound told = told ≡ NoBound
IsPowersOf As (c.CallsUnbounded f) told = told ≡ CallsUnbounded f

-- of what the certificate claims
pub record ToldInPowers (N : Program) (c : Certificate) (f : ℕ) (g : Function) (meter : Meter) (told : PowerClaim) : Type 0 where
  pub claim : Claim
  pub claims : Claims N c f meter claim
  pub is : IsPowersOf (types_of g) claim told

-- the line of a function and a meter: where there is no bound, that of an analysis
abbrev pub power_line : Prog → Text → Meter → PowerClaim → Text
power_line P name meter (InPowers over ps) = powers_line name (meter_text meter) over ps
power_line P name meter NotFlat = not_flat_line name (meter_text meter)
power_line P name meter NoBound = no_bound_line name meter
power_line P name meter (CallsUnbounded f) = calls_line name meter (name_at P f)

-- where a flat function has a bound, its powers fit 128 bits
abbrev pub FitsAt : Prog → Program → Certificate → ℕ → Meter → Type 0
FitsAt P N c f meter =
    (g : Function) (den : ℕ) (terms : List Term) → slice_get P f ≡ Some g → are_flat (types_of g) ≡ true →
    Claims N c f meter (Bound den terms) → Fits den terms

-- a flat function has a bound whose powers do not
pub record LeavesAt (P : Prog) (N : Program) (c : Certificate) (f : ℕ) (meter : Meter) : Type 0 where
  pub fun : Function
  pub there : slice_get P f ≡ Some fun
  pub flat : are_flat (types_of fun) ≡ true
  pub den : ℕ
  pub terms : List Term
  pub claims : Claims N c f meter (Bound den terms)
  pub leaves : Leaves den terms

-- the order of lines: by functions, and then by meters
abbrev pub IsBefore : ℕ → Meter → ℕ → Meter → Type 0
IsBefore g m f meter = (g < f) ⊎ ((g ≡ f) × (rank m < rank meter))

-- all that the certificate counts before this place fit
abbrev pub AllFitBefore : Prog → Program → Certificate → ℕ → Meter → Type 0
AllFitBefore P N c f meter = (g : ℕ) (m : Meter) → Contains (meters (has_work c)) m → IsBefore g m f meter → FitsAt P N c g m

-- all that it counts fit
abbrev pub ArePowersFitting : Prog → Program → Certificate → Type 0
ArePowersFitting P N c = (f : ℕ) (meter : Meter) → Contains (meters (has_work c)) meter → FitsAt P N c f meter

-- the first of the lines whose powers do not fit
pub record FirstLeaves (P : Prog) (N : Program) (c : Certificate) (f : ℕ) (meter : Meter) : Type 0 where
  pub counted : Contains (meters (has_work c)) meter
  pub leaves : LeavesAt P N c f meter
  pub before : AllFitBefore P N c f meter

-- the lines of a function
abbrev pub power_lines_of : Prog → Certificate → ℕ → (Meter → PowerClaim) → Text
power_lines_of P c f told = flat_map (λ meter. power_line P (name_at P f) meter (told meter)) (meters (has_work c))

-- The text is the bounds in powers: for each function, in the order of the source, a line for each meter that the
-- certificate counts. All of them fit.
pub record ArePowerLines (P : Prog) (N : Program) (c : Certificate) (text : Text) : Type 0 where
  pub told : ℕ → Meter → PowerClaim
  pub each : (f : ℕ) (g : Function) (meter : Meter) → slice_get P f ≡ Some g →
      Contains (meters (has_work c)) meter → ToldInPowers N c f g meter (told f meter)
  pub is : text ≡ flat_map (λ f. power_lines_of P c f (told f)) (range_with_len 0 (length P))
  pub fits : ArePowersFitting P N c
