-- What is told behind a bound.
use Rattle.std.specs.Prelude.{◌≡◌, ◌≢◌, ◌⊎◌, ℕ, ◌^◌, nat_le, cond, List, [], ◌++◌, map, unwrap_or, Result, Ok, Err, codes, decimal}
use Rattle.raml_syntax.specs.Tree.{Text, Type'}
use Rattle.base_poly.specs.declared.tuple.Poly.{Poly}
use Rattle.cost_free.specs.declared.task.Meter.{Meter}
use Rattle.explain_algebra.specs.Algebra.{joined}
use Rattle.explain_sizes.specs.Sizes.{Sizes}
use Rattle.explain_sizes.specs.Counts.{whole_at}
use Rattle.explain_sizes.specs.Open.{OpenSizes, all_filled, KeepsWithin}
use Rattle.explain_sizes.specs.declared.within.Within as sizes
use Rattle.explain_sizes.specs.declared.within.Within.TheVariants.{Any, UpTo, Never}
use Rattle.explain_at.specs.Words.{Given, given_for}
use Rattle.explain_at.specs.Asked.{Fault, asked, asked_open}
use Rattle.explain_at.specs.Read.{all_given}
use Rattle.explain_bounds.specs.declared.asked.Asked.{Asked}
use Rattle.explain_bounds.specs.declared.asked.Asked.TheVariants as asked

-- What is told behind the bounds of a function: nothing; the value at sizes of its parameters, which were given so; or, of a meter, up to
-- which number in the open place of sizes the bound is at most some number.
pub data Told : Type 0 where
  Nothing : Told
  At : List Given → List Sizes → Told
  Within : Meter → ℕ → List Given → List OpenSizes → Told

abbrev pub told_at : List Given → Result (List OpenSizes) Fault → Result Told Fault
told_at gs (Ok os) = Ok (At gs (all_filled 0 os))
told_at gs (Err fault) = Err fault

abbrev pub told_within : Meter → ℕ → List Given → Result (List OpenSizes) Fault → Result Told Fault
told_within meter most gs (Ok os) = Ok (Within meter most gs os)
told_within meter most gs (Err fault) = Err fault

-- what is asked, of a function with these parameters, or why their sizes are not those that are given
abbrev pub told : Asked → List (Text × Type') → Result Told Fault
told asked.Nothing ps = Ok Nothing
told (asked.At gs) ps = told_at (all_given gs.now) (asked (all_given gs.now) ps)
told (asked.Within meter most gs) ps = told_within meter most (all_given gs.now) (asked_open (all_given gs.now) ps)

-- NAME=N
abbrev pub size_text : Text → ℕ → Text
size_text name n = name ++ (codes "=" ++ decimal n)

-- the sizes as they were given
abbrev pub given_text : List Given → Text
given_text gs = joined (codes ", ") (map (λ g. size_text g.0 g.1) gs)

-- the sizes of these names, with a number for those that were not given
abbrev pub sizes_text : List Given → List Text → ℕ → Text
sizes_text gs names n = joined (codes ", ") (map (λ x. size_text x (unwrap_or (given_for x gs) n)) names)

-- the value, or that it is greater
abbrev pub value_text : ℕ → Text
value_text n = cond (nat_le n (2 ^ 127)) (codes " = " ++ decimal n) (codes " is more than 2^127")

-- up to which number
abbrev pub within_text : List Given → List Text → sizes.Within → Text
within_text gs names Any = codes "any size"
within_text gs names (UpTo n) = sizes_text gs names n
within_text gs names Never = codes "none"

-- The tail of a bound of a meter, for parameters whose sizes have these names.
abbrev pub IsTail : Told → List Text → Meter → Poly → Text → Type 0
IsTail Nothing names meter poly tail = tail ≡ []
IsTail (At gs ss) names meter poly tail = tail ≡ value_text (whole_at poly ss) ++ (codes " at " ++ given_text gs)
IsTail (Within one most gs os) names meter poly tail =
    ((meter ≢ one) × (tail ≡ []))
    ⊎ ((meter ≡ one) × (within : sizes.Within) × KeepsWithin poly os most within
    × (tail ≡ codes "; at most " ++ (decimal most ++ (codes ": " ++ within_text gs names within))))
