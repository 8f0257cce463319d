-- What a certificate that is held tells of a function and a meter.
use Rattle.std.specs.Prelude.{ℕ, ℤ, unsigned_abs, List, [], map, slice_get, slice_index_or, Option, None, Some}
use Rattle.normal_spec.specs.Norm.{NormFun}
use Rattle.normal_spec.specs.Context.{types}
use Rattle.base_poly.specs.Plain.{Plain}
use Rattle.base_poly.specs.Poly as p
use Rattle.base_poly.specs.Poly.{Term}
use Rattle.base_poly.specs.declared.tuple.Poly.{Poly}
use Rattle.cost_free.specs.declared.task.Meter.{Meter}
use Rattle.annot_types.specs.Program.{Program}
use Rattle.annot_types.specs.Certificate.{Entries, Sig, Certificate}
use Rattle.annot_types.specs.Signature.{cost_sig}
use Rattle.annot_types.specs.Held.{scale_of, terms_of}

-- a denominator, and terms over it
abbrev pub Told : Type 0
Told = ℕ × List Term

abbrev pub told_of : Poly → Told
told_of poly = (p.den_of poly, p.terms_of poly)

-- each number with the tuple of its position
abbrev pub over : List (List Plain) → Entries → List (List Plain × ℤ)
over tuples es = map (λ e. (slice_index_or tuples e.0 [], e.1)) es

abbrev pub told_by : ℕ → ℕ → Option NormFun → Option Sig → Option Told
told_by scale d (Some g) (Some s) = Some (scale, terms_of (types g.params) d s.args)
told_by scale d _ _ = None

-- the argument annotation of the function in the meter's solved block of its group, over the meter's scale; None where
-- there is no such block
abbrev pub told : Program → Certificate → ℕ → Meter → Option Told
told P c f meter = told_by (unsigned_abs (scale_of c meter)) c.degree (slice_get P.funs f) (cost_sig P meter c.blocks f)
