-- What the code has of what is told, as plain data.
use Rattle.std.specs.Prelude.{◌≤◌, ◌^◌, List, map}
use Rattle.raml_syntax.specs.Tree.{Text, Parameter}
use Rattle.raml_syntax.specs.Read.{parameter_of}
use Rattle.raml_syntax.specs.declared.program.Param.{Param}
use Rattle.explain_at.specs.Read.{all_given}
use Rattle.explain_sizes.specs.Read.{all_sizes, all_open}
use Rattle.explain_bounds.specs.Told as t
use Rattle.explain_bounds.specs.declared.fitted.Fitted.{Fitted}
use Rattle.explain_bounds.specs.declared.fitted.Fitted.TheVariants as v

-- the names of parameters
abbrev pub names_in : List Param → List Text
names_in params = map (λ (p : Parameter). p.name) (map parameter_of params)

abbrev pub told_of : Fitted → t.Told
told_of v.Nothing = t.Nothing
told_of (v.At gs ss) = t.At (all_given gs.now) (all_sizes ss.items)
told_of (v.Within meter most gs os) = t.Within meter most (all_given gs.now) (all_open os.items)

-- the number that a bound is to keep is at most 2^127
abbrev pub CanBeFitted : Fitted → Type 0
CanBeFitted (v.Within meter most gs os) = most ≤ 2 ^ 127
CanBeFitted _ = Unit {0}
