-- What types that are lent are as plain data.
use Rattle.std.specs.Prelude.{Option}
use Rattle.std.specs.Option.{option_map}
use Rattle.raml_syntax.specs.Tree.{Type', Integer, Boolean}
use Rattle.raml_syntax.specs.Read.{ty_of}
use Rattle.normal_operands.specs.declared.types.TyRef.{TyRef}
use Rattle.normal_operands.specs.declared.types.TyRef.TheVariants as y

abbrev pub lent : TyRef → Type'
lent y.Int = Integer
lent y.Bool = Boolean
lent (y.Of ty) = ty_of ty.now

-- the type that is wanted, if one is
abbrev pub wanted : Option TyRef → Option Type'
wanted = option_map lent
