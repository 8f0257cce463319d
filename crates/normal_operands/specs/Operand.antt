-- What operands are as plain data.
use Rattle.std.specs.Prelude.{List, map}
use Rattle.raml_syntax.specs.Tree.{Type', Parameter}
use Rattle.raml_syntax.specs.Read.{ty_of, parameter_of}
use Rattle.raml_syntax.specs.declared.program.Param.{Param}
use Rattle.normal_spec.specs.One as one
use Rattle.normal_operands.specs.Read.{norm_in}
use Rattle.normal_operands.specs.declared.operand.Operand.{Operand}
use Rattle.normal_operands.specs.declared.operand.Operand.TheVariants.{Is, Binds}

abbrev pub operand_of : Operand → one.Operand
operand_of (Is x) = one.Is x
operand_of (Binds b) = one.Binds b.value.number (ty_of b.value.ty) (norm_in b.value.form)

abbrev pub operands_of : List Operand → List one.Operand
operands_of = map operand_of

-- the types of parameters
abbrev pub types_in : List Param → List Type'
types_in params = map (λ (p : Parameter). p.type) (map parameter_of params)
