-- What the code of a program keeps.
use Rattle.std.specs.Prelude.{◌≡◌, List}
use Rattle.std.specs.List.{All}
use Rattle.raml_syntax.specs.Tree.{Function, Prog}
use Rattle.raml_syntax.specs.Types.{Typed}
use Rattle.raml_syntax.specs.Node.{AllNodes, NumberFits}
use Rattle.stack_compile.specs.Code.{Body, bodies_of}

-- the program is typed, its numbers have 64 bits, and these are the bodies of its functions
pub record IsCode (P : Prog) (bodies : List Body) : Type 0 where
  pub typed : Typed P
  pub numbers : All (λ (g : Function). AllNodes NumberFits g.body) P
  pub is : bodies ≡ bodies_of P
