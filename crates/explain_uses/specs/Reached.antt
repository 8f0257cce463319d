-- Later uses in what a group reaches by calls.
use Rattle.std.specs.Prelude.{◌≡◌, ℕ, List, Some}
use Rattle.std.specs.List.{Contains}
use Rattle.raml_syntax.specs.Tree.{Prog}
use Rattle.raml_syntax.specs.Place.{place_of}
use Rattle.raml_syntax.specs.declared.program.FunId.{FunId}
use Rattle.explain_mending.specs.Reached.{IsReached}
use Rattle.explain_uses.specs.declared.later.LaterUse.{LaterUse}

-- the use is in a function of the group, or in one that it reaches by calls
pub record IsReachedUse (P : Prog) (group : List ℕ) (later : LaterUse) : Type 0 where
  pub fun : ℕ
  pub named : place_of later.function.now P ≡ Some fun
  pub reached : IsReached P group fun

-- the use's function is one of these
pub record NamesOneOf (P : Prog) (later : LaterUse) (funs : List FunId) : Type 0 where
  pub fun : FunId
  pub named : place_of later.function.now P ≡ Some fun.0
  pub one : Contains funs fun
