-- Uses in what is reached.
use Rattle.std.proofs.Common.{ℕ, List}
use Rattle.std.proofs.lemmas.List.Elements.{All-contains}
use Rattle.raml_syntax.specs.Tree.{Prog}
use Rattle.raml_syntax.specs.declared.program.FunId.{FunId}
use Rattle.explain_mending.specs.Reached.{IsReached, AreReached}
use Rattle.explain_uses.specs.Reached.{IsReachedUse, NamesOneOf}
use Rattle.explain_uses.specs.declared.later.LaterUse.{LaterUse}

pub use_reached : (P : Prog) (group : List ℕ) (funs : List FunId) (later : LaterUse) → AreReached P group funs → NamesOneOf P later funs → IsReachedUse P group later
use_reached P group funs later are names =
    record { fun = names.fun.0; named = names.named; reached = All-contains (λ (f : FunId). IsReached P group f.0) funs names.fun are names.one }
