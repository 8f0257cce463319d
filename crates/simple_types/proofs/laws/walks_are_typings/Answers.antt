use Rattle.simple_types.proofs.Typing.{walks_are_typings}
use Rattle.simple_types.proofs.laws.walks_are_typings.Goals as goal

pub returns : goal.returns
returns c = walks_are_typings
