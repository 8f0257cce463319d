use Rattle.raml_promise.proofs.One.{causes_force}
use Rattle.raml_promise.proofs.laws.causes_force.Goals as goal

pub returns : goal.returns
returns c = causes_force c.known_laws.ensures
