use Rattle.raml_promise.proofs.Again.{written_verifies}
use Rattle.raml_promise.proofs.laws.written_verifies.Goals as goal

pub returns : goal.returns
returns c = written_verifies c.known_laws.ensures
