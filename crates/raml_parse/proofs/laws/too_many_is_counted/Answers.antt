use Rattle.raml_parse.proofs.Counted.{too_many_counted}
use Rattle.raml_parse.proofs.laws.too_many_is_counted.Goals as goal

pub returns : goal.returns
returns c = too_many_counted
