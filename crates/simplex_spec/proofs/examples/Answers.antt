use Rattle.simplex_spec.specs.Example.{examples}
use Rattle.simplex_spec.proofs.Searching.{searches}
use Rattle.simplex_spec.proofs.examples.Goals as goal

pub returns-clause-tableaux : goal.returns-clause-tableaux
returns-clause-tableaux c = examples

pub returns-clause-searches : goal.returns-clause-searches
returns-clause-searches c = searches
