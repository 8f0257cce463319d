use Rattle.parse_table.specs.Read.{pieces}
use Rattle.parse_table.proofs.TypeSteps.{type_is}
use Rattle.parse_table.proofs.types.+ty.Goals as goal

pub parse_type-returns-clause-same : goal.parse_type-returns-clause-same
parse_type-returns-clause-same t c = rw (type_is c.args.depth (pieces c.args.tokens.now) c.if-depth-eq0.false) c.parse_product.ensures.same
