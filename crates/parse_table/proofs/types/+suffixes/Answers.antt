use Rattle.std.proofs.Common.{[], arith}
use Rattle.raml_syntax.specs.Read.{ty_of}
use Rattle.parse_table.specs.Table.{Types, Typing}
use Rattle.parse_table.specs.Forms.{suffix_rule}
use Rattle.parse_table.specs.Read.{pieces}
use Rattle.parse_table.proofs.Chains.{ended, full, suffix_more}
use Rattle.parse_table.proofs.types.+suffixes.Goals as goal

pub returns-in_default-clause-same : goal.returns-in_default-clause-same
returns-in_default-clause-same t c = ended Types c.args.depth 0 [] (Typing (ty_of c.args.base.value)) c.args.height (pieces c.args.tokens.now) c.in_default.ensures

pub returns-then-height-depth-clause-same : goal.returns-then-height-depth-clause-same
returns-then-height-depth-clause-same t c = full Types c.args.depth 0 [] (Typing (ty_of c.args.base.value)) c.args.height (pieces c.args.tokens.now) (suffix_rule c.in-Some.suffix) c.in-Some.ensures.0 (λ le. omega (arith, le, c.if-height-depth.true))

pub returns-clause-same : goal.returns-clause-same
returns-clause-same t c =
    rw (suffix_more c.args.depth c.args.height (pieces c.args.tokens.now) (Typing (ty_of c.args.base.value)) (Typing (ty_of c.in_ok-longer.longer.value)) c.in-Some.suffix (pieces c.in-Some.rest.now) c.in-Some.ensures.0 (omega (arith, c.if-height-depth.false)) c.in_ok-longer.ensures c.in-Some.ensures.1)
    c.parse_suffixes.ensures.same
