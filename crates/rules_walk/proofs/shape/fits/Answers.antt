use Rattle.std.proofs.Common.{arith, map}
use Rattle.annot_types.specs.Read as a
use Rattle.rules_walk.specs.Asks.{ask_of, asks_of}
use Rattle.rules_walk.proofs.Arms.{parts_length}
use Rattle.rules_walk.proofs.AskedAt.{fewer_fit, more_fit}
use Rattle.rules_walk.proofs.shape.fits.Goals as goal

pub returns-then-asks-hints : goal.returns-then-asks-hints
returns-then-asks-hints c = fewer_fit (asks_of c.args.asks.now) (map a.hint_of c.args.hints.now)
    (omega (arith, c.if-asks-hints.true, parts_length ask_of c.args.asks.now, parts_length a.hint_of c.args.hints.now))

pub returns-then-hints-asks : goal.returns-then-hints-asks
returns-then-hints-asks c = more_fit (asks_of c.args.asks.now) (map a.hint_of c.args.hints.now)
    (omega (arith, c.if-hints-asks.true, parts_length ask_of c.args.asks.now, parts_length a.hint_of c.args.hints.now))
