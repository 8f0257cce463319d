use Rattle.std.proofs.Common.{string_bytes}
use Rattle.std.proofs.lemmas.Result.{IfOk-weaker}
use Rattle.base_poly.specs.Read.{context_of}
use Rattle.explain_algebra.specs.Algebra.{texts}
use Rattle.explain_verdicts.proofs.Reading.{over_is_found, reads_declared}
use Rattle.explain_verdicts.proofs.declared.read_declared.Goals as goal

pub read_bound-requires-clause-tuples : goal.read_bound-requires-clause-tuples
read_bound-requires-clause-tuples c =
    let over = rw c.in-Some.is at c.in_ok-poly.ensures.some in
    (over_is_found (context_of c.args.types.now) c.args.fractions.now c.requires c.in-Some.poly over).indices

pub read_bound-requires-clause-low : goal.read_bound-requires-clause-low
read_bound-requires-clause-low c =
    let over = rw c.in-Some.is at c.in_ok-poly.ensures.some in
    (over_is_found (context_of c.args.types.now) c.args.fractions.now c.requires c.in-Some.poly over).low

pub returns-in-Some : goal.returns-in-Some
returns-in-Some c =
    let over = rw c.in-Some.is at c.in_ok-poly.ensures.some in
    IfOk-weaker c.read_bound.result _ _
    (λ reading is. reads_declared (context_of c.args.types.now) (texts c.args.params.now) c.args.fractions.now c.in-Some.poly (string_bytes reading.sum) (string_bytes reading.legend) over is)
    c.read_bound.ensures
