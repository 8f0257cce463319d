use Rattle.std.proofs.Common.{refl}
use Rattle.explain_profile.specs.Read.{case_of}
use Rattle.explain_profile.proofs.Counted.{one_more}
use Rattle.explain_profile.proofs.rows.rows_of.Goals as goal

pub loop-line-preserved : goal.loop-line-preserved
loop-line-preserved c =
    let more = one_more (case_of c.args.case) c.args.lines.now c.loop-line.line-index _ c.loop-line.rows.items c.push.new.self.items _ c.loop-line-test.true
    c.in_ok-push.ensures.items refl c.loop-line.invariant.lines c.loop-line.invariant.counted c.in_ok-runs.ensures in
    record { lines = more.0; counted = more.1 }
