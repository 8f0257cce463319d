use Rattle.std.proofs.Common.{◌∙◌, sym, ap, arith, drop, ◌+◌}
use Rattle.bound_file.specs.Tuples.{reads, next_first, is_done}
use Rattle.bound_file.proofs.Stacks.{stuck, met_none, met_some, done}
use Rattle.bound_file.proofs.tuple.reads.Goals as goal

pub returns-in_default : goal.returns-in_default
returns-in_default c =
    sym (stuck c.loop-byte.seen c.loop-byte.goals.items c.args.text.now c.loop-byte.byte-index (omega (arith, c.in_default.ensures.cases.0, c.loop-byte.goals.ok.0)) c.loop-byte-test.true) ∙ c.loop-byte.invariant

pub returns-then-not-can : goal.returns-then-not-can
returns-then-not-can c =
    sym (met_none c.loop-byte.seen c.in-Some.goal c.loop-byte.goals.items c.pop.new.self.items c.meet.new.goals.items c.args.text.now c.loop-byte.byte-index _ c.in_ok-can.can c.in-Some.ensures.items c.loop-byte-test.true c.if-not-can.true c.in_ok-can.ensures)
    ∙ c.loop-byte.invariant

pub loop-byte-preserved : goal.loop-byte-preserved
loop-byte-preserved c =
    ap (λ s. reads s (next_first c.meet.new.goals.items) (drop (c.loop-byte.byte-index + 1) c.args.text.now)) c.seen_by-seen.ensures
    ∙ sym (met_some c.loop-byte.seen c.in-Some.goal c.loop-byte.goals.items c.pop.new.self.items c.meet.new.goals.items c.args.text.now c.loop-byte.byte-index _ c.in_ok-can.can c.in-Some.ensures.items c.loop-byte-test.true c.if-not-can.false c.in_ok-can.ensures)
    ∙ c.loop-byte.invariant

pub returns : goal.returns
returns c =
    c.is_done.ensures ∙ ap (is_done c.loop-byte.seen) c.deref.ensures.value
    ∙ done c.loop-byte.seen c.loop-byte.goals.items c.args.text.now c.loop-byte.byte-index (omega (arith, c.loop-byte-test.false)) ∙ c.loop-byte.invariant
