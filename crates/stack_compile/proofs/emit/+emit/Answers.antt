use Rattle.std.proofs.Common.{◌∙◌, ap, slice_set}
use Rattle.stack_compile.specs.Emit.{here, binders, bound_in, leave_of}
use Rattle.stack_compile.specs.declared.instr.Instr.TheVariants.{Branch, Jump}
use Rattle.stack_compile.proofs.Patch.{fork_is}
use Rattle.stack_compile.proofs.emit.+emit.Goals as goal

pub emit_if-returns-clause-code : goal.emit_if-returns-clause-code
emit_if-returns-clause-code t c =
    let env = c.args.env in
    fork_is _ _ _ _ _ _ _ _ Branch (here env c.args.condition.now) (here env c.args.yes.now) (here env c.args.no.now) _ _ _ _ _ _ c.args.code.now.ok.0 c.in_ok-emit.ensures.code (c.len-leave.ensures ∙ c.emit.new.code.ok.0) c.in_ok-put.ensures.items c.put.new.code.ok.0 c.in_ok-emit-2.ensures.code (c.len-jump.ensures ∙ c.emit-2.new.code.ok.0) c.in_ok-put-2.ensures.items c.put-2.new.code.ok.0 c.in_ok-emit-3.ensures.code (c.len.ensures ∙ c.emit-3.new.code.ok.0)

pub emit_match-returns-clause-code : goal.emit_match-returns-clause-code
emit_match-returns-clause-code t c =
    let env = c.args.env in
    let written = ap (λ i. slice_set (slice_set c.emit-2.new.code.items c.len-leave.result i) c.len-jump.result (Jump c.len.result)) c.leave-2.ensures in
    written ∙ fork_is _ _ _ _ _ _ _ _ (leave_of c.args.case) (here env c.args.subject.now) (bound_in env (binders c.args.names.now) c.args.part.now) (here env c.args.empty.now) _ _ _ _ _ _ c.args.code.now.ok.0 c.in_ok-emit.ensures.code (c.len-leave.ensures ∙ c.emit.new.code.ok.0) c.in_ok-put.ensures.items c.put.new.code.ok.0 c.in_ok-emit_bound.ensures.code (c.len-jump.ensures ∙ c.emit_bound.new.code.ok.0) c.in_ok-put-2.ensures.items c.put-2.new.code.ok.0 c.in_ok-emit-2.ensures.code (c.len.ensures ∙ c.emit-2.new.code.ok.0)
