use Rattle.std.proofs.Common.{◌≡◌, ◌+◌, ◌-◌, ◌≤◌, [], ◌∷◌, ◌++◌, length, take, drop, ap, subst, sym, ◌∙◌, arith, refl, length-append}
use Rattle.raml_syntax.specs.Read.{program_of}
use Rattle.value_text.specs.Held.{held}
use Rattle.stack_compile.specs.Code.{bodies_of}
use Rattle.stack_compile.specs.Ready.{HasArguments}
use Rattle.stack_compile.specs.Read.{body_in}
use Rattle.metered_vm.specs.declared.machine.Frame.{Frame}
use Rattle.metered_vm.specs.Running.{stack_in, locals_below, AllBelow}
use Rattle.metered_vm.proofs.Lists.{length_stack, below_take, below_drop, below_append, below_locals_snoc}
use Rattle.metered_vm.proofs.Calling.{called_is, whole_rest}
use Rattle.metered_vm.proofs.calls.call.Goals as goal

pub overflow_sub-left : goal.overflow_sub-left
overflow_sub-left c =
    let x = c.args.m.now in
    let enough = subst (λ o. HasArguments o (stack_in x)) c.function.ensures c.requires.finds in
    omega (arith, enough, length_stack (held x.heap.cells) x.stack.items [], c.len.ensures, x.stack.ok.0)

pub returns-clause-does : goal.returns-clause-does
returns-clause-does c =
    let x = c.args.m.now in
    let hs = held x.heap.cells in
    let h = c.requires.sound in
    let body = body_in c.function.result.now in
    let enough : body.arity ≤ length x.stack.items =
    omega (arith, subst (λ o. HasArguments o (stack_in x)) c.function.ensures c.requires.finds, length_stack hs x.stack.items []) in
    let left = c.len.result - body.arity in
    let cut : left ≡ length x.stack.items - body.arity = omega (arith, c.len.ensures, x.stack.ok.0) in
    let frame : Frame = record { fun = x.fun; place = x.place + 1; locals = c.len-base.result - x.base } in
    let pushed = rw c.unwrap.ensures at c.push.ensures.items in
    let frames = pushed ∙ ap (λ l. l ++ frame ∷ []) c.reserve.ensures.items in
    let locals =
    c.in_ok-extend_from_slice.ensures.items ∙ ap (λ l. x.locals.items ++ take (length l - left) (drop left l)) c.deref.ensures.value
    ∙ ap (λ l. x.locals.items ++ l) (whole_rest left x.stack.items) in
    let begin : c.len-base.result ≡ length x.locals.items = omega (arith, c.len-base.ensures, x.locals.ok.0) in
    let count : frame.locals ≡ length x.locals.items - x.base = ap (λ n. n - x.base) begin in
    called_is hs (bodies_of (program_of c.args.code.now)) body c.args.fun frame x.place left x.base c.len-base.result x.stack.items _ x.locals.items _ x.frames.items _ c.function.ensures enough refl cut c.truncate.ensures.items locals frames h.base h.within count begin x.ticks x.cells x.made

pub returns-clause-sound : goal.returns-clause-sound
returns-clause-sound c =
    let x = c.args.m.now in
    let h = c.requires.sound in
    let n = length x.heap.cells in
    let left = c.len.result - c.function.result.now.arity in
    let frame : Frame = record { fun = x.fun; place = x.place + 1; locals = c.len-base.result - x.base } in
    let pushed = rw c.unwrap.ensures at c.push.ensures.items in
    let frames = pushed ∙ ap (λ l. l ++ frame ∷ []) c.reserve.ensures.items in
    let locals =
    c.in_ok-extend_from_slice.ensures.items ∙ ap (λ l. x.locals.items ++ take (length l - left) (drop left l)) c.deref.ensures.value
    ∙ ap (λ l. x.locals.items ++ l) (whole_rest left x.stack.items) in
    record {
      earlier = h.earlier;
      stack = subst (AllBelow n) (sym c.truncate.ensures.items) (below_take n _ _ h.stack);
      locals = subst (AllBelow n) (sym locals) (below_append n _ _ h.locals (below_drop n left _ h.stack));
      base = ap locals_below frames ∙ below_locals_snoc x.frames.items frame ∙ omega (arith, h.base, h.within, c.len-base.ensures, x.locals.ok.0);
      within = omega (arith, ap length locals, length-append x.locals.items (drop left x.stack.items), c.len-base.ensures, x.locals.ok.0);
      taken = h.taken;
      spare = h.spare;
    }
