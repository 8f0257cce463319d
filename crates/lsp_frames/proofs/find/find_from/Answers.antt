use Rattle.std.proofs.Common.{◌≡◌, true, sym, ap, ◌∙◌, drop, arith}
use Rattle.std.proofs.lemmas.List.{take_rest}
use Rattle.lsp_frames.specs.Marks.{begins}
use Rattle.lsp_frames.proofs.Places.{found_first, found_none}
use Rattle.lsp_frames.proofs.find.find_from.Goals as goal

pub returns-then-starts_with-clause-place : goal.returns-then-starts_with-clause-place
returns-then-starts_with-clause-place c =
    let bytes = c.args.bytes.now in
    let mark = c.args.mark.now in
    let here : begins mark (drop c.loop-place.place bytes) ≡ true =
    ap (begins mark) (sym (take_rest bytes c.loop-place.place)) ∙ sym c.starts_with.ensures.value ∙ c.if-starts_with.true in
    sym (found_first mark bytes c.loop-place.place c.loop-place.invariant here (omega arith))

pub returns-clause-place : goal.returns-clause-place
returns-clause-place c = sym (found_none c.args.mark.now c.args.bytes.now c.loop-place.place c.loop-place.invariant (omega arith))
