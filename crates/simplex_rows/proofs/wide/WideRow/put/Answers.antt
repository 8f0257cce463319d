use Rattle.std.proofs.Common.{◌≢◌, refl, pos, arith}
use Rattle.simplex_rows.proofs.Appending.{append_sparse}
use Rattle.simplex_rows.proofs.wide.WideRow.put.Goals as goal

pub invariant_of-self-2 : goal.invariant_of-self-2
invariant_of-self-2 c =
    let n : c.args.number.num ≢ pos 0 = λ e. c.if-num-eq0.false (rw (c.num.ensures, e) refl) in
    rw c.in_ok-push.ensures.items (append_sparse 0 c.args.column c.args.number _ c.self.invariant (rw c.self.view_is c.requires) (omega arith) n)
