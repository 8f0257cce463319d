use Rattle.std.proofs.Common.{◌≡◌, ap, sym, ◌∙◌, arith, ℕ, ◌+◌}
use Rattle.simplex_rows.specs.Entries.{Entries, at}
use Rattle.simplex.specs.declared.covering.TheConstants.{BLOCK}
use Rattle.simplex.specs.Standing.{entries_at}
use Rattle.simplex.proofs.Rows.{row_is}
use Rattle.simplex.proofs.Marks.{touching_more, touching_skips, is_none, is_not_none}
use Rattle.simplex.proofs.covering.push_touching.Goals.{then-ne+in_ok-push, else-ne}
use Rattle.simplex.proofs.covering.push_touching.Goals as goal

pub loop-i-preserved : goal.loop-i-preserved
loop-i-preserved c =
    let i : ℕ = c.loop-i.i in
    let read : (at c.args.s c.index-rows-i.result).num ≡ (at c.args.s (entries_at c.args.rows.now i)).num = ap (λ (es : Entries). (at c.args.s es).num) (row_is c.args.rows.now i c.index-rows-i.result (omega arith) c.index-rows-i.is) in
    elim c.if-ne.branch [
      | then-ne+in_ok-push w ↦
          touching_more c.args.s i c.args.rows.now c.loop-i.all.items c.if-ne.all.items (omega arith) c.loop-i.invariant
          (λ z. is_not_none (at c.args.s c.index-rows-i.result).num c.sign_at.result c.sign_at.ensures (sym c.ne.ensures ∙ w.if-ne.true) (read ∙ z)) (ap (λ v. v.items) w.all-is ∙ w.in_ok-push.ensures.items)
      | else-ne w ↦
          let none = sym read ∙ is_none (at c.args.s c.index-rows-i.result).num c.sign_at.result c.sign_at.ensures (sym c.ne.ensures ∙ w.if-ne.false) in
          rw w.all-is (touching_skips c.args.s i (i + 1) c.args.rows.now c.loop-i.all.items (omega arith) (omega arith) (λ j low high l n. let same : j ≡ i = omega (arith, low, high) in n (rw same none)) c.loop-i.invariant)
    ]

pub returns : goal.returns
returns c = touching_skips c.args.s c.loop-i.i (c.args.first + BLOCK) c.args.rows.now c.loop-i.all.items (omega arith) (omega arith) (λ i low high l n. omega arith) c.loop-i.invariant
