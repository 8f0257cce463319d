use Rattle.std.proofs.Common.{rules, ℕ, ℤ, pos, ◌*ℤ◌, FitsSigned, slice_index_or, sym, subst, arith}
use Rattle.std.specs.Int.{w128}
use Rattle.std.proofs.lemmas.List.Elements.{All-more}
use Rattle.bound_infer.proofs.Mapped.{all_of}
use Rattle.bound_infer.proofs.Ones.{one_times}
use Rattle.bound_infer.proofs.fitting.entries_fit.Goals as goal

pub loop-index-preserved : goal.loop-index-preserved
loop-index-preserved c =
    let es = c.args.entries.now in
    let k = c.loop-index.index in
    let read : FitsSigned w128 (slice_index_or es k (0, pos 0)).1 = search rules in
    All-more (λ (x : ℕ × ℤ). FitsSigned w128 (pos 1 *ℤ x.1)) es k (0, pos 0) c.loop-index-test.true c.loop-index.invariant
    (subst (FitsSigned w128) (sym (one_times (slice_index_or es k (0, pos 0)).1)) read)

pub returns : goal.returns
returns c =
    let l = c.loop-index-test.false in
    all_of (λ (x : ℕ × ℤ). FitsSigned w128 (pos 1 *ℤ x.1)) c.args.entries.now c.loop-index.index c.loop-index.invariant (λ q. omega (arith, q, l))
