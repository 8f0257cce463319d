use Rattle.std.proofs.Common.{◌≢◌, refl, [], ◌∷◌, pos, arith}
use Rattle.std.proofs.lemmas.Int.{ints}
use Rattle.simplex_rows.specs.ShortRows.{WholesEndBefore}
use Rattle.simplex_rows.proofs.Wholes.{end_up_to, kept_whole}
use Rattle.simplex_rows.proofs.FewAppending.{end_both, put_some, pushed_short}
use Rattle.simplex_rows.proofs.few.FewRow.push.Goals as goal

pub returns-then-n-eq0-clause-before : goal.returns-then-n-eq0-clause-before
returns-then-n-eq0-clause-before c k h = end_up_to c.args.column k _ c.requires.before (omega arith)

pub invariant_of-self-2 : goal.invariant_of-self-2
invariant_of-self-2 c =
    let fits = c.requires.fits in
    let n_kept = kept_whole c.args.n (omega (arith, ints)) in
    let not_zero : c.args.n ≢ pos 0 = λ e. c.if-n-eq0.false (rw e refl) in
    let bound_fits = c.self.invariant.fits in
    let positive = c.self.invariant.positive in
    let den_within = c.self.invariant.den_within in
    let bound_kept = kept_whole c.self.inside.bound (omega (arith, ints)) in
    let max_fits = c.max-self-inside.type_inv in
    let max_kept = kept_whole c.max-self-inside.result (omega (arith, ints)) in
    let old = rw bound_kept at c.max-self-inside.ensures.self_bound in
    let size = rw n_kept at c.abs.ensures.value in
    let size_fits = c.abs.type_inv in
    let size_kept = kept_whole c.abs.result (omega (arith, ints)) in
    let new = rw size_kept at c.max-self-inside.ensures.other_bound in
    let before : WholesEndBefore c.args.column c.self.inside.entries.items = rw (← c.self.view_is) at c.requires.before in
    rw (max_kept, c.in_ok-push.ensures.items, n_kept) (pushed_short _ c.args.column c.args.n c.max-self-inside.result c.self.invariant before not_zero (omega (arith, ints)) (rw (← size) new) (omega (arith, ints)))

pub returns-clause-added : goal.returns-clause-added
returns-clause-added c =
    let fits = c.requires.fits in
    let n_kept = kept_whole c.args.n (omega (arith, ints)) in
    let not_zero : c.args.n ≢ pos 0 = λ e. c.if-n-eq0.false (rw e refl) in
    rw (c.in_ok-push.ensures.items, ← c.self.view_is, n_kept, put_some c.args.column c.args.n [] not_zero) refl

pub returns-clause-before : goal.returns-clause-before
returns-clause-before c k h =
    let before : WholesEndBefore c.args.column c.self.inside.entries.items = rw (← c.self.view_is) at c.requires.before in
    rw c.in_ok-push.ensures.items (end_both k c.self.inside.entries.items ((c.args.column, _) ∷ []) (end_up_to c.args.column k c.self.inside.entries.items before (omega arith)) (h, tt))
