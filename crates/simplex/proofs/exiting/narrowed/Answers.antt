use Rattle.std.proofs.Common.{◌≡◌, refl, sym, ap, subst, Err, arith, ◌<◌, ◌≤◌, ◌+◌, ◌-◌, length, get_or, ℕ, List}
use Rattle.simplex_spec.specs.Places.{counted}
use Rattle.simplex.specs.declared.fault.Fault.{Fault}
use Rattle.simplex.specs.Among.{Among}
use Rattle.simplex.specs.Ties.{AreTied, RatioLeaves, columns_to}
use Rattle.simplex.proofs.Narrowing.{Narrowed, narrowed_first, narrowed_next, narrowed_to, columns_first, columns_next, columns_at, search_first, search_next, search_ends, first_among}
use Rattle.simplex.proofs.Opens.{of_error}
use Rattle.simplex.proofs.exiting.narrowed.Goals.{then-loop-alloc-test+else-column-right, else-loop-alloc-test}
use Rattle.simplex.proofs.exiting.narrowed.Goals as goal

pub returns-in_err-tied-clause-leaves : goal.returns-in_err-tied-clause-leaves
returns-in_err-tied-clause-leaves c i k e =
    let same : c.in_err-tied.field-0.0 ≡ Fault.Leaves i k = of_error _ _ _ c.from_residual.ensures.1 e in
    search_first (columns_to c.args.right c.args.slack c.args.right) (counted c.args.slack (c.args.right - c.args.slack)) c.args.right c.args.entering c.args.rows.now c.args.all.now i k refl c.requires.bounding (c.in_err-tied.ensures.leaves i k (ap Err same))

pub next_column-column-requires-clause-inside : goal.next_column-column-requires-clause-inside
next_column-column-requires-clause-inside c i a =
    let t = c.in_ok-tied.ensures.tied in
    (c.requires.bounding.only i (t.1.subset i (subst (Among i) c.deref.ensures.value a))).inside

pub loop-alloc-init : goal.loop-alloc-init
loop-alloc-init c =
    let t = c.in_ok-tied.ensures.tied in
    let n = c.next_column-column.ensures in
    let first : Narrowed (columns_to c.args.right c.args.slack c.args.slack) c.args.entering c.args.rows.now c.in_ok-tied.tied.items =
    subst (λ (cs : List ℕ). Narrowed cs c.args.entering c.args.rows.now c.in_ok-tied.tied.items) (sym (columns_first c.args.right c.args.slack))
    (narrowed_first c.args.right c.args.entering c.args.rows.now c.args.all.now c.in_ok-tied.tied.items t.0 c.requires.bounding (get_or c.args.all.now 0 0, first_among c.args.all.now 0 c.requires.some) t.1) in
    (narrowed_to c.args.right c.args.slack c.args.slack c.next_column-column.result c.args.entering c.args.rows.now c.in_ok-tied.tied.items (omega arith) n.after (λ i k a h l. n.none i k (subst (Among i) (sym c.deref.ensures.value) a) h l) first, n.after, n.before)

pub ties-requires-in-loop-alloc : goal.ties-requires-in-loop-alloc
ties-requires-in-loop-alloc c i a = c.loop-alloc.invariant.0.bounding i (subst (Among i) c.deref-in-loop-alloc.ensures.value a)

pub returns-in_err-tied-2-clause-leaves : goal.returns-in_err-tied-2-clause-leaves
returns-in_err-tied-2-clause-leaves c i k e =
    let same : c.in_err-tied-2.field-0.0 ≡ Fault.Leaves i k = of_error _ _ _ c.from_residual-in_err-tied-2.ensures.1 e in
    let more : 1 < length c.loop-alloc.tied.items = grind (arith, c.len.ensures, c.loop-alloc-test.true) in
    let r : RatioLeaves c.args.entering c.loop-alloc.column c.args.rows.now c.deref-in-loop-alloc.result.now i k = c.in_err-tied-2.ensures.leaves i k (ap Err same) in
    let low : c.args.slack ≤ c.loop-alloc.column = c.loop-alloc.invariant.1 in
    search_next (columns_to c.args.right c.args.slack c.args.right) (columns_to c.args.right c.args.slack c.loop-alloc.column) (counted (c.loop-alloc.column + 1) (c.args.right - (c.loop-alloc.column + 1))) c.loop-alloc.column c.args.entering c.args.rows.now c.loop-alloc.tied.items i k
    (columns_at c.args.right c.args.slack c.loop-alloc.column low (omega arith)) c.loop-alloc.invariant.0 more (subst (λ (is : List ℕ). RatioLeaves c.args.entering c.loop-alloc.column c.args.rows.now is i k) c.deref-in-loop-alloc.ensures.value r)

pub next_column-column-requires-in-loop-alloc-clause-inside : goal.next_column-column-requires-in-loop-alloc-clause-inside
next_column-column-requires-in-loop-alloc-clause-inside c i a =
    let t = c.in_ok-tied-2.ensures.tied in
    (c.loop-alloc.invariant.0.bounding i (subst (Among i) c.deref-in-loop-alloc.ensures.value (t.1.subset i (subst (Among i) c.deref-in-loop-alloc-2.ensures.value a)))).inside

pub loop-alloc-preserved : goal.loop-alloc-preserved
loop-alloc-preserved c =
    let t = c.in_ok-tied-2.ensures.tied in
    let n = c.next_column-column-in-loop-alloc.ensures in
    let low : c.args.slack ≤ c.loop-alloc.column = c.loop-alloc.invariant.1 in
    let r : AreTied c.args.entering c.loop-alloc.column c.args.rows.now c.loop-alloc.tied.items c.in_ok-tied-2.tied.items t.0 = subst (λ (is : List ℕ). AreTied c.args.entering c.loop-alloc.column c.args.rows.now is c.in_ok-tied-2.tied.items t.0) c.deref-in-loop-alloc.ensures.value t.1 in
    let next : Narrowed (columns_to c.args.right c.args.slack (c.loop-alloc.column + 1)) c.args.entering c.args.rows.now c.in_ok-tied-2.tied.items =
    subst (λ (cs : List ℕ). Narrowed cs c.args.entering c.args.rows.now c.in_ok-tied-2.tied.items) (sym (columns_next c.args.right c.args.slack c.loop-alloc.column low))
    (narrowed_next (columns_to c.args.right c.args.slack c.loop-alloc.column) c.loop-alloc.column c.args.entering c.args.rows.now c.loop-alloc.tied.items c.in_ok-tied-2.tied.items t.0 c.loop-alloc.invariant.0 r) in
    let after = n.after in
    (narrowed_to c.args.right c.args.slack (c.loop-alloc.column + 1) c.next_column-column-in-loop-alloc.result c.args.entering c.args.rows.now c.in_ok-tied-2.tied.items (omega arith) n.after (λ i k a h l. n.none i k (subst (Among i) (sym c.deref-in-loop-alloc-2.ensures.value) a) h l) next, omega arith, n.before)

pub returns-clause-row : goal.returns-clause-row
returns-clause-row c =
    search_ends c.args.right c.args.slack c.loop-alloc.column c.args.entering c.args.rows.now c.loop-alloc.tied.items c.index.result.now c.loop-alloc.invariant.1 c.loop-alloc.invariant.2 c.loop-alloc.invariant.0 c.index.ensures (λ more below. elim c.loop-alloc-test.branch [
      | then-loop-alloc-test+else-column-right w ↦ omega (arith, w.if-column-right.false)
      | else-loop-alloc-test w ↦ grind (arith, c.len.ensures, w.loop-alloc-test.false)
    ])
