use Rattle.std.proofs.Common.{◌≡◌, sym, ap, subst, Err, rules, FitsSigned, arith, length, get_or, pos}
use Rattle.std.proofs.lemmas.Int.{to_z-of_z}
use Rattle.std.specs.Int.{w128}
use Rattle.simplex_rows.specs.Entries.{EndsBefore}
use Rattle.linear_rows.specs.Terms.{unknown_at}
use Rattle.simplex.specs.declared.fault.Fault.{Fault}
use Rattle.simplex.proofs.Opens.{no_term, term_inside, untouched, term_more, term_leaves, of_error}
use Rattle.simplex.proofs.opening.push_terms.Goals as goal

pub loop-term-init : goal.loop-term-init
loop-term-init c = no_term c.args.column c.args.rows.now c.requires.before

pub push_term-requires-clause-inside : goal.push_term-requires-clause-inside
push_term-requires-clause-inside c =
    let count = c.loop-term.invariant.count in
    let inside = term_inside (length c.args.rows.now) c.loop-term.term-index c.args.terms.now c.requires.sparse c.requires.below c.loop-term-test.true in
    omega arith

pub push_term-requires-clause-before : goal.push_term-requires-clause-before
push_term-requires-clause-before c =
    subst (EndsBefore c.args.column) (sym (untouched c.args.column c.loop-term.term-index c.args.terms.now c.args.rows.now c.loop-term.rows c.requires.sparse c.loop-term-test.true c.loop-term.invariant))
    (c.requires.before (unknown_at c.args.terms.now c.loop-term.term-index) (term_inside (length c.args.rows.now) c.loop-term.term-index c.args.terms.now c.requires.sparse c.requires.below c.loop-term-test.true))

pub returns-in_err-push_term-clause-leaves : goal.returns-in_err-push_term-clause-leaves
returns-in_err-push_term-clause-leaves c i k e =
    let same : c.in_err-push_term.field-0.0 ≡ Fault.Leaves i k = of_error _ _ _ c.from_residual.ensures.1 e in
    let f = c.in_err-push_term.ensures.leaves i k (ap Err same) in
    let fits : FitsSigned w128 (get_or c.args.terms.now c.loop-term.term-index (0, pos 0)).1 = search rules in
    let n = simp (to_z-of_z w128 _ fits) at f.2 in
    let l = term_leaves (length c.args.rows.now) c.loop-term.term-index i c.args.terms.now c.requires.sparse c.requires.below c.loop-term-test.true f.0 n in
    (l.0, f.1, l.1)

pub loop-term-preserved : goal.loop-term-preserved
loop-term-preserved c =
    let fits : FitsSigned w128 (get_or c.args.terms.now c.loop-term.term-index (0, pos 0)).1 = search rules in
    let added = simp (to_z-of_z w128 _ fits) at c.in_ok-push_term.ensures.added in
    term_more c.args.column c.loop-term.term-index c.args.terms.now c.args.rows.now c.loop-term.rows c.push_term.new.rows c.requires.sparse c.loop-term-test.true c.loop-term.invariant added
