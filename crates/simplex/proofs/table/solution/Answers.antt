use Rattle.std.proofs.Common.{◌≡◌, ◌+◌, ℕ, ap, subst, neg_ℤ, length}
use Rattle.frac128.specs.Values.{numerator, denominator}
use Rattle.simplex_rows.specs.Entries.{at}
use Rattle.simplex.specs.Reading.{HaveParts}
use Rattle.simplex.proofs.Solves.{if_ok}
use Rattle.simplex.proofs.Tables.{reads_solution}
use Rattle.simplex.proofs.table.solution.Goals as goal

pub returns : goal.returns
returns c t after = if_ok c.negated_at.result _ _ (λ ys h.
    let slack : length c.rows.result.now ≡ length c.args.system.now.rows = ap length c.rows.ensures.all in
    reads_solution c.args.system.now c.rows.ensures.sound c.args.table.now.pivots.items c.args.table.now.basis.items c.args.table.now.rows.items c.args.table.now.gains t after ys.items
    (subst (λ (k : ℕ). HaveParts c.args.system.now.unknowns (λ i. neg_ℤ (numerator (at (k + i) c.args.table.now.gains))) (λ i. denominator (at (k + i) c.args.table.now.gains)) ys.items) slack
    (subst (λ (n : ℕ). HaveParts n (λ i. neg_ℤ (numerator (at (length c.rows.result.now + i) c.args.table.now.gains))) (λ i. denominator (at (length c.rows.result.now + i) c.args.table.now.gains)) ys.items) c.unknowns.ensures h)))
    c.negated_at.ensures
