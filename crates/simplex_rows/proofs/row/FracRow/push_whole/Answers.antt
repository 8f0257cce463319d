use Rattle.std.proofs.Common.{◌≡◌, ◌∙◌, ap, subst, sym, Ok, pos, rules, arith, to_z}
use Rattle.std.proofs.lemmas.Int.{to_z-of_z}
use Rattle.std.specs.Int.{w128}
use Rattle.simplex_rows.specs.Entries.{EndsBefore}
use Rattle.simplex_rows.specs.Forms.{row_of}
use Rattle.simplex_rows.specs.ShortRows.{fractions_of}
use Rattle.simplex_rows.proofs.Appending.{adds_none, before_up_to}
use Rattle.simplex_rows.proofs.row.FracRow.push_whole.Goals as goal
use Rattle.simplex_rows.proofs.row.FracRow.push_whole.Goals.{in-Short+in_ok-push_whole+else-branch, in_default}

pub returns-then-branch-clause-before : goal.returns-then-branch-clause-before
returns-then-branch-clause-before c k h = c.in_ok-push_whole.ensures.before k h (ap Ok c.if-branch.true)

-- a 0 stores nothing
pub returns-then-n-eq0-clause-added : goal.returns-then-n-eq0-clause-added
returns-then-n-eq0-clause-added c =
    let zero : c.args.n ≡ pos 0 = sym (to_z-of_z w128 c.args.n (search rules)) ∙ ap (to_z w128) c.if-n-eq0.true in
    rw zero (adds_none c.args.column c.args.self.now c.requires)

pub returns-then-n-eq0-clause-before : goal.returns-then-n-eq0-clause-before
returns-then-n-eq0-clause-before c k h = before_up_to c.args.column k c.args.self.now c.requires (omega arith)

-- a row that does not take it among its short numbers is as it was
pub push_fraction-requires : goal.push_fraction-requires
push_fraction-requires c = elim c.match-self.branch [
  | in-Short+in_ok-push_whole+else-branch w ↦
      let before : EndsBefore c.args.column (fractions_of (row_of w.in-Short.row)) = rw w.in-Short.is at (subst (EndsBefore c.args.column) (sym c.self.view_is) c.requires) in
      rw (w.self-inside-is, w.in_ok-push_whole.ensures.kept (ap Ok w.if-branch.false)) before
  | in_default w ↦ rw (w.self-inside-is, c.self.view_is) c.requires
]
