use Rattle.explain_top.proofs.editor.serve_editor.Goals as goal

pub returns-in-Some : goal.returns-in-Some
returns-in-Some g c = rw c.in-Some.is (c.serve-end.result, c.serve-end.ensures, c.leave_log.ensures)
