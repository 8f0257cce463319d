use Rattle.std.proofs.Common.{Err, ap, refl, inr, codes}
use Rattle.explain_check.specs.Stores.{error_line}
use Rattle.explain_top.proofs.draft.leave_text.Goals as goal

pub returns-in_ok-push_error-in-Err-Failed-clause-ends : goal.returns-in_ok-push_error-in-Err-Failed-clause-ends
returns-in_ok-push_error-in-Err-Failed-clause-ends g c =
    let fault = c.in-Err-Failed.ensures in
    (error_line c.args.bounds.now (codes "cannot be written"), inr (inr (fault.kept, fault.failed (ap Err c.in-Err-Failed.field-0-is), refl, refl)), c.in_ok-push_error-in-Err-Failed.ensures)
