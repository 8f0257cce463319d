use Rattle.std.proofs.Common.{Some, refl, inl, string_bytes}
use Rattle.explain_profile_call.specs.Calls.{FunctionIs, no_sizes_line}
use Rattle.explain_profile_call.specs.Read.{callee_of}
use Rattle.explain_profile_call.proofs.Calling.{refused}
use Rattle.explain_profile_call.proofs.call.tell_words.Goals as goal

pub returns-in-Err : goal.returns-in-Err
returns-in-Err c =
    refused (FunctionIs (callee_of c.args.callee) (Some c.args.at.now)) (string_bytes c.args.text.now) (string_bytes c.args.report.now)
    (string_bytes c.refuse_words.new.report) (no_sizes_line c.in-Err.fault) c.refuse_words.result
    (inl (refl, refl, (c.in-Err.fault, c.in-Err.ensures.fault, refl))) c.refuse_words.ensures.end c.refuse_words.ensures.report
