use Rattle.std.proofs.Common.{◌+◌, string_bytes, decimal}
use Rattle.report_text.proofs.Joined.{two_and_end, at_end}
use Rattle.report_text.proofs.trial.push_append.Goals as goal

pub returns : goal.returns
returns c =
    let n = decimal (c.args.before + 1) in
    let first = string_bytes c.push_numbered.new.text in
    let second = string_bytes c.push_numbered-2.new.text in
    let last = string_bytes c.push_str.new.self in
    at_end c.push_str.result second last _ _ c.push_str.ensures.bytes
    (two_and_end (string_bytes c.args.text.now) first second last _ n _ n _ c.in_ok-push_numbered.ensures c.in_ok-push_numbered-2.ensures)
