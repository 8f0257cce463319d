use Rattle.std.proofs.Common.{◌+◌, string_bytes, decimal}
use Rattle.report_text.proofs.Joined.{two_and_three, at_end}
use Rattle.report_text.proofs.trial.push_copy.Goals as goal

pub returns : goal.returns
returns c =
    let n = decimal (c.args.before + 1) in
    let first = string_bytes c.push_numbered.new.text in
    let second = string_bytes c.push_numbered-2.new.text in
    let third = string_bytes c.push_str.new.self in
    let fourth = string_bytes c.push_copied.new.text in
    let last = string_bytes c.push_str-2.new.self in
    at_end c.push_str-2.result fourth last _ _ c.push_str-2.ensures.bytes
    (two_and_three (string_bytes c.args.text.now) first second third fourth last _ n _ n _ _ _ c.in_ok-push_numbered.ensures c.in_ok-push_numbered-2.ensures
    c.in_ok-push_str.ensures.bytes c.in_ok-push_copied.ensures)
