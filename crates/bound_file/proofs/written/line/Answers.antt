use Rattle.std.proofs.Common.{◌≡◌, ◌∙◌, sym, ap, arith, Some}
use Rattle.std.specs.Option.{option_map}
use Rattle.bound_file.specs.Seen.{parts_of}
use Rattle.bound_file.proofs.Placed.{parts_short}
use Rattle.bound_file.proofs.written.line.Goals as goal

pub line_from-requires : goal.line_from-requires
line_from-requires c =
    let is : c.cut_parts.result ≡ Some c.in-Some.parts = cc (c.in-Some.is) in
    let short = parts_short c.args.text.now (parts_of c.in-Some.parts) (sym c.cut_parts.ensures ∙ ap (option_map parts_of) is) in
    omega (arith, short, c.requires)
