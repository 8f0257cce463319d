-- The examples compute.
use Rattle.std.proofs.Common.{ℕ, List, refl, ap, ◌++◌, arith}
use Rattle.std.specs.Prelude.{codes}
use Rattle.std.proofs.lemmas.Fmt.{decimal_digit}
use Rattle.lsp_frames.specs.Marks.{blank_line}
use Rattle.lsp_frames.specs.Example.{Examples}

pub examples_hold : Examples
examples_hold = record {
  two_lines = refl;
  no_line = refl;
  plain = refl;
  small_letters = refl;
  with_type = refl;
  greatest = refl;
  too_long = refl;
  much_too_long = refl;
  twice = refl;
  missing = refl;
  no_colon = refl;
  empty = refl;
  no_digits = refl;
  signed = refl;
  lone_newline = refl;
  two_messages = refl;
  part_of_one = refl;
  none_yet = refl;
  fault_behind = refl;
  blank_first = refl;
  written = ap (λ (ds : List ℕ). codes "Content-Length: " ++ (ds ++ (blank_line ++ codes "{}"))) (decimal_digit 2 (omega arith));
}
