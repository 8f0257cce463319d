use Rattle.std.proofs.Common.{◌≡◌, ◌≤◌, ◌+◌, [], length, Ok}
use denote.Shadow.{shadow}
use denote.Text.{Utf8}
use Rattle.std.specs.List.{All}
use Rattle.raml_syntax.specs.Read.{program_of}
use Rattle.bound_file.specs.Answers.{lines_in}
use Rattle.bound_file.specs.Read.{lines_of, IsSigned}
use Rattle.bound_file.specs.Lined.{read_lines}
use Rattle.bound_file.proofs.file.read_text.Given as goal

abbrev pub invariant-loop-rest : goal.invariant-loop-rest
invariant-loop-rest l = record {
  read : read_lines (program_of l.program) l.degree (Ok []) 0 (lines_in l.text) ≡ read_lines (program_of l.program) l.degree (Ok (lines_of l.lines.items)) l.number (lines_in l.rest);
  signed : All IsSigned l.lines.items;
  text : shadow (Utf8 l.rest);
  few : l.number + length l.rest ≤ length l.text;
}

abbrev pub decreases-loop-rest : goal.decreases-loop-rest
decreases-loop-rest l = length l.rest
