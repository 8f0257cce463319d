use Rattle.std.proofs.Common.{◌≡◌, ◌≤◌, ◌+◌, length, Ok}
use denote.Shadow.{shadow}
use denote.Text.{Utf8}
use Rattle.price_file.specs.Listed.{nothing_listed}
use Rattle.price_file.specs.Spelling.{lines_of}
use Rattle.price_file.specs.Reading.{read_lines}
use Rattle.price_file.proofs.table.read_text.Given as goal

abbrev pub invariant-loop-rest : goal.invariant-loop-rest
invariant-loop-rest l = record {
  read : read_lines (Ok nothing_listed) 0 (lines_of l.text) ≡ read_lines (Ok l.prices.listed) l.number (lines_of l.rest);
  text : shadow (Utf8 l.rest);
  few : l.number + length l.rest ≤ length l.text;
}

abbrev pub decreases-loop-rest : goal.decreases-loop-rest
decreases-loop-rest l = length l.rest
