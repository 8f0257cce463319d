use Rattle.std.proofs.Common.{rules}
use Rattle.explain_language.proofs.source.long_insight.Goals as goal

pub returns : goal.returns
returns c = record {
  long = c.requires;
  diagnostic = c.in_ok-too_long.field-0;
  one = search rules;
  start = c.in_ok-too_long.ensures.start;
  severity = c.in_ok-too_long.ensures.severity;
  message = c.in_ok-too_long.ensures.message;
}
