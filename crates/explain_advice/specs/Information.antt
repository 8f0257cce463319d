-- What an editor is told of groups of functions that have no bound.
use Rattle.std.specs.Prelude.{ℕ, Option, Some, List, [], ◌∷◌, ◌++◌, map, option_map, codes, string_bytes}
use Rattle.std.specs.Str.{trim_end}
use Rattle.raml_syntax.specs.Tree.{Text, Prog}
use Rattle.lsp_language.specs.declared.insight.Diagnostic.{Diagnostic}
use Rattle.lsp_language.specs.declared.insight.Related.{Related}
use Rattle.lsp_language.specs.declared.insight.Severity.{Severity}
use Rattle.lsp_language.specs.declared.insight.Severity.TheVariants as severity
use Rattle.explain_degrees.specs.declared.finding.Findings.{Findings}
use Rattle.explain_reasons.specs.declared.reason.Explained.{Explained}
use Rattle.explain_sentences.specs.Heads.{first_head, next_head}
use Rattle.explain_sentences.specs.Reasons.{of_reason, closing}
use Rattle.explain_sentences.specs.Sentences.{Sentence, sentence}

-- a sentence of `explain why` behind what it begins with
abbrev pub headed : Text → Sentence → Sentence
headed head s = sentence s.at (head ++ s.text)

-- it with the lines below it, as `explain why` prints them, without the end of the last line
abbrev pub words : Text → Text → Text → Text
words head said lines = trim_end (head ++ (said ++ (codes "\n" ++ lines)))

-- what is told at one place, how much it weighs, and what is told at others
pub record Information : Type 0 where
  pub at : ℕ
  pub severity : Severity
  pub code : Option Text
  pub message : Text
  pub related : List Sentence

-- of a first sentence and of others
abbrev pub information : Text → Text → Text → Sentence → List Sentence → Information
information head next lines s others = record {
  at = s.at;
  severity = severity.Information;
  code = Some (codes "no-bound");
  message = words head s.text lines;
  related = map (headed next) others;
}

-- of all, where there are any
abbrev pub of_sentences : Text → Text → Text → List Sentence → List Information
of_sentences head next lines [] = []
of_sentences head next lines (s ∷ others) = information head next lines s others ∷ []

-- of the reason of a group, where analyses found this of all functions
abbrev pub of_group : Prog → List Findings → Explained → List Information
of_group P found e =
    of_sentences (first_head P found e.fun.0) (next_head P e.fun.0) (closing e.reason) (of_reason P e.fun.0 e.reason)

abbrev pub of_groups : Prog → List Findings → List Explained → List Information
of_groups P found [] = []
of_groups P found (e ∷ es) = of_group P found e ++ of_groups P found es

-- ---- what the code has, as plain data

abbrev pub relation_in : Related → Sentence
relation_in related = sentence related.span.start (string_bytes related.message)

abbrev pub relations_in : List Related → List Sentence
relations_in = map relation_in

abbrev pub information_in : Diagnostic → Information
information_in d = record {
  at = d.span.start;
  severity = d.severity;
  code = option_map string_bytes d.code;
  message = string_bytes d.message;
  related = relations_in d.related.items;
}

abbrev pub informations_in : List Diagnostic → List Information
informations_in = map information_in
