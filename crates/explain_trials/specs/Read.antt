-- What the code has of a trial, as plain data.
use Rattle.std.specs.Prelude.{ℕ}
use Rattle.raml_syntax.specs.Read.{program_of}
use Rattle.explain_trials.specs.Trials.{IsTrial}
use Rattle.explain_trials.specs.declared.trial.Trial.{Trial}

-- the text was tried, up to this degree
abbrev pub IsTrialOf : ℕ → Trial → Type 0
IsTrialOf most trial = IsTrial trial.text.items most (program_of trial.typed) trial.found
