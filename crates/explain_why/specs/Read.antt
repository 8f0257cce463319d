-- What the code has of texts that may be there.
use Rattle.std.specs.Prelude.{ℕ, Option, option_map}
use Rattle.std.specs.Global.{Vec}
use Rattle.std.specs.Borrow.{Bor}
use Rattle.raml_syntax.specs.Tree.{Text}
use Rattle.explain_why.specs.Outcome.{Outcome, outcome}
use Rattle.explain_why.specs.declared.call.Told.{Told}

-- bytes that are lent
abbrev pub text_in : Option (Bor Text) → Option Text
text_in = option_map (λ (text : Bor Text). text.now)

-- bytes that are kept
abbrev pub bytes_in : Option (Vec ℕ) → Option Text
bytes_in = option_map (λ (bytes : Vec ℕ). bytes.items)

-- what a call comes to, with what it appends to both texts
abbrev pub outcome_of : Told → Text → Text → Outcome
outcome_of told text report = outcome told.end (bytes_in told.changed) text report
