-- The values of an argument.
use Rattle.std.proofs.Common.{◌≡◌, List, [], Option, Result, Ok, Err, Vec, Global, IfOk, option_map, sym, ap, ◌∙◌}
use Rattle.std.specs.Prelude.{unwrap_or}
use Rattle.std.specs.Borrow.{Bor}
use Rattle.clap.specs.Matches.{matched_of, raw_values}
use Rattle.clap.specs.Walk.{Text, rows_of}
use Rattle.clap.specs.declared.parser.matches.Found.{Found}
use Rattle.clap.proofs.WalkLemmas.{raw_values-rows}
use Rattle.explain_words.specs.Commands.{texts, values}

-- the values that are found, or none
pub found_values : (f : Found) (id : Text) (found : Option (Bor (List (Bor Text)))) → option_map (λ (s : Bor (List (Bor Text))). texts s.now) found ≡ option_map raw_values (matched_of f id)
    → values id (rows_of f) ≡ unwrap_or (option_map (λ (s : Bor (List (Bor Text))). texts s.now) found) []
found_values f id found is = ap (λ o. unwrap_or o []) (sym (is ∙ raw_values-rows f id))

pub copied : {E : Type 0} (values : List Text) (held : List (Bor Text)) (made : Result (Vec (Bor Text) Global) E) → IfOk made (λ v. v.items ≡ held) → values ≡ texts held
    → IfOk made (λ v. values ≡ texts v.items)
copied values held (Ok v) same are = are ∙ ap texts (sym same)
copied values held (Err e) same are = tt
