-- What is answered of the tokens of a text.
use Rattle.std.proofs.Common.{◌≡◌, ◌≤◌, ◌⊎◌, ◌∙◌, inl, inr, ℕ, List, length, refl, subst, arith}
use Rattle.std.specs.Prelude.{Result, Ok, Err}
use Rattle.parse_spec.specs.Derives.{Derives}
use Rattle.parse_spec.specs.declared.Kind.{Kind}
use Rattle.parse_spec.specs.declared.Kind.TheVariants as d
use Rattle.parse_spec.specs.Reading.{Fault, parse_of}
use Rattle.parse_spec.proofs.Places.{Answers, parse_answers}
use Rattle.raml_syntax.specs.Tree.{Text, Prog}
use Rattle.parse_table.specs.Tokens.{Token}
use Rattle.parse_table.specs.Table.{Part, Whole, grammar}
use Rattle.parse_table.specs.Read.{Fails, pieces}
use Rattle.raml_parse.specs.Reports.{IsAt, Reports}
use Rattle.parse_table.specs.declared.stop.Stop.{Stop}
use Rattle.parse_table.specs.declared.stop.Stop.TheVariants as f
use Rattle.raml_syntax.specs.Node.{WithinLimits, program_nodes}
use Rattle.raml_parse.proofs.Limits.{within_limits, few_nodes}
use Rattle.raml_parse.specs.Spelling.{HasTokens, Spells, FirstFault, place_in}
use Rattle.raml_parse.specs.declared.fault.ParseFault.{ParseFault}
use Rattle.raml_parse.specs.declared.fault.ParseFault.TheVariants as p
use Rattle.parse_table.proofs.TheTable.{readable}
use Rattle.parse_table.specs.Steps.{program_in}

parse_is : (d : ℕ) (s : List Token) → parse_of grammar 0 d s ≡ program_in d s
unfolding grammar
parse_is d s = refl

module _ (source : Text) (tokens : List Token) (has : HasTokens source tokens) where
  answers : (o : Result Part (Fault Token)) → program_in 200 tokens ≡ o → Answers grammar 0 200 tokens o
  answers o q = subst (Answers grammar 0 200 tokens) (parse_is 200 tokens ∙ q) (parse_answers grammar readable 0 200 (omega arith) tokens)

  pub derives_is : (P : Prog) → program_in 200 tokens ≡ Ok (Whole P) → Derives grammar 0 200 tokens (Whole P)
  derives_is P q = answers (Ok (Whole P)) q

  pub spelled_is : (P : Prog) → program_in 200 tokens ≡ Ok (Whole P) → Spells source P
  spelled_is P q = record { tokens = tokens; has = has; derives = derives_is P q }

  -- the fault of the tokens is the first fault of the bytes
  pub fault_is : (k : Kind) (u : List Token) (fault : ParseFault) → program_in 200 tokens ≡ Err (k, u) → IsAt k (place_in (length source) u) fault → FirstFault source fault
  fault_is d.Syntax u (p.Syntax at) q w = record { tokens = tokens; has = has; rest = u; fault = answers (Err (d.Syntax, u)) q; place = w }
  fault_is d.TooDeep u (p.TooDeep at) q w = record { tokens = tokens; has = has; rest = u; fault = answers (Err (d.TooDeep, u)) q; place = w }
  fault_is d.TooMany u (p.TooMany at) q w = record { tokens = tokens; has = has; rest = u; fault = answers (Err (d.TooMany, u)) q; place = w }
  fault_is k u fault q w = absurd w

  pub fault_answered : (stop : Stop) (fault : ParseFault) → Fails stop (program_in 200 tokens) → Reports (length source) stop fault → (fault ≡ p.NoMemory) ⊎ FirstFault source fault
  fault_answered (f.Fault k u) fault q w = inr (fault_is k (pieces u.now) fault q w)
  fault_answered f.NoMemory fault q w = inl w

  pub limits_hold : (P : Prog) → program_in 200 tokens ≡ Ok (Whole P) → WithinLimits P
  limits_hold P q = within_limits 200 tokens P (derives_is P q)

  pub nodes_fit : (n : ℕ) → length tokens ≤ n → (P : Prog) → program_in 200 tokens ≡ Ok (Whole P) → program_nodes P ≤ n
  nodes_fit n le P q = let p = few_nodes 200 tokens P (derives_is P q) in omega (arith, p, le)
