-- What short programs derive.
use Rattle.std.proofs.Common.{◌≡◌, ◌≤◌, ℕ, List, [], ◌∷◌, refl, subst, arith}
use Rattle.std.specs.Prelude.{Result, Ok, Err}
use Rattle.parse_spec.specs.declared.Kind.TheVariants.{Syntax, TooDeep, TooMany}
use Rattle.parse_spec.specs.Reading.{Fault, parse_of, items_of}
use Rattle.parse_spec.proofs.Places.{Answers, parse_answers}
use Rattle.parse_table.specs.Tokens.{Token, Name, Key}
use Rattle.parse_table.specs.declared.token.Sign.TheVariants as s
use Rattle.parse_table.specs.Table.{Part, Whole, grammar}
use Rattle.parse_table.proofs.TheTable.{readable}
use Rattle.raml_syntax.specs.Tree as t
use Rattle.tests_front.specs.Parsed.{x, program, sum, sum_tree, parens, chain, call, ninth, ReadTokens}

-- what is computed is what is derived
answers : (d : ℕ) → 1 ≤ d → (s : List Token) (o : Result Part (Fault Token)) → parse_of grammar 0 d s ≡ o → Answers grammar 0 d s o
answers d le s o q = subst (Answers grammar 0 d s) q (parse_answers grammar readable 0 d le s)

sum_is : parse_of grammar 0 4 sum ≡ Ok (Whole (program sum_tree))
unfolding grammar items_of
sum_is = refl

deep_is : parse_of grammar 0 3 sum ≡ Err (TooDeep, Key 22 s.Minus ∷ Name 23 x ∷ [])
unfolding grammar items_of
deep_is = refl

parens_is : parse_of grammar 0 3 parens ≡ Ok (Whole (program (t.Var 19 x)))
unfolding grammar items_of
parens_is = refl

chain_is : parse_of grammar 0 200 chain ≡ Err (Syntax, Key 20 s.Less ∷ Name 21 x ∷ [])
unfolding grammar items_of
chain_is = refl

many_is : parse_of grammar 0 200 (call ninth) ≡ Err (TooMany, ninth)
unfolding grammar items_of
many_is = refl

ended_is : parse_of grammar 0 200 (call []) ≡ Err (Syntax, [])
unfolding grammar items_of
ended_is = refl

pub tokens_are_read : ReadTokens
tokens_are_read = record {
  derives = answers 4 (omega arith) sum (Ok (Whole (program sum_tree))) sum_is;
  too_deep = answers 3 (omega arith) sum (Err (TooDeep, Key 22 s.Minus ∷ Name 23 x ∷ [])) deep_is;
  inner = answers 3 (omega arith) parens (Ok (Whole (program (t.Var 19 x)))) parens_is;
  once = answers 200 (omega arith) chain (Err (Syntax, Key 20 s.Less ∷ Name 21 x ∷ [])) chain_is;
  too_many = answers 200 (omega arith) (call ninth) (Err (TooMany, ninth)) many_is;
  ended = answers 200 (omega arith) (call []) (Err (Syntax, [])) ended_is;
}
