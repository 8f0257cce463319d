-- How phrases are read, in the steps in which the code reads them.
use Rattle.std.specs.Prelude.{ℕ, suc, max, List, [], ◌∷◌, Result, Ok, Err, nat_le, if◌then◌else◌}
use Rattle.parse_spec.specs.Rules.{opening}
use Rattle.parse_spec.specs.declared.Kind.TheVariants.{Syntax, TooDeep}
use Rattle.parse_spec.specs.Reading.{Fault, Answer, ◌>>=◌, rest_of, pick, formed, parts, starts_at, goes_at, more_of, again_of, chain_of}
use Rattle.parse_spec.specs.Reading.{rule_of, level_of, read, whole_of}
use Rattle.parse_table.specs.Tokens.{Token}
use Rattle.parse_table.specs.Table.{Part, At, Class, Types, Exprs, Rules, text_rule, grammar}
use Rattle.parse_table.specs.Forms.{infix_level, infix_rule}
use Rattle.parse_table.specs.declared.form.Infix.{Infix}

-- the rest of a form by a rule, after these values, with parts of height d at most
abbrev pub reads : ℕ → Rules → List Part → List Token → Answer Token Part
reads d r vs s = rule_of grammar (read grammar 0 d) 0 d r vs s

-- a form by a rule, at p, with parts of height d at most; u are the tokens behind the first of s
abbrev pub form_by : ℕ → Rules → ℕ → List Token → List Token → Answer Token Part
form_by d r p s u = if nat_le (parts r) d then formed (reads d r (At p ∷ []) u) else Err (TooDeep, s)

-- What goes on from a phrase e of level n, where parts have height d at most and w is the value of its
-- first token. Shut, so that goals stay short.
unfoldable pub goes_on : Class → ℕ → ℕ → List Part → Part → ℕ → List Token → Answer Token Part
goes_on c d n w e h s = chain_of grammar (read grammar 0 d) 0 d c n w (suc d) e h s

-- the same by its first step
abbrev pub more_on : Class → ℕ → ℕ → List Part → Part → ℕ → List Token → Answer Token Part
more_on c d n w e h s =
    more_of grammar (read grammar 0 d) 0 d w (again_of (grammar.chains c n) (goes_on c d n w)) (goes_at grammar c n s) e h s

-- what stands behind an operator with the left operand e of height h
abbrev pub behind_of : ℕ → Infix → List Part → Part → ℕ → List Token → Answer Token Part
behind_of d x w e h s =
    reads d (infix_rule x) (e ∷ w) s
    >>= (λ y. again_of (grammar.chains Exprs (infix_level x)) (goes_on Exprs d (infix_level x) w) y.0 (suc (max h y.1)) y.2)

-- a type that needs no parentheses, with parts of height d at most
abbrev pub base_of : ℕ → List Token → Answer Token Part
base_of d s =
    pick (starts_at grammar Types 0 s)
    (λ r. if nat_le (parts r) d then formed (reads d r (opening grammar s) (rest_of s)) else Err (TooDeep, s))
    (Err (Syntax, s))

-- the same with `list`, `tree` and `option` behind it
abbrev pub postfix_of : ℕ → List Token → Answer Token Part
postfix_of d s = base_of d s >>= (λ y. goes_on Types d 0 [] y.0 y.1 y.2)

-- the type of a pair, of which the first part e is read
abbrev pub second_of : ℕ → Part → ℕ → List Token → Answer Token Part
second_of d e h s = more_of grammar (read grammar 0 d) 0 d [] (λ v i u. Ok (v, i, u)) (goes_at grammar Types 1 s) e h s

-- any type
abbrev pub product_of : ℕ → List Token → Answer Token Part
product_of d s = postfix_of d s >>= (λ y. second_of d y.0 y.1 y.2)

-- an expression of level n that begins at p, and the operators behind it
abbrev pub operators_of : ℕ → ℕ → ℕ → List Token → Answer Token Part
operators_of d n p s = level_of grammar (read grammar 0 d) 0 d Exprs n s >>= (λ y. more_on Exprs d n (At p ∷ []) y.0 y.1 y.2)

-- all the tokens
abbrev pub program_in : ℕ → List Token → Result Part (Fault Token)
program_in d s = whole_of (rule_of grammar (read grammar 0 d) 0 d text_rule [] s)
