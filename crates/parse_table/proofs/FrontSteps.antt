-- Rules that begin with a front of tokens.
use Rattle.std.proofs.Common.{◌≡◌, ◌∙◌, ℕ, List, [], ◌∷◌, ◌++◌, refl, sym, ap, append_assoc}
use Rattle.std.specs.Prelude.{Option, Some, None, Bool, true, false, Result, Ok, Err, if◌then◌else◌}
use Rattle.parse_spec.specs.Rules.{Take}
use Rattle.parse_spec.specs.declared.Kind.TheVariants.{Syntax}
use Rattle.parse_spec.specs.Reading.{Fault, ◌>>=◌, pick, taken, rest_of, take_of}
use Rattle.parse_table.specs.Tokens.{Sign, Token, Name, Number, Key, same}
use Rattle.parse_table.specs.declared.token.Sign.TheVariants as s
use Rattle.parse_table.specs.Table.{Part, Rules, Test, key, name, named, sign}
use Rattle.parse_table.specs.Steps.{reads}
use Rattle.parse_table.specs.Fronts.{Taken, Front, both, sign_front, two_signs, name_then, pair_front, list_front, open_front, last_front, option_front, tree_front}

-- both answers of a reading
pub on : {A : Type 0} (P : Result A (Fault Token) → Type 0) → ((e : Fault Token) → P (Err e)) → ((y : A) → P (Ok y)) → (o : Result A (Fault Token)) → P o
on P off more (Err e) = off e
on P off more (Ok y) = more y

-- a keyword or symbol leaves no value
pub on_key : (k : Sign) (s : List Token) (P : Taken → Type 0) → P (Err (Syntax, s)) → P (Ok ([], rest_of s)) → P (take_of (key k) s)
on_key k [] P off more = off
on_key k (Name p x ∷ s) P off more = off
on_key k (Number p n ∷ s) P off more = off
on_key k (Key p j ∷ s) P off more = go (same j k)
  where
    go : (b : Bool) → P (pick (if b then Some [] else None) (λ ws. Ok (ws, s)) (Err (Syntax, Key p j ∷ s)))
    go true = more
    go false = off

-- the same of a test alone
pub on_taken : (k : Sign) (s : List Token) (P : Option (List Part) → Type 0) → P None → P (Some []) → P (taken (key k) s)
on_taken k [] P off more = off
on_taken k (Name p x ∷ s) P off more = off
on_taken k (Number p n ∷ s) P off more = off
on_taken k (Key p j ∷ s) P off more = go (same j k)
  where
    go : (b : Bool) → P (if b then Some [] else None)
    go true = more
    go false = off

-- the rules that q makes begin with the front
abbrev pub Begins : Front → (Rules → Rules) → Type 0
Begins m q = (d : ℕ) (r : Rules) (vs : List Part) (s : List Token) → reads d (q r) vs s ≡ (m s >>= (λ y. reads d r (y.0 ++ vs) y.1))

one : (f : Test) → Begins (take_of f) (Take f)
one f d r vs s = refl

-- what was taken behind these values
abbrev after : List Part → List Part × List Token → Taken
after ws y = Ok (y.0 ++ ws, y.1)

two : (m n : Front) (p q : Rules → Rules) → Begins m p → Begins n q → Begins (both m n) (λ r. p (q r))
two m n p q a b d r vs s =
    a d (q r) vs s
    ∙ on (λ (o : Taken). (o >>= (λ x. reads d (q r) (x.0 ++ vs) x.1)) ≡ ((o >>= (λ x. n x.1 >>= after x.0)) >>= (λ y. reads d r (y.0 ++ vs) y.1))) (λ e. refl)
    (λ x. b d r (x.0 ++ vs) x.1
    ∙ on (λ (o : Taken). (o >>= (λ y. reads d r (y.0 ++ (x.0 ++ vs)) y.1)) ≡ ((o >>= after x.0) >>= (λ y. reads d r (y.0 ++ vs) y.1))) (λ e. refl)
    (λ y. ap (λ ws. reads d r ws y.1) (sym (append_assoc y.0 x.0 vs))) (n x.1)) (m s)

pub name_begins : (k : Sign) → Begins (name_then k) (λ r. named (sign k r))
name_begins k = two (take_of name) (sign_front k) named (sign k) (one name) (one (key k))

pub pair_begins : Begins pair_front (λ r. named (sign s.Comma (named (sign s.Close (sign s.Equal r)))))
pair_begins =
    two (name_then s.Comma) (both (name_then s.Close) (sign_front s.Equal)) (λ r. named (sign s.Comma r)) (λ r. named (sign s.Close (sign s.Equal r)))
    (name_begins s.Comma) (two (name_then s.Close) (sign_front s.Equal) (λ r. named (sign s.Close r)) (sign s.Equal) (name_begins s.Close) (one (key s.Equal)))

pub list_begins : Begins list_front (λ r. sign s.Bar (named (sign s.Cons (named (sign s.Arrow r)))))
list_begins =
    two (sign_front s.Bar) (both (name_then s.Cons) (name_then s.Arrow)) (sign s.Bar) (λ r. named (sign s.Cons (named (sign s.Arrow r))))
    (one (key s.Bar)) (two (name_then s.Cons) (name_then s.Arrow) (λ r. named (sign s.Cons r)) (λ r. named (sign s.Arrow r)) (name_begins s.Cons) (name_begins s.Arrow))

open_begins : (k : Sign) → Begins (open_front k) (λ r. sign s.Bar (sign k (sign s.Open r)))
open_begins k =
    two (two_signs s.Bar k) (sign_front s.Open) (λ r. sign s.Bar (sign k r)) (sign s.Open)
    (two (sign_front s.Bar) (sign_front k) (sign s.Bar) (sign k) (one (key s.Bar)) (one (key k))) (one (key s.Open))

last_begins : Begins last_front (λ r. named (sign s.Close (sign s.Arrow r)))
last_begins = two (name_then s.Close) (sign_front s.Arrow) (λ r. named (sign s.Close r)) (sign s.Arrow) (name_begins s.Close) (one (key s.Arrow))

pub option_begins : Begins option_front (λ r. sign s.Bar (sign s.Just (sign s.Open (named (sign s.Close (sign s.Arrow r))))))
option_begins = two (open_front s.Just) last_front (λ r. sign s.Bar (sign s.Just (sign s.Open r))) (λ r. named (sign s.Close (sign s.Arrow r))) (open_begins s.Just) last_begins

pub tree_begins : Begins tree_front (λ r. sign s.Bar (sign s.Node (sign s.Open (named (sign s.Comma (named (sign s.Comma (named (sign s.Close (sign s.Arrow r))))))))))
tree_begins =
    two (open_front s.Node) (both (name_then s.Comma) (both (name_then s.Comma) last_front)) (λ r. sign s.Bar (sign s.Node (sign s.Open r)))
    (λ r. named (sign s.Comma (named (sign s.Comma (named (sign s.Close (sign s.Arrow r)))))))
    (open_begins s.Node)
    (two (name_then s.Comma) (both (name_then s.Comma) last_front) (λ r. named (sign s.Comma r)) (λ r. named (sign s.Comma (named (sign s.Close (sign s.Arrow r)))))
    (name_begins s.Comma)
    (two (name_then s.Comma) last_front (λ r. named (sign s.Comma r)) (λ r. named (sign s.Close (sign s.Arrow r))) (name_begins s.Comma) last_begins))
