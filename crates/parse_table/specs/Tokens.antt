-- Tokens as the grammar sees them.
use Rattle.std.specs.Prelude.{ℕ, Bool, false, cond, codes}
use Rattle.std.specs.Str.{bytes_eq}
use Rattle.raml_lex.specs.Lexemes.{number_value}
use Rattle.raml_lex.specs.Lexing.{word}
use Rattle.raml_lex.specs.declared.token.TokenKind.{TokenKind}
use Rattle.raml_lex.specs.declared.token.TokenKind.TheVariants as k
use Rattle.raml_lex.specs.declared.token.Token as l
use Rattle.raml_syntax.specs.Tree.{Text}
pub use Rattle.parse_table.specs.declared.token.Sign.{Sign}
use Rattle.parse_table.specs.declared.token.Sign.TheVariants as s

-- how each keyword and symbol is spelled
abbrev pub spelling : Sign → Text
spelling s.Fun = codes "fun"
spelling s.Let = codes "let"
spelling s.In = codes "in"
spelling s.If = codes "if"
spelling s.Then = codes "then"
spelling s.Else = codes "else"
spelling s.Match = codes "match"
spelling s.With = codes "with"
spelling s.Nil = codes "nil"
spelling s.Leaf = codes "leaf"
spelling s.Node = codes "node"
spelling s.Nothing = codes "none"
spelling s.Just = codes "some"
spelling s.True = codes "true"
spelling s.False = codes "false"
spelling s.Not = codes "not"
spelling s.Tick = codes "tick"
spelling s.Div = codes "div"
spelling s.Mod = codes "mod"
spelling s.Int = codes "int"
spelling s.Bool = codes "bool"
spelling s.List = codes "list"
spelling s.Tree = codes "tree"
spelling s.Option = codes "option"
spelling s.Open = codes "("
spelling s.Close = codes ")"
spelling s.Comma = codes ","
spelling s.Colon = codes ":"
spelling s.Cons = codes "::"
spelling s.Equal = codes "="
spelling s.Less = codes "<"
spelling s.AtMost = codes "<="
spelling s.Plus = codes "+"
spelling s.Minus = codes "-"
spelling s.Star = codes "*"
spelling s.Arrow = codes "->"
spelling s.Bar = codes "|"

-- the symbol that a word spells, where it spells one
abbrev pub symbol_of : Text → Sign
symbol_of w =
    cond (bytes_eq w (spelling s.Open)) s.Open (
    cond (bytes_eq w (spelling s.Close)) s.Close (
    cond (bytes_eq w (spelling s.Comma)) s.Comma (
    cond (bytes_eq w (spelling s.Colon)) s.Colon (
    cond (bytes_eq w (spelling s.Cons)) s.Cons (
    cond (bytes_eq w (spelling s.Equal)) s.Equal (
    cond (bytes_eq w (spelling s.Less)) s.Less (
    cond (bytes_eq w (spelling s.AtMost)) s.AtMost (
    cond (bytes_eq w (spelling s.Plus)) s.Plus (
    cond (bytes_eq w (spelling s.Minus)) s.Minus (
    cond (bytes_eq w (spelling s.Star)) s.Star (
    cond (bytes_eq w (spelling s.Arrow)) s.Arrow (
    s.Bar))))))))))))

-- the same of a symbol, or of the keyword of a value, an operator or a type
abbrev pub word_of : Text → Sign
word_of w =
    cond (bytes_eq w (spelling s.True)) s.True (
    cond (bytes_eq w (spelling s.False)) s.False (
    cond (bytes_eq w (spelling s.Not)) s.Not (
    cond (bytes_eq w (spelling s.Tick)) s.Tick (
    cond (bytes_eq w (spelling s.Div)) s.Div (
    cond (bytes_eq w (spelling s.Mod)) s.Mod (
    cond (bytes_eq w (spelling s.Int)) s.Int (
    cond (bytes_eq w (spelling s.Bool)) s.Bool (
    cond (bytes_eq w (spelling s.List)) s.List (
    cond (bytes_eq w (spelling s.Tree)) s.Tree (
    cond (bytes_eq w (spelling s.Option)) s.Option (
    symbol_of w)))))))))))

-- the same of any keyword or symbol
abbrev pub sign_of : Text → Sign
sign_of w =
    cond (bytes_eq w (spelling s.Fun)) s.Fun (
    cond (bytes_eq w (spelling s.Let)) s.Let (
    cond (bytes_eq w (spelling s.In)) s.In (
    cond (bytes_eq w (spelling s.If)) s.If (
    cond (bytes_eq w (spelling s.Then)) s.Then (
    cond (bytes_eq w (spelling s.Else)) s.Else (
    cond (bytes_eq w (spelling s.Match)) s.Match (
    cond (bytes_eq w (spelling s.With)) s.With (
    cond (bytes_eq w (spelling s.Nil)) s.Nil (
    cond (bytes_eq w (spelling s.Leaf)) s.Leaf (
    cond (bytes_eq w (spelling s.Node)) s.Node (
    cond (bytes_eq w (spelling s.Nothing)) s.Nothing (
    cond (bytes_eq w (spelling s.Just)) s.Just (
    word_of w)))))))))))))

-- a name, a number, or a keyword or symbol, and the place where it begins
pub data Token : Type 0 where
  Name : ℕ → Text → Token
  Number : ℕ → ℕ → Token
  Key : ℕ → Sign → Token

abbrev pub same : Sign → Sign → Bool
same j k = bytes_eq (spelling j) (spelling k)

-- whether the token is this keyword or symbol
abbrev pub is_key : Sign → Token → Bool
is_key k (Key p j) = same j k
is_key k _ = false

abbrev pub of_kind : TokenKind → ℕ → Text → Token
of_kind k.Name p w = Name p w
of_kind k.Number p w = Number p (number_value w)
of_kind k.Keyword p w = Key p (sign_of w)
of_kind k.Symbol p w = Key p (sign_of w)

-- the token of the text as the grammar sees it
abbrev pub as_token : Text → l.Token → Token
as_token text t = of_kind t.kind t.at.0 (word text t)
