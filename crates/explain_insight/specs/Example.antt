-- Small texts, worked out by hand.
use Rattle.std.specs.Prelude.{◌≡◌, [], ◌∷◌, codes, encode_utf8_all}
use Rattle.raml_syntax.specs.Tree.{Function, Nil, Integer, Boolean, ListOf, PairOf}
use Rattle.explain_at.specs.Asked.{names_of}
use Rattle.explain_insight.specs.Brief.{dot}
use Rattle.explain_insight.specs.Fenced.{fenced}
use Rattle.explain_insight.specs.Header.{header}
use Rattle.explain_insight.specs.Hovers.{sizes_text}
use Rattle.explain_insight.specs.Lenses.{line_end}

-- `fun split(l : (int * bool) list, all : bool) : int list = nil`
abbrev split : Function
split = record {
  at = 0;
  name = codes "split";
  params = record { at = 10; name = codes "l"; type = ListOf (PairOf Integer Boolean) } ∷ record { at = 33; name = codes "all"; type = Boolean } ∷ [];
  result = ListOf Integer;
  body = Nil 57;
}

pub record Examples : Type 0 where
  pub mark : dot ≡ encode_utf8_all (codes " · ")
  pub header : header split ≡ codes "fun split(l : (int * bool) list, all : bool) : int list"
  pub lines : fenced (codes "a" ∷ codes "b" ∷ []) ≡ codes "```\na\nb\n```"
  pub sizes : sizes_text (names_of (codes "l") (ListOf (ListOf Integer))) ≡ codes "sizes: l, l.each"
  pub no_size : sizes_text (names_of (codes "all") Boolean) ≡ codes "no size"
  pub end : line_end (codes "a\nbc\nd") 2 ≡ 4
