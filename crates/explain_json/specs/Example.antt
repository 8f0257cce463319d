-- Small texts, worked out by hand.
use Rattle.std.specs.Prelude.{◌≡◌, ℕ, [], ◌∷◌, codes}
use Rattle.raml_syntax.specs.Tree.{Text}
use Rattle.base_poly.specs.Plain.{Unit', Pair, End, Then}
use Rattle.base_poly.specs.Poly.{Term}
use Rattle.json.specs.Json.{Json}
use Rattle.json.specs.Print.{print}
use Rattle.json.specs.Tree.{json_tokens}
use Rattle.explain_json.specs.Terms.{terms_json}

abbrev text : Json → Text
text j = print (json_tokens j)

-- of a list of pairs of a number and a list, and a list
abbrev constant : ℕ → Term
constant n = (End ∷ End ∷ [], n)

abbrev nested : ℕ → Term
nested n = (Then (Pair Unit' End) (Then (Pair Unit' (Then Unit' End)) End) ∷ Then Unit' End ∷ [], n)

pub record Examples : Type 0 where
  pub none : text (terms_json 2 []) ≡ codes "[]"
  pub lowest : text (terms_json 4 (constant 6 ∷ [])) ≡ codes "[{\"index\":\"<[], []>\",\"coefficient\":\"3/2\"}]"
  pub two : text (terms_json 2 (constant 4 ∷ nested 1 ∷ []))
      ≡ codes "[{\"index\":\"<[], []>\",\"coefficient\":\"2\"},{\"index\":\"<[(_, []), (_, [_])], [_]>\",\"coefficient\":\"1/2\"}]"
