-- The JSON of polynomials.
use Rattle.std.specs.Prelude.{ℕ, List, ◌++◌, map, codes}
use Rattle.raml_syntax.specs.Tree.{Text}
use Rattle.base_poly.specs.Plain.{Plain, many}
use Rattle.base_poly.specs.Poly.{Term}
use Rattle.poly_text.specs.Text.{entries_text, coefficient_text}
use Rattle.json.specs.Json.{Json, string, array, object, member, no_members}
use Rattle.json.specs.Value.{items_of}

-- a tuple as it is printed, `<[_, _], []>`; that of degree 0 too
abbrev pub tuple_text : List Plain → Text
tuple_text t = codes "<" ++ (entries_text (many t) ++ codes ">")

-- {"index":INDEX,"coefficient":COEFFICIENT}
abbrev pub pair_json : Text → Text → Json
pair_json index coefficient =
    object (member (codes "index") (string index) (member (codes "coefficient") (string coefficient) no_members))

-- a tuple with its coefficient in lowest terms, as `{"index":"<[_, _]>","coefficient":"3/2"}`
abbrev pub term_json : ℕ → Term → Json
term_json den t = pair_json (tuple_text t.0) (coefficient_text t.1 den)

-- the terms over a denominator, as they stand
abbrev pub terms_json : ℕ → List Term → Json
terms_json den ts = array (items_of (map (term_json den) ts))
