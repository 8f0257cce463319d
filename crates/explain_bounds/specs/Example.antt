-- Small texts, worked out by hand.
use Rattle.std.specs.Prelude.{◌≡◌, ◌^◌, ◌+◌, List, [], ◌∷◌, codes, encode_utf8_all}
use Rattle.raml_syntax.specs.Tree.{Text}
use Rattle.explain_at.specs.Words.{Given}
use Rattle.explain_sizes.specs.declared.within.Within.TheVariants.{Any, UpTo, Never}
use Rattle.explain_bounds.specs.Told.{given_text, sizes_text, value_text, within_text}
use Rattle.explain_bounds.specs.Lines.{at_most, legend_behind, calls_unbounded}

abbrev given : List Given
given = (codes "m", 3) ∷ (codes "l.each", 20) ∷ []

abbrev names : List Text
names = codes "l" ∷ codes "l.each" ∷ codes "m" ∷ []

pub record Examples : Type 0 where
  pub as_given : given_text given ≡ codes "m=3, l.each=20"
  pub by_names : sizes_text given names 25 ≡ codes "l=25, l.each=20, m=3"
  pub up_to : within_text given names (UpTo 25) ≡ codes "l=25, l.each=20, m=3"
  pub any : within_text given names Any ≡ codes "any size"
  pub never : within_text given names Never ≡ codes "none"
  pub value : value_text 15050 ≡ codes " = 15050"
  pub greatest : value_text (2 ^ 127) ≡ codes " = 170141183460469231731687303715884105728"
  pub greater : value_text (2 ^ 127 + 1) ≡ codes " is more than 2^127"
  pub sign : at_most ≡ encode_utf8_all (codes " ≤ ")
  pub legend : legend_behind (codes "n = |l|") ≡ codes "   n = |l|"
  pub no_legend : legend_behind [] ≡ []
  pub calls : calls_unbounded 4 (codes "f") ≡ codes " no bound up to degree 4: calls f, which has none"
