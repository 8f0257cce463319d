-- The table of runs.
use Rattle.std.specs.Prelude.{ℕ, ◌*◌, ◌/◌, ◌%◌, nat_eq, cond, List, [], ◌∷◌, ◌++◌, Option, Some, None, codes, decimal}
use Rattle.raml_syntax.specs.Tree.{Text}
use Rattle.explain_chart.specs.Chart.{Mark}

abbrev pub hundredths : ℕ → ℕ → Text
hundredths whole part = decimal whole ++ (codes "." ++ (decimal (part / 10) ++ decimal (part % 10)))

-- how often the cost goes into the bound, in hundredths, rounded down
abbrev pub quotient : ℕ → ℕ → Text
quotient bound cost = cond (nat_eq cost 0) (codes "-") (hundredths (bound / cost) (bound % cost * 100 / cost))

abbrev pub ratio : Option ℕ → ℕ → Text
ratio None cost = codes "-"
ratio (Some bound) cost = quotient bound cost

abbrev pub bound_text : Option ℕ → Text
bound_text None = codes "-\t"
bound_text (Some bound) = decimal bound ++ codes "\t"

-- SIZE, MEASURED, BOUND, RATIO and ARGUMENTS, with tabs between
abbrev pub row : Mark → Text
row m =
    (((decimal m.size ++ (codes "\t" ++ (decimal m.cost ++ codes "\t"))) ++ bound_text m.bound) ++ ratio m.bound m.cost)
    ++ (codes "\t" ++ (m.kind ++ codes "\n"))

abbrev pub rows : List Mark → Text
rows [] = []
rows (m ∷ ms) = row m ++ rows ms

abbrev pub table : List Mark → Text
table ms = codes "size\tmeasured\tbound\tratio\targuments\n" ++ rows ms
