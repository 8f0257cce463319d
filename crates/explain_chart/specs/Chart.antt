-- What a chart draws.
use Rattle.std.specs.Prelude.{◌≡◌, ℕ, List, [], ◌∷◌, ◌++◌, Option, Some, None, codes}
use Rattle.std.specs.Fmt.{decimal}

abbrev pub Text : Type 0
Text = List ℕ

-- a run: the size of its arguments and what they are like, what it cost, and the bound at its arguments, where there is one
pub record Mark : Type 0 where
  pub size : ℕ
  pub kind : Text
  pub cost : ℕ
  pub bound : Option ℕ

abbrev pub bound_text : Option ℕ → Text
bound_text None = codes ", no bound"
bound_text (Some bound) = codes ", bound " ++ decimal bound

-- size SIZE, KIND: measured COST, bound BOUND
abbrev pub title_of : Mark → Text
title_of m = codes "size " ++ (decimal m.size ++ (codes ", " ++ (m.kind ++ (codes ": measured " ++ (decimal m.cost ++ bound_text m.bound)))))

abbrev pub circle : ℕ → ℕ → Text → Text
circle x y title =
    codes "<circle class=\"point\" cx=\"" ++ (decimal x ++ (codes "\" cy=\"" ++ (decimal y ++ (codes "\" r=\"35\"><title>" ++ (title ++ codes "</title></circle>\n")))))

-- a point at some place, whose title tells of the run
abbrev pub IsPoint : Mark → Text → Type 0
IsPoint m text = (x : ℕ) × (y : ℕ) × (text ≡ circle x y (title_of m))

-- a point for each run, in order
abbrev pub ArePoints : List Mark → Text → Type 0
ArePoints [] text = text ≡ []
ArePoints (m ∷ ms) text = (point : Text) × (rest : Text) × IsPoint m point × ArePoints ms rest × (text ≡ point ++ rest)

-- the points of the runs, and no others, stand between two parts of the text
pub record Draws (ms : List Mark) (text : Text) : Type 0 where
  pub front : Text
  pub points : Text
  pub back : Text
  pub are : ArePoints ms points
  pub is : text ≡ front ++ (points ++ back)
