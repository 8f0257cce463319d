-- What is listed for each construct.
use Rattle.std.specs.Prelude.{◌≤◌, ℕ, List, [], ◌∷◌, Option, Some, None, get_or, slice_set}
use Rattle.price_file.specs.Construct.{Construct, Prices, place}

-- what is listed, by the places of constructs
abbrev pub Listed : Type 0
Listed = List (Option ℕ)

abbrev pub nothing_listed : Listed
nothing_listed =
    None ∷ None ∷ None ∷ None ∷ None ∷ None ∷ None ∷ None ∷ None ∷ None ∷ None ∷ None ∷ None ∷ None ∷ None ∷ None ∷ None
    ∷ None ∷ []

abbrev pub listed_at : Listed → Construct → Option ℕ
listed_at list construct = get_or list (place construct) None

-- the list with the price of a construct
abbrev pub listing : Listed → Construct → ℕ → Listed
listing list construct price = slice_set list (place construct) (Some price)

-- a construct that is not listed costs nothing
abbrev pub or_free : Option ℕ → ℕ
or_free None = 0
or_free (Some price) = price

-- no price is above 1000000
abbrev pub AreSmall : Prices → Type 0
AreSmall prices = (construct : Construct) → prices construct ≤ 1000000

-- no price that is listed is above 1000000
abbrev pub AllSmall : Listed → Type 0
AllSmall list = AreSmall (λ construct. or_free (listed_at list construct))
