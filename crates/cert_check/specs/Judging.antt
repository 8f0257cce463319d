-- The conditions of bodies, as the code walks them.
use Rattle.std.specs.Prelude.{ℕ, suc, List, [], ◌∷◌, ◌++◌}
use Rattle.annot_types.specs.Rules.{Mode}
use Rattle.rules_spec.specs.Numbers.{Known, Hint, Condition}
use Rattle.rules_spec.specs.Kinds.{Amount}
use Rattle.rules_spec.specs.Capped.{capped}
use Rattle.rules_spec.specs.Tasks.{Body}
use Rattle.rules_walk.specs.Place.{body_walked}

-- of the bodies from this place of the group on
abbrev pub bodies_walked : Known Amount → Mode → ℕ → List Body → List (List (Hint Amount)) → List (Condition Amount)
bodies_walked G mode place [] hss = []
bodies_walked G mode place (b ∷ bs) [] = []
bodies_walked G mode place (b ∷ bs) (hs ∷ hss) =
    let w = body_walked capped G b.plan mode place hs in w.found ++ bodies_walked G mode (suc place) bs hss
