use Rattle.std.proofs.Common.{⊎_elim, inl, inr}
use Rattle.tests_potential.proofs.There.{list_there, tree_there, option_there}
use Rattle.tests_potential.proofs.maps.emptied.Goals as goal

pub empty_part-requires-clause-can_be_empty : goal.empty_part-requires-clause-can_be_empty
empty_part-requires-clause-can_be_empty c = ⊎_elim
    (λ h. (_, inl (list_there _ _ _ c.requires.there c.index-types-at.is h.0 h.1)))
    (⊎_elim
    (λ h. (_, inr (inl (tree_there _ _ _ c.requires.there c.index-types-at.is h.0 h.1))))
    (λ h. (_, inr (inr (option_there _ _ _ c.requires.there c.index-types-at.is h.0 h.1))))) c.in-List.is
