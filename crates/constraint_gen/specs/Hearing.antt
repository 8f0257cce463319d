-- Conditions are heard in turn.
use Rattle.std.specs.Prelude.{◌≡◌, List, [], ◌∷◌, ◌++◌}
use Rattle.std.proofs.Common.{refl}
use Rattle.rules_spec.specs.Numbers.{Condition}
use Rattle.constraint_gen.specs.Sums.{Sum}
use Rattle.constraint_gen.specs.Heard.{Heard, hear, hear_all}

pub silent : (h : Heard) → hear_all h [] ≡ h
silent h = refl

pub in_turn : (h : Heard) (cs ds : List (Condition Sum)) → hear_all (hear_all h cs) ds ≡ hear_all h (cs ++ ds)
in_turn h [] ds = refl
in_turn h (c ∷ cs) ds = in_turn (hear h c) cs ds
