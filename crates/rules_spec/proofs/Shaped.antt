-- Hints of the right shape answer all that is asked for.
use Rattle.std.proofs.Common.{refl}
use Rattle.std.specs.Prelude.{ℕ, List, [], ◌∷◌}
use Rattle.annot_types.specs.Certificate as c
use Rattle.annot_types.specs.Certificate.{Entries, annotation}
use Rattle.rules_spec.specs.Kinds.{Amount}
use Rattle.rules_spec.specs.Asked.{ResultsOf, CopiesOf, MultiplesOf}
use Rattle.rules_spec.specs.Stand.{StandForEach, AreMultiplesOf}
use Rattle.rules_spec.specs.Shape.{EachWithin, AreAmong, each_amounts, multiples_at, FittingAnswer}
use Rattle.rules_spec.proofs.Finding.{amounts_stand}

pub each_stands : (ns : List ℕ) (ess : List Entries) → EachWithin ns ess → StandForEach ns (each_amounts ns ess) ess
each_stands [] [] h = tt
each_stands [] (es ∷ ess) h = absurd h
each_stands (n ∷ ns) [] h = absurd h
each_stands (n ∷ ns) (es ∷ ess) h = ((h.0, amounts_stand n (annotation es)), each_stands ns ess h.1)

pub are_multiples : (blocks : List ℕ) (ms : Entries) → AreAmong blocks ms → AreMultiplesOf blocks (multiples_at ms) ms
are_multiples blocks [] h = tt
are_multiples blocks (m ∷ ms) h = (h.0, refl, are_multiples blocks ms h.1)

-- and what answers has the right shape
pub each_within : (ns : List ℕ) (qs : List (List Amount)) (ess : List Entries) → StandForEach ns qs ess → EachWithin ns ess
each_within [] [] [] h = tt
each_within [] [] (es ∷ ess) h = absurd h
each_within [] (q ∷ qs) ess h = absurd h
each_within (n ∷ ns) [] ess h = absurd h
each_within (n ∷ ns) (q ∷ qs) [] h = absurd h
each_within (n ∷ ns) (q ∷ qs) (es ∷ ess) h = (h.0.0, each_within ns qs ess h.1)

pub are_among : (blocks : List ℕ) (xs : List (ℕ × Amount)) (ms : Entries) → AreMultiplesOf blocks xs ms → AreAmong blocks ms
are_among blocks [] [] h = tt
are_among blocks [] (m ∷ ms) h = absurd h
are_among blocks (x ∷ xs) [] h = absurd h
are_among blocks (x ∷ xs) (m ∷ ms) h = (h.0, are_among blocks xs ms h.2)

pub fitting_answer : FittingAnswer
fitting_answer [] [] h = (refl, refl)
fitting_answer [] (x ∷ hs) h = absurd h
fitting_answer (ask ∷ asks) [] h = absurd h
fitting_answer (ResultsOf sizes ∷ asks) (c.Let results ∷ hs) h = (each_stands sizes results h.0, fitting_answer asks hs h.1)
fitting_answer (ResultsOf sizes ∷ asks) (c.Share copies ∷ hs) h = absurd h.0
fitting_answer (ResultsOf sizes ∷ asks) (c.Call multiples ∷ hs) h = absurd h.0
fitting_answer (CopiesOf size ∷ asks) (c.Let results ∷ hs) h = absurd h.0
fitting_answer (CopiesOf size ∷ asks) (c.Share copies ∷ hs) h = ((h.0, amounts_stand size (annotation copies)), fitting_answer asks hs h.1)
fitting_answer (CopiesOf size ∷ asks) (c.Call multiples ∷ hs) h = absurd h.0
fitting_answer (MultiplesOf blocks ∷ asks) (c.Let results ∷ hs) h = absurd h.0
fitting_answer (MultiplesOf blocks ∷ asks) (c.Share copies ∷ hs) h = absurd h.0
fitting_answer (MultiplesOf blocks ∷ asks) (c.Call multiples ∷ hs) h = (are_multiples blocks multiples h.0.1, fitting_answer asks hs h.1)
