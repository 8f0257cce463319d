-- The conditions of a task, body by body.
use Rattle.std.proofs.Common.{◌≡◌, refl, ap, sym, ◌∙◌, arith}
use Rattle.std.specs.Prelude.{ℕ, suc, ◌+◌, List, [], ◌∷◌, ◌++◌, length, slice_index_or}
use Rattle.annot_types.specs.Rules.{Mode}
use Rattle.rules_spec.specs.Numbers.{Known, Sides, Hint}
use Rattle.rules_spec.specs.Walk.{at}
use Rattle.rules_spec.specs.Asked.{Ask, counts}
use Rattle.rules_spec.specs.Tasks as t
use Rattle.rules_spec.specs.Tasks.{Job, known_by, of_target, of_bodies}
use Rattle.rules_walk.specs.Place.{body_walked}
use Rattle.constraint_gen.specs.Sums.{Sum, sums}
use Rattle.constraint_gen.specs.Heard.{Heard, hear_all}
use Rattle.constraint_gen.specs.Hearing.{in_turn}
use Rattle.constraint_gen.specs.Given.{all_answers}
use Rattle.constraint_gen.specs.Walked.{reached, bodies_walked}

pub bodies_go_on : (G : Known Sum) (mode : Mode) (p : ℕ) (b : t.Body) (bs all_bs : List t.Body) (hs : List (Hint Sum)) (hss all_hss : List (List (Hint Sum))) (now new : Heard) (end : Heard) →
    all_bs ≡ b ∷ bs → all_hss ≡ hs ∷ hss → new ≡ hear_all now (body_walked sums G b.plan mode p hs).found →
    hear_all now (bodies_walked G mode p all_bs all_hss) ≡ end → hear_all new (bodies_walked G mode (p + 1) bs hss) ≡ end
bodies_go_on G mode p b bs all_bs hs hss all_hss now new end e h one rest =
    let step : p + 1 ≡ suc p = omega arith in
    (λ i. hear_all (one i) (bodies_walked G mode (step i) bs hss))
    ∙ in_turn now (body_walked sums G b.plan mode p hs).found (bodies_walked G mode (suc p) bs hss)
    ∙ sym (λ i. hear_all now (bodies_walked G mode p (e i) (h i))) ∙ rest

reached_is : (j : Job) (group : List (Sides Sum)) (ps : List ℕ) →
    of_target sums j group ps ≡ reached j.function (slice_index_or group j.function (record { args = []; result = [] })).result ps
reached_is j group [] = refl
reached_is j group (p ∷ ps) = ap (λ l. record { path = j.function ∷ []; index = p; left = at sums (slice_index_or group j.function (record { args = []; result = [] })).result p; right = sums.number 1 } ∷ l) (reached_is j group ps)

bodies_are : (j : Job) (group : List (Sides Sum)) (k : ℕ) (bs : List t.Body) (hss : List (List (Hint Sum))) → of_bodies sums j group k bs hss ≡ bodies_walked (known_by j group) j.mode k bs hss
bodies_are j group k [] hss = refl
bodies_are j group k (b ∷ bs) [] = refl
bodies_are j group k (b ∷ bs) (hs ∷ hss) = ap (λ l. (body_walked sums (known_by j group) b.plan j.mode k hs).found ++ l) (bodies_are j group (suc k) bs hss)

-- the target is heard, and then the bodies
pub conditions_heard : (j : Job) (group : List (Sides Sum)) (hss : List (List (Hint Sum))) (v : Heard) →
    hear_all (hear_all v (reached j.function (slice_index_or group j.function (record { args = []; result = [] })).result j.target)) (bodies_walked (known_by j group) j.mode 0 j.bodies hss)
    ≡ hear_all v (t.conditions sums j group hss)
conditions_heard j group hss v =
    in_turn v (reached j.function (slice_index_or group j.function (record { args = []; result = [] })).result j.target) (bodies_walked (known_by j group) j.mode 0 j.bodies hss)
    ∙ (λ i. hear_all v (sym (reached_is j group j.target) i ++ sym (bodies_are j group 0 j.bodies hss) i))

pub length_answers : {E : Type 0} (give : ℕ → E) (from : ℕ) (asks : List (List Ask)) → length (all_answers give from asks) ≡ length asks
length_answers give from [] = refl
length_answers give from (a ∷ asks) = ap suc (length_answers give (from + counts a) asks)
