-- What is given in the order of unknowns, carried.
use Rattle.std.proofs.Common.{◌≡◌, refl, ap, sym, ◌∙◌}
use Rattle.std.specs.Prelude.{ℕ, zero, suc, ◌+◌, List, [], ◌∷◌, ◌++◌, map}
use Rattle.std.proofs.lemmas.List.{map-append}
use Rattle.rules_spec.specs.Numbers.{Numbers, Sides, Hint, Results, Copies, Multiples, Walked, Carries}
use Rattle.rules_spec.specs.Walk.{at, walk, group_sides}
use Rattle.rules_spec.specs.Asked.{Ask, ResultsOf, CopiesOf, MultiplesOf, asked, count, counts, given, given_each, given_blocks, answer, answers}
use Rattle.rules_spec.specs.Tasks.{Body, Job, known_by, sides_count, sides_given, hints_given, of_bodies, of_target, conditions}
use Rattle.rules_spec.specs.Carried.{sides_to, multiple_to, hint_to, condition_to, GivenCarry}
use Rattle.rules_spec.proofs.Carrying.{walks_carry, at_to, group_to}

module _ {E F : Type 0} (f : E → F) (give : ℕ → E) where
  given_to : (from n : ℕ) → given (λ u. f (give u)) from n ≡ map f (given give from n)
  given_to from zero = refl
  given_to from (suc n) = ap (λ l. f (give from) ∷ l) (given_to (suc from) n)

  given_each_to : (from : ℕ) (ns : List ℕ) → given_each (λ u. f (give u)) from ns ≡ map (map f) (given_each give from ns)
  given_each_to from [] = refl
  given_each_to from (n ∷ ns) = λ i. given_to from n i ∷ given_each_to (from + n) ns i

  given_blocks_to : (from : ℕ) (bs : List ℕ) → given_blocks (λ u. f (give u)) from bs ≡ map (multiple_to f) (given_blocks give from bs)
  given_blocks_to from [] = refl
  given_blocks_to from (b ∷ bs) = ap (λ l. (b, f (give from)) ∷ l) (given_blocks_to (suc from) bs)

  answer_to : (from : ℕ) (a : Ask) → answer (λ u. f (give u)) from a ≡ hint_to f (answer give from a)
  answer_to from (ResultsOf sizes) = ap Results (given_each_to from sizes)
  answer_to from (CopiesOf size) = ap Copies (given_to from size)
  answer_to from (MultiplesOf blocks) = ap Multiples (given_blocks_to from blocks)

  answers_to : (from : ℕ) (asks : List Ask) → answers (λ u. f (give u)) from asks ≡ map (hint_to f) (answers give from asks)
  answers_to from [] = refl
  answers_to from (a ∷ asks) = λ i. answer_to from a i ∷ answers_to (from + count a) asks i

  sides_given_to : (from : ℕ) (bs : List Body) → sides_given (λ u. f (give u)) from bs ≡ map (sides_to f) (sides_given give from bs)
  sides_given_to from [] = refl
  sides_given_to from (b ∷ bs) =
      λ i. record { args = given_to from b.args i; result = given_to (from + b.args) b.result i } ∷ sides_given_to (from + (b.args + b.result)) bs i

  hints_given_to : (from : ℕ) (bs : List Body) → hints_given (λ u. f (give u)) from bs ≡ map (map (hint_to f)) (hints_given give from bs)
  hints_given_to from [] = refl
  hints_given_to from (b ∷ bs) = λ i. answers_to from (asked b.plan) i ∷ hints_given_to (from + counts (asked b.plan)) bs i

module _ {E F : Type 0} (A : Numbers E) (B : Numbers F) (f : E → F) (c : Carries A B f) (j : Job) (group : List (Sides E)) where
  of_bodies_to : (k : ℕ) (bs : List Body) (hss : List (List (Hint E))) →
      of_bodies B j (map (sides_to f) group) k bs (map (map (hint_to f)) hss) ≡ map (condition_to f) (of_bodies A j group k bs hss)
  of_bodies_to k [] hss = refl
  of_bodies_to k (b ∷ bs) [] = refl
  of_bodies_to k (b ∷ bs) (hs ∷ hss) =
      let s = group_sides A (known_by j group) k in
      (λ i. (walk B (known_by j (map (sides_to f) group)) b.plan j.mode (k ∷ []) (group_to A B f c (known_by j group) k i).args
      (group_to A B f c (known_by j group) k i).result (map (hint_to f) hs)).found ++ of_bodies_to (suc k) bs hss i)
      ∙ ap (λ (w : Walked F). w.found ++ map (condition_to f) (of_bodies A j group (suc k) bs hss))
      (walks_carry A B f c (known_by j group) b.plan j.mode (k ∷ []) s.args s.result hs)
      ∙ sym (map-append (condition_to f) (walk A (known_by j group) b.plan j.mode (k ∷ []) s.args s.result hs).found (of_bodies A j group (suc k) bs hss))

  of_target_to : (ps : List ℕ) → of_target B j (map (sides_to f) group) ps ≡ map (condition_to f) (of_target A j group ps)
  of_target_to [] = refl
  of_target_to (p ∷ ps) = λ i. record {
    path = j.function ∷ [];
    index = p;
    left = (ap (λ (s : Sides F). at B s.result p) (group_to A B f c (known_by j group) j.function)
        ∙ at_to A B f c (group_sides A (known_by j group) j.function).result p) i;
    right = sym (c.number 1) i;
  } ∷ of_target_to ps i

pub given_carry : {E F : Type 0} (A : Numbers E) (B : Numbers F) (f : E → F) (give : ℕ → E) → Carries A B f → GivenCarry A B f give
given_carry A B f give c j =
    let group = sides_given give 0 j.bodies in let hss = hints_given give (sides_count j.bodies) j.bodies in
    (λ i. conditions B j (sides_given_to f give 0 j.bodies i) (hints_given_to f give (sides_count j.bodies) j.bodies i))
    ∙ (λ i. of_target_to A B f c j group j.target i ++ of_bodies_to A B f c j group 0 j.bodies hss i)
    ∙ sym (map-append (condition_to f) (of_target A j group j.target) (of_bodies A j group 0 j.bodies hss))
