-- What `clap` makes of the ordered words of a command with a degree and a rule: word by word.
use Rattle.std.proofs.Common.{◌≡◌, Bool, List, [], ◌∷◌, Option, Some, None, codes, refl, ap, ◌∙◌}
use Rattle.std.specs.Prelude.{◌&&◌}
use Rattle.clap.specs.ValueTests.{is_unsigned_in}
use Rattle.clap.specs.Walk.{walked}
use Rattle.clap.specs.Simple.{Shape, built}
use Rattle.clap.specs.Faults.{turn_fault}
use Rattle.clap.proofs.OnLiterals.{clap_on_literals}
use Rattle.raml_words.specs.Words.{Text}
use Rattle.raml_words.specs.Apps.{bounds_app, bounds_pairs, maybe, option_word, has_one, ordered}
use Rattle.raml_words.specs.Clapped.{none, is_taken}
use Rattle.raml_words.proofs.Walk.{tail, step_good, Takes, option_step, row, with_row, W, words_of, end, starts}

abbrev S : Shape
S = (built bounds_app).top

takes_degree : (v : Text) → Takes S (W []) (option_word (codes "degree") v) (W (row (codes "degree") v ∷ [])) (is_unsigned_in 1 4 v)
unfolding clap_on_literals
takes_degree v = record { good = λ e. rw e refl; bad = λ e. rw e refl; goes_on = refl }

pivot_good : (v r : Text) → turn_fault S [] (W (row (codes "degree") v ∷ [])) (option_word (codes "pivot") r) ≡ []
unfolding clap_on_literals
pivot_good v r = refl

pivot_walked : (v r : Text) → walked S.rules [] (W (row (codes "degree") v ∷ [])) (option_word (codes "pivot") r) ≡ W (row (codes "degree") v ∷ row (codes "pivot") r ∷ [])
unfolding clap_on_literals
pivot_walked v r = refl

operands : (v : Text) (p : Option Text) (os : List Text) → none (tail S (W (row (codes "degree") v ∷ with_row (codes "pivot") p [])) (codes "--" ∷ os)) ≡ has_one os
unfolding clap_on_literals
operands v None [] = refl
operands v None (f ∷ []) = refl
operands v None (f ∷ g ∷ os) = refl
operands v (Some r) [] = refl
operands v (Some r) (f ∷ []) = refl
operands v (Some r) (f ∷ g ∷ os) = refl

pivot_part : (v : Text) (p : Option Text) (os : List Text) → none (tail S (W (row (codes "degree") v ∷ [])) (words_of (maybe (codes "pivot") p []) (end os))) ≡ has_one os
pivot_part v None os = operands v None os
pivot_part v (Some r) os = ap none (step_good S _ (option_word (codes "pivot") r) (end os) _ (pivot_good v r) (pivot_walked v r)) ∙ operands v (Some r) os

-- such a command takes its words exactly where the degree is in its range, and there is one operand
pub bounds_taken : (command v : Text) (p : Option Text) (os : List Text) (b : Bool) → is_unsigned_in 1 4 v ≡ b → is_taken bounds_app (ordered command (bounds_pairs (Some v) p) os) ≡ (b && has_one os)
bounds_taken command v p os b e =
    let rest = words_of (maybe (codes "pivot") p []) (end os) in
    ap none (starts bounds_app command (option_word (codes "degree") v ∷ rest) refl refl)
    ∙ option_step S _ _ _ _ _ rest (takes_degree v) (pivot_part v p os) ∙ ap (λ b. b && has_one os) e
