-- What `clap` makes of the ordered words of `run`: word by word.
use Rattle.std.proofs.Common.{◌≡◌, List, [], ◌∷◌, Option, Some, None, codes, refl, ap, ◌∙◌}
use Rattle.std.specs.Prelude.{◌&&◌}
use Rattle.raml_words.specs.Words.{Text}
use Rattle.clap.specs.ValueTests.{is_unsigned_in}
use Rattle.clap.specs.Simple.{Shape, built}
use Rattle.clap.proofs.OnLiterals.{clap_on_literals}
use Rattle.raml_words.specs.Apps.{run_app, run_pairs, maybe, option_word, accepted, has_three, ordered}
use Rattle.raml_words.specs.Clapped.{none, is_taken, found}
use Rattle.raml_words.proofs.Walk.{tail, Takes, option_step, with_row, W, words_of, end, starts}

abbrev S : Shape
S = (built run_app).top

takes_steps : (s : Text) → Takes S (W []) (option_word (codes "steps") s) (W (with_row (codes "steps") (Some s) [])) (is_unsigned_in 1 1000000000 s)
unfolding clap_on_literals
takes_steps s = record { good = λ e. rw e refl; bad = λ e. rw e refl; goes_on = refl }

takes_cells : (s : Option Text) (l : Text) → Takes S (W (with_row (codes "steps") s [])) (option_word (codes "cells") l) (W (with_row (codes "steps") s (with_row (codes "cells") (Some l) []))) (is_unsigned_in 0 16777216 l)
unfolding clap_on_literals
takes_cells None l = record { good = λ e. rw e refl; bad = λ e. rw e refl; goes_on = refl }
takes_cells (Some s) l = record { good = λ e. rw e refl; bad = λ e. rw e refl; goes_on = refl }

takes_degree : (s l : Option Text) (g : Text) → Takes S (W (with_row (codes "steps") s (with_row (codes "cells") l []))) (option_word (codes "degree") g) (W (with_row (codes "steps") s (with_row (codes "cells") l (with_row (codes "degree") (Some g) [])))) (is_unsigned_in 1 4 g)
unfolding clap_on_literals
takes_degree None None g = record { good = λ e. rw e refl; bad = λ e. rw e refl; goes_on = refl }
takes_degree None (Some l) g = record { good = λ e. rw e refl; bad = λ e. rw e refl; goes_on = refl }
takes_degree (Some s) None g = record { good = λ e. rw e refl; bad = λ e. rw e refl; goes_on = refl }
takes_degree (Some s) (Some l) g = record { good = λ e. rw e refl; bad = λ e. rw e refl; goes_on = refl }

operands : (s l g : Option Text) (os : List Text) → none (tail S (W (with_row (codes "steps") s (with_row (codes "cells") l (with_row (codes "degree") g [])))) (codes "--" ∷ os)) ≡ has_three os
unfolding clap_on_literals
operands None None None [] = refl
operands None None None (a ∷ []) = refl
operands None None None (a ∷ b ∷ []) = refl
operands None None None (a ∷ b ∷ c ∷ []) = refl
operands None None None (a ∷ b ∷ c ∷ d ∷ os) = refl
operands None None (Some g) [] = refl
operands None None (Some g) (a ∷ []) = refl
operands None None (Some g) (a ∷ b ∷ []) = refl
operands None None (Some g) (a ∷ b ∷ c ∷ []) = refl
operands None None (Some g) (a ∷ b ∷ c ∷ d ∷ os) = refl
operands None (Some l) None [] = refl
operands None (Some l) None (a ∷ []) = refl
operands None (Some l) None (a ∷ b ∷ []) = refl
operands None (Some l) None (a ∷ b ∷ c ∷ []) = refl
operands None (Some l) None (a ∷ b ∷ c ∷ d ∷ os) = refl
operands None (Some l) (Some g) [] = refl
operands None (Some l) (Some g) (a ∷ []) = refl
operands None (Some l) (Some g) (a ∷ b ∷ []) = refl
operands None (Some l) (Some g) (a ∷ b ∷ c ∷ []) = refl
operands None (Some l) (Some g) (a ∷ b ∷ c ∷ d ∷ os) = refl
operands (Some s) None None [] = refl
operands (Some s) None None (a ∷ []) = refl
operands (Some s) None None (a ∷ b ∷ []) = refl
operands (Some s) None None (a ∷ b ∷ c ∷ []) = refl
operands (Some s) None None (a ∷ b ∷ c ∷ d ∷ os) = refl
operands (Some s) None (Some g) [] = refl
operands (Some s) None (Some g) (a ∷ []) = refl
operands (Some s) None (Some g) (a ∷ b ∷ []) = refl
operands (Some s) None (Some g) (a ∷ b ∷ c ∷ []) = refl
operands (Some s) None (Some g) (a ∷ b ∷ c ∷ d ∷ os) = refl
operands (Some s) (Some l) None [] = refl
operands (Some s) (Some l) None (a ∷ []) = refl
operands (Some s) (Some l) None (a ∷ b ∷ []) = refl
operands (Some s) (Some l) None (a ∷ b ∷ c ∷ []) = refl
operands (Some s) (Some l) None (a ∷ b ∷ c ∷ d ∷ os) = refl
operands (Some s) (Some l) (Some g) [] = refl
operands (Some s) (Some l) (Some g) (a ∷ []) = refl
operands (Some s) (Some l) (Some g) (a ∷ b ∷ []) = refl
operands (Some s) (Some l) (Some g) (a ∷ b ∷ c ∷ []) = refl
operands (Some s) (Some l) (Some g) (a ∷ b ∷ c ∷ d ∷ os) = refl

degree_part : (s l g : Option Text) (os : List Text) → none (tail S (W (with_row (codes "steps") s (with_row (codes "cells") l []))) (words_of (maybe (codes "degree") g []) (end os))) ≡ (accepted 1 4 g && has_three os)
degree_part s l None os = operands s l None os
degree_part s l (Some g) os = option_step S _ _ _ _ _ (end os) (takes_degree s l g) (operands s l (Some g) os)

cells_part : (s l g : Option Text) (os : List Text) → none (tail S (W (with_row (codes "steps") s [])) (words_of (maybe (codes "cells") l (maybe (codes "degree") g [])) (end os))) ≡ (accepted 0 16777216 l && (accepted 1 4 g && has_three os))
cells_part s None g os = degree_part s None g os
cells_part s (Some l) g os =
    option_step S _ _ _ _ _ (words_of (maybe (codes "degree") g []) (end os)) (takes_cells s l) (degree_part s (Some l) g os)

steps_part : (s l g : Option Text) (os : List Text) → none (tail S (W []) (words_of (maybe (codes "steps") s (maybe (codes "cells") l (maybe (codes "degree") g []))) (end os))) ≡ (accepted 1 1000000000 s && (accepted 0 16777216 l && (accepted 1 4 g && has_three os)))
steps_part None l g os = cells_part None l g os
steps_part (Some s) l g os =
    option_step S _ _ _ _ _ (words_of (maybe (codes "cells") l (maybe (codes "degree") g [])) (end os)) (takes_steps s) (cells_part (Some s) l g os)

-- `run` takes its words exactly where each number that is given is in its range, and there are three operands
pub run_taken : (s l g : Option Text) (os : List Text) → is_taken run_app (ordered (codes "run") (run_pairs s l g) os) ≡ (accepted 1 1000000000 s && (accepted 0 16777216 l && (accepted 1 4 g && has_three os)))
run_taken s l g os = ap none (starts run_app (codes "run") (words_of (maybe (codes "steps") s (maybe (codes "cells") l (maybe (codes "degree") g []))) (end os)) refl refl) ∙ steps_part s l g os

-- and what it finds in them
pub record RunFinds (s l g : Option Text) (a b x : Text) : Type 0 where
  pub file : found run_app (ordered (codes "run") (run_pairs s l g) (a ∷ b ∷ x ∷ [])) (codes "file") ≡ Some a
  pub name : found run_app (ordered (codes "run") (run_pairs s l g) (a ∷ b ∷ x ∷ [])) (codes "name") ≡ Some b
  pub input : found run_app (ordered (codes "run") (run_pairs s l g) (a ∷ b ∷ x ∷ [])) (codes "input") ≡ Some x
  pub steps : found run_app (ordered (codes "run") (run_pairs s l g) (a ∷ b ∷ x ∷ [])) (codes "steps") ≡ s
  pub cells : found run_app (ordered (codes "run") (run_pairs s l g) (a ∷ b ∷ x ∷ [])) (codes "cells") ≡ l
  pub degree : found run_app (ordered (codes "run") (run_pairs s l g) (a ∷ b ∷ x ∷ [])) (codes "degree") ≡ g

pub run_finds : (s l g : Option Text) (a b x : Text) → RunFinds s l g a b x
unfolding clap_on_literals
run_finds None None None a b x = record { file = refl; name = refl; input = refl; steps = refl; cells = refl; degree = refl }
run_finds None None (Some g) a b x = record { file = refl; name = refl; input = refl; steps = refl; cells = refl; degree = refl }
run_finds None (Some l) None a b x = record { file = refl; name = refl; input = refl; steps = refl; cells = refl; degree = refl }
run_finds None (Some l) (Some g) a b x = record { file = refl; name = refl; input = refl; steps = refl; cells = refl; degree = refl }
run_finds (Some s) None None a b x = record { file = refl; name = refl; input = refl; steps = refl; cells = refl; degree = refl }
run_finds (Some s) None (Some g) a b x = record { file = refl; name = refl; input = refl; steps = refl; cells = refl; degree = refl }
run_finds (Some s) (Some l) None a b x = record { file = refl; name = refl; input = refl; steps = refl; cells = refl; degree = refl }
run_finds (Some s) (Some l) (Some g) a b x = record { file = refl; name = refl; input = refl; steps = refl; cells = refl; degree = refl }
