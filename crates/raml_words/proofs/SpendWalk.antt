-- What `clap` makes of the ordered words of `spend`: word by word.
use Rattle.std.proofs.Common.{◌≡◌, List, [], ◌∷◌, Option, Some, None, codes, refl, ap, ◌∙◌}
use Rattle.std.specs.Prelude.{◌&&◌}
use Rattle.raml_words.specs.Words.{Text}
use Rattle.clap.specs.ValueTests.{is_unsigned_in}
use Rattle.clap.specs.Simple.{Shape, built}
use Rattle.clap.proofs.OnLiterals.{clap_on_literals}
use Rattle.raml_words.specs.Apps.{spend_app, spend_pairs, maybe, option_word, accepted, has_four, ordered}
use Rattle.raml_words.specs.Clapped.{none, is_taken, found}
use Rattle.raml_words.proofs.Walk.{tail, Takes, option_step, with_row, W, words_of, end, starts}

abbrev S : Shape
S = (built spend_app).top

takes_steps : (s : Text) → Takes S (W []) (option_word (codes "steps") s) (W (with_row (codes "steps") (Some s) [])) (is_unsigned_in 1 1000000000 s)
unfolding clap_on_literals
takes_steps s = record { good = λ e. rw e refl; bad = λ e. rw e refl; goes_on = refl }

takes_cells : (s : Option Text) (l : Text) → Takes S (W (with_row (codes "steps") s [])) (option_word (codes "cells") l) (W (with_row (codes "steps") s (with_row (codes "cells") (Some l) []))) (is_unsigned_in 0 16777216 l)
unfolding clap_on_literals
takes_cells None l = record { good = λ e. rw e refl; bad = λ e. rw e refl; goes_on = refl }
takes_cells (Some s) l = record { good = λ e. rw e refl; bad = λ e. rw e refl; goes_on = refl }

operands : (s l : Option Text) (os : List Text) → none (tail S (W (with_row (codes "steps") s (with_row (codes "cells") l []))) (codes "--" ∷ os)) ≡ has_four os
unfolding clap_on_literals
operands None None [] = refl
operands None None (a ∷ []) = refl
operands None None (a ∷ b ∷ []) = refl
operands None None (a ∷ b ∷ c ∷ []) = refl
operands None None (a ∷ b ∷ c ∷ d ∷ []) = refl
operands None None (a ∷ b ∷ c ∷ d ∷ e ∷ os) = refl
operands None (Some l) [] = refl
operands None (Some l) (a ∷ []) = refl
operands None (Some l) (a ∷ b ∷ []) = refl
operands None (Some l) (a ∷ b ∷ c ∷ []) = refl
operands None (Some l) (a ∷ b ∷ c ∷ d ∷ []) = refl
operands None (Some l) (a ∷ b ∷ c ∷ d ∷ e ∷ os) = refl
operands (Some s) None [] = refl
operands (Some s) None (a ∷ []) = refl
operands (Some s) None (a ∷ b ∷ []) = refl
operands (Some s) None (a ∷ b ∷ c ∷ []) = refl
operands (Some s) None (a ∷ b ∷ c ∷ d ∷ []) = refl
operands (Some s) None (a ∷ b ∷ c ∷ d ∷ e ∷ os) = refl
operands (Some s) (Some l) [] = refl
operands (Some s) (Some l) (a ∷ []) = refl
operands (Some s) (Some l) (a ∷ b ∷ []) = refl
operands (Some s) (Some l) (a ∷ b ∷ c ∷ []) = refl
operands (Some s) (Some l) (a ∷ b ∷ c ∷ d ∷ []) = refl
operands (Some s) (Some l) (a ∷ b ∷ c ∷ d ∷ e ∷ os) = refl

cells_part : (s l : Option Text) (os : List Text) → none (tail S (W (with_row (codes "steps") s [])) (words_of (maybe (codes "cells") l []) (end os))) ≡ (accepted 0 16777216 l && has_four os)
cells_part s None os = operands s None os
cells_part s (Some l) os = option_step S _ _ _ _ _ (end os) (takes_cells s l) (operands s (Some l) os)

steps_part : (s l : Option Text) (os : List Text) → none (tail S (W []) (words_of (maybe (codes "steps") s (maybe (codes "cells") l [])) (end os))) ≡ (accepted 1 1000000000 s && (accepted 0 16777216 l && has_four os))
steps_part None l os = cells_part None l os
steps_part (Some s) l os =
    option_step S _ _ _ _ _ (words_of (maybe (codes "cells") l []) (end os)) (takes_steps s) (cells_part (Some s) l os)

-- `spend` takes its words exactly where each number that is given is in its range, and there are four operands
pub spend_taken : (s l : Option Text) (os : List Text) → is_taken spend_app (ordered (codes "spend") (spend_pairs s l) os) ≡ (accepted 1 1000000000 s && (accepted 0 16777216 l && has_four os))
spend_taken s l os = ap none (starts spend_app (codes "spend") (words_of (maybe (codes "steps") s (maybe (codes "cells") l [])) (end os)) refl refl) ∙ steps_part s l os

-- and what it finds in them
pub record SpendFinds (s l : Option Text) (a b c d : Text) : Type 0 where
  pub file : found spend_app (ordered (codes "spend") (spend_pairs s l) (a ∷ b ∷ c ∷ d ∷ [])) (codes "file") ≡ Some a
  pub prices : found spend_app (ordered (codes "spend") (spend_pairs s l) (a ∷ b ∷ c ∷ d ∷ [])) (codes "prices") ≡ Some b
  pub name : found spend_app (ordered (codes "spend") (spend_pairs s l) (a ∷ b ∷ c ∷ d ∷ [])) (codes "name") ≡ Some c
  pub input : found spend_app (ordered (codes "spend") (spend_pairs s l) (a ∷ b ∷ c ∷ d ∷ [])) (codes "input") ≡ Some d
  pub steps : found spend_app (ordered (codes "spend") (spend_pairs s l) (a ∷ b ∷ c ∷ d ∷ [])) (codes "steps") ≡ s
  pub cells : found spend_app (ordered (codes "spend") (spend_pairs s l) (a ∷ b ∷ c ∷ d ∷ [])) (codes "cells") ≡ l

pub spend_finds : (s l : Option Text) (a b c d : Text) → SpendFinds s l a b c d
unfolding clap_on_literals
spend_finds None None a b c d = record { file = refl; prices = refl; name = refl; input = refl; steps = refl; cells = refl }
spend_finds None (Some l) a b c d = record { file = refl; prices = refl; name = refl; input = refl; steps = refl; cells = refl }
spend_finds (Some s) None a b c d = record { file = refl; prices = refl; name = refl; input = refl; steps = refl; cells = refl }
spend_finds (Some s) (Some l) a b c d = record { file = refl; prices = refl; name = refl; input = refl; steps = refl; cells = refl }
