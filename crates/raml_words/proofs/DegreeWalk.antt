-- What `clap` makes of the ordered words of a command with a degree and no rule: word by word, and what is made of that.
use Rattle.std.proofs.Common.{◌≡◌, Bool, true, false, cond, List, [], ◌∷◌, Option, Some, None, codes, refl, sym, ap, ◌∙◌}
use Rattle.std.specs.Prelude.{◌&&◌, is_some, option_map, option_and_then}
use Rattle.clap.specs.ValueTests.{is_unsigned_in}
use Rattle.clap.specs.Simple.{App, built, argument_words}
use Rattle.clap.proofs.OnLiterals.{clap_on_literals}
use Rattle.raml_words.specs.Words.{Text}
use Rattle.raml_words.specs.Sorting.{Arguments, number_in, needed, value_of, once, one_of, two_of, both, degree_in}
use Rattle.raml_words.specs.Apps.{file_degree_app, files_degree_app, degree_pairs, option_word, ordered}
use Rattle.raml_words.specs.Clapped.{none, is_taken, found, one_text, two_texts, degree_texts}
use Rattle.raml_words.specs.Made.{given_number, degree_words, degree_made, degree_read}
use Rattle.raml_words.proofs.Walk.{tail, Takes, option_step, row, W, end, starts}
use Rattle.raml_words.proofs.Found.{refused_number, no_needed}

-- `clap` has such a command: it takes one degree, and the operands of which something is made
record TakesDegree {A : Type 0} (app : App) (of_values : (Text → Option Text) → Option A) (of_operands : List Text → Option A) : Type 0 where
  option : (v : Text) → Takes (built app).top (W []) (option_word (codes "degree") v) (W (row (codes "degree") v ∷ [])) (is_unsigned_in 1 4 v)
  ends : (v : Text) (os : List Text) → none (tail (built app).top (W (row (codes "degree") v ∷ [])) (codes "--" ∷ os)) ≡ is_some (of_operands os)
  alone : built app ≡ record { top = (built app).top; subs = [] }
  named : (command : Text) (ws : List Text) → argument_words app (command ∷ ws) ≡ ws
  without : (command : Text) (os : List Text) → is_taken app (ordered command [] os) ≡ false
  finds : (command v : Text) (os : List Text) (a : A) → of_operands os ≡ Some a → degree_texts of_values (found app (ordered command (degree_pairs (Some v)) os)) ≡ Some (a, v)

-- ---- one operand

file_option : (v : Text) → Takes (built file_degree_app).top (W []) (option_word (codes "degree") v) (W (row (codes "degree") v ∷ [])) (is_unsigned_in 1 4 v)
unfolding clap_on_literals
file_option v = record { good = λ e. rw e refl; bad = λ e. rw e refl; goes_on = refl }

file_ends : (v : Text) (os : List Text) → none (tail (built file_degree_app).top (W (row (codes "degree") v ∷ [])) (codes "--" ∷ os)) ≡ is_some (one_of os)
unfolding clap_on_literals
file_ends v [] = refl
file_ends v (f ∷ []) = refl
file_ends v (f ∷ g ∷ os) = refl

file_without : (command : Text) (os : List Text) → is_taken file_degree_app (ordered command [] os) ≡ false
unfolding clap_on_literals
file_without command [] = refl
file_without command (f ∷ []) = refl
file_without command (f ∷ g ∷ os) = refl

file_found : (command v f : Text) → degree_texts one_text (found file_degree_app (ordered command (degree_pairs (Some v)) (f ∷ []))) ≡ Some (f, v)
unfolding clap_on_literals
file_found command v f = refl

file_finds : (command v : Text) (os : List Text) (a : Text) → one_of os ≡ Some a → degree_texts one_text (found file_degree_app (ordered command (degree_pairs (Some v)) os)) ≡ Some (a, v)
file_finds command v (f ∷ []) a e = let same : f ≡ a = cc in file_found command v f ∙ ap (λ (f : Text). Some (f, v)) same
file_finds command v [] a e = absurd (cc)
file_finds command v (f ∷ g ∷ os) a e = absurd (cc)

file_takes : TakesDegree file_degree_app one_text one_of
file_takes = record { option = file_option; ends = file_ends; alone = refl; named = λ command ws. refl; without = file_without; finds = file_finds }

-- ---- two operands

files_option : (v : Text) → Takes (built files_degree_app).top (W []) (option_word (codes "degree") v) (W (row (codes "degree") v ∷ [])) (is_unsigned_in 1 4 v)
unfolding clap_on_literals
files_option v = record { good = λ e. rw e refl; bad = λ e. rw e refl; goes_on = refl }

files_ends : (v : Text) (os : List Text) → none (tail (built files_degree_app).top (W (row (codes "degree") v ∷ [])) (codes "--" ∷ os)) ≡ is_some (two_of os)
unfolding clap_on_literals
files_ends v [] = refl
files_ends v (f ∷ []) = refl
files_ends v (f ∷ g ∷ []) = refl
files_ends v (f ∷ g ∷ h ∷ os) = refl

files_without : (command : Text) (os : List Text) → is_taken files_degree_app (ordered command [] os) ≡ false
unfolding clap_on_literals
files_without command [] = refl
files_without command (f ∷ []) = refl
files_without command (f ∷ g ∷ []) = refl
files_without command (f ∷ g ∷ h ∷ os) = refl

files_found : (command v f g : Text) → degree_texts two_texts (found files_degree_app (ordered command (degree_pairs (Some v)) (f ∷ g ∷ []))) ≡ Some ((f, g), v)
unfolding clap_on_literals
files_found command v f g = refl

files_finds : (command v : Text) (os : List Text) (a : Text × Text) → two_of os ≡ Some a → degree_texts two_texts (found files_degree_app (ordered command (degree_pairs (Some v)) os)) ≡ Some (a, v)
files_finds command v (f ∷ g ∷ []) a e = let same : (f, g) ≡ a = cc in files_found command v f g ∙ ap (λ (p : Text × Text). Some (p, v)) same
files_finds command v [] a e = absurd (cc)
files_finds command v (f ∷ []) a e = absurd (cc)
files_finds command v (f ∷ g ∷ h ∷ os) a e = absurd (cc)

files_takes : TakesDegree files_degree_app two_texts two_of
files_takes = record { option = files_option; ends = files_ends; alone = refl; named = λ command ws. refl; without = files_without; finds = files_finds }

-- ---- what is made of the words

both_none : {A B : Type 0} (o : Option A) (p : Option B) → p ≡ None → both o p ≡ None
both_none None p e = refl
both_none (Some a) p e = ap (option_map (λ b. (a, b))) e

module _ {A : Type 0} (app : App) (of_values : (Text → Option Text) → Option A) (of_operands : List Text → Option A) (takes : TakesDegree app of_values of_operands) (command : Text) where
  taken : (v : Text) (os : List Text) → is_taken app (ordered command (degree_pairs (Some v)) os) ≡ (is_unsigned_in 1 4 v && is_some (of_operands os))
  taken v os =
      ap none (starts app command (option_word (codes "degree") v ∷ end os) takes.alone (takes.named command _))
      ∙ option_step (built app).top _ _ _ _ _ (end os) (takes.option v) (takes.ends v os)

  not_taken : (words : List Text) → is_taken app words ≡ false → degree_read app of_values words ≡ None
  not_taken words e = ap (λ b. option_and_then degree_made (cond b (degree_texts of_values (found app words)) None)) e

  degree_here : (v : Text) (os : List Text) (a : A) → of_operands os ≡ Some a → is_taken app (ordered command (degree_pairs (Some v)) os) ≡ true
      → degree_read app of_values (ordered command (degree_pairs (Some v)) os) ≡ option_map (λ degree. (a, degree)) (number_in 1 4 v)
  degree_here v os a e t = rw (t, takes.finds command v os a e) refl

  number_read : (v : Text) (os : List Text) (o : Option A) (t : Bool) → is_unsigned_in 1 4 v ≡ t → of_operands os ≡ o → (t ≡ false → number_in 1 4 v ≡ None)
      → degree_read app of_values (ordered command (degree_pairs (Some v)) os) ≡ both o (number_in 1 4 v)
  number_read v os (Some a) true p q n = degree_here v os a q (taken v os ∙ rw (p, q) refl)
  number_read v os None true p q n = not_taken _ (taken v os ∙ rw (p, q) refl)
  number_read v os o false p q n = not_taken _ (taken v os ∙ rw p refl) ∙ sym (both_none o (number_in 1 4 v) (n refl))

  words_read : (d : Option Text) (os : List Text) → given_number d ≡ true → degree_read app of_values (ordered command (degree_pairs d) os) ≡ both (of_operands os) (needed 1 4 d)
  words_read None os n = not_taken _ (takes.without command os) ∙ sym (both_none (of_operands os) None refl)
  words_read (Some v) os n = number_read v os (of_operands os) (is_unsigned_in 1 4 v) refl refl (refused_number 1 4 v n)

  -- the words that are ordered are read as what they ask for
  degree_law : (given : Arguments) → option_and_then (degree_read app of_values) (degree_words command given) ≡ degree_in of_operands given
  degree_law given = by (once given.1) (given_number d) refl
    where
      d : Option Text
      d = value_of (codes "degree") given.1

      by : (o n : Bool) → given_number d ≡ n
          → option_and_then (degree_read app of_values) (cond (o && n) (Some (ordered command (degree_pairs d) given.0)) None) ≡ cond o (both (of_operands given.0) (needed 1 4 d)) None
      by true true e = words_read d given.0 e
      by true false e = sym (both_none (of_operands given.0) (needed 1 4 d) (no_needed d e))
      by false n e = refl

pub file_degree_law : (command : Text) (given : Arguments) → option_and_then (degree_read file_degree_app one_text) (degree_words command given) ≡ degree_in one_of given
file_degree_law = degree_law file_degree_app one_text one_of file_takes

pub files_degree_law : (command : Text) (given : Arguments) → option_and_then (degree_read files_degree_app two_texts) (degree_words command given) ≡ degree_in two_of given
files_degree_law = degree_law files_degree_app two_texts two_of files_takes
