-- What `clap` makes of the ordered words of commands with at most one number.
use Rattle.std.proofs.Common.{◌≡◌, ℕ, Bool, true, false, cond, List, [], ◌∷◌, Option, Some, None, codes, refl, sym, ap, ◌∙◌}
use Rattle.std.specs.Prelude.{◌&&◌, nat_le, option_and_then}
use Rattle.std.specs.List.{list_all}
use Rattle.std.specs.Option.{is_some}
use Rattle.std.specs.Str.Parse.{digits_value}
use Rattle.std.proofs.lemmas.Bool.{and_parts}
use Rattle.clap.specs.ValueTests.{is_unsigned_in}
use Rattle.clap.proofs.OnLiterals.{clap_on_literals}
use Rattle.raml_words.specs.Words.{Text}
use Rattle.raml_words.specs.Sorting.{is_number, number_in, needed, rule_in, one_of, two_of, count_of, bounds_with, bounds_by}
use Rattle.raml_words.specs.Apps.{bounds_app, ordered, bounds_pairs, has_one}
use Rattle.raml_words.specs.Clapped.{is_taken, found, BoundsTexts, bounds_texts}
use Rattle.raml_words.specs.Made.{given_number, given_rule, one_clapped, two_clapped, count_clapped, bounds_clapped, bounds_made}
use Rattle.raml_words.specs.declared.request.Rule.{Rule}
use Rattle.raml_words.proofs.Accepts.{accepts_number}
use Rattle.raml_words.proofs.BoundsWalk.{bounds_taken}

pub one_law : (command : Text) (os : List Text) → one_clapped command os ≡ one_of os
unfolding clap_on_literals
one_law command [] = refl
one_law command (f ∷ []) = refl
one_law command (f ∷ g ∷ os) = refl

pub two_law : (command : Text) (os : List Text) → two_clapped command os ≡ two_of os
unfolding clap_on_literals
two_law command [] = refl
two_law command (f ∷ []) = refl
two_law command (f ∷ g ∷ []) = refl
two_law command (f ∷ g ∷ h ∷ os) = refl

abbrev pub some_pair : Text → Text → Option (Text × Text)
some_pair f g = Some (f, g)

-- a number outside its range
pub refused_number : (least most : ℕ) (v : Text) → is_number v ≡ true → is_unsigned_in least most v ≡ false → number_in least most v ≡ None
refused_number least most v n e =
    let out : (nat_le least (digits_value 10 v) && nat_le (digits_value 10 v) most) ≡ false = sym (accepts_number least most v n) ∙ e in
    rw (n, out) refl

no_number : (least most : ℕ) (v : Text) → is_number v ≡ false → number_in least most v ≡ None
no_number least most v e = rw e refl

-- ---- a number alone

count_one : (command k : Text) (b : Bool) → is_unsigned_in 1 100 k ≡ b → count_clapped command (k ∷ []) ≡ cond b (Some k) None
unfolding clap_on_literals
count_one command k true e = rw e refl
count_one command k false e = rw e refl

count_empty : (command : Text) → count_clapped command [] ≡ None
unfolding clap_on_literals
count_empty command = refl

count_many : (command a b : Text) (os : List Text) → count_clapped command (a ∷ b ∷ os) ≡ None
unfolding clap_on_literals
count_many command a b os = refl

count_number : (command k : Text) (b : Bool) → is_number k ≡ true → is_unsigned_in 1 100 k ≡ b → option_and_then (number_in 1 100) (count_clapped command (k ∷ [])) ≡ number_in 1 100 k
count_number command k true n e = ap (option_and_then (number_in 1 100)) (count_one command k true e)
count_number command k false n e = ap (option_and_then (number_in 1 100)) (count_one command k false e) ∙ sym (refused_number 1 100 k n e)

pub count_law : (command : Text) (os : List Text) → list_all is_number os ≡ true → option_and_then (number_in 1 100) (count_clapped command os) ≡ count_of os
count_law command [] n = ap (option_and_then (number_in 1 100)) (count_empty command)
count_law command (k ∷ []) n = count_number command k (is_unsigned_in 1 100 k) (and_parts (is_number k) true n).0 refl
count_law command (a ∷ b ∷ os) n = ap (option_and_then (number_in 1 100)) (count_many command a b os)

pub count_refused : (os : List Text) → list_all is_number os ≡ false → count_of os ≡ None
count_refused [] n = refl
count_refused (k ∷ []) n = by (is_number k) refl n
  where
    by : (b : Bool) → is_number k ≡ b → (b && true) ≡ false → number_in 1 100 k ≡ None
    by true e h = absurd (cc)
    by false e h = no_number 1 100 k e
count_refused (a ∷ b ∷ os) n = refl

-- ---- a degree and a rule

bounds_without : (command : Text) (p : Option Text) (os : List Text) → bounds_clapped command None p os ≡ None
unfolding clap_on_literals
bounds_without command None [] = refl
bounds_without command None (f ∷ []) = refl
bounds_without command None (f ∷ g ∷ os) = refl
bounds_without command (Some r) [] = refl
bounds_without command (Some r) (f ∷ []) = refl
bounds_without command (Some r) (f ∷ g ∷ os) = refl

record BoundsFinds (command v f : Text) (p : Option Text) : Type 0 where
  file : found bounds_app (ordered command (bounds_pairs (Some v) p) (f ∷ [])) (codes "file") ≡ Some f
  degree : found bounds_app (ordered command (bounds_pairs (Some v) p) (f ∷ [])) (codes "degree") ≡ Some v
  pivot : found bounds_app (ordered command (bounds_pairs (Some v) p) (f ∷ [])) (codes "pivot") ≡ p

bounds_finds : (command v f : Text) (p : Option Text) → BoundsFinds command v f p
unfolding clap_on_literals
bounds_finds command v f None = record { file = refl; degree = refl; pivot = refl }
bounds_finds command v f (Some r) = record { file = refl; degree = refl; pivot = refl }

abbrev texts : Text → Text → Option Text → BoundsTexts
texts f v p = record { file = f; degree = v; pivot = p }

bounds_here : (command v f : Text) (p : Option Text) → is_unsigned_in 1 4 v ≡ true → bounds_clapped command (Some v) p (f ∷ []) ≡ Some (texts f v p)
bounds_here command v f p e =
    let t : is_taken bounds_app (ordered command (bounds_pairs (Some v) p) (f ∷ [])) ≡ true = bounds_taken command v p (f ∷ []) true e in
    let h = bounds_finds command v f p in
    rw (t, h.file, h.degree, h.pivot) refl

bounds_not : (command v : Text) (p : Option Text) (os : List Text) → is_taken bounds_app (ordered command (bounds_pairs (Some v) p) os) ≡ false → bounds_clapped command (Some v) p os ≡ None
bounds_not command v p os e = ap (λ b. cond b (bounds_texts (found bounds_app (ordered command (bounds_pairs (Some v) p) os))) None) e

and_false : (a : Bool) → (a && false) ≡ false
and_false true = refl
and_false false = refl

no_degree : (f : Text) (d : Option ℕ) (r : Option Rule) → d ≡ None → bounds_with f d r ≡ None
no_degree f d r e = rw e refl

no_rule : (f : Text) (d : Option ℕ) (r : Option Rule) → r ≡ None → bounds_with f d r ≡ None
no_rule f None r e = refl
no_rule f (Some d) r e = rw e refl

bounds_one : (command v f : Text) (p : Option Text) (b : Bool) → is_number v ≡ true → is_unsigned_in 1 4 v ≡ b → option_and_then bounds_made (bounds_clapped command (Some v) p (f ∷ [])) ≡ bounds_by (f ∷ []) (Some v) p
bounds_one command v f p true n e = ap (option_and_then bounds_made) (bounds_here command v f p e)
bounds_one command v f p false n e =
    ap (option_and_then bounds_made) (bounds_not command v p (f ∷ []) (bounds_taken command v p (f ∷ []) false e)) ∙ sym (no_degree f (number_in 1 4 v) (rule_in p) (refused_number 1 4 v n e))

bounds_other : (command v : Text) (p : Option Text) (os : List Text) → has_one os ≡ false → option_and_then bounds_made (bounds_clapped command (Some v) p os) ≡ None
bounds_other command v p os h =
    let t = bounds_taken command v p os (is_unsigned_in 1 4 v) refl ∙ ap (λ b. is_unsigned_in 1 4 v && b) h ∙ and_false (is_unsigned_in 1 4 v) in
    ap (option_and_then bounds_made) (bounds_not command v p os t)

pub bounds_law : (command : Text) (d p : Option Text) (os : List Text) → given_number d ≡ true → option_and_then bounds_made (bounds_clapped command d p os) ≡ bounds_by os d p
bounds_law command None p [] n = ap (option_and_then bounds_made) (bounds_without command p [])
bounds_law command None p (f ∷ []) n = ap (option_and_then bounds_made) (bounds_without command p (f ∷ []))
bounds_law command None p (f ∷ g ∷ os) n = ap (option_and_then bounds_made) (bounds_without command p (f ∷ g ∷ os))
bounds_law command (Some v) p [] n = bounds_other command v p [] refl
bounds_law command (Some v) p (f ∷ []) n = bounds_one command v f p (is_unsigned_in 1 4 v) n refl
bounds_law command (Some v) p (f ∷ g ∷ os) n = bounds_other command v p (f ∷ g ∷ os) refl

pub no_needed : (d : Option Text) → given_number d ≡ false → needed 1 4 d ≡ None
no_needed None e = absurd (cc)
no_needed (Some v) e = no_number 1 4 v e

none_named : {A : Type 0} (o : Option A) → is_some o ≡ false → o ≡ None
none_named None e = refl
none_named (Some a) e = absurd (cc)

pub bounds_no_degree : (os : List Text) (d p : Option Text) → given_number d ≡ false → bounds_by os d p ≡ None
bounds_no_degree [] d p e = refl
bounds_no_degree (f ∷ []) d p e = no_degree f (needed 1 4 d) (rule_in p) (no_needed d e)
bounds_no_degree (f ∷ g ∷ os) d p e = refl

pub bounds_no_rule : (os : List Text) (d p : Option Text) → given_rule p ≡ false → bounds_by os d p ≡ None
bounds_no_rule [] d p e = refl
bounds_no_rule (f ∷ []) d p e = no_rule f (needed 1 4 d) (rule_in p) (none_named (rule_in p) e)
bounds_no_rule (f ∷ g ∷ os) d p e = refl
