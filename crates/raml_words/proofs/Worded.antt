-- What is read of the words is what they ask for.
use Rattle.std.proofs.Common.{◌≡◌, ◌≢◌, ℕ, Bool, true, false, cond, List, [], ◌∷◌, Option, Some, None, Result, Ok, Err, IfOk, ⊎_elim, refl, sym, ap, subst, ◌∙◌, arith, codes}
use Rattle.std.specs.Prelude.{option_map, option_and_then, IfErr}
use Rattle.std.specs.Str.{bytes_eq}
use Rattle.std.proofs.lemmas.Slice.Eq.{bytes_eq-Decides}
use Rattle.raml_words.specs.Words.{Text, Request, Types, Code, Analyse, Certify, Verify, Run, Trial, Priced, Spend, Compare, Powers, Contract, Sorted, Once, Usual, bounds_options, run_options, degree_options, spend_options, AsksOfFile, AsksOfFiles, AsksBounds, AsksTrial, AsksAtDegree, Asks, AsksNothing}
use Rattle.raml_words.specs.Sorting.{Arguments, halves, arguments, optional, needed, usual_steps, rule_in, value_of, once, without_options, one_of, two_of, count_of, Bounds, bounds_with, bounds_by, bounds_in, run_with, run_by, run_in, both, degree_in, spend_with, spend_by, spend_in, priced_with, compare_with, contract_with, powers_with, analyse_with, certify_with, verify_with, given_one, given_two, given_count, given_bounds, given_degree, request_by, request_in}
use Rattle.raml_words.specs.Asked.{request_of, Tells}
use Rattle.raml_words.specs.declared.request.Rule.{Rule}
use Rattle.raml_words.specs.declared.request.Request.{Request as Request'}
use Rattle.raml_words.specs.declared.request.WordsFault.{WordsFault}
use Rattle.raml_words.specs.declared.request.WordsFault.TheVariants.{Usage, NoMemory}
use Rattle.raml_words.proofs.Numbers.{number_is, number_there}
use Rattle.raml_words.proofs.Given.{needed_from, needed_to, may_from, may_to, picks_from, picks_to, once_from, once_to, one_of_one, one_of_two, one_of_three}
use Rattle.raml_words.proofs.Sorts.{Plain, arguments_are, arguments_of}

abbrev Good : Text → Type 0
Good n = (halves n ≡ None) × (n ≢ [])

no_option : Plain []
no_option name h = let l = h.1 in absurd (omega (arith, l))

bounds_plain : Plain bounds_options
bounds_plain name h =
    ⊎_elim (λ e. subst Good e (refl, λ q. absurd (cc))) (λ e. subst Good e (refl, λ q. absurd (cc))) (one_of_two (codes "degree") (codes "pivot") name h)

run_plain : Plain run_options
run_plain name h =
    ⊎_elim (λ e. subst Good e (refl, λ q. absurd (cc))) (λ h. ⊎_elim (λ e. subst Good e (refl, λ q. absurd (cc))) (λ e. subst Good e (refl, λ q. absurd (cc))) h)
    (one_of_three (codes "steps") (codes "cells") (codes "degree") name h)

degree_plain : Plain degree_options
degree_plain name h = subst Good (one_of_one (codes "degree") name h) (refl, λ q. absurd (cc))

spend_plain : Plain spend_options
spend_plain name h =
    ⊎_elim (λ e. subst Good e (refl, λ q. absurd (cc))) (λ e. subst Good e (refl, λ q. absurd (cc))) (one_of_two (codes "steps") (codes "cells") name h)

-- what the words behind a command are read as
sorted_as : {R : Type 0} (options words : List Text) (of_given : Arguments → Option R) (r : R) (Q : Type 0) → ((given : Arguments) → Sorted options words given.0 given.1 → of_given given ≡ Some r → Q) → option_and_then of_given (arguments options words) ≡ Some r → Q
sorted_as options words of_given r Q then e = by (arguments options words) (arguments_are options words) e
  where
    by : (o : Option Arguments) → ((given : Arguments) → o ≡ Some given → Sorted options words given.0 given.1) → option_and_then of_given o ≡ Some r → Q
    by (Some given) sorted e = then given (sorted given refl) e
    by None sorted e = absurd (cc)

-- What each command makes of the words behind it is what they ask for.
one_sorted : (words : List Text) (file : Text) (given : Arguments) → Sorted [] words given.0 given.1 → without_options one_of given ≡ Some file → Sorted [] words (file ∷ []) []
one_sorted words file (f ∷ [], []) h e = let same : f ≡ file = cc in subst (λ f. Sorted [] words (f ∷ []) []) same h
one_sorted words file ([], []) h e = absurd (cc)
one_sorted words file (f ∷ g ∷ os, []) h e = absurd (cc)
one_sorted words file (os, v ∷ vs) h e = absurd (cc)

one_asked : (name : Text) (words : List Text) (file : Text) → given_one words ≡ Some file → AsksOfFile name (name ∷ words) file
one_asked name words file e = record { rest = words; command = refl; sorted = sorted_as [] words (without_options one_of) file (Sorted [] words (file ∷ []) []) (one_sorted words file) e }

two_sorted : (words : List Text) (files : Text × Text) (given : Arguments) → Sorted [] words given.0 given.1 → without_options two_of given ≡ Some files → Sorted [] words (files.0 ∷ files.1 ∷ []) []
two_sorted words files (f ∷ g ∷ [], []) h e = let same : (f, g) ≡ files = cc in subst (λ (p : Text × Text). Sorted [] words (p.0 ∷ p.1 ∷ []) []) same h
two_sorted words files ([], []) h e = absurd (cc)
two_sorted words files (f ∷ [], []) h e = absurd (cc)
two_sorted words files (f ∷ g ∷ x ∷ os, []) h e = absurd (cc)
two_sorted words files (os, v ∷ vs) h e = absurd (cc)

two_asked : (words : List Text) (files : Text × Text) → given_two words ≡ Some files → AsksOfFiles (codes "verify" ∷ words) files.0 files.1
two_asked words files e = record { rest = words; command = refl; sorted = sorted_as [] words (without_options two_of) files (Sorted [] words (files.0 ∷ files.1 ∷ []) []) (two_sorted words files) e }

count_sorted : (words : List Text) (n : ℕ) (given : Arguments) → Sorted [] words given.0 given.1 → without_options count_of given ≡ Some n → AsksTrial (codes "trial" ∷ words) n
count_sorted words n (k ∷ [], []) h e = record { rest = words; command = refl; value = k; sorted = h; number = number_is 1 100 k n e }
count_sorted words n ([], []) h e = absurd (cc)
count_sorted words n (k ∷ g ∷ os, []) h e = absurd (cc)
count_sorted words n (os, v ∷ vs) h e = absurd (cc)

count_asked : (words : List Text) (n : ℕ) → given_count words ≡ Some n → AsksTrial (codes "trial" ∷ words) n
count_asked words n e = sorted_as [] words (without_options count_of) n (AsksTrial (codes "trial" ∷ words) n) (count_sorted words n) e

module _ (name : Text) (words : List Text) (b : Bounds) where
  abbrev AreAsked : Bounds → Type 0
  AreAsked b = AsksBounds name (name ∷ words) b.0 b.1 b.2

  bounds_known : (file : Text) (values : List (Text × Text)) → Sorted bounds_options words (file ∷ []) values → Once values → (d : Option ℕ) (r : Option Rule)
      → needed 1 4 (value_of (codes "degree") values) ≡ d → rule_in (value_of (codes "pivot") values) ≡ r → bounds_with file d r ≡ Some b → AreAsked b
  bounds_known file values h o (Some d) (Some r) p q e =
      let same : (file, d, r) ≡ b = cc in
      subst AreAsked same (record { rest = words; command = refl; values = values; sorted = h; once = o; degree_given = needed_from (codes "degree") 1 4 values d p; rule_given = picks_from values r q })
  bounds_known file values h o (Some d) None p q e = absurd (cc)
  bounds_known file values h o None r p q e = absurd (cc)

  bounds_once : (os : List Text) (values : List (Text × Text)) → Sorted bounds_options words os values → Once values → bounds_by os (value_of (codes "degree") values) (value_of (codes "pivot") values) ≡ Some b → AreAsked b
  bounds_once (file ∷ []) values h o e = bounds_known file values h o _ _ refl refl e
  bounds_once [] values h o e = absurd (cc)
  bounds_once (file ∷ g ∷ os) values h o e = absurd (cc)

  bounds_sorted : (given : Arguments) → Sorted bounds_options words given.0 given.1 → bounds_in given ≡ Some b → AreAsked b
  bounds_sorted given h e = by (once given.1) (once_from given.1) e
    where
      by : (t : Bool) → (t ≡ true → Once given.1) → cond t (bounds_by given.0 (value_of (codes "degree") given.1) (value_of (codes "pivot") given.1)) None ≡ Some b → AreAsked b
      by true o e = bounds_once given.0 given.1 h (o refl) e
      by false o e = absurd (cc)

  bounds_asked : given_bounds words ≡ Some b → AreAsked b
  bounds_asked e = sorted_as bounds_options words bounds_in b (AreAsked b) bounds_sorted e

usual_is : (given : Option ℕ) → Usual 10000000 given (usual_steps given)
usual_is None = refl
usual_is (Some n) = refl

run_known : (words : List Text) (r : Request) (file name input : Text) (values : List (Text × Text)) → Sorted run_options words (file ∷ name ∷ input ∷ []) values → Once values
    → (s c d : Option (Option ℕ)) → optional 1 1000000000 (value_of (codes "steps") values) ≡ s → optional 0 16777216 (value_of (codes "cells") values) ≡ c → optional 1 4 (value_of (codes "degree") values) ≡ d
    → run_with file name input s c d ≡ Some r → Asks (codes "run" ∷ words) r
run_known words r file name input values h o (Some s) (Some c) (Some d) p q t e =
    let same : Run file name input (usual_steps s) c d ≡ r = cc in
    subst (Asks (codes "run" ∷ words)) same (record {
      rest = words;
      command = refl;
      values = values;
      sorted = h;
      once = o;
      given = s;
      steps_given = may_from (codes "steps") 1 1000000000 values s p;
      steps_usual = usual_is s;
      cells_given = may_from (codes "cells") 0 16777216 values c q;
      degree_given = may_from (codes "degree") 1 4 values d t;
    })
run_known words r file name input values h o None c d p q t e = absurd (cc)
run_known words r file name input values h o (Some s) None d p q t e = absurd (cc)
run_known words r file name input values h o (Some s) (Some c) None p q t e = absurd (cc)

run_once : (words : List Text) (r : Request) (os : List Text) (values : List (Text × Text)) → Sorted run_options words os values → Once values
    → run_by os (value_of (codes "steps") values) (value_of (codes "cells") values) (value_of (codes "degree") values) ≡ Some r → Asks (codes "run" ∷ words) r
run_once words r (file ∷ name ∷ input ∷ []) values h o e = run_known words r file name input values h o _ _ _ refl refl refl e
run_once words r [] values h o e = absurd (cc)
run_once words r (a ∷ []) values h o e = absurd (cc)
run_once words r (a ∷ b ∷ []) values h o e = absurd (cc)
run_once words r (a ∷ b ∷ c ∷ d ∷ os) values h o e = absurd (cc)

run_sorted : (words : List Text) (r : Request) (given : Arguments) → Sorted run_options words given.0 given.1 → run_in given ≡ Some r → Asks (codes "run" ∷ words) r
run_sorted words r given h e = by (once given.1) (once_from given.1) e
  where
    by : (t : Bool) → (t ≡ true → Once given.1) → cond t (run_by given.0 (value_of (codes "steps") given.1) (value_of (codes "cells") given.1) (value_of (codes "degree") given.1)) None ≡ Some r → Asks (codes "run" ∷ words) r
    by true o e = run_once words r given.0 given.1 h (o refl) e
    by false o e = absurd (cc)

both_there : {A B : Type 0} (o : Option A) (p : Option B) (c : A × B) → both o p ≡ Some c → (o ≡ Some c.0) × (p ≡ Some c.1)
both_there {A = A} {B = B} (Some a) (Some b) c e = let same : (a, b) ≡ c = cc in (ap (λ (c : A × B). Some c.0) same, ap (λ (c : A × B). Some c.1) same)
both_there (Some a) None c e = absurd (cc)
both_there None p c e = absurd (cc)

-- operands of which this is made are these
abbrev Spelled : {A : Type 0} → (List Text → Option A) → (A → List Text) → Type 0
Spelled {A = A} of_operands spell = (os : List Text) (a : A) → of_operands os ≡ Some a → os ≡ spell a

one_spelled : Spelled one_of (λ file. file ∷ [])
one_spelled (f ∷ []) a e = let same : f ≡ a = cc in ap (λ f. f ∷ []) same
one_spelled [] a e = absurd (cc)
one_spelled (f ∷ g ∷ os) a e = absurd (cc)

two_spelled : Spelled two_of (λ files. files.0 ∷ files.1 ∷ [])
two_spelled (f ∷ g ∷ []) a e = let same : (f, g) ≡ a = cc in ap (λ (p : Text × Text). p.0 ∷ p.1 ∷ []) same
two_spelled [] a e = absurd (cc)
two_spelled (f ∷ []) a e = absurd (cc)
two_spelled (f ∷ g ∷ x ∷ os) a e = absurd (cc)

module _ {A : Type 0} (of_operands : List Text → Option A) (spell : A → List Text) (spelled : Spelled of_operands spell) (name : Text) (words : List Text) (c : A × ℕ) where
  degree_sorted : (given : Arguments) → Sorted degree_options words given.0 given.1 → degree_in of_operands given ≡ Some c → AsksAtDegree name (name ∷ words) (spell c.0) c.1
  degree_sorted given h e = by (once given.1) (once_from given.1) e
    where
      by : (t : Bool) → (t ≡ true → Once given.1) → cond t (both (of_operands given.0) (needed 1 4 (value_of (codes "degree") given.1))) None ≡ Some c → AsksAtDegree name (name ∷ words) (spell c.0) c.1
      by true o e =
          let there = both_there (of_operands given.0) (needed 1 4 (value_of (codes "degree") given.1)) c e in
          record {
            rest = words;
            command = refl;
            values = given.1;
            sorted = subst (λ os. Sorted degree_options words os given.1) (spelled given.0 c.0 there.0) h;
            once = o refl;
            degree_given = needed_from (codes "degree") 1 4 given.1 c.1 there.1;
          }
      by false o e = absurd (cc)

  degree_asked : given_degree of_operands words ≡ Some c → AsksAtDegree name (name ∷ words) (spell c.0) c.1
  degree_asked e = sorted_as degree_options words (degree_in of_operands) c (AsksAtDegree name (name ∷ words) (spell c.0) c.1) degree_sorted e

spend_known : (words : List Text) (r : Request) (file prices name input : Text) (values : List (Text × Text)) → Sorted spend_options words (file ∷ prices ∷ name ∷ input ∷ []) values → Once values
    → (s c : Option (Option ℕ)) → optional 1 1000000000 (value_of (codes "steps") values) ≡ s → optional 0 16777216 (value_of (codes "cells") values) ≡ c
    → spend_with file prices name input s c ≡ Some r → Asks (codes "spend" ∷ words) r
spend_known words r file prices name input values h o (Some s) (Some c) p q e =
    let same : Spend file prices name input (usual_steps s) c ≡ r = cc in
    subst (Asks (codes "spend" ∷ words)) same (record {
      rest = words;
      command = refl;
      values = values;
      sorted = h;
      once = o;
      given = s;
      steps_given = may_from (codes "steps") 1 1000000000 values s p;
      steps_usual = usual_is s;
      cells_given = may_from (codes "cells") 0 16777216 values c q;
    })
spend_known words r file prices name input values h o None c p q e = absurd (cc)
spend_known words r file prices name input values h o (Some s) None p q e = absurd (cc)

spend_once : (words : List Text) (r : Request) (os : List Text) (values : List (Text × Text)) → Sorted spend_options words os values → Once values
    → spend_by os (value_of (codes "steps") values) (value_of (codes "cells") values) ≡ Some r → Asks (codes "spend" ∷ words) r
spend_once words r (file ∷ prices ∷ name ∷ input ∷ []) values h o e = spend_known words r file prices name input values h o _ _ refl refl e
spend_once words r [] values h o e = absurd (cc)
spend_once words r (a ∷ []) values h o e = absurd (cc)
spend_once words r (a ∷ b ∷ []) values h o e = absurd (cc)
spend_once words r (a ∷ b ∷ c ∷ []) values h o e = absurd (cc)
spend_once words r (a ∷ b ∷ c ∷ d ∷ f ∷ os) values h o e = absurd (cc)

spend_sorted : (words : List Text) (r : Request) (given : Arguments) → Sorted spend_options words given.0 given.1 → spend_in given ≡ Some r → Asks (codes "spend" ∷ words) r
spend_sorted words r given h e = by (once given.1) (once_from given.1) e
  where
    by : (t : Bool) → (t ≡ true → Once given.1) → cond t (spend_by given.0 (value_of (codes "steps") given.1) (value_of (codes "cells") given.1)) None ≡ Some r → Asks (codes "spend" ∷ words) r
    by true o e = spend_once words r given.0 given.1 h (o refl) e
    by false o e = absurd (cc)

-- what is made of what the words give
made : {A R : Type 0} (f : A → R) (o : Option A) (r : R) (Q : R → Type 0) → ((a : A) → o ≡ Some a → Q (f a)) → option_map f o ≡ Some r → Q r
made f (Some a) r Q h e = let same : f a ≡ r = cc in subst Q same (h a refl)
made f None r Q h e = absurd (cc)

-- the command of this name, or else what follows
module _ (command : Text) (words : List Text) (r : Request) where
  asked_if : (name : Text) (named other : Option Request) → (named ≡ Some r → Asks (name ∷ words) r) → (other ≡ Some r → Asks (command ∷ words) r) → cond (bytes_eq command name) named other ≡ Some r → Asks (command ∷ words) r
  asked_if name named other asks others e = by (bytes_eq command name) (bytes_eq-Decides command name).0 e
    where
      by : (t : Bool) → (t ≡ true → command ≡ name) → cond t named other ≡ Some r → Asks (command ∷ words) r
      by true is e = subst (λ c. Asks (c ∷ words) r) (sym (is refl)) (asks e)
      by false is e = others e

  command_asked : request_by command words ≡ Some r → Asks (command ∷ words) r
  command_asked =
      asked_if (codes "types") _ _ (made Types (given_one words) r (Asks (codes "types" ∷ words)) (one_asked (codes "types") words))
      (asked_if (codes "code") _ _ (made Code (given_one words) r (Asks (codes "code" ∷ words)) (one_asked (codes "code") words))
      (asked_if (codes "analyse") _ _ (made analyse_with (given_bounds words) r (Asks (codes "analyse" ∷ words)) (bounds_asked (codes "analyse") words))
      (asked_if (codes "certify") _ _ (made certify_with (given_bounds words) r (Asks (codes "certify" ∷ words)) (bounds_asked (codes "certify") words))
      (asked_if (codes "verify") _ _ (made verify_with (given_two words) r (Asks (codes "verify" ∷ words)) (two_asked words))
      (asked_if (codes "run") _ _ (sorted_as run_options words run_in r _ (run_sorted words r))
      (asked_if (codes "trial") _ _ (made Trial (given_count words) r (Asks (codes "trial" ∷ words)) (count_asked words))
      (asked_if (codes "priced") _ _ (made priced_with (given_degree two_of words) r (Asks (codes "priced" ∷ words)) (degree_asked two_of _ two_spelled (codes "priced") words))
      (asked_if (codes "spend") _ _ (sorted_as spend_options words spend_in r _ (spend_sorted words r))
      (asked_if (codes "compare") _ _ (made compare_with (given_degree two_of words) r (Asks (codes "compare" ∷ words)) (degree_asked two_of _ two_spelled (codes "compare") words))
      (asked_if (codes "powers") _ _ (made powers_with (given_degree one_of words) r (Asks (codes "powers" ∷ words)) (degree_asked one_of _ one_spelled (codes "powers") words))
      (asked_if (codes "contract") _ _ (made contract_with (given_degree two_of words) r (Asks (codes "contract" ∷ words)) (degree_asked two_of _ two_spelled (codes "contract") words))
      (λ e. absurd (cc)))))))))))))

-- and what they ask for is read
one_there : (name : Text) (words : List Text) (file : Text) → (h : AsksOfFile name words file) → given_one h.rest ≡ Some file
one_there name words file h = ap (option_and_then (without_options one_of)) (arguments_of [] h.rest (file ∷ []) [] no_option h.sorted)

bounds_there : (name : Text) (words : List Text) (file : Text) (degree : ℕ) (rule : Rule) → (h : AsksBounds name words file degree rule) → given_bounds h.rest ≡ Some (file, degree, rule)
bounds_there name words file degree rule h =
    let given = arguments_of bounds_options h.rest (file ∷ []) h.values bounds_plain h.sorted in
    let d = needed_to (codes "degree") 1 4 h.values degree h.once h.degree_given in
    let r = picks_to h.values rule h.once h.rule_given in
    let made : bounds_in (file ∷ [], h.values) ≡ Some (file, degree, rule) = rw (once_to h.values h.once) (rw (d, r) refl) in
    ap (option_and_then bounds_in) given ∙ made

degree_there : {A : Type 0} (of_operands : List Text → Option A) (name : Text) (words operands : List Text) (a : A) (degree : ℕ) → of_operands operands ≡ Some a → (h : AsksAtDegree name words operands degree) → given_degree of_operands h.rest ≡ Some (a, degree)
degree_there of_operands name words operands a degree is h =
    let given = arguments_of degree_options h.rest operands h.values degree_plain h.sorted in
    let d = needed_to (codes "degree") 1 4 h.values degree h.once h.degree_given in
    let made : degree_in of_operands (operands, h.values) ≡ Some (a, degree) = rw (once_to h.values h.once) (rw (is, d) refl) in
    ap (option_and_then (degree_in of_operands)) given ∙ made

usual_to : (given : Option ℕ) (n : ℕ) → Usual 10000000 given n → usual_steps given ≡ n
usual_to None n h = sym h
usual_to (Some g) n h = sym h

request_read : (words : List Text) (r : Request) → Asks words r → request_in words ≡ Some r
request_read words (Types file) h = ap request_in h.command ∙ ap (option_map Types) (one_there (codes "types") words file h)
request_read words (Code file) h = ap request_in h.command ∙ ap (option_map Code) (one_there (codes "code") words file h)
request_read words (Analyse file degree rule) h = ap request_in h.command ∙ ap (option_map analyse_with) (bounds_there (codes "analyse") words file degree rule h)
request_read words (Certify file degree rule) h = ap request_in h.command ∙ ap (option_map certify_with) (bounds_there (codes "certify") words file degree rule h)
request_read words (Verify file certificate) h =
    let given = arguments_of [] h.rest (file ∷ certificate ∷ []) [] no_option h.sorted in
    ap request_in h.command ∙ ap (λ o. option_map verify_with (option_and_then (without_options two_of) o)) given
request_read words (Trial count) h =
    let given = arguments_of [] h.rest (h.value ∷ []) [] no_option h.sorted in
    ap request_in h.command ∙ ap (λ o. option_map Trial (option_and_then (without_options count_of) o)) given ∙ ap (option_map Trial) (number_there 1 100 h.value count h.number)
request_read words (Run file name input steps cells degree) h =
    let given = arguments_of run_options h.rest (file ∷ name ∷ input ∷ []) h.values run_plain h.sorted in
    let s = may_to (codes "steps") 1 1000000000 h.values h.given h.once h.steps_given in
    let c = may_to (codes "cells") 0 16777216 h.values cells h.once h.cells_given in
    let d = may_to (codes "degree") 1 4 h.values degree h.once h.degree_given in
    let made : run_in (file ∷ name ∷ input ∷ [], h.values) ≡ Some (Run file name input (usual_steps h.given) cells degree) = rw (once_to h.values h.once) (rw (s, c, d) refl) in
    ap request_in h.command ∙ ap (option_and_then run_in) given ∙ made ∙ ap (λ n. Some (Run file name input n cells degree)) (usual_to h.given steps h.steps_usual)
request_read words (Priced file prices degree) h = ap request_in h.command ∙ ap (option_map priced_with) (degree_there two_of (codes "priced") words (file ∷ prices ∷ []) (file, prices) degree refl h)
request_read words (Compare file other degree) h = ap request_in h.command ∙ ap (option_map compare_with) (degree_there two_of (codes "compare") words (file ∷ other ∷ []) (file, other) degree refl h)
request_read words (Powers file degree) h = ap request_in h.command ∙ ap (option_map powers_with) (degree_there one_of (codes "powers") words (file ∷ []) file degree refl h)
request_read words (Contract file bounds degree) h = ap request_in h.command ∙ ap (option_map contract_with) (degree_there two_of (codes "contract") words (file ∷ bounds ∷ []) (file, bounds) degree refl h)
request_read words (Spend file prices name input steps cells) h =
    let given = arguments_of spend_options h.rest (file ∷ prices ∷ name ∷ input ∷ []) h.values spend_plain h.sorted in
    let s = may_to (codes "steps") 1 1000000000 h.values h.given h.once h.steps_given in
    let c = may_to (codes "cells") 0 16777216 h.values cells h.once h.cells_given in
    let made : spend_in (file ∷ prices ∷ name ∷ input ∷ [], h.values) ≡ Some (Spend file prices name input (usual_steps h.given) cells) = rw (once_to h.values h.once) (rw (s, c) refl) in
    ap request_in h.command ∙ ap (option_and_then spend_in) given ∙ made ∙ ap (λ n. Some (Spend file prices name input n cells)) (usual_to h.given steps h.steps_usual)

-- words ask for one thing at most
pub one_request : (words : List Text) (r s : Request) → Asks words r → Asks words s → r ≡ s
one_request words r s h k = let e = sym (request_read words r h) ∙ request_read words s k in cc

request_asked : (words : List Text) (r : Request) → request_in words ≡ Some r → Asks words r
request_asked [] r e = absurd (cc)
request_asked (command ∷ words) r e = command_asked command words r e

-- ---- what is told is asked for

pub ok_told : (words : List Text) (r : Result Request' WordsFault) → Tells request_of r (request_in words) → IfOk r (λ request. Asks words (request_of request))
ok_told words (Ok request) t = request_asked words (request_of request) t
ok_told words (Err fault) t = tt

pub usage_told : (words : List Text) (r : Result Request' WordsFault) → Tells request_of r (request_in words) → IfErr r (λ e. e ≡ Usage → AsksNothing words)
usage_told words (Ok request) t = tt
usage_told words (Err NoMemory) t = λ e. absurd (cc)
usage_told words (Err Usage) t = λ e request h. let k = sym t ∙ request_read words request h in absurd (cc)

-- no word asks for nothing
pub no_words : AsksNothing []
no_words request asked = let e = request_read [] request asked in absurd (cc)
