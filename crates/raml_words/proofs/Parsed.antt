-- What a parse of a simple command gives, at the app that the command is.
use Rattle.std.proofs.Common.{◌≡◌, true, false, cond, List, [], ◌∷◌, Option, Some, None, Ok, Err, Result, refl, sym, ap, subst, ◌∙◌, ⊎_elim}
use Rattle.std.proofs.lemmas.Bool.{and_parts}
use Rattle.std.specs.Prelude.{option_map, ok_or}
use Rattle.clap.specs.Kinds.{Kinds, HasKind}
use Rattle.clap.specs.Values.{kind_of}
use Rattle.clap.specs.Walk.{first_of}
use Rattle.clap.specs.Matches.{found_of}
use Rattle.clap.specs.Simple.{App, HasMatchesOf}
use Rattle.clap.specs.Faults.{fault_of, is_simple_and_free}
use Rattle.clap.specs.declared.error.Error.{Error}
use Rattle.clap.specs.declared.parser.matches.ArgMatches.{ArgMatches}
use Rattle.clap.proofs.OnLiterals.{clap_on_literals}
use Rattle.clap.proofs.WalkLemmas.{first_value-rows}
use Rattle.raml_words.specs.Words.{Text}
use Rattle.raml_words.specs.Asked.{Tells}
use Rattle.raml_words.specs.Apps.{one_app, two_app, count_app, bounds_app, run_app, file_degree_app, files_degree_app, spend_app}
use Rattle.raml_words.specs.Clapped.{none, found, taken_as, values_in, Finds, Refuses}
use Rattle.raml_words.specs.declared.request.WordsFault.{WordsFault}
use Rattle.raml_words.specs.declared.request.WordsFault.TheVariants.{Usage, NoMemory}

-- an app of which `clap` promises all
abbrev IsSimple : App → Type 0
IsSimple app = is_simple_and_free app ≡ true

pub record AreSimple : Type 0 where
  pub one : IsSimple one_app
  pub two : IsSimple two_app
  pub count : IsSimple count_app
  pub bounds : IsSimple bounds_app
  pub run : IsSimple run_app
  pub file_degree : IsSimple file_degree_app
  pub files_degree : IsSimple files_degree_app
  pub spend : IsSimple spend_app

pub are_simple : AreSimple
unfolding clap_on_literals
are_simple = record { one = refl; two = refl; count = refl; bounds = refl; run = refl; file_degree = refl; files_degree = refl; spend = refl }

-- where there are matches, the command takes the words, and what it finds is in the matches
pub finds : (app : App) (words : List Text) (m : ArgMatches) → IsSimple app → fault_of app words ≡ [] → HasMatchesOf app words m → Finds app words (Ok m)
finds app words m s empty has =
    let rows = (has (and_parts _ _ s).0).0 in
    (ap none empty, λ i id. (sym (first_value-rows (found_of m) id ∙ ap (first_of id) rows)) i)

-- and it refuses them where the fault is not of memory
not_none : (ks : Kinds) (e : Error) → HasKind ks e → Refuses (kind_of e) Usage → none ks ≡ false
not_none [] e h r = ⊎_elim (λ m. absurd (r m)) (λ i. absurd i) h
not_none (k ∷ ks) e h r = refl

pub refuses : (app : App) (words : List Text) (e : Error) (x : WordsFault) → HasKind (fault_of app words) e → Refuses (kind_of e) x → Finds app words (Err x)
refuses app words e NoMemory h r = tt
refuses app words e Usage h r = not_none (fault_of app words) e h r

-- what is made of the values that are found is what the command makes of the words
pub parsed : {A B : Type 0} (plain : B → A) (app a : App) (of_values : (Text → Option Text) → Option A) (words : List Text) (m : ArgMatches) (o : Option B) (r : Result B WordsFault) → IsSimple app → a ≡ app → (IsSimple a → Finds a words (Ok m))
    → option_map plain o ≡ of_values (values_in (found_of m)) → r ≡ ok_or o Usage → Tells plain r (taken_as app of_values words)
parsed {A = A} {B = B} plain app a of_values words m o r s same there made is =
    let f = subst (λ a. IsSimple a → Finds a words (Ok m)) same there s in
    let taken = ap (λ b. cond b (of_values (found app words)) None) f.0 ∙ ap of_values f.1 ∙ sym made in
    subst (λ r. Tells plain r (taken_as app of_values words)) (sym is) (by o taken)
  where
    by : (o : Option B) → taken_as app of_values words ≡ option_map plain o → Tells plain (ok_or o Usage) (taken_as app of_values words)
    by (Some b) e = e
    by None e = e
