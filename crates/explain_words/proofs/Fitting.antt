-- What words ask for is what `clap` finds in them.
use Rattle.std.proofs.Common.{◌≡◌, true, List, [], Result, Ok, Err, IfOk, IfErr, refl, sym, ap, subst, inl, inr, ⊎_elim, ◌∙◌}
use Rattle.std.proofs.lemmas.Bool.{and_parts}
use Rattle.clap.specs.Kinds.{HasKind, IsAmong}
use Rattle.clap.specs.Values.{kind_of}
use Rattle.clap.specs.Walk.{Text}
use Rattle.clap.specs.Simple.{App, HasMatchesOf, subcommand_of, subcommand_rows_of}
use Rattle.clap.specs.Faults.{fault_of, is_simple_and_free}
use Rattle.clap.specs.declared.error.Error.{Error}
use Rattle.clap.specs.declared.error.kind.ErrorKind.{ErrorKind}
use Rattle.clap.specs.declared.error.kind.ErrorKind.TheVariants as kind
use Rattle.clap.specs.declared.parser.matches.ArgMatches.{ArgMatches}
use Rattle.clap.proofs.OnLiterals.{clap_on_literals}
use Rattle.explain_commands.specs.Apps.{app}
use Rattle.explain_words.specs.Asking.{Means, Asks, IsMistake, GivesNone, IsTold, RefusesAll}
use Rattle.explain_words.specs.declared.request.Request.{Request}
use Rattle.explain_words.specs.declared.request.WordsFault.{WordsFault}
use Rattle.explain_words.specs.declared.request.WordsFault.TheVariants.{Shown, Refused, NoMemory}

-- `clap` promises all of the program's commands
all_simple : is_simple_and_free app ≡ true
unfolding clap_on_literals
all_simple = refl

no_memory : (k : ErrorKind) → IsMistake k → k ≡ kind.OutOfMemory → ⊥
no_memory k told is = subst IsMistake is told

module _ (a : App) (words : List Text) (is : a ≡ app) where
  is_simple : is_simple_and_free a ≡ true
  is_simple = ap is_simple_and_free is ∙ all_simple

  fits : (is_simple_and_free a ≡ true → fault_of a words ≡ []) → fault_of app words ≡ []
  fits kinds = subst (λ a. fault_of a words ≡ []) is (kinds is_simple)

  met : (m : ArgMatches) → HasMatchesOf a words m → subcommand_rows_of m ≡ subcommand_of app words
  met m has = subst (λ a. subcommand_rows_of m ≡ subcommand_of a words) is (has (and_parts _ _ is_simple).0).1

  pub asks : (m : ArgMatches) (r : Result Request WordsFault) → (is_simple_and_free a ≡ true → fault_of a words ≡ []) → HasMatchesOf a words m
      → IfOk r (Means (subcommand_rows_of m)) → IfOk r (Asks words)
  asks m (Ok request) kinds has means = (fits kinds, subst (λ command. Means command request) (met m has) means)
  asks m (Err fault) kinds has means = tt

  pub asks_nothing : (m : ArgMatches) (r : Result Request WordsFault) → (is_simple_and_free a ≡ true → fault_of a words ≡ []) → HasMatchesOf a words m
      → IfErr r (RefusesAll (Means (subcommand_rows_of m))) → IfErr r (GivesNone words)
  asks_nothing m (Ok request) kinds has means = tt
  asks_nothing m (Err (Shown text)) kinds has means = absurd means
  asks_nothing m (Err (Refused text)) kinds has means = inr (fits kinds, subst (λ command. RefusesAll (Means command) (Refused text)) (met m has) means)
  asks_nothing m (Err NoMemory) kinds has means = tt

  pub refused : (e : Error) (fault : WordsFault) → (is_simple_and_free a ≡ true → HasKind (fault_of a words) e) → IsTold (kind_of e) fault → GivesNone words fault
  refused e fault kinds told = by fault (subst (λ a. HasKind (fault_of a words) e) is (kinds is_simple)) told
    where
      shown : (k : ErrorKind) → kind_of e ≡ k → (k ≡ kind.OutOfMemory → ⊥) → HasKind (fault_of app words) e → IsAmong k (fault_of app words)
      shown k same other has = ⊎_elim (λ memory. absurd (other (sym same ∙ memory))) (λ among. subst (λ k. IsAmong k (fault_of app words)) same among) has

      by : (fault : WordsFault) → HasKind (fault_of app words) e → IsTold (kind_of e) fault → GivesNone words fault
      by (Shown text) has (inl help) = inl (shown kind.DisplayHelp help (λ bad. absurd (cc)) has)
      by (Shown text) has (inr version) = inr (shown kind.DisplayVersion version (λ bad. absurd (cc)) has)
      by (Refused text) has told = inl (kind_of e, told, shown (kind_of e) refl (no_memory (kind_of e) told) has)
      by NoMemory has told = tt
