-- What fits alike is told alike.
use Rattle.std.proofs.Common.{◌≡◌, ◌<◌, refl, arith, ℕ, zero, suc, Bool, true, false, List, [], ◌∷◌, ◌++◌, length, map, Option, Result, Ok, Err, IfOk, sym, subst, ◌∙◌}
use Rattle.std.specs.Prelude.{◌&&◌, ◌||◌, is_ok, slice_index_or}
use Rattle.raml_syntax.specs.Tree.{Text, Type', Function, Prog}
use Rattle.raml_syntax.specs.Read.{function_of}
use Rattle.raml_syntax.specs.declared.program.Fun.{Fun}
use Rattle.explain_at.specs.Asked.{Fault}
use Rattle.explain_at.specs.Read.{names_and_types}
use Rattle.explain_bounds.specs.Told as t
use Rattle.explain_bounds.specs.Told.{told}
use Rattle.explain_bounds.specs.declared.asked.Asked.{Asked}
use Rattle.explain_at.specs.Words.{Given}
use Rattle.explain_words.specs.Spelled.{lent}
use Rattle.explain_words.specs.declared.request.bounds.BoundsWords.{BoundsWords}
use Rattle.explain_degrees.specs.declared.finding.Findings.{Findings}
use Rattle.explain_calls.specs.Sizes.{fit, given_in, is_asked, fits_some}
use Rattle.explain_calls.specs.Calls.{AnalysedIs, ProgramIs, fits_some_of, layout_of}
use Rattle.explain_calls.specs.declared.end.End.{End}
use Rattle.explain_calls.specs.declared.end.End.TheVariants.{Told, NotAnalysed, Refused}
use Rattle.explain_calls.specs.Told.{Layout, IsPart, AreParts}

module _ (P : Prog) (name : Option Text) (layout : Layout) (fit other : List (Text × Type') → Result t.Told Fault) (e : (ps : List (Text × Type')) → fit ps ≡ other ps) where
  same_part : (asked : Bool) (g : Function) (found : Findings) (text : Text) → IsPart P (record { name = name; fit = fit; layout = layout }) asked g found text →
      IsPart P (record { name = name; fit = other; layout = layout }) asked g found text
  same_part true g found text is = rw (e (names_and_types g.params)) at is
  same_part false g found text is = is

  pub same_parts : (gs : List Function) (all : List Findings) (text : Text) → AreParts P (record { name = name; fit = fit; layout = layout }) gs all text →
      AreParts P (record { name = name; fit = other; layout = layout }) gs all text
  same_parts [] all text is = is
  same_parts (g ∷ gs) [] text is = is
  same_parts (g ∷ gs) (found ∷ more) text (first, rest, part, are, is) =
      (first, rest, same_part (is_asked name g) g found first part, same_parts gs more rest are, is)

  pub same_fits : (gs : Prog) → fits_some name fit gs ≡ fits_some name other gs
  same_fits [] = refl
  same_fits (g ∷ gs) = rw (e (names_and_types g.params), same_fits gs) refl

either : (b c : Bool) → c ≡ true → (b || c) ≡ true
either true c is = refl
either false c is = is

first_of : (b c : Bool) → b ≡ true → (b || c) ≡ true
first_of true c is = refl
first_of false c is = absurd (cc is)

both : (b c : Bool) → b ≡ true → c ≡ true → (b && c) ≡ true
both true c is also = also
both false c is also = absurd (cc is)

-- a function that is asked for has sizes that fit
pub fits_at : (name : Option Text) (fit : List (Text × Type') → Result t.Told Fault) (funs : List Fun) (i : ℕ) (fun : Fun) → fun ≡ slice_index_or funs i fun → i < length funs →
    is_asked name (function_of fun) ≡ true → is_ok (fit (names_and_types (function_of fun).params)) ≡ true → fits_some name fit (map function_of funs) ≡ true
fits_at name fit [] i fun is below asked fits = absurd (omega (arith, below))
fits_at name fit (x ∷ funs) zero fun is below asked fits =
    first_of _ (fits_some name fit (map function_of funs)) (both _ _ (rw is at asked) (rw is at fits))
fits_at name fit (x ∷ funs) (suc i) fun is below asked fits =
    either _ _ (fits_at name fit funs i fun is (omega (arith, below)) asked fits)

-- what is told of the analyses of a program is told of the program
module _ (P : Prog) (words : BoundsWords) (width : Option ℕ) (gs : List Given) (asked : Asked) (given : given_in (lent words.at) ≡ Ok gs)
    (e : (ps : List (Text × Type')) → told asked ps ≡ fit words.within (lent words.at) gs ps)
    (fits : fits_some (lent words.function) (told asked) P ≡ true) (layout : Layout) (laid : layout ≡ layout_of words.json width) where
  fits_words : fits_some_of P words gs ≡ true
  fits_words = sym (same_fits P (lent words.function) layout (told asked) (fit words.within (lent words.at) gs) e P) ∙ fits

  pub program_is : (end : End) (text report : Text) →
      AnalysedIs P words.degree (record { name = lent words.function; fit = told asked; layout = layout }) end text report → ProgramIs P words width end text report
  program_is Told text report is = (
    gs,
    given,
    fits_words,
    record {
      analysed = is.analysed;
      bounds = subst (λ layout. AreParts P (record { name = lent words.function; fit = fit words.within (lent words.at) gs; layout = layout }) P
          is.analysed.found.functions.items text) laid
          (same_parts P (lent words.function) layout (told asked) (fit words.within (lent words.at) gs) e P is.analysed.found.functions.items text is.bounds);
      refused = is.refused;
    },
  )
  program_is NotAnalysed text report is = (gs, given, fits_words, is)
  program_is Refused text report is = absurd is

  pub program_told : {E : Type 0} (old_text old_report new_text new_report : Text) (r : Result End E) →
      IfOk r (λ end. (text : Text) × (report : Text) × AnalysedIs P words.degree (record { name = lent words.function; fit = told asked; layout = layout }) end text report
      × (new_text ≡ old_text ++ text) × (new_report ≡ old_report ++ report)) →
      IfOk r (λ end. (text : Text) × (report : Text) × ProgramIs P words width end text report × (new_text ≡ old_text ++ text) × (new_report ≡ old_report ++ report))
  program_told old_text old_report new_text new_report (Ok end) h = (h.0, h.1, program_is end h.0 h.1 h.2, h.3, h.4)
  program_told old_text old_report new_text new_report (Err error) h = tt
