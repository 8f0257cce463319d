-- Files of arguments that are looked at, one after another.
use Rattle.std.proofs.Common.{◌≡◌, ◌≤◌, ◌++◌, ◌-◌, ◌∙◌, Bool, true, false, List, [], ◌∷◌, length, take, drop, get_or, Result, Ok, Err, IfOk, sym, ap, subst, inl, inr}
use Rattle.std.specs.List.{All}
use Rattle.std.proofs.lemmas.List.{append-nil}
use Rattle.std.proofs.lemmas.List.Elements.{All-cons}
use Rattle.raml_syntax.specs.Tree.{Text, Type'}
use Rattle.explain_data.specs.Data.{DataFaultIs, DataIs}
use Rattle.explain_data.specs.declared.finding.Finding.{Finding}
use Rattle.explain_data.specs.declared.finding.Finding.TheVariants as f
use Rattle.explain_marks.specs.declared.marks.Given.{Given}
use Rattle.explain_plot.specs.Files.{Fit, SomeUnfit, SpellsArguments}
use Rattle.explain_plot.proofs.Held.{whole}

module _ (types : List Type') (all : List Given) (file : Given) (len : 1 ≤ length all) (is : file ≡ get_or all 0 file) where
  begins : all ≡ file ∷ take (length all - 1) (drop 1 all)
  begins = whole all file len ∙ ap (λ (first : Given). first ∷ take (length all - 1) (drop 1 all)) (sym is)

  fits_more : (ok : Bool) (rest : List Given) (part : Text) → SpellsArguments types file → Fit types rest ok part → Fit types (file ∷ rest) ok part
  fits_more true rest part spells fit = (All-cons (SpellsArguments types) file rest spells fit.0, fit.1)
  fits_more false rest part spells unfit = inr (spells, unfit)

  -- the first spells some: what is told of all is told of those behind it
  pub fits_on : {E : Type 0} (finding : Finding) (bytes first text read end : Text) (result : Result Bool E) → finding ≡ f.Fits → bytes ≡ file.bytes.items →
      DataIs file.name.now bytes types finding first → read ≡ text ++ first →
      IfOk result (λ ok. (part : Text) × Fit types (take (length all - 1) (drop 1 all)) ok part × (end ≡ read ++ part)) →
      IfOk result (λ ok. (part : Text) × Fit types all ok part × (end ≡ text ++ part))
  fits_on finding bytes first text read end (Ok ok) fits same told once more =
      let found = subst (λ (finding : Finding). DataIs file.name.now bytes types finding first) fits told in
      let spells = subst (λ (bytes : Text). DataIs file.name.now bytes types f.Fits first) same found in
      let same_text : read ≡ text = once ∙ ap (λ part. text ++ part) spells.2 ∙ append-nil text in
      let fit = fits_more ok (take (length all - 1) (drop 1 all)) more.0 (spells.0, spells.1) more.1 in
      (more.0, subst (λ (files : List Given). Fit types files ok more.0) (sym begins) fit, more.2 ∙ ap (λ text. text ++ more.0) same_text)
  fits_on finding bytes first text read end (Err x) fits same told once more = tt

  -- it spells none
  pub unfit_first : (finding : Finding) (bytes part : Text) → finding ≡ f.Refused → bytes ≡ file.bytes.items → DataIs file.name.now bytes types finding part →
      Fit types all false part
  unfit_first finding bytes part refused same told =
      let found = subst (λ (finding : Finding). DataIs file.name.now bytes types finding part) refused told in
      let fault = subst (λ (bytes : Text). DataFaultIs file.name.now bytes types part) same found in
      subst (λ (files : List Given). SomeUnfit types files part) (sym begins) (inl fault)

-- all spell some, or one spells none
pub all_fitting : (types : List Type') (files : List Given) (ok : Bool) (part : Text) → ok ≡ true → Fit types files ok part → All (SpellsArguments types) files × (part ≡ [])
all_fitting types files true part is fit = fit
all_fitting types files false part is fit = absurd (cc is)

pub one_unfit : (types : List Type') (files : List Given) (ok : Bool) (part : Text) → ok ≡ false → Fit types files ok part → SomeUnfit types files part
one_unfit types files false part is unfit = unfit
one_unfit types files true part is unfit = absurd (cc is)
