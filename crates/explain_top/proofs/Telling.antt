-- What is told is written, and a report of what is wrong.
use Rattle.std.proofs.Common.{◌≡◌, ◌++◌, ◌∙◌, [], ap, subst, inr}
use Rattle.raml_syntax.specs.Tree.{Text}
use Rattle.explain_top.specs.Answers.{Puts, Tells}
use Rattle.explain_top.specs.Sinks.{Sink, Writes}
use Rattle.explain_top.specs.declared.status.Status.{Status}

-- what stands behind an empty text
behind : (seen new old part : Text) → seen ≡ new → new ≡ old ++ part → old ≡ [] → seen ≡ part
behind seen new old part is appended empty = is ∙ appended ∙ ap (λ old. old ++ part) empty

-- a report that was appended to nothing
pub report_written : (seen new old part : Text) (err : Sink) → seen ≡ new → new ≡ old ++ part → old ≡ [] → Writes seen err → Writes part err
report_written seen new old part err is appended empty writes = subst (λ text. Writes text err) (behind seen new old part is appended empty) writes

-- a text that was appended to nothing
pub text_put : (seen new old part : Text) (out : Sink) (done status : Status) → seen ≡ new → new ≡ old ++ part → old ≡ [] →
    Puts seen out done status → Puts part out done status
text_put seen new old part out done status is appended empty puts =
    subst (λ text. Puts text out done status) (behind seen new old part is appended empty) puts

module _ {End : Type 0} (Is : End → Text → Text → Type 0) (status_by : End → Status) (out err : Sink) (end : End) (done status : Status) where
  pub tells : (seen text old_text shown read report old_report part : Text) → Is end shown part → done ≡ status_by end →
      seen ≡ text → text ≡ old_text ++ shown → old_text ≡ [] → read ≡ report → report ≡ old_report ++ part → old_report ≡ [] →
      Puts seen out done status → Writes read err → Tells Is status_by out err status
  tells seen text old_text shown read report old_report part told by is appended empty same behind_it nothing puts writes =
      let shown_is = text_put seen text old_text shown out done status is appended empty puts in
      inr (end, shown, part, told, subst (λ done. Puts shown out done status) by shown_is, report_written read report old_report part err same behind_it nothing writes)
