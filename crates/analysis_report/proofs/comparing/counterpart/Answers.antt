use Rattle.std.proofs.Common.{◌≡◌, true, false, refl, sym, ap, ◌∙◌}
use Rattle.report_text.specs.Report.{types_in}
use Rattle.analysis_report.proofs.Compared.{are_named, is_counterpart, no_counterpart}
use Rattle.analysis_report.proofs.comparing.counterpart.Goals as goal

pub returns-then-have_same_types : goal.returns-then-have_same_types
returns-then-have_same_types c =
    let funs = c.args.names.now.program.now.funs.items in
    let found = c.in_ok-other.ensures.lookup in
    let named = are_named funs c.deref.result.now c.deref.ensures.value c.args.fun.now c.in_ok-other.other.now _ c.text.ensures _ c.in_ok-place.ensures found.3.0 found.1 in
    is_counterpart funs c.args.fun.now c.in_ok-other.other.now _ named
    (ap types_in (sym c.deref-2.ensures.value) ∙ c.if-have_same_types.ensures.0 refl ∙ ap types_in c.deref-3.ensures.value)

pub returns-else-have_same_types : goal.returns-else-have_same_types
returns-else-have_same_types c =
    let funs = c.args.names.now.program.now.funs.items in
    let found = c.in_ok-other.ensures.lookup in
    let named = are_named funs c.deref.result.now c.deref.ensures.value c.args.fun.now c.in_ok-other.other.now _ c.text.ensures _ c.in_ok-place.ensures found.3.0 found.1 in
    no_counterpart funs c.args.fun.now c.in_ok-other.other.now _ named
    (λ same. differ (c.if-have_same_types.ensures.1 (ap types_in c.deref-2.ensures.value ∙ same ∙ ap types_in (sym c.deref-3.ensures.value))))
  where
    differ : false ≡ true → ⊥
    differ e = cc
