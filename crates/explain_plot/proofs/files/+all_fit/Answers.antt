use Rattle.std.proofs.Common.{map, string_bytes}
use Rattle.raml_syntax.specs.Read.{ty_of}
use Rattle.explain_plot.proofs.Fitting.{fits_on, unfit_first}
use Rattle.explain_plot.proofs.files.+all_fit.Goals as goal

pub returns-in-Fits : goal.returns-in-Fits
returns-in-Fits t c =
    let told = c.in_ok-check_data-in-len1-up.ensures in
    fits_on (map ty_of c.args.types.now) c.args.files.now c.first-item.result c.in-len1-up.len_at_least c.first-item.is c.in_ok-check_data-in-len1-up.field-0 c.deref.result.now told.0
    (string_bytes c.args.report.now) (string_bytes c.check_data.new.report) (string_bytes c.all_fit.new.report) c.all_fit.result c.in-Fits.is c.deref.ensures.value told.1 told.2 c.all_fit.ensures

pub returns-in-Refused : goal.returns-in-Refused
returns-in-Refused t c =
    let told = c.in_ok-check_data-in-len1-up.ensures in (
      told.0,
      unfit_first (map ty_of c.args.types.now) c.args.files.now c.first-item.result c.in-len1-up.len_at_least c.first-item.is c.in_ok-check_data-in-len1-up.field-0 c.deref.result.now told.0
          c.in-Refused.is c.deref.ensures.value told.1,
      told.2,
    )
