use Rattle.std.proofs.Common.{◌≡◌, ap, sym, subst, ◌∙◌, IfOk}
use Rattle.raml_syntax.specs.Place.{place_of}
use Rattle.raml_syntax.specs.Read.{place_in, program_of}
use Rattle.raml_syntax.specs.declared.program.Program.{Program}
use Rattle.explain_profile.specs.Read.{sizes_in}
use Rattle.explain_profile.specs.Runs.{AreFound}
use Rattle.explain_profile.proofs.Found.{within}
use Rattle.explain_profile.proofs.runs.runs_in.Goals as goal

pub runs_at-requires-clause-fun : goal.runs_at-requires-clause-fun
runs_at-requires-clause-fun c =
    let P = program_of c.args.typed.now in
    let name = c.args.case.name.now in
    let named = subst (λ (p : Program). place_in c.find.result ≡ place_of name (program_of p)) c.program-program.ensures.program c.find.ensures in
    within c.functions_have_places.ensures name P c.in-Some.fun.0 (sym named ∙ ap place_in c.in-Some.is)

pub returns-in-Some : goal.returns-in-Some
returns-in-Some c =
    let P = program_of c.args.typed.now in
    let name = c.args.case.name.now in
    let named = subst (λ (p : Program). place_in c.find.result ≡ place_of name (program_of p)) c.program-program.ensures.program c.find.ensures in
    subst (λ at. IfOk c.runs_at.result (AreFound P c.args.case.most (sizes_in c.args.case.sizes) at)) (sym (sym named ∙ ap place_in c.in-Some.is)) c.runs_at.ensures
