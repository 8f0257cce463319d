use Rattle.std.proofs.Common.{◌≡◌, ◌∙◌, sym, ap, subst, arith, Some}
use Rattle.std.specs.Option.{option_map}
use Rattle.raml_syntax.specs.Read.{program_of, function_of, place_in}
use Rattle.raml_syntax.specs.Place.{place_of}
use Rattle.bound_file.specs.Reading.{of_function, all_counted}
use Rattle.bound_file.specs.Seen.{terms_of, all_counted_of, written_of}
use Rattle.bound_file.specs.Lined.{Comes}
use Rattle.bound_file.proofs.Placed.{place_below, fun_at, declared_from}
use Rattle.bound_file.proofs.meaning.of_line.Goals as goal

pub index-fun-requires : goal.index-fun-requires
index-fun-requires c =
    let is : c.find.result ≡ Some c.in-Some-find.place = cc (c.in-Some-find.is) in
    let low = place_below c.args.line.now.name.now c.args.program.now.funs.items c.in-Some-find.place.0 (sym c.find.ensures ∙ ap place_in is) in
    omega (arith, low, c.args.program.now.funs.ok)

pub returns-clause-comes : goal.returns-clause-comes
returns-clause-comes c =
    let P = program_of c.args.program.now in
    let place = c.in-Some-find.place.0 in
    let line = written_of c.args.line.now in
    let cs = all_counted_of c.in-Some.terms.items in
    let g = c.index-fun.result.now in
    let is : c.find.result ≡ Some c.in-Some-find.place = cc (c.in-Some-find.is) in
    let there : c.in_ok-terms.field-0 ≡ Some c.in-Some.terms = cc (c.in-Some.is) in
    let named : place_of line.name P ≡ Some place = sym c.find.ensures ∙ ap place_in is in
    let low = place_below line.name c.args.program.now.funs.items place named in
    let counted : all_counted line.terms ≡ Some cs =
    ap (λ ts. all_counted (terms_of ts)) (sym c.deref.ensures.value) ∙ sym c.in_ok-terms.ensures ∙ ap (option_map (λ v. all_counted_of v.items)) there in
    let same = declared_from P c.args.degree line cs place (function_of g) counted named (fun_at c.args.program.now.funs.items place g low c.index-fun.ensures) in
    subst (Comes c.of_function.result) (ap (λ v. of_function c.args.degree place line.meter (all_counted_of v) (function_of g)) c.deref-2.ensures.value ∙ sym same) c.of_function.ensures.comes
