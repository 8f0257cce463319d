use Rattle.std.proofs.Common.{◌≡◌, ◌<◌, [], true, ap, sym, ◌∙◌, subst, length, arith}
use Rattle.std.specs.List.{All}
use Rattle.std.proofs.lemmas.List.{length-map}
use Rattle.raml_syntax.specs.Tree.{Function}
use Rattle.raml_syntax.specs.Types.{Typed}
use Rattle.raml_syntax.specs.Node.{AllNodes, NumberFits}
use Rattle.call_groups.specs.Groups.{AreInOrder}
use Rattle.normal_spec.specs.Two.{norm}
use Rattle.share_normal.specs.Program.{source_in, norm_in}
use Rattle.annot_types.specs.Certificate.{has_work}
use Rattle.rules_plan.specs.Read.{program_in}
use Rattle.cert_check.specs.Checked.{Checking}
use Rattle.bound_file.specs.Read.{line_of, IsSound}
use Rattle.bound_contract.specs.Asked.{MayBeAsked, Decides, BoundsWhereKept, NoneComes, ComesFirst}
use Rattle.bound_contract.specs.Places.{Place}
use Rattle.bound_contract.specs.Read.{decided_of, place_of}
use Rattle.bound_contract.specs.Asked.{OfLine}
use Rattle.bound_contract.proofs.Asking.{of_place}
use Rattle.bound_contract.proofs.Bounded.{denominators_positive, line_there, of_line, bounds_here}
use Rattle.bound_contract.proofs.decider.Decider.decide.Goals as goal

pub decide_line-requires-clause-asked : goal.decide_line-requires-clause-asked
decide_line-requires-clause-asked g c =
    let checking = c.self.inside.checked.now in
    let same : checking ≡ c.args.self.now = c.self.view_is in
    let d = c.args.declared.now in
    let xs = c.lines.result.now in
    let asked = c.index-lines-line.result in
    let line = line_of asked in
    let low : c.args.line < length xs = omega (arith, c.requires.there, ap length c.lines.ensures.lines, length-map xs line_of) in
    let there = line_there d xs c.lines.ensures.lines c.args.line asked low c.index-lines-line.is in
    subst (λ (x : Checking). MayBeAsked x line) (sym same) (c.requires.asked line there)

pub returns-in-Err-clause-first : goal.returns-in-Err-clause-first
returns-in-Err-clause-first g c = λ pick by.
    let checking = c.self.inside.checked.now in
    let same : checking ≡ c.args.self.now = c.self.view_is in
    let d = c.args.declared.now in
    let xs = c.lines.result.now in
    let asked = c.index-lines-line.result in
    let line = line_of asked in
    let low : c.args.line < length xs = omega (arith, c.requires.there, ap length c.lines.ensures.lines, length-map xs line_of) in
    let there = line_there d xs c.lines.ensures.lines c.args.line asked low c.index-lines-line.is in
    of_place (place_of c.in-Err.fault) (ComesFirst checking line pick) (λ (p : Place). OfLine d c.args.line (λ l. ComesFirst c.args.self.now l pick p))
    (λ p h. of_line d c.args.line line there (λ l. ComesFirst c.args.self.now l pick p) (subst (λ (x : Checking). ComesFirst x line pick p) same h))
    (c.in-Err.ensures.first pick by)

pub returns-in-Ok-clause-decided : goal.returns-in-Ok-clause-decided
returns-in-Ok-clause-decided g c =
    let checking = c.self.inside.checked.now in
    let same : checking ≡ c.args.self.now = c.self.view_is in
    let d = c.args.declared.now in
    let xs = c.lines.result.now in
    let asked = c.index-lines-line.result in
    let line = line_of asked in
    let low : c.args.line < length xs = omega (arith, c.requires.there, ap length c.lines.ensures.lines, length-map xs line_of) in
    let there = line_there d xs c.lines.ensures.lines c.args.line asked low c.index-lines-line.is in
    of_line d c.args.line line there (λ l. Decides c.args.self.now l (decided_of c.in-Ok.field-0.decision))
    (subst (λ (x : Checking). Decides x line (decided_of c.in-Ok.field-0.decision)) same
    c.in-Ok.ensures.decided)

pub returns-in-Ok-clause-bounds : goal.returns-in-Ok-clause-bounds
returns-in-Ok-clause-bounds g c =
    let checking = c.self.inside.checked.now in
    let same : checking ≡ c.args.self.now = c.self.view_is in
    let d = c.args.declared.now in
    let xs = c.lines.result.now in
    let asked = c.index-lines-line.result in
    let line = line_of asked in
    let low : c.args.line < length xs = omega (arith, c.requires.there, ap length c.lines.ensures.lines, length-map xs line_of) in
    let there = line_there d xs c.lines.ensures.lines c.args.line asked low c.index-lines-line.is in
    let K = c.program-program.result.now in
    let kp : K ≡ checking.program = c.program-program.ensures in
    let typed : Typed (source_in checking.program) = subst (λ k. Typed (source_in k)) kp c.source-source.ensures.typed in
    let numbers : All (λ (g : Function). AllNodes NumberFits g.body) (source_in checking.program) =
    subst (λ k. All (λ (g : Function). AllNodes NumberFits g.body) (source_in k)) kp c.source-source.ensures.numbers in
    let normal : norm_in checking.program ≡ norm (source_in checking.program) = subst (λ k. norm_in k ≡ norm (source_in k)) kp c.functions-functions.ensures.norm in
    let order : AreInOrder (source_in checking.program) [] checking.program.groups.list =
    subst (λ k. AreInOrder (source_in k) [] k.groups.list) kp c.groups-groups.ensures.grouping.in_order in
    let held = c.certificate-certificate.ensures.held in
    let sound : IsSound asked = subst IsSound (sym c.index-lines-line.is) (c.lines.ensures.sound c.args.line asked low) in
    let may = c.requires.asked line there in
    let fun : line.fun < length (source_in checking.program) = subst (λ (x : Checking). line.fun < length (source_in x.program)) (sym same) may.fun in
    let work = subst (λ (x : Checking). has_work x.certificate ≡ true) (sym same) c.requires.work in
    let own = c.owns_are_there.ensures (source_in checking.program) (program_in checking.program) order checking.certificate held work line fun in
    of_line d c.args.line line there (λ l. BoundsWhereKept c.args.self.now l d.degree (decided_of c.in-Ok.field-0.decision))
    (subst (λ (x : Checking). BoundsWhereKept x line d.degree (decided_of c.in-Ok.field-0.decision)) same
    (bounds_here c.kept_is_bound.ensures checking typed numbers normal held line (denominators_positive line.bound sound.proper.numbers) own.0 own.1 own.2 d.degree
    (c.requires.degree ∙ ap (λ (x : Checking). x.certificate.degree) (sym same)) (decided_of c.in-Ok.field-0.decision) c.in-Ok.ensures.decided))

pub returns-in-Ok-clause-clear : goal.returns-in-Ok-clause-clear
returns-in-Ok-clause-clear g c = λ pick by.
    let checking = c.self.inside.checked.now in
    let same : checking ≡ c.args.self.now = c.self.view_is in
    let d = c.args.declared.now in
    let xs = c.lines.result.now in
    let asked = c.index-lines-line.result in
    let line = line_of asked in
    let low : c.args.line < length xs = omega (arith, c.requires.there, ap length c.lines.ensures.lines, length-map xs line_of) in
    let there = line_there d xs c.lines.ensures.lines c.args.line asked low c.index-lines-line.is in
    of_line d c.args.line line there (λ l. NoneComes c.args.self.now l pick)
    (subst (λ (x : Checking). NoneComes x line pick) same (c.in-Ok.ensures.clear pick by))
