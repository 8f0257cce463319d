use Rattle.std.proofs.Common.{◌≡◌, ◌⊎◌, inl, inr, ℕ, ℤ, Vec, Global, refl, ap, sym, subst}
use Rattle.std.proofs.lemmas.Result.{on_ok_weaker, IfOk-weaker, IfErr-weaker}
use Rattle.annot_types.specs.Certificate.{Certificate}
use Rattle.annot_types.specs.declared.block.Sig.{Sig}
use Rattle.annot_types.specs.declared.block.Hint.{Hint}
use Rattle.annot_types.specs.declared.block.BlockBody.{BlockBody}
use Rattle.annot_types.specs.declared.block.BlockBody.TheVariants as b
use Rattle.annot_types.specs.Read.{body_of, block_of}
use Rattle.other_blocks.specs.Other.{IsTried}
use Rattle.bound_file.specs.Read.{coefficients_of, line_of}
use Rattle.bound_contract.specs.Asked.{Decides, NoneComes, ComesFirst}
use Rattle.bound_contract.specs.Read.{decided_of, place_of, OfPlace}
use Rattle.bound_contract.specs.Sites.{line_at}
use Rattle.bound_contract.specs.declared.site.Site.{Site}
use Rattle.bound_contract.proofs.Asking.{ordered_is, own_there, own_missing, site_is, decides, none_comes, stops_first, calls_here, calls_clear}
use Rattle.bound_contract.proofs.decider.decide_line.Goals as goal

-- a block that is solved or refuted was tried
tried_arm : (body : BlockBody) →
    (((x : Vec Sig Global) × (y : Vec (Vec Hint Global) Global) × (body ≡ b.Solved x y)) ⊎ ((z : Vec (ℕ × ℤ) Global) × (body ≡ b.Refuted z))) → IsTried (body_of body)
tried_arm body (inl h) = subst (λ b. IsTried (body_of b)) (sym h.2) tt
tried_arm body (inr h) = subst (λ b. IsTried (body_of b)) (sym h.1) tt

pub unreachable-requires : goal.unreachable-requires
unreachable-requires g c =
    own_missing c.owns_are_there.ensures c.args.checked.now (line_of c.args.line.now) c.program-program.result.now c.program-program.ensures c.groups-groups.ensures.grouping
    c.certificate-certificate.ensures.held c.requires.work c.requires.asked c.certificate-certificate.result.now.blocks.items c.deref.result.now
    (ap (λ (x : Certificate). x.blocks) c.certificate-certificate.ensures.certificate) c.deref.ensures.value c.in_default.ensures.is

pub returns-in-Calls-clause-decided : goal.returns-in-Calls-clause-decided
returns-in-Calls-clause-decided g c =
    let checking = c.args.checked.now in
    let line = line_of c.args.line.now in
    let block = c.index-block.result.now in
    let is = own_there checking line c.program-program.result.now c.program-program.ensures c.certificate-certificate.result.now.blocks.items c.deref.result.now
    (ap (λ (x : Certificate). x.blocks) c.certificate-certificate.ensures.certificate) c.deref.ensures.value c.in-Some.place c.in-Some.ensures.is c.in-Some.ensures.there block
    c.index-block.ensures in
    calls_here checking line c.in-Some.place (block_of block) c.in-Calls.fun.0 is (ap body_of c.in-Calls.is)

pub returns-in-Calls-clause-clear : goal.returns-in-Calls-clause-clear
returns-in-Calls-clause-clear g c = λ pick by.
    let checking = c.args.checked.now in
    let line = line_of c.args.line.now in
    let block = c.index-block.result.now in
    let is = own_there checking line c.program-program.result.now c.program-program.ensures c.certificate-certificate.result.now.blocks.items c.deref.result.now
    (ap (λ (x : Certificate). x.blocks) c.certificate-certificate.ensures.certificate) c.deref.ensures.value c.in-Some.place c.in-Some.ensures.is c.in-Some.ensures.there block
    c.index-block.ensures in
    calls_clear checking line c.in-Some.place (block_of block) c.in-Calls.fun.0 is (ap body_of c.in-Calls.is) pick

pub tried-requires-clause-site : goal.tried-requires-clause-site
tried-requires-clause-site g c =
    let checking = c.args.checked.now in
    let line = line_of c.args.line.now in
    let block = c.index-block.result.now in
    let is = own_there checking line c.program-program.result.now c.program-program.ensures c.certificate-certificate.result.now.blocks.items c.deref.result.now
    (ap (λ (x : Certificate). x.blocks) c.certificate-certificate.ensures.certificate) c.deref.ensures.value c.in-Some.place c.in-Some.ensures.is c.in-Some.ensures.there block
    c.index-block.ensures in
    let site : Site = record {
      alloc = c.args.alloc;
      checked = c.args.checked;
      fun = c.args.line.now.fun;
      meter = line.meter;
      bound = c.deref-in-Solved.result;
      place = c.in-Some.place;
      group = block.task.group;
    } in
    let same : line_at site ≡ line = λ i. record { fun = line.fun; meter = line.meter; bound = coefficients_of (c.deref-in-Solved.ensures.value i) } in
    let ordered = ordered_is c.normals_are_ordered.ensures checking c.program-program.result.now c.program-program.ensures c.source-source.ensures.typed c.source-source.ensures.numbers
    c.functions-functions.ensures.norm c.groups-groups.ensures.grouping in
    let h = site_is site c.args.line.now same c.deref-in-Solved.ensures.value ordered c.certificate-certificate.ensures.held c.requires.asked c.requires.sound.positive (block_of block) is refl
    (tried_arm block.body c.in-Solved.is) in
    h

pub returns-in-Solved-clause-decided : goal.returns-in-Solved-clause-decided
returns-in-Solved-clause-decided g c =
    let checking = c.args.checked.now in
    let line = line_of c.args.line.now in
    let block = c.index-block.result.now in
    let is = own_there checking line c.program-program.result.now c.program-program.ensures c.certificate-certificate.result.now.blocks.items c.deref.result.now
    (ap (λ (x : Certificate). x.blocks) c.certificate-certificate.ensures.certificate) c.deref.ensures.value c.in-Some.place c.in-Some.ensures.is c.in-Some.ensures.there block
    c.index-block.ensures in
    let site : Site = record {
      alloc = c.args.alloc;
      checked = c.args.checked;
      fun = c.args.line.now.fun;
      meter = line.meter;
      bound = c.deref-in-Solved.result;
      place = c.in-Some.place;
      group = block.task.group;
    } in
    let same : line_at site ≡ line = λ i. record { fun = line.fun; meter = line.meter; bound = coefficients_of (c.deref-in-Solved.ensures.value i) } in
    let ordered = ordered_is c.normals_are_ordered.ensures checking c.program-program.result.now c.program-program.ensures c.source-source.ensures.typed c.source-source.ensures.numbers
    c.functions-functions.ensures.norm c.groups-groups.ensures.grouping in
    let h = site_is site c.args.line.now same c.deref-in-Solved.ensures.value ordered c.certificate-certificate.ensures.held c.requires.asked c.requires.sound.positive (block_of block) is refl
    (tried_arm block.body c.in-Solved.is) in
    IfOk-weaker c.tried.result _ _ (λ step d. subst (λ l. Decides checking l (decided_of step.decision)) same (decides site h (decided_of step.decision) d)) c.tried.ensures.decided

pub returns-in-Solved-clause-clear : goal.returns-in-Solved-clause-clear
returns-in-Solved-clause-clear g c =
    let checking = c.args.checked.now in
    let line = line_of c.args.line.now in
    let block = c.index-block.result.now in
    let is = own_there checking line c.program-program.result.now c.program-program.ensures c.certificate-certificate.result.now.blocks.items c.deref.result.now
    (ap (λ (x : Certificate). x.blocks) c.certificate-certificate.ensures.certificate) c.deref.ensures.value c.in-Some.place c.in-Some.ensures.is c.in-Some.ensures.there block
    c.index-block.ensures in
    let site : Site = record {
      alloc = c.args.alloc;
      checked = c.args.checked;
      fun = c.args.line.now.fun;
      meter = line.meter;
      bound = c.deref-in-Solved.result;
      place = c.in-Some.place;
      group = block.task.group;
    } in
    let same : line_at site ≡ line = λ i. record { fun = line.fun; meter = line.meter; bound = coefficients_of (c.deref-in-Solved.ensures.value i) } in
    let ordered = ordered_is c.normals_are_ordered.ensures checking c.program-program.result.now c.program-program.ensures c.source-source.ensures.typed c.source-source.ensures.numbers
    c.functions-functions.ensures.norm c.groups-groups.ensures.grouping in
    let h = site_is site c.args.line.now same c.deref-in-Solved.ensures.value ordered c.certificate-certificate.ensures.held c.requires.asked c.requires.sound.positive (block_of block) is refl
    (tried_arm block.body c.in-Solved.is) in
    on_ok_weaker c.tried.result (λ clear pick by. subst (λ l. NoneComes checking l pick) same (none_comes site h pick (clear pick by))) c.tried.ensures.clear

pub returns-in-Solved-clause-first : goal.returns-in-Solved-clause-first
returns-in-Solved-clause-first g c =
    let checking = c.args.checked.now in
    let line = line_of c.args.line.now in
    let block = c.index-block.result.now in
    let is = own_there checking line c.program-program.result.now c.program-program.ensures c.certificate-certificate.result.now.blocks.items c.deref.result.now
    (ap (λ (x : Certificate). x.blocks) c.certificate-certificate.ensures.certificate) c.deref.ensures.value c.in-Some.place c.in-Some.ensures.is c.in-Some.ensures.there block
    c.index-block.ensures in
    let site : Site = record {
      alloc = c.args.alloc;
      checked = c.args.checked;
      fun = c.args.line.now.fun;
      meter = line.meter;
      bound = c.deref-in-Solved.result;
      place = c.in-Some.place;
      group = block.task.group;
    } in
    let same : line_at site ≡ line = λ i. record { fun = line.fun; meter = line.meter; bound = coefficients_of (c.deref-in-Solved.ensures.value i) } in
    let ordered = ordered_is c.normals_are_ordered.ensures checking c.program-program.result.now c.program-program.ensures c.source-source.ensures.typed c.source-source.ensures.numbers
    c.functions-functions.ensures.norm c.groups-groups.ensures.grouping in
    let h = site_is site c.args.line.now same c.deref-in-Solved.ensures.value ordered c.certificate-certificate.ensures.held c.requires.asked c.requires.sound.positive (block_of block) is refl
    (tried_arm block.body c.in-Solved.is) in
    IfErr-weaker c.tried.result _ _ (λ fault first pick by. subst (λ l. OfPlace (place_of fault) (ComesFirst checking l pick)) same (stops_first site h pick fault (first pick by)))
    c.tried.ensures.first
