use Rattle.std.proofs.Common.{refl, sym, ap, ◌∙◌, [], ◌++◌, string_bytes, arith}
use Rattle.std.proofs.lemmas.List.{drop_all, drop_more, append_assoc, append-nil}
use Rattle.explain_check.proofs.Telling.{one_more, all_told}
use Rattle.explain_check.proofs.files.check_files.Goals as goal

pub loop-name-init : goal.loop-name-init
loop-name-init g c = (refl, λ name. omega arith, ([], λ after late others rest are. are, sym (append-nil _)))

pub returns-in_err-next-clause-kept : goal.returns-in_err-next-clause-kept
returns-in_err-next-clause-kept g c = c.check_file.ensures.kept ∙ c.loop-name.invariant.0

pub returns-in_err-next-clause-later : goal.returns-in_err-next-clause-later
returns-in_err-next-clause-later g c name = omega (arith, c.loop-name.invariant.1 name, c.check_file.ensures.later name)

pub loop-name-preserved : goal.loop-name-preserved
loop-name-preserved g c =
    let so_far = c.loop-name.invariant.2 in
    let told = c.in_ok-next.ensures.told in
    let more = one_more (g.S.Store.holds c.args.store.now) _ (g.S.Store.faults c.args.store.now) _ _ c.args.names.now _ _ _ c.loop-name.verdict c.in_ok-next.next so_far.0 told.0
    (drop_more c.args.names.now c.loop-name.name-index (record { ref_ptr = (0, 0); now = [] }) c.loop-name-test.true) c.loop-name.invariant.0 c.loop-name.invariant.1 c.check_file.ensures.later so_far.1 told.1 in
    let text = told.2 ∙ ap (λ text. text ++ told.0) so_far.2 ∙ append_assoc (string_bytes c.args.report.now) so_far.0 told.0 in (
      c.check_file.ensures.kept ∙ c.loop-name.invariant.0,
      λ name. omega (arith, c.loop-name.invariant.1 name, c.check_file.ensures.later name),
      (so_far.0 ++ told.0, rw c.worse-verdict.ensures more, text),
    )

pub returns-clause-told : goal.returns-clause-told
returns-clause-told g c =
    let told = c.loop-name.invariant.2 in
    (told.0, all_told _ _ _ c.args.names.now _ c.loop-name.verdict told.0 (drop_all c.loop-name.name-index c.args.names.now c.loop-name-test.false) told.1, told.2)

pub returns-clause-kept : goal.returns-clause-kept
returns-clause-kept g c = c.loop-name.invariant.0

pub returns-clause-later : goal.returns-clause-later
returns-clause-later g c name = c.loop-name.invariant.1 name
