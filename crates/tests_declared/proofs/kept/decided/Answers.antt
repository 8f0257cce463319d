use Rattle.std.proofs.Common.{rules, ◌≡◌, ◌∙◌, Some, length, ap, sym, subst}
use Rattle.std.specs.Prelude.{slice_get}
use Rattle.std.proofs.lemmas.Option.{slice_get_within, get_or_from_slice_get}
use Rattle.raml_syntax.specs.Tree.{Function}
use Rattle.raml_syntax.specs.Types.{types_of}
use Rattle.base_poly.specs.Indices.{index_list}
use Rattle.share_normal.specs.Program.{source_in}
use Rattle.annot_types.specs.Certificate.{has_work}
use Rattle.cert_check.specs.Checked.{Checking}
use Rattle.simplex_checked.specs.Rules.{least_pick}
use Rattle.simplex_checked.proofs.Chosen.{answers_by}
use Rattle.bound_file.specs.Lines.{Line, AreBelow}
use Rattle.bound_contract.specs.Asked.{MayBeAsked}
use Rattle.tests_declared.proofs.kept.decided.Goals as goal

pub decide-requires-clause-one : goal.decide-requires-clause-one
decide-requires-clause-one c = record { pick = least_pick; answers = answers_by _ _ least_pick (λ gains o p. search rules) }

pub decide-requires-clause-work : goal.decide-requires-clause-work
decide-requires-clause-work c = ap (λ (K : Checking). has_work K.certificate) c.checked.ensures ∙ c.may_be_asked.ensures.work

pub decide-requires-clause-degree : goal.decide-requires-clause-degree
decide-requires-clause-degree c = c.requires.degree ∙ (sym c.may_be_asked.ensures.degree ∙ ap (λ (K : Checking). K.certificate.degree) (sym c.checked.ensures))

pub decide-requires-clause-asked : goal.decide-requires-clause-asked
decide-requires-clause-asked c line there =
    let P = source_in c.args.program.now in
    let named : (fun : Function) × (slice_get P line.fun ≡ Some fun) × AreBelow (length (index_list (types_of fun) c.args.declared.now.degree)) line.bound =
    subst (λ (line : Line). (fun : Function) × (slice_get P line.fun ≡ Some fun) × AreBelow (length (index_list (types_of fun) c.args.declared.now.degree)) line.bound)
    (get_or_from_slice_get c.args.declared.now.lines 0 line line there) (c.requires.within 0 line (slice_get_within c.args.declared.now.lines 0 line there)) in
    subst (λ K. MayBeAsked K line) (sym c.checked.ensures) (c.may_be_asked.ensures.asked line (slice_get_within P line.fun named.0 named.1))
