use Rattle.std.proofs.Common.{[], ◌∷◌, ◌++◌, ◌∙◌, ap, string_bytes}
use Rattle.std.proofs.lemmas.List.{append_assoc}
use lib.Utf8.{encode}
use Rattle.raml_syntax.specs.Tree.{Text}
use Rattle.explain_profile.specs.Rows.{spaces}
use Rattle.explain_profile.proofs.Spaces.{one_more}
use Rattle.explain_profile.proofs.columns.push_spaces.Goals as goal

pub loop-preserved : goal.loop-preserved
unfolding encode
loop-preserved c =
    let old = string_bytes c.args.text.now in
    let count = c.loop.counter in
    c.in_ok-push.ensures.bytes ∙ ap (λ (text : Text). text ++ 32 ∷ []) c.loop.invariant ∙ append_assoc old (spaces count) (32 ∷ [])
    ∙ ap (λ (text : Text). old ++ text) (one_more count)
