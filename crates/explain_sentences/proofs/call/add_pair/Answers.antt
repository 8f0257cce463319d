use Rattle.std.proofs.Common.{◌++◌, ◌∙◌, [], ◌∷◌, ap, codes}
use Rattle.std.proofs.lemmas.List.{append_assoc}
use Rattle.std.proofs.lemmas.Result.{on_ok_weaker}
use Rattle.explain_sentences.specs.Sentences.{sentence}
use Rattle.explain_sentences.specs.Read.{sentences_of}
use Rattle.explain_sentences.proofs.call.add_pair.Goals as goal

pub returns : goal.returns
returns c =
    let first = sentence c.args.pair.first.0 (codes "this is one of two calls that both happen and get the same part") ∷ [] in
    let second = sentence c.args.pair.second.0 (codes "this is the other one of the two") ∷ [] in
    on_ok_weaker c.add_text-2.result
    (λ added. added ∙ ap (λ ss. ss ++ second) c.in_ok-add_text.ensures ∙ append_assoc (sentences_of c.args.sentences.now.items) first second) c.add_text-2.ensures
