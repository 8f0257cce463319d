use Rattle.std.proofs.Common.{ap, ◌∙◌, ◌++◌, string_bytes}
use Rattle.std.proofs.lemmas.Result.{on_ok_weaker}
use Rattle.explain_text.proofs.Joined.{piece_put}
use Rattle.explain_text.proofs.lines.Lines.put.Goals as goal

pub returns-clause-text : goal.returns-clause-text
returns-clause-text c =
    on_ok_weaker c.append-2.result
    (λ e line h. piece_put _ line _ _ c.args.word.now _ _ _ _ h (c.in_ok-append.ensures ∙ ap (λ s. string_bytes s ++ c.args.word.now) c.replace-piece.ensures.value) c.in_ok-lead.ensures.text (e ∙ ap (λ l. string_bytes c.lead.new.self.text ++ l) c.deref-2.ensures))
    c.append-2.ensures
