use Rattle.std.proofs.Common.{sym, ap, ◌∙◌, [], ◌∷◌, ◌++◌, ◌+◌, drop, string_bytes}
use Rattle.std.proofs.lemmas.List.{drop_all, drop_more, append_assoc, append-nil}
use Rattle.explain_at.specs.Read.{texts}
use Rattle.explain_calls.proofs.Behind.{is_shown, one_shown, all_shown}
use Rattle.explain_calls.proofs.parts.push_shown.Goals as goal

pub loop-line-init : goal.loop-line-init
loop-line-init c = ([], λ rest are. are, sym (append-nil _))

pub loop-line-preserved : goal.loop-line-preserved
unfolding lib.Utf8.encode
loop-line-preserved c =
    let lines = c.args.lines.now in
    let i = c.loop-line.line-index in
    let line = c.line-item.result in
    let broken = string_bytes c.in_ok-broken.broken in
    let so_far = c.loop-line.invariant in
    let next = drop_more lines i line c.loop-line-test.true ∙ ap (λ first. first ∷ drop (i + 1) lines) (sym c.line-item.is) in
    let shown = rw c.deref.ensures at (is_shown c.args.width c.map-columns.result c.deref.result.now broken c.map-columns.ensures.variant c.in_ok-broken.ensures.wrapped c.in_ok-broken.ensures.whole) in
    let pushed = rw c.deref-in-loop-line.ensures at c.in_ok-push_str.ensures.bytes in
    let text = c.in_ok-push.ensures.bytes ∙ ap (λ text. text ++ 10 ∷ []) (pushed ∙ ap (λ text. text ++ broken) so_far.2)
    ∙ append_assoc (string_bytes c.args.text.now ++ so_far.0) broken (10 ∷ []) ∙ append_assoc (string_bytes c.args.text.now) so_far.0 (broken ++ 10 ∷ []) in
    (so_far.0 ++ (broken ++ 10 ∷ []), one_shown c.args.width (texts lines) (texts (drop i lines)) (texts (drop (i + 1) lines)) (string_bytes line) so_far.0 broken (ap texts next) so_far.1 shown, text)

pub returns : goal.returns
returns c =
    let so_far = c.loop-line.invariant in
    let none = ap texts (drop_all c.loop-line.line-index c.args.lines.now c.loop-line-test.false) in
    (so_far.0, all_shown c.args.width (texts c.args.lines.now) _ so_far.0 none so_far.1, so_far.2)
