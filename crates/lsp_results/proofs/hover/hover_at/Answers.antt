use Rattle.std.proofs.Common.{Some, option_map, ap, refl, sym, ◌∙◌}
use Rattle.std.specs.Borrow.{Bor}
use Rattle.lsp_language.specs.declared.insight.Hover.{Hover}
use Rattle.lsp_results.proofs.Shown.{shown_at}
use Rattle.lsp_results.proofs.hover.hover_at.Goals as goal

pub returns-in-Some : goal.returns-in-Some
returns-in-Some g c =
    let hover = Some c.in-Some.hover.now in
    let met = sym (ap (option_map (λ (h : Bor Hover). h.now)) c.in-Some.is) ∙ c.first_at.ensures in
    shown_at (g.L.Language.tells c.args.language.now) c.args.encoding c.args.document.now.text c.args.place c.args.known.now hover hover c.hover_value.result
    met refl c.hover_value.ensures
