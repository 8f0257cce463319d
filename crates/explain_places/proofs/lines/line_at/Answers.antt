use Rattle.explain_places.proofs.Walks.{line_cut}
use Rattle.explain_places.proofs.lines.line_at.Goals as goal

pub returns : goal.returns
returns c =
    line_cut c.args.text.now _ _ c.min-at.result c.start_of_last.result c.first_end.result c.args.offset c.min-at.ensures c.split_at.ensures.front c.split_at.ensures.back
    c.start_of_last.ensures.within c.start_of_last.ensures.line c.first_end.ensures.line
