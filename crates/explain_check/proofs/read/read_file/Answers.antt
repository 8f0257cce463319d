use Rattle.std.proofs.Common.{rules, ◌<◌, ◌≤◌, length, inl, inr, refl, codes, sym, []}
use Rattle.std.proofs.lemmas.List.{append-nil}
use Rattle.explain_check.specs.Stores.{error_line, length_line}
use Rattle.explain_check.proofs.Telling.{too_long, whole}
use Rattle.explain_check.proofs.read.read_file.Goals as goal

pub returns-then-len-most-clause-told : goal.returns-then-len-most-clause-told
returns-then-len-most-clause-told g c =
    let above : c.args.most < length c.in-Ok.content.items = search rules in
    let long = too_long (g.S.Store.holds c.args.store.now) (g.S.Store.faults c.args.store.now) (g.S.Store.faults c.read.new.self) c.args.most c.args.name.now c.in-Ok.content.items c.in-Ok.ensures.front above in
    (length_line c.args.name.now c.args.most, inl (long.0, long.1, long.2, refl), c.in_ok-push_too_long-in-Ok.ensures)

pub returns-else-len-most-clause-told : goal.returns-else-len-most-clause-told
returns-else-len-most-clause-told g c =
    let short : length c.in-Ok.content.items ≤ c.args.most = search rules in
    let held = whole (g.S.Store.holds c.args.store.now) (g.S.Store.faults c.args.store.now) (g.S.Store.faults c.read.new.self) c.args.most c.args.name.now c.in-Ok.content.items c.in-Ok.ensures.front short in
    ([], (held, short, refl), sym (append-nil _))

pub returns-in_ok-push_error-in-Err-Failed-clause-told : goal.returns-in_ok-push_error-in-Err-Failed-clause-told
returns-in_ok-push_error-in-Err-Failed-clause-told g c = (error_line c.args.name.now (codes "cannot be read"), inr (c.in-Err-Failed.ensures.failed (search rules), refl), c.in_ok-push_error-in-Err-Failed.ensures)
