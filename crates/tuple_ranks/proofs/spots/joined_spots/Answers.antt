use Rattle.std.proofs.Common.{◌∙◌, ◌++◌, Err, ap, map, sym, arith}
use Rattle.base_poly.specs.Read.{context_of}
use Rattle.index_shift.proofs.Shorter.{front_few, back_few}
use Rattle.tuple_ranks.specs.Columns.{table_by}
use Rattle.tuple_ranks.specs.Read.{items_of}
use Rattle.tuple_ranks.specs.Slots.{behind_at}
use Rattle.tuple_ranks.proofs.Made.{of_fault}
use Rattle.tuple_ranks.proofs.Behind.{joins_are}
use Rattle.tuple_ranks.proofs.Rows.{both_sized, rows_listed}
use Rattle.tuple_ranks.proofs.spots.joined_spots.Goals as goal

pub returns-in_err-firsts-clause-many : goal.returns-in_err-firsts-clause-many
returns-in_err-firsts-clause-many c = λ e.
    let large = c.in_err-firsts.ensures.many (ap Err (of_fault _ _ c.from_residual.ensures.1 e)) in
    let more = front_few (context_of c.args.first.now) (context_of c.args.second.now) c.args.d in omega (arith, large, more)

pub returns-in_err-seconds-clause-many : goal.returns-in_err-seconds-clause-many
returns-in_err-seconds-clause-many c = λ e.
    let large = c.in_err-seconds.ensures.many (ap Err (of_fault _ _ c.from_residual-in_err-seconds.ensures.1 e)) in
    let more = back_few (context_of c.args.first.now) (context_of c.args.second.now) c.args.d in omega (arith, large, more)

pub returns-in_err-whole-clause-many : goal.returns-in_err-whole-clause-many
returns-in_err-whole-clause-many c = λ e.
    let As = context_of c.args.first.now in
    let Bs = context_of c.args.second.now in
    let firsts = ap (map items_of) c.deref.ensures.value ∙ c.in_ok-firsts.ensures.all in
    let seconds = ap (map items_of) c.deref-2.ensures.value ∙ c.in_ok-seconds.ensures.all in
    c.in_err-whole.ensures.many (ap Err (of_fault _ _ c.from_residual-in_err-whole.ensures.1 e)) (As ++ Bs) (both_sized As Bs c.args.d _ _ firsts seconds)

pub returns-in_err-first-clause-many : goal.returns-in_err-first-clause-many
returns-in_err-first-clause-many c = λ e.
    let firsts = ap (map items_of) c.deref-3.ensures.value ∙ c.in_ok-firsts.ensures.all in
    let large = c.in_err-first.ensures.many (ap Err (of_fault _ _ c.from_residual-in_err-first.ensures.1 e)) (context_of c.args.first.now) (sym firsts) in
    let more = front_few (context_of c.args.first.now) (context_of c.args.second.now) c.args.d in omega (arith, large, more)

pub returns-in_err-second-clause-many : goal.returns-in_err-second-clause-many
returns-in_err-second-clause-many c = λ e.
    let seconds = ap (map items_of) c.deref-4.ensures.value ∙ c.in_ok-seconds.ensures.all in
    let large = c.in_err-second.ensures.many (ap Err (of_fault _ _ c.from_residual-in_err-second.ensures.1 e)) (context_of c.args.second.now) (sym seconds) in
    let more = back_few (context_of c.args.first.now) (context_of c.args.second.now) c.args.d in omega (arith, large, more)

pub returns-clause-few : goal.returns-clause-few
returns-clause-few c =
    let As = context_of c.args.first.now in
    let Bs = context_of c.args.second.now in
    let firsts = ap (map items_of) c.deref.ensures.value ∙ c.in_ok-firsts.ensures.all in
    let seconds = ap (map items_of) c.deref-2.ensures.value ∙ c.in_ok-seconds.ensures.all in
    c.in_ok-whole.ensures.few (As ++ Bs) (both_sized As Bs c.args.d _ _ firsts seconds)

pub returns-clause-all : goal.returns-clause-all
returns-clause-all c =
    let d = c.args.d in
    let As = context_of c.args.first.now in
    let Bs = context_of c.args.second.now in
    let both = both_sized As Bs d _ _ (ap (map items_of) c.deref.ensures.value ∙ c.in_ok-firsts.ensures.all) (ap (map items_of) c.deref-2.ensures.value ∙ c.in_ok-seconds.ensures.all) in
    let firsts = ap (map items_of) c.deref-3.ensures.value ∙ c.in_ok-firsts.ensures.all in
    let seconds = ap (map items_of) c.deref-4.ensures.value ∙ c.in_ok-seconds.ensures.all in
    let first = c.in_ok-first.ensures.ranks ∙ ap (λ pss. table_by pss d) firsts in
    let second = c.in_ok-second.ensures.ranks ∙ ap (λ pss. table_by pss d) seconds in
    let whole = c.in_ok-whole.ensures.is ∙ ap (λ pss. table_by pss d) (sym both) in
    let rows = c.in_ok-first.ensures.numbers ∙ rows_listed As d _ firsts in
    let last = c.in_ok-second.ensures.numbers ∙ rows_listed Bs d _ seconds in
    c.in_ok-joins.ensures
    ∙ (λ i. map (behind_at (first i) (second i) (whole i) (last i)) (rows i))
    ∙ joins_are As Bs d (c.in_ok-whole.ensures.few (As ++ Bs) both)
