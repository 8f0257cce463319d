use Rattle.std.proofs.Common.{◌∙◌, Err, inl, inr, ap, length, map, sym}
use Rattle.std.proofs.lemmas.List.{length-map}
use Rattle.raml_syntax.specs.Read.{ty_of}
use Rattle.base_poly.specs.Read.{context_of}
use Rattle.tuple_ranks.specs.Columns.{table_by, place}
use Rattle.tuple_ranks.specs.Read.{items_of}
use Rattle.tuple_ranks.specs.Slots.{picked}
use Rattle.tuple_ranks.proofs.Made.{of_fault}
use Rattle.tuple_ranks.proofs.Permuted.{permuted_are}
use Rattle.tuple_ranks.proofs.Rows.{rows_listed}
use Rattle.tuple_ranks.proofs.spots.permuted_spots.Goals as goal

pub returns-in_err-tuples-clause-many : goal.returns-in_err-tuples-clause-many
returns-in_err-tuples-clause-many c = λ e.
    let firsts = ap (map items_of) c.deref.ensures.value ∙ c.in_ok-firsts.ensures.all in
    inl (c.in_err-tuples.ensures.many (ap Err (of_fault _ _ c.from_residual-in_err-tuples.ensures.1 e)) (context_of c.args.from.now) (sym firsts))

pub returns-in_err-ranks-clause-many : goal.returns-in_err-ranks-clause-many
returns-in_err-ranks-clause-many c = λ e.
    let seconds = ap (map items_of) c.deref-2.ensures.value ∙ c.in_ok-seconds.ensures.all in
    inr (c.in_err-ranks.ensures.many (ap Err (of_fault _ _ c.from_residual-in_err-ranks.ensures.1 e)) (context_of c.args.to.now) (sym seconds))

pub returns-clause-few : goal.returns-clause-few
returns-clause-few c =
    let firsts = ap (map items_of) c.deref.ensures.value ∙ c.in_ok-firsts.ensures.all in
    let seconds = ap (map items_of) c.deref-2.ensures.value ∙ c.in_ok-seconds.ensures.all in
    (c.in_ok-tuples.ensures.few (context_of c.args.from.now) (sym firsts), c.in_ok-ranks.ensures.few (context_of c.args.to.now) (sym seconds))

pub returns-clause-all : goal.returns-clause-all
returns-clause-all c =
    let d = c.args.d in
    let firsts = ap (map items_of) c.deref.ensures.value ∙ c.in_ok-firsts.ensures.all in
    let seconds = ap (map items_of) c.deref-2.ensures.value ∙ c.in_ok-seconds.ensures.all in
    let ranks = c.in_ok-ranks.ensures.is ∙ ap (λ pss. table_by pss d) seconds in
    let slots = c.deref-3.ensures.value ∙ c.in_ok-slots.ensures.all in
    let numbers = c.in_ok-tuples.ensures.numbers ∙ rows_listed (context_of c.args.from.now) d _ firsts in
    c.in_ok-places.ensures
    ∙ (λ i. map (λ ns. place (ranks i) (picked (slots i) ns)) (numbers i))
    ∙ permuted_are c.args.order.now (context_of c.args.from.now) (context_of c.args.to.now) d (length c.args.from.now) (sym (length-map c.args.from.now ty_of)) (c.in_ok-ranks.ensures.few (context_of c.args.to.now) (sym seconds))
