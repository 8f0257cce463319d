use Rattle.std.proofs.Common.{◌≡◌, ◌∙◌, [], ap, sym, map, length, slice_index_or, arith, rules}
use Rattle.std.proofs.lemmas.List.{length-map}
use Rattle.cost_free.specs.Read.{task_of}
use Rattle.rules_spec.specs.Asked.{asked}
use Rattle.rules_spec.specs.Tasks as t
use Rattle.rules_spec.specs.Tasks.{sides_count, hints_count, sides_given, hints_given, known_by, given_conditions}
use Rattle.rules_walk.specs.Asks.{asks_of}
use Rattle.rules_walk.specs.Read.{hints_of, known_of, sides_of}
use Rattle.rules_plan.specs.Read.{program_in, body_of}
use Rattle.constraint_gen.specs.Sums.{sums, unknown}
use Rattle.constraint_gen.specs.Heard.{Heard, hear_all}
use Rattle.constraint_gen.specs.Given.{all_counts, all_answers}
use Rattle.constraint_gen.specs.Walked.{job_in, reached, bodies_walked}
use Rattle.constraint_gen.proofs.Giving.{counts_are, answers_are}
use Rattle.constraint_gen.proofs.Walking.{conditions_heard, length_answers}
use Rattle.constraint_gen.proofs.Collected.{same_unknowns}
use Rattle.constraint_gen.proofs.heard.heard.Goals as goal

pub all_answers-requires : goal.all_answers-requires
all_answers-requires c =
    let bs = map body_of c.args.bodies.now in
    let counts = ap all_counts c.requires.asked ∙ counts_are bs in
    record { room = omega (arith, c.in_ok-group.ensures.next, c.requires.room, counts) }

pub hear_all-requires : goal.hear_all-requires
hear_all-requires c =
    let bs = map body_of c.args.bodies.now in
    record {
      hints = ap length c.deref-2.ensures.value
          ∙ sym (length-map c.in_ok-hints.hints.items (λ h. hints_of h.items))
          ∙ ap length c.in_ok-hints.ensures.given
          ∙ length_answers unknown c.sides.new.next (map (λ a. asks_of a.items) c.args.asks.now)
          ∙ ap length c.requires.asked
          ∙ length-map bs (λ (b : t.Body). asked b.plan)
          ∙ length-map c.args.bodies.now body_of;
      few = c.requires.few;
    }

pub returns : goal.returns
returns c =
    let bs = map body_of c.args.bodies.now in
    let j = job_in (program_in c.args.program.now) c.args.d c.args.earlier.now bs (task_of c.args.task.now) c.args.scale in
    let group = sides_given unknown 0 bs in
    let hss = hints_given unknown (sides_count bs) bs in
    let start : Heard = record { unknowns = c.args.count; rows = [] } in
    let sides : map sides_of c.deref.result.now ≡ group = ap (map sides_of) c.deref.ensures.value ∙ c.in_ok-group.ensures.given in
    let next : c.sides.new.next ≡ sides_count bs = omega (arith, c.in_ok-group.ensures.next) in
    let hints : map (λ h. hints_of h.items) c.deref-2.result.now ≡ hss =
    ap (map (λ h. hints_of h.items)) c.deref-2.ensures.value ∙ c.in_ok-hints.ensures.given ∙ (λ i. all_answers unknown (next i) (c.requires.asked i)) ∙ answers_are unknown (sides_count bs) bs in
    let known : known_of c.known-known.result ≡ known_by j group =
    c.known-known.ensures ∙ (λ i. record { scale = c.args.scale; budget = c.budget_of.ensures i; group = sides i; free = j.free; cost = j.cost }) in
    let all : c.hear_all.new.collector ≡ hear_all start (given_conditions sums unknown j) =
    c.in_ok-hear_all.ensures
    ∙ (λ i. hear_all (hear_all (c.in_ok-collector.ensures i) (reached j.function (slice_index_or (known i).group j.function (record { args = []; result = [] })).result j.target)) (bodies_walked (known i) j.mode 0 bs (hints i)))
    ∙ conditions_heard j group hss start in
    let count = ap (λ (h : Heard). h.unknowns) all ∙ same_unknowns start (given_conditions sums unknown j) in
    let rows : c.into_rows.result.items ≡ c.hear_all.new.collector.rows = search rules in
    (λ i. record { unknowns = sym count i; rows = rows i }) ∙ all
