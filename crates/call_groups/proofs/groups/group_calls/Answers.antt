use Rattle.std.proofs.Common.{◌≡◌, length, map, sym, ap, ◌∙◌, arith}
use Rattle.raml_syntax.specs.Read.{program_of}
use Rattle.call_groups.specs.Read.{lists_of, rows_of}
use Rattle.call_groups.specs.Sets.{below}
use Rattle.call_groups.specs.Table.{through_all, call_table}
use Rattle.call_groups.proofs.Leads.{led, led_count}
use Rattle.call_groups.proofs.Lists.{rows_length, written_back}
use Rattle.call_groups.proofs.Marks.{table_count, listed_calls}
use Rattle.call_groups.proofs.Ordered.{groups_in_order}
use Rattle.call_groups.proofs.groups.group_calls.Goals as goal

pub returns : goal.returns
returns c =
    let count : length c.in_ok-rows.rows.items ≡ length (program_of c.args.program.now) =
    sym (rows_length c.in_ok-rows.rows.items) ∙ ap length c.in_ok-rows.ensures ∙ table_count (program_of c.args.program.now) in
    let listed : lists_of c.in_ok-calls.calls.items ≡ map (below (length (program_of c.args.program.now))) (call_table (program_of c.args.program.now)) =
    c.in_ok-calls.ensures ∙ ap (λ rs. map (below (length rs)) (rows_of rs)) c.deref.ensures.value ∙ (λ i. map (below (count i)) (c.in_ok-rows.ensures i)) in
    let closed : rows_of c.close.new.rows ≡ led (program_of c.args.program.now) =
    c.close.ensures ∙ ap (λ rs. through_all (length rs) (rows_of rs)) c.deref_mut.ensures.value ∙ (λ i. through_all (count i) (c.in_ok-rows.ensures i)) in
    let same : c.deref-2.result.now ≡ c.close.new.rows =
    c.deref-2.ensures.value ∙ written_back c.close.new.rows c.in_ok-rows.rows.items c.in_ok-rows.rows.len (omega arith) in
    let rows : rows_of c.deref-2.result.now ≡ led (program_of c.args.program.now) = ap rows_of same ∙ closed in
    let many : length c.deref-2.result.now ≡ length (program_of c.args.program.now) =
    sym (rows_length c.deref-2.result.now) ∙ ap length rows ∙ led_count (program_of c.args.program.now) in
    record {
      in_order = groups_in_order (program_of c.args.program.now) (rows_of c.deref-2.result.now) (length c.deref-2.result.now) (lists_of c.in_ok-list.list.items) rows many c.in_ok-list.ensures;
      calls = listed ∙ listed_calls (program_of c.args.program.now);
    }
