use Rattle.std.proofs.Common.{◌≡◌, ◌∙◌, ◌≤◌, ◌-◌, ℕ, SomeIff, sym, subst, arith}
use Rattle.raml_syntax.specs.Tree.{Type'}
use Rattle.simple_types.specs.Table.{Table, among, node_at, made_from, types_before, type_nodes}
use Rattle.simple_types.specs.declared.types.TypeId.{TypeId}
use Rattle.simple_types.proofs.Tables.{made_here, among_before, among_past}
use Rattle.simple_types.proofs.Counted.{some, of_none, of_one, of_two, moved, none_left}
use Rattle.simple_types.proofs.types.Types.+left.Goals as goal

abbrev all : Table → TypeId → ℕ
all table id = type_nodes (made_from (types_before table id) (node_at table id))

abbrev of_part : Table → TypeId → TypeId → ℕ
of_part table whole part = type_nodes (among (types_before table whole) part)

pub left-returns-in_err-nodes : goal.left-returns-in_err-nodes
left-returns-in_err-nodes t c =
    let table = c.args.self.now.nodes.keys in
    let one = some (types_before table c.args.id) (node_at table c.args.id) in
    none_left c.from_residual.result (all table c.args.id ≤ c.args.nodes) _ c.from_residual.ensures (λ fits. c.in_err-nodes.ensures (omega (arith, one, fits)))

pub left-returns-in_err-nodes-in-Pair : goal.left-returns-in_err-nodes-in-Pair
left-returns-in_err-nodes-in-Pair t c =
    let table = c.args.self.now.nodes.keys in
    let both = of_two (types_before table c.args.id) c.node.result (node_at table c.args.id) c.in-Pair.first c.in-Pair.second c.node.ensures c.in-Pair.is in
    none_left c.from_residual-in_err-nodes-in-Pair.result (all table c.args.id ≤ c.args.nodes) _ c.from_residual-in_err-nodes-in-Pair.ensures
    (λ fits. c.in_err-nodes-in-Pair.ensures (omega (arith, both, fits, c.in_ok-nodes.ensures)))

pub left-returns-in-Int : goal.left-returns-in-Int
left-returns-in-Int t c =
    let table = c.args.self.now.nodes.keys in
    let one : all table c.args.id ≡ 1 = of_none (types_before table c.args.id) c.node.result (node_at table c.args.id) c.node.ensures c.in-Int.is in
    (omega (arith, one, c.in_ok-nodes.ensures), omega (arith, one, c.in_ok-nodes.ensures))

pub left-returns-in_ok-nodes-in-Pair : goal.left-returns-in_ok-nodes-in-Pair
left-returns-in_ok-nodes-in-Pair t c =
    let table = c.args.self.now.nodes.keys in
    let both = of_two (types_before table c.args.id) c.node.result (node_at table c.args.id) c.in-Pair.first c.in-Pair.second c.node.ensures c.in-Pair.is in
    moved c.left_by_part-in-Pair.result (of_part table c.args.id c.in-Pair.second) c.in_ok-nodes-in-Pair.nodes (all table c.args.id) c.args.nodes c.left_by_part-in-Pair.ensures
    (λ fits. (omega (arith, both, fits, c.in_ok-nodes.ensures, c.in_ok-nodes-in-Pair.ensures), omega (arith, both, fits, c.in_ok-nodes.ensures, c.in_ok-nodes-in-Pair.ensures)))
    (λ fits. omega (arith, both, fits, c.in_ok-nodes.ensures, c.in_ok-nodes-in-Pair.ensures))

pub left-returns-in-List : goal.left-returns-in-List
left-returns-in-List t c =
    let table = c.args.self.now.nodes.keys in
    let one = of_one (types_before table c.args.id) c.node.result (node_at table c.args.id) c.in-List.part c.node.ensures c.in-List.is in
    moved c.left_by_part-in-List.result (of_part table c.args.id c.in-List.part) c.in_ok-nodes.nodes (all table c.args.id) c.args.nodes c.left_by_part-in-List.ensures
    (λ fits. (omega (arith, one, fits, c.in_ok-nodes.ensures), omega (arith, one, fits, c.in_ok-nodes.ensures)))
    (λ fits. omega (arith, one, fits, c.in_ok-nodes.ensures))

pub left_by_part-returns-then-part-whole : goal.left_by_part-returns-then-part-whole
left_by_part-returns-then-part-whole t c =
    let table = c.args.self.now.nodes.keys in
    subst (λ (A : Type'). SomeIff c.left.result (type_nodes A ≤ c.args.nodes) (c.args.nodes - type_nodes A))
    (sym (made_here table c.args.part) ∙ sym (among_before table c.args.whole c.args.part c.if-part-whole.true)) c.left.ensures

pub left_by_part-returns-else-part-whole : goal.left_by_part-returns-else-part-whole
left_by_part-returns-else-part-whole t c =
    let past = among_past c.args.self.now.nodes.keys c.args.whole c.args.part c.if-part-whole.false in
    subst (λ (A : Type'). SomeIff c.checked_sub.result (type_nodes A ≤ c.args.nodes) (c.args.nodes - type_nodes A)) (sym past) c.checked_sub.ensures
