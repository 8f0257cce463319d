use Rattle.std.proofs.Common.{◌≡◌, ◌++◌, cond, codes, drop, string_bytes}
use Rattle.explain_nested.specs.Text.{texts, in_order, led}
use Rattle.explain_nested.proofs.text.push_in_order.Given as goal

abbrev pub invariant-loop-name : goal.invariant-loop-name
invariant-loop-name l =
    string_bytes l.text ++ cond l.is_first (in_order (texts (drop l.name-index l.names))) (led (codes " before ") (texts (drop l.name-index l.names)))
    ≡ string_bytes l.fn.text ++ in_order (texts l.names)
