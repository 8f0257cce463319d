use Rattle.std.proofs.lemmas.Result.{IfOk-weaker}
use Rattle.raml_syntax.specs.Value.{Value, Just}
use Rattle.base_poly.specs.Read.{context_of}
use Rattle.index_shift.specs.Laws.{KeepsParts}
use Rattle.index_shift.proofs.Listed.{some_parts}
use Rattle.index_shift.proofs.maps.shift_option.Goals as goal

pub returns-clause-kept : goal.returns-clause-kept
returns-clause-kept c =
    IfOk-weaker c.opening.result _ (λ found. (v : Value) → KeepsParts found.items (context_of c.args.context.now) c.args.at c.args.d (Just v))
    (λ found k v. k (Just v) some_parts) c.opening.ensures.kept
