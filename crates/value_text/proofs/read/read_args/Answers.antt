use Rattle.std.proofs.Common.{rules, map, refl, subst}
use Rattle.value_text.specs.Ends.{StopsWith}
use Rattle.raml_syntax.specs.Read.{ty_of}
use Rattle.value_text.proofs.Whole.{left_small, fault_first, are_read}
use Rattle.value_text.proofs.read.read_args.Goals as goal

pub overflow_sub-bytes : goal.overflow_sub-bytes
overflow_sub-bytes c = left_small c.args.bytes.now (map ty_of c.args.types.now) c.in-Err-Fault.kind c.in-Err-Fault.left (subst (StopsWith c.args.bytes.now (map ty_of c.args.types.now)) c.in-Err-Fault.field-0-is c.in-Err-Fault.ensures.stops)

pub returns-else-len-base-gt-MOST_CELLS-clause-ok :
    goal.returns-else-len-base-gt-MOST_CELLS-clause-ok
returns-else-len-base-gt-MOST_CELLS-clause-ok c =
    are_read _ _ c.args.bytes.now (map ty_of c.args.types.now) _ (search rules) c.len.ensures.earlier c.in-Ok-read_text.ensures.ok (search rules)

pub returns-in-Err-Fault-clause-refused : goal.returns-in-Err-Fault-clause-refused
returns-in-Err-Fault-clause-refused c =
    fault_first c.args.bytes.now (map ty_of c.args.types.now) c.in-Err-Fault.kind c.in-Err-Fault.left _ c.fault_at.result (search rules) (subst (StopsWith c.args.bytes.now (map ty_of c.args.types.now)) c.in-Err-Fault.field-0-is c.in-Err-Fault.ensures.stops) refl c.fault_at.ensures
