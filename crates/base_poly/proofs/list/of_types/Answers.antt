use Rattle.base_poly.specs.Indices.{tuples_up_to}
use Rattle.base_poly.specs.Read.{context_of}
use Rattle.base_poly.proofs.Longer.{behind_none}
use Rattle.base_poly.proofs.list.of_types.Goals as goal

pub returns-clause-all : goal.returns-clause-all
returns-clause-all c = behind_none _ _ (tuples_up_to (context_of c.args.types.now) c.args.d) _ c.new-found.ensures.items c.new.ensures.items c.in_ok-append_tuples.ensures.all
