use Rattle.raml_syntax.specs.Tree.{Function}
use Rattle.raml_syntax.specs.Node.{AllNodes, FewArguments}
use Rattle.simple_types.proofs.Places.{all_read}
use Rattle.simple_types.proofs.program.check_bodies.Goals as goal

pub check_below-requires : goal.check_below-requires
check_below-requires c =
    record { few = all_read (λ (g : Function). AllNodes FewArguments g.body) c.args.funs.now c.loop-fun.fun-index c.fun-item.result c.loop-fun-test.true c.fun-item.is c.requires.few }
