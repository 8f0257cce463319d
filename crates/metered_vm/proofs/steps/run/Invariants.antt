use Rattle.std.proofs.Common.{◌≡◌, ◌-◌}
use Rattle.raml_syntax.specs.Read.{program_of}
use Rattle.stack_compile.specs.Code.{bodies_of}
use Rattle.stack_compile.specs.Machine.{after}
use Rattle.metered_vm.specs.Running.{IsSound, state_of}
use Rattle.metered_vm.specs.Stepping.{Goes, body_at}
use Rattle.metered_vm.proofs.steps.run.Given as goal

abbrev pub invariant-loop-m : goal.invariant-loop-m
invariant-loop-m l = record {
  state : state_of l.m ≡ after (bodies_of (program_of l.code)) (l.m.made - l.fn.m.made) (state_of l.fn.m);
  goes : Goes l.steps l.fn.m l.m;
  sound : IsSound l.m;
  body : l.current ≡ body_at (bodies_of (program_of l.code)) l.m;
}

abbrev pub decreases-loop-m : goal.decreases-loop-m
decreases-loop-m l = l.steps - l.m.made
