-- What the code keeps, as plain data.
use Rattle.std.specs.Prelude.{◌≡◌, map}
use Rattle.cost_free.specs.Read.{task_of, outcomes_of}
use Rattle.share_normal.specs.Program.{source_in}
use Rattle.annot_types.specs.Certificate.{Certificate, outcome, has_work}
use Rattle.rules_plan.specs.Read.{program_in}
use Rattle.explain_verify.specs.Told as t
use Rattle.explain_verify.specs.declared.outline.Outline.{Outline}
use Rattle.explain_verify.specs.declared.failing.Failing.{Failing}
use Rattle.explain_verify.specs.declared.message.Subject.{Subject}

-- the outline of a certificate
pub record IsOutline (c : Certificate) (outline : Outline) : Type 0 where
  pub degree : outline.degree ≡ c.degree
  pub work : outline.work ≡ has_work c
  pub done : outcomes_of outline.done.items ≡ map outcome c.blocks

abbrev pub failing_of : Failing → t.Failing
failing_of x = record { task = task_of x.task; number = x.number; function = x.fun.0; path = x.path.now }

abbrev pub subject_in : Subject → t.Subject
subject_in s = record {
  file = s.file.now;
  source = s.source.now;
  certificate = s.certificate.now;
  program = source_in s.program.now;
  normal = program_in s.program.now;
  degree = s.outline.now.degree;
  work = s.outline.now.work;
  done = outcomes_of s.outline.now.done.items;
}
