-- The walk through the blocks.
use Rattle.std.specs.Prelude.{◌≡◌, List, map}
use Rattle.share_normal.specs.Program.{Kept}
use Rattle.cost_free.specs.Refused.{Course}
use Rattle.annot_types.specs.Certificate.{Block, Certificate, has_work, outcome}
use Rattle.rules_walk.specs.Remembers.{Tables, Remembers}
use Rattle.rules_plan.specs.Read.{program_in}

-- the schedule after these blocks
abbrev pub course_of : Kept → Certificate → List Block → Course
course_of kept c blocks = record {
  results = kept.results;
  groups = kept.groups.list;
  degree = c.degree;
  work = has_work c;
  done = map outcome blocks;
}

-- The schedule and the tables are those of these blocks.
pub record HasCome (kept : Kept) (c : Certificate) (blocks : List Block) (course : Course) (t : Tables) : Type 0 where
  pub course_is : course ≡ course_of kept c blocks
  pub remembers : Remembers (program_in kept) c.degree blocks t
