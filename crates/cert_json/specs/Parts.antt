-- The parts of a certificate. The numbers of the analysis are of a type of their own: integers in a certificate, and texts in what
-- has its form.
use Rattle.std.specs.Prelude.{ℕ, ℤ, List, map, Option}
use Rattle.cost_free.specs.Task.{Task}
use Rattle.annot_types.specs.Certificate as c

-- numbers at positions
abbrev pub Entries : Type 0 → Type 0
Entries N = List (ℕ × N)

-- annotations of the arguments and the result
pub record Sig (N : Type 0) : Type 0 where
  pub args : Entries N
  pub result : Entries N

pub data Hint (N : Type 0) : Type 0 where
  Let : List (Entries N) → Hint N
  Share : Entries N → Hint N
  Call : Entries N → Hint N

pub data Body (N : Type 0) : Type 0 where
  Solved : List (Sig N) → List (List (Hint N)) → Body N
  Refuted : Entries N → Body N
  Calls : ℕ → Body N

pub record Block (N : Type 0) : Type 0 where
  pub task : Task
  pub body : Body N

-- What stands beside the blocks. The scale of work is there from version 2 on.
pub record Head (N : Type 0) : Type 0 where
  pub degree : ℕ
  pub ticks : N
  pub cells : N
  pub work : Option N

pub record Certificate (N : Type 0) : Type 0 where
  pub head : Head N
  pub blocks : List (Block N)

-- ---- a certificate's parts

abbrev pub sig_parts : c.Sig → Sig ℤ
sig_parts s = record { args = s.args; result = s.result }

abbrev pub hint_parts : c.Hint → Hint ℤ
hint_parts (c.Let results) = Let results
hint_parts (c.Share copies) = Share copies
hint_parts (c.Call multiples) = Call multiples

abbrev pub hints_parts : List c.Hint → List (Hint ℤ)
hints_parts hints = map hint_parts hints

abbrev pub body_parts : c.Body → Body ℤ
body_parts (c.Solved sigs hints) = Solved (map sig_parts sigs) (map hints_parts hints)
body_parts (c.Refuted farkas) = Refuted farkas
body_parts (c.Calls fun) = Calls fun

abbrev pub block_parts : c.Block → Block ℤ
block_parts b = record { task = b.task; body = body_parts b.body }

abbrev pub parts : c.Certificate → Certificate ℤ
parts c = record {
  head = record { degree = c.degree; ticks = c.ticks_scale; cells = c.cells_scale; work = c.work_scale };
  blocks = map block_parts c.blocks;
}
