-- Systems with a declared bound are solved by what holds under it, and by nothing else; and what is kept is a bound.
use Rattle.std.specs.Prelude.{◌≡◌, ◌<◌, ℕ, ℤ, pos, true, List, map, slice_get, Option, Some, None, ◌*◌, ◌↔◌}
use Rattle.std.specs.List.{All}
use Rattle.raml_syntax.specs.Tree.{Function, Prog}
use Rattle.raml_syntax.specs.Types.{Typed, types_of}
use Rattle.raml_syntax.specs.Node.{AllNodes, NumberFits}
use Rattle.linear_rows.specs.Systems.{IsSystem, Solves, Refutes}
use Rattle.simplex_spec.specs.Courses.{rule_by}
use Rattle.normal_spec.specs.Two.{norm}
use Rattle.share_normal.specs.Program.{source_in, norm_in}
use Rattle.cost_free.specs.Task as k
use Rattle.cost_free.specs.Task.{Task}
use Rattle.annot_types.specs.Program.{Program, blocker_of}
use Rattle.annot_types.specs.Certificate as c
use Rattle.annot_types.specs.Certificate.{Sig, Block, Certificate, sigs_of, hints_of}
use Rattle.annot_types.specs.Holds.{raised}
use Rattle.annot_types.specs.Held.{before, done_before, Held}
use Rattle.annot_types.specs.Least.{solving}
use Rattle.annot_types.specs.Rows.{size}
use Rattle.annot_types.specs.System.{is_kept, system}
use Rattle.rules_spec.specs.Systems.{IsTask}
use Rattle.rules_soundness_laws.specs.Bounds.{Bounds}
use Rattle.rules_soundness_laws.specs.Laws.{normal_of}
use Rattle.infer_systems_laws.specs.Tried.{IsOrdered}
use Rattle.rules_systems_laws.specs.Laws.{told}
use Rattle.simplex_integers.specs.Reading.{ReadsSolution, ReadsVector}
use Rattle.rules_plan.specs.Read.{program_in}
use Rattle.cert_check.specs.Fault.{Fault}
use Rattle.cert_check.specs.Finds.{AreWithin}
use Rattle.other_blocks.specs.Over.{Over, IsOver}
use Rattle.other_blocks.specs.Laws.{IsTotal}
use Rattle.other_blocks.specs.Other.{place_among, ScaleFits, OtherFinds}
use Rattle.bound_file.specs.Lines.{Coefficient, Line, ArePositive}
use Rattle.bound_contract.specs.Under.{IsUnder, AreDeclared, terms_at}
use Rattle.bound_contract.specs.System.{at_most, declared_system}
use Rattle.bound_contract.specs.Kept.{IsTaskOf, Keeps, NoneKeeps, system_there, KeepsThere, NoneKeepsThere}

-- Each solution x over t stands for signatures and hints that hold with t, under the line.
abbrev pub SolutionsKeep : Type 0
SolutionsKeep =
    (P : Program) (d : ℕ) (earlier : List Block) (task : Task) (scale : ℕ) (line : Line) (t : ℕ) (x : List ℕ) →
    IsTask P d earlier task scale → IsTaskOf P line task → 0 < t →
    Solves (declared_system P d earlier task scale line) (map pos x) (pos t) →
    Keeps P d earlier scale line (told P d earlier task x) t

-- All signatures and hints that hold with t, under the line, come from a solution over t.
abbrev pub WhatKeepsSolves : Type 0
WhatKeepsSolves =
    (P : Program) (d : ℕ) (earlier : List Block) (task : Task) (scale : ℕ) (line : Line) (t : ℕ)
    (sigs : List Sig) (hints : List (List c.Hint)) →
    IsTask P d earlier task scale → IsTaskOf P line task →
    Keeps P d earlier scale line (solving task sigs hints) t →
    (x : List ℕ) × Solves (declared_system P d earlier task scale line) (map pos x) (pos t)

-- So where a vector refutes the system, none hold under the line.
abbrev pub RefutedIsNotKept : Type 0
RefutedIsNotKept =
    (P : Program) (d : ℕ) (earlier : List Block) (task : Task) (scale : ℕ) (line : Line) (y : List ℤ) →
    IsTask P d earlier task scale → IsTaskOf P line task →
    Refutes (declared_system P d earlier task scale line) y →
    NoneKeeps P d earlier task scale line

-- A row of a declared bound is never one that may be left out.
abbrev pub LineRowsAreNeeded : Type 0
LineRowsAreNeeded =
    (unknown numerator denominator scale : ℕ) → 0 < denominator → is_kept (at_most unknown numerator denominator scale) ≡ true

-- The rows speak of the system's unknowns alone.
abbrev pub DeclaredIsSystem : Type 0
DeclaredIsSystem =
    (P : Program) (d : ℕ) (earlier : List Block) (task : Task) (scale : ℕ) (line : Line) →
    IsTask P d earlier task scale → IsTaskOf P line task → IsSystem (system P d earlier task scale) →
    IsSystem (declared_system P d earlier task scale line)

-- What is read of the system decides: a solution keeps the line, and where a vector is read nothing does.
pub record ReadingDecides (P : Program) (c : Certificate) (place : ℕ) (task : Task)
    (line : Line) (pick : List ℤ → ℤ → Option ℕ) : Type 0 where
  pub kept : (t : ℕ) (x : List ℕ) → ReadsSolution (rule_by pick) (system_there P c place task line) t x →
      KeepsThere P c place task line (told P c.degree (before c place) task x) t
  pub not_kept : (y : List ℕ) → ReadsVector (rule_by pick) (system_there P c place task line) y → NoneKeepsThere P c place task line

abbrev pub ReadingsDecide : Type 0
ReadingsDecide =
    (P : Program) → IsOrdered P → (c : Certificate) → Held P c → (place : ℕ) (block : Block) →
    slice_get c.blocks place ≡ Some block → blocker_of P block.task (done_before c place) ≡ None →
    (line : Line) → IsTaskOf P line block.task → (pick : List ℤ → ℤ → Option ℕ) →
    ReadingDecides P c place block.task line pick

-- What keeps a line bounds the function: on all arguments, at every limit and after every number of instructions, what
-- is declared is at least what the function costs on the meter. It is told by the numbers over any one denominator that
-- are those of the line.
abbrev pub KeptIsBound : Type 0
KeptIsBound =
    (P : Prog) → Typed P → All (λ (g : Function). AllNodes NumberFits g.body) P →
    (groups : List (List ℕ)) (c : Certificate) → Held (normal_of P groups) c →
    (line : Line) → ArePositive line.bound →
    (place : ℕ) (block : Block) (t : ℕ) → block.task.kind ≡ k.With line.meter →
    KeepsThere (normal_of P groups) c place block.task line block t →
    (fun : Function) → slice_get P line.fun ≡ Some fun →
    (den : ℕ) → 0 < den → (q : ℕ → ℕ) → AreDeclared line.bound (size (types_of fun) c.degree) den q →
    Bounds P line.fun fun line.meter den (terms_at (types_of fun) c.degree q)

-- There are such numbers.
abbrev pub LinesHaveNumbers : Type 0
LinesHaveNumbers =
    (bound : List Coefficient) → ArePositive bound → (count : ℕ) → (den : ℕ) × (0 < den) × (q : ℕ → ℕ) × AreDeclared bound count den q

-- Of another block, whose annotation lies under the line at its scale, the same.
abbrev pub OthersUnderAreBounds : Type 0
OthersUnderAreBounds =
    (o : Over) → IsOver o → Typed (source_in o.program) → All (λ (g : Function). AllNodes NumberFits g.body) (source_in o.program) →
    norm_in o.program ≡ norm (source_in o.program) →
    (line : Line) → ArePositive line.bound → o.block.task.kind ≡ k.With line.meter →
    IsUnder (program_in o.program) o.degree line o.scale o.block →
    (fun : Function) → slice_get (source_in o.program) line.fun ≡ Some fun →
    (den : ℕ) → 0 < den → (q : ℕ → ℕ) → AreDeclared line.bound (size (types_of fun) o.degree) den q →
    Bounds (source_in o.program) line.fun fun line.meter den (terms_at (types_of fun) o.degree q)

-- A solution that is read of a line's system stands for a block that, over the certificate, is refused for a total
-- alone, where the scale times t fits.
abbrev pub ReadLeavesAlone : Type 0
ReadLeavesAlone =
    (P : Program) → IsOrdered P → (c : Certificate) → Held P c →
    (line : Line) (task : Task) → IsTaskOf P line task →
    (place : ℕ) (own : Block) → place_among task c.blocks ≡ Some place → slice_get c.blocks place ≡ Some own → own.task ≡ task →
    blocker_of P task (done_before c place) ≡ None → AreWithin P c task →
    (pick : List ℤ → ℤ → Option ℕ) (t : ℕ) (x : List ℕ) → ReadsSolution (rule_by pick) (system_there P c place task line) t x →
    let block = told P c.degree (before c place) task x in
    ScaleFits P c t block →
    (fault : Fault) → OtherFinds P c t block (Some fault) → IsTotal P c t block (sigs_of block.body) (hints_of block.body) fault

-- However far later groups raise the blocks of the line's meter and its scale, what is decided stays the same.
abbrev pub RaisedDecideAlike : Type 0
RaisedDecideAlike =
    (P : Program) (d : ℕ) (earlier : List Block) (task : Task) (scale : ℕ) (line : Line) (r : ℕ) → task.kind ≡ k.With line.meter → 0 < r →
    NoneKeeps P d earlier task scale line ↔ NoneKeeps P d (map (raised line.meter r) earlier) task (r * scale) line
