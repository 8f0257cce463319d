-- The code's program is the normal form of its source.
use Rattle.std.proofs.Common.{◌≡◌, ap, ◌∙◌}
use Rattle.raml_syntax.specs.Read.{program_of}
use Rattle.raml_syntax.specs.declared.program.Program.{Program}
use Rattle.normal_spec.specs.Norm.{NormProg}
use Rattle.normal_spec.specs.Two.{norm}
use Rattle.share_normal.specs.Program.{Kept, source_in, norm_in}
use Rattle.rules_plan.specs.Read.{program_in}
use Rattle.rules_soundness_laws.specs.Laws.{normal_of}

-- with its groups
pub normal_is : (kept : Kept) → norm_in kept ≡ norm (source_in kept) → program_in kept ≡ normal_of (source_in kept) kept.groups.list
normal_is kept same = ap (λ (funs : NormProg). record { funs = funs; groups = kept.groups.list }) same

-- and of the program that it was typed from
pub kept_normal : (kept : Kept) (typed : Program) → kept.source ≡ typed → norm_in kept ≡ norm (source_in kept) →
    program_in kept ≡ normal_of (program_of typed) kept.groups.list
kept_normal kept typed source same = normal_is kept same ∙ ap (λ s. normal_of (program_of s) kept.groups.list) source
