use Rattle.std.proofs.Common.{subst, sym}
use Rattle.std.specs.List.{All}
use Rattle.normal_spec.specs.Norm.{NormProg}
use Rattle.normal_spec.specs.Uses.{IsNormal}
use Rattle.normal_spec.proofs.Keep.{normal_forms_keep}
use Rattle.share_normal.specs.Program.{Kept, NormalForms, norm_in, source_in}
use Rattle.share_normal.proofs.NormalParts.{all_normal}
use Rattle.share_normal.proofs.norm_program.NormProgram.functions.Goals as goal

pub returns-clause-forms : goal.returns-clause-forms
returns-clause-forms c = subst (λ (v : Kept). NormalForms (source_in v)) c.self.view_is (normal_forms_keep _ c.self.invariant.typed c.self.invariant.numbers)

pub returns-clause-normal : goal.returns-clause-normal
returns-clause-normal c =
    let normal = subst (λ (N : NormProg). All (IsNormal N) N) (sym c.self.invariant.norm) (all_normal _ c.self.invariant.typed c.self.invariant.numbers) in
    subst (λ (v : Kept). All (IsNormal (norm_in v)) (norm_in v)) c.self.view_is normal
