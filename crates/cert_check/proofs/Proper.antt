-- The normal form of a typed program, with its groups, is proper.
use Rattle.std.proofs.Common.{◌≡◌, refl, sym, subst}
use Rattle.std.specs.Prelude.{ℕ, slice_get, Some}
use Rattle.std.specs.List.{All}
use Rattle.raml_syntax.specs.Tree.{Function}
use Rattle.raml_syntax.specs.Types.{Typed}
use Rattle.raml_syntax.specs.Node.{AllNodes, NumberFits}
use Rattle.normal_spec.specs.Norm.{NormFun}
use Rattle.normal_spec.specs.Two.{norm, norm_fun}
use Rattle.normal_spec.specs.Uses.{Uses}
use Rattle.normal_spec.proofs.Keep.{normal_forms_keep}
use Rattle.call_groups.specs.Groups.{IsGrouping}
use Rattle.share_normal.specs.Program.{Kept, source_in, norm_in}
use Rattle.annot_types.specs.Program.{members}
use Rattle.annot_types.proofs.Lists.{map_inv}
use Rattle.rules_soundness_laws.specs.Laws.{normal_of}
use Rattle.rules_plan.specs.Read.{program_in}
use Rattle.cert_check.specs.Laws.{IsProper, NormalsAreProper}
use Rattle.cert_check.proofs.Grouped.{are_there, functions_are}

pub normals_are_proper : NormalsAreProper
normals_are_proper P typed numbers groups grouping = record {
  uses = λ f g e. uses f g e;
  there = λ group. are_there (normal_of P groups.list) (members (normal_of P groups.list) group) (functions_are P (norm P) groups.list refl grouping.in_order group);
} where
  uses : (f : ℕ) (g : NormFun) → slice_get (norm P) f ≡ Some g → Uses (norm P) g.params g.body g.result
  uses f g e =
      let source = map_inv (norm_fun P) P f g e in
      subst (λ (g : NormFun). Uses (norm P) g.params g.body g.result) source.2 (normal_forms_keep P typed numbers f source.0 source.1).normal.body

-- so is a program that is kept with its normal form
pub kept_is_proper : (kept : Kept) → Typed (source_in kept) → All (λ (g : Function). AllNodes NumberFits g.body) (source_in kept) →
    norm_in kept ≡ norm (source_in kept) → IsGrouping (source_in kept) kept.groups → IsProper (program_in kept)
kept_is_proper kept typed numbers e grouping =
    subst (λ N. IsProper (record { funs = N; groups = kept.groups.list })) (sym e) (normals_are_proper (source_in kept) typed numbers kept.groups grouping)
