-- What is told of the analyses of a program.
use Rattle.std.proofs.Common.{◌≡◌, refl, ap, subst, ℕ, List, [], ◌∷◌}
use Rattle.raml_syntax.specs.Tree.{Text, Prog}
use Rattle.raml_syntax.specs.Read.{program_of}
use Rattle.raml_syntax.specs.declared.program.Program.{Program as Source}
use Rattle.call_groups.specs.Groups.{IsGrouping}
use Rattle.annot_types.specs.Program.{Program}
use Rattle.share_normal.specs.Program.{Kept, source_in}
use Rattle.rules_plan.specs.Read.{program_in}
use Rattle.rules_soundness_laws.specs.Laws.{normal_of}
use Rattle.cost_free.specs.declared.task.Meter.TheVariants.{Ticks}
use Rattle.refusals.specs.Refusals.{names_in}
use Rattle.explain_degrees.specs.Degrees.{AreFindings, AreLeast, Between, IsFinding, IsRefused}
use Rattle.explain_degrees.specs.declared.finding.Findings.{Findings}
use Rattle.explain_degrees.specs.declared.least.LeastBounds.{LeastBounds}
use Rattle.explain_calls.specs.Told.{Showing, AreParts, notes}
use Rattle.explain_calls.specs.Calls.{Analysed, BoundsAreTold, NoneIsAnalysed, TicksAreRefused, names_for}

pub first_refused : (P : Prog) (N : Program) (most : ℕ) (all : List Findings) → AreFindings P N most all → TicksAreRefused all → Between 0 most (IsRefused N)
first_refused P N most [] found refused = absurd refused
first_refused P N most (findings ∷ more) found refused = subst (IsFinding P N most 0 Ticks) refused (found 0 findings Ticks refl)

module _ (kept : Kept) (typed : Source) (source : kept.source ≡ typed) (grouping : IsGrouping (program_of typed) kept.groups)
    (normal : program_in kept ≡ normal_of (program_of typed) kept.groups.list) (most : ℕ) (found : LeastBounds)
    (least : AreLeast (source_in kept) (program_in kept) most found) where
  abbrev pub analysed : Analysed (program_of typed) most
  analysed = record {
    groups = kept.groups;
    grouping = grouping;
    found = found;
    least = subst (λ (N : Program). AreLeast (program_of typed) N most found) normal (subst (λ (s : Source). AreLeast (program_of s) (program_in kept) most found) source least);
  }

  pub noted : notes (names_in kept) found.refused.items ≡ notes (names_for (program_of typed) kept.groups) found.refused.items
  noted = ap (λ (s : Source). notes (record { program = program_of s; groups = kept.groups.list }) found.refused.items) source

  pub none_told : TicksAreRefused found.functions.items → NoneIsAnalysed (program_of typed) most (notes (names_in kept) found.refused.items)
  none_told refused = record {
    analysed = analysed;
    all = first_refused (program_of typed) (normal_of (program_of typed) kept.groups.list) most found.functions.items analysed.least.functions refused;
    refused = noted;
  }

  pub bounds_told : (showing : Showing) (text : Text) → AreParts (source_in kept) showing (source_in kept) found.functions.items text →
      BoundsAreTold (program_of typed) most showing text (notes (names_in kept) found.refused.items)
  bounds_told showing text parts = record {
    analysed = analysed;
    bounds = subst (λ (s : Source). AreParts (program_of s) showing (program_of s) found.functions.items text) source parts;
    refused = noted;
  }
