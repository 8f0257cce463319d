-- A declared bound that is kept is a bound; and the line that is read.
use Rattle.std.proofs.Common.{◌≡◌, ◌<◌, ap, sym, ◌∙◌, subst}
use Rattle.std.specs.Prelude.{ℕ, List, [], ◌∷◌, length, slice_get, slice_index_or, Some}
use Rattle.std.specs.List.{All}
use Rattle.std.specs.Option.{option_map}
use Rattle.std.proofs.lemmas.Option.{same_Some, slice_get-map, slice_get-get_or}
use Rattle.raml_syntax.specs.Tree.{Function}
use Rattle.raml_syntax.specs.Types.{Typed, types_of}
use Rattle.raml_syntax.specs.Node.{AllNodes, NumberFits}
use Rattle.normal_spec.specs.Norm.{NormProg}
use Rattle.normal_spec.specs.Two.{norm}
use Rattle.share_normal.specs.Program.{source_in, norm_in}
use Rattle.cost_free.specs.Task as k
use Rattle.cost_free.specs.Task.{Task}
use Rattle.annot_types.specs.Program.{Program}
use Rattle.annot_types.specs.Certificate.{Block, Certificate}
use Rattle.annot_types.specs.Held.{Held}
use Rattle.annot_types.specs.Rows.{size}
use Rattle.rules_soundness_laws.specs.Bounds.{Bounds}
use Rattle.rules_soundness_laws.specs.Laws.{normal_of}
use Rattle.rules_plan.specs.Read.{program_in}
use Rattle.cert_check.specs.Checked.{Checking}
use Rattle.other_blocks.specs.Over.{Over}
use Rattle.bound_file.specs.Lines.{Coefficient, Line, Declaration, ArePositive, AreInRange}
use Rattle.bound_file.specs.Read.{line_of, lines_of}
use Rattle.bound_file.specs.declared.declaration.DeclLine.{DeclLine}
use Rattle.bound_contract.specs.Under.{AreDeclared, terms_at}
use Rattle.bound_contract.specs.Kept.{KeepsThere}
use Rattle.bound_contract.specs.Decided.{Decided, Kept, NotKept, Calls, IsOwn, IsKept}
use Rattle.bound_contract.specs.Laws.{KeptIsBound}
use Rattle.bound_contract.specs.Asked.{OfLine, Decides, IsBound, BoundsWhereKept}
use Rattle.bound_contract.proofs.Owned.{own_is_of}

-- numbers in range are positive
pub denominators_positive : (cs : List Coefficient) → AreInRange cs → ArePositive cs
denominators_positive [] h = tt
denominators_positive (c ∷ cs) h = (h.2, denominators_positive cs h.4)

-- the line of a number
pub line_there : (d : Declaration) (xs : List DeclLine) → lines_of xs ≡ d.lines → (n : ℕ) (asked : DeclLine) → n < length xs → asked ≡ slice_index_or xs n asked →
    slice_get d.lines n ≡ Some (line_of asked)
line_there d xs are n asked low is =
    ap (λ ls. slice_get ls n) (sym are) ∙ slice_get-map line_of xs n ∙ ap (option_map line_of) (slice_get-get_or xs n asked low) ∙ ap (λ x. Some (line_of x)) (sym is)

-- what is so of it is so of the line of that number
pub of_line : (d : Declaration) (n : ℕ) (line : Line) → slice_get d.lines n ≡ Some line → (claim : Line → Type 0) → claim line → OfLine d n claim
of_line d n line there claim h other at = subst claim (same_Some line other (sym there ∙ at)) h

module _ (law : KeptIsBound) (checking : Checking) (typed : Typed (source_in checking.program))
    (numbers : All (λ (g : Function). AllNodes NumberFits g.body) (source_in checking.program))
    (normal : norm_in checking.program ≡ norm (source_in checking.program)) (held : Held (program_in checking.program) checking.certificate)
    (line : Line) (positive : ArePositive line.bound) (place : ℕ) (own : Block) (is : IsOwn (program_in checking.program) checking.certificate line place own)
    (degree : ℕ) (same : degree ≡ checking.certificate.degree) where
  abbrev P : Program
  P = program_in checking.program

  abbrev c : Certificate
  c = checking.certificate

  whole : P ≡ normal_of (source_in checking.program) P.groups
  whole = ap (λ (N : NormProg). record { funs = N; groups = P.groups }) normal

  kept_bound : (o : Over) → IsKept checking.program c line place own o → IsBound checking line degree
  kept_bound o kept fun at den some q declared =
      let kind : o.block.task.kind ≡ k.With line.meter = ap (λ (u : Task). u.kind) kept.task_is ∙ (own_is_of P c line place own is).kind in
      let keeps = subst (λ (u : Task). KeepsThere P c place u line o.block kept.t) (sym kept.task_is) kept.keeps in
      subst (λ d. Bounds (source_in checking.program) line.fun fun line.meter den (terms_at (types_of fun) d q)) (sym same)
      (law (source_in checking.program) typed numbers P.groups c (subst (λ N. Held N c) whole held) line positive place o.block kept.t kind
      (subst (λ N. KeepsThere N c place o.block.task line o.block kept.t) whole keeps) fun at den some q
      (subst (λ d. AreDeclared line.bound (size (types_of fun) d) den q) same declared))

  pub bounds_here : (decided : Decided) → Decides checking line decided → BoundsWhereKept checking line degree decided
  bounds_here (Kept o) d = kept_bound o (d place own is)
  bounds_here (NotKept y) d = tt
  bounds_here (Calls f) d = tt
