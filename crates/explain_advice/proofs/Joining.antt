-- What is added of one group after another.
use Rattle.std.proofs.Common.{◌≡◌, refl, subst, ap, ◌∙◌, ◌≤◌, ◌-◌, List, [], ◌∷◌, ◌++◌, length, take, drop, slice_index_or, arith}
use Rattle.std.proofs.lemmas.List.{append_assoc, take_all}
use Rattle.raml_syntax.specs.Tree.{Text, Prog}
use Rattle.lsp_language.specs.declared.insight.Insight.{Insight}
use Rattle.explain_degrees.specs.declared.finding.Findings.{Findings}
use Rattle.explain_reasons.specs.declared.reason.Explained.{Explained}
use Rattle.explain_advice.specs.Advice.{IsAdvised, IsGroupAdded}
use Rattle.explain_advice.specs.Information.{informations_in, of_group, of_groups}

module _ (source : Text) (P : Prog) (found : List Findings) where
  joined : (e : Explained) (es : List Explained) (old mid new : Insight) → IsGroupAdded source P found e old mid → IsAdvised source P found es mid new →
      IsAdvised source P found (e ∷ es) old new
  joined e es old mid new one others = record {
    offered = one.offered ++ others.offered;
    are = (one.offered, others.offered, one.are, others.are, refl);
    diagnostics = others.diagnostics ∙ ap (λ told. told ++ of_groups P found es) one.diagnostics
        ∙ append_assoc (informations_in old.diagnostics.items) (of_group P found e) (of_groups P found es);
    actions = others.actions ∙ ap (λ actions. actions ++ others.offered) one.actions ∙ append_assoc old.actions.items one.offered others.offered;
    hovers = others.hovers ∙ one.hovers;
    lenses = others.lenses ∙ one.lenses;
    hints = others.hints ∙ one.hints;
  }

  -- of the first of these groups, and of the others
  pub advised_next : (reasons : List Explained) (e : Explained) (old mid new : Insight) → 1 ≤ length reasons → e ≡ slice_index_or reasons 0 e →
      IsGroupAdded source P found e old mid → IsAdvised source P found (take (length reasons - 1) (drop 1 reasons)) mid new →
      IsAdvised source P found reasons old new
  advised_next [] e old mid new some is one others = absurd (omega (arith, some))
  advised_next (x ∷ xs) e old mid new some is one others = joined x xs old mid new
      (subst (λ e. IsGroupAdded source P found e old mid) is one)
      (subst (λ es. IsAdvised source P found es mid new) (take_all (length (x ∷ xs) - 1) xs (omega arith)) others)
