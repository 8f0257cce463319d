-- Texts of groups, one behind the other.
use Rattle.std.proofs.Common.{◌≡◌, refl, subst, ap, ◌∙◌, ◌≤◌, ◌-◌, List, [], ◌∷◌, ◌++◌, length, take, drop, slice_index_or, arith}
use Rattle.std.proofs.lemmas.List.{append_assoc, take_all}
use Rattle.raml_syntax.specs.Tree.{Text, Prog}
use Rattle.explain_degrees.specs.declared.finding.Findings.{Findings}
use Rattle.explain_reasons.specs.declared.reason.Explained.{Explained}
use Rattle.std.specs.Prelude.{Bool}
use Rattle.explain_why.specs.Why.{IsGroupIf, AreGroups}

pub groups_next : (test : Explained → Bool) (name source : Text) (P : Prog) (found : List Findings) (reasons : List Explained) (e : Explained) (first others : Text) →
    1 ≤ length reasons → e ≡ slice_index_or reasons 0 e → IsGroupIf (test e) name source P found e first →
    AreGroups test name source P found (take (length reasons - 1) (drop 1 reasons)) others → AreGroups test name source P found reasons (first ++ others)
groups_next test name source P found [] e first others some is here are = absurd (omega (arith, some))
groups_next test name source P found (x ∷ xs) e first others some is here are = (
  first,
  others,
  subst (λ e. IsGroupIf (test e) name source P found e first) is here,
  subst (λ es. AreGroups test name source P found es others) (take_all (length (x ∷ xs) - 1) xs (omega arith)) are,
  refl,
)

-- one text behind another one
pub behind : (old mid new first others : Text) → mid ≡ old ++ first → new ≡ mid ++ others → new ≡ old ++ (first ++ others)
behind old mid new first others added more = more ∙ ap (λ t. t ++ others) added ∙ append_assoc old first others
