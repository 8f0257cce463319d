use Rattle.std.proofs.Common.{◌≡◌, ◌++◌, Bool, true, false, [], refl, sym, ap, ◌∙◌, map, codes, string_bytes}
use Rattle.std.proofs.lemmas.List.{append-nil, drop_all}
use Rattle.raml_syntax.specs.Tree.{Text}
use Rattle.explain_algebra.specs.Steps.{marked}
use Rattle.explain_verdicts.specs.Reads.{fraction_text}
use Rattle.explain_verdicts.proofs.declared.in_file.Goals as goal

none_marked : (is_first : Bool) (mark : Text) → marked is_first mark [] ≡ []
none_marked true mark = refl
none_marked false mark = refl

pub returns : goal.returns
returns c =
    let bytes = string_bytes c.loop-fraction.text in
    let first = c.loop-fraction.is_first in
    let none = drop_all c.loop-fraction.fraction-index c.args.fractions.now c.loop-fraction-test.false in
    sym (append-nil bytes) ∙ ap (λ t. bytes ++ t) (sym (none_marked first (codes " + ")))
    ∙ ap (λ fs. bytes ++ marked first (codes " + ") (map fraction_text fs)) (sym none) ∙ c.loop-fraction.invariant
