-- The tokens of an object are those of its parts.
use Rattle.std.proofs.Common.{◌≡◌, ◌++◌, ◌∙◌, ℕ, List, [], ◌∷◌, Option, refl, sym, ap, codes}
use Rattle.std.proofs.lemmas.List.{append_assoc}
use Rattle.raml_syntax.specs.Tree.{Function, Prog}
use Rattle.raml_syntax.specs.Types.{types_of}
use Rattle.bound_file.specs.Lines.{Line}
use Rattle.json.specs.Json.{Members}
use Rattle.json.specs.Token.{begin_object, end_object, key}
use Rattle.json.specs.Tree.{json_tokens, members_tokens}
use Rattle.explain_verdicts.specs.Fractions.{fractions_of}
use Rattle.explain_verdicts.specs.Json.{fractions_json, found_json, calls_member, bounds_members, verdict_json}
use Rattle.explain_verdicts.specs.Reads.{Bound}
use Rattle.explain_verdicts.specs.Tokens.{head_tokens, bounds_tokens, calls_tokens}
use Rattle.explain_verdicts.specs.declared.fraction.Fraction.{Fraction}
use Rattle.explain_verdicts.specs.declared.judged.Verdict.{Verdict}
use Rattle.explain_verdicts.specs.declared.judged.Verdict.TheVariants as v

calls_end : (P : Prog) (verdict : Verdict) → members_tokens (calls_member P verdict) ≡ calls_tokens P verdict ++ end_object ∷ []
calls_end P v.Kept = refl
calls_end P v.NotKept = refl
calls_end P (v.Calls callee) = refl

bounds_end : (fs : List Fraction) (found : Option Bound) (more : Members) → members_tokens (bounds_members fs found more) ≡ bounds_tokens fs found ++ members_tokens more
bounds_end fs found more = ap (λ ts. key (codes "declared") ∷ ts) (sym (append_assoc (json_tokens (fractions_json fs)) (key (codes "found") ∷ json_tokens (found_json found)) (members_tokens more)))

pub object_tokens : (P : Prog) (g : Function) (d : ℕ) (line : Line) (verdict : Verdict) (found : Option Bound) →
    begin_object ∷ (head_tokens g.name line.meter d verdict ++ (bounds_tokens (fractions_of (types_of g) d line.bound) found ++ (calls_tokens P verdict ++ end_object ∷ [])))
    ≡ json_tokens (verdict_json P g d line verdict found)
object_tokens P g d line verdict found =
    let fs = fractions_of (types_of g) d line.bound in
    ap (λ ts. begin_object ∷ (head_tokens g.name line.meter d verdict ++ ts))
    (sym (bounds_end fs found (calls_member P verdict) ∙ ap (λ ts. bounds_tokens fs found ++ ts) (calls_end P verdict)))
