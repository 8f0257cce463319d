use Rattle.std.proofs.Common.{◌≡◌, ◌++◌, ◌∷◌, drop}
use Rattle.json.specs.Token as token
use Rattle.json.specs.Tree.{members_tokens}
use Rattle.explain_at.specs.Read.{all_given, texts}
use Rattle.explain_bounds.specs.Objects.{sizes_members, filled}
use Rattle.explain_bounds.proofs.behind.write_sizes.Given as goal

abbrev pub invariant-loop-name : goal.invariant-loop-name
invariant-loop-name l =
    (l.writer.tokens ++ members_tokens (sizes_members (filled (all_given l.given) (texts (drop l.name-index l.name-items)) l.number))
    ≡ l.fn.writer.tokens ++ token.begin_object ∷ members_tokens (sizes_members (filled (all_given l.given) (texts l.name-items) l.number)))
    × (l.writer.before ≡ l.fn.writer.before)
