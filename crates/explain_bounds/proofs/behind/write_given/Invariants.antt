use Rattle.std.proofs.Common.{◌≡◌, ◌++◌, ◌∷◌, drop, codes}
use Rattle.json.specs.Token as token
use Rattle.json.specs.Tree.{members_tokens}
use Rattle.explain_at.specs.Read.{all_given}
use Rattle.explain_bounds.specs.Objects.{sizes_members}
use Rattle.explain_bounds.proofs.behind.write_given.Given as goal

abbrev pub invariant-loop-one : goal.invariant-loop-one
invariant-loop-one l =
    (l.writer.tokens ++ members_tokens (sizes_members (all_given (drop l.one-index l.given)))
    ≡ l.fn.writer.tokens ++ token.key (codes "at") ∷ token.begin_object ∷ members_tokens (sizes_members (all_given l.given)))
    × (l.writer.before ≡ l.fn.writer.before)
