use Rattle.std.proofs.Common.{◌≡◌, ◌≤◌, length, drop}
use Rattle.std.specs.Borrow.{Bor}
use Rattle.std.specs.Str.{bytes_eq}
use Rattle.indexmap.specs.IndexMap.{get_by}
use Rattle.raml_syntax.specs.Tree.{Text}
use Rattle.raml_syntax.proofs.FromLast.{place_from}
use Rattle.raml_syntax.proofs.function_names.FunctionNames.new.Given as goal

abbrev pub invariant-loop-place : goal.invariant-loop-place
invariant-loop-place l =
    (l.place ≤ length l.program.funs.items)
    × ((f : Text) → get_by (λ (k : Bor Text). bytes_eq f k.now) l.places ≡ place_from f l.place (drop l.place l.program.funs.items))

abbrev pub decreases-loop-place : goal.decreases-loop-place
decreases-loop-place l = l.place
