-- What agreement on made arguments tells.
use Rattle.std.proofs.Common.{◌≡◌, ℕ, List, length, Bool, true, false, Result, Ok, Err, IfOk, Some}
use Rattle.std.specs.Prelude.{MatchBool, slice_get}
use Rattle.std.specs.List.{All}
use Rattle.raml_syntax.specs.Tree.{Text, Function, Prog}
use Rattle.raml_syntax.specs.Types.{types_of}
use Rattle.explain_made.specs.Made.{AreArguments}
use Rattle.explain_runs.specs.Agree.{AgreeOnAll, DifferOnSome}
use Rattle.explain_kept.specs.Kept.{run_limits, KeepsValue}

pub value_kept : {E : Type 0} (r : Result Bool E) (P Q : Prog) (f : ℕ) (g : Function) (texts : List Text) → slice_get P f ≡ Some g → length texts ≡ 51 →
    All (AreArguments (types_of g)) texts → IfOk r (λ same. MatchBool same (AgreeOnAll P Q f run_limits texts) (DifferOnSome P Q f run_limits texts)) →
    IfOk r (λ kept. kept ≡ true → KeepsValue P Q f)
value_kept (Ok true) P Q f g texts there count made agree = λ e. record { function = g; there = there; texts = texts; count = count; made = made; agree = agree }
value_kept (Ok false) P Q f g texts there count made agree = λ e. absurd (cc)
value_kept (Err e) P Q f g texts there count made agree = tt
