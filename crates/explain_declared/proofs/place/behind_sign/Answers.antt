use Rattle.std.proofs.Common.{◌≡◌, ◌+◌, ◌-◌, ◌∷◌, ◌∙◌, ℕ, suc, false, cond, take, drop, codes, length, sym, ap, subst, arith}
use Rattle.std.specs.Prelude.{nat_eq, slice_index_or}
use Rattle.std.specs.List.{starts_with}
use Rattle.std.proofs.lemmas.List.{drop_more, take_all, length-drop}
use Rattle.explain_declared.specs.Places.{behind_sign_from}
use Rattle.explain_declared.proofs.place.behind_sign.Goals as goal

pub loop-at-preserved : goal.loop-at-preserved
loop-at-preserved c =
    let line = c.args.line.now in
    let at = c.loop-at.at in
    let rest = drop (at + 1) line in
    let first = slice_index_or line at 0 in
    let cut : drop at line ≡ first ∷ rest = drop_more line at 0 c.loop-at-test.true in
    let one : suc at ≡ at + 1 = omega arith in
    let whole : take (length line - at) (drop at line) ≡ drop at line = take_all (length line - at) (drop at line) (omega (arith, length-drop at line)) in
    let no : starts_with nat_eq (take (length line - at) (drop at line)) (codes "<= ") ≡ false = sym c.starts_with.ensures.value ∙ c.if-starts_with.false in
    let none : starts_with nat_eq (first ∷ rest) (codes "<= ") ≡ false = subst (λ text. starts_with nat_eq text (codes "<= ") ≡ false) (whole ∙ cut) no in
    ap (λ n. behind_sign_from n rest) (sym one) ∙ ap (λ b. cond b (at + 3) (behind_sign_from (suc at) rest)) (sym none) ∙ ap (behind_sign_from at) (sym cut) ∙ c.loop-at.invariant
