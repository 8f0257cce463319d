-- Groups that are explained, one after the other.
use Rattle.std.proofs.Common.{◌≡◌, sym, ap, ◌∙◌, ◌<◌, ◌+◌, ℕ, List, [], ◌∷◌, ◌++◌, length, drop, subst, Some}
use Rattle.std.specs.Prelude.{Bool}
use Rattle.std.specs.List.{filter}
use Rattle.std.proofs.lemmas.List.{append_assoc, append-nil}
use Rattle.std.proofs.lemmas.List.Elements.{filter-append}
use Rattle.std.specs.Global.{Vec}
use Rattle.raml_syntax.specs.declared.program.FunId.{FunId}
use Rattle.raml_syntax.specs.Tree.{Text, Prog}
use Rattle.call_groups.specs.Read.{ids_of, lists_of}
use Rattle.explain_degrees.specs.declared.finding.Findings.{Findings}
use Rattle.explain_lines.specs.Lines.{first_lacking}
use Rattle.explain_reasons.specs.Reasons.{IsReason, IsExplained, group_in}
use Rattle.explain_reasons.specs.declared.reason.Explained.{Explained}

-- the groups before these are done, and these are left
abbrev pub AreDone : (List ℕ → Bool) → List (List ℕ) → List (Vec FunId) → List (Vec FunId) → Type 0
AreDone test done left all = done ++ filter test (lists_of left) ≡ filter test (lists_of all)

pub one_done : (test : List ℕ → Bool) (done more : List (List ℕ)) (all : List (Vec FunId)) (k : ℕ) (group : Vec FunId) → k < length all →
    drop k all ≡ group ∷ drop (k + 1) all → more ≡ done ++ filter test (ids_of group.items ∷ []) → AreDone test done (drop k all) all → AreDone test more (drop (k + 1) all) all
one_done test done more all k group within next adds so_far =
    let here = ap lists_of next in
    let step = ap (λ gs. done ++ filter test gs) here in
    let cut = filter-append test (ids_of group.items ∷ []) (lists_of (drop (k + 1) all)) in
    ap (λ ds. ds ++ filter test (lists_of (drop (k + 1) all))) adds ∙ append_assoc done (filter test (ids_of group.items ∷ [])) (filter test (lists_of (drop (k + 1) all)))
    ∙ ap (λ gs. done ++ gs) (sym cut) ∙ sym step ∙ so_far

pub all_done : (test : List ℕ → Bool) (done : List (List ℕ)) (left all : List (Vec FunId)) → left ≡ [] → AreDone test done left all → done ≡ filter test (lists_of all)
all_done test done left all none so_far = sym (append-nil done) ∙ ap (λ gs. done ++ filter test (lists_of gs)) (sym none) ∙ so_far

-- the first function of a group that lacks a bound, and why
pub is_explained : (source : Text) (P : Prog) (found : List Findings) (most : ℕ) (group : List ℕ) (e : Explained) → group_in e ≡ group →
    Some e.fun.0 ≡ first_lacking found group → IsReason source P found most group e.reason → IsExplained source P found most e
is_explained source P found most group e same first reason =
    record { function = ap (first_lacking found) same ∙ sym first; reason = subst (λ funs. IsReason source P found most funs e.reason) (sym same) reason }
