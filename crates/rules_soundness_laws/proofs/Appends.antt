-- The bounds of the worked program are lines of its certificate.
use Rattle.std.proofs.Common.{◌≡◌, ⊎_elim, inl, inr, ℕ, pos, [], ◌∷◌, refl, arith}
use Rattle.std.specs.List.{All, Contains}
use Rattle.std.proofs.lemmas.List.Elements.{All-nil, All-cons}
use Rattle.raml_syntax.specs.Tree.{Text, Integer, Function}
use Rattle.raml_syntax.specs.Eval.{names_of}
use Rattle.raml_syntax.specs.Types.{Differ, bind_types, Checks, Typed}
use Rattle.raml_syntax.specs.Node.{AllNodes, NumberFits}
use Rattle.base_poly.proofs.Among.{contains_among, among_contains}
use Rattle.base_poly.specs.Plain.{Unit', End, Then}
use Rattle.cost_free.specs.declared.task.Meter.TheVariants.{Ticks, Cells}
use Rattle.annot_types.specs.Example.{append, program, append_with}
use Rattle.annot_types.specs.Held.{Bound, line, lines}
use Rattle.annot_types.proofs.Appended.{append_held}
use Rattle.rules_soundness_laws.specs.Example.{appends, Examples}
use Rattle.rules_soundness_laws.proofs.Lines.{lines_are_true}

none_there : (x : Text) → Contains [] x → ⊥
none_there x h = contains_among x [] h

two_differ : (a b : ℕ) → (b ≡ a → ⊥) → Differ ((a ∷ []) ∷ (b ∷ []) ∷ [])
two_differ a b apart = (
  λ h. ⊎_elim (λ e. apart (head e)) (λ none. none) (contains_among (a ∷ []) ((b ∷ []) ∷ []) h),
  (none_there (b ∷ []), tt),
)
  where
    head : (b ∷ []) ≡ (a ∷ []) → b ≡ a
    head e = cc

typed : Typed (appends ∷ [])
typed = record {
  functions = (none_there (102 ∷ []), tt);
  parameters = All-cons (λ g. Differ (names_of g)) appends [] (two_differ 120 121 (λ e. omega (arith, e))) (All-nil (λ g. Differ (names_of g)));
  bodies = All-cons (λ (g : Function). Checks (appends ∷ []) (bind_types [] g.params) g.body g.result) appends []
      (Integer, two_differ 104 116 (λ e. omega (arith, e)), refl, refl, (Integer, refl, refl, (appends, refl, refl, (refl, (refl, tt)))))
      (All-nil (λ (g : Function). Checks (appends ∷ []) (bind_types [] g.params) g.body g.result));
}

numbers : All (λ (g : Function). AllNodes NumberFits g.body) (appends ∷ [])
numbers =
    All-cons (λ (g : Function). AllNodes NumberFits g.body) appends [] (tt, tt, tt, (tt, tt, (tt, (tt, (tt, tt))))) (All-nil (λ (g : Function). AllNodes NumberFits g.body))

pub examples_hold : Examples
examples_hold =
    let c = append_with ((2, pos 1) ∷ []) in
    let cells = line 0 Cells (Bound 1 ((Then Unit' End ∷ End ∷ [], 1) ∷ [])) in
    let ticks = line 0 Ticks (Bound 1 []) in
    let holds = lines_are_true (appends ∷ []) typed numbers ((0 ∷ []) ∷ []) c append_held in
    record {
      cells = holds cells (among_contains cells (lines (program append) c) (inr (inl refl))) appends refl;
      ticks = holds ticks (among_contains ticks (lines (program append) c) (inl refl)) appends refl;
    }
