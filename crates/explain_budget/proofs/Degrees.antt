-- Degrees that are tried, one after the other.
use Rattle.std.proofs.Common.{◌≡◌, ◌<◌, ◌-◌, ◌++◌, ◌∙◌, ℕ, zero, suc, Bool, true, false, [], None, refl, sym, ap, subst, inl, inr, arith}
use Rattle.std.proofs.lemmas.List.{append-nil, append_assoc}
use Rattle.raml_syntax.specs.Tree.{Text, Prog}
use Rattle.annot_types.specs.Program.{Program}
use Rattle.refusals.specs.Line.{Names}
use Rattle.explain_budget.specs.Degrees.{Asking, EndsAt, IsDecidedAt, TellsAt, TellsFrom, lower}
use Rattle.explain_budget.specs.Written.{end_of}
use Rattle.explain_budget.specs.declared.end.BudgetEnd.{BudgetEnd}
use Rattle.explain_budget.specs.declared.end.BudgetEnd.TheVariants.{NotAnalysed}

module _ (P : Prog) (N : Program) (names : Names) (asking : Asking) (first tries : ℕ) where
  abbrev Tells : ℕ → ℕ → BudgetEnd → Text → Text → Type 0
  Tells = TellsFrom P N names asking first

  -- the degrees before are refused, and that is told, whatever is told of those that are left
  abbrev pub AreRefused : ℕ → ℕ → Text → Type 0
  AreRefused left degree part = (end : BudgetEnd) (text rest : Text) → Tells left degree end text rest → Tells tries first end text (part ++ rest)

  pub none_yet : AreRefused tries first []
  none_yet end text rest told = told

  pub one_more : (left degree : ℕ) (part own : Text) → 0 < left → TellsAt P N names asking degree None [] own → AreRefused left degree part → AreRefused (left - 1) (degree - 1) (part ++ own)
  one_more zero degree part own some at before end text rest told = absurd (omega (arith, some))
  one_more (suc left) degree part own some at before end text rest told =
      let same : suc left - 1 ≡ left = omega arith in
      subst (Tells tries first end text) (sym (append_assoc part own rest))
      (before end text (own ++ rest) (inr (own, rest, at, subst (λ n. Tells n (degree - 1) end text rest) same told, refl)))

  pub ends : (left degree : ℕ) (part own : Text) (end : BudgetEnd) (text : Text) → 0 < left → EndsAt P N names asking degree end text own → AreRefused left degree part →
      Tells tries first end text (part ++ (own ++ lower first degree end))
  ends zero degree part own end text some at before = absurd (omega (arith, some))
  ends (suc left) degree part own end text some at before = before end text (own ++ lower first degree end) (inl (own, at, refl))

  pub all_refused : (left degree : ℕ) (part : Text) → left ≡ 0 → AreRefused left degree part → Tells tries first NotAnalysed [] part
  all_refused left degree part is before =
      subst (Tells tries first NotAnalysed []) (append-nil part)
      (before NotAnalysed [] [] (subst (λ n. Tells n degree NotAnalysed [] []) (sym is) (refl, refl, refl)))

-- three parts appended, one after the other
pub three_appended : (new mid read old part own low : Text) → new ≡ mid ++ low → mid ≡ read ++ own → read ≡ old ++ part → new ≡ old ++ (part ++ (own ++ low))
three_appended new mid read old part own low last then first =
    last ∙ ap (λ t. t ++ low) (then ∙ ap (λ t. t ++ own) first) ∙ append_assoc (old ++ part) own low ∙ append_assoc old part (own ++ low)

-- lines that are decided and told end as they are kept
pub decided : (P : Prog) (N : Program) (names : Names) (asking : Asking) (d : ℕ) (kept : Bool) (end : BudgetEnd) (text : Text) → end ≡ end_of kept → IsDecidedAt P N names asking d kept text →
    EndsAt P N names asking d end text []
decided P N names asking d true end text e is = subst (λ end. EndsAt P N names asking d end text []) (sym e) (is, refl)
decided P N names asking d false end text e is = subst (λ end. EndsAt P N names asking d end text []) (sym e) (is, refl)
