-- The signatures that a walk finds are those of the rules.
use Rattle.std.proofs.Common.{◌≡◌, refl, ap, sym, ◌∙◌, arith, subst}
use Rattle.std.specs.Prelude.{ℕ, zero, suc, ◌<◌, Bool, true, false, cond, nat_eq, List, [], ◌∷◌, length, slice_get, slice_index_or, Option, None, Some, option_map}
use Rattle.std.proofs.lemmas.Bool.Decides.{nat_tests}
use Rattle.std.proofs.lemmas.Option.{same_Some}
use Rattle.index_shift.specs.Potential.{Annotation}
use Rattle.normal_spec.specs.Norm.{NormFun}
use Rattle.normal_spec.specs.Context.{types}
use Rattle.annot_types.specs.Certificate as cert
use Rattle.annot_types.specs.Certificate.{Entries, annotation, Annotates}
use Rattle.annot_types.specs.Signature.{sig_among, sig_in, free_budget, cost_sig}
use Rattle.annot_types.specs.Rows.{size as size_of}
use Rattle.annot_types.specs.Rules.{Setting}
use Rattle.rules_spec.specs.Numbers.{Signature}
use Rattle.rules_spec.specs.Kinds.{amounts}
use Rattle.rules_spec.specs.Walk.{at}
use Rattle.rules_spec.specs.Planned.{place_in}
use Rattle.rules_spec.specs.Stand.{Stands, Numbered, SidesStand, SidesNumbered}
use Rattle.rules_spec.specs.Found.{listed, amounts_of, signature, free_signature, sides, group_from, free_in, at_budget, ReadsThere}

pub listed_is : (k : ℕ) (q : Annotation) → Numbered k (listed k q) q
listed_is zero q = record { len = refl; is = λ j h. absurd (omega (arith, h)) }
listed_is (suc k) q = let s = listed_is k (λ j. q (suc j)) in record { len = ap suc s.len; is = by s } where
  by : Numbered k (listed k (λ j. q (suc j))) (λ j. q (suc j)) → (j : ℕ) → j < suc k → slice_index_or (listed (suc k) q) j 0 ≡ q j
  by s zero h = refl
  by s (suc j) h = s.is j (omega (arith, h))

amounts_at : (ns : List ℕ) (k : ℕ) → ((at (amounts 1) (amounts_of ns) k).plus ≡ slice_index_or ns k 0) × ((at (amounts 1) (amounts_of ns) k).minus ≡ 0)
amounts_at [] k = (refl, refl)
amounts_at (n ∷ ns) zero = (refl, refl)
amounts_at (n ∷ ns) (suc k) = amounts_at ns k

amounts_length : (ns : List ℕ) → length (amounts_of ns) ≡ length ns
amounts_length [] = refl
amounts_length (n ∷ ns) = ap suc (amounts_length ns)

pub amounts_stand : (k : ℕ) (q : Annotation) → Stands k (amounts_of (listed k q)) q
amounts_stand k q = let s = listed_is k q in record {
  len = amounts_length (listed k q) ∙ s.len;
  is = λ j h. let a = amounts_at (listed k q) j in omega (arith, a.0, a.1, s.is j h);
}

signed : (o : Option NormFun) (g : NormFun) (budget : ℕ) (s : cert.Sig) → o ≡ Some g → SidesNumbered g budget (signature o budget (Some s)) s
signed o g budget s e = subst (λ o. SidesNumbered g budget (signature o budget (Some s)) s) (sym e)
    (record { budget_is = refl; args = listed_is (size_of (types g.params) budget) (annotation s.args); result = listed_is (size_of (g.result ∷ []) budget) (annotation s.result) })

stood : (o : Option NormFun) (g : NormFun) (budget : ℕ) (s : cert.Sig) → o ≡ Some g → SidesStand g budget (sides (signature o budget (Some s))) s
stood o g budget s e = subst (λ o. SidesStand g budget (sides (signature o budget (Some s))) s) (sym e)
    (record { args = amounts_stand (size_of (types g.params) budget) (annotation s.args); result = amounts_stand (size_of (g.result ∷ []) budget) (annotation s.result) })

module _ (S : Setting) where
  own_there : (fs : List ℕ) (ss : List cert.Sig) → length ss ≡ length fs → (f k : ℕ) (g : NormFun) → slice_get S.program.funs f ≡ Some g → place_in fs f ≡ Some k →
      (s : cert.Sig) × (sig_among fs ss f ≡ Some s) × SidesStand g S.budget (slice_index_or (group_from S fs ss) k (record { args = []; result = [] })) s
  own_there [] ss l f k g there e = let no : ◌≡◌ {A = Option ℕ} None (Some k) = e in absurd (cc)
  own_there (x ∷ fs) [] l f k g there e = absurd (omega (arith, l))
  own_there (x ∷ fs) (s ∷ ss) l f k g there e = by (own_there fs ss (omega (arith, l)) f) (nat_eq f x) refl e where
    by : ((k : ℕ) (g : NormFun) → slice_get S.program.funs f ≡ Some g → place_in fs f ≡ Some k → (s : cert.Sig) × (sig_among fs ss f ≡ Some s) × SidesStand g S.budget (slice_index_or (group_from S fs ss) k (record { args = []; result = [] })) s) →
        (c : Bool) → nat_eq f x ≡ c → cond c (Some 0) (option_map suc (place_in fs f)) ≡ Some k →
        (t : cert.Sig) × (cond c (Some s) (sig_among fs ss f) ≡ Some t) × SidesStand g S.budget (slice_index_or (group_from S (x ∷ fs) (s ∷ ss)) k (record { args = []; result = [] })) t
    by go true t e =
        let same : f ≡ x = grind (arith, nat_tests, t) in let zero_is : 0 ≡ k = same_Some 0 k e in (
          s,
          refl,
          subst (λ k. SidesStand g S.budget (slice_index_or (group_from S (x ∷ fs) (s ∷ ss)) k (record { args = []; result = [] })) s) zero_is
              (stood (slice_get S.program.funs x) g S.budget s (ap (slice_get S.program.funs) (sym same) ∙ there)),
        )
    by go false t e = deep (place_in fs f) refl e where
      deep : (o : Option ℕ) → place_in fs f ≡ o → option_map suc o ≡ Some k →
          (t : cert.Sig) × (sig_among fs ss f ≡ Some t) × SidesStand g S.budget (slice_index_or (group_from S (x ∷ fs) (s ∷ ss)) k (record { args = []; result = [] })) t
      deep None p e = let no : ◌≡◌ {A = Option ℕ} None (Some k) = e in absurd (cc)
      deep (Some j) p e =
          let next : suc j ≡ k = same_Some (suc j) k e in let y = go j g there p in
          (y.0, y.1, subst (λ k. SidesStand g S.budget (slice_index_or (group_from S (x ∷ fs) (s ∷ ss)) k (record { args = []; result = [] })) y.0) next y.2)

  none_there : (fs : List ℕ) (ss : List cert.Sig) (f : ℕ) → place_in fs f ≡ None → sig_among fs ss f ≡ None
  none_there [] [] f e = refl
  none_there [] (s ∷ ss) f e = refl
  none_there (x ∷ fs) [] f e = refl
  none_there (x ∷ fs) (s ∷ ss) f e = by (none_there fs ss f) (nat_eq f x) e where
    by : (place_in fs f ≡ None → sig_among fs ss f ≡ None) → (c : Bool) → cond c (Some 0) (option_map suc (place_in fs f)) ≡ None →
        cond c (Some s) (sig_among fs ss f) ≡ None
    by go true e = let no : ◌≡◌ {A = Option ℕ} (Some 0) None = e in absurd (cc)
    by go false e = deep (place_in fs f) refl e where
      deep : (o : Option ℕ) → place_in fs f ≡ o → option_map suc o ≡ None → sig_among fs ss f ≡ None
      deep None p e = go p
      deep (Some j) p e = let no : ◌≡◌ {A = Option ℕ} (Some (suc j)) None = e in absurd (cc)

  cost_there : (o : Option NormFun) (g : NormFun) (c : Option cert.Sig) (n : Signature) → o ≡ Some g → at_budget S o c ≡ Some n → (s : cert.Sig) × (c ≡ Some s) × SidesNumbered g S.budget n s
  cost_there o g None n e h = let no : ◌≡◌ {A = Option Signature} None (Some n) = h in absurd (cc)
  cost_there o g (Some s) n e h = let same : signature o S.budget (Some s) ≡ n = cc in (s, refl, subst (λ n. SidesNumbered g S.budget n s) same (signed o g S.budget s e))

  cost_not : (o : Option NormFun) (c : Option cert.Sig) → at_budget S o c ≡ None → c ≡ None
  cost_not o None h = refl
  cost_not o (Some s) h = let no : ◌≡◌ {A = Option Signature} (Some (signature o S.budget (Some s))) None = h in absurd (cc)

  free_there : (o : Option NormFun) (g : NormFun) (budget : ℕ) (b : Option ℕ) (c : Option cert.Sig) (s : cert.Sig) → o ≡ Some g → b ≡ Some budget → c ≡ Some s →
      SidesNumbered g budget (free_signature o b c) s
  free_there o g budget b c s e h k = subst (λ c. SidesNumbered g budget (free_signature o b c) s) (sym k)
      (subst (λ b. SidesNumbered g budget (free_signature o b (Some s)) s) (sym h) (signed o g budget s e))

pub reads_there : ReadsThere
reads_there S l = record {
  own = λ f k g there e. own_there S S.group S.sigs l f k g there e;
  own_none = λ f e. none_there S S.group S.sigs f e;
  cost_some = λ m f g n there h. cost_there S (slice_get S.program.funs f) g (cost_sig S.program m S.earlier f) n there h;
  cost_none = λ m f h. cost_not S (slice_get S.program.funs f) (cost_sig S.program m S.earlier f) h;
  free_is = λ k f budget g c s there e h i.
      subst (λ o. SidesNumbered g budget (free_in S o f) s) (sym e) (free_there S (slice_get S.program.funs f) g budget (free_budget c.task.kind) (sig_in S.program c f) s there h i);
}
