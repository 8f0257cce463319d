-- The first fault of a list of checks.
use Rattle.std.proofs.Common.{◌≡◌, refl, sym, ap, ◌∙◌, subst, ℕ, List, [], ◌∷◌, ◌++◌, true, false, Option, Some, None, is_some, inl, inr, ◌↔◌, unwrap_or}
use mathlib.Core.Bool.{false≢true}
use Rattle.raml_num.specs.Sums.{total}
use Rattle.farkas_check.specs.declared.Verdict.{Verdict}
use Rattle.farkas_check.specs.declared.Verdict.TheVariants.{Yes, No, Leaves}
use Rattle.farkas_check.specs.Checks.{Check, Meets, Passes, EachPasses, EachFits, IsFault, IsFirstFault, IsVerdict}
use Rattle.farkas_check.specs.Faults.{FaultOf, FirstFaultOf}

-- what is found in the rest is found in all
pub record Reduces (rest all : List Check) : Type 0 where
  pub passes : EachPasses rest → EachPasses all
  pub fails : (v : Verdict) → IsFirstFault rest v → IsFirstFault all v

pub whole : (rest all : List Check) → rest ≡ all → Reduces rest all
whole rest all e = record { passes = λ h. subst EachPasses e h; fails = λ v h. subst (λ ks. IsFirstFault ks v) e h }

passing : (k : Check) (o : Option Verdict) → is_some o ≡ false → FaultOf k o → Passes k
passing k None e h = h
passing k (Some v) e h = absurd (false≢true (sym e))

-- a check that passes leaves the rest
pub next : (rest more all : List Check) (k : Check) (o : Option Verdict) → is_some o ≡ false → rest ≡ k ∷ more → FaultOf k o → Reduces rest all → Reduces more all
next rest more all k o s e h r =
    let p = passing k o s h in
    record { passes = λ q. r.passes (subst EachPasses (sym e) (p, q)); fails = λ v q. r.fails v (subst (λ ks. IsFirstFault ks v) (sym e) (inr (p, q))) }

-- one that fails is the first fault
pub found : (rest more all : List Check) (k : Check) (o : Option Verdict) → is_some o ≡ true → rest ≡ k ∷ more → FaultOf k o → Reduces rest all → FirstFaultOf all o
found rest more all k None s e h r = absurd (false≢true s)
found rest more all k (Some v) s e h r = r.fails v (subst (λ ks. IsFirstFault ks v) (sym e) (inl h))

pub none_found : (rest all : List Check) → rest ≡ [] → Reduces rest all → EachPasses all
none_found rest all e r = r.passes (subst EachPasses (sym e) tt)

-- what is asked of each total, whether or not both totals fit
abbrev pub EachMeets : List Check → Type 0
EachMeets [] = Unit {0}
EachMeets (k ∷ ks) = Meets k.demand (total k.terms) × EachMeets ks

pub found_first : (ks ls : List Check) (o : Option Verdict) → is_some o ≡ true → FirstFaultOf ks o → FirstFaultOf (ks ++ ls) o
found_first ks ls None s h = absurd (false≢true s)
found_first [] ls (Some v) s h = absurd h
found_first (k ∷ ks) ls (Some v) s (inl f) = inl f
found_first (k ∷ ks) ls (Some v) s (inr q) = inr (q.0, found_first ks ls (Some v) s q.1)

pub found_next : (ks ls : List Check) (o p : Option Verdict) → is_some o ≡ false → FirstFaultOf ks o → FirstFaultOf ls p → FirstFaultOf (ks ++ ls) p
found_next ks ls (Some v) p s f h = absurd (false≢true (sym s))
found_next [] ls None p s f h = h
found_next (k ∷ ks) ls None None s f h = (f.0, found_next ks ls None None s f.1 h)
found_next (k ∷ ks) ls None (Some v) s f h = inr (f.0, found_next ks ls None (Some v) s f.1 h)

pub single : (k : Check) (o : Option Verdict) → FaultOf k o → FirstFaultOf (k ∷ []) o
single k None h = (h, tt)
single k (Some v) h = inl h

never_yes : (ks : List Check) → IsFirstFault ks Yes → ⊥
never_yes [] h = h
never_yes (k ∷ ks) (inl f) = f
never_yes (k ∷ ks) (inr q) = never_yes ks q.1

verdict_of : (ks : List Check) (o : Option Verdict) → FirstFaultOf ks o → IsVerdict ks (unwrap_or o Yes)
verdict_of ks None h = h
verdict_of ks (Some Yes) h = absurd (never_yes ks h)
verdict_of ks (Some (No c)) h = h
verdict_of ks (Some (Leaves c)) h = h

never_no : (ks : List Check) (c : ℕ) → EachMeets ks → IsFirstFault ks (No c) → ⊥
never_no [] c m h = h
never_no (k ∷ ks) c m (inl f) = f.2 m.0
never_no (k ∷ ks) c m (inr q) = never_no ks c m.1 q.1

never_leaves : (ks : List Check) (c : ℕ) → EachFits ks → IsFirstFault ks (Leaves c) → ⊥
never_leaves [] c m h = h
never_leaves (k ∷ ks) c m (inl f) = f.1 m.0
never_leaves (k ∷ ks) c m (inr q) = never_leaves ks c m.1 q.1

passing_both : (ks : List Check) → EachPasses ks → EachMeets ks × EachFits ks
passing_both [] p = (tt, tt)
passing_both (k ∷ ks) p = let q = passing_both ks p.1 in ((p.0.meets, q.0), (p.0.fit, q.1))

yes_at : (ks : List Check) (v : Verdict) → IsVerdict ks v → EachMeets ks → EachFits ks → v ≡ Yes
yes_at ks Yes h m f = refl
yes_at ks (No c) h m f = absurd (never_no ks c m h)
yes_at ks (Leaves c) h m f = absurd (never_leaves ks c f h)

-- Where the demands are met exactly where P holds: the verdict is Yes exactly where P holds and the totals fit, and never No where P holds.
pub record Says (ks : List Check) (P : Type 0) (v : Verdict) : Type 0 where
  pub first : IsVerdict ks v
  pub yes : v ≡ Yes ↔ P × EachFits ks
  pub no : (c : ℕ) → v ≡ No c → P → ⊥

pub says : (ks : List Check) (P : Type 0) (o : Option Verdict) (v : Verdict) → (EachMeets ks ↔ P) → FirstFaultOf ks o → v ≡ unwrap_or o Yes → Says ks P v
says ks P o v met h e =
    let first = subst (IsVerdict ks) (sym e) (verdict_of ks o h) in
    record {
      first = first;
      yes = (λ y. let q = passing_both ks (subst (IsVerdict ks) y first) in (met.0 q.0, q.1), λ p. yes_at ks v first (met.1 p.0) p.1);
      no = λ c n p. never_no ks c (met.1 p) (subst (IsVerdict ks) n first);
    }

fails_not : (k : Check) (v : Verdict) → Passes k → IsFault k v → ⊥
fails_not k Yes p f = f
fails_not k (No c) p f = f.2 p.meets
fails_not k (Leaves c) p f = f.1 p.fit

none_fails : (ks : List Check) (v : Verdict) → EachPasses ks → IsFirstFault ks v → ⊥
none_fails [] v p h = h
none_fails (k ∷ ks) v p (inl f) = fails_not k v p.0 f
none_fails (k ∷ ks) v p (inr q) = none_fails ks v p.1 q.1

-- a check fails in one way, a list at one place, and so there is one verdict
one_fault : (k : Check) (v w : Verdict) → IsFault k v → IsFault k w → v ≡ w
one_fault k Yes w f g = absurd f
one_fault k (No c) Yes f g = absurd g
one_fault k (No c) (No d) f g = ap (λ (n : ℕ). No n) (f.0 ∙ sym g.0)
one_fault k (No c) (Leaves d) f g = absurd (g.1 f.1)
one_fault k (Leaves c) Yes f g = absurd g
one_fault k (Leaves c) (No d) f g = absurd (f.1 g.1)
one_fault k (Leaves c) (Leaves d) f g = ap (λ (n : ℕ). Leaves n) (f.0 ∙ sym g.0)

pub one_first : (ks : List Check) (v w : Verdict) → IsFirstFault ks v → IsFirstFault ks w → v ≡ w
one_first [] v w f g = absurd f
one_first (k ∷ ks) v w (inl f) (inl g) = one_fault k v w f g
one_first (k ∷ ks) v w (inl f) (inr q) = absurd (fails_not k v q.0 f)
one_first (k ∷ ks) v w (inr p) (inl g) = absurd (fails_not k w p.0 g)
one_first (k ∷ ks) v w (inr p) (inr q) = one_first ks v w p.1 q.1

pub one_verdict : (ks : List Check) (v w : Verdict) → IsVerdict ks v → IsVerdict ks w → v ≡ w
one_verdict ks Yes Yes f g = refl
one_verdict ks Yes (No d) f g = absurd (none_fails ks (No d) f g)
one_verdict ks Yes (Leaves d) f g = absurd (none_fails ks (Leaves d) f g)
one_verdict ks (No c) Yes f g = absurd (none_fails ks (No c) g f)
one_verdict ks (No c) (No d) f g = one_first ks (No c) (No d) f g
one_verdict ks (No c) (Leaves d) f g = one_first ks (No c) (Leaves d) f g
one_verdict ks (Leaves c) Yes f g = absurd (none_fails ks (Leaves c) g f)
one_verdict ks (Leaves c) (No d) f g = one_first ks (Leaves c) (No d) f g
one_verdict ks (Leaves c) (Leaves d) f g = one_first ks (Leaves c) (Leaves d) f g
