-- A fraction after the others.
use Rattle.std.proofs.Common.{◌≡◌, ◌≢◌, refl, sym, ap, subst, ◌∙◌, ℕ, suc, ◌<◌, ◌≤◌, [], ◌∷◌, ◌++◌, arith, pos, Bool, true, false, ◌==◌, if◌then◌else◌, Result, Ok, Err, OnOk}
use Rattle.std.specs.declared.alloc.AllocError.{AllocError}
use Rattle.std.specs.Ordering.{int_eq}
use Rattle.std.proofs.lemmas.Bool.Decides.{nat_tests}
use Rattle.frac128.specs.declared.Frac.{Frac}
use Rattle.frac128.specs.Nought.{nought}
use Rattle.simplex_rows.specs.Entries.{Entries, at, SparseFrom, IsSparse, EndsBefore, Adds}
use Rattle.simplex_rows.specs.Merging.{put}
use Rattle.simplex_rows.specs.Sweeping.{AddsWhole}
use Rattle.simplex_rows.proofs.Pointwise.{over_one}

pub append_sparse : (b c : ℕ) (x : Frac) (es : Entries) → SparseFrom b es → EndsBefore c es → b ≤ c → x.num ≢ pos 0 → SparseFrom b (es ++ (c, x) ∷ [])
append_sparse b c x [] s e l n = (l, n, tt)
append_sparse b c x (d ∷ es) s e l n = (s.0, s.1, append_sparse (suc d.0) c x es s.2 e.1 (let h = e.0 in omega arith) n)

pub none_from : (c k : ℕ) (es : Entries) → EndsBefore c es → c ≤ k → at k es ≡ nought
none_from c k [] e h = refl
none_from c k (d ∷ es) e h =
    let l = e.0 in
    let t : (d.0 == k) ≡ false = grind (arith, nat_tests) in
    rw t (none_from c k es e.1 h)

append_here : (c : ℕ) (x : Frac) (es : Entries) → EndsBefore c es → at c (es ++ (c, x) ∷ []) ≡ x
append_here c x [] e = let t : (c == c) ≡ true = grind (arith, nat_tests) in rw t refl
append_here c x (d ∷ es) e =
    let l = e.0 in
    let t : (d.0 == c) ≡ false = grind (arith, nat_tests) in
    rw t (append_here c x es e.1)

append_other : (c k : ℕ) (x : Frac) (es : Entries) → k ≢ c → at k (es ++ (c, x) ∷ []) ≡ at k es
append_other c k x [] n = let t : (c == k) ≡ false = grind (arith, nat_tests) in rw t refl
append_other c k x (d ∷ es) n = ap (λ (y : Frac). if d.0 == k then d.1 else y) (append_other c k x es n)

append_before : (c k : ℕ) (x : Frac) (es : Entries) → EndsBefore c es → c < k → EndsBefore k (es ++ (c, x) ∷ [])
append_before c k x [] e h = (h, tt)
append_before c k x (d ∷ es) e h = (let l = e.0 in omega arith, append_before c k x es e.1 h)

pub before_up_to : (c k : ℕ) (es : Entries) → EndsBefore c es → c ≤ k → EndsBefore k es
before_up_to c k [] e h = tt
before_up_to c k (d ∷ es) e h = (let l = e.0 in omega arith, before_up_to c k es e.1 h)

pub none_after : (o : Entries) → o ++ [] ≡ o
none_after [] = refl
none_after (x ∷ o) = ap (λ (es : Entries). x ∷ es) (none_after o)

pub snoc : (es : Entries) (x : ℕ × Frac) (rest : Entries) → (es ++ x ∷ []) ++ rest ≡ es ++ x ∷ rest
snoc [] x rest = refl
snoc (e ∷ es) x rest = ap (λ (ds : Entries). e ∷ ds) (snoc es x rest)

-- what is put after the others
pub record Pushed (c : ℕ) (x : Frac) (es new : Entries) : Type 0 where
  pub sparse : SparseFrom 0 es → SparseFrom 0 new
  pub adds : Adds c x es new
  pub before : (k : ℕ) → c < k → EndsBefore k new

pub pushed : (c : ℕ) (x : Frac) (es : Entries) → EndsBefore c es → Pushed c x es (es ++ put c x [])
pushed c x es e = by (int_eq x.num (pos 0)) refl
  where
    by : (b : Bool) → int_eq x.num (pos 0) ≡ b → Pushed c x es (es ++ (if b then [] else (c, x) ∷ []))
    by true z =
        let n : x.num ≡ pos 0 = grind (arith, nat_tests) in
        let a = none_from c c es e (omega arith) in
        subst (Pushed c x es) (sym (none_after es)) (record {
          sparse = λ s. s;
          adds = record { num = ap (λ (y : Frac). y.num) a ∙ sym n; den = ap (λ (y : Frac). y.den) a ∙ sym (over_one x n); others = λ k m. refl };
          before = λ k h. before_up_to c k es e (omega arith);
        })
    by false z = record {
      sparse = λ s. append_sparse 0 c x es s e (omega arith) (λ n. grind (arith, nat_tests));
      adds = let a = append_here c x es e in record { num = ap (λ (y : Frac). y.num) a; den = ap (λ (y : Frac). y.den) a; others = λ k m. append_other c k x es m };
      before = λ k h. append_before c k x es e h;
    }

pub pushed_to : (c : ℕ) (x : Frac) (es new : Entries) → EndsBefore c es → new ≡ es ++ put c x [] → Pushed c x es new
pushed_to c x es new e g = subst (Pushed c x es) (sym g) (pushed c x es e)

-- what that says where it was pushed
pub it_adds : (c : ℕ) (x : Frac) (es new : Entries) (r : Result (Unit {0}) AllocError) → EndsBefore c es → OnOk r (new ≡ es ++ put c x []) → OnOk r (Adds c x es new)
it_adds c x es new (Ok u) e ok = (pushed_to c x es new e ok).adds
it_adds c x es new (Err a) e ok = tt

pub it_ends : (c k : ℕ) (x : Frac) (es new : Entries) (r : Result (Unit {0}) AllocError) → EndsBefore c es → c < k → OnOk r (new ≡ es ++ put c x []) → OnOk r (EndsBefore k new)
it_ends c k x es new (Ok u) e h ok = (pushed_to c x es new e ok).before k h
it_ends c k x es new (Err a) e h ok = tt

-- fractions put one by one
pub whole_put : (c : ℕ) (x : Frac) → x.num ≢ pos 0 → put c x [] ≡ (c, x) ∷ []
whole_put c x n = let t : int_eq x.num (pos 0) ≡ false = grind (arith, nat_tests) in rw t refl

-- the first of those that are left
next_ends : (b c : ℕ) (x : Frac) (es rest : Entries) → SparseFrom b (es ++ (c, x) ∷ rest) → (b ≤ c) × (x.num ≢ pos 0) × EndsBefore c es
next_ends b c x [] rest s = (s.0, s.1, tt)
next_ends b c x (d ∷ es) rest s =
    let more = next_ends (suc d.0) c x es rest s.2 in
    let l = s.0 in
    let h = more.0 in
    (omega arith, more.1, (omega arith, more.2))

pub record Putting (all es rest : Entries) : Type 0 where
  pub sparse : IsSparse all
  pub joined : es ++ rest ≡ all

module _ (all es rest : Entries) (putting : Putting all es rest) (c : ℕ) (x : Frac) (later : Entries) (rest_is : rest ≡ (c, x) ∷ later) where
  here : (0 ≤ c) × (x.num ≢ pos 0) × EndsBefore c es
  here = next_ends 0 c x es later (subst IsSparse (sym putting.joined ∙ ap (λ (z : Entries). es ++ z) rest_is) putting.sparse)

  pub next_before : EndsBefore c es
  next_before = here.2

  pub put_next : (new : Entries) → new ≡ es ++ put c x [] → Putting all new later
  put_next new e = record {
    sparse = putting.sparse;
    joined = ap (λ (z : Entries). z ++ later) (e ∙ ap (λ (z : Entries). es ++ z) (whole_put c x here.1)) ∙ snoc es (c, x) later ∙ ap (λ (z : Entries). es ++ z) (sym rest_is) ∙ putting.joined;
  }

-- a 0 after the others stores nothing
pub adds_none : (c : ℕ) (es : Entries) → EndsBefore c es → AddsWhole c (pos 0) es es
adds_none c es e = let n = none_from c c es e (omega arith) in record { num = rw n refl; den = rw n refl; others = λ k m. (refl, refl) }
