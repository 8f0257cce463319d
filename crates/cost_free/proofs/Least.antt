-- The first number that passes a test.
use Rattle.std.proofs.Common.{◌≡◌, ◌≤◌, ◌<◌, ◌+◌, ℕ, zero, suc, nat_eq, Bool, true, false, cond, length, None, Some, refl}
use Rattle.std.proofs.Common.{arith, subst}
use Rattle.std.proofs.lemmas.Bool.Decides.{nat_tests}
use Rattle.cost_free.specs.Blocked.{least_from, blocks}
use Rattle.cost_free.specs.Laws.{BlockersAreLeast}

-- what is found passes the test, and nothing before it does
pub record IsFirst (test : ℕ → Bool) (count k f : ℕ) : Type 0 where
  pub from : k ≤ f
  pub below : f < k + count
  pub passes : test f ≡ true
  pub first : (g : ℕ) → k ≤ g → g < f → test g ≡ false

pub is_first : (test : ℕ → Bool) (count k f : ℕ) → least_from test count k ≡ Some f → IsFirst test count k f
is_first test zero k f e = absurd (cc)
is_first test (suc count) k f e = by (test k) refl e (λ e. is_first test count (suc k) f e)
  where
    by : (b : Bool) → test k ≡ b → cond b (Some k) (least_from test count (suc k)) ≡ Some f →
        (least_from test count (suc k) ≡ Some f → IsFirst test count (suc k) f) → IsFirst test (suc count) k f
    by true is e later =
        let same : k ≡ f = cc in
        record { from = omega (arith, same); below = omega (arith, same); passes = subst (λ n. test n ≡ true) same is; first = λ g low high. absurd (omega (arith, same, low, high)) }
    by false is e later =
        let rest = later e in
        record {
          from = omega (arith, rest.from);
          below = omega (arith, rest.below);
          passes = rest.passes;
          first = λ g low high. at g low high rest (nat_eq k g) refl;
        }
      where
        at : (g : ℕ) → k ≤ g → g < f → IsFirst test count (suc k) f → (b : Bool) → nat_eq k g ≡ b → test g ≡ false
        at g low high rest true e = let same : k ≡ g = grind (arith, nat_tests) in subst (λ n. test n ≡ false) same is
        at g low high rest false e = let above : suc k ≤ g = grind (arith, nat_tests) in rest.first g above high

pub none_passes : (test : ℕ → Bool) (count k f : ℕ) → least_from test count k ≡ None → k ≤ f → f < k + count → test f ≡ false
none_passes test zero k f e low high = absurd (omega (arith, low, high))
none_passes test (suc count) k f e low high = by (test k) refl e (λ e. none_passes test count (suc k) f e) (nat_eq k f) refl
  where
    by : (b : Bool) → test k ≡ b → cond b (Some k) (least_from test count (suc k)) ≡ None →
        (least_from test count (suc k) ≡ None → suc k ≤ f → f < suc k + count → test f ≡ false) → (c : Bool) → nat_eq k f ≡ c → test f ≡ false
    by true is e later c eq = absurd (cc)
    by false is e later true eq = let same : k ≡ f = grind (arith, nat_tests) in subst (λ n. test n ≡ false) same is
    by false is e later false eq = let above : suc k ≤ f = grind (arith, nat_tests) in later e above (omega (arith, high))

pub blockers_are_least : BlockersAreLeast
blockers_are_least = record {
  some = λ groups calls group meter done f e.
      let found = is_first (blocks groups calls group meter done) (length calls) 0 f e in
      record { is_function = omega (arith, found.below); in_the_way = found.passes; least = λ g low. found.first g (omega arith) low };
  none = λ groups calls group meter done f e high. none_passes (blocks groups calls group meter done) (length calls) 0 f e (omega arith) (omega (arith, high));
}
