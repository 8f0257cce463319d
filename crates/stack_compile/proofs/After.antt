-- The machine after more instructions.
use Rattle.std.proofs.Common.{◌≡◌, ℕ, zero, suc, ◌+◌, ◌-◌, ◌≤◌, List, refl, sym, ap, ◌∙◌, subst, arith}
use Rattle.raml_syntax.specs.Value.{Value}
use Rattle.stack_compile.specs.Code.{Body}
use Rattle.stack_compile.specs.Machine.{Config, Halted, State, step, after}

abbrev pub state : Config → ℕ → ℕ → ℕ → State
state c a b m = record { at = c; ticks = a; cells = b; made = m }

pub after_add : (code : List Body) (i j : ℕ) (s : State) → after code (i + j) s ≡ after code j (after code i s)
after_add code zero j s = let e : 0 + j ≡ j = omega arith in ap (λ n. after code n s) e
after_add code (suc i) j s = let e : suc i + j ≡ suc (i + j) = omega arith in ap (λ n. after code n s) e ∙ after_add code i j (step code s)

-- a halted machine stays as it is
pub halted_stays : (code : List Body) (j : ℕ) (v : Value) (a b m : ℕ) → after code j (state (Halted v) a b m) ≡ state (Halted v) a b m
halted_stays code zero v a b m = refl
halted_stays code (suc j) v a b m =
    let x : a + 0 ≡ a = omega arith in
    let y : b + 0 ≡ b = omega arith in
    let z : m + 0 ≡ m = omega arith in
    let same : step code (state (Halted v) a b m) ≡ state (Halted v) a b m = λ i. state (Halted v) (x i) (y i) (z i) in
    ap (after code j) same ∙ halted_stays code j v a b m

-- and so it does after more instructions
pub stays : (code : List Body) (m j : ℕ) (s : State) (v : Value) → m ≤ j → (after code m s).at ≡ Halted v → after code j s ≡ after code m s
stays code m j s v le e =
    let n : j ≡ m + (j - m) = omega (arith, le) in
    let t = after code m s in
    let halted : t ≡ state (Halted v) t.ticks t.cells t.made = ap (λ c. state c t.ticks t.cells t.made) e in
    ap (λ q. after code q s) n ∙ after_add code m (j - m) s ∙ ap (after code (j - m)) halted ∙ halted_stays code (j - m) v t.ticks t.cells t.made ∙ sym halted

-- the second state costs no less
pub record Grows (s t : State) : Type 0 where
  pub ticks : s.ticks ≤ t.ticks
  pub cells : s.cells ≤ t.cells

pub after_grows : (code : List Body) (m : ℕ) (s : State) → Grows s (after code m s)
after_grows code zero s = record { ticks = omega arith; cells = omega arith }
after_grows code (suc m) s = let h = after_grows code m (step code s) in record { ticks = omega (arith, h.ticks); cells = omega (arith, h.cells) }

pub later_grows : (code : List Body) (m j : ℕ) (s : State) → m ≤ j → Grows (after code m s) (after code j s)
later_grows code m j s le =
    let n : m + (j - m) ≡ j = omega (arith, le) in
    let same = sym (after_add code m (j - m) s) ∙ ap (λ q. after code q s) n in
    subst (λ t. Grows (after code m s) t) same (after_grows code (j - m) (after code m s))
