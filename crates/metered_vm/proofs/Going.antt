-- A machine that goes on.
use Rattle.std.proofs.Common.{◌≡◌, ℕ, ◌+◌, ◌-◌, ◌<◌, ◌≤◌, List, ◌++◌, sym, ap, ◌∙◌, arith, append_assoc}
use Rattle.value_text.specs.declared.word.Cell.{Cell}
use Rattle.stack_compile.specs.Code.{Body}
use Rattle.stack_compile.specs.Machine.{State, step, after}
use Rattle.stack_compile.proofs.After.{after_add}
use Rattle.metered_vm.specs.declared.machine.Machine.{Machine}
use Rattle.metered_vm.specs.Running.{IsFront, Grew, counted, state_of}
use Rattle.metered_vm.specs.Stepping.{Goes}

-- one step behind the others
pub after_more : (code : List Body) (s t u : State) (n k l : ℕ) → n ≤ k → l ≡ k + 1 → t ≡ after code (k - n) s → u ≡ step code t → u ≡ after code (l - n) s
after_more code s t u n k l le one before last =
    let same : k - n + 1 ≡ l - n = omega (arith, one, le) in
    last ∙ ap (step code) before ∙ sym (after_add code (k - n) 1 s) ∙ ap (λ q. after code q s) same

front_on : (a b c : List Cell) → IsFront a b → IsFront b c → IsFront a c
front_on a b c h k = (h.0 ++ k.0, k.1 ∙ ap (λ l. l ++ k.0) h.1 ∙ append_assoc a h.0 k.0)

-- a machine whose last instruction is counted
abbrev pub counts : Machine → Machine
counts y = record y { made = y.made + 1 }

-- one step of a machine behind its others
pub goes_on : (code : List Body) (steps : ℕ) (x y z : Machine) → state_of y ≡ after code (y.made - x.made) (state_of x) → Goes steps x y → y.made < steps → counted (state_of z) ≡ step code (state_of y) → Grew y z → (state_of (counts z) ≡ after code (z.made + 1 - x.made) (state_of x)) × Goes steps x (counts z)
goes_on code steps x y z before goes more does grew = (
  after_more code _ _ _ x.made y.made (z.made + 1) goes.0 (ap (λ n. n + 1) grew.0) before does,
  (omega (arith, goes, grew), omega (arith, grew, more), omega (arith, grew, goes), grew.2 ∙ goes.3, front_on _ _ _ goes.4 grew.3),
)
