-- That a machine follows a run, and how such courses are put together.
use Rattle.std.proofs.Common.{◌≡◌, ℕ, suc, ◌+◌, ◌-◌, ◌*◌, ◌<◌, ◌≤◌, List, Option, Some, None, refl, sym, ap, ◌∙◌, subst, ⊎_elim, arith}
use Rattle.std.proofs.lemmas.Bool.{cases_lt}
use Rattle.raml_syntax.specs.Value.{Value}
use Rattle.raml_syntax.specs.Eval.{Run, done, costs, goes_on, and_then, node}
use Rattle.stack_compile.specs.Code.{Body}
use Rattle.stack_compile.specs.Machine.{Config, Going, Frame, Move, act, fetch, State, moved, after}
use Rattle.stack_compile.specs.Ready.{Finds, Ready}
use Rattle.stack_compile.specs.Laws.{IsGoing}
use Rattle.stack_compile.specs.declared.instr.Instr.{Instr}
use Rattle.stack_compile.proofs.After.{state, after_add}

-- from c the machine comes to d in j instructions with t ticks and u cells, and each of them finds what it takes
pub record Comes (code : List Body) (c : Config) (j t u : ℕ) (d : Config) : Type 0 where
  pub is : (a b m : ℕ) → after code j (state c a b m) ≡ state d (a + t) (b + u) (m + j)
  pub ready : (i : ℕ) → i < j → (a b m : ℕ) → Ready code (after code i (state c a b m)).at

-- where there is a value the machine has come to its state; where there is none it goes on, after n instructions or more
abbrev pub Lands : {A : Type 0} → ℕ → Option A → (A → Config) → ℕ → Config → Type 0
Lands n (Some v) go j d = d ≡ go v
Lands n None go j d = (n ≤ j) × IsGoing d

-- From c the machine follows the run r of limit n. k counts instructions for which a node is still to pay; each node pays for 3.
pub record Follows {A : Type 0} (code : List Body) (k n : ℕ) (c : Config) (r : Run A) (go : A → Config) : Type 0 where
  pub steps : ℕ
  pub there : Config
  pub few : steps ≤ k + 3 * r.work
  pub comes : Comes code c steps r.ticks r.cells there
  pub lands : Lands n r.out go steps there

module _ (code : List Body) where
  comes_as : (c d : Config) (j t t' u u' : ℕ) → t ≡ t' → u ≡ u' → Comes code c j t u d → Comes code c j t' u' d
  comes_as c d j t t' u u' x y h = subst (λ n. Comes code c j n u' d) x (subst (λ n. Comes code c j t n d) y h)

  pub comes_none : (c : Config) → Comes code c 0 0 0 c
  comes_none c = record {
    is = λ a b m.
        let x : a ≡ a + 0 = omega arith in
        let y : b ≡ b + 0 = omega arith in
        let z : m ≡ m + 0 = omega arith in
        λ i. state c (x i) (y i) (z i);
    ready = λ i lt a b m. absurd (omega (arith, lt));
  }

  pub comes_one : (i : Instr) (f p : ℕ) (st ls : List Value) (fs : List Frame) (t u : ℕ) (d : Config) → fetch code f p ≡ Some i → Finds code (Some i) st ls → act code (Some i) f p st ls fs ≡ record { next = d; ticks = t; cells = u; made = 1 } → Comes code (Going f p st ls fs) 1 t u d
  comes_one i f p st ls fs t u d at finds does = record {
    is = λ a b m. ap (λ (x : Move). moved (state (Going f p st ls fs) a b m) x) (ap (λ o. act code o f p st ls fs) at ∙ does);
    ready = λ k lt a b m.
        let z : k ≡ 0 = omega (arith, lt) in
        rw z (subst (λ o. Finds code o st ls) (sym at) finds);
  }

  comes_on : (c d e : Config) (j k t t' u u' : ℕ) → Comes code c j t u d → Comes code d k t' u' e → Comes code c (j + k) (t + t') (u + u') e
  comes_on c d e j k t t' u u' h g = record {
    is = λ a b m.
        let x : a + t + t' ≡ a + (t + t') = omega arith in
        let y : b + u + u' ≡ b + (u + u') = omega arith in
        let z : m + j + k ≡ m + (j + k) = omega arith in
        let last : state e (a + t + t') (b + u + u') (m + j + k) ≡ state e (a + (t + t')) (b + (u + u')) (m + (j + k)) = λ i. state e (x i) (y i) (z i) in
        after_add code j k (state c a b m) ∙ ap (after code k) (h.is a b m) ∙ g.is (a + t) (b + u) (m + j) ∙ last;
    ready = λ i lt a b m.
        ⊎_elim
        (λ below. h.ready i below a b m)
        (λ above.
        let n : i ≡ j + (i - j) = omega (arith, above) in
        let same = ap (λ q. after code q (state c a b m)) n ∙ after_add code j (i - j) (state c a b m) ∙ ap (after code (i - j)) (h.is a b m) in
        subst (λ (s : State). Ready code s.at) (sym same) (g.ready (i - j) (omega (arith, lt, above)) (a + t) (b + u) (m + j)))
        (cases_lt i j);
  }

  lands_as : {A : Type 0} (n n' : ℕ) (o : Option A) (go : A → Config) (j j' : ℕ) (d : Config) → (n ≤ j → n' ≤ j') → Lands n o go j d → Lands n' o go j' d
  lands_as n n' (Some v) go j j' d le h = h
  lands_as n n' None go j j' d le h = (le h.0, h.1)

  -- more may be left to pay for
  pub follows_owing : {A : Type 0} (k k' n : ℕ) (c : Config) (r : Run A) (go : A → Config) → k ≤ k' → Follows code k n c r go → Follows code k' n c r go
  follows_owing k k' n c r go le h = record { steps = h.steps; there = h.there; few = omega (arith, le, h.few); comes = h.comes; lands = h.lands }

  -- one instruction that gives the value
  pub follows_done : {A : Type 0} (n : ℕ) (c : Config) (v : A) (t u : ℕ) (go : A → Config) → Comes code c 1 t u (go v) → Follows code 1 n c (costs t u 0 (done v)) go
  follows_done n c v t u go h = record {
    steps = 1;
    there = go v;
    few = omega arith;
    comes = comes_as c (go v) 1 t (t + 0) u (u + 0) (omega arith) (omega arith) h;
    lands = refl;
  }

  -- no instruction
  pub follows_none : {A : Type 0} (n : ℕ) (v : A) (go : A → Config) → Follows code 0 n (go v) (done v) go
  follows_none n v go = record { steps = 0; there = go v; few = omega arith; comes = comes_none (go v); lands = refl }

  -- a node pays
  pub follows_node : {A : Type 0} (k n : ℕ) (c : Config) (r : Run A) (go : A → Config) → k ≤ 3 → Follows code k n c r go → Follows code 0 n c (node r) go
  follows_node k n c r go le h = record {
    steps = h.steps;
    there = h.there;
    few = omega (arith, h.few, le);
    comes = comes_as c h.there h.steps r.ticks (0 + r.ticks) r.cells (0 + r.cells) (omega arith) (omega arith) h.comes;
    lands = h.lands;
  }

  -- an instruction with ticks before
  pub follows_tick : {A : Type 0} (k n t : ℕ) (c d : Config) (r : Run A) (go : A → Config) → Comes code c 1 t 0 d → Follows code k n d r go → Follows code (1 + k) n c (costs t 0 0 r) go
  follows_tick k n t c d r go one h = record {
    steps = 1 + h.steps;
    there = h.there;
    few = omega (arith, h.few);
    comes = comes_on c d h.there 1 h.steps t r.ticks 0 r.cells one h.comes;
    lands = lands_as n n r.out go h.steps (1 + h.steps) h.there (λ le. omega (arith, le)) h.lands;
  }

  -- an instruction before, which may raise the limit by one
  pub follows_enter : {A : Type 0} (k n n' : ℕ) (c d : Config) (r : Run A) (go : A → Config) → n' ≤ suc n → Comes code c 1 0 0 d → Follows code k n d r go → Follows code (1 + k) n' c r go
  follows_enter k n n' c d r go up one h = record {
    steps = 1 + h.steps;
    there = h.there;
    few = omega (arith, h.few);
    comes = comes_as c h.there (1 + h.steps) (0 + r.ticks) r.ticks (0 + r.cells) r.cells (omega arith) (omega arith) (comes_on c d h.there 1 h.steps 0 r.ticks 0 r.cells one h.comes);
    lands = lands_as n n' r.out go h.steps (1 + h.steps) h.there (λ le. omega (arith, le, up)) h.lands;
  }

  -- an instruction before
  pub follows_first : {A : Type 0} (k n : ℕ) (c d : Config) (r : Run A) (go : A → Config) → Comes code c 1 0 0 d → Follows code k n d r go → Follows code (1 + k) n c r go
  follows_first k n c d r go one h = follows_enter k n n c d r go (omega arith) one h

  -- one run and then what follows from its value
  pub follows_then : {A B : Type 0} (k l n : ℕ) (c : Config) (r : Run A) (f : A → Run B) (mid : A → Config) (go : B → Config) → Follows code k n c r mid → ((v : A) → r.out ≡ Some v → Follows code l n (mid v) (f v) go) → Follows code (k + l) n c (and_then r f) go
  follows_then {A} {B} k l n c r f mid go h next = by r.out refl h.lands
    where
      by : (o : Option A) → r.out ≡ o → Lands n o mid h.steps h.there → Follows code (k + l) n c (costs r.ticks r.cells r.work (goes_on o f)) go
      by None e lands = record {
        steps = h.steps;
        there = h.there;
        few = omega (arith, h.few);
        comes = comes_as c h.there h.steps r.ticks (r.ticks + 0) r.cells (r.cells + 0) (omega arith) (omega arith) h.comes;
        lands = lands;
      }
      by (Some v) e lands =
          let g = next v e in
          let come = subst (λ d. Comes code c h.steps r.ticks r.cells d) lands h.comes in
          record {
            steps = h.steps + g.steps;
            there = g.there;
            few = omega (arith, h.few, g.few);
            comes = comes_on c (mid v) g.there h.steps g.steps r.ticks (f v).ticks r.cells (f v).cells come g.comes;
            lands = lands_as n n (f v).out go g.steps (h.steps + g.steps) g.there (λ le. omega (arith, le)) g.lands;
          }

  -- an instruction after the value
  pub follows_last : {A : Type 0} (k n : ℕ) (c : Config) (r : Run A) (mid go : A → Config) → Follows code k n c r mid → ((v : A) → Comes code (mid v) 1 0 0 (go v)) → Follows code (k + 1) n c r go
  follows_last {A} k n c r mid go h next = by r.out h.lands
    where
      by : (o : Option A) → Lands n o mid h.steps h.there → Follows code (k + 1) n c (record { out = o; ticks = r.ticks; cells = r.cells; work = r.work }) go
      by None lands = record { steps = h.steps; there = h.there; few = omega (arith, h.few); comes = h.comes; lands = lands }
      by (Some v) lands =
          let come = subst (λ d. Comes code c h.steps r.ticks r.cells d) lands h.comes in
          record {
            steps = h.steps + 1;
            there = go v;
            few = omega (arith, h.few);
            comes = comes_as c (go v) (h.steps + 1) (r.ticks + 0) r.ticks (r.cells + 0) r.cells (omega arith) (omega arith) (comes_on c (mid v) (go v) h.steps 1 r.ticks 0 r.cells 0 come (next v));
            lands = refl;
          }
