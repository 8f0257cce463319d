-- States before and after an instruction.
use Rattle.std.proofs.Common.{◌≡◌, ℕ, ◌+◌, ◌-◌, ◌<◌, ◌≤◌, List, [], ◌∷◌, ◌++◌, length, take, drop, refl, sym, ap, subst, ◌∙◌, arith, length-append, length-drop, length-take}
use Rattle.raml_syntax.specs.Value.{Value}
use Rattle.stack_compile.specs.Machine as m
use Rattle.stack_compile.specs.Machine.{Going, State, unbind}
use Rattle.stack_compile.specs.declared.instr.Instr.{Instr}
use Rattle.value_text.specs.Heap.{IsBelow, NamesBelow, NameEarlier}
use Rattle.value_text.specs.Held.{Held, value_held, held_at, value_of, held_of, held}
use Rattle.value_text.specs.declared.word.Word.{Word}
use Rattle.value_text.specs.declared.word.Word.TheVariants as w
use Rattle.value_text.specs.declared.word.Cell.{Cell}
use Rattle.value_text.proofs.Earlier.{earlier_added}
use Rattle.value_text.proofs.Holding.{value_more, held_snoc, length_held, at_last}
use Rattle.metered_vm.specs.declared.machine.Machine.{Machine}
use Rattle.metered_vm.specs.Running.{values_of, stack_of, locals_below, frames_of, locals_in, frames_in, state, state_of, AllBelow, IsSound, Sound}
use Rattle.metered_vm.specs.Moving.{acts}
use Rattle.metered_vm.proofs.Lists.{stack_snoc, length_values, locals_append, frames_append, locals_take, frames_take, below_snoc, below_init_is, below_last_is, below_take, all_more}

-- an instruction that adds no ticks and no cells
pub same : (f p : ℕ) (st st' ls ls' : List Value) (fs fs' : List m.Frame) (a b n : ℕ) → st ≡ st' → ls ≡ ls' → fs ≡ fs' → ◌≡◌ {A = State} (state (Going f p st ls fs) a b n) (state (Going f p st' ls' fs') (a + 0) (b + 0) n)
same f p st st' ls ls' fs fs' a b n x y z =
    let ticks : a ≡ a + 0 = omega arith in
    let cells : b ≡ b + 0 = omega arith in
    λ i. state (Going f p (x i) (y i) (z i)) (ticks i) (cells i) n

pub popped_is : (hs : List Held) (ws us : List Word) (w : Word) → us ≡ ws ++ w ∷ [] → stack_of hs us [] ≡ value_of hs w ∷ stack_of hs ws []
popped_is hs ws us w e = ap (λ l. stack_of hs l []) e ∙ stack_snoc hs ws w []

-- what the locals of the newest call, and all frames, become
pub record Locals (x : Machine) (vs : List Value) (us : List Word) : Type 0 where
  pub newest : drop x.base (values_of (held x.heap.cells) us) ≡ vs
  pub frames : frames_of (values_of (held x.heap.cells) us) x.frames.items [] ≡ frames_in x
  pub within : x.base ≤ length us
  pub below : AllBelow (length x.heap.cells) us

-- nothing
pub bound_none : (x : Machine) → IsSound x → (us : List Word) → us ≡ x.locals.items → Locals x (locals_in x) us
bound_none x h us e = record {
  newest = ap (λ l. drop x.base (values_of (held x.heap.cells) l)) e;
  frames = ap (λ l. frames_of (values_of (held x.heap.cells) l) x.frames.items []) e;
  within = omega (arith, h.within, ap length e);
  below = subst (AllBelow (length x.heap.cells)) (sym e) h.locals;
}

-- one local more
pub bound_next : (x : Machine) → IsSound x → (us ts : List Word) (vs : List Value) (w : Word) → ts ≡ us ++ w ∷ [] → IsBelow (length x.heap.cells) w → Locals x vs us → Locals x (vs ++ value_of (held x.heap.cells) w ∷ []) ts
bound_next x h us ts vs w e below l =
    let hs = held x.heap.cells in
    record {
      newest = ap (λ k. drop x.base (values_of hs k)) e ∙ locals_append hs x.base us (w ∷ []) l.within ∙ ap (λ k. k ++ value_of hs w ∷ []) l.newest;
      frames = ap (λ k. frames_of (values_of hs k) x.frames.items []) e ∙ frames_append hs x.frames.items us (w ∷ []) (omega (arith, h.base, l.within)) ∙ l.frames;
      within = omega (arith, l.within, ap length e, length-append us (w ∷ []));
      below = subst (AllBelow (length x.heap.cells)) (sym e) (below_snoc (length x.heap.cells) us w l.below below);
    }

-- two more, in room that was made before
pub bound_both : (x : Machine) → IsSound x → (rs us ts : List Word) (w v : Word) → rs ≡ x.locals.items → us ≡ rs ++ w ∷ [] → ts ≡ us ++ v ∷ [] → IsBelow (length x.heap.cells) w → IsBelow (length x.heap.cells) v → Locals x ((locals_in x ++ value_of (held x.heap.cells) w ∷ []) ++ value_of (held x.heap.cells) v ∷ []) ts
bound_both x h rs us ts w v room first second below_w below_v = bound_next x h us ts _ v second below_v (bound_next x h rs us _ w first below_w (bound_none x h rs room))

-- some of the last ones fewer
pub unbound : (x : Machine) → IsSound x → (k : ℕ) (us : List Word) → us ≡ take (length x.locals.items - k) x.locals.items → k ≤ length (locals_in x) → Locals x (unbind k (locals_in x)) us
unbound x h k us e enough =
    let hs = held x.heap.cells in
    let gs = x.frames.items in
    let ws = x.locals.items in
    let vs = values_of hs ws in
    let len = length-drop x.base vs in
    let few : k + x.base ≤ length ws = omega (arith, len, enough, h.within, length_values hs ws) in
    let n : length ws - k ≡ x.base + (length (drop x.base vs) - k) = omega (arith, len, enough, h.within, length_values hs ws) in
    let le : length ws - k ≤ length ws = omega arith in
    let low : locals_below gs ≤ length ws - k = omega (arith, h.base, few) in
    record {
      newest = ap (λ l. drop x.base (values_of hs l)) e ∙ locals_take hs x.base (length ws - k) (length (drop x.base vs) - k) ws n;
      frames = ap (λ l. frames_of (values_of hs l) gs []) e ∙ frames_take hs gs ws (length ws - k) low le;
      within = omega (arith, ap length e, length-take (length ws - k) ws, few);
      below = subst (AllBelow (length x.heap.cells)) (sym e) (below_take _ _ ws h.locals);
    }

stack_more : (hs more : List Held) (ws : List Word) (vs : List Value) → AllBelow (length hs) ws → stack_of (hs ++ more) ws vs ≡ stack_of hs ws vs
stack_more hs more [] vs h = refl
stack_more hs more (w ∷ ws) vs h = ap (λ v. stack_of (hs ++ more) ws (v ∷ vs)) (value_more hs more w h.0) ∙ stack_more hs more ws (value_of hs w ∷ vs) h.1

pub values_more : (hs more : List Held) (ws : List Word) → AllBelow (length hs) ws → values_of (hs ++ more) ws ≡ values_of hs ws
values_more hs more [] h = refl
values_more hs more (w ∷ ws) h = λ i. value_more hs more w h.0 i ∷ values_more hs more ws h.1 i

-- one cell more, with its number pushed
pub record Celled (cells new : List Cell) (cell : Cell) (ws us ls : List Word) : Type 0 where
  pub stack : stack_of (held new) us [] ≡ value_held (held_of (held cells) cell) ∷ stack_of (held cells) ws []
  pub locals : values_of (held new) ls ≡ values_of (held cells) ls
  pub earlier : NameEarlier new
  pub stack_below : AllBelow (length new) us
  pub locals_below : AllBelow (length new) ls

pub celled : (cells new : List Cell) (cell : Cell) (ws us ls : List Word) (n : ℕ) → NameEarlier cells → AllBelow (length cells) ws → AllBelow (length cells) ls → NamesBelow (length cells) cell → new ≡ cells ++ cell ∷ [] → n ≡ length cells → us ≡ ws ++ w.Cell n ∷ [] → Celled cells new cell ws us ls
celled cells new cell ws us ls n earlier below_ws below_ls names is number pushed =
    let hs = held cells in
    let one = held_of hs cell in
    let all : held new ≡ hs ++ one ∷ [] = ap held is ∙ held_snoc cells cell in
    let len : length cells ≡ length hs = omega (arith, length_held cells) in
    let more : length new ≡ length cells + 1 = omega (arith, ap length is, length-append cells (cell ∷ [])) in
    let le : length cells ≤ length new = omega (arith, more) in
    let there : n < length new = omega (arith, number, more) in
    let last : value_of (hs ++ one ∷ []) (w.Cell n) ≡ value_held one = ap value_held (ap (held_at (hs ++ one ∷ [])) (number ∙ len) ∙ at_last hs one) in
    let old = subst (λ k. AllBelow k ws) len below_ws in
    record {
      stack = (λ i. stack_of (all i) (pushed i) []) ∙ stack_snoc (hs ++ one ∷ []) ws (w.Cell n) [] ∙ (λ i. last i ∷ stack_more hs (one ∷ []) ws [] old i);
      locals = ap (λ h. values_of h ls) all ∙ values_more hs (one ∷ []) ls (subst (λ k. AllBelow k ls) len below_ls);
      earlier = earlier_added cells new cell is earlier names;
      stack_below = subst (AllBelow (length new)) (sym pushed) (below_snoc (length new) ws (w.Cell n) (all_more (length cells) (length new) ws le below_ws) there);
      locals_below = all_more (length cells) (length new) ls le below_ls;
    }

-- two words popped
pub both_popped : (hs : List Held) (ws us ts : List Word) (w v : Word) → ts ≡ us ++ v ∷ [] → us ≡ ws ++ w ∷ [] → stack_of hs ts [] ≡ value_of hs v ∷ value_of hs w ∷ stack_of hs ws []
both_popped hs ws us ts w v e d = popped_is hs us ts v e ∙ ap (λ l. value_of hs v ∷ l) (popped_is hs ws us w d)

pub both_below : (n : ℕ) (ws us ts : List Word) (w v : Word) → ts ≡ us ++ v ∷ [] → us ≡ ws ++ w ∷ [] → AllBelow n ts → AllBelow n ws × IsBelow n w × IsBelow n v
both_below n ws us ts w v e d h =
    let left = below_init_is n us ts v e h in
    (below_init_is n ws us w d left, below_last_is n ws us w d left, below_last_is n us ts v e h)

-- one word in place of the two
pub replaced_below : (n : ℕ) (ws us ts rs : List Word) (w v u : Word) → AllBelow n ts → ts ≡ us ++ v ∷ [] → us ≡ ws ++ w ∷ [] → rs ≡ ws ++ u ∷ [] → IsBelow n u → AllBelow n rs
replaced_below n ws us ts rs w v u h e d c below = subst (AllBelow n) (sym c) (below_snoc n ws u (both_below n ws us ts w v e d h).0 below)

-- a machine with another stack, and other locals
pub sound_stack : (x : Machine) (us : List Word) → IsSound x → AllBelow (length x.heap.cells) us → Sound x.heap us x.locals.items x.base x.frames.items x.cells x.limit
sound_stack x us h below = record {
  earlier = h.earlier;
  stack = below;
  locals = h.locals;
  base = h.base;
  within = h.within;
  taken = h.taken;
  spare = h.spare;
}

pub sound_locals : (x : Machine) (ws us : List Word) (vs : List Value) → IsSound x → AllBelow (length x.heap.cells) ws → Locals x vs us → Sound x.heap ws us x.base x.frames.items x.cells x.limit
sound_locals x ws us vs h below l = record {
  earlier = h.earlier;
  stack = below;
  locals = l.below;
  base = h.base;
  within = l.within;
  taken = h.taken;
  spare = h.spare;
}

-- and where one word is popped
pub sound_taken : (x : Machine) → IsSound x → (ws us : List Word) (w : Word) (vs : List Value) → x.stack.items ≡ ws ++ w ∷ [] → Locals x vs us → Sound x.heap ws us x.base x.frames.items x.cells x.limit
sound_taken x h ws us w vs e l = sound_locals x ws us vs h (below_init_is (length x.heap.cells) ws x.stack.items w e h.stack) l

-- an instruction that takes a value from the stack and changes the locals
pub taken : (i : Instr) (x : Machine) (p n : ℕ) (ws us : List Word) (w : Word) (v : Value) (vs : List Value) → x.stack.items ≡ ws ++ w ∷ [] → value_of (held x.heap.cells) w ≡ v → Locals x vs us →
    (let st = stack_of (held x.heap.cells) ws [] in ◌≡◌ {A = State} (state (Going x.fun.0 p st vs (frames_in x)) (x.ticks + 0) (x.cells + 0) n) (acts i (state (Going x.fun.0 x.place (v ∷ st) (locals_in x) (frames_in x)) x.ticks x.cells x.made))) →
    ◌≡◌ {A = State} (state (Going x.fun.0 p (stack_of (held x.heap.cells) ws []) (drop x.base (values_of (held x.heap.cells) us)) (frames_of (values_of (held x.heap.cells) us) x.frames.items [])) x.ticks x.cells n) (acts i (state_of x))
taken i x p n ws us w v vs popped is l does =
    let hs = held x.heap.cells in
    let st = popped_is hs ws x.stack.items w popped ∙ ap (λ u. u ∷ stack_of hs ws []) is in
    same _ _ _ _ _ _ _ _ _ _ _ refl l.newest l.frames ∙ does ∙ ap (λ k. acts i (state (Going x.fun.0 x.place k (locals_in x) (frames_in x)) x.ticks x.cells x.made)) (sym st)
