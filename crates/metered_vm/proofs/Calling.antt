-- Calls and returns.
use Rattle.std.proofs.Common.{◌≡◌, ℕ, zero, suc, ◌+◌, ◌-◌, ◌≤◌, List, [], ◌∷◌, ◌++◌, length, take, drop, Option, Some, refl, sym, ap, ◌∙◌, arith, length-drop}
use Rattle.std.proofs.lemmas.List.{take-append-drop}
use Rattle.std.specs.Prelude.{slice_get}
use Rattle.raml_syntax.specs.Value.{Value}
use Rattle.raml_syntax.specs.declared.program.FunId.{FunId}
use Rattle.stack_compile.specs.Code.{Body}
use Rattle.stack_compile.specs.Machine as m
use Rattle.stack_compile.specs.Machine.{Config, Going, Halted, State, popped, left, entered, goes, moved}
use Rattle.value_text.specs.Held.{Held, value_of}
use Rattle.value_text.specs.declared.word.Word.{Word}
use Rattle.metered_vm.specs.declared.machine.Frame.{Frame}
use Rattle.metered_vm.specs.Running.{values_of, stack_of, locals_below, frames_of, state}
use Rattle.metered_vm.specs.Moving.{calls}
use Rattle.metered_vm.proofs.Lists.{length_values, locals_append, frames_append, frames_take, locals_take, frames_snoc, below_locals_snoc}
use Rattle.metered_vm.proofs.Acting.{same}

stack_append : (hs : List Held) (ws us : List Word) (vs : List Value) → stack_of hs (ws ++ us) vs ≡ stack_of hs us (stack_of hs ws vs)
stack_append hs [] us vs = refl
stack_append hs (w ∷ ws) us vs = stack_append hs ws us (value_of hs w ∷ vs)

popped_words : (hs : List Held) (us : List Word) (st vs : List Value) (k : ℕ) → popped (length us + k) (stack_of hs us st) vs ≡ popped k st (values_of hs us ++ vs)
popped_words hs [] st vs k = let e : 0 + k ≡ k = omega arith in ap (λ n. popped n st vs) e
popped_words hs (u ∷ us) st vs k =
    let e : length (u ∷ us) + k ≡ length us + suc k = omega arith in
    ap (λ n. popped n (stack_of hs us (value_of hs u ∷ st)) vs) e ∙ popped_words hs us (value_of hs u ∷ st) vs (suc k)

left_words : (hs : List Held) (us : List Word) (st : List Value) (k : ℕ) → left (length us + k) (stack_of hs us st) ≡ left k st
left_words hs [] st k = let e : 0 + k ≡ k = omega arith in ap (λ n. left n st) e
left_words hs (u ∷ us) st k =
    let e : length (u ∷ us) + k ≡ length us + suc k = omega arith in
    ap (λ n. left n (stack_of hs us (value_of hs u ∷ st))) e ∙ left_words hs us (value_of hs u ∷ st) (suc k)

append_none : (vs : List Value) → vs ++ [] ≡ vs
append_none [] = refl
append_none (v ∷ vs) = ap (λ l. v ∷ l) (append_none vs)

-- the top words of a stack as arguments
record Parted (hs : List Held) (ws : List Word) (n : ℕ) : Type 0 where
  arguments : popped n (stack_of hs ws []) [] ≡ values_of hs (drop (length ws - n) ws)
  rest : left n (stack_of hs ws []) ≡ stack_of hs (take (length ws - n) ws) []

parted : (hs : List Held) (ws : List Word) (n : ℕ) → n ≤ length ws → Parted hs ws n
parted hs ws n le =
    let a = take (length ws - n) ws in
    let b = drop (length ws - n) ws in
    let st = stack_of hs a [] in
    let len : n ≡ length b + 0 = omega (arith, length-drop (length ws - n) ws, le) in
    let is : stack_of hs ws [] ≡ stack_of hs b st = ap (λ l. stack_of hs l []) (sym (take-append-drop (length ws - n) ws)) ∙ stack_append hs a b [] in
    record {
      arguments = (λ i. popped (len i) (is i) []) ∙ popped_words hs b st [] 0 ∙ append_none (values_of hs b);
      rest = (λ i. left (len i) (is i)) ∙ left_words hs b st 0;
    }

abbrev no_values : List Value
no_values = []

drop_all : (n : ℕ) (vs : List Value) → length vs ≤ n → drop n vs ≡ no_values
drop_all zero [] h = refl
drop_all zero (v ∷ vs) h = absurd (omega (arith, h))
drop_all (suc n) [] h = refl
drop_all (suc n) (v ∷ vs) h = drop_all n vs (omega (arith, h))

take_front : (n : ℕ) (vs us : List Value) → n ≡ length vs → take n (vs ++ us) ≡ vs
take_front zero [] us h = refl
take_front zero (v ∷ vs) us h = absurd (omega (arith, h))
take_front (suc n) [] us h = absurd (omega (arith, h))
take_front (suc n) (v ∷ vs) us h = ap (λ l. v ∷ l) (take_front n vs us (omega (arith, h)))

-- all of a list from a place on
pub whole_rest : (n : ℕ) (ws : List Word) → take (length ws - n) (drop n ws) ≡ drop n ws
whole_rest n ws = all (length ws - n) (drop n ws) (omega (arith, length-drop n ws))
  where
    all : (k : ℕ) (us : List Word) → length us ≤ k → take k us ≡ us
    all zero [] h = refl
    all zero (u ∷ us) h = absurd (omega (arith, h))
    all (suc k) [] h = refl
    all (suc k) (u ∷ us) h = ap (λ l. u ∷ l) (all k us (omega (arith, h)))

-- a call: the arguments leave the stack, and a frame keeps the caller's locals
module _ (hs : List Held) (bodies : List Body) (b : Body) (g : FunId) (frame : Frame) (p rest base begin : ℕ) (ws us ls ts : List Word) (gs fs : List Frame) (there : slice_get bodies g.0 ≡ Some b) (enough : b.arity ≤ length ws) (place : p + 1 ≡ frame.place) (cut : rest ≡ length ws - b.arity) (stack : us ≡ take rest ws) (locals : ts ≡ ls ++ drop rest ws) (frames : fs ≡ gs ++ frame ∷ []) (below : locals_below gs ≡ base) (within : base ≤ length ls) (count : frame.locals ≡ length ls - base) (starts : begin ≡ length ls) where
  abbrev vs : List Value
  vs = values_of hs ls

  abbrev args : List Value
  args = values_of hs (drop rest ws)

  new_stack : stack_of hs us [] ≡ left b.arity (stack_of hs ws [])
  new_stack = ap (λ l. stack_of hs l []) stack ∙ ap (λ n. stack_of hs (take n ws) []) cut ∙ sym (parted hs ws b.arity enough).rest

  new_locals : drop begin (values_of hs ts) ≡ popped b.arity (stack_of hs ws []) []
  new_locals =
      let le : begin ≤ length ls = omega (arith, starts) in
      ap (λ l. drop begin (values_of hs l)) locals ∙ locals_append hs begin ls (drop rest ws) le
      ∙ ap (λ l. l ++ args) (drop_all begin vs (omega (arith, starts, length_values hs ls))) ∙ ap (λ n. values_of hs (drop n ws)) cut ∙ sym (parted hs ws b.arity enough).arguments

  kept : take frame.locals (drop (locals_below gs) (values_of hs ts)) ≡ drop base vs
  kept =
      let low : locals_below gs ≤ length ls = omega (arith, below, within) in
      ap (λ l. take frame.locals (drop (locals_below gs) (values_of hs l))) locals
      ∙ ap (take frame.locals) (locals_append hs (locals_below gs) ls (drop rest ws) low)
      ∙ take_front frame.locals (drop (locals_below gs) vs) args (omega (arith, count, below, length-drop (locals_below gs) vs, length_values hs ls))
      ∙ ap (λ n. drop n vs) below

  new_frames : frames_of (values_of hs ts) fs [] ≡ record { fun = frame.fun.0; place = p + 1; locals = drop base vs } ∷ frames_of vs gs []
  new_frames =
      let low : locals_below gs ≤ length ls = omega (arith, below, within) in
      let others : frames_of (values_of hs ts) gs [] ≡ frames_of vs gs [] = ap (λ l. frames_of (values_of hs l) gs []) locals ∙ frames_append hs gs ls (drop rest ws) low in
      ap (λ l. frames_of (values_of hs ts) l []) frames ∙ frames_snoc (values_of hs ts) gs frame [] ∙ (λ i. record { fun = frame.fun.0; place = sym place i; locals = kept i } ∷ others i)

  pub called_is : (a u k : ℕ) → state (Going g.0 0 (stack_of hs us []) (drop begin (values_of hs ts)) (frames_of (values_of hs ts) fs [])) a u (k + 1) ≡ calls bodies g (state (Going frame.fun.0 p (stack_of hs ws []) (drop base vs) (frames_of vs gs [])) a u k)
  called_is a u k =
      let st = stack_of hs ws [] in
      let back : m.Frame = record { fun = frame.fun.0; place = p + 1; locals = drop base vs } in
      let old = state (Going frame.fun.0 p st (drop base vs) (frames_of vs gs [])) a u k in
      let F : Option Body → State = λ o. moved old (goes (entered o (Going frame.fun.0 p st (drop base vs) (frames_of vs gs [])) (λ n. Going g.0 0 (left n st) (popped n st []) (back ∷ frames_of vs gs [])))) in
      same g.0 0 _ _ _ _ _ _ a u (k + 1) new_stack new_locals new_frames ∙ ap F (sym there)

-- a return: the newest frame goes, and so do the locals of the call
module _ (hs : List Held) (frame : Frame) (base : ℕ) (ls ts : List Word) (gs fs : List Frame) (frames : fs ≡ gs ++ frame ∷ []) (below : locals_below fs ≡ base) (within : base ≤ length ls) (locals : ts ≡ take base ls) where
  pub sum : locals_below gs + frame.locals ≡ base
  sum = omega (arith, below, ap locals_below frames, below_locals_snoc gs frame)

  pub left_frames : frames_of (values_of hs ls) fs [] ≡ record { fun = frame.fun.0; place = frame.place; locals = drop (base - frame.locals) (values_of hs ts) } ∷ frames_of (values_of hs ts) gs []
  left_frames =
      let vs = values_of hs ls in
      let low : locals_below gs ≤ base = omega (arith, sum) in
      let n : base ≡ locals_below gs + frame.locals = omega (arith, sum) in
      let begin : locals_below gs ≡ base - frame.locals = omega (arith, sum) in
      let whole = ap (values_of hs) locals in
      let own : take frame.locals (drop (locals_below gs) vs) ≡ drop (base - frame.locals) (values_of hs ts) =
      sym (locals_take hs (locals_below gs) base frame.locals ls n) ∙ ap (drop (locals_below gs)) (sym whole) ∙ ap (λ k. drop k (values_of hs ts)) begin in
      let others : frames_of vs gs [] ≡ frames_of (values_of hs ts) gs [] = sym (frames_take hs gs ls base low within) ∙ ap (λ l. frames_of l gs []) (sym whole) in
      ap (λ l. frames_of vs l []) frames ∙ frames_snoc vs gs frame [] ∙ (λ i. record { fun = frame.fun.0; place = frame.place; locals = own i } ∷ others i)

-- a machine that has halted, with the meters as a move leaves them
pub halted_same : (v : Value) (a b n : ℕ) → ◌≡◌ {A = State} (state (Halted v) a b n) (state (Halted v) (a + 0) (b + 0) n)
halted_same v a b n =
    let ticks : a ≡ a + 0 = omega arith in
    let cells : b ≡ b + 0 = omega arith in
    λ i. state (Halted v) (ticks i) (cells i) n

pub no_frames : (gs : List Frame) → length gs ≡ 0 → gs ≡ []
no_frames [] e = refl
no_frames (g ∷ gs) e = absurd (omega (arith, e))
