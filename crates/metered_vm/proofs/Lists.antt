-- What the lists of a machine stand for, as they grow and shrink.
use Rattle.std.proofs.Common.{◌≡◌, ℕ, zero, suc, ◌+◌, ◌<◌, ◌≤◌, List, [], ◌∷◌, ◌++◌, length, get_or, take, drop, refl, sym, ap, subst, ◌∙◌, arith, length-drop, length-take}
use Rattle.std.proofs.lemmas.List.{take-append-drop, drop-drop}
use Rattle.raml_syntax.specs.Value.{Value}
use Rattle.value_text.specs.declared.word.Word.{Word}
use Rattle.value_text.specs.Heap.{IsBelow}
use Rattle.value_text.specs.Held.{Held, value_of}
use Rattle.value_text.proofs.Earlier.{below_more}
use Rattle.stack_compile.specs.Machine as m
use Rattle.stack_compile.specs.Machine.{local}
use Rattle.metered_vm.specs.declared.machine.Frame.{Frame}
use Rattle.metered_vm.specs.Running.{values_of, stack_of, locals_below, frames_of, AllBelow}

pub stack_snoc : (hs : List Held) (ws : List Word) (w : Word) (vs : List Value) → stack_of hs (ws ++ w ∷ []) vs ≡ value_of hs w ∷ stack_of hs ws vs
stack_snoc hs [] w vs = refl
stack_snoc hs (x ∷ ws) w vs = stack_snoc hs ws w (value_of hs x ∷ vs)

pub length_stack : (hs : List Held) (ws : List Word) (vs : List Value) → length (stack_of hs ws vs) ≡ length ws + length vs
length_stack hs [] vs = omega arith
length_stack hs (x ∷ ws) vs = omega (arith, length_stack hs ws (value_of hs x ∷ vs))

pub length_values : (hs : List Held) (ws : List Word) → length (values_of hs ws) ≡ length ws
length_values hs [] = refl
length_values hs (x ∷ ws) = omega (arith, length_values hs ws)

values_append : (hs : List Held) (ws us : List Word) → values_of hs (ws ++ us) ≡ values_of hs ws ++ values_of hs us
values_append hs [] us = refl
values_append hs (x ∷ ws) us = ap (λ l. value_of hs x ∷ l) (values_append hs ws us)

pub values_take : (hs : List Held) (n : ℕ) (ws : List Word) → values_of hs (take n ws) ≡ take n (values_of hs ws)
values_take hs zero ws = refl
values_take hs (suc n) [] = refl
values_take hs (suc n) (x ∷ ws) = ap (λ l. value_of hs x ∷ l) (values_take hs n ws)

drop_append : (n : ℕ) (vs us : List Value) → n ≤ length vs → drop n (vs ++ us) ≡ drop n vs ++ us
drop_append zero vs us h = refl
drop_append (suc n) [] us h = absurd (omega (arith, h))
drop_append (suc n) (v ∷ vs) us h = drop_append n vs us (omega (arith, h))

take_append : (n : ℕ) (vs us : List Value) → n ≤ length vs → take n (vs ++ us) ≡ take n vs
take_append zero vs us h = refl
take_append (suc n) [] us h = absurd (omega (arith, h))
take_append (suc n) (v ∷ vs) us h = ap (λ l. v ∷ l) (take_append n vs us (omega (arith, h)))

-- locals behind the others: they come behind those of the newest call
pub locals_append : (hs : List Held) (base : ℕ) (ws us : List Word) → base ≤ length ws → drop base (values_of hs (ws ++ us)) ≡ drop base (values_of hs ws) ++ values_of hs us
locals_append hs base ws us h =
    ap (drop base) (values_append hs ws us) ∙ drop_append base (values_of hs ws) (values_of hs us) (omega (arith, h, length_values hs ws))

front : (vs us : List Value) (gs : List Frame) (fs : List m.Frame) → locals_below gs ≤ length vs → frames_of (vs ++ us) gs fs ≡ frames_of vs gs fs
front vs us [] fs h = refl
front vs us (g ∷ gs) fs h =
    let first : g.locals ≤ length vs = omega (arith, h) in
    let rest : locals_below gs ≤ length (drop g.locals vs) = omega (arith, h, length-drop g.locals vs) in
    let frame : List Value → List m.Frame = λ l. record { fun = g.fun.0; place = g.place; locals = l } ∷ fs in
    (λ i. frames_of (drop_append g.locals vs us first i) gs (frame (take_append g.locals vs us first i))) ∙ front (drop g.locals vs) us gs (frame (take g.locals vs)) rest

-- and change no frame
pub frames_append : (hs : List Held) (gs : List Frame) (ws us : List Word) → locals_below gs ≤ length ws → frames_of (values_of hs (ws ++ us)) gs [] ≡ frames_of (values_of hs ws) gs []
frames_append hs gs ws us h =
    ap (λ l. frames_of l gs []) (values_append hs ws us) ∙ front (values_of hs ws) (values_of hs us) gs [] (omega (arith, h, length_values hs ws))

split : (n : ℕ) (vs : List Value) → vs ≡ take n vs ++ drop n vs
split n vs = sym (take-append-drop n vs)

-- nor does it when locals behind those of the frames go
pub frames_take : (hs : List Held) (gs : List Frame) (ws : List Word) (n : ℕ) → locals_below gs ≤ n → n ≤ length ws → frames_of (values_of hs (take n ws)) gs [] ≡ frames_of (values_of hs ws) gs []
frames_take hs gs ws n h le =
    let vs = values_of hs ws in
    let enough : locals_below gs ≤ length (take n vs) = omega (arith, h, le, length-take n vs, length_values hs ws) in
    ap (λ l. frames_of l gs []) (values_take hs n ws) ∙ sym (front (take n vs) (drop n vs) gs [] enough) ∙ ap (λ l. frames_of l gs []) (sym (split n vs))

abbrev no_values : List Value
no_values = []

take_none : (k : ℕ) → no_values ≡ take k no_values
take_none zero = refl
take_none (suc k) = refl

take_drop : (n k : ℕ) (vs : List Value) → drop n (take (n + k) vs) ≡ take k (drop n vs)
take_drop zero k vs = let same : 0 + k ≡ k = omega arith in ap (λ j. take j vs) same
take_drop (suc n) k [] = let same : suc n + k ≡ suc (n + k) = omega arith in ap (λ j. drop (suc n) (take j no_values)) same ∙ take_none k
take_drop (suc n) k (v ∷ vs) = let same : suc n + k ≡ suc (n + k) = omega arith in ap (λ j. drop (suc n) (take j (v ∷ vs))) same ∙ take_drop n k vs

-- locals taken away
pub locals_take : (hs : List Held) (base n k : ℕ) (ws : List Word) → n ≡ base + k → drop base (values_of hs (take n ws)) ≡ take k (drop base (values_of hs ws))
locals_take hs base n k ws is = ap (drop base) (values_take hs n ws) ∙ ap (λ j. drop base (take j (values_of hs ws))) is ∙ take_drop base k (values_of hs ws)

-- a frame more
pub frames_snoc : (vs : List Value) (gs : List Frame) (g : Frame) (fs : List m.Frame) → frames_of vs (gs ++ g ∷ []) fs ≡ record { fun = g.fun.0; place = g.place; locals = take g.locals (drop (locals_below gs) vs) } ∷ frames_of vs gs fs
frames_snoc vs [] g fs = refl
frames_snoc vs (x ∷ gs) g fs =
    let frame : m.Frame = record { fun = x.fun.0; place = x.place; locals = take x.locals vs } in
    frames_snoc (drop x.locals vs) gs g (frame ∷ fs) ∙ ap (λ l. record { fun = g.fun.0; place = g.place; locals = take g.locals l } ∷ frames_of vs (x ∷ gs) fs) (drop-drop (locals_below gs) x.locals vs)

pub below_locals_snoc : (gs : List Frame) (g : Frame) → locals_below (gs ++ g ∷ []) ≡ locals_below gs + g.locals
below_locals_snoc [] g = omega arith
below_locals_snoc (x ∷ gs) g = omega (arith, below_locals_snoc gs g)

-- a local by its number
local_at : (hs : List Held) (ws : List Word) (base i : ℕ) (d : Word) → base + i < length ws → local (drop base (values_of hs ws)) i ≡ value_of hs (get_or ws (base + i) d)
local_at hs [] base i d h = absurd (omega (arith, h))
local_at hs (x ∷ ws) zero zero d h = let same : 0 + 0 ≡ 0 = omega arith in ap (λ k. value_of hs (get_or (x ∷ ws) k d)) (sym same)
local_at hs (x ∷ ws) zero (suc i) d h =
    let same : suc (0 + i) ≡ 0 + suc i = omega arith in
    local_at hs ws zero i d (omega (arith, h)) ∙ ap (λ k. value_of hs (get_or (x ∷ ws) k d)) same
local_at hs (x ∷ ws) (suc base) i d h =
    let same : suc (base + i) ≡ suc base + i = omega arith in
    local_at hs ws base i d (omega (arith, h)) ∙ ap (λ k. value_of hs (get_or (x ∷ ws) k d)) same

pub local_is : (hs : List Held) (ws : List Word) (base i : ℕ) (w : Word) → w ≡ get_or ws (base + i) w → base + i < length ws → local (drop base (values_of hs ws)) i ≡ value_of hs w
local_is hs ws base i w is h = local_at hs ws base i w h ∙ ap (value_of hs) (sym is)

-- words that name cells that are there
pub below_snoc : (n : ℕ) (ws : List Word) (w : Word) → AllBelow n ws → IsBelow n w → AllBelow n (ws ++ w ∷ [])
below_snoc n [] w h k = (k, tt)
below_snoc n (x ∷ ws) w h k = (h.0, below_snoc n ws w h.1 k)

below_init : (n : ℕ) (ws : List Word) (w : Word) → AllBelow n (ws ++ w ∷ []) → AllBelow n ws × IsBelow n w
below_init n [] w h = (tt, h.0)
below_init n (x ∷ ws) w h = let r = below_init n ws w h.1 in ((h.0, r.0), r.1)

-- of a list that is known by an equation
pub below_init_is : (n : ℕ) (ws us : List Word) (w : Word) → us ≡ ws ++ w ∷ [] → AllBelow n us → AllBelow n ws
below_init_is n ws us w e h = (below_init n ws w (subst (AllBelow n) e h)).0

pub below_last_is : (n : ℕ) (ws us : List Word) (w : Word) → us ≡ ws ++ w ∷ [] → AllBelow n us → IsBelow n w
below_last_is n ws us w e h = (below_init n ws w (subst (AllBelow n) e h)).1

pub below_append : (n : ℕ) (ws us : List Word) → AllBelow n ws → AllBelow n us → AllBelow n (ws ++ us)
below_append n [] us h k = k
below_append n (x ∷ ws) us h k = (h.0, below_append n ws us h.1 k)

pub below_take : (n k : ℕ) (ws : List Word) → AllBelow n ws → AllBelow n (take k ws)
below_take n zero ws h = tt
below_take n (suc k) [] h = tt
below_take n (suc k) (w ∷ ws) h = (h.0, below_take n k ws h.1)

pub below_drop : (n k : ℕ) (ws : List Word) → AllBelow n ws → AllBelow n (drop k ws)
below_drop n zero ws h = h
below_drop n (suc k) [] h = tt
below_drop n (suc k) (w ∷ ws) h = below_drop n k ws h.1

pub below_get : (n k : ℕ) (ws : List Word) (w : Word) → w ≡ get_or ws k w → k < length ws → AllBelow n ws → IsBelow n w
below_get n k [] w e lt h = absurd (omega (arith, lt))
below_get n zero (x ∷ ws) w e lt h = subst (IsBelow n) (sym e) h.0
below_get n (suc k) (x ∷ ws) w e lt h = below_get n k ws w e (omega (arith, lt)) h.1

pub all_more : (n m : ℕ) (ws : List Word) → n ≤ m → AllBelow n ws → AllBelow m ws
all_more n m [] le h = tt
all_more n m (w ∷ ws) le h = (below_more n m w le h.0, all_more n m ws le h.1)
