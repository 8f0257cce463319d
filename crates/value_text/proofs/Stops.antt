-- Tokens that cannot stand, and goals that can be met.
use Rattle.std.proofs.Common.{◌≡◌, ◌≢◌, ◌≤◌, ◌<◌, ◌+◌, ℕ, List, [], ◌∷◌, Some, None, refl, sym, ap, ◌∙◌, arith}
use Rattle.raml_syntax.specs.Tree.{Type', ListOf}
use Rattle.raml_syntax.specs.Value as v
use Rattle.raml_syntax.specs.Value.{Value, Has, HaveTypes}
use Rattle.value_text.specs.declared.sign.Sign.{Sign}
use Rattle.value_text.specs.declared.sign.Sign.TheVariants as k
use Rattle.value_text.specs.declared.fault.Kind.TheVariants.{Shape, TooDeep}
use Rattle.value_text.specs.Spelling.{Token, Key, spell, spell_tail, spell_more, most_height, AreWithin}
use Rattle.value_text.specs.Goals.{Goal, Value', First, Tail, Sign', More, Pair, Node, Just, paired, noded, justed, joined, pushed, spell_first, Run, seen, Stops, least, begins, AllFit, FitAll, Sane}
use Rattle.value_text.proofs.Front.{head_eq, least_some, least_value, front, none_spelled, begun}

-- the tokens u do not begin with k
abbrev pub IsOther : Sign → List Token → Type 0
IsOther k [] = Unit {0}
IsOther k (t ∷ u) = t ≢ Key k

pub sign_stops : (j : Sign) (G : List Goal) (V : List Value) (u : List Token) → IsOther j u → Stops Shape (Sign' j ∷ G) V u
sign_stops j G V [] differs i q fin r = absurd (let e = r.1 in cc)
sign_stops j G V (t ∷ u) differs i q fin r = differs (head_eq _ _ q r.0 r.1)

pub end_stops : (V : List Value) (t : Token) (u : List Token) → Stops Shape [] V (t ∷ u)
end_stops V t u i q fin r = absurd (let e = r.0 in cc)

pub value_stops_end : (A : Type') (l : ℕ) (G : List Goal) (V : List Value) → Stops Shape (Value' A l ∷ G) V []
value_stops_end A l G V i q fin r = none_spelled r.0 A r.1 r.2 r.4

pub first_stops_end : (A : Type') (l : ℕ) (G : List Goal) (V : List Value) → Stops Shape (First A l ∷ G) V []
first_stops_end A l G V i q fin r = go r.0 r.2 r.4
  where
    go : (x : Value) → Has x (ListOf A) → [] ≡ spell_first x A r.1 → ⊥
    go (v.Cons x y) h e = none_spelled x A (spell_tail y A r.1) h.0 e
    go v.Empty h e = cc
    go _ h e = h

pub tail_stops : (A : Type') (l n : ℕ) (G : List Goal) (V : List Value) (u : List Token) → IsOther k.Comma u → IsOther k.CloseList u → Stops Shape (Tail A l n ∷ G) V u
tail_stops A l n G V u nc ne i q fin r = go u nc ne r.0 r.2 r.4
  where
    go : (u : List Token) → IsOther k.Comma u → IsOther k.CloseList u → (x : Value) → Has x (ListOf A) → seen u q ≡ spell_tail x A r.1 → ⊥
    go [] nc ne (v.Cons x y) h e = cc
    go [] nc ne v.Empty h e = cc
    go (t ∷ u) nc ne (v.Cons x y) h e = nc (head_eq _ _ q _ e)
    go (t ∷ u) nc ne v.Empty h e = ne (head_eq _ _ q _ e)
    go u nc ne _ h e = h

pub shape_stops : (A : Type') (l : ℕ) (G : List Goal) (V : List Value) (t : Token) (b : List Token) → begins A t ≡ None → Stops Shape (Value' A l ∷ G) V (t ∷ b)
shape_stops A l G V t b none i q fin r =
    let f = front r.0 A r.1 r.2 in
    let d : t ≡ f.token = head_eq _ _ q f.rest (r.4 ∙ f.is) in
    let e : None ≡ Some f.depth = sym none ∙ ap (begins A) d ∙ f.found in
    cc

-- what can be read within the height i
abbrev pub Ends : ℕ → Goal → Type 0
Ends i (Value' A l) = least A + l ≤ i
Ends i (First A l) = 1 + l ≤ i
Ends i (Tail A l n) = 1 + l ≤ i
Ends i (More As) = AllFit As
Ends i _ = Unit {0}

abbrev pub EndAll : ℕ → List Goal → Type 0
EndAll i [] = Unit {0}
EndAll i (g ∷ gs) = Ends i g × EndAll i gs

least_values : (i : ℕ) (As : List Type') → most_height ≤ i → AllFit As → (xs : List Value) × HaveTypes xs As × AreWithin i xs
least_values i [] le h = ([], tt, tt)
least_values i (A ∷ As) le h =
    let a = least_value A in
    let r = least_values i As le h.1 in
    let e = a.2 in
    let f = h.0 in
    (a.0 ∷ r.0, (a.1, r.1), (omega (arith, e, f, le), r.2))

pub ends : (i : ℕ) (G : List Goal) (V : List Value) → most_height ≤ i → EndAll i G → (q : List Token) × (fin : List Value) × Run i G V q fin
ends i [] V le h = ([], V, (refl, refl))
ends i (Value' A l ∷ G) V le h =
    let a = least_value A in
    let r = ends i G (a.0 ∷ V) le h.1 in
    let e = a.2 in
    let f = h.0 in
    (spell a.0 A r.0, r.1, (a.0, r.0, a.1, omega (arith, e, f), refl, r.2))
ends i (First A l ∷ G) V le h = let r = ends i G (v.Empty ∷ V) le h.1 in (Key k.CloseList ∷ r.0, r.1, (v.Empty, r.0, tt, h.0, refl, r.2))
ends i (Tail A l n ∷ G) V le h = let r = ends i G (joined n V v.Empty) le h.1 in (Key k.CloseList ∷ r.0, r.1, (v.Empty, r.0, tt, h.0, refl, r.2))
ends i (Sign' j ∷ G) V le h = let r = ends i G V le h.1 in (Key j ∷ r.0, r.1, (r.0, refl, r.2))
ends i (More As ∷ G) V le h =
    let x = least_values i As le h.0 in
    let r = ends i G (pushed x.0 V) le h.1 in
    (spell_more x.0 As r.0, r.1, (x.0, r.0, x.1, x.2, refl, r.2))
ends i (Pair ∷ G) V le h = ends i G (paired V) le h.1
ends i (Node ∷ G) V le h = ends i G (noded V) le h.1
ends i (Just ∷ G) V le h = ends i G (justed V) le h.1

pub ends_fit : (i : ℕ) (G : List Goal) → most_height ≤ i → FitAll G → EndAll i G
ends_fit i [] le h = tt
ends_fit i (Value' A l ∷ G) le h = let f = h.0 in (omega (arith, f, le), ends_fit i G le h.1)
ends_fit i (First A l ∷ G) le h = let f = h.0 in (omega (arith, f, le), ends_fit i G le h.1)
ends_fit i (Tail A l n ∷ G) le h = let f = h.0 in let s = least_some A in (omega (arith, f, le, s), ends_fit i G le h.1)
ends_fit i (Sign' j ∷ G) le h = (tt, ends_fit i G le h.1)
ends_fit i (More As ∷ G) le h = (h.0, ends_fit i G le h.1)
ends_fit i (Pair ∷ G) le h = (tt, ends_fit i G le h.1)
ends_fit i (Node ∷ G) le h = (tt, ends_fit i G le h.1)
ends_fit i (Just ∷ G) le h = (tt, ends_fit i G le h.1)

pub deep_stops : (A : Type') (l : ℕ) (G : List Goal) (V : List Value) (t : Token) (b : List Token) (h : ℕ) → Sane t → begins A t ≡ Some h → most_height < h + l → ((i : ℕ) → most_height ≤ i → EndAll i G) → Stops TooDeep (Value' A l ∷ G) V (t ∷ b)
deep_stops A l G V t b h sane e high rest =
    let i = h + l in
    let le : most_height ≤ i = omega (arith, high) in
    let x = begun A t h sane e in
    let r = ends i G (x.value ∷ V) le (rest i le) in
    let s = x.front r.0 in
    let d = x.high in (
      t,
      b,
      refl,
      (i, s.0, r.1, le, (x.value, r.0, x.has, omega (arith, d), sym s.1, r.2)),
      λ q fin w. (
          let f = front w.0 A w.1 w.2 in
          let same : t ≡ f.token = head_eq _ _ q f.rest (w.4 ∙ f.is) in
          let n : Some h ≡ Some f.depth = sym e ∙ ap (begins A) same ∙ f.found in
          let m : h ≡ f.depth = cc in
          let low = f.low in
          let up = w.3 in
          omega (arith, m, low, up, high)
          ),
    )
