-- Lists, element by element.
use Rattle.std.proofs.Common.{◌≡◌, ◌≢◌, ◌≤◌, ◌+◌, ℕ, suc, List, [], ◌∷◌, refl, sym, ap, ◌∙◌, arith}
use Rattle.raml_syntax.specs.Tree.{Type', ListOf}
use Rattle.raml_syntax.specs.Value as v
use Rattle.raml_syntax.specs.Value.{Value, Has}
use Rattle.value_text.specs.declared.sign.Sign.TheVariants as k
use Rattle.value_text.specs.declared.fault.Kind.{Kind}
use Rattle.value_text.specs.declared.fault.Kind.TheVariants.{Shape, TooDeep}
use Rattle.value_text.specs.Spelling.{Token, Key, spell, spell_tail, height, most_height}
use Rattle.value_text.specs.Goals.{Goal, Value', First, Tail, joined, spell_first, Run, Moves, Stops}
use Rattle.value_text.proofs.Front.{tail_eq, head_eq, no_end}
use Rattle.value_text.proofs.Moves.{again}

module _ (i : ℕ) (G : List Goal) (V : List Value) (q : List Token) (fin : List Value) where
  on_first_end : (A : Type') (x : Value) (r : List Token) → Has x (ListOf A) → Key k.CloseList ∷ q ≡ spell_first x A r → Run i G (x ∷ V) r fin → Run i G (v.Empty ∷ V) q fin
  on_first_end A v.Empty r h e run = again i G _ _ r q fin refl (sym (tail_eq _ _ _ _ e)) run
  on_first_end A (v.Cons x y) r h e run = absurd (no_end x A q (spell_tail y A r) h.0 e)
  on_first_end A _ r h e run = absurd h

  on_tail_end : (A : Type') (n : ℕ) (x : Value) (r : List Token) → Has x (ListOf A) → Key k.CloseList ∷ q ≡ spell_tail x A r → Run i G (joined n V x) r fin → Run i G (joined n V v.Empty) q fin
  on_tail_end A n v.Empty r h e run = again i G _ _ r q fin refl (sym (tail_eq _ _ _ _ e)) run
  on_tail_end A n (v.Cons x y) r h e run = absurd (cc)
  on_tail_end A n _ r h e run = absurd h

  on_tail : (A : Type') (l n : ℕ) (x : Value) (r : List Token) → Has x (ListOf A) → height x + l ≤ i → Key k.Comma ∷ q ≡ spell_tail x A r → Run i G (joined n V x) r fin → Run i (Value' A (suc l) ∷ Tail A l (suc n) ∷ G) V q fin
  on_tail A l n (v.Cons x y) r h le e run = (x, spell_tail y A r, h.0, omega (arith, le), tail_eq _ _ _ _ e, (y, r, h.1, omega (arith, le), refl, run))
  on_tail A l n v.Empty r h le e run = absurd (cc)
  on_tail A l n _ r h le e run = absurd h

  -- an element and the rest of a list
  on_first : (A : Type') (l : ℕ) (x : Value) (r : List Token) → Has x (ListOf A) → height x + l ≤ i → q ≡ spell_first x A r → (t : Token) (b : List Token) → q ≡ t ∷ b → t ≢ Key k.CloseList → Run i G (x ∷ V) r fin → Run i (Value' A (suc l) ∷ Tail A l 1 ∷ G) V q fin
  on_first A l (v.Cons x y) r h le e t b is differs run = (x, spell_tail y A r, h.0, omega (arith, le), e, (y, r, h.1, omega (arith, le), refl, run))
  on_first A l v.Empty r h le e t b is differs run = absurd (differs (head_eq _ _ b r (sym is ∙ e)))
  on_first A l _ r h le e t b is differs run = absurd h

pub first_end_moves : (A : Type') (l : ℕ) (G : List Goal) (V : List Value) → 1 + l ≤ most_height → Moves (First A l ∷ G) V (Key k.CloseList ∷ []) G (v.Empty ∷ V)
first_end_moves A l G V le = record {
  onward = λ i q fin r. on_first_end i G V q fin A r.0 r.1 r.2 r.4 r.5;
  back = λ i q fin high r. (v.Empty, q, tt, omega (arith, le, high), refl, r);
}

pub tail_end_moves : (A : Type') (l n : ℕ) (G : List Goal) (V : List Value) → 1 + l ≤ most_height → Moves (Tail A l n ∷ G) V (Key k.CloseList ∷ []) G (joined n V v.Empty)
tail_end_moves A l n G V le = record {
  onward = λ i q fin r. on_tail_end i G V q fin A n r.0 r.1 r.2 r.4 r.5;
  back = λ i q fin high r. (v.Empty, q, tt, omega (arith, le, high), refl, r);
}

pub tail_moves : (A : Type') (l n : ℕ) (G : List Goal) (V : List Value) → Moves (Tail A l n ∷ G) V (Key k.Comma ∷ []) (Value' A (suc l) ∷ Tail A l (suc n) ∷ G) V
tail_moves A l n G V = record {
  onward = λ i q fin r. on_tail i G V q fin A l n r.0 r.1 r.2 r.3 r.4 r.5;
  back = λ i q fin high r. (
      let t = r.5 in
      let a = r.3 in
      let b = t.3 in
      (v.Cons r.0 t.0, t.1, (r.2, t.2), omega (arith, a, b), ap (λ s. Key k.Comma ∷ s) (r.4 ∙ ap (spell r.0 A) t.4), t.5)
      );
}

back_first : (i : ℕ) (A : Type') (l : ℕ) (G : List Goal) (V : List Value) (q : List Token) (fin : List Value) → Run i (Value' A (suc l) ∷ Tail A l 1 ∷ G) V q fin → Run i (First A l ∷ G) V q fin
back_first i A l G V q fin r =
    let t = r.5 in
    let a = r.3 in
    let b = t.3 in
    (v.Cons r.0 t.0, t.1, (r.2, t.2), omega (arith, a, b), r.4 ∙ ap (spell r.0 A) t.4, t.5)

-- what begins an element begins the list behind `[`
pub first_moves : (A : Type') (l : ℕ) (G : List Goal) (V : List Value) (t : Token) (G' : List Goal) (V' : List Value) → t ≢ Key k.CloseList → Moves (Value' A (suc l) ∷ Tail A l 1 ∷ G) V (t ∷ []) G' V' → Moves (First A l ∷ G) V (t ∷ []) G' V'
first_moves A l G V t G' V' differs m = record {
  onward = λ i q fin r. m.onward i q fin (on_first i G V (t ∷ q) fin A l r.0 r.1 r.2 r.3 r.4 t q refl differs r.5);
  back = λ i q fin high r. back_first i A l G V (t ∷ q) fin (m.back i q fin high r);
}

pub first_stops : (j : Kind) (A : Type') (l : ℕ) (G : List Goal) (V : List Value) (t : Token) (b : List Token) → t ≢ Key k.CloseList → Stops j (Value' A (suc l) ∷ Tail A l 1 ∷ G) V (t ∷ b) → Stops j (First A l ∷ G) V (t ∷ b)
first_stops Shape A l G V t b differs s = λ i q fin r. s i q fin (on_first i G V (t ∷ q) fin A l r.0 r.1 r.2 r.3 r.4 t q refl differs r.5)
first_stops TooDeep A l G V t b differs s =
    let some = s.3 in
    let same : t ≡ s.0 = head_eq _ _ b s.1 s.2 in (
      s.0,
      s.1,
      s.2,
      (some.0, some.1, some.2, some.3, back_first some.0 A l G V (s.0 ∷ some.1) some.2 some.4),
      λ q fin r. s.4 q fin (on_first most_height G V (s.0 ∷ q) fin A l r.0 r.1 r.2 r.3 r.4 s.0 q refl (λ e. differs (same ∙ e)) r.5),
    )
