-- From what is to be read to what is then to be read.
use Rattle.std.proofs.Common.{◌≡◌, ◌≤◌, ◌+◌, ℕ, ℤ, suc, List, [], ◌∷◌, Some, refl, sym, ap, subst, ◌∙◌, arith, Bool}
use Rattle.raml_syntax.specs.Tree.{Type', Integer, Boolean, PairOf, ListOf, TreeOf, OptionOf}
use Rattle.raml_syntax.specs.Value as v
use Rattle.raml_syntax.specs.Value.{Value, Has}
use Rattle.value_text.specs.declared.sign.Sign.{Sign}
use Rattle.value_text.specs.declared.sign.Sign.TheVariants as k
use Rattle.value_text.specs.Spelling.{Token, Key, Number, Truth, spell, height, most_height}
use Rattle.value_text.specs.Goals.{Goal, Value', First, Sign', Pair, Node, Just, paired, noded, justed, spell_first, Run, Moves, begins, more_goals, more_values, Sane}
use Rattle.value_text.proofs.Front.{tail_eq}

pub again : (i : ℕ) (G : List Goal) (V W : List Value) (s r : List Token) (fin : List Value) → V ≡ W → s ≡ r → Run i G V s fin → Run i G W r fin
again i G V W s r fin e d h = subst (λ s. Run i G W s fin) d (subst (λ V. Run i G V s fin) e h)

pub sign_moves : (j : Sign) (G : List Goal) (V : List Value) → Moves (Sign' j ∷ G) V (Key j ∷ []) G V
sign_moves j G V = record {
  onward = λ i q fin h. again i G V V h.0 q fin refl (sym (tail_eq _ _ _ _ h.1)) h.2;
  back = λ i q fin le h. (q, refl, h);
}

pub pair_moves : (G : List Goal) (V : List Value) → Moves (Pair ∷ G) V [] G (paired V)
pair_moves G V = record { onward = λ i q fin h. h; back = λ i q fin le h. h }

pub node_moves : (G : List Goal) (V : List Value) → Moves (Node ∷ G) V [] G (noded V)
node_moves G V = record { onward = λ i q fin h. h; back = λ i q fin le h. h }

pub just_moves : (G : List Goal) (V : List Value) → Moves (Just ∷ G) V [] G (justed V)
just_moves G V = record { onward = λ i q fin h. h; back = λ i q fin le h. h }

module _ (i : ℕ) (G : List Goal) (V : List Value) (q : List Token) (fin : List Value) where
  on_integer : (n : ℤ) (l : ℕ) (x : Value) (r : List Token) → Has x Integer → Number n ∷ q ≡ spell x Integer r → Run i G (x ∷ V) r fin → Run i G (v.Number n ∷ V) q fin
  on_integer n l (v.Number m) r h e run = again i G _ _ r q fin (let d : m ≡ n = cc in ap (λ n. v.Number n ∷ V) d) (sym (tail_eq _ _ _ _ e)) run
  on_integer n l _ r h e run = absurd h

  on_truth : (b : Bool) (x : Value) (r : List Token) → Has x Boolean → Truth b ∷ q ≡ spell x Boolean r → Run i G (x ∷ V) r fin → Run i G (v.Truth b ∷ V) q fin
  on_truth b (v.Truth d) r h e run = again i G _ _ r q fin (let d : d ≡ b = cc in ap (λ n. v.Truth n ∷ V) d) (sym (tail_eq _ _ _ _ e)) run
  on_truth b _ r h e run = absurd h

  on_pair : (A B : Type') (l : ℕ) (x : Value) (r : List Token) → Has x (PairOf A B) → height x + l ≤ i → Key k.Open ∷ q ≡ spell x (PairOf A B) r → Run i G (x ∷ V) r fin → Run i (Value' A (suc l) ∷ Sign' k.Comma ∷ Value' B (suc l) ∷ Sign' k.Close ∷ Pair ∷ G) V q fin
  on_pair A B l (v.Both x y) r h le e run =
      (x, Key k.Comma ∷ spell y B (Key k.Close ∷ r), h.0, omega (arith, le), tail_eq _ _ _ _ e, (spell y B (Key k.Close ∷ r), refl, (y, Key k.Close ∷ r, h.1, omega (arith, le), refl, (r, refl, run))))
  on_pair A B l _ r h le e run = absurd h

  back_pair : (A B : Type') (l : ℕ) → Run i (Value' A (suc l) ∷ Sign' k.Comma ∷ Value' B (suc l) ∷ Sign' k.Close ∷ Pair ∷ G) V q fin → Run i (Value' (PairOf A B) l ∷ G) V (Key k.Open ∷ q) fin
  back_pair A B l h =
      let two = h.5.2 in
      let a = h.3 in
      let b = two.3 in
      let e : q ≡ spell h.0 A (Key k.Comma ∷ spell two.0 B (Key k.Close ∷ two.5.0)) = h.4 ∙ ap (spell h.0 A) (h.5.1 ∙ ap (λ s. Key k.Comma ∷ s) (two.4 ∙ ap (spell two.0 B) two.5.1)) in
      (v.Both h.0 two.0, two.5.0, (h.2, two.2), omega (arith, a, b), ap (λ s. Key k.Open ∷ s) e, two.5.2)

  on_list : (A : Type') (l : ℕ) (x : Value) (r : List Token) → Has x (ListOf A) → height x + l ≤ i → Key k.OpenList ∷ q ≡ spell x (ListOf A) r → Run i G (x ∷ V) r fin → Run i (First A l ∷ G) V q fin
  on_list A l v.Empty r h le e run = (v.Empty, r, tt, le, tail_eq _ _ _ _ e, run)
  on_list A l (v.Cons x y) r h le e run = (v.Cons x y, r, h, le, tail_eq _ _ _ _ e, run)
  on_list A l _ r h le e run = absurd h

  back_list : (A : Type') (l : ℕ) (x : Value) (r : List Token) → Has x (ListOf A) → height x + l ≤ i → q ≡ spell_first x A r → Run i G (x ∷ V) r fin → Run i (Value' (ListOf A) l ∷ G) V (Key k.OpenList ∷ q) fin
  back_list A l v.Empty r h le e run = (v.Empty, r, tt, le, ap (λ s. Key k.OpenList ∷ s) e, run)
  back_list A l (v.Cons x y) r h le e run = (v.Cons x y, r, h, le, ap (λ s. Key k.OpenList ∷ s) e, run)
  back_list A l _ r h le e run = absurd h

  on_none : (A : Type') (x : Value) (r : List Token) → Has x (OptionOf A) → Key k.Nothing ∷ q ≡ spell x (OptionOf A) r → Run i G (x ∷ V) r fin → Run i G (v.Empty ∷ V) q fin
  on_none A v.Empty r h e run = again i G _ _ r q fin refl (sym (tail_eq _ _ _ _ e)) run
  on_none A (v.Just x) r h e run = absurd (cc)
  on_none A _ r h e run = absurd h

  on_leaf : (A : Type') (x : Value) (r : List Token) → Has x (TreeOf A) → Key k.Leaf ∷ q ≡ spell x (TreeOf A) r → Run i G (x ∷ V) r fin → Run i G (v.Empty ∷ V) q fin
  on_leaf A v.Empty r h e run = again i G _ _ r q fin refl (sym (tail_eq _ _ _ _ e)) run
  on_leaf A (v.Node x y z) r h e run = absurd (cc)
  on_leaf A _ r h e run = absurd h

  on_node : (A : Type') (l : ℕ) (x : Value) (r : List Token) → Has x (TreeOf A) → height x + l ≤ i → Key k.Node ∷ q ≡ spell x (TreeOf A) r → Run i G (x ∷ V) r fin → Run i (Sign' k.Open ∷ Value' A (suc l) ∷ Sign' k.Comma ∷ Value' (TreeOf A) (suc l) ∷ Sign' k.Comma ∷ Value' (TreeOf A) (suc l) ∷ Sign' k.Close ∷ Node ∷ G) V q fin
  on_node A l (v.Node x y z) r h le e run =
      let s3 = Key k.Close ∷ r in
      let s2 = Key k.Comma ∷ spell z (TreeOf A) s3 in
      let s1 = Key k.Comma ∷ spell y (TreeOf A) s2 in
      (spell x A s1, tail_eq _ _ _ _ e, (x, s1, h.0, omega (arith, le), refl, (spell y (TreeOf A) s2, refl, (y, s2, h.1, omega (arith, le), refl, (spell z (TreeOf A) s3, refl, (z, s3, h.2, omega (arith, le), refl, (r, refl, run)))))))
  on_node A l v.Empty r h le e run = absurd (cc)
  on_node A l _ r h le e run = absurd h

  back_node : (A : Type') (l : ℕ) → Run i (Sign' k.Open ∷ Value' A (suc l) ∷ Sign' k.Comma ∷ Value' (TreeOf A) (suc l) ∷ Sign' k.Comma ∷ Value' (TreeOf A) (suc l) ∷ Sign' k.Close ∷ Node ∷ G) V q fin → Run i (Value' (TreeOf A) l ∷ G) V (Key k.Node ∷ q) fin
  back_node A l h =
      let one = h.2 in
      let two = one.5.2 in
      let three = two.5.2 in
      let a = one.3 in
      let b = two.3 in
      let c = three.3 in
      let T = TreeOf A in
      let e3 = ap (λ s. Key k.Comma ∷ s) (three.4 ∙ ap (spell three.0 T) three.5.1) in
      let e2 = ap (λ s. Key k.Comma ∷ s) (two.4 ∙ ap (spell two.0 T) (two.5.1 ∙ e3)) in
      let e1 = one.4 ∙ ap (spell one.0 A) (one.5.1 ∙ e2) in
      (v.Node one.0 two.0 three.0, three.5.0, (one.2, two.2, three.2), omega (arith, a, b, c), ap (λ s. Key k.Node ∷ s) (h.1 ∙ ap (λ s. Key k.Open ∷ s) e1), three.5.2)

  on_some : (A : Type') (l : ℕ) (x : Value) (r : List Token) → Has x (OptionOf A) → height x + l ≤ i → Key k.Just ∷ q ≡ spell x (OptionOf A) r → Run i G (x ∷ V) r fin → Run i (Sign' k.Open ∷ Value' A (suc l) ∷ Sign' k.Close ∷ Just ∷ G) V q fin
  on_some A l (v.Just x) r h le e run = (spell x A (Key k.Close ∷ r), tail_eq _ _ _ _ e, (x, Key k.Close ∷ r, h, omega (arith, le), refl, (r, refl, run)))
  on_some A l v.Empty r h le e run = absurd (cc)
  on_some A l _ r h le e run = absurd h

  back_some : (A : Type') (l : ℕ) → Run i (Sign' k.Open ∷ Value' A (suc l) ∷ Sign' k.Close ∷ Just ∷ G) V q fin → Run i (Value' (OptionOf A) l ∷ G) V (Key k.Just ∷ q) fin
  back_some A l h =
      let one = h.2 in
      let a = one.3 in
      let e = one.4 ∙ ap (spell one.0 A) one.5.1 in
      (v.Just one.0, one.5.0, one.2, omega (arith, a), ap (λ s. Key k.Just ∷ s) (h.1 ∙ ap (λ s. Key k.Open ∷ s) e), one.5.2)

-- behind the first token of a value
pub begin_moves : (A : Type') (l : ℕ) (t : Token) (h : ℕ) (G : List Goal) (V : List Value) → Sane t → begins A t ≡ Some h → h + l ≤ most_height → Moves (Value' A l ∷ G) V (t ∷ []) (more_goals A l t G) (more_values t V)
begin_moves Integer l (Number n) h G V sane e le = let d : 1 ≡ h = cc in record {
  onward = λ i q fin r. on_integer i G V q fin n l r.0 r.1 r.2 r.4 r.5;
  back = λ i q fin high r. (v.Number n, q, sane, omega (arith, le, d, high), refl, r);
}
begin_moves Boolean l (Truth b) h G V sane e le = let d : 1 ≡ h = cc in record {
  onward = λ i q fin r. on_truth i G V q fin b r.0 r.1 r.2 r.4 r.5;
  back = λ i q fin high r. (v.Truth b, q, tt, omega (arith, le, d, high), refl, r);
}
begin_moves (PairOf A B) l (Key k.Open) h G V sane e le = record {
  onward = λ i q fin r. on_pair i G V q fin A B l r.0 r.1 r.2 r.3 r.4 r.5;
  back = λ i q fin high r. back_pair i G V q fin A B l r;
}
begin_moves (ListOf A) l (Key k.OpenList) h G V sane e le = record {
  onward = λ i q fin r. on_list i G V q fin A l r.0 r.1 r.2 r.3 r.4 r.5;
  back = λ i q fin high r. back_list i G V q fin A l r.0 r.1 r.2 r.3 r.4 r.5;
}
begin_moves (TreeOf A) l (Key k.Leaf) h G V sane e le = let d : 1 ≡ h = cc in record {
  onward = λ i q fin r. on_leaf i G V q fin A r.0 r.1 r.2 r.4 r.5;
  back = λ i q fin high r. (v.Empty, q, tt, omega (arith, le, d, high), refl, r);
}
begin_moves (TreeOf A) l (Key k.Node) h G V sane e le = record {
  onward = λ i q fin r. on_node i G V q fin A l r.0 r.1 r.2 r.3 r.4 r.5;
  back = λ i q fin high r. back_node i G V q fin A l r;
}
begin_moves (OptionOf A) l (Key k.Nothing) h G V sane e le = let d : 1 ≡ h = cc in record {
  onward = λ i q fin r. on_none i G V q fin A r.0 r.1 r.2 r.4 r.5;
  back = λ i q fin high r. (v.Empty, q, tt, omega (arith, le, d, high), refl, r);
}
begin_moves (OptionOf A) l (Key k.Just) h G V sane e le = record {
  onward = λ i q fin r. on_some i G V q fin A l r.0 r.1 r.2 r.3 r.4 r.5;
  back = λ i q fin high r. back_some i G V q fin A l r;
}
begin_moves _ l _ h G V sane e le = absurd (cc)
