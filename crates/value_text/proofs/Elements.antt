-- Elements of a list that are one token each.
use Rattle.std.proofs.Common.{◌≡◌, ◌≤◌, ◌+◌, ℕ, suc, List, [], ◌∷◌, ◌++◌, Some, refl, sym, ap, subst, ◌∙◌, arith, append_assoc}
use Rattle.raml_syntax.specs.Tree.{Type', Integer, Boolean, Text}
use Rattle.raml_syntax.specs.Value.{Value}
use Rattle.value_text.specs.declared.word.Word.{Word}
use Rattle.value_text.specs.declared.word.Word.TheVariants as w
use Rattle.value_text.specs.Heap.{IsBelow}
use Rattle.value_text.specs.Held.{Held, value_of}
use Rattle.value_text.specs.declared.sign.Sign.TheVariants as k
use Rattle.value_text.specs.declared.goal.Goal as d
use Rattle.value_text.specs.declared.goal.Goal.TheVariants as o
use Rattle.std.specs.Borrow.{Bor}
use Rattle.raml_syntax.specs.Read.{ty_of}
use Rattle.raml_syntax.specs.declared.ty.Ty.{Ty}
use Rattle.value_text.specs.Spelling.{Token, Key, Number, Truth, most_height, sizes}
use Rattle.value_text.specs.Lexing.{Placed, placed, kinds}
use Rattle.value_text.specs.Goals.{Goal, Value', Tail, Moves, begins, more_goals, more_values, FitAll}
use Rattle.value_text.specs.State.{goals_of, values_in, scalar_word, IsItem, AreItems, TurnedTo, AllBelow}
use Rattle.value_text.proofs.Front.{least_some}
use Rattle.value_text.proofs.Moves.{begin_moves}
use Rattle.value_text.proofs.Lists.{tail_moves}
use Rattle.value_text.proofs.States.{values_snoc, below_snoc, goals_snoc}
use Rattle.value_text.proofs.Whole.{stay, after, kinds_more}

-- a token that is a whole value without cells
record Scalar (A : Type') (t : Token) (word : Word) : Type 0 where
  begun : begins A t ≡ Some 1
  no_goals : (l : ℕ) (gs : List Goal) → more_goals A l t gs ≡ gs
  value : (hs : List Held) (vs : List Value) → more_values t vs ≡ value_of hs word ∷ vs
  empty : (hs : List Held) (vs : List Value) → sizes (value_of hs word ∷ vs) ≡ sizes vs
  below : (i : ℕ) → IsBelow i word

scalar_is : (A : Type') (t : Token) (word : Word) → scalar_word A t ≡ Some word → Scalar A t word
scalar_is Integer (Number m) word e =
    let is : w.Int m ≡ word = cc in
    subst (Scalar Integer (Number m)) is (record { begun = refl; no_goals = λ l gs. refl; value = λ hs vs. refl; empty = λ hs vs. omega arith; below = λ i. tt })
scalar_is Boolean (Truth b) word e =
    let is : w.Bool b ≡ word = cc in
    subst (Scalar Boolean (Truth b)) is (record { begun = refl; no_goals = λ l gs. refl; value = λ hs vs. refl; empty = λ hs vs. omega arith; below = λ i. tt })
scalar_is _ _ word e = absurd (cc)

pub no_items : (A : Type') (vs : List Value) (s : Text) → AreItems A 0 vs s vs s
no_items A vs s = record { taken = []; split = refl; moves = λ l m gs le. subst (λ k. Moves (Tail A l m ∷ gs) vs [] (Tail A l k ∷ gs) vs) (omega arith) (stay (Tail A l m ∷ gs) vs); same = refl; less = omega arith }

module _ (A : Type') (s' s'' : Text) (word : Word) (item : IsItem A s' word s'') where
  item_moves : (hs : List Held) (vs : List Value) (l m : ℕ) (gs : List Goal) → suc (suc l) ≤ most_height → Moves (Tail A l m ∷ gs) vs (Key k.Comma ∷ item.token ∷ []) (Tail A l (suc m) ∷ gs) (value_of hs word ∷ vs)
  item_moves hs vs l m gs le =
      let scalar = scalar_is A item.token word item.scalar in
      let G = Tail A l (suc m) ∷ gs in
      let begin = begin_moves A (suc l) item.token 1 G vs item.sane scalar.begun (omega (arith, le)) in
      let step : Moves (Value' A (suc l) ∷ G) vs (item.token ∷ []) G (value_of hs word ∷ vs) = subst (λ V. Moves (Value' A (suc l) ∷ G) vs (item.token ∷ []) G V) (scalar.value hs vs) (subst (λ H. Moves (Value' A (suc l) ∷ G) vs (item.token ∷ []) H (more_values item.token vs)) (scalar.no_goals (suc l) G) begin) in
      after _ _ _ _ _ _ (Key k.Comma ∷ []) (item.token ∷ []) (tail_moves A l m gs vs) step

  -- one more
  pub more_items : (hs : List Held) (n : ℕ) (ws ws' ws'' : List Word) (s : Text) → ws'' ≡ ws' ++ word ∷ [] → AreItems A n (values_in hs ws []) s (values_in hs ws' []) s' → AreItems A (n + 1) (values_in hs ws []) s (values_in hs ws'' []) s''
  more_items hs n ws ws' ws'' s is h =
      let V = values_in hs ws [] in
      let V' = values_in hs ws' [] in
      let vs : value_of hs word ∷ V' ≡ values_in hs ws'' [] = sym (ap (λ l. values_in hs l []) is ∙ values_snoc hs ws' word []) in
      let scalar = scalar_is A item.token word item.scalar in
      let new : List Placed = (record { left = item.before; token = Key k.Comma }) ∷ (record { left = item.at; token = item.token }) ∷ [] in
      let a = h.less in
      let b = item.less in
      record {
        taken = h.taken ++ new;
        split = h.split ∙ ap (λ l. h.taken ++ l) item.tokens ∙ sym (append_assoc h.taken new (placed s''));
        moves = λ l m gs le. (
            let two = after _ _ _ _ _ _ _ _ (h.moves l m gs le) (item_moves hs V' l (m + n) gs le) in
            let c = sym (kinds_more h.taken new) in
            let e : suc (m + n) ≡ m + (n + 1) = omega arith in
            subst (λ c. Moves (Tail A l m ∷ gs) V c (Tail A l (m + (n + 1)) ∷ gs) (values_in hs ws'' [])) c
            (subst (λ j. Moves (Tail A l m ∷ gs) V (kinds h.taken ++ Key k.Comma ∷ item.token ∷ []) (Tail A l j ∷ gs) (values_in hs ws'' [])) e
            (subst (λ W. Moves (Tail A l m ∷ gs) V (kinds h.taken ++ Key k.Comma ∷ item.token ∷ []) (Tail A l (suc (m + n)) ∷ gs) W) vs two))
            );
        same = ap sizes (sym vs) ∙ scalar.empty hs V' ∙ h.same;
        less = omega (arith, a, b);
      }

  pub below_items : (i : ℕ) (ws ws' : List Word) → ws' ≡ ws ++ word ∷ [] → AllBelow i ws → AllBelow i ws'
  below_items i ws ws' is h = subst (AllBelow i) (sym is) (below_snoc i ws word h ((scalar_is A item.token word item.scalar).below i))

pub items_turned : (A : Type') (E : Bor Ty) (l m n p : ℕ) (xs zs : List d.Goal) (V V' : List Value) (s s' : Text) → A ≡ ty_of E.now → FitAll (Tail A l m ∷ goals_of xs) → AreItems A n V s V' s' → 1 ≤ n → p ≡ m + n → zs ≡ xs ++ o.Tail E l p ∷ [] → TurnedTo (Tail A l m) (goals_of xs) V s (goals_of zs) V' s'
items_turned A E l m n p xs zs V V' s s' ea fits h some ep ez =
    let G = goals_of xs in
    let e : goals_of zs ≡ Tail A l (m + n) ∷ G = ap goals_of ez ∙ goals_snoc xs (o.Tail E l p) [] ∙ (λ i. Tail (sym ea i) l (ep i) ∷ G) in
    let one = least_some A in
    let low = fits.0 in
    let b = h.less in
    let c = h.same in
    subst (λ G'. TurnedTo (Tail A l m) G V s G' V' s') (sym e) (record {
      taken = h.taken;
      split = h.split;
      moves = h.moves l m G (omega (arith, one, low));
      fits = fits;
      cost = omega (arith, b, c, some);
      less = omega (arith, b, some);
    })
