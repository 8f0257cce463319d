-- The weighted sum of numbers is that of the signatures that they give.
use Rattle.std.proofs.Common.{◌≡◌, refl, ap, sym, ◌∙◌, arith, subst}
use Rattle.std.specs.Prelude.{ℕ, zero, suc, ◌+◌, ◌*◌, ◌^◌, ◌<◌, ℤ, pos, ◌+ℤ◌, ◌*ℤ◌, List, [], ◌∷◌, ◌++◌, map, length, replicate, slice_get, Option, Some}
use Rattle.std.proofs.lemmas.Int.{ints}
use Rattle.linear_rows.specs.Vectors.{dot}
use Rattle.base_poly.specs.Plain.{Plain, degrees}
use Rattle.base_poly.specs.Indices.{index_list}
use Rattle.index_shift.specs.Potential.{Annotation, weighed}
use Rattle.normal_spec.specs.Norm.{NormFun}
use Rattle.normal_spec.specs.Context.{types}
use Rattle.cost_free.specs.Task.{Task}
use Rattle.annot_types.specs.Program.{Program}
use Rattle.annot_types.specs.Certificate.{annotation, Sig, Block}
use Rattle.annot_types.specs.Least.{args_weight, group_weight}
use Rattle.annot_types.specs.Rows.{size as size_of}
use Rattle.annot_types.specs.System.{args_of, result_of, sig_weights}
use Rattle.rules_spec.specs.Numbers.{Sides}
use Rattle.rules_spec.specs.Kinds.{Amount, amounts}
use Rattle.rules_spec.specs.Walk.{at}
use Rattle.rules_spec.specs.Asked.{given}
use Rattle.rules_spec.specs.Tasks.{sides_given}
use Rattle.rules_spec.specs.Solving.{amount}
use Rattle.rules_spec.specs.Found.{listed, amounts_of, signature, sides, group_from}
use Rattle.rules_spec.proofs.Finding.{amounts_stand}
use Rattle.rules_spec.specs.Told.{number_in}
use Rattle.annot_types.proofs.Lists.{length_map}
use Rattle.rules_systems_laws.proofs.Functions.{budget, here, body, bodies, Ready}

-- the products with the numbers in order, summed up
by_numbers : List ℤ → (ℕ → ℕ) → ℤ
by_numbers [] y = pos 0
by_numbers (w ∷ ws) y = w *ℤ pos (y 0) +ℤ by_numbers ws (λ k. y (suc k))

no_numbers : (ws : List ℤ) → by_numbers ws (λ k. 0) ≡ pos 0
unfolding by_numbers
no_numbers [] = refl
no_numbers (w ∷ ws) = let h = no_numbers ws in let z : w *ℤ pos 0 ≡ pos 0 = grind (arith, ints) in (λ i. z i +ℤ h i)

dot_is : (ws : List ℤ) (x : List ℕ) → dot ws (map pos x) ≡ by_numbers ws (number_in x)
unfolding by_numbers
dot_is [] x = refl
dot_is (w ∷ ws) [] = sym (no_numbers (w ∷ ws))
dot_is (w ∷ ws) (n ∷ x) = ap (λ z. w *ℤ pos n +ℤ z) (dot_is ws x)

by_append : (vs ws : List ℤ) (y : ℕ → ℕ) → by_numbers (vs ++ ws) y ≡ by_numbers vs y +ℤ by_numbers ws (λ k. y (length vs + k))
unfolding by_numbers
by_append [] ws y = let e : pos 0 +ℤ by_numbers ws y ≡ by_numbers ws y = grind (arith, ints) in sym e ∙ ap (λ (f : ℕ → ℕ). pos 0 +ℤ by_numbers ws (λ k. y (f k))) (λ i k. nothing_more k i) where
  nothing_more : (k : ℕ) → k ≡ 0 + k
  nothing_more k = omega arith
by_append (v ∷ vs) ws y =
    ap (λ z. v *ℤ pos (y 0) +ℤ z) (by_append vs ws (λ k. y (suc k)) ∙ (λ i. by_numbers vs (λ k. y (suc k)) +ℤ by_numbers ws (λ k. y (next (length vs) k i))))
    ∙ along (v *ℤ pos (y 0)) (by_numbers vs (λ k. y (suc k))) (by_numbers ws (λ k. y (suc (length vs) + k))) where
      next : (n k : ℕ) → suc (n + k) ≡ suc n + k
      next n k = omega arith

      along : (a b c : ℤ) → a +ℤ (b +ℤ c) ≡ (a +ℤ b) +ℤ c
      along a b c = omega (arith, ints)

by_zeros : (n : ℕ) (y : ℕ → ℕ) → by_numbers (replicate n (pos 0)) y ≡ pos 0
unfolding by_numbers
by_zeros zero y = refl
by_zeros (suc n) y = let h = by_zeros n (λ k. y (suc k)) in let z : pos 0 *ℤ pos (y 0) ≡ pos 0 = grind (arith, ints) in (λ i. z i +ℤ h i)

by_tuples : (f : List Plain → ℕ) (ts : List (List Plain)) (y : ℕ → ℕ) → by_numbers (map (λ t. pos (f t)) ts) y ≡ pos (weighed f ts y)
unfolding by_numbers
by_tuples f [] y = refl
by_tuples f (t ∷ ts) y = ap (λ z. pos (f t) *ℤ pos (y 0) +ℤ z) (by_tuples f ts (λ k. y (suc k))) ∙ ap (λ m. pos (m + weighed f ts (λ k. y (suc k)))) (let e : f t * y 0 ≡ y 0 * f t = grind arith in e)

weighed_same : (f : List Plain → ℕ) (ts : List (List Plain)) (q r : Annotation) → ((k : ℕ) → k < length ts → q k ≡ r k) → weighed f ts q ≡ weighed f ts r
weighed_same f [] q r h = refl
weighed_same f (t ∷ ts) q r h = λ i. h 0 (omega arith) i * f t + weighed_same f ts (λ k. q (suc k)) (λ k. r (suc k)) (λ k l. h (suc k) (omega (arith, l))) i

length_zeros : (n : ℕ) → length (replicate n (pos 0)) ≡ n
length_zeros zero = refl
length_zeros (suc n) = ap suc (length_zeros n)

pub given_at : (x : List ℕ) (from n k : ℕ) → k < n → at (amounts 1) (given (amount x) from n) k ≡ amount x (from + k)
given_at x from zero k h = absurd (omega (arith, h))
given_at x from (suc n) zero h = ap (amount x) (omega arith)
given_at x from (suc n) (suc k) h = given_at x (suc from) n k (omega (arith, h)) ∙ ap (amount x) (omega arith)

-- numbers that give the entries of an annotation
pub given_are : (x : List ℕ) (from n : ℕ) (q : Annotation) → given (amount x) from n ≡ amounts_of (listed n q) → (k : ℕ) → k < n → number_in x (from + k) ≡ q k
given_are x from n q e k h =
    let s = (amounts_stand n q).is k h in
    let z = sym (given_at x from n k h) ∙ ap (λ l. at (amounts 1) l k) e in
    let p = ap (λ (a : Amount). a.plus) z in
    let m = ap (λ (a : Amount). a.minus) z in
    omega (arith, s, p, m)

cons_head : {X : Type 0} (x y : X) (xs ys : List X) → x ∷ xs ≡ y ∷ ys → x ≡ y
cons_head x y xs ys e = cc

cons_tail : {X : Type 0} (x y : X) (xs ys : List X) → x ∷ xs ≡ y ∷ ys → xs ≡ ys
cons_tail x y xs ys e = cc

module _ (P : Program) (d : ℕ) (earlier : List Block) (task : Task) (scale : ℕ) (sigs : List Sig) (x : List ℕ) where
  abbrev within : ℕ
  within = budget P d earlier task scale

  abbrev of_rank : List Plain → ℕ
  of_rank t = 10 ^ degrees t

  abbrev numbers_from : ℕ → ℕ → ℕ
  numbers_from from k = number_in x (from + k)

  -- the weights of one function, and those behind them
  one_weighed : (from : ℕ) (g : NormFun) (s : Sig) (rest : List ℤ) (others : ℕ) →
      given (amount x) from (size_of (types g.params) within) ≡ amounts_of (listed (size_of (types g.params) within) (annotation s.args)) →
      by_numbers rest (numbers_from (from + (size_of (types g.params) within + size_of (g.result ∷ []) within))) ≡ pos others →
      by_numbers (map (λ t. pos (of_rank t)) (index_list (types g.params) within) ++ (replicate (size_of (g.result ∷ []) within) (pos 0) ++ rest)) (numbers_from from)
      ≡ pos (weighed of_rank (index_list (types g.params) within) (annotation s.args) + others)
  one_weighed from g s rest others e h =
      let ts = index_list (types g.params) within in
      let args = map (λ t. pos (of_rank t)) ts in
      let zeros = replicate (size_of (g.result ∷ []) within) (pos 0) in
      by_append args (zeros ++ rest) (numbers_from from)
      ∙ (λ i. (by_tuples of_rank ts (numbers_from from) ∙ ap pos (weighed_same of_rank ts (numbers_from from) (annotation s.args) (given_are x from (length ts) (annotation s.args) e))) i
      +ℤ (by_append zeros rest (λ k. number_in x (from + (length args + k)))
      ∙ (λ j. by_zeros (size_of (g.result ∷ []) within) (λ k. number_in x (from + (length args + k))) j
      +ℤ by_numbers rest (λ k. number_in x (place (length args) (length zeros) k (length_map (λ t. pos (of_rank t)) ts) (length_zeros (size_of (g.result ∷ []) within)) j)))
      ∙ ap (λ z. pos 0 +ℤ z) h) i)
      ∙ ap (λ n. pos (weighed of_rank ts (annotation s.args) + n)) (let z : 0 + others ≡ others = omega arith in z) where
        place : (m n k : ℕ) → m ≡ size_of (types g.params) within → n ≡ size_of (g.result ∷ []) within →
            from + (m + (n + k)) ≡ (from + (size_of (types g.params) within + size_of (g.result ∷ []) within)) + k
        place m n k a b = omega (arith, a, b)

  group_weighed : (from : ℕ) (fs : List ℕ) (ss : List Sig) → Ready P d earlier task scale fs → sides_given (amount x) from (bodies P d earlier task scale fs) ≡ group_from (here P d earlier task scale sigs) fs ss →
      by_numbers (sig_weights P within fs) (numbers_from from) ≡ pos (group_weight P within fs ss)
  unfolding by_numbers
  group_weighed from [] ss ready e = refl
  group_weighed from (f ∷ fs) [] ready e = absurd (cc)
  group_weighed from (f ∷ fs) (s ∷ ss) ready e =
      let g = ready.0.fun in
      let there = ready.0.there in
      let b = body P d earlier task scale (slice_get P.funs f) in
      let first = cons_head _ _ _ _ e in
      let size = λ (o : Option NormFun). let b = body P d earlier task scale o in b.args + b.result in
      let rest = group_weighed (from + (b.args + b.result)) fs ss ready.2 (cons_tail _ _ _ _ e) in
      let whole = λ (o : Option NormFun). map (λ t. pos (of_rank t)) (index_list (args_of o) within) ++ (replicate (size_of (result_of o) within) (pos 0) ++ sig_weights P within fs) in
      (λ i. by_numbers (whole (there i)) (numbers_from from))
      ∙ one_weighed from g s (sig_weights P within fs) (group_weight P within fs ss)
      (subst (λ o. given (amount x) from (body P d earlier task scale o).args ≡ (sides (signature o within (Some s))).args) there (ap (λ (a : Sides Amount). a.args) first))
      ((λ i. by_numbers (sig_weights P within fs) (numbers_from (from + size (sym there i)))) ∙ rest)
      ∙ (λ i. pos (args_weight (sym there i) within s + group_weight P within fs ss))

  -- all weights, and then zeros
  pub all_weighed : (fs : List ℕ) (ss : List Sig) (zeros : ℕ) → Ready P d earlier task scale fs → sides_given (amount x) 0 (bodies P d earlier task scale fs) ≡ group_from (here P d earlier task scale sigs) fs ss →
      dot (sig_weights P within fs ++ replicate zeros (pos 0)) (map pos x) ≡ pos (group_weight P within fs ss)
  all_weighed fs ss zeros ready e =
      let ws = sig_weights P within fs in
      dot_is (ws ++ replicate zeros (pos 0)) x ∙ by_append ws (replicate zeros (pos 0)) (number_in x)
      ∙ (λ i. by_numbers ws (λ k. number_in x (nothing_more k i)) +ℤ by_zeros zeros (λ k. number_in x (length ws + k)) i)
      ∙ ap (λ z. z +ℤ pos 0) (group_weighed 0 fs ss ready e) ∙ alone (group_weight P within fs ss) where
        nothing_more : (k : ℕ) → k ≡ 0 + k
        nothing_more k = omega arith

        alone : (n : ℕ) → pos n +ℤ pos 0 ≡ pos n
        alone n = grind (arith, ints)
