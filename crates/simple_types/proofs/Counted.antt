-- What is left of a number behind the nodes of a type.
use Rattle.std.proofs.Common.{◌≡◌, ℕ, ◌+◌, ◌-◌, ◌≤◌, ◌⊎◌, inl, inr, List, Option, Some, None, SomeIff, sym, ap, subst, ◌∙◌, arith}
use Rattle.raml_syntax.specs.Tree.{Type'}
use Rattle.simple_types.specs.Table.{among, made_from, type_nodes}
use Rattle.simple_types.specs.declared.types.TypeId.{TypeId}
use Rattle.simple_types.specs.declared.types.Node.{Node}
use Rattle.simple_types.specs.declared.types.Node.TheVariants.{Int, Bool as Truth, Pair, List as ListAt, Tree, Opt}

module _ (As : List Type') where
  pub some : (n : Node) → 1 ≤ type_nodes (made_from As n)
  some Int = omega arith
  some Truth = omega arith
  some (Pair a b) = omega arith
  some (ListAt a) = omega arith
  some (Tree a) = omega arith
  some (Opt a) = omega arith

  pub of_none : (n m : Node) → n ≡ m → (n ≡ Int) ⊎ (n ≡ Truth) → type_nodes (made_from As m) ≡ 1
  of_none n m same (inl e) = ap (λ n. type_nodes (made_from As n)) (sym same ∙ e)
  of_none n m same (inr e) = ap (λ n. type_nodes (made_from As n)) (sym same ∙ e)

  pub of_two : (n m : Node) (a b : TypeId) → n ≡ m → n ≡ Pair a b → type_nodes (made_from As m) ≡ 1 + type_nodes (among As a) + type_nodes (among As b)
  of_two n m a b same e = ap (λ n. type_nodes (made_from As n)) (sym same ∙ e)

  pub of_one : (n m : Node) (a : TypeId) → n ≡ m → (n ≡ ListAt a) ⊎ ((n ≡ Tree a) ⊎ (n ≡ Opt a)) → type_nodes (made_from As m) ≡ 1 + type_nodes (among As a)
  of_one n m a same (inl e) = ap (λ n. type_nodes (made_from As n)) (sym same ∙ e)
  of_one n m a same (inr (inl e)) = ap (λ n. type_nodes (made_from As n)) (sym same ∙ e)
  of_one n m a same (inr (inr e)) = ap (λ n. type_nodes (made_from As n)) (sym same ∙ e)

-- the same number is left of both
pub moved : (left : Option ℕ) (m k m' k' : ℕ) → SomeIff left (m ≤ k) (k - m) → (m ≤ k → (m' ≤ k') × (k - m ≡ k' - m')) → (m' ≤ k' → m ≤ k) → SomeIff left (m' ≤ k') (k' - m')
moved None m k m' k' h to from = λ l. h (from l)
moved (Some x) m k m' k' h to from = let l = to h.0 in (l.0, h.1 ∙ l.1)

pub none_left : (left : Option ℕ) (P : Type 0) (v : ℕ) → left ≡ None → (P → ⊥) → SomeIff left P v
none_left left P v e none = subst (λ left. SomeIff left P v) (sym e) none
