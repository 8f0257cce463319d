-- Each variable of a context is used once on each path, and types fit.
use Rattle.std.specs.Prelude.{◌≡◌, ◌≤◌, ◌<◌, ◌+◌, ℕ, nat_eq, cond, List, [], ◌∷◌, ◌++◌, Some, slice_get, FitsSigned}
use Rattle.std.specs.Int.{w64}
use Rattle.raml_syntax.specs.Tree.{Type', Integer, Boolean, PairOf, ListOf, TreeOf, OptionOf}
use Rattle.raml_syntax.specs.Types.{IsListType, IsTreeType, IsOptionType}
use Rattle.normal_spec.specs.Norm as n
use Rattle.normal_spec.specs.Norm.{NormFun, NormProg, nodes_of}
pub use Rattle.normal_spec.specs.Context.{Context, types, IsIn, without, opened, parts_of, copies_of, inners, others, AreNew, Distinct}

-- the operands, of these types, are the whole context
abbrev pub Takes : Context → List ℕ → List Type' → Type 0
Takes C [] [] = C ≡ []
Takes C (x ∷ xs) (A ∷ As) = IsIn x A C × Takes (without x C) xs As
Takes C _ _ = ⊥

abbrev pub types_of : NormFun → List Type'
types_of g = types g.params

-- how often a number is bound
abbrev pub once : ℕ → ℕ → ℕ
once c x = cond (nat_eq c x) 1 0

abbrev pub binds : ℕ → n.Norm → ℕ
binds c (n.Let k x A a b) = once c x + (binds c a + binds c b)
binds c (n.Split k x p q a) = once c p + (once c q + binds c a)
binds c (n.If k x a b) = binds c a + binds c b
binds c (n.CaseList k x a h t b) = binds c a + (once c h + (once c t + binds c b))
binds c (n.CaseTree k x a h l r b) = binds c a + (once c h + (once c l + (once c r + binds c b)))
binds c (n.CaseOption k x a w b) = binds c a + (once c w + binds c b)
binds c (n.Tick k i a) = binds c a
binds c (n.Share k x p q a) = once c p + (once c q + binds c a)
binds c (n.Drop k x a) = binds c a
binds c _ = 0

abbrev pub times : ℕ → Context → ℕ
times c [] = 0
times c (b ∷ C) = once c b.0 + times c C

-- the nodes of the first form that is no Share and no Drop
abbrev pub first_nodes : n.Norm → ℕ
first_nodes (n.Share k x p q a) = first_nodes a
first_nodes (n.Drop k x a) = first_nodes a
first_nodes e = nodes_of e

module _ (N : NormProg) where
  -- the form uses each variable of the context once on each path, and has the type
  abbrev pub Uses : Context → n.Norm → Type' → Type 0
  Uses C (n.Var k x) T = Takes C (x ∷ []) (T ∷ [])
  Uses C (n.Number k i) T = (T ≡ Integer) × FitsSigned w64 i × Takes C [] []
  Uses C (n.Truth k b) T = (T ≡ Boolean) × Takes C [] []
  Uses C (n.Nil k) T = IsListType T × Takes C [] []
  Uses C (n.Leaf k) T = IsTreeType T × Takes C [] []
  Uses C (n.Nothing k) T = IsOptionType T × Takes C [] []
  Uses C (n.Arith k op x y) T = (T ≡ Integer) × Takes C (x ∷ y ∷ []) (Integer ∷ Integer ∷ [])
  Uses C (n.Compare k op x y) T = (T ≡ Boolean) × Takes C (x ∷ y ∷ []) (Integer ∷ Integer ∷ [])
  Uses C (n.Not k x) T = (T ≡ Boolean) × Takes C (x ∷ []) (Boolean ∷ [])
  Uses C (n.Pair k x y) T = (A : Type') × (B : Type') × (T ≡ PairOf A B) × Takes C (x ∷ y ∷ []) (A ∷ B ∷ [])
  Uses C (n.Cons k x y) T = (A : Type') × (T ≡ ListOf A) × Takes C (x ∷ y ∷ []) (A ∷ ListOf A ∷ [])
  Uses C (n.Node k x y z) T = (A : Type') × (T ≡ TreeOf A) × Takes C (x ∷ y ∷ z ∷ []) (A ∷ TreeOf A ∷ TreeOf A ∷ [])
  Uses C (n.Just k x) T = (A : Type') × (T ≡ OptionOf A) × Takes C (x ∷ []) (A ∷ [])
  Uses C (n.Call k f xs) T = (g : NormFun) × (slice_get N f ≡ Some g) × (T ≡ g.result) × Takes C xs (types_of g)
  Uses C (n.Let k x A a b) T = AreNew (x ∷ []) C × Uses (inners a C) a A × Uses (others a C ++ (x, A) ∷ []) b T
  Uses C (n.Split k x p q a) T =
      (A : Type') × (B : Type') × IsIn x (PairOf A B) C × AreNew (p ∷ q ∷ []) C × Uses (opened x (p ∷ q ∷ []) parts_of C) a T
  Uses C (n.If k x a b) T = IsIn x Boolean C × Uses (without x C) a T × Uses (without x C) b T
  Uses C (n.CaseList k x a h t b) T =
      (A : Type') × IsIn x (ListOf A) C × AreNew (h ∷ t ∷ []) C × Uses (without x C) a T × Uses (opened x (h ∷ t ∷ []) parts_of C) b T
  Uses C (n.CaseTree k x a h l r b) T =
      (A : Type') × IsIn x (TreeOf A) C × AreNew (h ∷ l ∷ r ∷ []) C × Uses (without x C) a T
      × Uses (opened x (h ∷ l ∷ r ∷ []) parts_of C) b T
  Uses C (n.CaseOption k x a w b) T =
      (A : Type') × IsIn x (OptionOf A) C × AreNew (w ∷ []) C × Uses (without x C) a T × Uses (opened x (w ∷ []) parts_of C) b T
  Uses C (n.Tick k i a) T = Uses C a T
  Uses C (n.Share k x p q a) T = (A : Type') × IsIn x A C × AreNew (p ∷ q ∷ []) C × Uses (opened x (p ∷ q ∷ []) copies_of C) a T
  Uses C (n.Drop k x a) T = (A : Type') × IsIn x A C × Uses (without x C) a T

  -- A function's body uses its parameters. Every variable is bound once in the function, and a run of it costs some work.
  pub record IsNormal (g : NormFun) : Type 0 where
    pub params : Distinct g.params
    pub body : Uses g.params g.body g.result
    pub bound_once : (c : ℕ) → times c g.params + binds c g.body ≤ 1
    pub counted : 0 < first_nodes g.body
