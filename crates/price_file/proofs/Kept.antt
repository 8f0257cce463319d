-- What a program in which prices are written out keeps of the program.
use Rattle.std.proofs.Common.{◌≡◌, ◌≤◌, ◌+◌, ◌*◌, ℕ, suc, List, [], ◌∷◌, map, length, Bool, true, false, cond, refl, sym, ap, subst, ◌∙◌, arith}
use Rattle.std.specs.Prelude.{nat_eq}
use Rattle.std.specs.Option.{option_map}
use Rattle.std.specs.List.{All}
use Rattle.std.proofs.lemmas.List.Elements.{All-nil, All-cons, All-head, All-tail}
use Rattle.raml_syntax.specs.Tree as t
use Rattle.raml_syntax.specs.Tree.{Text, Type', Integer, Boolean, PairOf, ListOf, TreeOf, OptionOf, Bound, Parameter, Function, Prog}
use Rattle.raml_syntax.specs.Eval.{names_of}
use Rattle.raml_syntax.specs.Types.{Context, bind_types, types_of, Differ, Way, Finding, Checking, HasType, CheckEach, Checks, Typed}
use Rattle.raml_syntax.specs.Node.{nodes, nodes_of_all, program_nodes, AllNodes, AllOf, NumberFits, TickFits, FewArguments, count, WithinLimits}
use Rattle.price_file.specs.Construct as c
use Rattle.price_file.specs.Construct.{Construct, Prices}
use Rattle.price_file.specs.Listed.{AreSmall}
use Rattle.price_file.specs.Applied.{behind_ticks, applied, applied_all, applied_function, applied_program}
use Rattle.price_file.specs.Laws.{AppliedKeepsPrograms}
use Rattle.price_file.proofs.CostSame.{find_applied}

-- a tick has the type of what it stands before
typed_behind : (P : Prog) (k p : ℕ) (e : t.Term) (way : Way) (G : Context) (T : Type') → HasType P way G e T → HasType P way G (behind_ticks k p e) T
typed_behind P k p e way G T h = by (nat_eq k 0)
  where
    by : (b : Bool) → HasType P way G (cond b e (t.Tick p k e)) T
    by true = h
    by false = h

module _ (prices : Prices) (P : Prog) where
  mutual
    type_kept : (e : t.Term) (way : Way) (G : Context) (T : Type') → HasType P way G e T → HasType (applied_program prices P) way G (applied prices e) T
    type_kept (t.Number p n) way G T h = typed_behind (applied_program prices P) (prices c.Number) p (t.Number p n) way G T h
    type_kept (t.Truth p b) way G T h = typed_behind (applied_program prices P) (prices c.Truth) p (t.Truth p b) way G T h
    type_kept (t.Nil p) way G T h = typed_behind (applied_program prices P) (prices c.Nil) p (t.Nil p) way G T h
    type_kept (t.Leaf p) way G T h = typed_behind (applied_program prices P) (prices c.Leaf) p (t.Leaf p) way G T h
    type_kept (t.Nothing p) way G T h = typed_behind (applied_program prices P) (prices c.Nothing) p (t.Nothing p) way G T h
    type_kept (t.Var p x) way G T h = typed_behind (applied_program prices P) (prices c.Var) p (t.Var p x) way G T h
    type_kept (t.Arith p o a b) way G T h =
        typed_behind (applied_program prices P) (prices c.Arith) p (t.Arith p o (applied prices a) (applied prices b)) way G T
        (h.0, type_kept a Checking G Integer h.1, type_kept b Checking G Integer h.2)
    type_kept (t.Compare p o a b) way G T h =
        typed_behind (applied_program prices P) (prices c.Compare) p (t.Compare p o (applied prices a) (applied prices b)) way G T
        (h.0, type_kept a Checking G Integer h.1, type_kept b Checking G Integer h.2)
    type_kept (t.Not p a) way G T h =
        typed_behind (applied_program prices P) (prices c.Not) p (t.Not p (applied prices a)) way G T (h.0, type_kept a Checking G Boolean h.1)
    type_kept (t.Pair p a b) way G T h =
        typed_behind (applied_program prices P) (prices c.Pair) p (t.Pair p (applied prices a) (applied prices b)) way G T
        (h.0, h.1, h.2, type_kept a way G h.0 h.3, type_kept b way G h.1 h.4)
    type_kept (t.Cons p a b) way G T h =
        typed_behind (applied_program prices P) (prices c.Cons) p (t.Cons p (applied prices a) (applied prices b)) way G T
        (h.0, h.1, type_kept a way G h.0 h.2, type_kept b Checking G (ListOf h.0) h.3)
    type_kept (t.Node p a b d) way G T h =
        typed_behind (applied_program prices P) (prices c.Node) p (t.Node p (applied prices a) (applied prices b) (applied prices d)) way G T
        (h.0, h.1, type_kept a way G h.0 h.2, type_kept b Checking G (TreeOf h.0) h.3, type_kept d Checking G (TreeOf h.0) h.4)
    type_kept (t.Just p a) way G T h =
        typed_behind (applied_program prices P) (prices c.Just) p (t.Just p (applied prices a)) way G T (h.0, h.1, type_kept a way G h.0 h.2)
    type_kept (t.Call p f args) way G T h =
        typed_behind (applied_program prices P) (prices c.Call) p (t.Call p f (applied_all prices args)) way G T
        (applied_function prices h.0, find_applied prices P f ∙ ap (option_map (applied_function prices)) h.1, h.2, types_kept args G (types_of h.0) h.3)
    type_kept (t.Let p x a b) way G T h =
        typed_behind (applied_program prices P) (prices c.Let) p (t.Let p x (applied prices a) (applied prices b)) way G T
        (h.0, type_kept a Finding G h.0 h.1, type_kept b way ((x.name, h.0) ∷ G) T h.2)
    type_kept (t.LetPair p x y a b) way G T h =
        typed_behind (applied_program prices P) (prices c.Let) p (t.LetPair p x y (applied prices a) (applied prices b)) way G T
        (h.0, h.1, h.2, type_kept a Finding G (PairOf h.0 h.1) h.3, type_kept b way ((y.name, h.1) ∷ (x.name, h.0) ∷ G) T h.4)
    type_kept (t.If p d a b) way G T h =
        typed_behind (applied_program prices P) (prices c.If) p (t.If p (applied prices d) (applied prices a) (applied prices b)) way G T
        (type_kept d Checking G Boolean h.0, type_kept a way G T h.1, type_kept b Checking G T h.2)
    type_kept (t.MatchList p d a x y b) way G T h =
        typed_behind (applied_program prices P) (prices c.Match) p (t.MatchList p (applied prices d) (applied prices a) x y (applied prices b)) way G T
        (h.0, h.1, type_kept d Finding G (ListOf h.0) h.2, type_kept a way G T h.3, type_kept b Checking ((y.name, ListOf h.0) ∷ (x.name, h.0) ∷ G) T h.4)
    type_kept (t.MatchTree p d a x y z b) way G T h =
        typed_behind (applied_program prices P) (prices c.Match) p (t.MatchTree p (applied prices d) (applied prices a) x y z (applied prices b)) way G T
        (h.0, h.1, type_kept d Finding G (TreeOf h.0) h.2, type_kept a way G T h.3, type_kept b Checking ((z.name, TreeOf h.0) ∷ (y.name, TreeOf h.0) ∷ (x.name, h.0) ∷ G) T h.4)
    type_kept (t.MatchOption p d a x b) way G T h =
        typed_behind (applied_program prices P) (prices c.Match) p (t.MatchOption p (applied prices d) (applied prices a) x (applied prices b)) way G T
        (h.0, type_kept d Finding G (OptionOf h.0) h.1, type_kept a way G T h.2, type_kept b Checking ((x.name, h.0) ∷ G) T h.3)
    type_kept (t.Tick p k a) way G T h =
        typed_behind (applied_program prices P) (prices c.Tick) p (t.Tick p k (applied prices a)) way G T (type_kept a way G T h)
    type_kept (t.Typed p a A) way G T h = (h.0, type_kept a Checking G A h.1)

    types_kept : (es : t.Terms) (G : Context) (As : List Type') → CheckEach P G es As → CheckEach (applied_program prices P) G (applied_all prices es) As
    types_kept t.None G [] h = h
    types_kept t.None G (A ∷ As) h = h
    types_kept (t.More a rest) G [] h = h
    types_kept (t.More a rest) G (A ∷ As) h = (type_kept a Checking G A h.0, types_kept rest G As h.1)

names_kept : (prices : Prices) (P : Prog) → map (λ (g : Function). g.name) (applied_program prices P) ≡ map (λ (g : Function). g.name) P
names_kept prices [] = refl
names_kept prices (g ∷ P) = ap (λ (names : List Text). g.name ∷ names) (names_kept prices P)

-- what each function keeps, all of them keep
all_kept : (prices : Prices) (Q R : Function → Type 0) → ((g : Function) → Q g → R (applied_function prices g)) → (P : Prog) → All Q P → All R (applied_program prices P)
all_kept prices Q R keep [] h = All-nil R
all_kept prices Q R keep (g ∷ P) h = All-cons R (applied_function prices g) (applied_program prices P) (keep g (All-head Q g P h)) (all_kept prices Q R keep P (All-tail Q g P h))

pub typed_kept : (prices : Prices) (P : Prog) → Typed P → Typed (applied_program prices P)
typed_kept prices P h = record {
  functions = subst Differ (sym (names_kept prices P)) h.functions;
  parameters = all_kept prices (λ g. Differ (names_of g)) (λ g. Differ (names_of g)) (λ g d. d) P h.parameters;
  bodies = all_kept prices (λ (g : Function). Checks P (bind_types [] g.params) g.body g.result)
      (λ (g : Function). Checks (applied_program prices P) (bind_types [] g.params) g.body g.result)
      (λ g d. type_kept prices P g.body Checking (bind_types [] g.params) g.result d) P h.bodies;
}

pub length_kept : (prices : Prices) (P : Prog) → length (applied_program prices P) ≡ length P
length_kept prices [] = refl
length_kept prices (g ∷ P) = ap suc (length_kept prices P)

pub params_kept : (prices : Prices) (P : Prog) → All (λ (g : Function). length g.params ≤ 8) P → All (λ (g : Function). length g.params ≤ 8) (applied_program prices P)
params_kept prices P h = all_kept prices (λ (g : Function). length g.params ≤ 8) (λ (g : Function). length g.params ≤ 8) (λ g d. d) P h

-- the expression over parts in which prices are written out, without its own
abbrev over_parts : Prices → t.Term → t.Term
over_parts prices (t.Number p n) = t.Number p n
over_parts prices (t.Truth p b) = t.Truth p b
over_parts prices (t.Nil p) = t.Nil p
over_parts prices (t.Leaf p) = t.Leaf p
over_parts prices (t.Nothing p) = t.Nothing p
over_parts prices (t.Var p x) = t.Var p x
over_parts prices (t.Arith p o a b) = t.Arith p o (applied prices a) (applied prices b)
over_parts prices (t.Compare p o a b) = t.Compare p o (applied prices a) (applied prices b)
over_parts prices (t.Not p a) = t.Not p (applied prices a)
over_parts prices (t.Pair p a b) = t.Pair p (applied prices a) (applied prices b)
over_parts prices (t.Cons p a b) = t.Cons p (applied prices a) (applied prices b)
over_parts prices (t.Node p a b d) = t.Node p (applied prices a) (applied prices b) (applied prices d)
over_parts prices (t.Just p a) = t.Just p (applied prices a)
over_parts prices (t.Call p f args) = t.Call p f (applied_all prices args)
over_parts prices (t.Let p x a b) = t.Let p x (applied prices a) (applied prices b)
over_parts prices (t.LetPair p x y a b) = t.LetPair p x y (applied prices a) (applied prices b)
over_parts prices (t.If p d a b) = t.If p (applied prices d) (applied prices a) (applied prices b)
over_parts prices (t.MatchList p d a x y b) = t.MatchList p (applied prices d) (applied prices a) x y (applied prices b)
over_parts prices (t.MatchTree p d a x y z b) = t.MatchTree p (applied prices d) (applied prices a) x y z (applied prices b)
over_parts prices (t.MatchOption p d a x b) = t.MatchOption p (applied prices d) (applied prices a) x (applied prices b)
over_parts prices (t.Tick p k a) = t.Tick p k (applied prices a)
over_parts prices (t.Typed p a A) = t.Typed p (applied prices a) A

-- a fact of nodes that no change of a node's parts touches, and that every tick of a price has
module _ (prices : Prices) (Q : t.Term → Type 0) (keep : (e : t.Term) → Q e → Q (over_parts prices e)) (tick : (construct : Construct) (p : ℕ) (e : t.Term) → Q (t.Tick p (prices construct) e)) where
  all_behind : (construct : Construct) (p : ℕ) (e : t.Term) → AllNodes Q e → AllNodes Q (behind_ticks (prices construct) p e)
  all_behind construct p e h = by (nat_eq (prices construct) 0)
    where
      by : (b : Bool) → AllNodes Q (cond b e (t.Tick p (prices construct) e))
      by true = h
      by false = (tick construct p e, h)

  mutual
    nodes_kept : (e : t.Term) → AllNodes Q e → AllNodes Q (applied prices e)
    nodes_kept (t.Number p n) h = all_behind c.Number p (t.Number p n) (keep (t.Number p n) h)
    nodes_kept (t.Truth p b) h = all_behind c.Truth p (t.Truth p b) (keep (t.Truth p b) h)
    nodes_kept (t.Nil p) h = all_behind c.Nil p (t.Nil p) (keep (t.Nil p) h)
    nodes_kept (t.Leaf p) h = all_behind c.Leaf p (t.Leaf p) (keep (t.Leaf p) h)
    nodes_kept (t.Nothing p) h = all_behind c.Nothing p (t.Nothing p) (keep (t.Nothing p) h)
    nodes_kept (t.Var p x) h = all_behind c.Var p (t.Var p x) (keep (t.Var p x) h)
    nodes_kept (t.Arith p o a b) h =
        all_behind c.Arith p (t.Arith p o (applied prices a) (applied prices b)) (keep (t.Arith p o a b) h.0, nodes_kept a h.1, nodes_kept b h.2)
    nodes_kept (t.Compare p o a b) h =
        all_behind c.Compare p (t.Compare p o (applied prices a) (applied prices b)) (keep (t.Compare p o a b) h.0, nodes_kept a h.1, nodes_kept b h.2)
    nodes_kept (t.Not p a) h = all_behind c.Not p (t.Not p (applied prices a)) (keep (t.Not p a) h.0, nodes_kept a h.1)
    nodes_kept (t.Pair p a b) h = all_behind c.Pair p (t.Pair p (applied prices a) (applied prices b)) (keep (t.Pair p a b) h.0, nodes_kept a h.1, nodes_kept b h.2)
    nodes_kept (t.Cons p a b) h = all_behind c.Cons p (t.Cons p (applied prices a) (applied prices b)) (keep (t.Cons p a b) h.0, nodes_kept a h.1, nodes_kept b h.2)
    nodes_kept (t.Node p a b d) h =
        all_behind c.Node p (t.Node p (applied prices a) (applied prices b) (applied prices d)) (keep (t.Node p a b d) h.0, nodes_kept a h.1, nodes_kept b h.2, nodes_kept d h.3)
    nodes_kept (t.Just p a) h = all_behind c.Just p (t.Just p (applied prices a)) (keep (t.Just p a) h.0, nodes_kept a h.1)
    nodes_kept (t.Call p f args) h = all_behind c.Call p (t.Call p f (applied_all prices args)) (keep (t.Call p f args) h.0, each_kept args h.1)
    nodes_kept (t.Let p x a b) h = all_behind c.Let p (t.Let p x (applied prices a) (applied prices b)) (keep (t.Let p x a b) h.0, nodes_kept a h.1, nodes_kept b h.2)
    nodes_kept (t.LetPair p x y a b) h =
        all_behind c.Let p (t.LetPair p x y (applied prices a) (applied prices b)) (keep (t.LetPair p x y a b) h.0, nodes_kept a h.1, nodes_kept b h.2)
    nodes_kept (t.If p d a b) h =
        all_behind c.If p (t.If p (applied prices d) (applied prices a) (applied prices b)) (keep (t.If p d a b) h.0, nodes_kept d h.1, nodes_kept a h.2, nodes_kept b h.3)
    nodes_kept (t.MatchList p d a x y b) h =
        all_behind c.Match p (t.MatchList p (applied prices d) (applied prices a) x y (applied prices b)) (keep (t.MatchList p d a x y b) h.0, nodes_kept d h.1, nodes_kept a h.2, nodes_kept b h.3)
    nodes_kept (t.MatchTree p d a x y z b) h =
        all_behind c.Match p (t.MatchTree p (applied prices d) (applied prices a) x y z (applied prices b)) (keep (t.MatchTree p d a x y z b) h.0, nodes_kept d h.1, nodes_kept a h.2, nodes_kept b h.3)
    nodes_kept (t.MatchOption p d a x b) h =
        all_behind c.Match p (t.MatchOption p (applied prices d) (applied prices a) x (applied prices b)) (keep (t.MatchOption p d a x b) h.0, nodes_kept d h.1, nodes_kept a h.2, nodes_kept b h.3)
    nodes_kept (t.Tick p k a) h = all_behind c.Tick p (t.Tick p k (applied prices a)) (keep (t.Tick p k a) h.0, nodes_kept a h.1)
    nodes_kept (t.Typed p a A) h = (keep (t.Typed p a A) h.0, nodes_kept a h.1)

    each_kept : (es : t.Terms) → AllOf Q es → AllOf Q (applied_all prices es)
    each_kept t.None h = h
    each_kept (t.More a rest) h = (nodes_kept a h.0, each_kept rest h.1)

count_kept : (prices : Prices) (es : t.Terms) → count (applied_all prices es) ≡ count es
count_kept prices t.None = refl
count_kept prices (t.More a rest) = ap (λ n. 1 + n) (count_kept prices rest)

few_stay : (prices : Prices) (e : t.Term) → FewArguments e → FewArguments (over_parts prices e)
few_stay prices (t.Call p f args) h = subst (λ n. n ≤ 8) (sym (count_kept prices args)) h
few_stay prices e h = h

numbers_stay : (prices : Prices) (e : t.Term) → NumberFits e → NumberFits (over_parts prices e)
numbers_stay prices (t.Number p n) h = h
numbers_stay prices e h = h

ticks_stay : (prices : Prices) (e : t.Term) → TickFits e → TickFits (over_parts prices e)
ticks_stay prices (t.Tick p k a) h = h
ticks_stay prices e h = h

pub arguments_kept : (prices : Prices) (P : Prog) → All (λ (g : Function). AllNodes FewArguments g.body) P → All (λ (g : Function). AllNodes FewArguments g.body) (applied_program prices P)
arguments_kept prices P h =
    all_kept prices (λ (g : Function). AllNodes FewArguments g.body) (λ (g : Function). AllNodes FewArguments g.body)
    (λ g d. nodes_kept prices FewArguments (few_stay prices) (λ construct p e. tt) g.body d) P h

numbers_kept : (prices : Prices) (P : Prog) → All (λ (g : Function). AllNodes NumberFits g.body) P → All (λ (g : Function). AllNodes NumberFits g.body) (applied_program prices P)
numbers_kept prices P h =
    all_kept prices (λ (g : Function). AllNodes NumberFits g.body) (λ (g : Function). AllNodes NumberFits g.body)
    (λ g d. nodes_kept prices NumberFits (numbers_stay prices) (λ construct p e. tt) g.body d) P h

ticks_kept : (prices : Prices) → AreSmall prices → (P : Prog) → All (λ (g : Function). AllNodes TickFits g.body) P → All (λ (g : Function). AllNodes TickFits g.body) (applied_program prices P)
ticks_kept prices small P h =
    all_kept prices (λ (g : Function). AllNodes TickFits g.body) (λ (g : Function). AllNodes TickFits g.body)
    (λ g d. nodes_kept prices TickFits (ticks_stay prices) (λ construct p e. small construct) g.body d) P h

pub limits_kept : (prices : Prices) (P : Prog) → AreSmall prices → WithinLimits P → WithinLimits (applied_program prices P)
limits_kept prices P small h = record {
  functions = subst (λ n. n ≤ 256) (sym (length_kept prices P)) h.functions;
  parameters = params_kept prices P h.parameters;
  arguments = arguments_kept prices P h.arguments;
  numbers = numbers_kept prices P h.numbers;
  ticks = ticks_kept prices small P h.ticks;
}

-- a price is one node more
one_more : (k p : ℕ) (e : t.Term) (n : ℕ) → suc (nodes e) ≤ 2 * n → nodes (behind_ticks k p e) ≤ 2 * n
one_more k p e n h = by (nat_eq k 0)
  where
    by : (b : Bool) → nodes (cond b e (t.Tick p k e)) ≤ 2 * n
    by true = omega (arith, h)
    by false = omega (arith, h)

module _ (prices : Prices) where
  mutual
    twice : (e : t.Term) → nodes (applied prices e) ≤ 2 * nodes e
    twice (t.Number p n) = one_more (prices c.Number) p (t.Number p n) 1 (omega arith)
    twice (t.Truth p b) = one_more (prices c.Truth) p (t.Truth p b) 1 (omega arith)
    twice (t.Nil p) = one_more (prices c.Nil) p (t.Nil p) 1 (omega arith)
    twice (t.Leaf p) = one_more (prices c.Leaf) p (t.Leaf p) 1 (omega arith)
    twice (t.Nothing p) = one_more (prices c.Nothing) p (t.Nothing p) 1 (omega arith)
    twice (t.Var p x) = one_more (prices c.Var) p (t.Var p x) 1 (omega arith)
    twice (t.Arith p o a b) =
        one_more (prices c.Arith) p (t.Arith p o (applied prices a) (applied prices b)) (1 + nodes a + nodes b) (omega (arith, twice a, twice b))
    twice (t.Compare p o a b) =
        one_more (prices c.Compare) p (t.Compare p o (applied prices a) (applied prices b)) (1 + nodes a + nodes b) (omega (arith, twice a, twice b))
    twice (t.Not p a) = one_more (prices c.Not) p (t.Not p (applied prices a)) (1 + nodes a) (omega (arith, twice a))
    twice (t.Pair p a b) = one_more (prices c.Pair) p (t.Pair p (applied prices a) (applied prices b)) (1 + nodes a + nodes b) (omega (arith, twice a, twice b))
    twice (t.Cons p a b) = one_more (prices c.Cons) p (t.Cons p (applied prices a) (applied prices b)) (1 + nodes a + nodes b) (omega (arith, twice a, twice b))
    twice (t.Node p a b d) =
        one_more (prices c.Node) p (t.Node p (applied prices a) (applied prices b) (applied prices d)) (1 + nodes a + nodes b + nodes d) (omega (arith, twice a, twice b, twice d))
    twice (t.Just p a) = one_more (prices c.Just) p (t.Just p (applied prices a)) (1 + nodes a) (omega (arith, twice a))
    twice (t.Call p f args) = one_more (prices c.Call) p (t.Call p f (applied_all prices args)) (1 + nodes_of_all args) (omega (arith, twice_each args))
    twice (t.Let p x a b) = one_more (prices c.Let) p (t.Let p x (applied prices a) (applied prices b)) (1 + nodes a + nodes b) (omega (arith, twice a, twice b))
    twice (t.LetPair p x y a b) =
        one_more (prices c.Let) p (t.LetPair p x y (applied prices a) (applied prices b)) (1 + nodes a + nodes b) (omega (arith, twice a, twice b))
    twice (t.If p d a b) =
        one_more (prices c.If) p (t.If p (applied prices d) (applied prices a) (applied prices b)) (1 + nodes d + nodes a + nodes b) (omega (arith, twice d, twice a, twice b))
    twice (t.MatchList p d a x y b) =
        one_more (prices c.Match) p (t.MatchList p (applied prices d) (applied prices a) x y (applied prices b)) (1 + nodes d + nodes a + nodes b) (omega (arith, twice d, twice a, twice b))
    twice (t.MatchTree p d a x y z b) =
        one_more (prices c.Match) p (t.MatchTree p (applied prices d) (applied prices a) x y z (applied prices b)) (1 + nodes d + nodes a + nodes b) (omega (arith, twice d, twice a, twice b))
    twice (t.MatchOption p d a x b) =
        one_more (prices c.Match) p (t.MatchOption p (applied prices d) (applied prices a) x (applied prices b)) (1 + nodes d + nodes a + nodes b) (omega (arith, twice d, twice a, twice b))
    twice (t.Tick p k a) = one_more (prices c.Tick) p (t.Tick p k (applied prices a)) (1 + nodes a) (omega (arith, twice a))
    twice (t.Typed p a A) = omega (arith, twice a)

    twice_each : (es : t.Terms) → nodes_of_all (applied_all prices es) ≤ 2 * nodes_of_all es
    twice_each t.None = omega arith
    twice_each (t.More a rest) = omega (arith, twice a, twice_each rest)

  all_twice : (P : Prog) → program_nodes (applied_program prices P) ≤ 2 * program_nodes P
  all_twice [] = omega arith
  all_twice (g ∷ P) = omega (arith, twice g.body, all_twice P)

pub keeps_programs : AppliedKeepsPrograms
keeps_programs prices P = record { typed = typed_kept prices P; limits = limits_kept prices P; nodes = all_twice prices P }
