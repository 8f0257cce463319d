-- What the count program keeps of the program.
use Rattle.std.proofs.Common.{◌≡◌, ◌≤◌, ◌+◌, ℕ, suc, List, [], ◌∷◌, map, length, Bool, true, false, refl, sym, ap, subst, ◌∙◌, arith}
use Rattle.std.specs.Option.{option_map}
use Rattle.std.specs.List.{All}
use Rattle.std.proofs.lemmas.List.Elements.{All-nil, All-cons, All-head, All-tail}
use Rattle.raml_syntax.specs.Tree as t
use Rattle.raml_syntax.specs.Tree.{Text, Type', Integer, Boolean, PairOf, ListOf, TreeOf, OptionOf, Bound, Parameter, Function, Prog}
use Rattle.raml_syntax.specs.Eval.{find, names_of}
use Rattle.raml_syntax.specs.Types.{Context, bind_types, types_of, Differ, Way, Finding, Checking, HasType, CheckEach, Checks, Typed}
use Rattle.raml_syntax.specs.Node.{nodes, nodes_of_all, program_nodes, AllNodes, AllOf, NumberFits, TickFits, FewArguments, count, WithinLimits}
use Rattle.explain_rounds.specs.Calls.{is_in}
use Rattle.explain_count.specs.Count.{without_ticks, all_without_ticks, counting, counting_from, count_program}
use Rattle.explain_count.specs.Laws.{IsNoTick, CountProgramsKeepPrograms}
use Rattle.explain_count.proofs.CountsRounds.{place_from, find_from}

-- where each function is found with its type
module _ (P Q : Prog) (counted : Text → Bool) (found : (f : Text) → find f Q ≡ option_map (counting (counted f)) (find f P)) where
  mutual
    type_kept : (e : t.Term) (way : Way) (G : Context) (T : Type') → HasType P way G e T → HasType Q way G (without_ticks e) T
    type_kept (t.Number p n) way G T h = h
    type_kept (t.Truth p b) way G T h = h
    type_kept (t.Nil p) way G T h = h
    type_kept (t.Leaf p) way G T h = h
    type_kept (t.Nothing p) way G T h = h
    type_kept (t.Var p x) way G T h = h
    type_kept (t.Arith p o a b) way G T h = (h.0, type_kept a Checking G Integer h.1, type_kept b Checking G Integer h.2)
    type_kept (t.Compare p o a b) way G T h = (h.0, type_kept a Checking G Integer h.1, type_kept b Checking G Integer h.2)
    type_kept (t.Not p a) way G T h = (h.0, type_kept a Checking G Boolean h.1)
    type_kept (t.Pair p a b) way G T h = (h.0, h.1, h.2, type_kept a way G h.0 h.3, type_kept b way G h.1 h.4)
    type_kept (t.Cons p a b) way G T h = (h.0, h.1, type_kept a way G h.0 h.2, type_kept b Checking G (ListOf h.0) h.3)
    type_kept (t.Node p a b d) way G T h = (h.0, h.1, type_kept a way G h.0 h.2, type_kept b Checking G (TreeOf h.0) h.3, type_kept d Checking G (TreeOf h.0) h.4)
    type_kept (t.Just p a) way G T h = (h.0, h.1, type_kept a way G h.0 h.2)
    type_kept (t.Call p f args) way G T h =
        (counting (counted f) h.0, found f ∙ ap (option_map (counting (counted f))) h.1, h.2, types_kept args G (types_of h.0) h.3)
    type_kept (t.Let p x a b) way G T h = (h.0, type_kept a Finding G h.0 h.1, type_kept b way ((x.name, h.0) ∷ G) T h.2)
    type_kept (t.LetPair p x y a b) way G T h =
        (h.0, h.1, h.2, type_kept a Finding G (PairOf h.0 h.1) h.3, type_kept b way ((y.name, h.1) ∷ (x.name, h.0) ∷ G) T h.4)
    type_kept (t.If p d a b) way G T h = (type_kept d Checking G Boolean h.0, type_kept a way G T h.1, type_kept b Checking G T h.2)
    type_kept (t.MatchList p d a x y b) way G T h =
        (h.0, h.1, type_kept d Finding G (ListOf h.0) h.2, type_kept a way G T h.3, type_kept b Checking ((y.name, ListOf h.0) ∷ (x.name, h.0) ∷ G) T h.4)
    type_kept (t.MatchTree p d a x y z b) way G T h =
        (h.0, h.1, type_kept d Finding G (TreeOf h.0) h.2, type_kept a way G T h.3, type_kept b Checking ((z.name, TreeOf h.0) ∷ (y.name, TreeOf h.0) ∷ (x.name, h.0) ∷ G) T h.4)
    type_kept (t.MatchOption p d a x b) way G T h =
        (h.0, type_kept d Finding G (OptionOf h.0) h.1, type_kept a way G T h.2, type_kept b Checking ((x.name, h.0) ∷ G) T h.3)
    type_kept (t.Tick p k a) way G T h = type_kept a way G T h
    type_kept (t.Typed p a A) way G T h = (h.0, type_kept a Checking G A h.1)

    types_kept : (es : t.Terms) (G : Context) (As : List Type') → CheckEach P G es As → CheckEach Q G (all_without_ticks es) As
    types_kept t.None G [] h = h
    types_kept t.None G (A ∷ As) h = h
    types_kept (t.More a rest) G [] h = h
    types_kept (t.More a rest) G (A ∷ As) h = (type_kept a Checking G A h.0, types_kept rest G As h.1)

  body_kept : (b : Bool) (g : Function) → Checks P (bind_types [] g.params) g.body g.result → Checks Q (bind_types [] g.params) (counting b g).body g.result
  body_kept true g h = type_kept g.body Checking (bind_types [] g.params) g.result h
  body_kept false g h = type_kept g.body Checking (bind_types [] g.params) g.result h

-- a fact of nodes that no change of a node's parts touches, and that the tick of a round has
module _ (Q : t.Term → Type 0) (keep : (e : t.Term) → IsNoTick e → Q e → Q (without_ticks e)) (tick : (p : ℕ) (e : t.Term) → Q (t.Tick p 1 e)) where
  mutual
    nodes_kept : (e : t.Term) → AllNodes Q e → AllNodes Q (without_ticks e)
    nodes_kept (t.Number p n) h = h
    nodes_kept (t.Truth p b) h = h
    nodes_kept (t.Nil p) h = h
    nodes_kept (t.Leaf p) h = h
    nodes_kept (t.Nothing p) h = h
    nodes_kept (t.Var p x) h = h
    nodes_kept (t.Arith p o a b) h = (keep (t.Arith p o a b) tt h.0, nodes_kept a h.1, nodes_kept b h.2)
    nodes_kept (t.Compare p o a b) h = (keep (t.Compare p o a b) tt h.0, nodes_kept a h.1, nodes_kept b h.2)
    nodes_kept (t.Not p a) h = (keep (t.Not p a) tt h.0, nodes_kept a h.1)
    nodes_kept (t.Pair p a b) h = (keep (t.Pair p a b) tt h.0, nodes_kept a h.1, nodes_kept b h.2)
    nodes_kept (t.Cons p a b) h = (keep (t.Cons p a b) tt h.0, nodes_kept a h.1, nodes_kept b h.2)
    nodes_kept (t.Node p a b d) h = (keep (t.Node p a b d) tt h.0, nodes_kept a h.1, nodes_kept b h.2, nodes_kept d h.3)
    nodes_kept (t.Just p a) h = (keep (t.Just p a) tt h.0, nodes_kept a h.1)
    nodes_kept (t.Call p f args) h = (keep (t.Call p f args) tt h.0, each_kept args h.1)
    nodes_kept (t.Let p x a b) h = (keep (t.Let p x a b) tt h.0, nodes_kept a h.1, nodes_kept b h.2)
    nodes_kept (t.LetPair p x y a b) h = (keep (t.LetPair p x y a b) tt h.0, nodes_kept a h.1, nodes_kept b h.2)
    nodes_kept (t.If p d a b) h = (keep (t.If p d a b) tt h.0, nodes_kept d h.1, nodes_kept a h.2, nodes_kept b h.3)
    nodes_kept (t.MatchList p d a x y b) h = (keep (t.MatchList p d a x y b) tt h.0, nodes_kept d h.1, nodes_kept a h.2, nodes_kept b h.3)
    nodes_kept (t.MatchTree p d a x y z b) h = (keep (t.MatchTree p d a x y z b) tt h.0, nodes_kept d h.1, nodes_kept a h.2, nodes_kept b h.3)
    nodes_kept (t.MatchOption p d a x b) h = (keep (t.MatchOption p d a x b) tt h.0, nodes_kept d h.1, nodes_kept a h.2, nodes_kept b h.3)
    nodes_kept (t.Tick p k a) h = nodes_kept a h.1
    nodes_kept (t.Typed p a A) h = (keep (t.Typed p a A) tt h.0, nodes_kept a h.1)

    each_kept : (es : t.Terms) → AllOf Q es → AllOf Q (all_without_ticks es)
    each_kept t.None h = h
    each_kept (t.More a rest) h = (nodes_kept a h.0, each_kept rest h.1)

  body_nodes_kept : (b : Bool) (g : Function) → AllNodes Q g.body → AllNodes Q (counting b g).body
  body_nodes_kept true g h = (tick g.at (without_ticks g.body), nodes_kept g.body h)
  body_nodes_kept false g h = nodes_kept g.body h

count_kept : (es : t.Terms) → count (all_without_ticks es) ≡ count es
count_kept t.None = refl
count_kept (t.More a rest) = ap (λ n. 1 + n) (count_kept rest)

few_stay : (e : t.Term) → IsNoTick e → FewArguments e → FewArguments (without_ticks e)
few_stay (t.Call p f args) none h = subst (λ n. n ≤ 8) (sym (count_kept args)) h
few_stay (t.Tick p k a) none h = absurd none
few_stay e none h = h

numbers_stay : (e : t.Term) → IsNoTick e → NumberFits e → NumberFits (without_ticks e)
numbers_stay (t.Tick p k a) none h = absurd none
numbers_stay e none h = h

ticks_stay : (e : t.Term) → IsNoTick e → TickFits e → TickFits (without_ticks e)
ticks_stay (t.Tick p k a) none h = absurd none
ticks_stay e none h = h

module _ (group : List ℕ) where
  -- what each function keeps, all of them keep
  all_kept : (Q R : Function → Type 0) → ((b : Bool) (g : Function) → Q g → R (counting b g)) → (k : ℕ) (P : Prog) → All Q P → All R (counting_from k group P)
  all_kept Q R keep k [] h = All-nil R
  all_kept Q R keep k (g ∷ P) h =
      All-cons R (counting (is_in k group) g) (counting_from (suc k) group P) (keep (is_in k group) g (All-head Q g P h)) (all_kept Q R keep (suc k) P (All-tail Q g P h))

  names_kept : (k : ℕ) (P : Prog) → map (λ (g : Function). g.name) (counting_from k group P) ≡ map (λ (g : Function). g.name) P
  names_kept k [] = refl
  names_kept k (g ∷ P) = ap (λ (names : List Text). g.name ∷ names) (names_kept (suc k) P)

  length_kept : (k : ℕ) (P : Prog) → length (counting_from k group P) ≡ length P
  length_kept k [] = refl
  length_kept k (g ∷ P) = ap suc (length_kept (suc k) P)

  typed_kept : (P : Prog) → Typed P → Typed (count_program group P)
  typed_kept P h = record {
    functions = subst Differ (sym (names_kept 0 P)) h.functions;
    parameters = all_kept (λ g. Differ (names_of g)) (λ g. Differ (names_of g)) (λ b g d. d) 0 P h.parameters;
    bodies = all_kept (λ (g : Function). Checks P (bind_types [] g.params) g.body g.result)
        (λ (g : Function). Checks (count_program group P) (bind_types [] g.params) g.body g.result)
        (λ b g d. body_kept P (count_program group P) (λ f. place_from 0 group f P) (find_from 0 group P) b g d) 0 P h.bodies;
  }

  limits_kept : (P : Prog) → WithinLimits P → WithinLimits (count_program group P)
  limits_kept P h = record {
    functions = subst (λ n. n ≤ 256) (sym (length_kept 0 P)) h.functions;
    parameters = all_kept (λ (g : Function). length g.params ≤ 8) (λ (g : Function). length g.params ≤ 8) (λ b g d. d) 0 P h.parameters;
    arguments = all_kept (λ (g : Function). AllNodes FewArguments g.body) (λ (g : Function). AllNodes FewArguments g.body)
        (λ b g d. body_nodes_kept FewArguments few_stay (λ p e. tt) b g d) 0 P h.arguments;
    numbers = all_kept (λ (g : Function). AllNodes NumberFits g.body) (λ (g : Function). AllNodes NumberFits g.body)
        (λ b g d. body_nodes_kept NumberFits numbers_stay (λ p e. tt) b g d) 0 P h.numbers;
    ticks = all_kept (λ (g : Function). AllNodes TickFits g.body) (λ (g : Function). AllNodes TickFits g.body)
        (λ b g d. body_nodes_kept TickFits ticks_stay (λ p e. omega arith) b g d) 0 P h.ticks;
  }

mutual
  fewer : (e : t.Term) → nodes (without_ticks e) ≤ nodes e
  fewer (t.Number p n) = omega arith
  fewer (t.Truth p b) = omega arith
  fewer (t.Nil p) = omega arith
  fewer (t.Leaf p) = omega arith
  fewer (t.Nothing p) = omega arith
  fewer (t.Var p x) = omega arith
  fewer (t.Arith p o a b) = omega (arith, fewer a, fewer b)
  fewer (t.Compare p o a b) = omega (arith, fewer a, fewer b)
  fewer (t.Not p a) = omega (arith, fewer a)
  fewer (t.Pair p a b) = omega (arith, fewer a, fewer b)
  fewer (t.Cons p a b) = omega (arith, fewer a, fewer b)
  fewer (t.Node p a b d) = omega (arith, fewer a, fewer b, fewer d)
  fewer (t.Just p a) = omega (arith, fewer a)
  fewer (t.Call p f args) = omega (arith, fewer_in args)
  fewer (t.Let p x a b) = omega (arith, fewer a, fewer b)
  fewer (t.LetPair p x y a b) = omega (arith, fewer a, fewer b)
  fewer (t.If p d a b) = omega (arith, fewer d, fewer a, fewer b)
  fewer (t.MatchList p d a x y b) = omega (arith, fewer d, fewer a, fewer b)
  fewer (t.MatchTree p d a x y z b) = omega (arith, fewer d, fewer a, fewer b)
  fewer (t.MatchOption p d a x b) = omega (arith, fewer d, fewer a, fewer b)
  fewer (t.Tick p k a) = omega (arith, fewer a)
  fewer (t.Typed p a A) = omega (arith, fewer a)

  fewer_in : (es : t.Terms) → nodes_of_all (all_without_ticks es) ≤ nodes_of_all es
  fewer_in t.None = omega arith
  fewer_in (t.More a rest) = omega (arith, fewer a, fewer_in rest)

-- a tick is one node more
body_nodes : (b : Bool) (g : Function) → nodes (counting b g).body ≤ nodes g.body + 1
body_nodes true g = omega (arith, fewer g.body)
body_nodes false g = omega (arith, fewer g.body)

all_nodes : (group : List ℕ) (k : ℕ) (P : Prog) → program_nodes (counting_from k group P) ≤ program_nodes P + length P
all_nodes group k [] = omega arith
all_nodes group k (g ∷ P) = omega (arith, body_nodes (is_in k group) g, all_nodes group (suc k) P)

pub keeps_programs : CountProgramsKeepPrograms
keeps_programs group P = record {
  types = type_kept P (count_program group P) (λ f. place_from 0 group f P) (find_from 0 group P);
  typed = typed_kept group P;
  limits = limits_kept group P;
  nodes = all_nodes group 0 P;
}
