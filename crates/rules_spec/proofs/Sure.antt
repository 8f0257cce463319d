-- The walks of a task's bodies subtract little.
use Rattle.std.proofs.Common.{◌≡◌, refl, ap, sym, ◌∙◌, arith, subst, inl, inr, append-nil}
use Rattle.std.specs.Prelude.{ℕ, zero, suc, ◌+◌, ◌*◌, ◌^◌, ◌<◌, ◌≤◌, ◌⊎◌, ◌≢◌, List, [], ◌∷◌, ◌++◌, map, length, slice_get, slice_index_or, slice_set, position, Option, None, Some}
use Rattle.std.proofs.lemmas.Bool.{cases_lt}
use Rattle.index_shift.specs.declared.entry.Entry.{Entry}
use Rattle.rules_spec.specs.Plan as p
use Rattle.rules_spec.specs.Plan.{Plan, Step, Part, Called}
use Rattle.cost_free.specs.declared.task.Meter.TheVariants.{Ticks, Cells, Work}
use Rattle.annot_types.specs.Rules.{Mode, With, Own, Past}
use Rattle.rules_spec.specs.Numbers.{Sides, Signature, Known, Hint, Condition, Walked}
use Rattle.rules_spec.specs.Kinds.{Form, forms, unknown, one_at}
use Rattle.rules_spec.specs.Walk.{later, behind, and_then, numbered, Walk, still, at_zero, mode_at, charge, at, added, brought, nothing, moved, all_moved, against, numbers, multiples, joined, begun, group_sides, taken, free_sides, none_taken, paid, once, refunded, used, sums, unpaid, missing, call_pairs, each, walk, walks}
use Rattle.rules_spec.specs.Asked.{Ask, ResultsOf, asked, all_asked, each_asked, count, counts, sum_of, given, given_each, given_blocks, answer, answers}
use Rattle.rules_spec.specs.Tasks.{Body, Job, sides_count, sides_given, hints_given, known_by, of_bodies, of_target, given_conditions}
use Rattle.raml_syntax.specs.Tree.{Type'}
use Rattle.base_poly.specs.Plain.{Plain, alike}
use Rattle.base_poly.specs.Indices.{index_list}
use Rattle.index_shift.specs.Maps.{entries_from, entry_to}
use Rattle.index_shift.specs.Contexts.{permutes, permutation}
use Rattle.normal_spec.specs.Norm as n
use Rattle.normal_spec.specs.Norm.{Norm, NormFun}
use Rattle.normal_spec.specs.Context.{Context, types, without, opened, parts_of, copies_of, inners, others}
use Rattle.annot_types.specs.Program.{Program, members}
use Rattle.annot_types.specs.Certificate.{Block}
use Rattle.annot_types.specs.Holds.{budget_of}
use Rattle.annot_types.specs.Carried.{operand_places}
use Rattle.annot_types.specs.System.{args_of}
use Rattle.rules_spec.specs.Planned.{lower, plan, budgets, operand_entries}
use Rattle.rules_spec.specs.Jobs.{body_of}
use Rattle.rules_spec.specs.Sure.{AreSure, TasksAreSure}

-- Entries of a list

abbrev pub Every : (Form → Type 0) → List Form → Type 0
Every Q [] = Unit {0}
Every Q (x ∷ xs) = Q x × Every Q xs

-- a property of sums that none has, and that stays with sums and multiples
pub record Closed (Q : Form → Type 0) : Type 0 where
  pub none : Q forms.none
  pub plus : (x y : Form) → Q x → Q y → Q (forms.plus x y)
  pub times : (n : ℕ) (x : Form) → Q x → Q (forms.times n x)

every_map : (Q R : Form → Type 0) → ((x : Form) → Q x → R x) → (q : List Form) → Every Q q → Every R q
every_map Q R f [] h = tt
every_map Q R f (x ∷ q) h = (f x h.0, every_map Q R f q h.1)

every_zero : (Q : Form → Type 0) (f : Form → Form) → ((x : Form) → Q x → Q (f x)) → (q : List Form) → Every Q q → Every Q (at_zero f q)
every_zero Q f g [] h = tt
every_zero Q f g (x ∷ q) h = (g x h.0, h.1)

every_set : (Q : Form → Type 0) (q : List Form) (k : ℕ) (x : Form) → Q x → Every Q q → Every Q (slice_set q k x)
every_set Q [] k x g h = tt
every_set Q (y ∷ q) zero x g h = (g, h.1)
every_set Q (y ∷ q) (suc k) x g h = (h.0, every_set Q q k x g h.1)

every_at : (Q : Form → Type 0) → Q forms.none → (q : List Form) → Every Q q → (k : ℕ) → Q (at forms q k)
every_at Q n [] h k = n
every_at Q n (x ∷ q) h zero = h.0
every_at Q n (x ∷ q) h (suc k) = every_at Q n q h.1 k

module _ (Q : Form → Type 0) (c : Closed Q) where
  every_nothing : (n : ℕ) → Every Q (nothing forms n)
  every_nothing zero = tt
  every_nothing (suc n) = (c.none, every_nothing n)

  every_brought : (out : List Form) (es : List Entry) (q : List Form) → Every Q out → Every Q q → Every Q (brought forms out es q)
  every_brought out [] q h g = h
  every_brought out (e ∷ es) q h g =
      every_brought (added forms out e.to e.times (at forms q e.from)) es q
      (every_set Q out e.to _ (c.plus (at forms out e.to) (forms.times e.times (at forms q e.from)) (every_at Q c.none out h e.to) (c.times e.times (at forms q e.from) (every_at Q c.none q g e.from))) h) g

  every_moved : (s : Step) (q : List Form) → Every Q q → Every Q (moved forms s q)
  every_moved s q h = every_brought (nothing forms s.size) s.entries q (every_nothing s.size) h

  every_all_moved : (ss : List Step) (q : List Form) → Every Q q → Every Q (all_moved forms ss q)
  every_all_moved [] q h = h
  every_all_moved (s ∷ ss) q h = every_all_moved ss (moved forms s q) (every_moved s q h)

  every_joined : (out : List Form) (j : ℕ) (parts : List Part) (rs : List (List Form)) → Every Q out → ((j : ℕ) → Every Q (slice_index_or rs j [])) → Every Q (joined forms out j parts rs)
  every_joined out j [] rs h g = h
  every_joined out j (part ∷ parts) rs h g =
      every_joined (brought forms out part.joins (slice_index_or rs j [])) (suc j) parts rs (every_brought out part.joins (slice_index_or rs j []) h (g j)) g

  every_multiples : (x : Form) (ns : List ℕ) → Q x → Every Q (multiples forms x ns)
  every_multiples x [] h = tt
  every_multiples x (n ∷ ns) h = (c.times n x h, every_multiples x ns h)

every_numbers : (Q : Form → Type 0) → ((n : ℕ) → Q (forms.number n)) → (ns : List ℕ) → Every Q (numbers forms ns)
every_numbers Q f [] = tt
every_numbers Q f (n ∷ ns) = (f n, every_numbers Q f ns)

-- Properties of sums

abbrev NoPlus : Form → Type 0
NoPlus x = x.plus ≡ 0

abbrev NoMinus : Form → Type 0
NoMinus x = x.minus ≡ 0

times_none : (n x : ℕ) → x ≡ 0 → n * x ≡ 0
times_none n x h = ap (λ m. n * m) h ∙ zero_times n where
  zero_times : (n : ℕ) → n * 0 ≡ 0
  zero_times zero = refl
  zero_times (suc n) = omega (arith, zero_times n)

no_plus : Closed NoPlus
no_plus = record { none = refl; plus = λ x y h g. omega (arith, h, g); times = λ n x h. times_none n x.plus h }

no_minus : Closed NoMinus
no_minus = record { none = refl; plus = λ x y h g. omega (arith, h, g); times = λ n x h. times_none n x.minus h }

-- One unknown

low_one : (v u : ℕ) → one_at v u ≤ 1
low_one zero zero = omega arith
low_one zero (suc u) = omega arith
low_one (suc v) zero = omega arith
low_one (suc v) (suc u) = low_one v u

other_one : (v u : ℕ) → v ≢ u → one_at v u ≡ 0
other_one zero zero h = absurd (h refl)
other_one zero (suc u) h = refl
other_one (suc v) zero h = refl
other_one (suc v) (suc u) h = other_one v u (λ e. h (ap suc e))

-- Entries of which each has a position of its own to come from, from this one on, and counts once.
abbrev Rising : ℕ → List Entry → Type 0
Rising k [] = Unit {0}
Rising k (e ∷ es) = (k ≤ e.from) × (e.times ≡ 1) × Rising (suc e.from) es

rising_later : (k m : ℕ) (es : List Entry) → k ≤ m → Rising m es → Rising k es
rising_later k m [] h g = tt
rising_later k m (e ∷ es) h g = (omega (arith, h, g.0), g.1, g.2)

-- A signature of the group is taken so, at each budget.
abbrev Single : Called → Type 0
Single c = (budget : ℕ) → Rising 0 (slice_index_or c.args_from budget [])

abbrev mutual
  AllSingle : Plan → Type 0
  AllSingle (p.Ends n cells steps) = Unit {0}
  AllSingle (p.Pays n ticks e) = AllSingle e
  AllSingle (p.Moves n step e) = AllSingle e
  AllSingle (p.Forks n step a other b) = AllSingle a × AllSingle b
  AllSingle (p.Shares n size step e) = AllSingle e
  AllSingle (p.Calls n c) = Single c
  AllSingle (p.Lets n parts firsts size e) = EachSingle firsts × AllSingle e

  EachSingle : p.Plans → Type 0
  EachSingle p.NoPlans = Unit {0}
  EachSingle (p.More e es) = AllSingle e × EachSingle es

abbrev BodiesSingle : List Body → Type 0
BodiesSingle [] = Unit {0}
BodiesSingle (b ∷ bs) = AllSingle b.plan × BodiesSingle bs

-- a signature that is given, of unknowns below a limit
record IsGiven (s : Sides Form) (limit : ℕ) : Type 0 where
  from : ℕ
  args : ℕ
  result : ℕ
  has_args : s.args ≡ given unknown from args
  has_result : s.result ≡ given unknown (from + args) result
  below : from + args + result ≤ limit

module _ (u : ℕ) where
  abbrev Free : Form → Type 0
  Free x = x.terms u ≡ 0

  -- taken once at most
  abbrev Once : Form → Type 0
  Once x = x.terms u ≤ 1

  free : Closed Free
  free = record { none = refl; plus = λ x y h g. omega (arith, h, g); times = λ n x h. times_none n (x.terms u) h }

  given_no_plus : (k n : ℕ) → Every NoPlus (given unknown k n)
  given_no_plus k zero = tt
  given_no_plus k (suc n) = (refl, given_no_plus (suc k) n)

  given_no_minus : (k n : ℕ) → Every NoMinus (given unknown k n)
  given_no_minus k zero = tt
  given_no_minus k (suc n) = (refl, given_no_minus (suc k) n)

  given_once : (k n : ℕ) → Every Once (given unknown k n)
  given_once k zero = tt
  given_once k (suc n) = (low_one k u, given_once (suc k) n)

  -- an unknown outside of the range is not among those that are given
  given_free : (k n : ℕ) → (u < k) ⊎ (k + n ≤ u) → Every Free (given unknown k n)
  given_free k zero h = tt
  given_free k (suc n) (inl h) = (other_one k u (λ e. omega (arith, e, h)), given_free (suc k) n (inl (omega (arith, h))))
  given_free k (suc n) (inr h) = (other_one k u (λ e. omega (arith, e, h)), given_free (suc k) n (inr (omega (arith, h))))

  -- Conditions

  SurePair : Form × Form → Type 0
  SurePair e = let x = e.0 in let y = e.1 in ((y.terms u < 2 ^ 127) ⊎ (x.terms u ≡ 0)) × ((x.plus + y.minus < 2 ^ 127) ⊎ (y.plus + x.minus ≡ 0))

  abbrev SurePairs : List (Form × Form) → Type 0
  SurePairs [] = Unit {0}
  SurePairs (e ∷ es) = SurePair e × SurePairs es

  abbrev SureAt : List (Condition Form) → Type 0
  SureAt [] = Unit {0}
  SureAt (c ∷ cs) = SurePair (c.left, c.right) × SureAt cs

  sure_append : (cs ds : List (Condition Form)) → SureAt cs → SureAt ds → SureAt (cs ++ ds)
  sure_append [] ds h g = g
  sure_append (c ∷ cs) ds h g = (h.0, sure_append cs ds h.1 g)

  sure_numbered : (path : List ℕ) (i : ℕ) (es : List (Form × Form)) → SurePairs es → SureAt (numbered path i es)
  sure_numbered path i [] h = tt
  sure_numbered path i (e ∷ es) h = (h.0, sure_numbered path (suc i) es h.1)

  pairs_append : (es fs : List (Form × Form)) → SurePairs es → SurePairs fs → SurePairs (es ++ fs)
  pairs_append [] fs h g = g
  pairs_append (e ∷ es) fs h g = (h.0, pairs_append es fs h.1 g)

  -- each entry on the right with the one at its place on the left
  pairs_against : (Q R : Form → Type 0) → Q forms.none → ((x y : Form) → Q x → R y → SurePair (x, y)) → (q ys : List Form) → Every Q q → Every R ys → SurePairs (against forms q ys)
  pairs_against Q R n f [] [] h g = tt
  pairs_against Q R n f (x ∷ q) [] h g = tt
  pairs_against Q R n f [] (y ∷ ys) h g = (f forms.none y n g.0, pairs_against Q R n f [] ys tt g.1)
  pairs_against Q R n f (x ∷ q) (y ∷ ys) h g = (f x y h.0 g.0, pairs_against Q R n f q ys h.1 g.1)

  every_two : (Q R : Form → Type 0) (q : List Form) → Every Q q → Every R q → Every (λ x. Q x × R x) q
  every_two Q R [] h g = tt
  every_two Q R (x ∷ q) h g = ((h.0, g.0), every_two Q R q h.1 g.1)

  -- A context on the left and entries on the right that have the unknown on one side alone.
  pairs_apart : (q ys : List Form) → Every NoPlus q → Every NoMinus ys → Every Free q ⊎ Every Free ys → SurePairs (against forms q ys)
  unfolding SurePair
  pairs_apart q ys h g (inl f) =
      pairs_against (λ x. NoPlus x × Free x) NoMinus (refl, refl) (λ x y a b. (inr a.1, inl (omega (arith, a.0, b)))) q ys (every_two NoPlus Free q h f) g
  pairs_apart q ys h g (inr f) =
      pairs_against NoPlus (λ y. NoMinus y × Free y) refl (λ x y a b. (inl (omega (arith, b.1)), inl (omega (arith, a, b.0)))) q ys h (every_two NoMinus Free ys g f)

  -- a number on the right
  pair_number : (x : Form) (n : ℕ) → NoPlus x → SurePair (x, forms.number n)
  unfolding SurePair
  pair_number x n h = (inl (omega arith), inl (omega (arith, h)))

  -- Where a walk stands

  -- A context, a result and the next unknown that is given: the unknown is on one side alone, and on none where it is still to come.
  record Apart (q r : List Form) (from : ℕ) : Type 0 where
    sides : Every Free q ⊎ Every Free r
    fresh : from ≤ u → Every Free q × Every Free r

  record Result (r : List Form) : Type 0 where
    plus : Every NoPlus r
    minus : Every NoMinus r
    one : Every Once r

  record Found (w : Walked Form) (rest : List (Hint Form)) : Type 0 where
    sure : SureAt w.found
    left : w.left ≡ rest

  -- A walk by hints that are given is sure, and takes these hints.
  WalkIs : Walk Form → List Ask → Type 0
  WalkIs w asks = (mode : Mode) (path : List ℕ) (q r : List Form) (from : ℕ) (rest : List (Hint Form)) →
      Every NoPlus q → Result r → Apart q r from → Found (w mode path q r (answers unknown from asks ++ rest)) rest

  apart_later : (q r : List Form) (from next : ℕ) → from ≤ next → Apart q r from → Apart q r next
  apart_later q r from next h a = record { sides = a.sides; fresh = λ g. a.fresh (omega (arith, h, g)) }

  apart_moved : (f : List Form → List Form) → ((q : List Form) → Every Free q → Every Free (f q)) → (q r : List Form) (from : ℕ) → Apart q r from → Apart (f q) r from
  apart_moved f g q r from a = record { sides = by a.sides; fresh = λ h. let two = a.fresh h in (g q two.0, two.1) } where
    by : Every Free q ⊎ Every Free r → Every Free (f q) ⊎ Every Free r
    by (inl h) = inl (g q h)
    by (inr h) = inr h

  -- what is given for a hint is of the unknown only where it is among these
  given_apart : (k n : ℕ) (from next : ℕ) → from ≤ k → k + n ≤ next → (u < from) ⊎ (next ≤ u) → Every Free (given unknown k n)
  given_apart k n from next a b (inl h) = given_free k n (inl (omega (arith, a, h)))
  given_apart k n from next a b (inr h) = given_free k n (inr (omega (arith, b, h)))

  given_result : (k n : ℕ) → Result (given unknown k n)
  given_result k n = record { plus = given_no_plus k n; minus = given_no_minus k n; one = given_once k n }

  found_behind : (cs : List (Condition Form)) (w : Walked Form) (rest : List (Hint Form)) → SureAt cs → Found w rest → Found (behind cs w) rest
  found_behind cs w rest h f = record { sure = sure_append cs w.found h f.sure; left = f.left }

  found_then : (w : Walked Form) (next : List (Hint Form) → Walked Form) (mid rest : List (Hint Form)) → Found w mid → Found (next mid) rest → Found (and_then w next) rest
  found_then w next mid rest f g =
      let go = subst (λ hs. Found (next hs) rest) (sym f.left) g in record { sure = sure_append w.found (next w.left).found f.sure go.sure; left = go.left }

  lowered_plus : (k : ℕ) (q : List Form) → Every NoPlus q → Every NoPlus (at_zero (forms.less k) q)
  lowered_plus k q h = every_zero NoPlus (forms.less k) (λ x g. g) q h

  lowered_free : (k : ℕ) (q : List Form) → Every Free q → Every Free (at_zero (forms.less k) q)
  lowered_free k q h = every_zero Free (forms.less k) (λ x g. g) q h

  moved_plus : (s : Step) (q : List Form) → Every NoPlus q → Every NoPlus (moved forms s q)
  moved_plus s q h = every_moved NoPlus no_plus s q h

  moved_apart : (s : Step) (q r : List Form) (from : ℕ) → Apart q r from → Apart (moved forms s q) r from
  moved_apart s q r from a = apart_moved (moved forms s) (λ q h. every_moved Free free s q h) q r from a

  one_condition : (path : List ℕ) (i : ℕ) (q : List Form) (n : ℕ) → Every NoPlus q → SureAt (numbered path i ((at forms q 0, forms.number n) ∷ []))
  one_condition path i q n h = (pair_number (at forms q 0) n (every_at NoPlus refl q h 0), tt)

  module _ (G : Known Form) where
    begun_sure : (n : ℕ) (mode : Mode) (path : List ℕ) (q r : List Form) (from : ℕ) (rest : List (Hint Form)) (go : ℕ → List Form → Walked Form) → Every NoPlus q → Apart q r from →
        ((i : ℕ) (q : List Form) → Every NoPlus q → Apart q r from → Found (go i q) rest) → Found (begun forms G n mode path q go) rest
    begun_sure zero mode path q r from rest go h a f = f 0 q h a
    begun_sure (suc n) (With Ticks) path q r from rest go h a f = f 0 q h a
    begun_sure (suc n) (With Cells) path q r from rest go h a f = f 0 q h a
    begun_sure (suc n) Own path q r from rest go h a f = f 0 q h a
    begun_sure (suc n) Past path q r from rest go h a f = f 0 q h a
    begun_sure (suc n) (With Work) path q r from rest go h a f =
        let k = suc n * G.scale in
        found_behind (numbered path 0 ((at forms q 0, forms.number k) ∷ [])) (go 1 (at_zero (forms.less k) q)) rest (one_condition path 0 q k h)
        (f 1 (at_zero (forms.less k) q) (lowered_plus k q h) (apart_moved (at_zero (forms.less k)) (lowered_free k) q r from a))

    -- a form without parts
    ends_sure : (path : List ℕ) (i k : ℕ) (steps : List Step) (q r : List Form) (from : ℕ) → Every NoPlus q → Result r → Apart q r from →
        SureAt (numbered path i (against forms q (at_zero (forms.plus (forms.number k)) (all_moved forms steps r))))
    ends_sure path i k steps q r from h res a =
        let ys = all_moved forms steps r in
        let raise = forms.plus (forms.number k) in
        let minus = every_zero NoMinus raise (λ x g. omega (arith, g)) ys (every_all_moved NoMinus no_minus steps r res.minus) in
        sure_numbered path i (against forms q (at_zero raise ys)) (pairs_apart q (at_zero raise ys) h minus (by a.sides)) where
          by : Every Free q ⊎ Every Free r → Every Free q ⊎ Every Free (at_zero (forms.plus (forms.number k)) (all_moved forms steps r))
          by (inl f) = inl f
          by (inr f) = inr (every_zero Free (forms.plus (forms.number k)) (λ x g. omega (arith, g)) (all_moved forms steps r) (every_all_moved Free free steps r f))

    -- both copies
    shares_sure : (path : List ℕ) (i size : ℕ) (step : Step) (q r : List Form) (from : ℕ) → Every NoPlus q → Apart q r from →
        SureAt (numbered path i (against forms q (moved forms step (given unknown from size))))
    shares_sure path i size step q r from h a =
        let ys = moved forms step (given unknown from size) in
        sure_numbered path i (against forms q ys) (pairs_apart q ys h (every_moved NoMinus no_minus step (given unknown from size) (given_no_minus from size)) (by (cases_lt u from))) where
          by : (u < from) ⊎ (from ≤ u) → Every Free q ⊎ Every Free (moved forms step (given unknown from size))
          by (inl b) = inr (every_moved Free free step (given unknown from size) (given_free from size (inl b)))
          by (inr b) = inl (a.fresh b).0

    -- what is given anew, beside a result from before
    fresh_apart : (q r : List Form) (from next : ℕ) (old : List Form) → from ≤ next → Apart old r from → ((u < from) ⊎ (next ≤ u) → Every Free q) → Apart q r next
    fresh_apart q r from next old le a f = record { sides = by (cases_lt u from); fresh = λ h. (f (inr h), (a.fresh (omega (arith, le, h))).1) } where
      by : (u < from) ⊎ (from ≤ u) → Every Free q ⊎ Every Free r
      by (inl b) = inl (f (inl b))
      by (inr b) = inr (a.fresh b).1

    -- a result that is given anew, beside a context from before
    asked_apart : (q r : List Form) (from next at_least : ℕ) (old : List Form) → from ≤ at_least → next ≤ at_least → from ≤ next → Apart q old from → ((u < from) ⊎ (next ≤ u) → Every Free r) → Apart q r at_least
    asked_apart q r from next at_least old le lf lg a f = record { sides = by (cases_lt u from); fresh = λ h. ((a.fresh (omega (arith, le, h))).0, f (inr (omega (arith, lf, h)))) } where
      by : (u < from) ⊎ (from ≤ u) → Every Free q ⊎ Every Free r
      by (inl b) = inr (f (inl b))
      by (inr b) = inl (a.fresh b).0

    -- Calls

    -- a sum is changed at one place by one that is free of the unknown
    once_added : (out : List Form) (k n : ℕ) (x : Form) → Every Once out → Free x → Every Once (added forms out k n x)
    once_added out k n x h f =
        every_set Once out k _ (let low = every_at Once (omega arith) out h k in let none = times_none n (x.terms u) f in omega (arith, low, none)) h

    once_brought : (out : List Form) (es : List Entry) (q : List Form) → Every Once out → Every Free q → Every Once (brought forms out es q)
    once_brought out [] q h f = h
    once_brought out (e ∷ es) q h f =
        once_brought (added forms out e.to e.times (at forms q e.from)) es q (once_added out e.to e.times (at forms q e.from) h (every_at Free refl q f e.from)) f

    -- the entry at a position of what is given
    given_at : (k n i : ℕ) → k + i ≢ u → Free (at forms (given unknown k n) i)
    given_at k zero i h = refl
    given_at k (suc n) zero h = other_one k u (λ e. h (omega (arith, e)))
    given_at k (suc n) (suc i) h = given_at (suc k) n i (λ e. h (omega (arith, e)))

    -- behind the position of the unknown it is not met again
    rising_behind : (k n m : ℕ) (es : List Entry) (out : List Form) → u < k + m → Rising m es → Every Once out → Every Once (brought forms out es (given unknown k n))
    rising_behind k n m [] out b h g = g
    rising_behind k n m (e ∷ es) out b h g =
        let none = given_at k n e.from (λ same. omega (arith, b, h.0, same)) in
        rising_behind k n (suc e.from) es (added forms out e.to e.times (at forms (given unknown k n) e.from)) (omega (arith, b, h.0)) h.2
        (once_added out e.to e.times (at forms (given unknown k n) e.from) g none)

    either_is : (a b : ℕ) → (a ≡ b) ⊎ (a ≢ b)
    either_is a b = grind arith

    rising_once : (k n m : ℕ) (es : List Entry) (out : List Form) → Rising m es → Every Free out → Every Once (brought forms out es (given unknown k n))
    rising_once k n m [] out h g = every_map Free Once (λ x f. omega (arith, f)) out g
    rising_once k n m (e ∷ es) out h g = by (either_is (k + e.from) u) (λ out g. rising_once k n (suc e.from) es out h.2 g) where
      x : Form
      x = at forms (given unknown k n) e.from

      by : (k + e.from ≡ u) ⊎ (k + e.from ≢ u) → ((out : List Form) → Every Free out → Every Once (brought forms out es (given unknown k n))) →
          Every Once (brought forms (added forms out e.to e.times x) es (given unknown k n))
      by (inl same) go =
          let low = every_at Once (omega arith) (given unknown k n) (given_once k n) e.from in
          let none = every_at Free refl out g e.to in
          let one : (forms.times e.times x).terms u ≤ 1 = subst (λ m. m * x.terms u ≤ 1) (sym h.1) (omega (arith, low)) in
          rising_behind k n (suc e.from) es (added forms out e.to e.times x) (omega (arith, same)) h.2
          (every_set Once out e.to _ (omega (arith, one, none)) (every_map Free Once (λ x f. omega (arith, f)) out g))
      by (inr other) go =
          let none = given_at k n e.from other in
          go (added forms out e.to e.times x)
          (every_set Free out e.to _ (free.plus (at forms out e.to) (forms.times e.times x) (every_at Free refl out g e.to) (free.times e.times x none)) g)

    -- what a call asks and has, so far; where the unknown is one from before, the call asks for it once at most
    record Asks (before : Type 0) (s : Sides Form) : Type 0 where
      minus : Every NoMinus s.args
      one : before → Every Once s.args
      result : Every NoMinus s.result

    none_asks : (before : Type 0) (c : Called) → Asks before (none_taken forms G c)
    none_asks before c = record {
      minus = every_nothing NoMinus no_minus c.args;
      one = λ b. every_map Free Once (λ x f. omega (arith, f)) (nothing forms c.args) (every_nothing Free free c.args);
      result = every_nothing NoMinus no_minus c.result;
    }

    paid_asks : (before : Type 0) (c : Called) (o : Option Signature) → Asks before (paid forms G c o)
    paid_asks before c None = none_asks before c
    paid_asks before c (Some s) =
        let none = none_asks before c in
        let es = slice_index_or c.args_from s.budget [] in
        record {
          minus = every_brought NoMinus no_minus (nothing forms c.args) es (numbers forms s.args) none.minus (every_numbers NoMinus (λ n. refl) s.args);
          one = λ b. once_brought (nothing forms c.args) es (numbers forms s.args) (none.one b) (every_numbers Free (λ n. refl) s.args);
          result = every_brought NoMinus no_minus (nothing forms c.result) (slice_index_or c.result_from s.budget []) (numbers forms s.result) none.result (every_numbers NoMinus (λ n. refl) s.result);
        }

    own_asks : (before : Type 0) (c : Called) (limit k : ℕ) → Single c → IsGiven (group_sides forms G k) limit → Asks before (taken forms G c G.budget (group_sides forms G k) (none_taken forms G c))
    own_asks before c limit k single is =
        let none = none_asks before c in
        let es = slice_index_or c.args_from G.budget [] in
        record {
          minus = every_brought NoMinus no_minus (nothing forms c.args) es (group_sides forms G k).args none.minus (subst (Every NoMinus) (sym is.has_args) (given_no_minus is.from is.args));
          one = λ b. subst (λ q. Every Once (brought forms (nothing forms c.args) es q)) (sym is.has_args) (rising_once is.from is.args 0 es (nothing forms c.args) (single G.budget) (every_nothing Free free c.args));
          result = every_brought NoMinus no_minus (nothing forms c.result) (slice_index_or c.result_from G.budget []) (group_sides forms G k).result none.result
              (subst (Every NoMinus) (sym is.has_result) (given_no_minus (is.from + is.args) is.result));
        }

    module _ (limit : ℕ) (group : (k : ℕ) → IsGiven (group_sides forms G k) limit) (small : G.scale < 2 ^ 127) where
      once_asks : (before : Type 0) (mode : Mode) (c : Called) (own : Option ℕ) → Single c → Asks before (once forms G mode c own)
      once_asks before Past c own single = none_asks before c
      once_asks before Own c None single = none_asks before c
      once_asks before Own c (Some k) single = own_asks before c limit k single (group k)
      once_asks before (With meter) c (Some k) single = own_asks before c limit k single (group k)
      once_asks before (With meter) c None single = paid_asks before c (G.cost meter c.function)

      -- multiples are of unknowns that are given here
      used_asks : (before : Type 0) (c : Called) (from : ℕ) (blocks : List ℕ) (s : Sides Form) → (before → u < from) → Asks before s → Asks before (used forms G c (given_blocks unknown from blocks) s)
      used_asks before c from [] s low h = h
      used_asks before c from (block ∷ blocks) s low h =
          let given_here = G.free block c.function in
          let es = slice_index_or c.args_from given_here.budget [] in
          let x = unknown from in
          used_asks before c (suc from) blocks (taken forms G c given_here.budget (free_sides forms G given_here x) s) (λ b. omega (arith, low b)) (record {
            minus = every_brought NoMinus no_minus s.args es (multiples forms x given_here.args) h.minus (every_multiples NoMinus no_minus x given_here.args refl);
            one = λ b. once_brought s.args es (multiples forms x given_here.args) (h.one b) (every_multiples Free free x given_here.args (other_one from u (λ e. omega (arith, low b, e))));
            result = every_brought NoMinus no_minus s.result (slice_index_or c.result_from given_here.budget []) (multiples forms x given_here.result) h.result (every_multiples NoMinus no_minus x given_here.result refl);
          })

      -- a refund is of one scale
      abbrev Little : Form → Type 0
      Little y = y.minus < 2 ^ 127

      little : (y : Form) → NoMinus y → Little y
      little y h = omega (arith, h)

      refund_little : (mode : Mode) (s : Sides Form) → Every NoMinus s.args → Every Little (refunded forms G mode s).args
      refund_little Own s h = every_map NoMinus Little little s.args h
      refund_little Past s h = every_map NoMinus Little little s.args h
      refund_little (With Ticks) s h = every_map NoMinus Little little s.args h
      refund_little (With Cells) s h = every_map NoMinus Little little s.args h
      refund_little (With Work) s h = by s.args h where
        by : (q : List Form) → Every NoMinus q → Every Little (at_zero (forms.less G.scale) q)
        by [] h = tt
        by (x ∷ q) h = (omega (arith, h.0, small), every_map NoMinus Little little q h.1)

      refund_once : (mode : Mode) (s : Sides Form) → Every Once s.args → Every Once (refunded forms G mode s).args
      refund_once Own s h = h
      refund_once Past s h = h
      refund_once (With Ticks) s h = h
      refund_once (With Cells) s h = h
      refund_once (With Work) s h = every_zero Once (forms.less G.scale) (λ x g. g) s.args h

      refund_result : (mode : Mode) (s : Sides Form) → (refunded forms G mode s).result ≡ s.result
      refund_result Own s = refl
      refund_result Past s = refl
      refund_result (With Ticks) s = refl
      refund_result (With Cells) s = refl
      refund_result (With Work) s = refl

      -- a context pays for what a call asks
      args_sure : (q ys : List Form) → Every NoPlus q → Every Little ys → Every Free q ⊎ Every Once ys → SurePairs (against forms q ys)
      unfolding SurePair
      args_sure q ys h g (inl f) =
          pairs_against (λ x. NoPlus x × Free x) Little (refl, refl) (λ x y a b. (inr a.1, inl (omega (arith, a.0, b)))) q ys (every_two NoPlus Free q h f) g
      args_sure q ys h g (inr f) =
          pairs_against NoPlus (λ y. Little y × Once y) refl (λ x y a b. (inl (omega (arith, b.1)), inl (omega (arith, a, b.0)))) q ys h (every_two Little Once ys g f)

      -- what it has pays for the result
      result_sure : (ss r : List Form) → Every NoMinus ss → Result r → SurePairs (against forms ss r)
      unfolding SurePair
      result_sure ss r h res =
          pairs_against NoMinus (λ y. NoPlus y × Once y) refl (λ x y a b. (inl (omega (arith, b.1)), inr (omega (arith, a, b.0)))) ss r h (every_two NoPlus Once r res.plus res.one)

      missing_sure : (mode : Mode) (c : Called) (own : Option ℕ) → SurePairs (missing forms G mode c own)
      missing_sure Own c own = tt
      missing_sure Past c own = tt
      missing_sure (With meter) c (Some k) = tt
      missing_sure (With meter) c None = by (G.cost meter c.function) where
        by : (o : Option Signature) → SurePairs (unpaid forms G o)
        by None = (pair_number forms.none 1 refl, tt)
        by (Some s) = tt

      calls_sure : (mode : Mode) (path : List ℕ) (i : ℕ) (c : Called) (q r : List Form) (from : ℕ) → Single c → Every NoPlus q → Result r → Apart q r from →
          SureAt (numbered path i (missing forms G mode c c.own ++ call_pairs forms G q r (sums forms G mode c (given_blocks unknown from c.usable))))
      calls_sure mode path i c q r from single h res a =
          let start = once forms G mode c c.own in
          let s = used forms G c (given_blocks unknown from c.usable) start in
          let asks = used_asks (u < from) c from c.usable start (λ b. b) (once_asks (u < from) mode c c.own single) in
          let all = refunded forms G mode s in
          let args = args_sure q all.args h (refund_little mode s asks.minus) (by (cases_lt u from) asks) in
          let result = result_sure all.result r (subst (Every NoMinus) (sym (refund_result mode s)) asks.result) res in
          sure_numbered path i (missing forms G mode c c.own ++ call_pairs forms G q r all)
          (pairs_append (missing forms G mode c c.own) (call_pairs forms G q r all) (missing_sure mode c c.own) (pairs_append (against forms q all.args) (against forms all.result r) args result)) where
            by : (u < from) ⊎ (from ≤ u) → Asks (u < from) (used forms G c (given_blocks unknown from c.usable) (once forms G mode c c.own)) →
                Every Free q ⊎ Every Once (refunded forms G mode (used forms G c (given_blocks unknown from c.usable) (once forms G mode c c.own))).args
            by (inl b) asks = inr (refund_once mode (used forms G c (given_blocks unknown from c.usable) (once forms G mode c c.own)) (asks.one b))
            by (inr b) asks = inl (a.fresh b).0

      -- Walks

      abbrev AreWalks : List (Walk Form) → List (List Ask) → Type 0
      AreWalks [] [] = Unit {0}
      AreWalks [] (k ∷ ks) = ⊥
      AreWalks (w ∷ ws) [] = ⊥
      AreWalks (w ∷ ws) (k ∷ ks) = WalkIs w k × AreWalks ws ks

      walk_at : (ws : List (Walk Form)) (ks : List (List Ask)) → AreWalks ws ks → (d : ℕ) → WalkIs (slice_index_or ws d still) (slice_index_or ks d [])
      unfolding WalkIs
      walk_at [] [] h d = λ mode path q r from rest p res a. record { sure = tt; left = refl }
      walk_at [] (k ∷ ks) h d = absurd h
      walk_at (w ∷ ws) [] h d = absurd h
      walk_at (w ∷ ws) (k ∷ ks) h zero = h.0
      walk_at (w ∷ ws) (k ∷ ks) h (suc d) = walk_at ws ks h.1 d

      answers_append : (from : ℕ) (ks ls : List Ask) (rest : List (Hint Form)) → answers unknown from (ks ++ ls) ++ rest ≡ answers unknown from ks ++ (answers unknown (from + counts ks) ls ++ rest)
      answers_append from [] ls rest = let e : from ≡ from + 0 = omega arith in ap (λ n. answers unknown n ls ++ rest) e
      answers_append from (k ∷ ks) ls rest =
          ap (λ l. answer unknown from k ∷ l) (answers_append (from + count k) ks ls rest
          ∙ (let e : from + count k + counts ks ≡ from + (count k + counts ks) = omega arith in ap (λ n. answers unknown (from + count k) ks ++ (answers unknown n ls ++ rest)) e))

      -- a walk by the first of the hints, and then what is found by the others
      walk_then : (w : Walk Form) (ks ls : List Ask) → WalkIs w ks → (mode : Mode) (path : List ℕ) (q r : List Form) (from : ℕ) (rest : List (Hint Form)) (next : List (Hint Form) → Walked Form) →
          Every NoPlus q → Result r → Apart q r from → Found (next (answers unknown (from + counts ks) ls ++ rest)) rest →
          Found (and_then (w mode path q r (answers unknown from (ks ++ ls) ++ rest)) next) rest
      unfolding WalkIs
      walk_then w ks ls is mode path q r from rest next h res a go =
          let mid = answers unknown (from + counts ks) ls ++ rest in
          subst (λ hs. Found (and_then (w mode path q r hs) next) rest) (sym (answers_append from ks ls rest))
          (found_then (w mode path q r (answers unknown from ks ++ mid)) next mid rest (is mode path q r from mid h res a) go)

      -- the results of a Let, which are given before the hints of its bound form
      record Told (rs : List (List Form)) (from next : ℕ) : Type 0 where
        results : (j : ℕ) → Result (slice_index_or rs j [])
        free : (u < from) ⊎ (next ≤ u) → (j : ℕ) → Every Free (slice_index_or rs j [])

      told_given : (sizes : List ℕ) (k from next : ℕ) → from ≤ k → k + sum_of sizes ≤ next → Told (given_each unknown k sizes) from next
      told_given [] k from next a b = record { results = λ j. record { plus = tt; minus = tt; one = tt }; free = λ h j. tt }
      told_given (n ∷ sizes) k from next a b =
          let go = told_given sizes (k + n) from next (omega (arith, a)) (omega (arith, b)) in
          record { results = λ j. one j go; free = λ h j. none h j go } where
            one : (j : ℕ) → Told (given_each unknown (k + n) sizes) from next → Result (slice_index_or (given unknown k n ∷ given_each unknown (k + n) sizes) j [])
            one zero go = given_result k n
            one (suc j) go = go.results j

            none : (u < from) ⊎ (next ≤ u) → (j : ℕ) → Told (given_each unknown (k + n) sizes) from next → Every Free (slice_index_or (given unknown k n ∷ given_each unknown (k + n) sizes) j [])
            none h zero go = given_apart k n from next a (omega (arith, b)) h
            none h (suc j) go = go.free h j

      each_sure : (ws : List (Walk Form)) (budgets : List (List Ask)) → AreWalks ws budgets → (j : ℕ) (parts : List Part) (rs : List (List Form)) (q : List Form) (mode : Mode) (path : List ℕ)
          (old : List Form) (first next from : ℕ) (rest : List (Hint Form)) → Told rs first next → first ≤ next → next ≤ from → Every NoPlus q → Apart q old first →
          Found (each forms G ws j parts rs q mode path (answers unknown from (each_asked budgets parts) ++ rest)) rest
      each_sure ws budgets are j [] rs q mode path old first next from rest told a b h apart = record { sure = tt; left = refl }
      each_sure ws budgets are j (part ∷ parts) rs q mode path old first next from rest told a b h apart =
          let ks = slice_index_or budgets part.degree [] in
          let r = slice_index_or rs j [] in
          let there = moved forms part.there q in
          walk_then (slice_index_or ws part.degree still) ks (each_asked budgets parts) (walk_at ws budgets are part.degree) (mode_at j mode) (path ++ j ∷ []) there r from rest
          (λ left. each forms G ws (suc j) parts rs q mode path left)
          (moved_plus part.there q h) (told.results j) (asked_apart there r first next from old (omega (arith, a, b)) b a (moved_apart part.there q old first apart) (λ c. told.free c j))
          (each_sure ws budgets are (suc j) parts rs q mode path old first next (from + counts ks) rest told a (omega (arith, b)) h apart)

      lets_sure : (parts : List Part) (firsts : p.Plans) (size : ℕ) (e : Plan) → AreWalks (walks forms G firsts) (all_asked firsts) → WalkIs (walk forms G e) (asked e) → (mode : Mode) (path : List ℕ) (q r : List Form) (from : ℕ) (rest : List (Hint Form)) →
          Every NoPlus q → Result r → Apart q r from → let hs = answers unknown from (ResultsOf (map (λ (part : Part). part.size) parts) ∷ (each_asked (all_asked firsts) parts ++ asked e)) ++ rest in
          Found (and_then (each forms G (walks forms G firsts) 0 parts (given_each unknown from (map (λ (part : Part). part.size) parts)) q mode path (later hs))
          (λ left. walk forms G e mode (path ++ length parts ∷ []) (joined forms (nothing forms size) 0 parts (given_each unknown from (map (λ (part : Part). part.size) parts))) r left)) rest
      unfolding WalkIs
      lets_sure parts firsts size e are is mode path q r from rest h res a =
          let sizes = map (λ (part : Part). part.size) parts in
          let rs = given_each unknown from sizes in
          let next = from + sum_of sizes in
          let told = told_given sizes from from next (omega arith) (omega arith) in
          let ks = each_asked (all_asked firsts) parts in
          let mid = answers unknown (next + counts ks) (asked e) ++ rest in
          let q_next = joined forms (nothing forms size) 0 parts rs in
          let go = λ (left : List (Hint Form)). walk forms G e mode (path ++ length parts ∷ []) q_next r left in
          subst (λ hs. Found (and_then (each forms G (walks forms G firsts) 0 parts rs q mode path hs) go) rest) (sym (answers_append next ks (asked e) rest))
          (found_then (each forms G (walks forms G firsts) 0 parts rs q mode path (answers unknown next ks ++ mid)) go mid rest
          (each_sure (walks forms G firsts) (all_asked firsts) are 0 parts rs q mode path r from next next mid told (omega arith) (omega arith) h a)
          (is mode (path ++ length parts ∷ []) q_next r (next + counts ks) rest
          (every_joined NoPlus no_plus (nothing forms size) 0 parts rs (every_nothing NoPlus no_plus size) (λ j. (told.results j).plus)) res
          (apart_later q_next r next (next + counts ks) (omega arith) (fresh_apart q_next r from next q (omega arith) a
          (λ c. every_joined Free free (nothing forms size) 0 parts rs (every_nothing Free free size) (told.free c))))))

      abbrev mutual
        unfolding WalkIs

        walk_is : (e : Plan) → AllSingle e → WalkIs (walk forms G e) (asked e)
        walk_is (p.Ends n cells steps) s mode path q r from rest h res a =
            begun_sure n mode path q r from rest _ h a (λ i q h a. record { sure = ends_sure path i (charge G.scale mode Cells cells) steps q r from h res a; left = refl })
        walk_is (p.Pays n ticks e) s mode path q r from rest h res a =
            begun_sure n mode path q r from rest _ h a (λ i q h a.
            let k = charge G.scale mode Ticks ticks in
            found_behind (numbered path i ((at forms q 0, forms.number k) ∷ [])) _ rest (one_condition path i q k h)
            (walk_is e s mode (path ++ 0 ∷ []) (at_zero (forms.less k) q) r from rest (lowered_plus k q h) res (apart_moved (at_zero (forms.less k)) (lowered_free k) q r from a)))
        walk_is (p.Moves n step e) s mode path q r from rest h res a =
            begun_sure n mode path q r from rest _ h a (λ i q h a. walk_is e s mode (path ++ 0 ∷ []) (moved forms step q) r from rest (moved_plus step q h) res (moved_apart step q r from a))
        walk_is (p.Forks n step e other b) s mode path q r from rest h res a =
            begun_sure n mode path q r from rest _ h a (λ i q h a.
            walk_then (walk forms G e) (asked e) (asked b) (walk_is e s.0) mode (path ++ 0 ∷ []) (moved forms step q) r from rest
            (λ left. walk forms G b mode (path ++ 1 ∷ []) (moved forms other q) r left) (moved_plus step q h) res (moved_apart step q r from a)
            (walk_is b s.1 mode (path ++ 1 ∷ []) (moved forms other q) r (from + counts (asked e)) rest (moved_plus other q h) res
            (apart_later (moved forms other q) r from (from + counts (asked e)) (omega arith) (moved_apart other q r from a))))
        walk_is (p.Shares n size step e) s mode path q r from rest h res a =
            begun_sure n mode path q r from rest _ h a (λ i q h a.
            found_behind (numbered path i (against forms q (moved forms step (given unknown from size)))) _ rest (shares_sure path i size step q r from h a)
            (walk_is e s mode (path ++ 0 ∷ []) (given unknown from size) r (from + size) rest (given_no_plus from size) res
            (fresh_apart (given unknown from size) r from (from + size) q (omega arith) a (λ c. given_free from size c))))
        walk_is (p.Calls n c) s mode path q r from rest h res a =
            begun_sure n mode path q r from rest _ h a (λ i q h a. record { sure = calls_sure mode path i c q r from s h res a; left = refl })
        walk_is (p.Lets n parts firsts size e) s mode path q r from rest h res a =
            begun_sure n mode path q r from rest _ h a (λ i q h a. lets_sure parts firsts size e (walks_are firsts s.0) (walk_is e s.1) mode path q r from rest h res a)

        walks_are : (es : p.Plans) → EachSingle es → AreWalks (walks forms G es) (all_asked es)
        walks_are p.NoPlans s = tt
        walks_are (p.More e es) s = (walk_is e s.0, walks_are es s.1)

  -- Tasks

  given_sides : (s : Sides Form) (limit from : ℕ) → limit ≤ from → IsGiven s limit → Every NoPlus s.args × Result s.result × Apart s.args s.result from
  given_sides s limit from low is = (
    subst (Every NoPlus) (sym is.has_args) (given_no_plus is.from is.args),
    subst Result (sym is.has_result) (given_result (is.from + is.args) is.result),
    subst (λ q. Apart q s.result from) (sym is.has_args) (subst (λ r. Apart (given unknown is.from is.args) r from) (sym is.has_result) apart),
  ) where
    by : (u < is.from + is.args) ⊎ (is.from + is.args ≤ u) → Every Free (given unknown is.from is.args) ⊎ Every Free (given unknown (is.from + is.args) is.result)
    by (inl b) = inr (given_free (is.from + is.args) is.result (inl b))
    by (inr b) = inl (given_free is.from is.args (inr b))

    apart : Apart (given unknown is.from is.args) (given unknown (is.from + is.args) is.result) from
    apart = record {
      sides = by (cases_lt u (is.from + is.args));
      fresh = λ h. (given_free is.from is.args (inr (omega (arith, h, low, is.below))), given_free (is.from + is.args) is.result (inr (omega (arith, h, low, is.below))));
    }

  module _ (j : Job) (limit : ℕ) (group : List (Sides Form)) (all_given : (k : ℕ) → IsGiven (group_sides forms (known_by j group) k) limit) (small : j.scale < 2 ^ 127) where
    target_sure : (ps : List ℕ) → SureAt (of_target forms j group ps)
    target_sure [] = tt
    target_sure (p ∷ ps) =
        let s = group_sides forms (known_by j group) j.function in
        let res = (given_sides s limit limit (omega arith) (all_given j.function)).1 in
        (pair_number (at forms s.result p) 1 (every_at NoPlus refl s.result res.plus p), target_sure ps)

    bodies_sure : (k from : ℕ) (bs : List Body) → limit ≤ from → BodiesSingle bs → SureAt (of_bodies forms j group k bs (hints_given unknown from bs))
    unfolding WalkIs
    bodies_sure k from [] low h = tt
    bodies_sure k from (b ∷ bs) low h =
        let G = known_by j group in
        let s = group_sides forms G k in
        let ready = given_sides s limit from low (all_given k) in
        let hs = answers unknown from (asked b.plan) in
        let found = walk_is G limit all_given small b.plan h.0 j.mode (k ∷ []) s.args s.result from [] ready.0 ready.1 ready.2 in
        let one = subst (λ hs. Found (walk forms G b.plan j.mode (k ∷ []) s.args s.result hs) []) (append-nil hs) found in
        sure_append (walk forms G b.plan j.mode (k ∷ []) s.args s.result hs).found (of_bodies forms j group (suc k) bs (hints_given unknown (from + counts (asked b.plan)) bs)) one.sure
        (bodies_sure (suc k) (from + counts (asked b.plan)) bs (omega (arith, low)) h.1)

  sides_are_given : (from k : ℕ) (bs : List Body) → IsGiven (slice_index_or (sides_given unknown from bs) k (record { args = []; result = [] })) (from + sides_count bs)
  sides_are_given from k [] = record { from = from; args = 0; result = 0; has_args = refl; has_result = refl; below = omega arith }
  sides_are_given from zero (b ∷ bs) = record { from = from; args = b.args; result = b.result; has_args = refl; has_result = refl; below = omega arith }
  sides_are_given from (suc k) (b ∷ bs) =
      let go = sides_are_given (from + (b.args + b.result)) k bs in
      record { from = go.from; args = go.args; result = go.result; has_args = go.has_args; has_result = go.has_result; below = omega (arith, go.below) }

  job_sure : (j : Job) → BodiesSingle j.bodies → j.scale < 2 ^ 127 → SureAt (given_conditions forms unknown j)
  job_sure j single small =
      let group = sides_given unknown 0 j.bodies in
      let limit = sides_count j.bodies in
      let from_none : 0 + limit ≡ limit = omega arith in
      let all_given = λ (k : ℕ). subst (IsGiven (group_sides forms (known_by j group) k)) from_none (sides_are_given 0 k j.bodies) in
      sure_append (of_target forms j group j.target) (of_bodies forms j group 0 j.bodies (hints_given unknown limit j.bodies))
      (target_sure j limit group all_given small j.target) (bodies_sure j limit group all_given small 0 limit j.bodies (omega arith) single)

-- of every unknown
each_unknown : (cs : List (Condition Form)) → ((u : ℕ) → SureAt u cs) → AreSure cs
unfolding SurePair
each_unknown [] h = tt
each_unknown (c ∷ cs) h = (record { terms = λ u. (h u).0.0; right = (h 0).0.1 }, each_unknown cs (λ u. (h u).1))

-- Plans of normal forms

rising_entries : (k : ℕ) (places : List ℕ) (ts us : List (List Plain)) → Rising k (entries_from k (permutes places) ts us)
rising_entries k places [] us = tt
rising_entries k places (t ∷ ts) us = by (position (alike (permutation places t)) us) (rising_entries (suc k) places ts us) where
  by : (o : Option ℕ) → Rising (suc k) (entries_from (suc k) (permutes places) ts us) → Rising k ((entry_to k 1 o ++ []) ++ entries_from (suc k) (permutes places) ts us)
  by None go = rising_later k (suc k) (entries_from (suc k) (permutes places) ts us) (omega arith) go
  by (Some to) go = (omega arith, refl, go)

rising_at : (C : Context) (xs : List ℕ) (As : List Type') (d : ℕ) (bs : List ℕ) (b : ℕ) → Rising 0 (slice_index_or (map (λ b. operand_entries C xs As b d) bs) b [])
rising_at C xs As d [] b = tt
rising_at C xs As d (x ∷ bs) zero = rising_entries 0 (operand_places C xs) (index_list As x) (index_list (types C) d)
rising_at C xs As d (x ∷ bs) (suc b) = rising_at C xs As d bs b

lower_single : (f : ℕ → Plan) → ((d : ℕ) → AllSingle (f d)) → (d : ℕ) → EachSingle (lower f d)
lower_single f h zero = (h zero, tt)
lower_single f h (suc d) = (h (suc d), lower_single f h d)

module _ (P : Program) (group : List ℕ) (earlier : List Block) (budget : ℕ) where
  plan_single : (e : Norm) (C : Context) (T : Type') (d : ℕ) → AllSingle (plan P group earlier budget e C T d)
  plan_single (n.Var k x) C T d = tt
  plan_single (n.Number k i) C T d = tt
  plan_single (n.Truth k b) C T d = tt
  plan_single (n.Nil k) C T d = tt
  plan_single (n.Leaf k) C T d = tt
  plan_single (n.Nothing k) C T d = tt
  plan_single (n.Arith k op x y) C T d = tt
  plan_single (n.Compare k op x y) C T d = tt
  plan_single (n.Not k x) C T d = tt
  plan_single (n.Pair k x y) C T d = tt
  plan_single (n.Cons k x y) C T d = tt
  plan_single (n.Node k x y z) C T d = tt
  plan_single (n.Just k x) C T d = tt
  plan_single (n.Call k f xs) C T d = λ b. rising_at C xs (args_of (slice_get P.funs f)) d (budgets budget d) b
  plan_single (n.Let k x A a e) C T d = (lower_single (plan P group earlier budget a (inners a C) A) (plan_single a (inners a C) A) d, plan_single e (others a C ++ (x, A) ∷ []) T d)
  plan_single (n.Split k x y z a) C T d = plan_single a (opened x (y ∷ z ∷ []) parts_of C) T d
  plan_single (n.If k x a e) C T d = (plan_single a (without x C) T d, plan_single e (without x C) T d)
  plan_single (n.CaseList k x a h t e) C T d = (plan_single a (without x C) T d, plan_single e (opened x (h ∷ t ∷ []) parts_of C) T d)
  plan_single (n.CaseTree k x a v y z e) C T d = (plan_single a (without x C) T d, plan_single e (opened x (v ∷ y ∷ z ∷ []) parts_of C) T d)
  plan_single (n.CaseOption k x a y e) C T d = (plan_single a (without x C) T d, plan_single e (opened x (y ∷ []) parts_of C) T d)
  plan_single (n.Tick k i a) C T d = plan_single a C T d
  plan_single (n.Share k x y z a) C T d = plan_single a (opened x (y ∷ z ∷ []) copies_of C) T d
  plan_single (n.Drop k x a) C T d = plan_single a (without x C) T d

  bodies_single : (fs : List ℕ) → BodiesSingle (map (λ f. body_of P group earlier budget (slice_get P.funs f)) fs)
  bodies_single [] = tt
  bodies_single (f ∷ fs) = (by (slice_get P.funs f), bodies_single fs) where
    by : (o : Option NormFun) → AllSingle (body_of P group earlier budget o).plan
    by None = tt
    by (Some g) = plan_single g.body g.params g.result budget

pub tasks_are_sure : TasksAreSure
tasks_are_sure P d earlier task j e small =
    let single = subst BodiesSingle (sym e) (bodies_single P (members P task.group) earlier (budget_of d task.kind) (members P task.group)) in
    each_unknown (given_conditions forms unknown j) (λ u. job_sure u j single small)
