-- The rows of a task: what the unknown numbers of its signatures and hints have to meet. They are told at numbers for the unknowns.
use Rattle.std.specs.Prelude.{ℕ, suc, ◌+◌, ◌-◌, ℤ, pos, ◌-ℤ◌, nat_le, nat_eq, Bool, cond}
use Rattle.std.specs.Prelude.{List, [], ◌∷◌, ◌++◌, map, flat_map, filter, length, slice_get, slice_index_or, Option, None}
use Rattle.std.specs.Prelude.{Some}
use Rattle.std.specs.List.{list_any, range_with_len}
use Rattle.raml_syntax.specs.Tree.{Type'}
use Rattle.base_poly.specs.Plain.{Plain, degrees, alike}
use Rattle.base_poly.specs.Base.{total}
use Rattle.base_poly.specs.Indices.{index_list}
use Rattle.index_shift.specs.Potential.{Annotation, moved}
use Rattle.index_shift.specs.Maps.{opening, leaving, sharing}
use Rattle.normal_spec.specs.Norm as n
use Rattle.normal_spec.specs.Norm.{Norm, NormFun}
use Rattle.normal_spec.specs.Context.{Context, types, place, without, opened, parts_of, copies_of, inners, others}
use Rattle.cost_free.specs.declared.task.Meter.TheVariants.{Work}
use Rattle.cost_free.specs.Target.{Target, targets}
use Rattle.cost_free.specs.Task as k
use Rattle.cost_free.specs.Task.{Task, Kind, Free}
use Rattle.annot_types.specs.Certificate.{Sig, Block}
use Rattle.annot_types.specs.Signature.{sig_in, free_budget, cost_sig}
use Rattle.annot_types.specs.Carried.{more, rebudgeted, at_operands, at_parts, tuples, part, joined}
use Rattle.annot_types.specs.Rules.{Mode, With, Past, Setting, Taken, price, refund, asked, left}
use Rattle.annot_types.specs.Holds.{mode_of}

-- numbers for the unknowns
abbrev pub Assignment : Type 0
Assignment = ℕ → ℕ

-- A row: its two sides are sums of unknowns, and the first is to be at least the second and the right side together.
pub record Row : Type 0 where
  pub has : ℕ
  pub asks : ℕ
  pub right : ℤ

-- What a part of a walk makes, where this is the least unknown that is not yet taken: its rows, and the least unknown behind it.
abbrev pub Made : Type 0
Made = ℕ → List Row × ℕ

abbrev pub rows_only : List Row → Made
rows_only rows next = (rows, next)

abbrev pub both : Made → Made → Made
both first second next = let a = first next in let b = second a.1 in (a.0 ++ b.0, b.1)

-- So many unknowns are taken, the first of which is told.
abbrev pub taking : ℕ → (ℕ → Made) → Made
taking count make next = make next (next + count)

-- how many positions a context has at budget d
abbrev pub size : List Type' → ℕ → ℕ
size As d = length (index_list As d)

-- a function of the group, and the first unknowns of the annotations of its arguments and of its result
pub record Unsolved : Type 0 where
  pub fun : ℕ
  pub args : ℕ
  pub result : ℕ

-- no number is owed
abbrev pub none : Annotation
none k = 0

module _ (S : Setting) (own : List Unsolved) (x : Assignment) where
  -- the annotation whose unknowns begin with this one
  abbrev pub unknown : ℕ → Annotation
  unknown first k = x (first + k)

  -- An annotation of a walk is a sum of unknowns `q` less a constant `owed`. One row for each position: it covers the annotation r.
  abbrev pub cover_rows : List Type' → ℕ → Annotation → Annotation → Annotation → List Row
  cover_rows As d q owed r = map (λ k. record { has = q k; asks = r k; right = pos (owed k) }) (range_with_len 0 (size As d))

  -- at the zero index alone
  abbrev pub first_row : Annotation → Annotation → ℕ → List Row
  first_row q owed asks = record { has = q 0; asks = asks; right = pos (owed 0) } ∷ []

  -- with the meter of work, a form that has nodes has a row for their price
  abbrev pub node_row : Mode → ℕ → Annotation → Annotation → List Row
  node_row (With Work) (suc k) q owed = first_row q (more (price S (With Work) (suc k) 0 0) owed) 0
  node_row mode nodes q owed = []

  -- that row, and then the rows of the form, to which so much more is owed
  abbrev pub pays : Mode → ℕ → Annotation → Annotation → (Annotation → Made) → Made
  pays m nodes q owed rule = both (rows_only (node_row m nodes q owed)) (rule (more (price S m nodes 0 0) owed))

  -- the unknowns of a Let's hint: an annotation of the bound form's result for each tuple of the other variables
  abbrev pub let_size : Type' → ℕ → List (List Plain) → ℕ
  let_size A d js = total (λ j. size (A ∷ []) (d - degrees j)) js

  abbrev pub let_results : Type' → ℕ → ℕ → List (List Plain) → List Annotation
  let_results A d first [] = []
  let_results A d first (j ∷ js) = unknown first ∷ let_results A d (first + size (A ∷ []) (d - degrees j)) js

  -- the bound form is walked for each tuple, the first time in the mode and then in mode Past
  abbrev pub let_parts : (Mode → List Plain → Annotation → Made) → Mode → List (List Plain) → List Annotation → Made
  let_parts child mode (j ∷ js) (r ∷ rs) = both (child mode j r) (let_parts child Past js rs)
  let_parts child mode _ _ = rows_only []

  -- the unknown signature that a call takes: that of a function of the group, but for mode Past
  abbrev pub is_of : ℕ → Unsolved → Bool
  is_of f u = nat_eq f u.fun

  abbrev pub own_taken : Mode → ℕ → List Unsolved
  own_taken Past f = []
  own_taken mode f = filter (is_of f) own

  -- the signature with cost of a function of another group
  abbrev pub at_block : Option Sig → List Taken
  at_block None = []
  at_block (Some s) = record { budget = S.budget; sig = s; times = 1 } ∷ []

  abbrev pub paid_taken : Mode → ℕ → List Taken
  paid_taken (With meter) f = cond (list_any (is_of f) own) [] (at_block (cost_sig S.program meter S.earlier f))
  paid_taken mode f = []

  -- the signatures that a call can take multiples of: those of earlier cost-free blocks of budget at most d
  abbrev pub usable_at : ℕ → Option ℕ → Option Sig → List Taken
  usable_at d (Some budget) (Some s) = cond (nat_le budget d) (record { budget = budget; sig = s; times = 0 } ∷ []) []
  usable_at d _ _ = []

  abbrev pub usable : ℕ → ℕ → List Taken
  usable d f = flat_map (λ (b : Block). usable_at d (free_budget b.task.kind) (sig_in S.program b f)) S.earlier

  -- each as often as its unknown says
  abbrev pub multiplied : ℕ → List Taken → List Taken
  multiplied first [] = []
  multiplied first (t ∷ ts) = record { budget = t.budget; sig = t.sig; times = x first } ∷ multiplied (suc first) ts

  -- a call's rows: one for each position of the context, and then one for each position of the result
  abbrev pub arg_row : Mode → ℕ → Context → Annotation → Annotation → List ℕ → List Type' →
      List Unsolved → List Taken → List Taken → ℕ → Row
  arg_row m d C q owed xs As mine paid multiples k = record {
    has = q k;
    asks = total (λ (u : Unsolved). at_operands C xs As S.budget d (unknown u.args) k) mine + asked S C xs As d multiples k;
    right = pos (owed k + asked S C xs As d paid k) -ℤ pos (more (refund S m) none k);
  }

  abbrev pub result_row : ℕ → Type' → Annotation → List Unsolved → List Taken → List Taken → ℕ → Row
  result_row d T r mine paid multiples k = record {
    has = total (λ (u : Unsolved). rebudgeted (T ∷ []) S.budget d (unknown u.result) k) mine + left S T d multiples k;
    asks = r k;
    right = pos 0 -ℤ pos (left S T d paid k);
  }

  abbrev pub call_rows : Mode → ℕ → Context → Annotation → Annotation → ℕ → List ℕ → Type' →
      Annotation → Option NormFun → List Taken → List Row
  call_rows m d C q owed f xs T r None multiples = []
  call_rows m d C q owed f xs T r (Some g) multiples =
      map (arg_row m d C q owed xs (types g.params) (own_taken m f) (paid_taken m f) multiples) (range_with_len 0 (size (types C) d))
      ++ map (result_row d T r (own_taken m f) (paid_taken m f) multiples) (range_with_len 0 (size (T ∷ []) d))

  -- The rows of a form in the order of the walk, with the annotation q less `owed` of its context and r of its result:
  -- those of the rule, and then those of its parts. A hint's unknowns come before those of the parts.
  abbrev pub walk : Mode → ℕ → Context → Annotation → Annotation → Norm → Type' → Annotation → Made
  walk m d C q owed (n.Var k y) T r = pays m k q owed (λ owed. rows_only (cover_rows (types C) d q owed r))
  walk m d C q owed (n.Number k i) T r = pays m k q owed (λ owed. rows_only (first_row q owed (r 0)))
  walk m d C q owed (n.Truth k b) T r = pays m k q owed (λ owed. rows_only (first_row q owed (r 0)))
  walk m d C q owed (n.Nil k) T r = pays m k q owed (λ owed. rows_only (first_row q owed (r 0)))
  walk m d C q owed (n.Leaf k) T r = pays m k q owed (λ owed. rows_only (first_row q owed (r 0)))
  walk m d C q owed (n.Nothing k) T r = pays m k q owed (λ owed. rows_only (first_row q owed (r 0)))
  walk m d C q owed (n.Arith k op y z) T r = pays m k q owed (λ owed. rows_only (first_row q owed (r 0)))
  walk m d C q owed (n.Compare k op y z) T r = pays m k q owed (λ owed. rows_only (first_row q owed (r 0)))
  walk m d C q owed (n.Not k y) T r = pays m k q owed (λ owed. rows_only (first_row q owed (r 0)))
  -- the price of a cell is owed at the zero index
  walk m d C q owed (n.Pair k y z) T r = pays m k q owed (λ owed.
      rows_only (cover_rows (types C) d q (more (price S m 0 0 1) owed) (at_parts C (y ∷ z ∷ []) T d r)))
  walk m d C q owed (n.Cons k y z) T r = pays m k q owed (λ owed.
      rows_only (cover_rows (types C) d q (more (price S m 0 0 1) owed) (at_parts C (y ∷ z ∷ []) T d r)))
  walk m d C q owed (n.Node k y z w) T r = pays m k q owed (λ owed.
      rows_only (cover_rows (types C) d q (more (price S m 0 0 1) owed) (at_parts C (y ∷ z ∷ w ∷ []) T d r)))
  walk m d C q owed (n.Just k y) T r = pays m k q owed (λ owed.
      rows_only (cover_rows (types C) d q (more (price S m 0 0 1) owed) (at_parts C (y ∷ []) T d r)))
  walk m d C q owed (n.Call k f ys) T r = pays m k q owed (λ owed. taking (length (usable d f)) (λ first.
      rows_only (call_rows m d C q owed f ys T r (slice_get S.program.funs f) (multiplied first (usable d f)))))
  walk m d C q owed (n.Let k y A a b) T r = pays m k q owed (λ owed. taking (let_size A d (tuples (others a C) d)) (λ first. both
      (let_parts (λ m j s. walk m (d - degrees j) (inners a C) (part a C d j q) (part a C d j owed) a A s) m
      (tuples (others a C) d) (let_results A d first (tuples (others a C) d)))
      (walk m d (others a C ++ (y, A) ∷ [])
      (joined (types (others a C)) A d (tuples (others a C) d) (let_results A d first (tuples (others a C) d))) none b T r)))
  walk m d C q owed (n.Split k y v w a) T r = pays m k q owed (λ owed.
      walk m d (opened y (v ∷ w ∷ []) parts_of C) (moved (opening (types C) (place y C) d) q)
      (moved (opening (types C) (place y C) d) owed) a T r)
  walk m d C q owed (n.If k y a b) T r = pays m k q owed (λ owed. both
      (walk m d (without y C) (moved (leaving (types C) (place y C) d) q) (moved (leaving (types C) (place y C) d) owed) a T r)
      (walk m d (without y C) (moved (leaving (types C) (place y C) d) q) (moved (leaving (types C) (place y C) d) owed) b T r))
  walk m d C q owed (n.CaseList k y a h t b) T r = pays m k q owed (λ owed. both
      (walk m d (without y C) (moved (leaving (types C) (place y C) d) q) (moved (leaving (types C) (place y C) d) owed) a T r)
      (walk m d (opened y (h ∷ t ∷ []) parts_of C) (moved (opening (types C) (place y C) d) q)
      (moved (opening (types C) (place y C) d) owed) b T r))
  walk m d C q owed (n.CaseTree k y a e v w b) T r = pays m k q owed (λ owed. both
      (walk m d (without y C) (moved (leaving (types C) (place y C) d) q) (moved (leaving (types C) (place y C) d) owed) a T r)
      (walk m d (opened y (e ∷ v ∷ w ∷ []) parts_of C) (moved (opening (types C) (place y C) d) q)
      (moved (opening (types C) (place y C) d) owed) b T r))
  walk m d C q owed (n.CaseOption k y a w b) T r = pays m k q owed (λ owed. both
      (walk m d (without y C) (moved (leaving (types C) (place y C) d) q) (moved (leaving (types C) (place y C) d) owed) a T r)
      (walk m d (opened y (w ∷ []) parts_of C) (moved (opening (types C) (place y C) d) q)
      (moved (opening (types C) (place y C) d) owed) b T r))
  -- the number at the zero index pays the ticks
  walk m d C q owed (n.Tick k i a) T r = pays m k q owed (λ owed. both
      (rows_only (first_row q (more (price S m 0 i 0) owed) 0))
      (walk m d C q (more (price S m 0 i 0) owed) a T r))
  walk m d C q owed (n.Share k y v w a) T r =
      pays m k q owed (λ owed. taking (size (types (opened y (v ∷ w ∷ []) copies_of C)) d) (λ first. both
      (rows_only (cover_rows (types C) d q owed (moved (sharing (types C) (place y C) d) (unknown first))))
      (walk m d (opened y (v ∷ w ∷ []) copies_of C) (unknown first) none a T r)))
  walk m d C q owed (n.Drop k y a) T r = pays m k q owed (λ owed.
      walk m d (without y C) (moved (leaving (types C) (place y C) d) q) (moved (leaving (types C) (place y C) d) owed) a T r)

  -- a function's body, with its unknown annotations
  abbrev pub body_rows : Mode → Option NormFun → Unsolved → Made
  body_rows m None u = rows_only []
  body_rows m (Some g) u = walk m S.budget g.params (unknown u.args) none g.body g.result (unknown u.result)

  -- those of the group, one after the other
  abbrev pub group_rows : Mode → List Unsolved → Made
  group_rows m [] = rows_only []
  group_rows m (u ∷ us) = both (body_rows m (slice_get S.program.funs u.fun) u) (group_rows m us)

  -- where the target has a tuple, the result's annotation has at least 1, by ascending position
  abbrev pub target_rows : Type' → ℕ → Target → List Row
  target_rows A first target =
      map (λ k. record { has = unknown first k; asks = 0; right = pos 1 })
      (filter (λ k. list_any (alike (slice_index_or (index_list (A ∷ []) S.budget) k [])) target)
      (range_with_len 0 (size (A ∷ []) S.budget)))

  abbrev pub rows_at_target : ℕ → ℕ → ℕ → Option NormFun → List Unsolved → List Row
  rows_at_target d f number (Some g) (u ∷ us) = target_rows g.result u.result (slice_index_or (targets g.result d) number [])
  rows_at_target d f number _ _ = []

  abbrev pub reach_rows : ℕ → Kind → List Row
  reach_rows d (Free budget f number) = rows_at_target d f number (slice_get S.program.funs f) (filter (is_of f) own)
  reach_rows d (k.With meter) = []

  -- all rows of a task
  abbrev pub task_rows : ℕ → Kind → Made
  task_rows d kind = both (rows_only (reach_rows d kind)) (group_rows (mode_of kind) own)
