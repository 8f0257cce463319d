-- The conditions of the rules, in the order of the walk.
use Rattle.std.specs.Prelude.{ℕ, zero, suc, ◌*◌, List, [], ◌∷◌, ◌++◌, length, slice_index_or, slice_set, Option, None, Some}
use Rattle.index_shift.specs.declared.entry.Entry.{Entry}
use Rattle.cost_free.specs.declared.task.Meter.{Meter}
use Rattle.cost_free.specs.declared.task.Meter.TheVariants.{Ticks, Cells, Work}
use Rattle.annot_types.specs.Rules.{Mode, With, Own, Past}
use Rattle.rules_spec.specs.Plan as p
use Rattle.rules_spec.specs.Plan.{Step, Part, Called}
use Rattle.rules_spec.specs.Numbers.{Numbers, Sides, Signature, Known, Hint, Results, Copies, Multiples, Condition, Walked}

-- what is charged at a meter for so many of what it counts
abbrev pub charge : ℕ → Mode → Meter → ℕ → ℕ
charge scale (With Ticks) Ticks n = n * scale
charge scale (With Cells) Cells n = n * scale
charge scale (With Work) Work n = n * scale
charge scale mode meter n = 0

module _ {E : Type 0} where
  -- What the next hint tells; nothing where it is of another kind.
  abbrev pub results_of : List (Hint E) → List (List E)
  results_of (Results rs ∷ hs) = rs
  results_of _ = []

  abbrev pub copies_of : List (Hint E) → List E
  copies_of (Copies q ∷ hs) = q
  copies_of _ = []

  abbrev pub multiples_of : List (Hint E) → List (ℕ × E)
  multiples_of (Multiples ms ∷ hs) = ms
  multiples_of _ = []

  -- the hints behind it
  abbrev pub later : List (Hint E) → List (Hint E)
  later [] = []
  later (h ∷ hs) = hs

  abbrev pub only : List (Condition E) → List (Hint E) → Walked E
  only cs hs = record { found = cs; left = hs }

  -- conditions, and then those of what is walked
  abbrev pub behind : List (Condition E) → Walked E → Walked E
  behind cs w = record { found = cs ++ w.found; left = w.left }

  abbrev pub and_then : Walked E → (List (Hint E) → Walked E) → Walked E
  and_then w next = behind w.found (next w.left)

  -- the conditions at a path, numbered from an index on
  abbrev pub numbered : List ℕ → ℕ → List (E × E) → List (Condition E)
  numbered path index [] = []
  numbered path index (e ∷ es) = record { path = path; index = index; left = e.0; right = e.1 } ∷ numbered path (suc index) es

  -- the first entry is changed
  abbrev pub at_zero : (E → E) → List E → List E
  at_zero f [] = []
  at_zero f (x ∷ xs) = f x ∷ xs

-- a walk: from a mode, a path, the annotations of the context and of the result, and hints
abbrev pub Walk : Type 0 → Type 0
Walk E = Mode → List ℕ → List E → List E → List (Hint E) → Walked E

abbrev pub still : {E : Type 0} → Walk E
still mode path q r hs = only [] hs

-- The first tuple of a Let is in the present mode, and all others are in mode Past.
abbrev pub mode_at : ℕ → Mode → Mode
mode_at zero mode = mode
mode_at (suc j) mode = Past

module _ {E : Type 0} (A : Numbers E) where
  -- the entry at a position
  abbrev pub at : List E → ℕ → E
  at q k = slice_index_or q k A.none

  -- a multiple is added at a position
  abbrev pub added : List E → ℕ → ℕ → E → List E
  added q k n x = slice_set q k (A.plus (at q k) (A.times n x))

  -- what entries bring from an annotation is added
  abbrev pub brought : List E → List Entry → List E → List E
  brought out [] q = out
  brought out (e ∷ es) q = brought (added out e.to e.times (at q e.from)) es q

  abbrev pub nothing : ℕ → List E
  nothing zero = []
  nothing (suc n) = A.none ∷ nothing n

  abbrev pub moved : Step → List E → List E
  moved s q = brought (nothing s.size) s.entries q

  -- one map after the other
  abbrev pub all_moved : List Step → List E → List E
  all_moved [] q = q
  all_moved (s ∷ ss) q = all_moved ss (moved s q)

  -- each entry on the right with the one at its place on the left
  abbrev pub against : List E → List E → List (E × E)
  against q [] = []
  against [] (y ∷ ys) = (A.none, y) ∷ against [] ys
  against (x ∷ q) (y ∷ ys) = (x, y) ∷ against q ys

  -- numbers as entries, and multiples of an entry
  abbrev pub numbers : List ℕ → List E
  numbers [] = []
  numbers (n ∷ ns) = A.number n ∷ numbers ns

  abbrev pub multiples : E → List ℕ → List E
  multiples x [] = []
  multiples x (n ∷ ns) = A.times n x ∷ multiples x ns

  -- what the results of a Let, from this tuple on, bring to the context of the rest
  abbrev pub joined : List E → ℕ → List Part → List (List E) → List E
  joined out j [] rs = out
  joined out j (part ∷ parts) rs = joined (brought out part.joins (slice_index_or rs j [])) (suc j) parts rs

module _ {E : Type 0} (A : Numbers E) (G : Known E) where
  -- The price of the nodes is paid first, where it is charged: go on with the next index, and with what is left of the annotation.
  abbrev pub begun : ℕ → Mode → List ℕ → List E → (ℕ → List E → Walked E) → Walked E
  begun (suc n) (With Work) path q go =
      behind (numbered path 0 ((at A q 0, A.number (suc n * G.scale)) ∷ [])) (go 1 (at_zero (A.less (suc n * G.scale)) q))
  begun n mode path q go = go 0 q

  -- the signature of the function at this place of the group
  abbrev pub group_sides : ℕ → Sides E
  group_sides k = slice_index_or G.group k (record { args = []; result = [] })

  -- what a call asks and has, where a signature of this budget is taken beside others
  abbrev pub taken : Called → ℕ → Sides E → Sides E → Sides E
  taken c budget s out = record {
    args = brought A out.args (slice_index_or c.args_from budget []) s.args;
    result = brought A out.result (slice_index_or c.result_from budget []) s.result;
  }

  abbrev pub none_taken : Called → Sides E
  none_taken c = record { args = nothing A c.args; result = nothing A c.result }

  abbrev pub cost_sides : Signature → Sides E
  cost_sides s = record { args = numbers A s.args; result = numbers A s.result }

  abbrev pub free_sides : Signature → E → Sides E
  free_sides s x = record { args = multiples A x s.args; result = multiples A x s.result }

  -- the signature with cost of an earlier block
  abbrev pub paid : Called → Option Signature → Sides E
  paid c None = none_taken c
  paid c (Some s) = taken c s.budget (cost_sides s) (none_taken c)

  -- the signature that is taken once
  abbrev pub once : Mode → Called → Option ℕ → Sides E
  once Past c own = none_taken c
  once Own c None = none_taken c
  once Own c (Some k) = taken c G.budget (group_sides k) (none_taken c)
  once (With meter) c (Some k) = taken c G.budget (group_sides k) (none_taken c)
  once (With meter) c None = paid c (G.cost meter c.function)

  -- all multiples
  abbrev pub used : Called → List (ℕ × E) → Sides E → Sides E
  used c [] out = out
  used c (m ∷ ms) out = let s = G.free m.0 c.function in used c ms (taken c s.budget (free_sides s m.1) out)

  -- a call gets one unit of work back, which its nodes have paid for
  abbrev pub refunded : Mode → Sides E → Sides E
  refunded (With Work) s = record { args = at_zero (A.less G.scale) s.args; result = s.result }
  refunded mode s = s

  abbrev pub sums : Mode → Called → List (ℕ × E) → Sides E
  sums mode c ms = refunded mode (used c ms (once mode c c.own))

  -- Where no signature pays, there is one more condition, which nothing meets.
  abbrev pub unpaid : Option Signature → List (E × E)
  unpaid None = (A.none, A.number 1) ∷ []
  unpaid (Some s) = []

  abbrev pub missing : Mode → Called → Option ℕ → List (E × E)
  missing (With meter) c None = unpaid (G.cost meter c.function)
  missing mode c own = []

  -- at each position of the context, and then at each of the result
  abbrev pub call_pairs : List E → List E → Sides E → List (E × E)
  call_pairs q r s = against A q s.args ++ against A s.result r

  -- the bound form of a Let, for each tuple from this one on
  abbrev pub each : List (Walk E) → ℕ → List Part → List (List E) → List E → Mode → List ℕ → List (Hint E) → Walked E
  each ws j [] rs q mode path hs = only [] hs
  each ws j (part ∷ parts) rs q mode path hs = and_then
      (slice_index_or ws part.degree still (mode_at j mode) (path ++ j ∷ []) (moved A part.there q) (slice_index_or rs j []) hs)
      (λ left. each ws (suc j) parts rs q mode path left)

  abbrev mutual
    pub walk : p.Plan → Walk E
    walk (p.Ends n cells steps) mode path q r hs = begun n mode path q (λ i q.
        only (numbered path i (against A q (at_zero (A.plus (A.number (charge G.scale mode Cells cells))) (all_moved A steps r)))) hs)
    walk (p.Pays n ticks e) mode path q r hs = begun n mode path q (λ i q. let k = charge G.scale mode Ticks ticks in
        behind (numbered path i ((at A q 0, A.number k) ∷ [])) (walk e mode (path ++ 0 ∷ []) (at_zero (A.less k) q) r hs))
    walk (p.Moves n step e) mode path q r hs = begun n mode path q (λ i q. walk e mode (path ++ 0 ∷ []) (moved A step q) r hs)
    walk (p.Forks n step a other b) mode path q r hs = begun n mode path q (λ i q. and_then
        (walk a mode (path ++ 0 ∷ []) (moved A step q) r hs)
        (λ left. walk b mode (path ++ 1 ∷ []) (moved A other q) r left))
    walk (p.Shares n size step e) mode path q r hs = begun n mode path q (λ i q.
        behind (numbered path i (against A q (moved A step (copies_of hs)))) (walk e mode (path ++ 0 ∷ []) (copies_of hs) r (later hs)))
    walk (p.Calls n c) mode path q r hs = begun n mode path q (λ i q.
        only (numbered path i (missing mode c c.own ++ call_pairs q r (sums mode c (multiples_of hs)))) (later hs))
    walk (p.Lets n parts firsts size e) mode path q r hs = begun n mode path q (λ i q. and_then
        (each (walks firsts) 0 parts (results_of hs) q mode path (later hs))
        (λ left. walk e mode (path ++ length parts ∷ []) (joined A (nothing A size) 0 parts (results_of hs)) r left))

    pub walks : p.Plans → List (Walk E)
    walks p.NoPlans = []
    walks (p.More e es) = walk e ∷ walks es
