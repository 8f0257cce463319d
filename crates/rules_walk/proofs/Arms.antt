-- What a form's walk tells, from what its parts' walks tell.
use Rattle.std.proofs.Common.{◌≡◌, refl, ap, sym, ◌∙◌, ℕ, zero, suc, ◌+◌, ◌*◌, List, [], ◌∷◌, ◌++◌, arith, ◌<◌, ◌≤◌, length, map, drop, slice_index_or}
use Rattle.cost_free.specs.declared.task.Meter.{Meter}
use Rattle.cost_free.specs.declared.task.Meter.TheVariants.{Ticks, Cells, Work}
use Rattle.annot_types.specs.Rules.{Mode, With, Own, Past}
use Rattle.rules_spec.specs.Plan as p
use Rattle.rules_spec.specs.Plan.{Plan, Step, Called}
use Rattle.rules_spec.specs.Numbers.{Numbers, Sides, Known, Hint, Condition, Walked}
use Rattle.rules_spec.specs.Walk.{charge, behind, numbered, at, at_zero, moved, all_moved, against, joined, nothing, begun, walk, walks, each, Walk, still, mode_at, sums, missing, copies_of, results_of, multiples_of, later}
use Rattle.rules_walk.specs.Read.{nodes_rows, nodes_index, nodes_left, charged, plan_of, plans_of, size, sizes}
use Rattle.std.specs.Global.{Global}
use Rattle.std.specs.declared.rc.Rc.{Rc}
use Rattle.rules_walk.specs.declared.plan.Plan.{Plan as Tree}

-- a plan that is shared
abbrev Code : Type 0
Code = Rc Tree Global

pub charge_is : (scale : ℕ) (mode : Mode) (meter : Meter) (n : ℕ) → charged mode meter n * scale ≡ charge scale mode meter n
charge_is scale (With Ticks) Ticks n = refl
charge_is scale (With Ticks) Cells n = omega arith
charge_is scale (With Ticks) Work n = omega arith
charge_is scale (With Cells) Ticks n = omega arith
charge_is scale (With Cells) Cells n = refl
charge_is scale (With Cells) Work n = omega arith
charge_is scale (With Work) Ticks n = omega arith
charge_is scale (With Work) Cells n = omega arith
charge_is scale (With Work) Work n = refl
charge_is scale Own meter n = omega arith
charge_is scale Past meter n = omega arith

pub numbered_append : {E : Type 0} (path : List ℕ) (i : ℕ) (es fs : List (E × E)) → numbered path i (es ++ fs) ≡ numbered path i es ++ numbered path (i + length es) fs
numbered_append path i [] fs = ap (λ k. numbered path k fs) (omega arith)
numbered_append path i (e ∷ es) fs =
    ap (λ l. record { path = path; index = i; left = e.0; right = e.1 } ∷ l) (numbered_append path (suc i) es fs ∙ ap (λ k. numbered path (suc i) es ++ numbered path k fs) (omega arith))

against_length : {E : Type 0} (A : Numbers E) (q ys : List E) → length (against A q ys) ≡ length ys
against_length A [] [] = refl
against_length A (x ∷ q) [] = refl
against_length A [] (y ∷ ys) = ap suc (against_length A [] ys)
against_length A (x ∷ q) (y ∷ ys) = ap suc (against_length A q ys)

-- two lists of conditions are heard one after the other
module _ {E : Type 0} (A : Numbers E) (G : Known E) {V : Type 0} (after : V → List (Condition E) → V)
    (in_turn : (v : V) (cs ds : List (Condition E)) → after (after v cs) ds ≡ after v (cs ++ ds)) where
  abbrev W : Plan → Mode → List ℕ → List E → List E → List (Hint E) → Walked E
  W = walk A G

  begun_is : (n : ℕ) (mode : Mode) (path : List ℕ) (q : List E) (go : ℕ → List E → Walked E) →
      begun A G n mode path q go
      ≡ behind (nodes_rows A G.scale (charged mode Work n) path q) (go (nodes_index (charged mode Work n)) (nodes_left A G.scale (charged mode Work n) q))
  begun_is zero (With Ticks) path q go = refl
  begun_is zero (With Cells) path q go = refl
  begun_is zero (With Work) path q go = refl
  begun_is zero Own path q go = refl
  begun_is zero Past path q go = refl
  begun_is (suc n) (With Ticks) path q go = refl
  begun_is (suc n) (With Cells) path q go = refl
  begun_is (suc n) (With Work) path q go = refl
  begun_is (suc n) Own path q go = refl
  begun_is (suc n) Past path q go = refl

  -- what is heard of a form, and what is left, once its nodes are paid for
  pub record Begun (n : ℕ) (mode : Mode) (path : List ℕ) (q q' : List E) (k : ℕ) (v v' : V) : Type 0 where
    pub heard : v' ≡ after v (nodes_rows A G.scale (charged mode Work n) path q)
    pub index : k ≡ nodes_index (charged mode Work n)
    pub left : q' ≡ nodes_left A G.scale (charged mode Work n) q

  pub begun_by : (n n' : ℕ) (mode : Mode) (path path1 : List ℕ) (q q' : List E) (k : ℕ) (v v' : V) → n' ≡ charged mode Work n → path1 ≡ path →
      v' ≡ after v (nodes_rows A G.scale n' path1 q) → k ≡ nodes_index n' → q' ≡ nodes_left A G.scale n' q → Begun n mode path q q' k v v'
  begun_by n n' mode path path1 q q' k v v' e p h i l = record {
    heard = h ∙ (λ i. after v (nodes_rows A G.scale (e i) (p i) q));
    index = i ∙ ap nodes_index e;
    left = l ∙ ap (λ m. nodes_left A G.scale m q) e;
  }

  pub heard_is : (n : ℕ) (mode : Mode) (path : List ℕ) (q q' : List E) (k : ℕ) (go : ℕ → List E → Walked E) (v v' w : V) → Begun n mode path q q' k v v' →
      w ≡ after v' (go k q').found → w ≡ after v (begun A G n mode path q go).found
  heard_is n mode path q q' k go v v' w b e =
      let rest = (go (nodes_index (charged mode Work n)) (nodes_left A G.scale (charged mode Work n) q)).found in
      e ∙ (λ i. after (b.heard i) (go (b.index i) (b.left i)).found) ∙ in_turn v (nodes_rows A G.scale (charged mode Work n) path q) rest
      ∙ ap (λ (x : Walked E). after v x.found) (sym (begun_is n mode path q go))

  pub left_is : (n : ℕ) (mode : Mode) (path : List ℕ) (q q' : List E) (k : ℕ) (go : ℕ → List E → Walked E) (v v' : V) (l : List (Hint E)) → Begun n mode path q q' k v v' →
      l ≡ (go k q').left → l ≡ (begun A G n mode path q go).left
  left_is n mode path q q' k go v v' l b e =
      e ∙ (λ i. (go (b.index i) (b.left i)).left) ∙ ap (λ (x : Walked E). x.left) (sym (begun_is n mode path q go))

  pub ends_is : (n cells m : ℕ) (steps : List Step) (mode : Mode) (path path1 : List ℕ) (q q' r right : List E) (hs : List (Hint E)) (k : ℕ) (v v' w : V) → Begun n mode path q q' k v v' → path1 ≡ path →
      m ≡ charged mode Cells cells → right ≡ at_zero (A.plus (A.number (m * G.scale))) (all_moved A steps r) → w ≡ after v' (numbered path1 k (against A q' right)) →
      w ≡ after v (W (p.Ends n cells steps) mode path q r hs).found
  ends_is n cells m steps mode path path1 q q' r right hs k v v' w b f c d e =
      heard_is n mode path q q' k _ v v' w b
      (e ∙ (λ i. after v' (numbered (f i) k (against A q' ((d ∙ ap (λ z. at_zero (A.plus (A.number z)) (all_moved A steps r)) (ap (λ z. z * G.scale) c ∙ charge_is G.scale mode Cells cells)) i)))))

  pub ends_left : (n cells : ℕ) (steps : List Step) (mode : Mode) (path : List ℕ) (q q' r : List E) (hs : List (Hint E)) (k : ℕ) (v v' : V) → Begun n mode path q q' k v v' →
      hs ≡ (W (p.Ends n cells steps) mode path q r hs).left
  ends_left n cells steps mode path q q' r hs k v v' b = left_is n mode path q q' k _ v v' hs b refl

  pub pays_is : (n ticks m : ℕ) (rest : Plan) (mode : Mode) (path path1 : List ℕ) (q q' q'' r : List E) (hs : List (Hint E)) (k : ℕ) (v v' v'' w : V) → Begun n mode path q q' k v v' → path1 ≡ path →
      m ≡ charged mode Ticks ticks → v'' ≡ after v' (numbered path1 k ((at A q' 0, A.number (m * G.scale)) ∷ [])) → q'' ≡ at_zero (A.less (m * G.scale)) q' →
      w ≡ after v'' (W rest mode (path ++ 0 ∷ []) q'' r hs).found → w ≡ after v (W (p.Pays n ticks rest) mode path q r hs).found
  pays_is n ticks m rest mode path path1 q q' q'' r hs k v v' v'' w b f c d s e =
      let pr : m * G.scale ≡ charge G.scale mode Ticks ticks = ap (λ z. z * G.scale) c ∙ charge_is G.scale mode Ticks ticks in
      let price = charge G.scale mode Ticks ticks in
      heard_is n mode path q q' k _ v v' w b
      (e ∙ (λ i. after ((d ∙ (λ j. after v' (numbered (f j) k ((at A q' 0, A.number (pr j)) ∷ [])))) i) (W rest mode (path ++ 0 ∷ []) ((s ∙ ap (λ z. at_zero (A.less z) q') pr) i) r hs).found)
      ∙ in_turn v' (numbered path k ((at A q' 0, A.number price) ∷ [])) (W rest mode (path ++ 0 ∷ []) (at_zero (A.less price) q') r hs).found)

  pub pays_left : (n ticks m : ℕ) (rest : Plan) (mode : Mode) (path : List ℕ) (q q' q'' r : List E) (hs : List (Hint E)) (k : ℕ) (v v' : V) (l : List (Hint E)) → Begun n mode path q q' k v v' →
      m ≡ charged mode Ticks ticks → q'' ≡ at_zero (A.less (m * G.scale)) q' → l ≡ (W rest mode (path ++ 0 ∷ []) q'' r hs).left → l ≡ (W (p.Pays n ticks rest) mode path q r hs).left
  pays_left n ticks m rest mode path q q' q'' r hs k v v' l b c s e =
      left_is n mode path q q' k _ v v' l b (e ∙ (λ i. (W rest mode (path ++ 0 ∷ []) ((s ∙ ap (λ z. at_zero (A.less z) q') (ap (λ z. z * G.scale) c ∙ charge_is G.scale mode Ticks ticks)) i) r hs).left))

  pub moves_is : (n : ℕ) (st : Step) (rest : Plan) (mode : Mode) (path : List ℕ) (q q' q'' r : List E) (hs : List (Hint E)) (k : ℕ) (v v' w : V) → Begun n mode path q q' k v v' →
      q'' ≡ moved A st q' → w ≡ after v' (W rest mode (path ++ 0 ∷ []) q'' r hs).found → w ≡ after v (W (p.Moves n st rest) mode path q r hs).found
  moves_is n st rest mode path q q' q'' r hs k v v' w b s e =
      heard_is n mode path q q' k _ v v' w b (e ∙ (λ i. after v' (W rest mode (path ++ 0 ∷ []) (s i) r hs).found))

  pub moves_left : (n : ℕ) (st : Step) (rest : Plan) (mode : Mode) (path : List ℕ) (q q' q'' r : List E) (hs : List (Hint E)) (k : ℕ) (v v' : V) (l : List (Hint E)) → Begun n mode path q q' k v v' →
      q'' ≡ moved A st q' → l ≡ (W rest mode (path ++ 0 ∷ []) q'' r hs).left → l ≡ (W (p.Moves n st rest) mode path q r hs).left
  moves_left n st rest mode path q q' q'' r hs k v v' l b s e =
      left_is n mode path q q' k _ v v' l b (e ∙ (λ i. (W rest mode (path ++ 0 ∷ []) (s i) r hs).left))

  pub shares_is : (n size : ℕ) (st : Step) (rest : Plan) (mode : Mode) (path path1 : List ℕ) (q q' q'' r right told : List E) (hs hs' : List (Hint E)) (k : ℕ) (v v' v'' w : V) → Begun n mode path q q' k v v' → path1 ≡ path →
      told ≡ copies_of hs → hs' ≡ later hs → right ≡ moved A st told → v'' ≡ after v' (numbered path1 k (against A q' right)) → q'' ≡ told →
      w ≡ after v'' (W rest mode (path ++ 0 ∷ []) q'' r hs').found → w ≡ after v (W (p.Shares n size st rest) mode path q r hs).found
  shares_is n size st rest mode path path1 q q' q'' r right told hs hs' k v v' v'' w b f t l m d s e =
      heard_is n mode path q q' k _ v v' w b
      (e ∙ (λ i. after ((d ∙ (λ j. after v' (numbered (f j) k (against A q' ((m ∙ ap (moved A st) t) j))))) i) (W rest mode (path ++ 0 ∷ []) ((s ∙ t) i) r (l i)).found)
      ∙ in_turn v' (numbered path k (against A q' (moved A st (copies_of hs)))) (W rest mode (path ++ 0 ∷ []) (copies_of hs) r (later hs)).found)

  pub shares_left : (n size : ℕ) (st : Step) (rest : Plan) (mode : Mode) (path : List ℕ) (q q' q'' r told : List E) (hs hs' : List (Hint E)) (k : ℕ) (v v' : V) (out : List (Hint E)) → Begun n mode path q q' k v v' →
      told ≡ copies_of hs → hs' ≡ later hs → q'' ≡ told → out ≡ (W rest mode (path ++ 0 ∷ []) q'' r hs').left → out ≡ (W (p.Shares n size st rest) mode path q r hs).left
  shares_left n size st rest mode path q q' q'' r told hs hs' k v v' out b t l s e =
      left_is n mode path q q' k _ v v' out b (e ∙ (λ i. (W rest mode (path ++ 0 ∷ []) ((s ∙ t) i) r (l i)).left))

  pub forks_is : (n : ℕ) (st st' : Step) (x y : Plan) (mode : Mode) (path path' : List ℕ) (q q' q1 q2 r : List E) (hs mid : List (Hint E)) (k : ℕ) (v v' v'' w : V) → Begun n mode path q q' k v v' →
      path' ≡ path → q1 ≡ moved A st q' → q2 ≡ moved A st' q' → v'' ≡ after v' (W x mode (path ++ 0 ∷ []) q1 r hs).found → mid ≡ (W x mode (path ++ 0 ∷ []) q1 r hs).left →
      w ≡ after v'' (W y mode (path' ++ 1 ∷ []) q2 r mid).found → w ≡ after v (W (p.Forks n st x st' y) mode path q r hs).found
  forks_is n st st' x y mode path path' q q' q1 q2 r hs mid k v v' v'' w b g s t d m e =
      let first = W x mode (path ++ 0 ∷ []) (moved A st q') r hs in
      let same : W x mode (path ++ 0 ∷ []) q1 r hs ≡ first = λ i. W x mode (path ++ 0 ∷ []) (s i) r hs in
      heard_is n mode path q q' k _ v v' w b
      (e ∙ (λ i. after ((d ∙ ap (λ (z : Walked E). after v' z.found) same) i) (W y mode (g i ++ 1 ∷ []) (t i) r ((m ∙ ap (λ (z : Walked E). z.left) same) i)).found)
      ∙ in_turn v' first.found (W y mode (path ++ 1 ∷ []) (moved A st' q') r first.left).found)

  pub forks_left : (n : ℕ) (st st' : Step) (x y : Plan) (mode : Mode) (path path' : List ℕ) (q q' q1 q2 r : List E) (hs mid : List (Hint E)) (k : ℕ) (v v' : V) (l : List (Hint E)) → Begun n mode path q q' k v v' →
      path' ≡ path → q1 ≡ moved A st q' → q2 ≡ moved A st' q' → mid ≡ (W x mode (path ++ 0 ∷ []) q1 r hs).left →
      l ≡ (W y mode (path' ++ 1 ∷ []) q2 r mid).left → l ≡ (W (p.Forks n st x st' y) mode path q r hs).left
  forks_left n st st' x y mode path path' q q' q1 q2 r hs mid k v v' l b g s t m e =
      left_is n mode path q q' k _ v v' l b
      (e ∙ (λ i. (W y mode (g i ++ 1 ∷ []) (t i) r ((m ∙ (λ j. (W x mode (path ++ 0 ∷ []) (s j) r hs).left)) i)).left))

  pub calls_is : (n : ℕ) (c : Called) (mode : Mode) (path p1 p2 p3 : List ℕ) (q q' r r' : List E) (told : List (ℕ × E)) (hs : List (Hint E)) (s : Sides E) (k k1 k2 : ℕ) (v v' v1 v2 w : V) → Begun n mode path q q' k v v' →
      p1 ≡ path → p2 ≡ path → p3 ≡ path → told ≡ multiples_of hs → s ≡ sums A G mode c told → r' ≡ r → v1 ≡ after v' (numbered p1 k (missing A G mode c c.own)) → k1 ≡ k + length (missing A G mode c c.own) → k2 ≡ k1 + length s.args →
      v2 ≡ after v1 (numbered p2 k1 (against A q' s.args)) → w ≡ after v2 (numbered p3 k2 (against A s.result r')) →
      w ≡ after v (W (p.Calls n c) mode path q r hs).found
  calls_is n c mode path p1 p2 p3 q q' r r' told hs s k k1 k2 v v' v1 v2 w b f1 f2 f3 t h u m i1 i2 d e =
      let none = missing A G mode c c.own in let one = against A q' s.args in let two = against A s.result r in
      let sum_is : s ≡ sums A G mode c (multiples_of hs) = h ∙ ap (sums A G mode c) t in
      let after_one : k2 ≡ k1 + length one = i2 ∙ ap (λ j. k1 + j) (sym (against_length A q' s.args)) in
      let pairs : numbered path k1 one ++ numbered path k2 two ≡ numbered path k1 (one ++ two) = ap (λ j. numbered path k1 one ++ numbered path j two) after_one ∙ sym (numbered_append path k1 one two) in
      let all : numbered path k none ++ numbered path k1 (one ++ two) ≡ numbered path k (none ++ (one ++ two)) = ap (λ j. numbered path k none ++ numbered path j (one ++ two)) i1 ∙ sym (numbered_append path k none (one ++ two)) in
      heard_is n mode path q q' k _ v v' w b
      (e ∙ (λ i. after ((d ∙ ap (λ p. after v1 (numbered p k1 one)) f2) i) (numbered (f3 i) k2 (against A s.result (u i))))
      ∙ in_turn v1 (numbered path k1 one) (numbered path k2 two)
      ∙ (λ i. after ((m ∙ ap (λ p. after v' (numbered p k none)) f1) i) (pairs i))
      ∙ in_turn v' (numbered path k none) (numbered path k1 (one ++ two))
      ∙ ap (after v') all
      ∙ (λ i. after v' (numbered path k (none ++ (against A q' (sum_is i).args ++ against A (sum_is i).result r)))))

  pub calls_left : (n : ℕ) (c : Called) (mode : Mode) (path : List ℕ) (q q' r : List E) (hs hs' : List (Hint E)) (k : ℕ) (v v' : V) → Begun n mode path q q' k v v' →
      hs' ≡ later hs → hs' ≡ (W (p.Calls n c) mode path q r hs).left
  calls_left n c mode path q q' r hs hs' k v v' b l = left_is n mode path q q' k _ v v' hs' b l

  pub lets_is : (n size count : ℕ) (parts ps : List p.Part) (firsts : p.Plans) (rest : Plan) (mode : Mode) (path path' : List ℕ) (q q' q1 q'' r : List E) (told : List (List E)) (hs hs' mid : List (Hint E)) (k : ℕ) (v v' v'' w : V) → Begun n mode path q q' k v v' →
      ps ≡ parts → count ≡ length parts → q1 ≡ q' → told ≡ results_of hs → hs' ≡ later hs → path' ≡ path → q'' ≡ joined A (nothing A size) 0 ps told →
      v'' ≡ after v' (each A G (walks A G firsts) 0 ps told q1 mode path hs').found → mid ≡ (each A G (walks A G firsts) 0 ps told q1 mode path hs').left →
      w ≡ after v'' (W rest mode (path' ++ count ∷ []) q'' r mid).found → w ≡ after v (W (p.Lets n parts firsts size rest) mode path q r hs).found
  lets_is n size count parts ps firsts rest mode path path' q q' q1 q'' r told hs hs' mid k v v' v'' w b f c h t l g s d m e =
      let first = each A G (walks A G firsts) 0 parts (results_of hs) q' mode path (later hs) in
      let same : each A G (walks A G firsts) 0 ps told q1 mode path hs' ≡ first = λ i. each A G (walks A G firsts) 0 (f i) (t i) (h i) mode path (l i) in
      let both = joined A (nothing A size) 0 parts (results_of hs) in
      let next : q'' ≡ both = s ∙ (λ i. joined A (nothing A size) 0 (f i) (t i)) in
      heard_is n mode path q q' k _ v v' w b
      (e ∙ (λ i. after ((d ∙ ap (λ (z : Walked E). after v' z.found) same) i) (W rest mode (g i ++ c i ∷ []) (next i) r ((m ∙ ap (λ (z : Walked E). z.left) same) i)).found)
      ∙ in_turn v' first.found (W rest mode (path ++ length parts ∷ []) both r first.left).found)

  pub lets_left : (n size count : ℕ) (parts ps : List p.Part) (firsts : p.Plans) (rest : Plan) (mode : Mode) (path path' : List ℕ) (q q' q1 q'' r : List E) (told : List (List E)) (hs hs' mid : List (Hint E)) (k : ℕ) (v v' : V) (out : List (Hint E)) → Begun n mode path q q' k v v' →
      ps ≡ parts → count ≡ length parts → q1 ≡ q' → told ≡ results_of hs → hs' ≡ later hs → path' ≡ path → q'' ≡ joined A (nothing A size) 0 ps told → mid ≡ (each A G (walks A G firsts) 0 ps told q1 mode path hs').left →
      out ≡ (W rest mode (path' ++ count ∷ []) q'' r mid).left → out ≡ (W (p.Lets n parts firsts size rest) mode path q r hs).left
  lets_left n size count parts ps firsts rest mode path path' q q' q1 q'' r told hs hs' mid k v v' out b f c h t l g s m e =
      let same : each A G (walks A G firsts) 0 ps told q1 mode path hs' ≡ each A G (walks A G firsts) 0 parts (results_of hs) q' mode path (later hs) = λ i. each A G (walks A G firsts) 0 (f i) (t i) (h i) mode path (l i) in
      let next : q'' ≡ joined A (nothing A size) 0 parts (results_of hs) = s ∙ (λ i. joined A (nothing A size) 0 (f i) (t i)) in
      left_is n mode path q q' k _ v v' out b
      (e ∙ (λ i. (W rest mode (g i ++ c i ∷ []) (next i) r ((m ∙ ap (λ (z : Walked E). z.left) same) i)).left))

  pub walks_at : (es : List Code) (k : ℕ) (d : Code) → k < length es → slice_index_or (walks A G (plans_of es)) k still ≡ W (plan_of (slice_index_or es k d).value)
  walks_at [] k d h = absurd (omega (arith, h))
  walks_at (e ∷ es) zero d h = refl
  walks_at (e ∷ es) (suc k) d h = walks_at es k d (omega (arith, h))

  walks_past : (es : List Code) (k : ℕ) → length es ≤ k → slice_index_or (walks A G (plans_of es)) k still ≡ still
  walks_past [] k h = refl
  walks_past (e ∷ es) zero h = absurd (omega (arith, h))
  walks_past (e ∷ es) (suc k) h = walks_past es k (omega (arith, h))

  -- one tuple of a Let
  abbrev one : List (Walk E) → p.Part → ℕ → Mode → List ℕ → List E → List E → List (Hint E) → Walked E
  one ws part k mode path q r hs = slice_index_or ws part.degree still mode (path ++ k ∷ []) (moved A part.there q) r hs

  pub each_heard : (ws : List (Walk E)) (k : ℕ) (ps ps' : List p.Part) (part : p.Part) (rs : List (List E)) (q r : List E) (mode mode' : Mode) (path path' : List ℕ) (hs hs' : List (Hint E)) (v v' : V) →
      ps ≡ part ∷ ps' → mode' ≡ mode_at k mode → r ≡ slice_index_or rs k [] → path' ≡ path →
      v' ≡ after v (one ws part k mode' path' q r hs).found → hs' ≡ (one ws part k mode' path' q r hs).left →
      after v' (each A G ws (k + 1) ps' rs q mode path hs').found ≡ after v (each A G ws k ps rs q mode path hs).found
  each_heard ws k ps ps' part rs q r mode mode' path path' hs hs' v v' a c f g h t =
      let first = one ws part k (mode_at k mode) path q (slice_index_or rs k []) hs in
      let same : one ws part k mode' path' q r hs ≡ first = λ i. one ws part k (c i) (g i) q (f i) hs in
      let next : k + 1 ≡ suc k = omega arith in
      (λ i. after ((h ∙ ap (λ (z : Walked E). after v z.found) same) i) (each A G ws (next i) ps' rs q mode path ((t ∙ ap (λ (z : Walked E). z.left) same) i)).found)
      ∙ in_turn v first.found (each A G ws (suc k) ps' rs q mode path first.left).found
      ∙ ap (λ ps. after v (each A G ws k ps rs q mode path hs).found) (sym a)

  pub each_left : (ws : List (Walk E)) (k : ℕ) (ps ps' : List p.Part) (part : p.Part) (rs : List (List E)) (q r : List E) (mode mode' : Mode) (path path' : List ℕ) (hs hs' : List (Hint E)) →
      ps ≡ part ∷ ps' → mode' ≡ mode_at k mode → r ≡ slice_index_or rs k [] → path' ≡ path →
      hs' ≡ (one ws part k mode' path' q r hs).left →
      (each A G ws (k + 1) ps' rs q mode path hs').left ≡ (each A G ws k ps rs q mode path hs).left
  each_left ws k ps ps' part rs q r mode mode' path path' hs hs' a c f g t =
      let first = one ws part k (mode_at k mode) path q (slice_index_or rs k []) hs in
      let same : one ws part k mode' path' q r hs ≡ first = λ i. one ws part k (c i) (g i) q (f i) hs in
      let next : k + 1 ≡ suc k = omega arith in
      (λ i. (each A G ws (next i) ps' rs q mode path ((t ∙ ap (λ (z : Walked E). z.left) same) i)).left)
      ∙ ap (λ ps. (each A G ws k ps rs q mode path hs).left) (sym a)

  -- a tuple for whose degree there is a plan, and one for whose degree there is none
  one_is : (es : List Code) (part : p.Part) (d e : Code) (k : ℕ) (mode : Mode) (path : List ℕ) (q q1 r : List E) (hs : List (Hint E)) → part.degree < length es → e ≡ slice_index_or es part.degree d → q1 ≡ moved A part.there q →
      W (plan_of e.value) mode (path ++ k ∷ []) q1 r hs ≡ one (walks A G (plans_of es)) part k mode path q r hs
  one_is es part d e k mode path q q1 r hs l s m =
      (λ i. W (plan_of (s i).value) mode (path ++ k ∷ []) (m i) r hs)
      ∙ (λ i. sym (walks_at es part.degree d l) i mode (path ++ k ∷ []) (moved A part.there q) r hs)

  pub one_heard : (es : List Code) (part : p.Part) (d e : Code) (k : ℕ) (mode : Mode) (path : List ℕ) (q q1 r : List E) (hs : List (Hint E)) (v w : V) → part.degree < length es → e ≡ slice_index_or es part.degree d → q1 ≡ moved A part.there q →
      w ≡ after v (W (plan_of e.value) mode (path ++ k ∷ []) q1 r hs).found → w ≡ after v (one (walks A G (plans_of es)) part k mode path q r hs).found
  one_heard es part d e k mode path q q1 r hs v w l s m h = h ∙ ap (λ (z : Walked E). after v z.found) (one_is es part d e k mode path q q1 r hs l s m)

  pub one_left : (es : List Code) (part : p.Part) (d e : Code) (k : ℕ) (mode : Mode) (path : List ℕ) (q q1 r : List E) (hs out : List (Hint E)) → part.degree < length es → e ≡ slice_index_or es part.degree d → q1 ≡ moved A part.there q →
      out ≡ (W (plan_of e.value) mode (path ++ k ∷ []) q1 r hs).left → out ≡ (one (walks A G (plans_of es)) part k mode path q r hs).left
  one_left es part d e k mode path q q1 r hs out l s m h = h ∙ ap (λ (z : Walked E). z.left) (one_is es part d e k mode path q q1 r hs l s m)

  none_is : (es : List Code) (part : p.Part) (k : ℕ) (mode : Mode) (path : List ℕ) (q r : List E) (hs : List (Hint E)) → length es ≤ part.degree →
      still mode (path ++ k ∷ []) (moved A part.there q) r hs ≡ one (walks A G (plans_of es)) part k mode path q r hs
  none_is es part k mode path q r hs l = λ i. sym (walks_past es part.degree l) i mode (path ++ k ∷ []) (moved A part.there q) r hs

  pub none_heard : (es : List Code) (part : p.Part) (k : ℕ) (mode : Mode) (path : List ℕ) (q r : List E) (hs : List (Hint E)) (v : V) → after v [] ≡ v → length es ≤ part.degree →
      v ≡ after v (one (walks A G (plans_of es)) part k mode path q r hs).found
  none_heard es part k mode path q r hs v s l = sym s ∙ ap (λ (z : Walked E). after v z.found) (none_is es part k mode path q r hs l)

  pub none_left : (es : List Code) (part : p.Part) (k : ℕ) (mode : Mode) (path : List ℕ) (q r : List E) (hs : List (Hint E)) → length es ≤ part.degree →
      hs ≡ (one (walks A G (plans_of es)) part k mode path q r hs).left
  none_left es part k mode path q r hs l = ap (λ (z : Walked E). z.left) (none_is es part k mode path q r hs l)

pub sizes_at : (es : List Code) (k : ℕ) (d : Code) → k < length es → size (plan_of (slice_index_or es k d).value) < sizes (plans_of es)
sizes_at [] k d h = absurd (omega (arith, h))
sizes_at (e ∷ es) zero d h = omega arith
sizes_at (e ∷ es) (suc k) d h = omega (arith, sizes_at es k d (omega (arith, h)))

pub drop_at : {X Y : Type 0} (f : X → Y) (xs : List X) (k : ℕ) (d : X) → k < length xs → map f (drop k xs) ≡ f (slice_index_or xs k d) ∷ map f (drop (k + 1) xs)
drop_at f [] k d h = absurd (omega (arith, h))
drop_at f (x ∷ xs) zero d h = refl
drop_at f (x ∷ xs) (suc k) d h = let e : suc k + 1 ≡ suc (k + 1) = omega arith in drop_at f xs k d (omega (arith, h)) ∙ ap (λ j. f (slice_index_or xs k d) ∷ map f (drop j (x ∷ xs))) (sym e)

pub past_is : (k : ℕ) (mode : Mode) → Past ≡ mode_at (k + 1) mode
past_is k mode = let e : suc k ≡ k + 1 = omega arith in ap (λ j. mode_at j mode) e

pub item_at : {X Y : Type 0} (f : X → Y) (xs : List X) (k : ℕ) (d : X) (e : Y) → k < length xs → f (slice_index_or xs k d) ≡ slice_index_or (map f xs) k e
item_at f [] k d e h = absurd (omega (arith, h))
item_at f (x ∷ xs) zero d e h = refl
item_at f (x ∷ xs) (suc k) d e h = item_at f xs k d e (omega (arith, h))

pub parts_length : {X Y : Type 0} (f : X → Y) (xs : List X) → length xs ≡ length (map f xs)
parts_length f [] = refl
parts_length f (x ∷ xs) = ap suc (parts_length f xs)
