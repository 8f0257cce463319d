-- The paths of a walk lead to origins.
use Rattle.std.proofs.Common.{◌≡◌, ◌⊎◌, ◌+◌, ◌*◌, ℕ, zero, suc, nat_eq, List, [], ◌∷◌, ◌++◌, map, length, slice_get, slice_index_or, Option, Some, None, option_map, refl, sym, ap, ◌∙◌, subst, inl, inr, arith}
use Rattle.std.proofs.lemmas.List.{append-nil, append_assoc}
use Rattle.std.proofs.lemmas.Bool.{eq-eqb}
use Rattle.std.specs.List.{AllByRecursion}
use Rattle.raml_syntax.specs.Tree.{Type'}
use Rattle.normal_spec.specs.Norm as n
use Rattle.normal_spec.specs.Norm.{Norm}
use Rattle.normal_spec.specs.Two.{norm_fun}
use Rattle.normal_spec.specs.Context.{Context, types, without, opened, parts_of, copies_of, inners, others}
use Rattle.annot_types.specs.Program.{Program}
use Rattle.annot_types.specs.Certificate.{Block}
use Rattle.annot_types.specs.Carried.{tuples}
use Rattle.annot_types.specs.Rows.{size as size_of}
use Rattle.annot_types.specs.Rules.{Mode, With, Own, Past}
use Rattle.cost_free.specs.declared.task.Meter.TheVariants.{Ticks, Cells, Work}
use Rattle.rules_spec.specs.Plan as p
use Rattle.rules_spec.specs.Plan.{Plan, Plans, Step, Part, Called}
use Rattle.rules_spec.specs.Planned.{plan, let_part, lower}
use Rattle.rules_spec.specs.Numbers.{Numbers, Known, Hint, Condition, Walked}
use Rattle.rules_spec.specs.Walk as walking
use Rattle.rules_spec.specs.Walk.{Walk, charge, at, at_zero, only, behind, and_then, numbered, begun, against, results_of, later, joined, nothing, each, mode_at, moved, still, walk, walks}
use Rattle.explain_origins.specs.Origins.{Origins, Ends, Goes, Forks, source, origins}
use Rattle.explain_origins.specs.Fits.{Fits}
use Rattle.explain_origins.specs.Paths.{plan_at, degree_at, let_turn, form_at, origins_at, ◌>>=◌, origin_at}
use Rattle.explain_origins.specs.declared.turn.Turn.{Turn}
use Rattle.explain_origins.specs.declared.turn.Turn.TheVariants.{First, Second}
use Rattle.explain_origins.specs.Walked.{LeadsOn, BodyLeads}
use Rattle.explain_origins.proofs.Fitting.{origins_fit}

-- all that is found is found at such paths
abbrev At : {E : Type 0} → (List ℕ → Type 0) → List (Condition E) → Type 0
At {E} Q cs = AllByRecursion (λ (c : Condition E). Q c.path) cs

record Finds {E : Type 0} (Q : List ℕ → Type 0) (w : Walked E) : Type 0 where
  all : At Q w.found

module _ {E : Type 0} (Q : List ℕ → Type 0) where
  at_both : (cs ds : List (Condition E)) → At Q cs → At Q ds → At Q (cs ++ ds)
  at_both [] ds h i = i
  at_both (c ∷ cs) ds h i = (h.0, at_both cs ds h.1 i)

  at_numbered : (path : List ℕ) (index : ℕ) (es : List (E × E)) → Q path → At Q (numbered path index es)
  at_numbered path index [] h = tt
  at_numbered path index (e ∷ es) h = (h, at_numbered path (suc index) es h)

  finds_only : (path : List ℕ) (index : ℕ) (es : List (E × E)) (hs : List (Hint E)) → Q path → Finds Q (only (numbered path index es) hs)
  finds_only path index es hs h = record { all = at_numbered path index es h }

  finds_behind : (path : List ℕ) (index : ℕ) (es : List (E × E)) (w : Walked E) → Q path → Finds Q w → Finds Q (behind (numbered path index es) w)
  finds_behind path index es w h i = record { all = at_both (numbered path index es) w.found (at_numbered path index es h) i.all }

  finds_then : (w : Walked E) (next : List (Hint E) → Walked E) → Finds Q w → ((hs : List (Hint E)) → Finds Q (next hs)) → Finds Q (and_then w next)
  finds_then w next h i = record { all = at_both w.found (next w.left).found h.all (i w.left).all }

  finds_begun : (A : Numbers E) (G : Known E) (n : ℕ) (mode : Mode) (path : List ℕ) (q : List E) (go : ℕ → List E → Walked E) → Q path → ((i : ℕ) (q : List E) → Finds Q (go i q)) → Finds Q (begun A G n mode path q go)
  finds_begun A G zero mode path q go h i = i 0 q
  finds_begun A G (suc n) (With Work) path q go h i = record { all = (h, (i 1 (at_zero (A.less (suc n * G.scale)) q)).all) }
  finds_begun A G (suc n) (With Ticks) path q go h i = i 0 q
  finds_begun A G (suc n) (With Cells) path q go h i = i 0 q
  finds_begun A G (suc n) Own path q go h i = i 0 q
  finds_begun A G (suc n) Past path q go h i = i 0 q

weaker : {E : Type 0} (Q R : List ℕ → Type 0) (cs : List (Condition E)) → ((path : List ℕ) → Q path → R path) → At Q cs → At R cs
weaker Q R [] f h = tt
weaker Q R (c ∷ cs) f h = (f c.path h.0, weaker Q R cs f h.1)

-- here, and below
here : (e : Norm) (o : Origins) (s : Plan) (path : List ℕ) → LeadsOn e o s path path
here e o s path = record { rest = []; is = sym (append-nil path); source = source o; stands = refl }

below_here : (e a : Norm) (o b : Origins) (s t : Plan) (j : ℕ) (front : List ℕ) → ((rest : List ℕ) → origin_at s e o (j ∷ rest) ≡ origin_at t a b rest) → (path : List ℕ) → LeadsOn a b t (front ++ j ∷ []) path → LeadsOn e o s front path
below_here e a o b s t j front same path h = record {
  rest = j ∷ h.rest;
  is = h.is ∙ append_assoc front (j ∷ []) h.rest;
  source = h.source;
  stands = same h.rest ∙ h.stands;
}

-- the plan of a bound form at the budget that a tuple of this degree leaves, and its walk
module _ {E : Type 0} (A : Numbers E) (G : Known E) where
  bound_at : (f g : ℕ → Plan) (d k : ℕ) →
      (slice_index_or (walks A G (lower f d)) k still ≡ still)
      ⊎ ((b : ℕ) × (slice_index_or (walks A G (lower f d)) k still ≡ walk A G (f b)) × (plan_at (lower g d) k ≡ Some (g b)))
  bound_at f g zero zero = inr (0, refl, refl)
  bound_at f g zero (suc k) = inl refl
  bound_at f g (suc d) zero = inr (suc d, refl, refl)
  bound_at f g (suc d) (suc k) = bound_at f g d k

  -- the bound form of a Let, for each tuple from one on
  each_finds : (Q : List ℕ → Type 0) (f g : ℕ → Plan) (d : ℕ) (all parts : List Part) (path : List ℕ) (j : ℕ) → ((i : ℕ) → slice_get parts i ≡ slice_get all (j + i)) →
      ((i b : ℕ) (part : Part) (mode : Mode) (q r : List E) (hs : List (Hint E)) → slice_get all i ≡ Some part → plan_at (lower g d) part.degree ≡ Some (g b) → Finds Q (walk A G (f b) mode (path ++ i ∷ []) q r hs)) →
      (rs : List (List E)) (q : List E) (mode : Mode) (hs : List (Hint E)) → Finds Q (each A G (walks A G (lower f d)) j parts rs q mode path hs)
  each_finds Q f g d all [] path j there h rs q mode hs = record { all = tt }
  each_finds Q f g d all (part ∷ parts) path j there h rs q mode hs =
      finds_then Q (slice_index_or (walks A G (lower f d)) part.degree still (mode_at j mode) (path ++ j ∷ []) (moved A part.there q) (slice_index_or rs j []) hs)
      (λ left. each A G (walks A G (lower f d)) (suc j) parts rs q mode path left) (by (bound_at f g d part.degree))
      (λ left. each_finds Q f g d all parts path (suc j) (λ i. there (suc i) ∙ ap (slice_get all) (omega arith)) h rs q mode left)
    where
      first : slice_get all j ≡ Some part
      first = ap (slice_get all) (omega arith) ∙ sym (there 0)

      by : (slice_index_or (walks A G (lower f d)) part.degree still ≡ still)
          ⊎ ((b : ℕ) × (slice_index_or (walks A G (lower f d)) part.degree still ≡ walk A G (f b)) × (plan_at (lower g d) part.degree ≡ Some (g b))) →
          Finds Q (slice_index_or (walks A G (lower f d)) part.degree still (mode_at j mode) (path ++ j ∷ []) (moved A part.there q) (slice_index_or rs j []) hs)
      by (inl none) = subst (λ (w : Walk E). Finds Q (w (mode_at j mode) (path ++ j ∷ []) (moved A part.there q) (slice_index_or rs j []) hs)) (sym none) (record { all = tt })
      by (inr some) = subst (λ (w : Walk E). Finds Q (w (mode_at j mode) (path ++ j ∷ []) (moved A part.there q) (slice_index_or rs j []) hs)) (sym some.1)
          (h j some.0 part (mode_at j mode) _ _ hs first some.2)

-- what is found below, as seen from here
seen : {E : Type 0} (e a : Norm) (o b : Origins) (s t : Plan) (j : ℕ) (front : List ℕ) {w : Walked E} → ((rest : List ℕ) → origin_at s e o (j ∷ rest) ≡ origin_at t a b rest) → Finds (LeadsOn a b t (front ++ j ∷ [])) w → Finds (LeadsOn e o s front) w
seen e a o b s t j front {w} same h = record { all = weaker (LeadsOn a b t (front ++ j ∷ [])) (LeadsOn e o s front) w.found (below_here e a o b s t j front same) h.all }

-- behind the tuples stands the rest
rest_turn : (parts : List Part) (firsts : Plans) (e : Plan) → let_turn (degree_at parts (length parts)) (nat_eq (length parts) (length parts)) firsts e ≡ Some (Second, e)
rest_turn parts firsts e =
    ap (λ got. let_turn (option_map (λ (part : Part). part.degree) got) (nat_eq (length parts) (length parts)) firsts e) (none parts) ∙ ap (λ b. let_turn None b firsts e) (eq-eqb (length parts) (length parts) refl)
  where
    none : (parts : List Part) → slice_get parts (length parts) ≡ None
    none [] = refl
    none (part ∷ parts) = none parts

first_turn : (parts : List Part) (firsts : Plans) (e a : Plan) (j : ℕ) (part : Part) → slice_get parts j ≡ Some part → plan_at firsts part.degree ≡ Some a → let_turn (degree_at parts j) (nat_eq j (length parts)) firsts e ≡ Some (First, a)
first_turn parts firsts e a j part there is =
    ap (λ got. let_turn (option_map (λ (part : Part). part.degree) got) (nat_eq j (length parts)) firsts e) there ∙ ap (option_map (λ (a : Plan). (First, a))) is

module _ {E : Type 0} (A : Numbers E) (G : Known E) where
  -- What a walk of a plan finds in a form leads on, as is seen by another plan.
  record Leads (w s : Plan) (e : Norm) (o : Origins) : Type 0 where
    finds : (mode : Mode) (path : List ℕ) (q r : List E) (hs : List (Hint E)) → Finds (LeadsOn e o s path) (walk A G w mode path q r hs)

  ends : {s : Plan} {e : Norm} {o : Origins} {k cells : ℕ} {steps : List Step} → Leads (p.Ends k cells steps) s e o
  ends {s} {e} {o} {k} = record { finds = λ mode path q r hs. finds_begun _ A G k mode path q _ (here e o s path) (λ i q. finds_only _ path i _ hs (here e o s path)) }

  calls : {s : Plan} {e : Norm} {o : Origins} {k : ℕ} {c : Called} → Leads (p.Calls k c) s e o
  calls {s} {e} {o} {k} = record { finds = λ mode path q r hs. finds_begun _ A G k mode path q _ (here e o s path) (λ i q. finds_only _ path i _ _ (here e o s path)) }

  module _ {e a : Norm} {o b : Origins} {s t w : Plan} {k : ℕ} (same : (more : List ℕ) → origin_at s e o (0 ∷ more) ≡ origin_at t a b more) (below : Leads w t a b) where
    moves : {u : Step} → Leads (p.Moves k u w) s e o
    moves {u} = record { finds = λ mode path q r hs. finds_begun _ A G k mode path q _ (here e o s path) (λ i q. seen e a o b s t 0 path same (below.finds mode (path ++ 0 ∷ []) (moved A u q) r hs)) }

    pays : {ticks : ℕ} → Leads (p.Pays k ticks w) s e o
    pays {ticks} = record {
      finds = λ mode path q r hs. finds_begun _ A G k mode path q _ (here e o s path)
          (λ i q. let price = charge G.scale mode Ticks ticks in
          finds_behind _ path i ((at A q 0, A.number price) ∷ []) _ (here e o s path) (seen e a o b s t 0 path same (below.finds mode (path ++ 0 ∷ []) (at_zero (A.less price) q) r hs)));
    }

    shares : {size : ℕ} {u : Step} → Leads (p.Shares k size u w) s e o
    shares {size} {u} = record {
      finds = λ mode path q r hs. finds_begun _ A G k mode path q _ (here e o s path)
          (λ i q. finds_behind _ path i (against A q (moved A u (walking.copies_of hs))) _ (here e o s path) (seen e a o b s t 0 path same (below.finds mode (path ++ 0 ∷ []) (walking.copies_of hs) r (later hs))));
    }

  forks : {e a b : Norm} {all o rest : Origins} {s t t' w w' : Plan} {k : ℕ} {u v : Step} →
      ((more : List ℕ) → origin_at s e all (0 ∷ more) ≡ origin_at t a o more) → ((more : List ℕ) → origin_at s e all (1 ∷ more) ≡ origin_at t' b rest more) →
      Leads w t a o → Leads w' t' b rest → Leads (p.Forks k u w v w') s e all
  forks {e} {a} {b} {all} {o} {rest} {s} {t} {t'} {w} {w'} {k} {u} {v} same same' h i = record {
    finds = λ mode path q r hs. finds_begun _ A G k mode path q _ (here e all s path)
        (λ j q. finds_then _ (walk A G w mode (path ++ 0 ∷ []) (moved A u q) r hs) (λ left. walk A G w' mode (path ++ 1 ∷ []) (moved A v q) r left)
        (seen e a all o s t 0 path same (h.finds mode (path ++ 0 ∷ []) (moved A u q) r hs))
        (λ left. seen e b all rest s t' 1 path same' (i.finds mode (path ++ 1 ∷ []) (moved A v q) r left)));
  }

  lets : (e a b : Norm) (all o rest : Origins) (s t' w' : Plan) (f g : ℕ → Plan) (d k size : ℕ) (parts : List Part) →
      ((j : ℕ) (part : Part) (c : ℕ) (more : List ℕ) → slice_get parts j ≡ Some part → plan_at (lower g d) part.degree ≡ Some (g c) → origin_at s e all (j ∷ more) ≡ origin_at (g c) a o more) →
      ((more : List ℕ) → origin_at s e all (length parts ∷ more) ≡ origin_at t' b rest more) →
      ((c : ℕ) → Leads (f c) (g c) a o) → Leads w' t' b rest → Leads (p.Lets k parts (lower f d) size w') s e all
  lets e a b all o rest s t' w' f g d k size parts same same' h i = record {
    finds = λ mode path q r hs. finds_begun _ A G k mode path q _ (here e all s path)
        (λ j q. finds_then _ (each A G (walks A G (lower f d)) 0 parts (results_of hs) q mode path (later hs))
        (λ left. walk A G w' mode (path ++ length parts ∷ []) (joined A (nothing A size) 0 parts (results_of hs)) r left)
        (each_finds A G (LeadsOn e all s path) f g d parts parts path 0 (λ i. ap (slice_get parts) (omega arith))
        (λ j c part mode q r hs there is. seen e a all o s (g c) j path (λ more. same j part c more there is) ((h c).finds mode (path ++ j ∷ []) q r hs))
        (results_of hs) q mode (later hs))
        (λ left. seen e b all rest s t' (length parts) path same' (i.finds mode (path ++ length parts ∷ []) _ r left)));
  }

  module _ (N : Program) (group : List ℕ) (earlier : List Block) (top : ℕ) where
    abbrev W : Norm → Context → Type' → ℕ → Plan
    W = plan N group earlier top

    abbrev S : Norm → Context → Type' → ℕ → Plan
    S = plan N group [] top

    leads : (e : Norm) (C : Context) (T : Type') (d : ℕ) (o : Origins) → Fits e o → Leads (W e C T d) (S e C T d) e o
    leads (n.Var k x) C T d o f = ends
    leads (n.Number k i) C T d o f = ends
    leads (n.Truth k b) C T d o f = ends
    leads (n.Nil k) C T d o f = ends
    leads (n.Leaf k) C T d o f = ends
    leads (n.Nothing k) C T d o f = ends
    leads (n.Arith k op x y) C T d o f = ends
    leads (n.Compare k op x y) C T d o f = ends
    leads (n.Not k x) C T d o f = ends
    leads (n.Pair k x y) C T d o f = ends
    leads (n.Cons k x y) C T d o f = ends
    leads (n.Node k x y z) C T d o f = ends
    leads (n.Just k x) C T d o f = ends
    leads (n.Call k g xs) C T d o f = calls
    leads (n.Let k x B a b) C T d (Forks e o rest) f =
        let all = Forks e o rest in
        let form = n.Let k x B a b in
        let D = others a C ++ (x, B) ∷ [] in
        let parts = map (let_part a C B d) (tuples (others a C) d) in
        let to_a = S a (inners a C) B in
        let firsts = lower to_a d in
        let goes = λ (more : List ℕ) (t : Option (Turn × Plan)). t >>= λ turn. form_at form turn.0 >>= λ g. origins_at form turn.0 all >>= λ p. origin_at turn.1 g p more in
        lets form a b all o rest (S form C T d) (S b D T d) (W b D T d) (W a (inners a C) B) to_a d k (size_of (types D) d) parts
        (λ j part c more there is. ap (goes more) (first_turn parts firsts (S b D T d) (to_a c) j part there is))
        (λ more. ap (goes more) (rest_turn parts firsts (S b D T d)))
        (λ c. leads a (inners a C) B c o f.1) (leads b D T d rest f.2)
    leads (n.Split k x y z a) C T d (Goes e o) f = moves (λ more. refl) (leads a (opened x (y ∷ z ∷ []) parts_of C) T d o f.1)
    leads (n.If k x a b) C T d (Forks e o rest) f = forks (λ more. refl) (λ more. refl) (leads a (without x C) T d o f.1) (leads b (without x C) T d rest f.2)
    leads (n.CaseList k x a h l b) C T d (Forks e o rest) f =
        forks (λ more. refl) (λ more. refl) (leads a (without x C) T d o f.1) (leads b (opened x (h ∷ l ∷ []) parts_of C) T d rest f.2)
    leads (n.CaseTree k x a h l m b) C T d (Forks e o rest) f =
        forks (λ more. refl) (λ more. refl) (leads a (without x C) T d o f.1) (leads b (opened x (h ∷ l ∷ m ∷ []) parts_of C) T d rest f.2)
    leads (n.CaseOption k x a w b) C T d (Forks e o rest) f =
        forks (λ more. refl) (λ more. refl) (leads a (without x C) T d o f.1) (leads b (opened x (w ∷ []) parts_of C) T d rest f.2)
    leads (n.Tick k i a) C T d (Goes e o) f = pays (λ more. refl) (leads a C T d o f.1)
    leads (n.Share k x y z a) C T d o f = shares (λ more. refl) (leads a (opened x (y ∷ z ∷ []) copies_of C) T d o f)
    leads (n.Drop k x a) C T d o f = moves (λ more. refl) (leads a (without x C) T d o f)
    leads (n.Let k x B a b) C T d (Ends s) f = absurd f
    leads (n.Let k x B a b) C T d (Goes s o) f = absurd f
    leads (n.Split k x y z a) C T d (Ends s) f = absurd f
    leads (n.Split k x y z a) C T d (Forks s o rest) f = absurd f
    leads (n.If k x a b) C T d (Ends s) f = absurd f
    leads (n.If k x a b) C T d (Goes s o) f = absurd f
    leads (n.CaseList k x a h l b) C T d (Ends s) f = absurd f
    leads (n.CaseList k x a h l b) C T d (Goes s o) f = absurd f
    leads (n.CaseTree k x a h l m b) C T d (Ends s) f = absurd f
    leads (n.CaseTree k x a h l m b) C T d (Goes s o) f = absurd f
    leads (n.CaseOption k x a w b) C T d (Ends s) f = absurd f
    leads (n.CaseOption k x a w b) C T d (Goes s o) f = absurd f
    leads (n.Tick k i a) C T d (Ends s) f = absurd f
    leads (n.Tick k i a) C T d (Forks s o rest) f = absurd f

pub body_leads : {E : Type 0} (A : Numbers E) → BodyLeads A
body_leads A P g N group earlier top budget known mode front q r hs =
    let h = norm_fun P g in
    ((leads A known N group earlier top h.body h.params h.result budget (origins g.body) (origins_fit P g)).finds mode front q r hs).all
