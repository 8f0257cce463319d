-- The rows of a call are those of its walk over sums.
use Rattle.std.proofs.Common.{◌≡◌, refl, ap, sym, ◌∙◌, arith, subst}
use Rattle.std.specs.Prelude.{ℕ, zero, suc, max, ◌+◌, ◌*◌, ◌≤◌, nat_eq, nat_le, Bool, true, false, cond, ◌||◌, pos, ◌-ℤ◌, List, [], ◌∷◌, ◌++◌, map, filter, flat_map, length, slice_get, slice_index_or, option_map, Option, None, Some}
use Rattle.std.specs.List.{list_any}
use Rattle.std.proofs.lemmas.Int.{ints}
use Rattle.std.proofs.lemmas.Bool.Decides.{nat_tests}
use Rattle.raml_syntax.specs.Tree.{Type'}
use Rattle.base_poly.specs.Base.{total}
use Rattle.base_poly.specs.Indices.{index_list}
use Rattle.index_shift.specs.Potential.{Annotation}
use Rattle.index_shift.specs.Potential as i
use Rattle.index_shift.specs.Contexts.{permutes}
use Rattle.index_shift.specs.declared.entry.Entry.{Entry}
use Rattle.normal_spec.specs.Norm as n
use Rattle.normal_spec.specs.Norm.{NormFun}
use Rattle.normal_spec.specs.Context.{Context, types}
use Rattle.cost_free.specs.declared.task.Meter.{Meter}
use Rattle.cost_free.specs.declared.task.Meter.TheVariants.{Ticks, Cells, Work}
use Rattle.annot_types.specs.Certificate.{annotation, Sig, Block}
use Rattle.annot_types.specs.Signature.{sig_in, free_budget, cost_sig}
use Rattle.annot_types.specs.System.{args_of}
use Rattle.annot_types.specs.Rules as r
use Rattle.annot_types.specs.Rules.{Mode, With, Own, Past, Setting, Taken}
use Rattle.annot_types.specs.Carried.{more, to, operand_places, at_operands, rebudgeted}
use Rattle.annot_types.specs.Rows as w
use Rattle.annot_types.specs.Rows.{size as size_of, Assignment, Row, Unsolved, none, rows_only, taking}
use Rattle.rules_spec.specs.Plan.{Called}
use Rattle.rules_spec.specs.Numbers.{Sides, Signature}
use Rattle.rules_spec.specs.Walk as k
use Rattle.rules_spec.specs.Walk.{only, numbered, at, at_zero, nothing, brought, multiples, numbers, against}
use Rattle.rules_spec.specs.Asked.{given, given_blocks}
use Rattle.rules_spec.specs.Planned.{entries_of, operand_entries, place_in, is_usable, usable_from, called}
use Rattle.rules_spec.specs.Found.{signature, free_signature, free_in, free_from, at_budget, cost_from}
use Rattle.rules_spec.specs.Stand.{Numbered}
use Rattle.rules_spec.specs.Systems.{Sum, sums, told_at, row_at, PaidFor}
use Rattle.rules_spec.proofs.Standing.{some_position, ranged}
use Rattle.rules_spec.proofs.Calls.{moved_times, get_at, own_low, low_low}
use Rattle.rules_spec.proofs.Finding.{listed_is}
use Rattle.rules_spec.proofs.Summed.{Full, full_same, brought_full, nothing_full, moved_none, less_full, pairs_rows, map_same, given_full, sum_of as same_sum}
use Rattle.rules_spec.proofs.Rowed.{Says, G, P, CallsSay, begun_says, take_says, only_says, zero_plus, plus_zero'}

-- the functions of a group, as its unknowns and as its sides
module _ (S : Setting) (x : Assignment) where
  abbrev pub IsSide : ℕ → Unsolved → Sides Sum → Type 0
  IsSide f u s = (g : NormFun) → slice_get S.program.funs f ≡ Some g →
      (s.args ≡ given (told_at x) u.args (size_of (types g.params) S.budget)) × (s.result ≡ given (told_at x) u.result (size_of (g.result ∷ []) S.budget))

  abbrev pub AreSides : List ℕ → List Unsolved → List (Sides Sum) → Type 0
  AreSides [] [] [] = Unit {0}
  AreSides (f ∷ fs) (u ∷ us) (s ∷ ss) = (u.fun ≡ f) × IsSide f u s × AreSides fs us ss
  AreSides _ _ _ = ⊥

-- no function stands twice
abbrev pub Once : List ℕ → Type 0
Once [] = Unit {0}
Once (f ∷ fs) = (list_any (nat_eq f) fs ≡ false) × Once fs

not_in : (f : ℕ) (fs : List ℕ) → list_any (nat_eq f) fs ≡ false → place_in fs f ≡ None
not_in f [] h = refl
not_in f (g ∷ fs) h = by (nat_eq f g) (not_in f fs) h where
  by : (b : Bool) → (list_any (nat_eq f) fs ≡ false → place_in fs f ≡ None) → (b || list_any (nat_eq f) fs) ≡ false → cond b (Some 0) (option_map suc (place_in fs f)) ≡ None
  by true go h = let no : true ≡ false = h in absurd (cc)
  by false go h = ap (option_map suc) (go h)

module _ (S : Setting) (own : List Unsolved) (x : Assignment) where
  none_of : (f : ℕ) (fs : List ℕ) (us : List Unsolved) (ss : List (Sides Sum)) → AreSides S x fs us ss → place_in fs f ≡ None →
      (filter (w.is_of S own x f) us ≡ []) × (list_any (w.is_of S own x f) us ≡ false)
  none_of f [] [] [] h e = (refl, refl)
  none_of f [] (u ∷ us) ss h e = absurd h
  none_of f [] [] (s ∷ ss) h e = absurd h
  none_of f (g ∷ fs) [] ss h e = absurd h
  none_of f (g ∷ fs) (u ∷ us) [] h e = absurd h
  none_of f (g ∷ fs) (u ∷ us) (s ∷ ss) h e =
      subst (λ v. (cond (nat_eq f v) (u ∷ filter (w.is_of S own x f) us) (filter (w.is_of S own x f) us) ≡ []) × ((nat_eq f v || list_any (w.is_of S own x f) us) ≡ false)) (sym h.0)
      (by (nat_eq f g) (none_of f fs us ss h.2) e) where
        by : (b : Bool) → (place_in fs f ≡ None → (filter (w.is_of S own x f) us ≡ []) × (list_any (w.is_of S own x f) us ≡ false)) → cond b (Some 0) (option_map suc (place_in fs f)) ≡ None →
            (cond b (u ∷ filter (w.is_of S own x f) us) (filter (w.is_of S own x f) us) ≡ []) × ((b || list_any (w.is_of S own x f) us) ≡ false)
        by true go e = let no : ◌≡◌ {A = Option ℕ} (Some 0) None = e in absurd (cc)
        by false go e = deep (place_in fs f) refl e where
          deep : (o : Option ℕ) → place_in fs f ≡ o → option_map suc o ≡ None → (filter (w.is_of S own x f) us ≡ []) × (list_any (w.is_of S own x f) us ≡ false)
          deep None p e = go p
          deep (Some j) p e = let no : ◌≡◌ {A = Option ℕ} (Some (suc j)) None = e in absurd (cc)

  -- the one of a function that stands in the group
  pub record One (f k : ℕ) (us : List Unsolved) (ss : List (Sides Sum)) : Type 0 where
    pub one : Unsolved
    pub alone : filter (w.is_of S own x f) us ≡ one ∷ []
    pub any : list_any (w.is_of S own x f) us ≡ true
    pub side : IsSide S x f one (slice_index_or ss k (record { args = []; result = [] }))

  some_is : (m k : ℕ) → ◌≡◌ {A = Option ℕ} (Some m) (Some k) → m ≡ k
  some_is m k e = cc

  pub one_of : (f k : ℕ) (fs : List ℕ) (us : List Unsolved) (ss : List (Sides Sum)) → AreSides S x fs us ss → Once fs → place_in fs f ≡ Some k → One f k us ss
  one_of f k [] us ss h o e = let no : ◌≡◌ {A = Option ℕ} None (Some k) = e in absurd (cc)
  one_of f k (g ∷ fs) [] ss h o e = absurd h
  one_of f k (g ∷ fs) (u ∷ us) [] h o e = absurd h
  one_of f k (g ∷ fs) (u ∷ us) (s ∷ ss) h o e = by (λ j p. one_of f j fs us ss h.2 o.1 p) (nat_eq f g) refl e where
    by : ((j : ℕ) → place_in fs f ≡ Some j → One f j us ss) → (b : Bool) → nat_eq f g ≡ b → cond b (Some 0) (option_map suc (place_in fs f)) ≡ Some k → One f k (u ∷ us) (s ∷ ss)
    by go true t e =
        let same : f ≡ g = grind (arith, nat_tests, t) in let here : nat_eq f u.fun ≡ true = ap (nat_eq f) h.0 ∙ t in
        let gone = none_of f fs us ss h.2 (not_in f fs (ap (λ z. list_any (nat_eq z) fs) same ∙ o.0)) in
        subst (λ k. One f k (u ∷ us) (s ∷ ss)) (some_is 0 k e) (record {
          one = u;
          alone = (λ i. cond (here i) (u ∷ filter (w.is_of S own x f) us) (filter (w.is_of S own x f) us)) ∙ ap (λ l. u ∷ l) gone.0;
          any = ap (λ b. b || list_any (w.is_of S own x f) us) here;
          side = subst (λ z. IsSide S x z u s) (sym same) h.1;
        })
    by go false t e = deep (place_in fs f) refl e where
      deep : (p : Option ℕ) → place_in fs f ≡ p → option_map suc p ≡ Some k → One f k (u ∷ us) (s ∷ ss)
      deep None p e = let no : ◌≡◌ {A = Option ℕ} None (Some k) = e in absurd (cc)
      deep (Some j) p e =
          let rest = go j p in let here : nat_eq f u.fun ≡ false = ap (nat_eq f) h.0 ∙ t in
          subst (λ k. One f k (u ∷ us) (s ∷ ss)) (some_is (suc j) k e) (record {
            one = rest.one;
            alone = (λ i. cond (here i) (u ∷ filter (w.is_of S own x f) us) (filter (w.is_of S own x f) us)) ∙ rest.alone;
            any = ap (λ b. b || list_any (w.is_of S own x f) us) here ∙ rest.any;
            side = rest.side;
          })

-- numbers and multiples as entries
numbers_full : (n : ℕ) (ns : List ℕ) (q : Annotation) → Numbered n ns q → Full n (numbers sums ns) none q none
numbers_full n ns q h = record { len = long ns ∙ h.len; is = λ k b. at_number ns k ∙ same_sum _ _ _ _ _ _ refl (h.is k b) refl } where
  long : (ns : List ℕ) → length (numbers sums ns) ≡ length ns
  long [] = refl
  long (n ∷ ns) = ap suc (long ns)

  at_number : (ns : List ℕ) (k : ℕ) → at sums (numbers sums ns) k ≡ record { has = 0; plus = slice_index_or ns k 0; minus = 0 }
  at_number [] k = refl
  at_number (n ∷ ns) zero = refl
  at_number (n ∷ ns) (suc k) = at_number ns k

multiples_full : (n t : ℕ) (ns : List ℕ) (q : Annotation) → Numbered n ns q → Full n (multiples sums (record { has = t; plus = 0; minus = 0 }) ns) (λ k. t * q k) none none
multiples_full n t ns q h = record { len = long ns ∙ h.len; is = λ k b. at_number ns k ∙ same_sum _ _ _ _ _ _ (ap (λ z. z * t) (h.is k b) ∙ omega arith) (omega arith) (omega arith) } where
  long : (ns : List ℕ) → length (multiples sums (record { has = t; plus = 0; minus = 0 }) ns) ≡ length ns
  long [] = refl
  long (n ∷ ns) = ap suc (long ns)

  at_number : (ns : List ℕ) (k : ℕ) →
      at sums (multiples sums (record { has = t; plus = 0; minus = 0 }) ns) k ≡ record { has = slice_index_or ns k 0 * t; plus = slice_index_or ns k 0 * 0; minus = slice_index_or ns k 0 * 0 }
  at_number [] k = same_sum _ _ _ _ _ _ (omega arith) (omega arith) (omega arith)
  at_number (n ∷ ns) zero = refl
  at_number (n ∷ ns) (suc k) = at_number ns k

rows_any : (path : List ℕ) (j j' : ℕ) (es : List (Sum × Sum)) → map row_at (numbered path j es) ≡ map row_at (numbered path j' es)
rows_any path j j' [] = refl
rows_any path j j' (e ∷ es) = ap (λ l. row_at (record { path = path; index = 0; left = e.0; right = e.1 }) ∷ l) (rows_any path (suc j) (suc j') es)

rows_append : (path : List ℕ) (j : ℕ) (es fs : List (Sum × Sum)) → map row_at (numbered path j (es ++ fs)) ≡ map row_at (numbered path j es) ++ map row_at (numbered path 0 fs)
rows_append path j [] fs = rows_any path j 0 fs
rows_append path j (e ∷ es) fs = ap (λ l. row_at (record { path = path; index = 0; left = e.0; right = e.1 }) ∷ l) (rows_append path (suc j) es fs)

module _ (S : Setting) (own : List Unsolved) (x : Assignment) (group : List (Sides Sum)) (sides : AreSides S x S.group own group) (once : Once S.group)
    (f : ℕ) (vs : List ℕ) (g : NormFun) (there : slice_get S.program.funs f ≡ Some g) (C : Context) (T : Type') (same : T ≡ g.result) (d : ℕ) where
  abbrev c : Called
  c = called S.program S.group S.earlier S.budget C f vs T d

  abbrev m : ℕ
  m = size_of (types C) d

  abbrev m' : ℕ
  m' = size_of (T ∷ []) d

  abbrev from_args : ℕ → List Entry
  from_args b = operand_entries C vs (types g.params) b d

  abbrev from_result : ℕ → List Entry
  from_result b = entries_of (to (λ t. t)) (T ∷ []) b (T ∷ []) d

  args_same : (b : ℕ) → b ≤ max S.budget d → slice_index_or c.args_from b [] ≡ from_args b
  args_same b l =
      get_at (λ b. operand_entries C vs (args_of (slice_get S.program.funs f)) b d) [] 0 (suc (max S.budget d)) b (omega (arith, l))
      ∙ ap (λ o. operand_entries C vs (args_of o) (0 + b) d) there ∙ ap from_args (omega arith)

  result_same : (b : ℕ) → b ≤ max S.budget d → slice_index_or c.result_from b [] ≡ from_result b
  result_same b l = get_at from_result [] 0 (suc (max S.budget d)) b (omega (arith, l)) ∙ ap from_result (omega arith)

  record Both (s : Sides Sum) (q p q' p' : Annotation) : Type 0 where
    args : Full m s.args q p none
    result : Full m' s.result q' p' none

  -- one more signature
  one_more : (budget : ℕ) (y out : Sides Sum) (u v u' v' q p q' p' : Annotation) → budget ≤ max S.budget d → Full (size_of (types g.params) budget) y.args u v none → Full (size_of (g.result ∷ []) budget) y.result u' v' none →
      Both out q p q' p' →
      Both (k.taken sums (G S own x group) c budget y out) (λ j. q j + i.moved (from_args budget) u j) (λ j. p j + i.moved (from_args budget) v j) (λ j. q' j + i.moved (from_result budget) u' j) (λ j. p' j + i.moved (from_result budget) v' j)
  one_more budget y out u v u' v' q p q' p' low f1 f2 b =
      let one = brought_full (size_of (types g.params) budget) m y.args u v none (from_args budget) out.args q p none (ranged (permutes (operand_places C vs)) (index_list (types g.params) budget) (index_list (types C) d)) f1 b.args in
      let two = brought_full (size_of (T ∷ []) budget) m' y.result u' v' none (from_result budget) out.result q' p' none (ranged (to (λ t. t)) (index_list (T ∷ []) budget) (index_list (T ∷ []) d))
      (subst (λ A. Full (size_of (A ∷ []) budget) y.result u' v' none) (sym same) f2) b.result in
      record {
        args = subst (λ es. Full m (brought sums out.args es y.args) (λ j. q j + i.moved (from_args budget) u j) (λ j. p j + i.moved (from_args budget) v j) none) (sym (args_same budget low)) (full_same m _ _ _ _ _ _ none one (λ j. refl) (λ j. refl) (λ j. zero_plus (i.moved (from_args budget) none j) ∙ moved_none (from_args budget) j));
        result = subst (λ es. Full m' (brought sums out.result es y.result) (λ j. q' j + i.moved (from_result budget) u' j) (λ j. p' j + i.moved (from_result budget) v' j) none) (sym (result_same budget low)) (full_same m' _ _ _ _ _ _ none two (λ j. refl) (λ j. refl) (λ j. zero_plus (i.moved (from_result budget) none j) ∙ moved_none (from_result budget) j));
      }

  both_same : (s : Sides Sum) (q p q' p' r s1 r' s1' : Annotation) → Both s q p q' p' → ((j : ℕ) → q j ≡ r j) → ((j : ℕ) → p j ≡ s1 j) → ((j : ℕ) → q' j ≡ r' j) → ((j : ℕ) → p' j ≡ s1' j) → Both s r s1 r' s1'
  both_same s q p q' p' r s1 r' s1' b e1 e2 e3 e4 = record {
    args = full_same m s.args q p none r s1 none b.args e1 e2 (λ j. refl);
    result = full_same m' s.result q' p' none r' s1' none b.result e3 e4 (λ j. refl);
  }

  none_both : Both (k.none_taken sums (G S own x group) c) none none none none
  none_both = record { args = nothing_full m; result = nothing_full m' }

  abbrev ask : List Taken → Annotation
  ask ts = r.asked S C vs (types g.params) d ts

  abbrev leave : List Taken → Annotation
  leave ts = r.left S T d ts

  abbrev asked_own : List Unsolved → Annotation
  asked_own us j = total (λ (u : Unsolved). at_operands C vs (types g.params) S.budget d (w.unknown S own x u.args) j) us

  abbrev left_own : List Unsolved → Annotation
  left_own us j = total (λ (u : Unsolved). rebudgeted (T ∷ []) S.budget d (w.unknown S own x u.result) j) us

  signed : (budget : ℕ) (s : Sig) → (Numbered (size_of (types g.params) budget) (signature (slice_get S.program.funs f) budget (Some s)).args (annotation s.args))
      × (Numbered (size_of (g.result ∷ []) budget) (signature (slice_get S.program.funs f) budget (Some s)).result (annotation s.result))
  signed budget s = subst (λ o. (Numbered (size_of (types g.params) budget) (signature o budget (Some s)).args (annotation s.args)) × (Numbered (size_of (g.result ∷ []) budget) (signature o budget (Some s)).result (annotation s.result))) (sym there)
      (listed_is (size_of (types g.params) budget) (annotation s.args), listed_is (size_of (g.result ∷ []) budget) (annotation s.result))

  budget_is : (o : Option NormFun) (budget : ℕ) (t : Option Sig) → (signature o budget t).budget ≡ budget
  budget_is None budget t = refl
  budget_is (Some h) budget None = refl
  budget_is (Some h) budget (Some s) = refl

  -- all multiples, of the blocks from one on
  usable_both : (bs : List Block) (from first : ℕ) (out : Sides Sum) (q p q' p' : Annotation) → ((j : ℕ) → slice_get S.earlier (from + j) ≡ slice_get bs j) → Both out q p q' p' →
      let ts = flat_map (λ (b : Block). w.usable_at S own x d (free_budget b.task.kind) (sig_in S.program b f)) bs in
      Both (k.used sums (G S own x group) c (given_blocks (told_at x) first (usable_from from S.program d f bs)) out)
      (λ j. q j + ask (w.multiplied S own x first ts) j) p (λ j. q' j + leave (w.multiplied S own x first ts) j) p'
  usable_both [] from first out q p q' p' e b = both_same out q p q' p' _ p _ p' b (λ j. plus_zero' (q j)) (λ j. refl) (λ j. plus_zero' (q' j)) (λ j. refl)
  usable_both (b ∷ bs) from first out q p q' p' e h =
      by (λ first out q p q' p' h. usable_both bs (suc from) first out q p q' p' (λ j. ap (slice_get S.earlier) (omega arith) ∙ e (suc j)) h) (free_budget b.task.kind) refl (sig_in S.program b f) refl where
        here : slice_get S.earlier from ≡ Some b
        here = ap (slice_get S.earlier) (plus_zero' from) ∙ e 0

        more_ts : List Taken
        more_ts = flat_map (λ (b : Block). w.usable_at S own x d (free_budget b.task.kind) (sig_in S.program b f)) bs

        by : ((first : ℕ) (out : Sides Sum) (q p q' p' : Annotation) → Both out q p q' p' →
            Both (k.used sums (G S own x group) c (given_blocks (told_at x) first (usable_from (suc from) S.program d f bs)) out) (λ j. q j + ask (w.multiplied S own x first more_ts) j) p (λ j. q' j + leave (w.multiplied S own x first more_ts) j) p') →
            (o : Option ℕ) → free_budget b.task.kind ≡ o → (t : Option Sig) → sig_in S.program b f ≡ t →
            Both (k.used sums (G S own x group) c (given_blocks (told_at x) first (cond (is_usable d o t) (from ∷ usable_from (suc from) S.program d f bs) (usable_from (suc from) S.program d f bs))) out)
            (λ j. q j + ask (w.multiplied S own x first (w.usable_at S own x d o t ++ more_ts)) j) p (λ j. q' j + leave (w.multiplied S own x first (w.usable_at S own x d o t ++ more_ts)) j) p'
        by go None eo t et = go first out q p q' p' h
        by go (Some budget) eo None et = go first out q p q' p' h
        by go (Some budget) eo (Some s) et = deep (nat_le budget d) refl where
          deep : (l : Bool) → nat_le budget d ≡ l →
              Both (k.used sums (G S own x group) c (given_blocks (told_at x) first (cond l (from ∷ usable_from (suc from) S.program d f bs) (usable_from (suc from) S.program d f bs))) out)
              (λ j. q j + ask (w.multiplied S own x first (cond l (record { budget = budget; sig = s; times = 0 } ∷ []) [] ++ more_ts)) j) p
              (λ j. q' j + leave (w.multiplied S own x first (cond l (record { budget = budget; sig = s; times = 0 } ∷ []) [] ++ more_ts)) j) p'
          deep false l = go first out q p q' p' h
          deep true l =
              let low : budget ≤ max S.budget d = low_low budget S.budget d (grind (arith, nat_tests, l)) in
              let sg = signature (slice_get S.program.funs f) budget (Some s) in
              let found : free_from S from f ≡ sg = ap (λ o. free_in S o f) here ∙ (λ i. free_signature (slice_get S.program.funs f) (eo i) (et i)) in
              let tk = λ (z : Signature). k.taken sums (G S own x group) c z.budget (k.free_sides sums (G S own x group) z (told_at x first)) out in
              let y = k.free_sides sums (G S own x group) sg (told_at x first) in let num = signed budget s in
              let u = annotation s.args in let u' = annotation s.result in let t = x first in
              let one = one_more budget y out (λ j. t * u j) none (λ j. t * u' j) none q p q' p' low (multiples_full _ t sg.args u num.0) (multiples_full _ t sg.result u' num.1) h in
              let one' = both_same (k.taken sums (G S own x group) c budget y out) _ _ _ _ (λ j. q j + t * i.moved (from_args budget) u j) p (λ j. q' j + t * i.moved (from_result budget) u' j) p' one
              (λ j. ap (λ z. q j + z) (moved_times (from_args budget) t u j)) (λ j. ap (λ z. p j + z) (moved_none (from_args budget) j) ∙ sym (plus_zero' (p j)))
              (λ j. ap (λ z. q' j + z) (moved_times (from_result budget) t u' j)) (λ j. ap (λ z. p' j + z) (moved_none (from_result budget) j) ∙ sym (plus_zero' (p' j))) in
              let there' : tk (free_from S from f) ≡ k.taken sums (G S own x group) c budget y out = ap tk found ∙ ap (λ b. k.taken sums (G S own x group) c b y out) (budget_is (slice_get S.program.funs f) budget (Some s)) in
              let rest = go (suc first) (k.taken sums (G S own x group) c budget y out) _ _ _ _ one' in
              let rest' = both_same _ _ _ _ _ (λ j. q j + (t * i.moved (from_args budget) u j + ask (w.multiplied S own x (suc first) more_ts) j)) p (λ j. q' j + (t * i.moved (from_result budget) u' j + leave (w.multiplied S own x (suc first) more_ts) j)) p' rest
              (λ j. omega arith) (λ j. refl) (λ j. omega arith) (λ j. refl) in
              subst (λ o. Both (k.used sums (G S own x group) c (given_blocks (told_at x) (suc first) (usable_from (suc from) S.program d f bs)) o)
              (λ j. q j + (t * i.moved (from_args budget) u j + ask (w.multiplied S own x (suc first) more_ts) j)) p (λ j. q' j + (t * i.moved (from_result budget) u' j + leave (w.multiplied S own x (suc first) more_ts) j)) p') (sym there') rest'

  -- what is taken once
  abbrev once_of : Mode → Option ℕ → Sides Sum
  once_of mode o = k.once sums (G S own x group) mode c o

  record Base (mode : Mode) (o : Option ℕ) (us : List Unsolved) (ts : List Taken) : Type 0 where
    no_missing : k.missing sums (G S own x group) mode c o ≡ []
    both : Both (once_of mode o) (asked_own us) (ask ts) (left_own us) (leave ts)

  base_none : (mode : Mode) (o : Option ℕ) → k.missing sums (G S own x group) mode c o ≡ [] → once_of mode o ≡ k.none_taken sums (G S own x group) c → Base mode o [] []
  base_none mode o h e = record { no_missing = h; both = subst (λ s. Both s (asked_own []) (ask []) (left_own []) (leave [])) (sym e) none_both }

  base_own : (mode : Mode) (o : Option ℕ) (p : ℕ) (u : Unsolved) → k.missing sums (G S own x group) mode c o ≡ [] →
      once_of mode o ≡ k.taken sums (G S own x group) c S.budget (k.group_sides sums (G S own x group) p) (k.none_taken sums (G S own x group) c) →
      IsSide S x f u (k.group_sides sums (G S own x group) p) → Base mode o (u ∷ []) []
  base_own mode o p u h e side =
      let sd = side g there in
      let s = k.group_sides sums (G S own x group) p in
      let f1 = subst (λ es. Full (size_of (types g.params) S.budget) es (w.unknown S own x u.args) none none) (sym sd.0) (given_full x u.args (size_of (types g.params) S.budget)) in
      let f2 = subst (λ es. Full (size_of (g.result ∷ []) S.budget) es (w.unknown S own x u.result) none none) (sym sd.1) (given_full x u.result (size_of (g.result ∷ []) S.budget)) in
      let one = one_more S.budget s (k.none_taken sums (G S own x group) c) (w.unknown S own x u.args) none (w.unknown S own x u.result) none none none none none (own_low S.budget d) f1 f2 none_both in
      record {
        no_missing = h;
        both = subst (λ t. Both t (asked_own (u ∷ [])) (ask []) (left_own (u ∷ [])) (leave [])) (sym e)
            (both_same _ _ _ _ _ (asked_own (u ∷ [])) (ask []) (left_own (u ∷ [])) (leave []) one (λ j. omega arith) (λ j. zero_plus (i.moved (from_args S.budget) none j) ∙ moved_none (from_args S.budget) j)
            (λ j. omega arith) (λ j. zero_plus (i.moved (from_result S.budget) none j) ∙ moved_none (from_result S.budget) j));
      }

  base_paid : (meter : Meter) (s : Sig) → cost_sig S.program meter S.earlier f ≡ Some s → Base (With meter) None [] (record { budget = S.budget; sig = s; times = 1 } ∷ [])
  base_paid meter s e =
      let sg = signature (slice_get S.program.funs f) S.budget (Some s) in let num = signed S.budget s in
      let found : cost_from S meter f ≡ Some sg = ap (at_budget S (slice_get S.program.funs f)) e in
      let y = k.cost_sides sums (G S own x group) sg in let nothing = k.none_taken sums (G S own x group) c in
      let u = annotation s.args in let u' = annotation s.result in
      let one = one_more S.budget y nothing none u none u' none none none none (own_low S.budget d) (numbers_full _ sg.args u num.0) (numbers_full _ sg.result u' num.1) none_both in
      let is : once_of (With meter) None ≡ k.taken sums (G S own x group) c S.budget y nothing =
      ap (k.paid sums (G S own x group) c) found ∙ ap (λ b. k.taken sums (G S own x group) c b y nothing) (budget_is (slice_get S.program.funs f) S.budget (Some s)) in
      let ts = record { budget = S.budget; sig = s; times = 1 } ∷ [] in
      record {
        no_missing = ap (k.unpaid sums (G S own x group)) found;
        both = subst (λ t. Both t (asked_own []) (ask ts) (left_own []) (leave ts)) (sym is)
            (both_same _ _ _ _ _ (asked_own []) (ask ts) (left_own []) (leave ts) one (λ j. zero_plus (i.moved (from_args S.budget) none j) ∙ moved_none (from_args S.budget) j) (λ j. omega arith)
            (λ j. zero_plus (i.moved (from_result S.budget) none j) ∙ moved_none (from_result S.budget) j) (λ j. omega arith));
      }

  base_of : (mode : Mode) (o : Option ℕ) → place_in S.group f ≡ o → PaidFor S mode f → Base mode o (w.own_taken S own x mode f) (w.paid_taken S own x mode f)
  base_of Past o e pd = base_none Past o refl refl
  base_of Own None e pd = subst (λ us. Base Own None us []) (sym (none_of S own x f S.group own group sides e).0) (base_none Own None refl refl)
  base_of Own (Some p) e pd =
      let t = one_of S own x f p S.group own group sides once e in
      subst (λ us. Base Own (Some p) us []) (sym t.alone) (base_own Own (Some p) p t.one refl refl t.side)
  base_of (With meter) None e pd =
      let t = none_of S own x f S.group own group sides e in let s = pd e in
      subst (λ us. Base (With meter) None us (cond (list_any (w.is_of S own x f) own) [] (w.at_block S own x (cost_sig S.program meter S.earlier f)))) (sym t.0)
      (subst (λ b. Base (With meter) None [] (cond b [] (w.at_block S own x (cost_sig S.program meter S.earlier f)))) (sym t.1)
      (subst (λ o. Base (With meter) None [] (w.at_block S own x o)) (sym s.1) (base_paid meter s.0 s.1)))
  base_of (With meter) (Some p) e pd =
      let t = one_of S own x f p S.group own group sides once e in
      subst (λ us. Base (With meter) (Some p) us (cond (list_any (w.is_of S own x f) own) [] (w.at_block S own x (cost_sig S.program meter S.earlier f)))) (sym t.alone)
      (subst (λ b. Base (With meter) (Some p) (t.one ∷ []) (cond b [] (w.at_block S own x (cost_sig S.program meter S.earlier f)))) (sym t.any) (base_own (With meter) (Some p) p t.one refl refl t.side))

  -- what is given back
  none_more : (j : ℕ) → none j ≡ more 0 none j
  none_more zero = refl
  none_more (suc j) = refl

  refunded_full : (mode : Mode) (s : Sides Sum) (q p q' p' : Annotation) → Both s q p q' p' →
      Full m (k.refunded sums (G S own x group) mode s).args q p (more (r.refund S mode) none) × Full m' (k.refunded sums (G S own x group) mode s).result q' p' none
  refunded_full (With Work) s q p q' p' b = (less_full m s.args q p none S.scale b.args, b.result)
  refunded_full (With Ticks) s q p q' p' b = (full_same m s.args q p none q p (more 0 none) b.args (λ j. refl) (λ j. refl) none_more, b.result)
  refunded_full (With Cells) s q p q' p' b = (full_same m s.args q p none q p (more 0 none) b.args (λ j. refl) (λ j. refl) none_more, b.result)
  refunded_full Own s q p q' p' b = (full_same m s.args q p none q p (more 0 none) b.args (λ j. refl) (λ j. refl) none_more, b.result)
  refunded_full Past s q p q' p' b = (full_same m s.args q p none q p (more 0 none) b.args (λ j. refl) (λ j. refl) none_more, b.result)

  args_right : (a b : ℕ) (t : ℕ) → pos (a + b) -ℤ pos (0 + t) ≡ pos (b + a) -ℤ pos t
  args_right a b t = omega (arith, ints)

  result_right : (a : ℕ) → pos 0 -ℤ pos (a + 0) ≡ pos 0 -ℤ pos a
  result_right a = omega (arith, ints)

  call_rows_are : (mode : Mode) (a b : List Sum) (q owed s : Annotation) (path : List ℕ) (j first : ℕ) → PaidFor S mode f → Full m a q none owed → Full m' b s none none →
      let ts = w.multiplied S own x first (w.usable S own x d f) in let ms = given_blocks (told_at x) first c.usable in
      map row_at (numbered path j (k.missing sums (G S own x group) mode c c.own ++ k.call_pairs sums (G S own x group) a b (k.sums sums (G S own x group) mode c ms)))
      ≡ w.call_rows S own x mode d C q owed f vs T s (Some g) ts
  call_rows_are mode a b q owed s path j first pd fa fb =
      let ts = w.multiplied S own x first (w.usable S own x d f) in let ms = given_blocks (told_at x) first c.usable in
      let us = w.own_taken S own x mode f in let ps = w.paid_taken S own x mode f in
      let base = base_of mode c.own refl pd in
      let used = usable_both S.earlier 0 first (once_of mode c.own) (asked_own us) (ask ps) (left_own us) (leave ps) (λ j. ap (slice_get S.earlier) (zero_plus j)) base.both in
      let full = refunded_full mode _ _ _ _ _ used in
      let sd = k.sums sums (G S own x group) mode c ms in
      ap (λ l. map row_at (numbered path j (l ++ (against sums a sd.args ++ against sums sd.result b)))) base.no_missing
      ∙ rows_append path j (against sums a sd.args) (against sums sd.result b)
      ∙ (λ i. (pairs_rows m m a sd.args q none owed _ _ _ path j (omega arith) fa full.0
      ∙ map_same _ (w.arg_row S own x mode d C q owed vs (types g.params) us ps ts) 0 m (λ k. ap (λ z. record { has = q k; asks = asked_own us k + ask ts k; right = z }) (args_right (ask ps k) (owed k) (more (r.refund S mode) none k)))) i
      ++ (pairs_rows m' m' sd.result b _ _ none s none none path 0 (omega arith) full.1 fb
      ∙ map_same _ (w.result_row S own x d T s us ps ts) 0 m' (λ k. ap (λ z. record { has = left_own us k + leave ts k; asks = s k; right = z }) (result_right (leave ps k)))) i)

module _ (S : Setting) (own : List Unsolved) (x : Assignment) (group : List (Sides Sum)) (sides : AreSides S x S.group own group) (once : Once S.group) where
  usable_count : (d f : ℕ) (bs : List Block) (from : ℕ) → length (usable_from from S.program d f bs) ≡ length (flat_map (λ (b : Block). w.usable_at S own x d (free_budget b.task.kind) (sig_in S.program b f)) bs)
  usable_count d f [] from = refl
  usable_count d f (b ∷ bs) from = by (usable_count d f bs (suc from)) (free_budget b.task.kind) (sig_in S.program b f) where
    by : length (usable_from (suc from) S.program d f bs) ≡ length (flat_map (λ (b : Block). w.usable_at S own x d (free_budget b.task.kind) (sig_in S.program b f)) bs) → (o : Option ℕ) (t : Option Sig) →
        length (cond (is_usable d o t) (from ∷ usable_from (suc from) S.program d f bs) (usable_from (suc from) S.program d f bs))
        ≡ length (w.usable_at S own x d o t ++ flat_map (λ (b : Block). w.usable_at S own x d (free_budget b.task.kind) (sig_in S.program b f)) bs)
    by go None t = go
    by go (Some budget) None = go
    by go (Some budget) (Some s) = deep (nat_le budget d) where
      deep : (l : Bool) → length (cond l (from ∷ usable_from (suc from) S.program d f bs) (usable_from (suc from) S.program d f bs))
          ≡ length (cond l (record { budget = budget; sig = s; times = 0 } ∷ []) [] ++ flat_map (λ (b : Block). w.usable_at S own x d (free_budget b.task.kind) (sig_in S.program b f)) bs)
      deep true = ap suc go
      deep false = go

  pub calls_say : CallsSay S own x group
  calls_say l f vs mode d C T q owed s a c path next hs rest us pd fa fb h =
      let us' = w.usable S own x d f in let count_is = usable_count d f S.earlier 0 in
      let called_is = called S.program S.group S.earlier S.budget C f vs T d in
      let ms = given_blocks (told_at x) next called_is.usable in
      let make = λ (o : Annotation) (first : ℕ). rows_only (w.call_rows S own x mode d C q o f vs T s (slice_get S.program.funs f) (w.multiplied S own x first us')) in
      let taken = length called_is.usable in
      subst (λ hs. Says (k.walk sums (G S own x group) (P S own x group (n.Call l f vs) C T d) mode path a c hs) (w.walk S own x mode d C q owed (n.Call l f vs) T s) next (taken + 0)) (sym h)
      (begun_says S own x group l mode path (size_of (types C) d) a q owed _ (λ o. taking (length us') (make o)) next (taken + 0) (some_position (types C) d) fa (λ j a' o f'.
      subst (λ z. Says (only (numbered path j (k.missing sums (G S own x group) mode called_is called_is.own ++ k.call_pairs sums (G S own x group) a' c (k.sums sums (G S own x group) mode called_is ms))) rest) (taking z (make o)) next (taken + 0)) count_is
      (take_says _ (make o) next taken 0
      (only_says _ rest _ (next + taken)
      (call_rows_are S own x group sides once f vs us.0 us.1 C T us.2 d mode a' c q o s path j next pd.0 f' fb
      ∙ ap (λ g. w.call_rows S own x mode d C q o f vs T s g (w.multiplied S own x next us')) (sym us.1))))))
