-- The rows of a form are those of its walk over sums.
use Rattle.std.proofs.Common.{append-nil, append_assoc, ◌≡◌, refl, ap, sym, ◌∙◌, arith, subst}
use Rattle.std.specs.Prelude.{ℕ, zero, suc, ◌+◌, ◌-◌, ◌*◌, ◌<◌, ◌≤◌, pos, List, [], ◌∷◌, ◌++◌, map, length, slice_index_or, All}
use Rattle.std.specs.List.{range_with_len}
use Rattle.std.proofs.lemmas.List.{map-append}
use Rattle.std.proofs.lemmas.List.Elements.{All-head, All-tail}
use Rattle.raml_syntax.specs.Tree.{Type', PairOf, ListOf, TreeOf, OptionOf}
use Rattle.base_poly.specs.Plain.{Plain, degrees}
use Rattle.base_poly.specs.Indices.{index_list}
use Rattle.index_shift.specs.Potential.{Annotation}
use Rattle.index_shift.specs.Potential as i
use Rattle.index_shift.specs.declared.entry.Entry.{Entry}
use Rattle.index_shift.specs.Parts.{type_parts}
use Rattle.index_shift.specs.Maps.{in_place, none as gone, twice, Carry, opening, sharing, variable_type, behind, opens, leaves, joins}
use Rattle.index_shift.specs.Contexts.{permutes, projects, marked_items}
use Rattle.normal_spec.specs.Norm as n
use Rattle.normal_spec.specs.Norm.{Norm}
use Rattle.normal_spec.specs.Context.{Context, types, place, without, opened, parts_of, copies_of, inners, others}
use Rattle.normal_spec.specs.Uses.{Uses}
use Rattle.cost_free.specs.declared.task.Meter.TheVariants.{Ticks, Cells, Work}
use Rattle.annot_types.specs.Program.{called_in}
use Rattle.annot_types.specs.Rules as r
use Rattle.annot_types.specs.Rules.{Mode, With, Own, Past, Setting}
use Rattle.annot_types.specs.Carried as m
use Rattle.annot_types.specs.Carried.{more, to, operand_places, marks, part, at_parts}
use Rattle.annot_types.specs.Rows as w
use Rattle.annot_types.specs.Rows.{size as size_of, Assignment, Row, Made, rows_only, both, taking, Unsolved, none}
use Rattle.rules_spec.specs.Plan as p
use Rattle.rules_spec.specs.Plan.{Plan, Step, Part}
use Rattle.rules_spec.specs.Numbers.{Sides, Known, Hint, Condition, Walked}
use Rattle.rules_spec.specs.Walk.{Walk, only, behind as before, and_then, numbered, charge, at, at_zero, moved, against, brought, joined, nothing, begun, mode_at, each, walk, walks}
use Rattle.rules_spec.specs.Asked.{Ask, asked, all_asked, each_asked, behind_asked, sum_of, count, counts, given, given_each, answers}
use Rattle.rules_spec.specs.Planned.{entries_of, step, zero_alone, part_steps, operand_entries, lower, let_part, plan}
use Rattle.rules_spec.specs.Found.{free_from, cost_from}
use Rattle.rules_spec.specs.Stand.{Ranged}
use Rattle.rules_spec.specs.Systems.{Sum, sums, told_at, row_at, AllPaid}
use Rattle.rules_spec.proofs.Standing.{some_position, ranged}
use Rattle.rules_spec.proofs.Left.{left_of, each_left, all_left}
use Rattle.rules_spec.proofs.Agreed.{tick_price, cell_price}
use Rattle.rules_spec.proofs.Ruled.{types_without, takes_one, types_opened, types_used, ranged_to, lower_asked, lower_walks, low_degrees}
use Rattle.rules_spec.proofs.Summed.{Full, full_same, brought_full, nothing_full, moved_full, moved_none, less_full, more_full, pairs_rows, pair_row, map_same, owed_right, given_full}

answers_append : {E : Type 0} (give : ℕ → E) (from : ℕ) (ks ls : List Ask) → answers give from (ks ++ ls) ≡ answers give from ks ++ answers give (from + counts ks) ls
answers_append give from [] ls = ap (λ k. answers give k ls) (omega arith)
answers_append give from (k ∷ ks) ls =
    (λ i. answers give from (k ∷ []) ++ answers_append give (from + count k) ks ls i)
    ∙ ap (λ j. answers give from (k ∷ ks) ++ answers give j ls) (omega arith)

counts_append : (ks ls : List Ask) → counts (ks ++ ls) ≡ counts ks + counts ls
counts_append [] ls = omega arith
counts_append (k ∷ ks) ls = omega (arith, counts_append ks ls)

behind_answers : {E : Type 0} (give : ℕ → E) (from : ℕ) (ks : List Ask) (rest : List (Hint E)) → behind_asked ks (answers give from ks ++ rest) ≡ rest
behind_answers give from [] rest = refl
behind_answers give from (k ∷ ks) rest = behind_answers give (from + count k) ks rest

pub paid_front : (S : Setting) (mode : Mode) (fs gs : List ℕ) → AllPaid S mode (fs ++ gs) → AllPaid S mode fs
paid_front S mode [] gs h = tt
paid_front S mode (f ∷ fs) gs h = (h.0, paid_front S mode fs gs h.1)

pub paid_back : (S : Setting) (mode : Mode) (fs gs : List ℕ) → AllPaid S mode (fs ++ gs) → AllPaid S mode gs
paid_back S mode [] gs h = h
paid_back S mode (f ∷ fs) gs h = paid_back S mode fs gs h.1

paid_past : (S : Setting) (fs : List ℕ) → AllPaid S Past fs
paid_past S [] = tt
paid_past S (f ∷ fs) = (tt, paid_past S fs)

-- The rows that a part of a walk finds are those that a part of the rules makes, and so many unknowns are taken.
pub record Says (v : Walked Sum) (M : Made) (next taken : ℕ) : Type 0 where
  pub rows : map row_at v.found ≡ (M next).0
  pub ends : (M next).1 ≡ next + taken

both_say : (v : Walked Sum) (go : List (Hint Sum) → Walked Sum) (M N : Made) (next a b : ℕ) (mid : List (Hint Sum)) → v.left ≡ mid → Says v M next a → Says (go mid) N (next + a) b → Says (and_then v go) (both M N) next (a + b)
both_say v go M N next a b mid e s t = record {
  rows =
      map-append row_at v.found (go v.left).found
      ∙ (λ i. s.rows i ++ map row_at (go (e i)).found)
      ∙ ap (λ l. (M next).0 ++ l) t.rows
      ∙ ap (λ k. (M next).0 ++ (N k).0) (sym s.ends);
  ends = ap (λ k. (N k).1) s.ends ∙ t.ends ∙ omega arith;
}

behind_says : (cs : List (Condition Sum)) (rows : List Row) (v : Walked Sum) (M : Made) (next a : ℕ) → map row_at cs ≡ rows → Says v M next a → Says (before cs v) (both (rows_only rows) M) next a
behind_says cs rows v M next a e s = record { rows = map-append row_at cs v.found ∙ (λ i. e i ++ s.rows i); ends = s.ends }

pub only_says : (cs : List (Condition Sum)) (hs : List (Hint Sum)) (rows : List Row) (next : ℕ) → map row_at cs ≡ rows → Says (only cs hs) (rows_only rows) next 0
only_says cs hs rows next e = record { rows = e; ends = omega arith }

pub zero_plus : (a : ℕ) → 0 + a ≡ a
zero_plus a = omega arith

pub plus_zero' : (a : ℕ) → a ≡ a + 0
plus_zero' a = omega arith

nothing_more : (es : List Entry) (k : ℕ) → none k + i.moved es none k ≡ 0
nothing_more es k = omega (arith, moved_none es k)

-- another count of the same number
recount : (v : Walked Sum) (M : Made) (next a b : ℕ) → a ≡ b → Says v M next a → Says v M next b
recount v M next a b e s = subst (λ k. Says v M next k) e s

pub take_says : (v : Walked Sum) (make : ℕ → Made) (next n a : ℕ) → Says v (make next) (next + n) a → Says v (taking n make) next (n + a)
take_says v make next n a s = record { rows = s.rows; ends = s.ends ∙ omega arith }

abbrev Ranged' : ℕ → Step → Type 0
Ranged' n s = Ranged n s.size s.entries

module _ (S : Setting) (own : List Unsolved) (x : Assignment) (group : List (Sides Sum)) where
  abbrev pub G : Known Sum
  G = record { scale = S.scale; budget = S.budget; group = group; free = free_from S; cost = cost_from S }

  abbrev pub P : Norm → Context → Type' → ℕ → Plan
  P = plan S.program S.group S.earlier S.budget

  abbrev W : Plan → Walk Sum
  W = walk sums G

  single_row : (y : Sum) (q o K : ℕ) (path : List ℕ) (j : ℕ) → y ≡ record { has = q; plus = 0; minus = o } →
      map row_at (numbered path j ((y, sums.number K) ∷ [])) ≡ record { has = q; asks = 0; right = pos (K + o) } ∷ []
  single_row y q o K path j e =
      (λ i. row_at (record { path = path; index = j; left = e i; right = sums.number K }) ∷ [])
      ∙ ap (λ z. record { has = q; asks = 0; right = z } ∷ []) (owed_right (K + o))

  -- nothing is paid
  none_says : (n K : ℕ) (a : List Sum) (q owed : Annotation) (v : Walked Sum) (rule : Annotation → Made) (next taken : ℕ) → K ≡ 0 → Full n a q none owed →
      ((o : Annotation) → Full n a q none o → Says v (rule o) next taken) → Says v (both (rows_only []) (rule (more K owed))) next taken
  none_says n K a q owed v rule next taken e f h =
      let s = h (more K owed) (full_same n a q none owed q none (more K owed) f (λ k. refl) (λ k. refl) at) in record { rows = s.rows; ends = s.ends } where
        at : (k : ℕ) → owed k ≡ more K owed k
        at zero = omega (arith, e)
        at (suc k) = refl

  pub begun_says : (k : ℕ) (mode : Mode) (path : List ℕ) (n : ℕ) (a : List Sum) (q owed : Annotation) (go : ℕ → List Sum → Walked Sum) (rule : Annotation → Made) (next taken : ℕ) → 0 < n → Full n a q none owed →
      ((j : ℕ) (b : List Sum) (o : Annotation) → Full n b q none o → Says (go j b) (rule o) next taken) →
      Says (begun sums G k mode path a go) (w.pays S own x mode k q owed rule) next taken
  begun_says zero (With Ticks) path n a q owed go rule next taken h f t = none_says n _ a q owed (go 0 a) rule next taken (omega arith) f (t 0 a)
  begun_says zero (With Cells) path n a q owed go rule next taken h f t = none_says n _ a q owed (go 0 a) rule next taken (omega arith) f (t 0 a)
  begun_says zero (With Work) path n a q owed go rule next taken h f t = none_says n _ a q owed (go 0 a) rule next taken (omega arith) f (t 0 a)
  begun_says zero Own path n a q owed go rule next taken h f t = none_says n _ a q owed (go 0 a) rule next taken refl f (t 0 a)
  begun_says zero Past path n a q owed go rule next taken h f t = none_says n _ a q owed (go 0 a) rule next taken refl f (t 0 a)
  begun_says (suc k) (With Ticks) path n a q owed go rule next taken h f t = none_says n _ a q owed (go 0 a) rule next taken (omega arith) f (t 0 a)
  begun_says (suc k) (With Cells) path n a q owed go rule next taken h f t = none_says n _ a q owed (go 0 a) rule next taken (omega arith) f (t 0 a)
  begun_says (suc k) (With Work) path n a q owed go rule next taken h f t =
      let K = suc k * S.scale in
      behind_says (numbered path 0 ((at sums a 0, sums.number K) ∷ [])) (w.first_row S own x q (more K owed) 0) (go 1 (at_zero (sums.less K) a)) (rule (more K owed)) next taken
      (single_row (at sums a 0) (q 0) (owed 0) K path 0 (f.is 0 h)) (t 1 (at_zero (sums.less K) a) (more K owed) (less_full n a q none owed K f))
  begun_says (suc k) Own path n a q owed go rule next taken h f t = none_says n _ a q owed (go 0 a) rule next taken refl f (t 0 a)
  begun_says (suc k) Past path n a q owed go rule next taken h f t = none_says n _ a q owed (go 0 a) rule next taken refl f (t 0 a)

  -- rows of a context, where prices stand on the right
  covers : (As : List Type') (d : ℕ) (a b : List Sum) (q o r p o' : Annotation) (path : List ℕ) (j : ℕ) → Full (size_of As d) a q none o → Full (size_of As d) b r p none → ((k : ℕ) → p k + o k ≡ o' k) →
      map row_at (numbered path j (against sums a b)) ≡ w.cover_rows S own x As d q o' r
  covers As d a b q o r p o' path j f g h =
      pairs_rows (size_of As d) (size_of As d) a b q none o r p none path j (omega arith) f g
      ∙ map_same (pair_row q none o r p none) (λ k. record { has = q k; asks = r k; right = pos (o' k) }) 0 (size_of As d)
      (λ k. ap (λ z. record { has = q k; asks = r k; right = z }) (owed_right (p k + o k) ∙ ap pos (h k)))

  priced : (K : ℕ) (o : Annotation) (k : ℕ) → more K none k + o k ≡ more K o k
  priced K o zero = omega arith
  priced K o (suc k) = omega arith

  free : (K : ℕ) (o : Annotation) → K ≡ 0 → (k : ℕ) → more K none k + o k ≡ o k
  free K o e zero = omega (arith, e)
  free K o e (suc k) = omega arith

  no_cells : (mode : Mode) → charge S.scale mode Cells 0 ≡ 0
  no_cells (With Ticks) = refl
  no_cells (With Cells) = omega arith
  no_cells (With Work) = refl
  no_cells Own = refl
  no_cells Past = refl

  -- the annotation of a result, moved
  plain_moved : (n : ℕ) (a : List Sum) (q : Annotation) (s : Step) → Ranged' n s → Full n a q none none → Full s.size (moved sums s a) (i.moved s.entries q) none none
  plain_moved n a q s h f = full_same s.size _ _ _ _ _ _ _ (moved_full n a q none none s h f) (λ k. refl) (λ k. moved_none s.entries k) (λ k. moved_none s.entries k)

  -- that of a context
  owed_moved : (n : ℕ) (a : List Sum) (q o : Annotation) (s : Step) → Ranged' n s → Full n a q none o → Full s.size (moved sums s a) (i.moved s.entries q) none (i.moved s.entries o)
  owed_moved n a q o s h f = full_same s.size _ _ _ _ _ _ _ (moved_full n a q none o s h f) (λ k. refl) (λ k. moved_none s.entries k) (λ k. refl)

  -- The hints of a walk are given in the order of unknowns, from this one on, and others stand behind them.
  abbrev pub Walks : Norm → Type 0
  Walks e = (mode : Mode) (d : ℕ) (C : Context) (T : Type') (q owed s : Annotation) (a c : List Sum) (path : List ℕ) (next : ℕ) (hs rest : List (Hint Sum)) →
      Uses S.program.funs C e T → AllPaid S mode (called_in e) → Full (size_of (types C) d) a q none owed → Full (size_of (T ∷ []) d) c s none none →
      hs ≡ answers (told_at x) next (asked (P e C T d)) ++ rest →
      Says (W (P e C T d) mode path a c hs) (w.walk S own x mode d C q owed e T s) next (counts (asked (P e C T d)))

  first_says : (mode : Mode) (k d : ℕ) (C : Context) (T : Type') (q owed s : Annotation) (a c : List Sum) (path : List ℕ) (next : ℕ) (hs : List (Hint Sum)) →
      Full (size_of (types C) d) a q none owed → Full (size_of (T ∷ []) d) c s none none →
      Says (W (p.Ends k 0 zero_alone) mode path a c hs) (w.pays S own x mode k q owed (λ o. rows_only (w.first_row S own x q o (s 0)))) next 0
  first_says mode k d C T q owed s a c path next hs f g =
      let st : Step = record { size = 1; entries = record { from = 0; to = 0; times = 1 } ∷ [] } in
      let K = charge S.scale mode Cells 0 in
      let b = moved sums st c in
      let one = plain_moved (size_of (T ∷ []) d) c s st (some_position (T ∷ []) d, omega arith, tt) g in
      begun_says k mode path (size_of (types C) d) a q owed _ (λ o. rows_only (w.first_row S own x q o (s 0))) next 0 (some_position (types C) d) f (λ j a' o f'.
      only_says _ hs _ next
      (pairs_rows (size_of (types C) d) 1 a' (at_zero (sums.plus (sums.number K)) b) q none o (i.moved st.entries s) (more K none) none path j (some_position (types C) d) f' (more_full 1 b _ none none K one)
      ∙ at mode o)) where
        at : (mode : Mode) (o : Annotation) →
            map (pair_row q none o (i.moved (record { from = 0; to = 0; times = 1 } ∷ []) s) (more (charge S.scale mode Cells 0) none) none) (range_with_len 0 1) ≡ w.first_row S own x q o (s 0)
        at mode o =
            let asks : i.moved (record { from = 0; to = 0; times = 1 } ∷ []) s 0 ≡ s 0 = omega arith in
            let right = owed_right (more (charge S.scale mode Cells 0) none 0 + o 0) ∙ ap pos (free (charge S.scale mode Cells 0) o (no_cells mode) 0) in
            λ i. record { has = q 0; asks = asks i; right = right i } ∷ []

  parts_say : (mode : Mode) (k d : ℕ) (C : Context) (vs : List ℕ) (T : Type') (q owed s : Annotation) (a c : List Sum) (path : List ℕ) (next : ℕ) (hs : List (Hint Sum)) →
      Full (size_of (types C) d) a q none owed → Full (size_of (T ∷ []) d) c s none none →
      Says (W (p.Ends k 1 (part_steps C vs T d)) mode path a c hs)
      (w.pays S own x mode k q owed (λ o. rows_only (w.cover_rows S own x (types C) d q (more (r.price S mode 0 0 1) o) (at_parts C vs T d s)))) next 0
  parts_say mode k d C vs T q owed s a c path next hs f g =
      let one = step (type_parts T) d (opening (T ∷ []) 0 d) in let two = step (types C) d (operand_entries C vs (type_parts T) d d) in
      let K = charge S.scale mode Cells 1 in
      let first = plain_moved (size_of (T ∷ []) d) c s one (ranged_to (behind 0 (opens (variable_type (T ∷ []) 0))) (T ∷ []) (in_place 0 type_parts (T ∷ [])) (type_parts T) d d (sym (append-nil (type_parts T)))) g in
      let second = plain_moved (size_of (type_parts T) d) (moved sums one c) (i.moved one.entries s) two (ranged (permutes (operand_places C vs)) (index_list (type_parts T) d) (index_list (types C) d)) first in
      begun_says k mode path (size_of (types C) d) a q owed _ (λ o. rows_only (w.cover_rows S own x (types C) d q (more (r.price S mode 0 0 1) o) (at_parts C vs T d s))) next 0 (some_position (types C) d) f (λ j a' o f'.
      only_says _ hs _ next
      (covers (types C) d a' (at_zero (sums.plus (sums.number K)) (moved sums two (moved sums one c))) q o (at_parts C vs T d s) (more K none) (more (r.price S mode 0 0 1) o) path j f'
      (more_full (size_of (types C) d) (moved sums two (moved sums one c)) _ none none K second)
      (λ k. priced K o k ∙ ap (λ z. more z o k) (sym (cell_price S mode 1)))))

  -- the context changes
  moves_say : (mode : Mode) (k d : ℕ) (C D : Context) (e : Norm) (T : Type') (q owed s : Annotation) (a c : List Sum) (path : List ℕ) (next : ℕ) (hs rest : List (Hint Sum)) (carry : Carry) (Bs : List Type') →
      types D ≡ Bs → Walks e → Uses S.program.funs D e T → AllPaid S mode (called_in e) → Full (size_of (types C) d) a q none owed → Full (size_of (T ∷ []) d) c s none none →
      hs ≡ answers (told_at x) next (asked (P e D T d)) ++ rest →
      Says (W (p.Moves k (step (types D) d (entries_of carry (types C) d Bs d)) (P e D T d)) mode path a c hs)
      (w.pays S own x mode k q owed (λ o. w.walk S own x mode d D (i.moved (entries_of carry (types C) d Bs d) q) (i.moved (entries_of carry (types C) d Bs d) o) e T s)) next (counts (asked (P e D T d)))
  moves_say mode k d C D e T q owed s a c path next hs rest carry Bs ty ih us pd f g h =
      let st = step (types D) d (entries_of carry (types C) d Bs d) in
      begun_says k mode path (size_of (types C) d) a q owed _ (λ o. w.walk S own x mode d D (i.moved st.entries q) (i.moved st.entries o) e T s) next (counts (asked (P e D T d))) (some_position (types C) d) f (λ j a' o f'.
      ih mode d D T (i.moved st.entries q) (i.moved st.entries o) s (moved sums st a') c (path ++ 0 ∷ []) next hs rest us pd
      (owed_moved (size_of (types C) d) a' q o st (ranged_to carry (types C) Bs (types D) d d ty) f') g h)

  -- two branches
  forks_say : (mode : Mode) (k d : ℕ) (C D D' : Context) (e e' : Norm) (T : Type') (q owed s : Annotation) (a c : List Sum) (path : List ℕ) (next : ℕ) (hs rest : List (Hint Sum)) (carry carry' : Carry) (Bs Bs' : List Type') →
      types D ≡ Bs → types D' ≡ Bs' → Walks e → Walks e' → Uses S.program.funs D e T → Uses S.program.funs D' e' T → AllPaid S mode (called_in e ++ called_in e') →
      Full (size_of (types C) d) a q none owed → Full (size_of (T ∷ []) d) c s none none →
      hs ≡ answers (told_at x) next (asked (P e D T d) ++ asked (P e' D' T d)) ++ rest →
      Says (W (p.Forks k (step (types D) d (entries_of carry (types C) d Bs d)) (P e D T d) (step (types D') d (entries_of carry' (types C) d Bs' d)) (P e' D' T d)) mode path a c hs)
      (w.pays S own x mode k q owed (λ o. both
      (w.walk S own x mode d D (i.moved (entries_of carry (types C) d Bs d) q) (i.moved (entries_of carry (types C) d Bs d) o) e T s)
      (w.walk S own x mode d D' (i.moved (entries_of carry' (types C) d Bs' d) q) (i.moved (entries_of carry' (types C) d Bs' d) o) e' T s))) next (counts (asked (P e D T d) ++ asked (P e' D' T d)))
  forks_say mode k d C D D' e e' T q owed s a c path next hs rest carry carry' Bs Bs' ty ty' ih ih' us us' pd f g h =
      let st = step (types D) d (entries_of carry (types C) d Bs d) in let st' = step (types D') d (entries_of carry' (types C) d Bs' d) in
      let ks = asked (P e D T d) in let ls = asked (P e' D' T d) in
      let mid = answers (told_at x) (next + counts ks) ls ++ rest in
      let front : hs ≡ answers (told_at x) next ks ++ mid = h ∙ ap (λ l. l ++ rest) (answers_append (told_at x) next ks ls) ∙ append_assoc (answers (told_at x) next ks) (answers (told_at x) (next + counts ks) ls) rest in
      begun_says k mode path (size_of (types C) d) a q owed _
      (λ o. both (w.walk S own x mode d D (i.moved st.entries q) (i.moved st.entries o) e T s) (w.walk S own x mode d D' (i.moved st'.entries q) (i.moved st'.entries o) e' T s)) next (counts (ks ++ ls)) (some_position (types C) d) f (λ j a' o f'.
      recount _ _ next (counts ks + counts ls) (counts (ks ++ ls)) (sym (counts_append ks ls))
      (both_say (W (P e D T d) mode (path ++ 0 ∷ []) (moved sums st a') c hs) (λ l. W (P e' D' T d) mode (path ++ 1 ∷ []) (moved sums st' a') c l)
      (w.walk S own x mode d D (i.moved st.entries q) (i.moved st.entries o) e T s) (w.walk S own x mode d D' (i.moved st'.entries q) (i.moved st'.entries o) e' T s) next (counts ks) (counts ls) mid
      (left_of sums G (P e D T d) mode (path ++ 0 ∷ []) (moved sums st a') c hs ∙ ap (behind_asked ks) front ∙ behind_answers (told_at x) next ks mid)
      (ih mode d D T (i.moved st.entries q) (i.moved st.entries o) s (moved sums st a') c (path ++ 0 ∷ []) next hs mid us (paid_front S mode (called_in e) (called_in e') pd)
      (owed_moved (size_of (types C) d) a' q o st (ranged_to carry (types C) Bs (types D) d d ty) f') g front)
      (ih' mode d D' T (i.moved st'.entries q) (i.moved st'.entries o) s (moved sums st' a') c (path ++ 1 ∷ []) (next + counts ks) mid rest us' (paid_back S mode (called_in e) (called_in e') pd)
      (owed_moved (size_of (types C) d) a' q o st' (ranged_to carry' (types C) Bs' (types D') d d ty') f') g refl)))

  ticks_say : (mode : Mode) (k l d : ℕ) (C : Context) (e : Norm) (T : Type') (q owed s : Annotation) (a c : List Sum) (path : List ℕ) (next : ℕ) (hs rest : List (Hint Sum)) →
      Walks e → Uses S.program.funs C e T → AllPaid S mode (called_in e) → Full (size_of (types C) d) a q none owed → Full (size_of (T ∷ []) d) c s none none →
      hs ≡ answers (told_at x) next (asked (P e C T d)) ++ rest →
      Says (W (p.Pays k l (P e C T d)) mode path a c hs) (w.walk S own x mode d C q owed (n.Tick k l e) T s) next (counts (asked (P e C T d)))
  ticks_say mode k l d C e T q owed s a c path next hs rest ih us pd f g h =
      let K = charge S.scale mode Ticks l in let K' = r.price S mode 0 l 0 in let same : K' ≡ K = tick_price S mode l in
      let rule = λ (L : ℕ) (o : Annotation). both (rows_only (w.first_row S own x q (more L o) 0)) (w.walk S own x mode d C q (more L o) e T s) in
      begun_says k mode path (size_of (types C) d) a q owed _ (rule K') next (counts (asked (P e C T d))) (some_position (types C) d) f (λ j a' o f'.
      subst (λ L. Says (before (numbered path j ((at sums a' 0, sums.number K) ∷ [])) (W (P e C T d) mode (path ++ 0 ∷ []) (at_zero (sums.less K) a') c hs)) (rule L o) next (counts (asked (P e C T d)))) (sym same)
      (behind_says (numbered path j ((at sums a' 0, sums.number K) ∷ [])) (w.first_row S own x q (more K o) 0) (W (P e C T d) mode (path ++ 0 ∷ []) (at_zero (sums.less K) a') c hs)
      (w.walk S own x mode d C q (more K o) e T s) next (counts (asked (P e C T d)))
      (single_row (at sums a' 0) (q 0) (o 0) K path j (f'.is 0 (some_position (types C) d)))
      (ih mode d C T q (more K o) s (at_zero (sums.less K) a') c (path ++ 0 ∷ []) next hs rest us pd (less_full (size_of (types C) d) a' q none o K f') g h)))

  shares_say : (mode : Mode) (k y u v d : ℕ) (C : Context) (e : Norm) (T : Type') (q owed s : Annotation) (a c : List Sum) (path : List ℕ) (next : ℕ) (hs rest : List (Hint Sum)) →
      types (opened y (u ∷ v ∷ []) copies_of C) ≡ in_place (place y C) twice (types C) → Walks e → Uses S.program.funs (opened y (u ∷ v ∷ []) copies_of C) e T → AllPaid S mode (called_in e) →
      Full (size_of (types C) d) a q none owed → Full (size_of (T ∷ []) d) c s none none → hs ≡ answers (told_at x) next (asked (P (n.Share k y u v e) C T d)) ++ rest →
      Says (W (P (n.Share k y u v e) C T d) mode path a c hs) (w.walk S own x mode d C q owed (n.Share k y u v e) T s) next (counts (asked (P (n.Share k y u v e) C T d)))
  shares_say mode k y u v d C e T q owed s a c path next hs rest ty ih us pd f g h =
      let D = opened y (u ∷ v ∷ []) copies_of C in let es = sharing (types C) (place y C) d in let st = step (types C) d es in let m = size_of (types D) d in
      let ks = asked (P e D T d) in let copies = given (told_at x) next m in let later = answers (told_at x) (next + m) ks ++ rest in
      let range : Ranged m (size_of (types C) d) es = subst (λ Bs. Ranged (size_of Bs d) (size_of (types C) d) es) (sym ty) (ranged (behind (place y C) joins) (index_list (in_place (place y C) twice (types C)) d) (index_list (types C) d)) in
      let full = given_full x next m in
      let right = plain_moved m copies (w.unknown S own x next) st range full in
      subst (λ hs. Says (W (P (n.Share k y u v e) C T d) mode path a c hs) (w.walk S own x mode d C q owed (n.Share k y u v e) T s) next (m + counts ks)) (sym h)
      (begun_says k mode path (size_of (types C) d) a q owed _
      (λ o. taking m (λ first. both (rows_only (w.cover_rows S own x (types C) d q o (i.moved es (w.unknown S own x first)))) (w.walk S own x mode d D (w.unknown S own x first) none e T s))) next (m + counts ks) (some_position (types C) d) f (λ j a' o f'.
      take_says _ (λ first. both (rows_only (w.cover_rows S own x (types C) d q o (i.moved es (w.unknown S own x first)))) (w.walk S own x mode d D (w.unknown S own x first) none e T s)) next m (counts ks)
      (behind_says (numbered path j (against sums a' (moved sums st copies))) (w.cover_rows S own x (types C) d q o (i.moved es (w.unknown S own x next))) (W (P e D T d) mode (path ++ 0 ∷ []) copies c later)
      (w.walk S own x mode d D (w.unknown S own x next) none e T s) (next + m) (counts ks)
      (covers (types C) d a' (moved sums st copies) q o (i.moved es (w.unknown S own x next)) none o path j f' right (λ k. zero_plus (o k)))
      (ih mode d D T (w.unknown S own x next) none s copies c (path ++ 0 ∷ []) (next + m) later rest us pd full g refl))))

  -- the bound form of a Let
  abbrev child : Norm → Context → Type' → ℕ → Annotation → Annotation → Mode → List Plain → Annotation → Made
  child a C A d q o mode j s = w.walk S own x mode (d - degrees j) (inners a C) (part a C d j q) (part a C d j o) a A s

  abbrev asks : Norm → Context → Type' → ℕ → List (List Plain) → List Ask
  asks a C A d js = each_asked (all_asked (lower (P a (inners a C) A) d)) (map (let_part a C A d) js)

  abbrev sizes : Norm → Context → Type' → ℕ → List (List Plain) → List ℕ
  sizes a C A d js = map (λ (pt : Part). pt.size) (map (let_part a C A d) js)

  each_says : (a₁ : Norm) → Walks a₁ → (C : Context) (A : Type') (d : ℕ) → Uses S.program.funs (inners a₁ C) a₁ A → (q o : Annotation) (a : List Sum) → Full (size_of (types C) d) a q none o →
      (mode m₁ : Mode) → AllPaid S m₁ (called_in a₁) → (path : List ℕ) (all : List (List Sum)) (k : ℕ) → mode_at k mode ≡ m₁ → (js : List (List Plain)) (first next : ℕ) (hs rest : List (Hint Sum)) →
      ((j : ℕ) → slice_index_or all (k + j) [] ≡ slice_index_or (given_each (told_at x) first (sizes a₁ C A d js)) j []) → All (λ j. degrees j ≤ d) js →
      hs ≡ answers (told_at x) next (asks a₁ C A d js) ++ rest →
      Says (each sums G (walks sums G (lower (P a₁ (inners a₁ C) A) d)) k (map (let_part a₁ C A d) js) all a mode path hs)
      (w.let_parts S own x (child a₁ C A d q o) m₁ js (w.let_results S own x A d first js)) next (counts (asks a₁ C A d js))
  each_says a₁ ih C A d us q o a f mode m₁ pd path all k em [] first next hs rest same low h = record { rows = refl; ends = omega arith }
  each_says a₁ ih C A d us q o a f mode m₁ pd path all k em (j ∷ js) first next hs rest same low h =
      let plans = lower (P a₁ (inners a₁ C) A) d in let ws = walks sums G plans in let g = degrees j in let e = P a₁ (inners a₁ C) A (d - g) in
      let lowj = All-head (λ j. degrees j ≤ d) j js low in let pt = let_part a₁ C A d j in let size = size_of (A ∷ []) (d - g) in
      let kse : slice_index_or (all_asked plans) g [] ≡ asked e = lower_asked (P a₁ (inners a₁ C) A) d g lowj in
      let ks = asked e in let ls = asks a₁ C A d js in
      let count_is : counts (asks a₁ C A d (j ∷ js)) ≡ counts ks + counts ls = ap (λ z. counts (z ++ ls)) kse ∙ counts_append ks ls in
      let mid = answers (told_at x) (next + counts ks) ls ++ rest in
      let front : hs ≡ answers (told_at x) next ks ++ mid =
      h ∙ ap (λ z. answers (told_at x) next (z ++ ls) ++ rest) kse ∙ ap (λ l. l ++ rest) (answers_append (told_at x) next ks ls) ∙ append_assoc (answers (told_at x) next ks) (answers (told_at x) (next + counts ks) ls) rest in
      let b = moved sums pt.there a in let r = given (told_at x) first size in
      let at_k : slice_index_or all k [] ≡ r = ap (λ z. slice_index_or all z []) (omega arith) ∙ same 0 in
      let go = λ (l : List (Hint Sum)). each sums G ws (suc k) (map (let_part a₁ C A d) js) all a mode path l in
      let past : AllPaid S Past (called_in a₁) = paid_past S (called_in a₁) in
      let one = ih m₁ (d - g) (inners a₁ C) A (part a₁ C d j q) (part a₁ C d j o) (w.unknown S own x first) b r (path ++ k ∷ []) next hs mid us pd
      (owed_moved (size_of (types C) d) a q o pt.there (ranged_to (projects (marks a₁ C) j) (types C) (marked_items (marks a₁ C) (types C)) (types (inners a₁ C)) d (d - g) (types_used a₁ C)) f)
      (given_full x first size) front in
      let all_of = both_say (W e m₁ (path ++ k ∷ []) b r hs) go (child a₁ C A d q o m₁ j (w.unknown S own x first))
      (w.let_parts S own x (child a₁ C A d q o) Past js (w.let_results S own x A d (first + size) js)) next (counts ks) (counts ls) mid
      (left_of sums G e m₁ (path ++ k ∷ []) b r hs ∙ ap (behind_asked ks) front ∙ behind_answers (told_at x) next ks mid) one
      (each_says a₁ ih C A d us q o a f mode Past past path all (suc k) refl js (first + size) (next + counts ks) mid rest (λ i. ap (λ z. slice_index_or all z []) (omega arith) ∙ same (suc i))
      (All-tail (λ j. degrees j ≤ d) j js low) refl) in
      let walker = λ (v : Walk Sum) (mm : Mode) (s : List Sum). and_then (v mm (path ++ k ∷ []) b s hs) go in
      subst (λ (v : Walked Sum). Says v (w.let_parts S own x (child a₁ C A d q o) m₁ (j ∷ js) (w.let_results S own x A d first (j ∷ js))) next (counts (asks a₁ C A d (j ∷ js))))
      (λ i. walker (sym (lower_walks sums G (P a₁ (inners a₁ C) A) d g lowj) i) (sym em i) (sym at_k i))
      (recount _ _ next (counts ks + counts ls) (counts (asks a₁ C A d (j ∷ js))) (sym count_is) all_of)

  joined_full : (a₁ : Norm) (C : Context) (A : Type') (d : ℕ) (all : List (List Sum)) (k : ℕ) (js : List (List Plain)) (first : ℕ) (c : List Sum) (p : Annotation) →
      ((j : ℕ) → slice_index_or all (k + j) [] ≡ slice_index_or (given_each (told_at x) first (sizes a₁ C A d js)) j []) → Full (size_of (types (others a₁ C) ++ A ∷ []) d) c p none none →
      Full (size_of (types (others a₁ C) ++ A ∷ []) d) (joined sums c k (map (let_part a₁ C A d) js) all) (λ i. p i + m.joined (types (others a₁ C)) A d js (w.let_results S own x A d first js) i) none none
  joined_full a₁ C A d all k [] first c p same u = full_same _ c p none none _ none none u (λ i. plus_zero' (p i)) (λ i. refl) (λ i. refl)
  joined_full a₁ C A d all k (j ∷ js) first c p same u =
      let Bs = types (others a₁ C) ++ A ∷ [] in let n = size_of Bs d in let pt = let_part a₁ C A d j in let size = size_of (A ∷ []) (d - degrees j) in
      let r = given (told_at x) first size in let s = w.unknown S own x first in
      let one = brought_full size n r s none none pt.joins c p none none (ranged (to (λ t. j ++ t)) (index_list (A ∷ []) (d - degrees j)) (index_list Bs d)) (given_full x first size) u in
      let one' = full_same n (brought sums c pt.joins r) _ _ _ (λ h. p h + i.moved pt.joins s h) none none one (λ h. refl) (λ h. nothing_more pt.joins h) (λ h. nothing_more pt.joins h) in
      let at_k : slice_index_or all k [] ≡ r = ap (λ z. slice_index_or all z []) (omega arith) ∙ same 0 in
      let next = joined_full a₁ C A d all (suc k) js (first + size) (brought sums c pt.joins r) (λ h. p h + i.moved pt.joins s h) (λ i. ap (λ z. slice_index_or all z []) (omega arith) ∙ same (suc i)) one' in
      let rs = w.let_results S own x A d first (j ∷ js) in
      let whole = full_same n (joined sums (brought sums c pt.joins r) (suc k) (map (let_part a₁ C A d) js) all) _ none none (λ i. p i + m.joined (types (others a₁ C)) A d (j ∷ js) rs i) none none next (λ i. omega arith) (λ i. refl) (λ i. refl) in
      subst (λ y. Full n (joined sums (brought sums c pt.joins y) (suc k) (map (let_part a₁ C A d) js) all) (λ i. p i + m.joined (types (others a₁ C)) A d (j ∷ js) rs i) none none) (sym at_k) whole

  sum_is : (a₁ : Norm) (C : Context) (A : Type') (d : ℕ) (js : List (List Plain)) → sum_of (sizes a₁ C A d js) ≡ w.let_size S own x A d js
  sum_is a₁ C A d [] = refl
  sum_is a₁ C A d (j ∷ js) = ap (λ z. size_of (A ∷ []) (d - degrees j) + z) (sum_is a₁ C A d js)

  lets_say : (mode : Mode) (k y d : ℕ) (A : Type') (C : Context) (a₁ e : Norm) (T : Type') (q owed s : Annotation) (a c : List Sum) (path : List ℕ) (next : ℕ) (hs rest : List (Hint Sum)) →
      Walks a₁ → Walks e → Uses S.program.funs C (n.Let k y A a₁ e) T → AllPaid S mode (called_in a₁ ++ called_in e) → Full (size_of (types C) d) a q none owed → Full (size_of (T ∷ []) d) c s none none →
      hs ≡ answers (told_at x) next (asked (P (n.Let k y A a₁ e) C T d)) ++ rest →
      Says (W (P (n.Let k y A a₁ e) C T d) mode path a c hs) (w.walk S own x mode d C q owed (n.Let k y A a₁ e) T s) next (counts (asked (P (n.Let k y A a₁ e) C T d)))
  lets_say mode k y d A C a₁ e T q owed s a c path next hs rest ia ie us pd f g h =
      let js = index_list (types (others a₁ C)) d in let low = low_degrees (types (others a₁ C)) d in let D = others a₁ C ++ (y, A) ∷ [] in
      let Bs = types (others a₁ C) ++ A ∷ [] in let ks = asks a₁ C A d js in let ls = asked (P e D T d) in let ns = sizes a₁ C A d js in
      let parts = map (let_part a₁ C A d) js in let plans = lower (P a₁ (inners a₁ C) A) d in let ws = walks sums G plans in
      let m' = sum_of ns in let all = given_each (told_at x) next ns in
      let mid = answers (told_at x) (next + m' + counts ks) ls ++ rest in
      let later = answers (told_at x) (next + m') (ks ++ ls) ++ rest in
      let front : later ≡ answers (told_at x) (next + m') ks ++ mid =
      ap (λ l. l ++ rest) (answers_append (told_at x) (next + m') ks ls) ∙ append_assoc (answers (told_at x) (next + m') ks) (answers (told_at x) (next + m' + counts ks) ls) rest in
      let ty : types D ≡ Bs = map-append (λ (v : ℕ × Type'). v.1) (others a₁ C) ((y, A) ∷ []) in
      let size = size_of (types D) d in let both_of = joined sums (nothing sums size) 0 parts all in
      let ann = m.joined (types (others a₁ C)) A d js (w.let_results S own x A d next js) in
      let same = λ (j : ℕ). ap (λ z. slice_index_or all z []) (zero_plus j) in
      let full : Full size both_of ann none none = subst (λ Ds. Full (size_of Ds d) (joined sums (nothing sums (size_of Ds d)) 0 parts all) ann none none) (sym ty)
      (full_same (size_of Bs d) _ (λ i. 0 + ann i) none none ann none none (joined_full a₁ C A d all 0 js next (nothing sums (size_of Bs d)) none same (nothing_full (size_of Bs d))) (λ i. zero_plus (ann i)) (λ i. refl) (λ i. refl)) in
      let make = λ (o : Annotation) (first : ℕ). both (w.let_parts S own x (child a₁ C A d q o) mode js (w.let_results S own x A d first js))
      (w.walk S own x mode d D (m.joined (types (others a₁ C)) A d js (w.let_results S own x A d first js)) none e T s) in
      let taken = m' + counts (ks ++ ls) in
      subst (λ hs. Says (W (P (n.Let k y A a₁ e) C T d) mode path a c hs) (w.walk S own x mode d C q owed (n.Let k y A a₁ e) T s) next taken) (sym h)
      (begun_says k mode path (size_of (types C) d) a q owed _ (λ o. taking (w.let_size S own x A d js) (make o)) next taken (some_position (types C) d) f (λ j a' o f'.
      let first = each sums G ws 0 parts all a' mode path later in
      let go = λ (l : List (Hint Sum)). W (P e D T d) mode (path ++ length parts ∷ []) both_of c l in
      let two = both_say first go (w.let_parts S own x (child a₁ C A d q o) mode js (w.let_results S own x A d next js)) (w.walk S own x mode d D ann none e T s) (next + m') (counts ks) (counts ls) mid
      (each_left sums G ws (all_asked plans) (all_left sums G plans) 0 parts all a' mode path later ∙ ap (behind_asked ks) front ∙ behind_answers (told_at x) (next + m') ks mid)
      (each_says a₁ ia C A d us.1 q o a' f' mode mode (paid_front S mode (called_in a₁) (called_in e) pd) path all 0 refl js next (next + m') later mid same low front)
      (ie mode d D T ann none s both_of c (path ++ length parts ∷ []) (next + m' + counts ks) mid rest us.2 (paid_back S mode (called_in a₁) (called_in e) pd) full g refl) in
      subst (λ z. Says (and_then first go) (taking z (make o)) next taken) (sum_is a₁ C A d js)
      (take_says (and_then first go) (make o) next m' (counts (ks ++ ls)) (recount _ _ (next + m') (counts ks + counts ls) (counts (ks ++ ls)) (sym (counts_append ks ls)) two))))

  -- What calls say is a premise here.
  abbrev pub CallsSay : Type 0
  CallsSay = (k f : ℕ) (vs : List ℕ) → Walks (n.Call k f vs)

  pub walks_say : CallsSay → (e : Norm) → Walks e
  walks_say calls (n.Var k y) mode d C T q owed s a c path next hs rest us pd f g h =
      let same : types C ≡ T ∷ [] = takes_one C y T us in let K = charge S.scale mode Cells 0 in
      begun_says k mode path (size_of (types C) d) a q owed _ (λ o. rows_only (w.cover_rows S own x (types C) d q o s)) next 0 (some_position (types C) d) f (λ j a' o f'.
      only_says _ hs _ next (covers (types C) d a' (at_zero (sums.plus (sums.number K)) c) q o s (more K none) o path j f'
      (more_full (size_of (types C) d) c s none none K (subst (λ As. Full (size_of As d) c s none none) (sym same) g)) (free K o (no_cells mode))))
  walks_say calls (n.Number k i) mode d C T q owed s a c path next hs rest us pd f g h = first_says mode k d C T q owed s a c path next hs f g
  walks_say calls (n.Truth k b) mode d C T q owed s a c path next hs rest us pd f g h = first_says mode k d C T q owed s a c path next hs f g
  walks_say calls (n.Nil k) mode d C T q owed s a c path next hs rest us pd f g h = first_says mode k d C T q owed s a c path next hs f g
  walks_say calls (n.Leaf k) mode d C T q owed s a c path next hs rest us pd f g h = first_says mode k d C T q owed s a c path next hs f g
  walks_say calls (n.Nothing k) mode d C T q owed s a c path next hs rest us pd f g h = first_says mode k d C T q owed s a c path next hs f g
  walks_say calls (n.Arith k op y z) mode d C T q owed s a c path next hs rest us pd f g h = first_says mode k d C T q owed s a c path next hs f g
  walks_say calls (n.Compare k op y z) mode d C T q owed s a c path next hs rest us pd f g h = first_says mode k d C T q owed s a c path next hs f g
  walks_say calls (n.Not k y) mode d C T q owed s a c path next hs rest us pd f g h = first_says mode k d C T q owed s a c path next hs f g
  walks_say calls (n.Pair k y z) mode d C T q owed s a c path next hs rest us pd f g h = parts_say mode k d C (y ∷ z ∷ []) T q owed s a c path next hs f g
  walks_say calls (n.Cons k y z) mode d C T q owed s a c path next hs rest us pd f g h = parts_say mode k d C (y ∷ z ∷ []) T q owed s a c path next hs f g
  walks_say calls (n.Node k y z u) mode d C T q owed s a c path next hs rest us pd f g h = parts_say mode k d C (y ∷ z ∷ u ∷ []) T q owed s a c path next hs f g
  walks_say calls (n.Just k y) mode d C T q owed s a c path next hs rest us pd f g h = parts_say mode k d C (y ∷ []) T q owed s a c path next hs f g
  walks_say calls (n.Call k fn vs) mode d C T q owed s a c path next hs rest us pd f g h = calls k fn vs mode d C T q owed s a c path next hs rest us pd f g h
  walks_say calls (n.Let k y A a₁ e) mode d C T q owed s a c path next hs rest us pd f g h = lets_say mode k y d A C a₁ e T q owed s a c path next hs rest (walks_say calls a₁) (walks_say calls e) us pd f g h
  walks_say calls (n.Split k y u v e) mode d C T q owed s a c path next hs rest us pd f g h =
      moves_say mode k d C (opened y (u ∷ v ∷ []) parts_of C) e T q owed s a c path next hs rest (behind (place y C) (opens (variable_type (types C) (place y C)))) (in_place (place y C) type_parts (types C))
      (types_opened y (u ∷ v ∷ []) parts_of type_parts C (PairOf us.0 us.1) us.2 refl) (walks_say calls e) us.4 pd f g h
  walks_say calls (n.If k y a₁ e) mode d C T q owed s a c path next hs rest us pd f g h =
      forks_say mode k d C (without y C) (without y C) a₁ e T q owed s a c path next hs rest (behind (place y C) leaves) (behind (place y C) leaves) (in_place (place y C) gone (types C)) (in_place (place y C) gone (types C))
      (types_without y C) (types_without y C) (walks_say calls a₁) (walks_say calls e) us.1 us.2 pd f g h
  walks_say calls (n.CaseList k y a₁ u v e) mode d C T q owed s a c path next hs rest us pd f g h =
      forks_say mode k d C (without y C) (opened y (u ∷ v ∷ []) parts_of C) a₁ e T q owed s a c path next hs rest (behind (place y C) leaves) (behind (place y C) (opens (variable_type (types C) (place y C))))
      (in_place (place y C) gone (types C)) (in_place (place y C) type_parts (types C)) (types_without y C) (types_opened y (u ∷ v ∷ []) parts_of type_parts C (ListOf us.0) us.1 refl)
      (walks_say calls a₁) (walks_say calls e) us.3 us.4 pd f g h
  walks_say calls (n.CaseTree k y a₁ u v z e) mode d C T q owed s a c path next hs rest us pd f g h =
      forks_say mode k d C (without y C) (opened y (u ∷ v ∷ z ∷ []) parts_of C) a₁ e T q owed s a c path next hs rest (behind (place y C) leaves) (behind (place y C) (opens (variable_type (types C) (place y C))))
      (in_place (place y C) gone (types C)) (in_place (place y C) type_parts (types C)) (types_without y C) (types_opened y (u ∷ v ∷ z ∷ []) parts_of type_parts C (TreeOf us.0) us.1 refl)
      (walks_say calls a₁) (walks_say calls e) us.3 us.4 pd f g h
  walks_say calls (n.CaseOption k y a₁ u e) mode d C T q owed s a c path next hs rest us pd f g h =
      forks_say mode k d C (without y C) (opened y (u ∷ []) parts_of C) a₁ e T q owed s a c path next hs rest (behind (place y C) leaves) (behind (place y C) (opens (variable_type (types C) (place y C))))
      (in_place (place y C) gone (types C)) (in_place (place y C) type_parts (types C)) (types_without y C) (types_opened y (u ∷ []) parts_of type_parts C (OptionOf us.0) us.1 refl)
      (walks_say calls a₁) (walks_say calls e) us.3 us.4 pd f g h
  walks_say calls (n.Tick k l e) mode d C T q owed s a c path next hs rest us pd f g h = ticks_say mode k l d C e T q owed s a c path next hs rest (walks_say calls e) us pd f g h
  walks_say calls (n.Share k y u v e) mode d C T q owed s a c path next hs rest us pd f g h =
      shares_say mode k y u v d C e T q owed s a c path next hs rest (types_opened y (u ∷ v ∷ []) copies_of twice C us.0 us.1 refl) (walks_say calls e) us.3 pd f g h
  walks_say calls (n.Drop k y e) mode d C T q owed s a c path next hs rest us pd f g h =
      moves_say mode k d C (without y C) e T q owed s a c path next hs rest (behind (place y C) leaves) (in_place (place y C) gone (types C)) (types_without y C) (walks_say calls e) us.2 pd f g h
