-- Where all that is computed fits, no place comes.
use Rattle.std.proofs.Common.{◌≤◌, ◌≡◌, ◌<◌, ⊎_elim, ℕ, zero, suc, ℤ, pos, ◌*ℤ◌, ◌<ℤ◌, List, [], ◌∷◌, ◌++◌, map, take, length, slice_index_or, Option, None, refl, sym, ap, ◌∙◌, subst, arith}
use Rattle.linear_rows.specs.Systems.{LinearSystem, IsSystem}
use Rattle.linear_rows.specs.Vectors.{scale}
use Rattle.simplex_spec.specs.Courses.{rule_by}
use Rattle.simplex_spec.specs.Laws.{OneCourse}
use Rattle.simplex_spec.specs.Tableaux.{Tableau, solution, dual, ray}
use Rattle.simplex_spec.proofs.Ending.{good_course}
use Rattle.simplex_spec.proofs.Agreeing.{not_both}
use Rattle.farkas_check.specs.declared.Verdict.TheVariants.{Leaves}
use Rattle.farkas_check.specs.Checks.{Check, EachPasses, IsFirstFault}
use Rattle.cost_free.specs.Task.{Task}
use Rattle.simplex_integers.specs.Wholes.{most, AreLeastWholes, ScaleLeaves, InDenominator, InNumber}
use Rattle.infer_spec.specs.States.{State}
use Rattle.infer_spec.specs.Generator.{What, Analysis, limit_at, system_at}
use Rattle.simplex_integers.specs.Reading.{ReadsBoth, ReadsVector, Read, Both, Vector, BothAreFine, ArePassed, VectorIsFine, IsPassed}
use Rattle.infer_spec.specs.Places as p
use Rattle.infer_spec.specs.Places.{Place, RescaleLeaves, stage, rule_of, Comes}
use Rattle.infer_spec.specs.Clear.{RowsAreFine, IsSolvedFine, FineIsClear, SeenIsFirst}
use Rattle.infer_spec.proofs.Single.{one_whole, one_solution, one_vector, never_both}
use Rattle.annot_types.proofs.Lists.{some_none}

-- a list of checks that pass has no first fault
pub none_leaves : (ks : List Check) (column : ℕ) → EachPasses ks → IsFirstFault ks (Leaves column) → ⊥
none_leaves [] column h f = f
none_leaves (k ∷ ks) column h f = ⊎_elim (λ g. g.1 h.0.fit) (λ g. none_leaves ks column h.1 g.1) f

take_scale : (t : ℤ) (ns : List ℤ) (n : ℕ) → scale t (take n ns) ≡ take n (scale t ns)
take_scale t ns zero = refl
take_scale t [] (suc n) = refl
take_scale t (m ∷ ns) (suc n) = λ i. (t *ℤ m) ∷ take_scale t ns n i

take_natural : (xs : List ℕ) (n : ℕ) → map pos (take n xs) ≡ take n (map pos xs)
take_natural xs zero = refl
take_natural [] (suc n) = refl
take_natural (x ∷ xs) (suc n) = λ i. pos x ∷ take_natural xs n i

-- numbers that fit over their least denominator, which fits, leave at no entry
pub none_scale : (d : ℤ) → pos 0 <ℤ d → (ns : List ℤ) (t : ℕ) (xs : List ℕ) → AreLeastWholes d ns t xs → t < most →
    ((i : ℕ) → slice_index_or xs i 0 < most) → (entry : ℕ) → ScaleLeaves d ns entry → ⊥
none_scale d pd ns t xs h low each entry (InDenominator inside u v ys zs a big b small) =
    let over = take_scale (pos t) ns (suc entry) ∙ ap (take (suc entry)) h.are.over ∙ sym (ap (scale d) (take_natural xs (suc entry)) ∙ take_scale d (map pos xs) (suc entry)) in
    let le = a.least t (take (suc entry) xs) (record { positive = h.are.positive; over = over }) in
    absurd (omega (arith, le, big, low))
none_scale d pd ns t xs h low each entry (InNumber u ys a small big before) =
    let same = one_whole d pd ns t u xs ys h a in
    let here = each entry in
    let there : slice_index_or xs entry 0 ≡ slice_index_or ys entry 0 = ap (λ zs. slice_index_or zs entry 0) same.1 in
    absurd (omega (arith, here, there, big))

split : (a b c d : List ℕ) → length a ≡ length c → a ++ b ≡ c ++ d → (a ≡ c) × (b ≡ d)
split [] b [] d e h = (refl, h)
split [] b (z ∷ c) d e h = absurd (omega (arith, e))
split (x ∷ a) b [] d e h = absurd (omega (arith, e))
split (x ∷ a) b (z ∷ c) d e h =
    let rest = split a b c d (omega (arith, e)) (tail x z (a ++ b) (c ++ d) h) in
    (λ i. head x z (a ++ b) (c ++ d) h i ∷ rest.0 i, rest.1)
  where
    head : (x z : ℕ) (a c : List ℕ) → x ∷ a ≡ z ∷ c → x ≡ z
    head x z a c h = cc

    tail : (x z : ℕ) (a c : List ℕ) → x ∷ a ≡ z ∷ c → a ≡ c
    tail x z a c h = cc

module _ (paths : OneCourse) (pick : List ℤ → ℤ → Option ℕ) (s : LinearSystem) (system : IsSystem s) where
  both_positive : (t : ℕ) (x y : List ℕ) (h : ReadsBoth (rule_by pick) s t x y) → pos 0 <ℤ h.table.over
  both_positive t x y h = let good = good_course s h.pivots h.table system h.ends.course in good.sound.positive

  vector_positive : (y : List ℕ) (h : ReadsVector (rule_by pick) s y) → pos 0 <ℤ h.table.over
  vector_positive y h = let good = good_course s h.pivots h.table system h.rises.course in good.sound.positive

  one_both : (t u : ℕ) (x y z w : List ℕ) → ReadsBoth (rule_by pick) s t x y → ReadsBoth (rule_by pick) s u z w → (t ≡ u) × ((x ≡ z) × (y ≡ w))
  one_both t u x y z w h k =
      let same = paths.one_end pick s h.pivots k.pivots h.table k.table system h.ends h.follows k.ends k.follows in
      let wholes = one_whole h.table.over (both_positive t x y h) (solution s h.table ++ dual s h.table) t u (x ++ y) (z ++ w) h.whole
      (subst (λ (v : Tableau). AreLeastWholes v.over (solution s v ++ dual s v) u (z ++ w)) (sym same.1) k.whole) in
      (wholes.0, split x y z w (h.unknowns ∙ sym k.unknowns) wholes.1)

  -- of an end, this is what is read for the check
  both_scale : (t : ℕ) (x y : List ℕ) → ReadsBoth (rule_by pick) s t x y → t < most → ((i : ℕ) → slice_index_or (x ++ y) i 0 < most) →
      (d : ℤ) (ns : List ℤ) → Read (rule_by pick) s d ns → (entry : ℕ) → ScaleLeaves d ns entry → ⊥
  both_scale t x y h low each d ns (Both ps v ends follows is are) entry leaves =
      let same = paths.one_end pick s h.pivots ps h.table v system h.ends h.follows ends follows in
      let place : ScaleLeaves h.table.over (solution s h.table ++ dual s h.table) entry =
      subst (λ (w : Tableau). ScaleLeaves w.over (solution s w ++ dual s w) entry) (sym same.1)
      (subst (λ n. ScaleLeaves n (solution s v ++ dual s v) entry) is (subst (λ l. ScaleLeaves d l entry) are leaves)) in
      none_scale h.table.over (both_positive t x y h) (solution s h.table ++ dual s h.table) t (x ++ y) h.whole low each entry place
  both_scale t x y h low each d ns (Vector ps v c rises follows answers is are) entry leaves = not_both s h.pivots ps h.table v c system h.ends rises

  pub vector_scale : (y : List ℕ) (h : ReadsVector (rule_by pick) s y) → h.t < most → ((i : ℕ) → slice_index_or y i 0 < most) →
      (d : ℤ) (ns : List ℤ) → Read (rule_by pick) s d ns → (entry : ℕ) → ScaleLeaves d ns entry → ⊥
  vector_scale y h low each d ns (Both ps v ends follows is are) entry leaves = not_both s ps h.pivots v h.table h.column system ends h.rises
  vector_scale y h low each d ns (Vector ps v c rises follows answers is are) entry leaves =
      let same = paths.one_rise pick s h.pivots ps h.table v h.column c system h.rises h.follows h.answers rises follows answers in
      let place : ScaleLeaves h.table.over (ray s h.column h.table) entry =
      subst (λ k. ScaleLeaves h.table.over (ray s k h.table) entry) (sym same.2)
      (subst (λ (w : Tableau). ScaleLeaves w.over (ray s c w) entry) (sym same.1)
      (subst (λ n. ScaleLeaves n (ray s c v) entry) is (subst (λ l. ScaleLeaves d l entry) are leaves))) in
      none_scale h.table.over (vector_positive y h) (ray s h.column h.table) h.t y h.whole low each entry place

-- where no place of an earlier stage comes
record NoneBefore (A : Analysis) (st : State) (task : Task) (n : ℕ) : Type 0 where
  large : 0 < n → (what : What) → Comes A st task (p.TooLarge what) → ⊥
  row : 1 < n → (i : ℕ) → Comes A st task (p.Row i) → ⊥
  solve : 2 < n → (ps : List (ℕ × ℕ)) (i c : ℕ) → Comes A st task (p.Solve ps i c) → ⊥
  scaled : 3 < n → (e : ℕ) → Comes A st task (p.Scale e) → ⊥
  refute : 4 < n → (c : ℕ) → Comes A st task (p.Refute c) → ⊥
  least : 4 < n → (c : ℕ) → Comes A st task (p.Least c) → ⊥
  rescale : 5 < n → (k : ℕ) → Comes A st task (p.Rescale k) → ⊥

none_comes : (A : Analysis) (st : State) (task : Task) (n : ℕ) → NoneBefore A st task n → (q : Place) → stage q < n → Comes A st task q → ⊥
none_comes A st task n h (p.TooLarge what) l c = h.large l what c
none_comes A st task n h (p.Row i) l c = h.row l i c
none_comes A st task n h (p.Solve ps i k) l c = h.solve l ps i k c
none_comes A st task n h (p.Scale e) l c = h.scaled l e c
none_comes A st task n h (p.Refute k) l c = h.refute l k c
none_comes A st task n h (p.Least k) l c = h.least l k c
none_comes A st task n h (p.Rescale k) l c = h.rescale l k c

stage_low : (q : Place) → stage q < 6
stage_low (p.TooLarge what) = omega arith
stage_low (p.Row i) = omega arith
stage_low (p.Solve ps i k) = omega arith
stage_low (p.Scale e) = omega arith
stage_low (p.Refute k) = omega arith
stage_low (p.Least k) = omega arith
stage_low (p.Rescale k) = omega arith

module _ (paths : OneCourse) (A : Analysis) (st : State) (task : Task) where
  never : {X : Type 0} (m n : ℕ) → n ≤ m → m < n → X
  never m n h l = absurd (omega (arith, h, l))

  no_limit : RowsAreFine A st task → (what : What) → Comes A st task (p.TooLarge what) → ⊥
  no_limit r what c = some_none what (limit_at A st task) c r.limit

  no_row : RowsAreFine A st task → (i : ℕ) → Comes A st task (p.Row i) → ⊥
  no_row r i c = c.leaves (r.fit i c.row c.there)

  no_solve : RowsAreFine A st task → (d : ℤ) (ns : List ℤ) → Read (rule_of A) (system_at A st task) d ns → (ps : List (ℕ × ℕ)) (i k : ℕ) → Comes A st task (p.Solve ps i k) → ⊥
  no_solve r d ns (Both qs t ends follows is are) ps i k c = paths.end_or_refusal A.pick (system_at A st task) qs ps t i k r.system ends follows c
  no_solve r d ns (Vector qs t e rises follows answers is are) ps i k c = paths.rise_or_refusal A.pick (system_at A st task) qs ps t e i k r.system rises follows answers c

  solve_both : RowsAreFine A st task → (t : ℕ) (x y : List ℕ) → ReadsBoth (rule_of A) (system_at A st task) t x y → (ps : List (ℕ × ℕ)) (i k : ℕ) → Comes A st task (p.Solve ps i k) → ⊥
  solve_both r t x y h = no_solve r _ _ (Both h.pivots h.table h.ends h.follows refl refl)

  solve_vector : RowsAreFine A st task → (y : List ℕ) → ReadsVector (rule_of A) (system_at A st task) y → (ps : List (ℕ × ℕ)) (i k : ℕ) → Comes A st task (p.Solve ps i k) → ⊥
  solve_vector r y h = no_solve r _ _ (Vector h.pivots h.table h.column h.rises h.follows h.answers refl refl)

  scale_both : RowsAreFine A st task → (t : ℕ) (x y : List ℕ) → BothAreFine (rule_of A) (system_at A st task) t x y → (e : ℕ) → Comes A st task (p.Scale e) → ⊥
  scale_both r t x y h e c = both_scale paths A.pick (system_at A st task) r.system t x y h.both h.denominator h.numbers c.0 c.1 c.2 e c.3

  scale_vector : RowsAreFine A st task → (y : List ℕ) → VectorIsFine (rule_of A) (system_at A st task) y → (e : ℕ) → Comes A st task (p.Scale e) → ⊥
  scale_vector r y h e c = vector_scale paths A.pick (system_at A st task) r.system y h.vector h.denominator h.numbers c.0 c.1 c.2 e c.3

  -- an end and a vector exclude each other
  both_or_vector : RowsAreFine A st task → (t : ℕ) (x y z : List ℕ) → ReadsBoth (rule_of A) (system_at A st task) t x y → ReadsVector (rule_of A) (system_at A st task) z → ⊥
  both_or_vector r t x y z h k = not_both (system_at A st task) h.pivots k.pivots h.table k.table k.column r.system h.ends k.rises

  no_least : RowsAreFine A st task → (t : ℕ) (x y : List ℕ) → BothAreFine (rule_of A) (system_at A st task) t x y → ArePassed (system_at A st task) t x y → (k : ℕ) → Comes A st task (p.Least k) → ⊥
  no_least r t x y h passed k c =
      let same = one_both paths A.pick (system_at A st task) r.system t c.0 x y c.1 c.2 h.both c.3 in
      none_leaves _ k (subst (λ u. ArePassed (system_at A st task) u c.1 c.2) same.0 (subst (λ z. ArePassed (system_at A st task) t z c.2) same.1.0 (subst (ArePassed (system_at A st task) t x) same.1.1 passed))) c.4

  no_refute : RowsAreFine A st task → (y : List ℕ) → VectorIsFine (rule_of A) (system_at A st task) y → IsPassed (system_at A st task) y → (k : ℕ) → Comes A st task (p.Refute k) → ⊥
  no_refute r y h passed k c = none_leaves _ k (subst (IsPassed (system_at A st task)) (one_vector paths A.pick (system_at A st task) r.system y c.0 h.vector c.1) passed) c.2

  solved : RowsAreFine A st task → (t : ℕ) (x : List ℕ) → IsSolvedFine A st task t x → NoneBefore A st task 6
  solved r t x h = record {
    large = λ l. no_limit r;
    row = λ l. no_row r;
    solve = λ l. solve_both r h.over h.primal h.dual h.fine.both;
    scaled = λ l. scale_both r h.over h.primal h.dual h.fine;
    refute = λ l k c. both_or_vector r h.over h.primal h.dual c.0 h.fine.both c.1;
    least = λ l. no_least r h.over h.primal h.dual h.fine h.passed;
    rescale = λ l k c.
        let same = one_solution paths A.pick (system_at A st task) r.system t c.0 x c.1 h.solution c.2 in
        h.raises k (subst (λ u. RescaleLeaves task.kind u st k) (sym same.0) c.3);
  }

  refuted : RowsAreFine A st task → (y : List ℕ) → VectorIsFine (rule_of A) (system_at A st task) y → IsPassed (system_at A st task) y → NoneBefore A st task 6
  refuted r y h passed = record {
    large = λ l. no_limit r;
    row = λ l. no_row r;
    solve = λ l. solve_vector r y h.vector;
    scaled = λ l. scale_vector r y h;
    refute = λ l. no_refute r y h passed;
    least = λ l k c. both_or_vector r c.0 c.1 c.2 y c.3 h.vector;
    rescale = λ l k c. never_both paths A.pick (system_at A st task) r.system c.0 c.1 y c.2 h.vector;
  }

  none : NoneBefore A st task 0
  none = record { large = never 0 0 (omega arith); row = never 1 0 (omega arith); solve = never 2 0 (omega arith); scaled = never 3 0 (omega arith); refute = never 4 0 (omega arith); least = never 4 0 (omega arith); rescale = never 5 0 (omega arith) }

  after_limit : limit_at A st task ≡ None → NoneBefore A st task 1
  after_limit n = record { large = λ l what c. some_none what (limit_at A st task) c n; row = never 1 1 (omega arith); solve = never 2 1 (omega arith); scaled = never 3 1 (omega arith); refute = never 4 1 (omega arith); least = never 4 1 (omega arith); rescale = never 5 1 (omega arith) }

  after_rows : RowsAreFine A st task → NoneBefore A st task 2
  after_rows r = record { large = λ l. no_limit r; row = λ l. no_row r; solve = never 2 2 (omega arith); scaled = never 3 2 (omega arith); refute = never 4 2 (omega arith); least = never 4 2 (omega arith); rescale = never 5 2 (omega arith) }

  after_solve : RowsAreFine A st task → ((ps : List (ℕ × ℕ)) (i k : ℕ) → Comes A st task (p.Solve ps i k) → ⊥) → NoneBefore A st task 3
  after_solve r f = record { large = λ l. no_limit r; row = λ l. no_row r; solve = λ l. f; scaled = never 3 3 (omega arith); refute = never 4 3 (omega arith); least = never 4 3 (omega arith); rescale = never 5 3 (omega arith) }

  after_scale : RowsAreFine A st task → ((ps : List (ℕ × ℕ)) (i k : ℕ) → Comes A st task (p.Solve ps i k) → ⊥) → ((e : ℕ) → Comes A st task (p.Scale e) → ⊥) → NoneBefore A st task 4
  after_scale r f e = record { large = λ l. no_limit r; row = λ l. no_row r; solve = λ l. f; scaled = λ l. e; refute = never 4 4 (omega arith); least = never 4 4 (omega arith); rescale = never 5 4 (omega arith) }

  after_check : RowsAreFine A st task → (t : ℕ) (x y : List ℕ) → BothAreFine (rule_of A) (system_at A st task) t x y → ArePassed (system_at A st task) t x y → NoneBefore A st task 5
  after_check r t x y h passed = record {
    large = λ l. no_limit r;
    row = λ l. no_row r;
    solve = λ l. solve_both r t x y h.both;
    scaled = λ l. scale_both r t x y h;
    refute = λ l k c. both_or_vector r t x y c.0 h.both c.1;
    least = λ l. no_least r t x y h passed;
    rescale = never 5 5 (omega arith);
  }

pub fine_is_clear : OneCourse → FineIsClear
fine_is_clear paths = record {
  solved = λ A st task t x r h w q c. none_comes A st task 6 (solved paths A st task r t x h) q (stage_low q) c;
  refuted = λ A st task y r h passed w q c. none_comes A st task 6 (refuted paths A st task r y h passed) q (stage_low q) c;
}

pub seen_is_first : OneCourse → SeenIsFirst
seen_is_first paths A st task w = record {
  too_large = λ what e. record { tried = w; comes = e; first = none_comes A st task 0 (none paths A st task) };
  row = λ n i h. record { tried = w; comes = h; first = none_comes A st task 1 (after_limit paths A st task n) };
  solve = λ r ps i k h. record { tried = w; comes = h; first = none_comes A st task 2 (after_rows paths A st task r) };
  scale = λ r d ns read e h. record { tried = w; comes = (d, ns, read, h); first = none_comes A st task 3 (after_solve paths A st task r (no_solve paths A st task r d ns read)) };
  refute = λ r y h k v. record {
    tried = w;
    comes = (y, h.vector, v);
    first = none_comes A st task 4 (after_scale paths A st task r (solve_vector paths A st task r y h.vector) (scale_vector paths A st task r y h));
  };
  least = λ r t x y h k v. record {
    tried = w;
    comes = (t, x, y, h.both, v);
    first = none_comes A st task 4 (after_scale paths A st task r (solve_both paths A st task r t x y h.both) (scale_both paths A st task r t x y h));
  };
  rescale = λ r u z y h passed t x read k leaves. record { tried = w; comes = (t, x, read, leaves); first = none_comes A st task 5 (after_check paths A st task r u z y h passed) };
}
