-- The loop of the solver, step by step.
use Rattle.std.proofs.Common.{◌≡◌, ◌≢◌, refl, sym, ap, subst, ◌∙◌, ℕ, zero, suc, ◌+◌, ◌*◌, ◌^◌, ◌<◌, ◌≤◌, ℤ, pos, neg_ℤ, unsigned_abs, ◌*ℤ◌, ◌≤ℤ◌, ◌<ℤ◌, arith, List, [], ◌∷◌, ◌++◌, length, take, set, Option, Some, None, Result, Ok, Err, IfOk, drop, ◌⊎◌, inl, inr}
use Rattle.std.proofs.lemmas.Int.{ints, unsigned_abs-mul}
use Rattle.std.specs.declared.alloc.AllocError.{AllocError}
use Rattle.frac128.specs.declared.Frac.{Frac}
use Rattle.frac128.specs.Nought.{nought}
use Rattle.simplex_rows.specs.Entries.{Entries, at}
use Rattle.linear_rows.specs.Systems.{LinearSystem, IsSystem}
use Rattle.simplex_spec.specs.Places.{row_at}
use Rattle.simplex_spec.specs.Places as places
use Rattle.simplex_spec.specs.Tableaux.{Tableau, right, opening, pivot, entry, compared}
use Rattle.simplex_spec.specs.Refusals.{least_number, Refused, InSearch, InExitingRow, InProduct, InDifference}
use Rattle.simplex_spec.specs.Courses.{Rule, Enters, Leads, Course, Ends, Rises, Follows, FollowsFrom, Answers, Refuses, AtPivot}
use Rattle.simplex_spec.proofs.Opening.{length-opened}
use Rattle.simplex_spec.proofs.Ending.{Good, good_course}
use Rattle.simplex_spec.proofs.Agreeing.{course_ends}
use Rattle.simplex.specs.Standing.{Stands, RowStands, RowsStand, IsPivoted, PivotLeaves, entries_at}
use Rattle.simplex.specs.Ties.{IsBounding, IsExiting, SearchLeaves}
use Rattle.simplex.specs.Choosing.{Chooses}
use Rattle.simplex.specs.Reading.{AreOver, AreOf, frac_at}
use Rattle.simplex.specs.declared.fault.Fault.{Fault}
use Rattle.simplex.specs.declared.table.Table.{Table}
use Rattle.simplex.specs.declared.solver.Step.{Step}
use Rattle.simplex.specs.declared.solver.Step.TheVariants as step
use Rattle.simplex.specs.Solving.{rule_over, IsAfter, Reached, ReachedEnd, ReachedRise, Bounds, IsMade, MakingLeaves, Searching, Pivoting, IsStep, IsCut, Below}
use lib.ListN.{length-append}
use Rattle.simplex.proofs.Narrowing.{same_sign, sign_back}
use Rattle.simplex.proofs.Lifting.{stands_with}
use Rattle.simplex.proofs.Opens.{at_take}
use Rattle.simplex.proofs.Steps.{entry_in, entry_last, steps, pivot_faults, search_faults}

-- a course's last pivot is by the rule
follows_on : (rule : Rule) (s : LinearSystem) (t : Tableau) (ps : List (ℕ × ℕ)) (u : Tableau) (l c : ℕ) → Leads s t ps u → FollowsFrom rule s t ps → Answers rule s u c → FollowsFrom rule s t (ps ++ (l, c) ∷ [])
follows_on rule s t [] u l c e f a = (subst (λ (v : Tableau). Answers rule s v c) (sym e) a, tt)
follows_on rule s t (p ∷ ps) u l c h f a = (f.0, follows_on rule s (pivot p.0 p.1 t) ps u l c h.1 f.1 a)

-- no fraction is the least number
too_far : (m : ℤ) (N d : ℕ) → unsigned_abs m < N → 0 < d → m *ℤ pos 1 ≡ neg_ℤ (pos N) *ℤ pos d → ⊥
too_far m N zero h p e = absurd (omega arith)
too_far m N (suc d) h p e =
    let a : unsigned_abs m * 1 ≡ unsigned_abs (neg_ℤ (pos N)) * suc d = sym (unsigned_abs-mul m (pos 1)) ∙ ap unsigned_abs e ∙ unsigned_abs-mul (neg_ℤ (pos N)) (pos (suc d)) in
    let b : unsigned_abs (neg_ℤ (pos N)) ≡ N = grind (arith, ints) in
    let c : N * suc d ≡ N + N * d = grind arith in
    let f : unsigned_abs m * 1 ≡ N * suc d = a ∙ ap (λ (z : ℕ). z * suc d) b in
    let g : unsigned_abs m * 1 ≡ unsigned_abs m = grind arith in
    omega arith

in_range : (n : ℤ) (x : Frac) → Stands (pos 1) n x → n ≢ least_number
in_range n x s e = too_far x.num (2 ^ 127) x.den x.lowest.small x.lowest.positive (s.is ∙ ap (λ (z : ℤ). z *ℤ pos x.den) e)

past_rows : (rows : List (List ℤ)) (gains : List ℤ) (i : ℕ) → length rows < i → row_at (rows ++ gains ∷ []) i ≡ []
past_rows [] gains zero h = absurd (omega arith)
past_rows [] gains (suc i) h = refl
past_rows (r ∷ rows) gains zero h = absurd (omega arith)
past_rows (r ∷ rows) gains (suc i) h = past_rows rows gains i (omega arith)

three_ways : (i n : ℕ) → (i < n) ⊎ (i ≡ n) ⊎ (n < i)
three_ways i n = grind arith

zero_is_not_least : pos 0 ≡ least_number → ⊥
zero_is_not_least e = in_range (pos 0) nought (record { is = refl }) e

pub opening_course : (s : LinearSystem) (rows : List Entries) (gains : Entries) → RowsStand (opening s) rows → RowStands (pos 1) (opening s).gains gains → Course s [] (opening s)
opening_course s rows gains r g = record {
  opens = λ i c. elim (three_ways i (length (opening s).rows)) [
    | inl h ↦ in_range (entry (opening s) i c) (at c (entries_at rows i)) (subst (λ (z : ℤ). Stands (pos 1) z (at c (entries_at rows i))) (sym (entry_in (opening s) i c h)) ((r.each i h).each c))
    | inr k ↦ elim k [
      | inl e ↦ in_range (entry (opening s) i c) (at c gains) (subst (λ (z : ℤ). Stands (pos 1) z (at c gains)) (sym (entry_last (opening s) i c e)) (g.each c))
      | inr h ↦ λ e. zero_is_not_least (sym (ap (λ (row : List ℤ). places.at row c) (past_rows (opening s).rows (opening s).gains i h)) ∙ e)
    ]
  ];
  leads = refl;
}

pub opening_after : (s : LinearSystem) (rows : List Entries) (gains : Entries) → RowsStand (opening s) rows → RowStands (pos 1) (opening s).gains gains → IsAfter s [] (opening s).basis rows gains (opening s)
opening_after s rows gains r g = record { course = opening_course s rows gains r g; stand = record { rows_stand = r; gains_stand = g }; basis_is = refl; height = r.count ∙ length-opened s }

pub refused_inside : (s : LinearSystem) (t : Tableau) (e i c : ℕ) → Refused s t e i c → i ≤ length t.rows
refused_inside s t e i c (InSearch w n) = let h = w.tied.inside in omega arith
refused_inside s t e i c (InExitingRow w n) = let h = w.inside in omega arith
refused_inside s t e i c (InProduct l w n h there k) = h
refused_inside s t e i c (InDifference l w n h d) = h

-- the gains before the right side, as the rule sees them
length-take : (xs : List ℤ) (n : ℕ) → n ≤ length xs → length (take n xs) ≡ n
length-take xs zero h = refl
length-take [] (suc n) h = absurd (omega arith)
length-take (x ∷ xs) (suc n) h = ap suc (length-take xs n (omega arith))

module _ (s : LinearSystem) (system : IsSystem s) (pivots : List (ℕ × ℕ)) (basis : List ℕ) (rows : List Entries) (gains : Entries) (t : Tableau) (after : IsAfter s pivots basis rows gains t) where
  good : Good s t
  good = good_course s pivots t system after.course

  pub gains_seen : (fs : List Frac) → AreOf (right s) gains fs → AreOver t.over (take (right s) t.gains) fs
  gains_seen fs h =
      let long : length (take (right s) t.gains) ≡ right s = length-take t.gains (right s) (let w = good.sound.gains_wide in omega arith) in
      record {
        count = h.count ∙ sym long;
        each = λ i q. let q' : i < right s = omega arith in
            subst (λ (n : ℤ). Stands t.over n (frac_at fs i)) (sym (at_take t.gains (right s) i q'))
            (stands_with t.over (places.at t.gains i) (at i gains) (frac_at fs i) (h.nums i q') (h.dens i q') (after.stand.gains_stand.each i));
      }

  module _ (answers : List Frac → Option ℕ → Type 0) (chooses : Chooses answers) (fs : List Frac) (h : AreOf (right s) gains fs) where
    pub answers_so : (c : ℕ) → answers fs (Some c) → Answers (rule_over answers) s t c
    answers_so c a = (fs, gains_seen fs h, a)

    pub enters_so : (c : ℕ) → answers fs (Some c) → Enters s t c
    enters_so c a =
        let k = chooses.some fs c a in
        let b : c < right s = (let n = h.count in let m = k.0 in omega arith) in
        let p : pos 0 <ℤ (at c gains).num = subst (λ (v : ℤ). pos 0 <ℤ v) (h.nums c b) k.1 in
        record { before = b; gain = same_sign (at c gains).num t.over (places.at t.gains c) (at c gains).den good.sound.positive (after.stand.gains_stand.each c).is (at c gains).lowest.positive p }

    pub ends_so : answers fs None → Ends s pivots t
    ends_so a = record {
      course = after.course;
      none = λ c b.
          let k : (at c gains).num ≤ℤ pos 0 = subst (λ (v : ℤ). v ≤ℤ pos 0) (h.nums c b) (chooses.none fs a c (let n = h.count in omega arith)) in
          not_positive (places.at t.gains c) (λ p. let q : pos 0 <ℤ (at c gains).num = sign_back (at c gains).num t.over (places.at t.gains c) (at c gains).den good.sound.positive (after.stand.gains_stand.each c).is (at c gains).lowest.positive p in omega (arith, ints));
    }
      where
        not_positive : (z : ℤ) → (pos 0 <ℤ z → ⊥) → z ≤ℤ pos 0
        not_positive z n = grind (arith, ints)

  pub rises_so : (c : ℕ) → Enters s t c → ((i : ℕ) → IsBounding c rows i → ⊥) → Rises s pivots t c
  rises_so c e none = record {
    course = after.course;
    enters = e;
    none = λ i q. not_positive (places.at (row_at t.rows i) c) (λ p. none i (record {
      inside = (let n = after.stand.rows_stand.count in omega arith);
      positive = sign_back (at c (entries_at rows i)).num t.over (places.at (row_at t.rows i) c) (at c (entries_at rows i)).den good.sound.positive ((after.stand.rows_stand.each i q).each c).is (at c (entries_at rows i)).lowest.positive p;
    }));
  }
    where
      not_positive : (z : ℤ) → (pos 0 <ℤ z → ⊥) → z ≤ℤ pos 0
      not_positive z n = grind (arith, ints)

  pub bounds_so : (c i : ℕ) → IsBounding c rows i → Bounds t c i
  bounds_so c i b =
      let inside : i < length t.rows = (let n = after.stand.rows_stand.count in let h = b.inside in omega arith) in
      record {
        inside = inside;
        positive = same_sign (at c (entries_at rows i)).num t.over (places.at (row_at t.rows i) c) (at c (entries_at rows i)).den good.sound.positive ((after.stand.rows_stand.each i inside).each c).is (at c (entries_at rows i)).lowest.positive b.positive;
      }

  pub after_pivot : (l c : ℕ) (new : List Entries) (new_gains : Entries) → Enters s t c → IsExiting (compared s) c rows l → IsPivoted l c rows gains new new_gains → IsAfter s (pivots ++ (l, c) ∷ []) (set basis l c) new new_gains (pivot l c t)
  after_pivot l c new new_gains e leaving made =
      let r = steps s pivots t c rows gains l new new_gains system after.course after.stand e leaving made in
      record { course = r.0; stand = r.1; basis_is = ap (λ (bs : List ℕ). set bs l c) after.basis_is; height = made.rows_swept.count ∙ after.height }

  pub follows_pivot : (rule : Rule) (l c : ℕ) → Follows rule s pivots → Answers rule s t c → Follows rule s (pivots ++ (l, c) ∷ [])
  follows_pivot rule l c f a = follows_on rule s (opening s) pivots t l c after.course.leads f a

  inside_height : (e i c : ℕ) → Refused s t e i c → i ≤ s.unknowns
  inside_height e i c r = let q = refused_inside s t e i c r in let n = after.stand.rows_stand.count in let m = after.height in omega arith

  pub search_refused : (c i k : ℕ) → SearchLeaves (compared s) c rows i k → Refused s t c i k × (i ≤ s.unknowns)
  search_refused c i k w = let r = search_faults s pivots t c rows gains i k system after.course after.stand w in (r, inside_height c i k r)

  pub pivot_refused_at : (c l i k : ℕ) → IsExiting (compared s) c rows l → PivotLeaves l c rows gains i k → Refused s t c i k × (i ≤ s.unknowns)
  pivot_refused_at c l i k leaving w = let r = pivot_faults s pivots t c rows gains l i k system after.course after.stand leaving w in (r, inside_height c i k r)

  pub fewer : length pivots < 2 ^ right s
  fewer = course_ends s pivots t system after.course

-- what comes of a step
module _ (answers : List Frac → Option ℕ → Type 0) (chooses : Chooses answers) (s : LinearSystem) (system : IsSystem s) (table : Table) (r : Reached (rule_over answers) s table)
    (fs : List Frac) (h : AreOf (right s) table.gains fs) where
  pub reaches_end : answers fs None → ReachedEnd (rule_over answers) s table
  reaches_end a = record { reached = r; ends = ends_so s system table.pivots.items table.basis.items table.rows.items table.gains r.t r.after answers chooses fs h a }

  module _ (c : ℕ) (a : answers fs (Some c)) where
    enters : Enters s r.t c
    enters = enters_so s system table.pivots.items table.basis.items table.rows.items table.gains r.t r.after answers chooses fs h c a

    by_rule : Answers (rule_over answers) s r.t c
    by_rule = answers_so s system table.pivots.items table.basis.items table.rows.items table.gains r.t r.after answers chooses fs h c a

    pub is_cut : (m i : ℕ) → length table.pivots.items ≡ m → IsBounding c table.rows.items i → IsCut (rule_over answers) s m table.pivots.items
    is_cut m i e b = record {
      t = r.t;
      column = c;
      course = r.after.course;
      follows = r.follows;
      count = e;
      enters = enters;
      answers = by_rule;
      row = i;
      bounds = bounds_so s system table.pivots.items table.basis.items table.rows.items table.gains r.t r.after c i b;
    }

    pub reaches_rise : ((i : ℕ) → IsBounding c table.rows.items i → ⊥) → ReachedRise (rule_over answers) s table c
    reaches_rise none = record { reached = r; rises = rises_so s system table.pivots.items table.basis.items table.rows.items table.gains r.t r.after c enters none; answers = by_rule }

    pub making_refuses : (i k : ℕ) → MakingLeaves s c table i k → Refuses (rule_over answers) s table.pivots.items i k × (i ≤ s.unknowns)
    making_refuses i k (Searching w) =
        let q = search_refused s system table.pivots.items table.basis.items table.rows.items table.gains r.t r.after c i k w in
        (AtPivot r.t c r.after.course r.follows enters by_rule q.0, q.1)
    making_refuses i k (Pivoting l leaving w) =
        let q = pivot_refused_at s system table.pivots.items table.basis.items table.rows.items table.gains r.t r.after c l i k leaving w in
        (AtPivot r.t c r.after.course r.follows enters by_rule q.0, q.1)

    pub made_reaches : (new : Table) → IsMade s c table new → Reached (rule_over answers) s new
    made_reaches new m = record {
      t = pivot m.row c r.t;
      after = rw (m.basis_is, m.pivots_are) (after_pivot s system table.pivots.items table.basis.items table.rows.items table.gains r.t r.after m.row c new.rows.items new.gains enters m.exits m.pivoted);
      follows = subst (Follows (rule_over answers) s) (sym m.pivots_are) (follows_pivot s system table.pivots.items table.basis.items table.rows.items table.gains r.t r.after (rule_over answers) m.row c r.follows by_rule);
    }

pub one_longer : (ps : List (ℕ × ℕ)) (p : ℕ × ℕ) → length (ps ++ p ∷ []) ≡ length ps + 1
one_longer ps p = length-append ps (p ∷ [])

-- a basis column for each row
pub basis_long : (rule : Rule) (s : LinearSystem) (table : Table) → IsSystem s → Reached rule s table → length table.basis.items ≡ length table.rows.items
basis_long rule s table system r =
    let g = good_course s table.pivots.items r.t system r.after.course in
    ap length (sym r.after.basis_is) ∙ sym g.sound.one_each ∙ sym r.after.stand.rows_stand.count

-- a step that was stopped
pub stops : (rule : Rule) (s : LinearSystem) (most : Option ℕ) (old new : Table) (fault : Fault) (r : Result Step AllocError) → ((i k : ℕ) → fault ≡ Fault.Leaves i k → Refuses rule s new.pivots.items i k × Below most (length new.pivots.items))
    → IfOk r (λ x. (i : ℕ) × (c : ℕ) × (fault ≡ Fault.Leaves i c) × (x ≡ step.Leaves i c)) → IfOk r (IsStep rule s most old new)
stops rule s most old new fault (Ok x) f p = subst (IsStep rule s most old new) (sym p.3) (f p.0 p.1 p.2)
stops rule s most old new fault (Err e) f p = tt

-- what is written back
module _ {X : Type 0} where
  take_all : (xs : List X) (n : ℕ) → n ≡ length xs → take n (xs ++ []) ≡ xs
  take_all [] zero e = refl
  take_all [] (suc n) e = absurd (omega arith)
  take_all (x ∷ xs) zero e = absurd (omega arith)
  take_all (x ∷ xs) (suc n) e = ap (λ (ys : List X). x ∷ ys) (take_all xs n (omega arith))

  drop_all : (xs : List X) (n : ℕ) → length xs ≤ n → drop n xs ≡ []
  drop_all [] zero h = refl
  drop_all [] (suc n) h = refl
  drop_all (x ∷ xs) zero h = absurd (omega arith)
  drop_all (x ∷ xs) (suc n) h = drop_all xs n (omega arith)

  pub written_back : (n : ℕ) (old new : List X) → n ≡ length old → length new ≡ length old → take n (new ++ drop (length new) old) ≡ new
  written_back n old new e f = ap (λ (ys : List X). take n (new ++ ys)) (drop_all old (length new) (omega arith)) ∙ take_all new n (e ∙ sym f)

pub if_ok : {A E : Type 0} (r : Result A E) (P Q : A → Type 0) → ((x : A) → P x → Q x) → IfOk r P → IfOk r Q
if_ok (Ok x) P Q f p = f x p
if_ok (Err e) P Q f p = tt
