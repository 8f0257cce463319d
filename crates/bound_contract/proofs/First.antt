-- Places are tried in one order, and by a rule that is a function one of them is seen.
use Rattle.std.proofs.Common.{◌≤◌, ◌<◌, ℕ, ℤ, List, slice_index_or, Option, None, Some, refl, sym, subst, arith}
use Rattle.std.proofs.lemmas.Option.{none-some}
use Rattle.linear_rows.specs.Systems.{LinearSystem, IsSystem}
use Rattle.simplex_spec.specs.Courses.{Refuses, rule_by}
use Rattle.simplex_spec.specs.Laws.{OneCourse}
use Rattle.simplex_spec.specs.Tableaux.{Tableau, solution, ray}
use Rattle.simplex_spec.proofs.Ending.{good_course}
use Rattle.simplex_spec.proofs.Agreeing.{not_both}
use Rattle.cost_free.specs.Task.{Task}
use Rattle.annot_types.specs.Program.{Program}
use Rattle.annot_types.specs.Certificate.{Certificate}
use Rattle.annot_types.specs.Held.{before}
use Rattle.simplex_integers.specs.Wholes.{most, ScaleLeaves}
use Rattle.simplex_integers.specs.Reading.{ReadsSolution, ReadsVector, Vector, VectorIsFine, IsPassed}
use Rattle.simplex_checked.specs.Alone.{ReadAlone, OfSolution, OfVector, SolutionFits}
use Rattle.infer_spec.proofs.Single.{one_solution, one_vector, never_both}
use Rattle.infer_spec.proofs.Clear.{none_leaves, none_scale, vector_scale as either_scale}
use Rattle.rules_systems_laws.specs.Laws.{told}
use Rattle.cert_check.specs.Fault as f
use Rattle.other_blocks.specs.Laws.{OneOtherFault}
use Rattle.bound_file.specs.Lines.{Line}
use Rattle.bound_contract.specs.Kept.{system_there}
use Rattle.bound_contract.specs.Places as p
use Rattle.bound_contract.specs.Places.{Place, RescaleLeaves, stage, Comes}
use Rattle.bound_contract.specs.Clear.{RowsFit, IsFew, AreFine, Rises, Finds, PlacesAreFirst, FineIsClear, SeenIsFirst, AllFineIsClear}

module _ (paths : OneCourse) (pick : List ℤ → ℤ → Option ℕ) (s : LinearSystem) (system : IsSystem s) where
  solution_scale : (t : ℕ) (x : List ℕ) → ReadsSolution (rule_by pick) s t x → t < most → ((i : ℕ) → slice_index_or x i 0 < most) →
      (d : ℤ) (ns : List ℤ) → ReadAlone (rule_by pick) s d ns → (entry : ℕ) → ScaleLeaves d ns entry → ⊥
  solution_scale t x h low each d ns (OfSolution ps v ends follows is are) entry leaves =
      let same = paths.one_end pick s h.pivots ps h.table v system h.ends h.follows ends follows in
      let good = good_course s h.pivots h.table system h.ends.course in
      let place : ScaleLeaves h.table.over (solution s h.table) entry =
      subst (λ (w : Tableau). ScaleLeaves w.over (solution s w) entry) (sym same.1)
      (subst (λ n. ScaleLeaves n (solution s v) entry) is (subst (λ l. ScaleLeaves d l entry) are leaves)) in
      none_scale h.table.over good.sound.positive (solution s h.table) t x h.whole low each entry place
  solution_scale t x h low each d ns (OfVector ps v c rises follows answers is are) entry leaves = not_both s h.pivots ps h.table v c system h.ends rises

  vector_scale : (y : List ℕ) (h : ReadsVector (rule_by pick) s y) → h.t < most → ((i : ℕ) → slice_index_or y i 0 < most) →
      (d : ℤ) (ns : List ℤ) → ReadAlone (rule_by pick) s d ns → (entry : ℕ) → ScaleLeaves d ns entry → ⊥
  vector_scale y h low each d ns (OfSolution ps v ends follows is are) entry leaves = not_both s ps h.pivots v h.table h.column system ends h.rises
  vector_scale y h low each d ns (OfVector ps v c rises follows answers is are) entry leaves =
      either_scale paths pick s system y h low each d ns (Vector ps v c rises follows answers is are) entry leaves

  no_refusal : (d : ℤ) (ns : List ℤ) → ReadAlone (rule_by pick) s d ns → (ps : List (ℕ × ℕ)) (i k : ℕ) → Refuses (rule_by pick) s ps i k → ⊥
  no_refusal d ns (OfSolution qs t ends follows is are) ps i k c = paths.end_or_refusal pick s qs ps t i k system ends follows c
  no_refusal d ns (OfVector qs t e rises follows answers is are) ps i k c = paths.rise_or_refusal pick s qs ps t e i k system rises follows answers c

module _ (paths : OneCourse) (one_fault : OneOtherFault) (P : Program) (c : Certificate) (place : ℕ) (task : Task) (line : Line) (pick : List ℤ → ℤ → Option ℕ)
    (system : IsSystem (system_there P c place task line)) where
  abbrev whole : LinearSystem
  whole = system_there P c place task line

  abbrev Here : Place → Type 0
  Here q = Comes P c place task line pick q

  abbrev Fine : Type 0
  Fine = AreFine P c place task line pick

  -- where no place of an earlier stage comes
  record NoneBefore (n : ℕ) : Type 0 where
    row : 0 < n → (i : ℕ) → Here (p.Row i) → ⊥
    large : 1 < n → Here p.TooLarge → ⊥
    right : 2 < n → (k : ℕ) → Here (p.Right k) → ⊥
    solve : 3 < n → (ps : List (ℕ × ℕ)) (i k : ℕ) → Here (p.Solve ps i k) → ⊥
    scaled : 4 < n → (e : ℕ) → Here (p.Scale e) → ⊥
    refute : 5 < n → (k : ℕ) → Here (p.Refute k) → ⊥
    rescale : 5 < n → (k : ℕ) → Here (p.Rescale k) → ⊥
    check : 6 < n → (path : List ℕ) (index : ℕ) → Here (p.Check path index) → ⊥

  none_comes : (n : ℕ) → NoneBefore n → (q : Place) → stage q < n → Here q → ⊥
  none_comes n h (p.Row i) l e = h.row l i e
  none_comes n h p.TooLarge l e = h.large l e
  none_comes n h (p.Right k) l e = h.right l k e
  none_comes n h (p.Solve ps i k) l e = h.solve l ps i k e
  none_comes n h (p.Scale k) l e = h.scaled l k e
  none_comes n h (p.Refute k) l e = h.refute l k e
  none_comes n h (p.Rescale k) l e = h.rescale l k e
  none_comes n h (p.Check path index) l e = h.check l path index e

  stage_low : (q : Place) → stage q < 7
  stage_low (p.Row i) = omega arith
  stage_low p.TooLarge = omega arith
  stage_low (p.Right k) = omega arith
  stage_low (p.Solve ps i k) = omega arith
  stage_low (p.Scale e) = omega arith
  stage_low (p.Refute k) = omega arith
  stage_low (p.Rescale k) = omega arith
  stage_low (p.Check path index) = omega arith

  never : {X : Type 0} (m n : ℕ) → n ≤ m → m < n → X
  never m n h l = absurd (omega (arith, h, l))

  no_row : RowsFit P c place task line pick → (i : ℕ) → Here (p.Row i) → ⊥
  no_row fit i e = e.leaves (fit i e.row e.there)

  no_large : IsFew P c place task line pick → Here p.TooLarge → ⊥
  no_large few e = omega (arith, few, e)

  no_right : Fine → (k : ℕ) → Here (p.Right k) → ⊥
  no_right fine k e = let low = fine.right k e.inside in let high = e.leaves in omega (arith, low, high)

  solution_read : (t : ℕ) (x : List ℕ) (h : ReadsSolution (rule_by pick) whole t x) → ReadAlone (rule_by pick) whole h.table.over (solution whole h.table)
  solution_read t x h = OfSolution h.pivots h.table h.ends h.follows refl refl

  vector_read : (y : List ℕ) (h : ReadsVector (rule_by pick) whole y) → ReadAlone (rule_by pick) whole h.table.over (ray whole h.column h.table)
  vector_read y h = OfVector h.pivots h.table h.column h.rises h.follows h.answers refl refl

  no_solve : (d : ℤ) (ns : List ℤ) → ReadAlone (rule_by pick) whole d ns → (ps : List (ℕ × ℕ)) (i k : ℕ) → Here (p.Solve ps i k) → ⊥
  no_solve d ns read ps i k e = no_refusal paths pick whole system d ns read ps i k e

  solution_scaled : (t : ℕ) (x : List ℕ) → SolutionFits (rule_by pick) whole t x → (k : ℕ) → Here (p.Scale k) → ⊥
  solution_scaled t x h k e = solution_scale paths pick whole system t x h.solution h.denominator h.numbers e.0 e.1 e.2 k e.3

  vector_scaled : (y : List ℕ) → VectorIsFine (rule_by pick) whole y → (k : ℕ) → Here (p.Scale k) → ⊥
  vector_scaled y h k e = vector_scale paths pick whole system y h.vector h.denominator h.numbers e.0 e.1 e.2 k e.3

  no_rescale : (t : ℕ) (x : List ℕ) → SolutionFits (rule_by pick) whole t x → Rises P c place task line pick t → (k : ℕ) → Here (p.Rescale k) → ⊥
  no_rescale t x h rises k e =
      let same = one_solution paths pick whole system t e.0 x e.1 h.solution e.2 in
      rises k (subst (λ u. RescaleLeaves P c place task line pick u k) (sym same.0) e.3)

  no_check : (t : ℕ) (x : List ℕ) → SolutionFits (rule_by pick) whole t x → Finds P c place task line pick t x None → (path : List ℕ) (index : ℕ) → Here (p.Check path index) → ⊥
  no_check t x h finds path index e =
      let same = one_solution paths pick whole system t e.0 x e.1 h.solution e.2 in
      let there = subst (λ u. Finds P c place task line pick u x (Some (f.Leaves place path index))) (sym same.0) (subst (λ z. Finds P c place task line pick e.0 z (Some (f.Leaves place path index))) (sym same.1) e.3) in
      none-some (f.Leaves place path index) (one_fault P c t (told P c.degree (before c place) task x) None (Some (f.Leaves place path index)) finds there)

  none : NoneBefore 0
  none = record {
    row = never 0 0 (omega arith);
    large = never 1 0 (omega arith);
    right = never 2 0 (omega arith);
    solve = never 3 0 (omega arith);
    scaled = never 4 0 (omega arith);
    refute = never 5 0 (omega arith);
    rescale = never 5 0 (omega arith);
    check = never 6 0 (omega arith);
  }

  after_rows : RowsFit P c place task line pick → NoneBefore 1
  after_rows fit = record {
    row = λ l. no_row fit;
    large = never 1 1 (omega arith);
    right = never 2 1 (omega arith);
    solve = never 3 1 (omega arith);
    scaled = never 4 1 (omega arith);
    refute = never 5 1 (omega arith);
    rescale = never 5 1 (omega arith);
    check = never 6 1 (omega arith);
  }

  after_count : RowsFit P c place task line pick → IsFew P c place task line pick → NoneBefore 2
  after_count fit few = record {
    row = λ l. no_row fit;
    large = λ l. no_large few;
    right = never 2 2 (omega arith);
    solve = never 3 2 (omega arith);
    scaled = never 4 2 (omega arith);
    refute = never 5 2 (omega arith);
    rescale = never 5 2 (omega arith);
    check = never 6 2 (omega arith);
  }

  after_right : Fine → NoneBefore 3
  after_right fine = record {
    row = λ l. no_row fine.fit;
    large = λ l. no_large fine.few;
    right = λ l. no_right fine;
    solve = never 3 3 (omega arith);
    scaled = never 4 3 (omega arith);
    refute = never 5 3 (omega arith);
    rescale = never 5 3 (omega arith);
    check = never 6 3 (omega arith);
  }

  after_solve : Fine → (d : ℤ) (ns : List ℤ) → ReadAlone (rule_by pick) whole d ns → NoneBefore 4
  after_solve fine d ns read = record {
    row = λ l. no_row fine.fit;
    large = λ l. no_large fine.few;
    right = λ l. no_right fine;
    solve = λ l. no_solve d ns read;
    scaled = never 4 4 (omega arith);
    refute = never 5 4 (omega arith);
    rescale = never 5 4 (omega arith);
    check = never 6 4 (omega arith);
  }

  after_scale : Fine → (d : ℤ) (ns : List ℤ) → ReadAlone (rule_by pick) whole d ns → ((k : ℕ) → Here (p.Scale k) → ⊥) → NoneBefore 5
  after_scale fine d ns read fits = record {
    row = λ l. no_row fine.fit;
    large = λ l. no_large fine.few;
    right = λ l. no_right fine;
    solve = λ l. no_solve d ns read;
    scaled = λ l. fits;
    refute = never 5 5 (omega arith);
    rescale = never 5 5 (omega arith);
    check = never 6 5 (omega arith);
  }

  after_rescale : Fine → (t : ℕ) (x : List ℕ) → SolutionFits (rule_by pick) whole t x → Rises P c place task line pick t → NoneBefore 6
  after_rescale fine t x h rises = record {
    row = λ l. no_row fine.fit;
    large = λ l. no_large fine.few;
    right = λ l. no_right fine;
    solve = λ l. no_solve _ _ (solution_read t x h.solution);
    scaled = λ l. solution_scaled t x h;
    refute = λ l k e. never_both paths pick whole system t x e.0 h.solution e.1;
    rescale = λ l. no_rescale t x h rises;
    check = never 6 6 (omega arith);
  }

  kept_clear : Fine → (t : ℕ) (x : List ℕ) → SolutionFits (rule_by pick) whole t x → Rises P c place task line pick t → Finds P c place task line pick t x None → NoneBefore 7
  kept_clear fine t x h rises finds = record {
    row = λ l. no_row fine.fit;
    large = λ l. no_large fine.few;
    right = λ l. no_right fine;
    solve = λ l. no_solve _ _ (solution_read t x h.solution);
    scaled = λ l. solution_scaled t x h;
    refute = λ l k e. never_both paths pick whole system t x e.0 h.solution e.1;
    rescale = λ l. no_rescale t x h rises;
    check = λ l. no_check t x h finds;
  }

  vector_clear : Fine → (y : List ℕ) → VectorIsFine (rule_by pick) whole y → IsPassed whole y → NoneBefore 7
  vector_clear fine y h passed = record {
    row = λ l. no_row fine.fit;
    large = λ l. no_large fine.few;
    right = λ l. no_right fine;
    solve = λ l. no_solve _ _ (vector_read y h.vector);
    scaled = λ l. vector_scaled y h;
    refute = λ l k e. none_leaves _ k (subst (IsPassed whole) (one_vector paths pick whole system y e.0 h.vector e.1) passed) e.2;
    rescale = λ l k e. never_both paths pick whole system e.0 e.1 y e.2 h.vector;
    check = λ l path index e. never_both paths pick whole system e.0 e.1 y e.2 h.vector;
  }

  places_first : PlacesAreFirst P c place task line pick
  places_first = record {
    row = λ i e. record { comes = e; first = none_comes 0 none };
    too_large = λ fit e. record { comes = e; first = none_comes 1 (after_rows fit) };
    right = λ fit few k e. record { comes = e; first = none_comes 2 (after_count fit few) };
    solve = λ fine ps i k e. record { comes = e; first = none_comes 3 (after_right fine) };
    scaled = λ fine d ns read k e. record { comes = (d, ns, read, e); first = none_comes 4 (after_solve fine d ns read) };
    refute = λ fine y h k e. record { comes = (y, h.vector, e); first = none_comes 5 (after_scale fine _ _ (vector_read y h.vector) (vector_scaled y h)) };
    rescale = λ fine t x h k e. record { comes = (t, x, h.solution, e); first = none_comes 5 (after_scale fine _ _ (solution_read t x h.solution) (solution_scaled t x h)) };
    check = λ fine t x h rises path index e. record { comes = (t, x, h.solution, e); first = none_comes 6 (after_rescale fine t x h rises) };
  }

  fine_clear : FineIsClear P c place task line pick
  fine_clear = record {
    kept = λ fine t x h rises finds q e. none_comes 7 (kept_clear fine t x h rises finds) q (stage_low q) e;
    not_kept = λ fine y h passed q e. none_comes 7 (vector_clear fine y h passed) q (stage_low q) e;
  }

pub seen_is_first : OneCourse → OneOtherFault → SeenIsFirst
seen_is_first paths one_fault P c place task line pick system = places_first paths one_fault P c place task line pick system

pub all_fine_is_clear : OneCourse → OneOtherFault → AllFineIsClear
all_fine_is_clear paths one_fault P c place task line pick system = fine_clear paths one_fault P c place task line pick system
