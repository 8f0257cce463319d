-- Where a course by a rule goes on past a limit, and where it does not.
use Rattle.std.proofs.Common.{◌≡◌, sym, ap, subst, ◌∙◌, ℕ, zero, suc, ◌≤◌, ◌<◌, ◌⊎◌, ⊎_elim, pos, ◌≤ℤ◌, arith, List, [], ◌∷◌, length, Option, Some, refl}
use Rattle.linear_rows.specs.Systems.{LinearSystem, IsSystem}
use Rattle.simplex_spec.specs.Places as places
use Rattle.simplex_spec.specs.Places.{row_at}
use Rattle.simplex_spec.specs.Tableaux.{Tableau, opening, pivot, Exits}
use Rattle.simplex_spec.specs.Courses.{Rule, Enters, IsPivot, Leads, Course, Ends, Rises, Follows, FollowsFrom, Answers, AnswersOnce}
use Rattle.simplex_spec.proofs.Ending.{Good, good_opening, good_pivot, one_row_exits}
use Rattle.simplex_spec.proofs.Paths.{low_high, one_answer, over_positive}
use Rattle.simplex.specs.Solving.{Bounds, CutsBy, UpTo}
use Rattle.simplex_checked.specs.Limits.{EndsAfter, AtEnd, AtRise}

-- A course that is longer than a limit is cut there

-- the pivots from v on, of which there are m, after which the rule's pivot is made
record Front (rule : Rule) (s : LinearSystem) (v : Tableau) (m : ℕ) : Type 0 where
  pub pivots : List (ℕ × ℕ)
  pub u : Tableau
  pub row : ℕ
  pub column : ℕ
  pub leads : Leads s v pivots u
  pub follows : FollowsFrom rule s v pivots
  pub count : length pivots ≡ m
  pub pivot : IsPivot s u row column
  pub answers : Answers rule s u column

front : (rule : Rule) (s : LinearSystem) (v : Tableau) (m : ℕ) (ps : List (ℕ × ℕ)) (t : Tableau) → Leads s v ps t → FollowsFrom rule s v ps → m < length ps → Front rule s v m
front rule s v m [] t h f l = absurd (omega (arith, l))
front rule s v zero ((l, c) ∷ ps) t h f q =
    record { pivots = []; u = v; row = l; column = c; leads = refl; follows = tt; count = refl; pivot = h.0; answers = f.0 }
front rule s v (suc m) ((l, c) ∷ ps) t h f q =
    let r = front rule s (pivot l c v) m ps t h.1 f.1 (omega (arith, q)) in
    record { pivots = (l, c) ∷ r.pivots; u = r.u; row = r.row; column = r.column; leads = (h.0, r.leads); follows = (f.0, r.follows); count = ap suc r.count; pivot = r.pivot; answers = r.answers }

module _ (rule : Rule) (s : LinearSystem) (ps : List (ℕ × ℕ)) (t : Tableau) (course : Course s ps t) (follows : Follows rule s ps) where
  longer_is_cut : (m : ℕ) → m < length ps → CutsBy rule s (Some m)
  longer_is_cut m l =
      let r = front rule s (opening s) m ps t course.leads follows l in
      record {
        limit = m;
        is_limit = refl;
        pivots = r.pivots;
        cut = record {
          t = r.u;
          column = r.column;
          course = record { opens = course.opens; leads = r.leads };
          follows = r.follows;
          count = r.count;
          enters = (let p = r.pivot in p.enters);
          answers = r.answers;
          row = r.row;
          bounds = record { inside = (let p = r.pivot in p.exits.inside); positive = (let p = r.pivot in p.exits.positive) };
        };
      }

  -- what is not cut has no more pivots than the limit
  pub uncut_is_short : (most : Option ℕ) → (CutsBy rule s most → ⊥) → UpTo most (length ps)
  uncut_is_short most n m e = ⊎_elim (λ l. absurd (n (subst (CutsBy rule s) (sym e) (longer_is_cut m l)))) (λ l. l) (less_or m (length ps))
    where
      less_or : (a b : ℕ) → (a < b) ⊎ (b ≤ a)
      less_or a b = grind arith

-- A course that ends within a limit is not cut

module _ (rule : Rule) (once : AnswersOnce rule) (s : LinearSystem) where
  -- a course by the rule that is longer than one that ends after it goes on from where that ends
  goes_on : (v : Tableau) (ps qs : List (ℕ × ℕ)) (t u : Tableau) → Good s v → Leads s v ps t → FollowsFrom rule s v ps → ((l c : ℕ) → IsPivot s t l c → Answers rule s t c → ⊥) → Leads s v qs u → FollowsFrom rule s v qs
      → length ps ≤ length qs → t ≡ u
  goes_on v [] [] t u g h f stops k j low = sym h ∙ k
  goes_on v [] ((m, e) ∷ qs) t u g h f stops k j low = absurd (stops m e (subst (λ (w : Tableau). IsPivot s w m e) h k.0) (subst (λ (w : Tableau). Answers rule s w e) h j.0))
  goes_on v ((l, c) ∷ ps) [] t u g h f stops k j low = absurd (omega (arith, low))
  goes_on v ((l, c) ∷ ps) ((m, e) ∷ qs) t u g h f stops k j low =
      let a : c ≡ e = one_answer rule once s v c e g.sound.positive f.0 j.0 in
      let b : l ≡ m = one_row_exits s v c l m g h.0.exits (subst (λ (z : ℕ). Exits s z v m) (sym a) k.0.exits) in
      let k' : Leads s (pivot l c v) qs u = rw (a, b) k.1 in
      let j' : FollowsFrom rule s (pivot l c v) qs = rw (a, b) j.1 in
      goes_on (pivot l c v) ps qs t u (good_pivot s v l c g h.0) h.1 f.1 stops k' j' (omega (arith, low))

  module _ (system : IsSystem s) (most : Option ℕ) (b : CutsBy rule s most) where
    there : (ps : List (ℕ × ℕ)) (t : Tableau) → Course s ps t → Follows rule s ps → ((l c : ℕ) → IsPivot s t l c → Answers rule s t c → ⊥) → UpTo most (length ps) → t ≡ b.cut.t
    there ps t course f stops up =
        goes_on (opening s) ps b.pivots t b.cut.t (good_opening s system) course.leads f stops b.cut.course.leads b.cut.follows
        (let low = up b.limit b.is_limit in let count = b.cut.count in omega (arith, low, count))

    -- no row bounds the rule's column where the course rises
    none_bounds : (ps : List (ℕ × ℕ)) (t : Tableau) (e c i : ℕ) → Rises s ps t e → Answers rule s t e → Answers rule s t c → Bounds t c i → ⊥
    none_bounds ps t e c i r answers a bounds =
        let same : c ≡ e = one_answer rule once s t c e (over_positive rule once s ps t system r.course) a answers in
        low_high (places.at (row_at t.rows i) c) (subst (λ (k : ℕ). places.at (row_at t.rows i) k ≤ℤ pos 0) (sym same) (r.none i bounds.inside)) bounds.positive

    pub ends_uncut : (n : ℕ) → EndsAfter rule s n → UpTo most n → ⊥
    ends_uncut n (AtEnd ps t e f count) up =
        let same : t ≡ b.cut.t = there ps t e.course f (λ l c p a. low_high (places.at t.gains c) (e.none c p.enters.before) p.enters.gain) (subst (UpTo most) count up) in
        let here : Enters s t b.cut.column = subst (λ (w : Tableau). Enters s w b.cut.column) (sym same) b.cut.enters in
        low_high (places.at t.gains b.cut.column) (e.none b.cut.column here.before) here.gain
    ends_uncut n (AtRise ps t e r f answers count) up =
        let same : t ≡ b.cut.t = there ps t r.course f (λ l c p a. none_bounds ps t e c l r answers a (record { inside = p.exits.inside; positive = p.exits.positive })) (subst (UpTo most) count up) in
        none_bounds ps t e b.cut.column b.cut.row r answers (subst (λ (w : Tableau). Answers rule s w b.cut.column) (sym same) b.cut.answers) (subst (λ (w : Tableau). Bounds w b.cut.column b.cut.row) (sym same) b.cut.bounds)
