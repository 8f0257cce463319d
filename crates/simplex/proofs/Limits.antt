-- Where a course is cut.
use Rattle.std.proofs.Common.{◌≡◌, sym, ap, subst, ◌∙◌, ℕ, ◌≤◌, pos, ◌≤ℤ◌, arith, List, [], ◌∷◌, length, Option, Some, None, Result, Ok, Err, IfOk, ◌↔◌}
use Rattle.std.specs.declared.alloc.AllocError.{AllocError}
use Rattle.linear_rows.specs.Systems.{LinearSystem, IsSystem}
use Rattle.simplex_spec.specs.Places as places
use Rattle.simplex_spec.specs.Places.{row_at}
use Rattle.simplex_spec.specs.Tableaux.{Tableau, opening, pivot, entry, Exits}
use Rattle.simplex_spec.specs.Refusals.{Refused, least_number}
use Rattle.simplex_spec.specs.Courses.{Rule, Enters, IsPivot, Leads, Course, Ends, Rises, Follows, FollowsFrom, Answers, AnswersOnce, RisesBy, Refuses, AtOpening, AtPivot}
use Rattle.simplex_spec.proofs.Ending.{Good, good_opening, good_pivot, one_row_exits}
use Rattle.simplex_spec.proofs.Paths.{low_high, one_answer, over_positive}
use Rattle.simplex.specs.declared.answer.Answer.{Answer}
use Rattle.simplex.specs.declared.answer.Within.{Within}
use Rattle.simplex.specs.declared.answer.Within.TheVariants.{Answered, Cut}
use Rattle.simplex.specs.Solving.{SaysNone, Bounds, IsCut, IsWithin, SaysCut, CutsBy, UpTo, Below}
use Rattle.simplex.proofs.Agreement.{none_where_risen}

module _ (rule : Rule) (once : AnswersOnce rule) (s : LinearSystem) where
  -- no course by the rule goes on after one that stops
  none_longer : (v : Tableau) (ps qs : List (ℕ × ℕ)) (t u : Tableau) → Good s v → Leads s v ps t → FollowsFrom rule s v ps → ((l c : ℕ) → IsPivot s t l c → Answers rule s t c → ⊥) → Leads s v qs u → FollowsFrom rule s v qs
      → (length qs ≤ length ps) × (length ps ≤ length qs → t ≡ u)
  none_longer v [] [] t u g h f stops k j = (omega arith, λ e. sym h ∙ k)
  none_longer v [] ((m, e) ∷ qs) t u g h f stops k j = absurd (stops m e (subst (λ (w : Tableau). IsPivot s w m e) h k.0) (subst (λ (w : Tableau). Answers rule s w e) h j.0))
  none_longer v ((l, c) ∷ ps) [] t u g h f stops k j = (omega arith, λ e. absurd (omega arith))
  none_longer v ((l, c) ∷ ps) ((m, e) ∷ qs) t u g h f stops k j =
      let a : c ≡ e = one_answer rule once s v c e g.sound.positive f.0 j.0 in
      let b : l ≡ m = one_row_exits s v c l m g h.0.exits (subst (λ (z : ℕ). Exits s z v m) (sym a) k.0.exits) in
      let k' : Leads s (pivot l c v) qs u = rw (a, b) k.1 in
      let j' : FollowsFrom rule s (pivot l c v) qs = rw (a, b) j.1 in
      let r = none_longer (pivot l c v) ps qs t u (good_pivot s v l c g h.0) h.1 f.1 stops k' j' in
      let low = r.0 in
      (omega arith, λ e. r.1 (omega arith))

  from_opening : (ps qs : List (ℕ × ℕ)) (t u : Tableau) → IsSystem s → Course s ps t → Follows rule s ps → ((l c : ℕ) → IsPivot s t l c → Answers rule s t c → ⊥) → Course s qs u → Follows rule s qs → (length qs ≤ length ps) × (length ps ≤ length qs → t ≡ u)
  from_opening ps qs t u h course f stops other j = none_longer (opening s) ps qs t u (good_opening s h) course.leads f stops other.leads j

  -- where the course stops before the limit, it is not cut
  stops_before : (ps : List (ℕ × ℕ)) (t : Tableau) (most : Option ℕ) → IsSystem s → Course s ps t → Follows rule s ps → ((l c : ℕ) → IsPivot s t l c → Answers rule s t c → ⊥) → Below most (length ps) → CutsBy rule s most → ⊥
  stops_before ps t most h course f stops below b =
      let low = below b.limit b.is_limit in
      let most_long = (from_opening ps b.pivots t b.cut.t h course f stops b.cut.course b.cut.follows).0 in
      let count = b.cut.count in
      omega arith

  -- where the course stops at the limit, it is cut there
  stops_there : (ps : List (ℕ × ℕ)) (t : Tableau) (most : Option ℕ) → IsSystem s → Course s ps t → Follows rule s ps → ((l c : ℕ) → IsPivot s t l c → Answers rule s t c → ⊥) → UpTo most (length ps) → (b : CutsBy rule s most) → t ≡ b.cut.t
  stops_there ps t most h course f stops up b =
      let low = up b.limit b.is_limit in
      let count = b.cut.count in
      (from_opening ps b.pivots t b.cut.t h course f stops b.cut.course b.cut.follows).1 (omega arith)

  pub end_not_cut : (ps : List (ℕ × ℕ)) (t : Tableau) (most : Option ℕ) → IsSystem s → Ends s ps t → Follows rule s ps → UpTo most (length ps) → CutsBy rule s most → ⊥
  end_not_cut ps t most h e f up b =
      let same : t ≡ b.cut.t = stops_there ps t most h e.course f (λ l c p a. low_high (places.at t.gains c) (e.none c p.enters.before) p.enters.gain) up b in
      let here : Enters s t b.cut.column = subst (λ (w : Tableau). Enters s w b.cut.column) (sym same) b.cut.enters in
      low_high (places.at t.gains b.cut.column) (e.none b.cut.column here.before) here.gain

  -- no row bounds the rule's column where the course rises
  none_bounds : (ps : List (ℕ × ℕ)) (t : Tableau) (e c i : ℕ) → IsSystem s → Rises s ps t e → Answers rule s t e → Answers rule s t c → Bounds t c i → ⊥
  none_bounds ps t e c i h r answers a bounds =
      let same : c ≡ e = one_answer rule once s t c e (over_positive rule once s ps t h r.course) a answers in
      low_high (places.at (row_at t.rows i) c) (subst (λ (k : ℕ). places.at (row_at t.rows i) k ≤ℤ pos 0) (sym same) (r.none i bounds.inside)) bounds.positive

  pub rise_not_cut : (ps : List (ℕ × ℕ)) (t : Tableau) (e : ℕ) (most : Option ℕ) → IsSystem s → Rises s ps t e → Follows rule s ps → Answers rule s t e → UpTo most (length ps) → CutsBy rule s most → ⊥
  rise_not_cut ps t e most h r f answers up b =
      let same : t ≡ b.cut.t = stops_there ps t most h r.course f (λ l c p a. none_bounds ps t e c l h r answers a (record { inside = p.exits.inside; positive = p.exits.positive })) up b in
      none_bounds ps t e b.cut.column b.cut.row h r answers (subst (λ (w : Tableau). Answers rule s w b.cut.column) (sym same) b.cut.answers) (subst (λ (w : Tableau). Bounds w b.cut.column b.cut.row) (sym same) b.cut.bounds)

  pub refusal_not_cut : (ps : List (ℕ × ℕ)) (i k : ℕ) (most : Option ℕ) → IsSystem s → Refuses rule s ps i k → Below most (length ps) → CutsBy rule s most → ⊥
  refusal_not_cut ps i k most h (AtOpening n o) below b = b.cut.course.opens i k o
  refusal_not_cut ps i k most h (AtPivot t e course f enters answers r) below b =
      stops_before ps t most h course f (λ l c p a. p.whole i k (subst (λ (z : ℕ). Refused s t z i k) (sym (one_answer rule once s t c e (over_positive rule once s ps t h course) a answers)) r)) below b

pub opening_not_cut : (rule : Rule) (s : LinearSystem) (i k : ℕ) (most : Option ℕ) → entry (opening s) i k ≡ least_number → CutsBy rule s most → ⊥
opening_not_cut rule s i k most o b = b.cut.course.opens i k o

-- what is cut is, and what is not is not
pub says_cut : (rule : Rule) (s : LinearSystem) (most : Option ℕ) (pivots : List (ℕ × ℕ)) (m : ℕ) → most ≡ Some m → IsCut rule s m pivots → Unit {0} ↔ CutsBy rule s most
says_cut rule s most pivots m e cut = (λ u. record { limit = m; is_limit = e; pivots = pivots; cut = cut }, λ b. tt)

pub says_not : (rule : Rule) (s : LinearSystem) (most : Option ℕ) → (CutsBy rule s most → ⊥) → ⊥ ↔ CutsBy rule s most
says_not rule s most n = (λ a. absurd a, n)

pub none_yet : (most : Option ℕ) (pivots : List (ℕ × ℕ)) → pivots ≡ [] → UpTo most (length pivots)
none_yet most pivots e m q = let n : length pivots ≡ 0 = ap length e in omega arith

-- what solving answers, as the loop gives it
pub none_within : (rule : Rule) (s : LinearSystem) (most : Option ℕ) (r : Result Within AllocError) (a : Answer) → IsSystem s → IfOk r (IsWithin rule s most) → r ≡ Ok (Answered a) → AnswersOnce rule → (SaysNone a ↔ RisesBy rule s)
none_within rule s most r a h w e once = none_where_risen rule s a h (subst (λ (x : Result Within AllocError). IfOk x (IsWithin rule s most)) e w) once

pub never_cut : (rule : Rule) (s : LinearSystem) (most : Option ℕ) (r : Result Within AllocError) → most ≡ None → IfOk r (IsWithin rule s most) → IfOk r (λ within. SaysCut within → ⊥)
never_cut rule s most (Err x) e w = tt
never_cut rule s most (Ok (Answered answer)) e w = λ cut. cut
never_cut rule s most (Ok (Cut pivots)) e w = λ cut. absurd (let n : None ≡ Some w.0 = sym e ∙ w.1 in cc)

pub not_none_at_opening : (rule : Rule) (s : LinearSystem) (i k : ℕ) (b a : Answer) → (SaysNone b → ⊥) → b ≡ a → entry (opening s) i k ≡ least_number → (SaysNone a ↔ RisesBy rule s)
not_none_at_opening rule s i k b a n e o = (λ none. absurd (n (subst SaysNone (sym e) none)), λ r. absurd (r.rises.course.opens i k o))
