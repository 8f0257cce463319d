-- Courses by one rule, side by side.
use Rattle.std.proofs.Common.{◌≡◌, refl, sym, ap, subst, ◌∙◌, ℕ, ◌<◌, ℤ, pos, ◌≤ℤ◌, ◌<ℤ◌, arith, List, [], ◌∷◌, length, Option, Some, unwrap_or}
use Rattle.std.proofs.lemmas.Int.{ints}
use Rattle.linear_rows.specs.Systems.{LinearSystem, IsSystem}
use Rattle.simplex_spec.specs.Places.{at, row_at}
use Rattle.simplex_spec.specs.Tableaux.{Tableau, opening, pivot, Exits}
use Rattle.simplex_spec.specs.Refusals.{Refused, InSearch, InExitingRow, InProduct, InDifference}
use Rattle.simplex_spec.specs.Courses.{Rule, Enters, IsPivot, Leads, Course, Ends, Rises, Follows, FollowsFrom, Answers, AnswersOnce, Refuses, AtOpening, AtPivot, rule_by}
use Rattle.simplex_spec.proofs.Ending.{Good, good_opening, good_pivot, good_course, one_row_exits}
use Rattle.simplex_spec.specs.Laws.{OneCourse}

some_is : (a b : ℕ) → Some a ≡ Some b → a ≡ b
some_is a b e = ap (λ (o : Option ℕ). unwrap_or o 0) e

pub low_high : (z : ℤ) → z ≤ℤ pos 0 → pos 0 <ℤ z → ⊥
low_high z h k = omega (arith, ints)

module _ (rule : Rule) (once : AnswersOnce rule) (s : LinearSystem) where
  -- no pivot by the rule is made at t
  Stops : Tableau → Type 0
  Stops t = (l c : ℕ) → IsPivot s t l c → Answers rule s t c → ⊥

  pub over_positive : (ps : List (ℕ × ℕ)) (t : Tableau) → IsSystem s → Course s ps t → pos 0 <ℤ t.over
  over_positive ps t h k = let g = good_course s ps t h k in g.sound.positive

  pub one_answer : (t : Tableau) (c e : ℕ) → pos 0 <ℤ t.over → Answers rule s t c → Answers rule s t e → c ≡ e
  one_answer t c e p a b = some_is c e (once _ _ _ _ p a b)

  end_stops : (ps : List (ℕ × ℕ)) (t : Tableau) → Ends s ps t → Stops t
  unfolding Stops
  end_stops ps t h l c p a = low_high (at t.gains c) (h.none c p.enters.before) p.enters.gain

  rise_stops : (ps : List (ℕ × ℕ)) (t : Tableau) (e : ℕ) → IsSystem s → Rises s ps t e → Answers rule s t e → Stops t
  unfolding Stops
  rise_stops ps t e system h b l c p a =
      let same : c ≡ e = one_answer t c e (over_positive ps t system h.course) a b in
      low_high (at (row_at t.rows l) c) (subst (λ (k : ℕ). at (row_at t.rows l) k ≤ℤ pos 0) (sym same) (h.none l p.exits.inside)) p.exits.positive

  refusal_stops : (t : Tableau) (e i k : ℕ) → pos 0 <ℤ t.over → Answers rule s t e → Refused s t e i k → Stops t
  unfolding Stops
  refusal_stops t e i k q b r l c p a = p.whole i k (subst (λ (z : ℕ). Refused s t z i k) (sym (one_answer t c e q a b)) r)

  one_path : (v : Tableau) (ps qs : List (ℕ × ℕ)) (t u : Tableau) → Good s v → Leads s v ps t → FollowsFrom rule s v ps → Stops t → Leads s v qs u → FollowsFrom rule s v qs → Stops u → (ps ≡ qs) × (t ≡ u)
  unfolding Stops
  one_path v [] [] t u g h f st k j su = (refl, sym h ∙ k)
  one_path v [] ((m, e) ∷ qs) t u g h f st k j su = absurd (st m e (subst (λ (w : Tableau). IsPivot s w m e) h k.0) (subst (λ (w : Tableau). Answers rule s w e) h j.0))
  one_path v ((l, c) ∷ ps) [] t u g h f st k j su = absurd (su l c (subst (λ (w : Tableau). IsPivot s w l c) k h.0) (subst (λ (w : Tableau). Answers rule s w c) k f.0))
  one_path v ((l, c) ∷ ps) ((m, e) ∷ qs) t u g h f st k j su =
      let a : c ≡ e = one_answer v c e g.sound.positive f.0 j.0 in
      let b : l ≡ m = one_row_exits s v c l m g h.0.exits (subst (λ (z : ℕ). Exits s z v m) (sym a) k.0.exits) in
      let k' : Leads s (pivot l c v) qs u = rw (a, b) k.1 in
      let j' : FollowsFrom rule s (pivot l c v) qs = rw (a, b) j.1 in
      let r = one_path (pivot l c v) ps qs t u (good_pivot s v l c g h.0) h.1 f.1 st k' j' su in
      (rw (a, b, r.0) refl, r.1)

  from_opening : (ps qs : List (ℕ × ℕ)) (t u : Tableau) → IsSystem s → Course s ps t → Follows rule s ps → Stops t → Course s qs u → Follows rule s qs → Stops u → (ps ≡ qs) × (t ≡ u)
  from_opening ps qs t u h c f st d j su = one_path (opening s) ps qs t u (good_opening s h) c.leads f st d.leads j su

  none_exits : (ps : List (ℕ × ℕ)) (t : Tableau) (c l : ℕ) → Rises s ps t c → l < length t.rows → pos 0 <ℤ at (row_at t.rows l) c → ⊥
  none_exits ps t c l r h p = low_high (at (row_at t.rows l) c) (r.none l h) p

  rise_refuses_none : (ps : List (ℕ × ℕ)) (t : Tableau) (c i k : ℕ) → Rises s ps t c → Refused s t c i k → ⊥
  rise_refuses_none ps t c i k r (InSearch w n) = none_exits ps t c i r w.tied.inside w.tied.positive
  rise_refuses_none ps t c i k r (InExitingRow w n) = none_exits ps t c i r w.inside w.positive
  rise_refuses_none ps t c i k r (InProduct l w m h there n) = none_exits ps t c l r w.inside w.positive
  rise_refuses_none ps t c i k r (InDifference l w m h d) = none_exits ps t c l r w.inside w.positive

  end_refused : (ps qs : List (ℕ × ℕ)) (t : Tableau) (i k : ℕ) → IsSystem s → Ends s ps t → Follows rule s ps → Refuses rule s qs i k → ⊥
  end_refused ps qs t i k h e f (AtOpening n o) = e.course.opens i k o
  end_refused ps qs t i k h e f (AtPivot u c course j enters answers r) =
      let same = from_opening ps qs t u h e.course f (end_stops ps t e) course j (refusal_stops u c i k (over_positive qs u h course) answers r) in
      let here : Enters s t c = subst (λ (w : Tableau). Enters s w c) (sym same.1) enters in
      low_high (at t.gains c) (e.none c here.before) here.gain

  pub rise_refused : (ps qs : List (ℕ × ℕ)) (t : Tableau) (c i k : ℕ) → IsSystem s → Rises s ps t c → Follows rule s ps → Answers rule s t c → Refuses rule s qs i k → ⊥
  rise_refused ps qs t c i k h e f a (AtOpening n o) = e.course.opens i k o
  rise_refused ps qs t c i k h e f a (AtPivot u d course j enters answers r) =
      let same = from_opening ps qs t u h e.course f (rise_stops ps t c h e a) course j (refusal_stops u d i k (over_positive qs u h course) answers r) in
      let there : Answers rule s t d = subst (λ (w : Tableau). Answers rule s w d) (sym same.1) answers in
      let column : d ≡ c = one_answer t d c (over_positive ps t h e.course) there a in
      rise_refuses_none ps t c i k e (subst (λ (z : ℕ). Refused s t z i k) column (subst (λ (w : Tableau). Refused s w d i k) (sym same.1) r))

once_by : (pick : List ℤ → ℤ → Option ℕ) → AnswersOnce (rule_by pick)
once_by pick ns d o p h a b = sym a ∙ b

pub all : OneCourse
all = record {
  one_end = λ pick s ps qs t u h e f d j. from_opening (rule_by pick) (once_by pick) s ps qs t u h e.course f (end_stops (rule_by pick) (once_by pick) s ps t e) d.course j (end_stops (rule_by pick) (once_by pick) s qs u d);
  one_rise = λ pick s ps qs t u c e h r f a q j b.
      let same = from_opening (rule_by pick) (once_by pick) s ps qs t u h r.course f (rise_stops (rule_by pick) (once_by pick) s ps t c h r a) q.course j (rise_stops (rule_by pick) (once_by pick) s qs u e h q b) in
      let there : Answers (rule_by pick) s t e = subst (λ (w : Tableau). Answers (rule_by pick) s w e) (sym same.1) b in
      (same.0, same.1, one_answer (rule_by pick) (once_by pick) s t c e (over_positive (rule_by pick) (once_by pick) s ps t h r.course) a there);
  end_or_refusal = λ pick s. end_refused (rule_by pick) (once_by pick) s;
  rise_or_refusal = λ pick s. rise_refused (rule_by pick) (once_by pick) s;
}
