-- A step of the code, as a step of a course.
use Rattle.std.proofs.Common.{◌≡◌, ◌≢◌, refl, sym, ap, subst, ◌∙◌, ℕ, zero, suc, ◌+◌, ◌-◌, ◌<◌, ◌≤◌, ℤ, pos, ◌*ℤ◌, ◌<ℤ◌, arith, List, [], ◌∷◌, ◌++◌, length, ◌⊎◌, inl, inr}
use Rattle.simplex_rows.specs.Entries.{Entries, at}
use Rattle.simplex_rows.specs.Sweeping.{IsSwept, SweepLeaves}
use Rattle.linear_rows.specs.Systems.{LinearSystem, IsSystem}
use Rattle.simplex_spec.specs.Places.{row_at, counted}
use Rattle.simplex_spec.specs.Places as places
use Rattle.simplex_spec.specs.Tableaux.{Tableau, right, opening, pivot, entry, compared, Exits}
use Rattle.simplex_spec.specs.Refusals.{NoFraction, DifferenceLeaves, Refused, InSearch, InExitingRow, InProduct, InDifference}
use Rattle.simplex_spec.specs.Courses.{Enters, IsPivot, Leads, Course}
use Rattle.simplex_spec.proofs.Pivoting.{above}
use Rattle.simplex_spec.proofs.Rows.{wide_at}
use Rattle.simplex_spec.proofs.Opening.{width}
use Rattle.simplex_spec.proofs.Ending.{Good, good_course, one_row_exits}
use Rattle.simplex.specs.Standing.{Stands, RowStands, TableStands, IsPivoted, PivotLeaves, InLead, InRow, InGains, entries_at}
use Rattle.simplex.specs.Ties.{IsExiting, SearchLeaves, columns_to}
use Rattle.simplex.proofs.Lifting.{no_quotient, less_refused, product_is_there, difference_is_there, quotient_is_there}
use Rattle.simplex.proofs.Pivots.{lead_over, swept_stands, rows_stand}

-- the columns that are compared
pub columns_compared : (s : LinearSystem) → columns_to (right s) (length s.rows) (right s) ≡ compared s
columns_compared s = let e : (length s.rows + s.unknowns) - length s.rows ≡ s.unknowns = omega arith in ap (λ (n : ℕ). right s ∷ counted (length s.rows) n) e

-- the numbers of a tableau by row
row_in : (rows : List (List ℤ)) (gains : List ℤ) (i : ℕ) → i < length rows → row_at (rows ++ gains ∷ []) i ≡ row_at rows i
row_in [] gains i h = absurd (omega arith)
row_in (r ∷ rows) gains zero h = refl
row_in (r ∷ rows) gains (suc i) h = row_in rows gains i (omega arith)

row_last : (rows : List (List ℤ)) (gains : List ℤ) (i : ℕ) → i ≡ length rows → row_at (rows ++ gains ∷ []) i ≡ gains
row_last [] gains zero e = refl
row_last [] gains (suc i) e = absurd (omega arith)
row_last (r ∷ rows) gains zero e = absurd (omega arith)
row_last (r ∷ rows) gains (suc i) e = row_last rows gains i (omega arith)

pub entry_in : (t : Tableau) (i c : ℕ) → i < length t.rows → entry t i c ≡ places.at (row_at t.rows i) c
entry_in t i c h = ap (λ (row : List ℤ). places.at row c) (row_in t.rows t.gains i h)

pub entry_last : (t : Tableau) (i c : ℕ) → i ≡ length t.rows → entry t i c ≡ places.at t.gains c
entry_last t i c e = ap (λ (row : List ℤ). places.at row c) (row_last t.rows t.gains i e)

module _ (s : LinearSystem) (t : Tableau) (g : Good s t) (c : ℕ) (rows : List Entries) (gains : Entries) (stand : TableStands t rows gains) (l : ℕ) (leaving : IsExiting (compared s) c rows l) where
  pub leaves : Exits s c t l
  leaves = leaving.least t g.sound.positive stand.rows_stand

  lead_positive : pos 0 <ℤ (t.over *ℤ places.at (row_at t.rows l) c)
  lead_positive = above t.over (places.at (row_at t.rows l) c) g.sound.positive leaves.positive

  in_product : (i k : ℕ) → i ≢ l → i ≤ length t.rows → (NoFraction (entry t l k) (entry t l c) → ⊥) → NoFraction (entry t i c *ℤ entry t l k) (t.over *ℤ entry t l c) → Refused s t c i k
  in_product i k n h there none = InProduct l leaves (λ e. n (sym e)) h there none

  in_difference : (i k : ℕ) → i ≢ l → i ≤ length t.rows → DifferenceLeaves (entry t i k) t.over (entry t i c *ℤ entry t l k) (t.over *ℤ entry t l c) → Refused s t c i k
  in_difference i k n h d = InDifference l leaves (λ e. n (sym e)) h d

  -- the lead's numbers under the tableau's names
  lead_number : (k : ℕ) → entry t l k ≡ places.at (row_at t.rows l) k
  lead_number k = entry_in t l k leaves.inside

  -- where a row is not swept, the tableau refuses
  row_refused : (i k : ℕ) (row : List ℤ) (es lead : Entries) → i ≢ l → i ≤ length t.rows → ((j : ℕ) → entry t i j ≡ places.at row j) → RowStands t.over row es → ((j : ℕ) → Stands (places.at (row_at t.rows l) c) (places.at (row_at t.rows l) j) (at j lead)) → SweepLeaves c k lead es → Refused s t c i k
  row_refused i k row es lead n h e r over w =
      elim (less_refused t.over (places.at (row_at t.rows l) c) (places.at row k) (places.at row c) (places.at (row_at t.rows l) k) (at k es) (at c es) (at k lead) g.sound.positive lead_positive (r.each k) (r.each c) (over k) w.leaves) [
        | inl none ↦ in_product i k n h (rw (lead_number k, lead_number c) (λ no. no (at k lead).num (at k lead).den ((at k lead).lowest, (over k).is))) (rw (e c, lead_number k, lead_number c) none)
        | inr d ↦ in_difference i k n h (rw (e k, e c, lead_number k, lead_number c) d)
      ]

  pub pivot_refused : (i k : ℕ) → PivotLeaves l c rows gains i k → Refused s t c i k
  pivot_refused i k (InLead e q) =
      subst (λ (z : ℕ). Refused s t c z k) (sym e)
      (InExitingRow leaves (rw (lead_number k, lead_number c) (no_quotient t.over (places.at (row_at t.rows l) k) (places.at (row_at t.rows l) c) (at k (entries_at rows l)) (at c (entries_at rows l)) g.sound.positive
      ((stand.rows_stand.each l leaves.inside).each k) ((stand.rows_stand.each l leaves.inside).each c) q)))
  pivot_refused i k (InRow lead q h n w) =
      let count = stand.rows_stand.count in
      let inside : i < length t.rows = omega arith in
      row_refused i k (row_at t.rows i) (entries_at rows i) lead n (omega arith) (λ j. entry_in t i j inside) (stand.rows_stand.each i inside) (lead_over s t g l c leaves.inside (entries_at rows l) lead (stand.rows_stand.each l leaves.inside) q) w
  pivot_refused i k (InGains lead q e w) =
      let count = stand.rows_stand.count in
      let last : i ≡ length t.rows = omega arith in
      let n : i ≢ l = (λ f. let h = leaves.inside in omega arith) in
      row_refused i k t.gains gains lead n (omega arith) (λ j. entry_last t i j last) stand.gains_stand (lead_over s t g l c leaves.inside (entries_at rows l) lead (stand.rows_stand.each l leaves.inside) q) w

  module _ (new : List Entries) (new_gains : Entries) (made : IsPivoted l c rows gains new new_gains) where
    over : (k : ℕ) → Stands (places.at (row_at t.rows l) c) (places.at (row_at t.rows l) k) (at k made.lead)
    over = lead_over s t g l c leaves.inside (entries_at rows l) made.lead (stand.rows_stand.each l leaves.inside) made.quotients

    inside_or_last : (i n : ℕ) → i ≤ n → (i < n) ⊎ (i ≡ n)
    inside_or_last i n h = grind arith

    row_there : (i k : ℕ) (row : List ℤ) (es after : Entries) → ((j : ℕ) → entry t i j ≡ places.at row j) → RowStands t.over row es → IsSwept c made.lead es after
        → (NoFraction (entry t i c *ℤ entry t l k) (t.over *ℤ entry t l c) → ⊥) × (DifferenceLeaves (entry t i k) t.over (entry t i c *ℤ entry t l k) (t.over *ℤ entry t l c) → ⊥)
    row_there i k row es after e r w = (
      λ none. product_is_there t.over (places.at (row_at t.rows l) c) (places.at row k) (places.at row c) (places.at (row_at t.rows l) k) (at k es) (at c es) (at k made.lead) (at k after) (r.each c) (over k) (w.each k) (rw (e c, lead_number k, lead_number c) at none),
      λ d. difference_is_there t.over (places.at (row_at t.rows l) c) (places.at row k) (places.at row c) (places.at (row_at t.rows l) k) (at k es) (at c es) (at k made.lead) (at k after) g.sound.positive lead_positive (r.each k) (r.each c) (over k) (w.each k)
          (rw (e k, e c, lead_number k, lead_number c) at d),
    )

    numbers_there : (i k : ℕ) → i ≢ l → i ≤ length t.rows → (NoFraction (entry t i c *ℤ entry t l k) (t.over *ℤ entry t l c) → ⊥) × (DifferenceLeaves (entry t i k) t.over (entry t i c *ℤ entry t l k) (t.over *ℤ entry t l c) → ⊥)
    numbers_there i k n h = elim (inside_or_last i (length t.rows) h) [
      | inl inside ↦ row_there i k (row_at t.rows i) (entries_at rows i) (entries_at new i) (λ j. entry_in t i j inside) (stand.rows_stand.each i inside) (made.rows_swept.others i (let q = stand.rows_stand.count in omega arith) n)
      | inr last ↦ row_there i k t.gains gains new_gains (λ j. entry_last t i j last) stand.gains_stand made.gains_swept
    ]

    -- where the pivot is made, the tableau refuses nothing
    pub pivot_whole : (i k : ℕ) → Refused s t c i k → ⊥
    pivot_whole i k (InSearch w none) = leaving.looked t g.sound.positive stand.rows_stand i k w (rw (entry_in t i k w.tied.inside, entry_in t i c w.tied.inside) at none)
    pivot_whole i k (InExitingRow w none) =
        let same : i ≡ l = one_row_exits s t c i l g w leaves in
        let here : NoFraction (entry t l k) (entry t l c) = subst (λ (z : ℕ). NoFraction (entry t z k) (entry t z c)) same none in
        quotient_is_there t.over (places.at (row_at t.rows l) k) (places.at (row_at t.rows l) c) (at k (entries_at rows l)) (at c (entries_at rows l)) (at k made.lead) ((stand.rows_stand.each l leaves.inside).each k) ((stand.rows_stand.each l leaves.inside).each c) (made.quotients k)
        (rw (lead_number k, lead_number c) at here)
    pivot_whole i k (InProduct m w n h there none) =
        let same : m ≡ l = one_row_exits s t c m l g w leaves in
        (numbers_there i k (λ e. n (same ∙ sym e)) h).0 (subst (λ (z : ℕ). NoFraction (entry t i c *ℤ entry t z k) (t.over *ℤ entry t z c)) same none)
    pivot_whole i k (InDifference m w n h d) =
        let same : m ≡ l = one_row_exits s t c m l g w leaves in
        (numbers_there i k (λ e. n (same ∙ sym e)) h).1 (subst (λ (z : ℕ). DifferenceLeaves (entry t i k) t.over (entry t i c *ℤ entry t z k) (t.over *ℤ entry t z c)) same d)

    -- so it is a pivot of the tableau, and the new rows stand for the new tableau
    pub is_pivot : Enters s t c → IsPivot s t l c
    is_pivot enters = record { enters = enters; exits = leaves; whole = pivot_whole }

    pub pivoted_stands : TableStands (pivot l c t) new new_gains
    pivoted_stands = record {
      rows_stand = rows_stand s t g l c leaves.inside rows new made.lead stand.rows_stand over made.rows_swept;
      gains_stand = swept_stands s t g l c leaves.inside t.gains gains new_gains made.lead (g.sound.gains_wide ∙ sym (wide_at (width s) l t.rows g.sound.wide leaves.inside)) stand.gains_stand over made.gains_swept;
    }

-- one pivot more
leads_on : (s : LinearSystem) (t : Tableau) (ps : List (ℕ × ℕ)) (u : Tableau) (l c : ℕ) → Leads s t ps u → IsPivot s u l c → Leads s t (ps ++ (l, c) ∷ []) (pivot l c u)
leads_on s t [] u l c e p = (subst (λ (v : Tableau). IsPivot s v l c) (sym e) p, ap (pivot l c) e)
leads_on s t (q ∷ ps) u l c h p = (h.0, leads_on s (pivot q.0 q.1 t) ps u l c h.1 p)

pub steps : (s : LinearSystem) (pivots : List (ℕ × ℕ)) (t : Tableau) (c : ℕ) (rows : List Entries) (gains : Entries) (l : ℕ) (new : List Entries) (new_gains : Entries)
    → IsSystem s → Course s pivots t → TableStands t rows gains → Enters s t c → IsExiting (compared s) c rows l → IsPivoted l c rows gains new new_gains
    → Course s (pivots ++ (l, c) ∷ []) (pivot l c t) × TableStands (pivot l c t) new new_gains
steps s pivots t c rows gains l new new_gains h course stand enters leaving made =
    let g = good_course s pivots t h course in (
      record { opens = course.opens; leads = leads_on s (opening s) pivots t l c course.leads (is_pivot s t g c rows gains stand l leaving new new_gains made enters) },
      pivoted_stands s t g c rows gains stand l leaving new new_gains made,
    )

pub pivot_faults : (s : LinearSystem) (pivots : List (ℕ × ℕ)) (t : Tableau) (c : ℕ) (rows : List Entries) (gains : Entries) (l i k : ℕ)
    → IsSystem s → Course s pivots t → TableStands t rows gains → IsExiting (compared s) c rows l → PivotLeaves l c rows gains i k → Refused s t c i k
pivot_faults s pivots t c rows gains l i k h course stand leaving w = pivot_refused s t (good_course s pivots t h course) c rows gains stand l leaving i k w

pub search_faults : (s : LinearSystem) (pivots : List (ℕ × ℕ)) (t : Tableau) (c : ℕ) (rows : List Entries) (gains : Entries) (i k : ℕ)
    → IsSystem s → Course s pivots t → TableStands t rows gains → SearchLeaves (compared s) c rows i k → Refused s t c i k
search_faults s pivots t c rows gains i k h course stand w =
    let g = good_course s pivots t h course in
    let found = w.leaves t g.sound.positive stand.rows_stand in
    InSearch found.0 (rw (entry_in t i k found.0.tied.inside, entry_in t i c found.0.tied.inside) found.1)
