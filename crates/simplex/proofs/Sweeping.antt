-- Rows that are swept one after the other.
use Rattle.std.proofs.Common.{◌≡◌, ◌≢◌, refl, sym, ap, subst, ◌∙◌, ℕ, zero, suc, ◌+◌, ◌<◌, ◌≤◌, pos, arith, List, [], ◌∷◌, length, get_or, slice_set, take, inl, inr}
use Rattle.std.proofs.lemmas.Int.{ints}
use Rattle.frac128.specs.Values.{IsQuotient}
use Rattle.simplex_rows.specs.Entries.{Entries, at, QuotientLeaves}
use Rattle.simplex_rows.specs.Sweeping.{IsSwept, SweepLeaves}
use Rattle.simplex_rows.proofs.Sweeping.{stays}
use Rattle.simplex.specs.Among.{Among, AllDiffer}
use Rattle.simplex.proofs.Rows.{among_or_not, among_take, among_taken, among_take_more, not_yet, take_whole, value_of}
use Rattle.simplex.specs.Standing.{entries_at, AreTouching, AmongSwept, RowLeaves, IsPivoted, PivotLeaves, InLead, InRow, InGains}
use Rattle.simplex_spec.proofs.Pivoting.{same_or_not}

pub here : (rows : List Entries) (i : ℕ) (x : Entries) → i < length rows → entries_at (slice_set rows i x) i ≡ x
here [] i x h = absurd (omega arith)
here (r ∷ rows) zero x h = refl
here (r ∷ rows) (suc i) x h = here rows i x (omega arith)

pub there : (rows : List Entries) (i : ℕ) (x : Entries) (j : ℕ) → j ≢ i → entries_at (slice_set rows i x) j ≡ entries_at rows j
there [] i x j n = refl
there (r ∷ rows) zero x zero n = absurd (n refl)
there (r ∷ rows) zero x (suc j) n = refl
there (r ∷ rows) (suc i) x zero n = refl
there (r ∷ rows) (suc i) x (suc j) n = there rows i x j (λ e. n (ap suc e))

pub length-slice_set : (rows : List Entries) (i : ℕ) (x : Entries) → length (slice_set rows i x) ≡ length rows
length-slice_set [] i x = refl
length-slice_set (r ∷ rows) zero x = refl
length-slice_set (r ∷ rows) (suc i) x = omega (arith, length-slice_set rows i x)

pub none_swept : (among : List ℕ) (s : ℕ) (lead : Entries) (rows : List Entries) → AmongSwept (take 0 among) s lead rows rows
none_swept among s lead rows = record { count = refl; swept = λ i a. absurd a; others = λ i n. refl }

-- the row that comes is as it was, and is swept now
pub one_more : (k i s : ℕ) (among : List ℕ) (lead : Entries) (old rows : List Entries) (x : Entries) → k < length among → AllDiffer among → i ≡ get_or among k 0 → i < length old → AmongSwept (take k among) s lead old rows
    → (was : Entries) → IsSwept s lead (get_or rows i was) x → AmongSwept (take (k + 1) among) s lead old (slice_set rows i x)
one_more k i s among lead old rows x h d e inside t was q = let w = subst (λ (es : Entries). IsSwept s lead es x) (value_of rows i was (let n = t.count in omega arith)) q in record {
  count = length-slice_set rows i x ∙ t.count;
  swept = λ j a. elim (same_or_not j i) [
    | inl q ↦ subst (λ (z : ℕ). IsSwept s lead (entries_at old z) (entries_at (slice_set rows i x) z)) (sym q)
        (subst (IsSwept s lead (entries_at old i)) (sym (here rows i x (let c = t.count in omega arith))) (subst (λ (es : Entries). IsSwept s lead es x) (t.others i (λ b. not_yet k among h d (subst (λ (z : ℕ). Among z (take k among)) e b))) w))
    | inr n ↦ subst (IsSwept s lead (entries_at old j)) (sym (there rows i x j n)) (t.swept j (elim (among_take_more k among j h a) [ inl b ↦ b | inr q ↦ absurd (n (q ∙ sym e)) ]))
  ];
  others = λ j n. there rows i x j (λ q. n (subst (λ (z : ℕ). Among z (take (k + 1) among)) (sym (q ∙ e)) (among_taken k among h)))
      ∙ t.others j (λ b. n (among_take k among j h b));
}

pub as_before : (k i s : ℕ) (among : List ℕ) (lead : Entries) (old rows : List Entries) → k < length among → AllDiffer among → i ≡ get_or among k 0 → AmongSwept (take k among) s lead old rows → entries_at rows i ≡ entries_at old i
as_before k i s among lead old rows h d e t = t.others i (λ b. not_yet k among h d (subst (λ (z : ℕ). Among z (take k among)) e b))

pub row_leaves : (k j i c s : ℕ) (among : List ℕ) (lead : Entries) (old rows : List Entries) (d : Entries) → k < length among → AllDiffer among → j ≡ get_or among k 0 → j < length old → AmongSwept (take k among) s lead old rows
    → i ≡ j → (at s (get_or rows j d)).num ≢ pos 0 → SweepLeaves s c lead (get_or rows j d) → RowLeaves s lead old i c
row_leaves k j i c s among lead old rows d h differ e inside t same touched leaves =
    let row : get_or rows j d ≡ entries_at old j = value_of rows j d (let n = t.count in omega arith) ∙ as_before k j s among lead old rows h differ e t in
    subst (λ (z : ℕ). RowLeaves s lead old z c) (sym same) (record {
      inside = inside;
      touched = subst (λ (es : Entries). (at s es).num ≢ pos 0) row touched;
      leaves = subst (SweepLeaves s c lead) row leaves;
    })

pub all_swept : (k s : ℕ) (among : List ℕ) (lead : Entries) (old rows : List Entries) → length among ≤ k → AmongSwept (take k among) s lead old rows → AmongSwept among s lead old rows
all_swept k s among lead old rows h t = subst (λ (is : List ℕ). AmongSwept is s lead old rows) (take_whole k among h) t

-- row l is taken out, those that the column touches are swept, and the lead is put at its place
module _ (l s : ℕ) (old : List Entries) (d : Entries) (h : l < length old) (touching : List ℕ) (touches : AreTouching s old touching) where
  pub inside_still : (i : ℕ) → Among i touching → i < length (slice_set old l [])
  inside_still i a = let m = touches.inside i a in let n = length-slice_set old l [] in omega arith

  swept_still : (lead : Entries) (new : List Entries) → AmongSwept touching s lead (slice_set old l []) new → (i : ℕ) → i < length old → i ≢ l → IsSwept s lead (entries_at old i) (entries_at new i)
  swept_still lead new w i k n = elim (among_or_not i touching) [
    | inl a ↦ subst (λ (es : Entries). IsSwept s lead es (entries_at new i)) (there old l [] i n) (w.swept i a)
    | inr b ↦ subst (IsSwept s lead (entries_at old i)) (sym (w.others i b ∙ there old l [] i n)) (stays s lead (entries_at old i) (zero_or_not (entries_at old i) (λ z. b (touches.all i k z))))
  ]
    where
      zero_or_not : (es : Entries) → ((at s es).num ≢ pos 0 → ⊥) → (at s es).num ≡ pos 0
      zero_or_not es z = grind (arith, ints)

  pub pivot_made : (gains lead : Entries) (new : List Entries) (new_gains : Entries) → ((c : ℕ) → IsQuotient (at c (get_or old l d)) (at s (get_or old l d)) (at c lead))
      → AmongSwept touching s lead (slice_set old l []) new → IsSwept s lead gains new_gains → IsPivoted l s old gains (slice_set new l lead) new_gains
  pivot_made gains lead new new_gains q w g = record {
    lead = lead;
    quotients = λ c. subst (λ (es : Entries). IsQuotient (at c es) (at s es) (at c lead)) (value_of old l d h) (q c);
    rows_swept = record {
      count = length-slice_set new l lead ∙ w.count ∙ length-slice_set old l [];
      here = here new l lead (let c = w.count in let n = length-slice_set old l [] in omega arith);
      others = λ i k n. subst (IsSwept s lead (entries_at old i)) (sym (there new l lead i n)) (swept_still lead new w i k n);
    };
    gains_swept = g;
  }

  pub lead_left : (gains : Entries) (c : ℕ) → QuotientLeaves (at c (get_or old l d)) (at s (get_or old l d)) → PivotLeaves l s old gains l c
  lead_left gains c q = InLead refl (subst (λ (es : Entries). QuotientLeaves (at c es) (at s es)) (value_of old l d h) q)

  -- a row that leaves the range is another one
  pub row_left : (gains lead : Entries) (i c : ℕ) → ((k : ℕ) → IsQuotient (at k (get_or old l d)) (at s (get_or old l d)) (at k lead)) → RowLeaves s lead (slice_set old l []) i c → PivotLeaves l s old gains i c
  row_left gains lead i c q w = elim (same_or_not i l) [
    | inl e ↦ absurd (w.touched (ap (λ (es : Entries). (at s es).num) (ap (entries_at (slice_set old l [])) e ∙ here old l [] h)))
    | inr n ↦ InRow lead (λ k. subst (λ (es : Entries). IsQuotient (at k es) (at s es) (at k lead)) (value_of old l d h) (q k)) (let m = w.inside in let k = length-slice_set old l [] in omega arith) n
        (subst (SweepLeaves s c lead) (there old l [] i n) w.leaves)
  ]

  pub gains_left : (gains lead : Entries) (i c : ℕ) → ((k : ℕ) → IsQuotient (at k (get_or old l d)) (at s (get_or old l d)) (at k lead)) → i ≡ length old → SweepLeaves s c lead gains → PivotLeaves l s old gains i c
  gains_left gains lead i c q e w = InGains lead (λ k. subst (λ (es : Entries). IsQuotient (at k es) (at s es) (at k lead)) (value_of old l d h) (q k)) e w
