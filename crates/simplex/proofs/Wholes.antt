-- Answers over every number over which they are whole.
use Rattle.std.proofs.Common.{◌≡◌, refl, sym, ap, ◌∙◌, suc, ℤ, pos, ◌*ℤ◌, arith, List, [], ◌∷◌}
use Rattle.std.proofs.lemmas.Int.{ints}
use Rattle.raml_num.proofs.Differences.{diffs, is_diff, diff_same}
use Rattle.raml_num.proofs.Signed.{cancelled}
use Rattle.frac128.specs.declared.Frac.{Frac}
use Rattle.linear_rows.specs.Laws.{InProportion}
use Rattle.simplex.specs.Standing.{Stands}
use Rattle.simplex.specs.Reading.{AreOver}

swap : (k m x : ℤ) → k *ℤ (m *ℤ x) ≡ m *ℤ (k *ℤ x)
swap k m x = rw (is_diff k, is_diff m, is_diff x) (simp diffs (diff_same _ _ _ _ (omega arith)))

turn : (a b c : ℤ) → a *ℤ (b *ℤ c) ≡ b *ℤ (c *ℤ a)
turn a b c = rw (is_diff a, is_diff b, is_diff c) (simp diffs (diff_same _ _ _ _ (omega arith)))

-- x is n over t and z over r
same_fraction : (t r n z : ℤ) (x : Frac) → Stands t n x → Stands r z x → r *ℤ n ≡ t *ℤ z
same_fraction t r n z x h k =
    let p = x.lowest.positive in
    cancelled (pos x.den) (r *ℤ n) (t *ℤ z) (λ e. omega (arith, ints))
    (turn (pos x.den) r n ∙ ap (λ (v : ℤ). r *ℤ v) (sym h.is) ∙ turn r x.num t ∙ swap x.num t r ∙ ap (λ (v : ℤ). t *ℤ v) k.is ∙ sym (turn (pos x.den) t z))

after_first : (d n : ℤ) (ns : List ℤ) (x : Frac) (xs : List Frac) → AreOver d (n ∷ ns) (x ∷ xs) → AreOver d ns xs
after_first d n ns x xs h = record { count = (let c = h.count in omega arith); each = λ i q. h.each (suc i) (omega arith) }

-- fractions over t are in proportion to the same ones over r
pub in_proportion : (t r : ℤ) (ns zs : List ℤ) (xs : List Frac) → AreOver t ns xs → AreOver r zs xs → InProportion t r ns zs
in_proportion t r [] [] xs h k = refl
in_proportion t r [] (z ∷ zs) xs h k = absurd (let c = h.count in let d = k.count in omega arith)
in_proportion t r (n ∷ ns) [] xs h k = absurd (let c = h.count in let d = k.count in omega arith)
in_proportion t r (n ∷ ns) (z ∷ zs) [] h k = absurd (let c = h.count in omega arith)
in_proportion t r (n ∷ ns) (z ∷ zs) (x ∷ xs) h k =
    rw (same_fraction t r n z x (h.each 0 (omega arith)) (k.each 0 (omega arith)), in_proportion t r ns zs xs (after_first t n ns x xs h) (after_first r z zs x xs k)) refl
