-- Indices and sizes as plain data, and what they count.
use Rattle.std.proofs.Common.{◌≡◌, ◌≢◌, true, false, ◌⊎◌, ◌≤◌, ◌<◌, ℕ, suc, ◌+◌, ◌*◌, List, [], ◌∷◌, length, drop, get_or, Box, Global, Option, ⊎_elim, refl, sym, ap, subst, ◌∙◌, arith}
use Rattle.std.specs.Prelude.{◌==◌}
use Rattle.std.proofs.lemmas.List.{drop_more}
use Rattle.base_poly.specs.Plain as p
use Rattle.base_poly.specs.Plain.{many, deg, entry_count}
use Rattle.base_poly.specs.Laws.{choose}
use Rattle.base_poly.specs.Read.{index_of, plains_of}
use Rattle.base_poly.specs.declared.index.Index.{Index}
use Rattle.base_poly.specs.declared.index.Index.TheVariants.{Pair}
use Rattle.base_poly.proofs.Many.{as_pair}
use Rattle.explain_sizes.specs.Sizes as s
use Rattle.explain_sizes.specs.Counts.{counts, each_counts}
use Rattle.explain_sizes.specs.Read.{sizes_of, size_step}
use Rattle.explain_sizes.specs.Shares.{Holds}
use Rattle.explain_sizes.specs.declared.share_type.Share.{Share}
use Rattle.explain_sizes.specs.declared.size.Size.{Size}
use Rattle.explain_sizes.specs.declared.size.Size.TheOpen as o
use Rattle.explain_sizes.specs.declared.size.Size.TheVariants as v
use Rattle.explain_sizes.specs.declared.size.Size.TheVariants.{rolls-Unit, rolls-Pair, rolls-List, rolls-Opt}
use Rattle.explain_sizes.specs.declared.size.Size.TheFolds.{fold-roll-Size}

as_none : (x : Size) → x ≡ v.Unit → sizes_of x ≡ s.NoSize
as_none x h = ap sizes_of h ∙ ap sizes_of (sym rolls-Unit) ∙ fold-roll-Size s.Sizes size_step o.Unit

as_parts : (x : Size) (a b : Box Size Global) → x ≡ v.Pair a b → sizes_of x ≡ s.Parts (sizes_of a.value) (sizes_of b.value)
as_parts x a b h = ap sizes_of h ∙ ap sizes_of (sym (rolls-Pair a b)) ∙ fold-roll-Size s.Sizes size_step (o.Pair a b)

pub as_elements : (x : Size) (n : ℕ) (a : Box Size Global) → x ≡ v.List n a → sizes_of x ≡ s.Elements n (sizes_of a.value)
as_elements x n a h = ap sizes_of h ∙ ap sizes_of (sym (rolls-List n a)) ∙ fold-roll-Size s.Sizes size_step (o.List n a)

as_content : (x : Size) (a : Box Size Global) → x ≡ v.Opt a → sizes_of x ≡ s.Content (sizes_of a.value)
as_content x a h = ap sizes_of h ∙ ap sizes_of (sym (rolls-Opt a)) ∙ fold-roll-Size s.Sizes size_step (o.Opt a)

abbrev pub IsNone : Size → Type 0
IsNone x = x ≡ v.Unit

abbrev pub IsParts : Size → Type 0
IsParts x = (a : Box Size Global) × (b : Box Size Global) × (x ≡ v.Pair a b)

abbrev pub IsElements : Size → Type 0
IsElements x = (n : ℕ) × (a : Box Size Global) × (x ≡ v.List n a)

abbrev pub IsContent : Size → Type 0
IsContent x = (a : Box Size Global) × (x ≡ v.Opt a)

-- Nothing is counted at the sizes of another type

pub pair_elsewhere : (i j : p.Plain) (x : Size) → IsNone x ⊎ (IsElements x ⊎ IsContent x) → counts (p.Pair i j) (sizes_of x) ≡ 0
pair_elsewhere i j x = ⊎_elim (λ h. at (as_none x h)) (⊎_elim (λ h. at (as_elements x h.0 h.1 h.2)) (λ h. at (as_content x h.0 h.1)))
  where
    at : {t : s.Sizes} → sizes_of x ≡ t → counts (p.Pair i j) (sizes_of x) ≡ counts (p.Pair i j) t
    at e = ap (counts (p.Pair i j)) e

pub list_elsewhere : (i r : p.Plain) (x : Size) → IsNone x ⊎ (IsParts x ⊎ IsContent x) → counts (p.Then i r) (sizes_of x) ≡ 0
list_elsewhere i r x = ⊎_elim (λ h. at (as_none x h)) (⊎_elim (λ h. at (as_parts x h.0 h.1 h.2)) (λ h. at (as_content x h.0 h.1)))
  where
    at : {t : s.Sizes} → sizes_of x ≡ t → counts (p.Then i r) (sizes_of x) ≡ counts (p.Then i r) t
    at e = ap (counts (p.Then i r)) e

pub option_elsewhere : (i : p.Plain) (x : Size) → IsNone x ⊎ (IsParts x ⊎ IsElements x) → counts (p.OneEntry i) (sizes_of x) ≡ 0
option_elsewhere i x = ⊎_elim (λ h. at (as_none x h)) (⊎_elim (λ h. at (as_parts x h.0 h.1 h.2)) (λ h. at (as_elements x h.0 h.1 h.2)))
  where
    at : {t : s.Sizes} → sizes_of x ≡ t → counts (p.OneEntry i) (sizes_of x) ≡ counts (p.OneEntry i) t
    at e = ap (counts (p.OneEntry i)) e

pub nothing_left : (den n k : ℕ) (share : Option Share) → k ≡ 0 → Holds den 0 share → Holds den (n * k) share
nothing_left den n k share e h = let f : 0 ≡ n * k = sym (ap (λ m. n * m) e ∙ grind arith) in subst (λ m. Holds den m share) f h

-- The parts of a pair, one after the other

pub pair_counted : (n : ℕ) (x : Index) (y : Size) (a b : Box Index Global) (u w : Box Size Global) (i j : Index) (l r : Size) →
    x ≡ Pair a b → y ≡ v.Pair u w → i ≡ a.value → l ≡ u.value → j ≡ b.value → r ≡ w.value →
    n * counts (index_of i) (sizes_of l) * counts (index_of j) (sizes_of r) ≡ n * counts (index_of x) (sizes_of y)
pair_counted n x y a b u w i j l r hx hy hi hl hj hr =
    regroup (counts (index_of i) (sizes_of l)) (counts (index_of j) (sizes_of r))
    ∙ ap (λ m. n * m) ((λ k. counts (index_of (hi k)) (sizes_of (hl k)) * counts (index_of (hj k)) (sizes_of (hr k))) ∙ (λ k. counts (sym (as_pair x a b hx) k) (sym (as_parts y u w hy) k)))
  where
    regroup : (c d : ℕ) → n * c * d ≡ n * (c * d)
    regroup c d = grind arith

-- List indices

pub some_entries : (n : ℕ) → (n == 0) ≡ false → n ≢ 0
some_entries n h e = absurd (true_is_not_false (sym (ap (λ m. m == 0) e) ∙ h))
  where
    true_is_not_false : true ≡ false → ⊥
    true_is_not_false p = cc

pub few_entries : (is : List p.Plain) → length is ≤ deg (many is)
few_entries [] = omega arith
few_entries (i ∷ is) = let more = few_entries is in omega (arith, more)

entries : (is : List p.Plain) → entry_count (many is) ≡ length is
entries [] = refl
entries (i ∷ is) = ap suc (entries is)

pub list_counted : (n c few x y : ℕ) (is : List p.Plain) (t z : s.Sizes) → length is ≡ few → few ≢ 0 → t ≡ s.Elements c z → x * y ≡ choose c few →
    n * x * y * each_counts (many is) z ≡ n * counts (many is) t
list_counted n c few x y [] t z h g k e = absurd (g (sym h))
list_counted n c few x y (i ∷ is) t z h g k e =
    let most = counts i z * each_counts (many is) z in
    regroup most ∙ ap (λ m. n * (m * most)) (e ∙ ap (choose c) (sym h ∙ sym (entries (i ∷ is)))) ∙ ap (λ u. n * counts (p.Then i (many is)) u) (sym k)
  where
    regroup : (m : ℕ) → n * x * y * m ≡ n * (x * y * m)
    regroup m = grind arith

pub list_nowhere : (is : List p.Plain) (few : ℕ) (x : Size) → length is ≡ few → few ≢ 0 → IsNone x ⊎ (IsParts x ⊎ IsContent x) → counts (many is) (sizes_of x) ≡ 0
list_nowhere [] few x h g k = absurd (g (sym h))
list_nowhere (i ∷ is) few x h g k = list_elsewhere i (many is) x k

-- One entry more of a list index

module _ (es : List Index) (k : ℕ) (x : Index) (below : k < length es) (is : x ≡ get_or es k x) where
  left : drop k es ≡ x ∷ drop (k + 1) es
  left = drop_more es k x below ∙ ap (λ y. y ∷ drop (k + 1) es) (sym is)

  pub entry_counted : (m n : ℕ) (z : s.Sizes) → m * each_counts (many (plains_of (drop k es))) z ≡ n → m * counts (index_of x) z * each_counts (many (plains_of (drop (k + 1) es))) z ≡ n
  entry_counted m n z h = regroup (counts (index_of x) z) (each_counts (many (plains_of (drop (k + 1) es))) z) ∙ ap (λ l. m * each_counts (many (plains_of l)) z) (sym left) ∙ h
    where
      regroup : (c d : ℕ) → m * c * d ≡ m * (c * d)
      regroup c d = grind arith

  pub rest_low : deg (many (plains_of (drop k es))) ≤ 4 → deg (many (plains_of (drop (k + 1) es))) ≤ 4
  rest_low h = let same = ap (λ l. deg (many (plains_of l))) left in omega (arith, h, same)
