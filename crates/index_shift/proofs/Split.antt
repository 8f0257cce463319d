-- Potential splits over two groups of variables.
use Rattle.std.proofs.Common.{◌≡◌, ◌≤◌, ℕ, suc, ◌+◌, ◌-◌, ◌*◌, ⊎_elim, inl, inr, Bool, true, false, cond, List, [], ◌∷◌, length, refl, sym, ap, ◌∙◌, arith}
use Rattle.std.specs.declared.cmp.Ordering.TheVariants.{Less}
use Rattle.raml_syntax.specs.Tree.{Type'}
use Rattle.raml_syntax.specs.Value.{Value}
use Rattle.base_poly.specs.Plain.{Plain, degrees, alike}
use Rattle.base_poly.specs.Indices.{AreIndices, Ascends, tuple_order, index_list}
use Rattle.base_poly.specs.Base.{total, bases}
use Rattle.base_poly.specs.Total.{alike_is, alike_self}
use Rattle.base_poly.proofs.Among.{Among, contains_among, among_contains, before_one}
use Rattle.base_poly.proofs.Sums.{total_same}
use Rattle.base_poly.proofs.Only.{never_both}
use Rattle.base_poly.proofs.Exact.{exact}
use Rattle.index_shift.specs.Potential.{Annotation, weighed, potential, moved}
use Rattle.index_shift.proofs.Brought.{Each, each_among, weighed_same, carried_worth}
use Rattle.index_shift.proofs.Carried.{carried_at, as_long}
use Rattle.index_shift.specs.Contexts.{marked_items, other_items, projects, projection, PotentialSplits}

true_false : true ≡ false → ⊥
true_false e = cc

-- Tuples

bases_split : (ms : List Bool) (t : List Plain) (vs : List Value) → length t ≤ length ms → bases t vs ≡ bases (marked_items ms t) (marked_items ms vs) * bases (other_items ms t) (other_items ms vs)
bases_split [] [] vs h = refl
bases_split [] (i ∷ t) vs h = absurd (omega (arith, h))
bases_split (m ∷ ms) [] vs h = none m
  where
    none : (m : Bool) → 1 ≡ bases (marked_items {X = Plain} (m ∷ ms) []) (marked_items (m ∷ ms) vs) * bases (other_items {X = Plain} (m ∷ ms) []) (other_items (m ∷ ms) vs)
    none true = refl
    none false = refl
bases_split (true ∷ ms) (i ∷ t) [] h = grind arith
bases_split (false ∷ ms) (i ∷ t) [] h = grind arith
bases_split (true ∷ ms) (i ∷ t) (v ∷ vs) h = let more = bases_split ms t vs (omega (arith, h)) in grind (arith, more)
bases_split (false ∷ ms) (i ∷ t) (v ∷ vs) h = let more = bases_split ms t vs (omega (arith, h)) in grind (arith, more)

degrees_split : (ms : List Bool) (t : List Plain) → length t ≤ length ms → degrees t ≡ degrees (marked_items ms t) + degrees (other_items ms t)
degrees_split [] [] h = refl
degrees_split [] (i ∷ t) h = absurd (omega (arith, h))
degrees_split (true ∷ ms) [] h = refl
degrees_split (false ∷ ms) [] h = refl
degrees_split (true ∷ ms) (i ∷ t) h = let more = degrees_split ms t (omega (arith, h)) in omega (arith, more)
degrees_split (false ∷ ms) (i ∷ t) h = let more = degrees_split ms t (omega (arith, h)) in omega (arith, more)

are_marked : (ms : List Bool) (t : List Plain) (As : List Type') → AreIndices t As → AreIndices (marked_items ms t) (marked_items ms As)
are_marked [] t As h = tt
are_marked (true ∷ ms) [] [] h = tt
are_marked (false ∷ ms) [] [] h = tt
are_marked (m ∷ ms) [] (A ∷ As) h = absurd h
are_marked (m ∷ ms) (i ∷ t) [] h = absurd h
are_marked (true ∷ ms) (i ∷ t) (A ∷ As) h = (h.0, are_marked ms t As h.1)
are_marked (false ∷ ms) (i ∷ t) (A ∷ As) h = are_marked ms t As h.1

are_others : (ms : List Bool) (t : List Plain) (As : List Type') → AreIndices t As → AreIndices (other_items ms t) (other_items ms As)
are_others [] t As h = tt
are_others (true ∷ ms) [] [] h = tt
are_others (false ∷ ms) [] [] h = tt
are_others (m ∷ ms) [] (A ∷ As) h = absurd h
are_others (m ∷ ms) (i ∷ t) [] h = absurd h
are_others (true ∷ ms) (i ∷ t) (A ∷ As) h = are_others ms t As h.1
are_others (false ∷ ms) (i ∷ t) (A ∷ As) h = (h.0, are_others ms t As h.1)

-- Sums

weighed_zero : {X : Type 0} (xs : List X) (q : Annotation) → weighed (λ x. 0) xs q ≡ 0
weighed_zero [] q = refl
weighed_zero (x ∷ xs) q = let more = weighed_zero xs (λ k. q (suc k)) in grind (arith, more)

weighed_more : {X : Type 0} (a : ℕ) (f g : X → ℕ) (xs : List X) (q : Annotation) → weighed (λ x. a * f x + g x) xs q ≡ a * weighed f xs q + weighed g xs q
weighed_more a f g [] q = grind arith
weighed_more a f g (x ∷ xs) q = let more = weighed_more a f g xs (λ k. q (suc k)) in grind (arith, more)

exchanged : {X Y : Type 0} (a : Y → ℕ) (f : Y → X → ℕ) (ys : List Y) (xs : List X) (q : Annotation) →
    total (λ y. a y * weighed (f y) xs q) ys ≡ weighed (λ x. total (λ y. a y * f y x) ys) xs q
exchanged a f [] xs q = sym (weighed_zero xs q)
exchanged a f (y ∷ ys) xs q =
    ap (λ n. a y * weighed (f y) xs q + n) (exchanged a f ys xs q) ∙ sym (weighed_more (a y) (f y) (λ x. total (λ y. a y * f y x) ys) xs q)

-- of a list in order, one is the tuple
none_of : (g : List Plain → ℕ) (u : List Plain) (js : List (List Plain)) → ((j : List Plain) → Among j js → alike u j ≡ false) → total (λ j. cond (alike u j) (g j) 0) js ≡ 0
none_of g u [] h = refl
none_of g u (j ∷ js) h = (λ n. cond (h j (inl refl) n) (g j) 0 + none_of g u js (λ k m. h k (inr m)) n)

one_of : (g : List Plain → ℕ) (u : List Plain) (js : List (List Plain)) → Ascends tuple_order js → Among u js → total (λ j. cond (alike u j) (g j) 0) js ≡ g u
one_of g u [] h m = absurd m
one_of g u (j ∷ js) h m = by (λ k. one_of g u js h.1 k) (alike u j) refl
  where
    later : alike u j ≡ false → Among u js
    later e = ⊎_elim (λ s. absurd (true_false (sym (alike_self u) ∙ ap (alike u) (sym s) ∙ e))) (λ k. k) m

    apart : (k : List Plain) → u ≡ j → Among k js → (b : Bool) → alike u k ≡ b → b ≡ false
    apart k same n true e =
        let before = before_one tuple_order j k js h.0 n in
        let self : tuple_order j j ≡ Less = ap (tuple_order j) (sym same ∙ alike_is u k e) ∙ before in absurd (never_both j j self self)
    apart k same n false e = refl

    by : (Among u js → total (λ j. cond (alike u j) (g j) 0) js ≡ g u) → (b : Bool) → alike u j ≡ b → total (λ j. cond (alike u j) (g j) 0) (j ∷ js) ≡ g u
    by more true e =
        let same = alike_is u j e in
        (λ n. cond (e n) (g j) 0 + none_of g u js (λ k m. let is = apart k same m (alike u k) refl in is) n) ∙ sym_zero (g j) ∙ ap g (sym same)
      where
        sym_zero : (n : ℕ) → n + 0 ≡ n
        sym_zero n = omega arith
    by more false e = (λ n. cond (e n) (g j) 0 + more (later e) n) ∙ none_before (g u)
      where
        none_before : (n : ℕ) → 0 + n ≡ n
        none_before n = omega arith

module _ (ms : List Bool) (As : List Type') (d : ℕ) (vs : List Value) (long : length As ≤ length ms) (q : Annotation) where
  listed : (Bs : List Type') (b : ℕ) (t : List Plain) → Among t (index_list Bs b) → AreIndices t Bs × (degrees t ≤ b)
  listed Bs b t m = ((exact Bs b).exactly t).0 (among_contains t (index_list Bs b) m)

  there : (Bs : List Type') (b : ℕ) (t : List Plain) → AreIndices t Bs → degrees t ≤ b → Among t (index_list Bs b)
  there Bs b t h low = contains_among t (index_list Bs b) (((exact Bs b).exactly t).1 (h, low))

  is_short : (t : List Plain) → AreIndices t As → length t ≤ length ms
  is_short t h = let same = as_long t As h in omega (arith, same, long)

  brought : (j : List Plain) → Each (λ t. Each (λ e. Among e.0 (index_list (marked_items ms As) (d - degrees j))) (projects ms j t)) (index_list As d)
  brought j = each_among _ (index_list As d) (λ t m. let h = listed As d t m in by t h.0 h.1 (alike (other_items ms t) j) refl)
    where
      by : (t : List Plain) → AreIndices t As → degrees t ≤ d → (b : Bool) → alike (other_items ms t) j ≡ b →
          Each {X = List Plain × ℕ} (λ e. Among e.0 (index_list (marked_items ms As) (d - degrees j))) (cond b ((marked_items ms t, 1) ∷ []) [])
      by t h low true e =
          let sum = degrees_split ms t (is_short t h) in
          let same = ap degrees (alike_is (other_items ms t) j e) in
          (there (marked_items ms As) (d - degrees j) (marked_items ms t) (are_marked ms t As h) (omega (arith, sum, same, low)), tt)
      by t h low false e = tt

  projection_worth : (j : List Plain) → potential (marked_items ms As) (d - degrees j) (moved (projection ms As d j) q) (marked_items ms vs)
      ≡ weighed (λ t. carried_at (marked_items ms vs) (projects ms j t)) (index_list As d) q
  projection_worth j = carried_worth (λ t. bases t (marked_items ms vs)) (index_list (marked_items ms As) (d - degrees j)) q (projects ms j) (index_list As d) (brought j)

  term : (t : List Plain) (j : List Plain) (b : Bool) → bases j (other_items ms vs) * carried_at (marked_items ms vs) (cond b ((marked_items ms t, 1) ∷ []) []) ≡ cond b (bases (marked_items ms t) (marked_items ms vs) * bases j (other_items ms vs)) 0
  term t j true = grind arith
  term t j false = grind arith

  tuple_worth : (t : List Plain) → Among t (index_list As d) → total (λ j. bases j (other_items ms vs) * carried_at (marked_items ms vs) (projects ms j t)) (index_list (other_items ms As) d) ≡ bases t vs
  tuple_worth t m =
      let h = listed As d t m in
      let short = is_short t h.0 in
      let sum = degrees_split ms t short in
      let low = h.1 in
      total_same _ (λ j. cond (alike (other_items ms t) j) (bases (marked_items ms t) (marked_items ms vs) * bases j (other_items ms vs)) 0) (index_list (other_items ms As) d) (λ j n. term t j (alike (other_items ms t) j))
      ∙ one_of (λ j. bases (marked_items ms t) (marked_items ms vs) * bases j (other_items ms vs)) (other_items ms t) (index_list (other_items ms As) d) (exact (other_items ms As) d).ascends
      (there (other_items ms As) d (other_items ms t) (are_others ms t As h.0) (omega (arith, sum, low)))
      ∙ sym (bases_split ms t vs short)

  splits : potential As d q vs ≡ total (λ j. bases j (other_items ms vs) * potential (marked_items ms As) (d - degrees j) (moved (projection ms As d j) q) (marked_items ms vs)) (index_list (other_items ms As) d)
  splits =
      sym (weighed_same _ (λ t. bases t vs) (index_list As d) q (each_among _ (index_list As d) (λ t m. tuple_worth t m)))
      ∙ sym (exchanged (λ j. bases j (other_items ms vs)) (λ j t. carried_at (marked_items ms vs) (projects ms j t)) (index_list (other_items ms As) d) (index_list As d) q)
      ∙ total_same _ _ (index_list (other_items ms As) d) (λ j n. ap (λ k. bases j (other_items ms vs) * k) (sym (projection_worth j)))

pub potential_splits : PotentialSplits
potential_splits ms As d q vs long = splits ms As d vs long q
