-- Lists that are made part by part are at least as long as their parts, and as what the parts are made for.
use Rattle.std.proofs.Common.{◌≡◌, ℕ, zero, suc, ◌+◌, ◌-◌, ◌≤◌, ◌<◌, inl, inr, List, [], ◌∷◌, ◌++◌, map, flat_map, filter, take, drop, length, get_or, nat_eq, refl, sym, ap, ◌∙◌, subst, arith, length-append, drop-cons, append_assoc, append-nil}
use Rattle.std.proofs.lemmas.List.{length-map, map-append, drop_all, take_all}
use Rattle.std.proofs.lemmas.Simd.{map-map}
use Rattle.raml_syntax.specs.declared.ty.Ty.{Ty}
use Rattle.raml_syntax.specs.Tree.{Type', Integer, Boolean, PairOf, ListOf, TreeOf, OptionOf}
use Rattle.raml_syntax.specs.Read.{ty_of}
use Rattle.base_poly.specs.Plain.{Plain, deg, degrees}
use Rattle.base_poly.specs.Indices.{IsIndex, AreIndices, zero_of, tuples_led, lists, indices_up_to, tuples_up_to, by_degree}
use Rattle.base_poly.specs.Read.{index_of, plains_of, context_of}
use Rattle.base_poly.specs.declared.index.Index.{Index}
use Rattle.base_poly.proofs.Among.{Among}
use Rattle.base_poly.proofs.Exact.{sound, whole, whole_tuples}

-- Each type has its zero index

pub zero_is_index : (A : Type') → IsIndex (zero_of A) A
zero_is_index Integer = tt
zero_is_index Boolean = tt
zero_is_index (PairOf A B) = (zero_is_index A, zero_is_index B)
zero_is_index (ListOf A) = tt
zero_is_index (TreeOf A) = tt
zero_is_index (OptionOf A) = tt

pub zero_degree : (A : Type') → deg (zero_of A) ≡ 0
zero_degree Integer = refl
zero_degree Boolean = refl
zero_degree (PairOf A B) = let a = zero_degree A in let b = zero_degree B in omega arith
zero_degree (ListOf A) = refl
zero_degree (TreeOf A) = refl
zero_degree (OptionOf A) = refl

there : {X : Type 0} (x : X) (xs : List X) → Among x xs → 0 < length xs
there x [] h = absurd h
there x (y ∷ ys) h = omega arith

pub some_index : (A : Type') (d : ℕ) → 0 < length (indices_up_to A d)
some_index A d = let z = zero_degree A in there (zero_of A) (indices_up_to A d) (whole A d (zero_of A) (zero_is_index A) (omega arith))

pub some_list : (items : ℕ → List Plain) (n d : ℕ) → 0 < length (lists items n d)
some_list items zero d = omega arith
some_list items (suc n) zero = omega arith
some_list items (suc n) (suc d) = omega arith

pub some_zeros : (As : List Type') → AreIndices (map zero_of As) As × (degrees (map zero_of As) ≡ 0)
some_zeros [] = (tt, refl)
some_zeros (A ∷ As) = let r = some_zeros As in let z = zero_degree A in ((zero_is_index A, r.0), (let s = r.1 in omega arith))

pub some_tuple : (As : List Type') (d : ℕ) → 0 < length (tuples_up_to As d)
some_tuple As d = let r = some_zeros As in there (map zero_of As) (tuples_up_to As d) (whole_tuples As d (map zero_of As) r.0 (let s = r.1 in omega arith))

-- Parts

module _ {Y Z : Type 0} (rests : ℕ → List Y) (both : Plain → Y → Z) (d : ℕ) where
  abbrev pub joined : List Plain → List Z
  joined firsts = flat_map (λ i. map (λ r. both i r) (rests (d - deg i))) firsts

  pub longer : ((k : ℕ) → 0 < length (rests k)) → (firsts : List Plain) → length firsts ≤ length (joined firsts)
  longer h [] = omega arith
  longer h (i ∷ is) =
      let a = length-append (map (λ r. both i r) (rests (d - deg i))) (joined is) in
      let b = length-map (rests (d - deg i)) (λ r. both i r) in
      let c = h (d - deg i) in
      let e = longer h is in omega arith

  at_head : (heads : List Index) (k : ℕ) (head : Index) → k < length heads → head ≡ get_or heads k head →
      joined (plains_of (drop k heads)) ≡ map (λ r. both (index_of head) r) (rests (d - deg (index_of head))) ++ joined (plains_of (drop (k + 1) heads))
  at_head heads k head h e =
      let next : suc k ≡ k + 1 = omega arith in
      ap (λ hs. joined (plains_of hs)) (drop-cons heads k head h ∙ (λ i. sym e i ∷ drop (next i) heads))

  -- with the part at the head, what is made so far is no longer than the whole
  pub part_within : (so_far whole : List Z) (heads : List Index) (k : ℕ) (head : Index) → k < length heads → head ≡ get_or heads k head →
      so_far ++ joined (plains_of (drop k heads)) ≡ whole → length so_far + length (rests (d - deg (index_of head))) ≤ length whole
  part_within so_far whole heads k head h e done =
      let a = sym (ap length done) ∙ length-append so_far (joined (plains_of (drop k heads))) in
      let b = ap length (at_head heads k head h e) ∙ length-append (map (λ r. both (index_of head) r) (rests (d - deg (index_of head)))) (joined (plains_of (drop (k + 1) heads))) in
      let c = length-map (rests (d - deg (index_of head))) (λ r. both (index_of head) r) in omega arith

  -- and with it the rest of the whole is still to come
  pub part_done : (so_far now whole : List Z) (heads : List Index) (k : ℕ) (head : Index) → k < length heads → head ≡ get_or heads k head →
      now ≡ so_far ++ map (λ r. both (index_of head) r) (rests (d - deg (index_of head))) → so_far ++ joined (plains_of (drop k heads)) ≡ whole →
      now ++ joined (plains_of (drop (k + 1) heads)) ≡ whole
  part_done so_far now whole heads k head h e new done =
      ap (λ l. l ++ joined (plains_of (drop (k + 1) heads))) new
      ∙ append_assoc so_far (map (λ r. both (index_of head) r) (rests (d - deg (index_of head)))) (joined (plains_of (drop (k + 1) heads)))
      ∙ ap (λ l. so_far ++ l) (sym (at_head heads k head h e)) ∙ done

pub low_head : (A : Type') (d : ℕ) (heads : List Index) (k : ℕ) (head : Index) → plains_of heads ≡ indices_up_to A d → k < length heads → head ≡ get_or heads k head → deg (index_of head) ≤ d
low_head A d heads k head same h e = (sound A d (index_of head) (subst (Among (index_of head)) same (found heads k head h e))).1
  where
    found : (heads : List Index) (k : ℕ) (head : Index) → k < length heads → head ≡ get_or heads k head → Among (index_of head) (plains_of heads)
    found [] k head h e = absurd (omega arith)
    found (x ∷ xs) zero head h e = inl (ap index_of (sym e))
    found (x ∷ xs) (suc k) head h e = inr (found xs k head (omega arith) e)

-- tuples behind other indices

abbrev pub behind : List Plain → Plain → List Plain → List Plain
behind before i r = before ++ i ∷ r

pub led_behind : (before : List Plain) (rests : ℕ → List (List Plain)) (d : ℕ) (firsts : List Plain) → joined rests (behind before) d firsts ≡ map (λ t. before ++ t) (tuples_led rests d firsts)
led_behind before rests d [] = refl
led_behind before rests d (i ∷ is) =
    (λ n. sym (map-map (λ t. before ++ t) (λ r. i ∷ r) (rests (d - deg i))) n ++ led_behind before rests d is n)
    ∙ sym (map-append (λ t. before ++ t) (map (λ r. i ∷ r) (rests (d - deg i))) (tuples_led rests d is))

pub behind_more : (before : List Plain) (i : Plain) (ts : List (List Plain)) → map (λ t. (before ++ i ∷ []) ++ t) ts ≡ map (behind before i) ts
behind_more before i [] = refl
behind_more before i (t ∷ ts) = λ n. append_assoc before (i ∷ []) t n ∷ behind_more before i ts n

pub all_led : (before : List Plain) (rests : ℕ → List (List Plain)) (d : ℕ) (firsts : List Plain) (heads : List Index) (k : ℕ) (now old : List (List Plain)) →
    length heads ≤ k → plains_of heads ≡ firsts → now ++ joined rests (behind before) d (plains_of (drop k heads)) ≡ old ++ joined rests (behind before) d (plains_of heads) →
    now ≡ old ++ map (λ t. before ++ t) (tuples_led rests d firsts)
all_led before rests d firsts heads k now old end same done =
    sym (append-nil now) ∙ ap (λ hs. now ++ joined rests (behind before) d (plains_of hs)) (sym (drop_all k heads end)) ∙ done
    ∙ ap (λ is. old ++ joined rests (behind before) d is) same ∙ ap (λ ts. old ++ ts) (led_behind before rests d firsts)

pub tuples_step : (types : List Ty) (first : Ty) (d : ℕ) → 1 ≤ length types → first ≡ get_or types 0 first →
    tuples_up_to (context_of types) d ≡ tuples_led (tuples_up_to (context_of (take (length types - 1) (drop 1 types)))) d (indices_up_to (ty_of first) d)
tuples_step [] first d h e = absurd (omega (arith, h))
tuples_step (A ∷ As) first d h e = λ n. tuples_led (tuples_up_to (context_of (sym (take_all (length (A ∷ As) - 1) As (omega arith)) n))) d (indices_up_to (ty_of (sym e n)) d)

pub behind_none : (found now ts : List (List Plain)) (before : List Index) → found ≡ [] → before ≡ [] → now ≡ found ++ map (λ t. plains_of before ++ t) ts → now ≡ ts
behind_none found now ts before h g new = new ∙ (λ n. h n ++ map (λ t. plains_of (g n) ++ t) ts) ∙ alone ts
  where
    alone : (ts : List (List Plain)) → map (λ t. [] ++ t) ts ≡ ts
    alone [] = refl
    alone (t ∷ ts) = ap (λ us. t ∷ us) (alone ts)

-- a list of entries is as long as the degree allows, however many entries are let in

same_parts : {Y : Type 0} (f g : ℕ → List Y) (both : Plain → Y → List Plain) (d : ℕ) (is : List Plain) → ((k : ℕ) → k ≤ d → f k ≡ g k) →
    flat_map (λ i. map (λ r. both i r) (f (d - deg i))) is ≡ flat_map (λ i. map (λ r. both i r) (g (d - deg i))) is
same_parts f g both d [] h = refl
same_parts f g both d (i ∷ is) h =
    (λ n. map (λ r. both i r) (h (d - deg i) (omega arith) n) ++ same_parts f g both d is h n)

pub enough_entries : (items : ℕ → List Plain) (n m d : ℕ) → d ≤ n → d ≤ m → lists items n d ≡ lists items m d
enough_entries items zero zero d h k = refl
enough_entries items zero (suc m) zero h k = refl
enough_entries items zero (suc m) (suc d) h k = absurd (omega (arith, h))
enough_entries items (suc n) zero zero h k = refl
enough_entries items (suc n) zero (suc d) h k = absurd (omega (arith, k))
enough_entries items (suc n) (suc m) zero h k = refl
enough_entries items (suc n) (suc m) (suc d) h k =
    ap (λ l. [] ∷ l) (same_parts (lists items n) (lists items m) (λ i r. i ∷ r) d (items d) (λ e g. enough_entries items n m e (omega arith) (omega arith)))

pub lists_step : (items : ℕ → List Plain) (d : ℕ) → 0 < d → lists items d d ≡ [] ∷ tuples_led (λ k. lists items k k) (d - 1) (items (d - 1))
lists_step items zero h = absurd (omega (arith, h))
lists_step items (suc d) h =
    ap (λ l. [] ∷ l) (same_parts (lists items d) (λ k. lists items k k) (λ i r. i ∷ r) d (items d) (λ k g. enough_entries items d k k (omega arith) (omega arith)))
    ∙ ap (λ e. [] ∷ tuples_led (λ k. lists items k k) e (items e)) back
  where
    back : d ≡ suc d - 1
    back = omega arith

-- By degree

pub by_degree_step : (n from : ℕ) (ts : List (List Plain)) → 0 < n → by_degree n from ts ≡ filter (λ t. nat_eq (degrees t) from) ts ++ by_degree (n - 1) (from + 1) ts
by_degree_step zero from ts h = absurd (omega (arith, h))
by_degree_step (suc n) from ts h = (λ i. filter (λ t. nat_eq (degrees t) from) ts ++ by_degree (less i) (more i) ts)
  where
    less : n ≡ suc n - 1
    less = omega arith

    more : 1 + from ≡ from + 1
    more = omega arith
