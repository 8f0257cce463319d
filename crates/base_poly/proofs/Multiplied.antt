-- Products of indices.
use Rattle.std.proofs.Common.{◌≡◌, ℕ, ◌+◌, ◌*◌, ◌^◌, ◌≤◌, ⊎_elim, List, [], ◌∷◌, ◌++◌, map, flat_map, length, refl, sym, ap, ◌∙◌, subst, arith}
use Rattle.std.proofs.Common.{length-append}
use Rattle.std.proofs.lemmas.List.{length-map}
use Rattle.std.proofs.lemmas.Nat.{pow-add}
use Rattle.std.proofs.Math.Nat.{pow-le-pow_right, mul-le-mul_left, mul-le-mul_right}
use Rattle.raml_syntax.specs.Tree.{Type', Integer, Boolean, PairOf, ListOf, TreeOf, OptionOf}
use Rattle.raml_syntax.specs.Value.{Value, Both, Just}
use Rattle.base_poly.specs.Plain.{Plain, Unit', Pair, End, Then, NoEntry, OneEntry, deg}
use Rattle.base_poly.specs.Indices.{IsIndex}
use Rattle.base_poly.specs.Base.{total, elements, base, over}
use Rattle.base_poly.specs.Product.{mixed, product}
use Rattle.base_poly.proofs.Among.{Among, among_either, among_mapped, among_part}
use Rattle.base_poly.proofs.Exact.{as_tree, as_list}
use Rattle.base_poly.proofs.Sums.{total_joined, total_same, total_scaled, total_sum, total_none, total_map, total_parts, total_products, over_more}

-- What the product has

module _ (A : Type') (i r : Plain) (with_first with_rest : Plain → List Plain)
    (first : (j k : Plain) → IsIndex j A → Among k (with_first j) → IsIndex k A × (deg k ≤ deg i + deg j))
    (rest : (y k : Plain) → IsIndex y (ListOf A) → Among k (with_rest y) → IsIndex k (ListOf A) × (deg k ≤ deg r + deg y))
    (hi : IsIndex i A) (hr : IsIndex r (ListOf A)) where
  mixed_terms : (y k : Plain) → IsIndex y (ListOf A) → Among k (mixed i r with_first with_rest y) → IsIndex k (ListOf A) × (deg k ≤ 1 + deg i + deg r + deg y)
  mixed_terms End k h m = ⊎_elim (λ e. subst (λ q. IsIndex q (ListOf A) × (deg q ≤ 1 + deg i + deg r + 0)) e ((hi, hr), omega arith)) (λ n. absurd n) m
  mixed_terms (Then j s) k h m = ⊎_elim
      (λ g. let p = among_mapped (λ k. Then i k) k (with_rest (Then j s)) g in let t = rest (Then j s) p.0 h p.1 in
      subst (λ q. IsIndex q (ListOf A) × (deg q ≤ 1 + deg i + deg r + (1 + deg j + deg s))) p.2 ((hi, t.0), (let b = t.1 in omega arith)))
      (λ g. ⊎_elim
      (λ g. let p = among_mapped (λ k. Then j k) k (mixed i r with_first with_rest s) g in let t = mixed_terms s p.0 h.1 p.1 in
      subst (λ q. IsIndex q (ListOf A) × (deg q ≤ 1 + deg i + deg r + (1 + deg j + deg s))) p.2 ((h.0, t.0), (let b = t.1 in omega arith)))
      (λ g. let p = among_part (λ h. map (λ k. Then h k) (with_rest s)) k (with_first j) g in let q = among_mapped (λ k. Then p.0 k) k (with_rest s) p.2 in
      let t = first j p.0 h.0 p.1 in let u = rest s q.0 h.1 q.1 in
      subst (λ q. IsIndex q (ListOf A) × (deg q ≤ 1 + deg i + deg r + (1 + deg j + deg s))) q.2 ((t.0, u.0), (let b = t.1 in let c = u.1 in omega arith)))
      (among_either k (map (λ k. Then j k) (mixed i r with_first with_rest s)) (flat_map (λ h. map (λ k. Then h k) (with_rest s)) (with_first j)) g))
      (among_either k (map (λ k. Then i k) (with_rest (Then j s))) (map (λ k. Then j k) (mixed i r with_first with_rest s) ++ flat_map (λ h. map (λ k. Then h k) (with_rest s)) (with_first j)) m)
  mixed_terms y k h m = absurd h

pub product_terms : (x : Plain) (A : Type') (y k : Plain) → IsIndex x A → IsIndex y A → Among k (product x y) → IsIndex k A × (deg k ≤ deg x + deg y)
product_terms Unit' Integer y k hx hy m = ⊎_elim (λ e. subst (λ q. IsIndex q Integer × (deg q ≤ 0 + deg y)) e (tt, omega arith)) (λ n. absurd n) m
product_terms Unit' Boolean y k hx hy m = ⊎_elim (λ e. subst (λ q. IsIndex q Boolean × (deg q ≤ 0 + deg y)) e (tt, omega arith)) (λ n. absurd n) m
product_terms Unit' A y k hx hy m = absurd hx
product_terms (Pair a b) (PairOf A B) (Pair c d) k hx hy m =
    let p = among_part (λ h. map (λ k. Pair h k) (product b d)) k (product a c) m in
    let q = among_mapped (λ k. Pair p.0 k) k (product b d) p.2 in
    let t = product_terms a A c p.0 hx.0 hy.0 p.1 in
    let u = product_terms b B d q.0 hx.1 hy.1 q.1 in
    subst (λ q. IsIndex q (PairOf A B) × (deg q ≤ deg a + deg b + (deg c + deg d))) q.2 ((t.0, u.0), (let e = t.1 in let f = u.1 in omega arith))
product_terms (Pair a b) (PairOf A B) y k hx hy m = absurd hy
product_terms (Pair a b) A y k hx hy m = absurd hx
product_terms End A End k hx hy m = ⊎_elim (λ e. subst (λ q. IsIndex q A × (deg q ≤ 0 + 0)) e (hy, omega arith)) (λ n. absurd n) m
product_terms End A (Then j s) k hx hy m = ⊎_elim (λ e. subst (λ q. IsIndex q A × (deg q ≤ 0 + deg (Then j s))) e (hy, omega arith)) (λ n. absurd n) m
product_terms End A y k hx hy m = absurd m
product_terms (Then i r) (ListOf A) y k hx hy m =
    mixed_terms A i r (product i) (product r) (λ j k. product_terms i A j k hx.0) (λ z k. product_terms r (ListOf A) z k hx.1) hx.0 hx.1 y k hy m
product_terms (Then i r) (TreeOf A) y k hx hy m =
    let t = mixed_terms A i r (product i) (product r) (λ j k. product_terms i A j k hx.0)
    (λ z k hz n. let u = product_terms r (TreeOf A) z k hx.1 (as_tree z A hz) n in (as_list k A u.0, u.1)) hx.0 (as_list r A hx.1) y k (as_list y A hy) m in
    (as_tree k A t.0, t.1)
product_terms (Then i r) A y k hx hy m = absurd hx
product_terms NoEntry A NoEntry k hx hy m = ⊎_elim (λ e. subst (λ q. IsIndex q A × (deg q ≤ 0 + 0)) e (hy, omega arith)) (λ n. absurd n) m
product_terms NoEntry A (OneEntry j) k hx hy m = ⊎_elim (λ e. subst (λ q. IsIndex q A × (deg q ≤ 0 + deg (OneEntry j))) e (hy, omega arith)) (λ n. absurd n) m
product_terms NoEntry A y k hx hy m = absurd m
product_terms (OneEntry i) A NoEntry k hx hy m = ⊎_elim (λ e. subst (λ q. IsIndex q A × (deg q ≤ deg (OneEntry i) + 0)) e (hx, omega arith)) (λ n. absurd n) m
product_terms (OneEntry i) (OptionOf A) (OneEntry j) k hx hy m =
    let p = among_mapped OneEntry k (product i j) m in
    let t = product_terms i A j p.0 hx hy p.1 in
    subst (λ q. IsIndex q (OptionOf A) × (deg q ≤ 1 + deg i + (1 + deg j))) p.2 (t.0, (let e = t.1 in omega arith))
product_terms (OneEntry i) A (OneEntry j) k hx hy m = absurd hx
product_terms (OneEntry i) A y k hx hy m = absurd m

-- What the product is worth

pub base_over : (A : Type') (x : Plain) (v : Value) → IsIndex x (ListOf A) → base x v ≡ over x (elements v)
base_over A End v h = refl
base_over A (Then i r) v h = refl
base_over A x v h = absurd h

-- at one element more, with what stands for the parts
spread : (a b R S I J t1 t2 t3 : ℕ) → t1 + (t2 + t3) ≡ I * J → (a * R + I) * (b * S + J) ≡ (a * (R * J) + t1) + ((b * (I * S) + t2) + ((a * b) * (R * S) + t3))
spread a b R S I J t1 t2 t3 h = grind arith

no_elements : (i r : Plain) → over (Then i r) [] ≡ 0
no_elements i r = refl

module _ (A : Type') (i r : Plain) (with_first with_rest : Plain → List Plain)
    (first : (j : Plain) → IsIndex j A → (v : Value) → base i v * base j v ≡ total (λ k. base k v) (with_first j))
    (rest : (y : Plain) → IsIndex y (ListOf A) → (vs : List Value) → over r vs * over y vs ≡ total (λ k. over k vs) (with_rest y)) where
  -- what the three kinds of terms are worth
  abbrev one_kind : (h : Plain) (ks : List Plain) (vs : List Value) → ℕ
  one_kind h ks vs = total (λ k. over (Then h k) vs) ks

  abbrev both_kind : (hs ks : List Plain) (vs : List Value) → ℕ
  both_kind hs ks vs = total (λ h. total (λ k. over (Then h k) vs) ks) hs

  kinds : (j s : Plain) (vs : List Value) → total (λ k. over k vs) (mixed i r with_first with_rest (Then j s))
      ≡ one_kind i (with_rest (Then j s)) vs + (one_kind j (mixed i r with_first with_rest s) vs + both_kind (with_first j) (with_rest s) vs)
  kinds j s vs =
      let f : Plain → ℕ = λ k. over k vs in
      let mine = map (λ k. Then i k) (with_rest (Then j s)) in
      let other = map (λ k. Then j k) (mixed i r with_first with_rest s) in
      let part : Plain → List Plain = λ h. map (λ k. Then h k) (with_rest s) in
      let e1 = total_joined f mine (other ++ flat_map part (with_first j)) in
      let e2 = total_joined f other (flat_map part (with_first j)) in
      let e3 = total_map f (λ k. Then i k) (with_rest (Then j s)) in
      let e4 = total_map f (λ k. Then j k) (mixed i r with_first with_rest s) in
      let e5 = total_parts f part (with_first j) ∙ total_same (λ h. total f (part h)) (λ h. total (λ k. over (Then h k) vs) (with_rest s)) (with_first j) (λ h m. total_map f (λ k. Then h k) (with_rest s)) in
      e1 ∙ (λ n. e3 n + (e2 ∙ (λ m. e4 m + e5 m)) n)

  one_more : (h : Plain) (ks : List Plain) (v : Value) (vs : List Value) → one_kind h ks (v ∷ vs) ≡ base h v * total (λ k. over k vs) ks + one_kind h ks vs
  one_more h ks v vs =
      total_same (λ k. over (Then h k) (v ∷ vs)) (λ k. base h v * over k vs + over (Then h k) vs) ks (λ k m. over_more h k v vs)
      ∙ total_sum (λ k. base h v * over k vs) (λ k. over (Then h k) vs) ks
      ∙ ap (λ n. n + total (λ k. over (Then h k) vs) ks) (total_scaled (base h v) (λ k. over k vs) ks)

  both_more : (hs ks : List Plain) (v : Value) (vs : List Value) → both_kind hs ks (v ∷ vs) ≡ total (λ h. base h v) hs * total (λ k. over k vs) ks + both_kind hs ks vs
  both_more hs ks v vs =
      total_same (λ h. total (λ k. over (Then h k) (v ∷ vs)) ks) (λ h. base h v * total (λ k. over k vs) ks + total (λ k. over (Then h k) vs) ks) hs (λ h m. one_more h ks v vs)
      ∙ total_sum (λ h. base h v * total (λ k. over k vs) ks) (λ h. total (λ k. over (Then h k) vs) ks) hs
      ∙ ap (λ n. n + total (λ h. total (λ k. over (Then h k) vs) ks) hs) (product_out hs (total (λ k. over k vs) ks))
    where
      product_out : (hs : List Plain) (n : ℕ) → total (λ h. base h v * n) hs ≡ total (λ h. base h v) hs * n
      product_out [] n = grind arith
      product_out (h ∷ hs) n = let more = product_out hs n in grind arith

  no_kinds : (j : Plain) (hs ks ls ms : List Plain) → one_kind i ks [] + (one_kind j ls [] + both_kind hs ms []) ≡ 0
  no_kinds j hs ks ls ms =
      let a = total_none (λ k. over (Then i k) []) ks (λ k. refl) in
      let b = total_none (λ k. over (Then j k) []) ls (λ k. refl) in
      let c = total_none (λ h. total (λ k. over (Then h k) []) ms) hs (λ h. total_none (λ k. over (Then h k) []) ms (λ k. refl)) in
      omega (arith, a, b, c)

  at_more : (j s : Plain) → IsIndex j A → IsIndex s (ListOf A) → ((vs : List Value) → over (Then i r) vs * over s vs ≡ total (λ k. over k vs) (mixed i r with_first with_rest s)) →
      (vs : List Value) → over (Then i r) vs * over (Then j s) vs ≡ one_kind i (with_rest (Then j s)) vs + (one_kind j (mixed i r with_first with_rest s) vs + both_kind (with_first j) (with_rest s) vs)
  at_more j s hj hs less [] = sym (no_kinds j (with_first j) (with_rest (Then j s)) (mixed i r with_first with_rest s) (with_rest s))
  at_more j s hj hs less (v ∷ vs) =
      let whole = spread (base i v) (base j v) (over r vs) (over s vs) (over (Then i r) vs) (over (Then j s) vs) (one_kind i (with_rest (Then j s)) vs) (one_kind j (mixed i r with_first with_rest s) vs) (both_kind (with_first j) (with_rest s) vs)
      (sym (at_more j s hj hs less vs)) in
      let mine = ap (λ n. base i v * n + one_kind i (with_rest (Then j s)) vs) (rest (Then j s) (hj, hs) vs) ∙ sym (one_more i (with_rest (Then j s)) v vs) in
      let other = ap (λ n. base j v * n + one_kind j (mixed i r with_first with_rest s) vs) (less vs) ∙ sym (one_more j (mixed i r with_first with_rest s) v vs) in
      let both = (λ n. first j hj v n * rest s hs vs n + both_kind (with_first j) (with_rest s) vs) ∙ sym (both_more (with_first j) (with_rest s) v vs) in
      (λ n. over_more i r v vs n * over_more j s v vs n) ∙ whole ∙ (λ n. mine n + (other n + both n))

  mixed_worth : (y : Plain) → IsIndex y (ListOf A) → (vs : List Value) → over (Then i r) vs * over y vs ≡ total (λ k. over k vs) (mixed i r with_first with_rest y)
  mixed_worth End h vs = omega arith
  mixed_worth (Then j s) h vs = at_more j s h.0 h.1 (mixed_worth s h.1) vs ∙ sym (kinds j s vs)
  mixed_worth y h vs = absurd h

pairs_worth : (hs ks : List Plain) (v w : Value) → total (λ k. base k (Both v w)) (flat_map (λ h. map (λ k. Pair h k) ks) hs) ≡ total (λ h. base h v) hs * total (λ k. base k w) ks
pairs_worth hs ks v w =
    total_parts (λ k. base k (Both v w)) (λ h. map (λ k. Pair h k) ks) hs
    ∙ total_same (λ h. total (λ k. base k (Both v w)) (map (λ k. Pair h k) ks)) (λ h. total (λ k. base h v * base k w) ks) hs (λ h m. total_map (λ k. base k (Both v w)) (λ k. Pair h k) ks)
    ∙ total_products (λ h. base h v) (λ k. base k w) hs ks

no_pairs : (v : Value) → ((h k : Plain) → base (Pair h k) v ≡ 0) → (hs ks : List Plain) → total (λ k. base k v) (flat_map (λ h. map (λ k. Pair h k) ks) hs) ≡ 0
no_pairs v none hs ks =
    total_parts (λ k. base k v) (λ h. map (λ k. Pair h k) ks) hs
    ∙ total_none (λ h. total (λ k. base k v) (map (λ k. Pair h k) ks)) hs (λ h. total_map (λ k. base k v) (λ k. Pair h k) ks ∙ total_none (λ k. base (Pair h k) v) ks (λ k. none h k))

crossed : (a b c d : ℕ) → (a * b) * (c * d) ≡ (a * c) * (b * d)
crossed a b c d = grind arith

as_bases : (A : Type') (ks : List Plain) (v : Value) → ((k : Plain) → Among k ks → IsIndex k (ListOf A)) → total (λ k. over k (elements v)) ks ≡ total (λ k. base k v) ks
as_bases A ks v h = total_same (λ k. over k (elements v)) (λ k. base k v) ks (λ k m. sym (base_over A k v (h k m)))

some_worth : (ks : List Plain) (v : Value) → total (λ k. base k (Just v)) (map OneEntry ks) ≡ total (λ k. base k v) ks
some_worth ks v = total_map (λ k. base k (Just v)) OneEntry ks

-- options that hold nothing, and values of other types
no_content : (v : Value) → ((k : Plain) → base (OneEntry k) v ≡ 0) → (ks : List Plain) → total (λ k. base k v) (map OneEntry ks) ≡ 0
no_content v none ks = total_map (λ k. base k v) OneEntry ks ∙ total_none (λ k. base (OneEntry k) v) ks none

mutual
  pub product_worth : (x : Plain) (A : Type') (y : Plain) → IsIndex x A → IsIndex y A → (v : Value) → base x v * base y v ≡ total (λ k. base k v) (product x y)
  product_worth Unit' Integer Unit' hx hy v = refl
  product_worth Unit' Integer y hx hy v = absurd hy
  product_worth Unit' Boolean Unit' hx hy v = refl
  product_worth Unit' Boolean y hx hy v = absurd hy
  product_worth Unit' A y hx hy v = absurd hx
  product_worth (Pair a b) (PairOf A B) (Pair c d) hx hy (Both v w) =
      crossed (base a v) (base b w) (base c v) (base d w)
      ∙ (λ n. product_worth a A c hx.0 hy.0 v n * product_worth b B d hx.1 hy.1 w n)
      ∙ sym (pairs_worth (product a c) (product b d) v w)
  product_worth (Pair a b) (PairOf A B) (Pair c d) hx hy v = sym (no_pairs v (λ h k. refl) (product a c) (product b d))
  product_worth (Pair a b) (PairOf A B) y hx hy v = absurd hy
  product_worth (Pair a b) A y hx hy v = absurd hx
  product_worth End A End hx hy v = omega arith
  product_worth End A (Then j s) hx hy v = omega arith
  product_worth End (ListOf A) y hx hy v = absurd hy
  product_worth End (TreeOf A) y hx hy v = absurd hy
  product_worth End A y hx hy v = absurd hx
  product_worth (Then i r) (ListOf A) y hx hy v =
      ap (λ n. base (Then i r) v * n) (base_over A y v hy)
      ∙ mixed_worth A i r (product i) (product r) (λ j hj u. product_worth i A j hx.0 hj u) (λ z hz vs. product_over r A z hx.1 hz vs) y hy (elements v)
      ∙ as_bases A (product (Then i r) y) v (λ k m. (product_terms (Then i r) (ListOf A) y k hx hy m).0)
  product_worth (Then i r) (TreeOf A) y hx hy v =
      ap (λ n. base (Then i r) v * n) (base_over A y v (as_list y A hy))
      ∙ mixed_worth A i r (product i) (product r) (λ j hj u. product_worth i A j hx.0 hj u) (λ z hz vs. product_over r A z (as_list r A hx.1) hz vs) y (as_list y A hy) (elements v)
      ∙ as_bases A (product (Then i r) y) v (λ k m. as_list k A (product_terms (Then i r) (TreeOf A) y k hx hy m).0)
  product_worth (Then i r) A y hx hy v = absurd hx
  product_worth NoEntry A NoEntry hx hy v = omega arith
  product_worth NoEntry A (OneEntry j) hx hy v = omega arith
  product_worth NoEntry (OptionOf A) y hx hy v = absurd hy
  product_worth NoEntry A y hx hy v = absurd hx
  product_worth (OneEntry i) A NoEntry hx hy v = grind arith
  product_worth (OneEntry i) (OptionOf A) (OneEntry j) hx hy (Just v) = product_worth i A j hx hy v ∙ sym (some_worth (product i j) v)
  product_worth (OneEntry i) (OptionOf A) (OneEntry j) hx hy v = sym (no_content v (λ k. refl) (product i j))
  product_worth (OneEntry i) (OptionOf A) y hx hy v = absurd hy
  product_worth (OneEntry i) A y hx hy v = absurd hx

  pub product_over : (x : Plain) (A : Type') (y : Plain) → IsIndex x (ListOf A) → IsIndex y (ListOf A) → (vs : List Value) → over x vs * over y vs ≡ total (λ k. over k vs) (product x y)
  product_over End A End hx hy vs = omega arith
  product_over End A (Then j s) hx hy vs = omega arith
  product_over End A y hx hy vs = absurd hy
  product_over (Then i r) A y hx hy vs =
      mixed_worth A i r (product i) (product r) (λ j hj u. product_worth i A j hx.0 hj u) (λ z hz us. product_over r A z hx.1 hz us) y hy vs
  product_over x A y hx hy vs = absurd hx

-- How many terms it has

grows : (m n : ℕ) → m ≤ n → 3 ^ m ≤ 3 ^ n
grows m n h = pow-le-pow_right {n = 3} (omega arith) h

thrice : (n : ℕ) → 3 ^ (1 + n) ≡ 3 * 3 ^ n
thrice n = pow-add 3 1 n

length_parts : (hs ks : List Plain) (both : Plain → Plain → Plain) → length (flat_map (λ h. map (λ k. both h k) ks) hs) ≡ length hs * length ks
length_parts [] ks both = grind arith
length_parts (h ∷ hs) ks both =
    length-append (map (λ k. both h k) ks) (flat_map (λ h. map (λ k. both h k) ks) hs)
    ∙ (λ n. length-map ks (λ k. both h k) n + length_parts hs ks both n)
    ∙ grind arith

times : (a b m n : ℕ) → a ≤ 3 ^ m → b ≤ 3 ^ n → a * b ≤ 3 ^ (m + n)
times a b m n h k = let e = pow-add 3 m n in let f = mul-le-mul_right b h in let g = mul-le-mul_left (3 ^ m) k in omega (arith, e, f, g)

module _ (i r : Plain) (with_first with_rest : Plain → List Plain)
    (first : (j : Plain) → length (with_first j) ≤ 3 ^ (deg i + deg j)) (rest : (y : Plain) → length (with_rest y) ≤ 3 ^ (deg r + deg y)) where
  mixed_few : (y : Plain) → length (mixed i r with_first with_rest y) ≤ 3 ^ (1 + deg i + deg r + deg y)
  mixed_few End = grows 0 (1 + deg i + deg r + 0) (omega arith)
  mixed_few (Then j s) =
      let mine = map (λ k. Then i k) (with_rest (Then j s)) in
      let other = map (λ k. Then j k) (mixed i r with_first with_rest s) in
      let both = flat_map (λ h. map (λ k. Then h k) (with_rest s)) (with_first j) in
      let n = (deg i + deg j) + (deg r + deg s) in
      let a = length-append mine (other ++ both) in
      let b = length-append other both in
      let c = length-map (with_rest (Then j s)) (λ k. Then i k) in
      let d = length-map (mixed i r with_first with_rest s) (λ k. Then j k) in
      let e = length_parts (with_first j) (with_rest s) Then in
      let f = times _ _ (deg i + deg j) (deg r + deg s) (first j) (rest s) in
      let g = rest (Then j s) in
      let h = mixed_few s in
      let u = grows (deg r + (1 + deg j + deg s)) (1 + n) (omega arith) in
      let v = grows (1 + deg i + deg r + deg s) (1 + n) (omega arith) in
      let w = thrice n in
      let x = thrice (1 + n) in
      let y = grows (1 + (1 + n)) (1 + deg i + deg r + (1 + deg j + deg s)) (omega arith) in
      omega (arith, a, b, c, d, e, f, g, h, u, v, w, x, y)
  mixed_few y = omega arith

pub product_few : (x y : Plain) → length (product x y) ≤ 3 ^ (deg x + deg y)
product_few Unit' y = grows 0 (0 + deg y) (omega arith)
product_few (Pair a b) (Pair c d) =
    let e = length_parts (product a c) (product b d) Pair in
    let f = times _ _ (deg a + deg c) (deg b + deg d) (product_few a c) (product_few b d) in
    let g = grows ((deg a + deg c) + (deg b + deg d)) (deg a + deg b + (deg c + deg d)) (omega arith) in
    omega (arith, e, f, g)
product_few (Pair a b) y = omega arith
product_few End End = grows 0 (0 + 0) (omega arith)
product_few End (Then j s) = grows 0 (0 + deg (Then j s)) (omega arith)
product_few End y = omega arith
product_few (Then i r) y = mixed_few i r (product i) (product r) (product_few i) (product_few r) y
product_few NoEntry NoEntry = grows 0 (0 + 0) (omega arith)
product_few NoEntry (OneEntry j) = grows 0 (0 + deg (OneEntry j)) (omega arith)
product_few NoEntry y = omega arith
product_few (OneEntry i) NoEntry = grows 0 (deg (OneEntry i) + 0) (omega arith)
product_few (OneEntry i) (OneEntry j) =
    let e = length-map (product i j) OneEntry in
    let f = product_few i j in
    let g = grows (deg i + deg j) (1 + deg i + (1 + deg j)) (omega arith) in
    omega (arith, e, f, g)
product_few (OneEntry i) y = omega arith
