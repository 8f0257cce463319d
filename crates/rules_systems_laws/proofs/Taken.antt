-- Multiples that come to the same.
use Rattle.std.proofs.Common.{◌≡◌, refl, ap, sym, ◌∙◌, arith, subst}
use Rattle.std.specs.Prelude.{ℕ, zero, suc, ◌+◌, ◌*◌, ◌<◌, ◌==◌, if◌then◌else◌, nat_eq, Bool, true, false, cond, List, [], ◌∷◌, map, length, slice_index_or, slice_set, Contains}
use Rattle.std.proofs.lemmas.List.{get_or-set_same, get_or-set_other, length-set}
use Rattle.std.proofs.lemmas.Bool.Decides.{nat_tests}
use Rattle.base_poly.specs.Base.{total}
use Rattle.index_shift.specs.Potential.{Annotation}
use Rattle.index_shift.specs.Potential as i
use Rattle.index_shift.specs.declared.entry.Entry.{Entry}
use Rattle.rules_spec.specs.Plan.{Called}
use Rattle.rules_spec.specs.Numbers.{Sides, Known}
use Rattle.rules_spec.specs.Kinds.{Amount, amounts}
use Rattle.rules_spec.specs.Walk.{at, added, brought, multiples, used}
use Rattle.rules_spec.proofs.Calls.{moved_times}

abbrev get : List Amount → ℕ → Amount
get q k = at (amounts 1) q k

abbrev nothing : Amount
nothing = record { plus = 0; minus = 0 }

-- One of the two numbers of an amount, by which sums and multiples go.
pub record Reading (f : Amount → ℕ) : Type 0 where
  pub none : f nothing ≡ 0
  pub plus : (x y : Amount) → f ((amounts 1).plus x y) ≡ f x + f y
  pub times : (n : ℕ) (x : Amount) → f ((amounts 1).times n x) ≡ n * f x

pub plus_read : Reading (λ x. x.plus)
plus_read = record { none = refl; plus = λ x y. refl; times = λ n x. refl }

pub minus_read : Reading (λ x. x.minus)
minus_read = record { none = refl; plus = λ x y. refl; times = λ n x. refl }

-- lists of amounts are equal where both numbers are, at each place
lists_same : (p q : List Amount) → length p ≡ length q → ((k : ℕ) → k < length p → (get p k).plus ≡ (get q k).plus) → ((k : ℕ) → k < length p → (get p k).minus ≡ (get q k).minus) → p ≡ q
lists_same [] [] l f g = refl
lists_same [] (y ∷ q) l f g = absurd (omega (arith, l))
lists_same (x ∷ p) [] l f g = absurd (omega (arith, l))
lists_same (x ∷ p) (y ∷ q) l f g =
    λ i. record { plus = f 0 (omega arith) i; minus = g 0 (omega arith) i }
    ∷ lists_same p q (omega (arith, l)) (λ k h. f (suc k) (omega (arith, h))) (λ k h. g (suc k) (omega (arith, h))) i

-- numbers at positions
abbrev numbered : List ℕ → Annotation
numbered ns k = slice_index_or ns k 0

brought_length : (out : List Amount) (es : List Entry) (q : List Amount) → length (brought (amounts 1) out es q) ≡ length out
brought_length out [] q = refl
brought_length out (e ∷ es) q = brought_length (added (amounts 1) out e.to e.times (get q e.from)) es q ∙ length-set out e.to _

module _ (f : Amount → ℕ) (r : Reading f) where
  added_read : (out : List Amount) (to n : ℕ) (x : Amount) (k : ℕ) → k < length out → f (get (added (amounts 1) out to n x) k) ≡ f (get out k) + (if to == k then n * f x else 0)
  added_read out to n x k h = by (to == k) refl where
    y : Amount
    y = (amounts 1).plus (get out to) ((amounts 1).times n x)

    by : (b : Bool) → (to == k) ≡ b → f (get (slice_set out to y) k) ≡ f (get out k) + (if b then n * f x else 0)
    by true e =
        let same : to ≡ k = grind (arith, nat_tests, e) in
        subst (λ j. f (get (slice_set out to y) j) ≡ f (get out j) + n * f x) same
        (ap f (get_or-set_same out to y nothing (subst (λ j. j < length out) (sym same) h)) ∙ r.plus (get out to) ((amounts 1).times n x) ∙ ap (λ m. f (get out to) + m) (r.times n x))
    by false e = ap f (get_or-set_other out to k y nothing (λ s. let no : (to == k) ≡ true = grind (arith, nat_tests, s) in absurd (cc))) ∙ omega arith

  brought_read : (out : List Amount) (es : List Entry) (q : List Amount) (k : ℕ) → k < length out → f (get (brought (amounts 1) out es q) k) ≡ f (get out k) + i.moved es (λ j. f (get q j)) k
  brought_read out [] q k h = omega arith
  brought_read out (e ∷ es) q k h =
      let next = added (amounts 1) out e.to e.times (get q e.from) in
      let rest = brought_read next es q k (subst (λ n. k < n) (sym (length-set out e.to _)) h) in
      let here = added_read out e.to e.times (get q e.from) k h in
      omega (arith, rest, here)

  multiples_read : (x : Amount) (ns : List ℕ) (k : ℕ) → f (get (multiples (amounts 1) x ns) k) ≡ f x * numbered ns k
  multiples_read x [] k = r.none ∙ omega arith
  multiples_read x (n ∷ ns) zero = r.times n x ∙ grind arith
  multiples_read x (n ∷ ns) (suc k) = multiples_read x ns k

-- numbers are brought by multiples, one after the other: the numbers and the entries are those of the block
module _ (entries : ℕ → List Entry) (numbers : ℕ → List ℕ) where
  abbrev spread : List (ℕ × Amount) → List Amount → List Amount
  spread [] out = out
  spread (m ∷ ms) out = spread ms (brought (amounts 1) out (entries m.0) (multiples (amounts 1) m.1 (numbers m.0)))

  spread_length : (ms : List (ℕ × Amount)) (out : List Amount) → length (spread ms out) ≡ length out
  spread_length [] out = refl
  spread_length (m ∷ ms) out = spread_length ms _ ∙ brought_length out (entries m.0) (multiples (amounts 1) m.1 (numbers m.0))

  spread_read : (f : Amount → ℕ) → Reading f → (ms : List (ℕ × Amount)) (out : List Amount) (k : ℕ) → k < length out →
      f (get (spread ms out) k) ≡ f (get out k) + total (λ (m : ℕ × Amount). f m.1 * i.moved (entries m.0) (numbered (numbers m.0)) k) ms
  spread_read f r [] out k h = omega arith
  spread_read f r (m ∷ ms) out k h =
      let q = multiples (amounts 1) m.1 (numbers m.0) in
      let rest = spread_read f r ms (brought (amounts 1) out (entries m.0) q) k (subst (λ n. k < n) (sym (brought_length out (entries m.0) q)) h) in
      let here = brought_read f r out (entries m.0) q k h in
      let as_one : i.moved (entries m.0) (λ j. f (get q j)) k ≡ f m.1 * i.moved (entries m.0) (numbered (numbers m.0)) k =
      ap (λ (a : Annotation). i.moved (entries m.0) a k) (λ i j. multiples_read f r m.1 (numbers m.0) j i) ∙ moved_times (entries m.0) (f m.1) (numbered (numbers m.0)) k in
      omega (arith, rest, here, as_one)

-- both come to the same, whatever their blocks are worth
pub record ComeToSame (ms ns : List (ℕ × Amount)) : Type 0 where
  pub same : (f : Amount → ℕ) → Reading f → (worth : ℕ → ℕ) → total (λ (m : ℕ × Amount). f m.1 * worth m.0) ms ≡ total (λ (m : ℕ × Amount). f m.1 * worth m.0) ns

spread_same : (entries : ℕ → List Entry) (numbers : ℕ → List ℕ) (ms ns : List (ℕ × Amount)) → ComeToSame ms ns → (out : List Amount) → spread entries numbers ms out ≡ spread entries numbers ns out
spread_same entries numbers ms ns s out =
    lists_same (spread entries numbers ms out) (spread entries numbers ns out) (spread_length entries numbers ms out ∙ sym (spread_length entries numbers ns out))
    (λ k h. at_place (λ x. x.plus) plus_read k h) (λ k h. at_place (λ x. x.minus) minus_read k h) where
      at_place : (f : Amount → ℕ) → Reading f → (k : ℕ) → k < length (spread entries numbers ms out) → f (get (spread entries numbers ms out) k) ≡ f (get (spread entries numbers ns out) k)
      at_place f r k h =
          let inside = subst (λ n. k < n) (spread_length entries numbers ms out) h in
          spread_read entries numbers f r ms out k inside
          ∙ ap (λ n. f (get out k) + n) (s.same f r (λ block. i.moved (entries block) (numbered (numbers block)) k))
          ∙ sym (spread_read entries numbers f r ns out k inside)

module _ (G : Known Amount) (c : Called) where
  abbrev args_entries : ℕ → List Entry
  args_entries block = slice_index_or c.args_from (G.free block c.function).budget []

  abbrev result_entries : ℕ → List Entry
  result_entries block = slice_index_or c.result_from (G.free block c.function).budget []

  used_args : (ms : List (ℕ × Amount)) (out : Sides Amount) → (used (amounts 1) G c ms out).args ≡ spread args_entries (λ block. (G.free block c.function).args) ms out.args
  used_args [] out = refl
  used_args (m ∷ ms) out = used_args ms _

  used_result : (ms : List (ℕ × Amount)) (out : Sides Amount) → (used (amounts 1) G c ms out).result ≡ spread result_entries (λ block. (G.free block c.function).result) ms out.result
  used_result [] out = refl
  used_result (m ∷ ms) out = used_result ms _

  pub used_same : (ms ns : List (ℕ × Amount)) → ComeToSame ms ns → (out : Sides Amount) → used (amounts 1) G c ms out ≡ used (amounts 1) G c ns out
  used_same ms ns s out = λ i. record {
    args = (used_args ms out ∙ spread_same args_entries (λ block. (G.free block c.function).args) ms ns s out.args ∙ sym (used_args ns out)) i;
    result = (used_result ms out ∙ spread_same result_entries (λ block. (G.free block c.function).result) ms ns s out.result ∙ sym (used_result ns out)) i;
  }

-- A multiple is put to the first one of its block.
abbrev pub put : ℕ × Amount → List (ℕ × Amount) → List (ℕ × Amount)
put m [] = []
put m (n ∷ ns) = cond (nat_eq m.0 n.0) ((n.0, (amounts 1).plus m.1 n.1) ∷ ns) (n ∷ put m ns)

-- one multiple for each block, in order
abbrev pub collected : List ℕ → List (ℕ × Amount) → List (ℕ × Amount)
collected blocks [] = map (λ block. (block, nothing)) blocks
collected blocks (m ∷ ms) = put m (collected blocks ms)

abbrev keys : List (ℕ × Amount) → List ℕ
keys ms = map (λ (m : ℕ × Amount). m.0) ms

put_keys : (m : ℕ × Amount) (ns : List (ℕ × Amount)) → keys (put m ns) ≡ keys ns
put_keys m [] = refl
put_keys m (n ∷ ns) = by (nat_eq m.0 n.0) (put_keys m ns) where
  by : (b : Bool) → keys (put m ns) ≡ keys ns → keys (cond b ((n.0, (amounts 1).plus m.1 n.1) ∷ ns) (n ∷ put m ns)) ≡ keys (n ∷ ns)
  by true h = refl
  by false h = ap (λ l. n.0 ∷ l) h

pub collected_keys : (blocks : List ℕ) (ms : List (ℕ × Amount)) → keys (collected blocks ms) ≡ blocks
collected_keys [] [] = refl
collected_keys (b ∷ bs) [] = ap (λ l. b ∷ l) (collected_keys bs [])
collected_keys blocks (m ∷ ms) = put_keys m (collected blocks ms) ∙ collected_keys blocks ms

shared : (a b w rest : ℕ) → (a + b) * w + rest ≡ a * w + (b * w + rest)
shared a b w rest = grind arith

put_total : (f : Amount → ℕ) → Reading f → (worth : ℕ → ℕ) (m : ℕ × Amount) (ns : List (ℕ × Amount)) (place : ℕ) → place < length (keys ns) → slice_index_or (keys ns) place m.0 ≡ m.0 →
    total (λ (m : ℕ × Amount). f m.1 * worth m.0) (put m ns) ≡ f m.1 * worth m.0 + total (λ (m : ℕ × Amount). f m.1 * worth m.0) ns
put_total f r worth m [] place l e = absurd (omega (arith, l))
put_total f r worth m (n ∷ ns) place l e = by (rest place l e (put_total f r worth m ns)) (nat_eq m.0 n.0) refl where
  rest : (place : ℕ) → place < suc (length (keys ns)) → slice_index_or (n.0 ∷ keys ns) place m.0 ≡ m.0 →
      ((place : ℕ) → place < length (keys ns) → slice_index_or (keys ns) place m.0 ≡ m.0 →
      total (λ (m : ℕ × Amount). f m.1 * worth m.0) (put m ns) ≡ f m.1 * worth m.0 + total (λ (m : ℕ × Amount). f m.1 * worth m.0) ns) → nat_eq m.0 n.0 ≡ false →
      total (λ (m : ℕ × Amount). f m.1 * worth m.0) (put m ns) ≡ f m.1 * worth m.0 + total (λ (m : ℕ × Amount). f m.1 * worth m.0) ns
  rest zero l e go differ = absurd (let same : nat_eq m.0 n.0 ≡ true = grind (arith, nat_tests, e) in cc)
  rest (suc place) l e go differ = go place (omega (arith, l)) e

  by : (nat_eq m.0 n.0 ≡ false → total (λ (m : ℕ × Amount). f m.1 * worth m.0) (put m ns) ≡ f m.1 * worth m.0 + total (λ (m : ℕ × Amount). f m.1 * worth m.0) ns) →
      (b : Bool) → nat_eq m.0 n.0 ≡ b →
      total (λ (m : ℕ × Amount). f m.1 * worth m.0) (cond b ((n.0, (amounts 1).plus m.1 n.1) ∷ ns) (n ∷ put m ns)) ≡ f m.1 * worth m.0 + (f n.1 * worth n.0 + total (λ (m : ℕ × Amount). f m.1 * worth m.0) ns)
  by go true e =
      let same : m.0 ≡ n.0 = grind (arith, nat_tests, e) in
      let others = total (λ (m : ℕ × Amount). f m.1 * worth m.0) ns in
      ap (λ v. v * worth n.0 + others) (r.plus m.1 n.1) ∙ shared (f m.1) (f n.1) (worth n.0) others ∙ ap (λ v. f m.1 * worth v + (f n.1 * worth n.0 + others)) (sym same)
  by go false differ = let h = go differ in omega (arith, h)

none_total : (f : Amount → ℕ) → Reading f → (worth : ℕ → ℕ) (blocks : List ℕ) → total (λ (m : ℕ × Amount). f m.1 * worth m.0) (map (λ block. (block, nothing)) blocks) ≡ 0
none_total f r worth [] = refl
none_total f r worth (b ∷ bs) = let h = none_total f r worth bs in let z : f nothing * worth b ≡ 0 = ap (λ n. n * worth b) r.none ∙ omega arith in omega (arith, h, z)

-- all are of these blocks
abbrev pub AreOf : List ℕ → List (ℕ × Amount) → Type 0
AreOf blocks [] = Unit {0}
AreOf blocks (m ∷ ms) = Contains blocks m.0 × AreOf blocks ms

pub collected_same : (blocks : List ℕ) (ms : List (ℕ × Amount)) → AreOf blocks ms → ComeToSame (collected blocks ms) ms
collected_same blocks [] h = record { same = λ f r worth. none_total f r worth blocks }
collected_same blocks (m ∷ ms) h = record {
  same = λ f r worth.
      put_total f r worth m (collected blocks ms) h.0.0
      (subst (λ ks. h.0.0 < length ks) (sym (collected_keys blocks ms)) h.0.1)
      (ap (λ ks. slice_index_or ks h.0.0 m.0) (collected_keys blocks ms) ∙ h.0.2)
      ∙ ap (λ n. f m.1 * worth m.0 + n) ((collected_same blocks ms h.1).same f r worth);
}
