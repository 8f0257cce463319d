-- Sums for the fronts of a list index.
use Rattle.std.proofs.Common.{◌≡◌, ℕ, zero, suc, ◌+◌, ◌*◌, ◌<◌, ◌≤◌, ◌^◌, List, [], ◌∷◌, ◌++◌, take, length, get_or, refl, sym, ap, ◌∙◌, arith, append_assoc, append-nil}
use Rattle.std.proofs.Math.Nat.{le_trans, pow-le-pow_right}
use Rattle.std.proofs.lemmas.List.{take_more, take_all}
use Rattle.raml_syntax.specs.Value.{Value, size}
use Rattle.base_poly.specs.Plain.{Plain, Unit', End, Then, many, deg}
use Rattle.base_poly.specs.Base.{elements, base, over}
use Rattle.base_poly.proofs.Bounded as b
use Rattle.base_poly.proofs.Bounded.{bounded, elements_within, rest_within}
use Rattle.base_poly.proofs.Recursion.{base_many}
use Rattle.base_poly.proofs.Sums.{total_joined, over_more}
use Rattle.value_text.specs.declared.word.Word.{Word}
use Rattle.value_text.specs.declared.word.Cell.{Cell}
use Rattle.poly_point.specs.Walk.{value, waiting_elements, raised, AreRaised, CanBeRaised}

-- with one element more, the last entry stands at it or not
pub one_more : (is : List Plain) (i : Plain) (vs : List Value) (v : Value) →
    over (many (is ++ i ∷ [])) (vs ++ v ∷ []) ≡ over (many (is ++ i ∷ [])) vs + over (many is) vs * base i v
one_more [] i [] v = over_more i End v [] ∙ grind arith
one_more [] i (u ∷ us) v =
    let later = one_more [] i us v in
    over_more i End u (us ++ v ∷ []) ∙ ap (λ n. base i u * 1 + n) later ∙ (let here = over_more i End u us in grind (arith, here))
one_more (j ∷ js) i [] v = over_more j (many (js ++ i ∷ [])) v [] ∙ (let none = nothing js in grind (arith, none))
  where
    nothing : (js : List Plain) → over (many (js ++ i ∷ [])) [] ≡ 0
    nothing [] = refl
    nothing (j ∷ js) = refl
one_more (j ∷ js) i (u ∷ us) v =
    let first = one_more js i us v in
    let later = one_more (j ∷ js) i us v in
    over_more j (many (js ++ i ∷ [])) u (us ++ v ∷ []) ∙ (λ n. base j u * first n + later n)
    ∙ regroup (base j u) (over (many (js ++ i ∷ [])) us) (over (many js) us) (base i v) (over (Then j (many (js ++ i ∷ []))) us) (over (Then j (many js)) us)
    ∙ (λ n. sym (over_more j (many (js ++ i ∷ [])) u us) n + sym (over_more j (many js) u us) n * base i v)
  where
    regroup : (a b c d e f : ℕ) → a * (b + c * d) + (e + f * d) ≡ (a * b + e) + (a * c + f) * d
    regroup a b c d e f = grind arith

-- Bounds

pub small_base : (i : Plain) (v : Value) → size v ≤ 2 ^ 20 → deg i ≤ 4 → base i v ≤ 2 ^ 80
small_base i v h k =
    let all = bounded.limit (i ∷ []) (v ∷ []) (omega (arith, h)) (omega (arith, k)) in
    omega (arith, all)

pub small_over : (is : List Plain) (vs : List Value) → b.cells vs ≤ 2 ^ 20 → deg (many is) ≤ 4 → over (many is) vs ≤ 2 ^ 80
small_over is vs h k = le_trans (rest_within (many is) vs (2 ^ 20) some h) (le_trans (pow-le-pow_right some k) large)
  where
    some : 0 < 2 ^ 20
    some = omega arith

    large : (2 ^ 20) ^ 4 ≤ 2 ^ 80
    large = omega arith

-- Fronts of a list index

front_degree : (m : ℕ) (is : List Plain) → deg (many (take m is)) ≤ deg (many is)
front_degree zero is = omega arith
front_degree (suc m) [] = omega arith
front_degree (suc m) (i ∷ is) = let more = front_degree m is in omega (arith, more)

pub few_entries : (is : List Plain) → length is ≤ deg (many is)
few_entries [] = omega arith
few_entries (i ∷ is) = let more = few_entries is in omega (arith, more)

-- each number is the sum for the front of as many entries, over these elements
abbrev pub AreSums : List Plain → List Value → List ℕ → Type 0
AreSums is vs sums = (m : ℕ) → m ≤ length is → get_or sums m 0 ≡ over (many (take m is)) vs

pub first_sums : (is : List Plain) → AreSums is [] (1 ∷ 0 ∷ 0 ∷ 0 ∷ 0 ∷ [])
first_sums is zero h = refl
first_sums [] (suc m) h = absurd (omega (arith, h))
first_sums (i ∷ is) (suc m) h = none m
  where
    none : (m : ℕ) → get_or {A = ℕ} (0 ∷ 0 ∷ 0 ∷ 0 ∷ []) m 0 ≡ 0
    none zero = refl
    none (suc zero) = refl
    none (suc (suc zero)) = refl
    none (suc (suc (suc zero))) = refl
    none (suc (suc (suc (suc m)))) = refl

raised_is : (is : List Plain) (vs : List Value) (w : Value) (sums : List ℕ) → AreSums is vs sums → (m : ℕ) → m < length is → raised is w sums m ≡ over (many (take (m + 1) is)) (vs ++ w ∷ [])
raised_is is vs w sums h m below =
    let entry = get_or is m Unit' in
    let next = take_more is m Unit' below in
    (λ n. h (m + 1) (omega (arith, below)) n + h m (omega (arith, below)) n * base entry w)
    ∙ ap (λ js. over (many js) vs + over (many (take m is)) vs * base entry w) next
    ∙ sym (one_more (take m is) entry vs w)
    ∙ ap (λ js. over (many js) (vs ++ w ∷ [])) (sym next)

pub sums_raised : (is : List Plain) (vs : List Value) (w : Value) (old new : List ℕ) → AreSums is vs old → AreRaised is w old new → AreSums is (vs ++ w ∷ []) new
sums_raised is vs w old new h r zero below = r.first ∙ h 0 (omega arith)
sums_raised is vs w old new h r (suc m) below =
    let next : m + 1 ≡ suc m = omega arith in
    ap (λ n. get_or new n 0) (sym next) ∙ r.others m (omega (arith, below)) ∙ raised_is is vs w old h m (omega (arith, below)) ∙ ap (λ n. over (many (take n is)) (vs ++ w ∷ [])) next

-- The walk so far: the elements that were seen and their sums

pub record IsWalked (cells : List Cell) (is : List Plain) (w : Value) (sums : List ℕ) (waiting : List Word) : Type 0 where
  pub seen : List Value
  pub split : elements w ≡ seen ++ waiting_elements cells waiting
  pub are : AreSums is seen sums

pub walk_begins : (cells : List Cell) (is : List Plain) (word : Word) (waiting : List Word) → waiting ≡ word ∷ [] → IsWalked cells is (value cells word) (1 ∷ 0 ∷ 0 ∷ 0 ∷ 0 ∷ []) waiting
walk_begins cells is word waiting e = record { seen = []; split = sym (ap (waiting_elements cells) e); are = first_sums is }

module _ (cells : List Cell) (is : List Plain) (w : Value) (small : size w ≤ 2 ^ 20) (low : deg (many is) ≤ 4) (sums : List ℕ) (waiting more : List Word) (u : Value)
    (walked : IsWalked cells is w sums waiting) (next : waiting_elements cells waiting ≡ u ∷ waiting_elements cells more) where
  split_on : elements w ≡ (walked.seen ++ u ∷ []) ++ waiting_elements cells more
  split_on = walked.split ∙ ap (λ l. walked.seen ++ l) next ∙ sym (append_assoc walked.seen (u ∷ []) (waiting_elements cells more))

  cells_seen : b.cells (walked.seen ++ u ∷ []) ≤ 2 ^ 20
  cells_seen =
      let all = ap b.cells split_on ∙ total_joined (λ x. 1 + size x) (walked.seen ++ u ∷ []) (waiting_elements cells more) in
      let within = elements_within w in omega (arith, all, within, small)

  pub small_next : size u ≤ 2 ^ 20
  small_next = let both = total_joined (λ x. 1 + size x) walked.seen (u ∷ []) in let all = cells_seen in omega (arith, both, all)

  pub can_be_raised : CanBeRaised is u sums
  can_be_raised m below =
      let same = raised_is is walked.seen u sums walked.are m below in
      let front = front_degree (m + 1) is in
      let bound = small_over (take (m + 1) is) (walked.seen ++ u ∷ []) cells_seen (omega (arith, front, low)) in
      omega (arith, same, bound)

  pub walk_on : (now : List ℕ) → AreRaised is u sums now → IsWalked cells is w now more
  walk_on now r = record { seen = walked.seen ++ u ∷ []; split = split_on; are = sums_raised is walked.seen u sums now walked.are r }

pub walk_ends : (cells : List Cell) (is : List Plain) (w : Value) (sums : List ℕ) (waiting : List Word) → IsWalked cells is w sums waiting → waiting_elements cells waiting ≡ [] → get_or sums (length is) 0 ≡ base (many is) w
walk_ends cells is w sums waiting walked none =
    walked.are (length is) (omega arith)
    ∙ ap (λ js. over (many js) walked.seen) (take_all (length is) is (omega arith))
    ∙ ap (over (many is)) (sym (append-nil walked.seen) ∙ ap (λ l. walked.seen ++ l) (sym none) ∙ sym walked.split)
    ∙ sym (base_many is w)
