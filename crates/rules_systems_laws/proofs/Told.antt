-- What numbers stand for, as it is walked.
use Rattle.std.proofs.Common.{◌≡◌, refl, ap, sym, ◌∙◌, arith, subst}
use Rattle.std.specs.Prelude.{ℕ, zero, suc, ◌+◌, ◌*◌, ◌<◌, ◌≤◌, nat_eq, unsigned_abs, pos, Bool, true, false, cond, List, [], ◌∷◌, ◌++◌, map, length, slice_index_or, Contains}
use Rattle.std.proofs.lemmas.Bool.Decides.{nat_tests}
use Rattle.rules_spec.proofs.Shaped.{each_stands, are_multiples, each_within as stands_within, are_among}
use Rattle.base_poly.specs.Base.{total}
use Rattle.index_shift.specs.Potential.{Annotation}
use Rattle.annot_types.specs.Certificate as c
use Rattle.annot_types.specs.Certificate.{Entries, number_at, annotation}
use Rattle.rules_spec.specs.Numbers.{Known, Hint, Results, Copies, Multiples}
use Rattle.rules_spec.specs.Kinds.{Amount, amounts}
use Rattle.rules_spec.specs.Asked.{Ask, ResultsOf, CopiesOf, MultiplesOf, count, given, given_each, given_blocks, answers}
use Rattle.rules_spec.specs.Solving.{amount}
use Rattle.rules_spec.specs.Stand.{Within, Answered}
use Rattle.rules_spec.specs.Covered.{Plain, OfSize, OfSizes, OfBlocks, OfAsks}
use Rattle.rules_spec.specs.Shape.{EachWithin, AreAmong, amounts_at, each_amounts, multiples_at, hints_at}
use Rattle.rules_spec.specs.Found.{listed, amounts_of}
use Rattle.rules_spec.proofs.Finding.{amounts_stand}
use Rattle.rules_spec.specs.Told.{entries_from, entries, named, hint, number_in}
use Rattle.rules_systems_laws.proofs.Alike.{AllAlike}
use Rattle.rules_systems_laws.proofs.Taken.{Reading, ComeToSame, used_same, put, collected, AreOf, collected_same}

-- Entries

number_before : (from k : ℕ) (ns : List ℕ) → k < from → number_at k (entries_from from ns) ≡ pos 0
number_before from k [] h = refl
number_before from k (n ∷ ns) h = by (nat_eq n 0) (number_before (suc from) k ns (omega (arith, h))) where
  by : (b : Bool) → number_at k (entries_from (suc from) ns) ≡ pos 0 → number_at k (cond b (entries_from (suc from) ns) ((from, pos n) ∷ entries_from (suc from) ns)) ≡ pos 0
  by true go = go
  by false go = grind (arith, nat_tests, h, go)

number_there : (from k : ℕ) (ns : List ℕ) → number_at (from + k) (entries_from from ns) ≡ pos (slice_index_or ns k 0)
number_there from k [] = refl
number_there from zero (n ∷ ns) = subst (λ j. number_at j (entries_from from (n ∷ ns)) ≡ pos n) (let e : from ≡ from + 0 = omega arith in e) (by (nat_eq n 0) refl) where
  by : (b : Bool) → nat_eq n 0 ≡ b → number_at from (cond b (entries_from (suc from) ns) ((from, pos n) ∷ entries_from (suc from) ns)) ≡ pos n
  by true e = number_before (suc from) from ns (omega arith) ∙ ap pos (let z : 0 ≡ n = grind (arith, nat_tests, e) in z)
  by false e = grind (arith, nat_tests)
number_there from (suc k) (n ∷ ns) = by (nat_eq n 0) (subst (λ j. number_at j (entries_from (suc from) ns) ≡ pos (slice_index_or ns k 0)) (let e : suc from + k ≡ from + suc k = omega arith in e) (number_there (suc from) k ns)) where
  by : (b : Bool) → number_at (from + suc k) (entries_from (suc from) ns) ≡ pos (slice_index_or ns k 0) →
      number_at (from + suc k) (cond b (entries_from (suc from) ns) ((from, pos n) ∷ entries_from (suc from) ns)) ≡ pos (slice_index_or ns k 0)
  by true go = go
  by false go = grind (arith, nat_tests, go)

pub told_number : (ns : List ℕ) (k : ℕ) → annotation (entries ns) k ≡ slice_index_or ns k 0
told_number ns k = ap unsigned_abs (subst (λ j. number_at j (entries ns) ≡ pos (slice_index_or ns k 0)) (let e : 0 + k ≡ k = omega arith in e) (number_there 0 k ns))

listed_same : (ns : List ℕ) (q : Annotation) → ((k : ℕ) → q k ≡ slice_index_or ns k 0) → listed (length ns) q ≡ ns
listed_same [] q h = refl
listed_same (n ∷ ns) q h = λ i. h 0 i ∷ listed_same ns (λ k. q (suc k)) (λ k. h (suc k)) i

within_from : (n from : ℕ) (ns : List ℕ) → from + length ns ≤ n → Within n (entries_from from ns)
within_from n from [] h = tt
within_from n from (m ∷ ns) h = by (nat_eq m 0) (within_from n (suc from) ns (omega (arith, h))) where
  by : (b : Bool) → Within n (entries_from (suc from) ns) → Within n (cond b (entries_from (suc from) ns) ((from, pos m) ∷ entries_from (suc from) ns))
  by true go = go
  by false go = (omega (arith, h), go)

given_length : {E : Type 0} (give : ℕ → E) (from n : ℕ) → length (given give from n) ≡ n
given_length give from zero = refl
given_length give from (suc n) = ap suc (given_length give (suc from) n)

given_amounts : (x : List ℕ) (from n : ℕ) → amounts_of (given (number_in x) from n) ≡ given (amount x) from n
given_amounts x from zero = refl
given_amounts x from (suc n) = ap (λ l. amount x from ∷ l) (given_amounts x (suc from) n)

module _ (x : List ℕ) where
  pub told_within : (from n : ℕ) → Within n (entries (given (number_in x) from n))
  told_within from n = within_from n 0 (given (number_in x) from n) (let l = given_length (number_in x) from n in omega (arith, l))

  pub told_amounts : (from n : ℕ) → amounts_at n (entries (given (number_in x) from n)) ≡ given (amount x) from n
  told_amounts from n =
      let ns = given (number_in x) from n in
      ap (λ m. amounts_of (listed m (annotation (entries ns)))) (sym (given_length (number_in x) from n)) ∙ ap amounts_of (listed_same ns (annotation (entries ns)) (told_number ns)) ∙ given_amounts x from n

  each_within : (from : ℕ) (sizes : List ℕ) → EachWithin sizes (map entries (given_each (number_in x) from sizes))
  each_within from [] = tt
  each_within from (n ∷ ns) = (told_within from n, each_within (from + n) ns)

  each_told : (from : ℕ) (sizes : List ℕ) → given_each (amount x) from sizes ≡ each_amounts sizes (map entries (given_each (number_in x) from sizes))
  each_told from [] = refl
  each_told from (n ∷ ns) = λ i. sym (told_amounts from n) i ∷ each_told (from + n) ns i

  -- what is not taken at all may be left out
  blocks_told : (from : ℕ) (blocks : List ℕ) → ComeToSame (given_blocks (amount x) from blocks) (multiples_at (named (given_blocks (number_in x) from blocks)))
  blocks_told from [] = record { same = λ f r worth. refl }
  blocks_told from (b ∷ bs) = by (blocks_told (suc from) bs) where
    by : ComeToSame (given_blocks (amount x) (suc from) bs) (multiples_at (named (given_blocks (number_in x) (suc from) bs))) →
        ComeToSame (given_blocks (amount x) from (b ∷ bs)) (multiples_at (named (given_blocks (number_in x) from (b ∷ bs))))
    by go = record { same = λ f r worth. choose f r worth (nat_eq (number_in x from) 0) refl } where
      choose : (f : Amount → ℕ) → Reading f → (worth : ℕ → ℕ) → (t : Bool) → nat_eq (number_in x from) 0 ≡ t →
          f (amount x from) * worth b + total (λ (m : ℕ × Amount). f m.1 * worth m.0) (given_blocks (amount x) (suc from) bs)
          ≡ total (λ (m : ℕ × Amount). f m.1 * worth m.0) (multiples_at (cond t (named (given_blocks (number_in x) (suc from) bs)) ((b, pos (number_in x from)) ∷ named (given_blocks (number_in x) (suc from) bs))))
      choose f r worth true e =
          let z : number_in x from ≡ 0 = grind (arith, nat_tests, e) in
          let none : f (amount x from) ≡ 0 = ap (λ n. f (record { plus = n; minus = 0 })) z ∙ r.none in
          let nil : f (amount x from) * worth b ≡ 0 = ap (λ n. n * worth b) none ∙ omega arith in
          let rest = go.same f r worth in
          omega (arith, nil, rest)
      choose f r worth false e = ap (λ n. f (amount x from) * worth b + n) (go.same f r worth)

-- Hints

-- a hint of the kind that is asked for, in whose range it stays
abbrev pub Suits : Ask → c.Hint → Type 0
Suits (ResultsOf sizes) (c.Let results) = EachWithin sizes results
Suits (CopiesOf size) (c.Share copies) = Within size copies
Suits (MultiplesOf blocks) (c.Call multiples) = AreAmong blocks multiples
Suits _ _ = ⊥

abbrev pub AllSuit : List Ask → List c.Hint → Type 0
AllSuit [] [] = Unit {0}
AllSuit (ask ∷ asks) (h ∷ hs) = Suits ask h × AllSuit asks hs
AllSuit _ _ = ⊥

pub suiting_answer : (asks : List Ask) (hs : List c.Hint) → AllSuit asks hs → Answered asks hs (hints_at asks hs) [] []
suiting_answer [] [] h = (refl, refl)
suiting_answer [] (x ∷ hs) h = absurd h
suiting_answer (ask ∷ asks) [] h = absurd h
suiting_answer (ResultsOf sizes ∷ asks) (c.Let results ∷ hs) h = (each_stands sizes results h.0, suiting_answer asks hs h.1)
suiting_answer (CopiesOf size ∷ asks) (c.Share copies ∷ hs) h = ((h.0, amounts_stand size (annotation copies)), suiting_answer asks hs h.1)
suiting_answer (MultiplesOf blocks ∷ asks) (c.Call multiples ∷ hs) h = (are_multiples blocks multiples h.0, suiting_answer asks hs h.1)
suiting_answer (ask ∷ asks) (x ∷ hs) h = absurd h.0

pub answered_suit : (asks : List Ask) (hs : List c.Hint) (xs : List (Hint Amount)) → Answered asks hs xs [] [] → AllSuit asks hs
answered_suit [] [] xs h = tt
answered_suit [] (y ∷ hs) xs h = let no : y ∷ hs ≡ [] = h.0 in absurd (cc)
answered_suit (ask ∷ asks) [] xs h = absurd h
answered_suit (ask ∷ asks) (y ∷ hs) [] h = absurd h
answered_suit (ResultsOf sizes ∷ asks) (c.Let results ∷ hs) (Results qs ∷ xs) h = (stands_within sizes qs results h.0, answered_suit asks hs xs h.1)
answered_suit (CopiesOf size ∷ asks) (c.Share copies ∷ hs) (Copies q ∷ xs) h = (h.0.0, answered_suit asks hs xs h.1)
answered_suit (MultiplesOf blocks ∷ asks) (c.Call multiples ∷ hs) (Multiples ms ∷ xs) h = (are_among blocks ms multiples h.0, answered_suit asks hs xs h.1)
answered_suit (ask ∷ asks) (y ∷ hs) (x ∷ xs) h = absurd h.0

contains_more : (b k : ℕ) (bs : List ℕ) → Contains bs k → Contains (b ∷ bs) k
contains_more b k bs h = (suc h.0, omega (arith, h.1), h.2)

among_more : (b : ℕ) (bs : List ℕ) (ms : Entries) → AreAmong bs ms → AreAmong (b ∷ bs) ms
among_more b bs [] h = tt
among_more b bs (m ∷ ms) h = (contains_more b m.0 bs h.0, among_more b bs ms h.1)

named_among : (give : ℕ → ℕ) (from : ℕ) (blocks : List ℕ) → AreAmong blocks (named (given_blocks give from blocks))
named_among give from [] = tt
named_among give from (b ∷ bs) = by (nat_eq (give from) 0) (among_more b bs _ (named_among give (suc from) bs)) where
  by : (t : Bool) → AreAmong (b ∷ bs) (named (given_blocks give (suc from) bs)) →
      AreAmong (b ∷ bs) (cond t (named (given_blocks give (suc from) bs)) ((b, pos (give from)) ∷ named (given_blocks give (suc from) bs)))
  by true go = go
  by false go = ((0, omega arith, refl), go)

pub told_suit : (x : List ℕ) (from : ℕ) (asks : List Ask) → AllSuit asks (map hint (answers (number_in x) from asks))
told_suit x from [] = tt
told_suit x from (ResultsOf sizes ∷ asks) = (each_within x from sizes, told_suit x (from + count (ResultsOf sizes)) asks)
told_suit x from (CopiesOf size ∷ asks) = (told_within x from size, told_suit x (from + count (CopiesOf size)) asks)
told_suit x from (MultiplesOf blocks ∷ asks) = (named_among (number_in x) from blocks, told_suit x (from + count (MultiplesOf blocks)) asks)

-- the hints that numbers give, and those that they stand for
pub told_alike : (G : Known Amount) (x : List ℕ) (from : ℕ) (asks : List Ask) →
    AllAlike (amounts 1) G (answers (amount x) from asks) (hints_at asks (map hint (answers (number_in x) from asks)))
told_alike G x from [] = tt
told_alike G x from (ResultsOf sizes ∷ asks) = (each_told x from sizes, told_alike G x (from + count (ResultsOf sizes)) asks)
told_alike G x from (CopiesOf size ∷ asks) = (sym (told_amounts x from size), told_alike G x (from + count (CopiesOf size)) asks)
told_alike G x from (MultiplesOf blocks ∷ asks) = (λ d out. used_same G d _ _ (blocks_told x from blocks) out, told_alike G x (from + count (MultiplesOf blocks)) asks)

-- Hints with a multiple for each block that is asked for

abbrev pub full_hint : Ask → c.Hint → List (Hint Amount)
full_hint (ResultsOf sizes) (c.Let results) = Results (each_amounts sizes results) ∷ []
full_hint (CopiesOf size) (c.Share copies) = Copies (amounts_at size copies) ∷ []
full_hint (MultiplesOf blocks) (c.Call multiples) = Multiples (collected blocks (multiples_at multiples)) ∷ []
full_hint _ _ = []

abbrev pub full_hints : List Ask → List c.Hint → List (Hint Amount)
full_hints (ask ∷ asks) (h ∷ hs) = full_hint ask h ++ full_hints asks hs
full_hints _ _ = []

among_of : (blocks : List ℕ) (ms : Entries) → AreAmong blocks ms → AreOf blocks (multiples_at ms)
among_of blocks [] h = tt
among_of blocks (m ∷ ms) h = (h.0, among_of blocks ms h.1)

pub full_alike : (G : Known Amount) (asks : List Ask) (hs : List c.Hint) → AllSuit asks hs → AllAlike (amounts 1) G (full_hints asks hs) (hints_at asks hs)
full_alike G [] [] h = tt
full_alike G [] (y ∷ hs) h = absurd h
full_alike G (ask ∷ asks) [] h = absurd h
full_alike G (ResultsOf sizes ∷ asks) (c.Let results ∷ hs) h = (refl, full_alike G asks hs h.1)
full_alike G (CopiesOf size ∷ asks) (c.Share copies ∷ hs) h = (refl, full_alike G asks hs h.1)
full_alike G (MultiplesOf blocks ∷ asks) (c.Call ms ∷ hs) h =
    (λ d out. used_same G d (collected blocks (multiples_at ms)) (multiples_at ms) (collected_same blocks (multiples_at ms) (among_of blocks ms h.0)) out, full_alike G asks hs h.1)
full_alike G (ask ∷ asks) (y ∷ hs) h = absurd h.0

amounts_plain : (n : ℕ) (q : Annotation) → OfSize n (amounts_of (listed n q))
amounts_plain n q = (long n q, plain (listed n q)) where
  long : (n : ℕ) (q : Annotation) → length (amounts_of (listed n q)) ≡ n
  long zero q = refl
  long (suc n) q = ap suc (long n (λ k. q (suc k)))

  plain : (ns : List ℕ) → Plain (amounts_of ns)
  plain [] = tt
  plain (n ∷ ns) = (refl, plain ns)

pub amounts_of_size : (n : ℕ) (es : Entries) → OfSize n (amounts_at n es)
amounts_of_size n es = amounts_plain n (annotation es)

each_of_size : (ns : List ℕ) (ess : List Entries) → EachWithin ns ess → OfSizes ns (each_amounts ns ess)
each_of_size [] [] h = tt
each_of_size [] (es ∷ ess) h = absurd h
each_of_size (n ∷ ns) [] h = absurd h
each_of_size (n ∷ ns) (es ∷ ess) h = (amounts_of_size n es, each_of_size ns ess h.1)

put_of : (blocks : List ℕ) (m : ℕ × Amount) (ns : List (ℕ × Amount)) → m.1.minus ≡ 0 → OfBlocks blocks ns → OfBlocks blocks (put m ns)
put_of [] m [] e h = tt
put_of [] m (n ∷ ns) e h = absurd h
put_of (b ∷ bs) m [] e h = absurd h
put_of (b ∷ bs) m (n ∷ ns) e h = by (nat_eq m.0 n.0) (put_of bs m ns e h.2) where
  by : (t : Bool) → OfBlocks bs (put m ns) → OfBlocks (b ∷ bs) (cond t ((n.0, (amounts 1).plus m.1 n.1) ∷ ns) (n ∷ put m ns))
  by true go = (h.0, omega (arith, e, h.1), h.2)
  by false go = (h.0, h.1, go)

collected_of : (blocks : List ℕ) (ms : Entries) → OfBlocks blocks (collected blocks (multiples_at ms))
collected_of [] [] = tt
collected_of (b ∷ bs) [] = (refl, refl, collected_of bs [])
collected_of blocks (m ∷ ms) = put_of blocks (m.0, record { plus = unsigned_abs m.1; minus = 0 }) (collected blocks (multiples_at ms)) refl (collected_of blocks ms)

pub full_of : (asks : List Ask) (hs : List c.Hint) → AllSuit asks hs → OfAsks asks (full_hints asks hs)
full_of [] [] h = tt
full_of [] (y ∷ hs) h = absurd h
full_of (ask ∷ asks) [] h = absurd h
full_of (ResultsOf sizes ∷ asks) (c.Let results ∷ hs) h = (each_of_size sizes results h.0, full_of asks hs h.1)
full_of (CopiesOf size ∷ asks) (c.Share copies ∷ hs) h = (amounts_of_size size copies, full_of asks hs h.1)
full_of (MultiplesOf blocks ∷ asks) (c.Call ms ∷ hs) h = (collected_of blocks ms, full_of asks hs h.1)
full_of (ask ∷ asks) (y ∷ hs) h = absurd h.0
