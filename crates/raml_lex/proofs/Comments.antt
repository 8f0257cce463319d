-- The end of a comment.
use Rattle.std.proofs.Common.{◌≡◌, ◌≤◌, ◌<◌, ◌+◌, ◌-◌, ℕ, zero, suc, [], ◌∷◌, ◌++◌, length, length-drop, length-append, drop-drop, take, drop, get_or, append_assoc, Option, Some, None, Bool, true, false, refl, sym, ap, subst, ◌∙◌, arith}
use Rattle.std.specs.Prelude.{nat_eq, codes, if◌then◌else◌, option_map}
use Rattle.std.specs.List.{starts_with}
use Rattle.std.specs.Cmp.Lexicographic.{same_text}
use Rattle.std.proofs.lemmas.Bool.Decides.{nat_tests}
use Rattle.std.proofs.lemmas.List.{take_at, take_rest, nil_from_length}
use Rattle.std.proofs.lemmas.Option.{none-some, same_Some}
use Rattle.std.proofs.lemmas.Slice.Eq.{bytes_eq-Decides}
use Rattle.raml_syntax.specs.Tree.{Text}
use Rattle.raml_lex.specs.Lexemes.{IsFront, Closes, done, opens, ends, other}
use Rattle.raml_lex.specs.Lexing.{OpensComment, IsOpenComment}
use Rattle.raml_lex.specs.Pieces.{BeginsWithGap, comment_rest}
use Rattle.raml_lex.proofs.Words.{clash, front_take}
use mathlib.Core.Logic.{inr}

pub front_from_test : (v s : Text) → starts_with nat_eq s v ≡ true → IsFront v s
front_from_test v s e = subst (λ w. IsFront w s) (sym (same_text v (take (length v) s) (sym e))) (front_take (length v) s)

pub test_from_front : (v s : Text) → IsFront v s → starts_with nat_eq s v ≡ true
test_from_front v s f = (bytes_eq-Decides v (take (length v) s)).1 (sym (ap (take (length v)) f.1 ∙ take_at v f.0 (length v) refl))

abbrev more : ℕ → Option ℕ → Option ℕ
more n o = option_map (λ k. n + k) o

pub record Ends (n : ℕ) (s : Text) (k : ℕ) : Type 0 where
  pub within : k ≤ length s
  pub closes : Closes n (take k s)

more_some : (n : ℕ) (o : Option ℕ) (k : ℕ) → more n o ≡ Some k → (j : ℕ) × (o ≡ Some j) × (k ≡ n + j)
more_some n None k e = absurd (none-some k e)
more_some n (Some j) k e = (j, refl, sym (same_Some (n + j) k e))

-- the first two bytes
pair_is : (x y a b : ℕ) (s : Text) → IsFront (x ∷ y ∷ []) (a ∷ b ∷ s) → (a ≡ x) × (b ≡ y)
pair_is x y a b s f = (ap (λ l. get_or l 0 0) f.1, ap (λ l. get_or l 1 0) f.1)

ends_more : (n m a b : ℕ) (s : Text) (k : ℕ) (o : Option ℕ) → ((j : ℕ) → o ≡ Some j → Ends m s j) → ((j : ℕ) → Closes m (take j s) → Closes (suc n) (a ∷ b ∷ take j s)) → more 2 o ≡ Some k → Ends (suc n) (a ∷ b ∷ s) k
ends_more n m a b s k o ih make e =
    let h = more_some 2 o k e in
    let i = ih h.0 h.1 in
    let two : suc (suc h.0) ≡ k = (let q = h.2 in omega (arith, q)) in
    subst (Ends (suc n) (a ∷ b ∷ s)) two (record { within = (let w = i.within in omega (arith, w)); closes = make h.0 i.closes })

ends_one : (n a b : ℕ) (s : Text) (k : ℕ) (o : Option ℕ) → ((j : ℕ) → o ≡ Some j → Ends (suc n) (b ∷ s) j) → ((j : ℕ) → Closes (suc n) (take j (b ∷ s)) → Closes (suc n) (a ∷ take j (b ∷ s))) → more 1 o ≡ Some k → Ends (suc n) (a ∷ b ∷ s) k
ends_one n a b s k o ih make e =
    let h = more_some 1 o k e in
    let i = ih h.0 h.1 in
    let one : suc h.0 ≡ k = (let q = h.2 in omega (arith, q)) in
    subst (Ends (suc n) (a ∷ b ∷ s)) one (record { within = (let w = i.within in omega (arith, w)); closes = make h.0 i.closes })

closes_some : (n : ℕ) (s : Text) → Closes (suc n) s → s ≡ [] → ⊥
closes_some n s (opens c e) q = let p = ap length (sym q ∙ e) in omega (arith, p)
closes_some n s (ends c e) q = let p = ap length (sym q ∙ e) in omega (arith, p)
closes_some n s (other c x y e) q = let p = ap length (sym q ∙ e) in omega (arith, p)

other_closes : (n a b : ℕ) (s : Text) → starts_with nat_eq (a ∷ b ∷ s) (codes "(*") ≡ false → starts_with nat_eq (a ∷ b ∷ s) (codes "*)") ≡ false → (j : ℕ) → Closes (suc n) (take j (b ∷ s)) → Closes (suc n) (a ∷ take j (b ∷ s))
other_closes n a b s x y j c = other c (λ f. clash (test_from_front (codes "(*") (a ∷ b ∷ s) (grows (codes "(*") f)) x) (λ f. clash (test_from_front (codes "*)") (a ∷ b ∷ s) (grows (codes "*)") f)) y) refl
  where
    grows : (v : Text) → IsFront v (a ∷ take j (b ∷ s)) → IsFront v (a ∷ b ∷ s)
    grows v f = let t = front_take j (b ∷ s) in (f.0 ++ t.0, ap (λ s. a ∷ s) t.1 ∙ ap (λ l. l ++ t.0) f.1 ∙ append_assoc v f.0 t.0)

sound_step : (n a b : ℕ) (s : Text) (k : ℕ) → ((j : ℕ) → comment_rest (suc (suc n)) s ≡ Some j → Ends (suc (suc n)) s j) → ((j : ℕ) → comment_rest n s ≡ Some j → Ends n s j) → ((j : ℕ) → comment_rest (suc n) (b ∷ s) ≡ Some j → Ends (suc n) (b ∷ s) j) → comment_rest (suc n) (a ∷ b ∷ s) ≡ Some k → Ends (suc n) (a ∷ b ∷ s) k
sound_step n a b s k deeper shallower same e = at_open (starts_with nat_eq (a ∷ b ∷ s) (codes "(*")) refl (starts_with nat_eq (a ∷ b ∷ s) (codes "*)")) refl e
  where
    at_open : (x : Bool) → starts_with nat_eq (a ∷ b ∷ s) (codes "(*") ≡ x → (y : Bool) → starts_with nat_eq (a ∷ b ∷ s) (codes "*)") ≡ y → (if x then more 2 (comment_rest (suc (suc n)) s) else (if y then more 2 (comment_rest n s) else more 1 (comment_rest (suc n) (b ∷ s)))) ≡ Some k → Ends (suc n) (a ∷ b ∷ s) k
    at_open true p y q e = let f = pair_is 40 42 a b s (front_from_test (codes "(*") (a ∷ b ∷ s) p) in ends_more n (suc (suc n)) a b s k _ deeper (λ j c. opens c (λ i. f.0 i ∷ f.1 i ∷ take j s)) e
    at_open false p true q e = let f = pair_is 42 41 a b s (front_from_test (codes "*)") (a ∷ b ∷ s) q) in ends_more n n a b s k _ shallower (λ j c. ends c (λ i. f.0 i ∷ f.1 i ∷ take j s)) e
    at_open false p false q e = ends_one n a b s k _ same (other_closes n a b s p q) e

pub comment_rest_sound : (n : ℕ) (s : Text) (k : ℕ) → comment_rest n s ≡ Some k → Ends n s k
comment_rest_sound zero s k e = subst (Ends 0 s) (same_Some 0 k e) (record { within = omega arith; closes = done refl })
comment_rest_sound (suc n) [] k e = absurd (none-some k e)
comment_rest_sound (suc n) (a ∷ []) k e = absurd (none-some k e)
comment_rest_sound (suc n) (a ∷ b ∷ s) k e = sound_step n a b s k (comment_rest_sound (suc (suc n)) s) (comment_rest_sound n s) (comment_rest_sound (suc n) (b ∷ s)) e

comment_other : (n c b : ℕ) (s r : Text) → ¬ (IsFront (codes "(*") (c ∷ b ∷ s)) → ¬ (IsFront (codes "*)") (c ∷ b ∷ s)) → comment_rest (suc n) (c ∷ b ∷ (s ++ r)) ≡ more 1 (comment_rest (suc n) (b ∷ (s ++ r)))
comment_other n c b s r x y = at (starts_with nat_eq (c ∷ b ∷ (s ++ r)) (codes "(*")) refl (starts_with nat_eq (c ∷ b ∷ (s ++ r)) (codes "*)")) refl
  where
    back : (v w : ℕ) → IsFront (v ∷ w ∷ []) (c ∷ b ∷ (s ++ r)) → IsFront (v ∷ w ∷ []) (c ∷ b ∷ s)
    back v w f = let e = pair_is v w c b (s ++ r) f in (s, λ i. e.0 i ∷ e.1 i ∷ s)

    at : (p : Bool) → starts_with nat_eq (c ∷ b ∷ (s ++ r)) (codes "(*") ≡ p → (q : Bool) → starts_with nat_eq (c ∷ b ∷ (s ++ r)) (codes "*)") ≡ q → (if p then more 2 (comment_rest (suc (suc n)) (s ++ r)) else (if q then more 2 (comment_rest n (s ++ r)) else more 1 (comment_rest (suc n) (b ∷ (s ++ r))))) ≡ more 1 (comment_rest (suc n) (b ∷ (s ++ r)))
    at true p y q = absurd (x (back 40 42 (front_from_test (codes "(*") (c ∷ b ∷ (s ++ r)) p)))
    at false p true q = absurd (y (back 42 41 (front_from_test (codes "*)") (c ∷ b ∷ (s ++ r)) q)))
    at false p false q = refl

other_complete : (n c : ℕ) (w s r : Text) → ¬ (IsFront (codes "(*") s) → ¬ (IsFront (codes "*)") s) → s ≡ c ∷ w → (w ≡ [] → ⊥) → comment_rest (suc n) (w ++ r) ≡ Some (length w) → comment_rest (suc n) (s ++ r) ≡ Some (length s)
other_complete n c [] s r x y e some ih = absurd (some refl)
other_complete n c (b ∷ w) s r x y e some ih =
    ap (λ s. comment_rest (suc n) (s ++ r)) e
    ∙ comment_other n c b w r (subst (λ s. ¬ (IsFront (codes "(*") s)) e x) (subst (λ s. ¬ (IsFront (codes "*)") s)) e y)
    ∙ ap (more 1) ih ∙ ap Some (let l = ap length e in omega (arith, l))

pub comment_rest_complete : (n : ℕ) (w r : Text) → Closes n w → comment_rest n (w ++ r) ≡ Some (length w)
comment_rest_complete zero w r (done e) = ap Some (sym (ap length e))
comment_rest_complete (suc n) w r (opens {rest = v} c e) = ap (λ w. comment_rest (suc n) (w ++ r)) e ∙ ap (more 2) (comment_rest_complete (suc (suc n)) v r c) ∙ ap Some (let l = ap length e in omega (arith, l))
comment_rest_complete (suc n) w r (ends {rest = v} c e) = ap (λ w. comment_rest (suc n) (w ++ r)) e ∙ ap (more 2) (comment_rest_complete n v r c) ∙ ap Some (let l = ap length e in omega (arith, l))
comment_rest_complete (suc n) w r (other {c = b} {rest = v} c x y e) = other_complete n b v w r x y e (closes_some n v c) (comment_rest_complete (suc n) v r c)

-- one step at the front of s
step : (n : ℕ) (s : Text) → comment_rest (suc n) s ≡ (if starts_with nat_eq s (codes "(*") then more 2 (comment_rest (suc (suc n)) (drop 2 s)) else (if starts_with nat_eq s (codes "*)") then more 2 (comment_rest n (drop 2 s)) else more 1 (comment_rest (suc n) (drop 1 s))))
step n [] = refl
step n (a ∷ []) = at (starts_with nat_eq (a ∷ []) (codes "(*")) refl (starts_with nat_eq (a ∷ []) (codes "*)")) refl
  where
    long : (x y : ℕ) → starts_with nat_eq (a ∷ []) (x ∷ y ∷ []) ≡ true → ⊥
    long x y e = let f = ap length (front_from_test (x ∷ y ∷ []) (a ∷ []) e).1 in omega (arith, f)

    at : (p : Bool) → starts_with nat_eq (a ∷ []) (codes "(*") ≡ p → (q : Bool) → starts_with nat_eq (a ∷ []) (codes "*)") ≡ q → None ≡ (if p then more 2 (comment_rest (suc (suc n)) []) else (if q then more 2 (comment_rest n []) else more 1 (comment_rest (suc n) [])))
    at true p y q = refl
    at false p true q = absurd (long 42 41 q)
    at false p false q = refl
step n (a ∷ b ∷ s) = refl

more_more : (n m : ℕ) (o : Option ℕ) → more n (more m o) ≡ more (n + m) o
more_more n m None = refl
more_more n m (Some k) = ap Some (omega arith)

-- a slice to the end, as the code has it
abbrev rest_of : Text → ℕ → Text
rest_of s n = take (length s - n) (drop n s)

-- n bytes of the comment have been read, and this many comments are open
pub record Inside (s : Text) (depth n : ℕ) : Type 0 where
  pub same : more n (comment_rest depth (drop n s)) ≡ more 2 (comment_rest 1 (drop 2 s))
  pub low : n ≤ length s
  pub few : depth ≤ n

pub inside_start : (s : Text) → OpensComment s → Inside s 1 2
inside_start s o = record { same = refl; low = (let l = ap length o.1 in omega (arith, l)); few = omega arith }

moved : (s : Text) (n m k depth : ℕ) → Inside s (suc m) n → k + n ≤ length s → 1 ≤ k → depth ≤ n + 1 → comment_rest (suc m) (drop n s) ≡ more k (comment_rest depth (drop k (drop n s))) → Inside s depth (n + k)
moved s n m k depth i le some few e = record {
  same = ap (λ u. more (n + k) (comment_rest depth u)) (sym (drop-drop k n s)) ∙ sym (more_more n k (comment_rest depth (drop k (drop n s)))) ∙ ap (more n) (sym e) ∙ i.same;
  low = omega (arith, le);
  few = omega (arith, few, some);
}

front_length : (v s : Text) → IsFront v s → length v ≤ length s
front_length v s f = let l = ap length f.1 ∙ length-append v f.0 in omega (arith, l)

stepped : (n : ℕ) (s : Text) (x y : Bool) → starts_with nat_eq s (codes "(*") ≡ x → starts_with nat_eq s (codes "*)") ≡ y → comment_rest (suc n) s ≡ (if x then more 2 (comment_rest (suc (suc n)) (drop 2 s)) else (if y then more 2 (comment_rest n (drop 2 s)) else more 1 (comment_rest (suc n) (drop 1 s))))
stepped n s x y p q = step n s ∙ (λ i. if p i then more 2 (comment_rest (suc (suc n)) (drop 2 s)) else (if q i then more 2 (comment_rest n (drop 2 s)) else more 1 (comment_rest (suc n) (drop 1 s))))

at_rest : (s v : Text) (n : ℕ) (x : Bool) → starts_with nat_eq (rest_of s n) v ≡ x → starts_with nat_eq (drop n s) v ≡ x
at_rest s v n x e = ap (λ u. starts_with nat_eq u v) (sym (take_rest s n)) ∙ e

room : (s : Text) (n : ℕ) (v : Text) → n ≤ length s → length v ≤ length (drop n s) → length v + n ≤ length s
room s n v low le = let l = length-drop n s in omega (arith, low, le, l)

pub opened : (s : Text) (depth n : ℕ) → Inside s depth n → 0 < depth → starts_with nat_eq (rest_of s n) (codes "(*") ≡ true → Inside s (depth + 1) (n + 2)
opened s zero n i some e = absurd (omega (arith, some))
opened s (suc m) n i some e =
    let t = at_rest s (codes "(*") n true e in
    let more_depth : suc m + 1 ≡ suc (suc m) = omega arith in
    rw more_depth (moved s n m 2 (suc (suc m)) i (room s n (codes "(*") i.low (front_length (codes "(*") (drop n s) (front_from_test (codes "(*") (drop n s) t))) (omega arith) (let f = i.few in omega (arith, f)) (stepped m (drop n s) true _ t refl))

pub closed : (s : Text) (depth n : ℕ) → Inside s depth n → 0 < depth → starts_with nat_eq (rest_of s n) (codes "(*") ≡ false → starts_with nat_eq (rest_of s n) (codes "*)") ≡ true → Inside s (depth - 1) (n + 2)
closed s zero n i some e d = absurd (omega (arith, some))
closed s (suc m) n i some e d =
    let t = at_rest s (codes "*)") n true d in
    let less_depth : suc m - 1 ≡ m = omega arith in
    rw less_depth (moved s n m 2 m i (room s n (codes "*)") i.low (front_length (codes "*)") (drop n s) (front_from_test (codes "*)") (drop n s) t))) (omega arith) (let f = i.few in omega (arith, f)) (stepped m (drop n s) false true (at_rest s (codes "(*") n false e) t))

pub passed : (s : Text) (depth n : ℕ) → Inside s depth n → 0 < depth → starts_with nat_eq (rest_of s n) (codes "(*") ≡ false → starts_with nat_eq (rest_of s n) (codes "*)") ≡ false → n < length s → Inside s depth (n + 1)
passed s zero n i some e d l = absurd (omega (arith, some))
passed s (suc m) n i some e d l = moved s n m 1 (suc m) i (omega (arith, l)) (omega arith) (let f = i.few in omega (arith, f)) (stepped m (drop n s) false false (at_rest s (codes "(*") n false e) (at_rest s (codes "*)") n false d))

-- the front that opens the comment
after_open : (s : Text) (o : OpensComment s) → drop 2 s ≡ o.0
after_open s o = ap (drop 2) o.1

pub not_ended : (s : Text) (depth n : ℕ) → OpensComment s → Inside s depth n → 0 < depth → length s ≤ n → IsOpenComment s
not_ended s zero n o i some l = absurd (omega (arith, some))
not_ended s (suc m) n o i some l =
    let empty : drop n s ≡ [] = nil_from_length (drop n s) (let p = length-drop n s in omega (arith, p, l)) in
    let none : None ≡ more 2 (comment_rest 1 (drop 2 s)) = sym (ap (λ u. more n (comment_rest (suc m) u)) empty) ∙ i.same in
    record {
      opens = o;
      no_end = λ w f c.
          let rest_is : drop 2 s ≡ c.0 ++ f.0 = ap (drop 2) (f.1 ∙ ap (λ w. w ++ f.0) c.2) in
          none-some _ (none ∙ ap (λ u. more 2 (comment_rest 1 u)) rest_is ∙ ap (more 2) (comment_rest_complete 1 c.0 f.0 c.1));
    }

pub ended : (s : Text) (depth n : ℕ) → OpensComment s → Inside s depth n → depth ≤ 0 → BeginsWithGap s n
ended s (suc m) n o i none = absurd (omega (arith, none))
ended s zero n o i none =
    let h = more_some 2 (comment_rest 1 (drop 2 s)) (n + 0) (sym i.same) in
    let e = comment_rest_sound 1 o.0 h.0 (sym (ap (comment_rest 1) (after_open s o)) ∙ h.1) in
    let two : n ≡ suc (suc h.0) = (let q = h.2 in omega (arith, q)) in
    record {
      within = i.low;
      gap = inr (take h.0 o.0, e.closes, (λ j. take (two j) (o.1 j)));
    }

pub rest_empty : (s : Text) (n : ℕ) → true ≡ nat_eq (length (rest_of s n)) 0 → length s ≤ n
rest_empty s n e = let l : length (rest_of s n) ≡ length s - n = ap length (take_rest s n) ∙ length-drop n s in grind (arith, nat_tests, e, l)

pub rest_some : (s : Text) (n : ℕ) → false ≡ nat_eq (length (rest_of s n)) 0 → n < length s
rest_some s n e = let l : length (rest_of s n) ≡ length s - n = ap length (take_rest s n) ∙ length-drop n s in grind (arith, nat_tests, e, l)
