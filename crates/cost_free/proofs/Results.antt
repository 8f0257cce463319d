-- What is known of a call's result, whatever it is.
use Rattle.std.proofs.Common.{◌≡◌, ◌≤◌, ◌<◌, ℕ, nat_lt, true, false, Ok, Err, sym, ◌∙◌, arith}
use Rattle.std.specs.Prelude.{Result, IfOk, OnOk, OnErr}
use Rattle.std.specs.Result.{IsErrAnd}
use Rattle.std.proofs.lemmas.Bool.Decides.{nat_tests}

pub both_ok : {X E : Type 0} (r : Result X E) (P : X → Type 0) (Q : Type 0) (R : X → Type 0) → IfOk r P → OnOk r Q → ((x : X) → P x → Q → R x) → IfOk r R
both_ok (Ok x) P Q R h k f = f x h k
both_ok (Err e) P Q R h k f = tt

pub on_ok : {X E : Type 0} (r : Result X E) (A B : Type 0) → OnOk r A → (A → B) → OnOk r B
on_ok (Ok x) A B h f = f h
on_ok (Err e) A B h f = tt

pub either_way : {X E : Type 0} (r : Result X E) (A B C S : Type 0) → OnOk r A → OnOk r B → OnErr r C → (A → B → S) → (C → S) → S
either_way (Ok x) A B C S h k e f g = f h k
either_way (Err x) A B C S h k e f g = g e

pub of_error : {X E : Type 0} (r : Result X E) (e f : E) → IsErrAnd r (λ x. x ≡ e) → r ≡ Err f → e ≡ f
of_error (Ok u) e f h g = absurd (cc)
of_error (Err x) e f h g = sym h ∙ (let p : x ≡ f = cc in p)

few : (m n : ℕ) → m ≤ n → nat_lt n m ≡ false
few m n h = grind (arith, nat_tests)

pub many : (m n : ℕ) → n < m → nat_lt n m ≡ true
many m n h = grind (arith, nat_tests)

pub on_few : {X E : Type 0} (r : Result X E) (m n : ℕ) → OnOk r (m ≤ n) → OnOk r (nat_lt n m ≡ false)
on_few (Ok x) m n h = few m n h
on_few (Err e) m n h = tt
