-- A jump is written after the instructions that it passes.
use Rattle.std.proofs.Common.{◌≡◌, ℕ, ◌+◌, List, [], ◌∷◌, ◌++◌, length, sym, ap, ◌∙◌, arith, append_assoc, length-append}
use Rattle.std.specs.Prelude.{slice_set}
use Rattle.std.proofs.Math.Seq.{set-append_seam}
use Rattle.stack_compile.specs.declared.instr.Instr.{Instr}
use Rattle.stack_compile.specs.declared.instr.Instr.TheVariants.{Jump}
use Rattle.stack_compile.specs.Code.{Code, fork}

two_writes : (c a b : List Instr) (x y i j : Instr) → slice_set (slice_set (c ++ x ∷ (a ++ y ∷ b)) (length c) i) (length (c ++ i ∷ a)) j ≡ c ++ i ∷ (a ++ j ∷ b)
two_writes c a b x y i j =
    ap (λ l. slice_set l (length (c ++ i ∷ a)) j) (set-append_seam c x (a ++ y ∷ b) i ∙ sym (append_assoc c (i ∷ a) (y ∷ b)))
    ∙ set-append_seam (c ++ i ∷ a) y b j
    ∙ append_assoc c (i ∷ a) (j ∷ b)

both_written : (c0 subject a b c1 c2 c3 c4 c5 : List Instr) (x y i j : Instr) (n1 n3 : ℕ) → c1 ≡ c0 ++ subject → n1 ≡ length c1 → c2 ≡ c1 ++ x ∷ [] → c3 ≡ c2 ++ a → n3 ≡ length c3 → c4 ≡ c3 ++ y ∷ [] → c5 ≡ c4 ++ b → slice_set (slice_set c5 n1 i) n3 j ≡ c0 ++ (subject ++ i ∷ (a ++ j ∷ b))
both_written c0 subject a b c1 c2 c3 c4 c5 x y i j n1 n3 e1 m1 e2 e3 m3 e4 e5 =
    let l2 = ap length e2 ∙ length-append c1 (x ∷ []) in
    let l3 = ap length e3 ∙ length-append c2 a in
    let at3 : n3 ≡ length (c1 ++ i ∷ a) = omega (arith, length-append c1 (i ∷ a)) in
    let all : c5 ≡ (((c1 ++ x ∷ []) ++ a) ++ y ∷ []) ++ b = cc in
    let flat : (((c1 ++ x ∷ []) ++ a) ++ y ∷ []) ++ b ≡ c1 ++ x ∷ (a ++ y ∷ b) = simp append_assoc in
    ap (λ l. slice_set (slice_set l n1 i) n3 j) (all ∙ flat)
    ∙ ap (λ n. slice_set (slice_set (c1 ++ x ∷ (a ++ y ∷ b)) n i) n3 j) m1
    ∙ ap (λ n. slice_set (slice_set (c1 ++ x ∷ (a ++ y ∷ b)) (length c1) i) n j) at3
    ∙ two_writes c1 a b x y i j
    ∙ ap (λ l. l ++ i ∷ (a ++ j ∷ b)) e1
    ∙ append_assoc c0 subject (i ∷ (a ++ j ∷ b))

-- what a form with two ways has appended once both of its jumps are written
pub fork_is : (c0 c1 c2 c3 c4 c5 : List Instr) (x y : Instr) (leave : ℕ → Instr) (subject part other : Code) (n0 n1 n2 n3 n4 n5 : ℕ) → n0 ≡ length c0 → c1 ≡ c0 ++ subject n0 → n1 ≡ length c1 → c2 ≡ c1 ++ x ∷ [] → n2 ≡ length c2 → c3 ≡ c2 ++ part n2 → n3 ≡ length c3 → c4 ≡ c3 ++ y ∷ [] → n4 ≡ length c4 → c5 ≡ c4 ++ other n4 → n5 ≡ length c5 → slice_set (slice_set c5 n1 (leave (n3 + 1))) n3 (Jump n5) ≡ c0 ++ fork subject leave part other n0
fork_is c0 c1 c2 c3 c4 c5 x y leave subject part other n0 n1 n2 n3 n4 n5 m0 e1 m1 e2 m2 e3 m3 e4 m4 e5 m5 =
    let s0 = subject n0 in
    let l1 = ap length e1 ∙ length-append c0 s0 in
    let l2 = ap length e2 ∙ length-append c1 (x ∷ []) in
    let l3 = ap length e3 ∙ length-append c2 (part n2) in
    let l4 = ap length e4 ∙ length-append c3 (y ∷ []) in
    let l5 = ap length e5 ∙ length-append c4 (other n4) in
    let begin : n2 ≡ n0 + length s0 + 1 = omega arith in
    let f = ap (λ n. length (part n)) begin in
    let over : n4 ≡ n0 + length s0 + 1 + length (part (n0 + length s0 + 1)) + 1 = omega (arith, f, l3, l4, m3, m4, m2, begin) in
    let s = ap (λ n. length (other n)) over in
    let end : n5 ≡ n0 + length s0 + 1 + length (part (n0 + length s0 + 1)) + 1 + length (other (n0 + length s0 + 1 + length (part (n0 + length s0 + 1)) + 1)) = omega (arith, s, l5, m4, m5, over) in
    both_written c0 s0 (part n2) (other n4) c1 c2 c3 c4 c5 x y (leave (n3 + 1)) (Jump n5) n1 n3 e1 m1 e2 e3 m3 e4 e5
    ∙ ap (λ n. c0 ++ (s0 ++ leave n ∷ (part n2 ++ Jump n5 ∷ other n4))) (omega (arith, l4, m3, m4))
    ∙ (λ i. c0 ++ (s0 ++ leave (over i) ∷ (part (begin i) ++ Jump (end i) ∷ other (over i))))
