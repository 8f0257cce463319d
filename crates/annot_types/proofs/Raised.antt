-- Blocks that are raised, and settings whose blocks are.
use Rattle.std.proofs.Common.{◌≡◌, ℕ, ◌*◌, ℤ, pos, ◌*ℤ◌, Bool, true, false, cond, List, [], ◌∷◌, map, Option, None, Some, refl}
use Rattle.std.proofs.Common.{arith, ap, sym, ◌∙◌, subst}
use Rattle.std.specs.Option.{option_map}
use Rattle.std.proofs.lemmas.Int.{ints}
use Rattle.std.proofs.Math.IntN.{*ℤ_comm}
use Rattle.std.proofs.lemmas.Bool.{false_from_ne_true}
use Rattle.raml_num.proofs.Differences.{mul_assoc}
use Rattle.cost_free.specs.declared.task.Meter.{Meter}
use Rattle.cost_free.specs.declared.task.Meter.TheVariants.{Ticks, Cells, Work}
use Rattle.cost_free.specs.Task as k
use Rattle.cost_free.specs.Task.{Kind, Free, same_meter}
use Rattle.cost_free.specs.Blocked.{is_for_meter}
use Rattle.annot_types.specs.Program.{Program, members}
use Rattle.annot_types.specs.Certificate.{Entries, Sig, Hint, Let, Share, Call, Body, Solved, Refuted, Calls, Block, sigs_of}
use Rattle.annot_types.specs.Signature.{sig_among, sig_in, free_budget}
use Rattle.annot_types.specs.Rules.{Mode, With, Own}
use Rattle.annot_types.specs.Holds.{times, times_sig, times_hint, times_body, times_block, raised}
use Rattle.annot_types.proofs.Times.{BlockTimes, BlocksTimes, sig_among_times}

-- Entries and signatures, multiplied twice or once

product : (u t : ℕ) (z : ℤ) → pos (u * t) *ℤ z ≡ pos u *ℤ (pos t *ℤ z)
product u t z = mul_assoc (pos u) (pos t) z

exchange : (u t : ℕ) (z : ℤ) → pos t *ℤ (pos u *ℤ z) ≡ pos u *ℤ (pos t *ℤ z)
exchange u t z = sym (mul_assoc (pos t) (pos u) z) ∙ ap (λ w. w *ℤ z) (*ℤ_comm (pos t) (pos u)) ∙ mul_assoc (pos u) (pos t) z

once : (z : ℤ) → pos 1 *ℤ z ≡ z
once z = grind (arith, ints)

pub times_product : (u t : ℕ) (es : Entries) → times (u * t) es ≡ times u (times t es)
times_product u t [] = refl
times_product u t (e ∷ es) = λ i. (e.0, product u t e.1 i) ∷ times_product u t es i

times_exchange : (u t : ℕ) (es : Entries) → times t (times u es) ≡ times u (times t es)
times_exchange u t [] = refl
times_exchange u t (e ∷ es) = λ i. (e.0, exchange u t e.1 i) ∷ times_exchange u t es i

pub times_once : (es : Entries) → times 1 es ≡ es
times_once [] = refl
times_once (e ∷ es) = λ i. (e.0, once e.1 i) ∷ times_once es i

pub sig_once : (s : Sig) → times_sig 1 s ≡ s
sig_once s = λ i. record { args = times_once s.args i; result = times_once s.result i }

option_product : (u t : ℕ) (o : Option Sig) → option_map (times_sig (u * t)) o ≡ option_map (times_sig u) (option_map (times_sig t) o)
option_product u t None = refl
option_product u t (Some s) = λ i. Some (record { args = times_product u t s.args i; result = times_product u t s.result i })

option_exchange : (u t : ℕ) (o : Option Sig) → option_map (times_sig t) (option_map (times_sig u) o) ≡ option_map (times_sig u) (option_map (times_sig t) o)
option_exchange u t None = refl
option_exchange u t (Some s) = λ i. Some (record { args = times_exchange u t s.args i; result = times_exchange u t s.result i })

pub option_once : (o : Option Sig) → option_map (times_sig 1) o ≡ o
option_once None = refl
option_once (Some s) = ap Some (sig_once s)

sigs_of_times : (t : ℕ) (body : Body) → sigs_of (times_body t body) ≡ map (times_sig t) (sigs_of body)
sigs_of_times t (Solved sigs hints) = refl
sigs_of_times t (Refuted farkas) = refl
sigs_of_times t (Calls fun) = refl

pub sig_in_times : (P : Program) (t : ℕ) (b : Block) (f : ℕ) → sig_in P (times_block t b) f ≡ option_map (times_sig t) (sig_in P b f)
sig_in_times P t b f = ap (λ ss. sig_among (members P b.task.group) ss f) (sigs_of_times t b.body) ∙ sig_among_times t (members P b.task.group) (sigs_of b.body) f

-- One block

pub on : (meter : Meter) (t : ℕ) (b : Block) → is_for_meter meter b.task.kind ≡ true → raised meter t b ≡ times_block t b
on meter t b e = ap (λ c. cond c (times_block t b) b) e

pub off : (meter : Meter) (t : ℕ) (b : Block) → is_for_meter meter b.task.kind ≡ false → raised meter t b ≡ b
off meter t b e = ap (λ c. cond c (times_block t b) b) e

not_free : (meter : Meter) (kind : Kind) (budget : ℕ) → free_budget kind ≡ Some budget → is_for_meter meter kind ≡ true → ⊥
not_free meter (Free n f t) budget e on = cc
not_free meter (k.With other) budget e on = cc

same : (a b : Meter) → With a ≡ With b → a ≡ b
same a b e = cc

-- two blocks of a task of the meter
multiplied : (u : ℕ) (P : Program) (meter : Meter) (b c : Block) → c.task ≡ b.task → is_for_meter meter b.task.kind ≡ true →
    ((f : ℕ) → sig_in P c f ≡ option_map (times_sig u) (sig_in P b f)) → BlockTimes u P (With meter) b c
multiplied u P meter b c task e sigs = record { task = task; free = λ budget free. absurd (not_free meter b.task.kind budget free e); cost = λ other m on. sigs }

-- a block of another task
unchanged : (u : ℕ) (P : Program) (meter : Meter) (b : Block) → is_for_meter meter b.task.kind ≡ false → BlockTimes u P (With meter) b b
unchanged u P meter b e = record {
  task = refl;
  free = λ budget free f. refl;
  cost = λ other m on. absurd (let wrong = subst (λ m. is_for_meter m b.task.kind ≡ true) (sym (same meter other m)) on in cc);
}

-- raised by u t, and by t
more_raised : (u t : ℕ) (P : Program) (meter : Meter) (b : Block) (c : Bool) → is_for_meter meter b.task.kind ≡ c →
    BlockTimes u P (With meter) (raised meter t b) (raised meter (u * t) b)
more_raised u t P meter b true e =
    subst (λ x. BlockTimes u P (With meter) x (raised meter (u * t) b)) (sym (on meter t b e))
    (subst (BlockTimes u P (With meter) (times_block t b)) (sym (on meter (u * t) b e))
    (multiplied u P meter (times_block t b) (times_block (u * t) b) refl e
    (λ f. sig_in_times P (u * t) b f ∙ option_product u t (sig_in P b f) ∙ ap (option_map (times_sig u)) (sym (sig_in_times P t b f)))))
more_raised u t P meter b false e =
    subst (λ x. BlockTimes u P (With meter) x (raised meter (u * t) b)) (sym (off meter t b e))
    (subst (BlockTimes u P (With meter) b) (sym (off meter (u * t) b e)) (unchanged u P meter b e))

-- raised by t, where it was raised by u before and where it was not
raised_before : (u t : ℕ) (P : Program) (meter : Meter) (b : Block) (c : Bool) → is_for_meter meter b.task.kind ≡ c →
    BlockTimes u P (With meter) (raised meter t b) (raised meter t (raised meter u b))
raised_before u t P meter b true e =
    subst (λ x. BlockTimes u P (With meter) x (raised meter t (raised meter u b))) (sym (on meter t b e))
    (subst (BlockTimes u P (With meter) (times_block t b)) (sym (ap (raised meter t) (on meter u b e) ∙ on meter t (times_block u b) e))
    (multiplied u P meter (times_block t b) (times_block t (times_block u b)) refl e
    (λ f. sig_in_times P t (times_block u b) f ∙ ap (option_map (times_sig t)) (sig_in_times P u b f) ∙ option_exchange u t (sig_in P b f)
    ∙ ap (option_map (times_sig u)) (sym (sig_in_times P t b f)))))
raised_before u t P meter b false e =
    subst (λ x. BlockTimes u P (With meter) x (raised meter t (raised meter u b))) (sym (off meter t b e))
    (subst (BlockTimes u P (With meter) b) (sym (ap (raised meter t) (off meter u b e) ∙ off meter t b e)) (unchanged u P meter b e))

-- All blocks

pub all_more_raised : (u t : ℕ) (P : Program) (meter : Meter) (bs : List Block) → BlocksTimes u P (With meter) (map (raised meter t) bs) (map (raised meter (u * t)) bs)
all_more_raised u t P meter [] = tt
all_more_raised u t P meter (b ∷ bs) = (more_raised u t P meter b (is_for_meter meter b.task.kind) refl, all_more_raised u t P meter bs)

pub all_raised_before : (u t : ℕ) (P : Program) (meter : Meter) (bs : List Block) →
    BlocksTimes u P (With meter) (map (raised meter t) bs) (map (raised meter t) (map (raised meter u) bs))
all_raised_before u t P meter [] = tt
all_raised_before u t P meter (b ∷ bs) = (raised_before u t P meter b (is_for_meter meter b.task.kind) refl, all_raised_before u t P meter bs)

own_not_with : (meter : Meter) → Own ≡ With meter → ⊥
own_not_with meter e = cc

pub all_same : (u : ℕ) (P : Program) (bs : List Block) → BlocksTimes u P Own bs bs
all_same u P [] = tt
all_same u P (b ∷ bs) = (record { task = refl; free = λ budget free f. refl; cost = λ meter m. absurd (own_not_with meter m) }, all_same u P bs)

-- Blocks of one meter are raised, and the task is of another kind.

pub same_meters : (a b : Meter) → same_meter a b ≡ true → a ≡ b
same_meters Ticks Ticks e = refl
same_meters Ticks Cells e = absurd (cc)
same_meters Ticks Work e = absurd (cc)
same_meters Cells Ticks e = absurd (cc)
same_meters Cells Cells e = refl
same_meters Cells Work e = absurd (cc)
same_meters Work Ticks e = absurd (cc)
same_meters Work Cells e = absurd (cc)
same_meters Work Work e = refl

pub same_self : (a : Meter) → same_meter a a ≡ true
same_self Ticks = refl
same_self Cells = refl
same_self Work = refl

not_both : (a b : Meter) (kind : Kind) → same_meter a b ≡ false → is_for_meter a kind ≡ true → is_for_meter b kind ≡ true → ⊥
not_both a b (Free n f t) differ of_a of_b = cc
not_both a b (k.With meter) differ of_a of_b =
    let one : a ≡ b = same_meters a meter of_a ∙ sym (same_meters b meter of_b) in
    let wrong : same_meter a a ≡ false = subst (λ b. same_meter a b ≡ false) (sym one) differ in
    let right = same_self a in
    cc

free_kept : (u : ℕ) (P : Program) (meter : Meter) (b : Block) (c : Bool) → is_for_meter meter b.task.kind ≡ c → BlockTimes 1 P Own b (raised meter u b)
free_kept u P meter b true e = subst (BlockTimes 1 P Own b) (sym (on meter u b e))
    (record { task = refl; free = λ budget free. absurd (not_free meter b.task.kind budget free e); cost = λ other m. absurd (own_not_with other m) })
free_kept u P meter b false e = subst (BlockTimes 1 P Own b) (sym (off meter u b e)) (record { task = refl; free = λ budget free f. refl; cost = λ other m. absurd (own_not_with other m) })

pub all_free_kept : (u : ℕ) (P : Program) (meter : Meter) (bs : List Block) → BlocksTimes 1 P Own bs (map (raised meter u) bs)
all_free_kept u P meter [] = tt
all_free_kept u P meter (b ∷ bs) = (free_kept u P meter b (is_for_meter meter b.task.kind) refl, all_free_kept u P meter bs)

itself : (P : Program) (m : Mode) (b : Block) → BlockTimes 1 P m b b
itself P m b = record { task = refl; free = λ budget free f. refl; cost = λ other e on f. sym (option_once (sig_in P b f)) }

pub not_true : (b : Bool) → (b ≡ true → ⊥) → b ≡ false
not_true = false_from_ne_true

other_kept : (u t : ℕ) (P : Program) (meter other : Meter) → same_meter meter other ≡ false → (b : Block) (c : Bool) → is_for_meter meter b.task.kind ≡ c →
    BlockTimes 1 P (With other) (raised other t b) (raised other t (raised meter u b))
other_kept u t P meter other differ b false e =
    subst (λ x. BlockTimes 1 P (With other) (raised other t b) (raised other t x)) (sym (off meter u b e)) (itself P (With other) (raised other t b))
other_kept u t P meter other differ b true e =
    let no : is_for_meter other b.task.kind ≡ false = false_from_ne_true (is_for_meter other b.task.kind) (not_both meter other b.task.kind differ e) in
    subst (λ x. BlockTimes 1 P (With other) x (raised other t (raised meter u b))) (sym (off other t b no))
    (subst (BlockTimes 1 P (With other) b) (sym (ap (raised other t) (on meter u b e) ∙ off other t (times_block u b) no))
    (record {
      task = refl;
      free = λ budget free. absurd (not_free meter b.task.kind budget free e);
      cost = λ third m of_third. absurd (let wrong = subst (λ m. is_for_meter m b.task.kind ≡ true) (sym (same other third m)) of_third in cc);
    }))

pub all_other_kept : (u t : ℕ) (P : Program) (meter other : Meter) → same_meter meter other ≡ false → (bs : List Block) →
    BlocksTimes 1 P (With other) (map (raised other t) bs) (map (raised other t) (map (raised meter u) bs))
all_other_kept u t P meter other differ [] = tt
all_other_kept u t P meter other differ (b ∷ bs) = (other_kept u t P meter other differ b (is_for_meter meter b.task.kind) refl, all_other_kept u t P meter other differ bs)

-- a block with its numbers as they are

pub hint_once : (h : Hint) → times_hint 1 h ≡ h
hint_once (Let rs) = ap Let (list rs)
  where
    list : (rs : List Entries) → map (times 1) rs ≡ rs
    list [] = refl
    list (r ∷ rs) = λ i. times_once r i ∷ list rs i
hint_once (Share p) = ap Share (times_once p)
hint_once (Call ms) = ap Call (times_once ms)

pub hints_once : (hs : List Hint) → map (times_hint 1) hs ≡ hs
hints_once [] = refl
hints_once (h ∷ hs) = λ i. hint_once h i ∷ hints_once hs i

pub all_hints_once : (hss : List (List Hint)) → map (map (times_hint 1)) hss ≡ hss
all_hints_once [] = refl
all_hints_once (hs ∷ hss) = λ i. hints_once hs i ∷ all_hints_once hss i

pub sigs_once : (ss : List Sig) → map (times_sig 1) ss ≡ ss
sigs_once [] = refl
sigs_once (s ∷ ss) = λ i. sig_once s i ∷ sigs_once ss i

pub body_once : (body : Body) → times_body 1 body ≡ body
body_once (Solved sigs hints) = λ i. Solved (sigs_once sigs i) (all_hints_once hints i)
body_once (Refuted farkas) = refl
body_once (Calls fun) = refl
