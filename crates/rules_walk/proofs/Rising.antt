-- Lists that are changed item by item, and tables of a meter that is raised.
use Rattle.std.proofs.Common.{◌≡◌, refl, ap, sym, ◌∙◌, subst, arith}
use Rattle.std.specs.Prelude.{ℕ, zero, suc, ◌+◌, ◌*◌, ◌^◌, ◌<◌, ◌≤◌, Bool, true, false, cond, List, [], ◌∷◌, ◌++◌, map, take, drop, length, slice_get, slice_set, slice_index_or, Option, None, Some}
use Rattle.std.specs.Option.{option_map}
use Rattle.std.proofs.lemmas.List.{length-map}
use Rattle.index_shift.specs.Potential.{Annotation}
use Rattle.normal_spec.specs.Norm.{NormFun}
use Rattle.normal_spec.specs.Context.{types}
use Rattle.cost_free.specs.declared.task.Meter.{Meter}
use Rattle.cost_free.specs.Task as k
use Rattle.cost_free.specs.Task.{Kind, Free, same_meter}
use Rattle.cost_free.specs.Blocked.{is_for_meter}
use Rattle.annot_types.specs.Program.{Program}
use Rattle.annot_types.specs.Certificate.{annotation, Sig, Block}
use Rattle.annot_types.specs.Signature.{sig_in, free_budget, or_else, cost_sig}
use Rattle.annot_types.specs.Holds.{times_sig, times_block, raised}
use Rattle.annot_types.specs.Rows.{size as size_of}
use Rattle.annot_types.proofs.Linear.{mul, annotation_mul}
use Rattle.annot_types.proofs.Raised.{sig_in_times, on, off, same_meters, same_self, not_true}
use Rattle.rules_spec.specs.Numbers.{Signature}
use Rattle.rules_spec.specs.Planned.{is_usable, usable_from}
use Rattle.rules_spec.specs.Found.{listed, signature, free_signature, free_in, at_budget}
use Rattle.rules_spec.specs.Capped.{cap}
use Rattle.rules_walk.specs.Read.{signature_of, signed}
use Rattle.rules_walk.specs.Remembers.{Tables, costs, cost_at, over, Remembers, capped_signature, Knows}
use Rattle.rules_walk.specs.Filled.{blocks_at}
use Rattle.rules_walk.specs.Raised.{raised_numbers, raised_signature, NothingLeaves, NonePasses, Rises}

-- The items before a place are changed.
module _ {X Y : Type 0} (read : X → Y) (f : Y → Y) where
  pub record ChangedTo (place : ℕ) (old now : List X) : Type 0 where
    pub are : map read now ≡ map f (take place (map read old)) ++ drop place (map read old)
    pub count : length now ≡ length old

  pub unchanged : (old : List X) → ChangedTo 0 old old
  unchanged old = record { are = refl; count = refl }

  here_is : (now : List X) (ys : List Y) (k : ℕ) (d : X) → k < length now → map read now ≡ map f (take k ys) ++ drop k ys → slice_get ys k ≡ Some (read (slice_index_or now k d))
  here_is [] ys k d l e = absurd (omega (arith, l))
  here_is (x ∷ now) [] zero d l e = absurd (cc)
  here_is (x ∷ now) [] (suc k) d l e = absurd (cc)
  here_is (x ∷ now) (y ∷ ys) zero d l e = ap Some (head y (read x) (ys) (map read now) (sym e))
    where
      head : (a b : Y) (us vs : List Y) → a ∷ us ≡ b ∷ vs → a ≡ b
      head a b us vs e = cc
  here_is (x ∷ now) (y ∷ ys) (suc k) d l e = here_is now ys k d (omega (arith, l)) (tail (read x) (f y) (map read now) _ e)
    where
      tail : (a b : Y) (us vs : List Y) → a ∷ us ≡ b ∷ vs → us ≡ vs
      tail a b us vs e = cc

  set_next : (ys : List Y) (k : ℕ) (y : Y) → slice_get ys k ≡ Some y → slice_set (map f (take k ys) ++ drop k ys) k (f y) ≡ map f (take (suc k) ys) ++ drop (suc k) ys
  set_next [] k y e = absurd (cc)
  set_next (z ∷ ys) zero y e = λ i. f (some_is y z (sym e) i) ∷ ys
    where
      some_is : (a b : Y) → Some a ≡ Some b → a ≡ b
      some_is a b e = cc
  set_next (z ∷ ys) (suc k) y e = ap (λ l. f z ∷ l) (set_next ys k y e)

  read_set : (xs : List X) (k : ℕ) (x : X) → map read (slice_set xs k x) ≡ slice_set (map read xs) k (read x)
  read_set [] k x = refl
  read_set (y ∷ xs) zero x = refl
  read_set (y ∷ xs) (suc k) x = ap (λ l. read y ∷ l) (read_set xs k x)

  set_count : (xs : List X) (k : ℕ) (x : X) → length (slice_set xs k x) ≡ length xs
  set_count [] k x = refl
  set_count (y ∷ xs) zero x = refl
  set_count (y ∷ xs) (suc k) x = ap suc (set_count xs k x)

  pub one_more : (k : ℕ) (old now : List X) (x new : X) → k < length old → ChangedTo k old now → x ≡ slice_index_or now k x → read new ≡ f (read x) → ChangedTo (k + 1) old (slice_set now k new)
  one_more k old now d new l h at e = record {
    are = read_set now k new ∙ (λ i. slice_set (h.are i) k ((e ∙ ap (λ x. f (read x)) at) i))
        ∙ set_next (map read old) k _ (here_is now (map read old) k d (let c = h.count in omega (arith, l, c)) h.are)
        ∙ (λ i. map f (take (next k i) (map read old)) ++ drop (next k i) (map read old));
    count = set_count now k new ∙ h.count;
  }
    where
      next : (k : ℕ) → suc k ≡ k + 1
      next k = omega arith

  front_is : (ys : List Y) (k : ℕ) → length ys ≤ k → map f (take k ys) ++ drop k ys ≡ map f ys
  front_is [] zero l = refl
  front_is [] (suc k) l = refl
  front_is (y ∷ ys) zero l = absurd (omega (arith, l))
  front_is (y ∷ ys) (suc k) l = ap (λ l. f y ∷ l) (front_is ys k (omega (arith, l)))

  pub all_changed : (k : ℕ) (old now : List X) → length old ≤ k → ChangedTo k old now → map read now ≡ map f (map read old)
  all_changed k old now l h = h.are ∙ front_is (map read old) k (let c = length-map old read in omega (arith, l, c))

-- numbers that stay within 128 bits
times_listed : (n t : ℕ) (q : Annotation) → ((k : ℕ) → q k * t < 2 ^ 128) → raised_numbers t (listed n q) ≡ listed n (mul t q)
times_listed zero t q h = refl
times_listed (suc n) t q h =
    let low = h 0 in
    let one : cap (q 0 * t) ≡ t * q 0 = grind (arith, low) in
    λ i. one i ∷ times_listed n t (λ k. q (suc k)) (λ k. h (suc k)) i

-- the signature of a function, raised
signature_times : (t budget : ℕ) (g : Option NormFun) (s : Sig) → NothingLeaves t s →
    raised_signature t (signature g budget (Some s)) ≡ signature g budget (Some (times_sig t s))
signature_times t budget None s h = refl
signature_times t budget (Some g) s h = λ i. record {
  budget = budget;
  args = (times_listed (size_of (types g.params) budget) t (annotation s.args) h.args ∙ ap (listed (size_of (types g.params) budget)) (sym (annotation_mul t s.args))) i;
  result = (times_listed (size_of (g.result ∷ []) budget) t (annotation s.result) h.result ∙ ap (listed (size_of (g.result ∷ []) budget)) (sym (annotation_mul t s.result))) i;
}

-- What is found in raised blocks
or_else_times : (t : ℕ) (a b : Option Sig) → or_else (option_map (times_sig t) a) (option_map (times_sig t) b) ≡ option_map (times_sig t) (or_else a b)
or_else_times t None b = refl
or_else_times t (Some s) b = refl

not_both : (a b : Meter) (kind : Kind) → same_meter b a ≡ false → is_for_meter a kind ≡ true → is_for_meter b kind ≡ true → ⊥
not_both a b (Free n f t) differ of_a of_b = cc
not_both a b (k.With meter) differ of_a of_b =
    let one : b ≡ a = same_meters b meter of_b ∙ sym (same_meters a meter of_a) in
    let wrong : same_meter b b ≡ false = subst (λ c. same_meter b c ≡ false) (sym one) differ in
    let right = same_self b in
    cc

not_free : (meter : Meter) (kind : Kind) → is_for_meter meter kind ≡ true → free_budget kind ≡ None
not_free meter (Free n f t) e = absurd (cc)
not_free meter (k.With other) e = refl

module _ (P : Program) (meter : Meter) (t : ℕ) where
  cost_raised : (bs : List Block) (f : ℕ) → cost_sig P meter (map (raised meter t) bs) f ≡ option_map (times_sig t) (cost_sig P meter bs f)
  cost_raised [] f = refl
  cost_raised (b ∷ bs) f = by (is_for_meter meter b.task.kind) (cost_raised bs f) refl
    where
      by : (c : Bool) → cost_sig P meter (map (raised meter t) bs) f ≡ option_map (times_sig t) (cost_sig P meter bs f) → is_for_meter meter b.task.kind ≡ c → cost_sig P meter (map (raised meter t) (b ∷ bs)) f ≡ option_map (times_sig t) (cost_sig P meter (b ∷ bs) f)
      by true rest e =
          (λ i. cost_sig P meter (on meter t b e i ∷ map (raised meter t) bs) f)
          ∙ (λ i. or_else (cond (e i) (sig_in P (times_block t b) f) None) (rest i))
          ∙ ap (λ o. or_else o (option_map (times_sig t) (cost_sig P meter bs f))) (sig_in_times P t b f)
          ∙ or_else_times t (sig_in P b f) (cost_sig P meter bs f)
          ∙ (λ i. option_map (times_sig t) (or_else (cond (sym e i) (sig_in P b f) None) (cost_sig P meter bs f)))
      by false rest e =
          (λ i. cost_sig P meter (off meter t b e i ∷ map (raised meter t) bs) f)
          ∙ (λ i. or_else (cond (e i) (sig_in P b f) None) (rest i))
          ∙ (λ i. option_map (times_sig t) (or_else (cond (sym e i) (sig_in P b f) None) (cost_sig P meter bs f)))

  cost_kept : (other : Meter) → same_meter other meter ≡ false → (bs : List Block) (f : ℕ) → cost_sig P other (map (raised meter t) bs) f ≡ cost_sig P other bs f
  cost_kept other differ [] f = refl
  cost_kept other differ (b ∷ bs) f = by (is_for_meter meter b.task.kind) (cost_kept other differ bs f) refl
    where
      by : (c : Bool) → cost_sig P other (map (raised meter t) bs) f ≡ cost_sig P other bs f → is_for_meter meter b.task.kind ≡ c → cost_sig P other (map (raised meter t) (b ∷ bs)) f ≡ cost_sig P other (b ∷ bs) f
      by true rest e =
          let no : is_for_meter other b.task.kind ≡ false = not_true (is_for_meter other b.task.kind) (not_both meter other b.task.kind differ e) in
          (λ i. cost_sig P other (on meter t b e i ∷ map (raised meter t) bs) f)
          ∙ (λ i. or_else (cond (no i) (sig_in P (times_block t b) f) None) (rest i))
          ∙ (λ i. or_else (cond (sym no i) (sig_in P b f) None) (cost_sig P other bs f))
      by false rest e = (λ i. cost_sig P other (off meter t b e i ∷ map (raised meter t) bs) f)
          ∙ ap (λ o. or_else (cond (is_for_meter other b.task.kind) (sig_in P b f) None) o) rest

  -- a block with cost is not cost-free
  free_block : (g : Option NormFun) (b : Block) (f : ℕ) → free_signature g (free_budget (raised meter t b).task.kind) (sig_in P (raised meter t b) f) ≡ free_signature g (free_budget b.task.kind) (sig_in P b f)
  free_block g b f = by (is_for_meter meter b.task.kind) refl
    where
      by : (c : Bool) → is_for_meter meter b.task.kind ≡ c → free_signature g (free_budget (raised meter t b).task.kind) (sig_in P (raised meter t b) f) ≡ free_signature g (free_budget b.task.kind) (sig_in P b f)
      by false e = λ i. free_signature g (free_budget (off meter t b e i).task.kind) (sig_in P (off meter t b e i) f)
      by true e =
          let none = not_free meter b.task.kind e in
          (λ i. free_signature g (free_budget (on meter t b e i).task.kind) (sig_in P (on meter t b e i) f))
          ∙ ap (λ o. free_signature g o (sig_in P (times_block t b) f)) none ∙ ap (λ o. free_signature g o (sig_in P b f)) (sym none)

  free_raised : (d : ℕ) (bs all : List Block) (k f : ℕ) → free_in (over P d (map (raised meter t) all)) (slice_get (map (raised meter t) bs) k) f ≡ free_in (over P d all) (slice_get bs k) f
  free_raised d [] all k f = refl
  free_raised d (b ∷ bs) all zero f = free_block (slice_get P.funs f) b f
  free_raised d (b ∷ bs) all (suc k) f = free_raised d bs all k f

  usable_block : (d : ℕ) (b : Block) (f : ℕ) → is_usable d (free_budget (raised meter t b).task.kind) (sig_in P (raised meter t b) f) ≡ is_usable d (free_budget b.task.kind) (sig_in P b f)
  usable_block d b f = by (is_for_meter meter b.task.kind) refl
    where
      by : (c : Bool) → is_for_meter meter b.task.kind ≡ c → is_usable d (free_budget (raised meter t b).task.kind) (sig_in P (raised meter t b) f) ≡ is_usable d (free_budget b.task.kind) (sig_in P b f)
      by false e = λ i. is_usable d (free_budget (off meter t b e i).task.kind) (sig_in P (off meter t b e i) f)
      by true e =
          let none = not_free meter b.task.kind e in
          (λ i. is_usable d (free_budget (on meter t b e i).task.kind) (sig_in P (on meter t b e i) f))
          ∙ ap (λ o. is_usable d o (sig_in P (times_block t b) f)) none ∙ ap (λ o. is_usable d o (sig_in P b f)) (sym none)

  usable_raised : (d f k : ℕ) (bs : List Block) → usable_from k P d f (map (raised meter t) bs) ≡ usable_from k P d f bs
  usable_raised d f k [] = refl
  usable_raised d f k (b ∷ bs) = λ i. cond (usable_block d b f i) (k ∷ usable_raised d f (suc k) bs i) (usable_raised d f (suc k) bs i)

-- the table at a function
at_mapped : (g : Signature → Signature) (xs : List (Option Signature)) (f : ℕ) → slice_index_or (map (option_map g) xs) f None ≡ option_map g (slice_index_or xs f None)
at_mapped g [] f = refl
at_mapped g (x ∷ xs) zero = refl
at_mapped g (x ∷ xs) (suc f) = at_mapped g xs f

pub risen : (P : Program) (d : ℕ) (meter : Meter) (t : ℕ) (earlier : List Block) (old new : Tables) → NonePasses P meter t earlier → Rises meter t old new →
    Remembers P d earlier old → Remembers P d (map (raised meter t) earlier) new
risen P d meter t earlier old new low g h = record {
  count = ap length g.free ∙ h.count ∙ sym (length-map earlier (raised meter t));
  functions = ap length g.usable ∙ h.functions;
  paying = λ other. by_length other (same_meter other meter) refl;
  free = λ k f. ap (λ l. signed f (slice_index_or l k [])) g.free ∙ h.free k f ∙ sym (free_raised P meter t d earlier earlier k f);
  usable = λ f b. ap (λ l. blocks_at b (slice_index_or l f [])) g.usable ∙ h.usable f b ∙ sym (usable_raised P meter t b f 0 earlier);
  cost = λ other f. by_cost other f (same_meter other meter) refl;
}
  where
    by_length : (m : Meter) (b : Bool) → same_meter m meter ≡ b → length (costs new m) ≡ length P.funs
    by_length m false e = ap length (g.others m e) ∙ h.paying m
    by_length m true e = ap (λ m. length (costs new m)) (same_meters m meter e)
        ∙ sym (length-map (costs new meter) (option_map signature_of)) ∙ ap length g.paying ∙ length-map (map (option_map signature_of) (costs old meter)) (option_map (raised_signature t))
        ∙ length-map (costs old meter) (option_map signature_of) ∙ h.paying meter

    raised_at : (f : ℕ) (o : Option Sig) → cost_sig P meter earlier f ≡ o →
        option_map (raised_signature t) (at_budget (over P d earlier) (slice_get P.funs f) o) ≡ at_budget (over P d (map (raised meter t) earlier)) (slice_get P.funs f) (option_map (times_sig t) o)
    raised_at f None e = refl
    raised_at f (Some s) e = ap Some (signature_times t d (slice_get P.funs f) s (low f s e))

    by_cost : (m : Meter) (f : ℕ) (b : Bool) → same_meter m meter ≡ b → cost_at new m f ≡ at_budget (over P d (map (raised meter t) earlier)) (slice_get P.funs f) (cost_sig P m (map (raised meter t) earlier) f)
    by_cost m f false e = ap (λ l. slice_index_or (map (option_map signature_of) l) f None) (g.others m e) ∙ h.cost m f
        ∙ ap (at_budget (over P d earlier) (slice_get P.funs f)) (sym (cost_kept P meter t m e earlier f))
    by_cost m f true e = let is : m ≡ meter = same_meters m meter e in
        ap (λ m. cost_at new m f) is ∙ ap (λ l. slice_index_or l f None) g.paying ∙ at_mapped (raised_signature t) (map (option_map signature_of) (costs old meter)) f
        ∙ ap (option_map (raised_signature t)) (h.cost meter f)
        ∙ raised_at f (cost_sig P meter earlier f) refl
        ∙ ap (at_budget (over P d (map (raised meter t) earlier)) (slice_get P.funs f)) (sym (cost_raised P meter t earlier f))
        ∙ ap (λ m. at_budget (over P d (map (raised meter t) earlier)) (slice_get P.funs f) (cost_sig P m (map (raised meter t) earlier) f)) (sym is)

-- products that leave 128 bits stand for the same number
capped_listed : (n t : ℕ) (q : Annotation) → map cap (raised_numbers t (listed n q)) ≡ map cap (listed n (mul t q))
capped_listed zero t q = refl
capped_listed (suc n) t q =
    let one : cap (cap (q 0 * t)) ≡ cap (t * q 0) = twice (q 0 * t) ∙ ap cap (turned (q 0) t) in
    λ i. one i ∷ capped_listed n t (λ k. q (suc k)) i
  where
    twice : (n : ℕ) → cap (cap n) ≡ cap n
    twice n = omega arith

    turned : (a t : ℕ) → a * t ≡ t * a
    turned a t = grind arith

signature_capped : (t budget : ℕ) (g : Option NormFun) (s : Sig) →
    capped_signature (raised_signature t (signature g budget (Some s))) ≡ capped_signature (signature g budget (Some (times_sig t s)))
signature_capped t budget None s = refl
signature_capped t budget (Some g) s = λ i. record {
  budget = budget;
  args = (capped_listed (size_of (types g.params) budget) t (annotation s.args) ∙ ap (λ q. map cap (listed (size_of (types g.params) budget) q)) (sym (annotation_mul t s.args))) i;
  result = (capped_listed (size_of (g.result ∷ []) budget) t (annotation s.result) ∙ ap (λ q. map cap (listed (size_of (g.result ∷ []) budget) q)) (sym (annotation_mul t s.result))) i;
}

pub risen_known : (P : Program) (d : ℕ) (meter : Meter) (t : ℕ) (earlier : List Block) (old new : Tables) → Rises meter t old new →
    Remembers P d earlier old → Knows P d (map (raised meter t) earlier) new
risen_known P d meter t earlier old new g h = record {
  free = λ k f. ap (λ l. signed f (slice_index_or l k [])) g.free ∙ h.free k f ∙ sym (free_raised P meter t d earlier earlier k f);
  cost = λ other f. by_cost other f (same_meter other meter) refl;
}
  where
    raised_at : (f : ℕ) (o : Option Sig) →
        option_map capped_signature (option_map (raised_signature t) (at_budget (over P d earlier) (slice_get P.funs f) o))
        ≡ option_map capped_signature (at_budget (over P d (map (raised meter t) earlier)) (slice_get P.funs f) (option_map (times_sig t) o))
    raised_at f None = refl
    raised_at f (Some s) = ap Some (signature_capped t d (slice_get P.funs f) s)

    by_cost : (m : Meter) (f : ℕ) (b : Bool) → same_meter m meter ≡ b →
        option_map capped_signature (cost_at new m f)
        ≡ option_map capped_signature (at_budget (over P d (map (raised meter t) earlier)) (slice_get P.funs f) (cost_sig P m (map (raised meter t) earlier) f))
    by_cost m f false e = ap (option_map capped_signature) (ap (λ l. slice_index_or (map (option_map signature_of) l) f None) (g.others m e) ∙ h.cost m f
        ∙ ap (at_budget (over P d earlier) (slice_get P.funs f)) (sym (cost_kept P meter t m e earlier f)))
    by_cost m f true e = let is : m ≡ meter = same_meters m meter e in
        ap (option_map capped_signature) (ap (λ m. cost_at new m f) is ∙ ap (λ l. slice_index_or l f None) g.paying ∙ at_mapped (raised_signature t) (map (option_map signature_of) (costs old meter)) f
        ∙ ap (option_map (raised_signature t)) (h.cost meter f))
        ∙ raised_at f (cost_sig P meter earlier f)
        ∙ ap (λ o. option_map capped_signature (at_budget (over P d (map (raised meter t) earlier)) (slice_get P.funs f) o)) (sym (cost_raised P meter t earlier f))
        ∙ ap (λ m. option_map capped_signature (at_budget (over P d (map (raised meter t) earlier)) (slice_get P.funs f) (cost_sig P m (map (raised meter t) earlier) f))) (sym is)
