-- Files that are read, one after another.
use Rattle.std.proofs.Common.{refl, arith, ◌-◌, take, drop, get_or, option_map, vec_items, Vec, Global, ◌≡◌, ◌≤◌, ◌++◌, ◌∙◌, ℕ, Bool, true, false, List, [], ◌∷◌, length, Option, Some, Result, Ok, Err, IfOk, sym, ap, subst, inl, inr}
use Rattle.std.specs.Borrow.{Bor}
use Rattle.std.proofs.lemmas.List.{append-nil, append_assoc, take_all}
use Rattle.std.proofs.lemmas.List.Elements.{All-cons, All-nil}
use Rattle.raml_io.specs.Files.{Files}
use Rattle.raml_syntax.specs.Tree.{Text}
use Rattle.explain_words.specs.Commands.{texts}
use Rattle.explain_check.specs.Stores.{Store, Holds, FileGives, store_of}
use Rattle.explain_check.proofs.Longer.{Later, unread_since}
use Rattle.explain_data.specs.Data.{most_data_bytes}
use Rattle.explain_marks.specs.declared.marks.Given.{Given}
use Rattle.explain_plot.specs.Files.{AreHeld, AreShort, LacksFile, ReadsOn}

-- ---- over a longer time

pub lacks_since : (holds same : Option Files) (before mid after : Text → ℕ) → same ≡ holds → Later before mid → (names : List Text) (part : Text) →
    LacksFile (store_of same mid after) names part → LacksFile (store_of holds before after) names part
lacks_since holds same before mid after kept early [] part lacks = absurd lacks
lacks_since holds same before mid after kept early (name ∷ names) part (inl unread) = inl (unread_since holds same before mid after most_data_bytes name part kept early unread)
lacks_since holds same before mid after kept early (name ∷ names) part (inr more) = inr (lacks_since holds same before mid after kept early names part more)

pub held_since : (holds same : Option Files) (before mid after : Text → ℕ) → same ≡ holds → (names : List Text) (files : List Given) →
    AreHeld (store_of same mid after) names files → AreHeld (store_of holds before after) names files
held_since holds same before mid after kept [] [] held = tt
held_since holds same before mid after kept (name ∷ names) (file ∷ files) held = (
  held.0,
  subst (λ holds. Holds (store_of holds mid after) name file.bytes.items) kept held.1,
  held.2,
  held_since holds same before mid after kept names files held.3,
)
held_since holds same before mid after kept [] (file ∷ files) held = absurd held
held_since holds same before mid after kept (name ∷ names) [] held = absurd held

-- what is held is short
pub held_short : (store : Store) (names : List Text) (files : List Given) → AreHeld store names files → AreShort files
held_short store [] [] held = All-nil (λ (file : Given). length file.bytes.items ≤ most_data_bytes)
held_short store (name ∷ names) (file ∷ files) held =
    All-cons (λ (file : Given). length file.bytes.items ≤ most_data_bytes) file files held.2 (held_short store names files held.3)
held_short store [] (file ∷ files) held = absurd held
held_short store (name ∷ names) [] held = absurd held

-- a slice of at least one is its first and its rest
pub whole : {X : Type 0} (xs : List X) (d : X) → 1 ≤ length xs → xs ≡ get_or xs 0 d ∷ take (length xs - 1) (drop 1 xs)
whole [] d h = absurd (omega (arith, h))
whole (x ∷ xs) d h = ap (λ l. x ∷ l) (sym (take_all (length (x ∷ xs) - 1) xs (omega arith)))

-- ---- one file, and those behind it

module _ (holds same : Option Files) (before mid after : Text → ℕ) (kept : same ≡ holds) (early : Later before mid) (name : Text) (names : List Text) where
  pub reads_more : (file : Given) (ok : Bool) (old pushed new : List Given) (part : Text) → file.name.now ≡ name → Holds (store_of holds before mid) name file.bytes.items →
      length file.bytes.items ≤ most_data_bytes → pushed ≡ old ++ file ∷ [] →
      ReadsOn (store_of same mid after) names ok pushed new part → ReadsOn (store_of holds before after) (name ∷ names) ok old new part
  reads_more file true old pushed new part named held short is reads = (
    file ∷ reads.0,
    (named, held, short, held_since holds same before mid after kept names reads.0 reads.1),
    reads.2 ∙ ap (λ files. files ++ reads.0) is ∙ append_assoc old (file ∷ []) reads.0,
    reads.3,
  )
  reads_more file false old pushed new part named held short is reads = inr (lacks_since holds same before mid after kept early names part reads)

  -- as a call tells it, whose first file told nothing
  pub reads_on : {E : Type 0} (file : Given) (old pushed new : List Given) (first text read all : Text) (result : Result Bool E) → file.name.now ≡ name →
      FileGives (store_of holds before mid) most_data_bytes name (Some file.bytes.items) first → pushed ≡ old ++ file ∷ [] → read ≡ text ++ first →
      IfOk result (λ ok. (part : Text) × ReadsOn (store_of same mid after) names ok pushed new part × (all ≡ read ++ part)) →
      IfOk result (λ ok. (part : Text) × ReadsOn (store_of holds before after) (name ∷ names) ok old new part × (all ≡ text ++ part))
  reads_on file old pushed new first text read all (Ok ok) named gives is once reads =
      let same_text : read ≡ text = once ∙ ap (λ part. text ++ part) gives.2 ∙ append-nil text in
      (reads.0, reads_more file ok old pushed new reads.0 named gives.0 gives.1 is reads.1, reads.2 ∙ ap (λ text. text ++ reads.0) same_text)
  reads_on file old pushed new first text read all (Err e) named gives is once reads = tt

-- by the code's words: the first of several names, and the bytes that were read
pub read_step : {E : Type 0} (holds same : Option Files) (before mid after : Text → ℕ) (kept : same ≡ holds) (early : Later before mid) (all : List (Bor Text)) (len : 1 ≤ length all)
    (d : Bor Text) (found : Option (Vec ℕ Global)) (bytes : Vec ℕ Global) (old pushed new : List Given) (first text read end : Text) (result : Result Bool E) → found ≡ Some bytes →
    FileGives (store_of holds before mid) most_data_bytes (get_or all 0 d).now (option_map vec_items found) first →
    pushed ≡ old ++ record { name = get_or all 0 d; bytes = bytes } ∷ [] → read ≡ text ++ first →
    IfOk result (λ ok. (part : Text) × ReadsOn (store_of same mid after) (texts (take (length all - 1) (drop 1 all))) ok pushed new part × (end ≡ read ++ part)) →
    IfOk result (λ ok. (part : Text) × ReadsOn (store_of holds before after) (texts all) ok old new part × (end ≡ text ++ part))
read_step holds same before mid after kept early all len d found bytes old pushed new first text read end result is gives pushed_is once reads =
    let name = get_or all 0 d in
    let rest = take (length all - 1) (drop 1 all) in
    let file : Given = record { name = name; bytes = bytes } in
    let gives' = subst (λ (found : Option (Vec ℕ Global)). FileGives (store_of holds before mid) most_data_bytes name.now (option_map vec_items found) first) is gives in
    let step = reads_on holds same before mid after kept early name.now (texts rest) file old pushed new first text read end result refl gives' pushed_is once reads in
    subst (λ (names : List Text). IfOk result (λ ok. (part : Text) × ReadsOn (store_of holds before after) names ok old new part × (end ≡ text ++ part))) (sym (ap texts (whole all d len))) step

-- all of them, behind none
pub all_read : (store : Store) (names : List Text) (ok : Bool) (old new : List Given) (part : Text) → ok ≡ true → old ≡ [] → ReadsOn store names ok old new part →
    AreHeld store names new × (part ≡ [])
all_read store names true old new part held none reads =
    let is : new ≡ reads.0 = reads.2 ∙ ap (λ files. files ++ reads.0) none in
    (subst (AreHeld store names) (sym is) reads.1, reads.3)
all_read store names false old new part held none reads = absurd (cc held)

-- one of them is not
pub one_lacks : (store : Store) (names : List Text) (ok : Bool) (old new : List Given) (part : Text) → ok ≡ false → ReadsOn store names ok old new part → LacksFile store names part
one_lacks store names false old new part lacks reads = reads
one_lacks store names true old new part lacks reads = absurd (cc lacks)
