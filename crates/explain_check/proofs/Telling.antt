-- What is told of a file, and of several.
use Rattle.std.proofs.Common.{◌≡◌, refl, sym, ap, subst, ◌∙◌, ◌<◌, ◌≤◌, inl, inr, ⊎_elim, ℕ, ◌+◌, List, [], ◌∷◌, ◌++◌, length, take, Option, Some, None, IfSome, arith}
use Rattle.std.proofs.lemmas.Bool.{cases_lt}
use Rattle.std.proofs.lemmas.List.{append-nil, append_assoc, length-take, take_all}
use Rattle.std.specs.Borrow.{Bor}
use Rattle.raml_io.specs.Faults.{Rose}
use Rattle.raml_io.specs.Files.{Files, IsFront}
use Rattle.raml_syntax.specs.Tree.{Text}
use Rattle.explain_check.specs.Checks.{FileIs, FilesAre, texts, worse, most_bytes}
use Rattle.explain_check.specs.Stores.{store_of, Holds}
use Rattle.explain_check.specs.declared.verdict.Verdict.{Verdict}
use Rattle.explain_check.specs.declared.verdict.Verdict.TheVariants.{Typed, Faulty, Unread}
use Rattle.explain_check.proofs.Longer.{Later, unread_for_longer}

-- what is told of the front of a file
abbrev Fronts : Option Files → ℕ → Text → Text → Type 0
Fronts holds most name bytes = IfSome holds (λ files. IsFront files name (most + 1) bytes)

-- a front that is longer than the limit is one of a longer file
pub too_long : (holds : Option Files) (before after : Text → ℕ) (most : ℕ) (name bytes : Text) → Fronts holds most name bytes → most < length bytes
    → (content : Text) × Holds (store_of holds before after) name content × (most < length content)
too_long None before after most name bytes front h = (bytes, tt, h)
too_long (Some files) before after most name bytes front h =
    let cut : length bytes ≡ length (take (most + 1) front.content) = ap length front.front in
    let short = length-take (most + 1) front.content in
    (front.content, front.held, omega arith)

-- a front that is no longer is the whole file
pub whole : (holds : Option Files) (before after : Text → ℕ) (most : ℕ) (name bytes : Text) → Fronts holds most name bytes → length bytes ≤ most
    → Holds (store_of holds before after) name bytes
whole None before after most name bytes front h = tt
whole (Some files) before after most name bytes front h =
    let cut : length bytes ≡ length (take (most + 1) front.content) = ap length front.front in
    let short = length-take (most + 1) front.content in
    let few : length front.content ≤ most + 1 = omega arith in
    front.held ∙ ap Some (sym (take_all (most + 1) front.content few) ∙ sym front.front)

pub for_longer : (holds same : Option Files) (a b c d : Text → ℕ) (name : Text) (verdict : Verdict) (part : Text) → same ≡ holds → Later a b → Later b c → Later c d
    → FileIs (store_of same b c) name verdict part → FileIs (store_of holds a d) name verdict part
for_longer holds same a b c d name Typed part e early mid late told = subst (λ holds. FileIs (store_of holds a d) name Typed part) e told
for_longer holds same a b c d name Faulty part e early mid late told = subst (λ holds. FileIs (store_of holds a d) name Faulty part) e told
for_longer holds same a b c d name Unread part e early mid late told = unread_for_longer holds same a b c d most_bytes name part e early mid late told

worse_typed : (v : Verdict) → worse v Typed ≡ v
worse_typed Typed = refl
worse_typed Faulty = refl
worse_typed Unread = refl

worse_assoc : (u v w : Verdict) → worse u (worse v w) ≡ worse (worse u v) w
worse_assoc Typed v w = refl
worse_assoc Faulty Typed w = refl
worse_assoc Faulty Faulty Typed = refl
worse_assoc Faulty Faulty Faulty = refl
worse_assoc Faulty Faulty Unread = refl
worse_assoc Faulty Unread w = refl
worse_assoc Unread v w = refl

-- the files before these are told as `verdict` and `part`, whatever else is read later
abbrev pub AreSoFar : Option Files → (Text → ℕ) → (Text → ℕ) → List (Bor Text) → List (Bor Text) → Verdict → Text → Type 0
AreSoFar holds before now all left verdict part =
    (after : Text → ℕ) → Later now after → (others : Verdict) (rest : Text) → FilesAre (store_of holds before after) (texts left) others rest
    → FilesAre (store_of holds before after) (texts all) (worse verdict others) (part ++ rest)

pub one_more : (holds same : Option Files) (before now next : Text → ℕ) (all left later : List (Bor Text)) (name : Bor Text) (verdict found : Verdict) (part more : Text) → left ≡ name ∷ later
    → same ≡ holds → Later before now → Later now next → AreSoFar holds before now all left verdict part → FileIs (store_of same now next) name.now found more
    → AreSoFar holds before next all later (worse verdict found) (part ++ more)
one_more holds same before now next all left later name verdict found part more is e early mid so_far told after late others rest are =
    let from = rw is at so_far in
    let first = for_longer holds same before now next after name.now found more e early mid late told in
    let step = from after (λ n. omega (arith, mid n, late n)) (worse found others) (more ++ rest) (found, others, more, rest, first, are, refl, refl) in
    rw (← worse_assoc verdict found others, append_assoc part more rest) step

pub all_told : (holds : Option Files) (before now : Text → ℕ) (all left : List (Bor Text)) (verdict : Verdict) (part : Text) → left ≡ [] → AreSoFar holds before now all left verdict part
    → FilesAre (store_of holds before now) (texts all) verdict part
all_told holds before now all left verdict part is so_far =
    let from = rw is at so_far in
    rw (worse_typed verdict, append-nil part) at (from now (λ n. omega arith) Typed [] (refl, refl))
