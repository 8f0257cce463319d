-- Texts that stand one behind the other.
use Rattle.std.proofs.Common.{◌≡◌, refl, sym, ap, ◌∙◌, inl, inr, ℕ, List, [], ◌∷◌, ◌++◌, Option, Some, None}
use Rattle.std.specs.Prelude.{is_some}
use Rattle.explain_text.specs.Wrapped.{break_of, IsWrapped}
use Rattle.std.proofs.lemmas.List.{append-nil, append_assoc}
use Rattle.raml_syntax.specs.Tree.{Text, Function, Prog}
use Rattle.bound_infer.specs.declared.refusal.InferFault.{InferFault}
use Rattle.bound_infer.specs.declared.refusal.InferFault.TheVariants as infer
use Rattle.refusal_text.specs.declared.task.Analysed.TheVariants as analysed
use Rattle.refusals.specs.Line.{Names, course_line}
use Rattle.refusals.specs.Refusals.{CourseRefusal, line_text}
use Rattle.refusals.specs.declared.answer.Refusal.{Refusal}
use Rattle.refusals.specs.declared.status.Status.TheVariants as status
use Rattle.explain_degrees.specs.declared.finding.Findings.{Findings}
use Rattle.explain_degrees.specs.declared.least.RefusedDegree.{RefusedDegree}
use Rattle.explain_calls.specs.Sizes.{is_asked}
use Rattle.explain_calls.specs.Told.{Showing, IsPart, AreParts, IsShown, AreShown, note, notes}

-- the functions before these are told as `part`, whatever is told of these
abbrev pub AreSoFar : Prog → Showing → List Function → List Findings → List Function → List Findings → Text → Type 0
AreSoFar P showing all found left more part =
    (rest : Text) → AreParts P showing left more rest → AreParts P showing all found (part ++ rest)

pub one_more : (P : Prog) (showing : Showing) (all left later : List Function) (found more others : List Findings) (g : Function) (x : Findings) (part shown : Text) →
    left ≡ g ∷ later → more ≡ x ∷ others → AreSoFar P showing all found left more part → IsPart P showing (is_asked showing.name g) g x shown →
    AreSoFar P showing all found later others (part ++ shown)
one_more P showing all left later found more others g x part shown is same so_far told rest are =
    let from = rw (is, same) at so_far in
    rw (append_assoc part shown rest) (from (shown ++ rest) (shown, rest, told, are, refl))

pub all_told : (P : Prog) (showing : Showing) (all left : List Function) (found more : List Findings) (part : Text) → left ≡ [] →
    AreSoFar P showing all found left more part → AreParts P showing all found part
all_told P showing all left found more part is so_far =
    let from = rw is at so_far in
    rw (append-nil part) at (from [] refl)

-- the lines before these are shown as `part`
abbrev pub ShownSoFar : Option ℕ → List Text → List Text → Text → Type 0
ShownSoFar width all left part = (rest : Text) → AreShown width left rest → AreShown width all (part ++ rest)

-- a line that is broken where there is a width is shown
pub is_shown : (width columns : Option ℕ) (line text : Text) → is_some columns ≡ is_some width → IsWrapped (break_of 4) line text →
    (columns ≡ None → text ≡ line) → IsShown width line text
is_shown None None line text same wrapped whole = whole refl
is_shown None (Some c) line text same wrapped whole = absurd (cc same)
is_shown (Some w) columns line text same wrapped whole = wrapped

pub one_shown : (width : Option ℕ) (all left later : List Text) (line part shown : Text) → left ≡ line ∷ later → ShownSoFar width all left part →
    IsShown width line shown → ShownSoFar width all later (part ++ (shown ++ 10 ∷ []))
one_shown width all left later line part shown is so_far told rest are =
    let from = rw is at so_far in
    let step = from (shown ++ 10 ∷ rest) (shown, rest, told, are, refl) in
    rw (append_assoc part (shown ++ 10 ∷ []) rest, append_assoc shown (10 ∷ []) rest) step

pub all_shown : (width : Option ℕ) (all left : List Text) (part : Text) → left ≡ [] → ShownSoFar width all left part → AreShown width all part
all_shown width all left part is so_far =
    let from = rw is at so_far in
    rw (append-nil part) at (from [] refl)

-- one degree more
pub notes_more : (names : Names) (before : List RefusedDegree) (refused : RefusedDegree) → notes names (before ++ refused ∷ []) ≡ notes names before ++ note names refused
notes_more names [] refused = append-nil _
notes_more names (first ∷ before) refused =
    ap (λ text. note names first ++ text) (notes_more names before refused) ∙ sym (append_assoc (note names first) (notes names before) (note names refused))

-- the line of a refusal that is no want of memory
pub line_is : (names : Names) (fault : InferFault) (refusal : Refusal) → CourseRefusal analysed.Program names fault refusal → (refusal.status ≡ status.NoMemory → ⊥) →
    line_text refusal.line ≡ course_line analysed.Program names fault
line_is names infer.NoMemory refusal told not = absurd (not told.0)
line_is names (infer.TooLarge task what) refusal (inl wanting) not = absurd (not wanting.0)
line_is names (infer.TooLarge task what) refusal (inr is) not = is.1
line_is names (infer.Leaves place) refusal (inl wanting) not = absurd (not wanting.0)
line_is names (infer.Leaves place) refusal (inr is) not = is.1
