-- What is read of a file, and what a source spells, is one thing.
use Rattle.std.proofs.Common.{◌≡◌, ◌≤◌, ℕ, suc, List, length, take, Some, None, Result, Ok, Err, refl, sym, ap, subst, ◌∙◌, arith}
use Rattle.std.specs.Prelude.{IfSome}
use Rattle.raml_syntax.specs.Tree.{Text, Prog}
use Rattle.raml_io.specs.Files.{Files, IsFront}
use Rattle.raml_parse.specs.Spelling.{Spells, FirstFault}
use Rattle.raml_parse.specs.declared.fault.ParseFault.{ParseFault}
use Rattle.raml_parse.proofs.OneAnswer.{one_answer}
use Rattle.simple_types.specs.Fault.{Fault}
use Rattle.simple_types.specs.Walk.{walk_program}
use Rattle.simple_types.proofs.Typing.{program_complete}
use Rattle.refusal_text.specs.declared.plain.Which.{Which}
use Rattle.refusal_text.specs.declared.task.Analysed.{Analysed}
use Rattle.refusals.specs.Ending.{Ending, Source, Parse, Types}
use Rattle.refusals.specs.Line.{no_names}
use Rattle.raml_promise.specs.Outside.{Sound, Complete, Store, IsSeen, IsRead}
use Rattle.raml_promise.specs.Steps.{Answer, most_bytes, IsTooLong, OfShort, OfFile, SourceRefuses, IsTyped, RefusedOf, OfSource, OfProgram, file_of}
use Rattle.raml_promise.proofs.Alike.{alike_same, Same, steps_same, either_refused, neither_refused}

-- what is told to be held begins with what was read
pub told_front : (store : Store) (limit : ℕ) (file bytes : List ℕ) (files : Files) → store.holds ≡ Some files → IsSeen store limit file bytes → IsFront files file (suc limit) bytes
told_front store limit file bytes files told seen = subst (λ h. IfSome h (λ files. IsFront files file (suc limit) bytes)) told seen.front

pub front_is : (limit : ℕ) (file bytes content : List ℕ) (files : Files) → files file ≡ Some content → IsFront files file (suc limit) bytes → take (suc limit) content ≡ bytes
front_is limit file bytes content files held front =
    let h = front.held in
    let same : content ≡ front.content = cc in
    ap (take (suc limit)) same ∙ sym front.front

no_front : (limit : ℕ) (file bytes : List ℕ) (files : Files) → files file ≡ None → IsFront files file (suc limit) bytes → ⊥
no_front limit file bytes files none front = let h = front.held in absurd (cc)

module _ (store : Store) (limit : ℕ) (file : List ℕ) where
  one_read : (bytes other : List ℕ) → IsRead Complete store limit file (Some bytes) → IsRead Sound store limit file (Some other) → bytes ≡ other
  one_read bytes other told seen =
      let t = told.tells in
      told.front ∙ front_is limit file other told.content t.files t.held (told_front store limit file other t.files t.told seen)

  read_or_not : (bytes : List ℕ) → IsRead Complete store limit file (Some bytes) → IsRead Sound store limit file None → ⊥
  read_or_not bytes told rises = told.calm rises

  not_or_read : (bytes : List ℕ) → IsRead Complete store limit file None → IsRead Sound store limit file (Some bytes) → ⊥
  not_or_read bytes told seen = no_front limit file bytes told.files told.held (told_front store limit file bytes told.files told.told seen)

-- bytes are too many or not
pub short_same : (which : Which) (bytes : List ℕ) (Q T : Answer → Type 0) → ((a b : Answer) → Q a → T b → Same a b) →
    (a b : Answer) → OfShort which bytes Q a → OfShort which bytes T b → Same a b
short_same which bytes Q T rest =
    steps_same no_names no_names _ _ (λ (done : Unit {0}). length bytes ≤ most_bytes which) (λ (done : Unit {0}). length bytes ≤ most_bytes which) (λ done. Q) (λ done. T)
    (record {
      refusals = λ e f r s. alike_same e f (r.0 ∙ sym s.0);
      not_left = λ e x r d. too_long r.1 d;
      not_right = λ x e c s. too_long s.1 c;
      one = λ x y c d. unit x y;
    })
    (λ x c d a b q t. rest a b q t)
  where
    too_long : IsTooLong which bytes → length bytes ≤ most_bytes which → ⊥
    too_long long short = absurd (omega (arith, long, short))

    unit : (x y : Unit {0}) → x ≡ y
    unit x y = refl

pub file_same : (store : Store) (which : Which) (file : Text) (Q T : List ℕ → Answer → Type 0) → ((bytes : List ℕ) (a b : Answer) → Q bytes a → T bytes b → Same a b) →
    (a b : Answer) → OfFile Complete store which file Q a → OfFile Sound store which file T b → Same a b
file_same store which file Q T rest =
    steps_same no_names no_names _ _ _ _ (λ bytes. OfShort which bytes (Q bytes)) (λ bytes. OfShort which bytes (T bytes))
    (record {
      refusals = λ e f r s. alike_same e f (r.0 ∙ sym s.0);
      not_left = λ e bytes r d. not_or_read store (most_bytes which) file bytes r.1 d;
      not_right = λ bytes e c s. read_or_not store (most_bytes which) file bytes c s.1;
      one = λ bytes other c d. one_read store (most_bytes which) file bytes other c d;
    })
    (λ bytes c d. short_same which bytes (Q bytes) (T bytes) (rest bytes))

-- a source spells one program, or has one fault
module _ (source : List ℕ) where
  pub one_program : (P Q : Prog) → Spells source P → Spells source Q → P ≡ Q
  one_program P Q h k = let e : ◌≡◌ {A = Result Prog ParseFault} (Ok P) (Ok Q) = one_answer source (Ok P) (Ok Q) h k in cc

  one_fault : (f g : ParseFault) → FirstFault source f → FirstFault source g → f ≡ g
  one_fault f g h k = let e : ◌≡◌ {A = Result Prog ParseFault} (Err f) (Err g) = one_answer source (Err f) (Err g) h k in cc

  no_fault : (P : Prog) (f : ParseFault) → Spells source P → FirstFault source f → ⊥
  no_fault P f h k = let e : ◌≡◌ {A = Result Prog ParseFault} (Ok P) (Err f) = one_answer source (Ok P) (Err f) h k in absurd (cc)

  one_type_fault : (f g : Fault) (P Q : Prog) → Spells source P → Spells source Q → walk_program P ≡ Err f → walk_program Q ≡ Err g → f ≡ g
  one_type_fault f g P Q p q h k = let e : ◌≡◌ {A = Result (Unit {0}) Fault} (Err f) (Err g) = sym h ∙ ap walk_program (one_program P Q p q) ∙ k in cc

  faulty_or_typed : (f : Fault) (P Q : Prog) → Spells source P → walk_program P ≡ Err f → IsTyped source Q → ⊥
  faulty_or_typed f P Q p h is =
      let e : ◌≡◌ {A = Result (Unit {0}) Fault} (Err f) (Ok tt) = sym h ∙ ap walk_program (one_program P Q p is.spelled) ∙ program_complete Q is.typed in absurd (cc)

  refusals_same : (e f : Ending) → SourceRefuses source e → SourceRefuses source f → e ≡ f
  refusals_same (Source (Parse f)) (Source (Parse g)) r s = ap (λ x. Source (Parse x)) (one_fault f g r s)
  refusals_same (Source (Parse f)) (Source (Types g)) r s = absurd (no_fault s.0 f s.1 r)
  refusals_same (Source (Types f)) (Source (Parse g)) r s = absurd (no_fault r.0 g r.1 s)
  refusals_same (Source (Types f)) (Source (Types g)) r s = ap (λ x. Source (Types x)) (one_type_fault f g r.0 s.0 r.1 s.1 r.2 s.2)
  refusals_same (Source f) e r s = absurd s
  refusals_same e f r s = absurd r

  pub refused_or_typed : (e : Ending) (P : Prog) → SourceRefuses source e → IsTyped source P → ⊥
  refused_or_typed (Source (Parse f)) P r is = no_fault P f is.spelled r
  refused_or_typed (Source (Types f)) P r is = faulty_or_typed f r.0 P r.1 r.2 is
  refused_or_typed e P r is = absurd r

  pub source_same : (whose : Analysed) (Q T : Prog → Answer → Type 0) → ((P : Prog) → IsTyped source P → (a b : Answer) → Q P a → T P b → Same a b) →
      (a b : Answer) → OfSource whose source Q a → OfSource whose source T b → Same a b
  source_same whose Q T rest =
      steps_same no_names no_names (RefusedOf whose (SourceRefuses source)) (RefusedOf whose (SourceRefuses source)) (IsTyped source) (IsTyped source) Q T
      (record {
        refusals = either_refused whose (SourceRefuses source) (SourceRefuses source) (λ e f r s. alike_same e f (refusals_same e f r s));
        not_left = λ e P r is. neither_refused whose (SourceRefuses source) (λ f s. refused_or_typed f P s is) e r;
        not_right = λ P e is s. neither_refused whose (SourceRefuses source) (λ f r. refused_or_typed f P r is) e s;
        one = λ P Q c d. one_program P Q c.spelled d.spelled;
      })
      (λ P c d. rest P c)

pub program_same : (store : Store) (whose : Analysed) (file : Text) (Q T : Prog → Answer → Type 0) →
    ((source : List ℕ) (P : Prog) → IsTyped source P → (a b : Answer) → Q P a → T P b → Same a b) →
    (a b : Answer) → OfProgram Complete store whose file Q a → OfProgram Sound store whose file T b → Same a b
program_same store whose file Q T rest =
    file_same store (file_of whose) file (λ source. OfSource whose source Q) (λ source. OfSource whose source T) (λ source. source_same source whose Q T (rest source))
