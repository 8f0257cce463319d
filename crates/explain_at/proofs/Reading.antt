-- Words one after the other, and their faults.
use Rattle.std.proofs.Common.{◌≡◌, true, false, List, [], ◌∷◌, Result, Ok, Err, Some, None, refl, sym, ap, subst, ◌∙◌}
use Rattle.std.specs.Prelude.{IfErr}
use Rattle.std.specs.Result.{IsErr, IsErrAnd}
use Rattle.raml_syntax.specs.Tree.{Text}
use Rattle.raml_syntax.specs.Cut.{cut_at}
use Rattle.explain_at.specs.Words.{Given, Fault, words_of, with_word, words_read}
use Rattle.explain_at.specs.Read.{IsWordFault}
use Rattle.explain_at.specs.declared.fault.WordFault.{WordFault}
use Rattle.explain_at.specs.declared.fault.WordFault.TheVariants.{Shape, Long, Twice, NoMemory}
use Rattle.explain_at.proofs.Cuts.{last_word, next_word}

fault_stays : (fault : Fault) (words : List Text) → words_read (Err fault) words ≡ Err fault
fault_stays fault [] = refl
fault_stays fault (word ∷ words) = fault_stays fault words

fault_on : (r : Result (List Given) Fault) (words : List Text) (fault : WordFault) → IsWordFault r fault → IsWordFault (words_read r words) fault
fault_on r words (Shape text) h = ap (λ r. words_read r words) h ∙ fault_stays _ words
fault_on r words (Long text) h = ap (λ r. words_read r words) h ∙ fault_stays _ words
fault_on r words (Twice name) h = ap (λ r. words_read r words) h ∙ fault_stays _ words
fault_on r words NoMemory h = tt

pub passed : {A : Type 0} (r : Result A WordFault) (P : WordFault → Type 0) (fault : WordFault) → IsErr r → IsErrAnd r (λ x. x ≡ fault) → P fault → IfErr r P
passed (Ok x) P fault e w h = absurd (let p : false ≡ true = e in cc)
passed (Err x) P fault e w h = subst P (sym w) h

module _ (whole : Result (List Given) Fault) (gs : List Given) (rest word behind : Text) (cut : cut_at 44 rest ≡ Some (word, behind)) (read : words_read (Ok gs) (words_of rest) ≡ whole) where
  first : words_read (with_word gs word) (words_of behind) ≡ whole
  first = ap (words_read (Ok gs)) (sym (next_word rest word behind cut)) ∙ read

  pub read_on : (new : List Given) → with_word gs word ≡ Ok new → words_read (Ok new) (words_of behind) ≡ whole
  read_on new h = ap (λ r. words_read r (words_of behind)) (sym h) ∙ first

  pub fault_read : (fault : WordFault) → IsWordFault (with_word gs word) fault → IsWordFault whole fault
  fault_read fault h = subst (λ r. IsWordFault r fault) first (fault_on (with_word gs word) (words_of behind) fault h)

pub last_read : (whole : Result (List Given) Fault) (gs : List Given) (rest : Text) → cut_at 44 rest ≡ None → words_read (Ok gs) (words_of rest) ≡ whole → with_word gs rest ≡ whole
last_read whole gs rest cut read = ap (words_read (Ok gs)) (sym (last_word rest cut)) ∙ read
