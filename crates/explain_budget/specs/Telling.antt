-- What is told of declared bounds that are decided.
use Rattle.std.specs.Prelude.{◌≡◌, ℕ, Bool, true, false, List, [], ◌∷◌, ◌++◌, Option, Some, codes, slice_get}
use Rattle.std.specs.List.{list_all}
use Rattle.raml_syntax.specs.Tree.{Text, Function, Prog}
use Rattle.json.specs.Print.{print}
use Rattle.json.specs.Tree.{json_tokens}
use Rattle.bound_file.specs.Lines.{Line}
use Rattle.explain_calls.specs.Told.{AreShown}
use Rattle.explain_verdicts.specs.Line.{is_kept, IsVerdictLine}
use Rattle.explain_verdicts.specs.Json.{verdict_json}
use Rattle.explain_verdicts.specs.Read.{found_of}
use Rattle.explain_verdicts.specs.declared.judged.Judged.{Judged}

-- each line is kept
abbrev pub all_kept : List Judged → Bool
all_kept all = list_all (λ (judged : Judged). is_kept judged.verdict) all

module _ (P : Prog) (d : ℕ) where
  -- the line is of this function, and this is its text
  pub record IsTold (line : Line) (judged : Judged) (text : Text) : Type 0 where
    pub fun : Function
    pub there : slice_get P line.fun ≡ Some fun
    pub is : IsVerdictLine P fun d line judged.verdict (found_of judged) text

  -- the texts of lines, in order
  abbrev pub AreTold : List Line → List Judged → List Text → Type 0
  AreTold [] [] texts = texts ≡ []
  AreTold (line ∷ lines) (judged ∷ all) (text ∷ texts) = IsTold line judged text × AreTold lines all texts
  AreTold lines all texts = ⊥

  -- the line is of this function, and the text is its JSON, with a newline behind it
  pub record IsObject (line : Line) (judged : Judged) (text : Text) : Type 0 where
    pub fun : Function
    pub there : slice_get P line.fun ≡ Some fun
    pub is : text ≡ print (json_tokens (verdict_json P fun d line judged.verdict (found_of judged))) ++ codes "\n"

  -- the JSON of lines, in order
  abbrev pub AreObjects : List Line → List Judged → Text → Type 0
  AreObjects [] [] text = text ≡ []
  AreObjects (line ∷ lines) (judged ∷ all) text =
      (first : Text) × (rest : Text) × IsObject line judged first × AreObjects lines all rest × (text ≡ first ++ rest)
  AreObjects lines all text = ⊥

  -- what is told: lines in words, broken at the width where there is one, or JSON
  abbrev pub TellsJudged : Bool → Option ℕ → List Line → List Judged → Text → Type 0
  TellsJudged true width lines all text = AreObjects lines all text
  TellsJudged false width lines all text = (texts : List Text) × AreTold lines all texts × AreShown width texts text
