-- What `clap` makes of ordered words: word by word, from where the walk stands.
use Rattle.std.proofs.Common.{◌≡◌, Bool, true, false, List, [], ◌∷◌, ◌++◌, map, Option, Some, None, codes, refl, ap, ◌∙◌}
use Rattle.std.specs.Prelude.{◌&&◌, fold, is_some}
use Rattle.clap.specs.Kinds.{Kinds, or_else}
use Rattle.clap.specs.Walk.{Row, Walk, Held, nothing_held, walk, walked, walk_from, settled, finished}
use Rattle.clap.specs.Simple.{Shape, App, built, entered, argument_words}
use Rattle.clap.specs.Faults.{walk_fault, turn_fault, settle_fault, defaults_fault, check_fault, level_fault, entered_fault, built_fault, fault_of}
use Rattle.clap.specs.declared.error.kind.ErrorKind.{ErrorKind}
use Rattle.clap.specs.declared.error.kind.ErrorKind.TheVariants.{ValueValidation}
use Rattle.clap.specs.declared.builder.value_parser.Reading.TheVariants as reading
use Rattle.clap.specs.declared.parser.matches.ValueSource.TheVariants.{CommandLine}
use Rattle.raml_words.specs.Words.{Text}
use Rattle.raml_words.specs.Apps.{option_word}
use Rattle.raml_words.specs.Clapped.{none}

-- what is wrong at the end of the words
abbrev pub ending : Shape → Held → Kinds
ending S end = or_else (settle_fault S.rules S.args_override_self end) (or_else (defaults_fault (settled S.rules end).rows S.rules) (check_fault S (finished S.rules end) false))

-- what is wrong with the words from here
abbrev pub tail : Shape → Walk → List Text → Kinds
tail S w ws = or_else (walk_fault S [] w ws) (ending S (fold (walked S.rules []) w ws).held)

pub step_good : (S : Shape) (w : Walk) (word : Text) (rest : List Text) (v : Walk) → turn_fault S [] w word ≡ [] → walked S.rules [] w word ≡ v → tail S w (word ∷ rest) ≡ tail S v rest
unfolding walk_fault
step_good S w word rest v p q =
    ap (λ t. or_else (or_else t (walk_fault S [] (walked S.rules [] w word) rest)) (ending S (fold (walked S.rules []) (walked S.rules [] w word) rest).held)) p
    ∙ ap (λ u. tail S u rest) q

pub step_bad : (S : Shape) (w : Walk) (word : Text) (rest : List Text) (k : ErrorKind) → turn_fault S [] w word ≡ k ∷ [] → none (tail S w (word ∷ rest)) ≡ false
unfolding walk_fault
step_bad S w word rest k p = rw p refl

-- An option whose value passes this test is taken, and the walk goes on from there; one whose value does not is refused.
pub record Takes (S : Shape) (w : Walk) (word : Text) (v : Walk) (test : Bool) : Type 0 where
  pub good : test ≡ true → turn_fault S [] w word ≡ []
  pub bad : test ≡ false → turn_fault S [] w word ≡ ValueValidation ∷ []
  pub goes_on : walked S.rules [] w word ≡ v

pub option_step : (S : Shape) (w : Walk) (word : Text) (v : Walk) (test b : Bool) (rest : List Text) → Takes S w word v test → none (tail S v rest) ≡ b → none (tail S w (word ∷ rest)) ≡ (test && b)
option_step S w word v true b rest takes h = ap none (step_good S w word rest v (takes.good refl) takes.goes_on) ∙ h
option_step S w word v false b rest takes h = step_bad S w word rest ValueValidation (takes.bad refl)

abbrev pub row : Text → Text → Row
row id v = record { id = id; values = v ∷ []; count = None; source = Some CommandLine; reading = reading.AsWritten }

abbrev pub with_row : Text → Option Text → List Row → List Row
with_row id None rows = rows
with_row id (Some v) rows = row id v ∷ rows

abbrev pub W : List Row → Walk
W rows = walk_from (record { rows = rows; pending = None; skip = 0 })

abbrev pub words_of : List (Text × Text) → List Text → List Text
words_of options rest = map (λ (p : Text × Text). option_word p.0 p.1) options ++ rest

abbrev pub end : List Text → List Text
end os = codes "--" ∷ os

-- where the walk begins: a command alone, without commands below it
alone : (S : Shape) (ws : List Text) (stop : Option (Text × List Text)) → level_fault S [] nothing_held ws (is_some (entered (record { top = S; subs = [] }) stop)) (entered_fault (record { top = S; subs = [] }) stop) ≡ tail S (W []) ws
alone S ws None = refl
alone S ws (Some p) = refl

pub starts : (app : App) (command : Text) (ws : List Text) → built app ≡ record { top = (built app).top; subs = [] } → argument_words app (command ∷ ws) ≡ ws → fault_of app (command ∷ ws) ≡ tail (built app).top (W []) ws
starts app command ws is words = (λ i. built_fault (is i) nothing_held (words i)) ∙ alone (built app).top ws (walk (built app).top.rules [] nothing_held ws).stopped
