-- Texts behind words.
use Rattle.std.specs.Prelude.{ℕ, nat_eq, Bool, true, false, List, [], ◌∷◌, cond, Option, Some, None, option_map}
use Rattle.std.specs.Borrow.{Bor}
use Rattle.raml_syntax.specs.Tree.{Text}

abbrev pub lent_bytes : Option (Bor (List ℕ)) → Option Text
lent_bytes = option_map (λ (t : Bor (List ℕ)). t.now)

-- what stands behind the word in a text that begins with it
abbrev pub behind_word : Text → Text → Option Text
behind_word text [] = Some text
behind_word [] (byte ∷ word) = None
behind_word (first ∷ text) (byte ∷ word) = cond (nat_eq first byte) (behind_word text word) None

-- the same, where there is a text
abbrev pub stripped : Option Text → Text → Option Text
stripped None word = None
stripped (Some text) word = behind_word text word

abbrev pub is_at_end : Option Text → Bool
is_at_end None = false
is_at_end (Some []) = true
is_at_end (Some (byte ∷ text)) = false
