-- Steps of the loop over the terms of a sum.
use Rattle.std.proofs.Common.{◌≡◌, List, [], ◌∷◌, ◌++◌, Option, Some, None, refl, sym, ap, ◌∙◌}
use Rattle.std.specs.Prelude.{option_map}
use Rattle.bound_file.specs.Spelling as s
use Rattle.bound_file.specs.Seen.{term_of, terms_of}
use Rattle.bound_file.specs.declared.term.Term.{Term}

pub terms_pushed : (ts : List Term) (t : Term) → terms_of (ts ++ t ∷ []) ≡ terms_of ts ++ term_of t ∷ []
terms_pushed [] t = refl
terms_pushed (u ∷ ts) t = ap (λ us. term_of u ∷ us) (terms_pushed ts t)

pub none_read : (o : Option Term) (r : Option s.Term) → ((t : Term) → o ≡ Some t → ⊥) → option_map term_of o ≡ r → r ≡ None
none_read None r none e = sym e
none_read (Some t) r none e = absurd (none t refl)

pub some_read : (o : Option Term) (t : Term) (r : Option s.Term) → o ≡ Some t → option_map term_of o ≡ r → r ≡ Some (term_of t)
some_read o t r is e = sym e ∙ ap (option_map term_of) is
