-- Indices as they are read.
use Rattle.std.proofs.Common.{◌≡◌, ◌⊎◌, ⊎_elim, List, [], ◌∷◌, Box, Vec, Global, Option, None, Some, refl, sym, ap, ◌∙◌}
use Rattle.base_poly.specs.Plain as p
use Rattle.base_poly.specs.Plain.{many, entries_of}
use Rattle.base_poly.specs.Read.{index_of, plains_of}
use Rattle.base_poly.specs.declared.index.Index.{Index}
use Rattle.base_poly.specs.declared.index.Index.TheVariants.{List as Items, Opt}
use Rattle.base_poly.proofs.Many.{as_unit, as_pair, as_list, as_none, as_some, IsUnit, IsPair, IsList, IsOption}
use Rattle.index_shift.specs.Parts.{pair_parts, option_parts}
use Rattle.base_poly.specs.Total.{entries_of_many}

pub entries_read : (x : Index) (v : Vec Index Global) (is : List Index) → x ≡ Items v → is ≡ v.items → plains_of is ≡ entries_of (index_of x)
entries_read x v is h e = ap plains_of e ∙ sym (ap entries_of (as_list x v h) ∙ entries_of_many (plains_of v.items))

no_pair : (is : List p.Plain) → pair_parts (many is) ≡ []
no_pair [] = refl
no_pair (i ∷ is) = refl

no_option : (none : p.Plain) (is : List p.Plain) → option_parts none (many is) ≡ []
no_option none [] = refl
no_option none (i ∷ is) = refl

of_option : (x : Index) → IsOption x → pair_parts (index_of x) ≡ []
of_option x h = at h.0 h.1
  where
    at : (m : Option (Box Index Global)) → x ≡ Opt m → pair_parts (index_of x) ≡ []
    at None e = ap pair_parts (as_none x e)
    at (Some a) e = ap pair_parts (as_some x a e)

pub no_parts : (x : Index) → IsUnit x ⊎ (IsList x ⊎ IsOption x) → pair_parts (index_of x) ≡ []
no_parts x h = ⊎_elim (λ e. ap pair_parts (as_unit x e)) (⊎_elim (λ e. ap pair_parts (as_list x e.0 e.1) ∙ no_pair (plains_of e.0.items)) (of_option x)) h

pub no_content : (none : p.Plain) (x : Index) → IsUnit x ⊎ (IsPair x ⊎ IsList x) → option_parts none (index_of x) ≡ []
no_content none x h = ⊎_elim
    (λ e. ap (option_parts none) (as_unit x e))
    (⊎_elim (λ e. ap (option_parts none) (as_pair x e.0 e.1 e.2)) (λ e. ap (option_parts none) (as_list x e.0 e.1) ∙ no_option none (plains_of e.0.items))) h
