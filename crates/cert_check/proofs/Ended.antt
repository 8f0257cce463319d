-- Lists that are made until one of two has come to its end.
use Rattle.std.proofs.Common.{◌≡◌, refl, ap, sym, ◌∙◌, arith}
use Rattle.std.specs.Prelude.{ℕ, suc, ◌<◌, List, [], ◌∷◌, ◌++◌, length, None}
use Rattle.std.proofs.lemmas.List.{append-nil}
use Rattle.annot_types.specs.Certificate.{Entries, Sig, Hint}
use Rattle.annot_types.specs.Signature.{sig_among}
use Rattle.rules_spec.specs.Tasks as t
use Rattle.rules_spec.specs.Asked.{Ask}
use Rattle.rules_spec.specs.Shape.{each_amounts, hints_at}
use Rattle.cert_check.specs.Finds.{AllFit, sides_at}

pub all_made : {X : Type 0} (made tail all : List X) → tail ≡ [] → made ++ tail ≡ all → made ≡ all
all_made made tail all e h = sym (append-nil made) ∙ ap (λ t. made ++ t) (sym e) ∙ h

pub no_results : (ns : List ℕ) (ess : List Entries) → length ess < 1 → each_amounts ns ess ≡ []
no_results [] [] h = refl
no_results (n ∷ ns) [] h = refl
no_results ns (es ∷ ess) h = absurd (omega (arith, h))

pub no_sigs : (bs : List t.Body) (ss : List Sig) → length ss < 1 → sides_at bs ss ≡ []
no_sigs [] [] h = refl
no_sigs (b ∷ bs) [] h = refl
no_sigs bs (s ∷ ss) h = absurd (omega (arith, h))

pub no_hints : (asks : List Ask) (hs : List Hint) → length hs < 1 → hints_at asks hs ≡ []
no_hints [] [] h = refl
no_hints (ask ∷ asks) [] h = refl
no_hints asks (x ∷ hs) h = absurd (omega (arith, h))

pub none_signed : (fs : List ℕ) (ss : List Sig) (f : ℕ) → length ss ≡ 0 → sig_among fs ss f ≡ None
none_signed [] [] f h = refl
none_signed (g ∷ fs) [] f h = refl
none_signed fs (s ∷ ss) f h = absurd (omega (arith, h))

pub fit_length : (asks : List (List Ask)) (hss : List (List Hint)) → AllFit asks hss → length hss ≡ length asks
fit_length [] [] h = refl
fit_length [] (x ∷ hss) h = absurd h
fit_length (a ∷ asks) [] h = absurd h
fit_length (a ∷ asks) (x ∷ hss) h = ap suc (fit_length asks hss h.1)
