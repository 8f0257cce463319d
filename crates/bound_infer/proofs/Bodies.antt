-- Signatures and hints as they are read.
use Rattle.std.proofs.Common.{◌≡◌, ℕ, List, [], ◌∷◌, map, All, Vec, refl, ap}
use Rattle.std.specs.Global.{Global}
use Rattle.std.proofs.lemmas.List.Elements.{All-map, All-nil, All-cons, All-head, All-tail}
use Rattle.annot_types.specs.Holds.{times_sig, times_hint}
use Rattle.annot_types.specs.Read.{sig_of, hint_of, hints_of}
use Rattle.annot_types.specs.declared.block.Sig.{Sig}
use Rattle.annot_types.specs.declared.block.Hint.{Hint}
use Rattle.infer_spec.specs.Places.{SigFits, HintFits}
use Rattle.bound_infer.specs.Fitting.{HintsFit}

map_map : {X Y Z : Type 0} (g : Y → Z) (f : X → Y) (xs : List X) → map (λ x. g (f x)) xs ≡ map g (map f xs)
map_map g f [] = refl
map_map g f (x ∷ xs) = ap (λ zs. g (f x) ∷ zs) (map_map g f xs)

all_back : {X Y : Type 0} (f : X → Y) (Q : Y → Type 0) (xs : List X) → All Q (map f xs) → All (λ x. Q (f x)) xs
all_back f Q [] h = All-nil (λ x. Q (f x))
all_back f Q (x ∷ xs) h = All-cons (λ x. Q (f x)) x xs (All-head Q (f x) (map f xs) h) (all_back f Q xs (All-tail Q (f x) (map f xs) h))

pub sigs_made : (t : ℕ) (sigs : List Sig) → map (λ s. times_sig t (sig_of s)) sigs ≡ map (times_sig t) (map sig_of sigs)
sigs_made t sigs = map_map (times_sig t) sig_of sigs

pub hints_made : (t : ℕ) (lists : List (Vec Hint Global)) → map (λ (hs : Vec Hint Global). map (λ h. times_hint t (hint_of h)) hs.items) lists ≡ map (map (times_hint t)) (map hints_of lists)
hints_made t [] = refl
hints_made t (hs ∷ lists) = λ i. map_map (times_hint t) hint_of hs.items i ∷ hints_made t lists i

pub sigs_fit : (t : ℕ) (sigs : List Sig) → All (λ s. SigFits t (sig_of s)) sigs → All (SigFits t) (map sig_of sigs)
sigs_fit t sigs h = All-map (SigFits t) sig_of sigs h

pub sigs_back : (t : ℕ) (sigs : List Sig) → All (SigFits t) (map sig_of sigs) → All (λ s. SigFits t (sig_of s)) sigs
sigs_back t sigs h = all_back sig_of (SigFits t) sigs h

pub hints_fit : (t : ℕ) (lists : List (Vec Hint Global)) → All (λ (hs : Vec Hint Global). HintsFit t hs.items) lists → All (All (HintFits t)) (map hints_of lists)
hints_fit t [] h = All-nil (All (HintFits t))
hints_fit t (hs ∷ lists) h = All-cons (All (HintFits t)) (hints_of hs) (map hints_of lists)
    (All-map (HintFits t) hint_of hs.items (All-head (λ (hs : Vec Hint Global). HintsFit t hs.items) hs lists h)) (hints_fit t lists (All-tail (λ (hs : Vec Hint Global). HintsFit t hs.items) hs lists h))

pub hints_back : (t : ℕ) (lists : List (Vec Hint Global)) → All (All (HintFits t)) (map hints_of lists) → All (λ (hs : Vec Hint Global). HintsFit t hs.items) lists
hints_back t [] h = All-nil (λ (hs : Vec Hint Global). HintsFit t hs.items)
hints_back t (hs ∷ lists) h = All-cons (λ (hs : Vec Hint Global). HintsFit t hs.items) hs lists
    (all_back hint_of (HintFits t) hs.items (All-head (All (HintFits t)) (hints_of hs) (map hints_of lists) h)) (hints_back t lists (All-tail (All (HintFits t)) (hints_of hs) (map hints_of lists) h))
