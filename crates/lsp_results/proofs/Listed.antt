-- Lists of JSON that are made of one item after another.
use Rattle.std.proofs.Common.{◌≡◌, ℕ, ◌+◌, ◌<◌, ◌≤◌, List, [], ◌∷◌, ◌++◌, length, map, take, get_or, sym, ap, ap₂, ◌∙◌}
use Rattle.std.proofs.lemmas.List.{map-append, take_more, take_all}
use Rattle.serde_json.specs.Data.{Data}
use Rattle.serde_json.specs.View.{view}
use Rattle.serde_json.specs.declared.value.Value.{Value, Array}
use Rattle.serde_json.proofs.Views.{view-Array}
use Rattle.std.specs.declared.vec.Vec.{Vec}
use Rattle.std.specs.Global.{Global}
use Rattle.lsp_results.specs.Places.{list_json}

pub one_more : {A : Type 0} (f : A → Data) (old new : List Value) (value : Value) (xs : List A) (n : ℕ) (x : A) → n < length xs → x ≡ get_or xs n x →
    new ≡ old ++ value ∷ [] → view value ≡ f x → map view old ≡ map f (take n xs) → map view new ≡ map f (take (n + 1) xs)
one_more f old new value xs n x within at pushed is so_far =
    ap (map view) pushed ∙ map-append view old (value ∷ []) ∙ ap₂ (λ ds d. ds ++ d ∷ []) so_far is
    ∙ sym (ap (map f) (take_more xs n x within ∙ ap (λ y. take n xs ++ y ∷ []) (sym at)) ∙ map-append f (take n xs) (x ∷ []))

pub all_made : {A : Type 0} (f : A → Data) (items : Vec Value Global) (xs : List A) (n : ℕ) → length xs ≤ n → map view items.items ≡ map f (take n xs) →
    view (Array items) ≡ list_json (map f xs)
all_made f items xs n all so_far = view-Array items ∙ ap list_json (so_far ∙ ap (map f) (take_all n xs all))
