-- Items of a list, and what comes before them.
use Rattle.std.proofs.Common.{◌≡◌, refl, ap, ◌∙◌, arith}
use Rattle.std.specs.Prelude.{ℕ, zero, suc, ◌+◌, ◌<◌, List, [], ◌∷◌, ◌++◌, take, length, slice_get, slice_index_or, Some}
use Rattle.std.proofs.lemmas.Option.{none-some, same_Some}
use Rattle.annot_types.specs.Read.{block_of, blocks_of}
use Rattle.annot_types.specs.declared.block.Block.{Block as Given}

pub item_there : (xs : List Given) (k : ℕ) (d : Given) → k < length xs → slice_get (blocks_of xs) k ≡ Some (block_of (slice_index_or xs k d))
item_there [] k d h = absurd (omega (arith, h))
item_there (x ∷ xs) zero d h = refl
item_there (x ∷ xs) (suc k) d h = item_there xs k d (omega (arith, h))

pub front_more : {X : Type 0} (xs : List X) (k : ℕ) (x : X) → slice_get xs k ≡ Some x → take (k + 1) xs ≡ take k xs ++ x ∷ []
front_more [] k x e = absurd (none-some x e)
front_more (y ∷ xs) zero x e = ap (λ z. z ∷ []) (same_Some y x e)
front_more (y ∷ xs) (suc k) x e = let n : suc k + 1 ≡ suc (k + 1) = omega arith in ap (λ n. take n (y ∷ xs)) n ∙ ap (λ l. y ∷ l) (front_more xs k x e)
