-- The walk through the blocks of a certificate.
use Rattle.std.proofs.Common.{◌≡◌, refl, ap, sym, ◌∙◌, subst, inl, inr, arith, drop-cons}
use Rattle.std.specs.Prelude.{ℕ, zero, suc, ◌+◌, ◌<◌, List, [], ◌∷◌, ◌++◌, take, drop, length, slice_index_or, Option, None, Some}
use Rattle.std.proofs.lemmas.List.{length-map}
use Rattle.std.proofs.Math.Seq.{drop-nil}
use Rattle.std.proofs.Math.ListN.{get_or-map}
use Rattle.annot_types.specs.Program.{Program}
use Rattle.annot_types.specs.Certificate.{Block, Certificate}
use Rattle.annot_types.specs.Read.{block_of, blocks_of}
use Rattle.annot_types.specs.declared.block.Block.{Block as Given}
use Rattle.cert_check.specs.Fault.{Fault}
use Rattle.cert_check.specs.Finds.{BlockFinds, BlocksFind}
use Rattle.cert_check.specs.Read.{OfFault}

-- of the blocks from a place on
abbrev pub Reduces : Program → Certificate → List Block → ℕ → Type 0
Reduces P c bs k = (found : Option Fault) → BlocksFind P c (take k bs) (drop k bs) found → BlocksFind P c [] bs found

take_more : (bs : List Block) (k : ℕ) (rest : List Block) (b : Block) → drop k bs ≡ b ∷ rest → take (k + 1) bs ≡ take k bs ++ b ∷ []
take_more [] k rest b e = absurd (nil_cons (sym (drop-nil k) ∙ e)) where
  nil_cons : ◌≡◌ {A = List Block} [] (b ∷ rest) → ⊥
  nil_cons e = cc
take_more (x ∷ bs) zero rest b e = ap (λ (y : Block). y ∷ []) (head e) where
  head : ◌≡◌ {A = List Block} (x ∷ bs) (b ∷ rest) → x ≡ b
  head e = cc
take_more (x ∷ bs) (suc k) rest b e = let n : suc k + 1 ≡ suc (k + 1) = omega arith in
    ap (λ n. take n (x ∷ bs)) n ∙ ap (λ l. x ∷ l) (take_more bs k rest b e)

module _ (P : Program) (c : Certificate) (xs : List Given) (k : ℕ) (d : Given) (low : k < length xs) where
  abbrev b : Block
  b = block_of (slice_index_or xs k d)

  rest_is : drop k (blocks_of xs) ≡ b ∷ drop (suc k) (blocks_of xs)
  rest_is = drop-cons (blocks_of xs) k (block_of d) (subst (λ n. k < n) (sym (length-map xs block_of)) low)
      ∙ ap (λ b. b ∷ drop (suc k) (blocks_of xs)) (get_or-map block_of xs k d)

  next : k + 1 ≡ suc k
  next = omega arith

  pub front_is : take (k + 1) (blocks_of xs) ≡ take k (blocks_of xs) ++ b ∷ []
  front_is = take_more (blocks_of xs) k (drop (suc k) (blocks_of xs)) b rest_is

  pub next_block : Reduces P c (blocks_of xs) k → BlockFinds P c (take k (blocks_of xs)) b None → Reduces P c (blocks_of xs) (k + 1)
  next_block r h found g = r found (subst (λ l. BlocksFind P c (take k (blocks_of xs)) l found) (sym rest_is)
      (inl (
        h,
        subst (λ t. BlocksFind P c t (drop (suc k) (blocks_of xs)) found) front_is
            (subst (λ n. BlocksFind P c (take (k + 1) (blocks_of xs)) (drop n (blocks_of xs)) found) next g),
      )))

  pub stopped : Reduces P c (blocks_of xs) k → (o : Option Fault) → OfFault o (BlockFinds P c (take k (blocks_of xs)) b) → OfFault o (BlocksFind P c [] (blocks_of xs))
  stopped r None h = tt
  stopped r (Some fault) h = r (Some fault) (subst (λ l. BlocksFind P c (take k (blocks_of xs)) l (Some fault)) (sym rest_is) (inr (fault, h, refl)))
