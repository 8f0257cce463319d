-- Behind the end of a source nothing is kept.
use Rattle.std.proofs.Common.{◌≡◌, ap, sym, ◌∙◌, ◌≤◌, ◌<◌, ℕ, ◌+◌, ◌-◌, ◌^◌, ◌⊎◌, inl, inr, List, [], ◌∷◌, ◌++◌, length, take, drop, slice_index_or, string_bytes, append_assoc, min, suc, arith}
use Rattle.std.proofs.Math.Nat.{min-eq_left}
use Rattle.std.proofs.Math.ListN.{drop_of_length-le}
use Rattle.std.proofs.Math.Seq.{take-nil, drop-cons}
use Rattle.std.proofs.lemmas.Bool.{cases_lt}
use Rattle.raml_syntax.specs.Tree.{Text}
use Rattle.explain_edits.specs.Edits as e
use Rattle.explain_edits.specs.Edits.{edited_from}
use Rattle.explain_edits.specs.Read.{edits_of}
use Rattle.explain_edits.specs.declared.edit.Edit.{Edit}

past : (source : Text) (a b : ℕ) (edits : List e.Edit) → length source ≤ a → length source ≤ b → edited_from source a edits ≡ edited_from source b edits
past source a b [] first second = drop_of_length-le source first ∙ sym (drop_of_length-le source second)
past source a b (one ∷ edits) first second =
    let none : (k : ℕ) (from : ℕ) → length source ≤ from → take k (drop from source) ≡ [] = λ k from end. rw (drop_of_length-le source end) (take-nil k) in
    ap (λ (kept : Text). (kept ++ one.text) ++ edited_from source (one.at + one.length) edits) (none (one.at - a) a first ∙ sym (none (one.at - b) b second))

edited_at_end : (source : Text) (n : ℕ) (edits : List e.Edit) → length source ≤ 2 ^ 64 - 1 →
    edited_from source (min n (2 ^ 64 - 1)) edits ≡ edited_from source n edits
edited_at_end source n edits fits = go (cases_lt n (2 ^ 64 - 1))
  where
    go : (n < 2 ^ 64 - 1) ⊎ (2 ^ 64 - 1 ≤ n) → edited_from source (min n (2 ^ 64 - 1)) edits ≡ edited_from source n edits
    go (inl small) = ap (λ k. edited_from source k edits) (min-eq_left (omega arith))
    go (inr large) = past source (min n (2 ^ 64 - 1)) n edits (omega arith) (omega arith)

-- one more edit is made
pub edited_next : (source : Text) (edits : List Edit) (i : ℕ) (item : Edit) (from end : ℕ) (old new whole : Text) → length source ≤ 2 ^ 64 - 1 → i < length edits →
    item ≡ slice_index_or edits i item → end ≡ min (item.at + item.length) (2 ^ 64 - 1) →
    new ≡ old ++ (take (item.at - from) (drop from source) ++ string_bytes item.text) →
    old ++ edited_from source from (edits_of (drop i edits)) ≡ whole →
    new ++ edited_from source end (edits_of (drop (i + 1) edits)) ≡ whole
edited_next source edits i item from end old new whole fits within read ends added so_far =
    let step : suc i ≡ i + 1 = omega arith in
    let front : drop i edits ≡ item ∷ drop (i + 1) edits = drop-cons edits i item within ∙ (λ k. sym read k ∷ drop (step k) edits) in
    let later = edits_of (drop (i + 1) edits) in
    let rest = edited_from source (item.at + item.length) later in
    ap (λ (k : ℕ). new ++ edited_from source k later) ends
    ∙ ap (λ (end : Text). new ++ end) (edited_at_end source (item.at + item.length) later fits)
    ∙ ap (λ (start : Text). start ++ rest) added
    ∙ append_assoc old (take (item.at - from) (drop from source) ++ string_bytes item.text) rest
    ∙ ap (λ (these : List Edit). old ++ edited_from source from (edits_of these)) (sym front)
    ∙ so_far
