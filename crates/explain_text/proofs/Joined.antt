-- Pieces and breaks behind what is wrapped.
use Rattle.std.proofs.Common.{◌≡◌, ℕ, Bool, false, List, [], ◌∷◌, ◌++◌, refl, sym, ap, subst, ◌∙◌, append_assoc, append-nil}
use Rattle.explain_text.specs.Steps.{HasRead}
use Rattle.explain_text.specs.Wrapped.{led, lead, space, break_of, IsWrapped}

-- the texts, of which the last has the piece behind it
longer : List ℕ → List ℕ → List (List ℕ) → List (List ℕ)
longer piece text [] = (text ++ piece) ∷ []
longer piece text (next ∷ texts) = text ∷ longer piece next texts

led_longer : (mark piece text : List ℕ) (texts : List (List ℕ)) → led mark (longer piece text texts) ≡ led mark (text ∷ texts) ++ piece
unfolding longer
led_longer mark piece text [] =
    ap (λ l. mark ++ l) (append-nil (text ++ piece)) ∙ sym (append_assoc mark text piece) ∙ ap (λ l. (mark ++ l) ++ piece) (sym (append-nil text))
led_longer mark piece text (next ∷ texts) =
    ap (λ l. mark ++ (text ++ l)) (led_longer mark piece next texts)
    ∙ ap (λ l. mark ++ l) (sym (append_assoc text (led mark (next ∷ texts)) piece))
    ∙ sym (append_assoc mark (text ++ led mark (next ∷ texts)) piece)

led_more : (mark : List ℕ) (texts : List (List ℕ)) → led mark (texts ++ [] ∷ []) ≡ led mark texts ++ mark
led_more mark [] = append-nil mark
led_more mark (text ∷ texts) =
    ap (λ l. mark ++ (text ++ l)) (led_more mark texts) ∙ ap (λ l. mark ++ l) (sym (append_assoc text (led mark texts) mark)) ∙ sym (append_assoc mark (text ++ led mark texts) mark)

pub nothing_wrapped : (mark : List ℕ) → IsWrapped mark [] []
nothing_wrapped mark = record { first = []; others = []; line_is = refl; text_is = refl }

pub whole_wrapped : (mark line : List ℕ) → IsWrapped mark line line
whole_wrapped mark line = record { first = line; others = []; line_is = sym (append-nil line); text_is = sym (append-nil line) }

pub piece_behind : (mark line text piece : List ℕ) → IsWrapped mark line text → IsWrapped mark (line ++ piece) (text ++ piece)
piece_behind mark line text piece h = at h.others h.line_is h.text_is
  where
    at : (others : List (List ℕ)) → line ≡ h.first ++ led space others → text ≡ h.first ++ led mark others → IsWrapped mark (line ++ piece) (text ++ piece)
    at [] e f = record {
      first = h.first ++ piece;
      others = [];
      line_is = ap (λ l. l ++ piece) (e ∙ append-nil h.first) ∙ sym (append-nil (h.first ++ piece));
      text_is = ap (λ l. l ++ piece) (f ∙ append-nil h.first) ∙ sym (append-nil (h.first ++ piece));
    }
    at (next ∷ others) e f = record {
      first = h.first;
      others = longer piece next others;
      line_is = ap (λ l. l ++ piece) e ∙ append_assoc h.first (led space (next ∷ others)) piece ∙ ap (λ l. h.first ++ l) (sym (led_longer space piece next others));
      text_is = ap (λ l. l ++ piece) f ∙ append_assoc h.first (led mark (next ∷ others)) piece ∙ ap (λ l. h.first ++ l) (sym (led_longer mark piece next others));
    }

pub break_behind : (mark line text : List ℕ) → IsWrapped mark line text → IsWrapped mark (line ++ space) (text ++ mark)
break_behind mark line text h = record {
  first = h.first;
  others = h.others ++ [] ∷ [];
  line_is = ap (λ l. l ++ space) h.line_is ∙ append_assoc h.first (led space h.others) space ∙ ap (λ l. h.first ++ l) (sym (led_more space h.others));
  text_is = ap (λ l. l ++ mark) h.text_is ∙ append_assoc h.first (led mark h.others) mark ∙ ap (λ l. h.first ++ l) (sym (led_more mark h.others));
}

-- before a piece that is not the first

pub space_leads : (mark line text new : List ℕ) (is_first : Bool) → is_first ≡ false → new ≡ text ++ space → IsWrapped mark line text → IsWrapped mark (line ++ lead is_first) new
space_leads mark line text new is_first e h w =
    subst (λ t. IsWrapped mark (line ++ lead is_first) t) (sym h) (subst (λ b. IsWrapped mark (line ++ lead b) (text ++ space)) (sym e) (piece_behind mark line text space w))

pub break_leads : (mark line text new : List ℕ) (is_first : Bool) → is_first ≡ false → new ≡ text ++ mark → IsWrapped mark line text → IsWrapped mark (line ++ lead is_first) new
break_leads mark line text new is_first e h w =
    subst (λ t. IsWrapped mark (line ++ lead is_first) t) (sym h) (subst (λ b. IsWrapped mark (line ++ lead b) (text ++ mark)) (sym e) (break_behind mark line text w))

-- the piece that waits is written with its last word
pub piece_put : (mark line text piece word whole mid new : List ℕ) (is_first : Bool) → HasRead mark line text piece is_first → whole ≡ piece ++ word →
    ((written : List ℕ) → IsWrapped mark written text → IsWrapped mark (written ++ lead is_first) mid) → new ≡ mid ++ whole → IsWrapped mark (line ++ word) new
piece_put mark line text piece word whole mid new is_first h e leads f =
    subst (λ t. IsWrapped mark (line ++ word) t) (sym (f ∙ ap (λ l. mid ++ l) e))
    (subst (λ l. IsWrapped mark l (mid ++ (piece ++ word))) (sym regrouped) (piece_behind mark (h.written ++ lead is_first) mid (piece ++ word) (leads h.written h.wrapped)))
  where
    regrouped : line ++ word ≡ (h.written ++ lead is_first) ++ (piece ++ word)
    regrouped =
        ap (λ l. l ++ word) (h.is ∙ sym (append_assoc h.written (lead is_first) piece))
        ∙ append_assoc (h.written ++ lead is_first) piece word

-- what is read of a line with one word more
pub word_more : (line rest word behind whole : List ℕ) → rest ≡ word ++ 32 ∷ behind → line ++ rest ≡ whole → (line ++ (word ++ space)) ++ behind ≡ whole
word_more line rest word behind whole e h =
    append_assoc line (word ++ space) behind ∙ ap (λ l. line ++ l) (append_assoc word space behind ∙ sym e) ∙ h

pub same_indent : (m n : ℕ) (line text piece : List ℕ) (is_first : Bool) → m ≡ n → HasRead (break_of m) line text piece is_first → HasRead (break_of n) line text piece is_first
same_indent m n line text piece is_first e h = subst (λ k. HasRead (break_of k) line text piece is_first) e h
