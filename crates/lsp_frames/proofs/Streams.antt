-- What is read of a stream stays so once more bytes come.
use Rattle.std.proofs.Common.{◌≡◌, refl, ap, sym, ◌∙◌, ℕ, zero, suc, ◌+◌, ◌-◌, ◌<◌, ◌≤◌, ◌⊎◌, inl, inr, Bool, true, false, cond, List, [], ◌∷◌, ◌++◌, length, take, drop, Option, None, Some, Result, Ok, Err, nat_le, arith, length-append, length-drop, length-take}
use Rattle.std.proofs.lemmas.List.{take-append-le, drop-append-le}
use Rattle.std.proofs.lemmas.Bool.{cases_lt}
use Rattle.std.proofs.lemmas.Bool.Decides.{nat_tests}
use Rattle.lsp_frames.specs.Marks.{blank_line, first_place}
use Rattle.lsp_frames.specs.Fields.{length_in}
use Rattle.lsp_frames.specs.Frames.{Head, Open, Bad, Told, head_of, head_at, head_told, most_header, More, Whole, front, front_by, Leaves, with_first, messages_from}
use Rattle.lsp_frames.specs.Seen.{Knows}
use Rattle.lsp_frames.specs.Read.{fault_of}
use Rattle.lsp_frames.specs.declared.field.FrameFault.{FrameFault}
use Rattle.lsp_frames.specs.declared.field.FrameFault.TheVariants.{HeaderTooLong}
use Rattle.lsp_frames.specs.declared.seen.Seen.{Seen}
use Rattle.lsp_frames.specs.declared.seen.Seen.TheVariants as s
use Rattle.lsp_frames.proofs.Marks.{first_is, first_more, none_more, take_of_both}

pub is_le : (m n : ℕ) → m ≤ n → nat_le m n ≡ true
is_le m n h = grind (arith, nat_tests)

pub is_more : (m n : ℕ) → n < m → nat_le m n ≡ false
is_more m n h = grind (arith, nat_tests)

window : List ℕ → Option ℕ
window bytes = first_place blank_line (take most_header bytes)

pub head_more : (bytes more : List ℕ) → (head_of bytes ≡ Open) ⊎ (head_of (bytes ++ more) ≡ head_of bytes)
unfolding window
head_more bytes more = go (window bytes) refl
  where
    at_end : window bytes ≡ None → (length bytes < most_header) ⊎ (most_header ≤ length bytes) → (head_of bytes ≡ Open) ⊎ (head_of (bytes ++ more) ≡ head_of bytes)
    at_end e (inl short) = inl (ap (head_at bytes) e ∙ ap (λ t. cond t (Bad HeaderTooLong) Open) (is_more most_header (length bytes) short))
    at_end e (inr long) =
        let sum = length-append bytes more in
        let same : take most_header (bytes ++ more) ≡ take most_header bytes = take-append-le most_header bytes more long in
        let here : head_of bytes ≡ Bad HeaderTooLong = ap (head_at bytes) e ∙ ap (λ t. cond t (Bad HeaderTooLong) Open) (is_le most_header (length bytes) long) in
        let there : head_of (bytes ++ more) ≡ Bad HeaderTooLong =
        ap (head_at (bytes ++ more)) (ap (first_place blank_line) same ∙ e)
        ∙ ap (λ t. cond t (Bad HeaderTooLong) Open) (is_le most_header (length (bytes ++ more)) (omega (arith, sum, long))) in
        inr (there ∙ sym here)

    go : (found : Option ℕ) → window bytes ≡ found → (head_of bytes ≡ Open) ⊎ (head_of (bytes ++ more) ≡ head_of bytes)
    go None e = at_end e (cases_lt (length bytes) most_header)
    go (Some place) e =
        let f = first_is blank_line (take most_header bytes) place e in
        let few = length-take most_header bytes in
        let there : window (bytes ++ more) ≡ Some place =
        ap (first_place blank_line) (take_of_both most_header bytes more)
        ∙ first_more blank_line (take most_header bytes) (take (most_header - length bytes) more) place e in
        let same : take place (bytes ++ more) ≡ take place bytes = take-append-le place bytes more (omega (arith, few, f.within)) in
        inr (ap (head_at (bytes ++ more)) there ∙ ap (λ (l : List ℕ). head_told (place + 4) (length_in l)) same ∙ sym (ap (head_at bytes) e))

pub knows_more : (bytes more : List ℕ) (known : Seen) → Knows bytes known → Knows (bytes ++ more) known
knows_more bytes more (s.Open place) h =
    let sum = length-append bytes more in
    (none_more blank_line bytes more place (omega (arith, h.1)) h.0, omega (arith, h.1, sum))
knows_more bytes more (s.Bad fault) h = go (head_more bytes more)
  where
    go : (head_of bytes ≡ Open) ⊎ (head_of (bytes ++ more) ≡ head_of bytes) → head_of (bytes ++ more) ≡ Bad fault
    go (inl opened) = let wrong : Open ≡ Bad fault = sym opened ∙ h in absurd (cc wrong)
    go (inr same) = same ∙ h
knows_more bytes more (s.Told start size) h = go (head_more bytes more)
  where
    go : (head_of bytes ≡ Open) ⊎ (head_of (bytes ++ more) ≡ head_of bytes) → head_of (bytes ++ more) ≡ Told start size
    go (inl opened) = let wrong : Open ≡ Told start size = sym opened ∙ h in absurd (cc wrong)
    go (inr same) = same ∙ h

-- where a front is a whole message
pub record IsWhole (bytes content rest : List ℕ) : Type 0 where
  pub start : ℕ
  pub size : ℕ
  pub head : head_of bytes ≡ Told start size
  pub within : start + size ≤ length bytes
  pub content_is : content ≡ take size (drop start bytes)
  pub rest_is : rest ≡ drop (start + size) bytes

pub whole_is : (bytes content rest : List ℕ) → front bytes ≡ Whole content rest → IsWhole bytes content rest
whole_is bytes content rest e = go (head_of bytes) refl e
  where
    told : (start size : ℕ) → head_of bytes ≡ Told start size → (length bytes < start + size) ⊎ (start + size ≤ length bytes) →
        front_by bytes (Told start size) ≡ Whole content rest → IsWhole bytes content rest
    told start size head (inl short) h =
        let wrong : More ≡ Whole content rest =
        sym (ap (λ t. cond t (Whole (take size (drop start bytes)) (drop (start + size) bytes)) More) (is_more (start + size) (length bytes) short)) ∙ h in
        absurd (cc wrong)
    told start size head (inr long) h =
        let found_whole : Whole (take size (drop start bytes)) (drop (start + size) bytes) ≡ Whole content rest =
        sym (ap (λ t. cond t (Whole (take size (drop start bytes)) (drop (start + size) bytes)) More) (is_le (start + size) (length bytes) long)) ∙ h in
        record { start = start; size = size; head = head; within = long; content_is = cc found_whole; rest_is = cc found_whole }

    go : (head : Head) → head_of bytes ≡ head → front_by bytes head ≡ Whole content rest → IsWhole bytes content rest
    go Open is h = absurd (cc h)
    go (Bad fault) is h = absurd (cc h)
    go (Told start size) is h = told start size is (cases_lt (length bytes) (start + size)) h

pub front_more : (bytes more content rest : List ℕ) → front bytes ≡ Whole content rest → front (bytes ++ more) ≡ Whole content (rest ++ more)
front_more bytes more content rest e = go (head_more bytes more)
  where
    at : (v : IsWhole bytes content rest) → head_of (bytes ++ more) ≡ Told v.start v.size → front (bytes ++ more) ≡ Whole content (rest ++ more)
    at v head =
        let sum = length-append bytes more in
        let left = length-drop v.start bytes in
        let fits : nat_le (v.start + v.size) (length (bytes ++ more)) ≡ true = is_le (v.start + v.size) (length (bytes ++ more)) (omega (arith, sum, v.within)) in
        let inner : drop v.start (bytes ++ more) ≡ drop v.start bytes ++ more = drop-append-le v.start bytes more (omega (arith, v.within)) in
        let content_same : take v.size (drop v.start (bytes ++ more)) ≡ content =
        ap (take v.size) inner ∙ take-append-le v.size (drop v.start bytes) more (omega (arith, left, v.within)) ∙ sym v.content_is in
        let rest_same : drop (v.start + v.size) (bytes ++ more) ≡ rest ++ more =
        drop-append-le (v.start + v.size) bytes more v.within ∙ ap (λ (l : List ℕ). l ++ more) (sym v.rest_is) in
        ap (front_by (bytes ++ more)) head ∙ (λ i. cond (fits i) (Whole (content_same i) (rest_same i)) More)

    go : (head_of bytes ≡ Open) ⊎ (head_of (bytes ++ more) ≡ head_of bytes) → front (bytes ++ more) ≡ Whole content (rest ++ more)
    go (inl opened) = let wrong : More ≡ Whole content rest = sym (ap (front_by bytes) opened) ∙ e in absurd (cc wrong)
    go (inr same) = at (whole_is bytes content rest e) (same ∙ (whole_is bytes content rest e).head)

pub leaves_more : (bytes more : List ℕ) (contents : List (List ℕ)) (rest : List ℕ) → Leaves bytes contents rest → Leaves (bytes ++ more) contents (rest ++ more)
leaves_more bytes more [] rest h = ap (λ (l : List ℕ). l ++ more) h
leaves_more bytes more (content ∷ contents) rest h = (h.0 ++ more, front_more bytes more content h.0 h.1, leaves_more h.0 more contents rest h.2)

pub leaves_then : (bytes : List ℕ) (contents : List (List ℕ)) (middle content rest : List ℕ) → Leaves bytes contents middle → front middle ≡ Whole content rest → Leaves bytes (contents ++ content ∷ []) rest
leaves_then bytes [] middle content rest h e = (rest, ap front h ∙ e, refl)
leaves_then bytes (first ∷ contents) middle content rest h e = (h.0, h.1, leaves_then h.0 contents middle content rest h.2 e)

told_late : (bytes : List ℕ) (start size : ℕ) → head_of bytes ≡ Told start size → 0 < start
unfolding window
told_late bytes start size e = go (window bytes) e
  where
    length_of : (place : ℕ) (told : Result ℕ FrameFault) → head_told (place + 4) told ≡ Told start size → 0 < start
    length_of place (Ok n) h = let at : place + 4 ≡ start = cc h in omega (arith, at)
    length_of place (Err fault) h = absurd (cc h)

    test : (t : Bool) → cond t (Bad HeaderTooLong) Open ≡ Told start size → 0 < start
    test true h = absurd (cc h)
    test false h = absurd (cc h)

    go : (found : Option ℕ) → head_at bytes found ≡ Told start size → 0 < start
    go None h = test (nat_le most_header (length bytes)) h
    go (Some place) h = length_of place (length_in (take place bytes)) h

pub shorter : (bytes content rest : List ℕ) → front bytes ≡ Whole content rest → length rest < length bytes
shorter bytes content rest e =
    let w = whole_is bytes content rest e in
    let late = told_late bytes w.start w.size w.head in
    let left = length-drop (w.start + w.size) bytes in
    let same = ap length w.rest_is in
    omega (arith, late, left, same, w.within)

pub all_read : (contents : List (List ℕ)) (bytes rest : List ℕ) (n : ℕ) (fault : Option FrameFault) → length bytes ≤ n → Leaves bytes contents rest → front rest ≡ fault_of fault →
    messages_from (front bytes) n ≡ record { contents = contents; fault = fault }
all_read [] bytes rest n fault few h e = ap (λ f. messages_from f n) (ap front h ∙ e) ∙ ended fault
  where
    ended : (fault : Option FrameFault) → messages_from (fault_of fault) n ≡ record { contents = []; fault = fault }
    ended None = refl
    ended (Some f) = refl
all_read (content ∷ contents) bytes rest zero fault few h e = let less = shorter bytes content h.0 h.1 in absurd (omega (arith, few, less))
all_read (content ∷ contents) bytes rest (suc n) fault few h e =
    let less = shorter bytes content h.0 h.1 in
    ap (λ f. messages_from f (suc n)) h.1 ∙ ap (with_first content) (all_read contents h.0 rest n fault (omega (arith, few, less)) h.2 e)
