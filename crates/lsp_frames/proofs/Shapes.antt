-- What is read is a header part, its first blank line and the content, and nothing else is.
use Rattle.std.proofs.Common.{◌≡◌, refl, ap, sym, ◌∙◌, subst, ℕ, ◌+◌, ◌<◌, ◌≤◌, Bool, true, false, cond, List, ◌++◌, length, take, drop, Option, None, Some, Result, Ok, Err, nat_le, arith, length-drop, length-take}
use Rattle.std.proofs.Math.Nat.{min-eq_left}
use Rattle.std.proofs.lemmas.List.{drop-drop, take-append-drop}
use Rattle.std.proofs.lemmas.Slice.Eq.{bytes_eq-Decides}
use Rattle.lsp_frames.specs.Marks.{blank_line, first_place, begins, NoneBefore}
use Rattle.lsp_frames.specs.Fields.{length_in}
use Rattle.lsp_frames.specs.Frames.{Head, Open, Bad, Told, head_of, head_at, head_told, most_header, Whole, front, IsFrame}
use Rattle.lsp_frames.specs.declared.field.FrameFault.{FrameFault}
use Rattle.lsp_frames.specs.declared.field.FrameFault.TheVariants.{HeaderTooLong}
use Rattle.lsp_frames.proofs.Marks.{first_is, begins_long, begins_at_more}
use Rattle.lsp_frames.proofs.Streams.{whole_is}
use Rattle.lsp_frames.proofs.Written.{front_read}

begins_is : (mark bytes : List ℕ) → begins mark bytes ≡ true → bytes ≡ mark ++ drop (length mark) bytes
begins_is mark bytes e =
    let same : mark ≡ take (length mark) bytes = (bytes_eq-Decides mark (take (length mark) bytes)).0 e in
    sym (take-append-drop (length mark) bytes) ∙ ap (λ (l : List ℕ). l ++ drop (length mark) bytes) (sym same)

record IsHead (bytes : List ℕ) (start size : ℕ) : Type 0 where
  place : ℕ
  found : first_place blank_line (take most_header bytes) ≡ Some place
  at : start ≡ place + 4
  told : length_in (take place bytes) ≡ Ok size

head_is : (bytes : List ℕ) (start size : ℕ) → head_of bytes ≡ Told start size → IsHead bytes start size
head_is bytes start size e = go (first_place blank_line (take most_header bytes)) refl e
  where
    told_here : (place : ℕ) (told : Result ℕ FrameFault) → first_place blank_line (take most_header bytes) ≡ Some place → length_in (take place bytes) ≡ told →
        head_told (place + 4) told ≡ Told start size → IsHead bytes start size
    told_here place (Ok n) found is h =
        let at : place + 4 ≡ start = cc h in
        let same : n ≡ size = cc h in
        record { place = place; found = found; at = sym at; told = is ∙ ap Ok same }
    told_here place (Err fault) found is h = absurd (cc h)

    test : (t : Bool) → cond t (Bad HeaderTooLong) Open ≡ Told start size → IsHead bytes start size
    test true h = absurd (cc h)
    test false h = absurd (cc h)

    go : (found : Option ℕ) → first_place blank_line (take most_header bytes) ≡ found → head_at bytes found ≡ Told start size → IsHead bytes start size
    go None is h = test (nat_le most_header (length bytes)) h
    go (Some place) is h = told_here place (length_in (take place bytes)) is refl h

pub frame_is : (bytes content rest : List ℕ) → front bytes ≡ Whole content rest → IsFrame bytes content rest
frame_is bytes content rest e =
    let w = whole_is bytes content rest e in
    let h = head_is bytes w.start w.size w.head in
    let window = take most_header bytes in
    let behind = drop most_header bytes in
    let joined : window ++ behind ≡ bytes = take-append-drop most_header bytes in
    let f = first_is blank_line window h.place h.found in
    let long = begins_long blank_line (drop h.place window) f.here in
    let left = length-drop h.place window in
    let few = length-take most_header bytes in
    let fits : h.place + 4 ≤ length window = omega (arith, long, left, f.within) in
    let size_of_header : length (take h.place bytes) ≡ h.place = length-take h.place bytes ∙ min-eq_left (omega (arith, fits, few)) in
    let at_place : (k : ℕ) → k + 4 ≤ length window → begins blank_line (drop k bytes) ≡ begins blank_line (drop k window) =
    λ k within. ap (λ (l : List ℕ). begins blank_line (drop k l)) (sym joined) ∙ begins_at_more blank_line window behind k within in
    let here : drop h.place bytes ≡ blank_line ++ drop 4 (drop h.place bytes) = begins_is blank_line (drop h.place bytes) (at_place h.place fits ∙ f.here) in
    let content_size : length content ≡ w.size =
    ap length w.content_is ∙ length-take w.size (drop w.start bytes) ∙ min-eq_left (let rest_size = length-drop w.start bytes in omega (arith, rest_size, w.within)) in
    let parts : drop w.start bytes ≡ content ++ rest =
    sym (take-append-drop w.size (drop w.start bytes))
    ∙ (λ i. sym w.content_is i ++ (drop-drop w.size w.start bytes ∙ sym w.rest_is) i) in
    let behind_blank : drop 4 (drop h.place bytes) ≡ content ++ rest = drop-drop 4 h.place bytes ∙ ap (λ n. drop n bytes) (sym h.at) ∙ parts in
    record {
      header = take h.place bytes;
      whole = sym (take-append-drop h.place bytes) ∙ ap (λ (l : List ℕ). take h.place bytes ++ l) (here ∙ ap (λ (l : List ℕ). blank_line ++ l) behind_blank);
      first = λ k less. at_place k (omega (arith, less, size_of_header, fits)) ∙ f.before k (omega (arith, less, size_of_header));
      short = omega (arith, size_of_header, fits, few);
      told = h.told ∙ ap Ok (sym content_size);
    }

pub front_is : (bytes content rest : List ℕ) → IsFrame bytes content rest → front bytes ≡ Whole content rest
front_is bytes content rest f =
    ap front f.whole ∙ front_read f.header content rest (length content) (subst (NoneBefore blank_line (length f.header)) f.whole f.first) f.short f.told refl
