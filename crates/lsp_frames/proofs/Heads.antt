-- What is known once the bytes are looked at.
use Rattle.std.proofs.Common.{◌≡◌, ap, sym, ◌∙◌, ℕ, ◌+◌, ◌-◌, ◌<◌, ◌≤◌, ◌⊎◌, inl, inr, min, List, length, take, None, Some, Result, Ok, Err, arith}
use Rattle.std.proofs.Math.Nat.{min-eq_left, min-eq_right}
use Rattle.std.proofs.lemmas.List.{take_all}
use Rattle.std.proofs.lemmas.Bool.{cases_lt}
use Rattle.lsp_frames.specs.Marks.{blank_line, first_place}
use Rattle.lsp_frames.specs.Fields.{length_in}
use Rattle.lsp_frames.specs.Frames as f
use Rattle.lsp_frames.specs.Frames.{head_of, head_at, head_told, most_header}
use Rattle.lsp_frames.specs.Seen.{Knows, head_seen}
use Rattle.lsp_frames.specs.declared.field.FrameFault.{FrameFault}
use Rattle.lsp_frames.specs.declared.seen.Seen.{Seen}
use Rattle.lsp_frames.specs.declared.seen.Seen.TheVariants as s
use Rattle.lsp_frames.proofs.Marks.{none_anywhere}

pub window_is : (bytes : List ℕ) (n : ℕ) → n ≡ min (length bytes) most_header → take n bytes ≡ take most_header bytes
window_is bytes n e = go (cases_lt (length bytes) most_header)
  where
    go : (length bytes < most_header) ⊎ (most_header ≤ length bytes) → take n bytes ≡ take most_header bytes
    go (inl short) =
        let all : n ≡ length bytes = e ∙ min-eq_left (omega (arith, short)) in
        take_all n bytes (omega (arith, all)) ∙ sym (take_all most_header bytes (omega (arith, short)))
    go (inr long) = ap (λ m. take m bytes) (e ∙ min-eq_right long)

pub none_in_window : (bytes : List ℕ) (n : ℕ) → n ≡ min (length bytes) most_header → None ≡ first_place blank_line (take n bytes) → first_place blank_line (take most_header bytes) ≡ None
none_in_window bytes n e found = ap (first_place blank_line) (sym (window_is bytes n e)) ∙ sym found

pub open_knows : (bytes : List ℕ) (place : ℕ) → first_place blank_line (take most_header bytes) ≡ None → length bytes < most_header → place ≡ length bytes - 3 → Knows bytes (s.Open place)
open_knows bytes place e short at =
    let all = take_all most_header bytes (omega (arith, short)) in
    (λ k h. none_anywhere blank_line bytes (omega arith) (ap (first_place blank_line) (sym all) ∙ e) k, omega (arith, at))

pub head_found : (bytes : List ℕ) (n end : ℕ) (told : Result ℕ FrameFault) (result : Seen) → n ≡ min (length bytes) most_header → Some end ≡ first_place blank_line (take n bytes) →
    told ≡ length_in (take end bytes) → head_seen result ≡ head_told (end + 4) told → head_seen result ≡ head_of bytes
head_found bytes n end told result e found read seen =
    seen ∙ ap (head_told (end + 4)) read ∙ ap (head_at bytes) (found ∙ ap (first_place blank_line) (window_is bytes n e))

pub knows_found : (bytes : List ℕ) (start : ℕ) (told : Result ℕ FrameFault) (result : Seen) → head_seen result ≡ head_of bytes → head_seen result ≡ head_told start told → Knows bytes result
knows_found bytes start (Ok size) (s.Open place) h e = absurd (cc e)
knows_found bytes start (Err fault) (s.Open place) h e = absurd (cc e)
knows_found bytes start told (s.Bad fault) h e = sym h
knows_found bytes start told (s.Told at size) h e = sym h
