-- What the first bytes of a file tell of the whole: read one byte more than a limit.
use Rattle.std.proofs.Common.{◌≡◌, ◌≤◌, ◌<◌, ℕ, ◌+◌, List, Some, length, take, arith, ap, sym, ◌∙◌}
use Rattle.std.proofs.lemmas.Grind.{common_steps}
use Rattle.raml_io.specs.Files.{Files, IsFront}

-- no more than the limit: the name holds just these
pub front_whole : (files : Files) (name : List ℕ) (limit : ℕ) (bytes : List ℕ) → IsFront files name (limit + 1) bytes → length bytes ≤ limit → files name ≡ Some bytes
front_whole files name limit bytes h within =
    let all : take (limit + 1) h.content ≡ h.content = grind (arith, common_steps, h.front, within) in
    h.held ∙ ap Some (sym (h.front ∙ all))

-- more than the limit: so does what the name holds
pub front_longer : (files : Files) (name : List ℕ) (limit : ℕ) (bytes : List ℕ) (h : IsFront files name (limit + 1) bytes) → limit < length bytes → limit < length h.content
front_longer files name limit bytes h more = grind (arith, common_steps, h.front, more)
