-- The parts of values.
use Rattle.std.specs.Prelude.{◌≡◌, List, length, Option, Some, None}
use Rattle.raml_syntax.specs.Value as v
use Rattle.value_text.specs.Heap.{IsBelow}
use Rattle.value_text.specs.Held.{value_of, held}
use Rattle.value_text.specs.declared.word.Word.{Word}
use Rattle.value_text.specs.declared.word.Cell.{Cell}

-- the word stands for the pair of what these stand for
abbrev pub AreParts : List Cell → Word → Word → Word → Type 0
AreParts cells w a b =
    let hs = held cells in
    (value_of hs w ≡ v.Both (value_of hs a) (value_of hs b)) × IsBelow (length cells) a × IsBelow (length cells) b

-- for the list of head and tail, or for the empty one
abbrev pub AreListParts : List Cell → Word → Option (Word × Word) → Type 0
AreListParts cells w None = value_of (held cells) w ≡ v.Empty
AreListParts cells w (Some p) =
    let hs = held cells in
    (value_of hs w ≡ v.Cons (value_of hs p.0) (value_of hs p.1)) × IsBelow (length cells) p.0 × IsBelow (length cells) p.1

-- for the option of a content, or for `none`
abbrev pub IsContent : List Cell → Word → Option Word → Type 0
IsContent cells w None = value_of (held cells) w ≡ v.Empty
IsContent cells w (Some a) = (value_of (held cells) w ≡ v.Just (value_of (held cells) a)) × IsBelow (length cells) a

-- for the tree of element, left and right tree, or for a leaf
abbrev pub AreTreeParts : List Cell → Word → Option (Word × Word × Word) → Type 0
AreTreeParts cells w None = value_of (held cells) w ≡ v.Empty
AreTreeParts cells w (Some p) =
    let hs = held cells in
    (value_of hs w ≡ v.Node (value_of hs p.0) (value_of hs p.1) (value_of hs p.2))
    × IsBelow (length cells) p.0 × IsBelow (length cells) p.1 × IsBelow (length cells) p.2
