use Rattle.std.proofs.Common.{◌≡◌, ℕ, List, [], length}
use Rattle.raml_syntax.specs.Read.{ty_of}
use Rattle.value_text.specs.Held.{Held}
use Rattle.value_text.specs.State.{values_in, AllBelow, AreItems}
use Rattle.value_text.proofs.items.take_items.Given as goal

abbrev pub invariant-loop-word : goal.invariant-loop-word
invariant-loop-word l = record {
  items : (hs : List Held) → AreItems (ty_of l.ty) l.count (values_in hs l.fn.words.items []) l.text (values_in hs l.words.items []) l.rest;
  none : l.count ≡ 0 → (l.words.items ≡ l.fn.words.items) × (l.rest ≡ l.text);
  below : (n : ℕ) → AllBelow n l.fn.words.items → AllBelow n l.words.items;
}

abbrev pub decreases-loop-word : goal.decreases-loop-word
decreases-loop-word l = length l.rest
