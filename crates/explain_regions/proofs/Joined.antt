-- A form more on a line.
use Rattle.std.proofs.Common.{◌≡◌, ◌∙◌, refl, ap, sym, cond, Bool, true, false, ℕ, List, [], ◌∷◌, ◌+◌, arith}
use Rattle.raml_syntax.specs.Tree.{Text}
use Rattle.explain_regions.specs.Lines.{Line, joined, ends_between, before}

joined_more : (a b c : Line) → joined a (joined b c) ≡ joined (joined a b) c
joined_more a b c =
    let ticks : a.ticks + (b.ticks + c.ticks) ≡ (a.ticks + b.ticks) + c.ticks = omega arith in
    let cells : a.cells + (b.cells + c.cells) ≡ (a.cells + b.cells) + c.cells = omega arith in
    let work : a.work + (b.work + c.work) ≡ (a.work + b.work) + c.work = omega arith in
    (λ i. let made : Line = record { at = a.at; region = a.region; ticks = ticks i; cells = cells i; work = work i } in made)

step : (source : Text) (l m : Line) (last next : ℕ) (ls : List Line) →
    before source l last (before source m next ls) ≡ cond (ends_between source last m.at) (l ∷ before source m next ls) (before source (joined l m) next ls)
step source l m last next [] = refl
step source l m last next (n ∷ ns) = by (ends_between source next n.at)
  where
    by : (b : Bool) → before source l last (cond b (m ∷ n ∷ ns) (joined m n ∷ ns))
        ≡ cond (ends_between source last m.at) (l ∷ cond b (m ∷ n ∷ ns) (joined m n ∷ ns)) (cond b (joined l m ∷ n ∷ ns) (joined (joined l m) n ∷ ns))
    by true = refl
    by false = ap (λ (x : Line). cond (ends_between source last m.at) (l ∷ joined m n ∷ ns) (x ∷ ns)) (joined_more l m n)

-- the line ends before the form
pub ended : (source : Text) (l m : Line) (last next : ℕ) (ls : List Line) → ends_between source last m.at ≡ true →
    l ∷ before source m next ls ≡ before source l last (before source m next ls)
ended source l m last next ls ends = sym (step source l m last next ls ∙ ap (λ b. cond b (l ∷ before source m next ls) (before source (joined l m) next ls)) ends)

-- the form stands on the line
pub goes_on : (source : Text) (l m : Line) (last next : ℕ) (ls : List Line) → ends_between source last m.at ≡ false →
    before source (joined l m) next ls ≡ before source l last (before source m next ls)
goes_on source l m last next ls ends = sym (step source l m last next ls ∙ ap (λ b. cond b (l ∷ before source m next ls) (before source (joined l m) next ls)) ends)
