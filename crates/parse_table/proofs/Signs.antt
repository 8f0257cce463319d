-- Each sign is known by its spelling.
use Rattle.std.proofs.Common.{◌≡◌, ◌∙◌, refl, sym, ap, subst, [], ◌∷◌, List, ℕ}
use Rattle.std.specs.Prelude.{Some, None, Bool, true, false, if◌then◌else◌}
use Rattle.std.proofs.lemmas.Slice.Eq.{bytes_eq-Decides}
use Rattle.parse_table.specs.Tokens.{Sign, Token, Name, Number, Key, spelling, sign_of, same}
use Rattle.parse_table.specs.declared.token.Sign.TheVariants as s
use Rattle.parse_table.specs.Table.{Part, At, key, place}

sign_back : (k : Sign) → sign_of (spelling k) ≡ k
sign_back s.Fun = refl
sign_back s.Let = refl
sign_back s.In = refl
sign_back s.If = refl
sign_back s.Then = refl
sign_back s.Else = refl
sign_back s.Match = refl
sign_back s.With = refl
sign_back s.Nil = refl
sign_back s.Leaf = refl
sign_back s.Node = refl
sign_back s.Nothing = refl
sign_back s.Just = refl
sign_back s.True = refl
sign_back s.False = refl
sign_back s.Not = refl
sign_back s.Tick = refl
sign_back s.Div = refl
sign_back s.Mod = refl
sign_back s.Int = refl
sign_back s.Bool = refl
sign_back s.List = refl
sign_back s.Tree = refl
sign_back s.Option = refl
sign_back s.Open = refl
sign_back s.Close = refl
sign_back s.Comma = refl
sign_back s.Colon = refl
sign_back s.Cons = refl
sign_back s.Equal = refl
sign_back s.Less = refl
sign_back s.AtMost = refl
sign_back s.Plus = refl
sign_back s.Minus = refl
sign_back s.Star = refl
sign_back s.Arrow = refl
sign_back s.Bar = refl

pub same_is : (j k : Sign) → same j k ≡ true → j ≡ k
same_is j k h = sym (sign_back j) ∙ ap sign_of ((bytes_eq-Decides (spelling j) (spelling k)).0 h) ∙ sign_back k

-- a token that this keyword or symbol takes is that keyword or symbol
pub key_is : (k : Sign) (P : Token → Type 0) → ((p : ℕ) → P (Key p k)) → (t : Token) (ws : List Part) → key k t ≡ Some ws → P t
key_is k P f (Key p j) ws e = go (same j k) refl e
  where
    go : (b : Bool) → same j k ≡ b → (if b then Some [] else None) ≡ Some ws → P (Key p j)
    go true q e = subst (λ j. P (Key p j)) (sym (same_is j k q)) (f p)
    go false q e = absurd (cc)
key_is k P f (Name p x) ws e = absurd (cc)
key_is k P f (Number p n) ws e = absurd (cc)

pub place_is : (k : Sign) (P : Token → Type 0) → ((p : ℕ) → P (Key p k)) → (t : Token) (ws : List Part) → place k t ≡ Some ws → P t
place_is k P f (Key p j) ws e = go (same j k) refl e
  where
    go : (b : Bool) → same j k ≡ b → (if b then Some (At p ∷ []) else None) ≡ Some ws → P (Key p j)
    go true q e = subst (λ j. P (Key p j)) (sym (same_is j k q)) (f p)
    go false q e = absurd (cc)
place_is k P f (Name p x) ws e = absurd (cc)
place_is k P f (Number p n) ws e = absurd (cc)
