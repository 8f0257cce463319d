-- The annotation rules.
use Rattle.std.specs.Prelude.{◌≡◌, ◌≤◌, ℕ, ℤ, ◌-◌, ◌*◌, List, [], ◌∷◌, ◌++◌, map, slice_get, option_to_list, unsigned_abs, Option, Some}
use Rattle.raml_syntax.specs.Tree.{Type'}
use Rattle.base_poly.specs.Plain.{Plain, degrees}
use Rattle.base_poly.specs.Base.{total}
use Rattle.index_shift.specs.Potential.{Annotation, moved}
use Rattle.index_shift.specs.Maps.{opening, leaving, sharing}
use Rattle.normal_spec.specs.Norm as n
use Rattle.normal_spec.specs.Norm.{Norm, NormFun}
use Rattle.normal_spec.specs.Context.{Context, types, place, without, opened, parts_of, copies_of, inners, others}
use Rattle.cost_free.specs.declared.task.Meter.{Meter}
use Rattle.cost_free.specs.declared.task.Meter.TheVariants.{Ticks, Cells, Work}
use Rattle.annot_types.specs.Program.{Program}
use Rattle.annot_types.specs.Certificate.{Entries, annotation, Annotates, Sig, Hint, Let, Share, Call, Block}
use Rattle.annot_types.specs.Signature.{sig_among, sig_in, free_budget, or_else, cost_sig}
use Rattle.annot_types.specs.Carried.{Covers, less, more, rebudgeted, at_operands, at_parts, tuples, part, joined}

-- A form is typed with costs, those of a meter, or cost-free. Of the two cost-free modes, in Own a call of a function of the
-- present group takes the present block's signature, and in Past it takes none.
pub data Mode : Type 0 where
  With : Meter → Mode
  Own : Mode
  Past : Mode

-- What all rules of a block share: the program, the blocks before the present one, the functions of the present group with
-- their signatures, the present block's budget, and the scale of the prices.
pub record Setting : Type 0 where
  pub program : Program
  pub earlier : List Block
  pub group : List ℕ
  pub sigs : List Sig
  pub budget : ℕ
  pub scale : ℕ

-- a signature that a call takes, the budget at which it stands, and how often it is taken
pub record Taken : Type 0 where
  pub budget : ℕ
  pub sig : Sig
  pub times : ℕ

-- The first hint is that of a Let, a Share or a Call, and the rule is about it and the hints behind it.
abbrev pub TakesLet : List Hint → (List Entries → List Hint → Type 0) → Type 0
TakesLet (Let rs ∷ rest) rule = rule rs rest
TakesLet _ rule = ⊥

abbrev pub TakesShare : List Hint → (Entries → List Hint → Type 0) → Type 0
TakesShare (Share p ∷ rest) rule = rule p rest
TakesShare _ rule = ⊥

abbrev pub TakesCall : List Hint → (Entries → List Hint → Type 0) → Type 0
TakesCall (Call multiples ∷ rest) rule = rule multiples rest
TakesCall _ rule = ⊥

-- The bound form of a Let, of type A, is typed once for each tuple of the other variables, and a hint gives the annotation
-- of its result. For the first tuple, that of zero indices, it is typed in the given mode, and for all others in mode Past.
abbrev pub Parts : Type' → ℕ → (Mode → List Plain → Annotation → List Hint → List Hint → Type 0) → Mode → List (List Plain) → List Entries →
    List Hint → List Hint → Type 0
Parts A d child mode [] [] hs out = hs ≡ out
Parts A d child mode (j ∷ js) (r ∷ rs) hs out =
    (between : List Hint)
    × Annotates (A ∷ []) (d - degrees j) r
    × child mode j (annotation r) hs between
    × Parts A d child Past js rs between out
Parts A d child mode _ _ hs out = ⊥

module _ (S : Setting) where
  -- the price of a form with so many nodes, ticks and cells
  abbrev pub price : Mode → ℕ → ℕ → ℕ → ℕ
  price (With Ticks) nodes ticks cells = ticks * S.scale
  price (With Cells) nodes ticks cells = cells * S.scale
  price (With Work) nodes ticks cells = nodes * S.scale
  price Own nodes ticks cells = 0
  price Past nodes ticks cells = 0

  -- The coefficient of the zero index, which is constant potential, pays the price, and the rule is about what is left.
  abbrev pub Pays : Mode → ℕ → ℕ → ℕ → Annotation → (Annotation → Type 0) → Type 0
  Pays mode nodes ticks cells q rule = (price mode nodes ticks cells ≤ q 0) × rule (less (price mode nodes ticks cells) q)

  -- What a call gets back of its price. The callee's signature pays for a whole run, whose work is one unit more than the nodes
  -- of the body, and that unit is the node of the call itself.
  abbrev pub refund : Mode → ℕ
  refund (With Work) = S.scale
  refund mode = 0

  -- the present block's signature, of a function of its group
  abbrev pub own_sig : ℕ → Option Sig
  own_sig f = sig_among S.group S.sigs f

  -- the signature with costs: that of the present block for a function of its group, and else that of the meter's earlier block
  abbrev pub paid_sig : Meter → ℕ → Option Sig
  paid_sig meter f = or_else (own_sig f) (cost_sig S.program meter S.earlier f)

  -- The signatures that a call takes once: with costs exactly one, in mode Own that of the present block if the function is of
  -- the group, and in mode Past none.
  abbrev pub TakesOnce : Mode → ℕ → List Sig → Type 0
  TakesOnce (With meter) f sigs = (s : Sig) × (paid_sig meter f ≡ Some s) × (sigs ≡ s ∷ [])
  TakesOnce Own f sigs = sigs ≡ option_to_list (own_sig f)
  TakesOnce Past f sigs = sigs ≡ []

  -- A multiple that a hint names: an earlier cost-free block with a signature of the function, of budget at most d.
  pub record IsMultiple (d f : ℕ) (named : ℕ × ℤ) (taken : Taken) : Type 0 where
    pub block : Block
    pub there : slice_get S.earlier named.0 ≡ Some block
    pub free : free_budget block.task.kind ≡ Some taken.budget
    pub low : taken.budget ≤ d
    pub sig : sig_in S.program block f ≡ Some taken.sig
    pub times : taken.times ≡ unsigned_abs named.1

  abbrev pub AreMultiples : ℕ → ℕ → Entries → List Taken → Type 0
  AreMultiples d f [] [] = Unit {0}
  AreMultiples d f (m ∷ ms) (taken ∷ more) = IsMultiple d f m taken × AreMultiples d f ms more
  AreMultiples d f _ _ = ⊥

  -- all signatures that a call takes; those that it takes once stand at the block's budget
  abbrev pub all_taken : List Sig → List Taken → List Taken
  all_taken sigs multiples = map (λ s. record { budget = S.budget; sig = s; times = 1 }) sigs ++ multiples

  -- the potential that they ask of the operands, as an annotation of the context, and the one that they give to the result
  abbrev pub asked : Context → List ℕ → List Type' → ℕ → List Taken → Annotation
  asked C xs As d all k = total (λ (t : Taken). t.times * at_operands C xs As t.budget d (annotation t.sig.args) k) all

  abbrev pub left : Type' → ℕ → List Taken → Annotation
  left T d all k = total (λ (t : Taken). t.times * rebudgeted (T ∷ []) t.budget d (annotation t.sig.result) k) all

  -- a call of the function on operands that are the whole context; tuples are matched by what they are
  pub record CallRule (mode : Mode) (d : ℕ) (C : Context) (q : Annotation) (f : ℕ) (xs : List ℕ)
      (T : Type') (r : Annotation) (hint : Entries) : Type 0 where
    pub fun : NormFun
    pub there : slice_get S.program.funs f ≡ Some fun
    pub once : List Sig
    pub takes : TakesOnce mode f once
    pub multiples : List Taken
    pub named : AreMultiples d f hint multiples
    pub args : Covers (types C) d (more (refund mode) q) (asked C xs (types fun.params) d (all_taken once multiples))
    pub result : Covers (T ∷ []) d (left T d (all_taken once multiples)) r

  -- The form gives a number, a truth value or an empty value: there all base polynomials but that of the zero index are 0.
  abbrev pub AtZero : Mode → ℕ → Annotation → Annotation → List Hint → List Hint → Type 0
  AtZero m k q r hs out = Pays m k 0 0 q (λ q. r 0 ≤ q 0) × (hs ≡ out)

  -- The form builds a cell of these variables, and their potential is what they would get if the result were taken apart.
  abbrev pub Builds : Mode → ℕ → Context → Annotation → ℕ → List ℕ → Type' → Annotation → List Hint → List Hint → Type 0
  Builds m d C q k xs T r hs out = Pays m k 0 1 q (λ q. Covers (types C) d q (at_parts C xs T d r)) × (hs ≡ out)

  -- The typing judgement. In this mode and at budget d, q is an annotation of the context C, and r one of the form's result, of
  -- type T. The form takes its hints from the front of `hs`, in the order of the walk, and leaves `out`.
  abbrev pub Ann : Mode → ℕ → Context → Annotation → Norm → Type' → Annotation → List Hint → List Hint → Type 0
  -- the variable is the whole context
  Ann m d C q (n.Var k x) T r hs out = Pays m k 0 0 q (λ q. Covers (types C) d q r) × (hs ≡ out)
  -- numbers, truths, operators and empty values
  Ann m d C q (n.Number k i) T r hs out = AtZero m k q r hs out
  Ann m d C q (n.Truth k b) T r hs out = AtZero m k q r hs out
  Ann m d C q (n.Arith k op x y) T r hs out = AtZero m k q r hs out
  Ann m d C q (n.Compare k op x y) T r hs out = AtZero m k q r hs out
  Ann m d C q (n.Not k x) T r hs out = AtZero m k q r hs out
  Ann m d C q (n.Nil k) T r hs out = AtZero m k q r hs out
  Ann m d C q (n.Leaf k) T r hs out = AtZero m k q r hs out
  Ann m d C q (n.Nothing k) T r hs out = AtZero m k q r hs out
  -- constructors
  Ann m d C q (n.Pair k x y) T r hs out = Builds m d C q k (x ∷ y ∷ []) T r hs out
  Ann m d C q (n.Cons k x y) T r hs out = Builds m d C q k (x ∷ y ∷ []) T r hs out
  Ann m d C q (n.Node k x y z) T r hs out = Builds m d C q k (x ∷ y ∷ z ∷ []) T r hs out
  Ann m d C q (n.Just k x) T r hs out = Builds m d C q k (x ∷ []) T r hs out
  Ann m d C q (n.Call k f xs) T r hs out = Pays m k 0 0 q (λ q. TakesCall hs (λ hint rest. CallRule m d C q f xs T r hint × (rest ≡ out)))
  -- the bound form, once for each tuple of the other variables, and then the rest
  Ann m d C q (n.Let k x A a b) T r hs out = Pays m k 0 0 q (λ q. TakesLet hs (λ rs rest. (between : List Hint)
      × Parts A d (λ m j s hs out. Ann m (d - degrees j) (inners a C)
      (part a C d j q) a A s hs out) m (tuples (others a C) d) rs rest between
      × Ann m d (others a C ++ (x, A) ∷ [])
      (joined (types (others a C)) A d (tuples (others a C) d) (map annotation rs)) b T r between out))
  Ann m d C q (n.Split k x y z a) T r hs out = Pays m k 0 0 q (λ q.
      Ann m d (opened x (y ∷ z ∷ []) parts_of C) (moved (opening (types C) (place x C) d) q) a T r hs out)
  Ann m d C q (n.If k x a b) T r hs out = Pays m k 0 0 q (λ q. (between : List Hint)
      × Ann m d (without x C) (moved (leaving (types C) (place x C) d) q) a T r hs between
      × Ann m d (without x C) (moved (leaving (types C) (place x C) d) q) b T r between out)
  -- In a match, the branch of the empty value gets the potential at the zero index of the subject, and the other branch that
  -- of its parts.
  Ann m d C q (n.CaseList k x a h t b) T r hs out = Pays m k 0 0 q (λ q. (between : List Hint)
      × Ann m d (without x C) (moved (leaving (types C) (place x C) d) q) a T r hs between
      × Ann m d (opened x (h ∷ t ∷ []) parts_of C) (moved (opening (types C) (place x C) d) q) b T r between out)
  Ann m d C q (n.CaseTree k x a e y z b) T r hs out = Pays m k 0 0 q (λ q. (between : List Hint)
      × Ann m d (without x C) (moved (leaving (types C) (place x C) d) q) a T r hs between
      × Ann m d (opened x (e ∷ y ∷ z ∷ []) parts_of C) (moved (opening (types C) (place x C) d) q) b T r between out)
  Ann m d C q (n.CaseOption k x a y b) T r hs out = Pays m k 0 0 q (λ q. (between : List Hint)
      × Ann m d (without x C) (moved (leaving (types C) (place x C) d) q) a T r hs between
      × Ann m d (opened x (y ∷ []) parts_of C) (moved (opening (types C) (place x C) d) q) b T r between out)
  Ann m d C q (n.Tick k i a) T r hs out = Pays m k i 0 q (λ q. Ann m d C q a T r hs out)
  -- The hint is an annotation of the context with both copies. Products of their base polynomials are sums of those of the
  -- variable, and so the old annotation covers it.
  Ann m d C q (n.Share k x y z a) T r hs out = Pays m k 0 0 q (λ q. TakesShare hs (λ p rest.
      Annotates (types (opened x (y ∷ z ∷ []) copies_of C)) d p
      × Covers (types C) d q (moved (sharing (types C) (place x C) d) (annotation p))
      × Ann m d (opened x (y ∷ z ∷ []) copies_of C) (annotation p) a T r rest out))
  Ann m d C q (n.Drop k x a) T r hs out =
      Pays m k 0 0 q (λ q. Ann m d (without x C) (moved (leaving (types C) (place x C) d) q) a T r hs out)
