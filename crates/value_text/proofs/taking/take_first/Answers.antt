use Rattle.std.proofs.Common.{[], refl, sym, ap, subst, ◌∙◌, arith}
use Rattle.raml_syntax.specs.Read.{ty_of}
use Rattle.value_text.specs.declared.word.Word.TheVariants as w
use Rattle.value_text.specs.Spelling.{sizes}
use Rattle.value_text.specs.Tokens.{token_of}
use Rattle.value_text.specs.State.{goals_in, AllBelow}
use Rattle.value_text.proofs.States.{goals_snoc, below_snoc}
use Rattle.value_text.proofs.Takings.{first_ended}
use Rattle.value_text.proofs.Returned.{empty_put, first_if}
use Rattle.value_text.proofs.taking.take_first.Goals as goal

pub returns-then-is_sign-clause-taken : goal.returns-then-is_sign-clause-taken
returns-then-is_sign-clause-taken c = λ hs.
    first_ended (ty_of c.args.ty.now) c.args.level (token_of c.args.token) _ _ _ _ c.if-is_sign.ensures c.requires.level c.requires.fits refl (empty_put hs c.args.words.now.items c.push.new.self.items c.in_ok-push.ensures.items)

pub returns-then-is_sign-clause-below : goal.returns-then-is_sign-clause-below
returns-then-is_sign-clause-below c = λ n h. subst (AllBelow n) (sym c.in_ok-push.ensures.items) (below_snoc n c.args.words.now.items w.Empty h tt)

pub returns-then-is_sign-clause-count : goal.returns-then-is_sign-clause-count
returns-then-is_sign-clause-count c = λ e hs. (let z = ap sizes (empty_put hs c.args.words.now.items c.push.new.self.items c.in_ok-push.ensures.items) in omega (arith, z))

pub returns-clause-taken : goal.returns-clause-taken
returns-clause-taken c =
    first_if (ty_of c.args.ty.now) (token_of c.args.token) c.args.goals.now.items c.take_value.new.goals.items c.args.words.now.items c.take_value.new.words.items c.take_value.result c.args.level _ c.push-2.new.self.items (omega arith)
    (ap (λ l. goals_in l []) c.in_ok-push-2.ensures.items ∙ goals_snoc c.args.goals.now.items _ [])
    c.requires.sane c.if-is_sign.ensures c.requires.level c.requires.fits c.take_value.ensures.verdict c.take_value.ensures.goals c.take_value.ensures.values
