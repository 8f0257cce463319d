-- What a table of prices tells is one thing.
use Rattle.std.proofs.Common.{◌≡◌, ◌≤◌, ℕ, List, [], ◌∷◌, Result, Ok, Err, Option, Some, Bool, cond, true, false, arith}
use Rattle.std.specs.Prelude.{nat_eq}
use Rattle.raml_syntax.specs.Tree.{Text}
use Rattle.price_file.specs.declared.construct.Construct.{Construct}
use Rattle.price_file.specs.Construct.{Prices, place}
use Rattle.price_file.specs.Listed.{AreSmall, or_free}
use Rattle.price_file.specs.Spelling.{Table, Spells, SetEach, listed, prices_in}
use Rattle.price_file.specs.declared.fault.PriceFault.{PriceFault}
use Rattle.price_file.proofs.Tables.{one_answer}
use Rattle.refusal_text.specs.declared.plain.Which.TheVariants as w
use Rattle.refusals.specs.Ending.{Ending, BadPrices}
use Rattle.refusals.specs.Line.{no_names}
use Rattle.raml_promise.specs.Outside.{Sound, Complete, Store}
use Rattle.raml_promise.specs.Steps.{Answer, Step}
use Rattle.raml_promise.specs.Prices.{PricesRefuse, OfPrices}
use Rattle.raml_promise.proofs.Alike.{alike_same, Same, steps_same}
use Rattle.raml_promise.proofs.OneSource.{file_same}

-- the prices of a table that a file spells are small
small_or : (b : Bool) (n : ℕ) (o : Option ℕ) → n ≤ 1000000 → or_free o ≤ 1000000 → or_free (cond b (Some n) o) ≤ 1000000
small_or true n o small rest = small
small_or false n o small rest = rest

small_listed : (c : Construct) (lines : List Text) (table : Table) → SetEach lines table → or_free (listed table c) ≤ 1000000
small_listed c lines [] set = omega arith
small_listed c [] (entry ∷ table) set = absurd set
small_listed c (line ∷ lines) (entry ∷ table) set = small_or (nat_eq (place c) (place entry.0)) entry.1 (listed table c) set.0.most (small_listed c lines table set.1)

pub spelled_small : (bytes : Text) (table : Table) → Spells bytes table → AreSmall (prices_in table)
spelled_small bytes table spells c = small_listed c _ table spells.lines.set

module _ (bytes : List ℕ) where
  one_table : (t u : Table) → Spells bytes t → Spells bytes u → t ≡ u
  one_table t u h k = let e : ◌≡◌ {A = Result Table PriceFault} (Ok t) (Ok u) = one_answer bytes (Ok t) (Ok u) h k in cc

  refusals_same : (e f : Ending) → PricesRefuse bytes e → PricesRefuse bytes f → e ≡ f
  refusals_same (BadPrices x) (BadPrices y) h k = let e : ◌≡◌ {A = Result Table PriceFault} (Err x) (Err y) = one_answer bytes (Err x) (Err y) h k in cc
  refusals_same (BadPrices x) f h k = absurd k
  refusals_same e f h k = absurd h

  refused_or_spelled : (e : Ending) (t : Table) → PricesRefuse bytes e → Spells bytes t → ⊥
  refused_or_spelled (BadPrices x) t h k = let e : ◌≡◌ {A = Result Table PriceFault} (Err x) (Ok t) = one_answer bytes (Err x) (Ok t) h k in absurd (cc)
  refused_or_spelled e t h k = absurd h

  table_same : (Q T : Prices → Answer → Type 0) → ((prices : Prices) → AreSmall prices → (a b : Answer) → Q prices a → T prices b → Same a b) → (a b : Answer) →
      Step no_names (PricesRefuse bytes) (Spells bytes) (λ table. Q (prices_in table)) a → Step no_names (PricesRefuse bytes) (Spells bytes) (λ table. T (prices_in table)) b → Same a b
  table_same Q T rest =
      steps_same no_names no_names (PricesRefuse bytes) (PricesRefuse bytes) (Spells bytes) (Spells bytes) (λ table. Q (prices_in table)) (λ table. T (prices_in table))
      (record {
        refusals = λ e f r s. alike_same e f (refusals_same e f r s);
        not_left = refused_or_spelled;
        not_right = λ t e h s. refused_or_spelled e t s h;
        one = one_table;
      })
      (λ table h k. rest (prices_in table) (spelled_small bytes table h))

pub prices_same : (store : Store) (file : Text) (Q T : Prices → Answer → Type 0) → ((prices : Prices) → AreSmall prices → (a b : Answer) → Q prices a → T prices b → Same a b) →
    (a b : Answer) → OfPrices Complete store file Q a → OfPrices Sound store file T b → Same a b
prices_same store file Q T rest = file_same store w.Prices file _ _ (λ bytes. table_same bytes Q T rest)
