-- What is read is in its range.
use Rattle.std.proofs.Common.{◌≡◌, ◌≤◌, ℕ, Bool, true, false, cond, List, Option, Some, None, IfSome, refl, arith, subst, ap}
use Rattle.std.proofs.lemmas.Bool.{and_parts, leb-true}
use Rattle.std.specs.Prelude.{◌^◌, ◌&&◌, nat_le, option_and_then, option_map, codes}
use Rattle.std.specs.Str.Parse.{digits_value}
use Rattle.clap.specs.Simple.{subcommand_of}
use Rattle.explain_commands.specs.Apps.{app}
use Rattle.clap.specs.Walk.{Text, Row, first_of}
use Rattle.explain_words.specs.Asking.{Command, OfCheck, OfBounds, OfBudget, OfVerify, OfWhy, OfPlot, OfProfile, OfLsp, command_named, MeansBy, Means}
use Rattle.explain_words.specs.Commands.{AreBounds, AreBudget, AreLsp, ArePlot, AreWhy, Keep, Write, degree_or_4, optional, values, AreProfile}
use Rattle.explain_words.specs.Laws.{IsDegree, AreInRange, IsInRange, AskedIsInRange}
use Rattle.explain_words.specs.Spelled.{degree_in, is_numeral, meter_named, number_in, ranged, within_in, within_of, cut_at}
use Rattle.explain_words.specs.declared.request.Request.{Request}
use Rattle.explain_words.specs.declared.request.Request.TheVariants.{Check, CheckData, Bounds, Budget, WriteBudget, Verify, Why, Plot, Profile, Lsp}
use Rattle.explain_words.specs.declared.request.bounds.BoundsWords.{BoundsWords}
use Rattle.explain_words.specs.declared.request.why.WhyWords.{WhyWords}
use Rattle.explain_words.specs.declared.within.Meter.{Meter}
use Rattle.explain_words.specs.declared.within.Within.{Within}

some_if : (b : Bool) (v n : ℕ) → cond b (Some v) None ≡ Some n → (b ≡ true) × (v ≡ n)
some_if true v n is = let e : v ≡ n = cc is in (refl, e)
some_if false v n is = absurd (cc is)

-- a number that is read is in its range
in_range : (digits least most : ℕ) (word : Text) (n : ℕ) → number_in digits least most word ≡ Some n → (least ≤ n) × (n ≤ most)
in_range digits least most word n is = by (is_numeral digits word) is
  where
    v : ℕ
    v = digits_value 10 word

    by : (b : Bool) → cond b (ranged least most v) None ≡ Some n → (least ≤ n) × (n ≤ most)
    by true e =
        let found = some_if (nat_le least v && nat_le v most) v n e in
        let within = and_parts (nat_le least v) (nat_le v most) found.0 in
        subst (λ n. (least ≤ n) × (n ≤ most)) found.1 (leb-true least v within.0, leb-true v most within.1)
    by false e = absurd (cc e)

degree_in_range : (word : Option Text) (degree : ℕ) → degree_or_4 word ≡ Some degree → (1 ≤ degree) × (degree ≤ 4)
degree_in_range None degree is = let e : 4 ≡ degree = cc is in subst (λ n. (1 ≤ n) × (n ≤ 4)) e (omega arith, omega arith)
degree_in_range (Some word) degree is = in_range 1 1 4 word degree is

optional_in_range : (word : Option Text) (degree : Option ℕ) → optional degree_in word ≡ Some degree → IfSome degree IsDegree
optional_in_range word None is = tt
optional_in_range None (Some degree) is = absurd (cc is)
optional_in_range (Some word) (Some degree) is = in_range 1 1 4 word degree (unmapped (degree_in word) is)
  where
    unmapped : (read : Option ℕ) → option_map Some read ≡ Some (Some degree) → read ≡ Some degree
    unmapped None is = absurd (cc is)
    unmapped (Some other) is = cc is

most_of : (meter : Option Meter) (most : Option ℕ) (within : Within) → within_of meter most ≡ Some within → most ≡ Some within.most
most_of (Some meter) (Some most) within is =
    let e : record { meter = meter; most = most } ≡ within = cc is in
    ap (λ (within : Within). Some within.most) e
most_of (Some meter) None within is = absurd (cc is)
most_of None (Some most) within is = absurd (cc is)
most_of None None within is = absurd (cc is)

within_in_range : (word : Option Text) (within : Option Within) → optional within_in word ≡ Some within → IfSome within (λ within. within.most ≤ 2 ^ 127)
within_in_range word None is = tt
within_in_range None (Some within) is = absurd (cc is)
within_in_range (Some word) (Some within) is = in_parts (cut_at 61 word) (unmapped (within_in word) is)
  where
    unmapped : (read : Option Within) → option_map Some read ≡ Some (Some within) → read ≡ Some within
    unmapped None is = absurd (cc is)
    unmapped (Some other) is = cc is

    in_parts : (parts : Option (Text × Text)) →
        option_and_then (λ parts. within_of (meter_named parts.0) (number_in 39 0 (2 ^ 127) parts.1)) parts ≡ Some within → within.most ≤ 2 ^ 127
    in_parts None is = absurd (cc is)
    in_parts (Some parts) is = (in_range 39 0 (2 ^ 127) parts.1 within.most (most_of (meter_named parts.0) (number_in 39 0 (2 ^ 127) parts.1) within is)).1

bounds_are_in_range : (rows : List Row) (words : BoundsWords) → AreBounds rows words → AreInRange words
bounds_are_in_range rows words are = let degree = degree_in_range (first_of (codes "degree") rows) words.degree are.degree in record {
  least = degree.0;
  most = degree.1;
  within = within_in_range (first_of (codes "within") rows) words.within are.within;
}

meant_is_in_range : (command : Option Command) (rows : List Row) (request : Request) → MeansBy command rows request → IsInRange request
meant_is_in_range command rows (Check names) means = tt
meant_is_in_range command rows (CheckData file name input) means = tt
meant_is_in_range command rows (Verify file certificate) means = tt
meant_is_in_range (Some OfBounds) rows (Bounds asked) means = bounds_are_in_range rows asked means
meant_is_in_range (Some OfBudget) rows (Budget file bounds degree json) means =
    let are : AreBudget rows file.now degree (Keep bounds.now json) = means in
    optional_in_range (first_of (codes "degree") rows) degree are.degree
meant_is_in_range (Some OfBudget) rows (WriteBudget file bounds degree force) means =
    let are : AreBudget rows file.now degree (Write bounds.now force) = means in
    optional_in_range (first_of (codes "degree") rows) degree are.degree
meant_is_in_range (Some OfWhy) rows (Why asked) means =
    let are : AreWhy rows asked = means in
    degree_in_range (first_of (codes "degree") rows) asked.degree are.degree
meant_is_in_range (Some OfPlot) rows (Plot asked) means =
    let are : ArePlot rows (values (codes "data") rows) asked = means in
    degree_in_range (first_of (codes "degree") rows) asked.degree are.degree
meant_is_in_range (Some OfProfile) rows (Profile asked) means =
    let are : AreProfile rows asked = means in
    degree_in_range (first_of (codes "degree") rows) asked.degree are.degree
meant_is_in_range (Some OfLsp) rows (Lsp asked) means =
    let are : AreLsp rows asked = means in
    degree_in_range (first_of (codes "degree") rows) asked.degree are.degree
meant_is_in_range command rows request means = absurd means

pub asked_is_in_range : AskedIsInRange
asked_is_in_range words request asks = by (subcommand_of app words) asks.1
  where
    by : (found : Option (Text × List Row)) → Means found request → IsInRange request
    by (Some command) means = meant_is_in_range (command_named command.0) command.1 request means
    by None means = absurd means
