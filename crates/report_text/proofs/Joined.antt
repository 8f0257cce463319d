-- Texts that are appended one after the other.
use Rattle.std.proofs.Common.{◌≡◌, ℕ, List, ◌++◌, arith}
use Rattle.std.proofs.lemmas.Grind.{common_steps}
use Rattle.std.specs.Prelude.{if◌then◌else◌, is_ok, OnOk}
use Rattle.std.specs.declared.result.Result.{Result}
use Rattle.std.specs.declared.result.Result.TheVariants.{Ok, Err}

-- two words with numbers, and an end
pub two_and_end : (t u v w a m b n e : List ℕ) → u ≡ t ++ a ++ m → v ≡ u ++ b ++ n → w ≡ v ++ e → w ≡ t ++ (a ++ m ++ b ++ n ++ e)
two_and_end t u v w a m b n e f g h = grind (arith, common_steps)

-- two words with numbers, and three more
pub two_and_three : (t u v w x y a m b n c d e : List ℕ) → u ≡ t ++ a ++ m → v ≡ u ++ b ++ n → w ≡ v ++ c → x ≡ w ++ d → y ≡ x ++ e →
    y ≡ t ++ (a ++ m ++ b ++ n ++ c ++ d ++ e)
two_and_three t u v w x y a m b n c d e f g h i j = grind (arith, common_steps)

-- what holds after the last text was appended
pub at_end : {X E : Type 0} (r : Result X E) (v w e : List ℕ) (P : Type 0) → w ≡ (if is_ok r then v ++ e else v) → (w ≡ v ++ e → P) → OnOk r P
at_end (Ok x) v w e P h go = go h
at_end (Err x) v w e P h go = tt
