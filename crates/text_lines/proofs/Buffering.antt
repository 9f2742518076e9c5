-- Lemmas about what specs/Buffered.antt defines.
use Rattle.std.specs.Prelude.{◌≡◌, ℕ, ◌+◌, min, Bool, true, false, not, List, [], ◌∷◌, ◌++◌, IsTrue, refl}
use Rattle.std.proofs.Common.{arith, length-append}
use Rattle.text_lines.specs.Buffered.{count_of}

-- one more line
pub count_more : (told : List (List ℕ)) (line : List ℕ) → min (count_of told + 1) 18446744073709551615 ≡ count_of (told ++ line ∷ [])
count_more told line = omega (arith, length-append told (line ∷ []))

pub not_not : (b : Bool) → not (not b) ≡ b
not_not true = refl
not_not false = refl

pub true_of_not : (b : Bool) → not b ≡ false → IsTrue b
true_of_not true e = refl
true_of_not false e = absurd (cc)

pub false_of_true : (b : Bool) → IsTrue (not b) → b ≡ false
false_of_true true h = absurd (cc)
false_of_true false h = refl

-- what an answer says
pub short_of : (answer long : Bool) → answer ≡ not long → answer ≡ true → long ≡ false
short_of answer true is sure = absurd (cc (is, sure))
short_of answer false is sure = refl
