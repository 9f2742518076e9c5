-- Digits in front of a text.
use Rattle.std.specs.Prelude.{◌≡◌, ℕ, ◌<◌, true, false, List, [], ◌∷◌, ◌++◌, length, refl}
use Rattle.std.specs.Char.{is_ascii_digit}
use Rattle.std.specs.Str.{all_ascii_digits}
use Rattle.std.proofs.Common.{sym, subst, arith}
use Rattle.kernel_print.specs.ArrayNames.{BeginsWithoutDigit}
use Rattle.kernel_print.proofs.ArrayNames.{all_first}
use Rattle.kernel_read.specs.Reading.{BeginsPlain}

never : (byte : ℕ) → is_ascii_digit byte ≡ true → is_ascii_digit byte ≡ false → ⊥
never byte is_so isnt = cc

heads : (x y : ℕ) (a b : List ℕ) → x ∷ a ≡ y ∷ b → x ≡ y
heads x y a b same = cc

tails : (x y : ℕ) (a b : List ℕ) → x ∷ a ≡ y ∷ b → a ≡ b
tails x y a b same = cc

-- the digits in front of a text, with none behind them, are told by it
pub digits_same : (a b u v : List ℕ) → all_ascii_digits a ≡ true → all_ascii_digits b ≡ true → BeginsWithoutDigit u → BeginsWithoutDigit v
    → a ++ u ≡ b ++ v → (a ≡ b) × (u ≡ v)
digits_same [] [] u v all all' plain plain' same = (refl, same)
digits_same [] (y ∷ b) u v all all' plain plain' same =
    absurd (never y (all_first y b all').0 (subst BeginsWithoutDigit same plain))
digits_same (x ∷ a) [] u v all all' plain plain' same =
    absurd (never x (all_first x a all).0 (subst BeginsWithoutDigit (sym same) plain'))
digits_same (x ∷ a) (y ∷ b) u v all all' plain plain' same =
    let first = all_first x a all in
    let first' = all_first y b all' in
    let rest = digits_same a b u v first.1 first'.1 plain plain' (tails x y (a ++ u) (b ++ v) same) in
    let head : x ≡ y = heads x y (a ++ u) (b ++ v) same in
    let tail : a ≡ b = rest.0 in
    (let all_same : x ∷ a ≡ y ∷ b = cc in all_same, rest.1)

-- what begins plainly does so whatever stands behind it
pub plain_begins : (text rest : List ℕ) → BeginsPlain text → BeginsWithoutDigit (text ++ rest)
plain_begins [] rest plain = absurd plain
plain_begins (byte ∷ text) rest plain = plain

pub end_begins : (text rest : List ℕ) → BeginsWithoutDigit text → BeginsWithoutDigit rest → BeginsWithoutDigit (text ++ rest)
end_begins [] rest plain plain' = plain'
end_begins (byte ∷ text) rest plain plain' = plain

pub plain_starts : (text more rest : List ℕ) → BeginsPlain text → BeginsWithoutDigit ((text ++ more) ++ rest)
plain_starts [] more rest plain = absurd plain
plain_starts (byte ∷ text) more rest plain = plain

-- what begins plainly isn't nothing, and nothing or plain
pub plain_end : (text : List ℕ) → BeginsPlain text → BeginsWithoutDigit text
plain_end [] plain = tt
plain_end (byte ∷ text) plain = plain

pub plain_some : (text : List ℕ) → BeginsPlain text → 0 < length text
plain_some [] plain = absurd plain
plain_some (byte ∷ text) plain = omega arith
