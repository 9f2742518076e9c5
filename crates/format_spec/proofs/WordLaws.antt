-- Letters and an order have one answer.
use Rattle.std.specs.Prelude.{◌≡◌, ◌⊎◌, ℕ, ◌+◌, ◌≤◌, ◌<◌, ◌==◌, if◌then◌else◌, false, List, [], ◌∷◌, length, map, Option, Some, None}
use Rattle.std.specs.Prelude.{Result, Ok, Err, refl}
use Rattle.std.proofs.Common.{◌∙◌, sym, ap, subst, arith, inl, inr}
use Rattle.std.proofs.lemmas.List.{length-map}
use Rattle.std.proofs.lemmas.Bool.{cases_order}
use Rattle.level_core.specs.declared.letter.Letter.{Letter}
use Rattle.level_core.specs.declared.letter.Letter.TheVariants.{Dense, Compressed, CompressedGroups, Singleton, SingletonGroups, Hashed}
use Rattle.format_spec.specs.declared.fault.FormatFault.{FormatFault}
use Rattle.format_spec.specs.declared.fault.FormatFault.TheVariants.{BadLetter, BadLength, BadOrder, BadChain, BelowHashed}
use Rattle.format_spec.specs.Formats.{FormatLevel, IsFormat, letters_of, modes_of, Chained, InsertedBelowUnordered}
use Rattle.format_spec.specs.Words.{letter_byte, more_modes, mode_text, AreLetters, HasOrder, Answers}

-- the kind of a letter, or any where there is none
abbrev kind_named : ℕ → Letter
kind_named byte =
    if byte == 100 then Dense else if byte == 115 then Compressed else if byte == 117 then CompressedGroups
    else if byte == 113 then Singleton else if byte == 99 then SingletonGroups else Hashed

named : (kind : Letter) → kind_named (letter_byte kind) ≡ kind
named Dense = refl
named Compressed = refl
named CompressedGroups = refl
named Singleton = refl
named SingletonGroups = refl
named Hashed = refl

all_named : (kinds : List Letter) → map kind_named (map letter_byte kinds) ≡ kinds
all_named [] = refl
all_named (kind ∷ kinds) = ap (λ k. k ∷ map kind_named (map letter_byte kinds)) (named kind) ∙ ap (λ ks. kind ∷ ks) (all_named kinds)

-- letters name one list of kinds
one_list_of_kinds : (letters : List ℕ) (kinds others : List Letter) → AreLetters letters kinds → AreLetters letters others → kinds ≡ others
one_list_of_kinds letters kinds others are be = sym (all_named kinds) ∙ ap (map kind_named) (sym are ∙ be) ∙ all_named others

more_apart : (modes others : List ℕ) → more_modes modes ≡ more_modes others → modes ≡ others
more_apart [] [] h = refl
more_apart [] (other ∷ others) h = cc
more_apart (mode ∷ modes) [] h = cc
more_apart (mode ∷ modes) (other ∷ others) h =
    let digits : 48 + mode ≡ 48 + other = cc in
    let rest : more_modes modes ≡ more_modes others = cc in
    ap (λ m. m ∷ modes) (omega (arith, digits)) ∙ ap (λ ms. other ∷ ms) (more_apart modes others rest)

-- texts of different modes differ
text_apart : (modes others : List ℕ) → mode_text modes ≡ mode_text others → modes ≡ others
text_apart [] [] h = refl
text_apart [] (other ∷ others) h = cc
text_apart (mode ∷ modes) [] h = cc
text_apart (mode ∷ modes) (other ∷ others) h =
    let digits : 48 + mode ≡ 48 + other = cc in
    let rest : more_modes modes ≡ more_modes others = cc in
    ap (λ m. m ∷ modes) (omega (arith, digits)) ∙ ap (λ ms. other ∷ ms) (more_apart modes others rest)

one_order : (text : Option (List ℕ)) (n : ℕ) (modes others : List ℕ) → HasOrder text n modes → HasOrder text n others → modes ≡ others
one_order None n modes others are be = are ∙ sym be
one_order (Some text) n modes others are be = text_apart modes others (sym are.1 ∙ be.1)

-- levels are told by their kinds and modes
same_levels : (levels others : List FormatLevel) → letters_of levels ≡ letters_of others → modes_of levels ≡ modes_of others
    → levels ≡ others
same_levels [] [] h g = refl
same_levels [] (other ∷ others) h g = cc
same_levels (level ∷ levels) [] h g = cc
same_levels (level ∷ levels) (other ∷ others) h g =
    let letter : level.letter ≡ other.letter = cc in
    let mode : level.mode ≡ other.mode = cc in
    let letters : letters_of levels ≡ letters_of others = cc in
    let modes : modes_of levels ≡ modes_of others = cc in
    ap (λ l. record { letter = l; mode = level.mode } ∷ levels) letter
    ∙ ap (λ m. record { letter = other.letter; mode = m } ∷ levels) mode
    ∙ ap (λ ls. other ∷ ls) (same_levels levels others letters modes)

-- the place of a fault among those that are looked for
abbrev rank : FormatFault → ℕ
rank BadLetter = 0
rank BadLength = 1
rank BadOrder = 2
rank BadChain = 3
rank BelowHashed = 4

abbrev ranked : ℕ → FormatFault
ranked n = if n == 0 then BadLetter else if n == 1 then BadLength else if n == 2 then BadOrder else if n == 3 then BadChain else BelowHashed

ranked_back : (fault : FormatFault) → ranked (rank fault) ≡ fault
ranked_back BadLetter = refl
ranked_back BadLength = refl
ranked_back BadOrder = refl
ranked_back BadChain = refl
ranked_back BelowHashed = refl

-- how far an answer's letters and order are good
record Good (letters : List ℕ) (order : Option (List ℕ)) (n place : ℕ) : Type 0 where
  kinds : List Letter
  letters_are : AreLetters letters kinds
  count : 1 < place → length kinds ≡ n
  modes : 2 < place → (modes : List ℕ) × HasOrder order n modes
  chained : 3 < place → Chained false kinds
  inserted : 4 < place → InsertedBelowUnordered kinds

no_less : {P : Type 0} (a b : ℕ) → b ≤ a → a < b → P
no_less a b h g = absurd (omega (arith, h, g))

good_levels : (letters : List ℕ) (order : Option (List ℕ)) (n : ℕ) (levels : List FormatLevel) → Answers letters order n (Ok levels)
    → Good letters order n 5
good_levels letters order n levels x =
    record {
      kinds = letters_of levels;
      letters_are = x.0.letters_are;
      count = λ _. x.0.count;
      modes =
          λ _. (modes_of levels, x.0.modes_are);
      chained = λ _. x.1;
      inserted = λ _. x.2;
    }

good_before : (letters : List ℕ) (order : Option (List ℕ)) (n : ℕ) (fault : FormatFault) → Answers letters order n (Err fault)
    → 0 < rank fault → Good letters order n (rank fault)
good_before letters order n BadLetter x h = absurd (omega (arith, h))
good_before letters order n BadLength x h =
    record {
      kinds = x.0;
      letters_are = x.1;
      count = no_less 1 1 (omega arith);
      modes = no_less 2 1 (omega arith);
      chained =
          no_less 3 1 (omega arith);
      inserted = no_less 4 1 (omega arith);
    }
good_before letters order n BadOrder x h =
    record {
      kinds = x.0;
      letters_are = x.1;
      count = λ _. x.2;
      modes = no_less 2 2 (omega arith);
      chained =
          no_less 3 2 (omega arith);
      inserted = no_less 4 2 (omega arith);
    }
good_before letters order n BadChain x h =
    record {
      kinds = x.0;
      letters_are = x.2.letters_are;
      count = λ _. x.2.count;
      modes = λ _. (x.1, x.2.modes_are);
      chained =
          no_less 3 3 (omega arith);
      inserted = no_less 4 3 (omega arith);
    }
good_before letters order n BelowHashed x h =
    record {
      kinds = x.0;
      letters_are = x.2.letters_are;
      count = λ _. x.2.count;
      modes = λ _. (x.1, x.2.modes_are);
      chained =
          λ _. x.3;
      inserted = no_less 4 4 (omega arith);
    }

-- a fault isn't answered where more is good
not_before : (letters : List ℕ) (order : Option (List ℕ)) (n place : ℕ) (fault : FormatFault) → Answers letters order n (Err fault)
    → rank fault < place → Good letters order n place → ⊥
not_before letters order n place BadLetter x h g = x g.kinds g.letters_are
not_before letters order n place BadLength x h g = x.2 (ap length (one_list_of_kinds letters x.0 g.kinds x.1 g.letters_are) ∙ g.count h)
not_before letters order n place BadOrder x h g = let modes = g.modes h in x.3 modes.0 modes.1
not_before letters order n place BadChain x h g =
    x.3 (subst (Chained false) (one_list_of_kinds letters g.kinds x.0 g.letters_are x.2.letters_are) (g.chained h))
not_before letters order n place BelowHashed x h g =
    x.4 (subst InsertedBelowUnordered (one_list_of_kinds letters g.kinds x.0 g.letters_are x.2.letters_are) (g.inserted h))

below_five : (fault : FormatFault) → rank fault < 5
below_five BadLetter = omega arith
below_five BadLength = omega arith
below_five BadOrder = omega arith
below_five BadChain = omega arith
below_five BelowHashed = omega arith

pub one_answer : (letters : List ℕ) (order : Option (List ℕ)) (n : ℕ) (a b : Result (List FormatLevel) FormatFault)
    → Answers letters order n a → Answers letters order n b → a ≡ b
one_answer letters order n (Ok levels) (Ok others) x y =
    ap Ok (same_levels levels others (one_list_of_kinds letters (letters_of levels) (letters_of others) x.0.letters_are y.0.letters_are)
    (one_order order n (modes_of levels) (modes_of others) x.0.modes_are y.0.modes_are))
one_answer letters order n (Ok levels) (Err fault) x y =
    absurd (not_before letters order n 5 fault y (below_five fault) (good_levels letters order n levels x))
one_answer letters order n (Err fault) (Ok levels) x y =
    absurd (not_before letters order n 5 fault x (below_five fault) (good_levels letters order n levels y))
one_answer letters order n (Err fault) (Err other) x y = ap Err (by_order (cases_order (rank fault) (rank other)))
  where
    by_order : (rank fault ≡ rank other) ⊎ ((rank fault < rank other) ⊎ (rank other < rank fault)) → fault ≡ other
    by_order (inl same) = sym (ranked_back fault) ∙ ap ranked same ∙ ranked_back other
    by_order (inr (inl before)) =
        absurd (not_before letters order n (rank other) fault x before (good_before letters order n other y (omega (arith, before))))
    by_order (inr (inr after)) =
        absurd (not_before letters order n (rank fault) other y after (good_before letters order n fault x (omega (arith, after))))

-- the text of a format stands for the format
pub read_back : (levels : List FormatLevel) → IsFormat levels
    → Answers (map letter_byte (letters_of levels)) (Some (mode_text (modes_of levels))) (length levels) (Ok levels)
read_back levels format = (
  record { letters_are = refl; count = length-map levels (λ level. level.letter); modes_are = (format.order, refl) },
  format.chained,
  format.inserted,
)
