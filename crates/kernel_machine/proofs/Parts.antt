-- What is left of a level are its words.
use Rattle.std.specs.Prelude.{◌≡◌, ℕ, if◌then◌else◌, List, Option, Some, None}
use Rattle.std.specs.Prelude.{option_map, refl}
use Rattle.std.proofs.Common.{◌∙◌, sym, ap}
use Rattle.std.proofs.lemmas.Option.{same_Some}
use Rattle.kernel_code.specs.declared.syntax.Arr.{Arr}
use Rattle.kernel_code.specs.declared.syntax.Arr.TheVariants.{Ends, Coordinates, Width}
use Rattle.level_core.specs.declared.arrays.LevelArray.TheVariants.{Ends as OfEnds, Width as OfWidth}
use Rattle.level_core.specs.declared.arrays.LevelArray.TheVariants.{Coordinates as OfCoordinates}
use Rattle.level_core.specs.Fragments.{IsOf}
use Rattle.level_core.specs.Logs.{running}
use Rattle.level_core.specs.Meaning.{Arrays}
use Rattle.lists.proofs.Tests.{number_same}
use Rattle.tensor_storage.specs.declared.level.StorageLevel.{StorageLevel}
use Rattle.tensor_storage.specs.declared.words.LevelWords.{LevelWords}
use Rattle.tensor_storage.specs.Handed.{IsHandedOver}
use Rattle.tensor_storage.specs.Levels.{meaning}
use Rattle.tensor_storage.proofs.Handed.{held_words}
use Rattle.kernel_correctness.specs.Results.{summed}
use Rattle.kernel_machine.specs.Runs.{WordsLeft}

-- what is left of a level depends on its arrays alone
pub left_same : (level : ℕ) (words : LevelWords) (a b : Arrays) → ((x : Arr) → IsOf 0 level x → b x ≡ a x)
    → WordsLeft level words a → WordsLeft level words b
left_same level words a b same h = record {
  ends = λ xs is. h.ends xs (sym (same (Ends 0 level) (refl, refl)) ∙ is);
  width = λ xs is. h.width xs (sym (same (Width 0 level) (refl, refl)) ∙ is);
  coordinates = λ xs is. h.coordinates xs (sym (same (Coordinates 0 level) (refl, refl)) ∙ is);
}

-- the numbers of positions of the result's levels are summed up
ends_summed : (a : Arrays) (level : ℕ) → summed a (Ends 0 level) ≡ option_map (running 0) (a (Ends 0 level))
ends_summed a level = ap (λ t. if t then option_map (running 0) (a (Ends 0 level)) else a (Ends 0 level)) (number_same 0)

sums_left : (o : Option (List ℕ)) (numbers xs : List ℕ) → ((ys : List ℕ) → o ≡ Some ys → ys ≡ numbers)
    → option_map (running 0) o ≡ Some xs → xs ≡ running 0 numbers
sums_left None numbers xs left is = absurd (cc)
sums_left (Some ys) numbers xs left is = sym (same_Some (running 0 ys) xs is) ∙ ap (running 0) (left ys refl)

-- a level that the arrays hold, once the numbers of positions are summed up, has the words that are left of it
pub words_left : (l : StorageLevel) (level parents : ℕ) (words : LevelWords) (a : Arrays) → meaning.holds l 0 level (summed a)
    → meaning.has_parents l parents → WordsLeft level words a → IsHandedOver (meaning.kind l) (meaning.size l) parents words l
words_left l level parents words a held has left = record {
  kind = refl;
  size_is = refl;
  has_parents = has;
  words_are = record {
    ends = λ xs is.
        sums_left (a (Ends 0 level)) words.ends.items xs left.ends
        (sym (ends_summed a level) ∙ held_words l 0 level (summed a) held OfEnds xs is);
    width = λ xs is. left.width xs (held_words l 0 level (summed a) held OfWidth xs is);
    coordinates = λ xs is. left.coordinates xs (held_words l 0 level (summed a) held OfCoordinates xs is);
  };
}
