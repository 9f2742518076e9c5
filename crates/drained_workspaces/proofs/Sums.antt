-- Rows of words have one row of sums.
use Rattle.std.specs.Prelude.{◌≡◌, ℕ, zero, suc, ◌<◌, ◌^◌, List, [], ◌∷◌, length, slice_index_or}
use Rattle.std.proofs.Common.{◌∙◌, sym, arith}
use Rattle.numbers.specs.Arithmetic.{Arithmetic, Laws}
use Rattle.tensor_map.specs.Entries.{Entry, value_at}
use Rattle.tensor_map.proofs.Lemmas.{value_of_entry}
use Rattle.workspaces.specs.Workspaces.{AreSums}
use Rattle.workspaces.proofs.SumsOfPairs.{same_rows}
use Rattle.drained_workspaces.specs.Draining.{AreWords}

word_at : (rows : List Entry) (n : ℕ) (d : Entry) → AreWords rows → n < length rows → (slice_index_or rows n d).value < 2 ^ 64
word_at [] n d each h = absurd (omega (arith, h))
word_at (row ∷ rows) zero d each h = each.0
word_at (row ∷ rows) (suc n) d each h = word_at rows n d each.1 (omega (arith, h))

-- each sum has the value of the rows at its coordinates
value_in : (a : Arithmetic) → Laws a → (rows sums : List Entry) → AreWords sums → AreSums a rows sums → (n : ℕ) (d : Entry)
    → n < length sums → (slice_index_or sums n d).value ≡ value_at a rows (slice_index_or sums n d).coords
value_in a laws rows sums words are n d h =
    sym (value_of_entry a laws sums n d are.increasing h (word_at sums n d words h)) ∙ are.values (slice_index_or sums n d).coords

pub one_row_of_words : (a : Arithmetic) → Laws a → (rows sums others : List Entry) → AreWords sums → AreWords others → AreSums a rows sums
    → AreSums a rows others → sums ≡ others
one_row_of_words a laws rows sums others words words' are are' =
    same_rows sums others are.increasing are'.increasing
    (λ coords. (λ h. (are'.listed coords).1 ((are.listed coords).0 h), λ h. (are.listed coords).1 ((are'.listed coords).0 h)))
    (value_at a rows) (value_in a laws rows sums words are) (value_in a laws rows others words' are')
