-- Where levels stand for a table, none has more positions than may be.
use Rattle.std.specs.Prelude.{◌≡◌, ℕ, zero, suc, ◌+◌, ◌≤◌, ◌<◌, Bool, true, false, if◌then◌else◌, List, [], ◌∷◌, refl}
use Rattle.std.proofs.Common.{sym, ap, subst, arith}
use Rattle.std.proofs.lemmas.List.Elements.{All-nil, All-cons}
use Rattle.limits.specs.Limits.{greatest_position_count}
use Rattle.level_core.specs.declared.letter.Letter.{Letter}
use Rattle.level_core.specs.Entries.{one}
use Rattle.level_core.specs.Kinds.{capabilities, positions_for}
use Rattle.level_core.proofs.KindLaws.{no_positions}
use Rattle.level_rows.specs.Stacks.{Column}
use Rattle.level_rows.proofs.StackLaws.{place_within}
use Rattle.tensor_storage.specs.Built.{counts_of, IsBuilt, AreBuilt}
use Rattle.tensor_storage.specs.Chains.{chain_length}
use Rattle.tensor_storage.specs.Counts.{different, greatest_below, positions_at, positions_from, AreFew}
use Rattle.tensor_storage.specs.declared.level.StorageLevel.{StorageLevel}
use Rattle.tensor_storage.specs.Levels.{meaning}
use Rattle.tensor_storage.specs.Laws.{laws}
use Rattle.tensor_storage.specs.Tables.{Table}
use Rattle.tensor_storage.specs.Standing.{StandingAreFew}

heads : (x y : ℕ) (xs ys : List ℕ) → x ∷ xs ≡ y ∷ ys → x ≡ y
heads x y xs ys h = cc

tails : (x y : ℕ) (xs ys : List ℕ) → x ∷ xs ≡ y ∷ ys → xs ≡ ys
tails x y xs ys h = cc

no_rows : (count : ℕ) (parent : ℕ → ℕ) → ((i : ℕ) → i < count → parent i < 0) → count ≡ 0
no_rows zero parent within = refl
no_rows (suc n) parent within = let first = within 0 (omega arith) in absurd (omega (arith, first))

-- without rows and parents there are no positions
pub none_at : (table : Table) (d : ℕ) (letter : Letter) (letters : List Letter) (size : ℕ) → table.count ≡ 0
    → positions_at table d 0 letter letters size ≡ 0
none_at table d letter letters size none = by_append (capabilities letter).append
  where
    by_append : (append : Bool) → (if append then different table.coords (d + chain_length (letter ∷ letters)) table.count
        else positions_for letter size 0 (greatest_below table.coords d table.count table.count)) ≡ 0
    by_append true = ap (different table.coords (d + chain_length (letter ∷ letters))) none
    by_append false = no_positions letter size (greatest_below table.coords d table.count table.count)

module _ (table : Table) where
  -- the positions of a level are few
  few_at : (l : StorageLevel) (d n : ℕ) (parent : ℕ → ℕ) (parents : ℕ) (column : Column) (letter : Letter) (letters : List Letter)
      (size : ℕ) → IsBuilt meaning table d n parent parents column l → column.positions ≡ positions_at table d parents letter letters size
      → ((i : ℕ) → i < table.count → parent i < parents) → column.positions ≤ greatest_position_count
  few_at l d n parent zero column letter letters size built is within =
      let none = none_at table d letter letters size (no_rows table.count parent within) in omega (arith, is, none)
  few_at l d n parent (suc last) column letter letters size built is within =
      let ends = built.stores.ends last (omega arith) in
      let each = (laws.entries l (one last) (laws.parents l (suc last) last built.stores.has_parents (omega arith))).positions in
      omega (arith, ends, each)

  few_from : (letters : List Letter) (sizes : List ℕ) (ls : List StorageLevel) (cs : List Column) (d : ℕ) (parent : ℕ → ℕ) (parents : ℕ)
      → AreBuilt meaning table d parent parents letters ls cs → counts_of cs ≡ positions_from table d parents letters sizes
      → ((i : ℕ) → i < table.count → parent i < parents) → AreFew (counts_of cs)
  few_from letters sizes [] [] d parent parents built counts within = All-nil (λ count. count ≤ greatest_position_count)
  few_from letters sizes [] (c ∷ cs) d parent parents built counts within = absurd built
  few_from letters sizes (l ∷ ls) [] d parent parents built counts within = absurd built
  few_from [] sizes (l ∷ ls) (c ∷ cs) d parent parents built counts within = absurd built
  few_from (letter ∷ letters) [] (l ∷ ls) (c ∷ cs) d parent parents built counts within = absurd (cc)
  few_from (letter ∷ letters) (size ∷ sizes) (l ∷ ls) (c ∷ cs) d parent parents built counts within =
      let n : ℕ = d + chain_length (letter ∷ letters) in
      let positions : ℕ = positions_at table d parents letter letters size in
      let rest : List ℕ = positions_from table (suc d) positions letters sizes in
      let is : c.positions ≡ positions = heads c.positions positions (counts_of cs) rest counts in
      let others : counts_of cs ≡ rest = tails c.positions positions (counts_of cs) rest counts in
      All-cons (λ count. count ≤ greatest_position_count) c.positions (counts_of cs)
      (few_at l d n parent parents c letter letters size built.0 is within)
      (few_from letters sizes ls cs (suc d) c.place c.positions built.1
      (subst (λ (k : ℕ). counts_of cs ≡ positions_from table (suc d) k letters sizes) (sym is) others)
      (place_within meaning laws table.count l c parent parents built.0.stores within))

pub standing_are_few : StandingAreFew
standing_are_few filler letters sizes table levels values s =
    subst AreFew s.counted (few_from table letters sizes levels s.columns 0 (λ i. 0) 1 s.built s.counted (λ i h. omega arith))
