-- The levels of packed tensors are finished.
use Rattle.std.specs.Prelude.{◌≡◌, ℕ, zero, suc, ◌+◌, ◌<◌, List, [], ◌∷◌, Some, refl}
use Rattle.std.proofs.Common.{◌∙◌, sym, ap, subst, arith}
use Rattle.level_core.specs.declared.letter.Letter.{Letter}
use Rattle.level_rows.specs.Stacks.{Column}
use Rattle.level_rows.proofs.StackLaws.{place_within}
use Rattle.format_spec.specs.Formats.{letters_of}
use Rattle.tensor_storage.specs.Built.{counts_of, IsBuilt, AreBuilt}
use Rattle.tensor_storage.specs.Chains.{chain_length}
use Rattle.tensor_storage.specs.Counts.{positions_at, positions_from}
use Rattle.tensor_storage.specs.declared.level.StorageLevel.{StorageLevel}
use Rattle.tensor_storage.specs.Levels.{meaning}
use Rattle.tensor_storage.specs.Laws.{laws}
use Rattle.tensor_storage.specs.Storages.{in_level_order}
use Rattle.tensor_storage.specs.Tables.{Table}
use Rattle.tensor_storage.proofs.Few.{none_at}
use Rattle.storage_arrays.specs.Arrays.{positions_in, AreDone}
use Rattle.storage_arrays.specs.Done.{PackedAreDone}

pub heads : (x y : ℕ) (xs ys : List ℕ) → x ∷ xs ≡ y ∷ ys → x ≡ y
heads x y xs ys h = cc

pub tails : (x y : ℕ) (xs ys : List ℕ) → x ∷ xs ≡ y ∷ ys → xs ≡ ys
tails x y xs ys h = cc

no_rows : (count : ℕ) (parent : ℕ → ℕ) (parents : ℕ) → parents ≡ 0 → ((i : ℕ) → i < count → parent i < parents) → count ≡ 0
no_rows zero parent parents none within = refl
no_rows (suc n) parent parents none within = let first = within 0 (omega arith) in absurd (omega (arith, first, none))

module _ (table : Table) where
  pub positions_same : (l : StorageLevel) (d n : ℕ) (parent : ℕ → ℕ) (parents : ℕ) (column : Column) (letter : Letter)
      (letters : List Letter)
      (size : ℕ) → IsBuilt meaning table d n parent parents column l → column.positions ≡ positions_at table d parents letter letters size
      → ((i : ℕ) → i < table.count → parent i < parents) → column.positions ≡ positions_in parents l
  positions_same l d n parent zero column letter letters size built is within =
      is ∙ none_at table d letter letters size (no_rows table.count parent 0 refl within)
      ∙ sym (laws.none_without l built.stores.has_parents)
  positions_same l d n parent (suc last) column letter letters size built is within =
      let more : last + 1 ≡ suc last = omega arith in
      sym (built.stores.ends last more) ∙ laws.last_end l (suc last) last built.stores.has_parents more

  done_from : (letters : List Letter) (sizes : List ℕ) (ls : List StorageLevel) (cs : List Column) (d : ℕ) (parent : ℕ → ℕ) (parents : ℕ)
      → AreBuilt meaning table d parent parents letters ls cs → counts_of cs ≡ positions_from table d parents letters sizes
      → ((i : ℕ) → i < table.count → parent i < parents) → AreDone parents ls
  done_from letters sizes [] cs d parent parents built counts within = tt
  done_from letters sizes (l ∷ ls) [] d parent parents built counts within = absurd built
  done_from [] sizes (l ∷ ls) (c ∷ cs) d parent parents built counts within = absurd built
  done_from (letter ∷ letters) [] (l ∷ ls) (c ∷ cs) d parent parents built counts within = absurd (cc)
  done_from (letter ∷ letters) (size ∷ sizes) (l ∷ ls) (c ∷ cs) d parent parents built counts within =
      let n : ℕ = d + chain_length (letter ∷ letters) in
      let positions : ℕ = positions_at table d parents letter letters size in
      let rest : List ℕ = positions_from table (suc d) positions letters sizes in
      let is : c.positions ≡ positions = heads c.positions positions (counts_of cs) rest counts in
      let others : counts_of cs ≡ rest = tails c.positions positions (counts_of cs) rest counts in
      let same = positions_same l d n parent parents c letter letters size built.0 is within in (
        built.0.stores.has_parents,
        subst (λ (k : ℕ). AreDone k ls) same
            (done_from letters sizes ls cs (suc d) c.place c.positions built.1
            (subst (λ (k : ℕ). counts_of cs ≡ positions_from table (suc d) k letters sizes) (sym is) others)
            (place_within meaning laws table.count l c parent parents built.0.stores within)),
      )

pub packed_are_done : PackedAreDone
packed_are_done filler format ranges table storage packed =
    done_from table (letters_of format) (in_level_order format ranges) storage.levels packed.stands.columns 0 (λ i. 0) 1
    packed.stands.built packed.stands.counted (λ i h. omega arith)
