-- The arrays of a result whose rows are appended and whose levels are ended are a storage that stands for the sums of the rows.
use Rattle.std.specs.Prelude.{◌≡◌, ℕ, List, ◌++◌, length, map, replicate, refl}
use Rattle.std.proofs.Common.{◌∙◌, sym, ap, subst, arith}
use Rattle.std.proofs.lemmas.List.{append-nil, drop_all, length-map}
use Rattle.lists.specs.Each.{Each}
use Rattle.numbers.specs.Arithmetic.{Arithmetic, Laws}
use Rattle.kernel_code.specs.Meaning.{State}
use Rattle.tensor_map.specs.Entries.{Entry}
use Rattle.level_core.specs.declared.letter.Letter.{Letter}
use Rattle.level_rows.specs.Tables.{Increase}
use Rattle.format_spec.specs.declared.format.FormatLevel.{FormatLevel}
use Rattle.format_spec.specs.Formats.{letters_of}
use Rattle.concrete_notation.specs.Contributions.{sums_of}
use Rattle.tensor_storage.specs.Levels.{meaning}
use Rattle.tensor_storage.specs.Packed.{ArePacked}
use Rattle.tensor_storage.specs.Stands.{IsPacked}
use Rattle.tensor_storage.specs.Storages.{IsStorage, storage_of, in_level_order}
use Rattle.tensor_storage.proofs.Standing.{pack_done}
use Rattle.kernel_correctness.specs.Stores.{Store}
use Rattle.level_appends.proofs.Matched.{Matches}
use Rattle.sparse_results.specs.Stored.{StandForRows}
use Rattle.sparse_results.specs.Tables.{table_of, IsRow}
use Rattle.appended_results.specs.Heads.{key_in}
use Rattle.appended_results.specs.Rows.{all_positions}
use Rattle.appended_results.specs.Results.{HoldsRows}
use Rattle.appended_results.specs.Ends.{Ending}
use Rattle.appended_kernels.specs.Ended.{AreRowsFor, EndedStands}
use Rattle.appended_kernels.proofs.Levels.{Packed, all_packed}
use Rattle.appended_kernels.proofs.Names.{sums_named}
use Rattle.appended_kernels.proofs.Values.{sums_stored}

module _ (a : Arithmetic) (laws : Laws a) (store : Store) (rows : List Entry) (are : AreRowsFor a store rows)
    (head base free nothing : ℕ) (s t : State)
    (h : HoldsRows a (letters_of store.format) (in_level_order store.format store.ranges) head base nothing rows s)
    (e : Ending (letters_of store.format) (in_level_order store.format store.ranges) h.heads base free (length (letters_of store.format))
    s t) where
  abbrev letters : List Letter
  letters = letters_of store.format

  abbrev sums : List Entry
  sums = sums_of a rows

  many : length (letters_of store.format) ≡ length store.format
  many = length-map store.format (λ (level : FormatLevel). level.letter)

  each_row : Each (IsRow (length (letters_of store.format))) rows
  each_row = subst (λ n. Each (IsRow n) rows) (sym many) are.each

  rises : Increase (table_of (sums_of a rows)).coords (length (letters_of store.format)) (length (sums_of a rows))
  rises = subst (λ n. Increase (table_of (sums_of a rows)).coords n (length (sums_of a rows))) (sym many) are.order

  named : (to : ℕ → ℕ)
      × Matches head (key_in h.heads) (length h.heads) (table_of (sums_of a rows)).coords (length (sums_of a rows)) to
  named =
      sums_named a (length (letters_of store.format)) rows each_row head h.heads h.are h.may.is_head.within rises

  module _ (to : ℕ → ℕ)
      (matches : Matches head (key_in h.heads) (length h.heads) (table_of (sums_of a rows)).coords (length (sums_of a rows)) to) where
    all : Packed store.format store.ranges are.format head h.heads h.may h.holds.few (table_of (sums_of a rows)) to matches are.order
        are.below t e.above (length (letters_of store.format))
    all =
        all_packed store.format store.ranges are.format head h.heads h.may h.holds.few (table_of (sums_of a rows)) to matches are.order
        are.below t e.above

    packed : ArePacked meaning (letters_of store.format) (in_level_order store.format store.ranges) (table_of (sums_of a rows))
        (length store.format) all.levels all.positions
        (all_positions (letters_of store.format) (in_level_order store.format store.ranges) h.heads)
    packed =
        subst (λ n. ArePacked meaning (letters_of store.format) (in_level_order store.format store.ranges) (table_of (sums_of a rows))
        n all.levels all.positions
        (all_positions (letters_of store.format) (in_level_order store.format store.ranges) h.heads)) many all.packed

    done : IsPacked a.zero store.format store.ranges (table_of (sums_of a rows)) (storage_of store.format all.levels h.words)
        × IsStorage (storage_of store.format all.levels h.words)
    done =
        pack_done a.zero store.format store.ranges (table_of (sums_of a rows)) all.levels all.positions all.positions
        (all_positions (letters_of store.format) (in_level_order store.format store.ranges) h.heads)
        (replicate (all_positions (letters_of store.format) (in_level_order store.format store.ranges) h.heads) a.zero) h.words h.words
        are.format are.order packed refl refl
        (sums_stored a laws (letters_of store.format) (in_level_order store.format store.ranges) head h.heads rows h.words h.may h.are
        each_row rises are.below to matches h.sums all.positions all.at)
        refl

    stand : StandForRows a store (sums_of a rows) t.arrays
    stand = record {
      levels = all.levels;
      words = h.words;
      is_left = record { held = all.held; values_held = e.values ∙ h.held };
      letters = sym (append-nil (map meaning.kind all.levels))
          ∙ ap (λ ls. map meaning.kind all.levels ++ ls)
          (sym (drop_all (length (letters_of store.format)) (letters_of store.format) (omega arith))) ∙ all.packed.kinds;
      packed = done.0;
    }

  pub stands : StandForRows a store (sums_of a rows) t.arrays
  stands = stand named.0 named.1

pub ended_stands : EndedStands
ended_stands a laws store rows are head base free nothing s t h e = stands a laws store rows are head base free nothing s t h e
