-- What the arrays of a dense result hold as a run starts.
use Rattle.std.specs.Prelude.{◌≡◌, ℕ, suc, ◌*◌, ◌<◌, ◌≤◌, List, [], ◌∷◌, length, Some, slice_index, replicate, All}
use Rattle.std.proofs.Common.{◌∙◌, sym, ap, subst, arith}
use Rattle.std.proofs.lemmas.List.{length-replicate}
use Rattle.limits.specs.Limits.{greatest_position_count}
use Rattle.limits.proofs.Limits.{some_positions}
use Rattle.numbers.specs.Arithmetic.{Arithmetic}
use Rattle.kernel_code.specs.declared.syntax.Arr.TheVariants.{Values}
use Rattle.level_core.specs.Kinds.{properties, parents_below}
use Rattle.level_core.specs.Meaning.{Arrays}
use Rattle.format_spec.specs.declared.format.FormatLevel.{FormatLevel}
use Rattle.format_spec.specs.Formats.{letters_of, modes_of}
use Rattle.concrete_notation.specs.Workspaces.{AreAllDense}
use Rattle.index_notation.specs.declared.syntax.Statement.{Statement}
use Rattle.tensor_storage.specs.Storages.{in_level_order}
use Rattle.tensor_storage.proofs.PackSteps.{all_same}
use Rattle.tns_io.specs.Positions.{product, IsBelow, position}
use Rattle.tns_io.proofs.PositionLaws.{position_below}
use Rattle.term_code.specs.DenseSinks.{HasSizes, HoldsSums, by_level, place}
use Rattle.kernel_correctness.specs.Stores.{Store, IsGiven, StartsBelow}
use Rattle.dense_results.specs.Results.{left_ranges, IsDenseStore, StartsWithoutRows}
use Rattle.dense_results.proofs.DenseLevels.{first_dense, others_dense, parents_dense, product_few}
use Rattle.dense_results.proofs.Modes.{level_numbers, ranges_same, ranges_many}
use Rattle.dense_results.proofs.Positions.{below_at}

sizes_start : (format : List FormatLevel) (ranges : List ℕ) (nothing parents level : ℕ) (arrays : Arrays) → AreAllDense format
    → StartsBelow nothing (letters_of format) (in_level_order format ranges) parents level arrays
    → HasSizes level (in_level_order format ranges) arrays
sizes_start [] ranges nothing parents level arrays dense h = tt
sizes_start (l ∷ ls) ranges nothing parents level arrays dense h = (
  h.0.size (ap (λ k. (properties k).full) (first_dense l ls dense)),
  subst (λ k. HasSizes k (in_level_order ls ranges) arrays) (omega arith)
      (sizes_start ls ranges nothing (parents_below l.letter (slice_index ranges l.mode) parents) (suc level) arrays
      (others_dense l ls dense) h.1),
)

values_start : (format : List FormatLevel) (ranges : List ℕ) (nothing parents level : ℕ) (arrays : Arrays) → AreAllDense format
    → StartsBelow nothing (letters_of format) (in_level_order format ranges) parents level arrays
    → arrays (Values 0) ≡ Some (replicate (parents * product (in_level_order format ranges)) nothing)
values_start [] ranges nothing parents level arrays dense h = h ∙ ap (λ n. Some (replicate n nothing)) (omega arith)
values_start (l ∷ ls) ranges nothing parents level arrays dense h =
    let size : ℕ = slice_index ranges l.mode in
    values_start ls ranges nothing (parents_below l.letter size parents) (suc level) arrays (others_dense l ls dense) h.1
    ∙ ap (λ n. Some (replicate (n * product (in_level_order ls ranges)) nothing))
    (parents_dense l.letter size parents (first_dense l ls dense))
    ∙ ap (λ n. Some (replicate n nothing)) (times parents size (product (in_level_order ls ranges)))
  where
    times : (a b c : ℕ) → a * b * c ≡ a * (b * c)
    times a b c = omega arith

-- the coordinates of rows, in the order of the levels, are below the sizes
module _ (s : Statement) (formats : List (List FormatLevel)) (store : Store) (d : IsDenseStore s formats store) where
  pub sizes_same : by_level (modes_of store.format) (left_ranges s store) ≡ in_level_order store.format store.ranges
  sizes_same = level_numbers store.format (left_ranges s store) ∙ ranges_same s formats store d

  pub coords_inside : (coords : List ℕ) → IsBelow (left_ranges s store) coords
      → IsBelow (in_level_order store.format store.ranges) (in_level_order store.format coords)
  coords_inside coords below =
      subst (λ ns. IsBelow ns (in_level_order store.format coords)) (ranges_same s formats store d)
      (inside store.format (λ k e h. let b = d.is.format.order.below k e h in let many = ranges_many s formats store d in
      omega (arith, b, many)))
    where
      inside : (format : List FormatLevel) → All (λ m. m < length (left_ranges s store)) (modes_of format)
          → IsBelow (in_level_order format (left_ranges s store)) (in_level_order format coords)
      inside [] all = tt
      inside (l ∷ ls) all = (
        below_at (left_ranges s store) coords l.mode below (all 0 0 (omega arith)),
        inside ls (λ k e h. all (suc k) e (omega (arith, h))),
      )

  pub place_same : (coords : List ℕ) → place (modes_of store.format) (left_ranges s store) coords
      ≡ position (in_level_order store.format store.ranges) (in_level_order store.format coords)
  place_same coords =
      ap (λ ns. position ns (by_level (modes_of store.format) coords)) sizes_same
      ∙ ap (position (in_level_order store.format store.ranges)) (level_numbers store.format coords)

  pub starts : (a : Arithmetic) (arrays : Arrays) → IsGiven a.zero store arrays
      → HoldsSums (modes_of store.format) a (left_ranges s store) [] arrays
  starts a arrays given =
      let total : ℕ = product (in_level_order store.format store.ranges) in
      let one_total : 1 * total ≡ total = omega arith in
      let many : length (replicate total a.zero) ≡ total = length-replicate total a.zero in
      let within : 1 * total ≤ greatest_position_count =
      product_few store.format store.ranges 1 d.dense (let some = some_positions in omega (arith, some)) d.is.few in
      record {
        sizes = subst (λ ns. HasSizes 1 ns arrays) (sym sizes_same)
            (sizes_start store.format store.ranges a.zero 1 1 arrays d.dense given.result);
        words = replicate total a.zero;
        held = values_start store.format store.ranges a.zero 1 1 arrays d.dense given.result
            ∙ ap (λ n. Some (replicate n a.zero)) one_total;
        long = many ∙ ap product (sym sizes_same);
        few = omega (arith, many, within, one_total);
        each = λ coords below.
            ap (slice_index (replicate total a.zero)) (place_same coords)
            ∙ all_same total (position (in_level_order store.format store.ranges) (in_level_order store.format coords)) a.zero
            (position_below (in_level_order store.format store.ranges) (in_level_order store.format coords) (coords_inside coords below));
      }

pub starts_without_rows : StartsWithoutRows
starts_without_rows a s formats store d arrays given = starts s formats store d a arrays given
