-- Packed operands, with ranges of the variables and a result that can be begun, are a store of the statement.
use Rattle.std.specs.Prelude.{◌≡◌, ℕ, zero, suc, ◌+◌, ◌<◌, List, [], ◌∷◌, map, All, Some, slice_get, slice_index, refl}
use Rattle.std.proofs.Common.{◌∙◌, sym, ap, subst, arith}
use Rattle.std.proofs.lemmas.List.Elements.{All-nil, All-cons, All-tail}
use Rattle.numbers.specs.Arithmetic.{Arithmetic}
use Rattle.tensor_map.specs.Entries.{Entries}
use Rattle.format_spec.specs.declared.format.FormatLevel.{FormatLevel}
use Rattle.format_spec.specs.Formats.{IsFormat, modes_of}
use Rattle.index_notation.specs.declared.syntax.Statement.{Statement}
use Rattle.index_notation.specs.Statement.{numbers_from}
use Rattle.iteration_graph.specs.Edges.{format_of}
use Rattle.level_core.specs.declared.letter.Letter.{Letter}
use Rattle.level_rows.specs.Stacks.{Column}
use Rattle.expr_terms.specs.Ranges.{mode_size}
use Rattle.tensor_storage.specs.Built.{AreBuilt}
use Rattle.tensor_storage.specs.declared.level.StorageLevel.{StorageLevel}
use Rattle.tensor_storage.specs.Levels.{meaning}
use Rattle.tensor_storage.specs.Storages.{Storage, in_level_order}
use Rattle.tensor_storage.specs.Tables.{Table}
use Rattle.storage_arrays.specs.Arrays.{AreDone}
use Rattle.storage_arrays.proofs.Packed.{packed_are_done}
use Rattle.kernel_correctness.specs.Stores.{Store, IsOperand, IsStoreOf, level_sizes}
use Rattle.kernel_correctness.specs.Stores as stores
use Rattle.kernel_correctness.proofs.FlatStores.{sizes_flat}
use Rattle.expr_terms.specs.Nested.{flat}
use Rattle.expr_terms.proofs.NestedLaws.{names_longer}
use Rattle.std.proofs.lemmas.Option.{slice_get_within}
use Rattle.kernel_machine.specs.Begins.{store_of}
use Rattle.operand_packing.specs.Operands.{AreOperands, AreRanges}
use Rattle.operand_packing.specs.Packed.{ArePackedOperands, IsPackedAt}
use Rattle.kernel_runs.specs.Runs.{IsStoreFor}
use Rattle.kernel_runs.specs.Steps.{CanBegin}

-- ---- of one operand
all_keep : (table : Table) (letters : List Letter) (ls : List StorageLevel) (cs : List Column) (d : ℕ) (parent : ℕ → ℕ) (parents : ℕ)
    → AreBuilt meaning table d parent parents letters ls cs → All meaning.keeps ls
all_keep table letters [] cs d parent parents built = All-nil meaning.keeps
all_keep table letters (l ∷ ls) [] d parent parents built = absurd built
all_keep table [] (l ∷ ls) (c ∷ cs) d parent parents built = absurd built
all_keep table (letter ∷ letters) (l ∷ ls) (c ∷ cs) d parent parents built =
    All-cons meaning.keeps l ls built.0.keeps (all_keep table letters ls cs (suc d) c.place c.positions built.1)

mode_at : (size : ℕ → ℕ) (from count mode : ℕ) → mode < count → slice_index (map size (numbers_from from count)) mode ≡ size (from + mode)
mode_at size from zero mode h = absurd (omega (arith, h))
mode_at size from (suc count) zero h = let here : from ≡ from + 0 = omega arith in ap size here
mode_at size from (suc count) (suc mode) h =
    let next : (from + 1) + mode ≡ from + suc mode = omega arith in mode_at size (from + 1) count mode (omega (arith, h)) ∙ ap size next

sizes_in_order : (size : ℕ → ℕ) (order : ℕ) (format : List FormatLevel) → All (λ mode. mode < order) (modes_of format)
    → in_level_order format (map size (numbers_from 0 order)) ≡ map (λ (level : FormatLevel). size level.mode) format
sizes_in_order size order [] below = refl
sizes_in_order size order (level ∷ format) below =
    let at : slice_index (map size (numbers_from 0 order)) level.mode ≡ size (0 + level.mode) =
    mode_at size 0 order level.mode (below 0 0 (omega arith)) in
    let same : 0 + level.mode ≡ level.mode = omega arith in
    let first : slice_index (map size (numbers_from 0 order)) level.mode ≡ size level.mode = at ∙ ap size same in
    let rest = sizes_in_order size order format (All-tail (λ mode. mode < order) level.mode (modes_of format) below) in
    λ i. first i ∷ rest i

operand_is : (a : Arithmetic) (s : Statement) (formats : List (List FormatLevel)) (ranges : ℕ → ℕ) (operands : List Entries) (n : ℕ)
    (t : Storage) → IsPackedAt a s formats ranges operands n t
    → IsOperand (format_of formats (suc n)) (level_sizes s ranges (suc n) (format_of formats (suc n))) t
operand_is a s formats ranges operands n t at =
    let p = at.packed in
    let q = p.packed.packed in
    record {
      format_is = q.format_is;
      storage = p.whole;
      keeps = all_keep _ _ t.levels q.stands.columns 0 (λ i. 0) 1 q.stands.built;
      sizes_are = q.sizes
          ∙ sizes_in_order (mode_size s ranges (suc n)) at.entries.order (format_of formats (suc n))
          (subst (λ k. All (λ mode. mode < k) (modes_of (format_of formats (suc n)))) (sym at.order) p.is_format.order.below);
      words = p.words;
    }

-- ---- of all operands
are_operands : (s : Statement) (formats : List (List FormatLevel)) (ranges : ℕ → ℕ) (tensor : ℕ) (ts : List Storage)
    → ((n : ℕ) (t : Storage) → slice_get ts n ≡ Some t
    → IsOperand (format_of formats (n + tensor)) (level_sizes s ranges (n + tensor) (format_of formats (n + tensor))) t)
    → stores.AreOperands s formats ranges tensor ts
are_operands s formats ranges tensor [] each = tt
are_operands s formats ranges tensor (t ∷ ts) each =
    let here : 0 + tensor ≡ tensor = omega arith in (
      subst (λ k. IsOperand (format_of formats k) (level_sizes s ranges k (format_of formats k)) t) here (each 0 t refl),
      are_operands s formats ranges (suc tensor) ts (λ n u is.
          let next : suc n + tensor ≡ n + suc tensor = omega arith in
          subst (λ k. IsOperand (format_of formats k) (level_sizes s ranges k (format_of formats k)) u) next (each (suc n) u is)),
    )

-- their levels are finished
at_each : (P : Storage → Type 0) (ts : List Storage) → ((n : ℕ) (t : Storage) → slice_get ts n ≡ Some t → P t) → All P ts
at_each P [] each = All-nil P
at_each P (t ∷ ts) each = All-cons P t ts (each 0 t refl) (at_each P ts (λ n u is. each (suc n) u is))

module _ (a : Arithmetic) (s : Statement) (formats : List (List FormatLevel)) (ranges : List ℕ) (operands : List Entries)
    (storages : List Storage) (packed : ArePackedOperands a s formats (slice_index ranges) operands storages) where
  pub are_done : All (λ t. AreDone 1 t.levels) storages
  are_done = at_each (λ t. AreDone 1 t.levels) storages (λ n t is.
      packed_are_done _ _ _ _ t (packed.each n t is).packed.packed.packed)

  pub store_is : (format : List FormatLevel) → format ≡ format_of formats 0 → IsFormat format → AreOperands s formats operands
      → AreRanges s operands ranges → CanBegin (store_of ranges storages format)
      → IsStoreFor a s formats ranges operands (store_of ranges storages format)
  store_is format is is_format are fits few = record {
    is_store = record {
      each = fits.long;
      small = fits.small;
      operands = let stored = packed.many in let many = are.many in let longer = names_longer s.tensors s.sums in
          omega (arith, stored, many, longer);
      operands_keep = are_operands (flat s) formats (slice_index ranges) 1 storages (λ n t at.
          let next : suc n ≡ n + 1 = omega arith in
          subst (λ k. IsOperand (format_of formats k) (level_sizes (flat s) (slice_index ranges) k (format_of formats k)) t) next
          (subst (λ sizes. IsOperand (format_of formats (suc n)) sizes t)
          (sizes_flat s (slice_index ranges) (suc n) (format_of formats (suc n))
          (let below = slice_get_within storages n t at in let stored = packed.many in let many = are.many in
          omega (arith, below, stored, many)))
          (operand_is a s formats (slice_index ranges) operands n t (packed.each n t at))));
      format_is = is;
      format = is_format;
      few = few;
    };
    ranges_are = refl;
    packed = packed;
  }
