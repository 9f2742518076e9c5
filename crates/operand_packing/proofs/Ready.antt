-- The operands of a statement may be packed where its ranges are above their coordinates.
use Rattle.std.specs.Prelude.{◌≡◌, ℕ, zero, suc, ◌+◌, ◌<◌, List, [], ◌∷◌, length, map}
use Rattle.std.specs.Prelude.{All, Some, slice_get, slice_index, slice_index_or, refl}
use Rattle.std.proofs.Common.{◌∙◌, sym, ap, subst, arith, add-one}
use Rattle.lists.proofs.Each.{each_get}
use Rattle.limits.specs.Limits.{greatest_position_count}
use Rattle.tensor_map.specs.Entries.{Entry, Entries}
use Rattle.format_spec.specs.declared.format.FormatLevel.{FormatLevel}
use Rattle.index_notation.specs.Statement.{IsAccess, numbers_from}
use Rattle.index_notation.specs.declared.syntax.Statement.{Statement}
use Rattle.iteration_graph.specs.Edges.{HasFormat, format_of}
use Rattle.expr_terms.specs.Operands.{entries_of, list_or_none}
use Rattle.expr_terms.specs.Ranges.{mode_size}
use Rattle.tns_io.specs.Positions.{IsBelow}
use Rattle.operand_packing.specs.Operands.{AreOperands, AreRanges, HasOrder, ReadsBelow, ReadsOperand, mode_sizes, operand_of}
use Rattle.operand_packing.proofs.SizeLaws.{entries_below_sizes, index_small, mode_sizes_small}
use Rattle.operand_packing.specs.Packed.{MayAllBePacked, operand_sizes}

sizes_long : (size : ℕ → ℕ) (from count : ℕ) → length (map size (numbers_from from count)) ≡ count
sizes_long size from zero = refl
sizes_long size from (suc count) = ap suc (sizes_long size (from + 1) count)

below_at : (sizes coords : List ℕ) → IsBelow sizes coords → (mode : ℕ) → mode < length sizes
    → slice_index coords mode < slice_index sizes mode
below_at [] coords below mode h = absurd (omega (arith, h))
below_at (size ∷ sizes) [] below mode h = absurd below
below_at (size ∷ sizes) (c ∷ coords) below zero h = below.0
below_at (size ∷ sizes) (c ∷ coords) below (suc mode) h = below_at sizes coords below.1 mode (omega (arith, h))

pub may_all : (s : Statement) (formats : List (List FormatLevel)) (operands : List Entries) (ranges : List ℕ)
    → AreOperands s formats operands → AreRanges s operands ranges → MayAllBePacked s formats (slice_index ranges) operands
may_all s formats operands ranges are fit n entries is =
    let n_inside : n < length operands = within operands n is in
    let read = are.read n n_inside in
    let tensor : read.access.tensor ≡ suc n = read.tensor_is ∙ add-one n in
    let reads : HasOrder (length read.access.vars) (operand_of operands read.access.tensor) =
    each_get (ReadsOperand operands) s.accesses read.place read.access are.reads read.stands in
    let order : entries.order ≡ length read.access.vars =
    subst (HasOrder (length read.access.vars)) is (subst (λ t. HasOrder (length read.access.vars) (operand_of operands t)) tensor reads) in
    let format = (each_get (HasFormat formats) s.accesses read.place read.access are.formats_fit read.stands).order in
    let level : length (format_of formats (suc n)) ≡ length read.access.vars =
    ap (λ t. length (format_of formats t)) (sym tensor) ∙ format in
    let access = each_get (IsAccess (length s.tensors) (length s.vars)) s.accesses read.place read.access are.numbered.right read.stands in
    let short = access.order in
    let long : length (operand_sizes s (slice_index ranges) n entries) ≡ entries.order =
    sizes_long (mode_size s (slice_index ranges) (suc n)) 0 entries.order in
    let below = entries_below_sizes s operands (slice_index ranges) read.place read.access read.stands
    (each_get (ReadsBelow operands (slice_index ranges)) s.accesses read.place read.access fit.below read.stands) in
    let listed : entries_of operands read.access.tensor ≡ entries.list = ap (entries_of operands) tensor ∙ ap list_or_none is in
    let sized : mode_sizes s (slice_index ranges) read.access.tensor (length read.access.vars)
    ≡ operand_sizes s (slice_index ranges) n entries =
    ap (λ t. mode_sizes s (slice_index ranges) t (length read.access.vars)) tensor
    ∙ ap (mode_sizes s (slice_index ranges) (suc n)) (sym order) in
    let under : All (λ (entry : Entry). IsBelow (operand_sizes s (slice_index ranges) n entries) entry.coords) entries.list =
    subst (λ list. All (λ (entry : Entry). IsBelow (operand_sizes s (slice_index ranges) n entries) entry.coords) list) listed
    (subst (λ ns. All (λ (entry : Entry). IsBelow ns entry.coords) (entries_of operands read.access.tensor)) sized below) in
    record {
      order = order ∙ sym level;
      long = long ∙ order ∙ sym level;
      shape = record {
        short = omega (arith, long, order, short);
        within = mode_sizes_small greatest_position_count s (slice_index ranges) (index_small greatest_position_count ranges fit.small)
            (suc n) entries.order;
      };
      inside = λ k d h mode m.
          below_at (operand_sizes s (slice_index ranges) n entries) (slice_index_or entries.list k d).coords (under k d h) mode m;
    }
  where
    within : (es : List Entries) (n : ℕ) {e : Entries} → slice_get es n ≡ Some e → n < length es
    within [] n is = absurd cc
    within (x ∷ es) zero is = omega arith
    within (x ∷ es) (suc n) is = let rest = within es n is in omega (arith, rest)
