-- The turns of the loops that a statement is lowered to are within its cost.
use Rattle.std.specs.Prelude.{◌≡◌, ℕ, ◌*◌, ◌≤◌, Bool, true, false, if◌then◌else◌, List, [], length, slice_get, slice_index}
use Rattle.std.proofs.Common.{◌∙◌, sym, ap, subst, arith}
use Rattle.std.proofs.Math.Nat.{mul_assoc, mul_comm}
use Rattle.std.proofs.lemmas.Nat.{mul-le}
use Rattle.numbers.specs.Arithmetic.{Arithmetic, Laws}
use Rattle.kernel_code.specs.declared.syntax.LoopKind.{LoopKind}
use Rattle.kernel_code.specs.declared.syntax.LoopKind.TheVariants.{Merge, Skip, Gather, Probe}
use Rattle.format_spec.specs.declared.format.FormatLevel.{FormatLevel}
use Rattle.index_notation.specs.declared.syntax.Statement.{Statement}
use Rattle.concrete_notation.specs.declared.concrete.Concrete.{Concrete}
use Rattle.concrete_notation.specs.Nests.{SharesLoops}
use Rattle.loop_code.specs.declared.loops.LoopCode.{LoopCode}
use Rattle.loop_code.specs.Loops.{start}
use Rattle.loop_code.specs.Turns.{cost, dups, merge_turns, skip_turns}
use Rattle.loop_code.proofs.Turns.{skips_within, turns_within}
use Rattle.lowering.specs.Layouts.{layout_of, letter_at, levels_of}
use Rattle.lowering.specs.Lowered.{IsInOrder, plain}
use Rattle.lowering.specs.Stored.{stored_of}
use Rattle.lowering.specs.Sums.{HasSums}
use Rattle.operand_arrays.specs.Operands.{stored_in}
use Rattle.kernel_correctness.specs.Stores.{Store, operand_of, told_by}
use Rattle.kernel_correctness.proofs.FlatStores.{flat_sums}
use Rattle.dense_results.specs.Operands.{IsReadStore, operands_in}
use Rattle.dense_results.proofs.Operands.{has_storages, operands_told}
use Rattle.kernel_emit.specs.Emitted.{AreFew, AreWidths}
use Rattle.level_core.specs.Kinds.{properties}
use Rattle.statement_costs.specs.Costs.{statement_cost, statement_repeats}
use Rattle.statement_costs.specs.Slots.{level_slots, slots, statement_slots}
use Rattle.statement_costs.specs.Probes.{probes}
use Rattle.statement_costs.proofs.Probes.{probes_within}
use Rattle.statement_costs.proofs.Slots.{loops_gather_no_more}
use Rattle.statement_costs.proofs.NoMore.{loops_cost_no_more, loops_repeat_no_more}
use Rattle.statement_costs.proofs.Packed.{real_groups}
use Rattle.statement_costs.proofs.SharedLoops.{shared_plain}
use Rattle.taco_compiler.specs.Compiled.{AreWithinCost}
use Rattle.taco_compiler.specs.Loops.{AreLoopsOf}

through : (m n o : ℕ) → m ≤ n → n ≤ o → m ≤ o
through m n o l k = omega (arith, l, k)

-- the loops' concrete statement
abbrev pub in_order_of : (s : Statement) (formats : List (List FormatLevel)) (order : List ℕ) (loops : LoopCode)
    (l : AreLoopsOf s formats order loops) → IsInOrder s formats l.concrete
in_order_of s formats order loops l = record { order = order; is_order = l.is_order; terms = l.terms; inner = l.inner }

module _ (a : Arithmetic) (laws : Laws a) (s : Statement) (formats : List (List FormatLevel)) (order : List ℕ)
    (loops : LoopCode) (l : AreLoopsOf s formats order loops) (store : Store)
    (read_store : IsReadStore s formats store) where
  abbrev c : Concrete
  c = l.concrete

  abbrev in_order : IsInOrder s formats c
  in_order = in_order_of s formats order loops l

  sums : HasSums s formats
  sums = flat_sums s formats read_store.flat

  shared : SharesLoops (plain c)
  shared = shared_plain c l.none l.shares

  same_stored : stored_in (operands_in s store) ≡ stored_of s (operand_of store)
  same_stored = (operands_told a laws s formats store read_store).stored

  merges_most : merge_turns (layout_of s formats) (stored_in (operands_in s store)) (slice_index store.ranges) loops start
      ≤ statement_cost s formats order (stored_of s (operand_of store)) (slice_index store.ranges)
  merges_most =
      let stored = stored_of s (operand_of store) in
      let ranges = slice_index store.ranges in
      let groups = real_groups a s formats (operand_of store) (told_by a s store) sums
      (has_storages s formats store read_store a) in
      let turns = turns_within (layout_of s formats) stored ranges loops start in
      let costs = loops_cost_no_more s formats read_store.numbered sums l.suits l.formed c in_order shared loops l.shape l.placed
      l.found l.in_place
      l.needed stored ranges groups in
      subst (λ held. merge_turns (layout_of s formats) held ranges loops start ≤ statement_cost s formats order stored ranges)
      (sym same_stored) (through (merge_turns (layout_of s formats) stored ranges loops start)
      (cost (layout_of s formats) stored ranges loops start)
      (statement_cost s formats order stored ranges) turns costs)

  skips_most : skip_turns (layout_of s formats) (stored_in (operands_in s store)) (slice_index store.ranges) loops start
      ≤ statement_repeats s formats order (stored_of s (operand_of store)) (slice_index store.ranges)
  skips_most =
      let stored = stored_of s (operand_of store) in
      let ranges = slice_index store.ranges in
      let turns = skips_within (layout_of s formats) stored ranges loops start in
      let costs = loops_repeat_no_more s formats read_store.numbered sums l.suits l.formed c in_order shared loops l.shape l.placed
      l.found l.in_place
      l.needed stored ranges in
      subst (λ held. skip_turns (layout_of s formats) held ranges loops start ≤ statement_repeats s formats order stored ranges)
      (sym same_stored) (through (skip_turns (layout_of s formats) stored ranges loops start)
      (dups (layout_of s formats) stored ranges loops start)
      (statement_repeats s formats order stored ranges) turns costs)

  gathers_most : (widths : ℕ → ℕ → ℕ)
      → slots (layout_of s formats) (stored_in (operands_in s store)) (slice_index store.ranges) (level_slots s formats widths) loops start
      ≤ statement_slots s formats order (stored_of s (operand_of store)) widths (slice_index store.ranges)
  gathers_most widths =
      let stored = stored_of s (operand_of store) in
      let ranges = slice_index store.ranges in
      subst (λ held. slots (layout_of s formats) held ranges (level_slots s formats widths) loops start
      ≤ statement_slots s formats order stored widths ranges) (sym same_stored)
      (loops_gather_no_more s formats read_store.numbered sums l.suits l.formed c in_order shared loops l.shape l.placed l.found l.in_place
      l.needed stored ranges widths)

  abbrev cost_of : ℕ
  cost_of = statement_cost s formats order (stored_of s (operand_of store)) (slice_index store.ranges)

  probes_most : (width : ℕ)
      → probes (layout_of s formats) (stored_in (operands_in s store)) (slice_index store.ranges)
      (level_slots s formats (λ k level. width)) loops start ≤ width * (length s.accesses * cost_of)
  probes_most width =
      let turns = merge_turns (layout_of s formats) (stored_in (operands_in s store)) (slice_index store.ranges) loops start in
      let searched = probes_within (layout_of s formats) (length s.accesses) (stored_in (operands_in s store)) (slice_index store.ranges)
      (level_slots s formats (λ k level. width)) width narrow loops [] (λ k. 0) l.placed start in
      let costs = mul-le (length s.accesses * width) turns (length s.accesses * width) cost_of (omega arith) merges_most in
      let turned = ap (λ n. n * cost_of) (mul_comm (length s.accesses) width) ∙ mul_assoc width (length s.accesses) cost_of in
      omega (arith, searched, costs, turned)
    where
      narrow : (k level : ℕ) → level_slots s formats (λ k level. width) k level ≤ width
      narrow k level = by (properties (letter_at (levels_of formats (slice_get s.accesses k)) level)).ordered
        where
          by : (b : Bool) → (if b then 0 else width) ≤ width
          by true = omega arith
          by false = omega arith

  -- so are probe turns that are no more than those of the loops' code
  pub within_searches : (most : LoopKind → ℕ) → AreFew s formats loops (operands_in s store) (slice_index store.ranges) start most
      → (made : ℕ) → made ≤ most Probe → (width : ℕ) → AreWidths s formats (operands_in s store) (λ k level. width)
      → made ≤ width * (length s.accesses * cost_of)
  within_searches most few made within width are =
      let m = few.probes (λ k level. width) are in let n = probes_most width in omega (arith, within, m, n)

  -- so are turns that are no more than those of the loops' code
  pub within_cost : (most : LoopKind → ℕ) → AreFew s formats loops (operands_in s store) (slice_index store.ranges) start most
      → (turns : LoopKind → ℕ) → turns Merge ≤ most Merge → turns Skip ≤ most Skip → turns Gather ≤ most Gather
      → AreWithinCost s formats order store turns
  within_cost most few turns merges skips gathers = record {
    merges = let m = few.merges in let n = merges_most in omega (arith, merges, m, n);
    skips = let m = few.skips in let n = skips_most in omega (arith, skips, m, n);
    gathers = λ widths are. let m = few.gathers widths are in let n = gathers_most widths in omega (arith, gathers, m, n);
  }
