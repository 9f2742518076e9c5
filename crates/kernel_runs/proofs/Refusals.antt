-- Refusals of the ranges and of packing as those of a run.
use Rattle.std.specs.Prelude.{◌≡◌, ℕ, List, Option, Ok, Vec, slice_index, refl}
use Rattle.std.specs.declared.alloc.Global.{Global}
use Rattle.std.proofs.Common.{sym, subst}
use Rattle.numbers.specs.Arithmetic.{Arithmetic}
use Rattle.tensor_map.specs.Entries.{Entries}
use Rattle.format_spec.specs.declared.format.FormatLevel.{FormatLevel}
use Rattle.index_notation.specs.declared.syntax.Statement.{Statement}
use Rattle.expr_terms.specs.Told as told
use Rattle.expr_terms.specs.declared.bound.Bound.{Bound}
use Rattle.expr_terms.specs.declared.range_fault.RangeFault.{RangeFault}
use Rattle.expr_terms.specs.declared.range_fault.RangeFault.TheVariants.{NoRange, RangeConflict, OutOfRange, Memory}
use Rattle.operand_packing.specs.Runnable.{told_ranges}
use Rattle.operand_packing.specs.Packed.{MayNotPack}
use Rattle.operand_packing.specs.declared.packing.PackFault.{PackFault}
use Rattle.operand_packing.specs.declared.packing.PackFault.TheVariants as pack
use Rattle.kernel_runs.specs.Refused.{of_ranges, of_packing}
use Rattle.kernel_code.specs.declared.syntax.Kernel.{Kernel}
use Rattle.kernel_code.specs.declared.syntax.Turns.{Turns}
use Rattle.tensor_storage.specs.Storages.{Storage}
use Rattle.kernel_runs.specs.declared.fault.RunFault.{RunFault}
use Rattle.kernel_runs.specs.declared.fault.RunFault.TheVariants.{Range, SizeLimit, Workspace}
use Rattle.kernel_runs.specs.declared.fault.RunFault.TheVariants as fault
use Rattle.mode_planner.specs.declared.planned.Planned.{Planned}
use Rattle.kernel_runs.specs.Planned.{MayRefusePlanned}
use Rattle.kernel_runs.specs.Runs.{IsLargeLevelBy, IsRun, MayRefuseRun}
use Rattle.kernel_runs.proofs.Whole.{IsRunBy, RefusedBy}

-- a refusal of the ranges, by the bounds as they are lent, is one of the run
pub range_refusal : (a : Arithmetic) (s : Statement) (formats : List (List FormatLevel)) (kernel : Kernel) (given : List (Option ℕ))
    (operands : List Entries) (bounds lent : List (Vec Bound Global)) (refusal : RangeFault)
    → lent ≡ bounds → told.MayRefuseRanges (told_ranges s given lent) refusal
    → MayRefuseRun a s formats kernel given operands bounds (of_ranges refusal)
range_refusal a s formats kernel given operands bounds lent refusal same h =
    by refusal (subst (λ (bs : List (Vec Bound Global)). told.MayRefuseRanges (told_ranges s given bs) refusal) same h)
  where
    by : (refusal : RangeFault) → told.MayRefuseRanges (told_ranges s given bounds) refusal
        → MayRefuseRun a s formats kernel given operands bounds (of_ranges refusal)
    by (NoRange var) h = h
    by (RangeConflict var first other) h = h
    by (OutOfRange tensor coordinate range) h = h
    by (Memory error) h = tt

-- and of a planned one, which is refused so exactly where the given one is
pub planned_range_refusal : (a : Arithmetic) (s : Statement) (plan : Planned) (kernel : Kernel) (given : List (Option ℕ))
    (operands : List Entries) (bounds lent : List (Vec Bound Global)) (refusal : RangeFault)
    → lent ≡ bounds → told.MayRefuseRanges (told_ranges s given lent) refusal
    → MayRefusePlanned a s plan kernel given operands bounds (of_ranges refusal)
planned_range_refusal a s plan kernel given operands bounds lent refusal same h =
    by refusal (subst (λ (bs : List (Vec Bound Global)). told.MayRefuseRanges (told_ranges s given bs) refusal) same h)
  where
    by : (refusal : RangeFault) → told.MayRefuseRanges (told_ranges s given bounds) refusal
        → MayRefusePlanned a s plan kernel given operands bounds (of_ranges refusal)
    by (NoRange var) h = h
    by (RangeConflict var first other) h = h
    by (OutOfRange tensor coordinate range) h = h
    by (Memory error) h = tt

-- one of packing is one by the ranges
pub pack_refusal : (a : Arithmetic) (s : Statement) (formats : List (List FormatLevel)) (kernel : Kernel) (operands : List Entries)
    (ranges : List ℕ) (refusal : PackFault) → MayNotPack a s formats (slice_index ranges) operands refusal
    → RefusedBy a s formats kernel ranges operands (of_packing refusal)
pack_refusal a s formats kernel operands ranges (pack.Memory error) may = tt
pack_refusal a s formats kernel operands ranges (pack.SizeLimit large) may =
    subst (λ t. IsLargeLevelBy a s formats kernel ranges operands t large.level large.count) (sym may.tensor_is) (record {
      n = may.n;
      tensor_is = refl;
      entries = may.entries;
      is = may.is;
      earlier = may.earlier;
      large = may.large;
    })

-- and that is one of the run
pub run_refusal : (a : Arithmetic) (s : Statement) (formats : List (List FormatLevel)) (kernel : Kernel) (given : List (Option ℕ))
    (operands : List Entries) (bounds : List (Vec Bound Global)) (ranges : List ℕ) → told_ranges s given bounds ≡ Ok ranges
    → (fault : RunFault) → RefusedBy a s formats kernel ranges operands fault
    → MayRefuseRun a s formats kernel given operands bounds fault
run_refusal a s formats kernel given operands bounds ranges told (Range fault) why = absurd why
run_refusal a s formats kernel given operands bounds ranges told (SizeLimit large) why = record {
  ranges = ranges;
  ranges_are = told;
  by = why;
}
run_refusal a s formats kernel given operands bounds ranges told (Workspace count) why = record {
  ranges = ranges;
  ranges_are = told;
  store = why.store;
  is_store = why.is_store;
  passes = why.passes;
  most = why.most;
  sparse = why.sparse;
  stops = why.stops;
}
run_refusal a s formats kernel given operands bounds ranges told (fault.Memory error) why = tt

pub run_is : (a : Arithmetic) (s : Statement) (formats : List (List FormatLevel)) (kernel : Kernel) (given : List (Option ℕ))
    (operands : List Entries) (bounds : List (Vec Bound Global)) (ranges : List ℕ) → told_ranges s given bounds ≡ Ok ranges
    → (shape : List ℕ) (entries : Entries) (tensor : Storage) (turns : Turns)
    → IsRunBy a s formats kernel ranges operands shape entries tensor turns
    → IsRun a s formats kernel given operands bounds shape entries tensor turns
run_is a s formats kernel given operands bounds ranges told shape entries tensor turns run = record {
  ranges = ranges;
  ranges_are = told;
  store = run.store;
  is_store = run.is_store;
  runs = run.runs;
  lists = run.lists;
  tensor_of = run.tensor_of;
}
