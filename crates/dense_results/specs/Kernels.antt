-- When a kernel for a dense result is right: by what its code does behind the code that puts each access at its top.
use Rattle.std.specs.Prelude.{◌≡◌, ℕ, ◌<◌, ◌≤◌, List, [], ◌++◌, map, Some}
use Rattle.numbers.specs.Arithmetic.{Arithmetic, Laws}
use Rattle.kernel_code.specs.declared.syntax.Arr.{Arr}
use Rattle.kernel_code.specs.declared.syntax.Kernel.{Kernel}
use Rattle.kernel_code.specs.declared.syntax.KStmt.{KStmt}
use Rattle.kernel_code.specs.declared.syntax.LoopKind.{LoopKind}
use Rattle.kernel_code.specs.Meaning.{Setting, State}
use Rattle.level_core.specs.Entries.{one}
use Rattle.level_cursors.specs.Children.{ChildLeft}
use Rattle.format_spec.specs.declared.format.FormatLevel.{FormatLevel}
use Rattle.format_spec.specs.Formats.{modes_of}
use Rattle.index_notation.specs.Statement.{IsNumbered, IsWellNamed}
use Rattle.index_notation.specs.declared.syntax.Access.{Access}
use Rattle.index_notation.specs.declared.syntax.Statement.{Statement}
use Rattle.iteration_graph.specs.Edges.{format_of, HasFormat}
use Rattle.concrete_notation.specs.declared.concrete.Concrete.{Concrete}
use Rattle.concrete_notation.specs.Workspaces.{AreAllDense}
use Rattle.result_targets.specs.Beside.{beside_lists}
use Rattle.result_targets.specs.Scratch.{HasLists}
use Rattle.result_targets.specs.Sinks.{Adds}
use Rattle.loop_code.specs.declared.loops.LoopCode.{LoopCode}
use Rattle.loop_code.specs.Loops.{start}
use Rattle.lowering.specs.Lowered.{AddsRows, IsInOrder}
use Rattle.lowering.specs.Right.{rows_to}
use Rattle.term_code.specs.declared.dense_sink.DenseSink.{DenseSink}
use Rattle.term_code.specs.declared.places.Places.{Places}
use Rattle.term_code.specs.DenseSinks.{dense_sink}
use Rattle.term_code.specs.Places.{Keeps, StartsAt, new_access}
use Rattle.kernel_correctness.specs.Kernels.{IsRightKernel}
use Rattle.kernel_correctness.specs.Stores.{Store, IsFlat, IsGiven, told_by}
use Rattle.operand_arrays.specs.Apart.{AreOutside}
use Rattle.operand_arrays.specs.Operands.{stored_in, IsOfOperands}
use Rattle.dense_results.specs.Operands.{AreFormatted, IsReadStore, ArrayStands, first_summed, operands_in}
use Rattle.dense_results.specs.Results.{IsDenseStore, left_ranges}

-- before all loops: each access is at the variables from base on
abbrev pub AreAtBase : Statement → ℕ → Places → Type 0
AreAtBase s base places = places.accesses ≡ map (new_access base (first_summed s)) (map (λ (x : Access). x.tensor) s.accesses)

-- a state at the top of loops that add to a dense result: the arrays are those of a store, each access is at its one parent, and no
-- row is added yet
pub record IsAtTop (a : Arithmetic) (k : DenseSink) (s : Statement) (formats : List (List FormatLevel)) (store : Store) (places : Places)
    (st : State) : Type 0 where
  pub stands : ArrayStands s formats store places.accesses st.arrays
  pub keeps : Keeps places [] start st
  pub from : AreOutside 0 0 places
  pub none : (y : ℕ) → dense_sink.mine k y → y < 0
  pub kept : (b : Arr) → IsOfOperands b → dense_sink.kept k b
  pub held : dense_sink.holds k a (left_ranges s store) [] st

-- so is each state with the arrays of a store that has each access at its one parent
abbrev pub StartsAreTops : Type 0
StartsAreTops = (a : Arithmetic) (k : DenseSink) (s : Statement) (formats : List (List FormatLevel)) (store : Store)
    → IsDenseStore s formats store → IsReadStore s formats store → k.modes ≡ modes_of store.format
    → (base : ℕ) (places : Places) → AreAtBase s base places
    → (st : State) → IsGiven a.zero store st.arrays → ChildLeft base (Some (one 0)) st → IsAtTop a k s formats store places st

-- from the top the code adds the rows of the loops, whatever the store. It may fill scratch lists from one number to the one before another
pub record AddsFromTop (a : Arithmetic) (k : DenseSink) (s : Statement) (formats : List (List FormatLevel)) (places : Places)
    (loops : LoopCode) (list past : ℕ) (code : List KStmt) : Type 0 where
  pub free : ℕ
  pub most : Store → LoopKind → ℕ
  pub adds : (c : Setting) → c.arithmetic ≡ a → (store : Store) → IsDenseStore s formats store → IsReadStore s formats store
      → (st : State) → IsAtTop a k s formats store places st → HasLists list past st
      → Adds (beside_lists dense_sink list past) k c (left_ranges s store) code free (most store) []
      (rows_to a s formats (told_by a s store) (stored_in (operands_in s store)) s.left.vars loops) st

-- a statement with a format for each tensor that stands for no sum, a dense one for its result
pub record IsForDense (s : Statement) (formats : List (List FormatLevel)) : Type 0 where
  pub numbered : IsNumbered s
  pub named : IsWellNamed s
  pub left : HasFormat formats s.left
  pub flat : IsFlat s formats
  pub read : AreFormatted s formats
  pub dense : AreAllDense (format_of formats 0)

-- a kernel of such code is right
abbrev pub DenseKernelsAreRight : Type 0
DenseKernelsAreRight = (a : Arithmetic) → Laws a → (s : Statement) (formats : List (List FormatLevel)) → IsForDense s formats
    → (c : Concrete) → IsInOrder s formats c → (loops : LoopCode) → AddsRows s formats c loops
    → (k : DenseSink) → k.modes ≡ modes_of (format_of formats 0)
    → (base : ℕ) (places : Places) → AreAtBase s base places
    → (top code : List KStmt) → StartsAt base top → (list past : ℕ) → AddsFromTop a k s formats places loops list past code
    → (kernel : Kernel) → past ≤ kernel.lists → kernel.body ≡ top ++ code → IsRightKernel a s formats kernel
