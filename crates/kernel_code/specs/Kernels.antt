-- What a kernel does: where its run starts, and how it ends within so many turns in all.
use Rattle.std.specs.Prelude.{ℕ, ◌+◌, Bool, true, nat_lt, nat_le, if◌then◌else◌, List, [], length, Option, Some, None, slice_index}
use Rattle.numbers.specs.Arithmetic.{Arithmetic}
use Rattle.kernel_code.specs.declared.syntax.Arr.{Arr}
use Rattle.kernel_code.specs.declared.syntax.Arr.TheVariants.{Range, Values, Dimension, Ends, Coordinates, Width, Key, Sums}
use Rattle.kernel_code.specs.declared.syntax.Arr.TheVariants.{ListCoordinates, ListPositions}
use Rattle.kernel_code.specs.declared.syntax.LoopKind.{LoopKind}
use Rattle.kernel_code.specs.declared.syntax.LoopKind.TheVariants.{Merge, Skip, Gather, Drain, Probe}
use Rattle.kernel_code.specs.declared.syntax.Place.{Place}
use Rattle.kernel_code.specs.declared.syntax.Place.TheVariants.{Level, Workspace}
use Rattle.kernel_code.specs.declared.syntax.Kernel.{Kernel}
use Rattle.kernel_code.specs.Meaning.{Setting, State, Outcome, Ended, Stuck, Over, More, run_list}

-- all turns, of whatever kind
abbrev pub all_turns : (LoopKind → ℕ) → ℕ
all_turns t = t Merge + t Skip + t Gather + t Drain + t Probe

-- what is told of a run within n turns in all: a run that made more isn't told
abbrev pub within : ℕ → Outcome → Outcome
within n (Ended s) = if nat_le (all_turns s.turns) n then Ended s else More
within n (Stuck t statement) = if nat_le (all_turns t) n then Stuck t statement else More
within n (Over t a count) = if nat_le (all_turns t) n then Over t a count else More
within n More = More

abbrev pub empty_if : Bool → Option (List ℕ)
empty_if b = if b then Some [] else None

-- the arrays at the start: workspaces and scratch lists are empty, the others are given
abbrev pub start_arrays : Kernel → (Arr → Option (List ℕ)) → Arr → Option (List ℕ)
start_arrays k given (Key w key) = empty_if (nat_lt key (slice_index k.workspaces w))
start_arrays k given (Sums w) = empty_if (nat_lt w (length k.workspaces))
start_arrays k given (ListCoordinates g) = empty_if (nat_lt g k.lists)
start_arrays k given (ListPositions g) = empty_if (nat_lt g k.lists)
start_arrays k given Range = given Range
start_arrays k given (Values n) = given (Values n)
start_arrays k given (Dimension n l) = given (Dimension n l)
start_arrays k given (Ends n l) = given (Ends n l)
start_arrays k given (Coordinates n l) = given (Coordinates n l)
start_arrays k given (Width n l) = given (Width n l)

-- at the start no variable has a value and no turn is made
abbrev pub start_state : Kernel → (Arr → Option (List ℕ)) → State
start_state k given = record { vars = λ x. None; arrays = start_arrays k given; turns = λ j. 0 }

-- where an array that grew too long stands; the values stand at the result's last level
abbrev pub place_of : ℕ → Arr → Place
place_of order (Values n) = Level order
place_of order (Ends n l) = Level l
place_of order (Coordinates n l) = Level l
place_of order (Width n l) = Level l
place_of order (Dimension n l) = Level l
place_of order Range = Level 0
place_of order (Key w key) = Workspace
place_of order (Sums w) = Workspace
place_of order (ListCoordinates g) = Workspace
place_of order (ListPositions g) = Workspace

-- how a kernel's run ends: where it is stuck, at which statement, counted from 1 in order of the first lines of the kernel's text
pub data KernelOutcome : Type 0 where
  Finished : (arrays : Arr → Option (List ℕ)) (turns : LoopKind → ℕ) → KernelOutcome
  GotStuck : (statement : ℕ) → KernelOutcome
  TooLong : (place : Place) (count : ℕ) → KernelOutcome
  NotFinished : KernelOutcome

abbrev pub told : ℕ → Outcome → KernelOutcome
told order (Ended s) = Finished s.arrays s.turns
told order (Stuck t statement) = GotStuck statement
told order (Over t a count) = TooLong (place_of order a) count
told order More = NotFinished

-- the setting of a kernel, where arrays of the result may be cut or not
abbrev pub setting_of : Bool → Arithmetic → Kernel → Setting
setting_of cuts arithmetic k = record { arithmetic = arithmetic; workspaces = k.workspaces; cuts_results = cuts }

-- a kernel whose result has this order, on these arrays, for at most n turns in all, where arrays of the result may be cut or not
abbrev pub go_by : Bool → Arithmetic → ℕ → Kernel → (Arr → Option (List ℕ)) → ℕ → KernelOutcome
go_by cuts arithmetic order k given n = told order (within n (run_list (setting_of cuts arithmetic k) n k.body (start_state k given)))

-- by the rules of the language, where they may be
abbrev pub go : Arithmetic → ℕ → Kernel → (Arr → Option (List ℕ)) → ℕ → KernelOutcome
go = go_by true
