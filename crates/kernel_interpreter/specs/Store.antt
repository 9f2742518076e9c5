-- What the machine keeps, as the state that it stands for.
use Rattle.std.specs.Prelude.{◌≡◌, ℕ, ◌<◌, Bool, true, false, if◌then◌else◌, List, length, Option, Some, None, slice_get}
use Rattle.std.specs.Prelude.{slice_index_or}
use Rattle.kernel_code.specs.declared.syntax.Arr.{Arr}
use Rattle.kernel_code.specs.declared.syntax.LoopKind.{LoopKind}
use Rattle.kernel_code.specs.declared.syntax.LoopKind.TheVariants.{Merge, Skip, Gather, Drain, Probe}
use Rattle.kernel_code.specs.declared.syntax.Turns.{Turns}
use Rattle.kernel_code.specs.Kernels.{all_turns}
use Rattle.kernel_code.specs.Arrays.{same_arr, may_write}
use Rattle.kernel_code.specs.Meaning.{Setting, State, Outcome, Ended, Stuck, Over, More}
use Rattle.numbers.specs.Arithmetic.{Arithmetic}
use Rattle.machine_parts.specs.declared.words.OwnArray.{OwnArray}
use Rattle.kernel_interpreter.specs.declared.machine.Machine.{Machine}
use Rattle.kernel_interpreter.specs.declared.ending.Ending.{Ending}
use Rattle.kernel_interpreter.specs.declared.ending.Ending.TheVariants as ending
use Rattle.kernel_interpreter.specs.declared.ending.Step.{Step}
use Rattle.kernel_interpreter.specs.declared.ending.Step.TheVariants as step
use Rattle.lent_arrays.specs.Lent.{lent_array}
use Rattle.machine_parts.specs.ArrayPlaces.{held, place_in}

-- the words of an array, if it has this name
abbrev pub words_named : Arr → Option OwnArray → Option (List ℕ)
words_named a None = None
words_named a (Some w) = if same_arr w.name a then Some w.words.items else None

-- the words of the array at a place, if it has this name
abbrev pub array_at : Option ℕ → List OwnArray → Arr → Option (List ℕ)
array_at None ws a = None
array_at (Some i) ws a = words_named a (slice_get ws i)

-- the array of this name that is the machine's own
abbrev pub own_array : Machine → Arr → Option (List ℕ)
own_array m a = array_at (place_in m.places a) m.arrays.items a

abbrev pub by_right : Bool → Option (List ℕ) → Option (List ℕ) → Option (List ℕ)
by_right true own lent = own
by_right false own lent = lent

-- the array of this name: one of the machine's own where a kernel may write it, and else one that is lent
abbrev pub array_of : Machine → Arr → Option (List ℕ)
array_of m a = by_right (may_write a) (own_array m a) (lent_array m.lent a)

abbrev pub count_of : Turns → LoopKind → ℕ
count_of t Merge = t.merge
count_of t Skip = t.skip
count_of t Gather = t.gather
count_of t Drain = t.drain
count_of t Probe = t.probe

abbrev pub state_of : Machine → State
state_of m = record { vars = held m.variables; arrays = array_of m; turns = count_of m.turns.counts }

abbrev pub outcome_of : Ending → State → Outcome
outcome_of ending.Ended s = Ended s
outcome_of (ending.Stuck statement) s = Stuck s.turns statement
outcome_of (ending.Over a count) s = Over s.turns a count
outcome_of ending.More s = More

-- the outcome that a step stands for, with what the machine keeps of it; none where memory is wanted
abbrev pub outcome_at : Step → Machine → Outcome
outcome_at step.Ended m = Ended (state_of m)
outcome_at step.Stuck m = Stuck (state_of m).turns 1
outcome_at step.StuckInside m = Stuck (state_of m).turns m.stuck_inside
outcome_at step.Over m = Over (state_of m).turns m.refused.array m.refused.count
outcome_at step.More m = More
outcome_at step.Memory m = More

-- a step that stands for an outcome: no memory is wanted
abbrev pub IsTold : Step → Type 0
IsTold step.Memory = ⊥
IsTold step.Ended = Unit {0}
IsTold step.Stuck = Unit {0}
IsTold step.StuckInside = Unit {0}
IsTold step.Over = Unit {0}
IsTold step.More = Unit {0}

abbrev pub has_ended : Step → Bool
has_ended step.Ended = true
has_ended step.Stuck = false
has_ended step.StuckInside = false
has_ended step.Over = false
has_ended step.More = false
has_ended step.Memory = false

-- the array of this name stands at place i
pub record IsPlaceOf (m : Machine) (a : Arr) (i : ℕ) : Type 0 where
  pub is : place_in m.places a ≡ Some i
  pub within : i < length m.arrays.items
  pub name : (d : OwnArray) → (slice_index_or m.arrays.items i d).name ≡ a

-- place i is that of an array which may be written
abbrev pub IsWritable : Machine → Arr → ℕ → Type 0
IsWritable m a i = IsPlaceOf m a i × (may_write a ≡ true)

-- the turns made, of all kinds
abbrev pub made : Machine → ℕ
made m = all_turns (count_of m.turns.counts)

-- how values are added, and the number of keys of each workspace; arrays of the result may be cut
abbrev pub setting : Arithmetic → List ℕ → Setting
setting arithmetic workspaces = record { arithmetic = arithmetic; workspaces = workspaces; cuts_results = true }
