-- What the laws of fragments say, of any kind of level.
use Rattle.std.specs.Prelude.{◌≡◌, ℕ, ◌+◌, ◌-◌, ◌≤◌, ◌<◌, ◌^◌, if◌then◌else◌, List, []}
use Rattle.std.specs.Prelude.{◌∷◌, length, Option, Some, None}
use Rattle.limits.specs.Limits.{greatest_position_count}
pub use Rattle.kernel_code.specs.Meaning.{Setting, State, value, same_kind}
pub use Rattle.kernel_code.specs.Does.{Refusal, Does, Never}
pub use Rattle.kernel_code.specs.Keeps.{Below, Leaves, NoVariable, EveryArray, no_turns}
pub use Rattle.kernel_code.specs.declared.syntax.Arr.{Arr}
use Rattle.kernel_code.specs.declared.syntax.Arr.TheVariants.{Range, Values, Dimension, Ends, Coordinates, Width, Key, Sums}
use Rattle.kernel_code.specs.declared.syntax.Arr.TheVariants.{ListCoordinates, ListPositions}
pub use Rattle.kernel_code.specs.declared.syntax.LoopKind.{LoopKind}
use Rattle.kernel_code.specs.declared.syntax.LoopKind.TheVariants.{Skip, Probe}
pub use Rattle.kernel_code.specs.declared.syntax.KExpr.{KExpr}
pub use Rattle.kernel_code.specs.declared.syntax.KStmt.{KStmt}
use Rattle.level_core.specs.Entries.{Span, Entry}
use Rattle.level_core.specs.Kinds.{Letter, properties}

-- the expressions' variables are below free
abbrev pub AreBelow : ℕ → List KExpr → Type 0
AreBelow free [] = Unit {0}
AreBelow free (e ∷ es) = Below free e × AreBelow free es

-- so many arguments, over variables below free, and room for the answers from free on
pub record AreArguments (count free : ℕ) (args : List KExpr) : Type 0 where
  pub many : length args ≡ count
  pub below : AreBelow free args
  pub room : free ≤ 2 ^ 63

-- the arguments have these values
abbrev pub ValuesAre : List KExpr → State → List ℕ → Type 0
ValuesAre [] s [] = Unit {0}
ValuesAre [] s (v ∷ vs) = ⊥
ValuesAre (e ∷ es) s [] = ⊥
ValuesAre (e ∷ es) s (v ∷ vs) = (value e s ≡ Some v) × ValuesAre es s vs

-- the array is one of a level of a tensor
abbrev pub IsOf : ℕ → ℕ → Arr → Type 0
IsOf tensor level Range = ⊥
IsOf tensor level (Values n) = ⊥
IsOf tensor level (Dimension n k) = (n ≡ tensor) × (k ≡ level)
IsOf tensor level (Ends n k) = (n ≡ tensor) × (k ≡ level)
IsOf tensor level (Coordinates n k) = (n ≡ tensor) × (k ≡ level)
IsOf tensor level (Width n k) = (n ≡ tensor) × (k ≡ level)
IsOf tensor level (Key n k) = ⊥
IsOf tensor level (Sums n) = ⊥
IsOf tensor level (ListCoordinates n) = ⊥
IsOf tensor level (ListPositions n) = ⊥

abbrev pub IsOutside : ℕ → ℕ → Arr → Type 0
IsOutside tensor level a = IsOf tensor level a → ⊥

-- at most so many turns of one kind, and none of the others
abbrev pub turns_of : LoopKind → ℕ → LoopKind → ℕ
turns_of k n j = if same_kind k j then n else 0

-- a group's end is found by one skip turn for each position at most
abbrev pub child_turns : Letter → Entry → LoopKind → ℕ
child_turns letter e = if (properties letter).unique then no_turns else turns_of Skip (e.child.hi - e.child.lo)

-- a coordinate is sought by one probe turn for each position of a segment without order at most
abbrev pub probe_turns : Letter → Span → LoopKind → ℕ
probe_turns letter segment = if (properties letter).ordered then no_turns else turns_of Probe (segment.hi - segment.lo)

-- the form of all laws of fragments: the code ends with an answer, has set no variable below free, has left the arrays that are
-- kept and made so many turns at most, or is refused a growth
abbrev pub Runs : Setting → List KStmt → ℕ → (Arr → Type 0) → (LoopKind → ℕ) → State → (State → Type 0) → Refusal → Type 0
Runs c code free kept most s Answer Refused = Does c code s (λ s'. Leaves NoVariable kept free most s s' × Answer s') Refused

-- code that changes no array and is refused nothing
abbrev pub Reads : Setting → List KStmt → ℕ → (LoopKind → ℕ) → State → (State → Type 0) → Type 0
Reads c code free most s Answer = Runs c code free EveryArray most s Answer Never

-- code that changes no array but those of one level of a tensor, and is refused nothing
abbrev pub Writes : Setting → List KStmt → ℕ → ℕ → ℕ → (LoopKind → ℕ) → State → (State → Type 0) → Type 0
Writes c code free tensor level most s Answer = Runs c code free (IsOutside tensor level) most s Answer Never

-- a refused growth, before which so many turns at most were made
abbrev pub RefusedWithin : (LoopKind → ℕ) → State → (Arr → ℕ → Type 0) → Refusal
RefusedWithin most s Refused turns a count = ((k : LoopKind) → turns k ≤ s.turns k + most k) × Refused a count

-- such code that may be refused a growth
abbrev pub Grows : Setting → List KStmt → ℕ → ℕ → ℕ → (LoopKind → ℕ) → State → (State → Type 0) → (Arr → ℕ → Type 0)
    → Type 0
Grows c code free tensor level most s Answer Refused = Runs c code free (IsOutside tensor level) most s Answer
    (RefusedWithin most s Refused)

-- a growth of one of the level's arrays to so many positions, which pass the limit, and are told
pub record PassesLimit (tensor level positions : ℕ) (a : Arr) (count : ℕ) : Type 0 where
  pub array : IsOf tensor level a
  pub told : count ≡ positions
  pub above : greatest_position_count < positions

-- the same, of no more positions than so many
abbrev pub PassesLimitWithin : ℕ → ℕ → ℕ → Arr → ℕ → Type 0
PassesLimitWithin tensor level positions a count = (n : ℕ) × PassesLimit tensor level n a count × (n ≤ positions)

-- a number left in a variable
abbrev pub NumberLeft : ℕ → ℕ → State → Type 0
NumberLeft free n s = s.vars free ≡ Some n

-- a span left in two variables
pub record SpanLeft (free : ℕ) (span : Span) (s : State) : Type 0 where
  pub lo : s.vars free ≡ Some span.lo
  pub hi : s.vars (free + 1) ≡ Some span.hi

-- an option left as 1 and the number, or as 0
abbrev pub OptionLeft : ℕ → Option ℕ → State → Type 0
OptionLeft free None s = s.vars free ≡ Some 0
OptionLeft free (Some x) s = (s.vars free ≡ Some 1) × (s.vars (free + 1) ≡ Some x)
