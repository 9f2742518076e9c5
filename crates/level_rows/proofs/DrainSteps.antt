-- The state while rows of a workspace are appended by code.
use Rattle.std.specs.Prelude.{◌≡◌, ℕ, suc, ◌+◌, ◌≤◌, Bool, true, false, if◌then◌else◌, List, length, Some, refl}
use Rattle.std.proofs.Common.{◌∙◌, arith}
use Rattle.limits.specs.Limits.{greatest_position_count}
use Rattle.kernel_code.specs.Arrays.{same_arr}
use Rattle.kernel_code.specs.Meaning.{Setting, State, value, word_of, set_var, one_turn, same_kind}
use Rattle.kernel_code.specs.Keeps.{Leaves, NoVariable, no_turns}
use Rattle.kernel_code.proofs.Keeps.{other_var, leaves_set}
use Rattle.kernel_code.specs.declared.syntax.Arr.{Arr}
use Rattle.kernel_code.specs.declared.syntax.Arr.TheVariants.{Range, Values, Dimension, Ends, Coordinates, Width, Key, Sums}
use Rattle.kernel_code.specs.declared.syntax.Arr.TheVariants.{ListCoordinates, ListPositions}
use Rattle.kernel_code.specs.declared.syntax.LoopKind.{LoopKind}
use Rattle.kernel_code.specs.declared.syntax.LoopKind.TheVariants.{Drain}
use Rattle.kernel_code.specs.declared.syntax.KExpr.{KExpr}
use Rattle.kernel_code.specs.declared.syntax.KStmt.{KStmt}
use Rattle.level_core.specs.declared.letter.Letter.{Letter}
use Rattle.level_core.specs.Kinds.{properties}
use Rattle.level_core.specs.Logs.{Log, IsLog, MayAppend, MayAppendEdges, with_coord, with_edges}
use Rattle.level_core.specs.Fragments.{IsOf, IsOutside, Writes, Grows, PassesLimit, turns_of}
use Rattle.level_core.specs.Meaning.{Arrays}
use Rattle.level_rows.specs.Rows.{Rows, place}
use Rattle.level_rows.specs.Draining.{Stays}
use Rattle.level_rows.proofs.Progress.{Progress, Placing}
use Rattle.level_rows.proofs.AppendSteps.{Stands}

-- what the code of a level does, where `has log arrays` says that the arrays hold a level to which this was appended
pub record Appends (c : Setting) (letter : Letter) (size level free : ℕ) (coord last begin count : KExpr) (append edges : List KStmt)
    (has : Log → Arrays → Type 0) : Type 0 where
  pub there : (log : Log) (a b : Arrays) → ((x : Arr) → IsOf 0 level x → b x ≡ a x) → has log a → has log b
  pub is_log : (log : Log) (a : Arrays) → (properties letter).branchless ≡ false → has log a → IsLog log
  pub appends : (x : ℕ) (log : Log) (s : State) → MayAppend letter size x log → has log s.arrays → value coord s ≡ Some x
      → Grows c append free 0 level no_turns s (λ t. has (with_coord x log) t.arrays × (length log.coords + 1 ≤ greatest_position_count))
      (PassesLimit 0 level (length log.coords + 1))
  pub gives : (parent from to : ℕ) (log : Log) (s : State) → MayAppendEdges letter parent from to log → has log s.arrays
      → value last s ≡ Some parent → value begin s ≡ Some from → value count s ≡ Some to
      → Writes c edges free 0 level no_turns s (λ t. has (with_edges letter parent from to log) t.arrays)

-- a state while rows are drained
pub record Drained (has : Log → Arrays → Type 0) (level g base : ℕ) (s0 : State) (turns done last begin count : ℕ) (log : Log) (ps : List ℕ)
    (s : State) : Type 0 where
  pub held : has log s.arrays
  pub at : s.vars base ≡ Some done
  pub appended : s.vars (base + 1) ≡ Some count
  pub from : s.vars (base + 2) ≡ Some begin
  pub parent : s.vars (base + 3) ≡ Some last
  pub places : s.arrays (ListPositions g) ≡ Some ps
  pub leaves : Leaves NoVariable (Stays level g) base (turns_of Drain turns) s0 s

-- a state before a turn, with so many rows left
pub record Draining (letter : Letter) (has : Log → Arrays → Type 0) (level g base parents : ℕ) (rows : Rows) (s0 : State) (left : ℕ)
    (s : State) : Type 0 where
  pub done : ℕ
  pub last : ℕ
  pub begin : ℕ
  pub log : Log
  pub positions : List ℕ
  pub rest : done + left ≡ rows.count
  pub progress : Progress letter parents done last begin rows log
  pub stands : Stands done last rows
  pub placing : Placing done rows (place rows.first) positions
  pub drained : Drained has level g base s0 done done last begin (length log.coords) log positions s

-- after the test whether the row has another parent than the last one
pub record TurnedTo (letter : Letter) (has : Log → Arrays → Type 0) (level g base parents : ℕ) (rows : Rows) (s0 : State) (done : ℕ)
    (ps : List ℕ) (s : State) : Type 0 where
  pub begin : ℕ
  pub log : Log
  pub progress : Progress letter parents done (rows.parent done) begin rows log
  pub drained : Drained has level g base s0 (done + 1) done (rows.parent done) begin (length log.coords) log ps s
  pub first : s.vars (base + 5) ≡ Some (word_of (rows.first done))

-- after the test whether the row begins a position
pub record AddedTo (letter : Letter) (has : Log → Arrays → Type 0) (level g base parents : ℕ) (rows : Rows) (s0 : State) (done : ℕ)
    (ps : List ℕ) (s : State) : Type 0 where
  pub begin : ℕ
  pub log : Log
  pub progress : Progress letter parents (suc done) (rows.parent done) begin rows log
  pub drained : Drained has level g base s0 (done + 1) done (rows.parent done) begin (length log.coords) log ps s

pub list_apart : (level g : ℕ) (a : Arr) → IsOf 0 level a → same_arr (ListPositions g) a ≡ false
list_apart level g Range of = absurd of
list_apart level g (Values n) of = absurd of
list_apart level g (Dimension n k) of = refl
list_apart level g (Ends n k) of = refl
list_apart level g (Coordinates n k) of = refl
list_apart level g (Width n k) of = refl
list_apart level g (Key n k) of = absurd of
list_apart level g (Sums n) of = absurd of
list_apart level g (ListCoordinates n) of = absurd of
list_apart level g (ListPositions n) of = absurd of

-- a variable above those of the drain is set
pub set_temp : (has : Log → Arrays → Type 0) (level g base : ℕ) (s0 : State) (turns done last begin count : ℕ) (log : Log) (ps : List ℕ)
    (s : State) (x v : ℕ) → base + 4 ≤ x
    → Drained has level g base s0 turns done last begin count log ps s
    → Drained has level g base s0 turns done last begin count log ps (set_var s x v)
set_temp has level g base s0 turns done last begin count log ps s x v h d = record {
  held = d.held;
  at = other_var s x base v (λ e. omega (arith, h, e)) ∙ d.at;
  appended = other_var s x (base + 1) v (λ e. omega (arith, h, e)) ∙ d.appended;
  from = other_var s x (base + 2) v (λ e. omega (arith, h, e)) ∙ d.from;
  parent = other_var s x (base + 3) v (λ e. omega (arith, h, e)) ∙ d.parent;
  places = d.places;
  leaves = leaves_set NoVariable (Stays level g) base (turns_of Drain turns) s0 s x v (λ y l e. omega (arith, h, l, e)) d.leaves;
}

-- a fragment of the level wrote
pub written : (has : Log → Arrays → Type 0) (level g base : ℕ) (s0 : State) (turns done last begin count : ℕ) (log more : Log) (ps : List ℕ)
    (s t : State)
    → Drained has level g base s0 turns done last begin count log ps s → Leaves NoVariable (IsOutside 0 level) (base + 6) no_turns s t
    → has more t.arrays → Drained has level g base s0 turns done last begin count more ps t
written has level g base s0 turns done last begin count log more ps s t d l held = record {
  held = held;
  at = l.below base (omega arith) (λ m. m) ∙ d.at;
  appended = l.below (base + 1) (omega arith) (λ m. m) ∙ d.appended;
  from = l.below (base + 2) (omega arith) (λ m. m) ∙ d.from;
  parent = l.below (base + 3) (omega arith) (λ m. m) ∙ d.parent;
  places = l.arrays (ListPositions g) (λ of. of) ∙ d.places;
  leaves = record {
    below = λ y h m. l.below y (omega (arith, h)) m ∙ d.leaves.below y h m;
    arrays = λ a k. l.arrays a k.0 ∙ d.leaves.arrays a k;
    turns = λ k. let x = l.turns k in let y = d.leaves.turns k in omega (arith, x, y);
  };
}

turn_more : (b : Bool) (n x y : ℕ) → y ≤ x + (if b then n else 0) → (if b then y + 1 else y) ≤ x + (if b then n + 1 else 0)
turn_more true n x y h = omega (arith, h)
turn_more false n x y h = omega (arith, h)

pub one_drained : (has : Log → Arrays → Type 0) (level g base : ℕ) (s0 : State) (turns done last begin count : ℕ) (log : Log) (ps : List ℕ)
    (s : State)
    → Drained has level g base s0 turns done last begin count log ps s
    → Drained has level g base s0 (turns + 1) done last begin count log ps (one_turn s Drain)
one_drained has level g base s0 turns done last begin count log ps s d = record {
  held = d.held;
  at = d.at;
  appended = d.appended;
  from = d.from;
  parent = d.parent;
  places = d.places;
  leaves = record {
    below = d.leaves.below;
    arrays = d.leaves.arrays;
    turns = λ k. turn_more (same_kind Drain k) turns (s0.turns k) (s.turns k) (d.leaves.turns k);
  };
}

turns_upto : (b : Bool) (n m : ℕ) → n ≤ m → (if b then n else 0) ≤ (if b then m else 0)
turns_upto true n m h = h
turns_upto false n m h = omega arith

-- turns that were made until a growth was refused
pub refused_turns : (level g base : ℕ) (s0 s : State) (turns most : ℕ) (made : LoopKind → ℕ) → turns ≤ most
    → Leaves NoVariable (Stays level g) base (turns_of Drain turns) s0 s → ((k : LoopKind) → made k ≤ s.turns k + 0) → (k : LoopKind)
    → made k ≤ s0.turns k + turns_of Drain most k
refused_turns level g base s0 s turns most made h l m k = let a = m k in let b = l.turns k in
    let c = turns_upto (same_kind Drain k) turns most h in omega (arith, a, b, c)
