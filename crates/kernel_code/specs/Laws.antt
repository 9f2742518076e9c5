-- The laws of the kernel language that the crates above use, as the clauses of functions.
use Rattle.std.specs.Prelude.{◌≡◌, ℕ, ◌+◌, ◌≤◌, ◌<◌, true, false, List, [], ◌++◌, length, Option, Some, None}
use Rattle.kernel_code.specs.declared.syntax.Arr.{Arr}
use Rattle.kernel_code.specs.declared.syntax.Kernel.{Kernel}
use Rattle.kernel_code.specs.declared.syntax.LoopKind.{LoopKind}
use Rattle.kernel_code.specs.declared.syntax.KExpr.{KExpr}
use Rattle.kernel_code.specs.declared.syntax.KStmt.{KStmt, If, While}
use Rattle.kernel_code.specs.Arrays.{is_scratch}
use Rattle.kernel_code.specs.Meaning.{Setting, State, Ended, value, choice, then_run, behind, run, run_list, run_turns, statements_in_list}
use Rattle.kernel_code.specs.Kernels.{all_turns, start_arrays}
use Rattle.kernel_code.specs.Turns.{AtLeast}
use Rattle.kernel_code.specs.Keeps.{Below}

-- an expression over variables below free has one value in all states that agree on these and on the arrays
abbrev pub DependsOnMentioned : Type 0
DependsOnMentioned = (free : ℕ) (e : KExpr) (s s' : State) → Below free e → ((y : ℕ) → y < free → s'.vars y ≡ s.vars y)
    → ((a : Arr) → s'.arrays a ≡ s.arrays a) → value e s' ≡ value e s

-- code and then more code does the one and then the other, which stands behind the statements of the one
abbrev pub RunsInOrder : Type 0
RunsInOrder = (c : Setting) (n : ℕ) (a b : List KStmt) (s : State)
    → run_list c n (a ++ b) s ≡ then_run (run_list c n a s) (λ s'. behind (statements_in_list a) (run_list c n b s'))

-- a choice does one of its bodies, by its test; the second stands behind the first
abbrev pub ChoosesByTest : Type 0
ChoosesByTest = (c : Setting) (n : ℕ) (e : KExpr) (first second : List KStmt) (s : State)
    → run c n (If e first second) s
    ≡ choice s (value e s) (behind 1 (run_list c n first s)) (behind (1 + statements_in_list first) (run_list c n second s))

-- a loop does its body turn by turn
abbrev pub LoopsByTurns : Type 0
LoopsByTurns = (c : Setting) (n : ℕ) (k : LoopKind) (e : KExpr) (body : List KStmt) (s : State)
    → run c n (While k e body) s ≡ run_turns n k (value e) (λ s'. behind 1 (run_list c n body s')) s

-- a run leaves at least the turns that it starts with
abbrev pub TurnsNeverFall : Type 0
TurnsNeverFall = (c : Setting) (n : ℕ) (code : List KStmt) (s : State) → AtLeast (all_turns s.turns) (run_list c n code s)

-- a kernel without workspaces and scratch lists starts on the arrays that it is given, if these have none
abbrev pub StartsAsGiven : Type 0
StartsAsGiven = (k : Kernel) (given : Arr → Option (List ℕ)) → k.workspaces ≡ [] → k.lists ≡ 0
    → ((a : Arr) → is_scratch a ≡ true → given a ≡ None) → (a : Arr) → start_arrays k given a ≡ given a

-- where arrays of the result may not be cut, none of them gets shorter, so that each position of one is appended once
abbrev pub NothingIsTakenBack : Type 0
NothingIsTakenBack = (c : Setting) → c.cuts_results ≡ false → (n : ℕ) (code : List KStmt) (s s' : State) → run_list c n code s ≡ Ended s'
    → (a : Arr) → is_scratch a ≡ false → (xs : List ℕ) → s.arrays a ≡ Some xs
    → (ys : List ℕ) × (s'.arrays a ≡ Some ys) × (length xs ≤ length ys)
