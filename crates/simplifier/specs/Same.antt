-- When code does the same as other code.
use Rattle.std.specs.Prelude.{◌≡◌, ℕ, Bool, List, Option}
use Rattle.numbers.specs.Arithmetic.{Arithmetic}
use Rattle.kernel_code.specs.declared.syntax.Arr.{Arr}
use Rattle.kernel_code.specs.declared.syntax.KExpr.{KExpr}
use Rattle.kernel_code.specs.declared.syntax.KStmt.{KStmt}
use Rattle.kernel_code.specs.declared.syntax.Kernel.{Kernel}
use Rattle.kernel_code.specs.Kernels.{KernelOutcome, Finished, GotStuck, TooLong, NotFinished, go_by}
use Rattle.kernel_code.specs.Meaning.{Setting, State, Outcome, Ended, Stuck, Over, More, value, run_list}

-- two expressions have the same value in every state, and are stuck in the same states
pub record SameValue (e f : KExpr) : Type 0 where
  pub at : (s : State) → value e s ≡ value f s

-- how code ends, but for the number of the statement that can't go on: of simpler code it may be another
abbrev pub unnumbered : Outcome → Outcome
unnumbered (Ended s) = Ended s
unnumbered (Stuck t statement) = Stuck t 1
unnumbered (Over t a count) = Over t a count
unnumbered More = More

-- the same of a kernel's run
abbrev pub unnumbered_end : KernelOutcome → KernelOutcome
unnumbered_end (Finished arrays turns) = Finished arrays turns
unnumbered_end (GotStuck statement) = GotStuck 1
unnumbered_end (TooLong place count) = TooLong place count
unnumbered_end NotFinished = NotFinished

-- Over an arithmetic of values, from every state, and whatever number of turns each loop entry may make, two pieces of code end
-- alike: both with the same variables, arrays and turns of each kind, both stuck after the same turns, at whichever statement, both
-- refused the same growth of the same array after the same turns, or both without a turn left.
pub record SameRuns (arithmetic : Arithmetic) (a b : List KStmt) : Type 0 where
  pub from : (c : Setting) → c.arithmetic ≡ arithmetic → (n : ℕ) (s : State)
      → unnumbered (run_list c n a s) ≡ unnumbered (run_list c n b s)

-- Two kernels have the same semiring, workspaces and scratch lists, and over an arithmetic of values, on the same arrays, within the
-- same number of turns in all, their runs end alike: they finish with the same arrays and as many turns of each kind, are stuck, at
-- whichever statement, are refused a growth at the same place with the same count, or don't finish. So they do where arrays of the result
-- may not be cut.
pub record SameKernel (arithmetic : Arithmetic) (j k : Kernel) : Type 0 where
  pub semiring : j.semiring ≡ k.semiring
  pub workspaces : j.workspaces ≡ k.workspaces
  pub lists : j.lists ≡ k.lists
  pub runs : (cuts : Bool) (order : ℕ) (given : Arr → Option (List ℕ)) (n : ℕ)
      → unnumbered_end (go_by cuts arithmetic order j given n) ≡ unnumbered_end (go_by cuts arithmetic order k given n)
