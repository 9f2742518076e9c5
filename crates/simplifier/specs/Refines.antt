-- When a kernel does what another does, wherever that isn't stuck: what each pass keeps that may take what is stuck for something else.
use Rattle.std.specs.Prelude.{◌≡◌, ℕ, Bool, List, Option}
use Rattle.numbers.specs.Arithmetic.{Arithmetic}
use Rattle.kernel_code.specs.declared.syntax.Arr.{Arr}
use Rattle.kernel_code.specs.declared.syntax.Kernel.{Kernel}
use Rattle.kernel_code.specs.declared.syntax.KStmt.{KStmt}
use Rattle.kernel_code.specs.Kernels.{GotStuck, go_by, start_state}
use Rattle.kernel_code.specs.Meaning.{Setting, State, Outcome, run_list}
use Rattle.kernel_code.specs.More.{IsGood}
use Rattle.simplifier.specs.Same.{unnumbered}

-- how a run of code ends, but for the number of the statement that can't go on
abbrev pub plain : Setting → ℕ → List KStmt → State → Outcome
plain c n code s = unnumbered (run_list c n code s)

-- From every state of this kind, however values are added, and whatever number of turns each loop entry may make: unless the old code is
-- stuck, the new code ends as it does.
pub record Refines (starts : State → Type 0) (new old : List KStmt) : Type 0 where
  pub same : (c : Setting) (n : ℕ) (s : State) → starts s → IsGood (plain c n old s) → plain c n new s ≡ plain c n old s

-- on these arrays a kernel isn't stuck, however many turns it may make, where arrays of the result may be cut or not
abbrev pub IsNeverStuck : Bool → Arithmetic → ℕ → Kernel → (Arr → Option (List ℕ)) → Type 0
IsNeverStuck cuts arithmetic order k given = (n statement : ℕ) → go_by cuts arithmetic order k given n ≡ GotStuck statement → ⊥

-- Two kernels have the same semiring, workspaces and scratch lists; and however values are added, on all arrays on which the old one
-- starts in such a state and isn't stuck, within the same number of turns in all both end alike: they finish with the same arrays and as
-- many turns of each kind, are refused a growth at the same place with the same count, or don't finish. So they do where arrays of the
-- result may not be cut.
pub record RefinesKernel (starts : State → Type 0) (new old : Kernel) : Type 0 where
  pub semiring : new.semiring ≡ old.semiring
  pub workspaces : new.workspaces ≡ old.workspaces
  pub lists : new.lists ≡ old.lists
  pub runs : (cuts : Bool) (arithmetic : Arithmetic) (order : ℕ) (given : Arr → Option (List ℕ)) → starts (start_state old given)
      → IsNeverStuck cuts arithmetic order old given → (n : ℕ)
      → go_by cuts arithmetic order new given n ≡ go_by cuts arithmetic order old given n

-- every state
abbrev pub AnyState : State → Type 0
AnyState s = Unit {0}
