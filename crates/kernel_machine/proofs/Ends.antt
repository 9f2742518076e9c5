-- How the meaning of a kernel ends where the machine's run does.
use Rattle.std.specs.Prelude.{◌≡◌, ◌⊎◌, ℕ, ◌≤◌, true, List}
use Rattle.std.proofs.Common.{◌∙◌, sym, ap, subst, arith, inl, inr}
use Rattle.numbers.specs.Arithmetic.{Arithmetic}
use Rattle.kernel_code.specs.declared.syntax.Kernel.{Kernel}
use Rattle.kernel_code.specs.declared.syntax.KStmt.{KStmt}
use Rattle.kernel_code.specs.declared.syntax.LoopKind.{LoopKind}
use Rattle.kernel_code.specs.Kernels.{KernelOutcome, Finished, GotStuck, NotFinished, all_turns, go, told, within}
use Rattle.kernel_code.specs.Kernels.{start_state, start_arrays}
use Rattle.kernel_code.specs.Meaning.{State, Ended, run_list}
use Rattle.kernel_code.proofs.More.{goes_on}
use Rattle.level_core.specs.Meaning.{Arrays}
use Rattle.kernel_interpreter.specs.declared.machine.Machine.{Machine}
use Rattle.kernel_interpreter.specs.declared.ending.Ending.{Ending}
use Rattle.kernel_interpreter.specs.Store.{state_of, outcome_of, setting, made}
use Rattle.kernel_correctness.specs.Kernels.{Ends, IsSoundOutcome}
use Rattle.kernel_correctness.specs.Results.{LeavesStorage}
use Rattle.kernel_correctness.specs.Stores.{Store, IsGiven}
use Rattle.kernel_correctness.proofs.Starts.{starts_on_store}
use Rattle.kernel_machine.specs.Checked.{HasStarted}
use Rattle.kernel_machine.specs.Kept.{Keeps}
use Rattle.kernel_machine.specs.Runs.{most_turns}
use Rattle.kernel_machine.proofs.Kept.{kept_within}

-- at the start no turn was made
pub none_made : (m : Machine) (kernel : Kernel) (given : Arrays) → state_of m ≡ start_state kernel given → made m ≡ 0
none_made m kernel given is = ap (λ (s : State). all_turns s.turns) is

-- what the kernel comes to within so many turns
pub ends_within : (a : Arithmetic) (order : ℕ) (kernel : Kernel) (given : Arrays) (m m' : Machine) (e : Ending) (code : List KStmt)
    (workspaces : List ℕ) (limit : ℕ) → code ≡ kernel.body → workspaces ≡ kernel.workspaces → state_of m ≡ start_state kernel given
    → outcome_of e (state_of m') ≡ within limit (run_list (setting a workspaces) limit code (state_of m))
    → go a order kernel given limit ≡ told order (outcome_of e (state_of m'))
ends_within a order kernel given m m' e code workspaces limit body keys starts ends =
    sym (ap (told order) (ends
    ∙ ap (λ c. within limit (run_list (setting a workspaces) limit c (state_of m))) body
    ∙ ap (λ ws. within limit (run_list (setting a ws) limit kernel.body (state_of m))) keys
    ∙ ap (λ s. within limit (run_list (setting a kernel.workspaces) limit kernel.body s)) starts))

pub ends_told : (a : Arithmetic) (order : ℕ) (kernel : Kernel) (given : Arrays) (m m' : Machine) (e : Ending) (code : List KStmt)
    (workspaces : List ℕ) (limit : ℕ) → code ≡ kernel.body → workspaces ≡ kernel.workspaces → limit ≡ most_turns
    → state_of m ≡ start_state kernel given
    → outcome_of e (state_of m') ≡ within limit (run_list (setting a workspaces) limit code (state_of m))
    → go a order kernel given most_turns ≡ told order (outcome_of e (state_of m'))
ends_told a order kernel given m m' e code workspaces limit body keys most starts ends =
    subst (λ n. go a order kernel given n ≡ told order (outcome_of e (state_of m'))) most
    (ends_within a order kernel given m m' e code workspaces limit body keys starts ends)

-- the arrays that it leaves came of those of its store
pub started_of : (a : Arithmetic) (kernel : Kernel) (store : Store) (given : Arrays) (m m' : Machine) (code : List KStmt)
    (workspaces : List ℕ) (limit : ℕ) → IsGiven a.zero store given → state_of m ≡ start_state kernel given
    → Ended (state_of m') ≡ within limit (run_list (setting a workspaces) limit code (state_of m))
    → HasStarted a.zero store (state_of m').arrays
started_of a kernel store given m m' code workspaces limit is_given starts ends = record {
  given = start_arrays kernel given;
  is_given = starts_on_store a.zero store kernel given is_given;
  kept = subst (λ (s : State). Keeps s.arrays (state_of m').arrays) starts
      (kept_within (setting a workspaces) limit code (state_of m) (state_of m') (sym ends));
}

one_first : (n m : ℕ) → (n ≤ m) ⊎ (m ≤ n)
one_first n m = grind arith

not_unfinished : (nothing : ℕ) (store : Store) (o : KernelOutcome) → IsSoundOutcome nothing store o → o ≡ NotFinished → ⊥
not_unfinished nothing store o so e = subst (IsSoundOutcome nothing store) e so

-- what a sound kernel comes to within the turns that a run may make, unless they are too few
sound_at : (a : Arithmetic) (order : ℕ) (kernel : Kernel) (store : Store) (given : Arrays) (o : KernelOutcome)
    → Ends a order kernel given (IsSoundOutcome a.zero store) → go a order kernel given most_turns ≡ o → (o ≡ NotFinished → ⊥)
    → IsSoundOutcome a.zero store o
sound_at a order kernel store given o e f told = by (one_first e.turns most_turns)
  where
    by : (e.turns ≤ most_turns) ⊎ (most_turns ≤ e.turns) → IsSoundOutcome a.zero store o
    by (inl l) = subst (IsSoundOutcome a.zero store)
        (sym e.is ∙ sym (goes_on true a order kernel given e.turns most_turns l
        (λ n. not_unfinished a.zero store e.outcome e.so (sym e.is ∙ n))) ∙ f) e.so
    by (inr l) = subst (IsSoundOutcome a.zero store)
        (sym e.is ∙ goes_on true a order kernel given most_turns e.turns l (λ n. told (sym f ∙ n)) ∙ f) e.so

-- a sound kernel that finishes leaves a storage
pub sound_leaves : (a : Arithmetic) (order : ℕ) (kernel : Kernel) (store : Store) (given arrays : Arrays) (turns : LoopKind → ℕ)
    → Ends a order kernel given (IsSoundOutcome a.zero store) → go a order kernel given most_turns ≡ Finished arrays turns
    → LeavesStorage a.zero store arrays
sound_leaves a order kernel store given arrays turns e f = sound_at a order kernel store given (Finished arrays turns) e f (λ n. cc)

-- and is never stuck
pub never_stuck : (a : Arithmetic) (order : ℕ) (kernel : Kernel) (store : Store) (given : Arrays) (statement : ℕ)
    → Ends a order kernel given (IsSoundOutcome a.zero store) → go a order kernel given most_turns ≡ GotStuck statement → ⊥
never_stuck a order kernel store given statement e f = sound_at a order kernel store given (GotStuck statement) e f (λ n. cc)
