-- What code does from a state, with no bound on turns to be named: the rules of sequencing, of each statement and of loops.
use Rattle.std.specs.Prelude.{◌≡◌, ℕ, suc, ◌≤◌, List, Some}
use Rattle.kernel_code.specs.declared.syntax.Arr.{Arr}
use Rattle.kernel_code.specs.declared.syntax.LoopKind.{LoopKind}
use Rattle.kernel_code.specs.declared.syntax.KExpr.{KExpr}
use Rattle.kernel_code.specs.declared.syntax.KStmt.{KStmt}
use Rattle.kernel_code.specs.Meaning.{Setting, State, Outcome, Ended, Stuck, Over, More, value, one_turn, run_list}

-- what is said of a refused growth: of the turns made until then, the array, and the count that is told
abbrev pub Refusal : Type 1
Refusal = (LoopKind → ℕ) → Arr → ℕ → Type 0

-- P of the state that a run ends in, R of the growth that it is refused; never stuck, never out of turns
abbrev pub OnOutcome : (State → Type 0) → Refusal → Outcome → Type 0
OnOutcome P R (Ended s) = P s
OnOutcome P R (Stuck t statement) = ⊥
OnOutcome P R (Over t a count) = R t a count
OnOutcome P R More = ⊥

-- with enough turns for each loop the code ends so that P, or is refused a growth so that R
pub record Does (c : Setting) (code : List KStmt) (s : State) (P : State → Type 0) (R : Refusal) : Type 0 where
  pub enough : ℕ
  pub outcome : Outcome
  pub reached : (m : ℕ) → enough ≤ m → run_list c m code s ≡ outcome
  pub kept : OnOutcome P R outcome

-- code that is refused nothing
abbrev pub Never : Refusal
Never t a count = ⊥

-- what one test of a loop finds: it ends here, or a body run leads to a state with less to do
pub data Turn (c : Setting) (k : LoopKind) (e : KExpr) (body : List KStmt) (s : State) (Less : State → Type 0) (P : State → Type 0)
    (R : Refusal) : Type 0 where
  Ends : value e s ≡ Some 0 → P s → Turn c k e body s Less P R
  Goes : (v : ℕ) → value e s ≡ Some (suc v) → Does c body (one_turn s k) Less R → Turn c k e body s Less P R
