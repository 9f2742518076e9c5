-- What was read of a kernel so far, and with which lines it goes on.
use Rattle.std.specs.Prelude.{◌≡◌, ℕ, suc, ◌≤◌, Bool, true, false, List, [], ◌∷◌, ◌++◌, length, ◌⊎◌}
use Rattle.std.specs.Prelude.{Option, MatchOption, None, Some}
use Rattle.kernel_code.specs.declared.syntax.Kernel.{Kernel}
use Rattle.kernel_code.specs.declared.syntax.KernelSemiring.{KernelSemiring}
use Rattle.kernel_code.specs.declared.syntax.KernelSemiring.TheVariants.{Ring, Named}
use Rattle.kernel_code.specs.declared.syntax.KExpr.{KExpr}
use Rattle.kernel_code.specs.declared.syntax.KStmt.{KStmt}
use Rattle.kernel_print.specs.ArrayNames.{IsWord}
use Rattle.kernel_print.specs.KernelTexts.{AreWords}
use Rattle.kernel_print.specs.Text.{head_text, kernel_text, lists_text, workspaces_text}
use Rattle.kernel_read.specs.Blocks.{BlocksFit, CodeFits, IsEnded, IsThen, blocks_text, closed}
use Rattle.kernel_read.specs.Heads.{list_line, workspace_line}
use Rattle.kernel_read.specs.Kernels.{HaveFewKeys, IsKnown, IsReadable}
use Rattle.kernel_read.specs.Lines.{LineFits, line_text}
use Rattle.kernel_read.specs.declared.blocks.Block.{Block}
use Rattle.kernel_read.specs.declared.blocks.Opening.{Opening}
use Rattle.kernel_read.specs.declared.blocks.Opening.TheVariants as o
use Rattle.kernel_read.specs.declared.drafts.Draft.{Draft}
use Rattle.kernel_read.specs.declared.lines.Line.{Line}
use Rattle.kernel_read.specs.declared.lines.Line.TheVariants as a
use Rattle.kernel_read.specs.declared.progress.Progress.{Progress}
use Rattle.kernel_read.specs.declared.progress.Progress.TheVariants as p

-- sums and products of values stand in kernels over another semiring than the ring
abbrev pub has_sums : KernelSemiring → Bool
has_sums Ring = false
has_sums (Named name) = true

-- a kernel of which the first line was read
abbrev pub new_draft : KernelSemiring → Draft
new_draft semiring = record { semiring = semiring; workspaces = []; lists = 0; outer = []; code = [] }

-- the lines that were read, behind the first one
abbrev pub draft_text : Draft → List ℕ
draft_text d = workspaces_text 0 d.workspaces ++ (lists_text 0 d.lists ++ blocks_text 1 d.outer d.code)

pub record DraftFits (d : Draft) : Type 0 where
  pub known : IsKnown d.semiring
  pub keys : AreWords d.workspaces
  pub few : HaveFewKeys d.workspaces
  pub workspaces : IsWord (length d.workspaces)
  pub lists : IsWord d.lists
  pub outer : BlocksFit (has_sums d.semiring) d.outer
  pub code : CodeFits (has_sums d.semiring) d.code

-- a workspace or a scratch list may still come
abbrev pub IsFront : Draft → Type 0
IsFront d = (d.outer ≡ []) × (d.code ≡ [])

-- so many keys the next workspace has, where this is its line
abbrev pub KeysIn : Draft → List ℕ → Option ℕ → Type 0
KeysIn d line answer =
    MatchOption answer
    ((keys : ℕ) → d.lists ≡ 0 → IsWord (suc (length d.workspaces)) → IsWord keys → keys ≤ 6
    → line ≡ workspace_line (length d.workspaces) keys → ⊥)
    (λ keys. (d.lists ≡ 0) × (IsWord (suc (length d.workspaces)) × (IsWord keys × ((keys ≤ 6)
    × (line ≡ workspace_line (length d.workspaces) keys)))))

-- so many scratch lists there are with the next one, where this is its line
abbrev pub ListsIn : Draft → List ℕ → Option ℕ → Type 0
ListsIn d line answer =
    MatchOption answer (IsWord (suc d.lists) → line ≡ list_line d.lists → ⊥)
    (λ lists. (lists ≡ suc d.lists) × (IsWord lists × (line ≡ list_line d.lists)))

-- the draft with other blocks
abbrev pub with_body : Draft → List Block → List KStmt → Draft
with_body d outer code =
    record { semiring = d.semiring; workspaces = d.workspaces; lists = d.lists; outer = outer; code = code }

abbrev pub block_of : List KStmt → Opening → Block
block_of before opening = record { before = before; opening = opening }

abbrev pub kernel_of : Draft → Kernel
kernel_of d = record { semiring = d.semiring; workspaces = d.workspaces; lists = d.lists; body = d.code }

-- a block that begins so is open too
abbrev pub opened : Draft → Opening → Draft
opened d opening = with_body d (d.outer ++ (block_of d.code opening ∷ [])) []

-- the innermost block is around these, and is this one
abbrev pub IsInnermost : Draft → List Block → Block → Type 0
IsInnermost d around b = d.outer ≡ around ++ (b ∷ [])

-- the second body of an `if` begins, where the innermost block is the first one
abbrev pub BeginsSecond : Draft → Option Progress → Type 0
BeginsSecond d answer =
    MatchOption answer ((around : List Block) (b : Block) → IsInnermost d around b → IsThen b.opening → ⊥)
    (λ next. (around : List Block) × ((before : List KStmt) × ((e : KExpr) × (IsInnermost d around (block_of before (o.Then e))
    × (next ≡ p.Inside (with_body d (around ++ (block_of before (o.Second e d.code) ∷ [])) []))))))

-- the innermost block ends, or the kernel where none is open
abbrev pub Ended : Draft → Progress → Type 0
Ended d p.Start = ⊥
Ended d (p.Inside next) =
    (around : List Block) × ((b : Block) × (IsInnermost d around b × (IsEnded b.opening
    × (next ≡ with_body d around (b.before ++ (closed b.opening d.code ∷ []))))))
Ended d (p.Done k) = (d.outer ≡ []) × (k ≡ kernel_of d)

-- the first body of an `if` doesn't end so
abbrev pub EndsBlock : Draft → Option Progress → Type 0
EndsBlock d answer =
    MatchOption answer ((around : List Block) × ((b : Block) × (IsInnermost d around b × IsThen b.opening))) (Ended d)

-- what a draft becomes with a line of a body
abbrev pub IsStep : Draft → Line → Option Progress → Type 0
IsStep d (a.Whole s) answer = answer ≡ Some (p.Inside (with_body d d.outer (d.code ++ (s ∷ []))))
IsStep d (a.If e) answer = answer ≡ Some (p.Inside (opened d (o.Then e)))
IsStep d (a.While k e) answer = answer ≡ Some (p.Inside (opened d (o.Loop k e)))
IsStep d a.Else answer = BeginsSecond d answer
IsStep d a.Close answer = EndsBlock d answer

-- and with a line of its own body
abbrev pub IsBodyStep : Draft → List ℕ → Option Progress → Type 0
IsBodyStep d line answer =
    ((x : Line) × (LineFits (has_sums d.semiring) x × ((line ≡ line_text (length d.outer) x) × IsStep d x answer)))
    ⊎ ((answer ≡ None) × ((x : Line) → LineFits (has_sums d.semiring) x → line ≡ line_text (length d.outer) x → ⊥))

-- the lines that were read so far
abbrev pub progress_text : Progress → List ℕ
progress_text p.Start = []
progress_text (p.Inside d) = head_text d.semiring ++ draft_text d
progress_text (p.Done k) = kernel_text k

abbrev pub ProgressFits : Progress → Type 0
ProgressFits p.Start = Unit {0}
ProgressFits (p.Inside d) = DraftFits d
ProgressFits (p.Done k) = IsReadable k

-- what was read goes on with a line, or no kernel's text begins with both
abbrev pub Follows : Progress → List ℕ → Option Progress → Type 0
Follows before line answer =
    MatchOption answer
    ((kernel : Kernel) (more : List ℕ) → IsReadable kernel → kernel_text kernel ≡ progress_text before ++ (line ++ more) → ⊥)
    (λ next. ProgressFits next × (progress_text next ≡ progress_text before ++ line))
