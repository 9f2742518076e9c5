-- Which kernels may be read, which texts are theirs, and at which line a text is none of them.
use Rattle.std.specs.Prelude.{◌≡◌, ◌≢◌, ℕ, zero, suc, ◌≤◌, ◌⊎◌, List, [], ◌∷◌, ◌++◌, codes, Some, None}
use Rattle.kernel_code.specs.Semirings.{IsWellFormed}
use Rattle.kernel_code.specs.declared.syntax.Kernel.{Kernel}
use Rattle.kernel_code.specs.declared.syntax.KernelSemiring.{KernelSemiring}
use Rattle.kernel_code.specs.declared.syntax.KernelSemiring.TheVariants.{Ring, Named}
use Rattle.kernel_print.specs.KernelTexts.{KernelHasWords}
use Rattle.kernel_print.specs.Text.{kernel_text}
use Rattle.kernel_read.specs.Brackets.{open_behind}
use Rattle.kernel_read.specs.Feeds.{HasNoFeed}
use Rattle.kernel_read.specs.Lines.{IsLine}

-- the semirings that a first line may name
abbrev pub IsKnown : KernelSemiring → Type 0
IsKnown Ring = Unit {0}
IsKnown (Named name) = (name ≡ codes "minplus") ⊎ (name ≡ codes "bits")

-- a workspace has at most six keys
abbrev pub HaveFewKeys : List ℕ → Type 0
HaveFewKeys [] = Unit {0}
HaveFewKeys (keys ∷ rest) = (keys ≤ 6) × HaveFewKeys rest

-- a kernel that may be read: its numbers are words, its semiring is known, its workspaces have few keys, and over the ring it has no
-- sum or product of values
pub record IsReadable (kernel : Kernel) : Type 0 where
  pub words : KernelHasWords kernel
  pub known : IsKnown kernel.semiring
  pub keys : HaveFewKeys kernel.workspaces
  pub formed : IsWellFormed kernel

-- the text of a kernel begins so
abbrev pub BeginsKernel : List ℕ → Type 0
BeginsKernel text = (kernel : Kernel) × ((rest : List ℕ) × (IsReadable kernel × (kernel_text kernel ≡ text ++ rest)))

-- a text of so many lines
abbrev pub AreLines : ℕ → List ℕ → Type 0
AreLines zero text = text ≡ []
AreLines (suc n) text =
    (front : List ℕ) × ((line : List ℕ) × (AreLines n front × (IsLine line × (text ≡ front ++ line))))

-- a line that begins with two slashes
abbrev pub IsComment : List ℕ → Type 0
IsComment line = IsLine line × ((rest : List ℕ) × (line ≡ codes "//" ++ rest))

-- so many of them
abbrev pub AreComments : ℕ → List ℕ → Type 0
AreComments zero text = text ≡ []
AreComments (suc n) text =
    (front : List ℕ) × ((line : List ℕ) × (AreComments n front × (IsComment line × (text ≡ front ++ line))))

-- none is the first line of a text
abbrev pub HasNoComment : List ℕ → Type 0
HasNoComment text = (line behind : List ℕ) → IsComment line → text ≡ line ++ behind → ⊥

-- a line that stands before what is left of a text, or what is left behind its last line feed, which is nothing where the text ends there
abbrev pub IsPiece : List ℕ → List ℕ → Type 0
IsPiece piece behind = IsLine piece ⊎ (HasNoFeed piece × (behind ≡ []))

-- the piece of a text behind so many lines, and none of the lines before it opens a bracket while 4,096 are open
pub record Reaches (text before piece : List ℕ) (lines : ℕ) : Type 0 where
  pub behind : List ℕ
  pub parts : text ≡ before ++ (piece ++ behind)
  pub lines_are : AreLines lines before
  pub is_piece : IsPiece piece behind
  pub begins : BeginsKernel before
  pub shallow : open_behind (Some 0) before ≢ None

-- The line behind so many others is the first one with which no kernel's text begins: the text of a kernel begins with those before,
-- and none with this one, which may be no line for want of its line feed. No bracket is opened too deep up to its end.
abbrev pub IsBad : List ℕ → ℕ → Type 0
IsBad text lines =
    (before : List ℕ) × ((piece : List ℕ) × (Reaches text before piece lines × ((IsLine piece → BeginsKernel (before ++ piece) → ⊥)
    × ((open_behind (Some 0) (before ++ piece) ≢ None) × ((kernel : Kernel) → IsReadable kernel → kernel_text kernel ≢ text)))))

-- The line behind so many others opens a bracket while 4,096 are open, and is the first one that does; the text of a kernel begins
-- with those before.
abbrev pub IsDeep : List ℕ → ℕ → Type 0
IsDeep text lines =
    (before : List ℕ) × ((piece : List ℕ) × (Reaches text before piece lines × (open_behind (Some 0) (before ++ piece) ≡ None)))
