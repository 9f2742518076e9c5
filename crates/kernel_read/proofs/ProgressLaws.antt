-- How the text of a kernel goes on behind what was read of it.
use Rattle.std.specs.Prelude.{◌≡◌, ℕ, ◌⊎◌, Bool, false, List, [], ◌∷◌, ◌++◌, codes, drop, length, refl}
use Rattle.std.specs.Prelude.{Some, None}
use Rattle.std.proofs.Common.{◌∙◌, ap, sym, subst, append_assoc, arith, inl, inr}
use Rattle.std.proofs.lemmas.List.{append-nil}
use Rattle.kernel_code.specs.declared.syntax.Kernel.{Kernel}
use Rattle.kernel_code.specs.declared.syntax.KernelSemiring.{KernelSemiring}
use Rattle.kernel_code.specs.declared.syntax.KernelSemiring.TheVariants.{Ring}
use Rattle.kernel_print.specs.Text.{head_text, kernel_text, lists_text, statements_text, workspaces_text}
use Rattle.kernel_read.specs.Blocks.{all_closings, blocks_text, whole}
use Rattle.kernel_read.specs.Drafts.{DraftFits, Follows, ProgressFits, draft_text, has_sums, new_draft, progress_text}
use Rattle.kernel_read.specs.Feeds.{HasNoFeed}
use Rattle.kernel_read.specs.Heads.{list_line, workspace_line}
use Rattle.kernel_read.specs.Kernels.{BeginsKernel, IsKnown, IsReadable}
use Rattle.kernel_read.specs.Lines.{IsLine, IsOpening, line_text}
use Rattle.kernel_read.specs.declared.blocks.Block.{Block}
use Rattle.kernel_read.specs.declared.drafts.Draft.{Draft}
use Rattle.kernel_read.specs.declared.lines.Line.{Line}
use Rattle.kernel_read.specs.declared.lines.Line.TheVariants as a
use Rattle.kernel_read.specs.declared.progress.Progress.{Progress}
use Rattle.kernel_read.specs.declared.progress.Progress.TheVariants as p
use Rattle.kernel_read.proofs.BlockTexts.{nothing_fits, whole_fits, whole_text}
use Rattle.kernel_read.proofs.Bodies.{innermost, inner_depth}
use Rattle.kernel_read.proofs.DraftLines.{NextLine, body_is_fit, less_word, next_line}
use Rattle.kernel_read.proofs.DraftSteps.{kernel_fits}
use Rattle.kernel_read.proofs.Fronts.{apart}
use Rattle.kernel_read.proofs.LineCuts.{cut_line, no_line_in}
use Rattle.kernel_read.proofs.LineTexts.{head_is_line, is_line, list_is_line, workspace_is_line}

-- a first line
pub start_follows : (semiring : KernelSemiring) (line : List ℕ) → IsKnown semiring → line ≡ head_text semiring
    → Follows p.Start line (Some (p.Inside (new_draft semiring)))
start_follows semiring line known is = (
  record {
    known = known;
    keys = tt;
    few = tt;
    workspaces = omega arith;
    lists = omega arith;
    outer = tt;
    code = nothing_fits (has_sums semiring);
  },
  append-nil (head_text semiring) ∙ sym is,
)

pub start_refuses : (line : List ℕ) → IsLine line → ((s : KernelSemiring) → IsKnown s → line ≡ head_text s → ⊥) → Follows p.Start line None
start_refuses line is none kernel more readable same =
    let behind : List ℕ = workspaces_text 0 kernel.workspaces ++ (lists_text 0 kernel.lists
    ++ (statements_text 1 kernel.body ++ codes "}\n")) in
    none kernel.semiring readable.known
    (sym (cut_line (head_text kernel.semiring) line behind more (head_is_line kernel.semiring readable.known) is same).0)

-- the draft of a whole kernel, but for its last line
abbrev draft_of : Kernel → Draft
draft_of k = record { semiring = k.semiring; workspaces = k.workspaces; lists = k.lists; outer = []; code = k.body }

draft_fits : (k : Kernel) → IsReadable k → DraftFits (draft_of k)
draft_fits k readable = record {
  known = readable.known;
  keys = readable.words.keys;
  few = readable.keys;
  workspaces = readable.words.workspaces;
  lists = readable.words.lists;
  outer = tt;
  code = body_is_fit k readable;
}

last_line : (k : Kernel) (rest : List ℕ)
    → kernel_text k ++ rest ≡ (head_text k.semiring ++ draft_text (draft_of k)) ++ (codes "}\n" ++ rest)
last_line k rest =
    pieces (head_text k.semiring) (workspaces_text 0 k.workspaces) (lists_text 0 k.lists) (statements_text 1 k.body)
  where
    pieces : (h w l b : List ℕ)
        → (h ++ (w ++ (l ++ (b ++ codes "}\n")))) ++ rest ≡ (h ++ (w ++ (l ++ b))) ++ (codes "}\n" ++ rest)
    pieces h w l b = simp append_assoc

no_more : (combines : Bool) (outer : List Block) (line : Line) (more rest : List ℕ) → outer ≡ []
    → codes "}\n" ++ rest ≡ line_text 0 line ++ more
    → IsOpening combines line ⊎ ((line ≡ innermost a.Close outer) × (outer ≡ [] → more ≡ [])) → rest ≡ []
no_more combines outer (a.Whole s) more rest none same allowed = absurd (apart same refl)
no_more combines outer (a.If e) more rest none same allowed = absurd (apart same refl)
no_more combines outer (a.While k e) more rest none same allowed = absurd (apart same refl)
no_more combines outer a.Else more rest none same allowed = absurd (apart (ap (drop 1) same) refl)
no_more combines outer a.Close more rest none same (inl opens) = absurd opens
no_more combines outer a.Close more rest none same (inr ends) = ap (drop 2) same ∙ ends.1 none

nothing_behind : (d : Draft) (rest : List ℕ) → d.outer ≡ [] → NextLine d (codes "}\n" ++ rest) → rest ≡ []
nothing_behind d rest none (inl (no_lists, (front, (keys, (more, (many, (word, (few, same)))))))) = absurd (apart same refl)
nothing_behind d rest none (inr (inl (front, (more, (word, same))))) = absurd (apart same refl)
nothing_behind d rest none (inr (inr next)) =
    no_more (has_sums d.semiring) d.outer next.line next.more rest none
    (next.goes_on ∙ ap (λ (outer : List Block). line_text (inner_depth 0 outer) next.line ++ next.more) none) next.allowed

-- nothing stands behind a kernel
pub all_told : (k kernel : Kernel) (rest : List ℕ) → IsReadable k → IsReadable kernel
    → kernel_text kernel ≡ kernel_text k ++ rest → rest ≡ []
all_told k kernel rest readable readable' same =
    nothing_behind (draft_of k) rest refl
    (next_line (draft_of k) kernel (codes "}\n" ++ rest) (draft_fits k readable) readable' (same ∙ last_line k rest))

some_line : (line more : List ℕ) → IsLine line → line ++ more ≡ [] → ⊥
some_line [] more is same = is
some_line (byte ∷ line) more is same = cc

pub done_refuses : (k : Kernel) (line : List ℕ) → IsReadable k → IsLine line → Follows (p.Done k) line None
done_refuses k line readable is kernel more readable' same =
    some_line line more is (all_told k kernel (line ++ more) readable readable' same)

-- and no piece of a line stands behind a part of one
abbrev pub IsDone : Progress → Type 0
IsDone p.Start = ⊥
IsDone (p.Inside d) = ⊥
IsDone (p.Done k) = Unit {0}

next_feeds : (d : Draft) (piece : List ℕ) → DraftFits d → HasNoFeed piece → NextLine d piece → ⊥
next_feeds d piece fits none (inl (no_lists, (front, (keys, (more, (many, (word, (few, same)))))))) =
    no_line_in piece (workspace_line (length d.workspaces) keys) more none
    (workspace_is_line (length d.workspaces) keys (less_word (length d.workspaces) many) word) same
next_feeds d piece fits none (inr (inl (front, (more, (word, same))))) =
    no_line_in piece (list_line d.lists) more none (list_is_line d.lists (less_word d.lists word)) same
next_feeds d piece fits none (inr (inr next)) =
    no_line_in piece (line_text (inner_depth 0 d.outer) next.line) next.more none
    (is_line (has_sums d.semiring) (inner_depth 0 d.outer) next.line next.fits) next.goes_on

pub piece_ends : (progress : Progress) (piece : List ℕ) (kernel : Kernel) → ProgressFits progress → HasNoFeed piece → IsReadable kernel
    → kernel_text kernel ≡ progress_text progress ++ piece → IsDone progress × (piece ≡ [])
piece_ends p.Start piece kernel fits none readable same =
    absurd (no_line_in piece (head_text kernel.semiring) (workspaces_text 0 kernel.workspaces ++ (lists_text 0 kernel.lists
    ++ (statements_text 1 kernel.body ++ codes "}\n"))) none (head_is_line kernel.semiring readable.known) (sym same))
piece_ends (p.Inside d) piece kernel fits none readable same =
    absurd (next_feeds d piece fits none (next_line d kernel piece fits readable same))
piece_ends (p.Done k) piece kernel fits none readable same = (tt, all_told k kernel piece fits readable same)

-- the same of what is read so far
pub started : (progress : Progress) (d : Draft) (semiring : KernelSemiring) (line : List ℕ) → progress ≡ p.Start → d ≡ new_draft semiring
    → IsKnown semiring × (line ≡ head_text semiring) → Follows progress line (Some (p.Inside d))
started progress d semiring line is told known =
    subst (λ (x : Progress). Follows x line (Some (p.Inside d))) (sym is)
    (subst (λ (x : Draft). Follows p.Start line (Some (p.Inside x))) (sym told) (start_follows semiring line known.0 known.1))

pub not_started : (progress : Progress) (line : List ℕ) → progress ≡ p.Start → IsLine line
    → ((s : KernelSemiring) → IsKnown s → line ≡ head_text s → ⊥) → Follows progress line None
not_started progress line is one none = subst (λ (x : Progress). Follows x line None) (sym is) (start_refuses line one none)

pub was_done : (progress : Progress) (k : Kernel) (line : List ℕ) → progress ≡ p.Done k → ProgressFits progress → IsLine line
    → Follows progress line None
was_done progress k line is fits one =
    subst (λ (x : Progress). Follows x line None) (sym is) (done_refuses k line (subst ProgressFits is fits) one)

-- the text of a kernel begins with what was read
abbrev empty_kernel : Kernel
empty_kernel = record { semiring = Ring; workspaces = []; lists = 0; body = [] }

abbrev whole_kernel : Draft → Kernel
whole_kernel d = record { semiring = d.semiring; workspaces = d.workspaces; lists = d.lists; body = whole d.outer d.code }

pub begins : (progress : Progress) → ProgressFits progress → BeginsKernel (progress_text progress)
begins p.Start fits = (
  empty_kernel,
  (
    kernel_text empty_kernel,
    (kernel_fits Ring [] 0 [] tt tt tt (omega arith) (omega arith) (nothing_fits false), refl),
  ),
)
begins (p.Inside d) fits = (
  whole_kernel d,
  (
    all_closings 1 d.outer ++ codes "}\n",
    (
      kernel_fits d.semiring d.workspaces d.lists (whole d.outer d.code) fits.known fits.keys fits.few fits.workspaces fits.lists
          (whole_fits (has_sums d.semiring) d.outer d.code fits.outer fits.code),
      ap (λ (t : List ℕ). head_text d.semiring ++ (workspaces_text 0 d.workspaces ++ (lists_text 0 d.lists ++ (t ++ codes "}\n"))))
          (whole_text d.outer d.code 1)
          ∙ pieces (head_text d.semiring) (workspaces_text 0 d.workspaces) (lists_text 0 d.lists) (blocks_text 1 d.outer d.code)
          (all_closings 1 d.outer),
    ),
  ),
)
  where
    pieces : (h w l b c : List ℕ)
        → h ++ (w ++ (l ++ ((b ++ c) ++ codes "}\n"))) ≡ (h ++ (w ++ (l ++ b))) ++ (c ++ codes "}\n")
    pieces h w l b c = simp append_assoc
begins (p.Done k) fits = (k, ([], (fits, sym (append-nil (kernel_text k)))))
