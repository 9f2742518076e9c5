-- That the text of each kernel is read as that kernel.
use Rattle.std.specs.Prelude.{◌≡◌, ◌≢◌, ℕ, zero, suc, ◌⊎◌, List, [], ◌∷◌, ◌++◌, codes, Option, None, Some, Result, Ok, Err, refl}
use Rattle.std.specs.declared.alloc.AllocError.{AllocError}
use Rattle.std.proofs.Common.{◌∙◌, ap, sym, append_assoc, inl, inr}
use Rattle.std.proofs.lemmas.List.{append-nil}
use Rattle.kernel_code.specs.declared.syntax.Kernel.{Kernel}
use Rattle.kernel_code.specs.declared.syntax.KernelSemiring.{KernelSemiring}
use Rattle.kernel_code.specs.declared.syntax.KernelSemiring.TheVariants.{Ring, Named}
use Rattle.kernel_print.specs.Text.{head_text, kernel_text, lists_text, statements_text, workspaces_text}
use Rattle.kernel_print.proofs.KernelTexts.{texts_tell_kernels}
use Rattle.kernel_read.specs.Answers.{IsAnswer, IsAnswerFrom}
use Rattle.kernel_read.specs.Brackets.{open_behind}
use Rattle.kernel_read.specs.Kernels.{AreComments, HasNoComment, IsComment, IsDeep, IsReadable}
use Rattle.kernel_read.specs.ReadBack.{KernelsAreReadBack}
use Rattle.kernel_read.specs.declared.fault.KernelFault.{KernelFault}
use Rattle.kernel_read.specs.declared.fault.KernelFault.TheVariants as f
use Rattle.kernel_read.proofs.BracketLaws.{none_stays}
use Rattle.kernel_read.proofs.Fronts.{apart}
use Rattle.kernel_read.proofs.LineCuts.{cut_line}
use Rattle.kernel_read.proofs.ReadLines.{open_both}

-- the first of some comments, and the others
abbrev FirstComment : ℕ → List ℕ → Type 0
FirstComment n comments =
    (line : List ℕ) × ((rest : List ℕ) × (IsComment line × (AreComments n rest × (comments ≡ line ++ rest))))

first_comment : (n : ℕ) (comments : List ℕ) → AreComments (suc n) comments → FirstComment n comments
first_comment zero comments are =
    (are.1.0, ([], (are.1.1.1.0, (refl, are.1.1.1.1 ∙ ap (λ (t : List ℕ). t ++ are.1.0) are.1.1.0 ∙ sym (append-nil are.1.0)))))
first_comment (suc n) comments are =
    let first = first_comment n are.0 are.1.1.0 in (
      first.0,
      (
        first.1.0 ++ are.1.0,
        (
          first.1.1.0,
          (
            (first.1.0, (are.1.0, (first.1.1.1.0, (are.1.1.1.0, refl)))),
            are.1.1.1.1 ∙ ap (λ (t : List ℕ). t ++ are.1.0) first.1.1.1.1 ∙ append_assoc first.0 first.1.0 are.1.0,
          ),
        ),
      ),
    )

-- a text is parted from the comments in front in one way
one_text : (n m : ℕ) (comments comments' text text' : List ℕ) → AreComments n comments → AreComments m comments' → HasNoComment text
    → HasNoComment text' → comments ++ text ≡ comments' ++ text' → text ≡ text'
one_text zero zero comments comments' text text' are are' none none' same =
    ap (λ (t : List ℕ). t ++ text) (sym are) ∙ same ∙ ap (λ (t : List ℕ). t ++ text') are'
one_text zero (suc m) comments comments' text text' are are' none none' same =
    let first = first_comment m comments' are' in
    absurd (none first.0 (first.1.0 ++ text') first.1.1.0
    (ap (λ (t : List ℕ). t ++ text) (sym are) ∙ same ∙ ap (λ (t : List ℕ). t ++ text') first.1.1.1.1
    ∙ append_assoc first.0 first.1.0 text'))
one_text (suc n) zero comments comments' text text' are are' none none' same =
    let first = first_comment n comments are in
    absurd (none' first.0 (first.1.0 ++ text) first.1.1.0
    (ap (λ (t : List ℕ). t ++ text') (sym are') ∙ sym same ∙ ap (λ (t : List ℕ). t ++ text) first.1.1.1.1
    ∙ append_assoc first.0 first.1.0 text))
one_text (suc n) (suc m) comments comments' text text' are are' none none' same =
    let first = first_comment n comments are in
    let first' = first_comment m comments' are' in
    let rest = cut_line first.0 first'.0 (first.1.0 ++ text) (first'.1.0 ++ text') first.1.1.0.0 first'.1.1.0.0
    (sym (append_assoc first.0 first.1.0 text) ∙ ap (λ (t : List ℕ). t ++ text) (sym first.1.1.1.1) ∙ same
    ∙ ap (λ (t : List ℕ). t ++ text') first'.1.1.1.1 ∙ append_assoc first'.0 first'.1.0 text') in
    one_text n m first.1.0 first'.1.0 text text' first.1.1.1.0 first'.1.1.1.0 none none' rest.1

-- no kernel's text begins with a comment
no_comment : (semiring : KernelSemiring) (rest : List ℕ) → HasNoComment (head_text semiring ++ rest)
no_comment Ring rest line behind comment same =
    apart (same ∙ ap (λ (t : List ℕ). t ++ behind) comment.1.1) refl
no_comment (Named name) rest line behind comment same =
    apart (same ∙ ap (λ (t : List ℕ). t ++ behind) comment.1.1) refl

-- a text that is too deep somewhere is so as a whole
deep_whole : (text : List ℕ) (lines : ℕ) → IsDeep text lines → open_behind (Some 0) text ≡ None
deep_whole text lines deep =
    let before = deep.0 in
    let piece = deep.1.0 in
    let reached = deep.1.1.0 in
    ap (open_behind (Some 0)) (reached.parts ∙ sym (append_assoc before piece reached.behind))
    ∙ open_both (Some 0) (before ++ piece) reached.behind
    ∙ ap (λ (o : Option ℕ). open_behind o reached.behind) deep.1.1.1
    ∙ none_stays reached.behind

abbrev Answered : Kernel → Result Kernel KernelFault → Type 0
Answered kernel answer = (answer ≡ Ok kernel) ⊎ ((error : AllocError) × (answer ≡ Err (f.Memory error)))

answered : (kernel : Kernel) (skipped : ℕ) (text : List ℕ) (answer : Result Kernel KernelFault) → IsReadable kernel
    → open_behind (Some 0) (kernel_text kernel) ≢ None → kernel_text kernel ≡ text → IsAnswerFrom skipped text answer
    → Answered kernel answer
answered kernel skipped text (Ok read) readable shallow same told =
    inl (ap (λ (k : Kernel). Ok k) (texts_tell_kernels read kernel told.0.words readable.words (told.1.0 ∙ sym same)))
answered kernel skipped text (Err (f.KernelDepth line)) readable shallow same told =
    absurd (shallow (ap (open_behind (Some 0)) same ∙ deep_whole text told.0 told.1.1))
answered kernel skipped text (Err (f.BadKernel line)) readable shallow same told =
    absurd (told.1.1.1.1.1.1.1 kernel readable same)
answered kernel skipped text (Err (f.Memory error)) readable shallow same told = inr (error, refl)

pub kernels_are_read_back : KernelsAreReadBack
kernels_are_read_back kernel lines comments answer readable shallow are told =
    let behind = told.1.1.1 in
    answered kernel told.1.1.0 told.1.0 answer readable shallow
    (one_text lines told.1.1.0 comments told.0 (kernel_text kernel) told.1.0 are behind.1.0
    (no_comment kernel.semiring (workspaces_text 0 kernel.workspaces
    ++ (lists_text 0 kernel.lists ++ (statements_text 1 kernel.body ++ codes "}\n")))) behind.1.1.0
    behind.0) behind.1.1.1
