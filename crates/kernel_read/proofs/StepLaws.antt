-- What stands in front of a text.
use Rattle.std.specs.Prelude.{◌≡◌, ℕ, ◌<◌, List, [], ◌++◌, length, take, drop, None, Some, refl}
use Rattle.std.proofs.Common.{◌∙◌, ap, sym, arith, inl, inr}
use Rattle.std.proofs.lemmas.List.{append-nil, take-append-drop}
use Rattle.kernel_read.specs.Answers.{EndFinds, StepFinds}
use Rattle.kernel_read.specs.Brackets.{open_behind}
use Rattle.kernel_read.specs.Drafts.{Follows, ProgressFits, progress_text}
use Rattle.kernel_read.specs.Feeds.{HasNoFeed}
use Rattle.kernel_read.specs.Lines.{IsLine}
use Rattle.kernel_read.specs.declared.progress.Progress.{Progress}
use Rattle.kernel_read.specs.declared.steps.Step.{Step}
use Rattle.kernel_read.specs.declared.steps.Step.TheVariants as s
use Rattle.kernel_read.proofs.LineCuts.{no_line_in}
use Rattle.kernel_read.proofs.ProgressLaws.{piece_ends}

pub end_found : (before : Progress) (depth : ℕ) (text : List ℕ) (found : Step) → ProgressFits before → 0 < length text → HasNoFeed text
    → EndFinds depth text found → StepFinds before depth text found
end_found before depth text (s.Line next inside count) fits some none found = absurd found
end_found before depth text s.Deep fits some none found =
    (text, ([], (sym (append-nil text), (inr (none, refl), found))))
end_found before depth text s.Bad fits some none found = (
  text,
  (
    [],
    (
      sym (append-nil text),
      (
        inr (none, refl),
        (
          found,
          (
            (λ line. absurd (no_line_in text text [] none line (sym (append-nil text)))),
            λ kernel readable same. is_some (piece_ends before text kernel fits none readable same).1,
          ),
        ),
      ),
    ),
  ),
)
  where
    is_some : text ≡ [] → ⊥
    is_some same = let empty : length text ≡ 0 = ap length same in omega (arith, some, empty)

pub deep_found : (before : Progress) (depth count : ℕ) (text : List ℕ) → IsLine (take count text)
    → None ≡ open_behind (Some depth) (take count text) → StepFinds before depth text s.Deep
deep_found before depth count text line none =
    (take count text, (drop count text, (sym (take-append-drop count text), (inl line, sym none))))

some_none : {n : ℕ} → Some n ≡ None → ⊥
some_none same = cc

pub bad_found : (before : Progress) (depth inside count : ℕ) (text : List ℕ) → IsLine (take count text)
    → Some inside ≡ open_behind (Some depth) (take count text) → Follows before (take count text) None → StepFinds before depth text s.Bad
bad_found before depth inside count text line told follows = (
  take count text,
  (
    drop count text,
    (
      sym (take-append-drop count text),
      (
        inl line,
        (
          (λ none. some_none (told ∙ none)),
          (
            (λ is. follows),
            λ kernel readable same. follows kernel (drop count text) readable
                (same ∙ ap (λ (t : List ℕ). progress_text before ++ t) (sym (take-append-drop count text))),
          ),
        ),
      ),
    ),
  ),
)
