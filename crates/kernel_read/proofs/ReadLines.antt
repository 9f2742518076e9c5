-- A kernel's text read line by line.
use Rattle.std.specs.Prelude.{◌≡◌, ◌≢◌, ℕ, zero, suc, ◌+◌, ◌-◌, ◌<◌, ◌≤◌, List, [], ◌∷◌, ◌++◌, length, take, drop, Option, Some, None, refl}
use Rattle.std.proofs.Common.{◌∙◌, ap, sym, subst, append_assoc, arith, inr}
use Rattle.std.proofs.lemmas.List.{append-nil, length-drop, take-append-drop}
use Rattle.kernel_code.specs.declared.syntax.Kernel.{Kernel}
use Rattle.kernel_print.specs.Text.{kernel_text}
use Rattle.kernel_read.specs.Answers.{StepFinds}
use Rattle.kernel_read.specs.Brackets.{open_behind, open_with}
use Rattle.kernel_read.specs.Drafts.{ProgressFits, progress_text}
use Rattle.kernel_read.specs.Kernels.{AreLines, BeginsKernel, IsBad, IsDeep, IsPiece, IsReadable, Reaches}
use Rattle.kernel_read.specs.declared.progress.Progress.{Progress}
use Rattle.kernel_read.specs.declared.progress.Progress.TheVariants as p
use Rattle.kernel_read.specs.declared.steps.Step.{Step}
use Rattle.kernel_read.specs.declared.steps.Step.TheVariants as s
use Rattle.kernel_read.proofs.LineCuts.{line_counts, take_both}
use Rattle.kernel_read.proofs.ProgressLaws.{IsDone, begins, piece_ends}

-- so far a text was read up to a place
pub record ReadSoFar (text : List ℕ) (at lines depth : ℕ) (progress : Progress) : Type 0 where
  pub within : at ≤ length text
  pub few : lines ≤ at
  pub fits : ProgressFits progress
  pub told : progress_text progress ≡ take at text
  pub lines_are : AreLines lines (take at text)
  pub depth_is : open_behind (Some 0) (take at text) ≡ Some depth

pub nothing_read : (text : List ℕ) → ReadSoFar text 0 0 0 p.Start
nothing_read text = record { within = omega arith; few = omega arith; fits = tt; told = refl; lines_are = refl; depth_is = refl }

pub open_both : (depth : Option ℕ) (a b : List ℕ) → open_behind depth (a ++ b) ≡ open_behind (open_behind depth a) b
open_both depth [] b = refl
open_both depth (byte ∷ a) b = open_both (open_with depth byte) a b

some_none : {n : ℕ} → Some n ≡ None → ⊥
some_none same = cc

pub line_read : (text : List ℕ) (at lines depth : ℕ) (progress next : Progress) (inside count : ℕ)
    → ReadSoFar text at lines depth progress → StepFinds progress depth (drop at text) (s.Line next inside count)
    → ReadSoFar text (at + count) (lines + 1) inside next
line_read text at lines depth progress next inside count so_far found =
    let left = length-drop at text in
    let within = so_far.within in
    let few = so_far.few in
    let fits = found.0 in
    let some = line_counts count (drop at text) found.1.0 in
    let both = take_both at count text within in
    let one : lines + 1 ≡ suc lines = omega arith in record {
      within = omega (arith, left, within, fits);
      few = omega (arith, few, some);
      fits = found.1.1.0;
      told = found.1.1.1.0 ∙ ap (λ (t : List ℕ). t ++ take count (drop at text)) so_far.told ∙ sym both;
      lines_are =
          subst (λ (n : ℕ). AreLines n (take (at + count) text)) (sym one)
          (take at text, (take count (drop at text), (so_far.lines_are, (found.1.0, both))));
      depth_is =
          ap (open_behind (Some 0)) both ∙ open_both (Some 0) (take at text) (take count (drop at text))
          ∙ ap (λ (o : Option ℕ). open_behind o (take count (drop at text))) so_far.depth_is ∙ found.1.1.1.1;
    }

-- what stands at the place reached
reached : (text : List ℕ) (at lines depth : ℕ) (progress : Progress) (piece behind : List ℕ) → ReadSoFar text at lines depth progress
    → drop at text ≡ piece ++ behind → IsPiece piece behind → Reaches text (take at text) piece lines
reached text at lines depth progress piece behind so_far parts is = record {
  behind = behind;
  parts = sym (take-append-drop at text) ∙ ap (λ (t : List ℕ). take at text ++ t) parts;
  lines_are = so_far.lines_are;
  is_piece = is;
  begins = subst BeginsKernel so_far.told (begins progress so_far.fits);
  shallow = λ none. some_none (sym so_far.depth_is ∙ none);
}

opened : (text : List ℕ) (at lines depth : ℕ) (progress : Progress) (piece : List ℕ) → ReadSoFar text at lines depth progress
    → open_behind (Some 0) (take at text ++ piece) ≡ open_behind (Some depth) piece
opened text at lines depth progress piece so_far =
    open_both (Some 0) (take at text) piece ∙ ap (λ (o : Option ℕ). open_behind o piece) so_far.depth_is

pub deep_told : (text : List ℕ) (at lines depth : ℕ) (progress : Progress) → ReadSoFar text at lines depth progress
    → StepFinds progress depth (drop at text) s.Deep → IsDeep text lines
deep_told text at lines depth progress so_far found = (
  take at text,
  (
    found.0,
    (
      reached text at lines depth progress found.0 found.1.0 so_far found.1.1.0 found.1.1.1.0,
      opened text at lines depth progress found.0 so_far ∙ found.1.1.1.1,
    ),
  ),
)

pub bad_told : (text : List ℕ) (at lines depth : ℕ) (progress : Progress) → ReadSoFar text at lines depth progress
    → StepFinds progress depth (drop at text) s.Bad → IsBad text lines
bad_told text at lines depth progress so_far found =
    let piece = found.0 in (
      take at text,
      (
        piece,
        (
          reached text at lines depth progress piece found.1.0 so_far found.1.1.0 found.1.1.1.0,
          (
            λ line starts. found.1.1.1.1.1.0 line starts.0 starts.1.0 starts.1.1.0
                (starts.1.1.1 ∙ append_assoc (take at text) piece starts.1.0
                ∙ ap (λ (t : List ℕ). t ++ (piece ++ starts.1.0)) (sym so_far.told)),
            (
              λ none. found.1.1.1.1.0 (sym (opened text at lines depth progress piece so_far) ∙ none),
              λ kernel readable same. found.1.1.1.1.1.1 kernel readable
                  (same ∙ sym (take-append-drop at text) ∙ ap (λ (t : List ℕ). t ++ drop at text) (sym so_far.told)),
            ),
          ),
        ),
      ),
    )

-- the end of the text
take_all : (at : ℕ) (text : List ℕ) → length text ≤ at → take at text ≡ text
take_all zero [] h = refl
take_all zero (byte ∷ text) h = absurd (omega (arith, h))
take_all (suc at) [] h = refl
take_all (suc at) (byte ∷ text) h = ap (λ (t : List ℕ). byte ∷ t) (take_all at text (omega (arith, h)))

pub whole_told : (text : List ℕ) (at lines depth : ℕ) (kernel : Kernel) → length text ≤ at → ReadSoFar text at lines depth (p.Done kernel)
    → IsReadable kernel × ((kernel_text kernel ≡ text) × (open_behind (Some 0) text ≢ None))
whole_told text at lines depth kernel all so_far =
    let whole = take_all at text all in (
      so_far.fits,
      (
        so_far.told ∙ whole,
        λ none. some_none (sym so_far.depth_is ∙ ap (open_behind (Some 0)) whole ∙ none),
      ),
    )

pub early_told : (text : List ℕ) (at lines depth : ℕ) (progress : Progress) → length text ≤ at → ReadSoFar text at lines depth progress
    → (IsDone progress → ⊥) → IsBad text lines
early_told text at lines depth progress all so_far isnt =
    let whole = take_all at text all in
    let nothing : drop at text ≡ [] = drop_none at text all in (
      take at text,
      (
        [],
        (
          reached text at lines depth progress [] [] so_far nothing (inr (tt, refl)),
          (
            λ line starts. line,
            (
              λ none. some_none (sym so_far.depth_is ∙ sym (ap (open_behind (Some 0)) (append-nil (take at text))) ∙ none),
              λ kernel readable same. isnt (piece_ends progress [] kernel so_far.fits tt readable
                  (same ∙ sym whole ∙ sym so_far.told ∙ sym (append-nil (progress_text progress)))).0,
            ),
          ),
        ),
      ),
    )
  where
    drop_none : (n : ℕ) (xs : List ℕ) → length xs ≤ n → drop n xs ≡ []
    drop_none zero [] h = refl
    drop_none zero (x ∷ xs) h = absurd (omega (arith, h))
    drop_none (suc n) [] h = refl
    drop_none (suc n) (x ∷ xs) h = drop_none n xs (omega (arith, h))

-- the same of a step that was found
pub line_step : (text rest : List ℕ) (at lines depth : ℕ) (progress next : Progress) (inside count : ℕ) (found : Step) → rest ≡ drop at text
    → found ≡ s.Line next inside count → ReadSoFar text at lines depth progress → StepFinds progress depth rest found
    → ReadSoFar text (at + count) (lines + 1) inside next
line_step text rest at lines depth progress next inside count found is told so_far step =
    line_read text at lines depth progress next inside count so_far
    (subst (λ (t : List ℕ). StepFinds progress depth t (s.Line next inside count)) is (subst (StepFinds progress depth rest) told step))

pub line_smaller : (text rest : List ℕ) (at lines depth : ℕ) (progress next : Progress) (inside count : ℕ) (found : Step)
    → rest ≡ drop at text → found ≡ s.Line next inside count → ReadSoFar text at lines depth progress
    → StepFinds progress depth rest found → length text - (at + count) < length text - at
line_smaller text rest at lines depth progress next inside count found is told so_far step =
    let whole = subst (StepFinds progress depth rest) told step in
    let some = line_counts count rest whole.1.0 in
    let further = line_step text rest at lines depth progress next inside count found is told so_far step in
    let within = further.within in
    omega (arith, some, within)

pub deep_step : (text rest : List ℕ) (at lines depth : ℕ) (progress : Progress) (found : Step) → rest ≡ drop at text → found ≡ s.Deep
    → ReadSoFar text at lines depth progress → StepFinds progress depth rest found → IsDeep text lines
deep_step text rest at lines depth progress found is told so_far step =
    deep_told text at lines depth progress so_far
    (subst (λ (t : List ℕ). StepFinds progress depth t s.Deep) is (subst (StepFinds progress depth rest) told step))

pub bad_step : (text rest : List ℕ) (at lines depth : ℕ) (progress : Progress) (found : Step) → rest ≡ drop at text → found ≡ s.Bad
    → ReadSoFar text at lines depth progress → StepFinds progress depth rest found → IsBad text lines
bad_step text rest at lines depth progress found is told so_far step =
    bad_told text at lines depth progress so_far
    (subst (λ (t : List ℕ). StepFinds progress depth t s.Bad) is (subst (StepFinds progress depth rest) told step))

pub not_done : (progress : Progress) → ((k : Kernel) → progress ≡ p.Done k → ⊥) → IsDone progress → ⊥
not_done p.Start other done = done
not_done (p.Inside d) other done = done
not_done (p.Done k) other done = other k refl
