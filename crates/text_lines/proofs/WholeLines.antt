-- Lemmas about lines that are taken whole.
use Rattle.std.specs.Prelude.{◌≡◌, ℕ, ◌∷◌, [], ◌++◌, List, false}
use Rattle.std.specs.Str.Lines.{strip_carriage_return}
use Rattle.std.proofs.Common.{ap, ◌∙◌}
use Rattle.text_lines.specs.Cutting.{begun_line, has_long_line, is_long, told_lines}
use Rattle.text_lines.proofs.CuttingLaws.{IsFree, begun_run, long_run, short_feed, told_feed, told_run}

-- a line and its end, behind lines that have ended
module _ (text whole : List ℕ) (begun : begun_line text ≡ []) (short : has_long_line text ≡ false) (free : IsFree whole)
    (fits : is_long (strip_carriage_return whole) ≡ false) where
  begun_whole : begun_line (text ++ whole) ≡ whole
  begun_whole = begun_run text whole free ∙ ap (λ bytes. bytes ++ whole) begun

  short_before : has_long_line (text ++ whole) ≡ false
  short_before =
      long_run text whole free short ∙ ap (λ bytes. is_long (strip_carriage_return (bytes ++ whole))) begun ∙ fits

  pub short_whole : has_long_line ((text ++ whole) ++ 10 ∷ []) ≡ false
  short_whole = short_feed (text ++ whole) short_before

  pub told_whole : told_lines ((text ++ whole) ++ 10 ∷ []) ≡ told_lines text ++ strip_carriage_return whole ∷ []
  told_whole =
      told_feed (text ++ whole) short_before
      ∙ ap (λ lines. lines ++ strip_carriage_return (begun_line (text ++ whole)) ∷ []) (told_run text whole free)
      ∙ ap (λ line. told_lines text ++ strip_carriage_return line ∷ []) begun_whole
