use Rattle.std.specs.Prelude.{◌≡◌, ℕ, false, List, ◌∷◌, [], ◌++◌, length, ◌<◌}
use Rattle.std.proofs.Common.{arith, ap, sym, ◌∙◌, append-nil}
use Rattle.std.proofs.lemmas.Bool.{eqb-true, eqb-false}
use Rattle.text_lines.specs.Cutting.{begun_line, has_long_line, told_lines}
use Rattle.text_lines.specs.Lines.{lines}
use Rattle.text_lines.proofs.Buffering.{short_of}
use Rattle.text_lines.proofs.CuttingLaws.{nothing_begun, last_told}
use Rattle.text_lines.proofs.line_reader.LineReader.finish.Goals as goal

pub returns-then-is_empty : goal.returns-then-is_empty
returns-then-is_empty c =
    let text : List ℕ = c.take_run.new.self.text in
    let text_is : text ≡ c.args.self.now.text = c.take_run.ensures.text ∙ append-nil c.args.self.now.text in
    let short : has_long_line text ≡ false = short_of _ _ c.take_run.ensures.short c.if-not-take_run.false in
    let line_is : c.line.result.now ≡ begun_line text = c.line.ensures ∙ c.take_run.ensures.line c.if-not-take_run.false in
    let none : length c.line.result.now ≡ 0 = eqb-true _ _ (sym c.is_empty.ensures ∙ c.if-is_empty.true) in (
      record { told = c.take_run.ensures.told; short = short },
      text_is,
      nothing_begun text c.line.result.now short line_is none ∙ ap lines
          text_is,
    )

pub returns : goal.returns
returns c =
    let text : List ℕ = c.take_run.new.self.text in
    let text_is : text ≡ c.args.self.now.text = c.take_run.ensures.text ∙ append-nil c.args.self.now.text in
    let short : has_long_line text ≡ false = short_of _ _ c.take_run.ensures.short c.if-not-take_run.false in
    let line_is : c.line.result.now ≡ begun_line text = c.line.ensures ∙ c.take_run.ensures.line c.if-not-take_run.false in
    let isnt = eqb-false (length c.line.result.now) 0 (sym c.is_empty.ensures ∙ c.if-is_empty.false) in
    let some : 0 < length c.line.result.now = omega (arith, isnt) in
    let tells = c.end_line.ensures.tells in (
      record {
        told = tells.told ∙ ap (λ ps. ps ++ c.end_line.new.self.line ∷ []) c.take_run.ensures.told;
        ended = tells.ended;
        short = tells.short;
      },
      c.end_line.ensures.text ∙ ap (λ bytes. bytes ++ 10 ∷ []) text_is,
      ap told_lines c.end_line.ensures.text ∙ last_told text c.line.result.now short line_is some ∙ ap lines text_is,
    )
