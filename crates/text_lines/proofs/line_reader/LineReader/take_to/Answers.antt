use Rattle.std.specs.Prelude.{◌∷◌, [], ◌++◌}
use Rattle.std.specs.Str.Lines.{strip_carriage_return}
use Rattle.std.proofs.Common.{arith, ap, sym, ◌∙◌, subst}
use Rattle.text_lines.specs.LineReader.{TellsThis}
use Rattle.text_lines.proofs.CuttingLaws.{run_before, run_with_feed}
use Rattle.text_lines.proofs.Parts.{place_found}
use Rattle.text_lines.specs.Lines.{is_line_feed}
use Rattle.text_lines.proofs.line_reader.LineReader.take_to.Goals as goal

pub pass_line-requires-clause-free : goal.pass_line-requires-clause-free
pass_line-requires-clause-free c =
    run_before c.args.piece.now c.split_at.result.0.now c.args.end c.requires.end c.split_at.ensures.front

pub returns-clause-taken : goal.returns-clause-taken
returns-clause-taken c =
    let text = c.args.self.now.text in
    let feed = run_with_feed c.args.piece.now c.args.end c.requires.end in
    record {
      within = omega (arith, place_found is_line_feed c.args.piece.now c.args.end c.requires.end);
      text =
          c.pass_line.ensures.text
          ∙ ap (λ bytes. text ++ (bytes ++ 10 ∷ [])) c.split_at.ensures.front
          ∙ ap (λ bytes. text ++ bytes) (sym feed);
      tells = subst (TellsThis c.args.self.now c.pass_line.new.self) (sym c.without_return-line.ensures) c.pass_line.ensures.tells;
    }

pub returns-clause-line : goal.returns-clause-line
returns-clause-line c = c.without_return-line.ensures ∙ ap strip_carriage_return c.split_at.ensures.front
