use Rattle.std.specs.Prelude.{ℕ, ◌∷◌, [], ◌++◌, List}
use Rattle.std.proofs.Common.{ap, sym, ◌∙◌, append_assoc}
use Rattle.text_lines.proofs.CuttingLaws.{run_before, run_with_feed}
use Rattle.text_lines.proofs.line_reader.LineReader.take_line.Goals as goal

pub take_run-requires : goal.take_run-requires
take_run-requires c = run_before c.args.piece.now c.split_at.result.0.now c.args.end c.requires c.split_at.ensures.front

pub returns-then-take_run-clause-text : goal.returns-then-take_run-clause-text
returns-then-take_run-clause-text c =
    let text : List ℕ = c.args.self.now.text in
    c.end_line.ensures.text
    ∙ ap (λ bytes. bytes ++ 10 ∷ []) (c.take_run.ensures.text ∙ ap (λ run. text ++ run) c.split_at.ensures.front)
    ∙ append_assoc text _ (10 ∷ [])
    ∙ ap (λ run. text ++ run) (sym (run_with_feed c.args.piece.now c.args.end c.requires))
