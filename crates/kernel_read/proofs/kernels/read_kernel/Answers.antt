use Rattle.std.specs.Prelude.{ℕ, List, take, drop}
use Rattle.std.proofs.Common.{sym, subst}
use Rattle.std.proofs.lemmas.List.{take-append-drop}
use Rattle.kernel_read.specs.Answers.{IsAnswerFrom}
use Rattle.kernel_read.proofs.kernels.read_kernel.Goals as goal

pub returns : goal.returns
returns c =
    let at : ℕ = c.behind_comments-at.result.0 in
    let skipped : ℕ = c.behind_comments-at.result.1 in (
      take at c.args.bytes.now,
      (
        drop at c.args.bytes.now,
        (
          skipped,
          (
            sym (take-append-drop at c.args.bytes.now),
            (
              c.behind_comments-at.ensures.comments,
              (
                c.behind_comments-at.ensures.all,
                subst (λ (t : List ℕ). IsAnswerFrom skipped t c.kernel_behind.result) c.rest_at.ensures c.kernel_behind.ensures,
              ),
            ),
          ),
        ),
      ),
    )
