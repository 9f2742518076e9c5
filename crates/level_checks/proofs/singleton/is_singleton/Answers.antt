use Rattle.level_checks.proofs.Loops.{no}
use Rattle.level_checks.proofs.SingletonWords.{good_words, made_of}
use Rattle.level_checks.proofs.singleton.is_singleton.Goals as goal

pub returns : goal.returns
returns c =
    let a = c.args in (
      λ e. made_of a.size a.unique a.parents a.coords.now c.requires.small c.requires.few c.if-coords-parents.false
          (c.are_below.ensures.0 e),
      λ m. c.are_below.ensures.1 (good_words a.size a.unique a.parents a.coords.now m).1,
    )

pub returns-then-coords-parents : goal.returns-then-coords-parents
returns-then-coords-parents c =
    let a = c.args in
    no (λ m. c.if-coords-parents.true (good_words a.size a.unique a.parents a.coords.now m).0)
