use Rattle.std.proofs.Common.{◌∙◌, sym, ap, subst, arith}
use Rattle.limits.proofs.Limits.{positions_are_small}
use Rattle.level_core.specs.Logs.{total}
use Rattle.compressed_level.specs.Compressed.{PartsRise}
use Rattle.level_checks.proofs.Loops.{never, no}
use Rattle.level_checks.proofs.CompressedWords.{good_words, made_of}
use Rattle.level_checks.proofs.compressed.is_compressed.Goals as goal

pub overflow_add-parents : goal.overflow_add-parents
overflow_add-parents c = let few = c.requires.few in omega (arith, few, positions_are_small)

pub returns-then-numbers-parents : goal.returns-then-numbers-parents
returns-then-numbers-parents c =
    no (λ m. c.if-numbers-parents.true (good_words c.args.size c.args.unique c.args.parents c.args.numbers.now c.args.coords.now m).many)

pub returns-then-not-add_up : goal.returns-then-not-add_up
returns-then-not-add_up c =
    let a = c.args in
    no (λ m. never (sym c.if-not-add_up.true
    ∙ c.add_up.ensures.1 (ap total c.split_at.ensures.back ∙ (good_words a.size a.unique a.parents a.numbers.now a.coords.now m).sum)))

pub returns-then-are_below : goal.returns-then-are_below
returns-then-are_below c =
    let a = c.args in
    let few = c.if-count-greatest_positions.false in
    let limit = c.greatest_positions.ensures in
    let counts = c.split_at.ensures.back in (
      λ e. made_of a.size a.unique a.parents a.numbers.now a.coords.now c.requires.small c.requires.few (record {
        many = c.if-numbers-parents.false;
        first = c.if-numbers-ne0.false;
        few = omega (arith, few, limit);
        sum = sym (ap total counts) ∙ c.add_up.ensures.0 c.if-not-add_up.false;
        below = c.are_below.ensures.0 c.if-are_below.true;
        rise = subst (λ ns. PartsRise a.unique ns a.coords.now) counts (c.parts_rise.ensures.0 e);
      }),
      λ m. c.parts_rise.ensures.1 (subst (λ ns. PartsRise a.unique ns a.coords.now) (sym counts)
          (good_words a.size a.unique a.parents a.numbers.now a.coords.now m).rise),
    )
