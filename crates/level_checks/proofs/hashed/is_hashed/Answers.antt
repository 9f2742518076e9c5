use Rattle.std.specs.Prelude.{◌≡◌, slice_index}
use Rattle.std.proofs.Common.{◌∙◌, sym, ap, subst, arith}
use Rattle.std.proofs.lemmas.Bool.Decides.{nat_tests}
use Rattle.kernel_code.specs.Widths.{slot_width}
use Rattle.level_checks.proofs.HashedWords.{good_words, made_of, one_word, first_is, most_in}
use Rattle.level_checks.proofs.hashed.is_hashed.Goals as goal

pub returns-then-keep_blocks : goal.returns-then-keep_blocks
returns-then-keep_blocks c =
    let a = c.args in
    let w = slice_index a.width.now 0 in
    let few = c.if-slots-greatest_positions.false in
    let limit = c.greatest_positions.ensures in
    let width_is = c.width_for.ensures ∙ ap slot_width c.most_filled.ensures.most in (
      λ e. made_of a.size a.parents a.width.now a.slots.now w c.requires.small (record {
        width_is = one_word a.width.now c.if-width-ne1.false;
        within = omega (arith, few, limit);
        count = c.if-parents-width.false;
        blocks = c.keep_blocks.ensures.0 c.if-keep_blocks.true;
        least = grind (arith, nat_tests, e, width_is);
      }),
      λ m.
          let good = good_words a.size a.parents a.width.now a.slots.now m in
          let v = good.0 in
          let is : w ≡ v = first_is a.width.now v good.1.width_is in
          let least : w ≡ slot_width (most_in a.slots.now w a.parents) =
          subst (λ n. n ≡ slot_width (most_in a.slots.now n a.parents)) (sym is) good.1.least in
          grind (arith, nat_tests, least, width_is),
    )
