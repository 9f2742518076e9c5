use Rattle.std.specs.Prelude.{◌≡◌, Result, Ok, IsOk, List, length}
use Rattle.std.proofs.Common.{◌∙◌, sym, ap, subst, arith, rules}
use Rattle.limits.specs.Limits.{greatest_order}
use Rattle.format_spec.specs.declared.fault.FormatFault.{FormatFault}
use Rattle.format_spec.specs.declared.format.FormatLevel.{FormatLevel}
use Rattle.format_spec.specs.Formats.{letters_of}
use Rattle.mode_planner.specs.Planned.{with_modes}
use Rattle.mode_planner.proofs.StoredFormats.{parsed}
use Rattle.mode_planner.proofs.formats.with_modes.Goals as goal

pub modes_text-requires : goal.modes_text-requires
unfolding greatest_order
modes_text-requires c = λ k d h.
    let below = c.requires.below k d h in
    let short = c.levels-count.ensures.format.short in
    omega (arith, below, short)

good : (answer : Result (List FormatLevel) FormatFault) (levels : List FormatLevel) → answer ≡ Ok levels → IsOk answer
good answer levels is = subst IsOk (sym is) (search rules)

same : (answer : Result (List FormatLevel) FormatFault) (xs ys : List FormatLevel) → answer ≡ Ok xs → answer ≡ Ok ys → xs ≡ ys
same answer xs ys first second = let both : Ok xs ≡ answer = sym first in cc

pub unwrap-requires : goal.unwrap-requires
unwrap-requires c =
    let is = parsed c.args.format.now c.args.modes.now c.as_str.result.now c.as_str-2.result.now (length c.levels-count.result.now)
    c.parse_format-changed.result c.levels-count.ensures.format c.requires (c.as_str.ensures.value ∙ c.in_ok-letters.ensures)
    (c.as_str-2.ensures.value ∙ c.in_ok-order.ensures) (ap length c.levels-count.ensures.value) c.parse_format-changed.ensures in
    good c.parse_format-changed.result (with_modes (letters_of c.args.format.now) c.args.modes.now) is

pub returns : goal.returns
returns c =
    let is = parsed c.args.format.now c.args.modes.now c.as_str.result.now c.as_str-2.result.now (length c.levels-count.result.now)
    c.parse_format-changed.result c.levels-count.ensures.format c.requires (c.as_str.ensures.value ∙ c.in_ok-letters.ensures)
    (c.as_str-2.ensures.value ∙ c.in_ok-order.ensures) (ap length c.levels-count.ensures.value) c.parse_format-changed.ensures in
    same c.parse_format-changed.result c.unwrap.result (with_modes (letters_of c.args.format.now) c.args.modes.now) c.unwrap.ensures is
