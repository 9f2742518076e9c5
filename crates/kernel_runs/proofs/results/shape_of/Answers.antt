use Rattle.std.specs.Prelude.{◌≡◌, map, slice_index}
use Rattle.std.proofs.Common.{◌∙◌, sym, ap, subst, rules}
use Rattle.tensor_map.specs.Coords.{IsShape}
use Rattle.operand_packing.specs.Operands.{mode_sizes}
use Rattle.operand_packing.proofs.SizeLaws.{sizes_of_result}
use Rattle.kernel_runs.proofs.Shapes.{ranges_shape}
use Rattle.kernel_runs.proofs.results.shape_of.Goals as goal

pub unwrap-shape-requires : goal.unwrap-shape-requires
unwrap-shape-requires c =
    let s = c.args.statement.now in
    let sizes : c.deref.result.now ≡ map (slice_index c.args.ranges.now) s.left.vars =
    c.deref.ensures.value ∙ c.in_ok-sizes.ensures ∙ ap (mode_sizes s (slice_index c.args.ranges.now) 0) c.len.ensures
    ∙ sizes_of_result s c.requires.named (slice_index c.args.ranges.now) in
    c.new.ensures.made.1
    (subst IsShape (sym sizes) (ranges_shape c.args.ranges.now s.left.vars c.requires.short c.requires.small))

pub returns : goal.returns
returns c =
    let s = c.args.statement.now in
    let sizes : c.deref.result.now ≡ map (slice_index c.args.ranges.now) s.left.vars =
    c.deref.ensures.value ∙ c.in_ok-sizes.ensures ∙ ap (mode_sizes s (slice_index c.args.ranges.now) 0) c.len.ensures
    ∙ sizes_of_result s c.requires.named (slice_index c.args.ranges.now) in
    search (rules, sizes)
