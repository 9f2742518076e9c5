use Rattle.std.specs.Prelude.{◌≡◌}
use Rattle.std.proofs.Common.{◌∙◌, sym, subst}
use Rattle.std.proofs.lemmas.List.{length-map}
use Rattle.format_spec.specs.declared.format.FormatLevel.{FormatLevel}
use Rattle.level_core.specs.declared.letter.Letter.TheVariants.{Dense}
use Rattle.tensor_storage.specs.Storages.{in_level_order}
use Rattle.std.specs.Prelude.{length, slice_index}
use Rattle.std.proofs.Common.{arith, get_or}
use Rattle.tensor_storage.proofs.Paths.{Reached, coordinate_left, next_reached, none_further, path_ends}
use Rattle.tensor_storage.proofs.finding.value_at.Goals as goal

none : FormatLevel
none = record { letter = Dense; mode = 0 }

pub loop-depth-preserved : goal.loop-depth-preserved
unfolding none
loop-depth-preserved g c =
    next_reached g.L.LevelKind.meaning g.met.L.LevelKind.laws c.args.levels.now (in_level_order c.args.format.now c.args.coords.now)
    (length c.args.values.now) c.loop-depth.depth c.loop-depth.span c.index-levels-depth.result
    (slice_index c.args.coords.now (get_or c.args.format.now c.loop-depth.depth none).mode) c.loop-depth-test.true c.index-levels-depth.is
    (coordinate_left c.args.format.now c.args.coords.now c.loop-depth.depth none (omega arith)) c.loop-depth.invariant c.in-Some.child
    (sym c.child_below.ensures ∙ c.in-Some.is)

pub returns-in-None-clause-stored : goal.returns-in-None-clause-stored
unfolding none
returns-in-None-clause-stored g c = λ pos p. absurd
    (none_further g.L.LevelKind.meaning g.met.L.LevelKind.laws c.args.levels.now (in_level_order c.args.format.now c.args.coords.now)
    (length c.args.values.now) c.loop-depth.depth c.loop-depth.span c.index-levels-depth.result
    (slice_index c.args.coords.now (get_or c.args.format.now c.loop-depth.depth none).mode) c.loop-depth-test.true c.index-levels-depth.is
    (coordinate_left c.args.format.now c.args.coords.now c.loop-depth.depth none (omega arith)) c.loop-depth.invariant
    (sym c.child_below.ensures ∙ c.in-None.is) pos p)

pub returns-clause-none : goal.returns-clause-none
returns-clause-none g c = λ no_path.
    let long : length (in_level_order c.args.format.now c.args.coords.now) ≡ length c.args.levels.now =
    length-map c.args.format.now (λ level. slice_index c.args.coords.now level.mode) ∙ sym c.requires.deep in
    let all : c.loop-depth.depth ≡ length c.args.levels.now = omega arith in
    absurd (no_path c.loop-depth.span.lo
    (path_ends g.L.LevelKind.meaning c.args.levels.now (in_level_order c.args.format.now c.args.coords.now) (length c.args.values.now)
    c.loop-depth.span long
    (subst (λ n. Reached g.L.LevelKind.meaning c.args.levels.now (in_level_order c.args.format.now c.args.coords.now)
    (length c.args.values.now) n c.loop-depth.span) all c.loop-depth.invariant)))
