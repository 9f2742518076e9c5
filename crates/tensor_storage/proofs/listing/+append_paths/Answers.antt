use Rattle.std.specs.Prelude.{◌≡◌, suc, ◌∷◌, ◌++◌, [], length, map, drop}
use Rattle.std.proofs.Common.{◌∙◌, sym, ap, subst, arith, add-one}
use Rattle.std.proofs.lemmas.Bool.{eqb-true}
use Rattle.std.proofs.lemmas.Grind.{common_steps}
use Rattle.std.proofs.lemmas.List.{append-nil}
use Rattle.level_core.specs.Entries.{Placed}
use Rattle.tensor_storage.specs.Routes.{routes, entry_of}
use Rattle.tensor_storage.specs.Storages.{IsOpen}
use Rattle.tensor_storage.proofs.WalkLaws.{walk_begins}
use Rattle.tensor_storage.proofs.AppendSteps.{none_appended, more_appended, all_appended, levels_left}
use Rattle.tensor_storage.proofs.RouteLaws.{no_routes}
use Rattle.tensor_storage.proofs.listing.+append_paths.Goals as goal

pub returns-then-is_empty-clause-ok : goal.returns-then-is_empty-clause-ok
returns-then-is_empty-clause-ok g t c =
    let levels = drop c.args.depth c.args.levels.now in
    let none : length c.args.values.now ≡ 0 = eqb-true _ _ (sym c.is_empty.ensures ∙ c.if-is_empty.true) in
    let opened : IsOpen g.L.LevelKind.meaning levels 0 c.args.span =
    subst (λ n. IsOpen g.L.LevelKind.meaning levels n c.args.span) none c.requires.opened in
    sym (ap (λ rs. c.args.entries.now.list ++ map (entry_of c.args.places.now c.args.values.now c.args.path.now.items) rs)
    (no_routes g.L.LevelKind.meaning levels c.args.span opened) ∙ append-nil c.args.entries.now.list)

pub loop-entry-init : goal.loop-entry-init
loop-entry-init g t c =
    let left = levels_left c.args.levels.now c.args.depth c.index-levels-depth.result (let some = c.requires.depth in
    let other = c.if-depth-levels.false in omega (arith, some, other)) c.index-levels-depth.is in
    let opened = subst (λ ls. IsOpen g.L.LevelKind.meaning ls (length c.args.values.now) c.args.span) left c.requires.opened in
    let placed = (g.met.L.LevelKind.laws.entries c.index-levels-depth.result c.args.span opened.0).placed in
    let all = g.L.LevelKind.meaning.entries c.index-levels-depth.result c.args.span in (
      none_appended c.segment-segment.result all (routes g.L.LevelKind.meaning (drop (suc c.args.depth) c.args.levels.now))
          c.args.places.now c.args.values.now c.args.path.now.items c.args.entries.now.list
          (walk_begins c.segment-segment.result all (subst (λ s. Placed s.lo s.hi all) (sym c.segment-segment.ensures) placed)),
      (λ i. c.args.entries.now.order),
      (λ i. c.args.path.now.items),
    )

pub loop-entry-preserved : goal.loop-entry-preserved
loop-entry-preserved g t c = (
  more_appended c.segment-segment.result c.loop-entry.position (g.L.LevelKind.meaning.entries c.index-levels-depth.result c.args.span)
      (routes g.L.LevelKind.meaning (drop (suc c.args.depth) c.args.levels.now)) c.args.places.now c.args.values.now
      c.args.path.now.items c.push-in-Some.new.self.items c.args.entries.now.list c.loop-entry.entries.list c.append_paths.new.entries.list
      c.in-Some.entry c.loop-entry.invariant.0 c.in-Some.ensures
      (c.in_ok-push-2.ensures.items ∙ ap (λ xs. xs ++ c.in-Some.entry.coord ∷ []) c.loop-entry.invariant.2)
      (c.in_ok-append_paths.ensures.ok
      ∙ ap (λ n. c.loop-entry.entries.list ++ map (entry_of c.args.places.now c.args.values.now c.push-in-Some.new.self.items)
      (routes g.L.LevelKind.meaning (drop n c.args.levels.now) c.in-Some.entry.child)) (add-one c.args.depth)),
  c.append_paths.ensures.order ∙ c.loop-entry.invariant.1,
  (let q = c.in_ok-append_paths.ensures.path in let r = c.in_ok-push-2.ensures.items in let h = c.loop-entry.invariant.2 in
      let n = c.pop.ensures.rest in grind (arith, common_steps, q, r, h, n)),
)

pub returns-clause-ok : goal.returns-clause-ok
returns-clause-ok g t c =
    let left = levels_left c.args.levels.now c.args.depth c.index-levels-depth.result (let some = c.requires.depth in
    let other = c.if-depth-levels.false in omega (arith, some, other)) c.index-levels-depth.is in
    all_appended c.segment-segment.result c.loop-entry.position (g.L.LevelKind.meaning.entries c.index-levels-depth.result c.args.span)
    (routes g.L.LevelKind.meaning (drop (suc c.args.depth) c.args.levels.now)) c.args.places.now c.args.values.now
    c.args.path.now.items c.args.entries.now.list c.loop-entry.entries.list c.loop-entry.invariant.0 c.in_default.ensures
    ∙ ap (λ rs. c.args.entries.now.list ++ map (entry_of c.args.places.now c.args.values.now c.args.path.now.items) rs)
    (ap (λ ls. routes g.L.LevelKind.meaning ls c.args.span) (sym left))
