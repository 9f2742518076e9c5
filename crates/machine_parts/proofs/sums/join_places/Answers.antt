use Rattle.std.proofs.Common.{◌≡◌, ◌∙◌, List, ◌∷◌, [], sym, ap, arith, map, reverse, length}
use Rattle.std.proofs.lemmas.List.{map-append}
use Rattle.machine_parts.specs.declared.sums.PlacedRow.{PlacedRow}
use Rattle.machine_parts.specs.Rows.{row_of}
use Rattle.machine_parts.proofs.SumLemmas.{read, onto, onto_none, onto_last, map_reverse, no_items}
use Rattle.machine_parts.proofs.sums.join_places.Goals as goal

pub loop-row-init : goal.loop-row-init
loop-row-init g c =
    let rows = map (row_of (read c.args.columns.now)) c.args.rows.items in
    ap (λ (ps : List PlacedRow). onto g.S.Semiring.arithmetic rows (reverse (map (row_of (read c.args.columns.now)) ps)))
    c.new-sums.ensures.items ∙ onto_none g.S.Semiring.arithmetic rows

pub loop-row-preserved : goal.loop-row-preserved
loop-row-preserved g c =
    let f = row_of (read c.args.columns.now) in
    let rest = c.pop.new.self.items in
    let sums = reverse (map f c.loop-row.sums.items) in
    ap (onto g.S.Semiring.arithmetic (map f rest)) c.in_ok-join_place.ensures
    ∙ sym (ap (λ (ps : List PlacedRow). onto g.S.Semiring.arithmetic (map f ps) sums) c.in-Some.ensures.items
    ∙ ap (λ rs. onto g.S.Semiring.arithmetic rs sums) (map-append f rest (c.in-Some.row ∷ []))
    ∙ onto_last g.S.Semiring.arithmetic (map f rest) (f c.in-Some.row) sums)
    ∙ c.loop-row.invariant

pub returns : goal.returns
returns g c =
    let f = row_of (read c.args.columns.now) in
    let sums = c.loop-row.sums.items in
    let empty : length c.loop-row.rest.items ≡ 0 = omega (arith, c.in_default.ensures.cases) in
    ap (map f) c.reverse.ensures.items ∙ map_reverse f sums
    ∙ sym (ap (λ (ps : List PlacedRow). onto g.S.Semiring.arithmetic (map f ps) (reverse (map f sums)))
    (no_items c.loop-row.rest.items empty)) ∙ c.loop-row.invariant
