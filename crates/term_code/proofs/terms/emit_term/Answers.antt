use Rattle.std.specs.Prelude.{◌≡◌, ◌<◌, map, length, slice_index, slice_index_or}
use Rattle.std.proofs.Common.{◌∙◌, sym, ap, subst, arith}
use Rattle.term_code.specs.Terms.{AddsTerm}
use Rattle.term_code.proofs.TermLaws.{keys_below, adds_term}
use Rattle.term_code.proofs.terms.emit_term.Goals as goal

pub add_row-requires-clause-keys : goal.add_row-requires-clause-keys
add_row-requires-clause-keys g c =
    let places = c.args.places.now in
    let target = c.args.target.now in
    let is : c.as_slice-2.result.now ≡ map (slice_index places.variables) target =
    c.as_slice-2.ensures.value ∙ c.coords_at-keys.ensures ∙ ap (λ vs. map (slice_index vs) target) c.as_slice.ensures in
    λ k d l.
    let within : k < length (map (slice_index places.variables) target) = subst (λ ks. k < length ks) is l in
    let low : slice_index_or (map (slice_index places.variables) target) k d < c.args.free =
    keys_below c.args.free places.variables target c.requires.below.variables c.requires.target k d within in
    let here : slice_index_or c.as_slice-2.result.now k d < c.args.free = subst (λ ks. slice_index_or ks k d < c.args.free) (sym is) low in
    omega (arith, here)

pub returns : goal.returns
returns g c =
    let sink = g.K.RowSink.sink in
    let k = c.args.sink.now in
    let free = c.args.free in
    let places = c.args.places.now in
    let target = c.args.target.now in
    let is : c.as_slice-2.result.now ≡ map (slice_index places.variables) target =
    c.as_slice-2.ensures.value ∙ c.coords_at-keys.ensures ∙ ap (λ vs. map (slice_index vs) target) c.as_slice.ensures in
    subst (AddsTerm g.S.Semiring.arithmetic sink k places target c.args.term.now free) (sym c.in_ok-code.ensures)
    (adds_term sink g.met.K.RowSink.laws k free c.as_slice-2.result.now c.in_ok-row.row c.in_ok-row.ensures g.S.Semiring.arithmetic places
    target c.args.term.now
    c.in_ok-value.value c.requires.below is c.in_ok-value.ensures)
