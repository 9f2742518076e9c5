use Rattle.std.specs.Prelude.{◌≡◌, ◌++◌, [], map}
use Rattle.std.proofs.Common.{◌∙◌, sym, ap, subst}
use Rattle.format_spec.specs.Formats.{modes_of}
use Rattle.level_core.specs.Entries.{one}
use Rattle.tensor_storage.specs.Levels.{meaning}
use Rattle.tensor_storage.specs.Routes.{routes, entry_of, ListsPaths, AreLevelsOf}
use Rattle.tensor_storage.specs.Storages.{storage_of}
use Rattle.tensor_storage.proofs.ListLaws.{lists_paths}
use Rattle.tensor_storage.proofs.tensor.Tensor.to_entries.Goals as goal

pub returns : goal.returns
returns g c =
    let places = c.deref.result.now in
    let are : AreLevelsOf (modes_of c.self.inside.format) places =
    subst (λ ps. AreLevelsOf (modes_of c.self.inside.format) ps) (sym c.deref.ensures.value)
    (subst (λ f. AreLevelsOf (modes_of f) c.in_ok-places.places.items) c.levels.ensures.value c.in_ok-places.ensures) in
    let all : c.append_paths.new.entries.list ≡ map (entry_of places c.self.inside.values [])
    (routes meaning c.self.inside.levels (one 0)) =
    c.in_ok-append_paths.ensures.ok
    ∙ ap (λ es. es ++ map (entry_of places c.as_slice-values.result.now c.new-path.result.items)
    (routes meaning c.as_slice-levels.result.now (one 0))) c.in_ok-entries.ensures.empty
    ∙ ap (λ front. map (entry_of places c.as_slice-values.result.now front) (routes meaning c.as_slice-levels.result.now (one 0)))
    c.new-path.ensures.items
    ∙ ap (λ vs. map (entry_of places vs []) (routes meaning c.as_slice-levels.result.now (one 0))) c.as_slice-values.ensures
    ∙ ap (λ ls. map (entry_of places c.self.inside.values []) (routes meaning ls (one 0))) c.as_slice-levels.ensures in
    subst (λ s. ListsPaths g.S.Semiring.arithmetic s c.sort_entries.new.entries) c.self.view_is
    (lists_paths g.S.Semiring.arithmetic g.met.S.Semiring.laws (storage_of c.self.inside.format c.self.inside.levels c.self.inside.values)
    places c.append_paths.new.entries.list c.sort_entries.new.entries c.self.invariant are all
    c.in_ok-sort_entries.ensures.ok (c.sort_entries.ensures.order ∙ c.append_paths.ensures.order ∙ c.in_ok-entries.ensures.order
    ∙ c.order.ensures.value))
