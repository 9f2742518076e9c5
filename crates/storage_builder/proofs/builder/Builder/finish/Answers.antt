use Rattle.std.specs.Prelude.{List, vec_capacity}
use Rattle.std.proofs.Common.{◌∙◌, sym, subst}
use Rattle.format_spec.specs.Formats.{letters_of}
use Rattle.tensor_storage.specs.declared.level.StorageLevel.{StorageLevel}
use Rattle.tensor_storage.specs.Storages.{IsStorage, storage_of}
use Rattle.storage_builder.specs.Made.{AllAlike, AreHandedOver}
use Rattle.storage_builder.proofs.Finishing.{some_handed, finished_is_storage, values_fit, not_refused}
use Rattle.storage_builder.proofs.builder.Builder.finish.Goals as goal

pub make_levels-requires-clause-ready : goal.make_levels-requires-clause-ready
make_levels-requires-clause-ready c =
    let b = c.self.inside in
    let some = some_handed c.args.self b.format b.sizes.items b.parts.items c.args.values.items (sym c.self.view_is) c.requires in (
      some.0,
      subst (λ sizes. AreHandedOver (letters_of c.levels.result.now) sizes b.parts.items 1 some.0) (sym c.deref.ensures.value)
          (subst (λ format. AreHandedOver (letters_of format) b.sizes.items b.parts.items 1 some.0) (sym c.levels.ensures.value) some.1),
    )

pub returns-in_err-values-clause-dense : goal.returns-in_err-values-clause-dense
returns-in_err-values-clause-dense c = λ dense.
    let b = c.self.inside in
    absurd (not_refused (c.in_err-values.ensures.enough
    (values_fit c.args.self b.format b.sizes.items b.parts.items c.args.values.items (sym c.self.view_is) c.requires
    (vec_capacity b.levels) (vec_capacity b.values) c.self.invariant.0 dense)))

pub from_levels-requires : goal.from_levels-requires
from_levels-requires c =
    let b = c.self.inside in
    let levels = c.in_ok-levels.levels.items in
    let made : (ls : List StorageLevel) → AreHandedOver (letters_of b.format) b.sizes.items b.parts.items 1 ls → AllAlike ls levels =
    subst (λ sizes. (ls : List StorageLevel) → AreHandedOver (letters_of b.format) sizes b.parts.items 1 ls → AllAlike ls levels)
    c.deref.ensures.value
    (subst (λ format. (ls : List StorageLevel) → AreHandedOver (letters_of format) c.deref.result.now b.parts.items 1 ls
    → AllAlike ls levels) c.levels.ensures.value c.in_ok-levels.ensures.made) in
    subst (λ values. IsStorage (storage_of b.format c.from_vec.result values)) (sym (c.from_vec-2.ensures ∙ c.in_ok-values.ensures.values))
    (subst (λ ls. IsStorage (storage_of b.format ls c.args.values.items)) (sym c.from_vec.ensures)
    (finished_is_storage c.args.self b.format b.sizes.items b.parts.items c.args.values.items (sym c.self.view_is) c.requires levels made))
