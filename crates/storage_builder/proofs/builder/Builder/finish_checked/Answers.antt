use Rattle.std.proofs.Common.{◌∙◌, sym, ap, subst}
use Rattle.tensor_storage.specs.Storages.{Storage, IsStorage, storage_of}
use Rattle.storage_arrays.specs.Arrays.{AreDone}
use Rattle.level_checks.proofs.Loops.{never}
use Rattle.storage_builder.proofs.Wholes.{paths_hold, made_storage, whole_of, made_done, have_of, made_as, paths_of, tensor_made}
use Rattle.storage_builder.proofs.builder.Builder.finish_checked.Goals as goal

pub have_paths-requires : goal.have_paths-requires
have_paths-requires c =
    let b = c.self.inside in
    let n = c.args.nothing in
    let values = c.args.values.items in
    let is = sym c.self.view_is in
    let have = have_of n c.args.self b.format b.sizes.items b.parts.items values is c.levels.result.now c.deref.result.now
    c.deref-2.result.now c.len.result c.levels.ensures.value c.deref.ensures.value c.deref-2.ensures.value c.len.ensures.len
    (c.have_levels.ensures.0 c.if-not-have_levels.false) in
    let levels = c.in_ok-levels.levels.items in
    let made = made_as n c.args.self b.format b.sizes.items b.parts.items values is c.levels-2.result.now c.deref-3.result.now levels
    c.levels-2.ensures.value c.deref-3.ensures.value c.in_ok-levels.ensures.made in
    subst (AreDone 1) (sym c.deref-4.ensures.value)
    (made_done n c.args.self b.format b.sizes.items b.parts.items values is have levels made)

pub returns-then-not-branch : goal.returns-then-not-branch
returns-then-not-branch c =
    let b = c.self.inside in
    let n = c.args.nothing in
    let values = c.args.values.items in
    let is = sym c.self.view_is in
    let levels = c.in_ok-levels.levels.items in
    let made = made_as n c.args.self b.format b.sizes.items b.parts.items values is c.levels-2.result.now c.deref-3.result.now levels
    c.levels-2.ensures.value c.deref-3.ensures.value c.in_ok-levels.ensures.made in
    let paths = paths_of n c.args.self b.format b.sizes.items b.parts.items values is c.in_ok-have_paths.field-0 c.deref-4.result.now
    levels c.deref_mut.result.now c.deref-4.ensures.value (c.deref_mut.ensures.value ∙ c.in_ok-copies.ensures.values)
    c.in_ok-have_paths.ensures in
    λ w. never (sym c.if-not-branch.true
    ∙ paths.1 (paths_hold n c.args.self b.format b.sizes.items b.parts.items values is w levels made))

pub from_levels-requires : goal.from_levels-requires
from_levels-requires c =
    let b = c.self.inside in
    let n = c.args.nothing in
    let values = c.args.values.items in
    let is = sym c.self.view_is in
    let have = have_of n c.args.self b.format b.sizes.items b.parts.items values is c.levels.result.now c.deref.result.now
    c.deref-2.result.now c.len.result c.levels.ensures.value c.deref.ensures.value c.deref-2.ensures.value c.len.ensures.len
    (c.have_levels.ensures.0 c.if-not-have_levels.false) in
    let levels = c.in_ok-levels.levels.items in
    let made = made_as n c.args.self b.format b.sizes.items b.parts.items values is c.levels-2.result.now c.deref-3.result.now levels
    c.levels-2.ensures.value c.deref-3.ensures.value c.in_ok-levels.ensures.made in
    let paths = paths_of n c.args.self b.format b.sizes.items b.parts.items values is c.in_ok-have_paths.field-0 c.deref-4.result.now
    levels c.deref_mut.result.now c.deref-4.ensures.value (c.deref_mut.ensures.value ∙ c.in_ok-copies.ensures.values)
    c.in_ok-have_paths.ensures in
    let ok = c.levels.ensures.format in
    subst (λ vs. IsStorage (storage_of b.format c.from_vec-levels.result vs))
    (sym (c.from_vec-values.ensures ∙ c.in_ok-values.ensures.values))
    (subst (λ ls. IsStorage (storage_of b.format ls values)) (sym c.from_vec-levels.ensures)
    (made_storage n c.args.self b.format b.sizes.items b.parts.items values is ok have levels made
    (paths.0 c.if-not-branch.false).0))

pub returns : goal.returns
returns c =
    let b = c.self.inside in
    let n = c.args.nothing in
    let values = c.args.values.items in
    let is = sym c.self.view_is in
    let have = have_of n c.args.self b.format b.sizes.items b.parts.items values is c.levels.result.now c.deref.result.now
    c.deref-2.result.now c.len.result c.levels.ensures.value c.deref.ensures.value c.deref-2.ensures.value c.len.ensures.len
    (c.have_levels.ensures.0 c.if-not-have_levels.false) in
    let levels = c.in_ok-levels.levels.items in
    let made = made_as n c.args.self b.format b.sizes.items b.parts.items values is c.levels-2.result.now c.deref-3.result.now levels
    c.levels-2.ensures.value c.deref-3.ensures.value c.in_ok-levels.ensures.made in
    let paths = paths_of n c.args.self b.format b.sizes.items b.parts.items values is c.in_ok-have_paths.field-0 c.deref-4.result.now
    levels c.deref_mut.result.now c.deref-4.ensures.value (c.deref_mut.ensures.value ∙ c.in_ok-copies.ensures.values)
    c.in_ok-have_paths.ensures in
    let ok = c.levels.ensures.format in (
      whole_of n c.args.self b.format b.sizes.items b.parts.items values is ok have levels made (paths.0 c.if-not-branch.false),
      tensor_made n c.args.self b.format b.sizes.items b.parts.items values is levels made c.from_levels.result
          (ap (λ (t : Storage). t.format) c.from_levels.ensures) (ap (λ (t : Storage). t.levels) c.from_levels.ensures
          ∙ c.from_vec-levels.ensures) (ap (λ (t : Storage). t.values) c.from_levels.ensures ∙ c.from_vec-values.ensures
          ∙ c.in_ok-values.ensures.values),
    )
