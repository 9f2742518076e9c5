use Rattle.std.specs.Prelude.{◌≡◌, ◌<◌, ℕ, length}
use Rattle.std.proofs.Common.{◌∙◌, sym, ap, subst, arith, get_or}
use Rattle.std.proofs.lemmas.List.{length-map}
use Rattle.std.proofs.Math.ListN.{get_or-map}
use Rattle.format_spec.specs.declared.format.FormatLevel.{FormatLevel}
use Rattle.format_spec.specs.Formats.{modes_of}
use Rattle.level_core.specs.Entries.{one}
use Rattle.level_rows.specs.Stacks.{Path}
use Rattle.tensor_storage.specs.Levels.{meaning}
use Rattle.tensor_storage.specs.Storages.{EndsAt, in_level_order}
use Rattle.tensor_storage.proofs.tensor.Tensor.at.Goals as goal

pub value_at-requires-clause-modes : goal.value_at-requires-clause-modes
value_at-requires-clause-modes g c = subst (λ f. (k : ℕ) (d : FormatLevel) → k < length f → (get_or f k d).mode < length c.args.coords.now)
    (sym c.levels.ensures.value)
    (λ k d h.
    let long : length (modes_of c.self.inside.format) ≡ length c.self.inside.format =
    length-map c.self.inside.format (λ level. level.mode) in
    let same : get_or (modes_of c.self.inside.format) k d.mode ≡ (get_or c.self.inside.format k d).mode =
    get_or-map (λ level. level.mode) c.self.inside.format k d in
    let below : get_or (modes_of c.self.inside.format) k d.mode < length c.self.inside.format =
    c.levels.ensures.format.order.below k d.mode (omega (arith, long, h)) in
    let as_many : length c.self.inside.format ≡ length c.args.self.now.format = ap (λ s. length s.format) c.self.view_is in
    let asked = c.requires in
    omega (arith, same, below, as_many, asked))

pub returns-clause-absent : goal.returns-clause-absent
returns-clause-absent g c = λ no_path. c.value_at.ensures.none (λ pos p. no_path pos
    (subst (λ s. EndsAt s c.args.coords.now pos) c.self.view_is
    (subst (λ f. Path meaning c.self.inside.levels (one 0) (in_level_order f c.args.coords.now) pos) c.levels.ensures.value
    (subst (λ ls. Path meaning ls (one 0) (in_level_order c.levels.result.now c.args.coords.now) pos) c.as_slice.ensures p))))
    ∙ c.zero.ensures
