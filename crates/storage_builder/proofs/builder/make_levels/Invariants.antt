use Rattle.std.specs.Prelude.{◌≡◌, vec_capacity}
use Rattle.format_spec.specs.Formats.{letters_of}
use Rattle.storage_builder.proofs.Making.{Making}
use Rattle.storage_builder.proofs.builder.make_levels.Given as goal

abbrev pub invariant-loop-number : goal.invariant-loop-number
invariant-loop-number l =
    Making (letters_of l.format) l.sizes l.fn.parts.items l.number l.parents l.parts.items l.levels.items
    × (vec_capacity l.levels ≡ vec_capacity l.fn.levels)
