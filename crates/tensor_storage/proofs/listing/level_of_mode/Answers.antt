use Rattle.std.specs.Prelude.{◌≡◌, ◌⊎◌, ℕ, ◌+◌, ◌≤◌, ◌<◌, length, slice_index}
use Rattle.std.proofs.Common.{◌∙◌, sym, arith, subst, inl, inr}
use Rattle.std.proofs.lemmas.Bool.{cases_lt}
use Rattle.std.proofs.lemmas.List.{get_or-map}
use Rattle.format_spec.specs.declared.format.FormatLevel.{FormatLevel}
use Rattle.level_core.specs.declared.letter.Letter.TheVariants.{Dense}
use Rattle.format_spec.specs.Formats.{modes_of}
use Rattle.format_spec.proofs.Pigeonholes.{each_mode_stands}
use Rattle.tensor_storage.proofs.listing.level_of_mode.Goals as goal

none : FormatLevel
none = record { letter = Dense; mode = 0 }

pub unreachable-requires : goal.unreachable-requires
unreachable-requires c =
    let k = each_mode_stands (length c.args.format.now) (modes_of c.args.format.now) c.args.mode c.requires.format.order c.requires.mode in
    let inside = k.1 in
    let all = c.loop-level-test.false in
    c.loop-level.invariant k.0 (omega (arith, inside, all)) k.2

pub loop-level-preserved : goal.loop-level-preserved
unfolding none
loop-level-preserved c = λ k less is. by_order k less is (cases_lt k c.loop-level.level)
  where
    by_order : (k : ℕ) → k < c.loop-level.level + 1 → slice_index (modes_of c.args.format.now) k ≡ c.args.mode
        → (k < c.loop-level.level) ⊎ (c.loop-level.level ≤ k) → ⊥
    by_order k less is (inl before) = c.loop-level.invariant k before is
    by_order k less is (inr from) =
        let same : k ≡ c.loop-level.level = omega (arith, less, from) in
        c.if-format-level.false (sym (get_or-map (λ level. level.mode) c.args.format.now c.loop-level.level
        (record { letter = Dense; mode = 0 }) 0 c.loop-level-test.true)
        ∙ subst (λ n. slice_index (modes_of c.args.format.now) n ≡ c.args.mode) same is)
