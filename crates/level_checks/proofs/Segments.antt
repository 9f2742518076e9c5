-- The positions below allowed parents are positions of the level.
use Rattle.std.specs.Prelude.{◌≡◌, ℕ, ◌+◌, ◌*◌, ◌≤◌, length}
use Rattle.std.proofs.Common.{◌∙◌, sym, subst, arith}
use Rattle.std.proofs.lemmas.Nat.{mul-le}
use Rattle.level_core.specs.declared.span.Span.{Span}
use Rattle.level_core.specs.declared.stage.Stage.TheVariants.{Unfinished, Finished}
use Rattle.compressed_level.specs.PartLaws.{totals_within}
use Rattle.hashed_level.specs.Hashed as hashed
use Rattle.tensor_storage.specs.declared.level.StorageLevel.{StorageLevel}
use Rattle.tensor_storage.specs.declared.level.StorageLevel.TheVariants.{Dense as OfDense, Compressed as OfCompressed}
use Rattle.tensor_storage.specs.declared.level.StorageLevel.TheVariants.{Singleton as OfSingleton, Hashed as OfHashed}
use Rattle.tensor_storage.specs.Levels.{meaning}

not_both : Finished ≡ Unfinished → ⊥
not_both e = cc

blocks_within : (lo hi parents w count : ℕ) → hi ≡ lo + 1 → hi ≤ parents → count ≡ parents * w → lo * w + w ≤ count
blocks_within lo hi parents w count single inside is =
    let k : (lo + 1) * w ≤ parents * w = mul-le (lo + 1) w parents w (omega (arith, single, inside)) (omega arith) in
    omega (arith, k, is)

pub segment_within : (l : StorageLevel) (parents : ℕ) (s : Span) → meaning.has_parents l parents → meaning.allowed l s → s.hi ≤ parents
    → (meaning.segment_of l s).hi ≤ meaning.positions l parents
segment_within (OfDense n) parents s has ok inside = mul-le s.hi n parents n inside (omega arith)
segment_within (OfCompressed l) parents s has ok inside =
    let within = totals_within s.hi l.log.counts in
    let all = has.keeps.all_given (λ e. not_both (sym has.finished ∙ e)) in
    omega (arith, within, all)
segment_within (OfSingleton l) parents s has ok inside =
    let given = has.keeps.given has.finished in
    let count = has.count in
    omega (arith, given, count, inside)
segment_within (OfHashed l) parents s has ok inside =
    blocks_within s.lo s.hi l.parents (hashed.block_width l) (length l.slots) ok.one_parent
    (subst (λ n. s.hi ≤ n) (sym has.count) inside) has.rules.count
