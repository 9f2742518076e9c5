use Rattle.std.specs.Prelude.{◌≡◌, ◌<◌, suc, ◌-◌, length}
use Rattle.std.specs.List.Sorted.{IsSortedBy, IsSortedByKey, IsStableByKey}
use Rattle.std.specs.Ordering.{nat_cmp}
use Rattle.std.proofs.Common.{sym, subst, arith, rules}
use Rattle.std.proofs.lemmas.Fn.{always_returns_same}
use Rattle.std.proofs.lemmas.List.Sorted.{IsPermutation-trans}
use Rattle.tensor_storage.proofs.LevelSorts.{is_before_from, key_at, sorted_from}
use Rattle.tensor_storage.proofs.entries.sort_numbers.Goals as goal

pub loop-level-preserved : goal.loop-level-preserved
loop-level-preserved c =
    let format = c.args.format.now in
    let entries = c.args.entries.now.list in
    let level = c.loop-level.level-counter - 1 in
    let next : suc level ≡ c.loop-level.level-counter = let some = c.loop-level-test.true in omega (arith, some) in
    let within : level < length format = let most = c.loop-level.auto.level-counter in let some = c.loop-level-test.true in
    omega (arith, most, some) in
    let moved = c.sort_by_cached_key.ensures.permutation in
    let sorted : IsSortedByKey (key_at format entries level) nat_cmp c.sort_by_cached_key.new.self.items =
    c.in_ok-sort_by_cached_key.ensures.sorted (key_at format entries level)
    (always_returns_same _ _ _ (λ a r f' k. search rules)) in
    let stable : IsStableByKey (key_at format entries level) nat_cmp c.loop-level.numbers.items c.sort_by_cached_key.new.self.items =
    c.sort_by_cached_key.ensures.stable (key_at format entries level) (always_returns_same _ _ _ (λ a r f' k. search rules)) in (
      IsPermutation-trans c.args.numbers.now.items c.loop-level.numbers.items c.sort_by_cached_key.new.self.items
          c.loop-level.invariant.0 moved,
      sorted_from format entries level within c.loop-level.numbers.items c.sort_by_cached_key.new.self.items
          (subst (λ n. IsSortedBy (is_before_from format entries n) c.loop-level.numbers.items) (sym next) c.loop-level.invariant.1)
          sorted stable,
    )
