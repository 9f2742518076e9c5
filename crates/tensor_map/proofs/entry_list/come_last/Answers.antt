use Rattle.std.proofs.Common.{◌≡◌, ◌+◌, ◌-◌, ℕ, sym, subst, refl, length, arith, []}
use Rattle.std.specs.Prelude.{IsTrue}
use Rattle.tensor_map.specs.Entries.{Entry}
use Rattle.tensor_map.proofs.Noted.{before_tested}
use Rattle.tensor_map.proofs.entry_list.come_last.Goals as goal

-- read only past the end of a list
blank : Entry
blank = record { coords = []; value = 0 }

pub returns-else-len-eq0 : goal.returns-else-len-eq0
returns-else-len-eq0 c =
    let last : ℕ = length c.args.columns.now.list - 1 in
    let some : last + 1 ≡ length c.args.columns.now.list = omega (arith, c.len.ensures) in (
      λ tested k d h. (before_tested _ _ _ refl).0 (subst IsTrue (c.is_last_before.ensures k d h) tested),
      λ comes. subst IsTrue (sym (c.is_last_before.ensures last blank some)) ((before_tested _ _ _ refl).1 (comes last blank some)),
    )
