use Rattle.std.proofs.Common.{◌≡◌, ◌-◌, ◌++◌, ◌∙◌, sym, ap, subst, length, replicate}
use Rattle.level_core.specs.declared.stage.Stage.TheVariants.{Unfinished}
use Rattle.compressed_level.specs.Compressed.{KeepsRules, IsStored}
use Rattle.compressed_level.specs.Compressed.{stored}
use Rattle.compressed_level.proofs.CallLaws.{parents_keep}
use Rattle.compressed_level.proofs.appending.CompressedLevelAppend.reserve.Goals as goal

pub invariant_of-self-2 : goal.invariant_of-self-2
invariant_of-self-2 c =
    let known = c.len-known.ensures in
    let more = c.saturating_sub-more.ensures in
    let count : c.saturating_sub-more.result ≡ c.args.parents - (length c.self.inside.ends.items - 1) = more
    ∙ ap (λ n. c.args.parents - (n - 1)) known in
    let items : c.push_copies.new.self.items ≡ c.self.inside.ends.items
    ++ replicate c.saturating_sub-more.result 0 = c.push_copies.ensures.items
    ∙ ap (λ xs. xs ++ replicate c.saturating_sub-more.result 0) c.in_ok-reserve.ensures.items in
    let kept = subst (λ xs. KeepsRules
    (stored c.self.inside.size c.self.inside.unique Unfinished c.push_copies.new.self.items xs c.self.inside.next
    c.reserve-2.new.self.spare) × IsStored Unfinished c.push_copies.new.self.items) (sym c.in_ok-reserve-2.ensures.items)
    (parents_keep c.self.inside.size c.self.inside.unique c.self.inside.stage c.self.inside.ends.items c.self.inside.coords.items
    c.self.inside.next c.self.inside.coords.spare c.reserve-2.new.self.spare c.args.parents c.saturating_sub-more.result
    c.push_copies.new.self.items c.args.self.now c.self.view_is c.self.invariant.0 c.self.invariant.1 c.requires count items) in (
      kept.0,
      kept.1,
      c.in_ok-reserve-2.ensures.wide ∙ c.self.invariant.2,
      c.push_copies.ensures.wide ∙ c.in_ok-reserve.ensures.wide ∙ c.self.invariant.3,
    )
