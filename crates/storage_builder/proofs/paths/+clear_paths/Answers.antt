use Rattle.std.specs.Prelude.{◌<◌, ◌+◌, length, drop}
use Rattle.std.proofs.Common.{◌∙◌, sym, subst, arith, get_or, rules}
use Rattle.level_core.specs.declared.span.Entry.{Entry}
use Rattle.tensor_storage.specs.Levels.{meaning}
use Rattle.tensor_storage.specs.Storages.{IsOpen}
use Rattle.tensor_storage.proofs.AppendSteps.{levels_left}
use Rattle.level_checks.proofs.Loops.{never, no, yes}
use Rattle.storage_builder.proofs.Descending.{done_below, child_within, not_open, opened_more, opened_end, cleared_more, cleared_end}
use Rattle.storage_builder.proofs.paths.+clear_paths.Goals as goal

abbrev none : Entry
none = record { coord = 0; child = record { lo = 0; hi = 0 } }

pub clear_paths-requires : goal.clear_paths-requires
clear_paths-requires t c =
    let a = c.args in
    let some = c.requires.depth in
    let other = c.if-depth-levels.false in
    let less : a.depth < length a.levels.now = omega (arith, some, other) in
    let level = c.index-levels-depth.result in
    let found = c.as_slice-found.result.now in
    let left = levels_left a.levels.now a.depth level less c.index-levels-depth.is in
    let ok = c.may_ask.ensures.0 c.if-not-may_ask.false in
    let is = c.as_slice-found.ensures ∙ c.in_ok-entries.ensures in
    let count = c.positions_of-count.result in
    let n = length a.values.now in
    let child = child_within a.levels.now a.depth a.parents count a.span level found n left c.requires.done c.requires.within ok is
    c.positions_of-count.ensures c.loop-entry.entry-index none c.loop-entry-test.true in (
      search rules,
      (
        omega (arith, less),
        (
          done_below a.levels.now a.depth a.parents count a.span level found n left c.requires.done c.requires.within ok is
              c.positions_of-count.ensures,
          (child.0, child.1),
        ),
      ),
    )

pub returns-then-not-branch-clause-opened : goal.returns-then-not-branch-clause-opened
returns-then-not-branch-clause-opened t c =
    let a = c.args in
    let some = c.requires.depth in
    let other = c.if-depth-levels.false in
    let less : a.depth < length a.levels.now = omega (arith, some, other) in
    let level = c.index-levels-depth.result in
    let found = c.as_slice-found.result.now in
    let left = levels_left a.levels.now a.depth level less c.index-levels-depth.is in
    let ok = c.may_ask.ensures.0 c.if-not-may_ask.false in
    let is = c.as_slice-found.ensures ∙ c.in_ok-entries.ensures in
    let l = c.loop-entry in
    no (λ o.
    let child = not_open a.levels.now a.depth a.parents c.positions_of-count.result a.span level found (length a.values.now) left
    c.requires.done c.requires.within ok is c.positions_of-count.ensures l.entry-index none c.loop-entry-test.true l.invariant.0 o in
    never (sym c.if-not-branch.true ∙ c.in_ok-clear_paths.ensures.opened.1
    (subst (λ k. IsOpen meaning (drop (a.depth + 1) a.levels.now) k (get_or found l.entry-index none).child) (sym l.invariant.1.1) child)))

pub loop-entry-preserved : goal.loop-entry-preserved
loop-entry-preserved t c =
    let a = c.args in
    let some = c.requires.depth in
    let other = c.if-depth-levels.false in
    let less : a.depth < length a.levels.now = omega (arith, some, other) in
    let level = c.index-levels-depth.result in
    let found = c.as_slice-found.result.now in
    let left = levels_left a.levels.now a.depth level less c.index-levels-depth.is in
    let ok = c.may_ask.ensures.0 c.if-not-may_ask.false in
    let is = c.as_slice-found.ensures ∙ c.in_ok-entries.ensures in
    let count = c.positions_of-count.result in
    let n = length a.values.now in
    let l = c.loop-entry in
    let here = subst (λ k. IsOpen meaning (drop (a.depth + 1) a.levels.now) k (get_or found l.entry-index none).child) l.invariant.1.1
    (c.in_ok-clear_paths.ensures.opened.0 c.if-not-branch.false) in (
      opened_more a.levels.now a.depth a.parents count a.span level found n left c.requires.done c.requires.within ok is
          c.positions_of-count.ensures l.entry-index none c.loop-entry-test.true here l.invariant.0,
      (
        cleared_more a.levels.now a.depth a.parents count a.span level found n left c.requires.done c.requires.within ok is
            c.positions_of-count.ensures a.nothing a.values.now l.values c.clear_paths.new.values l.entry-index none c.loop-entry-test.true
            l.invariant.1.0 (c.in_ok-clear_paths.ensures.cleared c.if-not-branch.false),
        c.in_ok-clear_paths.ensures.long ∙ l.invariant.1.1,
      ),
    )

pub returns-clause-opened : goal.returns-clause-opened
returns-clause-opened t c =
    let a = c.args in
    let some = c.requires.depth in
    let other = c.if-depth-levels.false in
    let less : a.depth < length a.levels.now = omega (arith, some, other) in
    let level = c.index-levels-depth.result in
    let found = c.as_slice-found.result.now in
    let left = levels_left a.levels.now a.depth level less c.index-levels-depth.is in
    let ok = c.may_ask.ensures.0 c.if-not-may_ask.false in
    let is = c.as_slice-found.ensures ∙ c.in_ok-entries.ensures in
    let l = c.loop-entry in
    yes (opened_end a.levels.now a.depth a.parents c.positions_of-count.result a.span level found (length a.values.now) left c.requires.done
    c.requires.within ok is c.positions_of-count.ensures l.entry-index c.loop-entry-test.false l.invariant.0)

pub returns-clause-cleared : goal.returns-clause-cleared
returns-clause-cleared t c =
    let a = c.args in
    let some = c.requires.depth in
    let other = c.if-depth-levels.false in
    let less : a.depth < length a.levels.now = omega (arith, some, other) in
    let level = c.index-levels-depth.result in
    let found = c.as_slice-found.result.now in
    let left = levels_left a.levels.now a.depth level less c.index-levels-depth.is in
    let ok = c.may_ask.ensures.0 c.if-not-may_ask.false in
    let is = c.as_slice-found.ensures ∙ c.in_ok-entries.ensures in
    let l = c.loop-entry in
    λ _. cleared_end a.levels.now a.depth a.parents c.positions_of-count.result a.span level found (length a.values.now) left
    c.requires.done
    c.requires.within ok is c.positions_of-count.ensures a.nothing a.values.now l.values l.entry-index c.loop-entry-test.false
    l.invariant.1.0
