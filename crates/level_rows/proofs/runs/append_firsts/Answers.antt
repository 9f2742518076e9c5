use Rattle.std.specs.Prelude.{◌<◌, ◌+◌, ◌-◌, ℕ, List, true, length, take, drop, replicate, slice_index, refl}
use Rattle.std.proofs.Common.{◌∙◌, sym, subst, arith}
use Rattle.std.proofs.lemmas.List.{length-replicate}
use Rattle.level_rows.specs.Taken.{AppendsRows}
use Rattle.level_rows.proofs.AppendLoop.{Filling, begins, may_append, is_spare, is_room, may_close, may_finish_it, appends}
use Rattle.level_rows.proofs.FirstRows.{firsts, first_parent, some_are, next_there, next_coord, next_first, next_again, all_there}
use Rattle.level_rows.proofs.FirstRows.{stays, first_more, again_more}
use Rattle.level_rows.proofs.RunNumbers.{behind_at, numbers_are}
use Rattle.level_rows.proofs.runs.append_firsts.Goals as goal
use Rattle.level_rows.proofs.runs.append_firsts.Goals.{then-word-before, else-word-before}

pub append_first-at-requires-clause-may : goal.append_first-at-requires-clause-may
append_first-at-requires-clause-may g c =
    let keys = g.R.SortedRows.keys c.args._rows.now in
    let here : 0 < keys.count = let some = c.requires.some in let long = c.requires.column.long in omega (arith, some, long) in
    let none =
    begins g.L.LevelKind.meaning g.met.L.LevelKind.laws c.args.parents (firsts (g.R.SortedRows.keys c.args._rows.now)) c.args.level.now
    c.requires.rows
    c.args.most (g.L.Append.spare c.reserve.new.self) (replicate keys.count 0) c.reserve.new.self c.in_ok-reserve.ensures.log
    c.requires.fresh c.tell_rules.ensures c.requires.most c.in_ok-reserve.ensures.spare (length-replicate keys.count 0) (λ i. refl) in
    let stays =
    stays g.L.LevelKind.meaning g.met.L.LevelKind.laws c.args.parents (firsts (g.R.SortedRows.keys c.args._rows.now)) c.args.level.now
    c.requires.rows
    (first_parent keys) 0 (g.L.Append.spare c.reserve.new.self) (record { last = 0; begin = 0; count = 0 }) (replicate keys.count 0)
    c.reserve.new.self none here in
    let first = c.requires.rows.order.begins here in
    may_append g.L.LevelKind.meaning g.met.L.LevelKind.laws c.args.parents (firsts (g.R.SortedRows.keys c.args._rows.now)) c.args.level.now
    c.requires.rows 0
    (g.L.Append.spare c.reserve.new.self) (record { last = 0; begin = 0; count = 0 }) c.reserve.new.self stays true
    (slice_index c.args.column.now 0) here (sym first) (c.requires.column.at 0 here)

pub append_first-at-requires-clause-spare : goal.append_first-at-requires-clause-spare
append_first-at-requires-clause-spare g c =
    let keys = g.R.SortedRows.keys c.args._rows.now in
    let here : 0 < keys.count = let some = c.requires.some in let long = c.requires.column.long in omega (arith, some, long) in
    let none =
    begins g.L.LevelKind.meaning g.met.L.LevelKind.laws c.args.parents (firsts (g.R.SortedRows.keys c.args._rows.now)) c.args.level.now
    c.requires.rows
    c.args.most (g.L.Append.spare c.reserve.new.self) (replicate keys.count 0) c.reserve.new.self c.in_ok-reserve.ensures.log
    c.requires.fresh c.tell_rules.ensures c.requires.most c.in_ok-reserve.ensures.spare (length-replicate keys.count 0) (λ i. refl) in
    let stays =
    stays g.L.LevelKind.meaning g.met.L.LevelKind.laws c.args.parents (firsts (g.R.SortedRows.keys c.args._rows.now)) c.args.level.now
    c.requires.rows
    (first_parent keys) 0 (g.L.Append.spare c.reserve.new.self) (record { last = 0; begin = 0; count = 0 }) (replicate keys.count 0)
    c.reserve.new.self none here in
    let first = c.requires.rows.order.begins here in
    is_spare g.L.LevelKind.meaning g.met.L.LevelKind.laws c.args.parents (firsts (g.R.SortedRows.keys c.args._rows.now)) c.args.level.now
    c.requires.rows 0
    (g.L.Append.spare c.reserve.new.self) (record { last = 0; begin = 0; count = 0 }) c.reserve.new.self stays true here (sym first)

pub append_first-at-requires-clause-room : goal.append_first-at-requires-clause-room
append_first-at-requires-clause-room g c =
    let keys = g.R.SortedRows.keys c.args._rows.now in
    let here : 0 < keys.count = let some = c.requires.some in let long = c.requires.column.long in omega (arith, some, long) in
    let none =
    begins g.L.LevelKind.meaning g.met.L.LevelKind.laws c.args.parents (firsts (g.R.SortedRows.keys c.args._rows.now)) c.args.level.now
    c.requires.rows
    c.args.most (g.L.Append.spare c.reserve.new.self) (replicate keys.count 0) c.reserve.new.self c.in_ok-reserve.ensures.log
    c.requires.fresh c.tell_rules.ensures c.requires.most c.in_ok-reserve.ensures.spare (length-replicate keys.count 0) (λ i. refl) in
    let stays =
    stays g.L.LevelKind.meaning g.met.L.LevelKind.laws c.args.parents (firsts (g.R.SortedRows.keys c.args._rows.now)) c.args.level.now
    c.requires.rows
    (first_parent keys) 0 (g.L.Append.spare c.reserve.new.self) (record { last = 0; begin = 0; count = 0 }) (replicate keys.count 0)
    c.reserve.new.self none here in
    let first = c.requires.rows.order.begins here in
    is_room g.L.LevelKind.meaning g.met.L.LevelKind.laws c.args.parents (firsts (g.R.SortedRows.keys c.args._rows.now)) c.args.level.now
    c.requires.rows 0
    (g.L.Append.spare c.reserve.new.self) (record { last = 0; begin = 0; count = 0 }) c.reserve.new.self stays true here (sym first)
    (let m = c.requires.most in let r = c.requires.room in omega (arith, m, r))

pub loop-word-init : goal.loop-word-init
loop-word-init g c =
    let keys = g.R.SortedRows.keys c.args._rows.now in
    let here : 0 < keys.count = let some = c.requires.some in let long = c.requires.column.long in omega (arith, some, long) in
    let none =
    begins g.L.LevelKind.meaning g.met.L.LevelKind.laws c.args.parents (firsts (g.R.SortedRows.keys c.args._rows.now)) c.args.level.now
    c.requires.rows
    c.args.most (g.L.Append.spare c.reserve.new.self) (replicate keys.count 0) c.reserve.new.self c.in_ok-reserve.ensures.log
    c.requires.fresh c.tell_rules.ensures c.requires.most c.in_ok-reserve.ensures.spare (length-replicate keys.count 0) (λ i. refl) in (
      first_more g.L.LevelKind.meaning g.met.L.LevelKind.laws c.args.parents (firsts (g.R.SortedRows.keys c.args._rows.now))
          c.args.level.now c.requires.rows
          (first_parent keys) 0 (g.L.Append.spare c.reserve.new.self) (record { last = 0; begin = 0; count = 0 }) (replicate keys.count 0)
          c.reserve.new.self none here
          (slice_index c.args.column.now 0) (g.L.Append.spare c.append_first-at.new.level) c.append_first-at.result
          c.append_first-at.new.level (c.requires.rows.order.begins here) (c.requires.column.at 0 here) c.append_first-at.ensures.cursor
          c.append_first-at.ensures.log c.append_first-at.ensures.keeps c.append_first-at.ensures.spare,
      refl,
    )

pub append_first-at-requires-then-word-before-clause-may : goal.append_first-at-requires-then-word-before-clause-may
append_first-at-requires-then-word-before-clause-may g c =
    let keys = g.R.SortedRows.keys c.args._rows.now in
    let here = next_there keys c.args.column.now c.requires.column.long c.requires.column.at c.requires.runs c.loop-word.word-index
    c.loop-word.before c.loop-word-test.true c.loop-word.invariant.1 in
    let stays =
    stays g.L.LevelKind.meaning g.met.L.LevelKind.laws c.args.parents (firsts (g.R.SortedRows.keys c.args._rows.now)) c.args.level.now
    c.requires.rows
    (first_parent keys) (c.loop-word.word-index + 1) (g.L.Append.spare c.loop-word.level) c.loop-word.at c.loop-word.invariant.0.0
    c.loop-word.level c.loop-word.invariant.0.1 here in
    let first = next_first keys c.args.column.now c.requires.column.long c.requires.column.at c.requires.runs c.loop-word.word-index
    c.loop-word.before c.loop-word-test.true c.loop-word.invariant.1 c.if-word-before.true in
    let coord = next_coord keys c.args.column.now c.requires.column.long c.requires.column.at c.requires.runs c.loop-word.word-index
    c.loop-word.before c.loop-word-test.true c.loop-word.invariant.1 in
    may_append g.L.LevelKind.meaning g.met.L.LevelKind.laws c.args.parents (firsts (g.R.SortedRows.keys c.args._rows.now)) c.args.level.now
    c.requires.rows (c.loop-word.word-index + 1)
    (g.L.Append.spare c.loop-word.level) c.loop-word.at c.loop-word.level stays true
    (slice_index (take (length c.args.column.now - 1) (drop 1 c.args.column.now)) c.loop-word.word-index) here (sym first) coord

pub append_first-at-requires-then-word-before-clause-spare : goal.append_first-at-requires-then-word-before-clause-spare
append_first-at-requires-then-word-before-clause-spare g c =
    let keys = g.R.SortedRows.keys c.args._rows.now in
    let here = next_there keys c.args.column.now c.requires.column.long c.requires.column.at c.requires.runs c.loop-word.word-index
    c.loop-word.before c.loop-word-test.true c.loop-word.invariant.1 in
    let stays =
    stays g.L.LevelKind.meaning g.met.L.LevelKind.laws c.args.parents (firsts (g.R.SortedRows.keys c.args._rows.now)) c.args.level.now
    c.requires.rows
    (first_parent keys) (c.loop-word.word-index + 1) (g.L.Append.spare c.loop-word.level) c.loop-word.at c.loop-word.invariant.0.0
    c.loop-word.level c.loop-word.invariant.0.1 here in
    let first = next_first keys c.args.column.now c.requires.column.long c.requires.column.at c.requires.runs c.loop-word.word-index
    c.loop-word.before c.loop-word-test.true c.loop-word.invariant.1 c.if-word-before.true in
    is_spare g.L.LevelKind.meaning g.met.L.LevelKind.laws c.args.parents (firsts (g.R.SortedRows.keys c.args._rows.now)) c.args.level.now
    c.requires.rows (c.loop-word.word-index + 1)
    (g.L.Append.spare c.loop-word.level) c.loop-word.at c.loop-word.level stays true here (sym first)

pub append_first-at-requires-then-word-before-clause-room : goal.append_first-at-requires-then-word-before-clause-room
append_first-at-requires-then-word-before-clause-room g c =
    let keys = g.R.SortedRows.keys c.args._rows.now in
    let here = next_there keys c.args.column.now c.requires.column.long c.requires.column.at c.requires.runs c.loop-word.word-index
    c.loop-word.before c.loop-word-test.true c.loop-word.invariant.1 in
    let stays =
    stays g.L.LevelKind.meaning g.met.L.LevelKind.laws c.args.parents (firsts (g.R.SortedRows.keys c.args._rows.now)) c.args.level.now
    c.requires.rows
    (first_parent keys) (c.loop-word.word-index + 1) (g.L.Append.spare c.loop-word.level) c.loop-word.at c.loop-word.invariant.0.0
    c.loop-word.level c.loop-word.invariant.0.1 here in
    let first = next_first keys c.args.column.now c.requires.column.long c.requires.column.at c.requires.runs c.loop-word.word-index
    c.loop-word.before c.loop-word-test.true c.loop-word.invariant.1 c.if-word-before.true in
    is_room g.L.LevelKind.meaning g.met.L.LevelKind.laws c.args.parents (firsts (g.R.SortedRows.keys c.args._rows.now)) c.args.level.now
    c.requires.rows (c.loop-word.word-index + 1)
    (g.L.Append.spare c.loop-word.level) c.loop-word.at c.loop-word.level stays true here (sym first)
    (let m = c.requires.most in let r = c.requires.room in omega (arith, m, r))

pub loop-word-preserved : goal.loop-word-preserved
loop-word-preserved g c =
    let keys = g.R.SortedRows.keys c.args._rows.now in
    let here = next_there keys c.args.column.now c.requires.column.long c.requires.column.at c.requires.runs c.loop-word.word-index
    c.loop-word.before c.loop-word-test.true c.loop-word.invariant.1 in
    let coord = next_coord keys c.args.column.now c.requires.column.long c.requires.column.at c.requires.runs c.loop-word.word-index
    c.loop-word.before c.loop-word-test.true c.loop-word.invariant.1 in
    let at = behind_at c.args.column.now c.loop-word.word-index c.loop-word-test.true in
    elim c.if-word-before.branch [
      | then-word-before w ↦
          let step = w.append_first-at-then-word-before in
          let first = next_first keys c.args.column.now c.requires.column.long c.requires.column.at c.requires.runs c.loop-word.word-index
          c.loop-word.before c.loop-word-test.true c.loop-word.invariant.1 w.if-word-before.true in
          let more =
          first_more g.L.LevelKind.meaning g.met.L.LevelKind.laws c.args.parents (firsts (g.R.SortedRows.keys c.args._rows.now))
          c.args.level.now c.requires.rows
          (first_parent keys) (c.loop-word.word-index + 1) (g.L.Append.spare c.loop-word.level) c.loop-word.at c.loop-word.invariant.0.0
          c.loop-word.level c.loop-word.invariant.0.1 here
          (slice_index (take (length c.args.column.now - 1) (drop 1 c.args.column.now)) c.loop-word.word-index)
          (g.L.Append.spare step.new.level) step.result
          step.new.level first coord step.ensures.cursor step.ensures.log step.ensures.keeps step.ensures.spare in (
            subst (λ k. (positions : List ℕ) × Filling g.L.LevelKind.meaning c.args.parents (c.loop-word.word-index + 1 + 1)
                (g.L.Append.spare k) c.if-word-before.at (firsts keys) positions c.args.level.now k) (sym w.level-is)
                (subst (λ t. (positions : List ℕ) × Filling g.L.LevelKind.meaning c.args.parents (c.loop-word.word-index + 1 + 1)
                (g.L.Append.spare step.new.level) t (firsts keys) positions c.args.level.now step.new.level) (sym w.at-is) more),
            w.before-is ∙ at,
          )
      | else-word-before w ↦
          let first = next_again keys c.args.column.now c.requires.column.long c.requires.column.at c.requires.runs c.loop-word.word-index
          c.loop-word.before c.loop-word-test.true c.loop-word.invariant.1 w.if-word-before.false in
          let more =
          again_more g.L.LevelKind.meaning g.met.L.LevelKind.laws c.args.parents (firsts (g.R.SortedRows.keys c.args._rows.now))
          c.args.level.now c.requires.rows
          (first_parent keys) (c.loop-word.word-index + 1) (g.L.Append.spare c.loop-word.level) c.loop-word.at c.loop-word.invariant.0.0
          c.loop-word.level c.loop-word.invariant.0.1 here first in (
            subst (λ k. (positions : List ℕ) × Filling g.L.LevelKind.meaning c.args.parents (c.loop-word.word-index + 1 + 1)
                (g.L.Append.spare k) c.if-word-before.at (firsts keys) positions c.args.level.now k) (sym w.level-is)
                (subst (λ t. (positions : List ℕ) × Filling g.L.LevelKind.meaning c.args.parents (c.loop-word.word-index + 1 + 1)
                (g.L.Append.spare c.loop-word.level) t (firsts keys) positions c.args.level.now c.loop-word.level) (sym w.at-is) more),
            w.before-is ∙ at,
          )
    ]

pub close-requires : goal.close-requires
close-requires g c =
    let keys = g.R.SortedRows.keys c.args._rows.now in
    let here : 0 < keys.count = let some = c.requires.some in let long = c.requires.column.long in omega (arith, some, long) in
    let all = all_there c.args.column.now keys.count c.loop-word.word-index c.requires.column.long c.loop-word-test.false
    c.loop-word.invariant.0.1.upto in
    let full =
    subst (λ n. Filling g.L.LevelKind.meaning c.args.parents n (g.L.Append.spare c.loop-word.level) c.loop-word.at (firsts keys)
    c.loop-word.invariant.0.0 c.args.level.now c.loop-word.level) all c.loop-word.invariant.0.1 in
    may_close g.L.LevelKind.meaning g.met.L.LevelKind.laws c.args.parents (firsts (g.R.SortedRows.keys c.args._rows.now)) c.args.level.now
    c.requires.rows
    (g.L.Append.spare c.loop-word.level) c.loop-word.at c.loop-word.invariant.0.0 c.loop-word.level full true (some_are keys.count here)

pub finish-requires : goal.finish-requires
finish-requires g c =
    let keys = g.R.SortedRows.keys c.args._rows.now in
    let here : 0 < keys.count = let some = c.requires.some in let long = c.requires.column.long in omega (arith, some, long) in
    let all = all_there c.args.column.now keys.count c.loop-word.word-index c.requires.column.long c.loop-word-test.false
    c.loop-word.invariant.0.1.upto in
    let full =
    subst (λ n. Filling g.L.LevelKind.meaning c.args.parents n (g.L.Append.spare c.loop-word.level) c.loop-word.at (firsts keys)
    c.loop-word.invariant.0.0 c.args.level.now c.loop-word.level) all c.loop-word.invariant.0.1 in
    may_finish_it g.L.LevelKind.meaning g.met.L.LevelKind.laws c.args.parents (firsts (g.R.SortedRows.keys c.args._rows.now))
    c.args.level.now c.requires.rows
    (g.L.Append.spare c.loop-word.level) c.loop-word.at c.loop-word.invariant.0.0 c.loop-word.level full true c.close.new.level
    (some_are keys.count here)
    c.close.ensures.log c.close.ensures.keeps

pub returns-clause-ok : goal.returns-clause-ok
returns-clause-ok g c =
    let keys = g.R.SortedRows.keys c.args._rows.now in
    let here : 0 < keys.count = let some = c.requires.some in let long = c.requires.column.long in omega (arith, some, long) in
    let all = all_there c.args.column.now keys.count c.loop-word.word-index c.requires.column.long c.loop-word-test.false
    c.loop-word.invariant.0.1.upto in
    let full =
    subst (λ n. Filling g.L.LevelKind.meaning c.args.parents n (g.L.Append.spare c.loop-word.level) c.loop-word.at (firsts keys)
    c.loop-word.invariant.0.0 c.args.level.now c.loop-word.level) all c.loop-word.invariant.0.1 in
    let done =
    appends g.L.LevelKind.meaning g.met.L.LevelKind.laws c.args.parents (firsts (g.R.SortedRows.keys c.args._rows.now)) c.args.level.now
    c.requires.rows
    (g.L.Append.spare c.loop-word.level) c.loop-word.at c.loop-word.invariant.0.0 c.loop-word.level full true c.close.new.level
    c.finish.new.self (some_are keys.count here)
    c.close.ensures.log c.close.ensures.keeps c.finish.ensures in
    subst (λ places. AppendsRows g.L.LevelKind.meaning c.args.parents (firsts keys) places c.args.level.now c.finish.new.self)
    (numbers_are keys c.args.column.now c.loop-word.invariant.0.0 c.requires.runs c.requires.column.long done.takes.many done.numbered)
    done
