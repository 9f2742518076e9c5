use Rattle.std.proofs.Common.{◌≡◌, ◌∙◌, ◌-◌, ◌+◌, sym, ap, subst, length, arith, get_or, take, drop, ℕ, suc, nat_lt, slice_index}
use Rattle.std.specs.Ordering.{is_lt, nat_cmp}
use Rattle.std.specs.Cmp.Lexicographic.{slice_cmp}
use Rattle.std.proofs.lemmas.List.{drop_all, length-take-le}
use Rattle.limits.specs.Limits.{greatest_order}
use Rattle.tensor_map.specs.Entries.{Entry, Entries}
use Rattle.tensor_map.proofs.ColumnRows.{length_rows, row_long}
use Rattle.tensor_map.proofs.OrderLaws.{compared_more, compared_here}
use Rattle.tensor_map.proofs.columns.Columns.is_last_before.Goals as goal

pub returns-then-here-coordinate : goal.returns-then-here-coordinate
unfolding greatest_order
returns-then-here-coordinate c k d h =
    let many : length c.self.inside.values.items ≡ length c.args.self.now.list =
    sym (length_rows _ _ _ _) ∙ ap (λ (row : Entries). length row.list) c.self.view_is in
    let all : length (take c.self.inside.order c.self.inside.modes) ≡ c.self.inside.order =
    length-take-le c.self.inside.order c.self.inside.modes (omega (arith, c.self.invariant.0, c.self.invariant.2)) in
    let order : c.self.inside.order ≡ c.args.self.now.order = ap (λ (row : Entries). row.order) c.self.view_is in
    let at : c.len-last.result - 1 ≡ k = omega (arith, c.len-last.ensures) in
    let row : Entry = get_or c.args.self.now.list k d in
    let long : length row.coords ≡ length c.args.coords.now =
    sym (ap (λ (seen : Entries). length (get_or seen.list k d).coords) c.self.view_is)
    ∙ row_long _ _ c.self.inside.values.items k d (omega arith) ∙ all ∙ order ∙ sym c.requires.long in
    let here : c.narrow-here.result ≡ slice_index row.coords c.loop-mode.mode =
    c.narrow-here.ensures d ∙ ap (λ n. slice_index (get_or c.args.self.now.list n d).coords c.loop-mode.mode) at in
    (λ i. nat_lt (here i) (slice_index c.args.coords.now c.loop-mode.mode))
    ∙ sym (compared_here row.coords c.args.coords.now c.loop-mode.mode (omega (arith, c.loop-mode-test.true)) c.loop-mode-test.true
    (λ e. c.if-here-coordinate.true (here ∙ e)))
    ∙ ap is_lt (subst (λ n. slice_cmp nat_cmp (drop c.loop-mode.mode (get_or c.args.self.now.list n d).coords)
    (drop c.loop-mode.mode c.args.coords.now) ≡ slice_cmp nat_cmp (get_or c.args.self.now.list n d).coords c.args.coords.now)
    at (c.loop-mode.invariant d))

pub loop-mode-preserved : goal.loop-mode-preserved
unfolding greatest_order
loop-mode-preserved c d =
    let many : length c.self.inside.values.items ≡ length c.args.self.now.list =
    sym (length_rows _ _ _ _) ∙ ap (λ (row : Entries). length row.list) c.self.view_is in
    let all : length (take c.self.inside.order c.self.inside.modes) ≡ c.self.inside.order =
    length-take-le c.self.inside.order c.self.inside.modes (omega (arith, c.self.invariant.0, c.self.invariant.2)) in
    let order : c.self.inside.order ≡ c.args.self.now.order = ap (λ (row : Entries). row.order) c.self.view_is in
    let last : ℕ = c.len-last.result - 1 in
    let row : Entry = get_or c.args.self.now.list last d in
    let long : length row.coords ≡ length c.args.coords.now =
    sym (ap (λ (seen : Entries). length (get_or seen.list last d).coords) c.self.view_is)
    ∙ row_long _ _ c.self.inside.values.items last d (omega (arith, c.len-last.ensures)) ∙ all ∙ order ∙ sym c.requires.long in
    let next : c.loop-mode.mode + 1 ≡ suc c.loop-mode.mode = omega arith in
    (λ i. slice_cmp nat_cmp (drop (next i) row.coords) (drop (next i) c.args.coords.now))
    ∙ sym (compared_more row.coords c.args.coords.now c.loop-mode.mode (omega (arith, c.loop-mode-test.true)) c.loop-mode-test.true
    (sym (c.narrow-here.ensures d) ∙ c.if-here-coordinate.false))
    ∙ c.loop-mode.invariant d

pub returns : goal.returns
unfolding greatest_order
returns c k d h =
    let many : length c.self.inside.values.items ≡ length c.args.self.now.list =
    sym (length_rows _ _ _ _) ∙ ap (λ (row : Entries). length row.list) c.self.view_is in
    let all : length (take c.self.inside.order c.self.inside.modes) ≡ c.self.inside.order =
    length-take-le c.self.inside.order c.self.inside.modes (omega (arith, c.self.invariant.0, c.self.invariant.2)) in
    let order : c.self.inside.order ≡ c.args.self.now.order = ap (λ (row : Entries). row.order) c.self.view_is in
    let at : c.len-last.result - 1 ≡ k = omega (arith, c.len-last.ensures) in
    let row : Entry = get_or c.args.self.now.list k d in
    let long : length row.coords ≡ length c.args.coords.now =
    sym (ap (λ (seen : Entries). length (get_or seen.list k d).coords) c.self.view_is)
    ∙ row_long _ _ c.self.inside.values.items k d (omega arith) ∙ all ∙ order ∙ sym c.requires.long in
    (λ i. is_lt (slice_cmp nat_cmp (sym (drop_all c.loop-mode.mode row.coords (omega (arith, c.loop-mode-test.false))) i)
    (sym (drop_all c.loop-mode.mode c.args.coords.now (omega (arith, c.loop-mode-test.false))) i)))
    ∙ ap is_lt (subst (λ n. slice_cmp nat_cmp (drop c.loop-mode.mode (get_or c.args.self.now.list n d).coords)
    (drop c.loop-mode.mode c.args.coords.now) ≡ slice_cmp nat_cmp (get_or c.args.self.now.list n d).coords c.args.coords.now)
    at (c.loop-mode.invariant d))
