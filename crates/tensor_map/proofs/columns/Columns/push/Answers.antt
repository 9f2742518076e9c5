use Rattle.std.proofs.Common.{◌≡◌, ◌∙◌, sym, ap, subst, length, arith, get_or, take, drop, ◌∷◌, ◌++◌, [], Vec, Global, ℕ}
use Rattle.std.proofs.lemmas.Result.{MatchResult-from_err}
use Rattle.std.proofs.lemmas.List.{take_at, length-take-le}
use Rattle.limits.specs.Limits.{greatest_order}
use Rattle.tensor_map.specs.Columns.{rows_of, HaveAt, KeepsBelow}
use Rattle.tensor_map.specs.Entries.{Entries}
use Rattle.tensor_map.proofs.ColumnRows.{rows_kept, rows_pushed}
use Rattle.tensor_map.proofs.columns.Columns.push.Goals as goal

pub returns-in_err-self-inside-clause-err : goal.returns-in_err-self-inside-clause-err
unfolding greatest_order
returns-in_err-self-inside-clause-err c =
    let count : c.len-count.result ≡ length c.self.inside.values.items = c.len-count.ensures ∙ c.self.inside.values.ok.0 in
    let all : length (take c.self.inside.order c.self.inside.modes) ≡ c.self.inside.order =
    length-take-le c.self.inside.order c.self.inside.modes (omega (arith, c.self.invariant.0)) in
    let front : take c.self.inside.order (c.append.new.columns ++ drop c.self.inside.order c.self.inside.modes) ≡ c.append.new.columns =
    take_at _ _ c.self.inside.order (c.append.auto.columns ∙ all) in
    let kept : rows_of (λ (column : Vec ℕ Global). column.items) c.append.new.columns c.self.inside.values.items
    ≡ rows_of (λ (column : Vec ℕ Global). column.items) (take c.self.inside.order c.self.inside.modes) c.self.inside.values.items =
    rows_kept _ _ _ c.self.inside.values.items c.append.auto.columns (λ mode d h.
    subst (λ n. KeepsBelow n (get_or (take c.self.inside.order c.self.inside.modes) mode d).items
    (get_or c.append.new.columns mode d).items)
    count (c.append.ensures.kept mode d h)) in
    MatchResult-from_err c.from_residual.result _ _ c.from_residual.ensures.0 (λ y.
    ap (λ columns. record {
      order = c.self.inside.order;
      list = rows_of (λ (column : Vec ℕ Global). column.items) columns c.self.inside.values.items;
    }) front
    ∙ ap (λ list. record { order = c.self.inside.order; list = list }) kept ∙ c.self.view_is)

pub returns-in_err-push-clause-err : goal.returns-in_err-push-clause-err
unfolding greatest_order
returns-in_err-push-clause-err c =
    let count : c.len-count.result ≡ length c.self.inside.values.items = c.len-count.ensures ∙ c.self.inside.values.ok.0 in
    let all : length (take c.self.inside.order c.self.inside.modes) ≡ c.self.inside.order =
    length-take-le c.self.inside.order c.self.inside.modes (omega (arith, c.self.invariant.0)) in
    let front : take c.self.inside.order (c.append.new.columns ++ drop c.self.inside.order c.self.inside.modes) ≡ c.append.new.columns =
    take_at _ _ c.self.inside.order (c.append.auto.columns ∙ all) in
    let kept : rows_of (λ (column : Vec ℕ Global). column.items) c.append.new.columns c.self.inside.values.items
    ≡ rows_of (λ (column : Vec ℕ Global). column.items) (take c.self.inside.order c.self.inside.modes) c.self.inside.values.items =
    rows_kept _ _ _ c.self.inside.values.items c.append.auto.columns (λ mode d h.
    subst (λ n. KeepsBelow n (get_or (take c.self.inside.order c.self.inside.modes) mode d).items
    (get_or c.append.new.columns mode d).items)
    count (c.append.ensures.kept mode d h)) in
    MatchResult-from_err c.from_residual-in_err-push.result _ _ c.from_residual-in_err-push.ensures.0 (λ y.
    ap (λ columns. record {
      order = c.self.inside.order;
      list = rows_of (λ (column : Vec ℕ Global). column.items) columns c.push.new.self.items;
    }) front
    ∙ ap (λ values. record {
      order = c.self.inside.order;
      list = rows_of (λ (column : Vec ℕ Global). column.items) c.append.new.columns values;
    }) c.in_err-push.ensures.items
    ∙ ap (λ list. record { order = c.self.inside.order; list = list }) kept ∙ c.self.view_is)

pub returns-clause-ok : goal.returns-clause-ok
unfolding greatest_order
returns-clause-ok c =
    let count : c.len-count.result ≡ length c.self.inside.values.items = c.len-count.ensures ∙ c.self.inside.values.ok.0 in
    let all : length (take c.self.inside.order c.self.inside.modes) ≡ c.self.inside.order =
    length-take-le c.self.inside.order c.self.inside.modes (omega (arith, c.self.invariant.0)) in
    let front : take c.self.inside.order (c.append.new.columns ++ drop c.self.inside.order c.self.inside.modes) ≡ c.append.new.columns =
    take_at _ _ c.self.inside.order (c.append.auto.columns ∙ all) in
    let put : HaveAt (λ (column : Vec ℕ Global). column.items) c.append.new.columns (length c.self.inside.values.items) c.args.coords.now
    c.in_ok-self-inside.field-0 = subst (λ n. HaveAt (λ (column : Vec ℕ Global). column.items) c.append.new.columns n c.args.coords.now
    c.in_ok-self-inside.field-0) count c.in_ok-self-inside.ensures.ok in
    ap (λ columns. rows_of (λ (column : Vec ℕ Global). column.items) columns c.push.new.self.items) front
    ∙ ap (rows_of (λ (column : Vec ℕ Global). column.items) c.append.new.columns) c.in_ok-push.ensures.items
    ∙ rows_pushed (λ (column : Vec ℕ Global). column.items) (take c.self.inside.order c.self.inside.modes) c.append.new.columns
    c.self.inside.values.items c.args.coords.now c.args.value c.in_ok-self-inside.field-0 c.append.auto.columns
    (c.requires.long ∙ sym (ap (λ (row : Entries). row.order) c.self.view_is) ∙ sym all)
    (λ mode d h. subst (λ n. KeepsBelow n (get_or (take c.self.inside.order c.self.inside.modes) mode d).items
    (get_or c.append.new.columns mode d).items)
    count (c.append.ensures.kept mode d h))
    put
    ∙ ap (λ (row : Entries). row.list ++ record { coords = c.args.coords.now; value = c.args.value } ∷ []) c.self.view_is
