use Rattle.std.specs.Prelude.{ℕ, ◌<◌, length, slice_index}
use Rattle.std.proofs.Common.{subst, arith}
use Rattle.std.proofs.lemmas.Result.{IfOk-weaker}
use Rattle.result_targets.specs.Sinks.{AddsTo}
use Rattle.appended_results.specs.Levels.{IsMine}
use Rattle.appended_results.specs.Sink.{appended_sink, IsRowCode, IsCopiedRow}
use Rattle.appended_results.proofs.SinkRows.{are_keys, row_adds, copied_adds}
use Rattle.appended_results.proofs.sink.AppendedSinkRowSink.add_row.Goals as goal

pub returns-then-not-are_other : goal.returns-then-not-are_other
returns-then-not-are_other c =
    let k = c.args.self.now in
    let keys = c.args.keys.now in
    let below = c.is_below.ensures.yes c.if-not-is_below.false in
    let many = c.len-levels.ensures in
    IfOk-weaker c.copied_row.result (IsCopiedRow k keys c.args.value c.args.free) (AddsTo appended_sink k keys c.args.value c.args.free)
    (λ code copied. copied_adds k keys c.args.value c.args.free code c.requires.many (omega (arith, below, many)) c.requires.keys
    c.requires.value copied) c.copied_row.ensures

pub returns-then-not-is_other : goal.returns-then-not-is_other
returns-then-not-is_other c =
    let k = c.args.self.now in
    let keys = c.args.keys.now in
    let below = c.is_below.ensures.yes c.if-not-is_below.false in
    let many = c.len-levels.ensures in
    IfOk-weaker c.copied_row-then-not-is_other.result (IsCopiedRow k keys c.args.value c.args.free)
    (AddsTo appended_sink k keys c.args.value c.args.free)
    (λ code copied. copied_adds k keys c.args.value c.args.free code c.requires.many (omega (arith, below, many)) c.requires.keys
    c.requires.value copied) c.copied_row-then-not-is_other.ensures

pub returns : goal.returns
returns c =
    let k = c.args.self.now in
    let keys = c.args.keys.now in
    let many = c.len-levels.ensures in
    IfOk-weaker c.row_code.result (IsRowCode k keys c.args.value c.args.free) (AddsTo appended_sink k keys c.args.value c.args.free)
    (λ code row. row_adds k keys c.args.value c.args.free code
    (are_keys (length k.levels) k.base c.args.free keys c.requires.many c.requires.keys
    (subst (λ m. (e : ℕ) → e < length keys → IsMine k.base m (slice_index keys e) → ⊥) many
    (c.are_other.ensures c.if-not-are_other.false)))
    (record {
      below = c.requires.value;
      other = subst (λ m. IsMine k.base m c.args.value → ⊥) many (c.is_other.ensures c.if-not-is_other.false);
    }) row) c.row_code.ensures
