-- A sink beside scratch lists, which code may fill while the sink holds its rows.
use Rattle.std.specs.Prelude.{◌≡◌, ℕ, true}
use Rattle.kernel_code.specs.declared.syntax.Arr.{Arr}
use Rattle.result_targets.specs.Scratch.{is_of_some_list, IsOffLists, HasLists}
use Rattle.result_targets.specs.Sinks.{Sink}

-- seen of a type whose values have a sink and two numbers: lists from the one to the one before the other needn't be left, and are there
abbrev pub beside : {K W : Type 0} → (W → K) → (W → ℕ) → (W → ℕ) → Sink K → Sink W
beside of first past sink = record {
  mine = λ w. sink.mine (of w);
  kept = λ w b. sink.kept (of w) b × IsOffLists (first w) (past w) b;
  keys = λ w. sink.keys (of w);
  takes = λ w. sink.takes (of w);
  holds = λ w a ranges rows s. sink.holds (of w) a ranges rows s × HasLists (first w) (past w) s;
  refused = λ w. sink.refused (of w);
}

-- the same of the sink itself, beside these lists
abbrev pub beside_lists : {K : Type 0} → Sink K → ℕ → ℕ → Sink K
beside_lists sink first past = beside (λ k. k) (λ k. first) (λ k. past) sink

-- the sink leaves each scratch list
abbrev pub LeavesLists : {K : Type 0} → Sink K → K → Type 0
LeavesLists sink k = (b : Arr) → is_of_some_list b ≡ true → sink.kept k b
