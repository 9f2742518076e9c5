-- A workspace of one key, and one of pairs, as workspaces inside the outer loops of a kernel.
use Rattle.std.specs.Prelude.{◌≡◌, ℕ, ◌<◌, List, [], ◌∷◌, length, Some, slice_get, slice_index}
use Rattle.std.proofs.Common.{◌∙◌, sym, ap, subst, arith, inl, inr}
use Rattle.numbers.specs.Arithmetic.{Arithmetic}
use Rattle.kernel_code.specs.declared.syntax.Arr.{Arr}
use Rattle.kernel_code.specs.declared.syntax.Arr.TheVariants.{Range, Values, Dimension, Ends, Coordinates, Width, Key, Sums}
use Rattle.kernel_code.specs.declared.syntax.Arr.TheVariants.{ListCoordinates, ListPositions}
use Rattle.kernel_code.specs.declared.syntax.KStmt.{KStmt}
use Rattle.kernel_code.specs.Does.{Never}
use Rattle.kernel_code.specs.Keeps.{NoVariable, no_turns}
use Rattle.kernel_code.specs.Meaning.{State}
use Rattle.kernel_code.proofs.Does.{does_nothing, does_weaker}
use Rattle.kernel_code.proofs.Keeps.{leaves_none}
use Rattle.index_notation.specs.declared.syntax.Statement.{Statement}
use Rattle.term_code.specs.WorkspaceSinks.{HoldsRows, IsOfWorkspace}
use Rattle.operand_arrays.specs.Operands.{IsOfOperands}
use Rattle.drained_results.proofs.Beside.{appended_beside_pairs, appended_beside_touched}
use Rattle.pair_workspaces.specs.Drained.{pair_draining}
use Rattle.pair_workspaces.specs.DrainedLaws.{pair_draining_laws}
use Rattle.pair_workspaces.specs.Sinks.{IsOther as IsBesidePairs, pair_sink}
use Rattle.pair_workspaces.specs.declared.sink.PairSink.{PairSink}
use Rattle.touched_workspaces.specs.Drained.{touched_draining}
use Rattle.touched_workspaces.specs.DrainedLaws.{touched_draining_laws}
use Rattle.touched_workspaces.specs.Sinks.{HoldsTouched, IsOfTouched, touched_sink}
use Rattle.touched_workspaces.specs.Starts.{BeginsTouched, HasNoRows}
use Rattle.touched_workspaces.specs.declared.sink.TouchedSink.{TouchedSink}
use Rattle.grouped_kernels.specs.Workspaces.{BeginsEmpty, IsWorkspace}
use Rattle.grouped_kernels.proofs.Takes.{pairs_take, touched_takes}

-- no array of an operand is a workspace's
no_operand : (w : ℕ) (b : Arr) → IsOfOperands b → IsOfWorkspace w b → ⊥
no_operand w Range of is = is
no_operand w (Values n) of is = is
no_operand w (Dimension n k) of is = is
no_operand w (Ends n k) of is = is
no_operand w (Coordinates n k) of is = is
no_operand w (Width n k) of is = is
no_operand w (Key n k) of is = of
no_operand w (Sums n) of is = of
no_operand w (ListCoordinates n) of is = is
no_operand w (ListPositions n) of is = is

no_touched : (w : TouchedSink) (b : Arr) → IsOfOperands b → IsOfTouched w b → ⊥
no_touched w b of (inl is) = no_operand w.dense b of is
no_touched w b of (inr is) = no_operand w.list b of is

pub touched_workspace : (w : TouchedSink) → IsWorkspace touched_sink touched_draining w
touched_workspace w = record {
  laws = touched_draining_laws;
  takes = λ ranges one. touched_takes w ranges one;
  passes = λ ranges rows b count r. (w.list, r.passes);
  large = λ one ranges rows b count r. r.large;
  operands = λ b of is. no_touched w b of is;
  beside = λ k. appended_beside_touched k w;
}

pub pair_workspace : (w : PairSink) → (w.keys ≡ 1 → ⊥) → IsWorkspace pair_sink pair_draining w
pair_workspace w several = record {
  laws = pair_draining_laws;
  takes = λ ranges long. pairs_take w ranges long;
  passes = λ ranges rows b count r. (w.number, r);
  large = λ one ranges rows b count r. absurd (several one);
  operands = λ b of is. no_operand w.number b of is;
  beside = λ k. appended_beside_pairs k w;
}

no_rows : (w : ℕ) (st : State) → HoldsRows w 1 [] st.arrays → HasNoRows w st
no_rows w st h = record { key = h.key 0 (omega arith); sums = h.sums }

-- a workspace of one key begins with marks and sums that are zero
pub touched_begins : (w : TouchedSink) (s : Statement) (spaces : List ℕ) (a : Arithmetic) (code : List KStmt) → BeginsTouched w code
    → w.zero ≡ a.zero → (w.dense ≡ w.list → ⊥) → w.variable < length s.vars
    → slice_get spaces w.dense ≡ Some 1 → slice_get spaces w.list ≡ Some 1
    → BeginsEmpty touched_sink w (w.variable ∷ []) s spaces a code
touched_begins w s spaces a code begins zero_is apart inside dense list = λ c same ranges st has none top.
    does_weaker c code st _ _ Never Never
    (begins c (zero_is ∙ ap (λ (b : Arithmetic). b.zero) (sym same)) apart (slice_index ranges w.variable) st
    (record { words = has.words; words_are = has.held; told = has.each w.variable inside })
    (no_rows w.dense st (none w.dense 1 dense)) (no_rows w.list st (none w.list 1 list)) top)
    (λ t h. (h.0, subst (λ b. HoldsTouched w b (slice_index ranges w.variable ∷ []) [] t) same h.1))
    (λ turns b count no. no)

-- one of pairs has no rows as a run starts
pub pairs_begin : (w : PairSink) (modes : List ℕ) (s : Statement) (spaces : List ℕ) (a : Arithmetic)
    → slice_get spaces w.number ≡ Some w.keys → BeginsEmpty pair_sink w modes s spaces a []
pairs_begin w modes s spaces a there = λ c same ranges st has none top.
    does_nothing c st _ Never
    (leaves_none NoVariable (IsBesidePairs w) top no_turns st, record { held = none w.number w.keys there; each = tt })
