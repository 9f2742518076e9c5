-- A store of a written statement is one of the statement whose loops a kernel goes through.
use Rattle.std.specs.Prelude.{◌≡◌, ℕ, suc, ◌+◌, ◌≤◌, ◌<◌, Bool, true, false, if◌then◌else◌, List, [], ◌∷◌, length, slice_index, refl}
use Rattle.std.specs.List.{list_all}
use Rattle.std.proofs.Common.{◌∙◌, sym, subst, arith}
use Rattle.numbers.specs.Arithmetic.{Arithmetic}
use Rattle.format_spec.specs.declared.format.FormatLevel.{FormatLevel}
use Rattle.index_notation.specs.Statement.{numbers_from}
use Rattle.index_notation.specs.declared.syntax.Expr.{Expr}
use Rattle.index_notation.specs.declared.syntax.NestedSum.{NestedSum}
use Rattle.index_notation.specs.declared.syntax.Statement.{Statement}
use Rattle.iteration_graph.specs.Edges.{format_of}
use Rattle.expr_terms.specs.Nested.{flat}
use Rattle.expr_terms.proofs.NestedLaws.{names_longer}
use Rattle.nested_sums.specs.Inner.{is_inner}
use Rattle.nested_sums.specs.Multiplied.{multiplied, multiplied_out, with_sums}
use Rattle.tensor_storage.specs.Storages.{Storage}
use Rattle.kernel_correctness.specs.Kernels.{looped}
use Rattle.kernel_correctness.specs.Stores.{AreOperands, IsOperand, IsStoreOf, Store}
use Rattle.kernel_correctness.proofs.FlatStores.{sizes_flat}

-- multiplied out, a statement has other sums and another expression alone
pub record HasOthers (s out : Statement) : Type 0 where
  pub sums : List NestedSum
  pub expr : Expr
  pub is : out ≡ with_sums s sums expr

pub multiplied_has : (one : ℕ) (s : Statement) (order : List ℕ) → HasOthers s (multiplied one s order)
multiplied_has one s order = by (list_all (is_inner s order) (numbers_from 0 (length s.sums)))
  where
    by : (b : Bool) → HasOthers s (if b then s else multiplied_out one s order)
    by true = record { sums = s.sums; expr = s.expr; is = refl }
    by false = record { sums = (multiplied_out one s order).sums; expr = (multiplied_out one s order).expr; is = refl }

module _ (formats : List (List FormatLevel)) (store : Store) (s : Statement) (sums : List NestedSum) (expr : Expr) where
  abbrev t : Statement
  t = with_sums s sums expr

  kept : (tensor : ℕ) (operands : List Storage) → tensor + length operands ≤ length s.tensors
      → AreOperands (flat s) formats (slice_index store.ranges) tensor operands
      → AreOperands (flat (with_sums s sums expr)) formats (slice_index store.ranges) tensor operands
  kept tensor [] few h = tt
  kept tensor (operand ∷ operands) few h =
      let below : tensor < length s.tensors = omega (arith, few) in (
        subst (λ sizes. IsOperand (format_of formats tensor) sizes operand)
            (sym (sizes_flat s (slice_index store.ranges) tensor (format_of formats tensor) below)
            ∙ sizes_flat (with_sums s sums expr) (slice_index store.ranges) tensor (format_of formats tensor) below) h.0,
        kept (suc tensor) operands (omega (arith, few)) h.1,
      )

  store_with : IsStoreOf (flat s) formats store → IsStoreOf (flat (with_sums s sums expr)) formats store
  store_with is =
      let longer = names_longer s.tensors s.sums in
      let many = is.operands in
      let long : suc (length store.operands) ≡ length s.tensors = omega (arith, longer, many) in
      record {
        each = is.each;
        small = is.small;
        operands = let other = names_longer s.tensors sums in omega (arith, other, long);
        operands_keep = kept 1 store.operands (omega (arith, long)) is.operands_keep;
        format_is = is.format_is;
        format = is.format;
        few = is.few;
      }

pub store_looped : (a : Arithmetic) (s : Statement) (order : List ℕ) (formats : List (List FormatLevel)) (store : Store)
    → IsStoreOf (flat s) formats store → IsStoreOf (looped a s order) formats store
store_looped a s order formats store is =
    let has = multiplied_has a.one s order in
    subst (λ out. IsStoreOf (flat out) formats store) (sym has.is) (store_with formats store s has.sums has.expr is)
