-- What is told of every statement's leaves in one way, be it values or presence.
use Rattle.std.specs.Prelude.{◌≡◌, ℕ, ◌+◌, ◌<◌, ◌^◌, true, List, length, Some, slice_get}
use Rattle.numbers.specs.Arithmetic.{Arithmetic, Laws}
use Rattle.index_notation.specs.Statement.{IsNumberedWithSums}
use Rattle.index_notation.specs.declared.syntax.Expr.{Expr}
use Rattle.index_notation.specs.declared.syntax.NestedSum.{NestedSum}
use Rattle.index_notation.specs.declared.syntax.Statement.{Statement}
use Rattle.expr_terms.specs.Nested.{flat}
use Rattle.expr_terms.specs.Terms.{is_at_access}
use Rattle.nested_sums.specs.Bound.{bounds}
use Rattle.nested_sums.specs.Multiplied.{with_sums}
use Rattle.nested_sums.proofs.Meaning.{Meaning}
use Rattle.nested_sums.proofs.OpenedSums.{IsReadBy}

pub record Telling : Type 0 where
  pub a : Arithmetic
  pub laws : Laws a
  pub num : ℕ → ℕ
  pub num_fits : (n : ℕ) → num n < 2 ^ 64
  pub ranges : ℕ → ℕ
  pub leaf : Statement → (ℕ → ℕ) → ℕ → ℕ
  pub leaf_fits : (s : Statement) (p : ℕ → ℕ) (k : ℕ) → leaf s p k < 2 ^ 64
  pub local : (s : Statement) (k : ℕ) (p q : ℕ → ℕ)
      → ((v : ℕ) → is_at_access v (slice_get (flat s).accesses k) ≡ true → p v ≡ q v) → leaf s p k ≡ leaf s q k

-- what it is for one statement
abbrev pub meaning_at : Telling → Statement → Meaning
meaning_at T s = record {
  a = T.a;
  laws = T.laws;
  num = T.num;
  num_fits = T.num_fits;
  leaf = T.leaf s;
  leaf_fits = T.leaf_fits s;
  accesses = (flat s).accesses;
  local = T.local s;
  ranges = T.ranges;
}

-- it tells of nested sums what they add up, and of accesses the same whatever the sums and the expression
pub record Tells (T : Telling) : Type 0 where
  pub sums : (s : Statement) → IsNumberedWithSums s → (i : ℕ) (sum : NestedSum) → slice_get s.sums i ≡ Some sum
      → IsReadBy (meaning_at T s) (bounds s) (length s.accesses + i) sum
  pub accesses : (s : Statement) → IsNumberedWithSums s → (sums : List NestedSum) (expr : Expr)
      → IsNumberedWithSums (with_sums s sums expr) → (k : ℕ) → k < length s.accesses → (p : ℕ → ℕ)
      → T.leaf (with_sums s sums expr) p k ≡ T.leaf s p k
