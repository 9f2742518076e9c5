-- What stands in an expanded statement.
use Rattle.std.specs.Prelude.{◌≡◌, ◌≢◌, ℕ, suc, ◌+◌, ◌<◌, Bool, true, false, if◌then◌else◌, List, [], ◌∷◌, length, map, refl}
use Rattle.std.proofs.Common.{sym, ap, subst, arith}
use Rattle.std.proofs.lemmas.List.{length-map}
use denote.Hole.Carrier.{hidden}
use Rattle.lists.specs.Each.{Each}
use Rattle.index_notation.specs.declared.operator.Operator.{Operator}
use Rattle.index_notation.specs.declared.operator.Operator.TheVariants as op
use Rattle.index_notation.specs.declared.syntax.Name.{Name}
use Rattle.index_notation.specs.declared.syntax.Access.{Access}
use Rattle.index_notation.specs.declared.syntax.Expr.{Expr, Num, Access as AccessOf, Binary, Neg, Binary', Neg', Row_of-Expr, end_of-Expr}
use Rattle.index_notation.specs.declared.syntax.Expr.{more_of-Expr}
use Rattle.index_notation.specs.declared.syntax.Expr.TheBlock.{hidden-the_row-Expr-0}
use Rattle.index_notation.specs.declared.syntax.NestedSum.{NestedSum}
use Rattle.index_notation.specs.declared.syntax.Statement.{Statement}
use Rattle.index_notation.specs.Statement.{IsAccess, AccessesUnder, AccessesUnder_in, AreSums, IsNumberedWithSums}
use Rattle.index_notation.specs.Statement.{IsDistinct, HaveOneOrder, HaveOrders, IsWellNamed}
use Rattle.index_notation.proofs.StatementLaws.{accesses_under_binary, accesses_under_neg}
use Rattle.expr_terms.specs.Expanded.{moved_access, moved, moved_in, moved_sum, names_with_old, old_access, with_old, expanded}

-- an expression that is made of its parts
pub moved_binary : (o : Operator) (e f : Expr) → moved (Binary o e f) ≡ Binary o (moved e) (moved f)
unfolding hidden-the_row-Expr-0 hidden
moved_binary o e f = refl

pub moved_neg : (e : Expr) → moved (Neg e) ≡ Neg (moved e)
unfolding hidden-the_row-Expr-0 hidden
moved_neg e = refl

-- the parts of an expression over so many accesses are over so many
pub under_first : (n : ℕ) (whole : Expr) (o : Operator) (e f part : Expr) → whole ≡ Binary o e f → part ≡ e → AccessesUnder n whole
    → AccessesUnder n part
under_first n whole o e f part is same h =
    subst (AccessesUnder n) (sym same) (rw (accesses_under_binary n o e f) at (subst (AccessesUnder n) is h)).0

pub under_second : (n : ℕ) (whole : Expr) (o : Operator) (e f part : Expr) → whole ≡ Binary o e f → part ≡ f → AccessesUnder n whole
    → AccessesUnder n part
under_second n whole o e f part is same h =
    subst (AccessesUnder n) (sym same) (rw (accesses_under_binary n o e f) at (subst (AccessesUnder n) is h)).1

pub under_neg : (n : ℕ) (whole e part : Expr) → whole ≡ Neg e → part ≡ e → AccessesUnder n whole → AccessesUnder n part
under_neg n whole e part is same h = subst (AccessesUnder n) (sym same) (rw (accesses_under_neg n e) at (subst (AccessesUnder n) is h))

mutual
  moved_under : (n : ℕ) (e : Expr) → AccessesUnder n e → AccessesUnder (suc n) (moved e)
  moved_under n (Num k) h = tt
  moved_under n (AccessOf k) h = omega (arith, h)
  moved_under n (Binary' o p e q f) h = (moved_under_in n e h.0, moved_under_in n f h.1)
  moved_under n (Neg' p e) h = moved_under_in n e h

  moved_under_in : {m : _} (n : ℕ) (e : Row_of-Expr m) → AccessesUnder_in n e → AccessesUnder_in (suc n) (moved_in e)
  moved_under_in n end_of-Expr h = tt
  moved_under_in n (more_of-Expr e rest) h = moved_under n e h

names_more : (names : List Name) → 0 < length names → length (names_with_old names) ≡ length names + 1
names_more [] h = absurd (omega arith)
names_more (name ∷ names) h = omega arith

moved_numbered : (n m vars : ℕ) (accesses : List Access) → m ≡ n + 1 → Each (IsAccess n vars) accesses
    → Each (IsAccess m vars) (map moved_access accesses)
moved_numbered n m vars [] more h = tt
moved_numbered n m vars (access ∷ accesses) more h = (
  record { tensor = let below = h.0.tensor in omega (arith, more, below); vars_stand = h.0.vars_stand; order = h.0.order },
  moved_numbered n m vars accesses more h.1,
)

moved_sums : (vars n m : ℕ) (sums : List NestedSum) → m ≡ n + 1 → AreSums vars n sums → AreSums vars m (map moved_sum sums)
moved_sums vars n m [] more h = tt
moved_sums vars n m (sum ∷ sums) more h = (
  h.0,
  (let e : suc n ≡ m = omega (arith, more) in subst (λ k. AccessesUnder k (moved sum.inside)) e (moved_under n sum.inside h.1)),
  moved_sums vars (n + 1) (m + 1) sums (omega (arith, more)) h.2,
)

pub with_old_numbered : (s : Statement) → IsNumberedWithSums s → IsNumberedWithSums (with_old s)
with_old_numbered s h =
    let below = h.left.tensor in
    let some : 0 < length s.tensors = omega (arith, below) in
    let more = names_more s.tensors some in
    let long : length (map moved_access s.accesses) ≡ length s.accesses = length-map s.accesses moved_access in
    let long_sums : length (map moved_sum s.sums) ≡ length s.sums = length-map s.sums moved_sum in
    let all : suc (length (map moved_access s.accesses)) + length (map moved_sum s.sums) ≡ suc (length s.accesses + length s.sums) =
    omega (arith, long, long_sums) in
    record {
      left = record {
        tensor = omega (arith, below, more);
        vars_stand = h.left.vars_stand;
        order = h.left.order;
      };
      right = (
        record { tensor = omega (arith, some, more); vars_stand = h.left.vars_stand; order = h.left.order },
        moved_numbered (length s.tensors) (length (names_with_old s.tensors)) (length s.vars) s.accesses more h.right,
      );
      sums = moved_sums (length s.vars) (length s.accesses) (suc (length (map moved_access s.accesses))) s.sums
          (omega (arith, long)) h.sums;
      expr = rw (accesses_under_binary (suc (length (map moved_access s.accesses)) + length (map moved_sum s.sums)) op.Add (AccessOf 0)
          (moved s.expr)) (
            omega arith,
            subst (λ n. AccessesUnder n (moved s.expr)) (sym all) (moved_under (length s.accesses + length s.sums) s.expr h.expr),
          );
      variables = h.variables;
    }

-- ---- names
moved_unread : (accesses : List Access) → Each (λ a. a.tensor ≢ 0) (map moved_access accesses)
moved_unread [] = tt
moved_unread (access ∷ accesses) = ((λ e. omega (arith, e)), moved_unread accesses)

left_order : (left : Access) (accesses : List Access) → left.tensor ≡ 0 → Each (HaveOneOrder left) (map moved_access accesses)
left_order left [] h = tt
left_order left (access ∷ accesses) h = ((λ e. absurd (omega (arith, e, h))), left_order left accesses h)

old_order : (vars : List ℕ) (accesses : List Access) → Each (λ a. a.tensor ≢ 0) accesses
    → Each (HaveOneOrder (old_access vars)) (map moved_access accesses)
old_order vars [] h = tt
old_order vars (access ∷ accesses) h = (
  (λ e. absurd (h.0 (let none : access.tensor ≡ 0 = omega (arith, e) in none))),
  old_order vars accesses h.1,
)

moved_order : (first : Access) (accesses : List Access) → Each (HaveOneOrder first) accesses
    → Each (HaveOneOrder (moved_access first)) (map moved_access accesses)
moved_order first [] h = tt
moved_order first (access ∷ accesses) h = (
  (λ e. h.0 (let same : first.tensor ≡ access.tensor = omega (arith, e) in same)),
  moved_order first accesses h.1,
)

moved_orders : (accesses : List Access) → HaveOrders accesses → HaveOrders (map moved_access accesses)
moved_orders [] h = tt
moved_orders (access ∷ accesses) h = (moved_order access accesses h.0, moved_orders accesses h.1)

moved_once : (accesses : List Access) → Each (λ a. IsDistinct a.vars) accesses → Each (λ a. IsDistinct a.vars) (map moved_access accesses)
moved_once [] h = tt
moved_once (access ∷ accesses) h = (h.0, moved_once accesses h.1)

with_old_named : (s : Statement) → IsWellNamed s → IsWellNamed (with_old s)
with_old_named s h = record {
  result = h.result;
  unread = ((λ e. omega (arith, e)), moved_unread s.accesses);
  orders = (
    ((λ e. refl), left_order s.left s.accesses h.result),
    (old_order s.left.vars s.accesses h.unread, moved_orders s.accesses h.orders.1),
  );
  left_once = h.left_once;
  right_once = (h.left_once, moved_once s.accesses h.right_once);
  standing = h.standing;
}

-- ---- either way it is written
pub by_mark : (P : Statement → Type 0) (s : Statement) → P s → P (with_old s) → P (expanded s)
by_mark P s plain old = by s.accumulate
  where
    by : (b : Bool) → P (if b then with_old s else s)
    by true = old
    by false = plain

-- an expanded statement is well formed where the written one is
pub expanded_numbered : (s : Statement) → IsNumberedWithSums s → IsNumberedWithSums (expanded s)
expanded_numbered s h = by_mark IsNumberedWithSums s h (with_old_numbered s h)

pub expanded_named : (s : Statement) → IsWellNamed s → IsWellNamed (expanded s)
expanded_named s h = by_mark IsWellNamed s h (with_old_named s h)

-- and has no nested sums where that has none
pub expanded_plain : (s : Statement) → s.sums ≡ [] → (expanded s).sums ≡ []
expanded_plain s none = by_mark (λ t. t.sums ≡ []) s none (ap (map moved_sum) none)
