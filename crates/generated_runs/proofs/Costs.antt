-- The cost of the workload's statement is at most the number of rows and entries.
use denote.Hole.Carrier.{hidden}
use Rattle.std.specs.Prelude.{◌≡◌, ℕ, zero, suc, ◌+◌, ◌<◌, ◌≤◌, Bool, true, false, ◌&&◌, if◌then◌else◌, List, [], ◌∷◌, length, map}
use Rattle.std.specs.Prelude.{refl}
use Rattle.std.proofs.Common.{◌∙◌, ap, arith, subst, sym}
use Rattle.level_core.specs.declared.span.Entry.{Entry as LevelEntry}
use Rattle.format_spec.specs.declared.format.FormatLevel.{FormatLevel}
use Rattle.index_notation.specs.declared.syntax.Expr.TheBlock.{hidden-the_row-Expr-0}
use Rattle.index_notation.specs.declared.syntax.Statement.{Statement}
use Rattle.expr_terms.specs.Points.{with_coordinate}
use Rattle.expr_terms.specs.Terms.{terms}
use Rattle.concrete_notation.specs.Nests.{Nest, nest_of}
use Rattle.loop_code.specs.Loops.{Stored}
use Rattle.loop_code.specs.Parts.{is_live, remains}
use Rattle.loop_code.specs.Turns.{count_below, weight_of}
use Rattle.loop_code.proofs.Turns.{count_most, count_none, count_plus}
use Rattle.statement_costs.specs.Costs.{group_of, is_walked, segment, segment_length, some_term, statement_cost}
use Rattle.statement_costs.specs.Plain.{plain_full, plain_here, plain_length, plain_total, plain_walked}
use Rattle.statement_costs.proofs.Plain.{cost_is_plain}
use Rattle.generated_runs.specs.Workloads.{workload_statement, workload_formats}

if_at_most : (b : Bool) (m n : ℕ) → m ≤ n → (if b then m else 0) ≤ n
if_at_most true m n h = h
if_at_most false m n h = omega arith

-- a number that isn't counted
none_counted : (b : Bool) (m : ℕ) → (if b && false then m else 0) ≡ 0
none_counted true m = refl
none_counted false m = refl

-- each entry weighs 1
ones : (es : List LevelEntry) → weight_of (λ e. 1) es ≡ length es
ones [] = refl
ones (e ∷ es) = let rest = ones es in omega (arith, rest)

count_zero : (n : ℕ) (f : ℕ → ℕ) → ((k : ℕ) → k < n → f k ≡ 0) → count_below n f ≡ 0
count_zero zero f none = refl
count_zero (suc n) f none =
    let rest = count_zero n f (λ k h. none k (omega (arith, h))) in let last = none n (omega arith) in omega (arith, rest, last)

either_most : (b : Bool) (m n : ℕ) → n ≤ m → (if b then m else n) ≤ m
either_most true m n h = omega arith
either_most false m n h = h

-- ---- one variable of the loop order
module _ (s : Statement) (formats : List (List FormatLevel)) (stored : Stored) where
  total_most : (ranges : ℕ → ℕ) (number : List Nest → List ℕ → (ℕ → ℕ) → ℕ → ℕ) (v : ℕ) (order : List ℕ) (nests : List Nest)
      (bound : List ℕ) (point : ℕ → ℕ) (most : ℕ)
      → number (group_of v nests) bound point v
      + count_below (ranges v)
      (λ x. plain_total s formats stored ranges number order (group_of v nests) (v ∷ bound) (with_coordinate point v x)) ≤ most
      → plain_total s formats stored ranges number order nests bound point ≤ 0
      → plain_total s formats stored ranges number (v ∷ order) nests bound point ≤ most
  total_most ranges number v order nests bound point most here rest =
      let first = if_at_most (some_term (remains (plain_here s formats stored bound point)) (group_of v nests)) _ most here in
      omega (arith, first, rest)

  -- whether an access stands in the part of a group that remains
  abbrev is_live_in_group : List Nest → List ℕ → (ℕ → ℕ) → ℕ → Bool
  is_live_in_group group bound point k = some_term (λ e. is_live (plain_here s formats stored bound point) e k) group

  -- a number of each access that is gone through is one of each access at most
  walked_most : (number : ℕ → ℕ) (group : List Nest) (bound : List ℕ) (point : ℕ → ℕ) (v : ℕ)
      → plain_walked s formats stored number group bound point v ≤ count_below (length s.accesses) number
  walked_most number group bound point v =
      count_most (length s.accesses)
      (λ k. if is_live_in_group group bound point k && is_walked s formats bound v k then number k else 0)
      number
      (λ k. if_at_most (is_live_in_group group bound point k && is_walked s formats bound v k)
      (number k) (number k) (omega arith))

  -- and none where none is gone through
  none_walked : (number : ℕ → ℕ) (group : List Nest) (bound : List ℕ) (point : ℕ → ℕ) (v : ℕ)
      → ((k : ℕ) → k < length s.accesses → is_walked s formats bound v k ≡ false)
      → plain_walked s formats stored number group bound point v ≡ 0
  none_walked number group bound point v none =
      count_zero (length s.accesses)
      (λ k. if is_live_in_group group bound point k && is_walked s formats bound v k then number k else 0)
      (λ k h. ap (λ w. if is_live_in_group group bound point k && w then number k else 0) (none k h)
      ∙ none_counted (is_live_in_group group bound point k) (number k))

-- rows are found at once, and gone through for no access
no_rows_walked : (k : ℕ) → k < length workload_statement.accesses → is_walked workload_statement workload_formats [] 0 k ≡ false
unfolding workload_statement workload_formats
no_rows_walked zero h = refl
no_rows_walked (suc zero) h = refl
no_rows_walked (suc (suc zero)) h = refl
no_rows_walked (suc (suc (suc k))) h = absurd (omega (arith, h))

-- the entries below row x that are stored of an access
abbrev pub entries_below : Stored → ℕ → ℕ → List LevelEntry
entries_below stored k x = segment workload_statement workload_formats stored (0 ∷ []) (with_coordinate (λ v. 0) 0 x) k

module _ (stored : Stored) (ranges : ℕ → ℕ) where
  abbrev all_nests : List Nest
  all_nests = map (nest_of workload_statement (0 ∷ 1 ∷ [])) (terms workload_statement.expr)

  -- how many
  abbrev columns : ℕ → ℕ → ℕ
  columns k x = length (entries_below stored k x)

  abbrev number : List Nest → List ℕ → (ℕ → ℕ) → ℕ → ℕ
  number = plain_length workload_statement workload_formats stored ranges

  -- the columns of a row: those that are stored of each operand
  columns_most : (x : ℕ) → number (group_of 1 (group_of 0 all_nests)) (0 ∷ []) (with_coordinate (λ v. 0) 0 x) 1
      ≤ columns 0 x + columns 1 x + columns 2 x
  unfolding workload_statement workload_formats hidden-the_row-Expr-0 hidden
  columns_most x =
      let point = with_coordinate (λ v. 0) 0 x in
      let group = group_of 1 (group_of 0 all_nests) in
      let counted = walked_most workload_statement workload_formats stored
      (segment_length workload_statement workload_formats stored (0 ∷ []) point) group (0 ∷ []) point 1 in
      let first = ones (entries_below stored 0 x) in
      let second = ones (entries_below stored 1 x) in
      let third = ones (entries_below stored 2 x) in
      omega (arith, counted, first, second, third)

  inner : (x : ℕ) → plain_total workload_statement workload_formats stored ranges number (1 ∷ []) (group_of 0 all_nests) (0 ∷ [])
      (with_coordinate (λ v. 0) 0 x) ≤ columns 0 x + columns 1 x + columns 2 x
  inner x =
      let none = count_none (ranges 1) in
      let most = columns_most x in
      total_most workload_statement workload_formats stored ranges number 1 [] (group_of 0 all_nests) (0 ∷ [])
      (with_coordinate (λ v. 0) 0 x) (columns 0 x + columns 1 x + columns 2 x) (omega (arith, none, most)) (omega arith)

  rows_most : number (group_of 0 all_nests) [] (λ v. 0) 0 ≤ ranges 0
  rows_most =
      let none = none_walked workload_statement workload_formats stored
      (segment_length workload_statement workload_formats stored [] (λ v. 0)) (group_of 0 all_nests) [] (λ v. 0) 0 no_rows_walked in
      either_most (plain_full workload_statement workload_formats stored (group_of 0 all_nests) [] (λ v. 0) 0) (ranges 0) _
      (omega (arith, none))

  -- no term's next loop is over columns before rows
  no_columns : plain_total workload_statement workload_formats stored ranges number (1 ∷ []) all_nests [] (λ v. 0) ≡ 0
  unfolding workload_statement hidden-the_row-Expr-0 hidden
  no_columns = refl

  whole_most : plain_total workload_statement workload_formats stored ranges number (0 ∷ 1 ∷ []) all_nests [] (λ v. 0)
      ≤ ranges 0 + (count_below (ranges 0) (columns 0) + count_below (ranges 0) (columns 1) + count_below (ranges 0) (columns 2))
  whole_most =
      let rows = rows_most in
      let none = no_columns in
      let each = count_most (ranges 0)
      (λ x. plain_total workload_statement workload_formats stored ranges number (1 ∷ []) (group_of 0 all_nests) (0 ∷ [])
      (with_coordinate (λ v. 0) 0 x))
      (λ x. columns 0 x + columns 1 x + columns 2 x) inner in
      let two = count_plus (ranges 0) (columns 0) (columns 1) in
      let three = count_plus (ranges 0) (λ x. columns 0 x + columns 1 x) (columns 2) in
      total_most workload_statement workload_formats stored ranges number 0 (1 ∷ []) all_nests [] (λ v. 0)
      (ranges 0 + (count_below (ranges 0) (columns 0) + count_below (ranges 0) (columns 1)
      + count_below (ranges 0) (columns 2))) (omega (arith, rows, each, two, three)) (omega (arith, none))

  no_sums : workload_statement.sums ≡ []
  unfolding workload_statement
  no_sums = refl

  pub cost_most : statement_cost workload_statement workload_formats (0 ∷ 1 ∷ []) stored ranges
      ≤ ranges 0 + (count_below (ranges 0) (columns 0) + count_below (ranges 0) (columns 1) + count_below (ranges 0) (columns 2))
  cost_most =
      subst (λ cost. cost
      ≤ ranges 0 + (count_below (ranges 0) (columns 0) + count_below (ranges 0) (columns 1) + count_below (ranges 0) (columns 2)))
      (sym (cost_is_plain workload_statement no_sums workload_formats stored ranges (0 ∷ 1 ∷ []))) whole_most
