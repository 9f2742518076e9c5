-- What an expression's value is, and what a statement does.
use Rattle.std.specs.Prelude.{ℕ, zero, suc, ◌+◌, ◌*◌, ◌^◌, min, Bool, true, false, not}
use Rattle.std.specs.Prelude.{nat_lt, nat_le, ◌==◌, ◌&&◌, ◌||◌, if◌then◌else◌}
use Rattle.std.specs.Prelude.{List, [], ◌∷◌, ◌++◌, length, map, take, replicate, Option, Some, None, slice_get, slice_index, slice_set}
use Rattle.std.specs.Prelude.{bit_and}
use Rattle.numbers.specs.Arithmetic.{Arithmetic}
use Rattle.numbers.specs.Ring.{word_sum, word_difference, word_product}
use Rattle.kernel_code.specs.declared.syntax.Arr.{Arr}
use Rattle.kernel_code.specs.declared.syntax.Arr.TheVariants.{Key, Sums, ListCoordinates, ListPositions}
use Rattle.kernel_code.specs.declared.syntax.LoopKind.{LoopKind}
use Rattle.kernel_code.specs.declared.syntax.LoopKind.TheVariants as kind
use Rattle.kernel_code.specs.declared.syntax.Op.{Op}
use Rattle.kernel_code.specs.declared.syntax.Op.TheVariants as op
use Rattle.kernel_code.specs.declared.syntax.ValueOp.{ValueOp}
use Rattle.kernel_code.specs.declared.syntax.ValueOp.TheVariants as value_op
use Rattle.kernel_code.specs.declared.syntax.KExpr.{KExpr, Num, Var, At', Len, Bin', Min', Width', Row_of-KExpr, end_of-KExpr}
use Rattle.kernel_code.specs.declared.syntax.KExpr.{more_of-KExpr}
use Rattle.kernel_code.specs.declared.syntax.KStmt.{KStmt, Set, Combine, Put, AddTo, Push, Extend, Cut, Sort, SortSum, If', While'}
use Rattle.kernel_code.specs.declared.syntax.KStmt.{Row_of-KStmt, end_of-KStmt, more_of-KStmt}
use Rattle.kernel_code.specs.Arrays.{same_arr, may_write, may_cut, may_have, told_count, sum_in, word_count}
use Rattle.kernel_code.specs.Rows.{sorted_rows, list_rows, Row, summed_rows, rows_from, column_of}

-- how values are added, the number of keys of each workspace, and whether arrays of the result may be cut: by the rules of the language
-- they may
pub record Setting : Type 0 where
  pub arithmetic : Arithmetic
  pub workspaces : List ℕ
  pub cuts_results : Bool

-- the variables that have a value, the arrays that exist, and the turns made so far
pub record State : Type 0 where
  pub vars : ℕ → Option ℕ
  pub arrays : Arr → Option (List ℕ)
  pub turns : LoopKind → ℕ

-- how a run ends, each with the turns made: Stuck tells which statement can't go on, counted from 1 in the order in which the
-- statements of the code that is run begin; Over names the array and the count that is told of the length that the refused
-- growth would have given; More where a loop had no turn left
pub data Outcome : Type 0 where
  Ended : (s : State) → Outcome
  Stuck : (turns : LoopKind → ℕ) (statement : ℕ) → Outcome
  Over : (turns : LoopKind → ℕ) (a : Arr) (count : ℕ) → Outcome
  More : Outcome

abbrev pub same_kind : LoopKind → LoopKind → Bool
same_kind kind.Merge kind.Merge = true
same_kind kind.Skip kind.Skip = true
same_kind kind.Gather kind.Gather = true
same_kind kind.Drain kind.Drain = true
same_kind kind.Probe kind.Probe = true
same_kind _ _ = false

abbrev pub set_var : State → ℕ → ℕ → State
set_var s x v = record s { vars = λ y. if x == y then Some v else s.vars y }

abbrev pub set_array : State → Arr → List ℕ → State
set_array s a xs = record s { arrays = λ b. if same_arr a b then Some xs else s.arrays b }

abbrev pub one_turn : State → LoopKind → State
one_turn s k = record s { turns = λ j. if same_kind k j then s.turns j + 1 else s.turns j }

abbrev pub word_of : Bool → ℕ
word_of true = 1
word_of false = 0

-- the value of an operator at two words
abbrev pub apply : Op → ℕ → ℕ → ℕ
apply op.Add x y = word_sum x y
apply op.Sub x y = word_difference x y
apply op.Mul x y = word_product x y
apply op.BitAnd x y = bit_and x y
apply op.Less x y = word_of (nat_lt x y)
apply op.Equal x y = word_of (x == y)
apply op.NotEqual x y = word_of (not (x == y))
apply op.And x y = word_of (nat_lt 0 x && nat_lt 0 y)
apply op.Or x y = word_of (nat_lt 0 x || nat_lt 0 y)

abbrev pub apply_each : (ℕ → ℕ → ℕ) → Option ℕ → Option ℕ → Option ℕ
apply_each f None y = None
apply_each f (Some x) None = None
apply_each f (Some x) (Some y) = Some (f x y)

-- the sum or the product of two values
abbrev pub combined : Arithmetic → ValueOp → ℕ → ℕ → ℕ
combined arithmetic value_op.Plus x y = arithmetic.plus x y
combined arithmetic value_op.Times x y = arithmetic.times x y

-- of operands that may be stuck: the second counts only where the first leaves the answer open
abbrev pub apply_both : Op → Option ℕ → Option ℕ → Option ℕ
apply_both op.And (Some zero) y = Some 0
apply_both op.Or (Some (suc n)) y = Some 1
apply_both o x y = apply_each (apply o) x y

abbrev pub word_at : Option (List ℕ) → Option ℕ → Option ℕ
word_at None i = None
word_at (Some xs) None = None
word_at (Some xs) (Some i) = slice_get xs i

abbrev pub length_of : Option (List ℕ) → Option ℕ
length_of None = None
length_of (Some xs) = Some (length xs)

-- the least exponent, n at most, of a power of two that is at least x
abbrev pub least_exponent : ℕ → ℕ → ℕ
least_exponent x zero = 0
least_exponent x (suc n) = if nat_le x (2 ^ least_exponent x n) then least_exponent x n else suc n

-- the smallest power of two that is at least 2 and at least twice x; none where x is above 2^62
unfoldable pub width : ℕ → Option ℕ
width x = if nat_le x (2 ^ 62) then Some (2 * 2 ^ least_exponent x 62) else None

abbrev pub width_of : Option ℕ → Option ℕ
width_of None = None
width_of (Some x) = width x

abbrev mutual
  -- the value of an expression, or none where it is stuck
  pub value : KExpr → State → Option ℕ
  value (Num n) s = Some n
  value (Var x) s = s.vars x
  value (At' a p i) s = word_at (s.arrays a) (value_in i s)
  value (Len a) s = length_of (s.arrays a)
  value (Bin' o p a q b) s = apply_both o (value_in a s) (value_in b s)
  value (Min' p a q b) s = apply_each min (value_in a s) (value_in b s)
  value (Width' p e) s = width_of (value_in e s)

  -- the value of the one expression in a box
  pub value_in : {m : _} → Row_of-KExpr m → State → Option ℕ
  value_in end_of-KExpr s = None
  value_in (more_of-KExpr e rest) s = value e s

-- what follows where a run has ended
abbrev pub then_run : Outcome → (State → Outcome) → Outcome
then_run (Ended s) next = next s
then_run (Stuck t statement) next = Stuck t statement
then_run (Over t a count) next = Over t a count
then_run More next = More

-- a statement's number where so many statements come before the first that was counted; it stays at the last word
abbrev pub number_behind : ℕ → ℕ → ℕ
number_behind zero statement = statement
number_behind (suc n) statement = word_count (suc n + statement)

-- what code does that stands behind so many statements: where it is stuck, they count too
abbrev pub behind : ℕ → Outcome → Outcome
behind n (Ended s) = Ended s
behind n (Stuck t statement) = Stuck t (number_behind n statement)
behind n (Over t a count) = Over t a count
behind n More = More

-- what follows where a value is there
abbrev pub with_value : State → Option ℕ → (ℕ → Outcome) → Outcome
with_value s None next = Stuck s.turns 1
with_value s (Some v) next = next v

abbrev pub if_written : State → Bool → Option (List ℕ) → (List ℕ → Outcome) → Outcome
if_written s false xs next = Stuck s.turns 1
if_written s true None next = Stuck s.turns 1
if_written s true (Some xs) next = next xs

-- what follows with the words of an array that is there and may be written
abbrev pub with_array : State → Arr → (List ℕ → Outcome) → Outcome
with_array s a next = if_written s (may_write a) (s.arrays a) next

abbrev pub set_outcome : State → ℕ → Option ℕ → Outcome
set_outcome s x v = with_value s v (λ v. Ended (set_var s x v))

-- a word changed at an index, which has to be below the length
abbrev pub changed : State → Arr → ℕ → (ℕ → ℕ) → List ℕ → Outcome
changed s a i f xs = if nat_lt i (length xs) then Ended (set_array s a (slice_set xs i (f (slice_index xs i)))) else Stuck s.turns 1

abbrev pub put_outcome : State → Arr → Option ℕ → Option ℕ → Outcome
put_outcome s a i v = with_value s i (λ i. with_value s v (λ v. with_array s a (changed s a i (λ old. v))))

abbrev pub add_outcome : Arithmetic → State → Arr → Option ℕ → Option ℕ → Outcome
add_outcome arithmetic s a i v =
    with_value s i (λ i. with_value s v (λ v. with_array s a (changed s a i (λ old. sum_in arithmetic a old v))))

-- the words of an array and more, unless it may not have so many
abbrev pub grown : State → Arr → ℕ → List ℕ → List ℕ → Outcome
grown s a count xs more = if may_have a count then Ended (set_array s a (xs ++ more)) else Over s.turns a (told_count a count)

abbrev pub push_outcome : State → Arr → Option ℕ → Outcome
push_outcome s a v = with_value s v (λ v. with_array s a (λ xs. grown s a (length xs + 1) xs (v ∷ [])))

abbrev pub extend_outcome : State → Arr → Option ℕ → Option ℕ → Outcome
extend_outcome s a n v = with_value s n (λ n. with_value s v (λ v. with_array s a (λ xs. grown s a (length xs + n) xs (replicate n v))))

-- the first words of an array that may be cut
abbrev pub cut_outcome : Bool → State → Arr → Option ℕ → Outcome
cut_outcome cuts s a n =
    with_value s n (λ n. if_written s (may_cut cuts a) (s.arrays a) (λ xs. Ended (set_array s a (take n xs))))

-- the rows of scratch list g, in two arrays that are equally long
abbrev pub sort_outcome : State → ℕ → Option (List ℕ) → Option (List ℕ) → Outcome
sort_outcome s g None ps = Stuck s.turns 1
sort_outcome s g (Some cs) None = Stuck s.turns 1
sort_outcome s g (Some cs) (Some ps) =
    let rows = sorted_rows (list_rows cs ps) in
    if length cs == length ps
    then Ended (set_array (set_array s (ListCoordinates g) (map (λ r. r.coordinate) rows)) (ListPositions g) (map (λ r. r.position) rows))
    else Stuck s.turns 1

-- the first n key columns of workspace w, if they are there and each has so many words
abbrev pub one_more_column : ℕ → Option (List (List ℕ)) → Option (List ℕ) → Option (List (List ℕ))
one_more_column count None xs = None
one_more_column count (Some columns) None = None
one_more_column count (Some columns) (Some xs) = if length xs == count then Some (columns ++ xs ∷ []) else None

abbrev pub key_columns : State → ℕ → ℕ → ℕ → Option (List (List ℕ))
key_columns s w count zero = Some []
key_columns s w count (suc n) = one_more_column count (key_columns s w count n) (s.arrays (Key w n))

-- the first n key columns of a workspace replaced by those of rows
abbrev pub set_columns : State → ℕ → List Row → ℕ → State
set_columns s w rows zero = s
set_columns s w rows (suc n) = set_array (set_columns s w rows n) (Key w n) (column_of n rows)

abbrev pub summed : Arithmetic → State → ℕ → ℕ → List ℕ → Option (List (List ℕ)) → Outcome
summed arithmetic s w keys vs None = Stuck s.turns 1
summed arithmetic s w keys vs (Some columns) =
    let rows = summed_rows arithmetic (rows_from columns 0 vs) in
    Ended (set_array (set_columns s w rows keys) (Sums w) (map (λ r. r.value) rows))

-- the rows of workspace w, in its key columns and its values, which are equally long
abbrev pub sort_sum_outcome : Arithmetic → State → ℕ → Option ℕ → Option (List ℕ) → Outcome
sort_sum_outcome arithmetic s w None vs = Stuck s.turns 1
sort_sum_outcome arithmetic s w (Some keys) None = Stuck s.turns 1
sort_sum_outcome arithmetic s w (Some keys) (Some vs) = summed arithmetic s w keys vs (key_columns s w (length vs) keys)

-- one of two by a test
abbrev pub choice : State → Option ℕ → Outcome → Outcome → Outcome
choice s None first second = Stuck s.turns 1
choice s (Some zero) first second = second
choice s (Some (suc n)) first second = first

-- at most n turns of a loop
abbrev pub run_turns : ℕ → LoopKind → (State → Option ℕ) → (State → Outcome) → State → Outcome
run_turns zero k test body s = choice s (test s) More (Ended s)
run_turns (suc n) k test body s = choice s (test s) (then_run (body (one_turn s k)) (run_turns n k test body)) (Ended s)

abbrev mutual
  -- how many statements begin in a statement: itself and those of its bodies
  pub statements_in : KStmt → ℕ
  statements_in (If' e p first q second) = 1 + (statements_in_row first + statements_in_row second)
  statements_in (While' k e p body) = 1 + statements_in_row body
  statements_in _ = 1

  pub statements_in_row : {m : _} → Row_of-KStmt m → ℕ
  statements_in_row end_of-KStmt = 0
  statements_in_row (more_of-KStmt s rest) = statements_in s + statements_in_row rest

-- how many statements begin in a list of them
abbrev pub statements_in_list : List KStmt → ℕ
statements_in_list [] = 0
statements_in_list (s ∷ rest) = statements_in s + statements_in_list rest

abbrev mutual
  -- a statement, each loop entry for at most n turns; it is itself the first, the bodies of an `if` or a loop stand behind it
  pub run : Setting → ℕ → KStmt → State → Outcome
  run c n (Set x e) s = set_outcome s x (value e s)
  run c n (Combine x o e f) s = set_outcome s x (apply_each (combined c.arithmetic o) (value e s) (value f s))
  run c n (Put a i e) s = put_outcome s a (value i s) (value e s)
  run c n (AddTo a i e) s = add_outcome c.arithmetic s a (value i s) (value e s)
  run c n (Push a e) s = push_outcome s a (value e s)
  run c n (Extend a count e) s = extend_outcome s a (value count s) (value e s)
  run c n (Cut a e) s = cut_outcome c.cuts_results s a (value e s)
  run c n (Sort g) s = sort_outcome s g (s.arrays (ListCoordinates g)) (s.arrays (ListPositions g))
  run c n (SortSum w) s = sort_sum_outcome c.arithmetic s w (slice_get c.workspaces w) (s.arrays (Sums w))
  run c n (If' e p first q second) s =
      choice s (value e s) (behind 1 (run_row c n first s)) (behind (1 + statements_in_row first) (run_row c n second s))
  run c n (While' k e p body) s = run_turns n k (value e) (λ s'. behind 1 (run_row c n body s')) s

  -- the statements of a list inside a statement
  pub run_row : {m : _} → Setting → ℕ → Row_of-KStmt m → State → Outcome
  run_row c n end_of-KStmt s = Ended s
  run_row c n (more_of-KStmt s rest) st = then_run (run c n s st) (λ st'. behind (statements_in s) (run_row c n rest st'))

-- the statements of a list
abbrev pub run_list : Setting → ℕ → List KStmt → State → Outcome
run_list c n [] st = Ended st
run_list c n (s ∷ rest) st = then_run (run c n s st) (λ st'. behind (statements_in s) (run_list c n rest st'))
