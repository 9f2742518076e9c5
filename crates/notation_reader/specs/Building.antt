-- What is built of the right side's expression, and of its nested sums, at a place.
use Rattle.std.specs.Prelude.{◌≡◌, ℕ, zero, suc, ◌+◌, ◌-◌}
use Rattle.std.specs.Prelude.{Option, Some, None, List, [], ◌∷◌, ◌++◌}
use Rattle.limits.specs.Limits.{greatest_accesses}
use Rattle.index_notation.specs.declared.operator.Operator.{Operator}
use Rattle.index_notation.specs.declared.operator.Operator.TheVariants as op
use Rattle.index_notation.specs.declared.syntax.Name.{Name}
use Rattle.index_notation.specs.declared.syntax.Expr.{Expr, Num, Access as AccessOf, Binary, Neg}
use Rattle.index_notation.specs.declared.token.Mark.TheVariants.{Plus, Minus}
use Rattle.index_notation.specs.declared.token.Token.TheVariants.{Name as NameToken, Mark as MarkToken}
use Rattle.notation_grammar.specs.declared.symbol.Symbol.{Symbol}
use Rattle.notation_grammar.specs.declared.symbol.Symbol.TheVariants.{Lexeme}
use Rattle.notation_reader.specs.declared.position.Stand.{Stand}
use Rattle.notation_reader.specs.declared.position.Stand.TheVariants as stand
use Rattle.notation_reader.specs.declared.position.Lead.{Lead}
use Rattle.notation_reader.specs.declared.position.Lead.TheVariants as lead
use Rattle.notation_reader.specs.declared.builder.Joined.{Joined}
use Rattle.notation_reader.specs.declared.builder.Frame.{Frame}
use Rattle.notation_reader.specs.declared.builder.WrittenSum.{WrittenSum}
use Rattle.notation_reader.specs.declared.builder.Builder.{Builder}
use Rattle.notation_grammar.specs.Grammar.{Product}
use Rattle.notation_grammar.specs.Faults.{number_of}
use Rattle.notation_grammar.specs.TreeStatement.{reads_in_product, reads_in_sum, sums_in_product, sums_in_sum, product_expr, sum_expr}
use Rattle.notation_reader.specs.Machine.{SumPlace, OnTheRight, InBrackets, InSum, ProductPlace, First, BehindPlus, BehindMinus}
use Rattle.notation_reader.specs.Machine.{FactorPlace, FirstFactor, BehindTimes, BehindSign, its_product, its_sum, Side, Left, Right}
use Rattle.notation_reader.specs.Machine.{State, Named, WantsVariable, BehindVariable, WantsFactor, NamedSum, WantsBound, BehindBound}
use Rattle.notation_reader.specs.Machine.{Behind, Ended}
use Rattle.notation_reader.specs.Shown.{minuses_of}
use Rattle.notation_reader.specs.Sums.{written_sum, written_in_product, written_in_sum}

-- how many accesses stand before a place
abbrev mutual
  pub reads_to_sum : SumPlace → ℕ
  reads_to_sum (OnTheRight left) = 0
  reads_to_sum (InBrackets place) = reads_to place
  reads_to_sum (InSum place var) = reads_to place

  pub reads_to_product : ProductPlace → ℕ
  reads_to_product (First place) = reads_to_sum place
  reads_to_product (BehindPlus place sum) = reads_to_sum place + reads_in_sum sum
  reads_to_product (BehindMinus place sum) = reads_to_sum place + reads_in_sum sum

  pub reads_to : FactorPlace → ℕ
  reads_to (FirstFactor place) = reads_to_product place
  reads_to (BehindTimes place product) = reads_to_product place + reads_in_product product
  reads_to (BehindSign place) = reads_to place

-- the number of the nested sum that ends next
abbrev mutual
  pub ends_to_sum : SumPlace → ℕ
  ends_to_sum (OnTheRight left) = greatest_accesses
  ends_to_sum (InBrackets place) = ends_to place
  ends_to_sum (InSum place var) = ends_to place

  pub ends_to_product : ProductPlace → ℕ
  ends_to_product (First place) = ends_to_sum place
  ends_to_product (BehindPlus place sum) = ends_to_sum place + sums_in_sum sum
  ends_to_product (BehindMinus place sum) = ends_to_sum place + sums_in_sum sum

  pub ends_to : FactorPlace → ℕ
  ends_to (FirstFactor place) = ends_to_product place
  ends_to (BehindTimes place product) = ends_to_product place + sums_in_product product
  ends_to (BehindSign place) = ends_to place

-- the nested sums that have ended
abbrev mutual
  pub sums_to_sum : SumPlace → List WrittenSum
  sums_to_sum (OnTheRight left) = []
  sums_to_sum (InBrackets place) = sums_to place
  sums_to_sum (InSum place var) = sums_to place

  pub sums_to_product : ProductPlace → List WrittenSum
  sums_to_product (First place) = sums_to_sum place
  sums_to_product (BehindPlus place sum) = sums_to_sum place ++ written_in_sum (reads_to_sum place) (ends_to_sum place) sum
  sums_to_product (BehindMinus place sum) = sums_to_sum place ++ written_in_sum (reads_to_sum place) (ends_to_sum place) sum

  pub sums_to : FactorPlace → List WrittenSum
  sums_to (FirstFactor place) = sums_to_product place
  sums_to (BehindTimes place product) =
      sums_to_product place ++ written_in_product (reads_to_product place) (ends_to_product place) product
  sums_to (BehindSign place) = sums_to place

abbrev pub joined_by : Operator → Expr → Joined
joined_by operator expr = record { before = expr; operator = operator }

abbrev pub sum_before : ProductPlace → Option Joined
sum_before (First place) = None
sum_before (BehindPlus place sum) = Some (joined_by op.Add (sum_expr (reads_to_sum place) (ends_to_sum place) sum))
sum_before (BehindMinus place sum) = Some (joined_by op.Sub (sum_expr (reads_to_sum place) (ends_to_sum place) sum))

abbrev pub product_before : FactorPlace → Option Expr
product_before (FirstFactor place) = None
product_before (BehindTimes place product) = Some (product_expr (reads_to_product place) (ends_to_product place) product)
product_before (BehindSign place) = product_before place

-- the variable of the nested sum right inside of which a sum stands
abbrev pub bound_of : SumPlace → Option Name
bound_of (InSum place var) = Some var
bound_of _ = None

abbrev pub frame_of : FactorPlace → Frame
frame_of place = record {
  sum = sum_before (its_product place);
  product = product_before place;
  minuses = minuses_of place;
  bound = bound_of (its_sum (its_product place));
}

abbrev pub frame_behind : ProductPlace → Product → Frame
frame_behind place product = record {
  sum = sum_before place;
  product = Some (product_expr (reads_to_product place) (ends_to_product place) product);
  minuses = 0;
  bound = bound_of (its_sum place);
}

abbrev mutual
  pub frames_of_sum : SumPlace → List Frame
  frames_of_sum (OnTheRight left) = []
  frames_of_sum (InBrackets place) = frames_of place ++ (frame_of place ∷ [])
  frames_of_sum (InSum place var) = frames_of place ++ (frame_of place ∷ [])

  pub frames_of_product : ProductPlace → List Frame
  frames_of_product (First place) = frames_of_sum place
  frames_of_product (BehindPlus place sum) = frames_of_sum place
  frames_of_product (BehindMinus place sum) = frames_of_sum place

  pub frames_of : FactorPlace → List Frame
  frames_of (FirstFactor place) = frames_of_product place
  frames_of (BehindTimes place product) = frames_of_product place
  frames_of (BehindSign place) = frames_of place

abbrev pub no_frame : Frame
no_frame = record { sum = None; product = None; minuses = 0; bound = None }

abbrev pub at_factor : ℕ → FactorPlace → Builder
at_factor more place = record {
  reads = reads_to place + more;
  ends = ends_to place;
  sums = sums_to place;
  outer = frames_of place;
  frame = frame_of place;
  result = None;
}

abbrev pub nothing_built : Builder
nothing_built = record { reads = 0; ends = greatest_accesses; sums = []; outer = []; frame = no_frame; result = None }

abbrev pub on_side : Side → Builder
on_side Left = nothing_built
on_side (Right place) = at_factor 1 place

abbrev pub in_new_frame : Builder → Builder
in_new_frame b = record {
  reads = b.reads;
  ends = b.ends;
  sums = b.sums;
  outer = b.outer ++ (b.frame ∷ []);
  frame = no_frame;
  result = None;
}

-- in the frame of a nested sum over this variable
abbrev pub with_bound : Name → Builder → Builder
with_bound var b = record {
  reads = b.reads;
  ends = b.ends;
  sums = b.sums;
  outer = b.outer;
  frame = record { sum = b.frame.sum; product = b.frame.product; minuses = b.frame.minuses; bound = Some var };
  result = None;
}

abbrev pub built : State → Builder
built (Named side name) = on_side side
built (WantsVariable side name vars) = on_side side
built (BehindVariable side name vars var) = on_side side
built (WantsFactor place) = at_factor 0 place
built (NamedSum place) = at_factor 0 place
built (WantsBound place) = in_new_frame (at_factor 0 place)
built (BehindBound place var) = with_bound var (in_new_frame (at_factor 0 place))
built (Behind place product) = record {
  reads = reads_to_product place + reads_in_product product;
  ends = ends_to_product place + sums_in_product product;
  sums = sums_to_product place ++ written_in_product (reads_to_product place) (ends_to_product place) product;
  outer = frames_of_product place;
  frame = frame_behind place product;
  result = None;
}
built (Ended tree) = record {
  reads = 0;
  ends = 0;
  sums = written_in_sum 0 greatest_accesses tree.right;
  outer = [];
  frame = no_frame;
  result = Some (sum_expr 0 greatest_accesses tree.right);
}
built _ = on_side Left

-- an expression behind prefix minuses
abbrev pub negated : ℕ → Expr → Expr
negated zero expr = expr
negated (suc n) expr = negated n (Neg expr)

abbrev pub times : Option Expr → Expr → Expr
times None expr = expr
times (Some product) expr = Binary op.Mul product expr

abbrev pub with_sum : Option Joined → Expr → Expr
with_sum None expr = expr
with_sum (Some joined) expr = Binary joined.operator joined.before expr

abbrev pub last_product : Option Expr → Expr
last_product None = Num 0
last_product (Some expr) = expr

-- a factor joins its frame
abbrev pub with_factor : Frame → Expr → Frame
with_factor frame expr = record {
  sum = frame.sum;
  product = Some (times frame.product (negated frame.minuses expr));
  minuses = 0;
  bound = frame.bound;
}

-- the sum that a frame ends with
abbrev pub whole_sum : Frame → Expr
whole_sum frame = with_sum frame.sum (last_product frame.product)

abbrev pub finished_by : Builder → Expr → Builder
finished_by b expr = record {
  reads = b.reads;
  ends = b.ends;
  sums = b.sums;
  outer = b.outer;
  frame = with_factor b.frame expr;
  result = None;
}

abbrev pub joined_with : Builder → Operator → Builder
joined_with b operator = record {
  reads = b.reads;
  ends = b.ends;
  sums = b.sums;
  outer = b.outer;
  frame = record {
    sum = Some (joined_by operator (whole_sum b.frame));
    product = None;
    minuses = 0;
    bound = b.frame.bound;
  };
  result = None;
}

abbrev pub with_read : Builder → Builder
with_read b = record { reads = b.reads + 1; ends = b.ends; sums = b.sums; outer = b.outer; frame = b.frame; result = None }

abbrev pub with_minus : Builder → Builder
with_minus b = record {
  reads = b.reads;
  ends = b.ends;
  sums = b.sums;
  outer = b.outer;
  frame = record {
    sum = b.frame.sum;
    product = b.frame.product;
    minuses = b.frame.minuses + 1;
    bound = b.frame.bound;
  };
  result = None;
}

abbrev pub in_outer_frame : Builder → List Frame → Frame → Builder
in_outer_frame b front frame = record { reads = b.reads; ends = b.ends; sums = b.sums; outer = front; frame = frame; result = None }

-- a nested sum that ends is a factor by its number
abbrev pub with_ended : Builder → Name → Expr → Builder
with_ended b var inside = finished_by
    (record {
      reads = b.reads;
      ends = b.ends + 1;
      sums = b.sums ++ (written_sum var inside ∷ []);
      outer = b.outer;
      frame = b.frame;
      result = None;
    })
    (AccessOf b.ends)

-- what a bracket held is a factor, or the inside of a nested sum
abbrev pub closed_over : Builder → Option Name → Expr → Builder
closed_over b None expr = finished_by b expr
closed_over b (Some var) expr = with_ended b var expr

abbrev pub out_of_frame : Builder → List Frame → Frame → Builder
out_of_frame b front frame = closed_over (in_outer_frame b front frame) b.frame.bound (whole_sum b.frame)

abbrev pub at_the_end : Builder → Builder
at_the_end b = record {
  reads = 0;
  ends = 0;
  sums = b.sums;
  outer = [];
  frame = no_frame;
  result = Some (whole_sum b.frame);
}

abbrev pub with_last_access : Builder → Builder
with_last_access b = finished_by b (AccessOf (b.reads - 1))

-- a name is a factor where no bracket follows
abbrev pub settled : Stand → Builder → Builder
settled stand.Name b = with_last_access b
settled _ b = b

abbrev pub by_operator : Builder → Symbol → Builder
by_operator b (Lexeme (MarkToken Plus)) = joined_with b op.Add
by_operator b (Lexeme (MarkToken Minus)) = joined_with b op.Sub
by_operator b _ = b

abbrev pub by_variable : Builder → Symbol → Builder
by_variable b (Lexeme (NameToken name)) = with_bound name b
by_variable b _ = b

-- what a bracket that closes builds
abbrev pub closes_so : Builder → Builder → Type 0
closes_so b new = (front : List Frame) (frame : Frame) → b.outer ≡ front ++ (frame ∷ []) → new ≡ out_of_frame b front frame

-- what a symbol builds
abbrev pub Builds : Builder → Stand → Symbol → Lead → Builder → Type 0
Builds b at t lead.Number new = new ≡ finished_by b (Num (number_of t))
Builds b at t lead.Name new = new ≡ with_read b
Builds b at t lead.Access new = new ≡ with_last_access b
Builds b at t lead.Bound new = new ≡ by_variable b t
Builds b at t (lead.Bracket to) new = new ≡ in_new_frame b
Builds b at t lead.Minus new = new ≡ with_minus b
Builds b at t lead.Operator new = new ≡ by_operator (settled at b) t
Builds b at t lead.Close new = closes_so (settled at b) new
Builds b at t lead.End new = new ≡ at_the_end (settled at b)
Builds b at t _ new = new ≡ b
