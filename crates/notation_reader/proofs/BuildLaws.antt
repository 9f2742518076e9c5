-- What a factor, and a bracket that closes, build.
use Rattle.std.specs.Prelude.{◌≡◌, Bool, true, false, ℕ, suc, ◌+◌, ◌-◌, Option, Some, None, List, [], ◌∷◌, ◌++◌, refl}
use Rattle.std.proofs.Common.{sym, ◌∙◌, ap, arith, append_assoc}
use Rattle.index_notation.specs.declared.syntax.Name.{Name}
use Rattle.index_notation.specs.declared.token.WrittenAccess.{WrittenAccess}
use Rattle.index_notation.specs.declared.operator.Operator.{Operator}
use Rattle.index_notation.specs.declared.operator.Operator.TheVariants as op
use Rattle.index_notation.specs.declared.syntax.Expr.{Access as AccessOf}
use Rattle.notation_reader.specs.declared.builder.WrittenSum.{WrittenSum}
use Rattle.notation_reader.specs.declared.builder.Builder.{Builder}
use Rattle.index_notation.specs.declared.token.Mark.TheVariants.{Equals, PlusEquals, Plus, Minus, Times, Open, Close, Comma}
use Rattle.index_notation.specs.declared.token.Token.TheVariants.{Name as NameToken, Number as NumberToken, Mark as MarkToken}
use Rattle.notation_grammar.specs.declared.symbol.Symbol.{Symbol}
use Rattle.notation_grammar.specs.declared.symbol.Symbol.TheVariants.{Lexeme, End}
use Rattle.notation_reader.specs.declared.position.Lead.{Lead}
use Rattle.notation_reader.specs.declared.position.Lead.TheVariants as lead
use Rattle.notation_grammar.specs.Grammar.{Factor, Digits, Read, Bracketed, Negated, Summed, Product, Sum, is_sum}
use Rattle.notation_reader.specs.Machine.{SumPlace, OnTheRight, InBrackets, InSum, ProductPlace, First, BehindPlus, BehindMinus}
use Rattle.notation_reader.specs.Machine.{FactorPlace, FirstFactor, BehindTimes, BehindSign, its_product, product_with, its_sum}
use Rattle.notation_reader.specs.Machine.{sum_with, behind_factor, behind_mark, closed, ended, left_named, factor_named, step_behind}
use Rattle.notation_reader.specs.Machine.{step, Side, Left, Right, State, Start, Named, WantsVariable, BehindVariable, BehindLeft}
use Rattle.notation_reader.specs.Machine.{WantsFactor, NamedSum, WantsBound, BehindBound, Behind, Ended}
use Rattle.notation_reader.proofs.MachineLaws.{some_is, nothing_leads, append_none}
use Rattle.notation_reader.specs.Leads.{left_named_leads, factor_named_leads, lead_of}
use Rattle.notation_reader.proofs.ShownLaws.{behind_leads}
use Rattle.notation_reader.specs.Shown.{minuses_of, show}
use Rattle.notation_grammar.specs.TreeStatement.{reads_in_factor, reads_in_product, reads_in_sum, sums_in_factor, sums_in_product}
use Rattle.notation_grammar.specs.TreeStatement.{sums_in_sum, factor_expr, product_expr, sum_expr}
use Rattle.notation_reader.specs.Sums.{written_sum, written_in_factor, written_in_product, written_in_sum}
use Rattle.notation_reader.specs.Building.{reads_to_sum, reads_to_product, reads_to, ends_to_sum, ends_to_product, ends_to, sums_to_sum}
use Rattle.notation_reader.specs.Building.{sums_to_product, sums_to, joined_by, sum_before, product_before, bound_of, frame_of}
use Rattle.notation_reader.specs.Building.{frame_behind, frames_of_sum, frames_of_product, frames_of, no_frame, at_factor, built, negated}
use Rattle.notation_reader.specs.Building.{times, whole_sum, finished_by, joined_with, with_read, in_outer_frame, with_ended}
use Rattle.notation_reader.specs.Building.{closed_over, out_of_frame, at_the_end, with_last_access, by_operator, closes_so, Builds}

reads_behind : (place : FactorPlace) (f : Factor)
    → reads_to_product (its_product place) + reads_in_product (product_with place f) ≡ reads_to place + reads_in_factor f
reads_behind (FirstFactor place) f = refl
reads_behind (BehindTimes place p) f = omega arith
reads_behind (BehindSign place) f = reads_behind place (Negated f)

ends_behind : (place : FactorPlace) (f : Factor)
    → ends_to_product (its_product place) + sums_in_product (product_with place f) ≡ ends_to place + sums_in_factor f
ends_behind (FirstFactor place) f = refl
ends_behind (BehindTimes place p) f = omega arith
ends_behind (BehindSign place) f = ends_behind place (Negated f)

-- the nested sums up to the end of a product, and of a factor
abbrev sums_behind_product : ProductPlace → Product → List WrittenSum
sums_behind_product place p = sums_to_product place ++ written_in_product (reads_to_product place) (ends_to_product place) p

abbrev sums_behind_factor : FactorPlace → Factor → List WrittenSum
sums_behind_factor place f = sums_to place ++ written_in_factor (reads_to place) (ends_to place) f

abbrev sums_behind_sum : SumPlace → Sum → List WrittenSum
sums_behind_sum place s = sums_to_sum place ++ written_in_sum (reads_to_sum place) (ends_to_sum place) s

sums_behind : (place : FactorPlace) (f : Factor)
    → sums_behind_product (its_product place) (product_with place f) ≡ sums_behind_factor place f
sums_behind (FirstFactor place) f = refl
sums_behind (BehindTimes place p) f =
    sym (append_assoc (sums_to_product place) (written_in_product (reads_to_product place) (ends_to_product place) p)
    (written_in_factor (reads_to_product place + reads_in_product p) (ends_to_product place + sums_in_product p) f))
sums_behind (BehindSign place) f = sums_behind place (Negated f)

frames_stay : (place : FactorPlace) → frames_of_product (its_product place) ≡ frames_of place
frames_stay (FirstFactor place) = refl
frames_stay (BehindTimes place p) = refl
frames_stay (BehindSign place) = frames_stay place

-- the product of which a factor is the last
product_built : (place : FactorPlace) (f : Factor)
    → product_expr (reads_to_product (its_product place)) (ends_to_product (its_product place)) (product_with place f) ≡ times
    (product_before place) (negated (minuses_of place) (factor_expr (reads_to place) (ends_to place) f))
product_built (FirstFactor place) f = refl
product_built (BehindTimes place p) f = refl
product_built (BehindSign place) f =
    product_built place (Negated f)
    ∙ ap (λ (n : ℕ). times (product_before place) (negated n (factor_expr (reads_to place) (ends_to place) f)))
    (let h : suc (minuses_of place) ≡ minuses_of place + 1 = omega arith in h)

-- the accesses and nested sums of a factor are read, and it is the next of the frame
abbrev with_parts : FactorPlace → Factor → Builder
with_parts place f = record {
  reads = reads_to place + reads_in_factor f;
  ends = ends_to place + sums_in_factor f;
  sums = sums_behind_factor place f;
  outer = frames_of place;
  frame = frame_of place;
  result = None;
}

-- a factor behind its place
factor_built : (place : FactorPlace) (f : Factor)
    → built (behind_factor place f) ≡ finished_by (with_parts place f) (factor_expr (reads_to place) (ends_to place) f)
factor_built place f = λ i. record {
  reads = reads_behind place f i;
  ends = ends_behind place f i;
  sums = sums_behind place f i;
  outer = frames_stay place i;
  frame = record {
    sum = sum_before (its_product place);
    product = Some (product_built place f i);
    minuses = 0;
    bound = bound_of (its_sum (its_product place));
  };
  result = None;
}

zero_more : (n m : ℕ) → n ≡ m → n + 0 ≡ m
zero_more n m e = omega (arith, e)

-- a factor in which no nested sum stands
plain_built : (place : FactorPlace) (f : Factor) → sums_in_factor f ≡ 0 → written_in_factor (reads_to place) (ends_to place) f ≡ []
    → built (behind_factor place f) ≡ finished_by (at_factor (reads_in_factor f) place) (factor_expr (reads_to place) (ends_to place) f)
plain_built place f none no_sums =
    let ends : ends_to place + sums_in_factor f ≡ ends_to place = omega (arith, none) in
    let sums : sums_behind_factor place f ≡ sums_to place =
    ap (λ (more : List WrittenSum). sums_to place ++ more) no_sums ∙ append_none (sums_to place) in
    factor_built place f
    ∙ (λ i. finished_by (record {
      reads = reads_to place + reads_in_factor f;
      ends = ends i;
      sums = sums i;
      outer = frames_of place;
      frame = frame_of place;
      result = None;
    }) (factor_expr (reads_to place) (ends_to place) f))

-- the sum of which a product is the last
pub sum_built : (place : ProductPlace) (p : Product)
    → sum_expr (reads_to_sum (its_sum place)) (ends_to_sum (its_sum place)) (sum_with place p) ≡ whole_sum (frame_behind place p)
sum_built (First place) p = refl
sum_built (BehindPlus place s) p = refl
sum_built (BehindMinus place s) p = refl

sum_reads : (place : ProductPlace) (p : Product)
    → reads_to_sum (its_sum place) + reads_in_sum (sum_with place p) ≡ reads_to_product place + reads_in_product p
sum_reads (First place) p = refl
sum_reads (BehindPlus place s) p = omega arith
sum_reads (BehindMinus place s) p = omega arith

sum_ends : (place : ProductPlace) (p : Product)
    → ends_to_sum (its_sum place) + sums_in_sum (sum_with place p) ≡ ends_to_product place + sums_in_product p
sum_ends (First place) p = refl
sum_ends (BehindPlus place s) p = omega arith
sum_ends (BehindMinus place s) p = omega arith

sum_sums : (place : ProductPlace) (p : Product) → sums_behind_sum (its_sum place) (sum_with place p) ≡ sums_behind_product place p
sum_sums (First place) p = refl
sum_sums (BehindPlus place s) p =
    sym (append_assoc (sums_to_sum place) (written_in_sum (reads_to_sum place) (ends_to_sum place) s)
    (written_in_product (reads_to_sum place + reads_in_sum s) (ends_to_sum place + sums_in_sum s) p))
sum_sums (BehindMinus place s) p =
    sym (append_assoc (sums_to_sum place) (written_in_sum (reads_to_sum place) (ends_to_sum place) s)
    (written_in_product (reads_to_sum place + reads_in_sum s) (ends_to_sum place + sums_in_sum s) p))

sum_frames : (place : ProductPlace) → frames_of_product place ≡ frames_of_sum (its_sum place)
sum_frames (First place) = refl
sum_frames (BehindPlus place s) = refl
sum_frames (BehindMinus place s) = refl

-- behind the operator of a sum
joined_built : (place : ProductPlace) (p : Product) (operator : Operator)
    → ◌≡◌ {A = Builder} (record {
      reads = (reads_to_sum (its_sum place) + reads_in_sum (sum_with place p)) + 0;
      ends = ends_to_sum (its_sum place) + sums_in_sum (sum_with place p);
      sums = sums_behind_sum (its_sum place) (sum_with place p);
      outer = frames_of_sum (its_sum place);
      frame = record {
        sum = Some
            (joined_by operator (sum_expr (reads_to_sum (its_sum place)) (ends_to_sum (its_sum place)) (sum_with place p)));
        product = None;
        minuses = 0;
        bound = bound_of (its_sum place);
      };
      result = None;
    })
    (joined_with (built (Behind place p)) operator)
joined_built place p operator = λ i. record {
  reads = zero_more _ _ (sum_reads place p) i;
  ends = sum_ends place p i;
  sums = sum_sums place p i;
  outer = sym (sum_frames place) i;
  frame = record {
    sum = Some (joined_by operator (sum_built place p i));
    product = None;
    minuses = 0;
    bound = bound_of (its_sum place);
  };
  result = None;
}

-- a bracket that closes: its frame goes behind what it holds
bracket_built : (place : FactorPlace) (at : ProductPlace) (p : Product) → its_sum at ≡ InBrackets place
    → built (behind_factor place (Bracketed (sum_with at p))) ≡ finished_by
    (in_outer_frame (built (Behind at p)) (frames_of place) (frame_of place)) (whole_sum (frame_behind at p))
bracket_built place at p e =
    let s = sum_with at p in
    let reads = ap (λ (x : SumPlace). reads_to_sum x + reads_in_sum s) (sym e) ∙ sum_reads at p in
    let ends = ap (λ (x : SumPlace). ends_to_sum x + sums_in_sum s) (sym e) ∙ sum_ends at p in
    let sums = ap (λ (x : SumPlace). sums_behind_sum x s) (sym e) ∙ sum_sums at p in
    let expr = ap (λ (x : SumPlace). sum_expr (reads_to_sum x) (ends_to_sum x) s) (sym e) ∙ sum_built at p in
    factor_built place (Bracketed s)
    ∙ (λ i. finished_by (record {
      reads = reads i;
      ends = ends i;
      sums = sums i;
      outer = frames_of place;
      frame = frame_of place;
      result = None;
    }) (expr i))

one_more_end : (m x n : ℕ) → m + x ≡ n → m + (x + 1) ≡ n + 1
one_more_end m x n e = omega (arith, e)

-- and the bracket of a nested sum
nested_built : (place : FactorPlace) (var : Name) (at : ProductPlace) (p : Product) → its_sum at ≡ InSum place var
    → built (behind_factor place (Summed var (sum_with at p))) ≡ with_ended
    (in_outer_frame (built (Behind at p)) (frames_of place) (frame_of place)) var (whole_sum (frame_behind at p))
nested_built place var at p e =
    let s = sum_with at p in
    let reads = ap (λ (x : SumPlace). reads_to_sum x + reads_in_sum s) (sym e) ∙ sum_reads at p in
    let ends : ends_to place + sums_in_sum s ≡ ends_to_product at + sums_in_product p =
    ap (λ (x : SumPlace). ends_to_sum x + sums_in_sum s) (sym e) ∙ sum_ends at p in
    let sums : sums_to place ++ written_in_sum (reads_to place) (ends_to place) s ≡ sums_behind_product at p =
    ap (λ (x : SumPlace). sums_behind_sum x s) (sym e) ∙ sum_sums at p in
    let expr : sum_expr (reads_to place) (ends_to place) s ≡ whole_sum (frame_behind at p) =
    ap (λ (x : SumPlace). sum_expr (reads_to_sum x) (ends_to_sum x) s) (sym e) ∙ sum_built at p in
    let one = written_sum var (sum_expr (reads_to place) (ends_to place) s) ∷ [] in
    let all : sums_behind_factor place (Summed var s) ≡ sums_behind_product at p
    ++ (written_sum var (whole_sum (frame_behind at p)) ∷ []) =
    sym (append_assoc (sums_to place) (written_in_sum (reads_to place) (ends_to place) s) one)
    ∙ (λ i. sums i ++ (written_sum var (expr i) ∷ [])) in
    factor_built place (Summed var s)
    ∙ (λ i. finished_by (record {
      reads = reads i;
      ends = one_more_end (ends_to place) (sums_in_sum s) (ends_to_product at + sums_in_product p) ends i;
      sums = all i;
      outer = frames_of place;
      frame = frame_of place;
      result = None;
    }) (AccessOf (ends i)))

-- each step builds what its lead says
from_equal : (x next : State) (new : Builder) → ◌≡◌ {A = Option State} (Some x) (Some next) → built x ≡ new → built next ≡ new
from_equal x next new e h = ap built (sym (some_is x next e)) ∙ h

access_built : (place : FactorPlace) (access : WrittenAccess)
    → built (behind_factor place (Read access)) ≡ with_last_access (at_factor 1 place)
access_built place access = plain_built place (Read access) refl refl
    ∙ ap (λ (n : ℕ). finished_by (at_factor 1 place) (AccessOf n)) (let h : reads_to place ≡ (reads_to place + 1) - 1 = omega arith in h)

abbrev BuildsAs : State → Symbol → State → Builder → Type 0
BuildsAs s t next new = Builds (built s) (show s).stand t (lead_of (show s).stand t) new → built next ≡ new

times_built : (place : ProductPlace) (p : Product) → built (WantsFactor (BehindTimes place p)) ≡ built (Behind place p)
times_built place p = λ i. record {
  reads =
      zero_more (reads_to_product place + reads_in_product p) (reads_to_product place + reads_in_product p) refl i;
  ends = ends_to_product place + sums_in_product p;
  sums = sums_behind_product place p;
  outer =
      frames_of_product place;
  frame = frame_behind place p;
  result = None;
}

frame_closed : (at : FactorPlace) (place : ProductPlace) (p : Product) (b : Builder) (bound : Option Name)
    → bound_of (its_sum place) ≡ bound → b ≡ built (Behind place p)
    → closed_over (in_outer_frame (built (Behind place p)) (frames_of at) (frame_of at)) bound (whole_sum (frame_behind place p))
    ≡ out_of_frame b (frames_of at) (frame_of at)
frame_closed at place p b bound e k =
    ap (λ (x : Option Name). closed_over (in_outer_frame (built (Behind place p)) (frames_of at) (frame_of at)) x
    (whole_sum (frame_behind place p))) (sym e)
    ∙ (λ i. out_of_frame (sym k i) (frames_of at) (frame_of at))

close_equal : (at : SumPlace) (place : ProductPlace) (p : Product) (next : State) (new b : Builder) → its_sum place ≡ at
    → closed at (sum_with place p) ≡ Some next → b ≡ built (Behind place p) → closes_so b new → built next ≡ new
close_equal (OnTheRight left) place p next new b e h k w = nothing_leads next h
close_equal (InBrackets at) place p next new b e h k w =
    let outer : b.outer ≡ frames_of at ++ (frame_of at ∷ []) = ap (λ (x : Builder). x.outer) k ∙ sum_frames place ∙ ap frames_of_sum e in
    from_equal (behind_factor at (Bracketed (sum_with place p))) next new h
    (bracket_built at place p e ∙ frame_closed at place p b None (ap bound_of e) k ∙ sym (w (frames_of at) (frame_of at) outer))
close_equal (InSum at var) place p next new b e h k w =
    let outer : b.outer ≡ frames_of at ++ (frame_of at ∷ []) = ap (λ (x : Builder). x.outer) k ∙ sum_frames place ∙ ap frames_of_sum e in
    from_equal (behind_factor at (Summed var (sum_with place p))) next new h
    (nested_built at var place p e ∙ frame_closed at place p b (Some var) (ap bound_of e) k ∙ sym (w (frames_of at) (frame_of at) outer))

end_equal : (at : SumPlace) (place : ProductPlace) (p : Product) (next : State) (new b : Builder) → its_sum place ≡ at
    → ended at (sum_with place p) ≡ Some next → b ≡ built (Behind place p) → new ≡ at_the_end b → built next ≡ new
end_equal (OnTheRight left) place p next new b e h k w =
    from_equal (Ended (record { left = left; right = sum_with place p })) next new h
    ((λ i. record {
      reads = 0;
      ends = 0;
      sums = (ap (λ (x : SumPlace). sums_behind_sum x (sum_with place p)) (sym e) ∙ sum_sums place p) i;
      outer = [];
      frame = no_frame;
      result =
          Some ((ap (λ (x : SumPlace). sum_expr (reads_to_sum x) (ends_to_sum x) (sum_with place p)) (sym e) ∙ sum_built place p) i);
    })
    ∙ ap at_the_end (sym k) ∙ sym w)
end_equal (InBrackets at) place p next new b e h k w = nothing_leads next h
end_equal (InSum at var) place p next new b e h k w = nothing_leads next h

-- what a symbol behind a factor builds
abbrev BehindBuilds : Builder → Symbol → Lead → Builder → Type 0
BehindBuilds b t lead.Operator new = new ≡ by_operator b t
BehindBuilds b t lead.Close new = closes_so b new
BehindBuilds b t lead.End new = new ≡ at_the_end b
BehindBuilds b t _ new = Unit {0}

behind_equal : (place : ProductPlace) (p : Product) (t : Symbol) (next : State) (new b : Builder) → step_behind place p t ≡ Some next
    → b ≡ built (Behind place p) → BehindBuilds b t (behind_leads t) new → built next ≡ new
behind_equal place p (Lexeme (MarkToken Times)) next new b e k w =
    from_equal (WantsFactor (BehindTimes place p)) next new e (times_built place p ∙ sym k ∙ sym w)
behind_equal place p (Lexeme (MarkToken Plus)) next new b e k w =
    from_equal (WantsFactor (FirstFactor (BehindPlus (its_sum place) (sum_with place p)))) next new e (joined_built place p op.Add
    ∙ ap (λ (x : Builder). joined_with x op.Add) (sym k) ∙ sym w)
behind_equal place p (Lexeme (MarkToken Minus)) next new b e k w =
    from_equal (WantsFactor (FirstFactor (BehindMinus (its_sum place) (sum_with place p)))) next new e (joined_built place p op.Sub
    ∙ ap (λ (x : Builder). joined_with x op.Sub) (sym k) ∙ sym w)
behind_equal place p (Lexeme (MarkToken Close)) next new b e k w = close_equal (its_sum place) place p next new b refl e k w
behind_equal place p End next new b e k w = end_equal (its_sum place) place p next new b refl e k w
behind_equal place p _ next new b e k w = nothing_leads next e

scalar_equal : (place : FactorPlace) (name : Name) (t : Symbol) (next : State) (new : Builder)
    → step_behind (its_product place) (product_with place (Read (record { name = name; vars = [] }))) t ≡ Some next
    → BehindBuilds (with_last_access (at_factor 1 place)) t (behind_leads t) new → built next ≡ new
scalar_equal place name t next new e w =
    behind_equal (its_product place) (product_with place (Read (record { name = name; vars = [] }))) t next new
    (with_last_access (at_factor 1 place)) e (sym (access_built place (record { name = name; vars = [] }))) w

name_equal : (place : FactorPlace) (name : Name) → built (Named (Right place) name) ≡ with_read (at_factor 0 place)
name_equal place name =
    λ i. record {
      reads = (let h : reads_to place + 1 ≡ (reads_to place + 0) + 1 = omega arith in h) i;
      ends = ends_to place;
      sums = sums_to place;
      outer = frames_of place;
      frame =
          frame_of place;
      result = None;
    }

abbrev Equal : State → Type 0
Equal s = (t : Symbol) (next : State) (new : Builder) → step s t ≡ Some next → BuildsAs s t next new

left_named_equal : (name : Name) (b : Bool) (next : State) (new : Builder) → left_named name b ≡ Some next
    → Builds (built Start) (show Start).stand (Lexeme (NameToken name)) (left_named_leads b) new → built next ≡ new
left_named_equal name true next new e w = nothing_leads next e
left_named_equal name false next new e w = from_equal (Named Left name) next new e (sym w)

start_equal : Equal Start
start_equal (Lexeme (NameToken name)) next new e w = left_named_equal name (is_sum name) next new e w
start_equal _ next new e w = nothing_leads next e

left_name_equal : (name : Name) → Equal (Named Left name)
left_name_equal name (Lexeme (MarkToken Open)) next new e w = from_equal (WantsVariable Left name []) next new e (sym w)
left_name_equal name (Lexeme (MarkToken Equals)) next new e w =
    from_equal (behind_mark (record { name = name; vars = [] }) false) next new e (sym w)
left_name_equal name (Lexeme (MarkToken PlusEquals)) next new e w =
    from_equal (behind_mark (record { name = name; vars = [] }) true) next new e (sym w)
left_name_equal name _ next new e w = nothing_leads next e

right_name_equal : (place : FactorPlace) (name : Name) → Equal (Named (Right place) name)
right_name_equal place name (Lexeme (MarkToken Open)) next new e w = from_equal (WantsVariable (Right place) name []) next new e (sym w)
right_name_equal place name (Lexeme (MarkToken Times)) next new e w = scalar_equal place name (Lexeme (MarkToken Times)) next new e w
right_name_equal place name (Lexeme (MarkToken Plus)) next new e w = scalar_equal place name (Lexeme (MarkToken Plus)) next new e w
right_name_equal place name (Lexeme (MarkToken Minus)) next new e w = scalar_equal place name (Lexeme (MarkToken Minus)) next new e w
right_name_equal place name (Lexeme (MarkToken Close)) next new e w = scalar_equal place name (Lexeme (MarkToken Close)) next new e w
right_name_equal place name End next new e w = scalar_equal place name End next new e w
right_name_equal place name _ next new e w = nothing_leads next e

wants_variable_equal : (side : Side) (name : Name) (vars : List Name) → Equal (WantsVariable side name vars)
wants_variable_equal Left name vars (Lexeme (NameToken var)) next new e w =
    from_equal (BehindVariable Left name vars var) next new e (sym w)
wants_variable_equal (Right place) name vars (Lexeme (NameToken var)) next new e w =
    from_equal (BehindVariable (Right place) name vars var) next new e (sym w)
wants_variable_equal Left name vars _ next new e w = nothing_leads next e
wants_variable_equal (Right place) name vars _ next new e w = nothing_leads next e

variable_equal : (side : Side) (name : Name) (vars : List Name) (var : Name) → Equal (BehindVariable side name vars var)
variable_equal Left name vars var (Lexeme (MarkToken Comma)) next new e w =
    from_equal (WantsVariable Left name (vars ++ (var ∷ []))) next new e (sym w)
variable_equal Left name vars var (Lexeme (MarkToken Close)) next new e w =
    from_equal (BehindLeft (record { name = name; vars = vars ++ (var ∷ []) })) next new e (sym w)
variable_equal Left name vars var _ next new e w = nothing_leads next e
variable_equal (Right place) name vars var (Lexeme (MarkToken Comma)) next new e w =
    from_equal (WantsVariable (Right place) name (vars ++ (var ∷ []))) next new e (sym w)
variable_equal (Right place) name vars var (Lexeme (MarkToken Close)) next new e w =
    from_equal (behind_factor place (Read (record { name = name; vars = vars ++ (var ∷ []) }))) next new e
    (access_built place (record { name = name; vars = vars ++ (var ∷ []) }) ∙ sym w)
variable_equal (Right place) name vars var _ next new e w = nothing_leads next e

left_equal : (access : WrittenAccess) → Equal (BehindLeft access)
left_equal access (Lexeme (MarkToken Equals)) next new e w =
    from_equal (behind_mark access false) next new e (sym w)
left_equal access (Lexeme (MarkToken PlusEquals)) next new e w =
    from_equal (behind_mark access true) next new e (sym w)
left_equal access _ next new e w = nothing_leads next e

factor_named_equal : (place : FactorPlace) (name : Name) (b : Bool) (next : State) (new : Builder)
    → ◌≡◌ {A = Option State} (Some (factor_named place name b)) (Some next)
    → Builds (at_factor 0 place) (show (WantsFactor place)).stand (Lexeme (NameToken name)) (factor_named_leads b) new → built next ≡ new
factor_named_equal place name true next new e w = from_equal (NamedSum place) next new e (sym w)
factor_named_equal place name false next new e w = from_equal (Named (Right place) name) next new e (name_equal place name ∙ sym w)

wants_equal : (place : FactorPlace) → Equal (WantsFactor place)
wants_equal place (Lexeme (NumberToken digits)) next new e w =
    from_equal (behind_factor place (Digits digits)) next new e (plain_built place (Digits digits) refl refl ∙ sym w)
wants_equal place (Lexeme (NameToken name)) next new e w = factor_named_equal place name (is_sum name) next new e w
wants_equal place (Lexeme (MarkToken Open)) next new e w =
    from_equal (WantsFactor (FirstFactor (First (InBrackets place)))) next new e (sym w)
wants_equal place (Lexeme (MarkToken Minus)) next new e w = from_equal (WantsFactor (BehindSign place)) next new e (sym w)
wants_equal place _ next new e w = nothing_leads next e

named_sum_equal : (place : FactorPlace) → Equal (NamedSum place)
named_sum_equal place (Lexeme (MarkToken Open)) next new e w = from_equal (WantsBound place) next new e (sym w)
named_sum_equal place _ next new e w = nothing_leads next e

wants_bound_equal : (place : FactorPlace) → Equal (WantsBound place)
wants_bound_equal place (Lexeme (NameToken var)) next new e w = from_equal (BehindBound place var) next new e (sym w)
wants_bound_equal place _ next new e w = nothing_leads next e

bound_equal : (place : FactorPlace) (var : Name) → Equal (BehindBound place var)
bound_equal place var (Lexeme (MarkToken Comma)) next new e w =
    from_equal (WantsFactor (FirstFactor (First (InSum place var)))) next new e (sym w)
bound_equal place var _ next new e w = nothing_leads next e

behind_factor_equal : (place : ProductPlace) (p : Product) → Equal (Behind place p)
behind_factor_equal place p (Lexeme (MarkToken Times)) next new e w =
    behind_equal place p (Lexeme (MarkToken Times)) next new (built (Behind place p)) e refl w
behind_factor_equal place p (Lexeme (MarkToken Plus)) next new e w =
    behind_equal place p (Lexeme (MarkToken Plus)) next new (built (Behind place p)) e refl w
behind_factor_equal place p (Lexeme (MarkToken Minus)) next new e w =
    behind_equal place p (Lexeme (MarkToken Minus)) next new (built (Behind place p)) e refl w
behind_factor_equal place p (Lexeme (MarkToken Close)) next new e w =
    behind_equal place p (Lexeme (MarkToken Close)) next new (built (Behind place p)) e refl w
behind_factor_equal place p End next new e w = behind_equal place p End next new (built (Behind place p)) e refl w
behind_factor_equal place p _ next new e w = nothing_leads next e

pub builds : (s : State) → Equal s
builds Start t next new e w = start_equal t next new e w
builds (Named Left name) t next new e w = left_name_equal name t next new e w
builds (Named (Right place) name) t next new e w = right_name_equal place name t next new e w
builds (WantsVariable side name vars) t next new e w = wants_variable_equal side name vars t next new e w
builds (BehindVariable side name vars var) t next new e w = variable_equal side name vars var t next new e w
builds (BehindLeft access) t next new e w = left_equal access t next new e w
builds (WantsFactor place) t next new e w = wants_equal place t next new e w
builds (NamedSum place) t next new e w = named_sum_equal place t next new e w
builds (WantsBound place) t next new e w = wants_bound_equal place t next new e w
builds (BehindBound place var) t next new e w = bound_equal place var t next new e w
builds (Behind place p) t next new e w = behind_factor_equal place p t next new e w
builds (Ended tree) t next new e w = nothing_leads next e
