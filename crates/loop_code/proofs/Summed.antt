-- Loops are told to add some row exactly where they do, so a sum is told to be present where it is.
use Rattle.std.specs.Prelude.{◌≡◌, ℕ, zero, suc, Bool, true, false, ◌||◌, ◌&&◌, List, [], ◌∷◌, ◌++◌, map, Option, Some, None, refl}
use Rattle.std.proofs.Common.{◌∙◌, sym, ap}
use Rattle.numbers.specs.Arithmetic.{Arithmetic}
use Rattle.level_core.specs.declared.span.Span.{Span}
use Rattle.tensor_map.specs.Entries.{Entry}
use Rattle.concrete_notation.specs.Contributions.{rows_below}
use Rattle.index_notation.specs.Operators.{is_there}
use Rattle.index_notation.specs.declared.operator.Operator.{Operator}
use Rattle.index_notation.specs.declared.operator.Operator.TheVariants as op
use Rattle.index_notation.specs.declared.syntax.Expr.{Expr, Num, Access as AccessOf, Binary', Neg', Row_of-Expr, end_of-Expr, more_of-Expr}
use Rattle.expr_terms.specs.Value.{minus}
use Rattle.loop_code.specs.Alike.{SeeksOthers, SeeksOthers_in}
use Rattle.loop_code.specs.Loops.{Layout, Stored, Env, LoopCode, Add, Both', Loop', Sum', Row_of-LoopCode, end_of-LoopCode}
use Rattle.loop_code.specs.Loops.{more_of-LoopCode, access_values, at_cursor, contributions, contributions_in, moved, row_of}
use Rattle.loop_code.specs.Loops.{sum_of, word_of}
use Rattle.loop_code.specs.Parts.{here, is_some, remains, remains_in}
use Rattle.loop_code.specs.PresentValues.{both, either, each, present_applied, present_value, present_value_in, signed}
use Rattle.loop_code.specs.Turns.{adds_some, adds_some_in, some_below, some_if}
use Rattle.loop_code.proofs.Alike.{alike_self, alike_some_in, alike_sum, some_same}

-- whether there is a row, and a value
abbrev pub has_rows : List Entry → Bool
has_rows [] = false
has_rows (row ∷ rows) = true

abbrev has_value : Option ℕ → Bool
has_value None = false
has_value (Some value) = true

rows_both : (rows more : List Entry) → has_rows (rows ++ more) ≡ (has_rows rows || has_rows more)
rows_both [] more = refl
rows_both (row ∷ rows) more = refl

rows_each : (n : ℕ) (f : ℕ → List Entry) → has_rows (rows_below n f) ≡ some_below n (λ x. has_rows (f x))
rows_each zero f = refl
rows_each (suc n) f = rows_both (rows_below n f) (f n) ∙ ap (λ b. b || has_rows (f n)) (rows_each n f)

sum_there : (a : Arithmetic) (rows : List Entry) → is_some (sum_of a rows) ≡ has_rows rows
sum_there a [] = refl
sum_there a (row ∷ rows) = refl

told_there : (b : Bool) → is_some (some_if b) ≡ b
told_there true = refl
told_there false = refl

-- a part of an expression remains where it has a value
module _ (a : Arithmetic) where
  each_there : (f : ℕ → ℕ) (x : Option ℕ) → has_value (each f x) ≡ has_value x
  each_there f None = refl
  each_there f (Some x) = refl

  either_there : (f : ℕ → ℕ → ℕ) (x y : Option ℕ) → has_value (either f x y) ≡ (has_value x || has_value y)
  either_there f None y = refl
  either_there f (Some x) None = refl
  either_there f (Some x) (Some y) = refl

  both_there : (f : ℕ → ℕ → ℕ) (x y : Option ℕ) → has_value (both f x y) ≡ (has_value x && has_value y)
  both_there f None y = refl
  both_there f (Some x) None = refl
  both_there f (Some x) (Some y) = refl

  applied_there : (o : Operator) (x y : Option ℕ) → has_value (present_applied a o x y) ≡ is_there o (has_value x) (has_value y)
  applied_there op.Add x y = either_there a.plus x y
  applied_there op.Sub x y = either_there a.plus x (each (minus a) y) ∙ ap (λ b. has_value x || b) (each_there (minus a) y)
  applied_there op.Mul x y = both_there a.times x y

  module _ (values : ℕ → Option ℕ) (P : ℕ → Bool) (told : (k : ℕ) → has_value (values k) ≡ P k) where
    mutual
      value_there : (e : Expr) → has_value (present_value a values e) ≡ remains P e
      value_there (Num n) = refl
      value_there (AccessOf k) = told k
      value_there (Binary' o p e q f) =
          applied_there o (present_value_in a values e) (present_value_in a values f)
          ∙ (λ i. is_there o (value_there_in e i) (value_there_in f i))
      value_there (Neg' p e) = each_there (minus a) (present_value_in a values e) ∙ value_there_in e

      value_there_in : {m : _} (e : Row_of-Expr m) → has_value (present_value_in a values e) ≡ remains_in P e
      value_there_in end_of-Expr = refl
      value_there_in (more_of-Expr e rest) = value_there e

  signed_there : (b : Bool) (x : Option ℕ) → has_value (signed a b x) ≡ has_value x
  signed_there true x = each_there (minus a) x
  signed_there false x = refl

row_there : (coords : List ℕ) (x : Option ℕ) → has_rows (row_of coords x) ≡ has_value x
row_there coords None = refl
row_there coords (Some x) = refl

word_there : (word : ℕ → ℕ) (o : Option Span) → has_value (word_of word o) ≡ is_some o
word_there word None = refl
word_there word (Some p) = refl

module _ (a : Arithmetic) (layout : Layout) (stored : Stored) (ranges : ℕ → ℕ) (sums : ℕ → Bool) where
  mutual
    -- loops add some row exactly where they are told to, whatever the target
    pub rows_told : (target : List ℕ) (loops : LoopCode) (env : Env) → SeeksOthers sums loops
        → has_rows (contributions a layout stored ranges target loops env) ≡ adds_some layout stored ranges loops env
    rows_told target (Loop' v seeks p body) env none =
        rows_each (ranges v) (λ x. contributions_in a layout stored ranges target body (moved layout stored v seeks env x))
        ∙ some_same (ranges v)
        (λ x. has_rows (contributions_in a layout stored ranges target body (moved layout stored v seeks env x)))
        (λ x. adds_some_in layout stored ranges body (moved layout stored v seeks env x))
        (λ x. rows_told_in target body (moved layout stored v seeks env x) none.1)
    rows_told target (Both' p f q g) env none =
        rows_both (contributions_in a layout stored ranges target f env) (contributions_in a layout stored ranges target g env)
        ∙ (λ i. rows_told_in target f env none.0 i || rows_told_in target g env none.1 i)
    rows_told target (Add t) env none =
        row_there (map env.point target) (signed a t.negated (present_value a (access_values stored env) t.expr))
        ∙ signed_there a t.negated (present_value a (access_values stored env) t.expr)
        ∙ value_there a (access_values stored env) (here env) (λ k. word_there (stored.word k) (env.cursor k)) t.expr
    rows_told target (Sum' k p inside q body) env none =
        let o = sum_of a (contributions_in a layout stored ranges [] inside env) in
        let u = some_if (adds_some_in layout stored ranges inside env) in
        rows_told_in target body (at_cursor env k o) none.2
        ∙ alike_some_in sums layout stored ranges body (at_cursor env k o) (at_cursor env k u) none.2
        (alike_sum sums env env k o u (alike_self sums env) none.0
        (sum_there a (contributions_in a layout stored ranges [] inside env) ∙ rows_told_in [] inside env none.1
        ∙ sym (told_there (adds_some_in layout stored ranges inside env))))

    pub rows_told_in : {m : _} (target : List ℕ) (row : Row_of-LoopCode m) (env : Env) → SeeksOthers_in sums row
        → has_rows (contributions_in a layout stored ranges target row env) ≡ adds_some_in layout stored ranges row env
    rows_told_in target end_of-LoopCode env none = refl
    rows_told_in target (more_of-LoopCode c rest) env none = rows_told target c env none
