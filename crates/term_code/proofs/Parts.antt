-- What is so of the parts of an expression.
use Rattle.std.specs.Prelude.{◌≡◌, ℕ, Bool, true, Option, refl}
use denote.Hole.Carrier.{hidden}
use Rattle.std.proofs.Common.{◌∙◌, sym, ap, subst}
use Rattle.index_notation.specs.declared.operator.Operator.{Operator}
use Rattle.index_notation.specs.declared.syntax.Expr.{Expr, Num, Access, Binary, Neg, Binary', Neg', Row_of-Expr, end_of-Expr}
use Rattle.index_notation.specs.declared.syntax.Expr.{more_of-Expr}
use Rattle.index_notation.specs.declared.syntax.Expr.TheBlock.{hidden-the_row-Expr-0}
use Rattle.index_notation.specs.Operators.{is_there}
use Rattle.numbers.specs.Arithmetic.{Arithmetic}
use Rattle.expr_terms.specs.Value.{minus}
use Rattle.loop_code.specs.Places.{EachAccess}
use Rattle.loop_code.specs.PresentValues.{present_value, present_applied, each}
use Rattle.loop_code.specs.Parts.{remains, remains_in, is_full, is_full_in}

module _ (P : ℕ → Type 0) where
  access_in : (k : ℕ) → EachAccess P (Access k) → P k
  access_in k h = h

  in_binary : (o : Operator) (e f : Expr) → EachAccess P (Binary o e f) → EachAccess P e × EachAccess P f
  unfolding hidden-the_row-Expr-0 hidden
  in_binary o e f h = h

  in_neg : (e : Expr) → EachAccess P (Neg e) → EachAccess P e
  unfolding hidden-the_row-Expr-0 hidden
  in_neg e h = h

  -- the parts that were read of a whole
  pub read_access : (whole : Expr) (k : ℕ) → whole ≡ Access k → EachAccess P whole → P k
  read_access whole k is h = access_in k (subst (EachAccess P) is h)

  pub first_side : (whole : Expr) (o : Operator) (e f e' : Expr) → whole ≡ Binary o e f → e' ≡ e → EachAccess P whole → EachAccess P e'
  first_side whole o e f e' is part h = subst (EachAccess P) (sym part) (in_binary o e f (subst (EachAccess P) is h)).0

  pub second_side : (whole : Expr) (o : Operator) (e f f' : Expr) → whole ≡ Binary o e f → f' ≡ f → EachAccess P whole → EachAccess P f'
  second_side whole o e f f' is part h = subst (EachAccess P) (sym part) (in_binary o e f (subst (EachAccess P) is h)).1

  pub negated_part : (whole e e' : Expr) → whole ≡ Neg e → e' ≡ e → EachAccess P whole → EachAccess P e'
  negated_part whole e e' is part h = subst (EachAccess P) (sym part) (in_neg e (subst (EachAccess P) is h))

module _ (F P : ℕ → Bool) where
  pub full_binary : (o : Operator) (e f : Expr) → is_full F P (Binary o e f) ≡ is_there o (is_full F P e) (is_full F P f)
  unfolding hidden-the_row-Expr-0 hidden
  full_binary o e f = refl

  pub full_neg : (e : Expr) → is_full F P (Neg e) ≡ is_full F P e
  unfolding hidden-the_row-Expr-0 hidden
  full_neg e = refl

abbrev every : ℕ → Bool
every k = true

-- where all accesses are full, each part that remains is
mutual
  pub all_full : (P : ℕ → Bool) (e : Expr) → is_full every P e ≡ remains P e
  all_full P (Num n) = refl
  all_full P (Access k) = refl
  all_full P (Binary' o p e q f) =
      ap (λ b. is_there o b (is_full_in every P f)) (all_full_in P e) ∙ ap (is_there o (remains_in P e)) (all_full_in P f)
  all_full P (Neg' p e) = all_full_in P e

  all_full_in : {m : _} (P : ℕ → Bool) (e : Row_of-Expr m) → is_full_in every P e ≡ remains_in P e
  all_full_in P end_of-Expr = refl
  all_full_in P (more_of-Expr e rest) = all_full P e

module _ (a : Arithmetic) (values : ℕ → Option ℕ) where
  pub value_binary : (o : Operator) (e f : Expr)
      → present_value a values (Binary o e f) ≡ present_applied a o (present_value a values e) (present_value a values f)
  unfolding hidden-the_row-Expr-0 hidden
  value_binary o e f = refl

  pub value_neg : (e : Expr) → present_value a values (Neg e) ≡ each (minus a) (present_value a values e)
  unfolding hidden-the_row-Expr-0 hidden
  value_neg e = refl
