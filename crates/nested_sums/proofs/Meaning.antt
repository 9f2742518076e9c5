-- What expressions mean, whatever their values are: the same laws tell values and presence.
use Rattle.std.specs.Prelude.{◌≡◌, ℕ, ◌<◌, ◌^◌, true, ◌||◌, List, slice_get, refl}
use Rattle.std.proofs.Common.{◌∙◌, ap}
use Rattle.std.proofs.Math.Bool.{or-true}
use denote.Hole.Carrier.{hidden}
use Rattle.numbers.specs.Arithmetic.{Arithmetic, Laws}
use Rattle.index_notation.specs.declared.operator.Operator.{Operator}
use Rattle.index_notation.specs.declared.operator.Operator.TheVariants as op
use Rattle.index_notation.specs.declared.syntax.Access.{Access}
use Rattle.index_notation.specs.declared.syntax.Expr.{Expr, Num, Access as AccessOf, Binary, Binary', Neg', Row_of-Expr, end_of-Expr}
use Rattle.index_notation.specs.declared.syntax.Expr.{more_of-Expr}
use Rattle.index_notation.specs.declared.syntax.Expr.TheBlock.{hidden-the_row-Expr-0}
use Rattle.expr_terms.specs.Terms.{is_at_access, stands_in, stands_inside}
use Rattle.expr_terms.specs.Value.{applied, minus}

-- what numbers and leaves mean at each point, by an arithmetic: words, of which each leaf's depends on its variables alone
pub record Meaning : Type 0 where
  pub a : Arithmetic
  pub laws : Laws a
  pub num : ℕ → ℕ
  pub num_fits : (n : ℕ) → num n < 2 ^ 64
  pub leaf : (ℕ → ℕ) → ℕ → ℕ
  pub leaf_fits : (p : ℕ → ℕ) (k : ℕ) → leaf p k < 2 ^ 64
  pub accesses : List Access
  pub local : (k : ℕ) (p q : ℕ → ℕ) → ((v : ℕ) → is_at_access v (slice_get accesses k) ≡ true → p v ≡ q v) → leaf p k ≡ leaf q k
  pub ranges : ℕ → ℕ

abbrev mutual
  pub meaning : Meaning → (ℕ → ℕ) → Expr → ℕ
  meaning m p (Num n) = m.num n
  meaning m p (AccessOf k) = m.leaf p k
  meaning m p (Binary' o r e q f) = applied m.a o (meaning_in m p e) (meaning_in m p f)
  meaning m p (Neg' r e) = minus m.a (meaning_in m p e)

  pub meaning_in : {r : _} → Meaning → (ℕ → ℕ) → Row_of-Expr r → ℕ
  meaning_in m p end_of-Expr = m.a.zero
  meaning_in m p (more_of-Expr e rest) = meaning m p e

pub meaning_binary : (m : Meaning) (p : ℕ → ℕ) (o : Operator) (e f : Expr)
    → meaning m p (Binary o e f) ≡ applied m.a o (meaning m p e) (meaning m p f)
unfolding hidden-the_row-Expr-0 hidden
meaning_binary m p o e f = refl

module _ (m : Meaning) where
  applied_fits : (o : Operator) (x y : ℕ) → applied m.a o x y < 2 ^ 64
  applied_fits op.Add x y = m.laws.plus_fits x y
  applied_fits op.Sub x y = m.laws.plus_fits x (minus m.a y)
  applied_fits op.Mul x y = m.laws.times_fits x y

  -- it is a word
  pub meaning_fits : (p : ℕ → ℕ) (e : Expr) → meaning m p e < 2 ^ 64
  meaning_fits p (Num n) = m.num_fits n
  meaning_fits p (AccessOf k) = m.leaf_fits p k
  meaning_fits p (Binary' o r e q f) = applied_fits o (meaning_in m p e) (meaning_in m p f)
  meaning_fits p (Neg' r e) = m.laws.times_fits m.a.minus_one (meaning_in m p e)

  -- and depends on the variables that stand in the expression alone
  mutual
    pub meaning_local : (e : Expr) (p q : ℕ → ℕ) → ((v : ℕ) → stands_in m.accesses v e ≡ true → p v ≡ q v)
        → meaning m p e ≡ meaning m q e
    meaning_local (Num n) p q same = refl
    meaning_local (AccessOf k) p q same = m.local k p q same
    meaning_local (Binary' o r e t f) p q same =
        ap (λ x. applied m.a o x (meaning_in m p f))
        (meaning_in_local e p q (λ v h. same v (ap (λ b. b || stands_inside m.accesses v f) h)))
        ∙ ap (applied m.a o (meaning_in m q e))
        (meaning_in_local f p q (λ v h. same v (ap (λ b. stands_inside m.accesses v e || b) h ∙ or-true (stands_inside m.accesses v e))))
    meaning_local (Neg' r e) p q same = ap (minus m.a) (meaning_in_local e p q same)

    meaning_in_local : {r : _} (e : Row_of-Expr r) (p q : ℕ → ℕ) → ((v : ℕ) → stands_inside m.accesses v e ≡ true → p v ≡ q v)
        → meaning_in m p e ≡ meaning_in m q e
    meaning_in_local end_of-Expr p q same = refl
    meaning_in_local (more_of-Expr e rest) p q same = meaning_local e p q same
