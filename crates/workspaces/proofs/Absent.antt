-- An expression that is absent at a point has the value zero there.
use Rattle.std.specs.Prelude.{◌≡◌, ℕ, Bool, true, false, ◌||◌, ◌&&◌, List, [], ◌∷◌, map, Option, None, Some, slice_get, ◌⊎◌, refl}
use Rattle.std.specs.Cmp.Lexicographic.{bytes_decides}
use Rattle.std.proofs.Math.Bool.{or-true}
use Rattle.std.proofs.Common.{◌∙◌, sym, ap, inl, inr}
use Rattle.numbers.specs.Arithmetic.{Arithmetic, Laws}
use Rattle.tensor_map.specs.Entries.{Entry, is_at, Listed}
use Rattle.tensor_map.specs.Laws.{same, other}
use Rattle.tensor_map.proofs.Lemmas.{tested}
use Rattle.index_notation.specs.declared.operator.Operator.{Operator}
use Rattle.index_notation.specs.declared.operator.Operator.TheVariants as op
use Rattle.index_notation.specs.declared.syntax.Access.{Access}
use Rattle.index_notation.specs.declared.syntax.Expr.{Expr, Num, Access as AccessOf, Binary', Neg', Row_of-Expr, end_of-Expr, more_of-Expr}
use Rattle.index_notation.specs.Operators.{is_there}
use Rattle.expr_terms.specs.Value.{access_value_or_zero, applied, value_of, value_of_in, minus}
use Rattle.expr_terms.proofs.Meanings.{neither}
use Rattle.workspaces.specs.Presence.{access_is_present, is_listed, is_present, is_present_in}
use Rattle.workspaces.specs.PresenceLaws.{AreZeroElsewhere}

not_both : (x y : Bool) → (x && y) ≡ false → (x ≡ false) ⊎ (y ≡ false)
not_both true y h = inr h
not_both false y h = inl refl

-- some entry has the coordinates, by the test and by the relation
pub listed_tells : (entries : List Entry) (coords : List ℕ) → is_listed entries coords ≡ true → Listed entries coords
listed_tells [] coords h = cc
listed_tells (entry ∷ entries) coords h = elim (tested entry.coords coords) [
  | same is t ↦ inl is
  | other isnt t ↦ inr (listed_tells entries coords (sym (ap (λ b. b || is_listed entries coords) t) ∙ h))
]

pub tells_listed : (entries : List Entry) (coords : List ℕ) → Listed entries coords → is_listed entries coords ≡ true
tells_listed [] coords listed = absurd listed
tells_listed (entry ∷ entries) coords (inl here) = ap (λ b. b || is_listed entries coords) ((bytes_decides entry.coords coords).1 here)
tells_listed (entry ∷ entries) coords (inr there) = ap (λ b. is_at coords entry || b) (tells_listed entries coords there)
    ∙ or-true (is_at coords entry)

module _ (a : Arithmetic) (laws : Laws a) (paths : ℕ → List ℕ → Bool) (values : ℕ → List ℕ → ℕ)
    (zero_elsewhere : AreZeroElsewhere a paths values) (accesses : List Access) (point : ℕ → ℕ) where
  access_absent : (o : Option Access) → access_is_present paths point o ≡ false → access_value_or_zero a values point o ≡ a.zero
  access_absent None h = refl
  access_absent (Some access) h = zero_elsewhere access.tensor (map point access.vars) h

  zeros_add : (x y : ℕ) → x ≡ a.zero → y ≡ a.zero → a.plus x y ≡ a.zero
  zeros_add x y first_is none = ap (λ v. a.plus v y) first_is ∙ ap (a.plus a.zero) none ∙ laws.plus_zero a.zero laws.zero_fits

  minus_zero : (x : ℕ) → x ≡ a.zero → minus a x ≡ a.zero
  minus_zero x first_is = ap (minus a) first_is ∙ laws.times_zero a.minus_one

  zero_times : (x y : ℕ) → x ≡ a.zero → a.times x y ≡ a.zero
  zero_times x y first_is = ap (λ v. a.times v y) first_is ∙ laws.times_comm a.zero y ∙ laws.times_zero y

  times_none : (x y : ℕ) → y ≡ a.zero → a.times x y ≡ a.zero
  times_none x y first_is = ap (a.times x) first_is ∙ laws.times_zero x

  zero_applied : (o : Operator) (b c : Bool) (x y : ℕ) → is_there o b c ≡ false → (b ≡ false → x ≡ a.zero) → (c ≡ false → y ≡ a.zero)
      → applied a o x y ≡ a.zero
  zero_applied op.Add b c x y h f g = let none = neither b c h in zeros_add x y (f none.0) (g none.1)
  zero_applied op.Sub b c x y h f g = let none = neither b c h in zeros_add x (minus a y) (f none.0) (minus_zero y (g none.1))
  zero_applied op.Mul b c x y h f g = elim (not_both b c h) [
    | inl first ↦ zero_times x y (f first)
    | inr second ↦ times_none x y (g second)
  ]

  mutual
    pub absent_is_zero : (e : Expr) → is_present paths accesses point e ≡ false → value_of a values accesses point e ≡ a.zero
    absent_is_zero (Num n) h = cc
    absent_is_zero (AccessOf k) h = access_absent (slice_get accesses k) h
    absent_is_zero (Binary' o p e q f) h =
        zero_applied o (is_present_in paths accesses point e) (is_present_in paths accesses point f)
        (value_of_in a values accesses point e) (value_of_in a values accesses point f) h (absent_inside e) (absent_inside f)
    absent_is_zero (Neg' p e) h = minus_zero (value_of_in a values accesses point e) (absent_inside e h)

    absent_inside : {m : _} (e : Row_of-Expr m) → is_present_in paths accesses point e ≡ false
        → value_of_in a values accesses point e ≡ a.zero
    absent_inside end_of-Expr h = refl
    absent_inside (more_of-Expr e rest) h = absent_is_zero e h
