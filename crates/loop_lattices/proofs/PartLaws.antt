-- What remains of an expression, by the points of its lattice.
use Rattle.std.specs.Prelude.{◌≡◌, ◌↔◌, ℕ, not, Bool, true, false, ◌||◌, ◌&&◌, if◌then◌else◌, List, Option, Some, None, refl}
use Rattle.std.proofs.Common.{◌∙◌, ap, sym, subst}
use Rattle.index_notation.specs.declared.operator.Operator.{Operator}
use Rattle.index_notation.specs.declared.operator.Operator.TheVariants as op
use Rattle.index_notation.specs.declared.syntax.Expr.{Expr, Num, Access, Binary', Neg', Row_of-Expr, end_of-Expr, more_of-Expr}
use Rattle.index_notation.specs.Operators.{is_there}
use Rattle.loop_code.specs.Parts.{is_full, remains, remains_in}
use Rattle.loop_code.proofs.PresentParts.{full_remains}
use Rattle.merge_lattice.specs.declared.lattices.Point.{Point}
use Rattle.merge_lattice.specs.Lattices.{Has, IsLattice, Within}
use Rattle.merge_lattice.specs.Parts.{joined, left_of, negated, part, part_in, Remains}

abbrev pub is_left : Option Expr → Bool
is_left None = false
is_left (Some e) = true

joined_left : (o : Operator) (p q : Option Expr) → is_there o (is_left p) (is_left q) ≡ is_left (joined o p q)
joined_left op.Add None None = refl
joined_left op.Add None (Some f) = refl
joined_left op.Add (Some e) None = refl
joined_left op.Add (Some e) (Some f) = refl
joined_left op.Sub None None = refl
joined_left op.Sub None (Some f) = refl
joined_left op.Sub (Some e) None = refl
joined_left op.Sub (Some e) (Some f) = refl
joined_left op.Mul None None = refl
joined_left op.Mul None (Some f) = refl
joined_left op.Mul (Some e) None = refl
joined_left op.Mul (Some e) (Some f) = refl

negated_left : (p : Option Expr) → is_left p ≡ is_left (negated p)
negated_left None = refl
negated_left (Some e) = refl

access_left : (b : Bool) (e : Expr) → b ≡ is_left (if b then Some e else None)
access_left true e = refl
access_left false e = refl

mutual
  -- a part remains exactly where something is left
  pub remains_left : (P : ℕ → Bool) (e : Expr) → remains P e ≡ is_left (part P e)
  remains_left P (Num n) = refl
  remains_left P (Access k) = access_left (P k) (Access k)
  remains_left P (Binary' o p e q f) =
      ap (λ b. is_there o b (remains_in P f)) (remains_left_in P e) ∙ ap (is_there o (is_left (part_in P e))) (remains_left_in P f)
      ∙ joined_left o (part_in P e) (part_in P f)
  remains_left P (Neg' p e) = remains_left_in P e ∙ negated_left (part_in P e)

  pub remains_left_in : {m : _} (P : ℕ → Bool) (row : Row_of-Expr m) → remains_in P row ≡ is_left (part_in P row)
  remains_left_in P end_of-Expr = refl
  remains_left_in P (more_of-Expr e rest) = remains_left P e

left_remains : (p : Option Expr) → is_left p ≡ true → Remains p
left_remains None h = absurd (cc h)
left_remains (Some e) h = tt

remains_is_left : (p : Option Expr) → Remains p → is_left p ≡ true
remains_is_left None h = absurd h
remains_is_left (Some e) h = refl

-- where each access that isn't gone through is present, those that are there are those that are present
pub left_at : (b c : Bool) → (b ≡ false → c ≡ true) → (not b || c) ≡ c
left_at true c h = refl
left_at false c h = sym (h refl)

pub remains_by_points : (iterates : ℕ → Bool) (e : Expr) (points : List Point) → IsLattice iterates e points → (present : ℕ → Bool)
    → ((k : ℕ) → iterates k ≡ false → present k ≡ true) → ((remains present e ≡ true) ↔ Has points (λ p. Within p present))
remains_by_points iterates e points lattice present others =
    let same : left_of iterates present ≡ present = λ i k. left_at (iterates k) (present k) (others k) i in (
      λ is.
          let left = subst (λ there. Remains (part there e)) (sym same)
          (left_remains (part present e) (sym (remains_left present e) ∙ is)) in
          let has = lattice.complete present left in
          (has.0, has.1, has.2, has.3.within),
      λ has. remains_left present e
          ∙ remains_is_left (part present e) (subst (λ there. Remains (part there e)) same (lattice.sound present has)),
    )

pub full_by_points : (iterates : ℕ → Bool) (e : Expr) (points : List Point) → IsLattice iterates e points → (other present : ℕ → Bool)
    → ((k : ℕ) → iterates k ≡ false → (other k && present k) ≡ true)
    → ((is_full other present e ≡ true) ↔ Has points (λ p. Within p (λ k. other k && present k)))
full_by_points iterates e points lattice other present others =
    subst (λ b. (b ≡ true) ↔ Has points (λ p. Within p (λ k. other k && present k)))
    (full_remains other present (λ k. other k && present k) (λ k. refl) e)
    (remains_by_points iterates e points lattice (λ k. other k && present k) others)
