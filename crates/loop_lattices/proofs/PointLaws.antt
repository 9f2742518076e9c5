-- Which accesses stand in the part that remains of an expression, by the points of its lattice.
use Rattle.std.specs.Prelude.{◌≡◌, ◌↔◌, ℕ, nat_eq, not, Bool, true, false, ◌||◌, ◌&&◌, if◌then◌else◌, List, [], ◌∷◌, Option, Some, None}
use Rattle.std.specs.Prelude.{refl}
use Rattle.std.specs.List.{list_any}
use Rattle.std.proofs.Common.{◌∙◌, ap, sym, subst, arith}
use Rattle.std.proofs.lemmas.Bool.Decides.{nat_tests}
use Rattle.lists.specs.Each.{Each}
use Rattle.lists.proofs.Each.{each_from, each_get}
use Rattle.expr_terms.specs.Terms.{contains}
use Rattle.index_notation.specs.declared.operator.Operator.{Operator}
use Rattle.index_notation.specs.declared.operator.Operator.TheVariants as op
use Rattle.index_notation.specs.declared.syntax.Expr.{Expr, Num, Access, Binary', Neg', Row_of-Expr, end_of-Expr, more_of-Expr}
use Rattle.index_notation.specs.Operators.{is_there}
use Rattle.loop_code.specs.Parts.{is_full, is_live, is_live_in, remains, remains_in}
use Rattle.loop_code.proofs.PresentParts.{full_remains}
use Rattle.merge_lattice.specs.declared.lattices.Point.{Point}
use Rattle.merge_lattice.specs.Lattices.{Has, IsLattice, Within}
use Rattle.merge_lattice.specs.Parts.{joined, left_of, part, part_in, uses, Remains}
use Rattle.merge_lattice.proofs.LeftParts.{used, uses_binary, used_negated, uses_neg, used_part, more_part, same_part}
use Rattle.loop_lattices.proofs.PartLaws.{is_left, remains_left, remains_left_in, left_at}

-- what stands in a whole whose sides are left, or not
used_joined_is : (o : Operator) (p q : Option Expr) (k : ℕ)
    → (is_there o (is_left p) (is_left q) && (used p k || used q k)) ≡ used (joined o p q) k
used_joined_is op.Add None None k = refl
used_joined_is op.Add None (Some f) k = refl
used_joined_is op.Add (Some e) None k = or_none (uses e k)
  where
    or_none : (b : Bool) → (b || false) ≡ b
    or_none true = refl
    or_none false = refl
used_joined_is op.Add (Some e) (Some f) k = sym (uses_binary op.Add e f k)
used_joined_is op.Sub None None k = refl
used_joined_is op.Sub None (Some f) k = sym (uses_neg f k)
used_joined_is op.Sub (Some e) None k = or_none (uses e k)
  where
    or_none : (b : Bool) → (b || false) ≡ b
    or_none true = refl
    or_none false = refl
used_joined_is op.Sub (Some e) (Some f) k = sym (uses_binary op.Sub e f k)
used_joined_is op.Mul None None k = refl
used_joined_is op.Mul None (Some f) k = refl
used_joined_is op.Mul (Some e) None k = refl
used_joined_is op.Mul (Some e) (Some f) k = sym (uses_binary op.Mul e f k)

access_live : (b : Bool) (j k : ℕ) → (nat_eq j k && b) ≡ used (if b then Some (Access j) else None) k
access_live true j k = and_true (nat_eq j k)
  where
    and_true : (b : Bool) → (b && true) ≡ b
    and_true true = refl
    and_true false = refl
access_live false j k = and_false (nat_eq j k)
  where
    and_false : (b : Bool) → (b && false) ≡ false
    and_false true = refl
    and_false false = refl

mutual
  -- an access stands in the part that remains where it stands in what is left
  live_used : (P : ℕ → Bool) (e : Expr) (k : ℕ) → is_live P e k ≡ used (part P e) k
  live_used P (Num n) k = refl
  live_used P (Access j) k = access_live (P j) j k
  live_used P (Binary' o p e q f) k =
      ap (λ b. is_there o b (remains_in P f) && (is_live_in P e k || is_live_in P f k)) (remains_left_in P e)
      ∙ ap (λ b. is_there o (is_left (part_in P e)) b && (is_live_in P e k || is_live_in P f k)) (remains_left_in P f)
      ∙ ap (λ b. is_there o (is_left (part_in P e)) (is_left (part_in P f)) && (b || is_live_in P f k)) (live_used_in P e k)
      ∙ ap (λ b. is_there o (is_left (part_in P e)) (is_left (part_in P f)) && (used (part_in P e) k || b)) (live_used_in P f k)
      ∙ used_joined_is o (part_in P e) (part_in P f) k
  live_used P (Neg' p e) k = live_used_in P e k ∙ sym (used_negated (part_in P e) k)

  live_used_in : {m : _} (P : ℕ → Bool) (row : Row_of-Expr m) (k : ℕ) → is_live_in P row k ≡ used (part_in P row) k
  live_used_in P end_of-Expr k = refl
  live_used_in P (more_of-Expr e rest) k = live_used P e k

used_remains : (p : Option Expr) (k : ℕ) → used p k ≡ true → Remains p
used_remains None k h = absurd (cc h)
used_remains (Some e) k h = tt

there_of : (a b : Bool) → a ≡ true → (not a || b) ≡ true → b ≡ true
there_of true b h g = g
there_of false b h g = absurd (cc h)

or_present : (a b c : Bool) → (a ≡ false → c ≡ true) → (b ≡ true → c ≡ true) → (not a || b) ≡ true → c ≡ true
or_present true b c f g h = g h
or_present false b c f g h = f refl

pub live_by_points : (iterates : ℕ → Bool) (e : Expr) (points : List Point) → IsLattice iterates e points → (present : ℕ → Bool)
    → ((k : ℕ) → iterates k ≡ false → present k ≡ true) → (k : ℕ) → iterates k ≡ true
    → ((is_live present e k ≡ true) ↔ Has points (λ p. Within p present × (contains p.iterators k ≡ true)))
live_by_points iterates e points lattice present others k goes =
    let same : left_of iterates present ≡ present = λ i j. left_at (iterates j) (present j) (others j) i in (
      λ is.
          let stands : used (part present e) k ≡ true = sym (live_used present e k) ∙ is in
          let left = subst (λ there. Remains (part there e)) (sym same) (used_remains (part present e) k stands) in
          let has = lattice.complete present left in
          let p = has.1 in
          let point = each_get _ points has.0 p lattice.each has.2 in
          let is_left_there : part present e ≡ Some p.expr = subst (λ there. part there e ≡ Some p.expr) same has.3.left in
          let needs : used (part (left_of iterates (contains p.iterators)) e) k ≡ true =
          ap (λ o. used o k) (point.left ∙ sym is_left_there) ∙ stands in
          let member = (used_part (left_of iterates (contains p.iterators)) e k needs).0 in
          (has.0, p, has.2, (has.3.within, there_of (iterates k) (contains p.iterators k) goes member)),
      λ has.
          let p = has.1 in
          let point = each_get _ points has.0 p lattice.each has.2 in
          let needs : used (part (left_of iterates (contains p.iterators)) e) k ≡ true =
          ap (λ o. used o k) point.left ∙ point.needed k has.3.1 in
          let more = more_part (left_of iterates (contains p.iterators)) present
          (λ j h. or_present (iterates j) (contains p.iterators j) (present j) (others j) (has.3.0 j) h) e in
          live_used present e k ∙ more.uses k needs,
    )

-- a number in a list that passes a test
any_has : (f : ℕ → Bool) (xs : List ℕ) → list_any f xs ≡ true → (j : ℕ) × (contains xs j ≡ true) × (f j ≡ true)
any_has f [] h = absurd (cc h)
any_has f (x ∷ xs) h = by (f x) refl (any_has f xs) h
  where
    same : nat_eq x x ≡ true
    same = grind (arith, nat_tests)

    or_second : (a b : Bool) → b ≡ true → (a || b) ≡ true
    or_second true b h = refl
    or_second false b h = h

    by : (b : Bool) → f x ≡ b → (list_any f xs ≡ true → (j : ℕ) × (contains xs j ≡ true) × (f j ≡ true)) → (b || list_any f xs) ≡ true
        → (j : ℕ) × ((nat_eq x j || contains xs j) ≡ true) × (f j ≡ true)
    by true is more g = (x, ap (λ b. b || contains xs x) same, is)
    by false is more g = let found = more g in (found.0, or_second (nat_eq x found.0) (contains xs found.0) found.1, found.2)

none_has : (f : ℕ → Bool) (xs : List ℕ) (j : ℕ) → list_any f xs ≡ false → contains xs j ≡ true → f j ≡ false
none_has f [] j h g = absurd (cc g)
none_has f (x ∷ xs) j h g = by (nat_eq x j) refl (none_has f xs j (second (f x) (list_any f xs) h)) g
  where
    first : (a b : Bool) → (a || b) ≡ false → a ≡ false
    first true b h = h
    first false b h = refl

    second : (a b : Bool) → (a || b) ≡ false → b ≡ false
    second true b h = absurd (cc h)
    second false b h = h

    by : (b : Bool) → nat_eq x j ≡ b → (contains xs j ≡ true → f j ≡ false) → (b || contains xs j) ≡ true → f j ≡ false
    by true is more g = let same : x ≡ j = grind (arith, nat_tests) in subst (λ n. f n ≡ false) same (first (f x) (list_any f xs) h)
    by false is more g = more g

pub found_by_points : (iterates : ℕ → Bool) (e : Expr) (points : List Point) → IsLattice iterates e points → (ordered : ℕ → Bool)
    → (k : ℕ) → iterates k ≡ true
    → ((is_live (λ j. not (iterates j && ordered j)) e k ≡ false)
    ↔ Each (λ p. contains p.iterators k ≡ true → list_any ordered p.iterators ≡ true) points)
found_by_points iterates e points lattice ordered k goes =
    let alone : ℕ → Bool = λ j. not (iterates j && ordered j) in
    let by_points = live_by_points iterates e points lattice alone (λ j none. other (iterates j) (ordered j) none) k goes in (
      λ dead. each_from (λ p. contains p.iterators k ≡ true → list_any ordered p.iterators ≡ true) points
          (λ n p at has. by (list_any ordered p.iterators) (λ none. clash (is_live alone e k)
          (by_points.1 (n, p, at, ((λ j h. unordered (iterates j) (ordered j) (none_has ordered p.iterators j none h)), has))) dead)),
      λ each. not_true (is_live alone e k) (λ live.
          let has = by_points.0 live in
          let p = has.1 in
          let point = each_get _ points has.0 p lattice.each has.2 in
          let any = any_has ordered p.iterators (each_get _ points has.0 p each has.2 has.3.1) in
          let iterator = (point.iterators any.0 any.1).0 in
          apart (iterates any.0) (ordered any.0) iterator any.2 (has.3.0 any.0 any.1)),
    )
  where
    other : (a b : Bool) → a ≡ false → not (a && b) ≡ true
    other true b h = absurd (cc h)
    other false b h = refl

    unordered : (a b : Bool) → b ≡ false → not (a && b) ≡ true
    unordered true true h = absurd (cc h)
    unordered true false h = refl
    unordered false b h = refl

    apart : (a b : Bool) → a ≡ true → b ≡ true → not (a && b) ≡ true → ⊥
    apart true true h g f = cc f
    apart true false h g f = cc g
    apart false b h g f = cc h

    clash : (b : Bool) → b ≡ true → b ≡ false → ⊥
    clash b h g = cc

    not_true : (b : Bool) → (b ≡ true → ⊥) → b ≡ false
    not_true true h = absurd (h refl)
    not_true false h = refl

    by : (b : Bool) → (b ≡ false → ⊥) → b ≡ true
    by true h = refl
    by false h = absurd (h refl)

-- what remains needs no more than what stands in it
needs_live : (P Q : ℕ → Bool) (e : Expr) → ((k : ℕ) → Q k ≡ true → P k ≡ true) → ((k : ℕ) → is_live P e k ≡ true → Q k ≡ true)
    → remains P e ≡ true → remains Q e ≡ true
needs_live P Q e shrinks needs is =
    remains_left Q e ∙ ap is_left (same_part P Q shrinks e (λ k h. needs k (live_used P e k ∙ h))) ∙ sym (remains_left P e) ∙ is

live_there : (P : ℕ → Bool) (e : Expr) (k : ℕ) → is_live P e k ≡ true → P k ≡ true
live_there P e k h = (used_part P e k (sym (live_used P e k) ∙ h)).0

-- it stands there too where more is present
live_more : (P Q : ℕ → Bool) (e : Expr) → ((k : ℕ) → P k ≡ true → Q k ≡ true) → (k : ℕ) → is_live P e k ≡ true → is_live Q e k ≡ true
live_more P Q e grows k h = live_used Q e k ∙ (more_part P Q grows e).uses k (sym (live_used P e k) ∙ h)

pub only_full : (iterates ordered cursor present : ℕ → Bool) (e : Expr)
    → ((k : ℕ) → iterates k ≡ true → ordered k ≡ true → cursor k ≡ true)
    → ((k : ℕ) → iterates k ≡ true → is_live (λ j. not (iterates j && ordered j)) e k ≡ true → cursor k ≡ true)
    → is_full (λ k. not (iterates k && cursor k)) present e ≡ true → is_full (λ k. not (iterates k)) present e ≡ true
only_full iterates ordered cursor present e walked gathered is =
    let off : ℕ → Bool = λ k. not (iterates k && cursor k) && present k in
    let full : ℕ → Bool = λ k. not (iterates k) && present k in
    let alone : ℕ → Bool = λ k. not (iterates k && ordered k) in
    let grows : (k : ℕ) → off k ≡ true → alone k ≡ true =
    λ k h. in_alone (iterates k) (ordered k) (cursor k) (present k) (walked k) h in
    let shrinks : (k : ℕ) → full k ≡ true → off k ≡ true = λ k h. in_off (iterates k) (cursor k) (present k) h in
    let needs : (k : ℕ) → is_live off e k ≡ true → full k ≡ true = λ k live. in_full (iterates k) (cursor k) (present k)
    (λ goes. gathered k goes (live_more off alone e grows k live)) (live_there off e k live) in
    sym (full_remains (λ k. not (iterates k)) present full (λ k. refl) e)
    ∙ needs_live off full e shrinks needs (full_remains (λ k. not (iterates k && cursor k)) present off (λ k. refl) e ∙ is)
  where
    in_alone : (a b d p : Bool) → (a ≡ true → b ≡ true → d ≡ true) → (not (a && d) && p) ≡ true → not (a && b) ≡ true
    in_alone true true true p f h = absurd (cc h)
    in_alone true true false p f h = absurd (let no : false ≡ true = f refl refl in cc no)
    in_alone true false d p f h = refl
    in_alone false b d p f h = refl

    in_off : (a d p : Bool) → (not a && p) ≡ true → (not (a && d) && p) ≡ true
    in_off true d p h = absurd (cc h)
    in_off false d p h = h

    in_full : (a d p : Bool) → (a ≡ true → d ≡ true) → (not (a && d) && p) ≡ true → (not a && p) ≡ true
    in_full true true p f h = absurd (cc h)
    in_full true false p f h = absurd (let no : false ≡ true = f refl in cc no)
    in_full false d p f h = h
