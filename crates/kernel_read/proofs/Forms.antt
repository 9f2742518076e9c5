-- Arrays, operators and expressions by cases on their forms.
use Rattle.std.specs.Prelude.{◌≡◌, ℕ, ◌<◌, ◌≤◌, List, ◌++◌, codes, length, drop, Option, Some, None, refl}
use Rattle.std.specs.Fmt.{decimal}
use Rattle.std.proofs.Common.{sym, subst, arith}
use denote.Hole.Carrier.{hidden}
use Rattle.kernel_code.specs.declared.syntax.Arr.{Arr}
use Rattle.kernel_code.specs.declared.syntax.Arr.TheVariants as array
use Rattle.kernel_code.specs.declared.syntax.Op.{Op}
use Rattle.kernel_code.specs.declared.syntax.Op.TheVariants as op
use Rattle.kernel_code.specs.declared.syntax.KExpr.{KExpr, map-KExpr, Num, Var, At, Len, Bin, Min, Width}
use Rattle.kernel_code.specs.declared.syntax.KExpr.TheVariants.{rolls-Num, rolls-Var, rolls-At, rolls-Len, rolls-Bin, rolls-Min}
use Rattle.kernel_code.specs.declared.syntax.KExpr.TheVariants.{rolls-Width}
use Rattle.kernel_code.specs.declared.syntax.KExpr.TheBlock.{hidden-the_row-KExpr-0}
use Rattle.kernel_code.specs.declared.syntax.KExpr.TheFolds.{ind-KExpr}
use Rattle.kernel_code.specs.declared.syntax.KExpr.TheViews.{roll-KExpr}
use Rattle.kernel_code.specs.declared.syntax.KExpr.TheOpen as view
use Rattle.kernel_print.specs.ArrayNames.{BeginsWithoutDigit, HasWords, IsWord}
use Rattle.kernel_print.specs.ExprTexts.{ExprHasWords}
use Rattle.kernel_print.specs.Text.{array_text, expr_text, operator_text}
use Rattle.kernel_read.specs.Reading.{AreWordsBoth, HaveWords, IsLeaf, IsOfLevel, NoneStands, Reads}
use Rattle.kernel_read.proofs.Parts.{Found}

abbrev pub level_name : List ℕ → ℕ × ℕ → List ℕ
level_name kind n = codes "T" ++ (decimal n.0 ++ (codes "_" ++ (decimal n.1 ++ kind)))

pub no_level_array : (line : List ℕ) (at : ℕ) → NoneStands (ℕ × ℕ) (level_name (codes "_dim")) AreWordsBoth line at
    → NoneStands (ℕ × ℕ) (level_name (codes "_pos")) AreWordsBoth line at
    → NoneStands (ℕ × ℕ) (level_name (codes "_crd")) AreWordsBoth line at
    → NoneStands (ℕ × ℕ) (level_name (codes "_wid")) AreWordsBoth line at → NoneStands Arr array_text IsOfLevel line at
no_level_array line at d p c w (array.Dimension n level) behind fits plain same = d (n, level) behind fits plain same
no_level_array line at d p c w (array.Ends n level) behind fits plain same = p (n, level) behind fits plain same
no_level_array line at d p c w (array.Coordinates n level) behind fits plain same = c (n, level) behind fits plain same
no_level_array line at d p c w (array.Width n level) behind fits plain same = w (n, level) behind fits plain same
no_level_array line at d p c w array.Range behind fits plain same = absurd fits
no_level_array line at d p c w (array.Values n) behind fits plain same = absurd fits
no_level_array line at d p c w (array.Key n k) behind fits plain same = absurd fits
no_level_array line at d p c w (array.Sums n) behind fits plain same = absurd fits
no_level_array line at d p c w (array.ListCoordinates n) behind fits plain same = absurd fits
no_level_array line at d p c w (array.ListPositions n) behind fits plain same = absurd fits

level_words : (a : Arr) → IsOfLevel a → HasWords a
level_words (array.Dimension n level) fits = fits
level_words (array.Ends n level) fits = fits
level_words (array.Coordinates n level) fits = fits
level_words (array.Width n level) fits = fits
level_words array.Range fits = absurd fits
level_words (array.Values n) fits = absurd fits
level_words (array.Key n k) fits = absurd fits
level_words (array.Sums n) fits = absurd fits
level_words (array.ListCoordinates n) fits = absurd fits
level_words (array.ListPositions n) fits = absurd fits

-- the forms of an array's name but for those of levels
pub record NoOther (line : List ℕ) (at : ℕ) : Type 0 where
  pub range : (rest : List ℕ) → BeginsWithoutDigit rest → drop at line ≡ codes "range" ++ rest → ⊥
  pub values : NoneStands ℕ (λ n. codes "T" ++ (decimal n ++ codes "_val")) IsWord line at
  pub sums : NoneStands ℕ (λ n. codes "w" ++ (decimal n ++ codes "_val")) IsWord line at
  pub coordinates : NoneStands ℕ (λ n. codes "g" ++ (decimal n ++ codes "_crd")) IsWord line at
  pub positions : NoneStands ℕ (λ n. codes "g" ++ (decimal n ++ codes "_pos")) IsWord line at
  pub keys : NoneStands (ℕ × ℕ) (λ n. codes "w" ++ (decimal n.0 ++ (codes "_key" ++ decimal n.1))) AreWordsBoth line at

no_array : (line : List ℕ) (at : ℕ) → NoOther line at → NoneStands Arr array_text IsOfLevel line at
    → NoneStands Arr array_text HasWords line at
no_array line at other level array.Range behind fits plain same = other.range behind plain same
no_array line at other level (array.Values n) behind fits plain same = other.values n behind fits plain same
no_array line at other level (array.Sums n) behind fits plain same = other.sums n behind fits plain same
no_array line at other level (array.ListCoordinates n) behind fits plain same = other.coordinates n behind fits plain same
no_array line at other level (array.ListPositions n) behind fits plain same = other.positions n behind fits plain same
no_array line at other level (array.Key n k) behind fits plain same = other.keys (n, k) behind fits plain same
no_array line at other level (array.Dimension n k) behind fits plain same = level (array.Dimension n k) behind fits plain same
no_array line at other level (array.Ends n k) behind fits plain same = level (array.Ends n k) behind fits plain same
no_array line at other level (array.Coordinates n k) behind fits plain same = level (array.Coordinates n k) behind fits plain same
no_array line at other level (array.Width n k) behind fits plain same = level (array.Width n k) behind fits plain same

pub reads_array : (line : List ℕ) (at : ℕ) → NoOther line at → (answer : Option (Arr × ℕ)) → Reads Arr array_text IsOfLevel line at answer
    → Reads Arr array_text HasWords line at answer
reads_array line at other None none = no_array line at other none
reads_array line at other (Some f) found = (level_words f.0 found.0, found.1, found.2)

long : (o : Op) (rest : List ℕ) → 3 ≤ length (operator_text o ++ rest)
long op.Add rest = omega arith
long op.Sub rest = omega arith
long op.Mul rest = omega arith
long op.BitAnd rest = omega arith
long op.Less rest = omega arith
long op.Equal rest = omega arith
long op.NotEqual rest = omega arith
long op.And rest = omega arith
long op.Or rest = omega arith

pub not_short : (text : List ℕ) (o : Op) (rest : List ℕ) → text ≡ operator_text o ++ rest → length text < 3 → ⊥
not_short text o rest same short =
    let least : 3 ≤ length text = subst (λ (t : List ℕ). 3 ≤ length t) (sym same) (long o rest) in omega (arith, least, short)

pub operator_some : (o : Op) → 0 < length (operator_text o)
operator_some op.Add = omega arith
operator_some op.Sub = omega arith
operator_some op.Mul = omega arith
operator_some op.BitAnd = omega arith
operator_some op.Less = omega arith
operator_some op.Equal = omega arith
operator_some op.NotEqual = omega arith
operator_some op.And = omega arith
operator_some op.Or = omega arith

pub operator_plain : (o : Op) (more rest : List ℕ) → BeginsWithoutDigit ((operator_text o ++ more) ++ rest)
operator_plain op.Add more rest = refl
operator_plain op.Sub more rest = refl
operator_plain op.Mul more rest = refl
operator_plain op.BitAnd more rest = refl
operator_plain op.Less more rest = refl
operator_plain op.Equal more rest = refl
operator_plain op.NotEqual more rest = refl
operator_plain op.And more rest = refl
operator_plain op.Or more rest = refl

-- an expression without expressions in it
pub no_leaf : (line : List ℕ) (at : ℕ) → NoneStands ℕ decimal IsWord line at → NoneStands ℕ (λ x. codes "x" ++ decimal x) IsWord line at
    → NoneStands Arr (λ a. codes "len(" ++ (array_text a ++ codes ")")) HasWords line at → NoneStands KExpr expr_text IsLeaf line at
no_leaf line at n x l (Num k) behind fits plain same = n k behind fits plain same
no_leaf line at n x l (Var k) behind fits plain same = x k behind fits plain same
no_leaf line at n x l (Len a) behind fits plain same = l a behind fits plain same
no_leaf line at n x l _ behind fits plain same = absurd fits

-- an expression is of one of its forms
layer : (P : KExpr → Type 0) → ((k : ℕ) → P (Num k)) → ((x : ℕ) → P (Var x)) → ((a : Arr) (i : KExpr) → P (At a i))
    → ((a : Arr) → P (Len a)) → ((o : Op) (a b : KExpr) → P (Bin o a b)) → ((a b : KExpr) → P (Min a b)) → ((e : KExpr) → P (Width e))
    → (y : view.KExpr-F ((e : KExpr) × P e)) → P (roll-KExpr (map-KExpr ((e : KExpr) × P e) KExpr (λ e. e.0) y))
layer P n x t l b m w (view.Num k) = subst P (sym (rolls-Num k)) (n k)
layer P n x t l b m w (view.Var k) = subst P (sym (rolls-Var k)) (x k)
layer P n x t l b m w (view.At a i) = subst P (sym (rolls-At a i.0)) (t a i.0)
layer P n x t l b m w (view.Len a) = subst P (sym (rolls-Len a)) (l a)
layer P n x t l b m w (view.Bin o e f) = subst P (sym (rolls-Bin o e.0 f.0)) (b o e.0 f.0)
layer P n x t l b m w (view.Min e f) = subst P (sym (rolls-Min e.0 f.0)) (m e.0 f.0)
layer P n x t l b m w (view.Width e) = subst P (sym (rolls-Width e.0)) (w e.0)

pub by_form : (P : KExpr → Type 0) → ((k : ℕ) → P (Num k)) → ((x : ℕ) → P (Var x)) → ((a : Arr) (i : KExpr) → P (At a i))
    → ((a : Arr) → P (Len a)) → ((o : Op) (a b : KExpr) → P (Bin o a b)) → ((a b : KExpr) → P (Min a b)) → ((e : KExpr) → P (Width e))
    → (e : KExpr) → P e
by_form P n x t l b m w = ind-KExpr P (λ z y is. subst (λ v. P (roll-KExpr v)) is (layer P n x t l b m w y))

abbrev pub operands_text : KExpr × (Op × KExpr) → List ℕ
operands_text e = codes "(" ++ (expr_text e.0 ++ (operator_text e.1.0 ++ (expr_text e.1.1 ++ codes ")")))

abbrev pub least_text : KExpr × KExpr → List ℕ
least_text e = codes "min(" ++ (expr_text e.0 ++ (codes ", " ++ (expr_text e.1 ++ codes ")")))

abbrev pub width_of_text : KExpr → List ℕ
width_of_text e = codes "width(" ++ (expr_text e ++ codes ")")

abbrev pub indexed_text : Arr × KExpr → List ℕ
indexed_text e = array_text e.0 ++ (codes "[" ++ (expr_text e.1 ++ codes "]"))

-- nothing of these forms stands at a place
pub record NoForm (line : List ℕ) (at : ℕ) : Type 0 where
  pub leaf : NoneStands KExpr expr_text IsLeaf line at
  pub operands : NoneStands (KExpr × (Op × KExpr)) operands_text (λ e. ExprHasWords e.0 × ExprHasWords e.1.1) line at
  pub least : NoneStands (KExpr × KExpr) least_text HaveWords line at
  pub width : NoneStands KExpr width_of_text ExprHasWords line at

pub no_expr : (line : List ℕ) (at : ℕ) → NoForm line at
    → NoneStands (Arr × KExpr) indexed_text (λ e. HasWords e.0 × ExprHasWords e.1) line at → NoneStands KExpr expr_text ExprHasWords line at
unfolding hidden-the_row-KExpr-0 hidden
no_expr line at other indexed =
    by_form
    (λ e. (behind : List ℕ) → ExprHasWords e → BeginsWithoutDigit behind → drop at line ≡ expr_text e ++ behind → ⊥)
    (λ k. other.leaf (Num k))
    (λ x. other.leaf (Var x))
    (λ a i. indexed (a, i))
    (λ a. other.leaf (Len a))
    (λ o a b. other.operands (a, (o, b)))
    (λ a b. other.least (a, b))
    (λ e. other.width e)

found_is : (line : List ℕ) (at : ℕ) (e f : KExpr) (next : ℕ) → e ≡ f → Found KExpr expr_text ExprHasWords line at f next
    → Found KExpr expr_text ExprHasWords line at e next
found_is line at e f next is found = subst (λ x. Found KExpr expr_text ExprHasWords line at x next) (sym is) found

pub found_bin : (line : List ℕ) (at : ℕ) (p : KExpr × (Op × KExpr)) (next : ℕ) (e : KExpr) → e ≡ Bin p.1.0 p.0 p.1.1
    → Found (KExpr × (Op × KExpr)) operands_text (λ e. ExprHasWords e.0 × ExprHasWords e.1.1) line at p next
    → Found KExpr expr_text ExprHasWords line at e next
unfolding hidden-the_row-KExpr-0 hidden
found_bin line at p next e is found = found_is line at e (Bin p.1.0 p.0 p.1.1) next is found

pub found_min : (line : List ℕ) (at : ℕ) (p : KExpr × KExpr) (next : ℕ) (e : KExpr) → e ≡ Min p.0 p.1
    → Found (KExpr × KExpr) least_text HaveWords line at p next → Found KExpr expr_text ExprHasWords line at e next
unfolding hidden-the_row-KExpr-0 hidden
found_min line at p next e is found = found_is line at e (Min p.0 p.1) next is found

pub found_width : (line : List ℕ) (at : ℕ) (a : KExpr) (next : ℕ) (e : KExpr) → e ≡ Width a
    → Found KExpr width_of_text ExprHasWords line at a next → Found KExpr expr_text ExprHasWords line at e next
unfolding hidden-the_row-KExpr-0 hidden
found_width line at a next e is found = found_is line at e (Width a) next is found

pub found_at : (line : List ℕ) (at : ℕ) (p : Arr × KExpr) (next : ℕ) (e : KExpr) → e ≡ At p.0 p.1
    → Found (Arr × KExpr) indexed_text (λ e. HasWords e.0 × ExprHasWords e.1) line at p next
    → Found KExpr expr_text ExprHasWords line at e next
unfolding hidden-the_row-KExpr-0 hidden
found_at line at p next e is found = found_is line at e (At p.0 p.1) next is found

-- a leaf is an expression
leaf_words : (e : KExpr) → IsLeaf e → ExprHasWords e
leaf_words (Num k) fits = fits
leaf_words (Var k) fits = fits
leaf_words (Len a) fits = fits
leaf_words _ fits = absurd fits

pub found_leaf : (line : List ℕ) (at : ℕ) (e : KExpr) (next : ℕ) → Found KExpr expr_text IsLeaf line at e next
    → Found KExpr expr_text ExprHasWords line at e next
found_leaf line at e next found = (leaf_words e found.0, found.1, found.2)
