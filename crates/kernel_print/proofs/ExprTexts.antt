-- Expressions told by their texts: a left inverse of the text of an expression.
use Rattle.std.specs.Prelude.{◌≡◌, ℕ, zero, suc, ◌+◌, ◌<◌, ◌≤◌, ◌==◌, Bool, true, if◌then◌else◌, List, [], ◌∷◌, ◌++◌, codes, drop, length}
use Rattle.std.specs.Prelude.{refl}
use Rattle.std.specs.Char.{is_ascii_digit}
use Rattle.std.specs.Fmt.{decimal}
use Rattle.std.specs.Str.{all_ascii_digits}
use Rattle.std.proofs.Common.{◌∙◌, ap, sym, subst, append_assoc, arith}
use Rattle.std.proofs.lemmas.Fmt.{digits_decimal, decimal_nonempty}
use denote.Hole.Carrier.{hidden}
use Rattle.kernel_code.specs.declared.syntax.Arr.{Arr}
use Rattle.kernel_code.specs.declared.syntax.Arr.TheVariants as array
use Rattle.kernel_code.specs.declared.syntax.Op.{Op}
use Rattle.kernel_code.specs.declared.syntax.Op.TheVariants as op
use Rattle.kernel_code.specs.declared.syntax.KExpr.{KExpr, map-KExpr, Num, Var, At, Len, Bin, Min, Width, At', Bin', Min', Width'}
use Rattle.kernel_code.specs.declared.syntax.KExpr.{Row_of-KExpr, end_of-KExpr, more_of-KExpr}
use Rattle.kernel_code.specs.declared.syntax.KExpr.TheVariants.{rolls-Num, rolls-Var, rolls-At, rolls-Len, rolls-Bin, rolls-Min}
use Rattle.kernel_code.specs.declared.syntax.KExpr.TheVariants.{rolls-Width}
use Rattle.kernel_code.specs.declared.syntax.KExpr.TheBlock.{hidden-the_row-KExpr-0}
use Rattle.kernel_code.specs.declared.syntax.KExpr.TheFolds.{ind-KExpr}
use Rattle.kernel_code.specs.declared.syntax.KExpr.TheViews.{roll-KExpr}
use Rattle.kernel_code.specs.declared.syntax.KExpr.TheOpen as view
use Rattle.text_lines.proofs.NumberLaws.{digits_model}
use Rattle.kernel_print.specs.ArrayNames.{IsWord, HasWords, BeginsWithoutDigit}
use Rattle.kernel_print.specs.ExprTexts.{ExprHasWords, TextsTellExprs}
use Rattle.kernel_print.specs.Text.{array_text, operator_text, expr_text}
use Rattle.kernel_print.proofs.ArrayNames.{number_in, behind_digits, second_byte, told, told_name, cut_number, second_digit, all_first}

abbrev pub Read : Type 0
Read = List ℕ → KExpr × List ℕ

-- an operator and what stands behind it
abbrev operator_told : List ℕ → Op × List ℕ
operator_told text =
    let sign : ℕ = second_byte text in
    if sign == 43 then (op.Add, drop 3 text) else (if sign == 45 then (op.Sub, drop 3 text) else (if sign == 42 then (op.Mul, drop 3 text)
    else (if sign == 60 then (op.Less, drop 3 text) else
    (if sign == 61 then (op.Equal, drop 4 text) else (if sign == 33 then (op.NotEqual, drop 4 text)
    else (if sign == 124 then (op.Or, drop 4 text) else
    (if second_byte (drop 1 text) == 38 then (op.And, drop 4 text) else (op.BitAnd, drop 3 text))))))))

operator_is_told : (o : Op) (behind : List ℕ) → operator_told (operator_text o ++ behind) ≡ (o, behind)
operator_is_told op.Add behind = refl
operator_is_told op.Sub behind = refl
operator_is_told op.Mul behind = refl
operator_is_told op.BitAnd behind = refl
operator_is_told op.Less behind = refl
operator_is_told op.Equal behind = refl
operator_is_told op.NotEqual behind = refl
operator_is_told op.And behind = refl
operator_is_told op.Or behind = refl

operator_begins : (o : Op) (behind : List ℕ) → BeginsWithoutDigit (operator_text o ++ behind)
operator_begins op.Add behind = refl
operator_begins op.Sub behind = refl
operator_begins op.Mul behind = refl
operator_begins op.BitAnd behind = refl
operator_begins op.Less behind = refl
operator_begins op.Equal behind = refl
operator_begins op.NotEqual behind = refl
operator_begins op.And behind = refl
operator_begins op.Or behind = refl

-- what each form makes of what was told of its parts
abbrev at_end : Arr → KExpr × List ℕ → KExpr × List ℕ
at_end a i = (At a i.0, drop 1 i.1)

abbrev at_told : Read → Arr × List ℕ → KExpr × List ℕ
at_told read a = at_end a.0 (read (drop 1 a.1))

abbrev len_told : Arr × List ℕ → KExpr × List ℕ
len_told a = (Len a.0, drop 1 a.1)

abbrev bin_end : Op → KExpr → KExpr × List ℕ → KExpr × List ℕ
bin_end o a b = (Bin o a b.0, drop 1 b.1)

abbrev bin_second : Read → KExpr → Op × List ℕ → KExpr × List ℕ
bin_second read a o = bin_end o.0 a (read o.1)

abbrev bin_first : Read → KExpr × List ℕ → KExpr × List ℕ
bin_first read a = bin_second read a.0 (operator_told a.1)

abbrev min_end : KExpr → KExpr × List ℕ → KExpr × List ℕ
min_end a b = (Min a b.0, drop 1 b.1)

abbrev min_first : Read → KExpr × List ℕ → KExpr × List ℕ
min_first read a = min_end a.0 (read (drop 2 a.1))

abbrev width_end : KExpr × List ℕ → KExpr × List ℕ
width_end e = (Width e.0, drop 1 e.1)

abbrev number_told : List ℕ → KExpr × List ℕ
number_told text = (Num (number_in text), behind_digits text)

abbrev other_told : Read → ℕ → List ℕ → KExpr × List ℕ
other_told read byte text =
    if byte == 120 then (Var (number_in text), behind_digits text) else (if byte == 40 then bin_first read (read text)
    else (if byte == 108 then len_told (told (drop 3 text)) else (if byte == 109 then min_first read (read (drop 3 text))
    else (if byte == 119 then
    (if is_ascii_digit (second_byte (byte ∷ text)) then at_told read (told (byte ∷ text)) else width_end (read (drop 5 text)))
    else at_told read (told (byte ∷ text))))))

-- the expression in front of a text, nested so deep at most
abbrev pub expr_told : ℕ → Read
expr_told zero text = (Num 0, [])
expr_told (suc n) [] = (Num 0, [])
expr_told (suc n) (byte ∷ text) = if is_ascii_digit byte then number_told (byte ∷ text) else other_told (expr_told n) byte text

abbrev mutual
  pub size : KExpr → ℕ
  size (Num n) = 1
  size (Var x) = 1
  size (At' a p i) = suc (boxed_size i)
  size (Len a) = 1
  size (Bin' o p a q b) = suc (boxed_size a + boxed_size b)
  size (Min' p a q b) = suc (boxed_size a + boxed_size b)
  size (Width' p e) = suc (boxed_size e)

  pub boxed_size : {m : _} → Row_of-KExpr m → ℕ
  boxed_size end_of-KExpr = 0
  boxed_size (more_of-KExpr e rest) = size e

abbrev Told : KExpr → Type 0
Told e = (fuel : ℕ) (behind : List ℕ) → size e ≤ fuel → ExprHasWords e → BeginsWithoutDigit behind
    → expr_told fuel (expr_text e ++ behind) ≡ (e, behind)

none_small : (n : ℕ) → suc n ≤ 0 → ⊥
none_small n small = omega (arith, small)

first_small : (a b n : ℕ) → suc (a + b) ≤ suc n → a ≤ n
first_small a b n small = omega (arith, small)

second_small : (a b n : ℕ) → suc (a + b) ≤ suc n → b ≤ n
second_small a b n small = omega (arith, small)

only_small : (a n : ℕ) → suc a ≤ suc n → a ≤ n
only_small a n small = omega (arith, small)

digits_begin : (n : ℕ) (digits behind : List ℕ) → 0 < length digits → all_ascii_digits digits ≡ true
    → expr_told (suc n) (digits ++ behind) ≡ number_told (digits ++ behind)
digits_begin n [] behind some all = absurd (omega (arith, some))
digits_begin n (byte ∷ digits) behind some all =
    ap (λ (b : Bool). if b then number_told (byte ∷ (digits ++ behind)) else other_told (expr_told n) byte (digits ++ behind))
    (all_first byte digits all).0

num_told : (k fuel : ℕ) (behind : List ℕ) → 1 ≤ fuel → IsWord k → BeginsWithoutDigit behind
    → expr_told fuel (decimal k ++ behind) ≡ (Num k, behind)
num_told k zero behind small word plain = absurd (none_small 0 small)
num_told k (suc n) behind small word plain =
    let cut = cut_number k behind word plain in
    digits_begin n (decimal k) behind (decimal_nonempty k word) (digits_decimal digits_model k word)
    ∙ ap (λ (m : ℕ). (Num m, behind_digits (decimal k ++ behind))) cut.0 ∙ ap (λ (t : List ℕ). (Num k, t)) cut.1

var_told : (x fuel : ℕ) (behind : List ℕ) → 1 ≤ fuel → IsWord x → BeginsWithoutDigit behind
    → expr_told fuel (codes "x" ++ decimal x ++ behind) ≡ (Var x, behind)
var_told x zero behind small word plain = absurd (none_small 0 small)
var_told x (suc n) behind small word plain =
    let cut = cut_number x behind word plain in
    ap (λ (m : ℕ). (Var m, behind_digits (decimal x ++ behind))) cut.0 ∙ ap (λ (t : List ℕ). (Var x, t)) cut.1

-- a name of an array begins no other form
workspace_begins : (n w : ℕ) (tail behind : List ℕ) → IsWord w
    → expr_told (suc n) (119 ∷ ((decimal w ++ tail) ++ behind)) ≡ at_told (expr_told n) (told (119 ∷ ((decimal w ++ tail) ++ behind)))
workspace_begins n w tail behind word =
    let rest : List ℕ = (decimal w ++ tail) ++ behind in
    ap (λ (b : Bool). if b then at_told (expr_told n) (told (119 ∷ rest)) else width_end (expr_told n (drop 5 rest)))
    (second_digit 119 (decimal w) tail behind (decimal_nonempty w word) (digits_decimal digits_model w word))

array_begins : (a : Arr) (n : ℕ) (behind : List ℕ) → HasWords a
    → expr_told (suc n) (array_text a ++ behind) ≡ at_told (expr_told n) (told (array_text a ++ behind))
array_begins array.Range n behind words = refl
array_begins (array.Values t) n behind words = refl
array_begins (array.Dimension t level) n behind words = refl
array_begins (array.Ends t level) n behind words = refl
array_begins (array.Coordinates t level) n behind words = refl
array_begins (array.Width t level) n behind words = refl
array_begins (array.Key w key) n behind words = workspace_begins n w (codes "_key" ++ decimal key) behind words.0
array_begins (array.Sums w) n behind words = workspace_begins n w (codes "_val") behind words
array_begins (array.ListCoordinates g) n behind words = refl
array_begins (array.ListPositions g) n behind words = refl

at_case : (a : Arr) (i : KExpr) → Told i → (fuel : ℕ) (behind : List ℕ) → size (At a i) ≤ fuel → ExprHasWords (At a i)
    → BeginsWithoutDigit behind
    → expr_told fuel (expr_text (At a i) ++ behind) ≡ (At a i, behind)
unfolding hidden-the_row-KExpr-0 hidden
at_case a i ti zero behind small words plain = absurd (none_small (size i) small)
at_case a i ti (suc n) behind small words plain =
    let index : List ℕ = expr_text i ++ (93 ∷ behind) in
    ap (expr_told (suc n)) (append_assoc (array_text a) (91 ∷ (expr_text i ++ (93 ∷ []))) behind)
    ∙ ap (λ (t : List ℕ). expr_told (suc n) (array_text a ++ (91 ∷ t))) (append_assoc (expr_text i) (93 ∷ []) behind)
    ∙ array_begins a n (91 ∷ index) words.0
    ∙ ap (at_told (expr_told n)) (told_name a (91 ∷ index) words.0 refl)
    ∙ ap (at_end a) (ti n (93 ∷ behind) (only_small (size i) n small) words.1 refl)

len_case : (a : Arr) (fuel : ℕ) (behind : List ℕ) → 1 ≤ fuel → HasWords a → BeginsWithoutDigit behind
    → expr_told fuel (expr_text (Len a) ++ behind) ≡ (Len a, behind)
len_case a zero behind small words plain = absurd (none_small 0 small)
len_case a (suc n) behind small words plain =
    ap (λ (t : List ℕ). len_told (told t)) (append_assoc (array_text a) (41 ∷ []) behind)
    ∙ ap len_told (told_name a (41 ∷ behind) words refl)

bin_pieces : (a o b behind : List ℕ) → (a ++ (o ++ (b ++ (41 ∷ [])))) ++ behind ≡ a ++ (o ++ (b ++ (41 ∷ behind)))
bin_pieces a o b behind = simp append_assoc

bin_case : (o : Op) (a b : KExpr) → Told a → Told b → (fuel : ℕ) (behind : List ℕ) → size (Bin o a b) ≤ fuel → ExprHasWords (Bin o a b)
    → BeginsWithoutDigit behind → expr_told fuel (expr_text (Bin o a b) ++ behind) ≡ (Bin o a b, behind)
unfolding hidden-the_row-KExpr-0 hidden
bin_case o a b ta tb zero behind small words plain = absurd (none_small (size a + size b) small)
bin_case o a b ta tb (suc n) behind small words plain =
    let last : List ℕ = expr_text b ++ (41 ∷ behind) in
    ap (λ (t : List ℕ). bin_first (expr_told n) (expr_told n t)) (bin_pieces (expr_text a) (operator_text o) (expr_text b) behind)
    ∙ ap (bin_first (expr_told n)) (ta n (operator_text o ++ last) (first_small (size a) (size b) n small) words.0 (operator_begins o last))
    ∙ ap (bin_second (expr_told n) a) (operator_is_told o last)
    ∙ ap (bin_end o a) (tb n (41 ∷ behind) (second_small (size a) (size b) n small) words.1 refl)

min_pieces : (a b behind : List ℕ) → (a ++ (44 ∷ 32 ∷ (b ++ (41 ∷ [])))) ++ behind ≡ a ++ (44 ∷ 32 ∷ (b ++ (41 ∷ behind)))
min_pieces a b behind = simp append_assoc

min_case : (a b : KExpr) → Told a → Told b → (fuel : ℕ) (behind : List ℕ) → size (Min a b) ≤ fuel → ExprHasWords (Min a b)
    → BeginsWithoutDigit behind → expr_told fuel (expr_text (Min a b) ++ behind) ≡ (Min a b, behind)
unfolding hidden-the_row-KExpr-0 hidden
min_case a b ta tb zero behind small words plain = absurd (none_small (size a + size b) small)
min_case a b ta tb (suc n) behind small words plain =
    ap (λ (t : List ℕ). min_first (expr_told n) (expr_told n t)) (min_pieces (expr_text a) (expr_text b) behind)
    ∙ ap (min_first (expr_told n)) (ta n (44 ∷ 32 ∷ (expr_text b ++ (41 ∷ behind))) (first_small (size a) (size b) n small) words.0 refl)
    ∙ ap (min_end a) (tb n (41 ∷ behind) (second_small (size a) (size b) n small) words.1 refl)

width_case : (e : KExpr) → Told e → (fuel : ℕ) (behind : List ℕ) → size (Width e) ≤ fuel → ExprHasWords (Width e)
    → BeginsWithoutDigit behind
    → expr_told fuel (expr_text (Width e) ++ behind) ≡ (Width e, behind)
unfolding hidden-the_row-KExpr-0 hidden
width_case e te zero behind small words plain = absurd (none_small (size e) small)
width_case e te (suc n) behind small words plain =
    ap (λ (t : List ℕ). width_end (expr_told n t)) (append_assoc (expr_text e) (41 ∷ []) behind)
    ∙ ap width_end (te n (41 ∷ behind) (only_small (size e) n small) words refl)

layer_told : (y : view.KExpr-F ((e : KExpr) × Told e)) → Told (roll-KExpr (map-KExpr ((e : KExpr) × Told e) KExpr (λ e. e.0) y))
layer_told (view.Num k) = subst Told (sym (rolls-Num k)) (num_told k)
layer_told (view.Var x) = subst Told (sym (rolls-Var x)) (var_told x)
layer_told (view.At a i) = subst Told (sym (rolls-At a i.0)) (at_case a i.0 i.1)
layer_told (view.Len a) = subst Told (sym (rolls-Len a)) (len_case a)
layer_told (view.Bin o a b) = subst Told (sym (rolls-Bin o a.0 b.0)) (bin_case o a.0 b.0 a.1 b.1)
layer_told (view.Min a b) = subst Told (sym (rolls-Min a.0 b.0)) (min_case a.0 b.0 a.1 b.1)
layer_told (view.Width e) = subst Told (sym (rolls-Width e.0)) (width_case e.0 e.1)

pub expr_is_told : (e : KExpr) → Told e
expr_is_told = ind-KExpr Told (λ x y is. subst (λ z. Told (roll-KExpr z)) is (layer_told y))

pub texts_tell_exprs : TextsTellExprs
texts_tell_exprs e f behind behind' words words' plain plain' same =
    let enough : size e ≤ size e + size f = omega arith in
    let enough' : size f ≤ size e + size f = omega arith in
    let both : (e, behind) ≡ (f, behind') = sym (expr_is_told e (size e + size f) behind enough words plain)
    ∙ ap (expr_told (size e + size f)) same ∙ expr_is_told f (size e + size f) behind' enough' words' plain' in
    (ap (λ (x : KExpr × List ℕ). x.0) both, ap (λ (x : KExpr × List ℕ). x.1) both)
