-- Lemmas about facts, and about expressions that may stand for others where facts hold.
use Rattle.std.specs.Prelude.{◌≡◌, ℕ, zero, suc, ◌<◌, min, false, List, length, slice_get, Option, Some, None, refl}
use Rattle.std.proofs.Common.{◌∙◌, ap, sym, subst, get_or}
use Rattle.kernel_code.specs.declared.syntax.Arr.{Arr}
use Rattle.kernel_code.specs.declared.syntax.Arr.TheVariants as arr
use Rattle.kernel_code.specs.declared.syntax.Op.{Op}
use Rattle.kernel_code.specs.declared.syntax.Op.TheVariants.{Add, Sub, Mul, BitAnd, Less, Equal, NotEqual, And, Or}
use Rattle.kernel_code.specs.declared.syntax.KExpr.{KExpr, Num, At, Bin, Min, Width}
use Rattle.kernel_code.specs.Arrays.{may_write}
use Rattle.kernel_code.specs.Meaning.{State, value, word_at, width_of, apply_each, apply_both}
use Rattle.kernel_code.proofs.Equations.{value_at, value_bin, value_min, value_width}
use Rattle.store_facts.specs.declared.facts.StoreFact.{StoreFact}
use Rattle.store_facts.specs.declared.facts.StoreFact.TheVariants.{Size, Coordinates}
use Rattle.store_facts.specs.Facts.{IsFact, KeepsFacts, Tells, Becomes}

-- facts are about arrays that kernels don't write
fact_kept : (fact : StoreFact) (s s' : State) → ((a : Arr) → may_write a ≡ false → s'.arrays a ≡ s.arrays a) → IsFact s.arrays fact
    → IsFact s'.arrays fact
fact_kept (Size tensor level variable) s s' same h = λ words size is found.
    ap (λ xs. word_at xs (Some variable)) (same arr.Range refl)
    ∙ h words size (sym (same (arr.Dimension tensor level) refl) ∙ is) found
fact_kept (Coordinates tensor level variable) s s' same h = λ fixed words place word is found.
    let below = h fixed words place word (sym (same (arr.Coordinates tensor level) fixed) ∙ is) found in
    (below.0, ap (λ xs. word_at xs (Some variable)) (same arr.Range refl) ∙ below.1, below.2)

pub facts_kept : (facts : List StoreFact) (s s' : State) → ((a : Arr) → may_write a ≡ false → s'.arrays a ≡ s.arrays a)
    → KeepsFacts facts s → KeepsFacts facts s'
facts_kept facts s s' same k = record {
  each = λ i d l. fact_kept (get_or facts i d) s s' same (k.each i d l);
  words = λ ranges variable range is found. k.words ranges variable range (sym (same arr.Range refl) ∙ is) found;
}

-- a fact that stands at a place
pub tells_place : (facts : List StoreFact) (i : ℕ) (f fact : StoreFact) → i < length facts → f ≡ get_or facts i f → f ≡ fact
    → Tells facts fact
tells_place facts i f fact l is same = record { at = λ s k. subst (IsFact s.arrays) (sym is ∙ same) (k.each i f l) }

-- what has a value in one place has it in another
abbrev Has : Option ℕ → Option ℕ → Type 0
Has x u = (k : ℕ) → x ≡ Some k → u ≡ Some k

none_first : (o : Op) (y : Option ℕ) → apply_both o None y ≡ None
none_first Add y = refl
none_first Sub y = refl
none_first Mul y = refl
none_first BitAnd y = refl
none_first Less y = refl
none_first Equal y = refl
none_first NotEqual y = refl
none_first And y = refl
none_first Or y = refl

first_settles : (o : Op) (k n : ℕ) (y : Option ℕ) → apply_both o (Some k) None ≡ Some n → apply_both o (Some k) y ≡ Some n
first_settles Add k n y h = cc
first_settles Sub k n y h = cc
first_settles Mul k n y h = cc
first_settles BitAnd k n y h = cc
first_settles Less k n y h = cc
first_settles Equal k n y h = cc
first_settles NotEqual k n y h = cc
first_settles And zero n y h = h
first_settles And (suc k) n y h = cc
first_settles Or zero n y h = cc
first_settles Or (suc k) n y h = h

both_settle : (o : Op) (x y u v : Option ℕ) (n : ℕ) → Has x u → Has y v → apply_both o x y ≡ Some n → apply_both o u v ≡ Some n
both_settle o None y u v n f g h = let none = none_first o y in cc
both_settle o (Some k) None u v n f g h = ap (λ u. apply_both o u v) (f k refl) ∙ first_settles o k n v h
both_settle o (Some k) (Some l) u v n f g h =
    ap (λ u. apply_both o u v) (f k refl) ∙ ap (apply_both o (Some k)) (g l refl) ∙ h

pub each_settle : (f : ℕ → ℕ → ℕ) (x y u v : Option ℕ) (n : ℕ) → Has x u → Has y v → apply_each f x y ≡ Some n → apply_each f u v ≡ Some n
each_settle f None y u v n g k h = cc
each_settle f (Some i) None u v n g k h = cc
each_settle f (Some i) (Some l) u v n g k h = ap (λ u. apply_each f u v) (g i refl) ∙ ap (apply_each f (Some i)) (k l refl) ∙ h

word_settles : (xs : Option (List ℕ)) (x u : Option ℕ) (n : ℕ) → Has x u → word_at xs x ≡ Some n → word_at xs u ≡ Some n
word_settles None x u n f h = cc
word_settles (Some xs) None u n f h = cc
word_settles (Some xs) (Some i) u n f h = ap (word_at (Some xs)) (f i refl) ∙ h

width_settles : (x u : Option ℕ) (n : ℕ) → Has x u → width_of x ≡ Some n → width_of u ≡ Some n
width_settles None u n f h = cc
width_settles (Some i) u n f h = ap width_of (f i refl) ∙ h

pub becomes_itself : (fs : List StoreFact) (e : KExpr) → Becomes fs e e
becomes_itself fs e = record { at = λ s v k h. h }

pub becomes_now : (fs : List StoreFact) (e e' f f' : KExpr) → e ≡ e' → f ≡ f' → Becomes fs e' f' → Becomes fs e f
becomes_now fs e e' f f' is same h = subst (λ x. Becomes fs x f) (sym is) (subst (Becomes fs e') (sym same) h)

pub becomes_copy : (fs : List StoreFact) (e f : KExpr) → f ≡ e → Becomes fs e f
becomes_copy fs e f is = subst (Becomes fs e) (sym is) (becomes_itself fs e)

pub becomes_then : (fs : List StoreFact) (e f g : KExpr) → Becomes fs e f → Becomes fs f g → Becomes fs e g
becomes_then fs e f g h i = record { at = λ s v k is. i.at s v k (h.at s v k is) }

pub becomes_at : (fs : List StoreFact) (a : Arr) (i j : KExpr) → Becomes fs i j → Becomes fs (At a i) (At a j)
becomes_at fs a i j h = record {
  at = λ s v k is.
      value_at a j s
      ∙ word_settles (s.arrays a) (value i s) (value j s) v (λ n g. h.at s n k g) (sym (value_at a i s) ∙ is);
}

pub becomes_bin : (fs : List StoreFact) (o : Op) (a b c d : KExpr) → Becomes fs a c → Becomes fs b d → Becomes fs (Bin o a b) (Bin o c d)
becomes_bin fs o a b c d f g = record {
  at = λ s v k is.
      value_bin o c d s
      ∙ both_settle o (value a s) (value b s) (value c s) (value d s) v (λ n h. f.at s n k h) (λ n h. g.at s n k h)
      (sym (value_bin o a b s) ∙ is);
}

pub becomes_min : (fs : List StoreFact) (a b c d : KExpr) → Becomes fs a c → Becomes fs b d → Becomes fs (Min a b) (Min c d)
becomes_min fs a b c d f g = record {
  at = λ s v k is.
      value_min c d s
      ∙ each_settle min (value a s) (value b s) (value c s) (value d s) v (λ n h. f.at s n k h) (λ n h. g.at s n k h)
      (sym (value_min a b s) ∙ is);
}

pub becomes_width : (fs : List StoreFact) (e f : KExpr) → Becomes fs e f → Becomes fs (Width e) (Width f)
becomes_width fs e f h = record {
  at = λ s v k is. value_width f s ∙ width_settles (value e s) (value f s) v (λ n g. h.at s n k g) (sym (value_width e s) ∙ is);
}

-- words read
pub read_word : (xs : Option (List ℕ)) (i : Option ℕ) (v : ℕ) → word_at xs i ≡ Some v
    → (ys : List ℕ) × (n : ℕ) × (xs ≡ Some ys) × (i ≡ Some n) × (slice_get ys n ≡ Some v)
read_word None i v h = cc
read_word (Some xs) None v h = cc
read_word (Some xs) (Some i) v h = (xs, i, refl, refl, h)

-- a size read as the range that it is
pub becomes_range : (fs : List StoreFact) (tensor level variable : ℕ) → Tells fs (Size tensor level variable)
    → Becomes fs (At (arr.Dimension tensor level) (Num 0)) (At arr.Range (Num variable))
becomes_range fs tensor level variable t = record {
  at = λ s v k is.
      let read = read_word (s.arrays (arr.Dimension tensor level)) (Some 0) v
      (sym (value_at (arr.Dimension tensor level) (Num 0) s) ∙ is) in
      let place : read.1 ≡ 0 = cc in
      value_at arr.Range (Num variable) s
      ∙ t.at s k read.0 v read.2 (ap (slice_get read.0) (sym place) ∙ read.4);
}

pub read_range : (fs : List StoreFact) (a : Arr) (i r : KExpr) (tensor level variable : ℕ) → a ≡ arr.Dimension tensor level → i ≡ Num 0
    → r ≡ At arr.Range (Num variable) → Tells fs (Size tensor level variable) → Becomes fs (At a i) r
read_range fs a i r tensor level variable is first same t =
    becomes_now fs (At a i) (At (arr.Dimension tensor level) (Num 0)) r (At arr.Range (Num variable))
    (ap (λ b. At b i) is ∙ ap (At (arr.Dimension tensor level)) first) same (becomes_range fs tensor level variable t)
