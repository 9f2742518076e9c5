-- How far the checks of names have come.
use Rattle.std.specs.Prelude.{◌≡◌, ◌≢◌, ℕ, zero, suc, ◌+◌, ◌<◌, List, [], ◌∷◌, ◌++◌, length, take, get_or, Contains, refl}
use Rattle.std.proofs.Common.{sym, ◌∙◌, ap, subst, arith, append_assoc}
use Rattle.std.proofs.Math.Seq.{take-suc}
use Rattle.lists.proofs.Each.{each_append}
use Rattle.index_notation.specs.declared.syntax.Access.{Access}
use Rattle.index_notation.specs.declared.syntax.Statement.{Statement}
use Rattle.index_notation.specs.Statement.{IsDistinct}
use Rattle.expr_terms.specs.declared.names.NameFault.{NameFault}
use Rattle.expr_terms.specs.declared.names.NameFault.TheVariants.{RepeatedVariable}
use Rattle.expr_terms.specs.Names.{RepeatsFirst, IsFaultless, HasFault, AreFaultless, IsFirstNameFault}

pub append_none : {A : Type 0} (xs : List A) → xs ++ [] ≡ xs
append_none [] = refl
append_none (x ∷ xs) = ap (λ ys. x ∷ ys) (append_none xs)

later_contains : (x v : ℕ) (xs : List ℕ) → Contains xs v → Contains (x ∷ xs) v
later_contains x v xs h = (suc h.0, (let k = h.1 in omega arith), h.2)

-- distinct numbers and one more that isn't among them
distinct_more : (xs : List ℕ) (v : ℕ) → IsDistinct xs → (Contains xs v → ⊥) → IsDistinct (xs ++ (v ∷ []))
distinct_more [] v h k = (tt, tt)
distinct_more (x ∷ xs) v h k =
    let apart : x ≢ v = λ e. k (0, (let l : 0 < length (x ∷ xs) = omega arith in l), e) in
    (each_append (λ y. x ≢ y) xs (v ∷ []) h.0 (apart, tt), distinct_more xs v h.1 (λ c. k (later_contains x v xs c)))

pub distinct_step : (xs : List ℕ) (i : ℕ) → i < length xs → IsDistinct (take i xs) → (Contains (take i xs) (get_or xs i 0) → ⊥)
    → IsDistinct (take (i + 1) xs)
distinct_step xs i h d k =
    let n : i + 1 ≡ suc i = omega arith in
    subst IsDistinct (sym (ap (λ m. take m xs) n ∙ take-suc xs i 0 h)) (distinct_more (take i xs) (get_or xs i 0) d k)

number_at : (i : ℕ) (xs : List ℕ) → i < length xs → (later : List ℕ) × (xs ≡ take i xs ++ (get_or xs i 0 ∷ later))
number_at zero [] h = absurd (omega arith)
number_at zero (y ∷ ys) h = (ys, refl)
number_at (suc i) [] h = absurd (omega arith)
number_at (suc i) (y ∷ ys) h = let r = number_at i ys (omega (arith, h)) in (r.0, ap (λ (zs : List ℕ). y ∷ zs) r.1)

split_at : (i : ℕ) (xs : List Access) (x : Access) → i < length xs → x ≡ get_or xs i x
    → (later : List Access) × (xs ≡ take i xs ++ (x ∷ later))
split_at zero [] x h e = absurd (omega arith)
split_at zero (y ∷ ys) x h e = (ys, ap (λ (z : Access). z ∷ ys) (sym e))
split_at (suc i) [] x h e = absurd (omega arith)
split_at (suc i) (y ∷ ys) x h e = let r = split_at i ys x (omega (arith, h)) e in (r.0, ap (λ (zs : List Access). y ∷ zs) r.1)

pub repeats : (xs : List ℕ) (i : ℕ) → i < length xs → IsDistinct (take i xs) → Contains (take i xs) (get_or xs i 0)
    → RepeatsFirst xs (get_or xs i 0)
repeats xs i h d k = let s = number_at i xs h in record { front = take i xs; behind = s.0; all = s.1; again = k; once = d }

-- one access further
faultless_on : (left : Access) (earlier xs : List Access) (a : Access) → AreFaultless left earlier xs
    → IsFaultless left (earlier ++ xs) a → AreFaultless left earlier (xs ++ (a ∷ []))
faultless_on left earlier [] a h k = (subst (λ (l : List Access). IsFaultless left l a) (append_none earlier) k, tt)
faultless_on left earlier (x ∷ xs) a h k = (
  h.0,
  faultless_on left (earlier ++ (x ∷ [])) xs a h.1
      (subst (λ (l : List Access). IsFaultless left l a) (sym (append_assoc earlier (x ∷ []) xs)) k),
)

one_more : (xs : List Access) (i : ℕ) (a : Access) → i < length xs → a ≡ get_or xs i a → take (i + 1) xs ≡ take i xs ++ (a ∷ [])
one_more xs i a h e =
    let n : i + 1 ≡ suc i = omega arith in
    ap (λ m. take m xs) n ∙ take-suc xs i a h ∙ ap (λ (y : Access). take i xs ++ (y ∷ [])) (sym e)

pub faultless_step : (left : Access) (xs : List Access) (i : ℕ) (a : Access) → i < length xs → a ≡ get_or xs i a
    → AreFaultless left [] (left ∷ take i xs) → IsFaultless left (left ∷ take i xs) a → AreFaultless left [] (left ∷ take (i + 1) xs)
faultless_step left xs i a h e f k =
    subst (λ (l : List Access). AreFaultless left [] (left ∷ l)) (sym (one_more xs i a h e)) (faultless_on left [] (left ∷ take i xs) a f k)

pub left_fault : (s : Statement) (v : ℕ) → RepeatsFirst s.left.vars v → IsFirstNameFault s (RepeatedVariable s.left.tensor v)
left_fault s v h = record {
  earlier = [];
  access = s.left;
  later = s.accesses;
  all = refl;
  none_before = tt;
  is = (refl, (λ r. let k = r.0 in omega (arith, k)), tt, h);
}

pub right_fault_found : (s : Statement) (xs : List Access) (i : ℕ) (a : Access) (f : NameFault) → xs ≡ s.accesses → i < length xs
    → a ≡ get_or xs i a → AreFaultless s.left [] (s.left ∷ take i xs) → HasFault s.left (s.left ∷ take i xs) a f → IsFirstNameFault s f
right_fault_found s xs i a f same h e n k =
    let p = split_at i xs a h e in
    record {
      earlier = s.left ∷ take i xs;
      access = a;
      later = p.0;
      all = ap (λ (l : List Access). s.left ∷ l) (sym same ∙ p.1);
      none_before = n;
      is = k;
    }
