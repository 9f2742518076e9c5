-- Points that some variables' coordinates make, and lists of variables.
use Rattle.std.specs.Prelude.{◌≡◌, ◌≢◌, ℕ, zero, suc, ◌+◌, ◌<◌, Bool, true, false, cond, nat_eq, if◌then◌else◌, ◌||◌, ◌&&◌}
use Rattle.std.specs.Prelude.{List, [], ◌∷◌, ◌++◌, length, map, filter, refl}
use Rattle.std.proofs.Common.{◌∙◌, sym, ap, subst, arith, true≢false}
use Rattle.std.proofs.lemmas.Bool.{eqb-true, eqb-false, eq-eqb}
use Rattle.lists.specs.Each.{Each}
use Rattle.index_notation.specs.Statement.{IsDistinct, numbers_from}
use Rattle.expr_terms.specs.Points.{with_coordinate, point_of}
use Rattle.expr_terms.specs.Result.{AreBelow}
use Rattle.expr_terms.specs.Terms.{contains}
use Rattle.expr_terms.proofs.PointLaws.{coordinate_same, coordinate_other, coordinates_swap, not_contained}
use Rattle.expr_terms.proofs.TermLaws.{each_filtered, each_number}
use Rattle.expr_terms.proofs.ValueLaws.{map_same}
use Rattle.concrete_notation.specs.Contributions.{with_coordinates}

pub neither : (b c : Bool) → (b || c) ≡ false → (b ≡ false) × (c ≡ false)
neither true c h = cc
neither false c h = (refl, h)

pub or_second : (b c : Bool) → c ≡ true → (b || c) ≡ true
or_second true c h = refl
or_second false c h = h

pub or_first : (b c : Bool) → b ≡ true → (b || c) ≡ true
or_first true c h = refl
or_first false c h = cc

-- where a variable has no coordinate, it is 0
pub point_elsewhere : (vs xs : List ℕ) (w : ℕ) → contains vs w ≡ false → point_of vs xs w ≡ 0
point_elsewhere [] xs w h = refl
point_elsewhere (v ∷ vs) [] w h = refl
point_elsewhere (v ∷ vs) (x ∷ xs) w h =
    let apart = neither (nat_eq v w) (contains vs w) h in
    ap (λ b. if b then x else point_of vs xs w) apart.0 ∙ point_elsewhere vs xs w apart.1

-- the coordinates that some variables have at a point are those of the point
pub point_of_map : (p : ℕ → ℕ) (vs : List ℕ) (w : ℕ) → contains vs w ≡ true → point_of vs (map p vs) w ≡ p w
point_of_map p [] w h = cc
point_of_map p (v ∷ vs) w h = by (nat_eq v w) refl h (point_of_map p vs w)
  where
    by : (b : Bool) → nat_eq v w ≡ b → (b || contains vs w) ≡ true → (contains vs w ≡ true → point_of vs (map p vs) w ≡ p w)
        → (if b then p v else point_of vs (map p vs) w) ≡ p w
    by true e here rest = ap p (eqb-true v w e)
    by false e here rest = rest here

map_point_of : (vs xs : List ℕ) → IsDistinct vs → length xs ≡ length vs → map (point_of vs xs) vs ≡ xs
map_point_of [] [] distinct long = refl
map_point_of [] (x ∷ xs) distinct long = absurd (omega (arith, long))
map_point_of (v ∷ vs) [] distinct long = absurd (omega (arith, long))
map_point_of (v ∷ vs) (x ∷ xs) distinct long =
    let here : with_coordinate (point_of vs xs) v x v ≡ x = coordinate_same (point_of vs xs) v x in
    let rest : map (with_coordinate (point_of vs xs) v x) vs ≡ map (point_of vs xs) vs =
    map_same (with_coordinate (point_of vs xs) v x) (point_of vs xs) vs (λ w there. coordinate_other (point_of vs xs) v x w
    (λ same. true≢false (sym there ∙ ap (contains vs) (sym same) ∙ not_contained v vs distinct.0))) in
    let more : map (point_of vs xs) vs ≡ xs = map_point_of vs xs distinct.1 (omega (arith, long)) in
    (λ i. here i ∷ rest i) ∙ ap (λ ys. x ∷ ys) more

pub coordinates_of : (vs xs : List ℕ) → IsDistinct vs → length xs ≡ length vs → map (point_of vs xs) vs ≡ xs
coordinates_of vs xs distinct long = map_point_of vs xs distinct long

pub coordinate_below : (r : ℕ → ℕ) (vs xs : List ℕ) → AreBelow xs (map r vs) → (w : ℕ) → contains vs w ≡ true → point_of vs xs w < r w
coordinate_below r [] xs below w h = cc
coordinate_below r (v ∷ vs) [] below w h = absurd below
coordinate_below r (v ∷ vs) (x ∷ xs) below w h = by (nat_eq v w) refl h (coordinate_below r vs xs below.1 w)
  where
    by : (b : Bool) → nat_eq v w ≡ b → (b || contains vs w) ≡ true → (contains vs w ≡ true → point_of vs xs w < r w)
        → (if b then x else point_of vs xs w) < r w
    by true e here rest = subst (λ u. x < r u) (eqb-true v w e) below.0
    by false e here rest = rest here

pub below_long : (r : ℕ → ℕ) (vs xs : List ℕ) → AreBelow xs (map r vs) → length xs ≡ length vs
below_long r [] [] below = refl
below_long r [] (x ∷ xs) below = absurd below
below_long r (v ∷ vs) [] below = absurd below
below_long r (v ∷ vs) (x ∷ xs) below = let more = below_long r vs xs below.1 in omega (arith, more)

pub all_below : (r p : ℕ → ℕ) (vs : List ℕ) → ((w : ℕ) → contains vs w ≡ true → p w < r w) → AreBelow (map p vs) (map r vs)
all_below r p [] h = tt
all_below r p (v ∷ vs) h = (
  h v (or_first (nat_eq v v) (contains vs v) (eq-eqb v v refl)),
  all_below r p vs (λ w there. h w (or_second (nat_eq v w) (contains vs w) there)),
)

pub map_long : {A B : Type 0} (f : A → B) (xs : List A) → length (map f xs) ≡ length xs
map_long f [] = refl
map_long f (x ∷ xs) = let more = map_long f xs in omega (arith, more)

-- from a point where all coordinates are 0
pub from_zero : (vs xs : List ℕ) → with_coordinates (λ w. 0) vs xs ≡ point_of vs xs
from_zero vs xs = λ i w. at vs xs w i
  where
    at : (vs xs : List ℕ) (w : ℕ) → with_coordinates (λ w. 0) vs xs w ≡ point_of vs xs w
    at [] xs w = refl
    at (v ∷ vs) [] w = refl
    at (v ∷ vs) (x ∷ xs) w = ap (λ y. if nat_eq v w then x else y) (at vs xs w)

-- a variable that isn't among the others may have its coordinate first
pub coordinate_first : (p : ℕ → ℕ) (v x : ℕ) (vs xs : List ℕ) → Each (λ w. v ≢ w) vs
    → with_coordinates (with_coordinate p v x) vs xs ≡ with_coordinate (with_coordinates p vs xs) v x
coordinate_first p v x [] xs apart = refl
coordinate_first p v x (w ∷ ws) [] apart = refl
coordinate_first p v x (w ∷ ws) (y ∷ ys) apart =
    ap (λ q. with_coordinate q w y) (coordinate_first p v x ws ys apart.1)
    ∙ coordinates_swap (with_coordinates p ws ys) v x w y apart.0

pub each_contained : (P : ℕ → Type 0) (vs : List ℕ) → Each P vs → (w : ℕ) → contains vs w ≡ true → P w
each_contained P [] each w h = cc
each_contained P (v ∷ vs) each w h = by (nat_eq v w) refl h (each_contained P vs each.1 w)
  where
    by : (b : Bool) → nat_eq v w ≡ b → (b || contains vs w) ≡ true → (contains vs w ≡ true → P w) → P w
    by true e here rest = subst P (eqb-true v w e) each.0
    by false e here rest = rest here

pub contains_filtered : (p : ℕ → Bool) (vs : List ℕ) (w : ℕ) → contains (filter p vs) w ≡ (p w && contains vs w)
contains_filtered p [] w = by (p w)
  where
    by : (b : Bool) → false ≡ (b && false)
    by true = refl
    by false = refl
contains_filtered p (v ∷ vs) w = by (p v) refl (nat_eq v w) refl (contains_filtered p vs w)
  where
    either : (b c : Bool) → (c && (false || b)) ≡ (c && b)
    either b c = refl

    by : (b : Bool) → p v ≡ b → (c : Bool) → nat_eq v w ≡ c → contains (filter p vs) w ≡ (p w && contains vs w)
        → contains (cond b (v ∷ filter p vs) (filter p vs)) w ≡ (p w && (c || contains vs w))
    by true e true same more =
        ap (λ d. d || contains (filter p vs) w) same ∙ sym (ap (λ d. d && true) (ap p (sym (eqb-true v w same)) ∙ e))
    by true e false other more = ap (λ d. d || contains (filter p vs) w) other ∙ more
    by false e true same more =
        let none : p w ≡ false = ap p (sym (eqb-true v w same)) ∙ e in
        more ∙ ap (λ d. d && contains vs w) none ∙ sym (ap (λ d. d && true) none)
    by false e false other more = more

pub distinct_filtered : (p : ℕ → Bool) (vs : List ℕ) → IsDistinct vs → IsDistinct (filter p vs)
distinct_filtered p [] distinct = tt
distinct_filtered p (v ∷ vs) distinct = by (p v) (distinct_filtered p vs distinct.1)
  where
    by : (b : Bool) → IsDistinct (filter p vs) → IsDistinct (cond b (v ∷ filter p vs) (filter p vs))
    by true rest = (each_filtered (λ w. v ≢ w) p vs distinct.0, rest)
    by false rest = rest

pub contains_both : (vs ws : List ℕ) (u : ℕ) → contains (vs ++ ws) u ≡ (contains vs u || contains ws u)
contains_both [] ws u = refl
contains_both (v ∷ vs) ws u =
    ap (λ b. nat_eq v u || b) (contains_both vs ws u) ∙ regroup (nat_eq v u) (contains vs u) (contains ws u)
  where
    regroup : (b c d : Bool) → (b || (c || d)) ≡ ((b || c) || d)
    regroup true c d = refl
    regroup false c d = refl

each_both : (P : ℕ → Type 0) (vs ws : List ℕ) → Each P vs → Each P ws → Each P (vs ++ ws)
each_both P [] ws first second = second
each_both P (v ∷ vs) ws first second = (first.0, each_both P vs ws first.1 second)

pub apart_from_all : (v : ℕ) (ws : List ℕ) → contains ws v ≡ false → Each (λ w. v ≢ w) ws
apart_from_all v [] h = tt
apart_from_all v (w ∷ ws) h =
    let apart = neither (nat_eq w v) (contains ws v) h in
    ((λ same. eqb-false w v apart.0 (sym same)), apart_from_all v ws apart.1)

pub distinct_both : (vs ws : List ℕ) → IsDistinct vs → IsDistinct ws → ((u : ℕ) → contains vs u ≡ true → contains ws u ≡ false)
    → IsDistinct (vs ++ ws)
distinct_both [] ws first second apart = second
distinct_both (v ∷ vs) ws first second apart = (
  each_both (λ w. v ≢ w) vs ws first.0 (apart_from_all v ws (apart v (or_first (nat_eq v v) (contains vs v) (eq-eqb v v refl)))),
  distinct_both vs ws first.1 second (λ u there. apart u (or_second (nat_eq v u) (contains vs u) there)),
)

pub numbers_distinct : (n count : ℕ) → IsDistinct (numbers_from n count)
numbers_distinct n zero = tt
numbers_distinct n (suc count) =
    (each_number (λ w. n ≢ w) (n + 1) count (λ w above below same. absurd (omega (arith, above, same))), numbers_distinct (n + 1) count)

pub number_below : (count w : ℕ) → contains (numbers_from 0 count) w ≡ true → w < count
number_below count w = each_contained (λ v. v < count) (numbers_from 0 count)
    (each_number (λ v. v < count) 0 count (λ v above below. omega
    (arith, below))) w

-- the same variables in another order
pub turned : (vs ws : List ℕ) → ((v : ℕ) → contains vs v ≡ contains ws v) → (xs : List ℕ)
    → point_of ws (map (point_of vs xs) ws) ≡ point_of vs xs
turned vs ws are xs = λ i w. at w (contains ws w) refl i
  where
    at : (w : ℕ) (b : Bool) → contains ws w ≡ b → point_of ws (map (point_of vs xs) ws) w ≡ point_of vs xs w
    at w true is = point_of_map (point_of vs xs) ws w is
    at w false is = point_elsewhere ws (map (point_of vs xs) ws) w is ∙ sym (point_elsewhere vs xs w (are w ∙ is))
