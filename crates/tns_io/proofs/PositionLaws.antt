-- Coordinate lists below the sizes and positions below their product are the same thing, in the same order.
use Rattle.std.specs.Prelude.{◌≡◌, ℕ, suc, ◌+◌, ◌*◌, ◌/◌, ◌%◌, ◌<◌, ◌≤◌, List, [], ◌∷◌, length, refl}
use Rattle.std.proofs.Common.{arith, ap, subst, ◌∙◌, inl, inr}
use Rattle.std.proofs.Math.Nat.{mul_comm, mod-eq_of_lt, mul-add-mod_self_right}
use Rattle.std.proofs.lemmas.Bool.{cases_order}
use Rattle.std.proofs.lemmas.Nat.{mod_below, mul-add-lt, mul-le, div_below, div-mul-add, div-add-mod', same_from_place}
use Rattle.tensor_map.specs.Order.{IsBefore}
use Rattle.tns_io.specs.Positions.{product, IsBelow, position, coords_at}
use Rattle.lists.proofs.Products.{factor_positive}

-- as many coordinates as sizes
pub below_long : (sizes coords : List ℕ) → IsBelow sizes coords → length coords ≡ length sizes
below_long [] [] h = refl
below_long [] (c ∷ cs) h = absurd h
below_long (n ∷ ns) [] h = absurd h
below_long (n ∷ ns) (c ∷ cs) h = ap suc (below_long ns cs h.1)

-- a position is below the product
pub position_below : (sizes coords : List ℕ) → IsBelow sizes coords → position sizes coords < product sizes
position_below [] [] h = omega arith
position_below [] (c ∷ cs) h = absurd h
position_below (n ∷ ns) [] h = absurd h
position_below (n ∷ ns) (c ∷ cs) h =
    let row : c * product ns + position ns cs < product ns * n =
    mul-add-lt c (product ns) (position ns cs) n h.0 (position_below ns cs h.1) in
    subst (λ (k : ℕ). c * product ns + position ns cs < k) (mul_comm (product ns) n) row

-- no two coordinate lists below the sizes have one position
pub position_injective : (sizes xs ys : List ℕ) → IsBelow sizes xs → IsBelow sizes ys → position sizes xs ≡ position sizes ys → xs ≡ ys
position_injective [] [] [] h g e = refl
position_injective [] [] (y ∷ ys) h g e = absurd g
position_injective [] (x ∷ xs) ys h g e = absurd h
position_injective (n ∷ ns) [] ys h g e = absurd h
position_injective (n ∷ ns) (x ∷ xs) [] h g e = absurd g
position_injective (n ∷ ns) (x ∷ xs) (y ∷ ys) h g e =
    let same = same_from_place x (position ns xs) y (position ns ys) (product ns) (position_below ns xs h.1) (position_below ns ys g.1) e in
    let rest : xs ≡ ys = position_injective ns xs ys h.1 g.1 same.1 in
    λ i. same.0 i ∷ rest i

-- the coordinates at a position are below the sizes, and have that position
pub coords_below : (sizes : List ℕ) (i : ℕ) → i < product sizes → IsBelow sizes (coords_at sizes i)
coords_below [] i h = tt
coords_below (n ∷ ns) i h =
    let some = factor_positive i n (product ns) h in
    (div_below i (product ns) n some h, coords_below ns (i % product ns) (mod_below i (product ns) some))

pub position_of_coords : (sizes : List ℕ) (i : ℕ) → i < product sizes → position sizes (coords_at sizes i) ≡ i
position_of_coords [] i h = omega arith
position_of_coords (n ∷ ns) i h =
    ap (λ k. i / product ns * product ns + k)
    (position_of_coords ns (i % product ns) (mod_below i (product ns) (factor_positive i n (product ns) h)))
    ∙ div-add-mod' i (product ns)

-- and the coordinates at the position of coordinates are those
pub coords_of_position : (sizes coords : List ℕ) → IsBelow sizes coords → coords_at sizes (position sizes coords) ≡ coords
coords_of_position [] [] h = refl
coords_of_position [] (c ∷ cs) h = absurd h
coords_of_position (n ∷ ns) [] h = absurd h
coords_of_position (n ∷ ns) (c ∷ cs) h =
    let low : position ns cs < product ns = position_below ns cs h.1 in
    let first : (c * product ns + position ns cs) / product ns ≡ c = div-mul-add c (product ns) (position ns cs) low in
    let rest : (c * product ns + position ns cs) % product ns ≡ position ns cs =
    mul-add-mod_self_right c (product ns) (position ns cs) ∙ mod-eq_of_lt low in
    λ i. first i ∷ (ap (coords_at ns) rest ∙ coords_of_position ns cs h.1) i

-- a later position has later coordinates
pub coords_increase : (sizes : List ℕ) (i j : ℕ) → i < j → j < product sizes → IsBefore (coords_at sizes i) (coords_at sizes j)
coords_increase [] i j h g = absurd (omega arith)
coords_increase (n ∷ ns) i j h g =
    let p : ℕ = product ns in
    let some : 0 < p = factor_positive j n p g in
    let first : i / p * p + i % p ≡ i = div-add-mod' i p in
    let second : j / p * p + j % p ≡ j = div-add-mod' j p in
    elim (cases_order (i / p) (j / p)) [
      | inl same ↦ (
          let rows : i / p * p ≡ j / p * p = ap (λ k. k * p) same in
          inr (same, coords_increase ns (i % p) (j % p) (omega arith) (mod_below j p some)))
      | inr apart ↦ elim apart [
        | inl less ↦ inl less
        | inr more ↦ (
            let row : (j / p + 1) * p ≤ i / p * p = mul-le (j / p + 1) p (i / p) p (omega arith) (omega arith) in
            let within : j % p < p = mod_below j p some in
            absurd (omega arith))
      ]
    ]

-- positions number coordinates
pub ruleset position_laws = (position_below, position_injective, coords_below, position_of_coords, coords_of_position, coords_increase)
