-- Lemmas about what specs/PartLaws.antt defines.
use Rattle.std.specs.Prelude.{◌≡◌, ℕ, zero, suc, ◌+◌, ◌-◌, ◌≤◌, ◌<◌, Bool, List, [], ◌∷◌, ◌++◌, length, take, drop, slice_get, slice_set}
use Rattle.std.specs.Prelude.{Some, refl}
use Rattle.std.proofs.Common.{◌∙◌, sym, ap, subst, arith}
use Rattle.level_core.specs.Logs.{total, running, NoneFrom, Rises}
use Rattle.level_core.proofs.EdgeLaws.{none_total}
use Rattle.compressed_level.specs.Compressed.{differences, PartsRise}
use Rattle.compressed_level.specs.PartLaws.{drop_drop}

-- a word of the running sums
pub running_at : (before : ℕ) (ns : List ℕ) (i : ℕ) → i < length ns
    → slice_get (running before ns) i ≡ Some (before + total (take (suc i) ns))
running_at before [] i h = absurd (omega (arith, h))
running_at before (n ∷ ns) zero h = ap Some (omega arith)
running_at before (n ∷ ns) (suc i) h = running_at (before + n) ns i (omega (arith, h)) ∙ ap Some (omega arith)

-- where the positions of the parents before one end
pub end_at : (ns : List ℕ) (i : ℕ) → i ≤ length ns → slice_get (0 ∷ running 0 ns) i ≡ Some (total (take i ns))
end_at ns zero h = refl
end_at ns (suc i) h = running_at 0 ns i (omega (arith, h)) ∙ ap Some (omega arith)

pub running_length : (before : ℕ) (ns : List ℕ) → length (running before ns) ≡ length ns
running_length before [] = refl
running_length before (n ∷ ns) = ap suc (running_length (before + n) ns)

differences_from : (before : ℕ) (ns : List ℕ) → differences (before ∷ running before ns) ≡ ns
differences_from before [] = refl
differences_from before (n ∷ ns) = ap (λ xs. (before + n - before) ∷ xs) (differences_from (before + n) ns) ∙ ap (λ m. m ∷ ns) (omega arith)

-- the numbers are the differences of their sums
pub differences_of_sums : (ns : List ℕ) → differences (0 ∷ running 0 ns) ≡ ns
differences_of_sums ns = differences_from 0 ns

take_more : (n : ℕ) (xs ys : List ℕ) → n ≤ length xs → take n (xs ++ ys) ≡ take n xs
take_more zero xs ys h = refl
take_more (suc n) [] ys h = absurd (omega (arith, h))
take_more (suc n) (x ∷ xs) ys h = ap (λ zs. x ∷ zs) (take_more n xs ys (omega (arith, h)))

drop_more : (n : ℕ) (xs ys : List ℕ) → n ≤ length xs → drop n (xs ++ ys) ≡ drop n xs ++ ys
drop_more zero xs ys h = refl
drop_more (suc n) [] ys h = absurd (omega (arith, h))
drop_more (suc n) (x ∷ xs) ys h = drop_more n xs ys (omega (arith, h))

drop_length : (n : ℕ) (xs : List ℕ) → length (drop n xs) ≡ length xs - n
drop_length zero xs = omega arith
drop_length (suc n) [] = omega arith
drop_length (suc n) (x ∷ xs) = drop_length n xs ∙ omega arith

-- more coordinates behind those that no parent has been given yet
pub parts_append : (unique : Bool) (ns xs more : List ℕ) → total ns ≤ length xs → PartsRise unique ns xs
    → Rises unique 0 (drop (total ns) xs ++ more) → PartsRise unique ns (xs ++ more)
parts_append unique [] xs more l p r = r
parts_append unique (n ∷ ns) xs more l p r =
    let le : n ≤ length xs = omega (arith, l) in (
      subst (Rises unique 0) (sym (take_more n xs more le)) p.0,
      subst (PartsRise unique ns) (sym (drop_more n xs more le))
          (parts_append unique ns (drop n xs) more (omega (arith, l, drop_length n xs)) p.1
          (subst (λ ys. Rises unique 0 (ys ++ more)) (sym (drop_drop n (total ns) xs)) r)),
    )

-- where no parent has positions, all coordinates rise in one row
parts_rest : (unique : Bool) (ns xs : List ℕ) → NoneFrom zero ns → PartsRise unique ns xs → Rises unique 0 xs
parts_rest unique [] xs z p = p
parts_rest unique (n ∷ ns) xs z p = parts_rest unique ns xs z.1 (subst (λ m. PartsRise unique ns (drop m xs)) z.0 p.1)

take_whole : (xs : List ℕ) → take (length xs) xs ≡ xs
take_whole [] = refl
take_whole (x ∷ xs) = ap (λ ys. x ∷ ys) (take_whole xs)

drop_whole : (xs : List ℕ) → drop (length xs) xs ≡ []
drop_whole [] = refl
drop_whole (x ∷ xs) = drop_whole xs

parts_none : (unique : Bool) (ns : List ℕ) → NoneFrom zero ns → PartsRise unique ns []
parts_none unique [] z = tt
parts_none unique (zero ∷ ns) z = (tt, parts_none unique ns z.1)
parts_none unique (suc n ∷ ns) z = (tt, parts_none unique ns z.1)

-- a parent is given all coordinates that none has been given yet
pub parts_give : (unique : Bool) (parent : ℕ) (ns xs : List ℕ) → parent < length ns → total ns ≤ length xs → NoneFrom parent ns
    → PartsRise unique ns xs → PartsRise unique (slice_set ns parent (length xs - total ns)) xs
parts_give unique parent [] xs l g z p = absurd (omega (arith, l))
parts_give unique zero (n ∷ ns) xs l g z p =
    let none : total (n ∷ ns) ≡ 0 = none_total (n ∷ ns) z in
    let all : length xs - total (n ∷ ns) ≡ length xs = omega (arith, none) in
    subst (λ m. PartsRise unique (m ∷ ns) xs) (sym all) (
      subst (Rises unique 0) (sym (take_whole xs)) (parts_rest unique (n ∷ ns) xs z p),
      subst (PartsRise unique ns) (sym (drop_whole xs)) (parts_none unique ns z.1),
    )
parts_give unique (suc parent) (n ∷ ns) xs l g z p =
    let same : length (drop n xs) - total ns ≡ length xs - total (n ∷ ns) = omega (arith, drop_length n xs) in (
      p.0,
      subst (λ m. PartsRise unique (slice_set ns parent m) (drop n xs)) same
          (parts_give unique parent ns (drop n xs) (omega (arith, l)) (omega (arith, g, drop_length n xs)) z p.1),
    )

pub total_give : (parent m : ℕ) (ns : List ℕ) → parent < length ns → NoneFrom parent ns → total (slice_set ns parent m) ≡ total ns + m
total_give parent m [] l z = absurd (omega (arith, l))
total_give zero m (n ∷ ns) l z = omega (arith, z.0)
total_give (suc parent) m (n ∷ ns) l z = let k = total_give parent m ns (omega (arith, l)) z in omega (arith, k)

pub zero_give : (parent m : ℕ) (ns : List ℕ) → NoneFrom parent ns → NoneFrom (suc parent) (slice_set ns parent m)
zero_give parent m [] z = tt
zero_give zero m (n ∷ ns) z = z.1
zero_give (suc parent) m (n ∷ ns) z = zero_give parent m ns z
