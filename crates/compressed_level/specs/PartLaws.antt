-- Laws of the parts that parents have of a list of coordinates.
use Rattle.std.specs.Prelude.{◌≡◌, ℕ, zero, suc, ◌+◌, ◌-◌, ◌≤◌, ◌<◌, Bool}
use Rattle.std.specs.Prelude.{List, [], ◌∷◌, ◌++◌, length, take, drop, replicate, refl}
use Rattle.std.proofs.Common.{◌∙◌, sym, ap, subst, arith}
use Rattle.level_core.specs.Entries.{span}
use Rattle.level_core.specs.Logs.{total, NoneFrom, Rises, slice}
use Rattle.compressed_level.specs.Compressed.{PartsRise}

pub drop_drop : (n m : ℕ) (xs : List ℕ) → drop m (drop n xs) ≡ drop (n + m) xs
drop_drop zero m xs = ap (λ k. drop k xs) (omega arith)
drop_drop (suc n) m [] = drop_none m ∙ sym (drop_none (suc n + m))
  where
    drop_none : (m : ℕ) → drop {A = ℕ} m [] ≡ []
    drop_none zero = refl
    drop_none (suc m) = refl
drop_drop (suc n) m (x ∷ xs) = let same : suc n + m ≡ suc (n + m) = omega arith in drop_drop n m xs ∙ sym (ap (λ k. drop k (x ∷ xs)) same)

-- the coordinates of one parent
pub part_rises : (unique : Bool) (p : ℕ) (ns xs : List ℕ) → p < length ns → PartsRise unique ns xs
    → Rises unique 0 (slice xs (span (total (take p ns)) (total (take (suc p) ns))))
part_rises unique p [] xs l r = absurd (omega (arith, l))
part_rises unique zero (n ∷ ns) xs l r = let same : n + 0 - 0 ≡ n = omega arith in subst (λ m. Rises unique 0 (take m xs)) (sym same) r.0
part_rises unique (suc p) (n ∷ ns) xs l r =
    let width : total (take (suc p) ns) - total (take p ns) ≡ (n + total (take (suc p) ns)) - (n + total (take p ns)) = omega arith in
    subst (λ m. Rises unique 0 (take m (drop (n + total (take p ns)) xs))) width
    (subst (λ ys. Rises unique 0 (take (total (take (suc p) ns) - total (take p ns)) ys)) (drop_drop n (total (take p ns)) xs)
    (part_rises unique p ns (drop n xs) (omega (arith, l)) r.1))

pub totals_rise : (p : ℕ) (ns : List ℕ) → total (take p ns) ≤ total (take (suc p) ns)
totals_rise zero [] = omega arith
totals_rise (suc p) [] = omega arith
totals_rise zero (n ∷ ns) = omega arith
totals_rise (suc p) (n ∷ ns) = let k = totals_rise p ns in omega (arith, k)

pub totals_within : (p : ℕ) (ns : List ℕ) → total (take p ns) ≤ total ns
totals_within zero ns = omega arith
totals_within (suc p) [] = omega arith
totals_within (suc p) (n ∷ ns) = let k = totals_within p ns in omega (arith, k)

-- parents that are given no positions yet
pub parts_wait : (unique : Bool) (k : ℕ) (ns xs : List ℕ) → PartsRise unique ns xs → PartsRise unique (ns ++ replicate k 0) xs
parts_wait unique zero [] xs p = p
parts_wait unique (suc k) [] xs p = (tt, parts_wait unique k [] xs p)
parts_wait unique k (n ∷ ns) xs p = (p.0, parts_wait unique k ns (drop n xs) p.1)

pub total_wait : (k : ℕ) (ns : List ℕ) → total (ns ++ replicate k 0) ≡ total ns
total_wait zero [] = refl
total_wait (suc k) [] = let h = total_wait k [] in omega (arith, h)
total_wait k (n ∷ ns) = ap (λ m. n + m) (total_wait k ns)

pub zero_wait : (next k : ℕ) (ns : List ℕ) → NoneFrom next ns → NoneFrom next (ns ++ replicate k 0)
zero_wait zero zero [] z = tt
zero_wait zero (suc k) [] z = (refl, zero_wait zero k [] tt)
zero_wait (suc next) zero [] z = tt
zero_wait (suc next) (suc k) [] z = zero_wait next k [] (none next)
  where
    none : (next : ℕ) → NoneFrom next []
    none zero = tt
    none (suc next) = tt
zero_wait zero k (n ∷ ns) z = (z.0, zero_wait zero k ns z.1)
zero_wait (suc next) k (n ∷ ns) z = zero_wait next k ns z
