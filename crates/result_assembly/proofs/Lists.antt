-- Lists that levels are counted in.
use Rattle.std.specs.Prelude.{◌≡◌, ℕ, zero, suc, ◌+◌, ◌≤◌, ◌<◌, not, Bool, true, false, List, [], ◌∷◌, ◌++◌, length, drop, slice_index}
use Rattle.std.specs.Prelude.{refl}
use Rattle.std.proofs.Common.{sym, ap, arith}
use Rattle.level_core.specs.declared.letter.Letter.{Letter}
use Rattle.level_core.specs.Kinds.{properties}
use Rattle.level_core.specs.Meaning.{Meaning}
use Rattle.level_rows.specs.Stacks.{Column}
use Rattle.format_spec.specs.Formats.{Chained}
use Rattle.tensor_storage.specs.Built.{AreBuilt}
use Rattle.tensor_storage.specs.Chains.{chain_length}
use Rattle.tensor_storage.specs.Tables.{Table}
use Rattle.tensor_storage.proofs.Chains.{chain_of_unique, chain_of_groups}
use Rattle.tensor_storage.proofs.Tables.{apart}

pub drop_is : (xs : List ℕ) (d : ℕ) → d < length xs → drop d xs ≡ slice_index xs d ∷ drop (suc d) xs
drop_is [] d h = absurd (omega (arith, h))
drop_is (x ∷ xs) zero h = refl
drop_is (x ∷ xs) (suc d) h = drop_is xs d (omega (arith, h))

pub drop_rest : {X : Type 0} (xs : List X) (d : ℕ) (x : X) (ys : List X) → drop d xs ≡ x ∷ ys
    → (d < length xs) × (ys ≡ drop (suc d) xs)
drop_rest [] zero x ys h = let long = ap length h in absurd (omega (arith, long))
drop_rest [] (suc d) x ys h = let long = ap length h in absurd (omega (arith, long))
drop_rest (y ∷ xs) zero x ys h = (omega arith, sym (ap (drop 1) h))
drop_rest (y ∷ xs) (suc d) x ys h =
    let r = drop_rest xs d x ys h in
    let less = r.0 in (omega (arith, less), r.1)

pub left_long : {X : Type 0} (xs : List X) (d : ℕ) → d < length xs → length (drop (suc d) xs) + suc d ≡ length xs
left_long [] d h = absurd (omega (arith, h))
left_long (x ∷ xs) zero h = omega arith
left_long (x ∷ xs) (suc d) h = let i = left_long xs d (omega (arith, h)) in omega (arith, i)

pub slice_at : (xs ys : List ℕ) (y d : ℕ) → length xs ≡ d → slice_index (xs ++ (y ∷ ys)) d ≡ y
slice_at [] ys y zero h = refl
slice_at [] ys y (suc d) h = absurd (omega (arith, h))
slice_at (x ∷ xs) ys y zero h = absurd (omega (arith, h))
slice_at (x ∷ xs) ys y (suc d) h = slice_at xs ys y d (omega (arith, h))

-- a chain ends among the levels
pub chain_within : (groups : Bool) (letter : Letter) (letters : List Letter) → Chained groups (letter ∷ letters)
    → chain_length (letter ∷ letters) ≤ suc (length letters)
chain_within groups letter [] h = let k = chain_of_unique letter [] (last (properties letter).unique h.1) in omega (arith, k)
  where
    last : (b : Bool) → not b ≡ false → b ≡ true
    last true e = refl
    last false e = apart e
chain_within groups letter (next ∷ letters) h =
    by_unique (properties letter).unique refl (chain_within (not (properties letter).unique) next letters h.1)
  where
    by_unique : (b : Bool) → (properties letter).unique ≡ b → chain_length (next ∷ letters) ≤ suc (length letters)
        → chain_length (letter ∷ (next ∷ letters)) ≤ suc (length (next ∷ letters))
    by_unique true is i = let k = chain_of_unique letter (next ∷ letters) is in omega (arith, k)
    by_unique false is i = let k = chain_of_groups letter (next ∷ letters) is in omega (arith, k, i)

pub as_many_columns : {L : Type 0} (means : Meaning L) (table : Table) (letters : List Letter) (ls : List L) (columns : List Column)
    (d : ℕ) (parent : ℕ → ℕ) (parents : ℕ) → AreBuilt means table d parent parents letters ls columns → length columns ≡ length ls
as_many_columns means table letters [] [] d parent parents are = refl
as_many_columns means table letters [] (c ∷ columns) d parent parents are = absurd are
as_many_columns means table letters (l ∷ ls) [] d parent parents are = absurd are
as_many_columns means table [] (l ∷ ls) (c ∷ columns) d parent parents are = absurd are
as_many_columns means table (letter ∷ letters) (l ∷ ls) (c ∷ columns) d parent parents are =
    ap suc (as_many_columns means table letters ls columns (suc d) c.place c.positions are.1)

pub drop_none : {X : Type 0} (xs : List X) → drop (length xs) xs ≡ []
drop_none [] = refl
drop_none (x ∷ xs) = drop_none xs
