-- Rows that never fall, in blocks that have one first coordinate each.
use Rattle.std.specs.Prelude.{◌≡◌, ℕ, zero, suc, ◌<◌, List, [], ◌∷◌, ◌++◌, length, map, refl}
use Rattle.std.proofs.Common.{ap, arith, inl, inr}
use Rattle.lists.specs.Each.{Each}
use Rattle.lists.proofs.Each.{each_append}
use Rattle.tensor_map.specs.Entries.{Entry}
use Rattle.tensor_map.proofs.Summed.{IsNotAfterAll, NeverFalls}
use Rattle.concrete_notation.specs.Contributions.{rows_below}

-- a row with one coordinate more in front
abbrev pub with_first : ℕ → Entry → Entry
with_first x row = record { coords = x ∷ row.coords; value = row.value }

not_after_first : (x : ℕ) (coords : List ℕ) (rows : List Entry) → IsNotAfterAll coords rows
    → IsNotAfterAll (x ∷ coords) (map (with_first x) rows)
not_after_first x coords [] h = tt
not_after_first x coords (row ∷ rows) h = (
  elim h.0 [ inl less ↦ inl (inr (refl, less)) | inr is ↦ inr (ap (λ cs. x ∷ cs) is) ],
  not_after_first x coords rows h.1,
)

block_rises : (x : ℕ) (rows : List Entry) → NeverFalls rows → NeverFalls (map (with_first x) rows)
block_rises x [] h = tt
block_rises x (row ∷ rows) h = (not_after_first x row.coords rows h.0, block_rises x rows h.1)

-- the first coordinate is below n
abbrev BeginsBelow : ℕ → List ℕ → Type 0
BeginsBelow n [] = ⊥
BeginsBelow n (x ∷ xs) = x < n

abbrev AllBegin : ℕ → List Entry → Type 0
AllBegin n rows = Each (λ (row : Entry). BeginsBelow n row.coords) rows

begins_more : (n : ℕ) (coords : List ℕ) → BeginsBelow n coords → BeginsBelow (suc n) coords
begins_more n [] h = h
begins_more n (x ∷ xs) h = omega (arith, h)

all_begin_more : (n : ℕ) (rows : List Entry) → AllBegin n rows → AllBegin (suc n) rows
all_begin_more n [] h = tt
all_begin_more n (row ∷ rows) h = (begins_more n row.coords h.0, all_begin_more n rows h.1)

block_begins : (n : ℕ) (rows : List Entry) → AllBegin (suc n) (map (with_first n) rows)
block_begins n [] = tt
block_begins n (row ∷ rows) = (omega arith, block_begins n rows)

blocks_begin : (n : ℕ) (f : ℕ → List Entry) → AllBegin n (rows_below n (λ x. map (with_first x) (f x)))
blocks_begin zero f = tt
blocks_begin (suc n) f =
    each_append (λ (row : Entry). BeginsBelow (suc n) row.coords) (rows_below n (λ x. map (with_first x) (f x)))
    (map (with_first n) (f n))
    (all_begin_more n (rows_below n (λ x. map (with_first x) (f x))) (blocks_begin n f)) (block_begins n (f n))

before_block : (n : ℕ) (coords : List ℕ) (rows : List Entry) → BeginsBelow n coords → IsNotAfterAll coords (map (with_first n) rows)
before_block n [] rows h = absurd h
before_block n (x ∷ xs) [] h = tt
before_block n (x ∷ xs) (row ∷ rows) h = (inl (inl h), before_block n (x ∷ xs) rows h)

not_after_both : (coords : List ℕ) (rows others : List Entry) → IsNotAfterAll coords rows → IsNotAfterAll coords others
    → IsNotAfterAll coords (rows ++ others)
not_after_both coords [] others f g = g
not_after_both coords (row ∷ rows) others f g = (f.0, not_after_both coords rows others f.1 g)

rises_on : (n : ℕ) (rows others : List Entry) → NeverFalls rows → AllBegin n rows → NeverFalls (map (with_first n) others)
    → NeverFalls (rows ++ map (with_first n) others)
rises_on n [] others f below g = g
rises_on n (row ∷ rows) others f below g = (
  not_after_both row.coords rows (map (with_first n) others) f.0 (before_block n row.coords others below.0),
  rises_on n rows others f.1 below.1 g,
)

-- blocks in the order of their first coordinates, none of which falls
pub blocks_rise : (n : ℕ) (f : ℕ → List Entry) → ((x : ℕ) → NeverFalls (f x)) → NeverFalls (rows_below n (λ x. map (with_first x) (f x)))
blocks_rise zero f h = tt
blocks_rise (suc n) f h =
    rises_on n (rows_below n (λ x. map (with_first x) (f x))) (f n) (blocks_rise n f h) (blocks_begin n f) (block_rises n (f n) (h n))

-- ---- rows without coordinates
both_empty : (coords others : List ℕ) → length coords ≡ 0 → length others ≡ 0 → coords ≡ others
both_empty [] [] f g = refl
both_empty [] (y ∷ ys) f g = absurd (omega (arith, g))
both_empty (x ∷ xs) others f g = absurd (omega (arith, f))

not_after_none : (coords : List ℕ) (rows : List Entry) → length coords ≡ 0 → Each (λ (row : Entry). length row.coords ≡ 0) rows
    → IsNotAfterAll coords rows
not_after_none coords [] none h = tt
not_after_none coords (row ∷ rows) none h = (inr (both_empty coords row.coords none h.0), not_after_none coords rows none h.1)

pub none_falls : (rows : List Entry) → Each (λ (row : Entry). length row.coords ≡ 0) rows → NeverFalls rows
none_falls [] h = tt
none_falls (row ∷ rows) h = (not_after_none row.coords rows h.0 h.1, none_falls rows h.1)
