-- Levels that are all dense: their sizes, their paths, and how many positions they have.
use Rattle.std.specs.Prelude.{◌≡◌, ℕ, zero, suc, ◌+◌, ◌*◌, ◌≤◌, Bool, true, false}
use Rattle.std.specs.Prelude.{List, [], ◌∷◌, map, slice_index, refl}
use Rattle.std.proofs.Common.{◌∙◌, sym, ap, subst, arith, inl, inr}
use Rattle.std.proofs.lemmas.List.Elements.{All-nil, All-cons}
use Rattle.limits.specs.Limits.{greatest_position_count}
use Rattle.level_core.specs.declared.letter.Letter.{Letter}
use Rattle.level_core.specs.declared.letter.Letter.TheVariants.{Dense}
use Rattle.level_core.specs.declared.span.Span.{Span}
use Rattle.level_core.specs.declared.span.Entry.{Entry}
use Rattle.level_core.specs.Entries.{StandsAt, one}
use Rattle.level_core.specs.Kinds.{properties, parents_below}
use Rattle.level_core.specs.Meaning.{Arrays}
use Rattle.level_rows.specs.Stacks.{Path}
use Rattle.format_spec.specs.declared.format.FormatLevel.{FormatLevel}
use Rattle.format_spec.specs.Formats.{letters_of}
use Rattle.concrete_notation.specs.Workspaces.{AreAllDense}
use Rattle.dense_level.specs.Dense as dense
use Rattle.tensor_storage.specs.Counts.{positions_at, positions_from, last_of, AreFew}
use Rattle.tensor_storage.specs.declared.level.StorageLevel.{StorageLevel}
use Rattle.tensor_storage.specs.declared.level.StorageLevel.TheVariants.{Dense as OfDense}
use Rattle.tensor_storage.specs.Levels.{meaning}
use Rattle.tensor_storage.specs.Stands.{MakesPath}
use Rattle.tensor_storage.specs.Storages.{in_level_order}
use Rattle.tensor_storage.specs.Tables.{Table}
use Rattle.tensor_storage.proofs.KindArms.{dense_is}
use Rattle.tns_io.specs.Positions.{product, IsBelow, position}
use Rattle.term_code.specs.DenseSinks.{HasSizes}
use Rattle.kernel_correctness.specs.Stores.{AreHeld, StartsFew}
use Rattle.kernel_correctness.specs.Results.{summed}

-- dense levels of these sizes, one below another
abbrev pub dense_levels : List ℕ → List StorageLevel
dense_levels sizes = map OfDense sizes

-- what is dense throughout is so at its first level, and at the others
pub first_dense : (l : FormatLevel) (ls : List FormatLevel) → AreAllDense (l ∷ ls) → l.letter ≡ Dense
first_dense l ls dense = dense 0 l (omega arith)

pub others_dense : (l : FormatLevel) (ls : List FormatLevel) → AreAllDense (l ∷ ls) → AreAllDense ls
others_dense l ls dense = λ k d h. dense (suc k) d (omega (arith, h))

-- levels of the kinds of a dense format are dense levels
pub levels_dense : (format : List FormatLevel) (levels : List StorageLevel) → AreAllDense format
    → map meaning.kind levels ≡ letters_of format → levels ≡ dense_levels (map meaning.size levels)
levels_dense [] [] dense same = refl
levels_dense [] (m ∷ ms) dense same = absurd (cc)
levels_dense (l ∷ ls) [] dense same = absurd (cc)
levels_dense (l ∷ ls) (m ∷ ms) dense same =
    let first : meaning.kind m ≡ l.letter = cc in
    let rest : map meaning.kind ms ≡ letters_of ls = cc in
    let is : m ≡ OfDense (meaning.size m) = dense_is m (first ∙ first_dense l ls dense) in
    let others = levels_dense ls ms (others_dense l ls dense) rest in
    λ i. is i ∷ others i

pub letters_dense : (format : List FormatLevel) (ranges : List ℕ) → AreAllDense format
    → map meaning.kind (dense_levels (in_level_order format ranges)) ≡ letters_of format
letters_dense [] ranges dense = refl
letters_dense (l ∷ ls) ranges dense =
    let first = sym (first_dense l ls dense) in
    let rest = letters_dense ls ranges (others_dense l ls dense) in
    λ i. first i ∷ rest i

-- the entries of a dense level are its coordinates, each at its place
record HasPlace (x base : ℕ) (e : Entry) : Type 0 where
  steps : ℕ
  coord : e.coord ≡ x + steps
  child : e.child ≡ one (base + steps)

entry_is : (count x base pos : ℕ) (e : Entry) → StandsAt pos e (dense.entries_from count x base) → HasPlace x base e
entry_is zero x base pos e h = absurd h
entry_is (suc count) x base pos e (inl h) = record {
  steps = 0;
  coord = ap (λ (f : Entry). f.coord) (sym h.1) ∙ omega arith;
  child = ap (λ (f : Entry). f.child) (sym h.1) ∙ ap one (omega arith);
}
entry_is (suc count) x base pos e (inr h) =
    let p = entry_is count (x + 1) (base + 1) pos e h in
    record {
      steps = suc p.steps;
      coord = p.coord ∙ omega arith;
      child = p.child ∙ ap one (omega arith);
    }

horner : (a n x p q : ℕ) → (a * n + x) * p + q ≡ a * (n * p) + (x * p + q)
horner a n x p q = omega arith

-- a path through dense levels ends at the position of its coordinates
pub dense_path : (sizes : List ℕ) (p : ℕ) (xs : List ℕ) (pos : ℕ) → Path meaning (dense_levels sizes) (one p) xs pos
    → pos ≡ p * product sizes + position sizes xs
dense_path [] p [] pos h = sym (ap (λ (s : Span). s.lo) h) ∙ omega arith
dense_path [] p (x ∷ xs) pos h = absurd h
dense_path (n ∷ ns) p [] pos h = absurd h
dense_path (n ∷ ns) p (x ∷ xs) pos h =
    let e : Entry = h.0 in
    let place : HasPlace 0 (p * n) e = entry_is n 0 (p * n) e.child.lo e h.1 in
    let steps : place.steps ≡ x = let c = place.coord in sym (omega (arith, c)) ∙ h.2 in
    let child : e.child ≡ one (p * n + x) = place.child ∙ ap (λ k. one (p * n + k)) steps in
    dense_path ns (p * n + x) xs pos (subst (λ (s : Span). Path meaning (dense_levels ns) s xs pos) child h.3)
    ∙ horner p n x (product ns) (position ns xs)

-- below the sizes all coordinates make paths
pub all_make : (table : Table) (format : List FormatLevel) (ranges : List ℕ) (d : ℕ) (begins : ℕ → Type 0) (xs : List ℕ)
    → AreAllDense format → IsBelow (in_level_order format ranges) xs
    → MakesPath table d (letters_of format) (in_level_order format ranges) begins xs
all_make table [] ranges d begins [] dense below = tt
all_make table [] ranges d begins (x ∷ xs) dense below = absurd below
all_make table (l ∷ ls) ranges d begins [] dense below = absurd below
all_make table (l ∷ ls) ranges d begins (x ∷ xs) dense below = (
  λ full. below.0,
  λ sparse. absurd (clash (properties l.letter).full (ap (λ k. (properties k).full) (first_dense l ls dense)) sparse),
  all_make table ls ranges (suc d) (λ i. begins i × (table.coords d i ≡ x)) xs (others_dense l ls dense) below.1,
)
  where
    clash : (b : Bool) → b ≡ true → b ≡ false → ⊥
    clash b h g = cc

-- a dense level has as many positions as sizes and parents tell, and so many parents has the level below
positions_dense : (table : Table) (d parents : ℕ) (letter : Letter) (letters : List Letter) (size : ℕ) → letter ≡ Dense
    → positions_at table d parents letter letters size ≡ parents * size
positions_dense table d parents letter letters size is = ap (λ k. positions_at table d parents k letters size) is

pub parents_dense : (letter : Letter) (size parents : ℕ) → letter ≡ Dense → parents_below letter size parents ≡ parents * size
parents_dense letter size parents is = ap (λ k. parents_below k size parents) is

-- in all as many as the product of the sizes
pub last_dense : (table : Table) (format : List FormatLevel) (ranges : List ℕ) (d parents : ℕ) → AreAllDense format
    → last_of parents (positions_from table d parents (letters_of format) (in_level_order format ranges))
    ≡ parents * product (in_level_order format ranges)
last_dense table [] ranges d parents dense = omega arith
last_dense table (l ∷ ls) ranges d parents dense =
    let size : ℕ = slice_index ranges l.mode in
    let letter = first_dense l ls dense in
    ap (λ n. last_of n (positions_from table (suc d) n (letters_of ls) (in_level_order ls ranges)))
    (positions_dense table d parents l.letter (letters_of ls) size letter)
    ∙ last_dense table ls ranges (suc d) (parents * size) (others_dense l ls dense)
    ∙ times parents size (product (in_level_order ls ranges))
  where
    times : (a b c : ℕ) → a * b * c ≡ a * (b * c)
    times a b c = omega arith

-- none above the limit where a run starts with few
pub few_dense : (table : Table) (format : List FormatLevel) (ranges : List ℕ) (d parents : ℕ) → AreAllDense format
    → StartsFew (letters_of format) (in_level_order format ranges) parents
    → AreFew (positions_from table d parents (letters_of format) (in_level_order format ranges))
few_dense table [] ranges d parents dense few = All-nil (λ count. count ≤ greatest_position_count)
few_dense table (l ∷ ls) ranges d parents dense few =
    let size : ℕ = slice_index ranges l.mode in
    let letter = first_dense l ls dense in
    let same : parents_below l.letter size parents ≡ positions_at table d parents l.letter (letters_of ls) size =
    parents_dense l.letter size parents letter ∙ sym (positions_dense table d parents l.letter (letters_of ls) size letter) in
    All-cons (λ count. count ≤ greatest_position_count) (positions_at table d parents l.letter (letters_of ls) size)
    (positions_from table (suc d) (positions_at table d parents l.letter (letters_of ls) size) (letters_of ls)
    (in_level_order ls ranges))
    (subst (λ n. n ≤ greatest_position_count) same few.0)
    (few_dense table ls ranges (suc d) (positions_at table d parents l.letter (letters_of ls) size) (others_dense l ls dense)
    (subst (StartsFew (letters_of ls) (in_level_order ls ranges)) same few.1))

pub product_few : (format : List FormatLevel) (ranges : List ℕ) (parents : ℕ) → AreAllDense format → parents ≤ greatest_position_count
    → StartsFew (letters_of format) (in_level_order format ranges) parents
    → parents * product (in_level_order format ranges) ≤ greatest_position_count
product_few [] ranges parents dense within few = omega (arith, within)
product_few (l ∷ ls) ranges parents dense within few =
    let size : ℕ = slice_index ranges l.mode in
    let same = parents_dense l.letter size parents (first_dense l ls dense) in
    let more = product_few ls ranges (parents * size) (others_dense l ls dense)
    (subst (λ n. n ≤ greatest_position_count) same few.0)
    (subst (StartsFew (letters_of ls) (in_level_order ls ranges)) same few.1) in
    let equal : parents * size * product (in_level_order ls ranges) ≡ parents * (size * product (in_level_order ls ranges)) = omega arith in
    omega (arith, more, equal)

-- arrays that hold the sizes hold the levels, also once numbers of positions are summed up
pub levels_held : (sizes : List ℕ) (level : ℕ) (arrays : Arrays) → HasSizes level sizes arrays
    → AreHeld (dense_levels sizes) 0 level (summed arrays)
levels_held [] level arrays h = tt
levels_held (n ∷ ns) level arrays h =
    (h.0, levels_held ns (suc level) arrays (subst (λ k. HasSizes k ns arrays) (omega arith) h.1))
