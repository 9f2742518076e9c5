-- The support of a statement has as many points as its result has rows.
use Rattle.std.specs.Prelude.{◌≡◌, ◌⊎◌, ℕ, zero, suc, ◌+◌, ◌≤◌, ◌<◌, List, [], ◌∷◌, length, slice_index}
use Rattle.std.proofs.Common.{◌∙◌, sym, ap, arith, inl, inr}
use Rattle.std.proofs.lemmas.Bool.{cases_lt}
use Rattle.std.proofs.lemmas.Grind.{same_number_lists}
use Rattle.std.proofs.lemmas.List.{length-map, get_or-map}
use Rattle.numbers.specs.Arithmetic.{Arithmetic}
use Rattle.level_core.specs.declared.letter.Letter.{Letter}
use Rattle.level_rows.proofs.TableLaws.{before}
use Rattle.format_spec.specs.declared.format.FormatLevel.{FormatLevel}
use Rattle.format_spec.specs.Formats.{IsFormat, letters_of, modes_of}
use Rattle.format_spec.proofs.Pigeonholes.{each_mode_stands}
use Rattle.index_notation.specs.declared.syntax.Statement.{Statement}
use Rattle.tensor_map.specs.Entries.{Entry}
use Rattle.concrete_notation.specs.Right.{IsInSupport}
use Rattle.concrete_notation.proofs.Points.{below_long}
use Rattle.tensor_storage.specs.Stands.{row_from}
use Rattle.tensor_storage.specs.Storages.{in_level_order}
use Rattle.kernel_correctness.specs.Results.{HasRow}
use Rattle.kernel_correctness.specs.Stores.{Store, told_by}
use Rattle.dense_results.proofs.Modes.{level_numbers}
use Rattle.sparse_results.specs.Results.{AreRowsOfResult}
use Rattle.sparse_results.specs.Tables.{table_of}
use Rattle.sparse_kernels.specs.Turns.{HasPoints}

-- rows with one path have the same coordinates
rows_agree : (coords : ℕ → ℕ → ℕ) (i j d : ℕ) (letters : List Letter) → row_from coords i d letters ≡ row_from coords j d letters
    → (e : ℕ) → e < length letters → coords (d + e) i ≡ coords (d + e) j
rows_agree coords i j d [] same e h = absurd (omega (arith, h))
rows_agree coords i j d (letter ∷ letters) same zero h =
    let here : d + 0 ≡ d = omega arith in
    let first : coords d i ≡ coords d j = cc in
    ap (λ k. coords k i) here ∙ first ∙ ap (λ k. coords k j) (sym here)
rows_agree coords i j d (letter ∷ letters) same (suc e) h =
    let next : d + suc e ≡ suc d + e = omega arith in
    let rest : row_from coords i (suc d) letters ≡ row_from coords j (suc d) letters = cc in
    ap (λ k. coords k i) next ∙ rows_agree coords i j (suc d) letters rest e (omega (arith, h)) ∙ ap (λ k. coords k j) (sym next)

-- coordinates for all modes are told by their order in the levels
order_tells : (format : List FormatLevel) → IsFormat format → (xs ys : List ℕ) → length xs ≡ length format → length ys ≡ length format
    → in_level_order format xs ≡ in_level_order format ys → xs ≡ ys
order_tells format is xs ys long also same = same_number_lists xs ys (long ∙ sym also) (λ m h. at m (omega (arith, h, long)))
  where
    coord : (zs : List ℕ) (k : ℕ) → k < length format
        → slice_index (in_level_order format zs) k ≡ slice_index zs (slice_index (modes_of format) k)
    coord zs k h =
        let many = is.order.count in
        ap (λ ns. slice_index ns k) (sym (level_numbers format zs))
        ∙ get_or-map (slice_index zs) (modes_of format) k 0 0 (omega (arith, h, many))

    at : (m : ℕ) → m < length format → slice_index xs m ≡ slice_index ys m
    at m h =
        let stands = each_mode_stands (length format) (modes_of format) m is.order h in
        ap (slice_index xs) (sym stands.2) ∙ sym (coord xs stands.0 stands.1) ∙ ap (λ ns. slice_index ns stands.0) same
        ∙ coord ys stands.0 stands.1 ∙ ap (slice_index ys) stands.2

module _ (a : Arithmetic) (s : Statement) (store : Store) (rows : List Entry) (are : AreRowsOfResult a s store rows)
    (format : IsFormat store.format) (many : length s.left.vars ≡ length store.format) where
  -- the coordinates are a point of the support, that of the row
  abbrev IsPointOf : ℕ → List ℕ → Type 0
  IsPointOf i coords = IsInSupport s (told_by a s store) coords × HasRow store.format (table_of rows) coords i

  abbrev point_at : (i : ℕ) → (i < length rows) ⊎ (length rows ≤ i) → List ℕ
  point_at i (inl h) = (are.named.none_else i h).0
  point_at i (inr h) = []

  abbrev point : ℕ → List ℕ
  point i = point_at i (cases_lt i (length rows))

  is_point : (i : ℕ) → i < length rows → IsPointOf i (point i)
  is_point i h = by (cases_lt i (length rows))
    where
      by : (c : (i < length rows) ⊎ (length rows ≤ i)) → IsPointOf i (point_at i c)
      by (inl g) = let p = are.named.none_else i g in (p.1, p.2)
      by (inr g) = absurd (omega (arith, h, g))

  coords_many : (coords : List ℕ) → IsInSupport s (told_by a s store) coords → length coords ≡ length store.format
  coords_many coords support = below_long (slice_index store.ranges) s.left.vars coords support.0 ∙ many

  -- no two rows have one point
  apart : (i j : ℕ) → i < j → j < length rows → point i ≡ point j → ⊥
  apart i j less h same =
      let p = is_point i (omega (arith, less, h)) in
      let q = is_point j h in
      let b = before (table_of rows).coords (length store.format) (length rows) i j are.order less h in
      let one : row_from (table_of rows).coords i 0 (letters_of store.format)
      ≡ row_from (table_of rows).coords j 0 (letters_of store.format) =
      p.1.1 ∙ ap (in_level_order store.format) same ∙ sym q.1.1 in
      let inside = b.1 in
      let smaller = b.3 in
      let letters_many = length-map store.format (λ (level : FormatLevel). level.letter) in
      let here : 0 + b.0 ≡ b.0 = omega arith in
      let equal : (table_of rows).coords b.0 i ≡ (table_of rows).coords b.0 j =
      ap (λ d. (table_of rows).coords d i) (sym here)
      ∙ rows_agree (table_of rows).coords i j 0 (letters_of store.format) one b.0 (omega (arith, inside, letters_many))
      ∙ ap (λ d. (table_of rows).coords d j) here in
      omega (arith, smaller, equal)

  found : (coords : List ℕ) → IsInSupport s (told_by a s store) coords → (i : ℕ) × (i < length rows) × (point i ≡ coords)
  found coords support =
      let n = are.named.named coords support in
      let p = is_point n.0 n.1.0 in (
        n.0,
        n.1.0,
        order_tells store.format format (point n.0) coords (coords_many (point n.0) p.0) (coords_many coords support)
            (sym p.1.1 ∙ n.1.1),
      )

  pub has_points : HasPoints s (told_by a s store) (length rows)
  has_points = record {
    point = point;
    there = λ i h. (is_point i h).0;
    once = apart;
    each = found;
  }
