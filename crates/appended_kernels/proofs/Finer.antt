-- The rows of a table that names the heads of a result: where each stands at each level, and how many positions there are.
use Rattle.std.specs.Prelude.{◌≡◌, ◌⊎◌, ℕ, zero, suc, ◌+◌, ◌*◌, ◌≤◌, ◌<◌, ◌&&◌, ◌==◌, not, Bool, true, false, if◌then◌else◌, List}
use Rattle.std.specs.Prelude.{[], ◌∷◌, length, drop, slice_index, refl}
use Rattle.std.proofs.Common.{◌∙◌, sym, ap, arith, inl, inr}
use Rattle.std.proofs.lemmas.Bool.{cases_lt}
use Rattle.std.proofs.lemmas.List.{drop_all}
use Rattle.level_core.specs.declared.letter.Letter.{Letter}
use Rattle.level_core.specs.Kinds.{properties}
use Rattle.level_rows.specs.Rows.{Rows, begun, place}
use Rattle.tensor_storage.specs.Tables.{Table, agree, begins_at}
use Rattle.tensor_storage.proofs.Tables.{agree_from}
use Rattle.tns_io.specs.Positions.{product, position}
use Rattle.level_appends.specs.Refined.{Refines}
use Rattle.level_appends.proofs.Keys.{SameKey}
use Rattle.level_appends.proofs.Matched.{Matches}
use Rattle.level_appends.proofs.Refining.{place_there, all_begun_there}
use Rattle.appended_results.specs.Heads.{letter_at, key_in}
use Rattle.appended_results.specs.Places.{through, first_at, place_above, positions_above, rows_above}
use Rattle.appended_results.specs.Levels.{MayHold}
use Rattle.appended_results.proofs.FinerLaws.{within_head}
use Rattle.appended_results.proofs.LevelSteps.{sparse_positions}
use Rattle.appended_results.proofs.SumLaws.{drop_step}

pub apart : {A : Type 0} → true ≡ false → A
apart e = absurd (never e)
  where
    never : true ≡ false → ⊥
    never e = cc

-- the position of each row of a table at the first d levels, where its rows stand for heads
abbrev pub place_of : List Letter → List ℕ → (ℕ → ℕ → ℕ) → (ℕ → ℕ → ℕ) → (ℕ → ℕ) → ℕ → ℕ → ℕ
place_of letters sizes heads coords to zero i = 0
place_of letters sizes heads coords to (suc d) i =
    if (properties (letter_at letters d)).full then place_of letters sizes heads coords to d i * slice_index sizes d + coords d i
    else place (first_at letters heads d) (to i)

pub full_spot : (letters : List Letter) (sizes : List ℕ) (heads coords : ℕ → ℕ → ℕ) (to : ℕ → ℕ) (d i : ℕ)
    → (properties (letter_at letters d)).full ≡ true
    → place_of letters sizes heads coords to (suc d) i ≡ place_of letters sizes heads coords to d i * slice_index sizes d + coords d i
full_spot letters sizes heads coords to d i full =
    ap (λ b. if b then place_of letters sizes heads coords to d i * slice_index sizes d + coords d i
    else place (first_at letters heads d) (to i)) full

pub sparse_spot : (letters : List Letter) (sizes : List ℕ) (heads coords : ℕ → ℕ → ℕ) (to : ℕ → ℕ) (d i : ℕ)
    → (properties (letter_at letters d)).full ≡ false
    → place_of letters sizes heads coords to (suc d) i ≡ place (first_at letters heads d) (to i)
sparse_spot letters sizes heads coords to d i sparse =
    ap (λ b. if b then place_of letters sizes heads coords to d i * slice_index sizes d + coords d i
    else place (first_at letters heads d) (to i)) sparse

-- rows that have the same first coordinates as heads agree as they do
agree_as : (coords heads : ℕ → ℕ → ℕ) (n i j k l : ℕ) → SameKey n (λ d. coords d i) (λ d. heads d k)
    → SameKey n (λ d. coords d j) (λ d. heads d l) → agree coords n i j ≡ agree heads n k l
agree_as coords heads zero i j k l p q = refl
agree_as coords heads (suc n) i j k l p q =
    ap (λ b. b && (coords n i == coords n j))
    (agree_as coords heads n i j k l (λ d h. p d (omega (arith, h))) (λ d h. q d (omega (arith, h))))
    ∙ ap (λ x. agree heads n k l && (x == coords n j)) (p n (omega arith))
    ∙ ap (λ y. agree heads n k l && (heads n k == y)) (q n (omega arith))

-- the rows that a level of the head is given, with these parents
abbrev pub finer : List Letter → Table → (ℕ → ℕ) → ℕ → Rows
finer letters table parent d =
    record { count = table.count; parent = parent; coord = table.coords d; first = begins_at table.coords (through letters d) }

module _ (letters : List Letter) (sizes : List ℕ) (head : ℕ) (heads : List (List ℕ)) (may : MayHold letters sizes head heads)
    (table : Table) (to : ℕ → ℕ) (matches : Matches head (key_in heads) (length heads) table.coords table.count to) where
  -- a row stands at a level of the head where its head does
  pub place_headed : (d : ℕ) → d ≤ head → (i : ℕ) → i < table.count
      → place_of letters sizes (key_in heads) table.coords to d i ≡ place_above letters sizes (key_in heads) d (to i)
  place_headed zero h i inside = refl
  place_headed (suc d) h i inside =
      by_full (properties (letter_at letters d)).full (place_headed d (omega (arith, h)) i inside)
    where
      by_full : (b : Bool) → place_of letters sizes (key_in heads) table.coords to d i ≡ place_above letters sizes (key_in heads) d (to i)
          → (if b then place_of letters sizes (key_in heads) table.coords to d i * slice_index sizes d + table.coords d i
          else place (first_at letters (key_in heads) d) (to i))
          ≡ (if b then place_above letters sizes (key_in heads) d (to i) * slice_index sizes d + key_in heads d (to i)
          else place (first_at letters (key_in heads) d) (to i))
      by_full true up =
          ap (λ p. p * slice_index sizes d + table.coords d i) up
          ∙ ap (λ x. place_above letters sizes (key_in heads) d (to i) * slice_index sizes d + x)
          (matches.same i inside d (omega (arith, h)))
      by_full false up = refl

  module _ (d : ℕ) (headed : d < head) (parent : ℕ → ℕ)
      (above : (i : ℕ) → i < table.count → parent i ≡ place_above letters sizes (key_in heads) d (to i)) where
    key_to : (i : ℕ) → i < table.count → SameKey (through letters d) (λ e. table.coords e i) (λ e. key_in heads e (to i))
    key_to i h e l =
        let u = within_head letters head d may.is_head may.chained headed in matches.same i h e (omega (arith, l, u))

    -- the table's rows are the heads', told more finely
    pub refines : Refines (rows_above letters sizes (key_in heads) (length heads) d) (finer letters table parent d) to
    refines = record {
      within = matches.within;
      parent = above;
      coord = λ i h. matches.same i h d headed;
      start = λ h. (matches.start h, refl);
      step = λ i h. by_step i h (matches.step i h);
      ends = matches.ends;
      none = matches.none;
    }
      where
        by_step : (i : ℕ) → suc i < table.count → (to (suc i) ≡ to i) ⊎ (to (suc i) ≡ suc (to i))
            → ((to (suc i) ≡ to i) × (begins_at table.coords (through letters d) (suc i) ≡ false))
            ⊎ ((to (suc i) ≡ suc (to i)) × (begins_at table.coords (through letters d) (suc i)
            ≡ begins_at (key_in heads) (through letters d) (suc (to i))))
        by_step i h (inl same) =
            inl (
              same,
              ap not (agree_from table.coords (through letters d) i (suc i)
                  (λ e l. key_to i (omega (arith, h)) e l ∙ ap (key_in heads e) (sym same) ∙ sym (key_to (suc i) h e l))),
            )
        by_step i h (inr next) =
            inr (
              next,
              ap not (agree_as table.coords (key_in heads) (through letters d) i (suc i) (to i) (suc (to i))
                  (key_to i (omega (arith, h))) (λ e l. key_to (suc i) h e l ∙ ap (key_in heads e) next)),
            )

    -- so each row begins as many positions as its head, and stands there
    pub finer_place : (properties (letter_at letters d)).full ≡ false → (i : ℕ) → i < table.count
        → place (begins_at table.coords (through letters d)) i ≡ place_of letters sizes (key_in heads) table.coords to (suc d) i
    finer_place sparse i h =
        place_there (rows_above letters sizes (key_in heads) (length heads) d) (finer letters table parent d) to refines i h
        ∙ sym (sparse_spot letters sizes (key_in heads) table.coords to d i sparse)

    pub finer_begun : (properties (letter_at letters d)).full ≡ false
        → begun (begins_at table.coords (through letters d)) table.count
        ≡ positions_above letters sizes (key_in heads) (length heads) (suc d)
    finer_begun sparse =
        all_begun_there (rows_above letters sizes (key_in heads) (length heads) d) (finer letters table parent d) to refines
        ∙ sym (sparse_positions letters sizes (key_in heads) (length heads) d sparse)

  -- a level that isn't full is one of the head's
  pub headed_by : (d : ℕ) → d < length letters → (properties (letter_at letters d)).full ≡ false → d < head
  headed_by d inside sparse = by_order (cases_lt d head)
    where
      by_order : (d < head) ⊎ (head ≤ d) → d < head
      by_order (inl less) = less
      by_order (inr from) = apart (sym (may.is_head.tail d from inside) ∙ sparse)

  -- below the head a row stands by its coordinates there
  spread : (p n c m q : ℕ) → (p * n + c) * m + q ≡ p * (n * m) + (c * m + q)
  spread p n c m q = grind arith

  pub place_tail : (row : List ℕ) (i : ℕ) → length row ≡ length letters → ((e : ℕ) → table.coords e i ≡ slice_index row e)
      → (more d : ℕ) → head ≤ d → d + more ≡ length letters
      → place_of letters sizes (key_in heads) table.coords to (length letters) i
      ≡ place_of letters sizes (key_in heads) table.coords to d i * product (drop d sizes) + position (drop d sizes) (drop d row)
  place_tail row i long is zero d from at =
      let here : d ≡ length letters = omega (arith, at) in
      let each = may.each in
      let none : drop d sizes ≡ [] = drop_all d sizes (omega (arith, each, here)) in
      let one : place_of letters sizes (key_in heads) table.coords to d i
      ≡ place_of letters sizes (key_in heads) table.coords to d i * 1 + 0 = omega arith in
      ap (λ e. place_of letters sizes (key_in heads) table.coords to e i) (sym here) ∙ one
      ∙ ap (λ ns. place_of letters sizes (key_in heads) table.coords to d i * product ns + position ns (drop d row)) (sym none)
  place_tail row i long is (suc more) d from at =
      let inside : d < length letters = omega (arith, at) in
      let each = may.each in
      let rest = place_tail row i long is more (suc d) (omega (arith, from)) (omega (arith, at)) in
      let next = full_spot letters sizes (key_in heads) table.coords to d i (may.is_head.tail d from inside)
      ∙ ap (λ x. place_of letters sizes (key_in heads) table.coords to d i * slice_index sizes d + x) (is d) in
      let sizes_left = drop_step sizes d (omega (arith, each, inside)) in
      let row_left = drop_step row d (omega (arith, long, inside)) in
      rest
      ∙ ap (λ p. p * product (drop (suc d) sizes) + position (drop (suc d) sizes) (drop (suc d) row)) next
      ∙ spread (place_of letters sizes (key_in heads) table.coords to d i) (slice_index sizes d) (slice_index row d)
      (product (drop (suc d) sizes)) (position (drop (suc d) sizes) (drop (suc d) row))
      ∙ ap (λ ns. place_of letters sizes (key_in heads) table.coords to d i * product ns
      + position ns (slice_index row d ∷ drop (suc d) row)) (sym sizes_left)
      ∙ ap (λ cs. place_of letters sizes (key_in heads) table.coords to d i * product (drop d sizes) + position (drop d sizes) cs)
      (sym row_left)
