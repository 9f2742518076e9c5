-- What a kernel's result starts with, level by level: rows may be appended to it.
use Rattle.std.specs.Prelude.{◌≡◌, ◌⊎◌, ℕ, zero, suc, ◌+◌, ◌≤◌, ◌<◌, ◌&&◌, not, Bool, true, false, if◌then◌else◌, List, [], ◌∷◌}
use Rattle.std.specs.Prelude.{length, drop, replicate, slice_index, Some, refl}
use Rattle.std.specs.List.{list_all, list_any}
use Rattle.std.proofs.Common.{◌∙◌, sym, ap, subst, arith, inl, inr}
use Rattle.std.proofs.lemmas.Bool.{cases_lt}
use Rattle.std.proofs.lemmas.List.{drop_all}
use Rattle.limits.specs.Limits.{greatest_position_count}
use Rattle.limits.proofs.Limits.{some_positions}
use Rattle.kernel_code.specs.declared.syntax.Arr.TheVariants.{Values}
use Rattle.level_core.specs.declared.letter.Letter.{Letter}
use Rattle.level_core.specs.Kinds.{properties, capabilities}
use Rattle.level_core.specs.Laws.{AreAtStart}
use Rattle.level_core.specs.Meaning.{Arrays}
use Rattle.level_core.proofs.KindLaws.{are_of_a_kind, inserted_else}
use Rattle.format_spec.specs.declared.format.FormatLevel.{FormatLevel}
use Rattle.format_spec.specs.Formats.{letters_of}
use Rattle.kernel_correctness.specs.Stores.{StartsBelow, StartsFew}
use Rattle.row_orders.specs.Heads.{is_dense, head_levels}
use Rattle.row_orders.specs.Takings.{is_unordered}
use Rattle.row_orders.proofs.Orders.{no_head}
use Rattle.concrete_notation.proofs.Points.{neither}
use Rattle.appended_results.specs.Heads.{letter_at, IsHead, AreAppended}
use Rattle.appended_results.specs.Starts.{starting, StartsResult}
use Rattle.appended_results.proofs.HeadLaws.{letters_from}
use Rattle.appended_results.proofs.StartLaws.{starting_below}
use Rattle.appended_results.proofs.SumLaws.{drop_step}
use Rattle.appended_kernels.proofs.Finer.{apart}

-- ---- the levels' arrays
module _ (letters : List Letter) (sizes : List ℕ) (each : length sizes ≡ length letters) where
  -- a level more of what is told from the top
  module _ (d : ℕ) (inside : d < length letters) where
    pub letters_left : drop d letters ≡ letter_at letters d ∷ drop (suc d) letters
    letters_left = letters_from letters d inside

    pub sizes_left : drop d sizes ≡ slice_index sizes d ∷ drop (suc d) sizes
    sizes_left = drop_step sizes d (omega (arith, inside, each))

  none_left : (d : ℕ) → length letters ≤ d → (drop d letters ≡ []) × (drop d sizes ≡ [])
  none_left d past = (drop_all d letters past, drop_all d sizes (omega (arith, past, each)))

  module _ (nothing : ℕ) (arrays : Arrays) where
    abbrev HasLevel : ℕ → Type 0
    HasLevel e = AreAtStart (letter_at letters e) (slice_index sizes e) (starting letters sizes e) 0 (suc e) arrays

    starts_from : (more d : ℕ) → d + more ≡ length letters
        → StartsBelow nothing (drop d letters) (drop d sizes) (starting letters sizes d) (suc d) arrays
        → ((e : ℕ) → d ≤ e → e < length letters
        → AreAtStart (letter_at letters e) (slice_index sizes e) (starting letters sizes e) 0 (suc e) arrays)
        × (arrays (Values 0) ≡ Some (replicate (starting letters sizes (length letters)) nothing))
    starts_from zero d at h =
        let here : d ≡ length letters = omega (arith, at) in
        let none = none_left d (omega (arith, here)) in
        let values : arrays (Values 0) ≡ Some (replicate (starting letters sizes d) nothing) =
        subst (λ ns. StartsBelow nothing [] ns (starting letters sizes d) (suc d) arrays) none.1
        (subst (λ ls. StartsBelow nothing ls (drop d sizes) (starting letters sizes d) (suc d) arrays) none.0 h) in (
          (λ e from l. absurd (omega (arith, from, l, here))),
          values ∙ ap (λ n. Some (replicate (starting letters sizes n) nothing)) here,
        )
    starts_from (suc more) d at h =
        let inside : d < length letters = omega (arith, at) in
        let opened = subst
        (λ ns. StartsBelow nothing (letter_at letters d ∷ drop (suc d) letters) ns (starting letters sizes d) (suc d) arrays)
        (sizes_left d inside)
        (subst (λ ls. StartsBelow nothing ls (drop d sizes) (starting letters sizes d) (suc d) arrays) (letters_left d inside) h) in
        let rest = starts_from more (suc d) (omega (arith, at))
        (subst (λ n. StartsBelow nothing (drop (suc d) letters) (drop (suc d) sizes) n (suc (suc d)) arrays)
        (sym (starting_below letters sizes d)) opened.1) in (
          (λ e from l. by_order e from l opened.0 rest.0 (cases_lt d e)),
          rest.1,
        )
      where
        by_order : (e : ℕ) → d ≤ e → e < length letters
            → AreAtStart (letter_at letters d) (slice_index sizes d) (starting letters sizes d) 0 (suc d) arrays
            → ((n : ℕ) → suc d ≤ n → n < length letters → HasLevel n) → (d < e) ⊎ (e ≤ d) → HasLevel e
        by_order e from l here rest (inl less) = rest e less l
        by_order e from l here rest (inr upto) =
            let same : d ≡ e = omega (arith, from, upto) in subst HasLevel same here

    pub starts_result : StartsBelow nothing letters sizes 1 1 arrays → StartsResult letters sizes nothing arrays
    starts_result h =
        let all = starts_from (length letters) 0 (omega arith) h in
        record { levels = λ e l. all.0 e (omega arith) l; values = all.1 }

  -- ---- the numbers of positions
  few_from : (more d : ℕ) → d + more ≡ length letters → starting letters sizes d ≤ greatest_position_count
      → StartsFew (drop d letters) (drop d sizes) (starting letters sizes d)
      → (e : ℕ) → d ≤ e → e ≤ length letters → starting letters sizes e ≤ greatest_position_count
  few_from zero d at here h e from l =
      let same : d ≡ e = omega (arith, at, from, l) in subst (λ n. starting letters sizes n ≤ greatest_position_count) same here
  few_from (suc more) d at here h e from l =
      let inside : d < length letters = omega (arith, at) in
      let opened = subst (λ ns. StartsFew (letter_at letters d ∷ drop (suc d) letters) ns (starting letters sizes d)) (sizes_left d inside)
      (subst (λ ls. StartsFew ls (drop d sizes) (starting letters sizes d)) (letters_left d inside) h) in
      let below : starting letters sizes (suc d) ≤ greatest_position_count =
      subst (λ n. n ≤ greatest_position_count) (sym (starting_below letters sizes d)) opened.0 in
      let rest = subst (StartsFew (drop (suc d) letters) (drop (suc d) sizes)) (sym (starting_below letters sizes d)) opened.1 in
      by_order (few_from more (suc d) (omega (arith, at)) below rest e) (cases_lt d e)
    where
      by_order : (suc d ≤ e → e ≤ length letters → starting letters sizes e ≤ greatest_position_count) → (d < e) ⊎ (e ≤ d)
          → starting letters sizes e ≤ greatest_position_count
      by_order again (inl less) = again less l
      by_order again (inr upto) =
          let same : d ≡ e = omega (arith, from, upto) in subst (λ n. starting letters sizes n ≤ greatest_position_count) same here

  pub starts_few : StartsFew letters sizes 1 → (e : ℕ) → e ≤ length letters → starting letters sizes e ≤ greatest_position_count
  starts_few h e l = few_from (length letters) 0 (omega arith) some_positions h e (omega arith) l

-- ---- the kinds of the levels
-- where no level is without order, each that isn't full is appended to
pub all_appended : (levels : List FormatLevel) → list_any is_unordered levels ≡ false → AreAppended (letters_of levels)
all_appended [] none d inside sparse = absurd (omega (arith, inside))
all_appended (level ∷ levels) none zero inside sparse =
    by_append (capabilities level.letter).append refl
  where
    ordered : (b : Bool) → (properties level.letter).ordered ≡ b → (properties level.letter).ordered ≡ true
    ordered true is = is
    ordered false is = apart (sym (ap not is) ∙ (neither (is_unordered level) (list_any is_unordered levels) none).0)

    by_append : (b : Bool) → (capabilities level.letter).append ≡ b → (capabilities level.letter).append ≡ true
    by_append true is = is
    by_append false is =
        apart (sym (ordered (properties level.letter).ordered refl)
        ∙ (are_of_a_kind level.letter).inserted_unordered (inserted_else level.letter is) sparse)
all_appended (level ∷ levels) none (suc d) inside sparse =
    all_appended levels (neither (is_unordered level) (list_any is_unordered levels) none).1 d (omega (arith, inside)) sparse

each_dense : (levels : List FormatLevel) → list_all is_dense levels ≡ true → (d : ℕ) → d < length (letters_of levels)
    → (properties (letter_at (letters_of levels) d)).full ≡ true
each_dense [] all d inside = absurd (omega (arith, inside))
each_dense (level ∷ levels) all d inside = by_first (is_dense level) refl (each_dense levels) d inside
  where
    by_first : (b : Bool) → is_dense level ≡ b
        → (list_all is_dense levels ≡ true → (e : ℕ) → e < length (letters_of levels)
        → (properties (letter_at (letters_of levels) e)).full ≡ true)
        → (e : ℕ) → e < length (letters_of (level ∷ levels)) → (properties (letter_at (letters_of (level ∷ levels)) e)).full ≡ true
    by_first true is again zero l = is
    by_first true is again (suc e) l = again (sym (ap (λ b. b && list_all is_dense levels) is) ∙ all) e (omega (arith, l))
    by_first false is again e l = apart (sym all ∙ ap (λ b. b && list_all is_dense levels) is)

all_dense : (levels : List FormatLevel)
    → ((d : ℕ) → d < length (letters_of levels) → (properties (letter_at (letters_of levels) d)).full ≡ true)
    → list_all is_dense levels ≡ true
all_dense [] each = refl
all_dense (level ∷ levels) each =
    ap (λ b. b && list_all is_dense levels) (each 0 (omega arith)) ∙ all_dense levels (λ d l. each (suc d) (omega (arith, l)))

-- the head is as long as the levels through the last that isn't dense are many
pub head_long : (levels : List FormatLevel) (head : ℕ) → IsHead (letters_of levels) head → length (head_levels levels) ≡ head
head_long [] head is = absurd (let w = is.within in let m = is.some in omega (arith, w, m))
head_long (level ∷ levels) zero is = absurd (let m = is.some in omega (arith, m))
head_long (level ∷ levels) (suc zero) is =
    let rest : list_all is_dense levels ≡ true =
    all_dense levels (λ d l. is.tail (suc d) (omega arith) (omega (arith, l))) in
    ap (λ b. length (if b && list_all is_dense levels then [] else (level ∷ head_levels levels))) (is.last 0 refl)
    ∙ ap (λ ls. suc (length ls)) (no_head levels rest)
head_long (level ∷ levels) (suc (suc head)) is =
    ap (λ b. length (if is_dense level && b then [] else (level ∷ head_levels levels))) (some (list_all is_dense levels) refl)
    ∙ neither_way (is_dense level) ∙ ap suc (head_long levels (suc head) below)
  where
    below : IsHead (letters_of levels) (suc head)
    below = record {
      within = (let w = is.within in omega (arith, w));
      some = omega arith;
      last = λ d e. is.last (suc d) (omega (arith, e));
      tail = λ d from l. is.tail (suc d) (omega (arith, from)) (omega (arith, l));
    }

    some : (b : Bool) → list_all is_dense levels ≡ b → list_all is_dense levels ≡ false
    some false e = e
    some true e =
        let w = below.within in
        apart (sym (each_dense levels e head (omega (arith, w))) ∙ below.last head refl)

    neither_way : (b : Bool) → length (if b && false then [] else (level ∷ head_levels levels)) ≡ suc (length (head_levels levels))
    neither_way true = refl
    neither_way false = refl
