-- A growth that is refused where rows are appended is one that the table of the whole result tells to be too large.
use Rattle.std.specs.Prelude.{◌≡◌, ◌⊎◌, ℕ, zero, suc, ◌+◌, ◌*◌, ◌≤◌, ◌<◌, Bool, true, false, if◌then◌else◌, List, ◌∷◌, ◌++◌, length}
use Rattle.std.specs.Prelude.{◌-◌, drop, not, slice_index, refl}
use Rattle.std.proofs.Common.{◌∙◌, sym, ap, subst, arith, inl, inr}
use Rattle.std.proofs.Math.Nat.{mul-le-mul_right}
use Rattle.std.proofs.lemmas.Bool.{cases_lt}
use Rattle.std.proofs.lemmas.List.{get_or_append_left, get_or-take, length-append}
use Rattle.kernel_code.specs.declared.syntax.Arr.{Arr}
use Rattle.kernel_code.specs.Widths.{slot_width}
use Rattle.tensor_map.specs.Entries.{Entry}
use Rattle.level_core.specs.declared.letter.Letter.{Letter}
use Rattle.level_core.specs.Kinds.{properties, capabilities, positions_for}
use Rattle.level_core.proofs.KindLaws.{are_of_a_kind}
use Rattle.level_rows.specs.Rows.{Rows, begun}
use Rattle.level_rows.specs.Tables.{Increase}
use Rattle.level_rows.proofs.RowLaws.{begun_upto, begun_yes, begun_no}
use Rattle.tensor_storage.specs.Chains.{chain_length}
use Rattle.tensor_storage.specs.Arranged.{no_entry}
use Rattle.tensor_storage.specs.Counts.{different, greatest_below, positions_at, positions_from}
use Rattle.tensor_storage.specs.Tables.{Table, agree, begins_at}
use Rattle.tensor_storage.proofs.Counts.{begun_is}
use Rattle.tensor_storage.proofs.Tables.{apart, agree_tells, agree_from}
use Rattle.level_appends.proofs.Keys.{SameKey, key_sym, before_along, row_order}
use Rattle.appended_results.specs.Heads.{letter_at, AreAppended, key_in, row_at, AreHeads}
use Rattle.appended_results.specs.Places.{through, first_at, positions_above}
use Rattle.appended_results.specs.Levels.{MayHold, PassesPlace}
use Rattle.appended_results.specs.Sink.{RefusesSome}
use Rattle.appended_results.specs.Tables.{NamesRows, PassesTable}
use Rattle.appended_results.proofs.HeadLaws.{letters_from}
use Rattle.appended_results.proofs.FinerLaws.{within_head}
use Rattle.appended_results.proofs.SumLaws.{drop_step}

-- where rows that increase are others' first coordinates, they begin no more positions
module _ (heads coords : ℕ → ℕ → ℕ) (head order n count : ℕ) (rise : Increase heads head n) (up : Increase coords order count)
    (to : ℕ → ℕ) (inside : (j : ℕ) → j < n → to j < count)
    (same : (j : ℕ) → j < n → SameKey head (λ d. coords d (to j)) (λ d. heads d j)) (within : head ≤ order) where
  abbrev rows : (ℕ → Bool) → Rows
  rows first = record { count = count; parent = λ i. i; coord = λ i. i; first = first }

  to_rises : (j : ℕ) → suc j < n → to j < to (suc j)
  to_rises j h =
      let b = before_along head (λ d. heads d j) (λ d. heads d (suc j)) (λ d. coords d (to j)) (λ d. coords d (to (suc j)))
      (key_sym head (λ d. coords d (to j)) (λ d. heads d j) (same j (omega (arith, h))))
      (key_sym head (λ d. coords d (to (suc j))) (λ d. heads d (suc j)) (same (suc j) h)) (rise j h) in
      row_order coords order count (to j) (to (suc j)) up (inside j (omega (arith, h))) (inside (suc j) h)
      (b.0, (let l = b.1 in omega (arith, l, within)), b.2, b.3)

  -- rows that differ have a position begun between them
  begun_between : (m i more : ℕ) → i + suc more < count → (SameKey m (λ d. coords d i) (λ d. coords d (i + suc more)) → ⊥)
      → begun (begins_at coords m) (suc i) < begun (begins_at coords m) (suc (i + suc more))
  begun_between m i zero h unlike = by_first (begins_at coords m (suc i)) refl
    where
      next : i + 1 ≡ suc i
      next = omega arith

      by_first : (b : Bool) → begins_at coords m (suc i) ≡ b
          → begun (begins_at coords m) (suc i) < begun (begins_at coords m) (suc (i + 1))
      by_first true is =
          let k = begun_yes (rows (begins_at coords m)) (suc i) is in
          subst (λ e. begun (begins_at coords m) (suc i) < begun (begins_at coords m) (suc e)) (sym next) (omega (arith, k))
      by_first false is =
          absurd (unlike (λ d l. agree_tells coords m i (suc i) (agrees (agree coords m i (suc i)) is) d l ∙ ap (coords d) (sym next)))
        where
          agrees : (b : Bool) → not b ≡ false → b ≡ true
          agrees true e = refl
          agrees false e = sym e
  begun_between m i (suc more) h unlike =
      by_first (begun_between m i more (omega (arith, h))) (agree coords m i (i + suc more)) refl
    where
      next : i + suc (suc more) ≡ suc (i + suc more)
      next = omega arith

      by_first : ((SameKey m (λ d. coords d i) (λ d. coords d (i + suc more)) → ⊥)
          → begun (begins_at coords m) (suc i) < begun (begins_at coords m) (suc (i + suc more)))
          → (b : Bool) → agree coords m i (i + suc more) ≡ b
          → begun (begins_at coords m) (suc i) < begun (begins_at coords m) (suc (i + suc (suc more)))
      by_first less false is =
          let before = less (λ s. apart (sym (agree_from coords m i (i + suc more) s) ∙ is)) in
          let after = begun_upto (rows (begins_at coords m)) (suc (i + suc more)) (suc (i + suc (suc more))) (omega arith) in
          omega (arith, before, after)
      by_first less true is = by_last (begins_at coords m (suc (i + suc more))) refl
        where
          agrees : (b : Bool) → not b ≡ false → b ≡ true
          agrees true e = refl
          agrees false e = sym e

          by_last : (b : Bool) → begins_at coords m (suc (i + suc more)) ≡ b
              → begun (begins_at coords m) (suc i) < begun (begins_at coords m) (suc (i + suc (suc more)))
          by_last true first =
              let k = begun_yes (rows (begins_at coords m)) (suc (i + suc more)) first in
              let before = begun_upto (rows (begins_at coords m)) (suc i) (suc (i + suc more)) (omega arith) in
              subst (λ e. begun (begins_at coords m) (suc i) < begun (begins_at coords m) (suc e)) (sym next) (omega (arith, k, before))
          by_last false first =
              absurd (unlike (λ d l. agree_tells coords m i (i + suc more) is d l
              ∙ agree_tells coords m (i + suc more) (suc (i + suc more))
              (agrees (agree coords m (i + suc more) (suc (i + suc more))) first) d l
              ∙ ap (coords d) (sym next)))

  begun_along : (m : ℕ) → m ≤ head → (j : ℕ) → j < n
      → begun (begins_at heads m) (suc j) ≤ begun (begins_at coords m) (suc (to j))
  begun_along m l zero h =
      let one : 1 ≤ begun (begins_at coords m) (suc (to 0)) = begun_upto (rows (begins_at coords m)) 1 (suc (to 0)) (omega arith) in
      one
  begun_along m l (suc j) h = by_first (begun_along m l j (omega (arith, h))) (begins_at heads m (suc j)) refl
    where
      less : to j < to (suc j)
      less = to_rises j h

      by_first : begun (begins_at heads m) (suc j) ≤ begun (begins_at coords m) (suc (to j)) → (b : Bool) → begins_at heads m (suc j) ≡ b
          → begun (begins_at heads m) (suc (suc j)) ≤ begun (begins_at coords m) (suc (to (suc j)))
      by_first before false is =
          let k = begun_no (rows (begins_at heads m)) (suc j) is in
          let more = begun_upto (rows (begins_at coords m)) (suc (to j)) (suc (to (suc j))) (omega (arith, less)) in
          omega (arith, before, k, more)
      by_first before true is =
          let k = begun_yes (rows (begins_at heads m)) (suc j) is in
          let at : to j + suc (to (suc j) - to j - 1) ≡ to (suc j) = omega (arith, less) in
          let inside_there = inside (suc j) h in
          let more = subst (λ e. begun (begins_at coords m) (suc (to j)) < begun (begins_at coords m) (suc e)) at
          (begun_between m (to j) (to (suc j) - to j - 1) (omega (arith, at, inside_there))
          (λ s. unlike (subst (λ e. SameKey m (λ d. coords d (to j)) (λ d. coords d e)) at s))) in
          omega (arith, before, k, more)
        where
          unlike : SameKey m (λ d. coords d (to j)) (λ d. coords d (to (suc j))) → ⊥
          unlike s =
              not_false (agree heads m j (suc j))
              (agree_from heads m j (suc j) (λ d g.
              sym (same j (omega (arith, h)) d (omega (arith, g, l))) ∙ s d g ∙ same (suc j) h d (omega (arith, g, l)))) is
            where
              not_false : (b : Bool) → b ≡ true → not b ≡ true → ⊥
              not_false true e f = apart (sym f)
              not_false false e f = apart (sym e)

  pub begun_fewer : (m : ℕ) → m ≤ head → begun (begins_at heads m) n ≤ begun (begins_at coords m) count
  begun_fewer m l = by_count n refl
    where
      by_count : (p : ℕ) → n ≡ p → begun (begins_at heads m) n ≤ begun (begins_at coords m) count
      by_count zero is = subst (λ p. begun (begins_at heads m) p ≤ begun (begins_at coords m) count) (sym is) (omega arith)
      by_count (suc p) is =
          let last = begun_along m l p (omega (arith, is)) in
          let there = inside p (omega (arith, is)) in
          let rest = begun_upto (rows (begins_at coords m)) (suc (to p)) count (omega (arith, there)) in
          subst (λ q. begun (begins_at heads m) q ≤ begun (begins_at coords m) count) (sym is) (omega (arith, last, rest))

-- the table's positions level by level
module _ (letters : List Letter) (sizes : List ℕ) (table : Table) (appended : AreAppended letters) (each : length sizes ≡ length letters)
    (up : Increase table.coords (length letters) table.count) where
  abbrev tabled : ℕ → ℕ
  tabled d = positions_above letters sizes table.coords table.count d

  tabled_at : (d : ℕ) → d < length letters
      → positions_at table d (tabled d) (letter_at letters d) (drop (suc d) letters) (slice_index sizes d) ≡ tabled (suc d)
  tabled_at d h = by_full (properties (letter_at letters d)).full refl
    where
      by_full : (b : Bool) → (properties (letter_at letters d)).full ≡ b
          → positions_at table d (tabled d) (letter_at letters d) (drop (suc d) letters) (slice_index sizes d) ≡ tabled (suc d)
      by_full true full =
          let kind = are_of_a_kind (letter_at letters d) in
          ap (λ a. if a then different table.coords (d + chain_length (letter_at letters d ∷ drop (suc d) letters)) table.count
          else positions_for (letter_at letters d) (slice_index sizes d) (tabled d)
          (greatest_below table.coords d table.count table.count)) (kind.not_both (kind.full_inserted full))
          ∙ ap (λ f. if f then tabled d * slice_index sizes d
          else (if (capabilities (letter_at letters d)).insert
          then tabled d * slot_width (greatest_below table.coords d table.count table.count) else 0)) full
          ∙ sym (ap (λ f. if f then tabled d * slice_index sizes d else begun (first_at letters table.coords d) table.count) full)
      by_full false sparse =
          ap (λ a. if a then different table.coords (d + chain_length (letter_at letters d ∷ drop (suc d) letters)) table.count
          else positions_for (letter_at letters d) (slice_index sizes d) (tabled d)
          (greatest_below table.coords d table.count table.count)) (appended d h sparse)
          ∙ ap (λ ls. different table.coords (d + chain_length ls) table.count) (sym (letters_from letters d h))
          ∙ sym (begun_is table.coords (length letters) table.count (through letters d) table.count up (omega arith))
          ∙ sym (ap (λ f. if f then tabled d * slice_index sizes d else begun (first_at letters table.coords d) table.count) sparse)

  tabled_here : (e d : ℕ) → d < length letters
      → slice_index (positions_from table d (tabled d) (drop d letters) (drop d sizes)) e
      ≡ slice_index (tabled (suc d) ∷ positions_from table (suc d) (tabled (suc d)) (drop (suc d) letters) (drop (suc d) sizes)) e
  tabled_here e d h =
      ap (λ ls. slice_index (positions_from table d (tabled d) ls (drop d sizes)) e) (letters_from letters d h)
      ∙ ap (λ ns. slice_index (positions_from table d (tabled d) (letter_at letters d ∷ drop (suc d) letters) ns) e)
      (drop_step sizes d (omega (arith, h, each)))
      ∙ ap (λ p. slice_index (p ∷ positions_from table (suc d) p (drop (suc d) letters) (drop (suc d) sizes)) e) (tabled_at d h)

  pub tabled_from : (e d : ℕ) → d + e < length letters
      → slice_index (positions_from table d (tabled d) (drop d letters) (drop d sizes)) e ≡ tabled (suc (d + e))
  tabled_from zero d h =
      let same : d ≡ d + 0 = omega arith in tabled_here 0 d (omega (arith, h)) ∙ ap (λ k. tabled (suc k)) same
  tabled_from (suc e) d h =
      let same : suc d + e ≡ d + suc e = omega arith in
      tabled_here (suc e) d (omega (arith, h)) ∙ tabled_from e (suc d) (omega (arith, h)) ∙ ap (λ k. tabled (suc k)) same

-- heads that the table's rows have tell no more positions than it does
module _ (letters : List Letter) (sizes : List ℕ) (head : ℕ) (heads : List (List ℕ)) (may : MayHold letters sizes head heads)
    (table : Table) (up : Increase table.coords (length letters) table.count) (to : ℕ → ℕ)
    (inside : (j : ℕ) → j < length heads → to j < table.count)
    (same : (j : ℕ) → j < length heads → SameKey head (λ d. table.coords d (to j)) (λ d. key_in heads d j)) where
  fewer : (e : ℕ) → e ≤ length letters
      → positions_above letters sizes (key_in heads) (length heads) e ≤ positions_above letters sizes table.coords table.count e
  fewer zero h = omega arith
  fewer (suc d) h = by_full (fewer d (omega (arith, h))) (properties (letter_at letters d)).full refl
    where
      headed : (properties (letter_at letters d)).full ≡ false → (d < head) ⊎ (head ≤ d) → d < head
      headed sparse (inl less) = less
      headed sparse (inr from) = apart (sym (may.is_head.tail d from (omega (arith, h))) ∙ sparse)

      by_full : positions_above letters sizes (key_in heads) (length heads) d ≤ positions_above letters sizes table.coords table.count d
          → (b : Bool) → (properties (letter_at letters d)).full ≡ b
          → (if (properties (letter_at letters d)).full
          then positions_above letters sizes (key_in heads) (length heads) d * slice_index sizes d
          else begun (first_at letters (key_in heads) d) (length heads))
          ≤ (if (properties (letter_at letters d)).full then positions_above letters sizes table.coords table.count d * slice_index sizes d
          else begun (first_at letters table.coords d) table.count)
      by_full above true full =
          subst (λ b. (if b then positions_above letters sizes (key_in heads) (length heads) d * slice_index sizes d
          else begun (first_at letters (key_in heads) d) (length heads))
          ≤ (if b then positions_above letters sizes table.coords table.count d * slice_index sizes d
          else begun (first_at letters table.coords d) table.count)) (sym full)
          (mul-le-mul_right (slice_index sizes d) above)
      by_full above false sparse =
          subst (λ b. (if b then positions_above letters sizes (key_in heads) (length heads) d * slice_index sizes d
          else begun (first_at letters (key_in heads) d) (length heads))
          ≤ (if b then positions_above letters sizes table.coords table.count d * slice_index sizes d
          else begun (first_at letters table.coords d) table.count)) (sym sparse)
          (begun_fewer (key_in heads) table.coords head (length letters) (length heads) table.count may.rise up to inside same
          may.is_head.within (through letters d)
          (within_head letters head d may.is_head may.chained (headed sparse (cases_lt d head))))

module _ (letters : List Letter) (sizes : List ℕ) (head : ℕ) (rows front rest : List Entry) (is : rows ≡ front ++ rest)
    (heads : List (List ℕ)) (are : AreHeads head front heads) (within : head ≤ length letters) (table : Table)
    (names : NamesRows (length letters) rows table) where
  front_row : (i : ℕ) → i < length front → i < length rows
  front_row i h = let k = ap length is in let l = length-append front rest in omega (arith, h, k, l)

  -- the table's row of a head
  pub row_of : (j : ℕ) → j < length heads → (k : ℕ) × (k < table.count) × SameKey head (λ d. table.coords d k) (λ d. key_in heads d j)
  row_of j h =
      let s = are.some j h in
      let r = names.each s.0 (front_row s.0 s.1) in (
        r.0,
        r.1,
        λ d l. r.2 d (omega (arith, l, within))
            ∙ ap (λ (rs : List Entry). slice_index (row_at rs s.0).coords d) is
            ∙ ap (λ (e : Entry). slice_index e.coords d) (get_or_append_left front rest no_entry s.0 s.1)
            ∙ sym (get_or-take head (row_at front s.0).coords d 0 l) ∙ ap (λ xs. slice_index xs d) s.2,
      )

  abbrev to_of : (j : ℕ) → (j < length heads) ⊎ (length heads ≤ j) → ℕ
  to_of j (inl h) = (row_of j h).0
  to_of j (inr h) = 0

  abbrev to : ℕ → ℕ
  to j = to_of j (cases_lt j (length heads))

  pub to_inside : (j : ℕ) → j < length heads → to_of j (cases_lt j (length heads)) < table.count
  to_inside j h = by_case (cases_lt j (length heads))
    where
      by_case : (c : (j < length heads) ⊎ (length heads ≤ j)) → to_of j c < table.count
      by_case (inl l) = (row_of j l).1
      by_case (inr l) = absurd (omega (arith, h, l))

  pub to_same : (j : ℕ) → j < length heads
      → SameKey head (λ d. table.coords d (to_of j (cases_lt j (length heads)))) (λ d. key_in heads d j)
  to_same j h = by_case (cases_lt j (length heads))
    where
      by_case : (c : (j < length heads) ⊎ (length heads ≤ j)) → SameKey head (λ d. table.coords d (to_of j c)) (λ d. key_in heads d j)
      by_case (inl l) = (row_of j l).2
      by_case (inr l) = absurd (omega (arith, h, l))

  pub front_passes : MayHold letters sizes head heads → (a : Arr) (count level : ℕ) → level < length letters
      → PassesPlace letters sizes heads level a count → PassesTable letters sizes table a count
  front_passes may a count level inside p = record {
    level = level;
    inside = inside;
    array = p.array;
    above = p.above;
    within =
        let few = fewer letters sizes head heads may table names.rise to to_inside to_same (suc level) (omega (arith, inside)) in
        let told = tabled_from letters sizes table may.appended may.each names.rise level 0 (omega (arith, inside)) in
        let most = p.within in
        let same : suc (0 + level) ≡ suc level = omega arith in
        let whole = ap (λ k. positions_above letters sizes table.coords table.count k) same in
        omega (arith, few, told, most, whole);
  }

-- so it is of each growth that the sink is refused
pub refused_passes : (letters : List Letter) (sizes : List ℕ) (head : ℕ) (rows : List Entry) (a : Arr) (count : ℕ)
    → RefusesSome letters sizes head rows a count → (table : Table) → NamesRows (length letters) rows table
    → PassesTable letters sizes table a count
refused_passes letters sizes head rows a count r table names =
    let z = r.refuses in
    front_passes letters sizes head rows r.front r.rest r.is z.heads z.are z.may.is_head.within table names z.may a count z.level z.inside
    z.passes
