-- A level to which heads are appended is one to which the rows of a table are that name the same heads.
use Rattle.std.specs.Prelude.{◌≡◌, ◌⊎◌, ℕ, zero, suc, ◌+◌, ◌-◌, ◌≤◌, ◌<◌, ◌&&◌, ◌==◌, not, Bool, true, false, List, [], ◌∷◌, length, drop}
use Rattle.std.specs.Prelude.{slice_index, refl}
use Rattle.std.proofs.Common.{◌∙◌, sym, ap, subst, arith, inl, inr}
use Rattle.std.proofs.lemmas.Bool.{cases_lt}
use Rattle.std.proofs.lemmas.List.{drop_all}
use Rattle.kernel_code.specs.Meaning.{State}
use Rattle.level_core.specs.declared.letter.Letter.{Letter}
use Rattle.level_core.specs.Kinds.{properties}
use Rattle.level_core.proofs.KindLaws.{are_of_a_kind}
use Rattle.level_rows.specs.Rows.{Rows, rows_at}
use Rattle.format_spec.specs.Formats.{Chained}
use Rattle.tensor_storage.specs.Chains.{chain_length}
use Rattle.tensor_storage.specs.Levels.{meaning}
use Rattle.tensor_storage.specs.Tables.{Table, agree, begins_at, keys_of}
use Rattle.tensor_storage.proofs.Chains.{chain_of_unique, chain_of_groups}
use Rattle.tensor_storage.proofs.Tables.{agree_from}
use Rattle.level_appends.specs.Appended.{LevelFilled}
use Rattle.level_appends.specs.Refined.{Refines}
use Rattle.level_appends.proofs.Keys.{SameKey}
use Rattle.level_appends.proofs.Matched.{Matches}
use Rattle.level_appends.proofs.Refining.{refined_filled}
use Rattle.appended_results.specs.Heads.{letter_at, IsHead, key_in}
use Rattle.appended_results.specs.Places.{through, place_above, positions_above, rows_above}
use Rattle.appended_results.specs.Levels.{MayHold}
use Rattle.appended_results.specs.Ends.{LevelEnds}
use Rattle.appended_results.proofs.HeadLaws.{letters_from}

apart : {A : Type 0} → true ≡ false → A
apart e = absurd (never e)
  where
    never : true ≡ false → ⊥
    never e = cc

-- the levels from one on keep the rule of chains
chained_from : (letters : List Letter) (groups : Bool) (d : ℕ) → d ≤ length letters → Chained groups letters
    → (g : Bool) × Chained g (drop d letters)
chained_from letters groups zero h c = (groups, c)
chained_from [] groups (suc d) h c = absurd (omega (arith, h))
chained_from (letter ∷ letters) groups (suc d) h c = chained_from letters (not (properties letter).unique) d (omega (arith, h)) c.1

-- the last level of the head has no groups: none below it is branchless
last_unique : (letters : List Letter) (head : ℕ) → IsHead letters head → Chained false letters
    → (properties (letter_at letters (head - 1))).unique ≡ true
last_unique letters head is chained = by_unique (properties (letter_at letters (head - 1))).unique refl
  where
    inside : head - 1 < length letters
    inside = let w = is.within in let m = is.some in omega (arith, w, m)

    next : suc (head - 1) ≡ head
    next = let m = is.some in omega (arith, m)

    here : Chained (not (properties (letter_at letters (head - 1))).unique) (drop head letters)
    here =
        let c = chained_from letters false (head - 1) (omega (arith, inside)) chained in
        subst (λ k. Chained (not (properties (letter_at letters (head - 1))).unique) (drop k letters)) next
        ((subst (Chained c.0) (letters_from letters (head - 1) inside) c.1).1)

    branches : (head < length letters) ⊎ (length letters ≤ head) → not (properties (letter_at letters (head - 1))).unique ≡ false
    branches (inl less) =
        let c = subst (Chained (not (properties (letter_at letters (head - 1))).unique)) (letters_from letters head less) here in
        sym c.0 ∙ (are_of_a_kind (letter_at letters head)).full_branches (is.tail head (omega arith) less)
    branches (inr none) =
        subst (Chained (not (properties (letter_at letters (head - 1))).unique)) (drop_all head letters none) here

    by_unique : (b : Bool) → (properties (letter_at letters (head - 1))).unique ≡ b
        → (properties (letter_at letters (head - 1))).unique ≡ true
    by_unique true u = u
    by_unique false u = apart (sym (ap not u) ∙ branches (cases_lt head (length letters)))

through_here : (letters : List Letter) (d : ℕ) → d < length letters
    → through letters d ≡ d + chain_length (letter_at letters d ∷ drop (suc d) letters)
through_here letters d inside = ap (λ ls. d + chain_length ls) (letters_from letters d inside)

ends_here : (letters : List Letter) (d : ℕ) → d < length letters → (properties (letter_at letters d)).unique ≡ true
    → through letters d ≡ suc d
ends_here letters d inside u =
    let k = chain_of_unique (letter_at letters d) (drop (suc d) letters) u in let t = through_here letters d inside in omega (arith, t, k)

goes_on : (letters : List Letter) (d : ℕ) → d < length letters → (properties (letter_at letters d)).unique ≡ false
    → through letters d ≡ through letters (suc d)
goes_on letters d inside u =
    let k = chain_of_groups (letter_at letters d) (drop (suc d) letters) u in
    let t = through_here letters d inside in
    omega (arith, t, k)

-- each chain of the head ends within it
within_from : (letters : List Letter) (head more d : ℕ) → IsHead letters head → Chained false letters → d + suc more ≡ head
    → through letters d ≤ head
within_from letters head zero d is chained at =
    let w = is.within in
    let last : head - 1 ≡ d = omega (arith, at) in
    let u = ap (λ k. (properties (letter_at letters k)).unique) (sym last) ∙ last_unique letters head is chained in
    let e = ends_here letters d (omega (arith, w, at)) u in
    omega (arith, e, at)
within_from letters head (suc more) d is chained at =
    by_unique (within_from letters head more (suc d) is chained (omega (arith, at))) (properties (letter_at letters d)).unique refl
  where
    inside : d < length letters
    inside = let w = is.within in omega (arith, w, at)

    by_unique : through letters (suc d) ≤ head → (b : Bool) → (properties (letter_at letters d)).unique ≡ b → through letters d ≤ head
    by_unique deeper true u = let e = ends_here letters d inside u in omega (arith, e, at)
    by_unique deeper false u = let e = goes_on letters d inside u in omega (arith, e, deeper)

pub within_head : (letters : List Letter) (head d : ℕ) → IsHead letters head → Chained false letters → d < head → through letters d ≤ head
within_head letters head d is chained h =
    within_from letters head (head - suc d) d is chained (omega (arith, h))

-- rows that have the same first coordinates as heads agree as they do
agree_as : (coords heads : ℕ → ℕ → ℕ) (n i j k l : ℕ) → SameKey n (λ d. coords d i) (λ d. heads d k)
    → SameKey n (λ d. coords d j) (λ d. heads d l) → agree coords n i j ≡ agree heads n k l
agree_as coords heads zero i j k l p q = refl
agree_as coords heads (suc n) i j k l p q =
    ap (λ b. b && (coords n i == coords n j))
    (agree_as coords heads n i j k l (λ d h. p d (omega (arith, h))) (λ d h. q d (omega (arith, h))))
    ∙ ap (λ x. agree heads n k l && (x == coords n j)) (p n (omega arith))
    ∙ ap (λ y. agree heads n k l && (heads n k == y)) (q n (omega arith))

module _ (letters : List Letter) (sizes : List ℕ) (head : ℕ) (heads : List (List ℕ)) (may : MayHold letters sizes head heads)
    (table : Table) (to : ℕ → ℕ) (matches : Matches head (key_in heads) (length heads) table.coords table.count to)
    (d : ℕ) (headed : d < head) (ps : List ℕ)
    (above : (i : ℕ) → i < table.count → slice_index ps i ≡ place_above letters sizes (key_in heads) d (to i)) where
  abbrev rows : Rows
  rows = rows_above letters sizes (key_in heads) (length heads) d

  abbrev finer : Rows
  finer = rows_at (keys_of table d (through letters d)) ps

  upto : through letters d ≤ head
  upto = within_head letters head d may.is_head may.chained headed

  key_to : (i : ℕ) → i < table.count → SameKey (through letters d) (λ e. table.coords e i) (λ e. key_in heads e (to i))
  key_to i h e l = let u = upto in matches.same i h e (omega (arith, l, u))

  refines : Refines (rows_above letters sizes (key_in heads) (length heads) d) (rows_at (keys_of table d (through letters d)) ps) to
  refines = record {
    within = matches.within;
    parent = above;
    coord = λ i h. matches.same i h d headed;
    start = λ h. (matches.start h, refl);
    step = λ i h. by_step i h (matches.step i h);
    ends = matches.ends;
    none = matches.none;
  }
    where
      by_step : (i : ℕ) → suc i < table.count → (to (suc i) ≡ to i) ⊎ (to (suc i) ≡ suc (to i))
          → ((to (suc i) ≡ to i) × (begins_at table.coords (through letters d) (suc i) ≡ false))
          ⊎ ((to (suc i) ≡ suc (to i)) × (begins_at table.coords (through letters d) (suc i)
          ≡ begins_at (key_in heads) (through letters d) (suc (to i))))
      by_step i h (inl same) =
          inl (
            same,
            ap not (agree_from table.coords (through letters d) i (suc i)
                (λ e l. key_to i (omega (arith, h)) e l ∙ ap (key_in heads e) (sym same) ∙ sym (key_to (suc i) h e l))),
          )
      by_step i h (inr next) =
          inr (
            next,
            ap not (agree_as table.coords (key_in heads) (through letters d) i (suc i) (to i) (suc (to i))
                (key_to i (omega (arith, h))) (λ e l. key_to (suc i) h e l ∙ ap (key_in heads e) next)),
          )

  -- the level has the rows of the table, each at its head's position
  pub finer_filled : (properties (letter_at letters d)).full ≡ false → (s : State) → LevelEnds letters sizes heads d s
      → LevelFilled meaning (letter_at letters d) (slice_index sizes d) (suc d)
      (positions_above letters sizes (key_in heads) (length heads) d) (rows_at (keys_of table d (through letters d)) ps) s
  finer_filled sparse s ends =
      let f = ends.filled sparse in
      record {
        log = f.log;
        held = f.held;
        filled = refined_filled (rows_above letters sizes (key_in heads) (length heads) d)
            (rows_at (keys_of table d (through letters d)) ps)
            to refines (positions_above letters sizes (key_in heads) (length heads) d) f.log f.filled;
      }
