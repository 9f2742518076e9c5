-- The head of a row is appended unless it is the last one.
use Rattle.std.specs.Prelude.{◌≡◌, ◌⊎◌, ℕ, zero, suc, ◌-◌, ◌≤◌, ◌<◌, not, Bool, true, false, List, [], ◌∷◌, ◌++◌, length}
use Rattle.std.specs.Prelude.{slice_index}
use Rattle.std.specs.Prelude.{Some, refl}
use Rattle.std.proofs.Common.{◌∙◌, sym, ap, subst, arith, inl, inr}
use Rattle.std.proofs.lemmas.Bool.{cases_lt}
use Rattle.std.proofs.lemmas.List.{length_push}
use Rattle.kernel_code.specs.Does.{Does}
use Rattle.kernel_code.proofs.Does.{does_weaker, does_nothing, does_if_yes, does_if_no}
use Rattle.kernel_code.specs.Keeps.{no_turns}
use Rattle.kernel_code.proofs.Keeps.{leaves_none}
use Rattle.kernel_code.specs.Meaning.{Setting, State, value, word_of}
use Rattle.kernel_code.specs.declared.syntax.Arr.TheVariants.{Values}
use Rattle.kernel_code.specs.declared.syntax.KExpr.{KExpr}
use Rattle.kernel_code.specs.declared.syntax.KStmt.{KStmt, If}
use Rattle.level_core.specs.declared.letter.Letter.{Letter}
use Rattle.level_core.specs.Fragments.{RefusedWithin}
use Rattle.level_rows.specs.Rows.{begun}
use Rattle.level_rows.proofs.RowLaws.{begun_some}
use Rattle.level_rows.specs.Tables.{Increase, IsBefore}
use Rattle.tensor_storage.specs.Levels.{meaning}
use Rattle.tensor_storage.specs.Tables.{agree, begins_at}
use Rattle.tensor_storage.proofs.Tables.{agree_tells, agree_from}
use Rattle.level_appends.specs.Appended.{LevelAt}
use Rattle.level_appends.proofs.Keys.{SameKey, KeyBefore, before_along}
use Rattle.appended_results.specs.Heads.{letter_at, key_in}
use Rattle.appended_results.specs.Places.{first_at, positions_above, rows_above}
use Rattle.appended_results.specs.Levels.{cursor_at, IsMine, IsKept, MayHold}
use Rattle.appended_results.specs.Codes.{differs_or_first}
use Rattle.appended_results.specs.Rows.{HoldsHeads, all_positions, AppendsHead}
use Rattle.appended_results.specs.Opening.{ComesNext, IsOpen, Opens, RefusesHead, OpensHead}
use Rattle.appended_results.proofs.HeadLaws.{key_before, key_last}
use Rattle.appended_results.proofs.TestLaws.{new_told}

-- one head more
module _ (letters : List Letter) (sizes : List ℕ) (head : ℕ) (heads : List (List ℕ)) (key : List ℕ)
    (may : MayHold letters sizes head heads) (below : (d : ℕ) → d < head → slice_index key d < slice_index sizes d)
    (behind : (j : ℕ) → length heads ≡ suc j → KeyBefore head (λ d. key_in heads d j) (slice_index key)) where
  abbrev coords : ℕ → ℕ → ℕ
  coords = key_in (heads ++ key ∷ [])

  counted : length (heads ++ key ∷ []) ≡ suc (length heads)
  counted = let k = length_push heads key in omega (arith, k)

  old : (i : ℕ) → i < length heads → SameKey head (λ d. key_in heads d i) (λ d. coords d i)
  old i h d l = sym (key_before heads key d i h)

  rises : Increase coords head (length (heads ++ key ∷ []))
  rises i h = by_order (cases_lt (suc i) (length heads))
    where
      by_order : (suc i < length heads) ⊎ (length heads ≤ suc i) → IsBefore coords head i (suc i)
      by_order (inl less) =
          before_along head (λ d. key_in heads d i) (λ d. key_in heads d (suc i)) (λ d. coords d i) (λ d. coords d (suc i))
          (old i (omega (arith, less))) (old (suc i) less) (may.rise i less)
      by_order (inr from) =
          let at : length heads ≡ suc i = omega (arith, from, h, counted) in
          before_along head (λ d. key_in heads d i) (slice_index key) (λ d. coords d i) (λ d. coords d (suc i))
          (old i (omega (arith, at))) (λ d l. sym (key_last heads key d) ∙ ap (coords d) at) (behind i at)

  lower : (d j : ℕ) → d < head → j < length (heads ++ key ∷ []) → coords d j < slice_index sizes d
  lower d j h l = by_order (cases_lt j (length heads))
    where
      by_order : (j < length heads) ⊎ (length heads ≤ j) → coords d j < slice_index sizes d
      by_order (inl less) = let same = key_before heads key d j less in let b = may.below d j h less in omega (arith, same, b)
      by_order (inr from) =
          let at : j ≡ length heads = omega (arith, from, l, counted) in
          let same = ap (coords d) at in
          let is = key_last heads key d in
          let b = below d h in
          omega (arith, same, is, b)

  pub may_hold_more : MayHold letters sizes head (heads ++ key ∷ [])
  may_hold_more = record {
    is_head = may.is_head;
    appended = may.appended;
    chained = may.chained;
    each = may.each;
    small = may.small;
    rise = rises;
    below = lower;
  }

module _ (letters : List Letter) (head base free nothing : ℕ) (keys : List ℕ) (code : List KStmt)
    (appends : AppendsHead letters head base free nothing keys code) (c : Setting) (sizes : List ℕ) (heads : List (List ℕ)) (key : List ℕ)
    (may : MayHold letters sizes head heads) (comes : ComesNext sizes head heads key) (s : State)
    (holds : HoldsHeads letters sizes head base heads s) (values : List ℕ) (held : s.arrays (Values 0) ≡ Some values)
    (many : length values ≡ all_positions letters sizes heads)
    (now : (e : ℕ) → e < head → s.vars (slice_index keys e) ≡ Some (slice_index key e)) where
  some : 0 < head
  some = may.is_head.some

  -- the last level of the head tells whether there are heads
  last_level : LevelAt meaning (letter_at letters (head - 1)) (slice_index sizes (head - 1)) (suc (head - 1)) (cursor_at base (head - 1))
      (positions_above letters sizes (key_in heads) (length heads) (head - 1)) (length heads)
      (rows_above letters sizes (key_in heads) (length heads) (head - 1)) s
  last_level =
      let w = may.is_head.within in let m = some in
      (holds.levels (head - 1) (omega (arith, w, m))).appended
      (may.is_head.last (head - 1) (let e : suc (head - 1) ≡ head = omega (arith, m) in e))

  tested : value (differs_or_first base head keys head) s ≡ Some (word_of (begins_at (key_in (heads ++ key ∷ [])) head (length heads)))
  tested =
      let at = last_level in
      let all = at.progress.appended.many in
      new_told base head heads key keys s (record { now = now; last = holds.last }) (length at.log.coords) at.count_is
      (λ more. let k = begun_some (rows_above letters sizes (key_in heads) (length heads) (head - 1)) (length heads) refl more in
      omega (arith, k, all))
      (λ none. all ∙ ap (begun (first_at letters (key_in heads) (head - 1))) none) head (omega arith)

  -- the head is appended
  anew : value (differs_or_first base head keys head) s ≡ Some 1
      → ((j : ℕ) → length heads ≡ suc j → KeyBefore head (λ d. key_in heads d j) (slice_index key))
      → Does c (If (differs_or_first base head keys head) code [] ∷ []) s
      (λ t. IsOpen letters sizes head base free heads key values s t ⊎ Opens letters sizes head base free nothing heads key values s t)
      (RefusedWithin no_turns s (RefusesHead letters sizes head heads key))
  anew is_new behind =
      let more = may_hold_more letters sizes head heads key may comes.below behind in
      does_if_yes c (differs_or_first base head keys head) code [] [] s 0
      (λ t. IsOpen letters sizes head base free heads key values s t ⊎ Opens letters sizes head base free nothing heads key values s t)
      _ _ is_new
      (does_weaker c code s _ _ _ _ (appends c sizes heads key more s holds values held many now)
      (λ t h. inr (record { may = more; has = h }))
      (λ turns a count z. (z.0, record { may = more; level = z.1.0; inside = z.1.1; passes = z.1.2 })))
      (λ t o. does_nothing c t _ _ o)

  -- or it is the last one
  again : (j : ℕ) → length heads ≡ suc j → SameKey head (λ d. key_in heads d j) (slice_index key)
      → value (differs_or_first base head keys head) s ≡ Some 0
      → Does c (If (differs_or_first base head keys head) code [] ∷ []) s
      (λ t. IsOpen letters sizes head base free heads key values s t ⊎ Opens letters sizes head base free nothing heads key values s t)
      (RefusedWithin no_turns s (RefusesHead letters sizes head heads key))
  again j is same no_value =
      does_if_no c (differs_or_first base head keys head) code [] [] s
      (λ t. IsOpen letters sizes head base free heads key values s t ⊎ Opens letters sizes head base free nothing heads key values s t) _ _
      no_value
      (does_nothing c s _ _ (inl (record {
        holds = holds;
        values_are = held;
        last = j;
        is_last = is;
        same = same;
        leaves = leaves_none (IsMine base (length letters)) IsKept free no_turns s;
      })))
      (λ t o. does_nothing c t _ _ o)

  opens : Does c (If (differs_or_first base head keys head) code [] ∷ []) s
      (λ t. IsOpen letters sizes head base free heads key values s t ⊎ Opens letters sizes head base free nothing heads key values s t)
      (RefusedWithin no_turns s (RefusesHead letters sizes head heads key))
  opens = by_count (length heads) refl
    where
      first_of : (j : ℕ) → length heads ≡ suc j → (b : Bool) → agree (key_in (heads ++ key ∷ [])) head j (suc j) ≡ b
          → begins_at (key_in (heads ++ key ∷ [])) head (length heads) ≡ not b
      first_of j is b at = ap (begins_at (key_in (heads ++ key ∷ [])) head) is ∙ ap not at

      last_key : (j : ℕ) → length heads ≡ suc j → (d : ℕ) → key_in (heads ++ key ∷ []) d (suc j) ≡ slice_index key d
      last_key j is d = ap (key_in (heads ++ key ∷ []) d) (sym is) ∙ key_last heads key d

      by_follows : (j : ℕ) → length heads ≡ suc j
          → SameKey head (λ d. key_in heads d j) (slice_index key) ⊎ KeyBefore head (λ d. key_in heads d j) (slice_index key)
          → Does c (If (differs_or_first base head keys head) code [] ∷ []) s
          (λ t. IsOpen letters sizes head base free heads key values s t ⊎ Opens letters sizes head base free nothing heads key values s t)
          (RefusedWithin no_turns s (RefusesHead letters sizes head heads key))
      by_follows j is (inl same) =
          again j is same
          (tested ∙ ap (λ b. Some (word_of b)) (first_of j is true
          (agree_from (key_in (heads ++ key ∷ [])) head j (suc j)
          (λ d h. key_before heads key d j (omega (arith, is)) ∙ same d h ∙ sym (last_key j is d)))))
      by_follows j is (inr before) = by_agree (agree (key_in (heads ++ key ∷ [])) head j (suc j)) refl
        where
          by_agree : (b : Bool) → agree (key_in (heads ++ key ∷ [])) head j (suc j) ≡ b
              → Does c (If (differs_or_first base head keys head) code [] ∷ []) s
              (λ t. IsOpen letters sizes head base free heads key values s t
              ⊎ Opens letters sizes head base free nothing heads key values s t)
              (RefusedWithin no_turns s (RefusesHead letters sizes head heads key))
          by_agree true at =
              let same = agree_tells (key_in (heads ++ key ∷ [])) head j (suc j) at before.0 before.1 in
              let low = key_before heads key before.0 j (omega (arith, is)) in
              let high = last_key j is before.0 in
              let less = before.3 in
              absurd (omega (arith, same, low, high, less))
          by_agree false at =
              anew (tested ∙ ap (λ b. Some (word_of b)) (first_of j is false at))
              (λ i next. let e : i ≡ j = omega (arith, next, is) in
              subst (λ k. KeyBefore head (λ d. key_in heads d k) (slice_index key)) (sym e) before)

      by_count : (n : ℕ) → length heads ≡ n → Does c (If (differs_or_first base head keys head) code [] ∷ []) s
          (λ t. IsOpen letters sizes head base free heads key values s t ⊎ Opens letters sizes head base free nothing heads key values s t)
          (RefusedWithin no_turns s (RefusesHead letters sizes head heads key))
      by_count zero none =
          anew (tested ∙ ap (λ n. Some (word_of (begins_at (key_in (heads ++ key ∷ [])) head n))) none)
          (λ j is. absurd (omega (arith, none, is)))
      by_count (suc j) is = by_follows j is (comes.follows j is)

pub opens_head : (letters : List Letter) (head base free nothing : ℕ) (keys : List ℕ) (test : KExpr) (code all : List KStmt)
    → AppendsHead letters head base free nothing keys code → test ≡ differs_or_first base head keys head → all ≡ If test code [] ∷ []
    → OpensHead letters head base free nothing keys all
opens_head letters head base free nothing keys test code all appends tests is c sizes heads key may comes s holds values held many now =
    subst (λ k. Does c k s
    (λ t. IsOpen letters sizes head base free heads key values s t ⊎ Opens letters sizes head base free nothing heads key values s t)
    (RefusedWithin no_turns s (RefusesHead letters sizes head heads key))) (sym (is ∙ ap (λ e. If e code [] ∷ []) tests))
    (opens letters head base free nothing keys code appends c sizes heads key may comes s holds values held many now)
