-- The tests of a head's coordinates tell whether it begins a position.
use Rattle.std.specs.Prelude.{◌≡◌, ◌≢◌, ℕ, zero, suc, ◌+◌, ◌-◌, ◌*◌, ◌≤◌, ◌<◌, ◌==◌, ◌&&◌, ◌||◌, nat_le, not, Bool, true, false}
use Rattle.std.specs.Prelude.{if◌then◌else◌}
use Rattle.std.specs.Prelude.{List, [], ◌∷◌, ◌++◌, length, slice_index, Some, refl}
use Rattle.std.proofs.Common.{◌∙◌, sym, ap, arith}
use Rattle.std.proofs.lemmas.Bool.Decides.{nat_tests}
use Rattle.std.proofs.lemmas.List.{length_push}
use Rattle.kernel_code.specs.Keeps.{Mentions}
use Rattle.kernel_code.proofs.Keeps.{mentions_bin}
use Rattle.kernel_code.proofs.Equations.{value_bin}
use Rattle.kernel_code.proofs.Words.{binary_is}
use Rattle.kernel_code.specs.Meaning.{State, value, word_of, apply_both}
use Rattle.kernel_code.specs.declared.syntax.Op.TheVariants.{Or, Equal, NotEqual}
use Rattle.kernel_code.specs.declared.syntax.KExpr.{Num, Var, Bin}
use Rattle.level_rows.specs.Tables.{Increase}
use Rattle.tensor_storage.specs.Tables.{agree, begins_at}
use Rattle.tensor_storage.proofs.Tables.{agree_tells}
use Rattle.appended_results.specs.Heads.{key_in}
use Rattle.appended_results.specs.Levels.{cursor_at, key_at}
use Rattle.appended_results.specs.Codes.{differs, differs_or_first, begins_code, KeysTell}
use Rattle.appended_results.proofs.HeadLaws.{key_before, key_last}

words_or : (a b : Bool) → apply_both Or (Some (word_of a)) (Some (word_of b)) ≡ Some (word_of (a || b))
words_or true b = refl
words_or false true = refl
words_or false false = refl

not_and : (a b : Bool) → (not a || not b) ≡ not (a && b)
not_and true b = refl
not_and false b = refl

module _ (base head : ℕ) (heads : List (List ℕ)) (key keys : List ℕ) (s : State) (tell : KeysTell base head heads key keys s) where
  abbrev coords : ℕ → ℕ → ℕ
  coords = key_in (heads ++ key ∷ [])

  differs_tells : (n j : ℕ) → n ≤ head → length heads ≡ suc j
      → value (differs base keys n) s ≡ Some (word_of (not (agree coords n j (suc j))))
  differs_tells zero j h is = refl
  differs_tells (suc n) j h is =
      let last : s.vars (key_at base n) ≡ Some (coords n j) =
      tell.last n j (omega (arith, h)) is ∙ ap Some (sym (key_before heads key n j (omega (arith, is)))) in
      let here : s.vars (slice_index keys n) ≡ Some (coords n (suc j)) =
      tell.now n (omega (arith, h)) ∙ ap Some (sym (key_last heads key n)) ∙ ap (λ k. Some (coords n k)) is in
      binary_is Or (differs base keys n) (Bin NotEqual (Var (key_at base n)) (Var (slice_index keys n)))
      (word_of (not (agree coords n j (suc j)))) (word_of (not (coords n j == coords n (suc j)))) s
      (differs_tells n j (omega (arith, h)) is)
      (binary_is NotEqual (Var (key_at base n)) (Var (slice_index keys n)) (coords n j) (coords n (suc j)) s last here)
      ∙ words_or (not (agree coords n j (suc j))) (not (coords n j == coords n (suc j)))
      ∙ ap (λ b. Some (word_of b)) (not_and (agree coords n j (suc j)) (coords n j == coords n (suc j)))

  module _ (count : ℕ) (count_is : s.vars (cursor_at base (head - 1) + 2) ≡ Some count) (some : 0 < length heads → 0 < count)
      (none : length heads ≡ 0 → count ≡ 0) where
    -- where a head may be the first
    pub new_told : (n : ℕ) → n ≤ head
        → value (differs_or_first base head keys n) s ≡ Some (word_of (begins_at coords n (length heads)))
    new_told n h = by_count (length heads) refl
      where
        by_count : (k : ℕ) → length heads ≡ k
            → value (differs_or_first base head keys n) s ≡ Some (word_of (begins_at coords n (length heads)))
        by_count zero is =
            value_bin Or (Bin Equal (Var (cursor_at base (head - 1) + 2)) (Num 0)) (differs base keys n) s
            ∙ ap (λ v. apply_both Or v (value (differs base keys n) s))
            (binary_is Equal (Var (cursor_at base (head - 1) + 2)) (Num 0) 0 0 s (count_is ∙ ap Some (none is)) refl)
            ∙ ap (λ k. Some (word_of (begins_at coords n k))) (sym is)
        by_count (suc j) is =
            let more = some (omega (arith, is)) in
            let apart : (count == 0) ≡ false = (let away : count ≢ 0 = omega (arith, more) in grind (arith, nat_tests)) in
            binary_is Or (Bin Equal (Var (cursor_at base (head - 1) + 2)) (Num 0)) (differs base keys n) (word_of (count == 0))
            (word_of (not (agree coords n j (suc j)))) s
            (binary_is Equal (Var (cursor_at base (head - 1) + 2)) (Num 0) count 0 s count_is refl)
            (differs_tells n j h is)
            ∙ words_or (count == 0) (not (agree coords n j (suc j)))
            ∙ ap (λ b. Some (word_of (b || not (agree coords n j (suc j))))) apart
            ∙ ap (λ k. Some (word_of (begins_at coords n k))) (sym is)

    pub begins_told : (n : ℕ) → n < head → value (begins_code base head keys n) s ≡ Some (word_of (begins_at coords n (length heads)))
    begins_told n h =
        let no : nat_le head n ≡ false = grind (arith, nat_tests) in
        ap (λ b. value (if b then Num 1 else differs_or_first base head keys n) s) no ∙ new_told n (omega (arith, h))

-- a head that isn't the last one begins a position where all its coordinates count
pub begins_all : (head : ℕ) (heads : List (List ℕ)) (key : List ℕ) (n : ℕ)
    → Increase (key_in (heads ++ key ∷ [])) head (length (heads ++ key ∷ [])) → head ≤ n
    → begins_at (key_in (heads ++ key ∷ [])) n (length heads) ≡ true
begins_all head heads key n up h = by_count (length heads) refl
  where
    by_agree : (j : ℕ) → length heads ≡ suc j → (b : Bool) → agree (key_in (heads ++ key ∷ [])) n j (suc j) ≡ b → not b ≡ true
    by_agree j is false at = refl
    by_agree j is true at =
        let more = length_push heads key in
        let before = up j (omega (arith, is, more)) in
        let same = agree_tells (key_in (heads ++ key ∷ [])) n j (suc j) at before.0 (let l = before.1 in omega (arith, l, h)) in
        let less = before.3 in
        absurd (omega (arith, same, less))

    by_count : (k : ℕ) → length heads ≡ k → begins_at (key_in (heads ++ key ∷ [])) n (length heads) ≡ true
    by_count zero is = ap (begins_at (key_in (heads ++ key ∷ [])) n) is
    by_count (suc j) is =
        ap (begins_at (key_in (heads ++ key ∷ [])) n) is
        ∙ by_agree j is (agree (key_in (heads ++ key ∷ [])) n j (suc j)) refl

pub all_begin : (base head : ℕ) (heads : List (List ℕ)) (key keys : List ℕ) (s : State) (n : ℕ)
    → Increase (key_in (heads ++ key ∷ [])) head (length (heads ++ key ∷ [])) → head ≤ n
    → value (begins_code base head keys n) s ≡ Some (word_of (begins_at (key_in (heads ++ key ∷ [])) n (length heads)))
all_begin base head heads key keys s n up h =
    let yes : nat_le head n ≡ true = grind (arith, nat_tests) in
    ap (λ b. value (if b then Num 1 else differs_or_first base head keys n) s) yes
    ∙ ap (λ b. Some (word_of b)) (sym (begins_all head heads key n up h))

-- what the tests mention
module _ (base head free inner : ℕ) (keys : List ℕ) (room : base + 4 * head ≤ free) (more : free ≤ inner) (some : 0 < head)
    (low : (e : ℕ) → e < head → slice_index keys e < free) where
  differs_mentions : (n : ℕ) → n ≤ head → Mentions (λ y. y < inner) (λ a. ⊥) (differs base keys n)
  differs_mentions zero h = tt
  differs_mentions (suc n) h =
      mentions_bin (λ y. y < inner) (λ a. ⊥) Or (differs base keys n) (Bin NotEqual (Var (key_at base n)) (Var (slice_index keys n)))
      (differs_mentions n (omega (arith, h)))
      (mentions_bin (λ y. y < inner) (λ a. ⊥) NotEqual (Var (key_at base n)) (Var (slice_index keys n)) (omega (arith, h, room, more))
      (let l = low n (omega (arith, h)) in omega (arith, l, more)))

  new_mentions : (n : ℕ) → n ≤ head → Mentions (λ y. y < inner) (λ a. ⊥) (differs_or_first base head keys n)
  new_mentions n h =
      mentions_bin (λ y. y < inner) (λ a. ⊥) Or (Bin Equal (Var (cursor_at base (head - 1) + 2)) (Num 0)) (differs base keys n)
      (mentions_bin (λ y. y < inner) (λ a. ⊥) Equal (Var (cursor_at base (head - 1) + 2)) (Num 0) (omega (arith, some, room, more)) tt)
      (differs_mentions n h)

  pub begins_mentions : (n : ℕ) → Mentions (λ y. y < inner) (λ a. ⊥) (begins_code base head keys n)
  begins_mentions n = by_test (nat_le head n) refl
    where
      by_test : (b : Bool) → nat_le head n ≡ b → Mentions (λ y. y < inner) (λ a. ⊥) (if b then Num 1 else differs_or_first base head keys n)
      by_test true is = tt
      by_test false is = new_mentions n (let less : n < head = grind (arith, nat_tests, is) in omega (arith, less))
