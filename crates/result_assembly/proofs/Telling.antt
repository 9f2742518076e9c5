-- Expressions over the keys of a workspace tell of its rows what they are to.
use Rattle.std.specs.Prelude.{◌≡◌, ℕ, zero, suc, ◌-◌, ◌<◌, ◌^◌, ◌==◌, ◌&&◌, ◌||◌, not, Bool, true, false, List, Some}
use Rattle.std.specs.Prelude.{refl}
use Rattle.std.proofs.Common.{◌∙◌, ap, arith}
use Rattle.std.proofs.lemmas.Bool.Decides.{nat_tests}
use Rattle.std.proofs.lemmas.Option.{slice_get-get_or}
use Rattle.kernel_code.specs.Meaning.{State, value, word_of, apply_both}
use Rattle.kernel_code.proofs.Equations.{value_bin}
use Rattle.kernel_code.proofs.Words.{binary_is, word_is, difference_is}
use Rattle.kernel_code.specs.declared.syntax.Arr.TheVariants.{Key}
use Rattle.kernel_code.specs.declared.syntax.Op.TheVariants.{Sub, Or, Equal, NotEqual}
use Rattle.kernel_code.specs.declared.syntax.KExpr.{Num, Var, At, Bin}
use Rattle.level_rows.specs.Draining.{TellsFirst, TellsCoord}
use Rattle.level_rows.specs.Rows.{rows_at}
use Rattle.tensor_storage.specs.Tables.{Table, agree, keys_of}
use Rattle.result_assembly.specs.Drained.{HasWords}
use Rattle.result_assembly.specs.Tests.{differs, begins_test}

words_or : (a b : Bool) → apply_both Or (Some (word_of a)) (Some (word_of b)) ≡ Some (word_of (a || b))
words_or true b = refl
words_or false true = refl
words_or false false = refl

not_and : (a b : Bool) → (not a || not b) ≡ not (a && b)
not_and true b = refl
not_and false b = refl

differs_tells : (base w : ℕ) (table : Table) (n i : ℕ) (t : State) → table.count < 2 ^ 63 → suc i < table.count
    → ((k : ℕ) → k < n → HasWords (Key w k) table.count (table.coords k) t.arrays) → t.vars base ≡ Some (suc i)
    → value (differs base w n) t ≡ Some (word_of (not (agree table.coords n i (suc i))))
differs_tells base w table zero i t few inside keys at = refl
differs_tells base w table (suc n) i t few inside keys at =
    let k = keys n (omega arith) in
    let many = k.many in
    let back : suc i - 1 ≡ i = omega arith in
    let earlier : value (Bin Sub (Var base) (Num 1)) t ≡ Some i =
    difference_is (Var base) (Num 1) (suc i) 1 t at refl (omega (arith, inside, few)) (omega arith) ∙ ap Some back in
    let before : value (At (Key w n) (Bin Sub (Var base) (Num 1))) t ≡ Some (table.coords n i) =
    word_is (Key w n) (Bin Sub (Var base) (Num 1)) k.words i (table.coords n i) t k.held earlier
    (slice_get-get_or k.words i 0 (omega (arith, inside, many)) ∙ ap Some (k.are i (omega (arith, inside)))) in
    let here : value (At (Key w n) (Var base)) t ≡ Some (table.coords n (suc i)) =
    word_is (Key w n) (Var base) k.words (suc i) (table.coords n (suc i)) t k.held at
    (slice_get-get_or k.words (suc i) 0 (omega (arith, inside, many)) ∙ ap Some (k.are (suc i) inside)) in
    binary_is Or (differs base w n) _ (word_of (not (agree table.coords n i (suc i))))
    (word_of (not (table.coords n i == table.coords n (suc i)))) t
    (differs_tells base w table n i t few inside (λ j less. keys j (omega (arith, less))) at)
    (binary_is NotEqual _ _ (table.coords n i) (table.coords n (suc i)) t before here)
    ∙ words_or (not (agree table.coords n i (suc i))) (not (table.coords n i == table.coords n (suc i)))
    ∙ ap (λ b. Some (word_of b)) (not_and (agree table.coords n i (suc i)) (table.coords n i == table.coords n (suc i)))

pub tells_first : (base level g w d n : ℕ) (table : Table) (ps : List ℕ) (s : State) → table.count < 2 ^ 63
    → ((k : ℕ) → k < n → HasWords (Key w k) table.count (table.coords k) s.arrays)
    → TellsFirst base level g (begins_test base w n) (rows_at (keys_of table d n) ps) s
tells_first base level g w d n table ps s few keys t zero last h at parent own before same =
    value_bin Or (Bin Equal (Var base) (Num 0)) _ t
    ∙ ap (λ v. apply_both Or v (value (differs base w n) t)) (binary_is Equal (Var base) (Num 0) 0 0 t at refl)
tells_first base level g w d n table ps s few keys t (suc i) last h at parent own before same =
    let apart : (suc i == 0) ≡ false = grind (arith, nat_tests) in
    binary_is Or (Bin Equal (Var base) (Num 0)) (differs base w n) (word_of (suc i == 0))
    (word_of (not (agree table.coords n i (suc i)))) t (binary_is Equal (Var base) (Num 0) (suc i) 0 t at refl)
    (differs_tells base w table n i t few h (λ k less. moved k (keys k less)) at)
    ∙ words_or (suc i == 0) (not (agree table.coords n i (suc i)))
    ∙ ap (λ b. Some (word_of (b || not (agree table.coords n i (suc i))))) apart
  where
    moved : (k : ℕ) → HasWords (Key w k) table.count (table.coords k) s.arrays
        → HasWords (Key w k) table.count (table.coords k) t.arrays
    moved k h = record { words = h.words; held = same (Key w k) (λ of. of, refl) ∙ h.held; many = h.many; are = h.are }

pub tells_coord : (base level g w d n : ℕ) (table : Table) (ps : List ℕ) (s : State)
    → HasWords (Key w d) table.count (table.coords d) s.arrays
    → TellsCoord base level g (At (Key w d) (Var base)) (rows_at (keys_of table d n) ps) s
tells_coord base level g w d n table ps s k t i h at same =
    let many = k.many in
    word_is (Key w d) (Var base) k.words i (table.coords d i) t (same (Key w d) (λ of. of, refl) ∙ k.held) at
    (slice_get-get_or k.words i 0 (omega (arith, h, many)) ∙ ap Some (k.are i h))
