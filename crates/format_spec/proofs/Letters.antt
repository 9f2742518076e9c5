-- Which bytes are letters of kinds.
use Rattle.std.specs.Prelude.{◌≡◌, ◌≢◌, ℕ, zero, suc, ◌<◌, List, [], ◌∷◌, length, slice_index, refl}
use Rattle.std.proofs.Common.{◌∙◌, sym, ap, arith}
use Rattle.std.specs.List.{AllWithin}
use Rattle.level_core.specs.declared.letter.Letter.{Letter}
use Rattle.format_spec.specs.Words.{letter_byte, AreLetters}

-- the byte is a kind's letter, or none's
abbrev pub IsLetter : ℕ → Type 0
IsLetter byte = (kind : Letter) × (letter_byte kind ≡ byte)

abbrev pub IsNoLetter : ℕ → Type 0
IsNoLetter byte = (kind : Letter) → letter_byte kind ≢ byte

-- bytes that are each a letter are the letters of some kinds
pub each_named : (letters : List ℕ) → AllWithin IsLetter letters 0 (length letters) → (kinds : List Letter) × AreLetters letters kinds
each_named [] all = ([], refl)
each_named (byte ∷ letters) all =
    let here = all 0 0 (omega arith) (omega arith) in
    let rest = each_named letters (λ k d h g. all (suc k) d (omega arith) (omega (arith, g))) in
    (here.0 ∷ rest.0, ap (λ b. b ∷ letters) (sym here.1) ∙ ap (λ bs. letter_byte here.0 ∷ bs) rest.1)

-- bytes of which one is no letter are the letters of no kinds
pub one_unnamed : (letters : List ℕ) (kinds : List Letter) (k : ℕ) → k < length letters → IsNoLetter (slice_index letters k)
    → AreLetters letters kinds → ⊥
one_unnamed [] kinds k h none are = absurd (omega (arith, h))
one_unnamed (byte ∷ letters) [] k h none are = cc
one_unnamed (byte ∷ letters) (kind ∷ kinds) zero h none are = none kind (sym (ap (λ bs. slice_index bs 0) are))
one_unnamed (byte ∷ letters) (kind ∷ kinds) (suc k) h none are = one_unnamed letters kinds k (omega (arith, h)) none cc
