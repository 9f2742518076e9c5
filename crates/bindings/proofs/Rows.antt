-- The words one after another.
use Rattle.std.specs.Prelude.{◌≡◌, ℕ, zero, suc, ◌+◌, ◌<◌, ◌≤◌, ◌==◌, Bool, true, false, List, [], ◌∷◌, ◌++◌, length, map, take}
use Rattle.std.specs.Prelude.{Option, None, slice_index_or, refl}
use Rattle.std.proofs.Common.{sym, ◌∙◌, ap, ap₂, arith}
use Rattle.std.specs.Prelude.{◌≢◌}
use Rattle.std.proofs.lemmas.List.{map-append, take_more}
use Rattle.lists.proofs.Tests.{same_number, number_same}
use denote.Ref.{Bor}
use Rattle.index_notation.specs.declared.syntax.Statement.{Statement}
use Rattle.bindings.specs.Words.{said_of}
use Rattle.bindings.specs.Bindings.{fault_of, fault_at, AreSound}
use Rattle.bindings.specs.Outcome.{has_file, HaveFiles}
use Rattle.bindings.specs.declared.fault.WordFault.{WordFault}

abbrev pub texts : List (Bor (List ℕ)) → List (List ℕ)
texts words = map (λ word. word.now) words

take_texts : (words : List (Bor (List ℕ))) (n : ℕ) → take n (texts words) ≡ texts (take n words)
take_texts [] zero = refl
take_texts [] (suc n) = refl
take_texts (word ∷ words) zero = refl
take_texts (word ∷ words) (suc n) = ap (λ more. word.now ∷ more) (take_texts words n)

text_at : (words : List (Bor (List ℕ))) (n : ℕ) (d : Bor (List ℕ)) → n < length words
    → slice_index_or (texts words) n [] ≡ (slice_index_or words n d).now
text_at [] n d lt = absurd (omega arith)
text_at (word ∷ words) zero d lt = refl
text_at (word ∷ words) (suc n) d lt = text_at words n d (omega (arith, lt))

-- the fault of the word at this place
pub fault_here : (s : Statement) (words : List (Bor (List ℕ))) (at : ℕ) (text : List ℕ) (d : Bor (List ℕ)) (fault : Option WordFault)
    → at < length words → text ≡ (slice_index_or words at d).now → fault ≡ fault_of s (texts (take at words)) (said_of text)
    → fault ≡ fault_at s (texts words) at
fault_here s words at text d fault lt there is = is
    ∙ ap₂ (λ before t. fault_of s before (said_of t)) (sym (take_texts words at)) (there ∙ sym (text_at words at d lt))

-- one more word is sound
pub sound_more : (s : Statement) (words : List (List ℕ)) (at : ℕ) → AreSound s words at → fault_at s words at ≡ None
    → AreSound s words (at + 1)
sound_more s words at before here k lt = by_place (k == at) refl
  where
    by_place : (b : Bool) → (k == at) ≡ b → fault_at s words k ≡ None
    by_place true same = ap (fault_at s words) (same_number k at same) ∙ here
    by_place false apart = before k (let other : k ≢ at = λ same. let yes : (k == at) ≡ true = ap (λ n. k == n) (sym same)
        ∙ number_same k in cc in omega (arith, lt, other))

-- the words so far, with the next one
pub texts_more : (words : List (Bor (List ℕ))) (at : ℕ) (text : List ℕ) (d : Bor (List ℕ)) → at < length words
    → text ≡ (slice_index_or words at d).now → texts (take at words) ++ text ∷ [] ≡ texts (take (at + 1) words)
texts_more words at text d lt there = ap (λ t. texts (take at words) ++ t ∷ []) there
    ∙ sym (map-append (λ (w : Bor (List ℕ)). w.now) (take at words) (slice_index_or words at d ∷ []))
    ∙ ap texts (sym (take_more words at d lt))

pub sound_all : (s : Statement) (words : List (List ℕ)) (at : ℕ) → length words ≤ at → AreSound s words at → AreSound s words (length words)
sound_all s words at all sound k lt = sound k (omega (arith, lt, all))

-- one more operand has its file
pub files_on : (s : Statement) (words : List (List ℕ)) (tensor : ℕ) → HaveFiles s words tensor → has_file s words tensor ≡ true
    → HaveFiles s words (tensor + 1)
files_on s words tensor before here k first lt = by_place (k == tensor) refl
  where
    by_place : (b : Bool) → (k == tensor) ≡ b → has_file s words k ≡ true
    by_place true same = ap (has_file s words) (same_number k tensor same) ∙ here
    by_place false apart = before k first (let other : k ≢ tensor = λ same. let yes : (k == tensor) ≡ true = ap (λ n. k == n) (sym same)
        ∙ number_same k in cc in omega (arith, lt, other))
