-- The number that a text is read as.
use Rattle.std.proofs.Common.{◌≡◌, ◌^◌, ℕ, Bool, true, false, refl, ap, List, [], ◌∷◌, length, Option, Some, None, Result, Ok, Err}
use Rattle.std.proofs.Common.{nat_lt, lt-ltb, ltb-true}
use Rattle.std.specs.Prelude.{option_and_then}
use Rattle.std.specs.List.{list_all}
use Rattle.std.specs.Char.{digit_value}
use Rattle.std.specs.Str.Parse.{AllDigits, ParsesUnsigned, digits_value, without_leading_plus}
use Rattle.clap.specs.Matches.{ReadsOne}
use Rattle.clap.proofs.WalkLemmas.{both}
use Rattle.command_line.specs.Clap.{is_u64_text, u64_read}

digits_pass : (ds : List ℕ) → AllDigits 10 ds → list_all (λ d. nat_lt (digit_value d) 10) ds ≡ true
digits_pass [] h = refl
digits_pass (d ∷ ds) h = rw (lt-ltb (digit_value d) 10 h.0) (digits_pass ds h.1)

digits_from : (ds : List ℕ) → list_all (λ d. nat_lt (digit_value d) 10) ds ≡ true → AllDigits 10 ds
digits_from [] e = tt
digits_from (d ∷ ds) e =
    let parts = both _ _ e in
    (ltb-true _ _ parts.0, digits_from ds parts.1)

u64_reads : (E : Type 0) (G : List ℕ → Result ℕ E → Type 0) (text : List ℕ) (r : Option ℕ)
    → ((u : List ℕ) (x : Result ℕ E) → G u x → ParsesUnsigned 64 10 u x)
    → ReadsOne G text r → r ≡ u64_read text
u64_reads E G text (Some v) only h =
    let parsed = only text (Ok v) h in
    let ds = without_leading_plus text in
    rw (lt-ltb 0 (length ds) parsed.0.0.0, digits_pass ds parsed.0.0.1, lt-ltb (digits_value 10 ds) (2 ^ 64) parsed.0.1) (ap Some parsed.1)
u64_reads E G text None only h = go (is_u64_text text) refl
  where
    go : (b : Bool) → is_u64_text text ≡ b → None ≡ u64_read text
    go false t = rw t refl
    go true t =
        let outer = both _ _ t in
        let inner = both _ _ outer.1 in
        absurd (only text (Err h.0) h.1 ((ltb-true _ _ outer.0, digits_from (without_leading_plus text) inner.0), ltb-true _ _ inner.1))

pub one_u64 : (E : Type 0) (G : List ℕ → Result ℕ E → Type 0) (o : Option (List ℕ)) (r : Option ℕ)
    → ((u : List ℕ) (x : Result ℕ E) → G u x → ParsesUnsigned 64 10 u x)
    → (o ≡ None → r ≡ None) → ((t : List ℕ) → o ≡ Some t → ReadsOne G t r) → r ≡ option_and_then u64_read o
one_u64 E G None r only none value = none refl
one_u64 E G (Some t) r only none value = u64_reads E G t r only (value t refl)
