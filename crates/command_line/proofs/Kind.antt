-- The kinds of word that `clap` tells apart.
use Rattle.std.proofs.Common.{◌≡◌, ◌∙◌, ◌++◌, ℕ, suc, Bool, true, false, refl, sym, ap, subst, List, [], ◌∷◌, length, Option, Some, None}
use Rattle.std.proofs.Common.{arith, codes}
use Rattle.std.specs.Prelude.{slice_get, ◌==◌}
use Rattle.std.specs.Str.{bytes_eq, chars, IsUtf8, encode_utf8_all}
use Rattle.std.proofs.lemmas.Str.{encodes-chars, encode_ascii}
use Rattle.std.proofs.lemmas.Bool.{eqb-true}
use Rattle.clap.specs.Lexer.{long_of, short_of, name_and_value}
use Rattle.command_line.specs.CommandLine.{is_option, is_over, value_in, over_named}

-- the name and the value of a long option are those that are looked at for `--over`
abbrev pub HasParts : List ℕ → List ℕ × Option (List ℕ) → Type 0
HasParts w p = (is_over w ≡ bytes_eq (codes "over") p.0) × (value_in w ≡ p.1)

-- a word that begins with a hyphen is no semiring's name
pub data Kind (w : List ℕ) : Type 0 where
  dashes : bytes_eq w (45 ∷ 45 ∷ []) ≡ true → over_named w ≡ None → Kind w
  long : (p : List ℕ × Option (List ℕ)) → bytes_eq w (45 ∷ 45 ∷ []) ≡ false → is_option w ≡ true → long_of w ≡ Some p
      → HasParts w p → over_named w ≡ None → Kind w
  short : (b : ℕ) (flags : List ℕ) (x : ℕ) → bytes_eq w (45 ∷ 45 ∷ []) ≡ false → is_option w ≡ true → long_of w ≡ None
      → short_of w ≡ Some (b ∷ flags)
      → slice_get (chars (b ∷ flags)) 0 ≡ Some x → is_over w ≡ false → over_named w ≡ None → Kind w
  operand : bytes_eq w (45 ∷ 45 ∷ []) ≡ false → is_option w ≡ false → long_of w ≡ None → short_of w ≡ None → Kind w

after_hyphen : (b : ℕ) (flags : List ℕ) → chars (45 ∷ b ∷ flags) ≡ 45 ∷ chars (b ∷ flags)
unfolding chars
after_hyphen b flags = refl

-- what follows a hyphen has a character
some_char : (b : ℕ) (flags : List ℕ) → IsUtf8 (45 ∷ b ∷ flags) → (x : ℕ) × (slice_get (chars (b ∷ flags)) 0 ≡ Some x)
some_char b flags u = go (chars (b ∷ flags)) refl
  where
    go : (cs : List ℕ) → chars (b ∷ flags) ≡ cs → (x : ℕ) × (slice_get (chars (b ∷ flags)) 0 ≡ Some x)
    go [] e =
        let one : encode_utf8_all (45 ∷ []) ≡ 45 ∷ [] = ap (λ (l : List ℕ). l ++ []) (encode_ascii 45 (omega arith)) in
        let short : 45 ∷ [] ≡ 45 ∷ b ∷ flags = sym one ∙ sym (ap encode_utf8_all (after_hyphen b flags ∙ ap (λ cs. 45 ∷ cs) e))
        ∙ encodes-chars (45 ∷ b ∷ flags) u in
        let bad : 1 ≡ suc (suc (length flags)) = ap (λ (l : List ℕ). length l) short in
        absurd (omega (arith, bad))
    go (x ∷ cs) e = (x, ap (λ l. slice_get l 0) e)

unnamed : (b : ℕ) (rest : List ℕ) → (b == 45) ≡ true → over_named (b ∷ rest) ≡ None
unnamed b rest e = subst (λ x. over_named (x ∷ rest) ≡ None) (sym (eqb-true b 45 e)) refl

parts : (b c d : ℕ) (ds : List ℕ) → (b == 45) ≡ true → (c == 45) ≡ true → HasParts (b ∷ c ∷ d ∷ ds) (name_and_value (d ∷ ds))
parts b c d ds e f = (rw (e, f) refl, refl)

not_over : (b c : ℕ) (rest : List ℕ) → (b == 45) ≡ true → (c == 45) ≡ false → is_over (b ∷ c ∷ rest) ≡ false
not_over b c rest e f = rw (e, f) refl

pub kind_of_word : (w : List ℕ) → IsUtf8 w → Kind w
kind_of_word [] u = operand refl refl refl refl
kind_of_word (b ∷ []) u = go (b == 45) refl
  where
    go : (t : Bool) → (b == 45) ≡ t → Kind (b ∷ [])
    go true e = operand (rw e refl) refl (rw e refl) (rw e refl)
    go false e = operand (rw e refl) refl (rw e refl) (rw e refl)
kind_of_word (b ∷ c ∷ rest) u = go (b == 45) refl (c == 45) refl rest u
  where
    go : (s : Bool) → (b == 45) ≡ s → (t : Bool) → (c == 45) ≡ t → (r : List ℕ) → IsUtf8 (b ∷ c ∷ r) → Kind (b ∷ c ∷ r)
    go false e t f r u = operand (rw e refl) e (rw e refl) (rw e refl)
    go true e true f [] u = dashes (rw (e, f) refl) (unnamed b (c ∷ []) e)
    go true e true f (d ∷ ds) u =
        long (name_and_value (d ∷ ds)) (rw (e, f) refl) e (rw (e, f) refl) (parts b c d ds e f) (unnamed b (c ∷ d ∷ ds) e)
    go true e false f r u =
        let is : b ≡ 45 = eqb-true b 45 e in
        let first = some_char c r (subst (λ x. IsUtf8 (x ∷ c ∷ r)) is u) in
        short c r first.0 (rw (e, f) refl) e (rw (e, f) refl) (rw (e, f) refl) first.1 (not_over b c r e f) (unnamed b (c ∷ r) e)
