-- Lemmas about what specs/TokenLaws.antt defines.
use Rattle.std.specs.Prelude.{◌≡◌, ℕ, suc, ◌+◌, ◌<◌, ◌≤◌, Bool, true, false, not, cond, List, [], ◌∷◌, ◌++◌, length, take, drop, filter}
use Rattle.std.specs.Prelude.{Option, Some, unwrap_or, refl}
use Rattle.std.specs.List.{All, slice_split, position, position_or_len}
use Rattle.std.proofs.Common.{arith, ap, subst, sym, ◌∙◌, append_assoc}
use Rattle.std.proofs.lemmas.Bool.{lt-ltb}
use Rattle.std.proofs.lemmas.List.{drop_all}
use Rattle.std.proofs.lemmas.List.Folds.{length-prefix_len}
use Rattle.std.proofs.lemmas.List.Splits.{slice_split_at, slice_split_none, slice_split-cons_yes}
use Rattle.text_lines.specs.Parts.{parts_behind}
use Rattle.text_lines.proofs.Parts.{first_part, place_found, place_or_length}
use Rattle.text_lines.specs.Tokens.{has_bytes, tokens}
use Rattle.lists.specs.Blanks.{is_blank}
use Rattle.text_lines.specs.TokenLaws.{IsToken, joined_tokens, is_filled}

-- a blank in front is passed over
pub tokens_blank : (byte : ℕ) (line : List ℕ) → is_blank byte ≡ true → tokens (byte ∷ line) ≡ tokens line
tokens_blank byte line e = ap (filter has_bytes) (slice_split-cons_yes is_blank byte line e)

tokens_behind : (line : List ℕ) → filter has_bytes (parts_behind is_blank (drop (position_or_len is_blank line) line))
    ≡ tokens (drop (position_or_len is_blank line) line)
tokens_behind [] = refl
tokens_behind (x ∷ line) = by (is_blank x) refl (tokens_behind line)
  where
    by : (b : Bool) → is_blank x ≡ b
        → filter has_bytes (parts_behind is_blank (drop (position_or_len is_blank line) line))
        ≡ tokens (drop (position_or_len is_blank line) line)
        → filter has_bytes (parts_behind is_blank (drop (cond (not b) (1 + position_or_len is_blank line) 0) (x ∷ line)))
        ≡ tokens (drop (cond (not b) (1 + position_or_len is_blank line) 0) (x ∷ line))
    by true e rest = sym (tokens_blank x line e)
    by false e rest =
        let more : suc (position_or_len is_blank line) ≡ 1 + position_or_len is_blank line = omega arith in
        subst (λ (n : ℕ). filter has_bytes (parts_behind is_blank (drop n (x ∷ line))) ≡ tokens (drop n (x ∷ line))) more rest

kept_part : (part : List ℕ) (parts : List (List ℕ)) → 0 < length part → filter has_bytes (part ∷ parts) ≡ part ∷ filter has_bytes parts
kept_part part parts h = ap (λ b. cond b (part ∷ filter has_bytes parts) (filter has_bytes parts)) (lt-ltb 0 (length part) h)

-- a line that doesn't begin with a blank begins with its first token
pub tokens_first : (line : List ℕ) → 0 < position_or_len is_blank line
    → tokens line ≡ take (position_or_len is_blank line) line ∷ tokens (drop (position_or_len is_blank line) line)
tokens_first line h =
    let k : ℕ = position_or_len is_blank line in
    let long : length (take k line) ≡ k = length-prefix_len (λ byte. not (is_blank byte)) line in
    ap (filter has_bytes) (first_part is_blank line)
    ∙ kept_part (take k line) (parts_behind is_blank (drop k line)) (omega arith)
    ∙ ap (λ parts. take k line ∷ parts) (tokens_behind line)

-- blanks in front are passed over
pub tokens_skip : (line : List ℕ) → tokens (drop (position_or_len is_filled line) line) ≡ tokens line
tokens_skip [] = refl
tokens_skip (x ∷ line) = by (is_blank x) refl (tokens_skip line)
  where
    by : (b : Bool) → is_blank x ≡ b → tokens (drop (position_or_len is_filled line) line) ≡ tokens line
        → tokens (drop (cond (not (not b)) (1 + position_or_len is_filled line) 0) (x ∷ line)) ≡ tokens (x ∷ line)
    by true e rest =
        let more : suc (position_or_len is_filled line) ≡ 1 + position_or_len is_filled line = omega arith in
        subst (λ (n : ℕ). tokens (drop n (x ∷ line)) ≡ tokens (x ∷ line)) more (rest ∙ sym (tokens_blank x line e))
    by false e rest = refl

-- behind them stands a token, if anything does
pub filled_first : (line : List ℕ) → position_or_len is_filled line < length line
    → 0 < position_or_len is_blank (drop (position_or_len is_filled line) line)
filled_first [] h = absurd (omega arith)
filled_first (x ∷ line) h = by (is_blank x) refl (filled_first line) h
  where
    by : (b : Bool) → is_blank x ≡ b
        → (position_or_len is_filled line < length line → 0 < position_or_len is_blank (drop (position_or_len is_filled line) line))
        → cond (not (not b)) (1 + position_or_len is_filled line) 0 < suc (length line)
        → 0 < position_or_len is_blank (drop (cond (not (not b)) (1 + position_or_len is_filled line) 0) (x ∷ line))
    by true e rest h =
        let more : suc (position_or_len is_filled line) ≡ 1 + position_or_len is_filled line = omega arith in
        subst (λ (n : ℕ). 0 < position_or_len is_blank (drop n (x ∷ line))) more (rest (omega arith))
    by false e rest h = subst (λ (b : Bool). 0 < cond (not b) (1 + position_or_len is_blank line) 0) (sym e) (omega arith)

-- nothing but blanks
pub tokens_none : (line : List ℕ) → length line ≤ position_or_len is_filled line → tokens line ≡ []
tokens_none line h = sym (tokens_skip line) ∙ ap tokens (drop_all (position_or_len is_filled line) line h)

-- a token before others, and one alone
pub tokens_more : (token rest : List ℕ) → IsToken token → tokens (token ++ 32 ∷ rest) ≡ token ∷ tokens rest
tokens_more token rest is = ap (filter has_bytes) (slice_split_at is_blank token 32 rest is.whole refl)
    ∙ kept_part token (slice_split is_blank rest) is.some

pub tokens_last : (token : List ℕ) → IsToken token → tokens token ≡ token ∷ []
tokens_last token is = ap (filter has_bytes) (slice_split_none is_blank token is.whole) ∙ kept_part token [] is.some

-- tokens that were joined are cut back
pub tokens_joined : (parts : List (List ℕ)) (last : List ℕ) → All IsToken parts → IsToken last
    → tokens (joined_tokens parts ++ last) ≡ parts ++ last ∷ []
tokens_joined [] last each is = tokens_last last is
tokens_joined (part ∷ parts) last each is =
    ap tokens (append_assoc (part ++ 32 ∷ []) (joined_tokens parts) last ∙ append_assoc part (32 ∷ []) (joined_tokens parts ++ last))
    ∙ tokens_more part (joined_tokens parts ++ last) (each 0 part (omega arith))
    ∙ ap (λ (others : List (List ℕ)). part ∷ others) (tokens_joined parts last (λ k d h. each (suc k) d (omega arith)) is)

-- how a line is cut: behind the blanks in front, the bytes before the next blank and what is left
pub token_cut : (line filled token rest : List ℕ) (start end : ℕ) (place : Option ℕ)
    → Some start ≡ position is_filled line → filled ≡ drop start line → place ≡ position is_blank filled
    → end ≡ unwrap_or place (length filled) → token ≡ take end filled → rest ≡ drop end filled
    → tokens line ≡ token ∷ tokens rest
token_cut line filled token rest start end place starts filled_is placed ends token_is rest_is =
    let first = place_found is_filled line start starts in
    let behind : filled ≡ drop (position_or_len is_filled line) line = filled_is ∙ ap (λ (n : ℕ). drop n line) first.0 in
    let some : 0 < position_or_len is_blank filled =
    subst (λ (xs : List ℕ). 0 < position_or_len is_blank xs) (sym behind) (filled_first line (omega (arith, first.0, first.1))) in
    let at : end ≡ position_or_len is_blank filled = place_or_length is_blank filled place end placed ends in
    sym (ap tokens behind ∙ tokens_skip line)
    ∙ tokens_first filled some
    ∙ (λ i. take (sym at i) filled ∷ tokens (drop (sym at i) filled))
    ∙ (λ i. sym token_is i ∷ tokens (sym rest_is i))
