-- Reading the symbols of a text from the left.
use Rattle.std.specs.Prelude.{◌≡◌, ◌≢◌, ℕ, ◌-◌, ◌<◌, ◌≤◌, true, false, cond, List, [], ◌∷◌, ◌++◌, length, drop, refl}
use Rattle.std.proofs.Common.{sym, ◌∙◌, ap, subst, append_assoc, arith}
use Rattle.std.proofs.lemmas.List.{length-drop}
use Rattle.std.specs.List.{between}
use Rattle.std.proofs.lemmas.Slice.{between_to_end}
use Rattle.index_notation.specs.declared.token.Token.{Token}
use Rattle.notation_grammar.specs.declared.symbol.Symbol.{Symbol}
use Rattle.notation_grammar.specs.declared.symbol.Symbol.TheVariants.{Lexeme, End, Stray}
use Rattle.notation_grammar.specs.declared.symbol.PlacedSymbol.{PlacedSymbol}
use Rattle.index_notation.specs.Tokens.{behind_blanks, IsNext}
use Rattle.lists.specs.Blanks.{is_blank}
use Rattle.notation_grammar.specs.Symbols.{first_byte, BeginsNoToken, StartsWith, AreSymbols}
use Rattle.notation_grammar.specs.Faults.{symbols_of}
use Rattle.notation_reader.specs.Judging.{IsLast, HasLast}
use Rattle.notation_reader.proofs.Bytes.{behind_twice, behind_again}

pub behind_is_short : (text : List ℕ) → length (behind_blanks text) ≤ length text
behind_is_short [] = omega arith
behind_is_short (byte ∷ text) = elim (is_blank byte) as (λ b. length (cond b (behind_blanks text) (byte ∷ text)) ≤ length (byte ∷ text)) [
  | true ↦ (let h = behind_is_short text in omega arith)
  | false ↦ omega arith
]

blank_first : (first : ℕ) (behind : List ℕ) → is_blank first ≡ true → behind_blanks (first ∷ behind) ≡ first ∷ behind → ⊥
blank_first first behind b e =
    let drops : behind_blanks (first ∷ behind) ≡ behind_blanks behind = ap (λ b. cond b (behind_blanks behind) (first ∷ behind)) b in
    let short = behind_is_short behind in
    let long : length (behind_blanks behind) ≡ length (first ∷ behind) = ap length (sym drops ∙ e) in
    omega arith

-- what stands behind its blanks begins with none
pub no_blank_before : (first : ℕ) (behind : List ℕ) → behind_blanks (first ∷ behind) ≡ first ∷ behind → is_blank first ≡ false
no_blank_before first behind e = elim (is_blank first) as (λ b. is_blank first ≡ b → b ≡ false) [
  | true ↦ (λ b. absurd (blank_first first behind b e))
  | false ↦ (λ b. refl)
] refl

-- blanks before a text don't change its symbols
starts_same : (text other : List ℕ) (G : List ℕ → Type 0) (E : Type 0) (t : Symbol) → behind_blanks text ≡ behind_blanks other
    → StartsWith text G E t → StartsWith other G E t
starts_same text other G E (Lexeme token) e h = (h.0, record { spelled = sym e ∙ h.1.spelled; stands = h.1.stands }, h.2)
starts_same text other G E End e h = (sym e ∙ h.0, h.1)
starts_same text other G E Stray e h =
    (λ k. h.0 (e ∙ k), λ token rest n. h.1 token rest (record { spelled = e ∙ n.spelled; stands = n.stands }), h.2)

symbols_same : (size : ℕ) (text other : List ℕ) (ps : List PlacedSymbol) → behind_blanks text ≡ behind_blanks other
    → AreSymbols size text ps → AreSymbols size other ps
symbols_same size text other [] e h = absurd h
symbols_same size text other (p ∷ more) e h = (
  h.0 ∙ ap (λ (left : List ℕ). size - length left) e,
  starts_same text other (λ rest. AreSymbols size rest more)
      (more ≡ []) p.symbol e h.1,
)

-- the symbols that were scanned, before those of what is left, are those of the whole text of `size` bytes
pub record Scans (size : ℕ) (text : List ℕ) (done : List PlacedSymbol) (rest : List ℕ) : Type 0 where
  pub joins : (more : List PlacedSymbol) → AreSymbols size rest more → AreSymbols size text (done ++ more)
  pub no_blank : behind_blanks rest ≡ rest
  pub within : length rest ≤ size

pub scan_starts : (size : ℕ) (text rest : List ℕ) (done : List PlacedSymbol) → size ≡ length text → done ≡ [] → rest ≡ behind_blanks text
    → Scans size text done rest
scan_starts size text rest done l d e = record {
  joins = λ more h. rw d (symbols_same size rest text more (ap behind_blanks e ∙ behind_twice text) h);
  no_blank = behind_again text rest e;
  within = let short = behind_is_short text in let long : length rest ≡ length (behind_blanks text) =
      ap length e in omega (arith, short, long, l);
}

placed_at : (size at : ℕ) (rest : List ℕ) → behind_blanks rest ≡ rest → at ≡ size - length rest → at ≡ first_byte size rest
placed_at size at rest b e = e ∙ ap (λ (left : List ℕ). size - length left) (sym b)

abbrev pub placed : Symbol → ℕ → PlacedSymbol
placed symbol at = record { symbol = symbol; at = at }

pub scan_steps : (size : ℕ) (text rest next : List ℕ) (done now : List PlacedSymbol) (token : Token) (used at : ℕ)
    → Scans size text done rest → IsNext rest token (drop used rest) → at ≡ size - length rest
    → now ≡ done ++ (placed (Lexeme token) at ∷ []) → next ≡ behind_blanks (between used (length rest) rest) → Scans size text now next
scan_steps size text rest next done now token used at s n a d e =
    let behind : next ≡ behind_blanks (drop used rest) = e ∙ ap behind_blanks (between_to_end rest used (length rest) (omega arith)) in
    let next_same : behind_blanks next ≡ behind_blanks (drop used rest) = ap behind_blanks behind ∙ behind_twice (drop used rest) in
    record {
      joins = λ more h.
          rw d (subst (AreSymbols size text) (sym (append_assoc done (placed (Lexeme token) at ∷ []) more))
          (s.joins (placed (Lexeme token) at
          ∷ more) (
            placed_at size at rest s.no_blank a,
            (drop used rest, n, symbols_same size next (drop used rest) more next_same h),
          )));
      no_blank = behind_again (drop used rest) next behind;
      within =
          let short = behind_is_short (drop used rest) in
          let long : length next ≡ length (behind_blanks (drop used rest)) = ap length behind in
          let left = length-drop used rest in
          let within = s.within in
          omega (arith, short, long, left, within);
    }

pub scan_strays : (size : ℕ) (text rest : List ℕ) (done now : List PlacedSymbol) (first : ℕ) (behind : List ℕ) (at : ℕ)
    → Scans size text done rest → rest ≡ first ∷ behind → BeginsNoToken rest → at ≡ size - length rest
    → now ≡ done ++ (placed Stray at ∷ []) → AreSymbols size text now
scan_strays size text rest done now first behind at s f none a d =
    let some : behind_blanks rest ≢ [] = λ k. let no : first ∷ behind ≡ [] = sym f ∙ sym s.no_blank ∙ k in cc in
    rw d (s.joins (placed Stray at ∷ []) (placed_at size at rest s.no_blank a, (some, none, refl)))

pub scan_ends : (size : ℕ) (text rest : List ℕ) (done now : List PlacedSymbol) (at : ℕ) → Scans size text done rest → rest ≡ []
    → at ≡ size → now ≡ done ++ (placed End at ∷ []) → AreSymbols size text now
scan_ends size text rest done now at s e a d =
    let none : length rest ≡ 0 = ap length e in
    let all : at ≡ size - length rest = omega (arith, a, none) in
    rw d (s.joins (placed End at ∷ []) (placed_at size at rest s.no_blank all, (s.no_blank ∙ e, refl)))

-- the symbols of a text end with its end, or with a byte that begins no token
last_more : (t : Symbol) (ts : List Symbol) → HasLast ts → HasLast (t ∷ ts)
last_more t ts h = record { front = t ∷ h.front; last = h.last; is = ap (λ (all : List Symbol). t ∷ all) h.is; ends = h.ends }

lone_last : (t : Symbol) (ps : List PlacedSymbol) → IsLast t → ps ≡ [] → HasLast (t ∷ symbols_of ps)
lone_last t ps h e = record { front = []; last = t; is = ap (λ (more : List PlacedSymbol). t ∷ symbols_of more) e; ends = h }

last_behind : (size : ℕ) (text : List ℕ) (p : PlacedSymbol) (t : Symbol) (ps : List PlacedSymbol)
    → ((rest : List ℕ) → AreSymbols size rest ps → HasLast (symbols_of ps))
    → StartsWith text (λ rest. AreSymbols size rest ps) (ps ≡ []) t → HasLast (t ∷ symbols_of ps)
last_behind size text p (Lexeme token) ps more h = last_more (Lexeme token) (symbols_of ps) (more h.0 h.2)
last_behind size text p End ps more h = lone_last End ps tt h.1
last_behind size text p Stray ps more h = lone_last Stray ps tt h.2

pub symbols_end : (size : ℕ) (text : List ℕ) (ps : List PlacedSymbol) → AreSymbols size text ps → HasLast (symbols_of ps)
symbols_end size text [] h = absurd h
symbols_end size text (p ∷ ps) h = last_behind size text p p.symbol ps (λ rest k. symbols_end size rest ps k) h.1

-- one token further, in the terms of the loop: `used` bytes of the rest are the token
pub scan_shortens : (rest next : List ℕ) (used : ℕ) → 0 < used → used ≤ length rest
    → next ≡ behind_blanks (between used (length rest) rest) → length next < length rest
scan_shortens rest next used some within e =
    let short = behind_is_short (drop used rest) in
    let long : length next ≡ length (behind_blanks (drop used rest)) = ap length (e
    ∙ ap behind_blanks (between_to_end rest used (length rest) (omega arith))) in
    let left = length-drop used rest in
    omega arith
