-- What `clap` makes of the words of a subcommand of EXPR and WORDs.
use Rattle.std.proofs.Common.{◌≡◌, ◌∙◌, ◌≤◌, ◌+◌, ◌++◌, ℕ, Bool, true, false, refl, sym, ap, ap₂, arith, codes, List, [], ◌∷◌, length}
use Rattle.std.proofs.Common.{Option, Some, None, true≢false, append-nil, append_assoc, le-ltb}
use Rattle.std.proofs.lemmas.Bool.{le-leb}
use Rattle.std.specs.Prelude.{slice_get, option_map, ◌&&◌, nat_lt, nat_le}
use Rattle.std.specs.List.{All, fold, list_all}
use Rattle.std.proofs.lemmas.List.Elements.{All-head, All-tail}
use Rattle.std.specs.Str.{bytes_eq, chars, IsUtf8}
use Rattle.clap.specs.Lexer.{long_of, short_of, usize_max}
use Rattle.clap.specs.Walk.{Held, Row, Rule, Text, Walk, idle, positional, walked, nothing_held, settled, finished, rows_after}
use Rattle.clap.specs.Kinds.{Kinds, or_else, values_kinds}
use Rattle.clap.specs.ValueTests.{accepts}
use Rattle.clap.specs.declared.builder.value_parser.ValueParser.TheVariants as value_parser
use Rattle.clap.specs.Simple.{Shape, new_shape, filled_from}
use Rattle.clap.specs.Takes.{settle_passes, default_passes, is_valid, level_passes, walk_passes, turn_passes, flags_pass}
use Rattle.clap.specs.Faults.{settle_fault, defaults_fault, check_fault, level_fault, walk_fault, turn_fault, flags_fault}
use Rattle.clap.proofs.OnLiterals.{clap_on_literals}
use Rattle.clap.specs.declared.parser.matches.ValueSource.TheVariants.{CommandLine}
use Rattle.clap.specs.declared.builder.value_parser.Reading.TheVariants.{AsWritten}
use Rattle.clap.specs.declared.error.kind.ErrorKind.{ErrorKind}
use Rattle.clap.specs.declared.error.kind.ErrorKind.TheVariants as kind
use Rattle.command_line.specs.Clap.{expr_rule, word_rule}
use Rattle.command_line.proofs.Kind.{Kind, dashes, long, short, operand, kind_of_word}
use Rattle.command_line.specs.CommandLine.{operands}

abbrev pub statement_rules : List Rule
statement_rules = filled_from 1 (expr_rule ∷ word_rule ∷ [])

abbrev pub statement_shape : Text → Shape
statement_shape name = record (new_shape name) {
  rules = statement_rules;
  disable_help_flag = true;
  disable_help_subcommand = true;
  is_built = true;
}

abbrev pub expr_row : Text → Row
expr_row e = record { id = codes "EXPR"; values = e ∷ []; count = None; source = Some CommandLine; reading = AsWritten }

abbrev pub words_row : List Text → Row
words_row ws = record { id = codes "WORD"; values = ws; count = None; source = Some CommandLine; reading = AsWritten }

-- the walk after these operands; t says that `--` was met
abbrev pub at : Bool → List Text → Walk
at t [] = record { held = nothing_held; waiting = idle; position = 1; is_trailing = t; stopped = None }
at t (e ∷ []) = record {
  held = record { rows = []; pending = Some (codes "EXPR", e ∷ []); skip = 0 };
  waiting = idle;
  position = 2;
  is_trailing = t;
  stopped = None;
}
at t (e ∷ w ∷ ws) = record {
  held = record { rows = expr_row e ∷ []; pending = Some (codes "WORD", w ∷ ws); skip = 0 };
  waiting = positional;
  position = 2;
  is_trailing = t;
  stopped = None;
}

no_kind : Kinds → Bool
no_kind [] = true
no_kind (k ∷ ks) = false

pub some_kind : (k : ErrorKind) (ks : Kinds) → k ∷ ks ≡ [] → ⊥
unfolding no_kind
some_kind k ks e = true≢false (sym (ap no_kind e))

pub first_empty : (a b : Kinds) → or_else a b ≡ [] → a ≡ []
first_empty [] b e = refl
first_empty (k ∷ ks) b e = absurd (some_kind k ks e)

module _ (name : Text) where
  -- after `--` each word is a value
  value_walked : (xs : List Text) (w : Text) → walked statement_rules [] (at true xs) w ≡ at true (xs ++ w ∷ [])
  unfolding clap_on_literals
  value_walked [] w = refl
  value_walked (e ∷ []) w = refl
  value_walked (e ∷ v ∷ ws) w = refl

  value_fault : (xs : List Text) (w : Text) → turn_fault (statement_shape name) [] (at true xs) w ≡ []
  unfolding clap_on_literals
  value_fault [] w = refl
  value_fault (e ∷ []) w = refl
  value_fault (e ∷ v ∷ ws) w = refl

  value_passes : (xs : List Text) (w : Text) → turn_passes (statement_shape name) [] (at true xs) w ≡ true
  unfolding clap_on_literals
  value_passes [] w = refl
  value_passes (e ∷ []) w = refl
  value_passes (e ∷ v ∷ ws) w = refl

  -- before it, a word that is no option
  operand_walked : (xs : List Text) (w : Text) → bytes_eq w (45 ∷ 45 ∷ []) ≡ false → long_of w ≡ None → short_of w ≡ None
      → walked statement_rules [] (at false xs) w ≡ at false (xs ++ w ∷ [])
  unfolding clap_on_literals
  operand_walked [] w d l s = rw (d, l, s) refl
  operand_walked (e ∷ []) w d l s = rw (d, l, s) refl
  operand_walked (e ∷ v ∷ ws) w d l s = rw (d, l, s) refl

  operand_fault : (xs : List Text) (w : Text) → bytes_eq w (45 ∷ 45 ∷ []) ≡ false → long_of w ≡ None → short_of w ≡ None
      → turn_fault (statement_shape name) [] (at false xs) w ≡ []
  unfolding clap_on_literals
  operand_fault [] w d l s = rw (d, l, s) refl
  operand_fault (e ∷ []) w d l s = rw (d, l, s) refl
  operand_fault (e ∷ v ∷ ws) w d l s = rw (d, l, s) refl

  operand_passes : (xs : List Text) (w : Text) → bytes_eq w (45 ∷ 45 ∷ []) ≡ false → long_of w ≡ None → short_of w ≡ None
      → turn_passes (statement_shape name) [] (at false xs) w ≡ true
  unfolding clap_on_literals
  operand_passes [] w d l s = rw (d, l, s) refl
  operand_passes (e ∷ []) w d l s = rw (d, l, s) refl
  operand_passes (e ∷ v ∷ ws) w d l s = rw (d, l, s) refl

  -- `--` itself
  dashes_walked : (xs : List Text) (w : Text) → bytes_eq w (45 ∷ 45 ∷ []) ≡ true → walked statement_rules [] (at false xs) w ≡ at true xs
  unfolding clap_on_literals
  dashes_walked [] w d = rw d refl
  dashes_walked (e ∷ []) w d = rw d refl
  dashes_walked (e ∷ v ∷ ws) w d = rw d refl

  dashes_fault : (xs : List Text) (w : Text) → bytes_eq w (45 ∷ 45 ∷ []) ≡ true → turn_fault (statement_shape name) [] (at false xs) w ≡ []
  unfolding clap_on_literals
  dashes_fault [] w d = rw d refl
  dashes_fault (e ∷ []) w d = rw d refl
  dashes_fault (e ∷ v ∷ ws) w d = rw d refl

  dashes_pass : (xs : List Text) (w : Text) → bytes_eq w (45 ∷ 45 ∷ []) ≡ true
      → turn_passes (statement_shape name) [] (at false xs) w ≡ true
  unfolding clap_on_literals
  dashes_pass [] w d = rw d refl
  dashes_pass (e ∷ []) w d = rw d refl
  dashes_pass (e ∷ v ∷ ws) w d = rw d refl

  -- an option
  long_fails : (xs : List Text) (w : Text) (p : Text × Option Text) → bytes_eq w (45 ∷ 45 ∷ []) ≡ false → long_of w ≡ Some p
      → turn_fault (statement_shape name) [] (at false xs) w ≡ kind.UnknownArgument ∷ []
  unfolding clap_on_literals
  long_fails [] w p d l = rw (d, l) refl
  long_fails (e ∷ []) w p d l = rw (d, l) refl
  long_fails (e ∷ v ∷ ws) w p d l = rw (d, l) refl

  short_fails : (xs : List Text) (w : Text) (b : ℕ) (flags : Text) (x : ℕ) → bytes_eq w (45 ∷ 45 ∷ []) ≡ false → long_of w ≡ None
      → short_of w ≡ Some (b ∷ flags)
      → slice_get (chars (b ∷ flags)) 0 ≡ Some x → turn_fault (statement_shape name) [] (at false xs) w ≡ kind.UnknownArgument ∷ []
  unfolding flags_fault
  short_fails [] w b flags x d l s c = rw (d, l, s, c) refl
  short_fails (e ∷ []) w b flags x d l s c = rw (d, l, s, c) refl
  short_fails (e ∷ v ∷ ws) w b flags x d l s c = rw (d, l, s, c) refl

  long_refused : (xs : List Text) (w : Text) (p : Text × Option Text) → bytes_eq w (45 ∷ 45 ∷ []) ≡ false → long_of w ≡ Some p
      → turn_passes (statement_shape name) [] (at false xs) w ≡ false
  unfolding clap_on_literals
  long_refused [] w p d l = rw (d, l) refl
  long_refused (e ∷ []) w p d l = rw (d, l) refl
  long_refused (e ∷ v ∷ ws) w p d l = rw (d, l) refl

  short_refused : (xs : List Text) (w : Text) (b : ℕ) (flags : Text) (x : ℕ) → bytes_eq w (45 ∷ 45 ∷ []) ≡ false → long_of w ≡ None
      → short_of w ≡ Some (b ∷ flags)
      → slice_get (chars (b ∷ flags)) 0 ≡ Some x → turn_passes (statement_shape name) [] (at false xs) w ≡ false
  unfolding flags_pass
  short_refused [] w b flags x d l s c = rw (d, l, s, c) refl
  short_refused (e ∷ []) w b flags x d l s c = rw (d, l, s, c) refl
  short_refused (e ∷ v ∷ ws) w b flags x d l s c = rw (d, l, s, c) refl

  -- ---- all words

  rest_walked : (xs ws : List Text) → fold (walked statement_rules []) (at true xs) ws ≡ at true (xs ++ ws)
  rest_walked xs [] = ap (at true) (sym (append-nil xs))
  rest_walked xs (w ∷ ws) =
      ap (λ a. fold (walked statement_rules []) a ws) (value_walked xs w) ∙ rest_walked (xs ++ w ∷ []) ws
      ∙ ap (at true) (append_assoc xs (w ∷ []) ws)

  rest_fault : (xs ws : List Text) → walk_fault (statement_shape name) [] (at true xs) ws ≡ []
  unfolding walk_fault
  rest_fault xs [] = refl
  rest_fault xs (w ∷ ws) =
      ap₂ (λ a b. or_else a (walk_fault (statement_shape name) [] b ws)) (value_fault xs w) (value_walked xs w)
      ∙ rest_fault (xs ++ w ∷ []) ws

  rest_passes : (xs ws : List Text) → walk_passes (statement_shape name) [] (at true xs) ws ≡ true
  unfolding walk_passes
  rest_passes xs [] = refl
  rest_passes xs (w ∷ ws) =
      ap₂ (λ a b. a && walk_passes (statement_shape name) [] b ws) (value_passes xs w) (value_walked xs w) ∙ rest_passes (xs ++ w ∷ []) ws

  -- the walk over the words of a command, by their operands
  abbrev Reaches : List Text → List Text → Option (List Text) → Type 0
  Reaches xs ws None = (walk_fault (statement_shape name) [] (at false xs) ws ≡ [] → ⊥)
      × (walk_passes (statement_shape name) [] (at false xs) ws ≡ false)
  Reaches xs ws (Some os) = (t : Bool) × (fold (walked statement_rules []) (at false xs) ws ≡ at t (xs ++ os))
      × (walk_fault (statement_shape name) [] (at false xs) ws ≡ []) × (walk_passes (statement_shape name) [] (at false xs) ws ≡ true)

  after_dashes : (xs : List Text) (w : Text) (ws : List Text) → bytes_eq w (45 ∷ 45 ∷ []) ≡ true → Reaches xs (w ∷ ws) (Some ws)
  unfolding walk_fault walk_passes
  after_dashes xs w ws d = (
    true,
    ap (λ a. fold (walked statement_rules []) a ws) (dashes_walked xs w d) ∙ rest_walked xs ws,
    ap₂ (λ a b. or_else a (walk_fault (statement_shape name) [] b ws)) (dashes_fault xs w d) (dashes_walked xs w d) ∙ rest_fault xs ws,
    ap₂ (λ a b. a && walk_passes (statement_shape name) [] b ws) (dashes_pass xs w d) (dashes_walked xs w d) ∙ rest_passes xs ws,
  )

  after_operand : (xs : List Text) (w : Text) (ws : List Text) (o : Option (List Text)) → bytes_eq w (45 ∷ 45 ∷ []) ≡ false
      → long_of w ≡ None → short_of w ≡ None
      → Reaches (xs ++ w ∷ []) ws o → Reaches xs (w ∷ ws) (option_map (λ ys. w ∷ ys) o)
  unfolding walk_fault walk_passes
  after_operand xs w ws None d l h r = (
    λ e. r.0 (sym (ap₂ (λ a b. or_else a (walk_fault (statement_shape name) [] b ws)) (operand_fault xs w d l h)
        (operand_walked xs w d l h)) ∙ e),
    ap₂ (λ a b. a && walk_passes (statement_shape name) [] b ws) (operand_passes xs w d l h) (operand_walked xs w d l h) ∙ r.1,
  )
  after_operand xs w ws (Some os) d l h r = (
    r.0,
    ap (λ a. fold (walked statement_rules []) a ws) (operand_walked xs w d l h) ∙ r.1 ∙ ap (at r.0) (append_assoc xs (w ∷ []) os),
    ap₂ (λ a b. or_else a (walk_fault (statement_shape name) [] b ws)) (operand_fault xs w d l h) (operand_walked xs w d l h) ∙ r.2,
    ap₂ (λ a b. a && walk_passes (statement_shape name) [] b ws) (operand_passes xs w d l h) (operand_walked xs w d l h) ∙ r.3,
  )

  after_option : (xs : List Text) (w : Text) (ws : List Text)
      → turn_fault (statement_shape name) [] (at false xs) w ≡ kind.UnknownArgument ∷ []
      → turn_passes (statement_shape name) [] (at false xs) w ≡ false → Reaches xs (w ∷ ws) None
  unfolding walk_fault walk_passes
  after_option xs w ws f p = (
    λ e. some_kind _ _ (sym (ap (λ a. or_else a (walk_fault (statement_shape name) [] (walked statement_rules [] (at false xs) w) ws)) f)
        ∙ e),
    ap (λ a. a && walk_passes (statement_shape name) [] (walked statement_rules [] (at false xs) w) ws) p,
  )

  reaches : (xs ws : List Text) → All IsUtf8 ws → Reaches xs ws (operands ws)
  unfolding walk_fault walk_passes
  reaches xs [] u = (false, ap (at false) (sym (append-nil xs)), refl, refl)
  reaches xs (w ∷ ws) u = go (kind_of_word w (All-head IsUtf8 w ws u)) (λ r. reaches (xs ++ w ∷ []) ws (All-tail IsUtf8 w ws u))
    where
      go : Kind w → (Unit {0} → Reaches (xs ++ w ∷ []) ws (operands ws)) → Reaches xs (w ∷ ws) (operands (w ∷ ws))
      go (dashes d u) more = rw d (after_dashes xs w ws d)
      go (long p d o l q u) more = rw (d, o) (after_option xs w ws (long_fails xs w p d l) (long_refused xs w p d l))
      go (short b flags x d o l h c v u) more =
          rw (d, o) (after_option xs w ws (short_fails xs w b flags x d l h c) (short_refused xs w b flags x d l h c))
      go (operand d o l h) more = rw (d, o) (after_operand xs w ws (operands ws) d l h (more tt))

-- ---- after the walk

abbrev pub statement_rows : List Text → List Row
statement_rows [] = []
statement_rows (e ∷ []) = expr_row e ∷ []
statement_rows (e ∷ w ∷ ws) = expr_row e ∷ words_row (w ∷ ws) ∷ []

-- each text is text
pub strings_fault : (ws : List Text) → values_kinds false value_parser.String ws ≡ []
strings_fault [] = refl
strings_fault (w ∷ ws) = strings_fault ws

pub strings_pass : (ws : List Text) → list_all (accepts false value_parser.String) ws ≡ true
strings_pass [] = refl
strings_pass (w ∷ ws) = strings_pass ws

module _ (name : Text) where
  -- what a level asks after its walk
  abbrev end_fault : Held → Kinds
  end_fault h = or_else (settle_fault statement_rules false h) (or_else (defaults_fault (settled statement_rules h).rows statement_rules)
      (check_fault (statement_shape name) (finished statement_rules h) false))

  abbrev end_passes : Held → Bool
  end_passes h = settle_passes statement_rules false h
      && (list_all default_passes statement_rules && is_valid (statement_shape name) (finished statement_rules h) false)

  end_empty : (t : Bool) → end_fault (at t []).held ≡ kind.MissingRequiredArgument ∷ []
  unfolding clap_on_literals
  end_empty t = refl

  end_refused : (t : Bool) → end_passes (at t []).held ≡ false
  unfolding clap_on_literals
  end_refused t = refl

  end_fault_none : (t : Bool) (e : Text) (os : List Text) → length os ≤ usize_max → end_fault (at t (e ∷ os)).held ≡ []
  unfolding clap_on_literals
  end_fault_none t e [] fits = refl
  end_fault_none t e (w ∷ ws) fits =
      let within : nat_lt usize_max (length (w ∷ ws)) ≡ false = le-ltb usize_max (length (w ∷ ws)) fits in
      let least : nat_lt (length (w ∷ ws)) 0 ≡ false = le-ltb (length (w ∷ ws)) 0 (omega arith) in
      rw (least, within, strings_fault ws) refl

  end_passes_all : (t : Bool) (e : Text) (os : List Text) → length os ≤ usize_max → end_passes (at t (e ∷ os)).held ≡ true
  unfolding clap_on_literals
  end_passes_all t e [] fits = refl
  end_passes_all t e (w ∷ ws) fits =
      let within : nat_le (length (w ∷ ws)) usize_max ≡ true = le-leb (length (w ∷ ws)) usize_max fits in
      let least : nat_le 0 (length (w ∷ ws)) ≡ true = le-leb 0 (length (w ∷ ws)) (omega arith) in
      rw (least, within, strings_pass ws) refl

  end_rows : (t : Bool) (os : List Text) → finished statement_rules (at t os).held ≡ statement_rows os
  unfolding clap_on_literals
  end_rows t [] = refl
  end_rows t (e ∷ []) = refl
  end_rows t (e ∷ w ∷ ws) = refl

  -- what `clap` makes of the words of the command, by their operands
  abbrev pub LevelIs : List Text → Option (List Text) → Type 0
  LevelIs ws None = (level_fault (statement_shape name) [] nothing_held ws false [] ≡ [] → ⊥)
      × (level_passes (statement_shape name) [] nothing_held ws false ≡ false)
  LevelIs ws (Some []) = (level_fault (statement_shape name) [] nothing_held ws false [] ≡ [] → ⊥)
      × (level_passes (statement_shape name) [] nothing_held ws false ≡ false)
  LevelIs ws (Some (e ∷ os)) = (level_fault (statement_shape name) [] nothing_held ws false [] ≡ [])
      × (level_passes (statement_shape name) [] nothing_held ws false ≡ true) × (rows_after statement_rules [] ws ≡ statement_rows (e ∷ os))

  level_of : (ws : List Text) (o : Option (List Text)) → ((os : List Text) → o ≡ Some os → length os ≤ usize_max + 1)
      → Reaches name [] ws o → LevelIs ws o
  level_of ws None fits r = (
    λ e. r.0 (first_empty _ _ e),
    ap (λ a. a && end_passes (fold (walked statement_rules []) (at false []) ws).held) r.1,
  )
  level_of ws (Some []) fits r = (
    λ e.
        let left : level_fault (statement_shape name) [] nothing_held ws false [] ≡ end_fault (at r.0 []).held =
        ap₂ (λ a (b : Walk). or_else a (end_fault b.held)) r.2 r.1 in
        some_kind _ _ (sym (left ∙ end_empty r.0) ∙ e),
    ap₂ (λ a (b : Walk). a && end_passes b.held) r.3 r.1 ∙ end_refused r.0,
  )
  level_of ws (Some (e ∷ os)) fits r =
      let short : length os ≤ usize_max = omega (arith, fits (e ∷ os) refl) in (
        ap₂ (λ a (b : Walk). or_else a (end_fault b.held)) r.2 r.1 ∙ end_fault_none r.0 e os short,
        ap₂ (λ a (b : Walk). a && end_passes b.held) r.3 r.1 ∙ end_passes_all r.0 e os short,
        ap (λ (b : Walk). finished statement_rules b.held) r.1 ∙ end_rows r.0 (e ∷ os),
      )

  pub level_is : (ws : List Text) → All IsUtf8 ws → ((os : List Text) → operands ws ≡ Some os → length os ≤ usize_max + 1)
      → LevelIs ws (operands ws)
  level_is ws u fits = level_of ws (operands ws) fits (reaches name [] ws u)
