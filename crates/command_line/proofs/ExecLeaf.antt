-- What `clap` makes of the words of the subcommand of PATH, N, EXPR and WORDs.
use Rattle.std.proofs.Common.{◌≡◌, ◌∙◌, ◌≤◌, ◌+◌, ◌++◌, ℕ, Bool, true, false, refl, sym, ap, ap₂, subst, arith, codes}
use Rattle.std.proofs.Common.{List, [], ◌∷◌, length, Option, Some, None, true≢false, append-nil, append_assoc, le-ltb}
use Rattle.std.proofs.lemmas.Bool.{le-leb}
use Rattle.std.specs.Prelude.{slice_get, option_map, ◌&&◌, nat_lt, nat_le}
use Rattle.std.specs.List.{All, fold, list_all}
use Rattle.std.proofs.lemmas.List.Elements.{All-head, All-tail}
use Rattle.std.specs.Str.{bytes_eq, chars, IsUtf8}
use Rattle.clap.specs.Lexer.{long_of, short_of, usize_max}
use Rattle.clap.specs.Walk.{Held, Row, Rule, Text, Walk, idle, positional, walked, nothing_held, settled, finished, rows_after}
use Rattle.clap.specs.Kinds.{Kinds, or_else}
use Rattle.clap.specs.ValueTests.{accepts}
use Rattle.clap.specs.Simple.{Shape, new_shape, filled_from}
use Rattle.clap.specs.Takes.{settle_passes, default_passes, is_valid, level_passes, walk_passes, turn_passes, flags_pass}
use Rattle.clap.specs.Faults.{settle_fault, defaults_fault, check_fault, level_fault, walk_fault, turn_fault, flags_fault}
use Rattle.clap.proofs.OnLiterals.{clap_on_literals}
use Rattle.clap.specs.declared.builder.value_parser.ValueParser.TheVariants as value_parser
use Rattle.clap.specs.declared.parser.matches.ValueSource.TheVariants.{CommandLine}
use Rattle.clap.specs.declared.builder.value_parser.Reading.TheVariants.{AsWritten}
use Rattle.clap.specs.declared.error.kind.ErrorKind.{ErrorKind}
use Rattle.clap.specs.declared.error.kind.ErrorKind.TheVariants as kind
use Rattle.command_line.specs.Clap.{path_rule, budget_rule, expr_rule, word_rule}
use Rattle.command_line.specs.CommandLine.{greatest_budget, operands}
use Rattle.command_line.proofs.Kind.{Kind, dashes, long, short, operand, kind_of_word}
use Rattle.command_line.proofs.StatementLeaf.{some_kind, first_empty, expr_row, statement_rows, strings_fault, strings_pass}
use Rattle.command_line.proofs.WorkloadLeaf.{size_row}

abbrev pub exec_rules : List Rule
exec_rules = filled_from 1 (path_rule ∷ budget_rule ∷ expr_rule ∷ word_rule ∷ [])

abbrev pub exec_shape : Shape
exec_shape = record (new_shape (codes "exec")) {
  rules = exec_rules;
  disable_help_flag = true;
  disable_help_subcommand = true;
  is_built = true;
}

abbrev pub path_row : Text → Row
path_row p = record { id = codes "PATH"; values = p ∷ []; count = None; source = Some CommandLine; reading = AsWritten }

abbrev stands : List Row → Option (Text × List Text) → ℕ → Bool → Walk
stands rows pending position t = record {
  held = record { rows = rows; pending = pending; skip = 0 };
  waiting = idle;
  position = position;
  is_trailing = t;
  stopped = None;
}

-- the walk after these operands; t says that `--` was met
abbrev at : Bool → List Text → Walk
at t [] = record { held = nothing_held; waiting = idle; position = 1; is_trailing = t; stopped = None }
at t (p ∷ []) = stands [] (Some (codes "PATH", p ∷ [])) 2 t
at t (p ∷ n ∷ []) = stands (path_row p ∷ []) (Some (codes "N", n ∷ [])) 3 t
at t (p ∷ n ∷ e ∷ []) = stands (path_row p ∷ size_row n ∷ []) (Some (codes "EXPR", e ∷ [])) 4 t
at t (p ∷ n ∷ e ∷ w ∷ ws) = record {
  held = record { rows = path_row p ∷ size_row n ∷ expr_row e ∷ []; pending = Some (codes "WORD", w ∷ ws); skip = 0 };
  waiting = positional;
  position = 4;
  is_trailing = t;
  stopped = None;
}

abbrev pub is_taken : Text → Bool
is_taken n = accepts false (value_parser.Unsigned 0 greatest_budget) n

-- N is looked at as soon as a word stands behind it
abbrev fine : List Text → Bool
fine [] = true
fine (p ∷ []) = true
fine (p ∷ n ∷ []) = true
fine (p ∷ n ∷ e ∷ ws) = is_taken n

never_fine : (xs : List Text) (w : Text) (ws : List Text) → fine (xs ++ w ∷ []) ≡ false → fine (xs ++ w ∷ ws) ≡ false
never_fine [] w ws f = absurd (true≢false f)
never_fine (p ∷ []) w ws f = absurd (true≢false f)
never_fine (p ∷ n ∷ []) w ws f = f
never_fine (p ∷ n ∷ e ∷ xs) w ws f = f

-- ---- one word

-- the word passes, and the walk goes on from there
abbrev Turns : Walk → Text → Walk → Type 0
Turns from w next = (walked exec_rules [] from w ≡ next) × (turn_fault exec_shape [] from w ≡ [])
    × (turn_passes exec_shape [] from w ≡ true)

-- the word fails with this, and doesn't pass
abbrev Refused : Walk → Text → ErrorKind → Type 0
Refused from w k = (turn_fault exec_shape [] from w ≡ k ∷ []) × (turn_passes exec_shape [] from w ≡ false)

-- after `--` each word is a value
value_turn : (xs : List Text) (w : Text) → fine (xs ++ w ∷ []) ≡ true → Turns (at true xs) w (at true (xs ++ w ∷ []))
unfolding clap_on_literals
value_turn [] w f = (refl, refl, refl)
value_turn (p ∷ []) w f = (refl, refl, refl)
value_turn (p ∷ n ∷ []) w f = let a : is_taken n ≡ true = f in (refl, rw a refl, rw a refl)
value_turn (p ∷ n ∷ e ∷ []) w f = (refl, refl, refl)
value_turn (p ∷ n ∷ e ∷ v ∷ vs) w f = (refl, refl, refl)

value_refused : (xs : List Text) (w : Text) → fine xs ≡ true → fine (xs ++ w ∷ []) ≡ false → Refused (at true xs) w kind.ValueValidation
unfolding clap_on_literals
value_refused [] w g f = absurd (true≢false f)
value_refused (p ∷ []) w g f = absurd (true≢false f)
value_refused (p ∷ n ∷ []) w g f = let a : is_taken n ≡ false = f in (rw a refl, rw a refl)
value_refused (p ∷ n ∷ e ∷ ws) w g f = absurd (true≢false (sym g ∙ f))

-- before it, a word that is no option
module _ (w : Text) (d : bytes_eq w (45 ∷ 45 ∷ []) ≡ false) (l : long_of w ≡ None) (s : short_of w ≡ None) where
  operand_turn : (xs : List Text) → fine (xs ++ w ∷ []) ≡ true → Turns (at false xs) w (at false (xs ++ w ∷ []))
  unfolding clap_on_literals
  operand_turn [] f = (rw (d, l, s) refl, rw (d, l, s) refl, rw (d, l, s) refl)
  operand_turn (p ∷ []) f = (rw (d, l, s) refl, rw (d, l, s) refl, rw (d, l, s) refl)
  operand_turn (p ∷ n ∷ []) f =
      let a : is_taken n ≡ true = f in (rw (d, l, s) refl, rw (d, l, s, a) refl, rw (d, l, s, a) refl)
  operand_turn (p ∷ n ∷ e ∷ []) f = (rw (d, l, s) refl, rw (d, l, s) refl, rw (d, l, s) refl)
  operand_turn (p ∷ n ∷ e ∷ v ∷ vs) f = (rw (d, l, s) refl, rw (d, l, s) refl, rw (d, l, s) refl)

  operand_refused : (xs : List Text) → fine xs ≡ true → fine (xs ++ w ∷ []) ≡ false → Refused (at false xs) w kind.ValueValidation
  unfolding clap_on_literals
  operand_refused [] g f = absurd (true≢false f)
  operand_refused (p ∷ []) g f = absurd (true≢false f)
  operand_refused (p ∷ n ∷ []) g f = let a : is_taken n ≡ false = f in (rw (d, l, s, a) refl, rw (d, l, s, a) refl)
  operand_refused (p ∷ n ∷ e ∷ ws) g f = absurd (true≢false (sym g ∙ f))

-- `--` itself
dashes_turn : (xs : List Text) (w : Text) → bytes_eq w (45 ∷ 45 ∷ []) ≡ true → Turns (at false xs) w (at true xs)
unfolding clap_on_literals
dashes_turn [] w d = (rw d refl, rw d refl, rw d refl)
dashes_turn (p ∷ []) w d = (rw d refl, rw d refl, rw d refl)
dashes_turn (p ∷ n ∷ []) w d = (rw d refl, rw d refl, rw d refl)
dashes_turn (p ∷ n ∷ e ∷ []) w d = (rw d refl, rw d refl, rw d refl)
dashes_turn (p ∷ n ∷ e ∷ v ∷ vs) w d = (rw d refl, rw d refl, rw d refl)

-- an option
long_refused : (xs : List Text) (w : Text) (o : Text × Option Text) → bytes_eq w (45 ∷ 45 ∷ []) ≡ false → long_of w ≡ Some o
    → Refused (at false xs) w kind.UnknownArgument
unfolding clap_on_literals
long_refused [] w o d l = (rw (d, l) refl, rw (d, l) refl)
long_refused (p ∷ []) w o d l = (rw (d, l) refl, rw (d, l) refl)
long_refused (p ∷ n ∷ []) w o d l = (rw (d, l) refl, rw (d, l) refl)
long_refused (p ∷ n ∷ e ∷ []) w o d l = (rw (d, l) refl, rw (d, l) refl)
long_refused (p ∷ n ∷ e ∷ v ∷ vs) w o d l = (rw (d, l) refl, rw (d, l) refl)

short_refused : (xs : List Text) (w : Text) (b : ℕ) (flags : Text) (x : ℕ) → bytes_eq w (45 ∷ 45 ∷ []) ≡ false → long_of w ≡ None
    → short_of w ≡ Some (b ∷ flags)
    → slice_get (chars (b ∷ flags)) 0 ≡ Some x → Refused (at false xs) w kind.UnknownArgument
unfolding flags_fault flags_pass
short_refused [] w b flags x d l s c = (rw (d, l, s, c) refl, rw (d, l, s, c) refl)
short_refused (p ∷ []) w b flags x d l s c = (rw (d, l, s, c) refl, rw (d, l, s, c) refl)
short_refused (p ∷ n ∷ []) w b flags x d l s c = (rw (d, l, s, c) refl, rw (d, l, s, c) refl)
short_refused (p ∷ n ∷ e ∷ []) w b flags x d l s c = (rw (d, l, s, c) refl, rw (d, l, s, c) refl)
short_refused (p ∷ n ∷ e ∷ v ∷ vs) w b flags x d l s c = (rw (d, l, s, c) refl, rw (d, l, s, c) refl)

-- ---- all words

-- a walk from here fails, or ends at these operands
abbrev Fails : Walk → List Text → Type 0
Fails from ws = (walk_fault exec_shape [] from ws ≡ [] → ⊥) × (walk_passes exec_shape [] from ws ≡ false)

abbrev Ends : Walk → List Text → List Text → Type 0
Ends from ws os = (t : Bool) × (fold (walked exec_rules []) from ws ≡ at t os) × (walk_fault exec_shape [] from ws ≡ [])
    × (walk_passes exec_shape [] from ws ≡ true)

-- behind these operands stand so many more, or a word that isn't taken
abbrev Reaches : Bool → List Text → List Text → Option (List Text) → Type 0
Reaches t xs ws None = Fails (at t xs) ws
Reaches t xs ws (Some os) = (fine (xs ++ os) ≡ true → Ends (at t xs) ws (xs ++ os)) × (fine (xs ++ os) ≡ false → Fails (at t xs) ws)

turn_fails : (from : Walk) (w : Text) (ws : List Text) (k : ErrorKind) → Refused from w k → Fails from (w ∷ ws)
unfolding walk_fault walk_passes
turn_fails from w ws k f = (
  λ e. some_kind _ _ (sym (ap (λ a. or_else a (walk_fault exec_shape [] (walked exec_rules [] from w) ws)) f.0) ∙ e),
  ap (λ a. a && walk_passes exec_shape [] (walked exec_rules [] from w) ws) f.1,
)

later_fails : (from next : Walk) (w : Text) (ws : List Text) → Turns from w next → Fails next ws → Fails from (w ∷ ws)
unfolding walk_fault walk_passes
later_fails from next w ws turn f = (
  λ e. f.0 (sym (ap₂ (λ a b. or_else a (walk_fault exec_shape [] b ws)) turn.1 turn.0) ∙ e),
  ap₂ (λ a b. a && walk_passes exec_shape [] b ws) turn.2 turn.0 ∙ f.1,
)

later_ends : (from next : Walk) (w : Text) (ws os : List Text) → Turns from w next → Ends next ws os → Ends from (w ∷ ws) os
unfolding walk_fault walk_passes
later_ends from next w ws os turn r = (
  r.0,
  ap (λ a. fold (walked exec_rules []) a ws) turn.0 ∙ r.1,
  ap₂ (λ a b. or_else a (walk_fault exec_shape [] b ws)) turn.1 turn.0 ∙ r.2,
  ap₂ (λ a b. a && walk_passes exec_shape [] b ws) turn.2 turn.0 ∙ r.3,
)

here : (t : Bool) (xs : List Text) → fine xs ≡ true → Reaches t xs [] (Some [])
unfolding walk_fault walk_passes
here t xs g = (
  λ f. (t, ap (at t) (sym (append-nil xs)), refl, refl),
  λ f. absurd (true≢false (sym g ∙ (ap fine (sym (append-nil xs)) ∙ f))),
)

-- one more operand in front
further : (t : Bool) (xs : List Text) (w : Text) (ws os : List Text) → Turns (at t xs) w (at t (xs ++ w ∷ []))
    → Reaches t (xs ++ w ∷ []) ws (Some os) → Reaches t xs (w ∷ ws) (Some (w ∷ os))
further t xs w ws os turn r =
    let same = append_assoc xs (w ∷ []) os in (
      λ f. subst (λ l. Ends (at t xs) (w ∷ ws) l) same (later_ends _ _ w ws _ turn (r.0 (ap fine same ∙ f))),
      λ f. later_fails _ _ w ws turn (r.1 (ap fine same ∙ f)),
    )

-- a word behind which nothing is taken
no_further : (t : Bool) (xs : List Text) (w : Text) (ws os : List Text) → fine (xs ++ w ∷ []) ≡ false → Fails (at t xs) (w ∷ ws)
    → Reaches t xs (w ∷ ws) (Some (w ∷ os))
no_further t xs w ws os f fails = (λ g. absurd (true≢false (sym g ∙ never_fine xs w os f)), λ g. fails)

rest_reached : (xs ws : List Text) → fine xs ≡ true → Reaches true xs ws (Some ws)
rest_reached xs [] g = here true xs g
rest_reached xs (w ∷ ws) g = go (fine (xs ++ w ∷ [])) refl (λ f. rest_reached (xs ++ w ∷ []) ws f)
  where
    go : (b : Bool) → fine (xs ++ w ∷ []) ≡ b → (fine (xs ++ w ∷ []) ≡ true → Reaches true (xs ++ w ∷ []) ws (Some ws))
        → Reaches true xs (w ∷ ws) (Some (w ∷ ws))
    go true f more = further true xs w ws ws (value_turn xs w f) (more f)
    go false f more = no_further true xs w ws ws f (turn_fails _ w ws kind.ValueValidation (value_refused xs w g f))

after_dashes : (xs : List Text) (w : Text) (ws : List Text) → fine xs ≡ true → bytes_eq w (45 ∷ 45 ∷ []) ≡ true
    → Reaches false xs (w ∷ ws) (Some ws)
after_dashes xs w ws g d =
    let r = rest_reached xs ws g in
    let turn = dashes_turn xs w d in
    (λ f. later_ends _ _ w ws _ turn (r.0 f), λ f. later_fails _ _ w ws turn (r.1 f))

after_operand : (xs : List Text) (w : Text) (ws : List Text) (o : Option (List Text)) → Turns (at false xs) w (at false (xs ++ w ∷ []))
    → Reaches false (xs ++ w ∷ []) ws o → Reaches false xs (w ∷ ws) (option_map (λ ys. w ∷ ys) o)
after_operand xs w ws None turn r = later_fails _ _ w ws turn r
after_operand xs w ws (Some os) turn r = further false xs w ws os turn r

after_bad_operand : (xs : List Text) (w : Text) (ws : List Text) (o : Option (List Text)) → fine (xs ++ w ∷ []) ≡ false
    → Fails (at false xs) (w ∷ ws) → Reaches false xs (w ∷ ws) (option_map (λ ys. w ∷ ys) o)
after_bad_operand xs w ws None f fails = fails
after_bad_operand xs w ws (Some os) f fails = no_further false xs w ws os f fails

reaches : (xs ws : List Text) → fine xs ≡ true → All IsUtf8 ws → Reaches false xs ws (operands ws)
reaches xs [] g u = here false xs g
reaches xs (w ∷ ws) g u =
    go (kind_of_word w (All-head IsUtf8 w ws u)) (λ f. reaches (xs ++ w ∷ []) ws f (All-tail IsUtf8 w ws u))
  where
    go : Kind w → (fine (xs ++ w ∷ []) ≡ true → Reaches false (xs ++ w ∷ []) ws (operands ws))
        → Reaches false xs (w ∷ ws) (operands (w ∷ ws))
    go (dashes d u) more = rw d (after_dashes xs w ws g d)
    go (long p d o l q u) more = rw (d, o) (turn_fails _ w ws kind.UnknownArgument (long_refused xs w p d l))
    go (short b flags x d o l h c v u) more =
        rw (d, o) (turn_fails _ w ws kind.UnknownArgument (short_refused xs w b flags x d l h c))
    go (operand d o l h) more = rw (d, o) (by (fine (xs ++ w ∷ [])) refl)
      where
        by : (b : Bool) → fine (xs ++ w ∷ []) ≡ b → Reaches false xs (w ∷ ws) (option_map (λ ys. w ∷ ys) (operands ws))
        by true f = after_operand xs w ws (operands ws) (operand_turn w d l h xs f) (more f)
        by false f =
            after_bad_operand xs w ws (operands ws) f (turn_fails _ w ws kind.ValueValidation (operand_refused w d l h xs g f))

-- ---- after the walk

abbrev pub exec_rows : Text → Text → List Text → List Row
exec_rows p n os = path_row p ∷ size_row n ∷ statement_rows os

abbrev end_fault : Held → Kinds
end_fault h = or_else (settle_fault exec_rules false h) (or_else (defaults_fault (settled exec_rules h).rows exec_rules)
    (check_fault exec_shape (finished exec_rules h) false))

abbrev end_passes : Held → Bool
end_passes h = settle_passes exec_rules false h
    && (list_all default_passes exec_rules && is_valid exec_shape (finished exec_rules h) false)

-- an operand is missing, or N is none behind which nothing stands
abbrev Lacks : Held → Type 0
Lacks h = (k : ErrorKind) × (end_fault h ≡ k ∷ []) × (end_passes h ≡ false)

lacks_path : (t : Bool) → Lacks (at t []).held
unfolding clap_on_literals
lacks_path t = (kind.MissingRequiredArgument, refl, refl)

lacks_budget : (t : Bool) (p : Text) → Lacks (at t (p ∷ [])).held
unfolding clap_on_literals
lacks_budget t p = (kind.MissingRequiredArgument, refl, refl)

lacks_expr : (t : Bool) (p n : Text) → (b : Bool) → is_taken n ≡ b → Lacks (at t (p ∷ n ∷ [])).held
unfolding clap_on_literals
lacks_expr t p n true a = (kind.MissingRequiredArgument, rw a refl, rw a refl)
lacks_expr t p n false a = (kind.ValueValidation, rw a refl, rw a refl)

end_fault_none : (t : Bool) (p n e : Text) (os : List Text) → length os ≤ usize_max → end_fault (at t (p ∷ n ∷ e ∷ os)).held ≡ []
unfolding clap_on_literals
end_fault_none t p n e [] fits = refl
end_fault_none t p n e (w ∷ ws) fits =
    let within : nat_lt usize_max (length (w ∷ ws)) ≡ false = le-ltb usize_max (length (w ∷ ws)) fits in
    let least : nat_lt (length (w ∷ ws)) 0 ≡ false = le-ltb (length (w ∷ ws)) 0 (omega arith) in
    rw (least, within, strings_fault ws) refl

end_passes_all : (t : Bool) (p n e : Text) (os : List Text) → length os ≤ usize_max → end_passes (at t (p ∷ n ∷ e ∷ os)).held ≡ true
unfolding clap_on_literals
end_passes_all t p n e [] fits = refl
end_passes_all t p n e (w ∷ ws) fits =
    let within : nat_le (length (w ∷ ws)) usize_max ≡ true = le-leb (length (w ∷ ws)) usize_max fits in
    let least : nat_le 0 (length (w ∷ ws)) ≡ true = le-leb 0 (length (w ∷ ws)) (omega arith) in
    rw (least, within, strings_pass ws) refl

end_rows : (t : Bool) (p n e : Text) (os : List Text)
    → finished exec_rules (at t (p ∷ n ∷ e ∷ os)).held ≡ exec_rows p n (e ∷ os)
unfolding clap_on_literals
end_rows t p n e [] = refl
end_rows t p n e (w ∷ ws) = refl

-- what `clap` makes of the words of the command, by their operands
abbrev ExecFails : List Text → Type 0
ExecFails ws = (level_fault exec_shape [] nothing_held ws false [] ≡ [] → ⊥) × (level_passes exec_shape [] nothing_held ws false ≡ false)

abbrev pub BudgetIs : List Text → Text → Text → List Text → Bool → Type 0
BudgetIs ws p n os true = (level_fault exec_shape [] nothing_held ws false [] ≡ [])
    × (level_passes exec_shape [] nothing_held ws false ≡ true) × (rows_after exec_rules [] ws ≡ exec_rows p n os)
BudgetIs ws p n os false = ExecFails ws

abbrev pub ExecIs : List Text → Option (List Text) → Type 0
ExecIs ws None = ExecFails ws
ExecIs ws (Some []) = ExecFails ws
ExecIs ws (Some (p ∷ [])) = ExecFails ws
ExecIs ws (Some (p ∷ n ∷ [])) = ExecFails ws
ExecIs ws (Some (p ∷ n ∷ e ∷ os)) = BudgetIs ws p n (e ∷ os) (is_taken n)

walk_fails : (ws : List Text) → Fails (at false []) ws → ExecFails ws
walk_fails ws r = (
  λ e. r.0 (first_empty _ _ e),
  ap (λ a. a && end_passes (fold (walked exec_rules []) (at false []) ws).held) r.1,
)

end_fails : (ws os : List Text) → Ends (at false []) ws os → ((t : Bool) → Lacks (at t os).held) → ExecFails ws
end_fails ws os r lacks = (
  λ e. some_kind _ _ (sym (ap₂ (λ k (w : Walk). or_else k (end_fault w.held)) r.2 r.1 ∙ (lacks r.0).1) ∙ e),
  ap₂ (λ k (w : Walk). k && end_passes w.held) r.3 r.1 ∙ (lacks r.0).2,
)

budget_is : (ws : List Text) (p n e : Text) (os : List Text) (b : Bool) → is_taken n ≡ b → length os ≤ usize_max
    → Reaches false [] ws (Some (p ∷ n ∷ e ∷ os)) → BudgetIs ws p n (e ∷ os) b
budget_is ws p n e os true a few r =
    let ends : Ends (at false []) ws (p ∷ n ∷ e ∷ os) = r.0 a in (
      ap₂ (λ k (w : Walk). or_else k (end_fault w.held)) ends.2 ends.1 ∙ end_fault_none ends.0 p n e os few,
      ap₂ (λ k (w : Walk). k && end_passes w.held) ends.3 ends.1 ∙ end_passes_all ends.0 p n e os few,
      ap (λ (w : Walk). finished exec_rules w.held) ends.1 ∙ end_rows ends.0 p n e os,
    )
budget_is ws p n e os false a few r = walk_fails ws (r.1 a)

exec_of : (ws : List Text) (o : Option (List Text)) → ((os : List Text) → o ≡ Some os → length os ≤ usize_max + 3)
    → Reaches false [] ws o → ExecIs ws o
exec_of ws None fits r = walk_fails ws r
exec_of ws (Some []) fits r = end_fails ws [] (r.0 refl) (λ t. lacks_path t)
exec_of ws (Some (p ∷ [])) fits r = end_fails ws (p ∷ []) (r.0 refl) (λ t. lacks_budget t p)
exec_of ws (Some (p ∷ n ∷ [])) fits r = end_fails ws (p ∷ n ∷ []) (r.0 refl) (λ t. lacks_expr t p n (is_taken n) refl)
exec_of ws (Some (p ∷ n ∷ e ∷ os)) fits r =
    budget_is ws p n e os (is_taken n) refl (omega (arith, fits (p ∷ n ∷ e ∷ os) refl)) r

pub exec_is : (ws : List Text) → All IsUtf8 ws → ((os : List Text) → operands ws ≡ Some os → length os ≤ usize_max + 3)
    → ExecIs ws (operands ws)
exec_is ws u fits = exec_of ws (operands ws) fits (reaches [] ws refl u)
