-- What `clap` makes of the words of the subcommand of N.
use Rattle.std.proofs.Common.{◌≡◌, ◌∙◌, ℕ, Bool, true, false, refl, sym, ap, ap₂, codes, List, [], ◌∷◌, Option, Some, None}
use Rattle.std.specs.Prelude.{slice_get, option_map, ◌&&◌}
use Rattle.std.specs.List.{All, fold, list_all}
use Rattle.std.proofs.lemmas.List.Elements.{All-head, All-tail}
use Rattle.std.specs.Str.{bytes_eq, chars, IsUtf8}
use Rattle.clap.specs.Lexer.{long_of, short_of}
use Rattle.clap.specs.Walk.{Held, Row, Rule, Text, Walk, idle, walked, nothing_held, settled, finished, rows_after}
use Rattle.clap.specs.Kinds.{Kinds, or_else}
use Rattle.clap.specs.ValueTests.{accepts}
use Rattle.clap.specs.declared.builder.value_parser.ValueParser.TheVariants as value_parser
use Rattle.clap.specs.Simple.{Shape, new_shape, filled_from}
use Rattle.clap.specs.Takes.{settle_passes, default_passes, is_valid, level_passes, walk_passes, turn_passes, flags_pass}
use Rattle.clap.specs.Faults.{settle_fault, defaults_fault, check_fault, level_fault, walk_fault, turn_fault, flags_fault}
use Rattle.clap.proofs.OnLiterals.{clap_on_literals}
use Rattle.clap.specs.declared.parser.matches.ValueSource.TheVariants.{CommandLine}
use Rattle.clap.specs.declared.builder.value_parser.Reading.TheVariants.{AsWritten}
use Rattle.clap.specs.declared.error.kind.ErrorKind.TheVariants as kind
use Rattle.limits.specs.Limits.{greatest_workload}
use Rattle.command_line.specs.Clap.{size_rule}
use Rattle.command_line.proofs.Kind.{Kind, dashes, long, short, operand, kind_of_word}
use Rattle.command_line.proofs.StatementLeaf.{some_kind, first_empty}
use Rattle.command_line.specs.CommandLine.{operands}

abbrev pub workload_rules : List Rule
workload_rules = filled_from 1 (size_rule ∷ [])

abbrev pub workload_shape : Shape
workload_shape = record (new_shape (codes "gen")) {
  rules = workload_rules;
  disable_help_flag = true;
  disable_help_subcommand = true;
  is_built = true;
}

abbrev pub size_row : Text → Row
size_row n = record { id = codes "N"; values = n ∷ []; count = None; source = Some CommandLine; reading = AsWritten }

-- the walk before N, and after it; t says that `--` was met
abbrev pub before : Bool → Walk
before t = record { held = nothing_held; waiting = idle; position = 1; is_trailing = t; stopped = None }

abbrev pub after : Bool → Text → Walk
after t n = record {
  held = record { rows = []; pending = Some (codes "N", n ∷ []); skip = 0 };
  waiting = idle;
  position = 2;
  is_trailing = t;
  stopped = None;
}

-- after `--` each word is a value
value_walked : (w : Text) → walked workload_rules [] (before true) w ≡ after true w
unfolding clap_on_literals
value_walked w = refl

value_fault : (w : Text) → turn_fault workload_shape [] (before true) w ≡ []
unfolding clap_on_literals
value_fault w = refl

value_passes : (w : Text) → turn_passes workload_shape [] (before true) w ≡ true
unfolding clap_on_literals
value_passes w = refl

-- the word fails, and doesn't pass
abbrev Refused : Walk → Text → Type 0
Refused from w = (turn_fault workload_shape [] from w ≡ kind.UnknownArgument ∷ []) × (turn_passes workload_shape [] from w ≡ false)

second_value : (n w : Text) → Refused (after true n) w
unfolding clap_on_literals
second_value n w = (refl, refl)

-- before it, a word that is no option
operand_walked : (w : Text) → bytes_eq w (45 ∷ 45 ∷ []) ≡ false → long_of w ≡ None → short_of w ≡ None
    → walked workload_rules [] (before false) w ≡ after false w
unfolding clap_on_literals
operand_walked w d l s = rw (d, l, s) refl

operand_fault : (w : Text) → bytes_eq w (45 ∷ 45 ∷ []) ≡ false → long_of w ≡ None → short_of w ≡ None
    → turn_fault workload_shape [] (before false) w ≡ []
unfolding clap_on_literals
operand_fault w d l s = rw (d, l, s) refl

operand_passes : (w : Text) → bytes_eq w (45 ∷ 45 ∷ []) ≡ false → long_of w ≡ None → short_of w ≡ None
    → turn_passes workload_shape [] (before false) w ≡ true
unfolding clap_on_literals
operand_passes w d l s = rw (d, l, s) refl

second_operand : (n w : Text) → bytes_eq w (45 ∷ 45 ∷ []) ≡ false → long_of w ≡ None → short_of w ≡ None
    → Refused (after false n) w
unfolding clap_on_literals
second_operand n w d l s = (rw (d, l, s) refl, rw (d, l, s) refl)

-- `--` itself
first_dashes : (w : Text) → bytes_eq w (45 ∷ 45 ∷ []) ≡ true
    → (walked workload_rules [] (before false) w ≡ before true) × (turn_fault workload_shape [] (before false) w ≡ [])
    × (turn_passes workload_shape [] (before false) w ≡ true)
unfolding clap_on_literals
first_dashes w d = (rw d refl, rw d refl, rw d refl)

later_dashes : (n w : Text) → bytes_eq w (45 ∷ 45 ∷ []) ≡ true
    → (walked workload_rules [] (after false n) w ≡ after true n) × (turn_fault workload_shape [] (after false n) w ≡ [])
    × (turn_passes workload_shape [] (after false n) w ≡ true)
unfolding clap_on_literals
later_dashes n w d = (rw d refl, rw d refl, rw d refl)

-- an option
long_before : (w : Text) (p : Text × Option Text) → bytes_eq w (45 ∷ 45 ∷ []) ≡ false → long_of w ≡ Some p
    → Refused (before false) w
unfolding clap_on_literals
long_before w p d l = (rw (d, l) refl, rw (d, l) refl)

long_after : (n w : Text) (p : Text × Option Text) → bytes_eq w (45 ∷ 45 ∷ []) ≡ false → long_of w ≡ Some p
    → Refused (after false n) w
unfolding clap_on_literals
long_after n w p d l = (rw (d, l) refl, rw (d, l) refl)

short_before : (w : Text) (b : ℕ) (flags : Text) (x : ℕ) → bytes_eq w (45 ∷ 45 ∷ []) ≡ false → long_of w ≡ None
    → short_of w ≡ Some (b ∷ flags)
    → slice_get (chars (b ∷ flags)) 0 ≡ Some x → Refused (before false) w
unfolding flags_fault flags_pass
short_before w b flags x d l s c = (rw (d, l, s, c) refl, rw (d, l, s, c) refl)

short_after : (n w : Text) (b : ℕ) (flags : Text) (x : ℕ) → bytes_eq w (45 ∷ 45 ∷ []) ≡ false → long_of w ≡ None
    → short_of w ≡ Some (b ∷ flags)
    → slice_get (chars (b ∷ flags)) 0 ≡ Some x → Refused (after false n) w
unfolding flags_fault flags_pass
short_after n w b flags x d l s c = (rw (d, l, s, c) refl, rw (d, l, s, c) refl)

-- ---- all words

-- a walk from here fails, or ends after N
abbrev Fails : Walk → List Text → Type 0
Fails from ws = (walk_fault workload_shape [] from ws ≡ [] → ⊥) × (walk_passes workload_shape [] from ws ≡ false)

abbrev Ends : Walk → List Text → Walk → Type 0
Ends from ws end = (fold (walked workload_rules []) from ws ≡ end) × (walk_fault workload_shape [] from ws ≡ [])
    × (walk_passes workload_shape [] from ws ≡ true)

-- after N nothing more may come
abbrev Stays : Text → List Text → Option (List Text) → Type 0
Stays n ws None = Fails (after false n) ws
Stays n ws (Some []) = (t : Bool) × Ends (after false n) ws (after t n)
Stays n ws (Some (m ∷ ms)) = Fails (after false n) ws

abbrev Reaches : List Text → Option (List Text) → Type 0
Reaches ws None = Fails (before false) ws
Reaches ws (Some []) = (t : Bool) × Ends (before false) ws (before t)
Reaches ws (Some (n ∷ [])) = (t : Bool) × Ends (before false) ws (after t n)
Reaches ws (Some (n ∷ m ∷ ms)) = Fails (before false) ws

turn_fails : (from : Walk) (w : Text) (ws : List Text) → Refused from w → Fails from (w ∷ ws)
unfolding walk_fault walk_passes
turn_fails from w ws f = (
  λ e. some_kind _ _ (sym (ap (λ a. or_else a (walk_fault workload_shape [] (walked workload_rules [] from w) ws)) f.0) ∙ e),
  ap (λ a. a && walk_passes workload_shape [] (walked workload_rules [] from w) ws) f.1,
)

later_fails : (from next : Walk) (w : Text) (ws : List Text) → walked workload_rules [] from w ≡ next
    → turn_fault workload_shape [] from w ≡ [] → turn_passes workload_shape [] from w ≡ true
    → Fails next ws → Fails from (w ∷ ws)
unfolding walk_fault walk_passes
later_fails from next w ws is fault passes f = (
  λ e. f.0 (sym (ap₂ (λ a b. or_else a (walk_fault workload_shape [] b ws)) fault is) ∙ e),
  ap₂ (λ a b. a && walk_passes workload_shape [] b ws) passes is ∙ f.1,
)

later_ends : (from next end : Walk) (w : Text) (ws : List Text) → walked workload_rules [] from w ≡ next
    → turn_fault workload_shape [] from w ≡ [] → turn_passes workload_shape [] from w ≡ true
    → Ends next ws end → Ends from (w ∷ ws) end
unfolding walk_fault walk_passes
later_ends from next end w ws is fault passes r = (
  ap (λ a. fold (walked workload_rules []) a ws) is ∙ r.0,
  ap₂ (λ a b. or_else a (walk_fault workload_shape [] b ws)) fault is ∙ r.1,
  ap₂ (λ a b. a && walk_passes workload_shape [] b ws) passes is ∙ r.2,
)

here : (from : Walk) → Ends from [] from
unfolding walk_fault walk_passes
here from = (refl, refl, refl)

stays_dashes : (n w : Text) (ws : List Text) → bytes_eq w (45 ∷ 45 ∷ []) ≡ true → Stays n (w ∷ ws) (Some ws)
stays_dashes n w [] d =
    let step = later_dashes n w d in
    (true, later_ends _ _ _ w [] step.0 step.1 step.2 (here (after true n)))
stays_dashes n w (m ∷ ms) d =
    let step = later_dashes n w d in
    later_fails _ _ w (m ∷ ms) step.0 step.1 step.2 (turn_fails _ m ms (second_value n m))

stays_operand : (n w : Text) (ws : List Text) (o : Option (List Text)) → Fails (after false n) (w ∷ ws)
    → Stays n (w ∷ ws) (option_map (λ ys. w ∷ ys) o)
stays_operand n w ws None f = f
stays_operand n w ws (Some os) f = f

stays : (n : Text) (ws : List Text) → All IsUtf8 ws → Stays n ws (operands ws)
stays n [] u = (false, here (after false n))
stays n (w ∷ ws) u = go (kind_of_word w (All-head IsUtf8 w ws u))
  where
    go : Kind w → Stays n (w ∷ ws) (operands (w ∷ ws))
    go (dashes d u) = rw d (stays_dashes n w ws d)
    go (long p d o l q u) = rw (d, o) (turn_fails _ w ws (long_after n w p d l))
    go (short b flags x d o l h c v u) = rw (d, o) (turn_fails _ w ws (short_after n w b flags x d l h c))
    go (operand d o l h) = rw (d, o) (stays_operand n w ws (operands ws) (turn_fails _ w ws (second_operand n w d l h)))

reaches_dashes : (w : Text) (ws : List Text) → bytes_eq w (45 ∷ 45 ∷ []) ≡ true → Reaches (w ∷ ws) (Some ws)
reaches_dashes w [] d =
    let step = first_dashes w d in
    (true, later_ends _ _ _ w [] step.0 step.1 step.2 (here (before true)))
reaches_dashes w (n ∷ []) d =
    let step = first_dashes w d in (
      true,
      later_ends _ _ _ w (n ∷ []) step.0 step.1 step.2
          (later_ends _ _ _ n [] (value_walked n) (value_fault n) (value_passes n) (here (after true n))),
    )
reaches_dashes w (n ∷ m ∷ ms) d =
    let step = first_dashes w d in
    later_fails _ _ w (n ∷ m ∷ ms) step.0 step.1 step.2
    (later_fails _ _ n (m ∷ ms) (value_walked n) (value_fault n) (value_passes n) (turn_fails _ m ms (second_value n m)))

reaches_operand : (w : Text) (ws : List Text) (o : Option (List Text)) → bytes_eq w (45 ∷ 45 ∷ []) ≡ false → long_of w ≡ None
    → short_of w ≡ None
    → Stays w ws o → Reaches (w ∷ ws) (option_map (λ ys. w ∷ ys) o)
reaches_operand w ws None d l s r = later_fails _ _ w ws (operand_walked w d l s) (operand_fault w d l s) (operand_passes w d l s) r
reaches_operand w ws (Some []) d l s r =
    (r.0, later_ends _ _ _ w ws (operand_walked w d l s) (operand_fault w d l s) (operand_passes w d l s) r.1)
reaches_operand w ws (Some (m ∷ ms)) d l s r =
    later_fails _ _ w ws (operand_walked w d l s) (operand_fault w d l s) (operand_passes w d l s) r

reaches : (ws : List Text) → All IsUtf8 ws → Reaches ws (operands ws)
reaches [] u = (false, here (before false))
reaches (w ∷ ws) u = go (kind_of_word w (All-head IsUtf8 w ws u))
  where
    go : Kind w → Reaches (w ∷ ws) (operands (w ∷ ws))
    go (dashes d u) = rw d (reaches_dashes w ws d)
    go (long p d o l q u) = rw (d, o) (turn_fails _ w ws (long_before w p d l))
    go (short b flags x d o l h c v u) = rw (d, o) (turn_fails _ w ws (short_before w b flags x d l h c))
    go (operand d o l h) = rw (d, o) (reaches_operand w ws (operands ws) d l h (stays w ws (All-tail IsUtf8 w ws u)))

-- ---- after the walk

abbrev end_fault : Held → Kinds
end_fault h = or_else (settle_fault workload_rules false h) (or_else (defaults_fault (settled workload_rules h).rows workload_rules)
    (check_fault workload_shape (finished workload_rules h) false))

abbrev end_passes : Held → Bool
end_passes h = settle_passes workload_rules false h
    && (list_all default_passes workload_rules && is_valid workload_shape (finished workload_rules h) false)

end_empty : (t : Bool) → end_fault (before t).held ≡ kind.MissingRequiredArgument ∷ []
unfolding clap_on_literals
end_empty t = refl

end_refused : (t : Bool) → end_passes (before t).held ≡ false
unfolding clap_on_literals
end_refused t = refl

end_size_refused : (t : Bool) (n : Text) → accepts false (value_parser.Unsigned 0 greatest_workload) n ≡ false
    → end_passes (after t n).held ≡ false
unfolding clap_on_literals
end_size_refused t n a = rw a refl

end_fault_none : (t : Bool) (n : Text) → accepts false (value_parser.Unsigned 0 greatest_workload) n ≡ true
    → end_fault (after t n).held ≡ []
unfolding clap_on_literals
end_fault_none t n a = rw a refl

end_fault_some : (t : Bool) (n : Text) → accepts false (value_parser.Unsigned 0 greatest_workload) n ≡ false
    → end_fault (after t n).held ≡ kind.ValueValidation ∷ []
unfolding clap_on_literals
end_fault_some t n a = rw a refl

end_passes_all : (t : Bool) (n : Text) → accepts false (value_parser.Unsigned 0 greatest_workload) n ≡ true
    → end_passes (after t n).held ≡ true
unfolding clap_on_literals
end_passes_all t n a = rw a refl

end_rows : (t : Bool) (n : Text) → finished workload_rules (after t n).held ≡ size_row n ∷ []
unfolding clap_on_literals
end_rows t n = refl

-- what `clap` makes of the words of the command, by their operands
abbrev WorkloadFails : List Text → Type 0
WorkloadFails ws = (level_fault workload_shape [] nothing_held ws false [] ≡ [] → ⊥)
    × (level_passes workload_shape [] nothing_held ws false ≡ false)

abbrev pub SizeIs : List Text → Text → Bool → Type 0
SizeIs ws n true = (level_fault workload_shape [] nothing_held ws false [] ≡ [])
    × (level_passes workload_shape [] nothing_held ws false ≡ true) × (rows_after workload_rules [] ws ≡ size_row n ∷ [])
SizeIs ws n false = WorkloadFails ws

abbrev pub WorkloadIs : List Text → Option (List Text) → Type 0
WorkloadIs ws None = WorkloadFails ws
WorkloadIs ws (Some []) = WorkloadFails ws
WorkloadIs ws (Some (n ∷ [])) = SizeIs ws n (accepts false (value_parser.Unsigned 0 greatest_workload) n)
WorkloadIs ws (Some (n ∷ m ∷ ms)) = WorkloadFails ws

size_is : (ws : List Text) (n : Text) (b : Bool) (t : Bool) → accepts false (value_parser.Unsigned 0 greatest_workload) n ≡ b
    → Ends (before false) ws (after t n) → SizeIs ws n b
size_is ws n true t a r = (
  ap₂ (λ k (w : Walk). or_else k (end_fault w.held)) r.1 r.0 ∙ end_fault_none t n a,
  ap₂ (λ k (w : Walk). k && end_passes w.held) r.2 r.0 ∙ end_passes_all t n a,
  ap (λ (w : Walk). finished workload_rules w.held) r.0 ∙ end_rows t n,
)
size_is ws n false t a r = (
  λ e. some_kind _ _ (sym (ap₂ (λ k (w : Walk). or_else k (end_fault w.held)) r.1 r.0 ∙ end_fault_some t n a) ∙ e),
  ap₂ (λ k (w : Walk). k && end_passes w.held) r.2 r.0 ∙ end_size_refused t n a,
)

walk_fails : (ws : List Text) → Fails (before false) ws → WorkloadFails ws
walk_fails ws r = (
  λ e. r.0 (first_empty _ _ e),
  ap (λ a. a && end_passes (fold (walked workload_rules []) (before false) ws).held) r.1,
)

workload_of : (ws : List Text) (o : Option (List Text)) → Reaches ws o → WorkloadIs ws o
workload_of ws None r = walk_fails ws r
workload_of ws (Some []) r = (
  λ e. some_kind _ _ (sym (ap₂ (λ k (w : Walk). or_else k (end_fault w.held)) r.1.1 r.1.0 ∙ end_empty r.0) ∙ e),
  ap₂ (λ k (w : Walk). k && end_passes w.held) r.1.2 r.1.0 ∙ end_refused r.0,
)
workload_of ws (Some (n ∷ [])) r = size_is ws n (accepts false (value_parser.Unsigned 0 greatest_workload) n) r.0 refl r.1
workload_of ws (Some (n ∷ m ∷ ms)) r = walk_fails ws r

pub workload_is : (ws : List Text) → All IsUtf8 ws → WorkloadIs ws (operands ws)
workload_is ws u = workload_of ws (operands ws) (reaches ws u)
