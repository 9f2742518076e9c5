-- How `clap` walks over the words of a subcommand with the option `--over`: where it stands after operands and a semiring's name, and
-- what one more word does there.
use Rattle.std.proofs.Common.{◌≡◌, ◌∙◌, ◌≤◌, ◌+◌, ◌++◌, ℕ, Bool, true, false, refl, sym, ap, ap₂, arith, codes, List, [], ◌∷◌, length}
use Rattle.std.proofs.Common.{Option, Some, None, le-ltb}
use Rattle.std.proofs.lemmas.Bool.{le-leb}
use Rattle.std.specs.Prelude.{slice_get, nat_lt, nat_le, is_some, ◌&&◌}
use Rattle.std.specs.Str.{bytes_eq, chars}
use Rattle.clap.specs.Lexer.{long_of, short_of, usize_max}
use Rattle.clap.specs.Walk.{Held, Row, Rule, Text, Waiting, Walk, idle, option, positional, walked, settled_rows, has_row}
use Rattle.clap.specs.Kinds.{Kinds, or_else}
use Rattle.clap.specs.Values.{reading_of, refused_kind}
use Rattle.clap.specs.declared.error.kind.ErrorKind.{ErrorKind}
use Rattle.clap.specs.declared.error.kind.ErrorKind.TheVariants as kind
use Rattle.clap.specs.ValueTests.{accepts}
use Rattle.clap.specs.declared.builder.value_parser.ValueParser.{ValueParser}
use Rattle.clap.specs.Simple.{Shape, new_shape, filled_from}
use Rattle.clap.specs.Takes.{settle_passes, turn_passes, flags_pass}
use Rattle.clap.specs.Faults.{settle_fault, turn_fault, flags_fault}
use Rattle.clap.proofs.OnLiterals.{clap_on_literals}
use Rattle.clap.specs.declared.parser.matches.ValueSource.TheVariants.{CommandLine}
use Rattle.command_line.specs.declared.Over.{Over}
use Rattle.command_line.specs.CommandLine.{over_named}
use Rattle.command_line.specs.Clap.{TakesNames, expr_rule, word_rule, over_rule}
use Rattle.command_line.proofs.StatementLeaf.{some_kind, first_empty, expr_row, words_row, statement_rows, strings_fault, strings_pass}

abbrev pub over_rules : ValueParser → List Rule
over_rules names = filled_from 1 (expr_rule ∷ word_rule ∷ over_rule names ∷ [])

abbrev pub over_shape : ValueParser → Text → Shape
over_shape names name = record (new_shape name) {
  rules = over_rules names;
  disable_help_flag = true;
  disable_help_subcommand = true;
  is_built = true;
}

abbrev pub over_row : ValueParser → Text → Row
over_row names s = record { id = codes "over"; values = s ∷ []; count = None; source = Some CommandLine; reading = reading_of names }

-- the operands so far, and where among them a semiring was named, in the word of `--over=` itself or in the one behind `--over`
pub data Seen : Type 0 where
  unnamed : (operands : List Text) → Seen
  named : (attached : Bool) (before : List Text) (name : Text) (over : Over) → over_named name ≡ Some over → (behind : List Text) → Seen

abbrev pub add : Seen → Text → Seen
add (unnamed xs) w = unnamed (xs ++ w ∷ [])
add (named a xs s o i ys) w = named a xs s o i (ys ++ w ∷ [])

abbrev pub count : Seen → ℕ
count (unnamed xs) = length xs
count (named a xs s o i ys) = length xs + length ys

abbrev pub holds : List Row → Option (Text × List Text) → Held
holds rows pending = record { rows = rows; pending = pending; skip = 0 }

abbrev pub stands : Held → Waiting → ℕ → Bool → Walk
stands h k n t = record { held = h; waiting = k; position = n; is_trailing = t; stopped = None }

-- ---- where the walk stands

-- the position that the next operand goes to
abbrev pub place : List Text → ℕ
place [] = 1
place (x ∷ xs) = 2

abbrev pub position_at : Seen → ℕ
position_at (unnamed xs) = place xs
position_at (named a xs s o i ys) = place (xs ++ ys)

-- several operands wait for more of them
abbrev waits : List Text → Waiting
waits [] = idle
waits (e ∷ []) = idle
waits (e ∷ w ∷ ws) = positional

abbrev waits_behind : List Text → List Text → Waiting
waits_behind [] ys = waits ys
waits_behind (x ∷ xs) [] = idle
waits_behind (x ∷ xs) (y ∷ ys) = positional

abbrev pub waiting_at : Seen → Waiting
waiting_at (unnamed xs) = waits xs
waiting_at (named a xs s o i ys) = waits_behind xs ys

abbrev pending_of : List Text → Option (Text × List Text)
pending_of [] = None
pending_of (e ∷ []) = Some (codes "EXPR", e ∷ [])
pending_of (e ∷ w ∷ ws) = Some (codes "WORD", w ∷ ws)

abbrev pending_name : Bool → Text → Option (Text × List Text)
pending_name true s = None
pending_name false s = Some (codes "over", s ∷ [])

abbrev pending_behind : List Text → List Text → Option (Text × List Text)
pending_behind [] ys = pending_of ys
pending_behind (x ∷ xs) ys = Some (codes "WORD", ys)

abbrev pending_named : Bool → List Text → Text → List Text → Option (Text × List Text)
pending_named a xs s [] = pending_name a s
pending_named a xs s (y ∷ ys) = pending_behind xs (y ∷ ys)

abbrev pub pending_at : Seen → Option (Text × List Text)
pending_at (unnamed xs) = pending_of xs
pending_at (named a xs s o i ys) = pending_named a xs s ys

abbrev rows_of : List Text → List Row
rows_of [] = []
rows_of (e ∷ []) = []
rows_of (e ∷ w ∷ ws) = expr_row e ∷ []

module _ (names : ValueParser) where
  abbrev rows_name : Bool → List Text → Text → List Row
  rows_name true xs s = statement_rows xs ++ over_row names s ∷ []
  rows_name false xs s = statement_rows xs

  abbrev rows_named : Bool → List Text → Text → List Text → List Row
  rows_named a xs s [] = rows_name a xs s
  rows_named a [] s (y ∷ ys) = over_row names s ∷ rows_of (y ∷ ys)
  rows_named a (x ∷ xs) s (y ∷ ys) = statement_rows (x ∷ xs) ++ over_row names s ∷ []

  abbrev pub rows_at : Seen → List Row
  rows_at (unnamed xs) = rows_of xs
  rows_at (named a xs s o i ys) = rows_named a xs s ys

  -- t says that `--` was met
  abbrev pub at : Bool → Seen → Walk
  at t a = stands (holds (rows_at a) (pending_at a)) (waiting_at a) (position_at a) t

  -- the rows once what is pending is used
  abbrev used_behind : List Text → Text → Text → List Text → List Row
  used_behind [] s y ys = over_row names s ∷ statement_rows (y ∷ ys)
  used_behind (e ∷ []) s y ys = expr_row e ∷ over_row names s ∷ words_row (y ∷ ys) ∷ []
  used_behind (e ∷ v ∷ vs) s y ys = expr_row e ∷ words_row ((v ∷ vs) ++ y ∷ ys) ∷ over_row names s ∷ []

  abbrev used_named : List Text → Text → List Text → List Row
  used_named xs s [] = statement_rows xs ++ over_row names s ∷ []
  used_named xs s (y ∷ ys) = used_behind xs s y ys

  abbrev pub used_at : Seen → List Row
  used_at (unnamed xs) = statement_rows xs
  used_at (named a xs s o i ys) = used_named xs s ys

pub is_named : (names : ValueParser) (a : Bool) (xs : List Text) (s : Text) (o : Over) (i : over_named s ≡ Some o) (ys : List Text)
    → has_row (codes "over") (used_at names (named a xs s o i ys)) ≡ true
is_named names a [] s o i [] = refl
is_named names a (e ∷ []) s o i [] = refl
is_named names a (e ∷ v ∷ vs) s o i [] = refl
is_named names a [] s o i (y ∷ []) = refl
is_named names a [] s o i (y ∷ w ∷ ws) = refl
is_named names a (e ∷ []) s o i (y ∷ ys) = refl
is_named names a (e ∷ v ∷ vs) s o i (y ∷ ys) = refl

pub is_unnamed : (xs : List Text) → has_row (codes "over") (statement_rows xs) ≡ false
is_unnamed [] = refl
is_unnamed (e ∷ []) = refl
is_unnamed (e ∷ w ∷ ws) = refl

second_empty : (a b : Kinds) → or_else a b ≡ [] → b ≡ []
second_empty [] b e = e
second_empty (k ∷ ks) b e = absurd (some_kind k ks e)

module _ (names : ValueParser) (takes_names : TakesNames names) (name : Text) where
  abbrev rules : List Rule
  rules = over_rules names

  abbrev shape : Shape
  shape = over_shape names name

  -- ---- what is pending is used

  abbrev pub Settles : List Row → Option (Text × List Text) → List Row → Type 0
  Settles rows pending used = (settle_passes rules false (holds rows pending) ≡ true) × (settle_fault rules false (holds rows pending) ≡ [])
      × (settled_rows rules pending rows ≡ used)

  accepted : (s : Text) (o : Over) → over_named s ≡ Some o → accepts false names s ≡ true
  accepted s o i = takes_names s ∙ ap (λ x. is_some x) i

  words_settle : (rows : List Row) (w : Text) (ws : List Text) → length (w ∷ ws) ≤ usize_max
      → (settle_passes rules false (holds rows (Some (codes "WORD", w ∷ ws))) ≡ true)
      × (settle_fault rules false (holds rows (Some (codes "WORD", w ∷ ws))) ≡ [])
  unfolding clap_on_literals
  words_settle rows w ws fits =
      let within : nat_le (length (w ∷ ws)) usize_max ≡ true = le-leb (length (w ∷ ws)) usize_max fits in
      let least : nat_le 0 (length (w ∷ ws)) ≡ true = le-leb 0 (length (w ∷ ws)) (omega arith) in
      let above : nat_lt usize_max (length (w ∷ ws)) ≡ false = le-ltb usize_max (length (w ∷ ws)) fits in
      let below : nat_lt (length (w ∷ ws)) 0 ≡ false = le-ltb (length (w ∷ ws)) 0 (omega arith) in
      (rw (least, within, strings_pass ws) refl, rw (below, above, strings_fault ws) refl)

  pub settles : (a : Seen) → count a ≤ usize_max → Settles (rows_at names a) (pending_at a) (used_at names a)
  settles (unnamed []) f = (refl, refl, refl)
  settles (unnamed (e ∷ [])) f = (refl, refl, refl)
  settles (unnamed (e ∷ w ∷ ws)) f = let s = words_settle (expr_row e ∷ []) w ws (omega (arith, f)) in (s.0, s.1, refl)
  settles (named true xs s o i []) f = (refl, refl, refl)
  settles (named false [] s o i []) f = (rw (accepted s o i) refl, rw (accepted s o i) refl, refl)
  settles (named false (e ∷ []) s o i []) f = (rw (accepted s o i) refl, rw (accepted s o i) refl, refl)
  settles (named false (e ∷ v ∷ vs) s o i []) f = (rw (accepted s o i) refl, rw (accepted s o i) refl, refl)
  settles (named a [] s o i (y ∷ [])) f = (refl, refl, refl)
  settles (named a [] s o i (y ∷ w ∷ ws)) f =
      let k = words_settle (over_row names s ∷ expr_row y ∷ []) w ws (omega (arith, f)) in (k.0, k.1, refl)
  settles (named a (e ∷ []) s o i (y ∷ ys)) f =
      let k = words_settle (expr_row e ∷ over_row names s ∷ []) y ys (omega (arith, f)) in (k.0, k.1, refl)
  settles (named a (e ∷ v ∷ vs) s o i (y ∷ ys)) f =
      let k = words_settle (expr_row e ∷ words_row (v ∷ vs) ∷ over_row names s ∷ []) y ys (omega (arith, f)) in (k.0, k.1, refl)

  -- the use of `--over` with these values is refused
  abbrev pub Bad : List Row → List Text → Type 0
  Bad used vs = (settle_passes rules false (holds used (Some (codes "over", vs))) ≡ false)
      × (settle_fault rules false (holds used (Some (codes "over", vs))) ≡ [] → ⊥)

  pub bad_none : (used : List Row) → Bad used []
  bad_none used = (refl, λ e. some_kind _ _ e)

  pub bad_again : (used : List Row) (v : Text) → has_row (codes "over") used ≡ true → Bad used (v ∷ [])
  bad_again used v h =
      let fault : settle_fault rules false (holds used (Some (codes "over", v ∷ []))) ≡ kind.ArgumentConflict ∷ [] = rw h refl in
      (rw h refl, λ e. some_kind _ _ (sym fault ∙ e))

  pub bad_name : (used : List Row) (v : Text) → has_row (codes "over") used ≡ false → over_named v ≡ None → Bad used (v ∷ [])
  bad_name used v h none =
      let refused : accepts false names v ≡ false = takes_names v ∙ ap (λ x. is_some x) none in
      let fault : settle_fault rules false (holds used (Some (codes "over", v ∷ []))) ≡ refused_kind names ∷ [] = rw (h, refused) refl in
      (rw (h, refused) refl, λ e. some_kind _ _ (sym fault ∙ e))

  -- ---- one more word

  abbrev pub Goes : Walk → Text → Walk → Type 0
  Goes from w to = (walked rules [] from w ≡ to) × (turn_fault shape [] from w ≡ []) × (turn_passes shape [] from w ≡ true)

  abbrev pub Refused : Walk → Text → Type 0
  Refused from w = (turn_fault shape [] from w ≡ [] → ⊥) × (turn_passes shape [] from w ≡ false)

  refused_by : (from : Walk) (w : Text) (k : ErrorKind) → turn_fault shape [] from w ≡ k ∷ [] → turn_passes shape [] from w ≡ false
      → Refused from w
  refused_by from w k f p = (λ e. some_kind _ _ (sym f ∙ e), p)

  -- after `--` each word is an operand
  pub value_goes : (a : Seen) (w : Text) → Goes (at names true a) w (at names true (add a w))
  unfolding clap_on_literals
  value_goes (unnamed []) w = (refl, refl, refl)
  value_goes (unnamed (e ∷ [])) w = (refl, refl, refl)
  value_goes (unnamed (e ∷ v ∷ vs)) w = (refl, refl, refl)
  value_goes (named true [] s o i []) w = (refl, refl, refl)
  value_goes (named true (e ∷ []) s o i []) w = (refl, refl, refl)
  value_goes (named true (e ∷ v ∷ vs) s o i []) w = (refl, refl, refl)
  value_goes (named false [] s o i []) w = (refl, rw (accepted s o i) refl, rw (accepted s o i) refl)
  value_goes (named false (e ∷ []) s o i []) w = (refl, rw (accepted s o i) refl, rw (accepted s o i) refl)
  value_goes (named false (e ∷ v ∷ vs) s o i []) w = (refl, rw (accepted s o i) refl, rw (accepted s o i) refl)
  value_goes (named a [] s o i (y ∷ [])) w = (refl, refl, refl)
  value_goes (named a [] s o i (y ∷ v ∷ vs)) w = (refl, refl, refl)
  value_goes (named a (e ∷ []) s o i (y ∷ ys)) w = (refl, refl, refl)
  value_goes (named a (e ∷ v ∷ vs) s o i (y ∷ ys)) w = (refl, refl, refl)

  -- before it, a word that is no option
  abbrev pub IsPlain : Text → Type 0
  IsPlain w = (bytes_eq w (45 ∷ 45 ∷ []) ≡ false) × (long_of w ≡ None) × (short_of w ≡ None)

  pub operand_goes : (a : Seen) (w : Text) → IsPlain w → Goes (at names false a) w (at names false (add a w))
  unfolding clap_on_literals
  operand_goes (unnamed []) w p = (rw (p.0, p.1, p.2) refl, rw (p.0, p.1, p.2) refl, rw (p.0, p.1, p.2) refl)
  operand_goes (unnamed (e ∷ [])) w p = (rw (p.0, p.1, p.2) refl, rw (p.0, p.1, p.2) refl, rw (p.0, p.1, p.2) refl)
  operand_goes (unnamed (e ∷ v ∷ vs)) w p = (rw (p.0, p.1, p.2) refl, rw (p.0, p.1, p.2) refl, rw (p.0, p.1, p.2) refl)
  operand_goes (named true [] s o i []) w p = (rw (p.0, p.1, p.2) refl, rw (p.0, p.1, p.2) refl, rw (p.0, p.1, p.2) refl)
  operand_goes (named true (e ∷ []) s o i []) w p = (rw (p.0, p.1, p.2) refl, rw (p.0, p.1, p.2) refl, rw (p.0, p.1, p.2) refl)
  operand_goes (named true (e ∷ v ∷ vs) s o i []) w p = (rw (p.0, p.1, p.2) refl, rw (p.0, p.1, p.2) refl, rw (p.0, p.1, p.2) refl)
  operand_goes (named false [] s o i []) w p =
      (rw (p.0, p.1, p.2) refl, rw (p.0, p.1, p.2, accepted s o i) refl, rw (p.0, p.1, p.2, accepted s o i) refl)
  operand_goes (named false (e ∷ []) s o i []) w p =
      (rw (p.0, p.1, p.2) refl, rw (p.0, p.1, p.2, accepted s o i) refl, rw (p.0, p.1, p.2, accepted s o i) refl)
  operand_goes (named false (e ∷ v ∷ vs) s o i []) w p =
      (rw (p.0, p.1, p.2) refl, rw (p.0, p.1, p.2, accepted s o i) refl, rw (p.0, p.1, p.2, accepted s o i) refl)
  operand_goes (named a [] s o i (y ∷ [])) w p = (rw (p.0, p.1, p.2) refl, rw (p.0, p.1, p.2) refl, rw (p.0, p.1, p.2) refl)
  operand_goes (named a [] s o i (y ∷ v ∷ vs)) w p = (rw (p.0, p.1, p.2) refl, rw (p.0, p.1, p.2) refl, rw (p.0, p.1, p.2) refl)
  operand_goes (named a (e ∷ []) s o i (y ∷ ys)) w p = (rw (p.0, p.1, p.2) refl, rw (p.0, p.1, p.2) refl, rw (p.0, p.1, p.2) refl)
  operand_goes (named a (e ∷ v ∷ vs) s o i (y ∷ ys)) w p = (rw (p.0, p.1, p.2) refl, rw (p.0, p.1, p.2) refl, rw (p.0, p.1, p.2) refl)

  -- `--` itself
  pub dashes_go : (h : Held) (k : Waiting) (n : ℕ) (w : Text) → bytes_eq w (45 ∷ 45 ∷ []) ≡ true
      → Goes (stands h k n false) w (stands h k n true)
  unfolding clap_on_literals
  dashes_go h idle n w d = (rw d refl, rw d refl, rw d refl)
  dashes_go h (option id) n w d = (rw d refl, rw d refl, rw d refl)
  dashes_go h positional n w d = (rw d refl, rw d refl, rw d refl)

  -- an option that the command doesn't have
  pub long_refused : (h : Held) (k : Waiting) (n : ℕ) (w : Text) (p : Text × Option Text) → bytes_eq w (45 ∷ 45 ∷ []) ≡ false
      → long_of w ≡ Some p → bytes_eq (codes "over") p.0 ≡ false → Refused (stands h k n false) w
  unfolding clap_on_literals
  long_refused h idle n w p d l o = refused_by (stands h idle n false) w kind.UnknownArgument (rw (d, l, o) refl) (rw (d, l, o) refl)
  long_refused h (option id) n w p d l o =
      refused_by (stands h (option id) n false) w kind.UnknownArgument (rw (d, l, o) refl) (rw (d, l, o) refl)
  long_refused h positional n w p d l o =
      refused_by (stands h positional n false) w kind.UnknownArgument (rw (d, l, o) refl) (rw (d, l, o) refl)

  pub short_refused : (r : List Row) (p : Option (Text × List Text)) (k : Waiting) (n : ℕ) (w : Text) (b : ℕ) (flags : Text) (x : ℕ)
      → bytes_eq w (45 ∷ 45 ∷ []) ≡ false → long_of w ≡ None → short_of w ≡ Some (b ∷ flags)
      → slice_get (chars (b ∷ flags)) 0 ≡ Some x → Refused (stands (holds r p) k n false) w
  unfolding flags_fault flags_pass
  short_refused r p idle n w b flags x d l s c =
      refused_by (stands (holds r p) idle n false) w kind.UnknownArgument (rw (d, l, s, c) refl) (rw (d, l, s, c) refl)
  short_refused r p (option id) n w b flags x d l s c =
      refused_by (stands (holds r p) (option id) n false) w kind.UnknownArgument (rw (d, l, s, c) refl) (rw (d, l, s, c) refl)
  short_refused r p positional n w b flags x d l s c =
      refused_by (stands (holds r p) positional n false) w kind.UnknownArgument (rw (d, l, s, c) refl) (rw (d, l, s, c) refl)

  -- `--over`, whose value is due then
  abbrev pub due : List Row → ℕ → Walk
  due used n = stands (holds used (Some (codes "over", []))) (option (codes "over")) n false

  due_walked : (r : List Row) (p : Option (Text × List Text)) (k : Waiting) (n : ℕ) (w m : Text)
      → bytes_eq w (45 ∷ 45 ∷ []) ≡ false → long_of w ≡ Some (m, None) → bytes_eq (codes "over") m ≡ true
      → walked rules [] (stands (holds r p) k n false) w ≡ due (settled_rows rules p r) n
  unfolding clap_on_literals
  due_walked r p idle n w m d l o = rw (d, l, o) refl
  due_walked r p (option id) n w m d l o = rw (d, l, o) refl
  due_walked r p positional n w m d l o = rw (d, l, o) refl

  due_turn : (r : List Row) (p : Option (Text × List Text)) (k : Waiting) (n : ℕ) (w m : Text)
      → bytes_eq w (45 ∷ 45 ∷ []) ≡ false → long_of w ≡ Some (m, None) → bytes_eq (codes "over") m ≡ true
      → (turn_fault shape [] (stands (holds r p) k n false) w ≡ or_else (settle_fault rules false (holds r p)) [])
      × (turn_passes shape [] (stands (holds r p) k n false) w ≡ (settle_passes rules false (holds r p) && true))
  unfolding clap_on_literals
  due_turn r p idle n w m d l o = (rw (d, l, o) refl, rw (d, l, o) refl)
  due_turn r p (option id) n w m d l o = (rw (d, l, o) refl, rw (d, l, o) refl)
  due_turn r p positional n w m d l o = (rw (d, l, o) refl, rw (d, l, o) refl)

  pub due_goes : (r : List Row) (p : Option (Text × List Text)) (used : List Row) (k : Waiting) (n : ℕ) (w m : Text)
      → bytes_eq w (45 ∷ 45 ∷ []) ≡ false → long_of w ≡ Some (m, None) → bytes_eq (codes "over") m ≡ true → Settles r p used
      → Goes (stands (holds r p) k n false) w (due used n)
  due_goes r p used k n w m d l o s =
      let is = due_turn r p k n w m d l o in (
        due_walked r p k n w m d l o ∙ ap (λ rows. due rows n) s.2,
        is.0 ∙ ap (λ x. or_else x []) s.1,
        is.1 ∙ ap (λ x. x && true) s.0,
      )

  -- its value
  pub value_named : (used : List Row) (n : ℕ) (w : Text) → IsPlain w
      → Goes (due used n) w (stands (holds used (Some (codes "over", w ∷ []))) idle n false)
  unfolding clap_on_literals
  value_named used n w p = (rw (p.0, p.1, p.2) refl, rw (p.0, p.1, p.2) refl, rw (p.0, p.1, p.2) refl)

  -- `--over=S`
  pub attached_goes : (xs : List Text) (w m s : Text) (o : Over) (i : over_named s ≡ Some o) → length xs ≤ usize_max
      → bytes_eq w (45 ∷ 45 ∷ []) ≡ false → long_of w ≡ Some (m, Some s) → bytes_eq (codes "over") m ≡ true
      → Goes (at names false (unnamed xs)) w (at names false (named true xs s o i []))
  unfolding clap_on_literals
  attached_goes [] w m s o i f d l q = (
    rw (d, l, q) refl,
    rw (d, l, q, accepted s o i) refl,
    rw (d, l, q, accepted s o i) refl,
  )
  attached_goes (e ∷ []) w m s o i f d l q = (
    rw (d, l, q) refl,
    rw (d, l, q, accepted s o i) refl,
    rw (d, l, q, accepted s o i) refl,
  )
  attached_goes (e ∷ v ∷ vs) w m s o i f d l q =
      let k = words_settle (expr_row e ∷ []) v vs (omega (arith, f)) in (
        rw (d, l, q) refl,
        rw (d, l, q, k.1, accepted s o i) refl,
        rw (d, l, q, k.0, accepted s o i) refl,
      )

  attached_turn : (r : List Row) (p : Option (Text × List Text)) (k : Waiting) (n : ℕ) (w m s : Text)
      → bytes_eq w (45 ∷ 45 ∷ []) ≡ false → long_of w ≡ Some (m, Some s) → bytes_eq (codes "over") m ≡ true
      → (turn_fault shape [] (stands (holds r p) k n false) w ≡ or_else (or_else (settle_fault rules false (holds r p))
      (settle_fault rules false (holds (settled_rows rules p r) (Some (codes "over", s ∷ []))))) [])
      × (turn_passes shape [] (stands (holds r p) k n false) w ≡ ((settle_passes rules false (holds r p)
      && settle_passes rules false (holds (settled_rows rules p r) (Some (codes "over", s ∷ [])))) && true))
  unfolding clap_on_literals
  attached_turn r p idle n w m s d l o = (rw (d, l, o) refl, rw (d, l, o) refl)
  attached_turn r p (option id) n w m s d l o = (rw (d, l, o) refl, rw (d, l, o) refl)
  attached_turn r p positional n w m s d l o = (rw (d, l, o) refl, rw (d, l, o) refl)

  pub attached_refused : (r : List Row) (p : Option (Text × List Text)) (used : List Row) (k : Waiting) (n : ℕ) (w m s : Text)
      → bytes_eq w (45 ∷ 45 ∷ []) ≡ false → long_of w ≡ Some (m, Some s) → bytes_eq (codes "over") m ≡ true
      → Settles r p used → Bad used (s ∷ []) → Refused (stands (holds r p) k n false) w
  attached_refused r p used k n w m s d l o t b =
      let is = attached_turn r p k n w m s d l o in
      let fault_of : List Row → Kinds = λ rows. settle_fault rules false (holds rows (Some (codes "over", s ∷ []))) in
      let passes : List Row → Bool = λ rows. settle_passes rules false (holds rows (Some (codes "over", s ∷ []))) in (
        λ e. b.1 (sym (ap fault_of t.2) ∙ second_empty _ _ (first_empty _ _ (sym is.0 ∙ e))),
        is.1 ∙ ap₂ (λ x y. (x && y) && true) t.0 (ap passes t.2 ∙ b.0),
      )

  -- ---- behind a use of `--over` that is refused

  pub bad_value : (used : List Row) (vs zs : List Text) (k : Waiting) (w : Text) → Bad used vs
      → Refused (stands (holds used (Some (codes "over", vs))) k (place zs) true) w
  unfolding clap_on_literals
  bad_value used vs [] k w b = (λ e. b.1 e, b.0)
  bad_value used vs (z ∷ zs) k w b = (λ e. b.1 e, b.0)

  pub bad_operand : (used : List Row) (vs zs : List Text) (w : Text) → IsPlain w → Bad used vs
      → Refused (stands (holds used (Some (codes "over", vs))) idle (place zs) false) w
  unfolding clap_on_literals
  bad_operand used vs [] w p b = (λ e. b.1 (sym (rw (p.0, p.1, p.2) refl) ∙ e), rw (p.0, p.1, p.2) b.0)
  bad_operand used vs (z ∷ zs) w p b = (λ e. b.1 (sym (rw (p.0, p.1, p.2) refl) ∙ e), rw (p.0, p.1, p.2) b.0)

  pub bad_due : (used : List Row) (vs : List Text) (k : Waiting) (n : ℕ) (w m : Text) → bytes_eq w (45 ∷ 45 ∷ []) ≡ false
      → long_of w ≡ Some (m, None) → bytes_eq (codes "over") m ≡ true → Bad used vs
      → Refused (stands (holds used (Some (codes "over", vs))) k n false) w
  bad_due used vs k n w m d l o b =
      let is = due_turn used (Some (codes "over", vs)) k n w m d l o in
      (λ e. b.1 (first_empty _ _ (sym is.0 ∙ e)), is.1 ∙ ap (λ x. x && true) b.0)

  pub bad_attached : (used : List Row) (vs : List Text) (k : Waiting) (n : ℕ) (w m s : Text) → bytes_eq w (45 ∷ 45 ∷ []) ≡ false
      → long_of w ≡ Some (m, Some s) → bytes_eq (codes "over") m ≡ true → Bad used vs
      → Refused (stands (holds used (Some (codes "over", vs))) k n false) w
  bad_attached used vs k n w m s d l o b =
      let is = attached_turn used (Some (codes "over", vs)) k n w m s d l o in
      let again = settle_passes rules false (holds (settled_rows rules (Some (codes "over", vs)) used) (Some (codes "over", s ∷ []))) in
      (λ e. b.1 (first_empty _ _ (first_empty _ _ (sym is.0 ∙ e))), is.1 ∙ ap (λ x. (x && again) && true) b.0)
