-- What `clap` makes of the words of a subcommand with the option `--over`.
use Rattle.std.proofs.Common.{◌≡◌, ◌∙◌, ◌≤◌, ◌+◌, ◌++◌, ℕ, Bool, true, false, refl, sym, ap, ap₂, subst, arith, codes}
use Rattle.std.proofs.Common.{List, [], ◌∷◌, length, Option, Some, None, append-nil, append_assoc}
use Rattle.std.proofs.lemmas.List.{length-append}
use Rattle.std.specs.Prelude.{◌&&◌, is_some}
use Rattle.std.proofs.Common.{true≢false}
use Rattle.std.specs.List.{All, fold, list_all}
use Rattle.std.proofs.lemmas.List.Elements.{All-head, All-tail}
use Rattle.std.specs.Str.{bytes_eq, IsUtf8}
use Rattle.clap.specs.Lexer.{long_of, usize_max}
use Rattle.clap.specs.Walk.{Held, Row, Rule, Text, Waiting, Walk, idle, option, walked, settled, with_default, finished}
use Rattle.clap.specs.Walk.{has_row}
use Rattle.clap.specs.Kinds.{Kinds, or_else}
use Rattle.clap.specs.declared.builder.value_parser.ValueParser.{ValueParser}
use Rattle.clap.specs.Simple.{Shape}
use Rattle.clap.specs.Takes.{settle_passes, default_passes, is_valid, walk_passes}
use Rattle.clap.specs.Faults.{settle_fault, defaults_fault, check_fault, walk_fault}
use Rattle.clap.proofs.OnLiterals.{clap_on_literals}
use Rattle.command_line.specs.declared.Over.{Over}
use Rattle.command_line.specs.declared.Task.{Task}
use Rattle.command_line.specs.CommandLine.{CommandLine, Behind, over_named, with_operand, with_over, option_words, words_from, over_line}
use Rattle.command_line.specs.CommandLine.{is_over}
use Rattle.command_line.specs.Clap.{TakesNames, statement_matched}
use Rattle.command_line.proofs.Kind.{Kind, dashes, long, short, operand, kind_of_word}
use Rattle.command_line.proofs.StatementLeaf.{some_kind, first_empty, statement_rows}
use Rattle.command_line.proofs.OverWalk.{Seen, unnamed, named, add, count, holds, stands, place, pending_at}
use Rattle.command_line.proofs.OverWalk.{rows_at, at, used_at, is_named, is_unnamed, over_rules, over_shape}
use Rattle.command_line.proofs.OverWalk.{Settles, settles, Bad, bad_none, bad_again, bad_name, Goes, Refused, IsPlain, due}
use Rattle.command_line.proofs.OverWalk.{value_goes, operand_goes, dashes_go, long_refused, short_refused, due_goes, value_named}
use Rattle.command_line.proofs.OverWalk.{attached_goes, attached_refused, bad_operand, bad_value, bad_due, bad_attached}

-- ---- the operands and the semiring that were seen, with those of the words behind

abbrev seen_operands : Seen → List Text
seen_operands (unnamed xs) = xs
seen_operands (named a xs s o i ys) = xs ++ ys

abbrev seen_over : Seen → Option Over
seen_over (unnamed xs) = None
seen_over (named a xs s o i ys) = Some o

abbrev ends_with : Seen → List Text → Option Behind
ends_with a ws = Some (record { operands = seen_operands a ++ ws; over = seen_over a })

abbrev merged : Option Over → Option Over → List Text → Option Behind
merged None over operands = Some (record { operands = operands; over = over })
merged (Some o) None operands = Some (record { operands = operands; over = Some o })
merged (Some o) (Some p) operands = None

abbrev with_seen : Seen → Option Behind → Option Behind
with_seen a None = None
with_seen a (Some b) = merged (seen_over a) b.over (seen_operands a ++ b.operands)

none_behind : (a : Seen) (ws : List Text) → with_seen a (Some (record { operands = ws; over = None })) ≡ ends_with a ws
none_behind (unnamed xs) ws = refl
none_behind (named a xs s o i ys) ws = refl

add_operands : (a : Seen) (w : Text) (ws : List Text) → seen_operands (add a w) ++ ws ≡ seen_operands a ++ w ∷ ws
add_operands (unnamed xs) w ws = append_assoc xs (w ∷ []) ws
add_operands (named a xs s o i ys) w ws =
    append_assoc xs (ys ++ w ∷ []) ws ∙ ap (λ l. xs ++ l) (append_assoc ys (w ∷ []) ws) ∙ sym (append_assoc xs ys (w ∷ ws))

add_over : (a : Seen) (w : Text) → seen_over (add a w) ≡ seen_over a
add_over (unnamed xs) w = refl
add_over (named a xs s o i ys) w = refl

add_count : (a : Seen) (w : Text) → count (add a w) ≡ count a + 1
add_count (unnamed xs) w = length-append xs (w ∷ [])
add_count (named a xs s o i ys) w = omega (arith, length-append ys (w ∷ []))

operand_seen : (a : Seen) (w : Text) (b : Option Behind) → with_seen (add a w) b ≡ with_seen a (with_operand w b)
operand_seen a w None = refl
operand_seen a w (Some b) = ap₂ (λ over operands. merged over b.over operands) (add_over a w) (add_operands a w b.operands)

over_seen : (attached : Bool) (xs : List Text) (s : Text) (o : Over) (i : over_named s ≡ Some o) (b : Option Behind)
    → with_seen (named attached xs s o i []) b ≡ with_seen (unnamed xs) (with_over (Some o) b)
over_seen attached xs s o i None = refl
over_seen attached xs s o i (Some b) = go b.over
  where
    go : (over : Option Over) → with_seen (named attached xs s o i []) (Some (record b { over = over }))
        ≡ with_seen (unnamed xs) (with_over (Some o) (Some (record b { over = over })))
    go None = ap (λ l. Some (record { operands = l ++ b.operands; over = Some o })) (append-nil xs)
    go (Some p) = refl

never_again : (attached : Bool) (xs : List Text) (s : Text) (o : Over) (i : over_named s ≡ Some o) (ys : List Text) (x : Option Over)
    (b : Option Behind) → with_seen (named attached xs s o i ys) (with_over x b) ≡ None
never_again attached xs s o i ys None b = refl
never_again attached xs s o i ys (Some x) None = refl
never_again attached xs s o i ys (Some x) (Some b) = go b.over
  where
    go : (over : Option Over) → with_seen (named attached xs s o i ys) (with_over (Some x) (Some (record b { over = over }))) ≡ None
    go None = refl
    go (Some p) = refl

never_due : (attached : Bool) (xs : List Text) (s : Text) (o : Over) (i : over_named s ≡ Some o) (ys ws : List Text)
    → with_seen (named attached xs s o i ys) (words_from true ws) ≡ None
never_due attached xs s o i ys [] = refl
never_due attached xs s o i ys (w ∷ ws) = never_again attached xs s o i ys (over_named w) (words_from false ws)

module _ (names : ValueParser) (takes_names : TakesNames names) (name : Text) (task : Task) where
  abbrev rules : List Rule
  rules = over_rules names

  abbrev shape : Shape
  shape = over_shape names name

  -- ---- after the walk

  abbrev rest_fault : List Row → Kinds
  rest_fault rows = or_else (defaults_fault rows rules) (check_fault shape (fold with_default rows rules) false)

  abbrev rest_passes : List Row → Bool
  rest_passes rows = list_all default_passes rules && is_valid shape (fold with_default rows rules) false

  abbrev end_fault : Held → Kinds
  end_fault h = or_else (settle_fault rules false h) (rest_fault (settled rules h).rows)

  abbrev end_passes : Held → Bool
  end_passes h = settle_passes rules false h && rest_passes (settled rules h).rows

  abbrev Closes : List Row → Option CommandLine → Type 0
  Closes rows None = (rest_fault rows ≡ [] → ⊥) × (rest_passes rows ≡ false)
  Closes rows (Some l) = (rest_fault rows ≡ []) × (rest_passes rows ≡ true)
      × (statement_matched task (fold with_default rows rules) ≡ Some l)

  closes : (a : Seen) → Closes (used_at names a) (over_line task (ends_with a []))
  unfolding clap_on_literals
  closes (unnamed []) = (λ e. some_kind _ _ e, refl)
  closes (unnamed (e ∷ [])) = (refl, refl, refl)
  closes (unnamed (e ∷ w ∷ ws)) = rw (append-nil ws) (refl, refl, refl)
  closes (named a [] s o i []) = (λ e. some_kind _ _ e, refl)
  closes (named a (e ∷ []) s o i []) = (refl, refl, rw i refl)
  closes (named a (e ∷ v ∷ vs) s o i []) = rw (append-nil vs, append-nil vs) (refl, refl, rw i refl)
  closes (named a [] s o i (y ∷ [])) = (refl, refl, rw i refl)
  closes (named a [] s o i (y ∷ w ∷ ws)) = rw (append-nil ws) (refl, refl, rw i refl)
  closes (named a (e ∷ []) s o i (y ∷ ys)) = rw (append-nil ys) (refl, refl, rw i refl)
  closes (named a (e ∷ v ∷ vs) s o i (y ∷ ys)) = rw (append-nil (vs ++ y ∷ ys)) (refl, refl, rw i refl)

  -- ---- the walk and what is asked after it

  abbrev whole_fault : Walk → List Text → Kinds
  whole_fault from ws = or_else (walk_fault shape [] from ws) (end_fault (fold (walked rules []) from ws).held)

  abbrev whole_passes : Walk → List Text → Bool
  whole_passes from ws = walk_passes shape [] from ws && end_passes (fold (walked rules []) from ws).held

  abbrev pub Reads : Walk → List Text → Option CommandLine → Type 0
  Reads from ws None = (whole_fault from ws ≡ [] → ⊥) × (whole_passes from ws ≡ false)
  Reads from ws (Some l) = (whole_fault from ws ≡ []) × (whole_passes from ws ≡ true)
      × (statement_matched task (finished rules (fold (walked rules []) from ws).held) ≡ Some l)

  -- the whole, where one turn has this fault
  abbrev after_turn : Kinds → Walk → List Text → Kinds
  after_turn fault to ws = or_else (or_else fault (walk_fault shape [] to ws)) (end_fault (fold (walked rules []) to ws).held)

  goes_on : (from to : Walk) (w : Text) (ws : List Text) (o : Option CommandLine) → Goes names takes_names name from w to → Reads to ws o
      → Reads from (w ∷ ws) o
  unfolding walk_fault walk_passes
  goes_on from to w ws None g r = (
    λ e. r.0 (sym (ap₂ (λ a b. after_turn a b ws) g.1 g.0)
        ∙ e),
    ap₂ (λ a (b : Walk). (a && walk_passes shape [] b ws) && end_passes (fold (walked rules []) b ws).held) g.2 g.0 ∙ r.1,
  )
  goes_on from to w ws (Some l) g r = (
    ap₂ (λ a b. after_turn a b ws) g.1 g.0 ∙ r.0,
    ap₂ (λ a (b : Walk). (a && walk_passes shape [] b ws) && end_passes (fold (walked rules []) b ws).held) g.2 g.0 ∙ r.1,
    ap (λ (b : Walk). statement_matched task (finished rules (fold (walked rules []) b ws).held)) g.0 ∙ r.2,
  )

  stops : (from : Walk) (w : Text) (ws : List Text) → Refused names takes_names name from w → Reads from (w ∷ ws) None
  unfolding walk_fault walk_passes
  stops from w ws r = (
    λ e. r.0 (first_empty _ _ (first_empty _ _ e)),
    ap (λ a. (a && walk_passes shape [] (walked rules [] from w) ws) && end_passes (fold (walked rules []) from (w ∷ ws)).held) r.1,
  )

  ends : (t : Bool) (a : Seen) → count a ≤ usize_max → Reads (at names t a) [] (over_line task (ends_with a []))
  unfolding walk_fault walk_passes
  ends t a fits = go (over_line task (ends_with a [])) (closes a)
    where
      s : Settles names takes_names name (rows_at names a) (pending_at a) (used_at names a)
      s = settles names takes_names name a fits

      used_is : (settled rules (holds (rows_at names a) (pending_at a))).rows ≡ used_at names a
      used_is = s.2

      go : (o : Option CommandLine) → Closes (used_at names a) o → Reads (at names t a) [] o
      go None c = (
        λ e. c.0 (sym (ap₂ (λ k rows. or_else k (rest_fault rows)) s.1 used_is) ∙ e),
        ap₂ (λ b rows. b && rest_passes rows) s.0 used_is ∙ c.1,
      )
      go (Some l) c = (
        ap₂ (λ k rows. or_else k (rest_fault rows)) s.1 used_is ∙ c.0,
        ap₂ (λ b rows. b && rest_passes rows) s.0 used_is ∙ c.1,
        ap (λ rows. statement_matched task (fold with_default rows rules)) used_is ∙ c.2,
      )

  -- after `--`
  rest : (a : Seen) (ws : List Text) → count a + length ws ≤ usize_max → Reads (at names true a) ws (over_line task (ends_with a ws))
  rest a [] fits = ends true a (omega (arith, fits))
  rest a (w ∷ ws) fits =
      let more = rest (add a w) ws (omega (arith, fits, add_count a w)) in
      let same : ends_with (add a w) ws ≡ ends_with a (w ∷ ws) =
      ap₂ (λ operands over. Some (record { operands = operands; over = over })) (add_operands a w ws) (add_over a w) in
      goes_on _ _ w ws _ (value_goes names takes_names name a w)
      (subst (λ b. Reads (at names true (add a w)) ws (over_line task b)) same more)

  -- ---- a use of `--over` that is refused, however the words go on

  bad_end : (used : List Row) (vs : List Text) (k : Waiting) (n : ℕ) (t : Bool) → Bad names takes_names name used vs
      → Reads (stands (holds used (Some (codes "over", vs))) k n t) [] None
  unfolding walk_fault walk_passes
  bad_end used vs k n t b = (
    λ e. b.1 (first_empty _ _ e),
    ap (λ a. a && rest_passes (settled rules (holds used (Some (codes "over", vs)))).rows) b.0,
  )

  bad_trails : (used : List Row) (vs zs : List Text) (k : Waiting) (ws : List Text) → Bad names takes_names name used vs
      → Reads (stands (holds used (Some (codes "over", vs))) k (place zs) true) ws None
  bad_trails used vs zs k [] b = bad_end used vs k (place zs) true b
  bad_trails used vs zs k (w ∷ ws) b = stops _ w ws (bad_value names takes_names name used vs zs k w b)

  bad_long : (used : List Row) (vs : List Text) (k : Waiting) (n : ℕ) (w : Text) (p : Text × Option Text)
      → bytes_eq w (45 ∷ 45 ∷ []) ≡ false → long_of w ≡ Some p → Bad names takes_names name used vs
      → (b : Bool) → bytes_eq (codes "over") p.0 ≡ b
      → Refused names takes_names name (stands (holds used (Some (codes "over", vs))) k n false) w
  bad_long used vs k n w p d l b false e = long_refused names takes_names name _ k n w p d l e
  bad_long used vs k n w (m, None) d l b true e = bad_due names takes_names name used vs k n w m d l e b
  bad_long used vs k n w (m, Some s) d l b true e = bad_attached names takes_names name used vs k n w m s d l e b

  bad_goes_on : (used : List Row) (vs zs : List Text) (ws : List Text) → All IsUtf8 ws → Bad names takes_names name used vs
      → Reads (stands (holds used (Some (codes "over", vs))) idle (place zs) false) ws None
  bad_goes_on used vs zs [] u b = bad_end used vs idle (place zs) false b
  bad_goes_on used vs zs (w ∷ ws) u b = go (kind_of_word w (All-head IsUtf8 w ws u))
    where
      go : Kind w → Reads (stands (holds used (Some (codes "over", vs))) idle (place zs) false) (w ∷ ws) None
      go (dashes d x) = goes_on _ _ w ws None (dashes_go names takes_names name _ idle (place zs) w d) (bad_trails used vs zs idle ws b)
      go (long p d o l q x) = stops _ w ws (bad_long used vs idle (place zs) w p d l b (bytes_eq (codes "over") p.0) refl)
      go (short y flags x d o l h c v z) =
          stops _ w ws (short_refused names takes_names name used (Some (codes "over", vs)) idle (place zs) w y flags x d l h c)
      go (operand d o l h) = stops _ w ws (bad_operand names takes_names name used vs zs w (d, l, h) b)

  -- ---- the value of `--over` is due

  -- the word is no value
  due_stops : (used : List Row) (zs : List Text) (w : Text) (ws : List Text) → All IsUtf8 ws → Kind w
      → (IsPlain names takes_names name w → Reads (due names takes_names name used (place zs)) (w ∷ ws) None)
      → Reads (due names takes_names name used (place zs)) (w ∷ ws) None
  due_stops used zs w ws u (dashes d x) more =
      goes_on _ _ w ws None (dashes_go names takes_names name _ (option (codes "over")) (place zs) w d)
      (bad_trails used [] zs (option (codes "over")) ws (bad_none names takes_names name used))
  due_stops used zs w ws u (long p d o l q x) more =
      stops _ w ws (bad_long used [] (option (codes "over")) (place zs) w p d l (bad_none names takes_names name used)
      (bytes_eq (codes "over") p.0) refl)
  due_stops used zs w ws u (short y flags x d o l h c v z) more =
      stops _ w ws
      (short_refused names takes_names name used (Some (codes "over", [])) (option (codes "over")) (place zs) w y flags x d l h c)
  due_stops used zs w ws u (operand d o l h) more = more (d, l, h)

  due_bad : (used : List Row) (zs : List Text) (w : Text) (ws : List Text) → All IsUtf8 ws → Bad names takes_names name used (w ∷ [])
      → IsPlain names takes_names name w → Reads (due names takes_names name used (place zs)) (w ∷ ws) None
  due_bad used zs w ws u b p =
      goes_on _ _ w ws None (value_named names takes_names name used (place zs) w p) (bad_goes_on used (w ∷ []) zs ws u b)

  -- a semiring is named already
  due_again : (used : List Row) (zs ws : List Text) → has_row (codes "over") used ≡ true → All IsUtf8 ws
      → Reads (due names takes_names name used (place zs)) ws None
  due_again used zs [] h u = bad_end used [] (option (codes "over")) (place zs) false (bad_none names takes_names name used)
  due_again used zs (w ∷ ws) h u =
      due_stops used zs w ws (All-tail IsUtf8 w ws u) (kind_of_word w (All-head IsUtf8 w ws u))
      (due_bad used zs w ws (All-tail IsUtf8 w ws u) (bad_again names takes_names name used w h))

  -- ---- all words

  abbrev Reading : Seen → List Text → Option Behind → Type 0
  Reading a ws b = Reads (at names false a) ws (over_line task (with_seen a b))

  abbrev DueReading : List Text → List Text → Option Behind → Type 0
  DueReading xs ws b = Reads (due names takes_names name (statement_rows xs) (place xs)) ws (over_line task (with_seen (unnamed xs) b))

  record Both (ws : List Text) : Type 0 where
    pub words : (a : Seen) → count a + length ws ≤ usize_max → Reading a ws (words_from false ws)
    pub due_words : (xs : List Text) → length xs + length ws ≤ usize_max → DueReading xs ws (words_from true ws)

  -- a name behind `--over`
  named_at : (xs : List Text) (s : Text) (o : Over) (i : over_named s ≡ Some o)
      → stands (holds (statement_rows xs) (Some (codes "over", s ∷ []))) idle (place xs) false ≡ at names false (named false xs s o i [])
  named_at [] s o i = refl
  named_at (x ∷ xs) s o i = refl

  due_word : (xs : List Text) (w : Text) (ws : List Text) → length xs + length (w ∷ ws) ≤ usize_max → All IsUtf8 ws → Kind w → Both ws
      → (x : Option Over) → over_named w ≡ x → DueReading xs (w ∷ ws) (with_over x (words_from false ws))
  due_word xs w ws fits u kind both None i =
      due_stops (statement_rows xs) xs w ws u kind
      (due_bad (statement_rows xs) xs w ws u (bad_name names takes_names name (statement_rows xs) w (is_unnamed xs) i))
  due_word xs w ws fits u kind both (Some o) i = go kind
    where
      none : over_named w ≡ None → DueReading xs (w ∷ ws) (with_over (Some o) (words_from false ws))
      none e = absurd (true≢false (ap (λ (x : Option Over). is_some x) (sym i ∙ e)))

      go : Kind w → DueReading xs (w ∷ ws) (with_over (Some o) (words_from false ws))
      go (dashes d x) = none x
      go (long p d e l q x) = none x
      go (short y flags x d e l h c v z) = none z
      go (operand d e l h) =
          let step = value_named names takes_names name (statement_rows xs) (place xs) w (d, l, h) in
          let next : Goes names takes_names name (due names takes_names name (statement_rows xs) (place xs)) w
          (at names false (named false xs w o i [])) = (step.0 ∙ named_at xs w o i, step.1, step.2) in
          let more = both.words (named false xs w o i []) (omega (arith, fits)) in
          subst (λ b. Reads (due names takes_names name (statement_rows xs) (place xs)) (w ∷ ws) (over_line task b))
          (over_seen false xs w o i (words_from false ws)) (goes_on _ _ w ws _ next more)

  -- the option itself
  option_word : (a : Seen) (w : Text) (ws : List Text) (m : Text) (s : Option Text) → count a + length (w ∷ ws) ≤ usize_max
      → All IsUtf8 ws → bytes_eq w (45 ∷ 45 ∷ []) ≡ false → long_of w ≡ Some (m, s) → bytes_eq (codes "over") m ≡ true → Both ws
      → Reading a (w ∷ ws) (option_words s (words_from true ws) (words_from false ws))
  option_word (unnamed xs) w ws m None fits u d l e both =
      goes_on _ _ w ws _
      (due_goes names takes_names name _ _ _ _ _ w m d l e (settles names takes_names name (unnamed xs) (omega (arith, fits))))
      (both.due_words xs (omega (arith, fits)))
  option_word (named t xs s o i ys) w ws m None fits u d l e both =
      let a = named t xs s o i ys in
      let line : Reads (at names false a) (w ∷ ws) None =
      goes_on _ _ w ws None (due_goes names takes_names name _ _ _ _ _ w m d l e (settles names takes_names name a (omega (arith, fits))))
      (due_again (used_at names a) (xs ++ ys) ws (is_named names t xs s o i ys) u) in
      subst (λ b. Reads (at names false a) (w ∷ ws) (over_line task b)) (sym (never_due t xs s o i ys ws)) line
  option_word (unnamed xs) w ws m (Some v) fits u d l e both = go (over_named v) refl
    where
      go : (x : Option Over) → over_named v ≡ x → Reading (unnamed xs) (w ∷ ws) (with_over x (words_from false ws))
      go None i =
          stops _ w ws (attached_refused names takes_names name _ _ (statement_rows xs) _ _ w m v d l e
          (settles names takes_names name (unnamed xs) (omega (arith, fits)))
          (bad_name names takes_names name (statement_rows xs) v (is_unnamed xs) i))
      go (Some o) i =
          let more = both.words (named true xs v o i []) (omega (arith, fits)) in
          subst (λ b. Reads (at names false (unnamed xs)) (w ∷ ws) (over_line task b)) (over_seen true xs v o i (words_from false ws))
          (goes_on _ _ w ws _ (attached_goes names takes_names name xs w m v o i (omega (arith, fits)) d l e) more)
  option_word (named t xs s o i ys) w ws m (Some v) fits u d l e both =
      let a = named t xs s o i ys in
      let line : Reads (at names false a) (w ∷ ws) None =
      stops _ w ws (attached_refused names takes_names name _ _ (used_at names a) _ _ w m v d l e
      (settles names takes_names name a (omega (arith, fits)))
      (bad_again names takes_names name (used_at names a) v (is_named names t xs s o i ys))) in
      subst (λ b. Reads (at names false a) (w ∷ ws) (over_line task b))
      (sym (never_again t xs s o i ys (over_named v) (words_from false ws))) line

  word : (a : Seen) (w : Text) (ws : List Text) → count a + length (w ∷ ws) ≤ usize_max → All IsUtf8 ws → Kind w → Both ws
      → Reading a (w ∷ ws) (words_from false (w ∷ ws))
  word a w ws fits u (dashes d x) both =
      rw d (subst (λ b. Reads (at names false a) (w ∷ ws) (over_line task b)) (sym (none_behind a ws))
      (goes_on _ _ w ws _ (dashes_go names takes_names name _ _ _ w d) (rest a ws (omega (arith, fits)))))
  word a w ws fits u (long p d o l q x) both = go (bytes_eq (codes "over") p.0) refl
    where
      go : (b : Bool) → bytes_eq (codes "over") p.0 ≡ b → Reading a (w ∷ ws) (words_from false (w ∷ ws))
      go false e =
          let over : is_over w ≡ false = q.0 ∙ e in
          rw (d, o, over) (stops _ w ws (long_refused names takes_names name _ _ _ w p d l e))
      go true e =
          let over : is_over w ≡ true = q.0 ∙ e in
          rw (d, o, over, q.1) (option_word a w ws p.0 p.1 fits u d l e both)
  word a w ws fits u (short y flags x d o l h c v z) both =
      rw (d, o, v) (stops _ w ws (short_refused names takes_names name _ _ _ _ w y flags x d l h c))
  word a w ws fits u (operand d o l h) both =
      let more = both.words (add a w) (omega (arith, fits, add_count a w)) in
      rw (d, o) (subst (λ b. Reads (at names false a) (w ∷ ws) (over_line task b)) (operand_seen a w (words_from false ws))
      (goes_on _ _ w ws _ (operand_goes names takes_names name a w (d, l, h)) more))

  both : (ws : List Text) → All IsUtf8 ws → Both ws
  both [] u = record {
    words = λ a fits. subst (λ b. Reads (at names false a) [] (over_line task b)) (sym (none_behind a []))
        (ends false a (omega (arith, fits)));
    due_words = λ xs fits. bad_end (statement_rows xs) [] (option (codes "over")) (place xs) false
        (bad_none names takes_names name (statement_rows xs));
  }
  both (w ∷ ws) u =
      let later = All-tail IsUtf8 w ws u in
      let kind = kind_of_word w (All-head IsUtf8 w ws u) in
      let more = both ws later in
      record {
        words = λ a fits. word a w ws fits later kind more;
        due_words = λ xs fits. due_word xs w ws fits later kind more (over_named w) refl;
      }

  at_start : (b : Option Behind) → with_seen (unnamed []) b ≡ b
  at_start None = refl
  at_start (Some b) = refl

  pub over_is : (ws : List Text) → All IsUtf8 ws → length ws ≤ usize_max
      → Reads (at names false (unnamed [])) ws (over_line task (words_from false ws))
  over_is ws u fits =
      subst (λ b. Reads (at names false (unnamed [])) ws (over_line task b)) (at_start (words_from false ws))
      ((both ws u).words (unnamed []) (omega (arith, fits)))
