-- What `clap` makes of a whole command line, and that it is what `command_line_of` says.
use Rattle.std.proofs.Common.{◌≡◌, ◌∙◌, ◌≤◌, ◌+◌, ◌^◌, ◌++◌, ◌&&◌, ◌<◌, ℕ, Bool, cond, true, false, suc, refl, sym, ap, ap₂, subst, arith}
use Rattle.std.proofs.Common.{codes, map, List, [], ◌∷◌, length, Option, Some, None, true≢false, lt-ltb, nat_lt, nat_le}
use Rattle.std.specs.Prelude.{String, option_map, option_and_then, slice_get, is_some}
use Rattle.std.specs.List.{All, fold, list_all}
use Rattle.std.specs.Char.{digit_value}
use Rattle.std.specs.Str.{bytes_eq, chars, IsUtf8}
use Rattle.std.specs.Str.Parse.{digits_value, without_leading_plus}
use Rattle.std.proofs.lemmas.List.Elements.{All-head, All-tail, All-nil, All-cons}
use Rattle.std.proofs.lemmas.Str.{IsUtf8-string_bytes}
use Rattle.std.specs.String.{string_bytes}
use Rattle.std.proofs.lemmas.List.{length-map}
use Rattle.std.proofs.lemmas.Bool.{le-leb, leb-true}
use Rattle.clap.specs.Lexer.{long_of, short_of, usize_max}
use Rattle.clap.specs.Walk.{Names, Row, Text, Walk, walked, walk, walk_from, nothing_held, rows_after, settled, finished}
use Rattle.clap.specs.Kinds.{Kinds, or_else}
use Rattle.clap.specs.ValueTests.{accepts}
use Rattle.clap.specs.Simple.{App, Shape, built, is_simple, names_of, subcommand_of, entered}
use Rattle.clap.specs.Takes.{settle_passes, default_passes, is_valid, takes, walk_passes, turn_passes, level_passes, flags_pass}
use Rattle.clap.specs.Takes.{entered_passes}
use Rattle.clap.specs.Faults.{settle_fault, defaults_fault, check_fault, fault_of, walk_fault, turn_fault, level_fault, flags_fault}
use Rattle.clap.specs.Faults.{is_simple_and_free, entered_fault}
use Rattle.clap.specs.declared.builder.value_parser.ValueParser.{ValueParser}
use Rattle.clap.specs.declared.builder.value_parser.ValueParser.TheVariants as value_parser
use Rattle.clap.specs.declared.error.kind.ErrorKind.{ErrorKind}
use Rattle.clap.specs.declared.error.kind.ErrorKind.TheVariants as kind
use Rattle.clap.proofs.OnLiterals.{clap_on_literals}
use Rattle.clap.proofs.WalkLemmas.{walk_stopped, both}
use Rattle.clap.proofs.FaultLemmas.{stopped_fault}
use Rattle.limits.specs.Limits.{greatest_workload}
use Rattle.limits.proofs.Limits.{workloads_are_ranges, positions_are_small}
use Rattle.command_line.specs.declared.Task.{Task}
use Rattle.command_line.specs.declared.Task.TheVariants.{Run, Kernel, Report, Auto, Plan}
use Rattle.command_line.specs.CommandLine.{CommandLine, Statement, Workload, Exec, is_option, is_number, number_in, operands}
use Rattle.command_line.specs.CommandLine.{over_line, plan_line, words_from, workload_line, size_line, exec_line, budget_line}
use Rattle.command_line.specs.CommandLine.{greatest_budget, line_of_command, command_line_of}
use Rattle.command_line.specs.declared.Over.TheVariants.{Ring}
use Rattle.command_line.specs.Law.{IsRead, ReadsAll}
use Rattle.command_line.specs.Clap.{TakesNames, taco_app, clap_line, matched_line, run_matched, statement_matched, u64_read}
use Rattle.command_line.proofs.Kind.{Kind, dashes, long, short, operand, kind_of_word}
use Rattle.command_line.proofs.StatementLeaf.{some_kind, first_empty, statement_shape, statement_rows, LevelIs, level_is}
use Rattle.command_line.proofs.OverWalk.{unnamed, at, over_rules, over_shape}
use Rattle.command_line.proofs.OverLeaf.{Reads, over_is}
use Rattle.command_line.proofs.WorkloadLeaf.{workload_shape, size_row, SizeIs, WorkloadIs, workload_is}
use Rattle.command_line.proofs.Budgets.{budgets_are_small}
use Rattle.command_line.proofs.ExecLeaf.{exec_shape, exec_rows, is_taken, BudgetIs, ExecIs, exec_is}

pub is_simple_taco : (parser : ValueParser) → is_simple (taco_app parser) ≡ true
unfolding clap_on_literals
is_simple_taco parser = refl

pub is_free_taco : (parser : ValueParser) → is_simple_and_free (taco_app parser) ≡ true
unfolding clap_on_literals
is_free_taco parser = refl

module _ (parser : ValueParser) (takes_names : TakesNames parser) where
  abbrev top : Shape
  top = (built (taco_app parser)).top

  abbrev names : Names
  names = names_of (built (taco_app parser))

  abbrev start : Walk
  start = walk_from nothing_held

  abbrev stopped_at : Text → List Text → Walk
  stopped_at name ws = record start { stopped = Some (name, ws) }

  subs_are : (built (taco_app parser)).subs ≡ over_shape parser (codes "run") ∷ over_shape parser (codes "kernel")
      ∷ over_shape parser (codes "report") ∷ over_shape parser (codes "auto") ∷ statement_shape (codes "plan") ∷ workload_shape
      ∷ exec_shape ∷ []
  subs_are = refl

  stopped_passes : (w : Walk) (p : Text × List Text) (ws : List Text) → walk_passes top names (record w { stopped = Some p }) ws ≡ true
  unfolding walk_passes walked
  stopped_passes w p [] = refl
  stopped_passes w p (x ∷ xs) = stopped_passes w (p.0, p.1 ++ x ∷ []) xs

  -- the command word stops the walk
  abbrev Stops : Text → Text → Type 0
  Stops c name = (walked [] names start c ≡ stopped_at name []) × (turn_fault top names start c ≡ [])
      × (turn_passes top names start c ≡ true)

  stops_run : (c : Text) → bytes_eq (codes "run") c ≡ true → Stops c (codes "run")
  unfolding walked
  stops_run c a = (rw a refl, rw a refl, rw a refl)

  stops_kernel : (c : Text) → bytes_eq (codes "run") c ≡ false → bytes_eq (codes "kernel") c ≡ true → Stops c (codes "kernel")
  unfolding walked
  stops_kernel c a b = (rw (a, b) refl, rw (a, b) refl, rw (a, b) refl)

  stops_report : (c : Text) → bytes_eq (codes "run") c ≡ false → bytes_eq (codes "kernel") c ≡ false → bytes_eq (codes "report") c ≡ true
      → Stops c (codes "report")
  unfolding walked
  stops_report c a b d = (rw (a, b, d) refl, rw (a, b, d) refl, rw (a, b, d) refl)

  stops_auto : (c : Text) → bytes_eq (codes "run") c ≡ false → bytes_eq (codes "kernel") c ≡ false → bytes_eq (codes "report") c ≡ false
      → bytes_eq (codes "auto") c ≡ true → Stops c (codes "auto")
  unfolding walked
  stops_auto c a b d t = (rw (a, b, d, t) refl, rw (a, b, d, t) refl, rw (a, b, d, t) refl)

  stops_plan : (c : Text) → bytes_eq (codes "run") c ≡ false → bytes_eq (codes "kernel") c ≡ false → bytes_eq (codes "report") c ≡ false
      → bytes_eq (codes "auto") c ≡ false → bytes_eq (codes "plan") c ≡ true → Stops c (codes "plan")
  unfolding walked
  stops_plan c a b d t f = (rw (a, b, d, t, f) refl, rw (a, b, d, t, f) refl, rw (a, b, d, t, f) refl)

  stops_gen : (c : Text) → bytes_eq (codes "run") c ≡ false → bytes_eq (codes "kernel") c ≡ false → bytes_eq (codes "report") c ≡ false
      → bytes_eq (codes "auto") c ≡ false → bytes_eq (codes "plan") c ≡ false → bytes_eq (codes "gen") c ≡ true → Stops c (codes "gen")
  unfolding walked
  stops_gen c a b d t f e = (rw (a, b, d, t, f, e) refl, rw (a, b, d, t, f, e) refl, rw (a, b, d, t, f, e) refl)

  stops_exec : (c : Text) → bytes_eq (codes "run") c ≡ false → bytes_eq (codes "kernel") c ≡ false → bytes_eq (codes "report") c ≡ false
      → bytes_eq (codes "auto") c ≡ false → bytes_eq (codes "plan") c ≡ false → bytes_eq (codes "gen") c ≡ false
      → bytes_eq (codes "exec") c ≡ true → Stops c (codes "exec")
  unfolding walked
  stops_exec c a b d t f e x = (rw (a, b, d, t, f, e, x) refl, rw (a, b, d, t, f, e, x) refl, rw (a, b, d, t, f, e, x) refl)

  -- the rest goes to the subcommand
  abbrev Enters : Text → Text → List Text → Type 0
  Enters c name rest = (walk [] names nothing_held (c ∷ rest) ≡ stopped_at name rest)
      × (walk_fault top names start (c ∷ rest) ≡ []) × (walk_passes top names start (c ∷ rest) ≡ true)

  enters : (c name : Text) (rest : List Text) → Stops c name → Enters c name rest
  unfolding walk_fault walk_passes
  enters c name rest s = (
    ap (λ a. fold (walked [] names) a rest) s.0 ∙ sym (walk_stopped [] names start name [] rest),
    ap₂ (λ k a. or_else k (walk_fault top names a rest)) s.1 s.0 ∙ stopped_fault top names start (name, []) rest,
    ap₂ (λ b a. b && walk_passes top names a rest) s.2 s.0 ∙ stopped_passes start (name, []) rest,
  )

  -- ---- the whole line

  abbrev whole : App
  whole = built (taco_app parser)

  abbrev after_fault : Walk → Kinds
  after_fault w = or_else (entered_fault whole w.stopped) (or_else (settle_fault top.rules false w.held)
      (or_else (defaults_fault (settled top.rules w.held).rows top.rules)
      (check_fault top (finished top.rules w.held) (is_some (entered whole w.stopped)))))

  abbrev taken_after : Bool → Walk → Bool
  taken_after b w = entered_passes whole w.stopped && (b && (settle_passes top.rules false w.held
      && (list_all default_passes top.rules && is_valid top (finished top.rules w.held) (is_some (entered whole w.stopped)))))

  fault_is : (n : Text) (xs : List Text)
      → fault_of (taco_app parser) (n ∷ xs) ≡ or_else (walk_fault top names start xs) (after_fault (walk [] names nothing_held xs))
  fault_is n xs = refl

  takes_is : (n : Text) (xs : List Text)
      → takes (taco_app parser) (n ∷ xs) ≡ taken_after (walk_passes top names start xs) (walk [] names nothing_held xs)
  takes_is n xs = refl

  subcommand_is : (n : Text) (xs : List Text)
      → subcommand_of (taco_app parser) (n ∷ xs) ≡ entered whole (walk [] names nothing_held xs).stopped
  subcommand_is n xs = refl

  -- what a subcommand of this shape makes of the rest
  abbrev Inside : Text → Shape → List Text → Type 0
  Inside name sh rest = (after_fault (stopped_at name rest) ≡ or_else (level_fault sh [] nothing_held rest false []) [])
      × (taken_after true (stopped_at name rest) ≡ (level_passes sh [] nothing_held rest false && true))
      × (entered whole (Some (name, rest)) ≡ Some (name, rows_after sh.rules [] rest))

  inside_run : (rest : List Text) → Inside (codes "run") (over_shape parser (codes "run")) rest
  unfolding defaults_fault
  inside_run rest = (refl, refl, refl)

  inside_kernel : (rest : List Text) → Inside (codes "kernel") (over_shape parser (codes "kernel")) rest
  unfolding defaults_fault
  inside_kernel rest = (refl, refl, refl)

  inside_report : (rest : List Text) → Inside (codes "report") (over_shape parser (codes "report")) rest
  unfolding defaults_fault
  inside_report rest = (refl, refl, refl)

  inside_auto : (rest : List Text) → Inside (codes "auto") (over_shape parser (codes "auto")) rest
  unfolding defaults_fault
  inside_auto rest = (refl, refl, refl)

  inside_plan : (rest : List Text) → Inside (codes "plan") (statement_shape (codes "plan")) rest
  unfolding defaults_fault
  inside_plan rest = (refl, refl, refl)

  inside_gen : (rest : List Text) → Inside (codes "gen") workload_shape rest
  unfolding defaults_fault
  inside_gen rest = (refl, refl, refl)

  inside_exec : (rest : List Text) → Inside (codes "exec") exec_shape rest
  unfolding defaults_fault
  inside_exec rest = (refl, refl, refl)

  abbrev Whole : List Text → Text → Shape → List Text → Type 0
  Whole ws name sh rest = (fault_of (taco_app parser) ws ≡ or_else (level_fault sh [] nothing_held rest false []) [])
      × (takes (taco_app parser) ws ≡ (level_passes sh [] nothing_held rest false && true))
      × (subcommand_of (taco_app parser) ws ≡ Some (name, rows_after sh.rules [] rest))

  whole_is : (n c name : Text) (sh : Shape) (rest : List Text) → Enters c name rest → Inside name sh rest
      → Whole (n ∷ c ∷ rest) name sh rest
  whole_is n c name sh rest e i = (
    fault_is n (c ∷ rest) ∙ ap₂ (λ k w. or_else k (after_fault w)) e.1 e.0 ∙ i.0,
    takes_is n (c ∷ rest) ∙ ap₂ taken_after e.2 e.0 ∙ i.1,
    subcommand_is n (c ∷ rest) ∙ ap (λ (w : Walk). entered whole w.stopped) e.0 ∙ i.2,
  )

  -- ---- what `clap` makes of the line is what `command_line_of` says

  abbrev pub LineIs : List Text → Option CommandLine → Type 0
  LineIs ws None = (fault_of (taco_app parser) ws ≡ [] → ⊥) × (takes (taco_app parser) ws ≡ false)
  LineIs ws (Some l) = (fault_of (taco_app parser) ws ≡ []) × (takes (taco_app parser) ws ≡ true) × (clap_line parser ws ≡ Some l)

  sub_fails : (ws : List Text) (name : Text) (sh : Shape) (rest : List Text) → Whole ws name sh rest
      → (level_fault sh [] nothing_held rest false [] ≡ [] → ⊥) × (level_passes sh [] nothing_held rest false ≡ false) → LineIs ws None
  sub_fails ws name sh rest w l = (λ e. l.0 (first_empty _ _ (sym w.0 ∙ e)), w.1 ∙ ap (λ b. b && true) l.1)

  plan_matched : (e : Text) (os : List Text) → matched_line (codes "plan", statement_rows (e ∷ os)) ≡ Some (Statement Plan Ring e os)
  plan_matched e [] = refl
  plan_matched e (w ∷ ws) = refl

  plan_is : (ws rest : List Text) → Whole ws (codes "plan") (statement_shape (codes "plan")) rest → (o : Option (List Text))
      → LevelIs (codes "plan") rest o → LineIs ws (plan_line o)
  plan_is ws rest w None l = sub_fails ws (codes "plan") (statement_shape (codes "plan")) rest w l
  plan_is ws rest w (Some []) l = sub_fails ws (codes "plan") (statement_shape (codes "plan")) rest w l
  plan_is ws rest w (Some (x ∷ os)) l = (
    w.0 ∙ ap (λ k. or_else k []) l.0,
    w.1 ∙ ap (λ b. b && true) l.1,
    ap (option_and_then matched_line) (w.2 ∙ ap (λ r. Some (codes "plan", r)) l.2) ∙ plan_matched x os,
  )

  -- a command with the option `--over`
  module _ (ws : List Text) (name : Text) (rest : List Text) (task : Task) (w : Whole ws name (over_shape parser name) rest)
      (m : (rows : List Row) → matched_line (name, rows) ≡ statement_matched task rows) where
    task_is : (o : Option CommandLine) → Reads parser takes_names name task (at parser false (unnamed [])) rest o → LineIs ws o
    task_is None l = sub_fails ws name (over_shape parser name) rest w l
    task_is (Some line) l = (
      w.0 ∙ ap (λ k. or_else k []) l.0,
      w.1 ∙ ap (λ b. b && true) l.1,
      ap (option_and_then matched_line) w.2 ∙ m (rows_after (over_rules parser) [] rest) ∙ l.2,
    )

  -- N passes its parser where it is a number within the limit, and is read as that
  number_accepted : (limit : ℕ) → limit < 2 ^ 64 → (n : Text) → is_number limit n ≡ true
      → (accepts false (value_parser.Unsigned 0 limit) n ≡ true) × (u64_read n ≡ Some (number_in n))
  number_accepted limit small n h =
      let ds = without_leading_plus n in
      let a = both (nat_lt 0 (length ds)) _ h in
      let b = both (list_all (λ d. nat_lt (digit_value d) 10) ds) _ a.1 in
      let most : digits_value 10 ds ≤ limit = leb-true (digits_value 10 ds) limit b.1 in
      let fits : nat_lt (digits_value 10 ds) (2 ^ 64) ≡ true =
      lt-ltb (digits_value 10 ds) (2 ^ 64) (omega (arith, most, small)) in
      let least : nat_le 0 (digits_value 10 ds) ≡ true = le-leb 0 (digits_value 10 ds) (omega arith) in
      (rw (a.0, b.0, fits, least, b.1) refl, rw (a.0, b.0, fits) refl)

  number_refused : (limit : ℕ) (n : Text) → is_number limit n ≡ false → accepts false (value_parser.Unsigned 0 limit) n ≡ false
  number_refused limit n h = go (accepts false (value_parser.Unsigned 0 limit) n) refl
    where
      go : (t : Bool) → accepts false (value_parser.Unsigned 0 limit) n ≡ t → accepts false (value_parser.Unsigned 0 limit) n ≡ false
      go false e = e
      go true e =
          let ds = without_leading_plus n in
          let p = both (nat_lt 0 (length ds) && list_all (λ d. nat_lt (digit_value d) 10) ds) _ e in
          let q = both (nat_lt 0 (length ds)) _ p.0 in
          let r = both (nat_lt (digits_value 10 ds) (2 ^ 64)) _ p.1 in
          let s = both (nat_le 0 (digits_value 10 ds)) _ r.1 in
          let small : is_number limit n ≡ true = rw (q.0, q.1, s.1) refl in
          absurd (true≢false (sym small ∙ h))

  workloads_are_words : greatest_workload < 2 ^ 64
  workloads_are_words = omega (arith, workloads_are_ranges, positions_are_small)

  size_matched : (n : Text) → u64_read n ≡ Some (number_in n)
      → matched_line (codes "gen", size_row n ∷ []) ≡ Some (Workload (number_in n))
  size_matched n e = ap (option_map Workload) e

  size_is : (ws rest : List Text) (n : Text) (b : Bool) → is_number greatest_workload n ≡ b → Whole ws (codes "gen") workload_shape rest
      → SizeIs rest n (accepts false (value_parser.Unsigned 0 greatest_workload) n) → LineIs ws (size_line n)
  size_is ws rest n true h w l =
      let a = number_accepted greatest_workload workloads_are_words n h in
      let k : SizeIs rest n true = subst (SizeIs rest n) a.0 l in
      let line : LineIs ws (Some (Workload (number_in n))) = (
        w.0 ∙ ap (λ k. or_else k []) k.0,
        w.1 ∙ ap (λ b. b && true) k.1,
        ap (option_and_then matched_line) (w.2 ∙ ap (λ r. Some (codes "gen", r)) k.2) ∙ size_matched n a.1,
      ) in
      rw h line
  size_is ws rest n false h w l =
      let k : SizeIs rest n false = subst (SizeIs rest n) (number_refused greatest_workload n h) l in
      let line : LineIs ws None = sub_fails ws (codes "gen") workload_shape rest w k in
      rw h line

  workload_line_is : (ws rest : List Text) → Whole ws (codes "gen") workload_shape rest → (o : Option (List Text)) → WorkloadIs rest o
      → LineIs ws (workload_line o)
  workload_line_is ws rest w None l = sub_fails ws (codes "gen") workload_shape rest w l
  workload_line_is ws rest w (Some []) l = sub_fails ws (codes "gen") workload_shape rest w l
  workload_line_is ws rest w (Some (n ∷ [])) l = size_is ws rest n (is_number greatest_workload n) refl w l
  workload_line_is ws rest w (Some (n ∷ m ∷ ms)) l = sub_fails ws (codes "gen") workload_shape rest w l

  exec_read : (p n e : Text) (os : List Text) → u64_read n ≡ Some (number_in n)
      → matched_line (codes "exec", exec_rows p n (e ∷ os)) ≡ Some (Exec p (number_in n) e os)
  exec_read p n e [] is = ap (λ o. option_and_then (λ budget. run_matched p budget (exec_rows p n (e ∷ []))) o) is
  exec_read p n e (w ∷ ws) is = ap (λ o. option_and_then (λ budget. run_matched p budget (exec_rows p n (e ∷ w ∷ ws))) o) is

  budget_line_is : (ws rest : List Text) (p n e : Text) (os : List Text) (b : Bool) → is_number greatest_budget n ≡ b
      → Whole ws (codes "exec") exec_shape rest → BudgetIs rest p n (e ∷ os) (is_taken n) → LineIs ws (budget_line p n e os)
  budget_line_is ws rest p n e os true h w l =
      let a = number_accepted greatest_budget (omega (arith, budgets_are_small)) n h in
      let k : BudgetIs rest p n (e ∷ os) true = subst (BudgetIs rest p n (e ∷ os)) a.0 l in
      let line : LineIs ws (Some (Exec p (number_in n) e os)) = (
        w.0 ∙ ap (λ k. or_else k []) k.0,
        w.1 ∙ ap (λ b. b && true) k.1,
        ap (option_and_then matched_line) (w.2 ∙ ap (λ r. Some (codes "exec", r)) k.2) ∙ exec_read p n e os a.1,
      ) in
      rw h line
  budget_line_is ws rest p n e os false h w l =
      let k : BudgetIs rest p n (e ∷ os) false = subst (BudgetIs rest p n (e ∷ os)) (number_refused greatest_budget n h) l in
      let line : LineIs ws None = sub_fails ws (codes "exec") exec_shape rest w k in
      rw h line

  exec_line_is : (ws rest : List Text) → Whole ws (codes "exec") exec_shape rest → (o : Option (List Text)) → ExecIs rest o
      → LineIs ws (exec_line o)
  exec_line_is ws rest w None l = sub_fails ws (codes "exec") exec_shape rest w l
  exec_line_is ws rest w (Some []) l = sub_fails ws (codes "exec") exec_shape rest w l
  exec_line_is ws rest w (Some (p ∷ [])) l = sub_fails ws (codes "exec") exec_shape rest w l
  exec_line_is ws rest w (Some (p ∷ n ∷ [])) l = sub_fails ws (codes "exec") exec_shape rest w l
  exec_line_is ws rest w (Some (p ∷ n ∷ e ∷ os)) l = budget_line_is ws rest p n e os (is_number greatest_budget n) refl w l

  -- ---- a word that is no command

  abbrev Refused : Text → Kinds → Type 0
  Refused c kinds = (turn_fault top names start c ≡ kinds) × (turn_passes top names start c ≡ false)

  module _ (c : Text) (a : bytes_eq (codes "run") c ≡ false) (b : bytes_eq (codes "kernel") c ≡ false)
      (d : bytes_eq (codes "report") c ≡ false) (t : bytes_eq (codes "auto") c ≡ false) (q : bytes_eq (codes "plan") c ≡ false)
      (e : bytes_eq (codes "gen") c ≡ false) (x : bytes_eq (codes "exec") c ≡ false) where
    other_long : (p : Text × Option Text) → bytes_eq c (45 ∷ 45 ∷ []) ≡ false → long_of c ≡ Some p → Refused c (kind.UnknownArgument ∷ [])
    other_long p f l = (rw (a, b, d, t, q, e, x, f, l) refl, rw (a, b, d, t, q, e, x, f, l) refl)

    other_short : (z : ℕ) (flags : Text) (y : ℕ) → bytes_eq c (45 ∷ 45 ∷ []) ≡ false → long_of c ≡ None → short_of c ≡ Some (z ∷ flags)
        → slice_get (chars (z ∷ flags)) 0 ≡ Some y → Refused c (kind.UnknownArgument ∷ [])
    unfolding flags_fault flags_pass
    other_short z flags y f l h g = (rw (a, b, d, t, q, e, x, f, l, h, g) refl, rw (a, b, d, t, q, e, x, f, l, h, g) refl)

    other_operand : bytes_eq c (45 ∷ 45 ∷ []) ≡ false → long_of c ≡ None → short_of c ≡ None
        → Refused c (kind.UnknownArgument ∷ kind.InvalidSubcommand ∷ [])
    other_operand f l h = (rw (a, b, d, t, q, e, x, f, l, h) refl, rw (a, b, d, t, q, e, x, f, l, h) refl)

    other_dashes : bytes_eq c (45 ∷ 45 ∷ []) ≡ true → (walked [] names start c ≡ record start { is_trailing = true })
        × (turn_fault top names start c ≡ []) × (turn_passes top names start c ≡ true)
    unfolding walked
    other_dashes f = (rw (a, b, d, t, q, e, x, f) refl, rw (a, b, d, t, q, e, x, f) refl, rw (a, b, d, t, q, e, x, f) refl)

  dashes_end : (after_fault (record start { is_trailing = true }) ≡ kind.MissingSubcommand ∷ [])
      × (taken_after true (record start { is_trailing = true }) ≡ false)
  unfolding defaults_fault
  dashes_end = (refl, refl)

  dashes_value : (w : Text)
      → (turn_fault top names (record start { is_trailing = true }) w ≡ kind.UnknownArgument ∷ kind.InvalidSubcommand ∷ [])
      × (turn_passes top names (record start { is_trailing = true }) w ≡ false)
  dashes_value w = (refl, refl)

  -- a walk that doesn't pass isn't taken
  never_taken : (w : Walk) → taken_after false w ≡ false
  never_taken w = go (entered_passes whole w.stopped)
    where
      go : (b : Bool) → (b && false) ≡ false
      go true = refl
      go false = refl

  walk_refused : (n : Text) (xs : List Text) → walk_passes top names start xs ≡ false → takes (taco_app parser) (n ∷ xs) ≡ false
  walk_refused n xs p = takes_is n xs ∙ ap (λ b. taken_after b (walk [] names nothing_held xs)) p
      ∙ never_taken (walk [] names nothing_held xs)

  turn_fails : (n c : Text) (rest : List Text) (k : ErrorKind) (ks : Kinds) → Refused c (k ∷ ks) → LineIs (n ∷ c ∷ rest) None
  unfolding walk_fault walk_passes
  turn_fails n c rest k ks f = (
    λ e. some_kind _ _ (sym f.0 ∙ first_empty _ _ (first_empty _ _ (sym (fault_is n (c ∷ rest)) ∙ e))),
    walk_refused n (c ∷ rest) (ap (λ b. b && walk_passes top names (walked [] names start c) rest) f.1),
  )

  dashes_fail : (n c : Text) (rest : List Text)
      → (walked [] names start c ≡ record start { is_trailing = true }) × (turn_fault top names start c ≡ [])
      × (turn_passes top names start c ≡ true)
      → LineIs (n ∷ c ∷ rest) None
  unfolding walk_fault walk_passes
  dashes_fail n c [] s =
      let left : fault_of (taco_app parser) (n ∷ c ∷ []) ≡ kind.MissingSubcommand ∷ [] =
      fault_is n (c ∷ []) ∙ ap₂ (λ k w. or_else (or_else k []) (after_fault w)) s.1 s.0 ∙ dashes_end.0 in (
        λ e. some_kind _ _ (sym left ∙ e),
        takes_is n (c ∷ []) ∙ ap₂ (λ b w. taken_after (b && true) w) s.2 s.0 ∙ dashes_end.1,
      )
  dashes_fail n c (w ∷ ws) s = (
    λ e.
        let walk_none : walk_fault top names start (c ∷ w ∷ ws) ≡ [] =
        first_empty (walk_fault top names start (c ∷ w ∷ ws)) (after_fault (walk [] names nothing_held (c ∷ w ∷ ws)))
        (sym (fault_is n (c ∷ w ∷ ws)) ∙ e) in
        let next : walk_fault top names (record start { is_trailing = true }) (w ∷ ws) ≡ [] =
        sym (ap₂ (λ k v. or_else k (walk_fault top names v (w ∷ ws))) s.1 s.0) ∙ walk_none in
        some_kind _ _ (sym (dashes_value w).0 ∙ first_empty (turn_fault top names (record start { is_trailing = true }) w)
        (walk_fault top names (walked [] names (record start { is_trailing = true }) w) ws) next),
    walk_refused n (c ∷ w ∷ ws)
        (ap₂ (λ b v. b && walk_passes top names v (w ∷ ws)) s.2 s.0
        ∙ ap (λ b. b && walk_passes top names (walked [] names (record start { is_trailing = true }) w) ws) (dashes_value w).1),
  )

  other_fails : (n c : Text) (rest : List Text) → bytes_eq (codes "run") c ≡ false → bytes_eq (codes "kernel") c ≡ false
      → bytes_eq (codes "report") c ≡ false → bytes_eq (codes "auto") c ≡ false → bytes_eq (codes "plan") c ≡ false
      → bytes_eq (codes "gen") c ≡ false → bytes_eq (codes "exec") c ≡ false → Kind c → LineIs (n ∷ c ∷ rest) None
  other_fails n c rest a b d t q e x (dashes f u) = dashes_fail n c rest (other_dashes c a b d t q e x f)
  other_fails n c rest a b d t q e x (long p f o l parts u) = turn_fails n c rest _ _ (other_long c a b d t q e x p f l)
  other_fails n c rest a b d t q e x (short z flags y f o l h g v u) =
      turn_fails n c rest _ _ (other_short c a b d t q e x z flags y f l h g)
  other_fails n c rest a b d t q e x (operand f o l h) = turn_fails n c rest _ _ (other_operand c a b d t q e x f l h)

  -- ---- all lines

  none_fails : (fault_of (taco_app parser) [] ≡ kind.MissingSubcommand ∷ []) × (takes (taco_app parser) [] ≡ false)
  unfolding clap_on_literals
  none_fails = (refl, refl)

  name_fails : (n : Text) → (fault_of (taco_app parser) (n ∷ []) ≡ kind.MissingSubcommand ∷ []) × (takes (taco_app parser) (n ∷ []) ≡ false)
  unfolding clap_on_literals
  name_fails n = (refl, refl)

  abbrev count_in : Option (List Text) → ℕ
  count_in None = 0
  count_in (Some os) = length os

  one_more : (w : Text) (o : Option (List Text)) → count_in (option_map (λ ys. w ∷ ys) o) ≤ suc (count_in o)
  one_more w None = omega arith
  one_more w (Some os) = omega arith

  operands_count : (ws : List Text) → count_in (operands ws) ≤ length ws
  operands_count [] = omega arith
  operands_count (w ∷ ws) = go (bytes_eq w (codes "--")) (is_option w) (operands_count ws)
    where
      go : (s t : Bool) → count_in (operands ws) ≤ length ws
          → count_in (cond s (Some ws) (cond t None (option_map (λ ys. w ∷ ys) (operands ws)))) ≤ suc (length ws)
      go true t h = omega arith
      go false true h = omega arith
      go false false h = omega (arith, one_more w (operands ws), h)

  operands_length : (ws os : List Text) → operands ws ≡ Some os → length os ≤ length ws
  operands_length ws os e = subst (λ o. count_in o ≤ length ws) e (operands_count ws)

  module _ (n c : Text) (rest : List Text) (u : All IsUtf8 (c ∷ rest)) (fits : length rest ≤ usize_max) where
    below : (os : List Text) → operands rest ≡ Some os → length os ≤ usize_max + 1
    below os e = omega (arith, operands_length rest os e, fits)

    later : All IsUtf8 rest
    later = All-tail IsUtf8 c rest u

    inner : (name : Text) (sh : Shape) → Stops c name → Inside name sh rest → Whole (n ∷ c ∷ rest) name sh rest
    inner name sh s i = whole_is n c name sh rest (enters c name rest s) i

    for_task : (name : Text) (task : Task) → Stops c name → Inside name (over_shape parser name) rest
        → ((rows : List Row) → matched_line (name, rows) ≡ statement_matched task rows)
        → LineIs (n ∷ c ∷ rest) (over_line task (words_from false rest))
    for_task name task s i m =
        task_is (n ∷ c ∷ rest) name rest task (inner name (over_shape parser name) s i) m (over_line task (words_from false rest))
        (over_is parser takes_names name task rest later (omega (arith, fits)))

    for_plan : Stops c (codes "plan") → LineIs (n ∷ c ∷ rest) (plan_line (operands rest))
    for_plan s =
        plan_is (n ∷ c ∷ rest) rest (inner (codes "plan") (statement_shape (codes "plan")) s (inside_plan rest)) (operands rest)
        (level_is (codes "plan") rest later below)

    for_workload : Stops c (codes "gen") → LineIs (n ∷ c ∷ rest) (workload_line (operands rest))
    for_workload s =
        workload_line_is (n ∷ c ∷ rest) rest (inner (codes "gen") workload_shape s (inside_gen rest)) (operands rest)
        (workload_is rest later)

    for_exec : Stops c (codes "exec") → LineIs (n ∷ c ∷ rest) (exec_line (operands rest))
    for_exec s =
        exec_line_is (n ∷ c ∷ rest) rest (inner (codes "exec") exec_shape s (inside_exec rest)) (operands rest)
        (exec_is rest later (λ os e. omega (arith, below os e)))

    command_is : LineIs (n ∷ c ∷ rest) (line_of_command c rest)
    command_is = go (bytes_eq (codes "run") c) refl (bytes_eq (codes "kernel") c) refl (bytes_eq (codes "report") c) refl
        (bytes_eq (codes "auto") c) refl (bytes_eq (codes "plan") c) refl (bytes_eq (codes "gen") c) refl
        (bytes_eq (codes "exec") c) refl
      where
        go : (r : Bool) → bytes_eq (codes "run") c ≡ r → (k : Bool) → bytes_eq (codes "kernel") c ≡ k
            → (p : Bool) → bytes_eq (codes "report") c ≡ p → (t : Bool) → bytes_eq (codes "auto") c ≡ t
            → (l : Bool) → bytes_eq (codes "plan") c ≡ l
            → (g : Bool) → bytes_eq (codes "gen") c ≡ g → (x : Bool) → bytes_eq (codes "exec") c ≡ x
            → LineIs (n ∷ c ∷ rest) (line_of_command c rest)
        go true a k b p d t h l f g e x y = rw a (for_task (codes "run") Run (stops_run c a) (inside_run rest) (λ rows. refl))
        go false a true b p d t h l f g e x y =
            rw (a, b) (for_task (codes "kernel") Kernel (stops_kernel c a b) (inside_kernel rest) (λ rows. refl))
        go false a false b true d t h l f g e x y =
            rw (a, b, d) (for_task (codes "report") Report (stops_report c a b d) (inside_report rest) (λ rows. refl))
        go false a false b false d true h l f g e x y =
            rw (a, b, d, h) (for_task (codes "auto") Auto (stops_auto c a b d h) (inside_auto rest) (λ rows. refl))
        go false a false b false d false h true f g e x y =
            rw (a, b, d, h, f) (for_plan (stops_plan c a b d h f))
        go false a false b false d false h false f true e x y = rw (a, b, d, h, f, e) (for_workload (stops_gen c a b d h f e))
        go false a false b false d false h false f false e true y =
            rw (a, b, d, h, f, e, y) (for_exec (stops_exec c a b d h f e y))
        go false a false b false d false h false f false e false y =
            rw (a, b, d, h, f, e, y) (other_fails n c rest a b d h f e y (kind_of_word c (All-head IsUtf8 c rest u)))

  pub line_is : (ws : List Text) → All IsUtf8 ws → length ws ≤ usize_max → LineIs ws (command_line_of ws)
  line_is [] u fits = (λ e. some_kind _ _ (sym none_fails.0 ∙ e), none_fails.1)
  line_is (n ∷ []) u fits = (λ e. some_kind _ _ (sym (name_fails n).0 ∙ e), (name_fails n).1)
  line_is (n ∷ c ∷ rest) u fits = command_is n c rest (All-tail IsUtf8 n (c ∷ rest) u) (omega (arith, fits))

-- ---- what a caller cites

all_utf8 : {Z : Type 0} (ws : List (String Z)) → All IsUtf8 (map string_bytes ws)
all_utf8 [] = All-nil IsUtf8
all_utf8 (w ∷ ws) = All-cons IsUtf8 (string_bytes w) (map string_bytes ws) (IsUtf8-string_bytes w) (all_utf8 ws)

module _ (parser : ValueParser) (takes_names : TakesNames parser) where
  told_by : (ws : List Text) (o : Option CommandLine) → LineIs parser takes_names ws o → fault_of (taco_app parser) ws ≡ []
      → (l : CommandLine) × (o ≡ Some l) × (takes (taco_app parser) ws ≡ true) × (clap_line parser ws ≡ Some l)
  told_by ws None h e = absurd (h.0 e)
  told_by ws (Some l) h e = (l, refl, h.1, h.2)

  untold_by : (ws : List Text) (o : Option CommandLine) → LineIs parser takes_names ws o → (fault_of (taco_app parser) ws ≡ [] → ⊥)
      → o ≡ None
  untold_by ws None h fails = refl
  untold_by ws (Some l) h fails = absurd (fails h.0)

  pub told_line : {Z : Type 0} (ws : List (String Z)) → length ws ≤ usize_max → fault_of (taco_app parser) (map string_bytes ws) ≡ []
      → (l : CommandLine) × (command_line_of (map string_bytes ws) ≡ Some l) × (takes (taco_app parser) (map string_bytes ws) ≡ true)
      × (clap_line parser (map string_bytes ws) ≡ Some l)
  told_line ws fits e =
      told_by (map string_bytes ws) (command_line_of (map string_bytes ws))
      (line_is parser takes_names (map string_bytes ws) (all_utf8 ws) (omega (arith, fits, length-map ws string_bytes))) e

  pub untold_line : {Z : Type 0} (ws : List (String Z)) → length ws ≤ usize_max
      → (fault_of (taco_app parser) (map string_bytes ws) ≡ [] → ⊥)
      → command_line_of (map string_bytes ws) ≡ None
  untold_line ws fits fails =
      untold_by (map string_bytes ws) (command_line_of (map string_bytes ws))
      (line_is parser takes_names (map string_bytes ws) (all_utf8 ws) (omega (arith, fits, length-map ws string_bytes))) fails

  read_by : (ws : List Text) (o : Option CommandLine) → command_line_of ws ≡ o → LineIs parser takes_names ws o → IsRead parser ws
  read_by ws None is h = (h.1 ∙ sym (ap (λ (o : Option CommandLine). is_some o) is), λ e. absurd (true≢false (sym e ∙ h.1)))
  read_by ws (Some l) is h = (h.1 ∙ sym (ap (λ (o : Option CommandLine). is_some o) is), λ e. h.2 ∙ sym is)

pub reads_all : ReadsAll
reads_all parser takes_names ws fits =
    read_by parser takes_names (map string_bytes ws) (command_line_of (map string_bytes ws)) refl
    (line_is parser takes_names (map string_bytes ws) (all_utf8 ws) (omega (arith, fits, length-map ws string_bytes)))
