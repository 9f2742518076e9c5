-- The command that `clap` is given, and what its matches say.
use Rattle.std.specs.Prelude.{◌≡◌, ℕ, Bool, ◌&&◌, ◌^◌, length, nat_lt, true, false, List, []}
use Rattle.std.specs.Prelude.{Option, Some, None, codes, if◌then◌else◌, option_map}
use Rattle.std.specs.Prelude.{option_and_then, unwrap_or, is_some}
use Rattle.std.specs.Str.{bytes_eq}
use Rattle.std.specs.List.{list_all}
use Rattle.std.specs.Char.{digit_value}
use Rattle.std.specs.Str.Parse.{digits_value, without_leading_plus}
use Rattle.clap.specs.Lexer.{usize_max}
use Rattle.clap.specs.Walk.{Row, Rule, Text, all_of, first_of, one_of}
use Rattle.clap.specs.Simple.{App, new_app, new_rule, on_top, subcommand_of, with_rule, with_subcommand}
use Rattle.clap.specs.ValueTests.{accepts}
use Rattle.clap.specs.declared.builder.value_parser.ValueParser.{ValueParser}
use Rattle.clap.specs.declared.builder.value_parser.ValueParser.TheVariants as value_parser
use Rattle.limits.specs.Limits.{greatest_workload}
use Rattle.command_line.specs.CommandLine.{CommandLine, Statement, Workload, Exec, greatest_budget, over_named}
use Rattle.command_line.specs.declared.Over.{Over}
use Rattle.command_line.specs.declared.Over.TheVariants.{Ring}
use Rattle.command_line.specs.declared.Task.{Task}
use Rattle.command_line.specs.declared.Task.TheVariants.{Run, Kernel, Report, Auto, Plan}

abbrev pub expr_rule : Rule
expr_rule = record (new_rule (codes "EXPR")) { required = true }

abbrev pub word_rule : Rule
word_rule = record (new_rule (codes "WORD")) {
  range = Some (record { start_inclusive = 0; end_inclusive = usize_max });
}

abbrev pub size_rule : Rule
size_rule = record (new_rule (codes "N")) {
  required = true;
  parser = Some (value_parser.Unsigned 0 greatest_workload);
}

abbrev pub path_rule : Rule
path_rule = record (new_rule (codes "PATH")) { required = true }

abbrev pub budget_rule : Rule
budget_rule = record (new_rule (codes "N")) {
  required = true;
  parser = Some (value_parser.Unsigned 0 greatest_budget);
}

-- the parser takes the names of semirings, and no other text
abbrev pub TakesNames : ValueParser → Type 0
TakesNames names = (text : Text) → accepts false names text ≡ is_some (over_named text)

abbrev pub over_rule : ValueParser → Rule
over_rule names = record (new_rule (codes "over")) {
  long = Some (codes "over");
  parser = Some names;
}

abbrev pub plan_app : App
plan_app = with_rule (with_rule (new_app (codes "plan")) expr_rule) word_rule

abbrev pub statement_app : ValueParser → Text → App
statement_app names name = with_rule (with_rule (with_rule (new_app name) expr_rule) word_rule) (over_rule names)

abbrev pub workload_app : App
workload_app = with_rule (new_app (codes "gen")) size_rule

-- PATH and N; and behind them EXPR and WORDs
abbrev pub budget_app : App
budget_app = with_rule (with_rule (new_app (codes "exec")) path_rule) budget_rule

abbrev pub exec_app : App
exec_app = with_rule (with_rule budget_app expr_rule) word_rule

abbrev pub bare_app : App
bare_app = on_top (λ s. record s {
  disable_help_flag = true;
  disable_help_subcommand = true;
  subcommand_required = true;
}) (new_app (codes "taco"))

abbrev pub taco_app : ValueParser → App
taco_app names = with_subcommand (with_subcommand (with_subcommand (with_subcommand (with_subcommand (with_subcommand
    (with_subcommand bare_app (statement_app names (codes "run")).top)
    (statement_app names (codes "kernel")).top)
    (statement_app names (codes "report")).top)
    (statement_app names (codes "auto")).top)
    plan_app.top)
    workload_app.top)
    exec_app.top

-- digits, after a `+` or none, whose number a `u64` holds
abbrev pub is_u64_text : Text → Bool
is_u64_text text =
    let digits = without_leading_plus text in
    nat_lt 0 (length digits) && (list_all (λ d. nat_lt (digit_value d) 10) digits
    && nat_lt (digits_value 10 digits) (2 ^ 64))

-- the number that a text is read as
abbrev pub u64_read : Text → Option ℕ
u64_read text = if is_u64_text text then Some (digits_value 10 (without_leading_plus text)) else None

-- the task that a subcommand's name asks for
abbrev pub task_of : Text → Option Task
task_of name =
    if bytes_eq name (codes "run") then Some Run
    else (if bytes_eq name (codes "kernel") then Some Kernel
    else (if bytes_eq name (codes "report") then Some Report
    else (if bytes_eq name (codes "auto") then Some Auto
    else (if bytes_eq name (codes "plan") then Some Plan else None))))

-- the semiring that is named, or the ring
abbrev pub named_or_ring : Option Text → Option Over
named_or_ring None = Some Ring
named_or_ring (Some name) = over_named name

abbrev pub over_matched : List Row → Option Over
over_matched rows = named_or_ring (first_of (codes "over") rows)

-- the text of EXPR and the WORDs
abbrev pub expr_matched : Task → Over → List Row → Option CommandLine
expr_matched task over rows =
    option_map (λ expr. Statement task over expr (unwrap_or (all_of (codes "WORD") rows) [])) (first_of (codes "EXPR") rows)

-- and the semiring
abbrev pub statement_matched : Task → List Row → Option CommandLine
statement_matched task rows = option_and_then (λ over. expr_matched task over rows) (over_matched rows)

-- the number that N is read as
abbrev pub number_matched : List Row → Option ℕ
number_matched rows = option_and_then u64_read (one_of (codes "N") rows)

abbrev pub workload_matched : List Row → Option CommandLine
workload_matched rows = option_map Workload (number_matched rows)

-- the texts of PATH and EXPR, the number N, and the WORDs
abbrev pub run_matched : List ℕ → ℕ → List Row → Option CommandLine
run_matched path budget rows =
    option_map (λ expr. Exec path budget expr (unwrap_or (all_of (codes "WORD") rows) [])) (first_of (codes "EXPR") rows)

abbrev pub exec_matched : List Row → Option CommandLine
exec_matched rows =
    option_and_then (λ path. option_and_then (λ budget. run_matched path budget rows) (number_matched rows)) (first_of (codes "PATH") rows)

-- what the subcommand's name and its matches say
abbrev pub matched_line : Text × List Row → Option CommandLine
matched_line m =
    if bytes_eq m.0 (codes "gen") then workload_matched m.1
    else (if bytes_eq m.0 (codes "exec") then exec_matched m.1
    else option_and_then (λ task. statement_matched task m.1) (task_of m.0))

-- what `clap`'s matches of the words say
abbrev pub clap_line : ValueParser → List Text → Option CommandLine
clap_line names words = option_and_then matched_line (subcommand_of (taco_app names) words)
