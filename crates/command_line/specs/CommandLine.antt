-- What a command line says, in plain words.
use Rattle.std.specs.Prelude.{◌==◌, ◌&&◌, ℕ, Bool, true, false, List, [], ◌∷◌, length}
use Rattle.std.specs.Prelude.{Option, Some, None, codes, if◌then◌else◌, option_map, is_some, unwrap_or}
use Rattle.std.specs.Prelude.{nat_le, nat_lt}
use Rattle.std.specs.List.{list_all, list_any, before_first, after_first}
use Rattle.std.specs.Char.{digit_value}
use Rattle.std.specs.Str.{bytes_eq}
use Rattle.std.specs.Str.Parse.{digits_value, without_leading_plus}
use Rattle.limits.specs.Limits.{greatest_workload}
use Rattle.command_line.specs.declared.Over.{Over}
use Rattle.command_line.specs.declared.Over.TheVariants.{Ring, MinPlus, Bits}
use Rattle.command_line.specs.declared.Task.{Task}
use Rattle.command_line.specs.declared.Task.TheVariants.{Run, Kernel, Report, Auto, Plan}

-- a statement with the words behind it, what is asked for it, and the semiring of its values; the size of a generated workload; or the path
-- of a kernel's file, the turns that its run may take, and a statement with the words behind it
pub data CommandLine : Type 0 where
  Statement : (task : Task) → (over : Over) → (expr : List ℕ) → (words : List (List ℕ)) → CommandLine
  Workload : (size : ℕ) → CommandLine
  Exec : (path : List ℕ) → (budget : ℕ) → (expr : List ℕ) → (words : List (List ℕ)) → CommandLine

-- the greatest number of turns that the run of a kernel may be given: 2^63 - 1
unfoldable pub greatest_budget : ℕ
greatest_budget = 9223372036854775807

-- the word begins with `-` (45), and isn't `-` alone
abbrev pub is_option : List ℕ → Bool
is_option [] = false
is_option (b ∷ []) = false
is_option (b ∷ c ∷ rest) = b == 45

-- the words after a command, without the first `--`; no option stands before it
abbrev pub operands : List (List ℕ) → Option (List (List ℕ))
operands [] = Some []
operands (word ∷ rest) =
    if bytes_eq word (codes "--") then Some rest
    else (if is_option word then None else option_map (λ xs. word ∷ xs) (operands rest))

-- EXPR, and any number of WORDs
abbrev pub statement_line : Task → Over → List (List ℕ) → Option CommandLine
statement_line task over [] = None
statement_line task over (expr ∷ words) = Some (Statement task over expr words)

-- `plan` has no option
abbrev pub plan_line : Option (List (List ℕ)) → Option CommandLine
plan_line None = None
plan_line (Some given) = statement_line Plan Ring given

-- ---- `--over S` and `--over=S`

-- the semiring of a name
abbrev pub over_named : List ℕ → Option Over
over_named name =
    if bytes_eq (codes "ring") name then Some Ring
    else (if bytes_eq (codes "minplus") name then Some MinPlus
    else (if bytes_eq (codes "bits") name then Some Bits else None))

-- the word is `--over`, or begins with `--over=`: two hyphens (45), and then `over` up to the first `=` (61)
abbrev pub is_over : List ℕ → Bool
is_over (b ∷ c ∷ rest) = b == 45 && (c == 45 && bytes_eq (codes "over") (before_first (λ x. x == 61) rest))
is_over _ = false

-- what stands behind that `=`, if there is one
abbrev pub value_in : List ℕ → Option (List ℕ)
value_in (b ∷ c ∷ rest) = if list_any (λ x. x == 61) rest then Some (after_first (λ x. x == 61) rest) else None
value_in _ = None

-- the operands behind a command, and the semiring that `--over` names among them
pub record Behind : Type 0 where
  pub operands : List (List ℕ)
  pub over : Option Over

-- one more operand in front
abbrev pub with_operand : List ℕ → Option Behind → Option Behind
with_operand word None = None
with_operand word (Some behind) = Some (record behind { operands = word ∷ behind.operands })

-- a semiring named in front: it has to be one, and mayn't be named twice
abbrev pub with_over : Option Over → Option Behind → Option Behind
with_over None behind = None
with_over (Some over) None = None
with_over (Some over) (Some behind) = if is_some behind.over then None else Some (record behind { over = Some over })

-- `--over=S` names its S, and `--over` leaves it to the next word
abbrev pub option_words : Option (List ℕ) → Option Behind → Option Behind → Option Behind
option_words None due rest = due
option_words (Some name) due rest = with_over (over_named name) rest

-- the words after a command with that option, where the next one is the option's S, or isn't: the first `--` is dropped, and what
-- stands behind it is operands alone; no other option stands before it
abbrev pub words_from : Bool → List (List ℕ) → Option Behind
words_from true [] = None
words_from true (name ∷ rest) = with_over (over_named name) (words_from false rest)
words_from false [] = Some (record { operands = []; over = None })
words_from false (word ∷ rest) =
    if bytes_eq word (codes "--") then Some (record { operands = rest; over = None })
    else (if is_option word
    then (if is_over word then option_words (value_in word) (words_from true rest) (words_from false rest) else None)
    else with_operand word (words_from false rest))

-- EXPR and any number of WORDs, over the semiring that is named, or the ring
abbrev pub over_line : Task → Option Behind → Option CommandLine
over_line task None = None
over_line task (Some behind) = statement_line task (unwrap_or behind.over Ring) behind.operands

-- digits, after a `+` or none, whose number is no greater than the limit
abbrev pub is_number : ℕ → List ℕ → Bool
is_number limit text =
    let digits = without_leading_plus text in
    nat_lt 0 (length digits) && (list_all (λ d. nat_lt (digit_value d) 10) digits && nat_le (digits_value 10 digits) limit)

abbrev pub number_in : List ℕ → ℕ
number_in text = digits_value 10 (without_leading_plus text)

abbrev pub size_line : List ℕ → Option CommandLine
size_line text = if is_number greatest_workload text then Some (Workload (number_in text)) else None

-- N alone
abbrev pub workload_line : Option (List (List ℕ)) → Option CommandLine
workload_line None = None
workload_line (Some []) = None
workload_line (Some (size ∷ [])) = size_line size
workload_line (Some (size ∷ more ∷ rest)) = None

-- PATH, N, EXPR, and any number of WORDs; there is no option
abbrev pub budget_line : List ℕ → List ℕ → List ℕ → List (List ℕ) → Option CommandLine
budget_line path budget expr words =
    if is_number greatest_budget budget then Some (Exec path (number_in budget) expr words) else None

abbrev pub exec_line : Option (List (List ℕ)) → Option CommandLine
exec_line None = None
exec_line (Some []) = None
exec_line (Some (path ∷ [])) = None
exec_line (Some (path ∷ budget ∷ [])) = None
exec_line (Some (path ∷ budget ∷ expr ∷ words)) = budget_line path budget expr words

abbrev pub line_of_command : List ℕ → List (List ℕ) → Option CommandLine
line_of_command command rest =
    if bytes_eq (codes "run") command then over_line Run (words_from false rest)
    else (if bytes_eq (codes "kernel") command then over_line Kernel (words_from false rest)
    else (if bytes_eq (codes "report") command then over_line Report (words_from false rest)
    else (if bytes_eq (codes "auto") command then over_line Auto (words_from false rest)
    else (if bytes_eq (codes "plan") command then plan_line (operands rest)
    else (if bytes_eq (codes "gen") command then workload_line (operands rest)
    else (if bytes_eq (codes "exec") command then exec_line (operands rest) else None))))))

-- the program's name, a command and its operands
abbrev pub command_line_of : List (List ℕ) → Option CommandLine
command_line_of [] = None
command_line_of (name ∷ []) = None
command_line_of (name ∷ command ∷ rest) = line_of_command command rest
