-- The size of a workload is within its limit, and the turns that a kernel's run may take within theirs.
use Rattle.std.proofs.Common.{◌≡◌, ◌≤◌, ℕ, Bool, true, false, refl, subst, List, [], ◌∷◌, length, Option, Some, None}
use Rattle.std.proofs.Common.{codes, nat_lt}
use Rattle.std.specs.List.{list_all}
use Rattle.std.specs.Char.{digit_value}
use Rattle.std.specs.Str.{bytes_eq}
use Rattle.std.specs.Str.Parse.{digits_value, without_leading_plus}
use Rattle.std.proofs.lemmas.Bool.{leb-true}
use Rattle.clap.proofs.WalkLemmas.{both}
use Rattle.limits.specs.Limits.{greatest_workload}
use Rattle.command_line.specs.declared.Task.{Task}
use Rattle.command_line.specs.declared.Task.TheVariants.{Run, Kernel, Report, Auto, Plan}
use Rattle.command_line.specs.CommandLine.{CommandLine, Statement, Workload, Exec, greatest_budget, is_number}
use Rattle.command_line.specs.CommandLine.{number_in, operands, size_line}
use Rattle.command_line.specs.CommandLine.{Behind, statement_line, over_line, plan_line, words_from, workload_line, budget_line, exec_line}
use Rattle.command_line.specs.CommandLine.{line_of_command, command_line_of}
use Rattle.command_line.specs.declared.Over.{Over}
use Rattle.command_line.specs.declared.Over.TheVariants.{Ring}
use Rattle.std.specs.Prelude.{unwrap_or}
use Rattle.command_line.specs.Law.{AreLimited, HaveFewTurns}

-- a line that asks for a workload asks for one within the limit
abbrev IsLimited : Option CommandLine → Type 0
IsLimited None = Unit {0}
IsLimited (Some (Statement task over expr words)) = Unit {0}
IsLimited (Some (Workload size)) = size ≤ greatest_workload
IsLimited (Some (Exec path budget expr words)) = budget ≤ greatest_budget

statement_limited : (task : Task) (over : Over) (given : List (List ℕ)) → IsLimited (statement_line task over given)
statement_limited task over [] = tt
statement_limited task over (expr ∷ words) = tt

over_limited : (task : Task) (given : Option Behind) → IsLimited (over_line task given)
over_limited task None = tt
over_limited task (Some behind) = statement_limited task (unwrap_or behind.over Ring) behind.operands

plan_limited : (given : Option (List (List ℕ))) → IsLimited (plan_line given)
plan_limited None = tt
plan_limited (Some given) = statement_limited Plan Ring given

number_limited : (limit : ℕ) (text : List ℕ) → is_number limit text ≡ true → number_in text ≤ limit
number_limited limit text e =
    let digits = without_leading_plus text in
    let some = both (nat_lt 0 (length digits)) _ e in
    let all = both (list_all (λ d. nat_lt (digit_value d) 10) digits) _ some.1 in
    leb-true (digits_value 10 digits) limit all.1

size_limited : (text : List ℕ) → IsLimited (size_line text)
size_limited text = go (is_number greatest_workload text) refl
  where
    go : (b : Bool) → is_number greatest_workload text ≡ b → IsLimited (size_line text)
    go false e = rw e tt
    go true e = rw e (number_limited greatest_workload text e)

budget_limited : (path budget expr : List ℕ) (words : List (List ℕ)) → IsLimited (budget_line path budget expr words)
budget_limited path budget expr words = go (is_number greatest_budget budget) refl
  where
    go : (b : Bool) → is_number greatest_budget budget ≡ b → IsLimited (budget_line path budget expr words)
    go false e = rw e tt
    go true e = rw e (number_limited greatest_budget budget e)

exec_limited : (given : Option (List (List ℕ))) → IsLimited (exec_line given)
exec_limited None = tt
exec_limited (Some []) = tt
exec_limited (Some (path ∷ [])) = tt
exec_limited (Some (path ∷ budget ∷ [])) = tt
exec_limited (Some (path ∷ budget ∷ expr ∷ words)) = budget_limited path budget expr words

workload_limited : (given : Option (List (List ℕ))) → IsLimited (workload_line given)
workload_limited None = tt
workload_limited (Some []) = tt
workload_limited (Some (size ∷ [])) = size_limited size
workload_limited (Some (size ∷ more ∷ rest)) = tt

command_limited : (command : List ℕ) (rest : List (List ℕ)) → IsLimited (line_of_command command rest)
command_limited command rest =
    go (bytes_eq (codes "run") command) refl (bytes_eq (codes "kernel") command) refl (bytes_eq (codes "report") command) refl
    (bytes_eq (codes "auto") command) refl (bytes_eq (codes "plan") command) refl (bytes_eq (codes "gen") command) refl
    (bytes_eq (codes "exec") command) refl
  where
    go : (r : Bool) → bytes_eq (codes "run") command ≡ r → (k : Bool) → bytes_eq (codes "kernel") command ≡ k
        → (p : Bool) → bytes_eq (codes "report") command ≡ p → (t : Bool) → bytes_eq (codes "auto") command ≡ t
        → (q : Bool) → bytes_eq (codes "plan") command ≡ q → (g : Bool) → bytes_eq (codes "gen") command ≡ g
        → (x : Bool) → bytes_eq (codes "exec") command ≡ x → IsLimited (line_of_command command rest)
    go true a k b p d t h q f g e x y = rw a (over_limited Run (words_from false rest))
    go false a true b p d t h q f g e x y = rw (a, b) (over_limited Kernel (words_from false rest))
    go false a false b true d t h q f g e x y = rw (a, b, d) (over_limited Report (words_from false rest))
    go false a false b false d true h q f g e x y = rw (a, b, d, h) (over_limited Auto (words_from false rest))
    go false a false b false d false h true f g e x y = rw (a, b, d, h, f) (plan_limited (operands rest))
    go false a false b false d false h false f true e x y = rw (a, b, d, h, f, e) (workload_limited (operands rest))
    go false a false b false d false h false f false e true y = rw (a, b, d, h, f, e, y) (exec_limited (operands rest))
    go false a false b false d false h false f false e false y = rw (a, b, d, h, f, e, y) tt

line_limited : (words : List (List ℕ)) → IsLimited (command_line_of words)
line_limited [] = tt
line_limited (name ∷ []) = tt
line_limited (name ∷ command ∷ rest) = command_limited command rest

pub are_limited : AreLimited
are_limited words size is = subst IsLimited is (line_limited words)

pub have_few_turns : HaveFewTurns
have_few_turns words path budget expr rest is = subst IsLimited is (line_limited words)
