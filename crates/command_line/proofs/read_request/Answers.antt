use Rattle.std.proofs.Common.{arith, ap, sym, ◌≡◌, ◌∙◌, ◌≤◌, List, Option, length, true≢false, map, string_bytes, Some, None}
use Rattle.std.proofs.Common.{option_map, is_some}
use Rattle.std.specs.Prelude.{String, option_and_then}
use Rattle.std.specs.declared.alloc.Global.{Global}
use Rattle.clap.specs.Lexer.{usize_max}
use Rattle.command_line.specs.CommandLine.{CommandLine, command_line_of}
use Rattle.command_line.specs.Clap.{matched_line, clap_line}
use Rattle.command_line.specs.Law.{IsToldOf, IsUntold}
use Rattle.command_line.specs.Told.{told}
use Rattle.command_line.proofs.Top.{told_line, untold_line, reads_all}
use Rattle.command_line.proofs.read_request.Goals as goal

some≢none : {X : Type 0} (x : X) → Some x ≡ None → ⊥
some≢none x e = true≢false (ap (λ o. is_some o) e)

-- the parsers of semirings' names read the same
told_by_all : (words : List (String Global)) → length words ≤ usize_max → (l : CommandLine)
    → command_line_of (map string_bytes words) ≡ Some l → IsToldOf l (map string_bytes words)
told_by_all words short l is names takes_names =
    let read = reads_all names takes_names words short in
    let taken = read.0 ∙ ap (λ (o : Option CommandLine). is_some o) is in
    (taken, read.1 taken ∙ is)

untold_by_all : (words : List (String Global)) → length words ≤ usize_max → command_line_of (map string_bytes words) ≡ None
    → IsUntold (map string_bytes words)
untold_by_all words short is names takes_names =
    (reads_all names takes_names words short).0 ∙ ap (λ (o : Option CommandLine). is_some o) is

pub returns-in-Ok-Some : goal.returns-in-Ok-Some
returns-in-Ok-Some c =
    let short : length c.args.words.now ≤ usize_max = omega (arith, c.well_formed) in
    let line = told_line c.names_parser.result c.names_parser.ensures c.args.words.now short c.in-Ok.ensures.taken in
    let read : Some (told c.in-Ok-Some.request) ≡ clap_line c.names_parser.result (map string_bytes c.args.words.now) =
    sym (ap (option_map told) c.in-Ok-Some.field-0-is) ∙ c.in-Ok-Some.ensures ∙ ap (option_and_then matched_line) c.in-Ok.ensures.exact in
    let is = line.1 ∙ sym line.3 ∙ sym read in
    record { told = is; exact = told_by_all c.args.words.now short _ is; untold = tt; refused = tt }

-- the matches of words that are taken tell a request
pub returns-in-Ok-None : goal.returns-in-Ok-None
returns-in-Ok-None c =
    let short : length c.args.words.now ≤ usize_max = omega (arith, c.well_formed) in
    let line = told_line c.names_parser.result c.names_parser.ensures c.args.words.now short c.in-Ok.ensures.taken in
    let read : None ≡ clap_line c.names_parser.result (map string_bytes c.args.words.now) =
    sym (ap (option_map told) c.in-Ok-None.field-0-is) ∙ c.in-Ok-None.ensures ∙ ap (option_and_then matched_line) c.in-Ok.ensures.exact in
    absurd (some≢none line.0 (sym (read ∙ line.3)))

pub returns-clause-untold : goal.returns-clause-untold
returns-clause-untold c =
    let short : length c.args.words.now ≤ usize_max = omega (arith, c.well_formed) in
    λ usage. untold_line c.names_parser.result c.names_parser.ensures c.args.words.now short (c.in-Err.ensures.fault usage)

pub returns-clause-refused : goal.returns-clause-refused
returns-clause-refused c =
    let short : length c.args.words.now ≤ usize_max = omega (arith, c.well_formed) in
    λ usage. untold_by_all c.args.words.now short
    (untold_line c.names_parser.result c.names_parser.ensures c.args.words.now short (c.in-Err.ensures.fault usage))
