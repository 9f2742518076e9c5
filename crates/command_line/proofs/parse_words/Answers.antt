use Rattle.std.proofs.Common.{◌≡◌, ℕ, List, [], subst, true, map, string_bytes, inl, inr}
use Rattle.clap.specs.Kinds.{HasKind}
use Rattle.clap.specs.Simple.{App, HasMatchesOf, app_of}
use Rattle.clap.specs.Faults.{fault_of, is_simple_and_free}
use Rattle.command_line.specs.Clap.{taco_app}
use Rattle.command_line.proofs.Top.{is_simple_taco, is_free_taco}
use Rattle.command_line.proofs.parse_words.Goals as goal

pub returns-in-Ok-try_get_matches_from-clause-taken : goal.returns-in-Ok-try_get_matches_from-clause-taken
returns-in-Ok-try_get_matches_from-clause-taken c =
    let words : List (List ℕ) = map string_bytes c.args.words.now in
    let app : app_of c.in-Ok.command ≡ taco_app c.args.parser = c.in-Ok.ensures.app in
    subst (λ (a : App). is_simple_and_free a ≡ true → fault_of a words ≡ []) app c.in-Ok-try_get_matches_from.ensures.kinds
    (is_free_taco c.args.parser)

pub returns-in-Ok-try_get_matches_from-clause-exact : goal.returns-in-Ok-try_get_matches_from-clause-exact
returns-in-Ok-try_get_matches_from-clause-exact c =
    let words : List (List ℕ) = map string_bytes c.args.words.now in
    let app : app_of c.in-Ok.command ≡ taco_app c.args.parser = c.in-Ok.ensures.app in
    (subst (λ (a : App). HasMatchesOf a words c.in-Ok-try_get_matches_from.matches) app c.in-Ok-try_get_matches_from.ensures.matches
    (is_simple_taco c.args.parser)).1

pub returns-in-Err-try_get_matches_from-clause-fault : goal.returns-in-Err-try_get_matches_from-clause-fault
returns-in-Err-try_get_matches_from-clause-fault c =
    let words : List (List ℕ) = map string_bytes c.args.words.now in
    let error = c.in-Err-try_get_matches_from.error in
    let app : app_of c.in-Ok.command ≡ taco_app c.args.parser = c.in-Ok.ensures.app in
    let named : HasKind (fault_of (taco_app c.args.parser) words) error =
    subst (λ (a : App). is_simple_and_free a ≡ true → HasKind (fault_of a words) error) app c.in-Err-try_get_matches_from.ensures.kinds
    (is_free_taco c.args.parser) in
    λ usage none.
    let empty : HasKind [] error = subst (λ kinds. HasKind kinds error) none named in
    elim empty [ inl memory ↦ c.fault_of_error.ensures usage memory | inr among ↦ absurd among ]
