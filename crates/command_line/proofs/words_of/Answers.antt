use Rattle.std.proofs.Common.{ap, sym, ◌≡◌, ◌∙◌, codes, map, option_map, unwrap_or, List, ℕ, Option, Some, None, []}
use Rattle.std.proofs.lemmas.Result.{IfOk-weaker}
use Rattle.std.specs.Borrow.{Bor}
use Rattle.clap.specs.Words.{found_of, rows_of, all_of}
use Rattle.clap.proofs.WalkLemmas.{raw_values-rows}
use Rattle.command_line.proofs.words_of.Goals as goal

abbrev or_none : Option (List (List ℕ)) → List (List ℕ)
or_none o = unwrap_or o []

abbrev texts_in : Option (Bor (List (Bor (List ℕ)))) → Option (List (List ℕ))
texts_in = option_map (λ s. map (λ v. v.now) s.now)

pub returns-in-Some : goal.returns-in-Some
returns-in-Some c =
    let rows = c.get_strs.ensures ∙ raw_values-rows (found_of c.args.matches.now) (codes "WORD") in
    let some : Some (map (λ v. v.now) c.in-Some.words.now) ≡ all_of (codes "WORD") (rows_of (found_of c.args.matches.now)) =
    sym (ap texts_in c.in-Some.is) ∙ rows in
    IfOk-weaker c.from_slice.result _ _ (λ v h. ap (map (λ w. w.now)) h ∙ ap or_none some) c.from_slice.ensures.items

pub returns-in-None : goal.returns-in-None
returns-in-None c =
    let rows = c.get_strs.ensures ∙ raw_values-rows (found_of c.args.matches.now) (codes "WORD") in
    let none : None ≡ all_of (codes "WORD") (rows_of (found_of c.args.matches.now)) =
    sym (ap texts_in c.in-None.is) ∙ rows in
    ap (map (λ w. w.now)) c.new.ensures.items ∙ ap or_none none
