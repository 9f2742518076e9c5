use Rattle.std.specs.Prelude.{ℕ, List, [], ◌∷◌, ◌++◌, codes}
use Rattle.text_lines.specs.Pieces.{joined}
use Rattle.text_lines.proofs.PutPieces.{printed, refused, then_printed}
use Rattle.reports.specs.Plans.{variables_text, modes_text}
use Rattle.reports.proofs.plans.put_access.Goals as goal

pub returns-in_err-put_title : goal.returns-in_err-put_title
returns-in_err-put_title g c =
    let title : List ℕ = joined (codes "repack " ∷ c.args.name.now ∷ codes "(" ∷ []) in
    let variables : List ℕ = variables_text c.args.names.now c.args.numbers.now in
    let modes : List ℕ = modes_text c.args.modes.now in
    refused c.from_residual.result c.in_err-put_title.field-0.0 _ _ title (variables ++ (codes ") " ++ (modes ++ codes "\n")))
    c.from_residual.ensures.1 c.in_err-put_title.ensures.part

pub returns-in_err-put_variables : goal.returns-in_err-put_variables
returns-in_err-put_variables g c =
    let title : List ℕ = joined (codes "repack " ∷ c.args.name.now ∷ codes "(" ∷ []) in
    let variables : List ℕ = variables_text c.args.names.now c.args.numbers.now in
    let modes : List ℕ = modes_text c.args.modes.now in
    let r = c.from_residual-in_err-put_variables in
    then_printed _ _ _ _ title (variables ++ (codes ") " ++ (modes ++ codes "\n"))) c.in_ok-put_title.ensures.whole
    (refused r.result c.in_err-put_variables.field-0.0 _ _ variables (codes ") " ++ (modes ++ codes "\n")) r.ensures.1
    c.in_err-put_variables.ensures)

pub returns-in_err-put_all : goal.returns-in_err-put_all
returns-in_err-put_all g c =
    let title : List ℕ = joined (codes "repack " ∷ c.args.name.now ∷ codes "(" ∷ []) in
    let variables : List ℕ = variables_text c.args.names.now c.args.numbers.now in
    let modes : List ℕ = modes_text c.args.modes.now in
    let r = c.from_residual-in_err-put_all in
    then_printed _ _ _ _ title (variables ++ (codes ") " ++ (modes ++ codes "\n"))) c.in_ok-put_title.ensures.whole
    (then_printed _ _ _ _ variables (codes ") " ++ (modes ++ codes "\n")) c.in_ok-put_variables.ensures
    (refused r.result c.in_err-put_all.field-0.0 _ _ (codes ") ") (modes ++ codes "\n") r.ensures.1 c.in_err-put_all.ensures.part))

pub returns-in_err-put_modes : goal.returns-in_err-put_modes
returns-in_err-put_modes g c =
    let title : List ℕ = joined (codes "repack " ∷ c.args.name.now ∷ codes "(" ∷ []) in
    let variables : List ℕ = variables_text c.args.names.now c.args.numbers.now in
    let modes : List ℕ = modes_text c.args.modes.now in
    let r = c.from_residual-in_err-put_modes in
    then_printed _ _ _ _ title (variables ++ (codes ") " ++ (modes ++ codes "\n"))) c.in_ok-put_title.ensures.whole
    (then_printed _ _ _ _ variables (codes ") " ++ (modes ++ codes "\n")) c.in_ok-put_variables.ensures
    (then_printed _ _ _ _ (codes ") ") (modes ++ codes "\n") c.in_ok-put_all.ensures.whole
    (refused r.result c.in_err-put_modes.field-0.0 _ _ modes (codes "\n") r.ensures.1 c.in_err-put_modes.ensures)))

pub returns : goal.returns
returns g c =
    let title : List ℕ = joined (codes "repack " ∷ c.args.name.now ∷ codes "(" ∷ []) in
    let variables : List ℕ = variables_text c.args.names.now c.args.numbers.now in
    let modes : List ℕ = modes_text c.args.modes.now in
    then_printed _ _ _ _ title (variables ++ (codes ") " ++ (modes ++ codes "\n"))) c.in_ok-put_title.ensures.whole
    (then_printed _ _ _ _ variables (codes ") " ++ (modes ++ codes "\n")) c.in_ok-put_variables.ensures
    (then_printed _ _ _ _ (codes ") ") (modes ++ codes "\n") c.in_ok-put_all.ensures.whole
    (then_printed _ _ _ _ modes (codes "\n") c.in_ok-put_modes.ensures
    (printed _ _ _ _ c.put_all-2.ensures.whole c.put_all-2.ensures.part))))
