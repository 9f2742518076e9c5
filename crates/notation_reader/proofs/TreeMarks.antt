-- The mark behind the left side of a sentence is the first of its marks.
use Rattle.std.specs.Prelude.{◌≡◌, Bool, true, false, List, [], ◌∷◌, ◌++◌, refl}
use Rattle.std.proofs.Common.{◌∙◌, ap, append_assoc}
use Rattle.index_notation.specs.declared.syntax.Name.{Name}
use Rattle.notation_grammar.specs.Grammar.{Tree, NamesLeft, Written, plain, the_end, assigning, access_of, sum_of, left_of, sentence_of}
use Rattle.notation_grammar.specs.Grammar.{more_variables, in_brackets, symbols}
use Rattle.notation_reader.specs.Assigning.{accumulates}

more_assign : (n : _) (vars : List Name) (ms : List Written)
    → accumulates (symbols (more_variables n vars ++ ms)) ≡ accumulates (symbols ms)
more_assign n [] ms = refl
more_assign n (var ∷ vars) ms = more_assign _ vars ms

access_assigns : (vars : List Name) (ms : List Written) → accumulates (symbols (in_brackets vars ++ ms)) ≡ accumulates (symbols ms)
access_assigns [] ms = refl
access_assigns (var ∷ vars) ms = more_assign 2 vars ms

mark_assigns : (accumulate : Bool) (ms : List Written) → accumulates (symbols (plain (assigning accumulate) ∷ ms)) ≡ accumulate
mark_assigns true ms = refl
mark_assigns false ms = refl

-- whether a tree's statement adds to the old tensor is seen of its symbols
pub tree_assigns : (w : Tree) → accumulates (symbols (sentence_of w)) ≡ w.left.accumulate
tree_assigns w =
    let right = sum_of 0 w.right ++ (the_end ∷ []) in
    let mark = plain (assigning w.left.accumulate) in
    ap (λ (ms : List Written). accumulates (symbols ms))
    (append_assoc (left_of w.left) (sum_of 0 w.right) (the_end ∷ []) ∙ append_assoc (access_of NamesLeft w.left.access) (mark ∷ []) right)
    ∙ access_assigns w.left.access.vars (mark ∷ right) ∙ mark_assigns w.left.accumulate right
