use Rattle.std.proofs.Common.{◌++◌, ◌∷◌, [], ◌∙◌, ap, append_assoc}
use Rattle.kernel_code.specs.declared.syntax.KExpr.{Var}
use Rattle.kernel_code.specs.declared.syntax.KStmt.{Set}
use Rattle.store_facts.proofs.NameLemmas.{of_some}
use Rattle.store_facts.proofs.names.named_load.Goals as goal

pub returns : goal.returns
returns c =
    let copy = c.in-Some-split_last in
    let pair = c.in-Some-copied_variable in
    let front = copy.field-0-1.now in
    let last = c.in-Some.ahead.now in
    let load = c.in-Some-2.load in
    record {
      x = pair.x;
      y = pair.y;
      front = front;
      last = last;
      load = load;
      code_is = c.in-Some.ensures.cases.0 ∙ ap (λ xs. xs ++ last ∷ []) (copy.ensures.cases.0 ∙ ap (λ k. front ++ k ∷ []) pair.ensures)
          ∙ append_assoc front (Set pair.x (Var pair.y) ∷ []) (last ∷ []);
      alike = c.is_loaded_alike.ensures c.if-not-is_loaded_alike.false;
      named_is = c.in_ok-named.ensures
          ∙ of_some c.in-Some-split_last-2.behind.now c.in_ok-load.field-0 load c.in-Some-2.is c.in_ok-load.ensures;
    }
