use Rattle.concrete_notation.proofs.TermsBelow.{below_forall, below_both, below_where}
use Rattle.concrete_notation.proofs.concrete.+push_terms.Goals as goal

pub returns-in_ok-push_terms-in-Forall : goal.returns-in_ok-push_terms-in-Forall
returns-in_ok-push_terms-in-Forall t c =
    below_forall c.args.list.now c.push_terms.new.list c.args.tree.now c.in-Forall.field-0 c.in-Forall.body c.get.result.now
    c.in-Forall.is
    c.get.ensures c.in_ok-push_terms-in-Forall.ensures

pub returns-in_ok-push_terms-in-Both-2 : goal.returns-in_ok-push_terms-in-Both-2
returns-in_ok-push_terms-in-Both-2 t c =
    below_both c.args.list.now c.push_terms-in-Both-2.new.list c.args.tree.now c.push_terms-in-Both.new.list c.in-Both.first
    c.in-Both.second
    c.get-in-Both.result.now c.get-in-Both-2.result.now c.in-Both.is c.get-in-Both.ensures c.get-in-Both-2.ensures
    c.in_ok-push_terms-in-Both.ensures c.in_ok-push_terms-in-Both-2.ensures

pub returns-in_ok-push_terms-in-Where : goal.returns-in_ok-push_terms-in-Where
returns-in_ok-push_terms-in-Where t c =
    below_where c.args.list.now c.push_terms-in-Where.new.list c.args.tree.now c.in-Where.field-0 c.in-Where.body
    c.get-in-Where.result.now
    c.in-Where.is c.get-in-Where.ensures c.in_ok-push_terms-in-Where.ensures
