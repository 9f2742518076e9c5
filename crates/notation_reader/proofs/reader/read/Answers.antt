use Rattle.std.proofs.Common.{◌≡◌, ℕ, ◌≤◌, ◌+◌, Option, Some, None, List, length, take, arith, sym, ◌∙◌, subst}
use Rattle.std.proofs.lemmas.List.{take_all}
use Rattle.limits.specs.Limits.{greatest_accesses}
use Rattle.index_notation.specs.declared.syntax.Expr.{Expr}
use Rattle.notation_grammar.specs.declared.symbol.PlacedSymbol.{PlacedSymbol}
use Rattle.notation_grammar.specs.Faults.{symbols_of}
use Rattle.notation_grammar.specs.TreeStatement.{sum_expr}
use Rattle.notation_reader.specs.declared.reader.Reader.{Reader}
use Rattle.notation_reader.specs.Judging.{HasLast}
use Rattle.notation_reader.proofs.ReadingSteps.{HasRead, IsWholeTree, read_first, read_more, read_minuses, fault_found, whole_tree}
use Rattle.notation_reader.proofs.reader.read.Goals as goal

pub loop-placed-init : goal.loop-placed-init
loop-placed-init c = record {
  has_read = read_first c.new-reader.result c.new-reader.ensures.shows;
  levels = omega (arith, c.new-reader.ensures.levels);
  minuses = omega (arith, c.new-reader.ensures.minuses);
  reads = omega (arith, c.new-reader.ensures.reads);
  ends = omega (arith, c.new-reader.ensures.ends);
  built_minuses = omega (arith, c.new-reader.ensures.built_minuses);
}

pub returns-in-Err : goal.returns-in-Err
returns-in-Err c =
    fault_found c.loop-placed.placed-index c.args.symbols.now c.placed-item.result c.loop-placed.reader c.in-Err.fault
    c.loop-placed-test.true c.placed-item.is c.loop-placed.invariant.has_read (rw c.in-Err.is at c.in_ok-next.ensures.taken)

pub loop-placed-preserved : goal.loop-placed-preserved
loop-placed-preserved c =
    let i = c.loop-placed.placed-index in
    let read = read_more i c.args.symbols.now c.placed-item.result c.loop-placed.reader c.in-Ok.next c.loop-placed-test.true
    c.placed-item.is
    c.loop-placed.invariant.has_read (rw c.in-Ok.is at c.in_ok-next.ensures.taken) in
    let minuses : c.in-Ok.next.position.minuses ≤ i + 1 =
    let a = c.loop-placed.invariant.minuses in let b : c.in-Ok.next.position.minuses ≤ c.loop-placed.reader.position.minuses + 1 =
    (rw c.in-Ok.is at c.in_ok-next.ensures.minuses) in omega (arith, a, b) in
    record {
      has_read = read;
      levels = let a = c.loop-placed.invariant.levels in let b : c.in-Ok.next.position.levels ≤ c.loop-placed.reader.position.levels + 1 =
          (rw c.in-Ok.is at c.in_ok-next.ensures.levels) in omega (arith, a, b);
      minuses = minuses;
      reads = let a = c.loop-placed.invariant.reads in let b : c.in-Ok.next.builder.reads ≤ c.loop-placed.reader.builder.reads + 1 =
          (rw c.in-Ok.is at c.in_ok-next.ensures.reads) in omega (arith, a, b);
      ends = let a = c.loop-placed.invariant.ends in let b : c.in-Ok.next.builder.ends ≤ c.loop-placed.reader.builder.ends + 1 =
          (rw c.in-Ok.is at c.in_ok-next.ensures.ends) in omega (arith, a, b);
      built_minuses = let e = read_minuses (symbols_of (take (i + 1) c.args.symbols.now)) c.in-Ok.next read in omega (arith, e, minuses);
    }

-- behind the last symbol
whole : (xs : List PlacedSymbol) (i : ℕ) (r : Reader) → length xs ≤ i → HasLast (symbols_of xs) → HasRead (symbols_of (take i xs)) r
    → IsWholeTree (symbols_of xs) r
whole xs i r h l read =
    whole_tree (symbols_of xs) r l (subst (λ (ps : List PlacedSymbol). HasRead (symbols_of ps) r) (take_all i xs h) read)

expr_is : (o : Option Expr) (e f : Expr) → o ≡ Some f → o ≡ Some e → e ≡ f
expr_is o e f h is = (let both : ◌≡◌ {A = Option Expr} (Some e) (Some f) = sym is ∙ h in cc)

pub unreachable-requires : goal.unreachable-requires
unreachable-requires c =
    let w = whole c.args.symbols.now c.loop-placed.placed-index c.loop-placed.reader c.loop-placed-test.false c.requires
    c.loop-placed.invariant.has_read in
    let both : ◌≡◌ {A = Option Expr} None (Some (sum_expr 0 greatest_accesses w.tree.right)) = sym c.in-None.is ∙ w.expr in cc

pub returns : goal.returns
returns c =
    let w = whole c.args.symbols.now c.loop-placed.placed-index c.loop-placed.reader c.loop-placed-test.false c.requires
    c.loop-placed.invariant.has_read in (
      w.tree,
      w.is_tree,
      record {
        accesses = w.accesses;
        vars = w.vars;
        sums = w.sums;
        expr =
            expr_is c.loop-placed.reader.builder.result c.in-Some.expr (sum_expr 0 greatest_accesses w.tree.right) w.expr c.in-Some.is;
      },
    )
