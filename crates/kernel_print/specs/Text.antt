-- The text of a kernel, by cases on its syntax.
use Rattle.std.specs.Prelude.{ℕ, zero, suc, codes, List, [], ◌∷◌, ◌++◌}
use Rattle.std.specs.Fmt.{decimal}
use Rattle.kernel_code.specs.declared.syntax.Arr.{Arr}
use Rattle.kernel_code.specs.declared.syntax.Arr.TheVariants as array
use Rattle.kernel_code.specs.declared.syntax.LoopKind.{LoopKind}
use Rattle.kernel_code.specs.declared.syntax.LoopKind.TheVariants as kind
use Rattle.kernel_code.specs.declared.syntax.Op.{Op}
use Rattle.kernel_code.specs.declared.syntax.Op.TheVariants as op
use Rattle.kernel_code.specs.declared.syntax.ValueOp.{ValueOp}
use Rattle.kernel_code.specs.declared.syntax.ValueOp.TheVariants as value_op
use Rattle.kernel_code.specs.declared.syntax.KExpr.{KExpr, Num, Var, At', Len}
use Rattle.kernel_code.specs.declared.syntax.KExpr.{Bin', Min', Width', Row_of-KExpr, end_of-KExpr, more_of-KExpr}
use Rattle.kernel_code.specs.declared.syntax.KStmt.{KStmt, Set, Combine, Put, AddTo, Push}
use Rattle.kernel_code.specs.declared.syntax.KStmt.{Extend, Cut, Sort, SortSum, If', While'}
use Rattle.kernel_code.specs.declared.syntax.KStmt.{Row_of-KStmt, end_of-KStmt, more_of-KStmt}
use Rattle.kernel_code.specs.declared.syntax.Kernel.{Kernel}
use Rattle.kernel_code.specs.declared.syntax.KernelSemiring.{KernelSemiring}
use Rattle.kernel_code.specs.declared.syntax.KernelSemiring.TheVariants.{Ring, Named}
use Rattle.kernel_print.specs.declared.indents.Indent.{Indent, Margin, Within'}

-- the name of an array: T0 is the result, levels count from 1 and keys from 0
abbrev pub array_text : Arr → List ℕ
array_text array.Range = codes "range"
array_text (array.Values n) = codes "T" ++ (decimal n ++ codes "_val")
array_text (array.Dimension n level) =
    codes "T" ++ (decimal n ++ (codes "_" ++ (decimal level ++ codes "_dim")))
array_text (array.Ends n level) = codes "T" ++ (decimal n ++ (codes "_" ++ (decimal level ++ codes "_pos")))
array_text (array.Coordinates n level) =
    codes "T" ++ (decimal n ++ (codes "_" ++ (decimal level ++ codes "_crd")))
array_text (array.Width n level) = codes "T" ++ (decimal n ++ (codes "_" ++ (decimal level ++ codes "_wid")))
array_text (array.Key n key) = codes "w" ++ (decimal n ++ (codes "_key" ++ decimal key))
array_text (array.Sums n) = codes "w" ++ (decimal n ++ codes "_val")
array_text (array.ListCoordinates n) = codes "g" ++ (decimal n ++ codes "_crd")
array_text (array.ListPositions n) = codes "g" ++ (decimal n ++ codes "_pos")

-- an operator of two words, with the blanks around it
abbrev pub operator_text : Op → List ℕ
operator_text op.Add = codes " + "
operator_text op.Sub = codes " - "
operator_text op.Mul = codes " * "
operator_text op.BitAnd = codes " & "
operator_text op.Less = codes " < "
operator_text op.Equal = codes " == "
operator_text op.NotEqual = codes " != "
operator_text op.And = codes " && "
operator_text op.Or = codes " || "

abbrev mutual
  -- an expression; that of two operands stands in brackets
  pub expr_text : KExpr → List ℕ
  expr_text (Num n) = decimal n
  expr_text (Var x) = codes "x" ++ decimal x
  expr_text (At' a p i) = array_text a ++ (codes "[" ++ (boxed_text i ++ codes "]"))
  expr_text (Len a) = codes "len(" ++ (array_text a ++ codes ")")
  expr_text (Bin' o p a q b) = codes "(" ++ (boxed_text a ++ (operator_text o ++ (boxed_text b ++ codes ")")))
  expr_text (Min' p a q b) = codes "min(" ++ (boxed_text a ++ (codes ", " ++ (boxed_text b ++ codes ")")))
  expr_text (Width' p e) = codes "width(" ++ (boxed_text e ++ codes ")")

  -- the one expression in a box
  pub boxed_text : {m : _} → Row_of-KExpr m → List ℕ
  boxed_text end_of-KExpr = []
  boxed_text (more_of-KExpr e rest) = expr_text e

-- two blanks for each bracket that is open
abbrev pub indentation : ℕ → List ℕ
indentation zero = []
indentation (suc depth) = codes "  " ++ indentation depth

-- how many brackets are open
abbrev pub depth_of : Indent → ℕ
depth_of Margin = 0
depth_of (Within' p outer) = suc (depth_of outer)

-- the word that tells what a loop is for
abbrev pub kind_text : LoopKind → List ℕ
kind_text kind.Merge = codes "merge"
kind_text kind.Skip = codes "skip"
kind_text kind.Gather = codes "gather"
kind_text kind.Drain = codes "drain"
kind_text kind.Probe = codes "probe"

-- what stands between a variable and the first of two values that give it its value
abbrev pub combining_text : ValueOp → List ℕ
combining_text value_op.Plus = codes " = plus("
combining_text value_op.Times = codes " = times("

abbrev mutual
  -- a statement within so many brackets, but for the indentation of its first line
  pub statement_text : ℕ → KStmt → List ℕ
  statement_text depth (Set x e) = codes "x" ++ (decimal x ++ (codes " = " ++ (expr_text e ++ codes ";\n")))
  statement_text depth (Combine x o e f) =
      codes "x" ++ (decimal x ++ (combining_text o ++ (expr_text e ++ (codes ", " ++ (expr_text f ++ codes ");\n")))))
  statement_text depth (Put a i e) =
      array_text a ++ (codes "[" ++ (expr_text i ++ (codes "] = " ++ (expr_text e ++ codes ";\n"))))
  statement_text depth (AddTo a i e) =
      array_text a ++ (codes "[" ++ (expr_text i ++ (codes "] += " ++ (expr_text e ++ codes ";\n"))))
  statement_text depth (Push a e) =
      codes "push(" ++ (array_text a ++ (codes ", " ++ (expr_text e ++ codes ");\n")))
  statement_text depth (Extend a count e) =
      codes "extend(" ++ (array_text a ++ (codes ", " ++ (expr_text count ++ (codes ", "
      ++ (expr_text e ++ codes ");\n")))))
  statement_text depth (Cut a e) =
      codes "cut(" ++ (array_text a ++ (codes ", " ++ (expr_text e ++ codes ");\n")))
  statement_text depth (Sort g) = codes "sort(g" ++ (decimal g ++ codes ");\n")
  statement_text depth (SortSum w) = codes "sort_sum(w" ++ (decimal w ++ codes ");\n")
  statement_text depth (If' e p first q second) =
      codes "if " ++ (expr_text e ++ (codes " {\n" ++ (row_text (suc depth) first ++ (indentation depth
      ++ (codes "} else {\n" ++ (row_text (suc depth) second ++ (indentation depth ++ codes "}\n")))))))
  statement_text depth (While' k e p body) =
      codes "while " ++ (kind_text k ++ (codes " " ++ (expr_text e ++ (codes " {\n"
      ++ (row_text (suc depth) body ++ (indentation depth ++ codes "}\n"))))))

  -- the statements of a list inside a statement
  pub row_text : {m : _} → ℕ → Row_of-KStmt m → List ℕ
  row_text depth end_of-KStmt = []
  row_text depth (more_of-KStmt s rest) = indentation depth ++ (statement_text depth s ++ row_text depth rest)

-- the statements of a list, each on lines of its own
abbrev pub statements_text : ℕ → List KStmt → List ℕ
statements_text depth [] = []
statements_text depth (s ∷ rest) = indentation depth ++ (statement_text depth s ++ statements_text depth rest)

-- a line for each workspace, of which the first has this number, with its number of keys
abbrev pub workspaces_text : ℕ → List ℕ → List ℕ
workspaces_text n [] = []
workspaces_text n (keys ∷ rest) =
    codes "  workspace w" ++ (decimal n ++ (codes " " ++ (decimal keys
    ++ (codes ";\n" ++ workspaces_text (suc n) rest))))

-- a line for each of so many scratch lists, of which the first has this number
abbrev pub lists_text : ℕ → ℕ → List ℕ
lists_text n zero = []
lists_text n (suc more) = codes "  scratch g" ++ (decimal n ++ (codes ";\n" ++ lists_text (suc n) more))

-- the first line of a kernel, which names its semiring, but for the ring
abbrev pub head_text : KernelSemiring → List ℕ
head_text Ring = codes "kernel {\n"
head_text (Named name) = codes "kernel " ++ (name ++ codes " {\n")

-- a kernel: its first line, its workspaces, its scratch lists and its body
abbrev pub kernel_text : Kernel → List ℕ
kernel_text kernel =
    head_text kernel.semiring ++ (workspaces_text 0 kernel.workspaces ++ (lists_text 0 kernel.lists
    ++ (statements_text 1 kernel.body ++ codes "}\n")))
