-- What a draft becomes with a line.
use Rattle.std.specs.Prelude.{◌≡◌, ℕ, zero, suc, ◌≤◌, Bool, false, List, [], ◌∷◌, ◌++◌, codes, length, refl}
use Rattle.std.specs.Char.{is_ascii_lowercase}
use Rattle.std.specs.Fmt.{decimal}
use Rattle.std.specs.List.{list_all}
use Rattle.std.proofs.Common.{◌∙◌, ap, sym, subst, append_assoc, arith, inl, inr}
use Rattle.std.proofs.lemmas.List.{append-nil, length-append}
use Rattle.kernel_code.specs.Semirings.{HasName}
use Rattle.kernel_code.specs.declared.syntax.KExpr.{KExpr}
use Rattle.kernel_code.specs.declared.syntax.KStmt.{KStmt, Set, Combine, Put, AddTo, Push, Extend, Cut, Sort, SortSum, If', While'}
use Rattle.kernel_code.specs.declared.syntax.KernelSemiring.{KernelSemiring}
use Rattle.kernel_code.specs.declared.syntax.LoopKind.{LoopKind}
use Rattle.kernel_code.specs.declared.syntax.KernelSemiring.TheVariants.{Ring, Named}
use Rattle.kernel_print.specs.ArrayNames.{IsWord}
use Rattle.kernel_print.specs.KernelTexts.{AreWords}
use Rattle.kernel_print.specs.Text.{expr_text, head_text, indentation, kernel_text, lists_text, statement_text, statements_text}
use Rattle.kernel_print.specs.Text.{workspaces_text}
use Rattle.kernel_read.specs.Blocks.{BlocksFit, CodeFits, IsEnded, OpeningFits, blocks_text, closed, closing_lines, opening_lines}
use Rattle.kernel_read.specs.Drafts.{DraftFits, IsFront, IsInnermost, block_of}
use Rattle.kernel_read.specs.Drafts.{draft_text, has_sums, kernel_of, opened, with_body}
use Rattle.kernel_read.specs.Heads.{list_line, workspace_line}
use Rattle.kernel_read.specs.Kernels.{HaveFewKeys, IsKnown, IsReadable}
use Rattle.kernel_read.specs.Lines.{LineFits, line_text, opening_text}
use Rattle.kernel_read.specs.Statements.{IsSimple}
use Rattle.kernel_read.specs.declared.blocks.Block.{Block}
use Rattle.kernel_read.specs.declared.blocks.Opening.{Opening}
use Rattle.kernel_read.specs.declared.blocks.Opening.TheVariants as o
use Rattle.kernel_read.specs.declared.drafts.Draft.{Draft}
use Rattle.kernel_read.specs.declared.lines.Line.TheVariants as a
use Rattle.kernel_read.proofs.BlockTexts.{blocks_fit, blocks_more, blocks_push, closed_fits, closed_text, deep_blanks, depth_is, last_fits}
use Rattle.kernel_read.proofs.BlockTexts.{nothing_fits, push_fits, simple_fits}
use Rattle.kernel_read.proofs.Bodies.{inner_depth}
use Rattle.kernel_read.proofs.Fronts.{number_behind, number_is}

-- a draft with more of its body has more of its text
more_body : (d : Draft) (outer : List Block) (code : List KStmt) (line : List ℕ)
    → blocks_text 1 outer code ≡ blocks_text 1 d.outer d.code ++ line → draft_text (with_body d outer code) ≡ draft_text d ++ line
more_body d outer code line same =
    ap (λ (t : List ℕ). workspaces_text 0 d.workspaces ++ (lists_text 0 d.lists ++ t)) same
    ∙ pieces (workspaces_text 0 d.workspaces) (lists_text 0 d.lists) (blocks_text 1 d.outer d.code) line
  where
    pieces : (w l b line : List ℕ) → w ++ (l ++ (b ++ line)) ≡ (w ++ (l ++ b)) ++ line
    pieces w l b line = simp append_assoc

body_fits : (d : Draft) (outer : List Block) (code : List KStmt) → DraftFits d → BlocksFit (has_sums d.semiring) outer
    → CodeFits (has_sums d.semiring) code → DraftFits (with_body d outer code)
body_fits d outer code fits outer_fits code_fits = record {
  known = fits.known;
  keys = fits.keys;
  few = fits.few;
  workspaces = fits.workspaces;
  lists = fits.lists;
  outer = outer_fits;
  code = code_fits;
}

-- such a draft goes on from another with a line
abbrev pub GoesOn : Draft → Draft → List ℕ → Type 0
GoesOn d next line = DraftFits next × (draft_text next ≡ draft_text d ++ line)

simple_text : (combines : Bool) (s : KStmt) (depth : ℕ) → IsSimple combines s → statement_text depth s ≡ statement_text 0 s
simple_text combines (Set x e) depth fits = refl
simple_text combines (Combine x op e f) depth fits = refl
simple_text combines (Put x i e) depth fits = refl
simple_text combines (AddTo x i e) depth fits = refl
simple_text combines (Push x e) depth fits = refl
simple_text combines (Extend x n e) depth fits = refl
simple_text combines (Cut x e) depth fits = refl
simple_text combines (Sort g) depth fits = refl
simple_text combines (SortSum w) depth fits = refl
simple_text combines (If' e p first q second) depth fits = absurd fits
simple_text combines (While' k e p body) depth fits = absurd fits

one_deep : (outer : List Block) → inner_depth 1 outer ≡ suc (length outer)
one_deep outer = let is = depth_is outer 1 in omega (arith, is)

-- a line of the innermost block, behind its blanks
in_block : (outer : List Block) (text : List ℕ)
    → indentation (inner_depth 1 outer) ++ text ≡ indentation (length outer) ++ (codes "  " ++ text)
in_block outer text =
    ap (λ (n : ℕ). indentation n ++ text) (one_deep outer) ∙ deep_blanks (length outer) text

pub with_statement : (d : Draft) (s : KStmt) → DraftFits d → IsSimple (has_sums d.semiring) s
    → GoesOn d (with_body d d.outer (d.code ++ (s ∷ []))) (line_text (length d.outer) (a.Whole s))
with_statement d s fits simple =
    let depth = inner_depth 1 d.outer in (
      body_fits d d.outer (d.code ++ (s ∷ [])) fits fits.outer (push_fits (has_sums d.semiring) d.code s fits.code
          (simple_fits (has_sums d.semiring) s simple)),
      more_body d d.outer (d.code ++ (s ∷ [])) (line_text (length d.outer) (a.Whole s))
          (blocks_push d.outer d.code s 1
          ∙ ap (λ (t : List ℕ). blocks_text 1 d.outer d.code ++ (indentation depth ++ t)) (simple_text (has_sums d.semiring) s depth simple)
          ∙ ap (λ (t : List ℕ). blocks_text 1 d.outer d.code ++ t) (in_block d.outer (statement_text 0 s))),
    )

with_block : (d : Draft) (opening : Opening) (line : List ℕ) → DraftFits d → OpeningFits (has_sums d.semiring) opening
    → opening_lines (inner_depth 1 d.outer) opening ≡ line
    → GoesOn d (opened d opening) (indentation (length d.outer) ++ (codes "  " ++ line))
with_block d opening line fits words same =
    let depth = inner_depth 1 d.outer in
    let outer : List Block = d.outer ++ (block_of d.code opening ∷ []) in (
      body_fits d outer [] fits (blocks_fit (has_sums d.semiring) d.outer (block_of d.code opening) fits.outer fits.code words)
          (nothing_fits (has_sums d.semiring)),
      more_body d outer [] (indentation (length d.outer) ++ (codes "  " ++ line))
          (blocks_more d.outer (block_of d.code opening) [] 1
          ∙ ap (λ (t : List ℕ). blocks_text 1 d.outer d.code ++ (indentation depth ++ t)) (append-nil (opening_lines depth opening) ∙ same)
          ∙ ap (λ (t : List ℕ). blocks_text 1 d.outer d.code ++ t) (in_block d.outer line)),
    )

pub with_loop : (d : Draft) (k : LoopKind) (e : KExpr) → DraftFits d → LineFits (has_sums d.semiring) (a.While k e)
    → GoesOn d (opened d (o.Loop k e)) (line_text (length d.outer) (a.While k e))
with_loop d k e fits words = with_block d (o.Loop k e) (opening_text (a.While k e)) fits words refl

pub with_if : (d : Draft) (e : KExpr) → DraftFits d → LineFits (has_sums d.semiring) (a.If e)
    → GoesOn d (opened d (o.Then e)) (line_text (length d.outer) (a.If e))
with_if d e fits words = with_block d (o.Then e) (opening_text (a.If e)) fits words refl

-- one block around others is open
around_deep : (around : List Block) (b : Block) → length (around ++ (b ∷ [])) ≡ inner_depth 1 around
around_deep around b =
    let whole = length-append around (b ∷ []) in
    let is = depth_is around 1 in
    let one : length (b ∷ []) ≡ 1 = refl in
    omega (arith, whole, is, one)

second_pieces : (b i e s c : List ℕ)
    → b ++ (i ++ ((codes "if " ++ (e ++ (codes " {\n" ++ (s ++ (i ++ c))))) ++ []))
    ≡ (b ++ (i ++ ((codes "if " ++ (e ++ codes " {\n")) ++ s))) ++ (i ++ c)
second_pieces b i e s c = simp (append_assoc, append-nil)

fits_at : (combines : Bool) (d : Draft) (around : List Block) (b : Block) → IsInnermost d around b → BlocksFit combines d.outer
    → BlocksFit combines around × (CodeFits combines b.before × OpeningFits combines b.opening)
fits_at combines d around b is fits = last_fits combines around b (subst (BlocksFit combines) is fits)

blocks_at : (d : Draft) (around : List Block) (b : Block) → IsInnermost d around b
    → blocks_text 1 d.outer d.code ≡ blocks_text 1 around b.before
    ++ (indentation (inner_depth 1 around) ++ (opening_lines (inner_depth 1 around) b.opening
    ++ statements_text (suc (inner_depth 1 around)) d.code))
blocks_at d around b is = ap (λ (x : List Block). blocks_text 1 x d.code) is ∙ blocks_more around b d.code 1

pub with_second : (d : Draft) (around : List Block) (before : List KStmt) (e : KExpr) → DraftFits d
    → IsInnermost d around (block_of before (o.Then e))
    → GoesOn d (with_body d (around ++ (block_of before (o.Second e d.code) ∷ [])) []) (line_text (length d.outer) a.Else)
with_second d around before e fits is =
    let combines = has_sums d.semiring in
    let parts = fits_at combines d around (block_of before (o.Then e)) is fits.outer in
    let depth = inner_depth 1 around in
    let outer : List Block = around ++ (block_of before (o.Second e d.code) ∷ []) in
    let deep : depth ≡ length d.outer = sym (ap length is ∙ around_deep around (block_of before (o.Then e))) in (
      body_fits d outer [] fits
          (blocks_fit combines around (block_of before (o.Second e d.code)) parts.0 parts.1.0 (parts.1.1, fits.code))
          (nothing_fits combines),
      more_body d outer [] (line_text (length d.outer) a.Else)
          (blocks_more around (block_of before (o.Second e d.code)) [] 1
          ∙ second_pieces (blocks_text 1 around before) (indentation depth) (expr_text e) (statements_text (suc depth) d.code)
          (codes "} else {\n")
          ∙ ap (λ (t : List ℕ). t ++ (indentation depth ++ codes "} else {\n")) (sym (blocks_at d around (block_of before (o.Then e)) is))
          ∙ ap (λ (n : ℕ). blocks_text 1 d.outer d.code ++ (indentation n ++ codes "} else {\n")) deep),
    )

end_pieces : (b i h s c : List ℕ) → b ++ (i ++ (h ++ (s ++ (i ++ c)))) ≡ (b ++ (i ++ (h ++ s))) ++ (i ++ c)
end_pieces b i h s c = simp append_assoc

closing_is : (opening : Opening) (depth : ℕ) → IsEnded opening → closing_lines depth opening ≡ codes "}\n"
closing_is (o.Loop k e) depth ended = refl
closing_is (o.Then e) depth ended = absurd ended
closing_is (o.Second e first) depth ended = refl

pub with_end : (d : Draft) (around : List Block) (b : Block) → DraftFits d → IsInnermost d around b → IsEnded b.opening
    → GoesOn d (with_body d around (b.before ++ (closed b.opening d.code ∷ []))) (line_text (length d.outer) a.Close)
with_end d around b fits is ended =
    let combines = has_sums d.semiring in
    let parts = fits_at combines d around b is fits.outer in
    let depth = inner_depth 1 around in
    let s = closed b.opening d.code in
    let deep : depth ≡ length d.outer = sym (ap length is ∙ around_deep around b) in (
      body_fits d around (b.before ++ (s ∷ [])) fits parts.0
          (push_fits combines b.before s parts.1.0 (closed_fits combines b.opening d.code parts.1.1 fits.code)),
      more_body d around (b.before ++ (s ∷ [])) (line_text (length d.outer) a.Close)
          (blocks_push around b.before s 1
          ∙ ap (λ (t : List ℕ). blocks_text 1 around b.before ++ (indentation depth ++ t)) (closed_text b.opening d.code depth)
          ∙ end_pieces (blocks_text 1 around b.before) (indentation depth) (opening_lines depth b.opening)
          (statements_text (suc depth) d.code) (closing_lines depth b.opening)
          ∙ ap (λ (t : List ℕ). (blocks_text 1 around b.before ++ (indentation depth ++ (opening_lines depth b.opening
          ++ statements_text (suc depth) d.code))) ++ (indentation depth ++ t)) (closing_is b.opening depth ended)
          ∙ ap (λ (t : List ℕ). t ++ (indentation depth ++ codes "}\n")) (sym (blocks_at d around b is))
          ∙ ap (λ (n : ℕ). blocks_text 1 d.outer d.code ++ (indentation n ++ codes "}\n")) deep),
    )

-- the whole kernel
name_fits : (semiring : KernelSemiring) → IsKnown semiring → HasName semiring
name_fits Ring known = tt
name_fits (Named name) (inl known) = record { some = λ none. some (sym known ∙ none); letters = ap (list_all is_ascii_lowercase) known }
  where
    some : codes "minplus" ≡ [] → ⊥
    some none = cc
name_fits (Named name) (inr known) = record { some = λ none. some (sym known ∙ none); letters = ap (list_all is_ascii_lowercase) known }
  where
    some : codes "bits" ≡ [] → ⊥
    some none = cc

ring_has_none : (semiring : KernelSemiring) → semiring ≡ Ring → has_sums semiring ≡ false
ring_has_none semiring same = ap has_sums same

pub kernel_fits : (semiring : KernelSemiring) (workspaces : List ℕ) (lists : ℕ) (code : List KStmt) → IsKnown semiring
    → AreWords workspaces → HaveFewKeys workspaces → IsWord (length workspaces) → IsWord lists → CodeFits (has_sums semiring) code
    → IsReadable (record { semiring = semiring; workspaces = workspaces; lists = lists; body = code })
kernel_fits semiring workspaces lists code known keys few many word fits = record {
  words = record { semiring = name_fits semiring known; keys = keys; workspaces = many; lists = word; body = fits.0 };
  known = known;
  keys = few;
  formed = record { named = name_fits semiring known; words = λ ring. fits.1 (ring_has_none semiring ring) };
}

pub with_all : (d : Draft) → DraftFits d → d.outer ≡ []
    → IsReadable (kernel_of d) × (kernel_text (kernel_of d) ≡ head_text d.semiring ++ (draft_text d ++ line_text (length d.outer) a.Close))
with_all d fits none = (
  kernel_fits d.semiring d.workspaces d.lists d.code fits.known fits.keys fits.few fits.workspaces fits.lists fits.code,
  ap (λ (t : List ℕ). head_text d.semiring ++ t)
      (pieces (workspaces_text 0 d.workspaces) (lists_text 0 d.lists) (statements_text 1 d.code)
      ∙ ap (λ (x : List Block). (workspaces_text 0 d.workspaces ++ (lists_text 0 d.lists ++ blocks_text 1 x d.code))
      ++ (indentation (length x) ++ codes "}\n")) (sym none)),
)
  where
    pieces : (w l b : List ℕ) → w ++ (l ++ (b ++ codes "}\n")) ≡ (w ++ (l ++ b)) ++ codes "}\n"
    pieces w l b = simp append_assoc

-- a line in front of the body
workspaces_push : (ws : List ℕ) (keys first : ℕ)
    → workspaces_text first (ws ++ (keys ∷ [])) ≡ workspaces_text first ws ++ workspace_line (number_behind first (length ws)) keys
workspaces_push [] keys first = refl
workspaces_push (k ∷ ws) keys first =
    ap (λ (t : List ℕ). codes "  workspace w" ++ (decimal first ++ (codes " " ++ (decimal k ++ (codes ";\n" ++ t)))))
    (workspaces_push ws keys (suc first))
    ∙ pieces (decimal first) (decimal k) (workspaces_text (suc first) ws)
    (workspace_line (number_behind (suc first) (length ws)) keys)
  where
    pieces : (n k r line : List ℕ)
        → codes "  workspace w" ++ (n ++ (codes " " ++ (k ++ (codes ";\n" ++ (r ++ line)))))
        ≡ (codes "  workspace w" ++ (n ++ (codes " " ++ (k ++ (codes ";\n" ++ r))))) ++ line
    pieces n k r line = simp append_assoc

lists_push : (n first : ℕ) → lists_text first (suc n) ≡ lists_text first n ++ list_line (number_behind first n)
lists_push zero first = refl
lists_push (suc n) first =
    ap (λ (t : List ℕ). codes "  scratch g" ++ (decimal first ++ (codes ";\n" ++ t))) (lists_push n (suc first))
    ∙ pieces (decimal first) (lists_text (suc first) n) (list_line (number_behind (suc first) n))
  where
    pieces : (n r line : List ℕ)
        → codes "  scratch g" ++ (n ++ (codes ";\n" ++ (r ++ line))) ≡ (codes "  scratch g" ++ (n ++ (codes ";\n" ++ r))) ++ line
    pieces n r line = simp append_assoc

few_push : (ws : List ℕ) (keys : ℕ) → HaveFewKeys ws → keys ≤ 6 → HaveFewKeys (ws ++ (keys ∷ []))
few_push [] keys few one = (one, tt)
few_push (k ∷ ws) keys few one = (few.0, few_push ws keys few.1 one)

words_push : (ws : List ℕ) (keys : ℕ) → AreWords ws → IsWord keys → AreWords (ws ++ (keys ∷ []))
words_push [] keys words one = (one, tt)
words_push (k ∷ ws) keys words one = (words.0, words_push ws keys words.1 one)

pub from_zero : (n : ℕ) → number_behind 0 n ≡ n
from_zero n = let is = number_is n 0 in omega (arith, is)

abbrev pub with_workspaces : Draft → List ℕ → Draft
with_workspaces d ws = record { semiring = d.semiring; workspaces = ws; lists = d.lists; outer = d.outer; code = d.code }

abbrev pub with_lists : Draft → ℕ → Draft
with_lists d lists =
    record { semiring = d.semiring; workspaces = d.workspaces; lists = lists; outer = d.outer; code = d.code }

-- the text of a front
front_text : (ws : List ℕ) (lists : ℕ) (outer : List Block) (code : List KStmt) → outer ≡ [] → code ≡ []
    → workspaces_text 0 ws ++ (lists_text 0 lists ++ blocks_text 1 outer code) ≡ workspaces_text 0 ws ++ lists_text 0 lists
front_text ws lists outer code none none' =
    ap (λ (x : List Block). workspaces_text 0 ws ++ (lists_text 0 lists ++ blocks_text 1 x code)) none
    ∙ ap (λ (x : List KStmt). workspaces_text 0 ws ++ (lists_text 0 lists ++ statements_text 1 x)) none'
    ∙ ap (λ (t : List ℕ). workspaces_text 0 ws ++ t) (append-nil (lists_text 0 lists))

workspaces_only : (ws : List ℕ) (lists : ℕ) → lists ≡ 0 → workspaces_text 0 ws ++ lists_text 0 lists ≡ workspaces_text 0 ws
workspaces_only ws lists none =
    ap (λ (n : ℕ). workspaces_text 0 ws ++ lists_text 0 n) none ∙ append-nil (workspaces_text 0 ws)

pub with_workspace : (d : Draft) (keys : ℕ) → DraftFits d → IsFront d → d.lists ≡ 0 → IsWord (suc (length d.workspaces)) → IsWord keys
    → keys ≤ 6 → GoesOn d (with_workspaces d (d.workspaces ++ (keys ∷ []))) (workspace_line (length d.workspaces) keys)
with_workspace d keys fits front none many word few =
    let more : List ℕ = d.workspaces ++ (keys ∷ []) in
    let counted = length-append d.workspaces (keys ∷ []) in
    let one : length (keys ∷ []) ≡ 1 = refl in
    let is : length more ≡ suc (length d.workspaces) = omega (arith, counted, one) in (
      record {
        known = fits.known;
        keys = words_push d.workspaces keys fits.keys word;
        few = few_push d.workspaces keys fits.few few;
        workspaces = subst IsWord (sym is) many;
        lists = fits.lists;
        outer = fits.outer;
        code = fits.code;
      },
      front_text more d.lists d.outer d.code front.0 front.1 ∙ workspaces_only more d.lists none ∙ workspaces_push d.workspaces keys 0
          ∙ ap (λ (n : ℕ). workspaces_text 0 d.workspaces ++ workspace_line n keys) (from_zero (length d.workspaces))
          ∙ ap (λ (t : List ℕ). t ++ workspace_line (length d.workspaces) keys)
          (sym (front_text d.workspaces d.lists d.outer d.code front.0 front.1 ∙ workspaces_only d.workspaces d.lists none)),
    )

pub with_list : (d : Draft) (lists : ℕ) → DraftFits d → IsFront d → lists ≡ suc d.lists → IsWord lists
    → GoesOn d (with_lists d lists) (list_line d.lists)
with_list d lists fits front told word = (
  record {
    known = fits.known;
    keys = fits.keys;
    few = fits.few;
    workspaces = fits.workspaces;
    lists = word;
    outer = fits.outer;
    code = fits.code;
  },
  front_text d.workspaces lists d.outer d.code front.0 front.1
      ∙ ap (λ (n : ℕ). workspaces_text 0 d.workspaces ++ lists_text 0 n) told
      ∙ ap (λ (t : List ℕ). workspaces_text 0 d.workspaces ++ t) (lists_push d.lists 0)
      ∙ ap (λ (n : ℕ). workspaces_text 0 d.workspaces ++ (lists_text 0 d.lists ++ list_line n)) (from_zero d.lists)
      ∙ sym (append_assoc (workspaces_text 0 d.workspaces) (lists_text 0 d.lists) (list_line d.lists))
      ∙ ap (λ (t : List ℕ). t ++ list_line d.lists) (sym (front_text d.workspaces d.lists d.outer d.code front.0 front.1)),
)
