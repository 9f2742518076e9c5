-- The operands that are read one after another, and the files that were opened for them.
use Rattle.std.proofs.Common.{◌≡◌, ℕ, zero, suc, ◌+◌, ◌<◌, List, [], ◌∷◌, ◌++◌, length, map, take, Some, refl, sym, ap, ◌∙◌, subst}
use Rattle.std.proofs.Common.{arith, inl, inr, append_assoc, append-nil, length-append}
use Rattle.std.proofs.lemmas.List.{length-map}
use Rattle.std.proofs.lemmas.Option.{slice_get-get_or}
use Rattle.std.specs.Prelude.{slice_get, slice_index_or}
use Rattle.outside.specs.Folder.{FolderState}
use Rattle.outside.specs.Told.{Told}
use Rattle.outside.proofs.Feeding.{writing_stays, writing_kept}
use Rattle.tensor_map.specs.Entries.{Entries}
use Rattle.expr_terms.specs.declared.bound.Bound.{Bound}
use Rattle.bindings.specs.Tables.{paths_in}
use Rattle.bindings.specs.declared.tensor_file.TensorFile.{TensorFile}
use Rattle.operand_files.specs.Decoded.{Operand, IsReadable, AreReadable}
use Rattle.operand_files.specs.Reads.{Decoding, Given, OnlyReads, CountsNothing, NoReadFails, IsOperand, AreOperands, paths_of, AreRead}
use Rattle.operand_files.specs.Reads.{HaveRead, IsNext, IsReadFault, IsOpening, MayOpen, OpensFirst}
use Rattle.operand_files.specs.Reads.{ReadsOperand, FileRefused, IsRefused, RefusedAtFault, RefusedAtLength, RefusedAtLine}
use Rattle.operand_files.specs.declared.fault.OperandFault.{OperandFault}
use Rattle.operand_files.specs.declared.fault.OperandFault.TheVariants.{ReadFault, FileBytes, BadFile, Memory}

pub only_reads_same : (files : FolderState) → OnlyReads files files
only_reads_same files = record { keeps_writing = writing_stays files; read_faults_grow = omega arith; wants_grow = omega arith }

pub only_reads_trans : (old mid new : FolderState) → OnlyReads old mid → OnlyReads mid new → OnlyReads old new
only_reads_trans old mid new a b = record {
  keeps_writing = writing_kept a.keeps_writing b.keeps_writing;
  read_faults_grow = omega (arith, a.read_faults_grow, b.read_faults_grow);
  wants_grow = omega (arith, a.wants_grow, b.wants_grow);
}

quiet_trans : (old mid new : FolderState) → CountsNothing old mid → CountsNothing mid new → CountsNothing old new
quiet_trans old mid new a b =
    record {
      read_faults_are = b.read_faults_are ∙ a.read_faults_are;
      faulted_is = b.faulted_is ∙ a.faulted_is;
      wants_are = b.wants_are ∙
          a.wants_are;
    }

mapped_at : {A B : Type 0} (f : A → B) (xs : List A) (n : ℕ) (x : A) → slice_get xs n ≡ Some x → slice_get (map f xs) n ≡ Some (f x)
mapped_at f [] n x is = absurd (cc)
mapped_at f (y ∷ xs) zero x is = let same : y ≡ x = cc in ap (λ v. Some (f v)) same
mapped_at f (y ∷ xs) (suc n) x is = mapped_at f xs n x is

no_fails_trans : (old mid new : FolderState) → CountsNothing old mid → NoReadFails mid new → NoReadFails old new
no_fails_trans old mid new a b = record {
  read_faults_are = b.read_faults_are ∙ a.read_faults_are;
  faulted_is = b.faulted_is ∙
      a.faulted_is;
}

-- each path has its order
pub order_there : (orders : List ℕ) (paths : List (List ℕ)) (n : ℕ) → AreReadable orders paths → n < length paths → n < length orders
order_there [] [] n are h = h
order_there [] (path ∷ paths) n are h = absurd are
order_there (order ∷ orders) [] n are h = absurd are
order_there (order ∷ orders) (path ∷ paths) zero are h = omega arith
order_there (order ∷ orders) (path ∷ paths) (suc n) are h = let rest : n < length orders = order_there orders paths n are.1
    (omega arith) in omega arith

pub readable_at : (orders : List ℕ) (paths : List (List ℕ)) (n order : ℕ) (path : List ℕ) → AreReadable orders paths
    → slice_get orders n ≡ Some order → slice_get paths n ≡ Some path → IsReadable order path
readable_at [] paths n order path are o p = absurd (cc)
readable_at (first ∷ orders) [] n order path are o p = absurd (cc)
readable_at (first ∷ orders) (at ∷ paths) zero order path are o p =
    let same : first ≡ order = cc in
    let is : at ≡ path = cc in
    subst (λ x. IsReadable order x) is (subst (λ x. IsReadable x at) same are.0)
readable_at (first ∷ orders) (at ∷ paths) (suc n) order path are o p = readable_at orders paths n order path are.1 o p

-- the order and the path of one operand, as they are read
pub record IsRow (orders : List ℕ) (paths : List (List ℕ)) (n order : ℕ) (path : List ℕ) : Type 0 where
  pub order_at : slice_get orders n ≡ Some order
  pub path_at : slice_get paths n ≡ Some path
  pub readable : IsReadable order path

pub row_at : (orders : List ℕ) (files : List TensorFile) (n : ℕ) (file : TensorFile) → AreReadable orders (paths_in files)
    → n < length files → file ≡ slice_index_or files n file
    → IsRow orders (paths_in files) n (slice_index_or orders n 0) file.path.now
row_at orders files n file are h is =
    let path : TensorFile → List ℕ = λ f. f.path.now in
    let below : n < length (paths_in files) = omega (arith, h, length-map files path) in
    let o = slice_get-get_or orders n 0 (order_there orders (paths_in files) n are below) in
    let p = mapped_at path files n file (slice_get-get_or files n file h ∙ ap Some (sym is)) in
    record { order_at = o; path_at = p; readable = readable_at orders (paths_in files) n _ _ are o p }

paths-append : (files more : List Given) → paths_of (files ++ more) ≡ paths_of files ++ paths_of more
paths-append [] more = refl
paths-append (file ∷ files) more = ap (λ w. file.0 ∷ w) (paths-append files more)

pub map_push : {A B : Type 0} (f : A → B) (xs : List A) (x : A) → map f (xs ++ x ∷ []) ≡ map f xs ++ f x ∷ []
map_push f [] x = refl
map_push f (y ∷ xs) x = ap (λ w. f y ∷ w) (map_push f xs x)

take_next : (paths : List (List ℕ)) (n : ℕ) (path : List ℕ) → slice_get paths n ≡ Some path → take n paths ++ path ∷ [] ≡ take (suc n) paths
take_next [] n path is = absurd (cc)
take_next (first ∷ paths) zero path is = let same : first ≡ path = cc in ap (λ p. p ∷ []) (sym same)
take_next (first ∷ paths) (suc n) path is = ap (λ w. first ∷ w) (take_next paths n path is)

-- there are as many operands as files
pub as_many : (means : Decoding) (holds : List ℕ → Told) (orders : List ℕ) (operands : List Operand) (files : List Given)
    → AreOperands means holds orders operands files → length operands ≡ length files
as_many means holds orders [] [] are = refl
as_many means holds orders [] (file ∷ files) are = absurd are
as_many means holds orders (operand ∷ operands) [] are = absurd are
as_many means holds [] (operand ∷ operands) (file ∷ files) are = absurd are
as_many means holds (order ∷ orders) (operand ∷ operands) (file ∷ files) are = ap suc (as_many means holds orders operands files are.1)

-- one operand more
operands_more : (means : Decoding) (holds : List ℕ → Told) (orders : List ℕ) (operands : List Operand) (files : List Given) (order : ℕ)
    (operand : Operand) (path bytes : List ℕ)
    → AreOperands means holds orders operands files → slice_get orders (length operands) ≡ Some order
    → IsOperand means order (holds path) path bytes operand
    → AreOperands means holds orders (operands ++ operand ∷ []) (files ++ (path, bytes) ∷ [])
operands_more means holds [] [] [] order operand path bytes are next is = absurd (cc)
operands_more means holds (first ∷ orders) [] [] order operand path bytes are next is =
    let same : order ≡ first = cc in (subst (λ x. IsOperand means x (holds path) path bytes operand) same is, tt)
operands_more means holds orders [] (file ∷ files) order operand path bytes are next is = absurd are
operands_more means holds orders (other ∷ operands) [] order operand path bytes are next is = absurd are
operands_more means holds [] (other ∷ operands) (file ∷ files) order operand path bytes are next is = absurd are
operands_more means holds (first ∷ orders) (other ∷ operands) (file ∷ files) order operand path bytes are next is =
    (are.0, operands_more means holds orders operands files order operand path bytes are.1 next is)

given_then : (old mid new : FolderState) (files last : List Given) → mid.given ≡ old.given ++ (files ++ [])
    → new.given ≡ mid.given ++ last → new.given ≡ old.given ++ (files ++ last)
given_then old mid new files last read e = e ∙ ap (λ g. g ++ last) read ∙ append_assoc old.given (files ++ []) last ∙ ap
    (λ w. old.given ++ (w ++ last)) (append-nil files)

-- what was opened behind the files that were read
read_then : (means : Decoding) (old mid new : FolderState) (orders : List ℕ) (paths : List (List ℕ)) (operands : List Operand)
    (last : List Given)
    → AreRead means old mid orders paths operands [] → new.given ≡ mid.given ++ last → AreRead means old new orders paths operands last
read_then means old mid new orders paths operands last read e =
    record {
      files = read.files;
      given_is = given_then old mid new read.files last read.given_is e;
      in_order = read.in_order;
      are =
          read.are;
    }

next_in_order : (files : List Given) (paths : List (List ℕ)) (path bytes : List ℕ) → paths_of files ≡ take (length files) paths
    → slice_get paths (length files) ≡ Some path
    → paths_of (files ++ (path, bytes) ∷ []) ≡ take (length (files ++ (path, bytes) ∷ [])) paths
next_in_order files paths path bytes in_order next =
    let long : suc (length files) ≡ length (files ++ (path, bytes) ∷ []) = omega (arith, length-append files ((path, bytes) ∷ [])) in
    paths-append files ((path, bytes) ∷ []) ∙ ap (λ w. w ++ path ∷ []) in_order ∙ take_next paths (length files) path next ∙ ap
    (λ k. take k paths) long

-- one file more is read
files_more : (means : Decoding) (old mid new : FolderState) (orders : List ℕ) (paths : List (List ℕ)) (operands : List Operand)
    (order : ℕ) (path : List ℕ) (operand : Operand)
    → mid.holds ≡ old.holds → AreRead means old mid orders paths operands [] → slice_get orders (length operands) ≡ Some order
    → slice_get paths (length operands) ≡ Some path
    → ReadsOperand means order path mid new operand → AreRead means old new orders paths (operands ++ operand ∷ []) []
files_more means old mid new orders paths operands order path operand same read next_order next_path more =
    let file : Given = (path, more.bytes) in
    let long : length operands ≡ length read.files = as_many means old.holds orders operands read.files read.are in
    let behind = given_then old mid new read.files (file ∷ []) read.given_is more.given_is in
    let is : IsOperand means order (old.holds path) path more.bytes operand = rw (ap (λ f. f path) same) at more.operand_is in
    record {
      files = read.files ++ file ∷ [];
      given_is = behind ∙ ap (λ w. old.given ++ w) (sym (append-nil (read.files ++ file ∷ [])));
      in_order = next_in_order read.files paths path more.bytes read.in_order (ap (slice_get paths) (sym long) ∙ next_path);
      are = operands_more means old.holds orders operands read.files order operand path more.bytes read.are next_order is;
    }

-- no operand was read yet
pub read_none : (means : Decoding) (files : FolderState) (orders : List ℕ) (paths : List (List ℕ))
    → HaveRead means files files orders paths 0 [] []
read_none means files orders paths = record {
  operands = [];
  read = record { files = []; given_is = sym (append-nil files.given); in_order = refl; are = tt };
  count_is = refl;
  entries_are = refl;
  bounds_are = refl;
  quiet = record { read_faults_are = refl; faulted_is = refl; wants_are = refl };
}

-- one operand more is read
pub read_more : (means : Decoding) (old mid new : FolderState) (orders : List ℕ) (paths : List (List ℕ)) (n : ℕ) (entries : List Entries)
    (bounds : List (List Bound)) (order : ℕ) (path : List ℕ) (operand : Operand)
    (entries' : List Entries) (bounds' : List (List Bound)) → OnlyReads old mid → HaveRead means old mid orders paths n entries bounds
    → slice_get orders n ≡ Some order → slice_get paths n ≡ Some path
    → ReadsOperand means order path mid new operand → entries' ≡ entries ++ operand.entries ∷ []
    → bounds' ≡ bounds ++ operand.bounds ∷ [] → HaveRead means old new orders paths (n + 1) entries' bounds'
read_more means old mid new orders paths n entries bounds order path operand entries' bounds' only have next_order next_path more e b =
    record {
      operands = have.operands ++ operand ∷ [];
      read = files_more means old mid new orders paths have.operands order path operand only.keeps_writing.holds_is have.read (ap
          (slice_get orders) have.count_is ∙ next_order) (ap (slice_get paths) have.count_is ∙ next_path) more;
      count_is = omega (arith, length-append have.operands (operand ∷ []), have.count_is);
      entries_are = e ∙ ap (λ w. w ++ operand.entries ∷ []) have.entries_are ∙ sym (map_push (λ
          (o : Operand). o.entries) have.operands operand);
      bounds_are = b ∙ ap (λ w. w ++ operand.bounds ∷ []) have.bounds_are ∙ sym (map_push (λ (o : Operand). o.bounds)
          have.operands operand);
      quiet = quiet_trans old mid new have.quiet more.quiet;
    }

-- the files that were opened for these operands
pub opened_for : (means : Decoding) (old new : FolderState) (orders : List ℕ) (paths : List (List ℕ)) (n : ℕ) (entries : List Entries)
    (bounds : List (List Bound))
    → HaveRead means old new orders paths n entries bounds → OpensFirst old new paths × NoReadFails old new
opened_for means old new orders paths n entries bounds have = (
  record {
    files = have.read.files;
    given_is = have.read.given_is ∙ ap (λ w. old.given ++ w)
        (append-nil have.read.files);
    in_order = have.read.in_order;
  },
  record { read_faults_are = have.quiet.read_faults_are; faulted_is = have.quiet.faulted_is },
)

-- the files that were opened, where one more may have been
opens_first : (means : Decoding) (old mid new : FolderState) (orders : List ℕ) (paths : List (List ℕ)) (operands : List Operand)
    (path : List ℕ)
    → AreRead means old mid orders paths operands [] → slice_get paths (length operands) ≡ Some path → MayOpen path mid new
    → OpensFirst old new paths
opens_first means old mid new orders paths operands path read next may = by may.last may.last_is may.given_is
  where
    by : (last : List Given) → IsOpening (mid.holds path) path last → new.given ≡ mid.given ++ last → OpensFirst old new paths
    by last (inl none) given = record {
      files = read.files;
      given_is = given ∙ ap (λ w. mid.given ++ w) none ∙ append-nil mid.given ∙ read.given_is ∙ ap (λ w. old.given ++ w)
          (append-nil read.files);
      in_order = read.in_order;
    }
    by last (inr one) given =
        let long : length operands ≡ length read.files = as_many means old.holds orders operands read.files read.are in
        record {
          files = read.files ++ (path, one.0) ∷ [];
          given_is = given_then old mid new read.files ((path, one.0) ∷ []) read.given_is (given ∙ ap (λ w. mid.given ++ w) one.1);
          in_order = next_in_order read.files paths path one.0 read.in_order (ap (slice_get paths) (sym long) ∙ next);
        }

-- a read fault behind quiet calls is one of the whole
later_fault : (old mid new : FolderState) (path : List ℕ) → mid.holds ≡ old.holds → mid.read_faults ≡ old.read_faults
    → IsReadFault mid new path → IsReadFault old new path
later_fault old mid new path h same (inl rose) = inl ((λ small. omega (arith, rose.0 small, same)), rose.1)
later_fault old mid new path h same (inr none) = inr (sym (ap (λ f. f path) h) ∙ none)

-- the file behind those that are read gives the refusal
pub refused_next : (means : Decoding) (old mid new : FolderState) (orders : List ℕ) (paths : List (List ℕ)) (n : ℕ)
    (entries : List Entries) (bounds : List (List Bound)) (order : ℕ) (path : List ℕ) (fault : OperandFault)
    → OnlyReads old mid → HaveRead means old mid orders paths n entries bounds → slice_get orders n ≡ Some order
    → slice_get paths n ≡ Some path
    → FileRefused means order path mid new fault → IsRefused means old new orders paths fault
refused_next means old mid new orders paths n entries bounds order path fault only have next_order next_path = by fault
  where
    holds : mid.holds path ≡ old.holds path
    holds = ap (λ f. f path) only.keeps_writing.holds_is

    there : slice_get paths (length have.operands) ≡ Some path
    there = ap (slice_get paths) have.count_is ∙ next_path

    next : (last : List Given) → new.given ≡ mid.given ++ last → IsNext means old new orders paths order path last
    next last given = record {
      operands = have.operands;
      read = read_then means old mid new orders paths have.operands last have.read given;
      next_order = ap (slice_get orders) have.count_is ∙ next_order;
      next_path = there;
    }

    by : (fault : OperandFault) → FileRefused means order path mid new fault → IsRefused means old new orders paths fault
    by (ReadFault at) c =
        let may : MayOpen path mid new = c.1.1.0 in
        let here : RefusedAtFault means old new orders paths path = record {
          order = order;
          last = may.last;
          next = next may.last may.given_is;
          last_is = subst (λ t. IsOpening t path may.last) holds may.last_is;
          short = c.1.1.1;
          fault = later_fault old mid new path only.keeps_writing.holds_is have.quiet.read_faults_are c.1.0;
        } in
        subst (RefusedAtFault means old new orders paths) (sym c.0) here
    by (FileBytes at) c =
        let here : RefusedAtLength means old new orders paths path = record {
          order = order;
          bytes = c.1.bytes;
          next = next ((path, c.1.bytes) ∷ []) c.1.given_is;
          too_long = rw holds at c.1.too_long;
          quiet = quiet_trans old mid new have.quiet c.1.quiet;
        } in
        subst (RefusedAtLength means old new orders paths) (sym c.0) here
    by (BadFile at line kind) c =
        let here : RefusedAtLine means old new orders paths path line kind = record {
          order = order;
          bytes = c.1.bytes;
          next = next ((path, c.1.bytes) ∷ []) c.1.given_is;
          whole = rw holds at c.1.whole;
          bad = c.1.bad;
          quiet = quiet_trans old mid new have.quiet c.1.quiet;
        } in
        subst (λ p. RefusedAtLine means old new orders paths p line kind) (sym c.0) here
    by Memory c = (
      opens_first means old mid new orders paths have.operands path have.read there c.0,
      no_fails_trans old mid new
          have.quiet c.1,
    )
