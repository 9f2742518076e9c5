-- How pieces that are fed one after another make a text.
use Rattle.std.proofs.Common.{Option, List, [], ◌∷◌, ◌++◌, ◌≡◌, inl, inr, ℕ, ◌+◌, ◌<◌, ◌≤◌, length, take, None, Some, refl, sym, ap, ◌∙◌}
use Rattle.std.proofs.Common.{subst, append_assoc, append-nil, arith, length-append, Result, Ok, Err, IfOk, OnOk}
use Rattle.std.proofs.lemmas.Grind.{common_steps}
use Rattle.outside.specs.Told.{told_bytes}
use Rattle.outside.specs.Count.{Rose}
use Rattle.outside.specs.Given.{opened, extended}
use Rattle.outside.specs.Folder.{FolderState, KeepsWriting, Opens, RefusesToOpen, RefusesToRead, Reads, before_rest, IsAtEnd}
use Rattle.outside.specs.ReadStop.{IsAll, IsLonger, Feeds, FeedsWhole, FeedsFront, Stops, StopsReading}
use Rattle.outside.specs.Refusal.{stop_of}
use Rattle.outside.specs.declared.refusal.Refusal.{Refusal}
use Rattle.outside.specs.declared.refusal.Refusal.TheVariants as why
use Rattle.outside.specs.declared.refusal.ReadStop.{ReadStop}
use Rattle.outside.specs.declared.refusal.ReadStop.TheVariants.{ReadFault, FileBytes, Memory}
use Rattle.outside.proofs.Givens.{extended-nil, extended-append, extended-opened}

pub before_rest-nil : (rest : Option (List ℕ)) → before_rest [] rest ≡ rest
before_rest-nil None = refl
before_rest-nil (Some rest) = refl

pub before_rest-append : (xs ys : List ℕ) (rest : Option (List ℕ)) → before_rest xs (before_rest ys rest) ≡ before_rest (xs ++ ys) rest
before_rest-append xs ys None = refl
before_rest-append xs ys (Some rest) = ap Some (sym (append_assoc xs ys rest))

pub writing_kept : {r s t : FolderState} → KeepsWriting r s → KeepsWriting s t → KeepsWriting r t
writing_kept p q = record {
  holds_is = q.holds_is ∙ p.holds_is;
  writing_is = q.writing_is ∙ p.writing_is;
  unfinished_is = q.unfinished_is ∙ p.unfinished_is;
  write_faults_are = q.write_faults_are ∙ p.write_faults_are;
}

pub writing_stays : (s : FolderState) → KeepsWriting s s
writing_stays s = record { holds_is = refl; writing_is = refl; unfinished_is = refl; write_faults_are = refl }

pub feeds_none : (s : FolderState) (eaten : List ℕ) → Feeds s s eaten eaten 0
feeds_none s eaten = record {
  fed = [];
  eaten_is = sym (append-nil eaten);
  count_is = refl;
  rest_is = sym (before_rest-nil s.rest);
  taken_is = omega arith;
  given_is = sym (extended-nil s.given);
  reading_is = refl;
  read_faults_are = refl;
  faulted_is = refl;
  wants_are = refl;
  keeps_writing = writing_stays s;
}

pub feeds_then : {r s t : FolderState} {a b d : List ℕ} {m n : ℕ} → Feeds r s a b m → Feeds s t b d n → Feeds r t a d (m + n)
feeds_then {r} p q = record {
  fed = p.fed ++ q.fed;
  eaten_is = q.eaten_is ∙ ap (λ w. w ++ q.fed) p.eaten_is ∙ append_assoc _ p.fed q.fed;
  count_is = omega (arith, p.count_is, q.count_is, length-append p.fed q.fed);
  rest_is = p.rest_is ∙ ap (before_rest p.fed) q.rest_is ∙ before_rest-append p.fed q.fed _;
  taken_is = omega (arith, p.taken_is, q.taken_is);
  given_is = q.given_is ∙ ap (λ w. extended w q.fed) p.given_is ∙ extended-append r.given p.fed q.fed;
  reading_is = q.reading_is ∙ p.reading_is;
  read_faults_are = q.read_faults_are ∙ p.read_faults_are;
  faulted_is = q.faulted_is ∙ p.faulted_is;
  wants_are = q.wants_are ∙ p.wants_are;
  keeps_writing = writing_kept p.keeps_writing q.keeps_writing;
}

-- a last piece that is empty
pub feeds_end : {r s t : FolderState} {a b d : List ℕ} {m n : ℕ} → Feeds r s a b m → Feeds s t b d n → n ≡ 0 → Feeds r t a d m
feeds_end {r} {s} {t} {a} {b} {d} {m} {n} p q z =
    let both : Feeds r t a d (m + n) = feeds_then p q in subst (Feeds r t a d) (omega (arith, z)) both

-- what stops behind pieces that were fed stops the whole
pub stops_after : {E : Type 0} (eaten : E → List ℕ) (refused : E → List ℕ → E
    → Type 0) (r s t : FolderState) (old mid new : E) (n left budget : ℕ) (stop : ReadStop) → Feeds r s (eaten old) (eaten mid) n
    → budget ≡ n + left → Stops eaten refused s t left mid new stop → Stops eaten refused r t budget old new stop
stops_after eaten refused r s t old mid new n left budget ReadFault p b h =
    record { mid = h.mid; n = n + h.n; within = omega (arith, h.within, b); feeds = feeds_then p h.feeds; fails = h.fails }
stops_after eaten refused r s t old mid new n left budget FileBytes p b h =
    record {
      mid = h.mid;
      n = n + h.n;
      feeds = feeds_then p h.feeds;
      buffer = h.buffer;
      m = h.m;
      reads = h.reads;
      over =
          omega (arith, h.over, b);
    }
stops_after eaten refused r s t old mid new n left budget (Memory e) p b (inl h) =
    inl (record { mid = h.mid; n = n + h.n; feeds = feeds_then p h.feeds; wants = h.wants })
stops_after eaten refused r s t old mid new n left budget (Memory e) p b (inr h) =
    inr (record {
      mid = h.mid;
      before = h.before;
      n = n + h.n;
      feeds = feeds_then p h.feeds;
      buffer = h.buffer;
      m = h.m;
      reads =
          h.reads;
      refuses = h.refuses;
    })

all_at_end : (r s : Option (List ℕ)) (bytes : List ℕ) → r ≡ before_rest bytes s → IsAtEnd s → IsAll r bytes
all_at_end None s bytes e h = tt
all_at_end (Some r) None bytes e h = cc
all_at_end (Some r) (Some s) bytes e h =
    let is : r ≡ bytes ++ s = cc in is ∙ ap (λ w. bytes ++ w) h ∙ append-nil bytes

longer_by : (r s : Option (List ℕ)) (bytes : List ℕ) (n : ℕ) → r ≡ before_rest bytes s → n < length bytes → IsLonger r n
longer_by None s bytes n e h = tt
longer_by (Some r) None bytes n e h = cc
longer_by (Some r) (Some s) bytes n e h =
    let is : r ≡ bytes ++ s = cc in omega (arith, ap length is, length-append bytes s, h)

-- a file that was opened and read to its end
pub feeds_whole : {r s t : FolderState} {name eaten eaten' : List ℕ} {budget n : ℕ} → Opens r s name → Feeds s t eaten eaten' n
    → n ≤ budget → IsAtEnd t.rest → FeedsWhole r t name budget eaten eaten' n
feeds_whole {r} {s} {t} {name = name} p q within at_end = record {
  fed = q.fed;
  eaten_is = q.eaten_is;
  count_is = q.count_is;
  given_is = q.given_is ∙ ap (λ w. extended w q.fed) p.given_is ∙ extended-opened r.given name q.fed;
  all = all_at_end (told_bytes (r.holds name)) t.rest q.fed (sym p.rest_is ∙ q.rest_is) at_end;
  present = p.present;
  within = within;
  taken_is = omega (arith, q.taken_is, p.taken_is);
  reading_is = q.reading_is ∙ p.reading_is;
  at_end = at_end;
  read_faults_are = q.read_faults_are ∙ p.read_faults_are;
  faulted_is = q.faulted_is ∙ p.faulted_is;
  wants_are = q.wants_are ∙ p.wants_are;
  keeps_writing = writing_kept p.keeps_writing q.keeps_writing;
}

length_taken : (m : ℕ) (buffer : List ℕ) → m ≤ length buffer → length (take m buffer) ≡ m
length_taken m buffer within = grind (arith, common_steps)

-- what was fed of a file that was opened
front_fed : {r s t u : FolderState} {name eaten eaten' : List ℕ} {n : ℕ} → Opens r s name → Feeds s t eaten eaten' n → u.taken ≡ t.taken
    → u.given ≡ t.given → FeedsFront r u name eaten eaten'
front_fed {r} {s} {t} {u} {name} p q taken e = record {
  fed = q.fed;
  more = [];
  rest = t.rest;
  eaten_is = q.eaten_is;
  taken_is = omega (arith, taken, q.taken_is, p.taken_is, q.count_is, length-append q.fed []);
  given_is = e ∙ q.given_is ∙ ap (λ w. extended w q.fed) p.given_is ∙ extended-opened r.given name q.fed
      ∙ ap (λ w. r.given ++ (name, w) ∷ []) (sym (append-nil q.fed));
  told_is = sym p.rest_is ∙ q.rest_is ∙ ap (λ w. before_rest w t.rest) (sym (append-nil q.fed));
}

-- what is told of a file that was opened, where one more piece was read
told_before : {r s t u : FolderState} {name eaten eaten' : List ℕ} {n : ℕ} (buffer : List ℕ) (m : ℕ) → Opens r s name
    → (q : Feeds s t eaten eaten' n) → Reads t u buffer m → told_bytes (r.holds name) ≡ before_rest (q.fed ++ take m buffer) u.rest
told_before {u = u} buffer m p q last = sym p.rest_is ∙ q.rest_is ∙ ap (before_rest q.fed) last.rest_is
    ∙ before_rest-append q.fed (take m buffer) u.rest

-- what was fed of a file that was opened, where one more piece was read
front_before : {r s t u : FolderState} {name eaten eaten' : List ℕ} {n : ℕ} (buffer : List ℕ) (m : ℕ) → Opens r s name
    → Feeds s t eaten eaten' n → Reads t u buffer m → FeedsFront r u name eaten eaten'
front_before {r} {s} {t} {u} {name} buffer m p q last = record {
  fed = q.fed;
  more = take m buffer;
  rest = u.rest;
  eaten_is = q.eaten_is;
  taken_is = omega (
    arith,
    last.taken_is,
    q.taken_is,
    p.taken_is,
    q.count_is,
    length-append q.fed
        (take m buffer),
    length_taken m buffer last.within,
  );
  given_is = last.given_is ∙ ap (λ w. extended w (take m buffer)) (q.given_is ∙ ap (λ w. extended w q.fed) p.given_is)
      ∙ extended-append (opened r.given name) q.fed (take m buffer) ∙ extended-opened r.given name (q.fed ++ take m buffer);
  told_is = told_before buffer m p q last;
}

-- a file that was opened, and how its reading stopped
pub stops_reading : {E : Type 0} (eaten : E → List ℕ) (refused : E → List ℕ → E
    → Type 0) (r s t : FolderState) (name : List ℕ) (budget : ℕ) (old new : E) (stop : ReadStop) → Opens r s name
    → Stops eaten refused s t budget old new stop → StopsReading eaten refused r t name budget old new stop
stops_reading eaten refused r s t name budget old new ReadFault p h =
    let mid = h.mid in
    record {
      cause = inl (record {
        rose = subst (λ k. Rose k t.read_faults) (h.feeds.read_faults_are ∙ p.read_faults_are) h.fails.rises.rose;
        faulted_is = h.fails.faulted_is ∙ h.feeds.reading_is ∙ p.reading_is;
      });
      feeds = inr (front_fed p h.feeds h.fails.taken_is h.fails.given_is);
      under = omega (arith, h.fails.taken_is, h.feeds.taken_is, p.taken_is, h.within);
      grows = omega (arith, h.fails.rises.grows, h.feeds.read_faults_are, p.read_faults_are);
      wants_are = h.fails.wants_are ∙ h.feeds.wants_are ∙ p.wants_are;
      keeps_writing = writing_kept (writing_kept p.keeps_writing h.feeds.keeps_writing) h.fails.keeps_writing;
    }
stops_reading eaten refused r s t name budget old new FileBytes p h =
    let long : budget < length (h.feeds.fed ++ take h.m h.buffer) =
    omega (arith, h.over, h.feeds.count_is, length_taken h.m h.buffer h.reads.within, length-append h.feeds.fed (take h.m h.buffer)) in
    record {
      over = omega (arith, h.reads.taken_is, h.feeds.taken_is, p.taken_is, h.over);
      longer = longer_by (told_bytes (r.holds name)) t.rest (h.feeds.fed
          ++ take h.m h.buffer) budget (told_before h.buffer h.m p h.feeds h.reads) long;
      feeds = front_before h.buffer h.m p h.feeds h.reads;
      present = p.present;
      read_faults_are = h.reads.read_faults_are ∙ h.feeds.read_faults_are ∙ p.read_faults_are;
      faulted_is = h.reads.faulted_is ∙ h.feeds.faulted_is ∙ p.faulted_is;
      wants_are = h.reads.wants_are ∙ h.feeds.wants_are ∙ p.wants_are;
      keeps_writing = writing_kept (writing_kept p.keeps_writing h.feeds.keeps_writing) h.reads.keeps_writing;
    }
stops_reading eaten refused r s t name budget old new (Memory e) p (inl h) = record {
  cause = inl (record {
    rises = record {
      rose = subst (λ k. Rose k t.wants) (h.feeds.wants_are ∙ p.wants_are) h.wants.rises.rose;
      grows = omega (arith, h.wants.rises.grows, h.feeds.wants_are, p.wants_are);
    };
    feeds = inr (front_fed p h.feeds h.wants.keeps_reading.taken_is h.wants.keeps_reading.given_is);
  });
  read_faults_are = h.wants.keeps_reading.read_faults_are ∙ h.feeds.read_faults_are ∙ p.read_faults_are;
  faulted_is = h.wants.keeps_reading.faulted_is ∙ h.feeds.faulted_is ∙ p.faulted_is;
  keeps_writing = writing_kept (writing_kept p.keeps_writing h.feeds.keeps_writing) h.wants.keeps_writing;
}
stops_reading eaten refused r s t name budget old new (Memory e) p (inr h) = record {
  cause = inr (record {
    before = h.before;
    piece = take h.m h.buffer;
    feeds = front_before h.buffer h.m p h.feeds h.reads;
    refuses = h.refuses;
    wants_are = h.reads.wants_are ∙ h.feeds.wants_are ∙ p.wants_are;
  });
  read_faults_are = h.reads.read_faults_are ∙ h.feeds.read_faults_are ∙ p.read_faults_are;
  faulted_is = h.reads.faulted_is ∙ h.feeds.faulted_is ∙ p.faulted_is;
  keeps_writing = writing_kept (writing_kept p.keeps_writing h.feeds.keeps_writing) h.reads.keeps_writing;
}

-- a file that couldn't be opened
pub refused_to_open : {E : Type 0} (eaten : E → List ℕ) (refused : E → List ℕ → E
    → Type 0) (r s : FolderState) (name : List ℕ) (budget : ℕ) (eater : E) (why : Refusal) → RefusesToOpen r s name why
    → StopsReading eaten refused r s name budget eater eater (stop_of why)
refused_to_open eaten refused r s name budget eater why.Failed p = record {
  cause = inl (record { rose = p.rises.rose; faulted_is = p.faulted_is });
  feeds = inl (record { eaten_is = refl; given_is = p.given_is });
  under = omega (arith, p.ends_reading.taken_is);
  grows = p.rises.grows;
  wants_are = p.wants_are;
  keeps_writing = p.keeps_writing;
}
refused_to_open eaten refused r s name budget eater why.Absent p = record {
  cause = inr p.absent;
  feeds = inl (record { eaten_is = refl; given_is = p.given_is });
  under = omega (arith, p.ends_reading.taken_is);
  grows = omega (arith, p.read_faults_are);
  wants_are = p.wants_are;
  keeps_writing = p.keeps_writing;
}
refused_to_open eaten refused r s name budget eater (why.Memory e) p = record {
  cause = inl (record { rises = p.rises; feeds = inl (record { eaten_is = refl; given_is = p.keeps_reading.given_is }) });
  read_faults_are = p.keeps_reading.read_faults_are;
  faulted_is = p.keeps_reading.faulted_is;
  keeps_writing = p.keeps_writing;
}

-- a first piece that couldn't be read
pub refused_to_read : {E : Type 0} (eaten : E → List ℕ) (refused : E → List ℕ → E
    → Type 0) (r s : FolderState) (budget : ℕ) (eater : E) (why : Refusal) → RefusesToRead r s why
    → Stops eaten refused r s budget eater eater (stop_of why)
refused_to_read eaten refused r s budget eater why.Failed p =
    record { mid = r; n = 0; within = omega arith; feeds = feeds_none r (eaten eater); fails = p }
refused_to_read eaten refused r s budget eater why.Absent p = absurd p
refused_to_read eaten refused r s budget eater (why.Memory e) p =
    inl (record { mid = r; n = 0; feeds = feeds_none r (eaten eater); wants = p })

-- how the reading of a file that was opened ended
pub whole_of : (r s t : FolderState) (name eaten eaten' : List ℕ) (budget : ℕ) (result : Result ℕ ReadStop) → Opens r s name
    → IfOk result (Feeds s t eaten eaten') → IfOk result (λ n. n ≤ budget) → OnOk result (IsAtEnd t.rest)
    → IfOk result (FeedsWhole r t name budget eaten eaten')
whole_of r s t name eaten eaten' budget (Ok n) p fed within at_end = feeds_whole p fed within at_end
whole_of r s t name eaten eaten' budget (Err stop) p fed within at_end = tt
