-- A trace that is read on, step by step.
use Rattle.ld_trace.proofs.Names.{[], ◌++◌, ◌∙◌, ◌≡◌, Event, IfSome, List, Name, None, Option, Some, ap, drop, take, append-nil, append_assoc, refl, sym, ℕ}
use Rattle.std.proofs.lemmas.List.{take-append-drop}
use Rattle.std.specs.Io.KnownBytes.{Consumes, IsAtEnd}
use Rattle.ld_trace.specs.Inside.KnownLines.{Advances, ReadsOn, left_of}
use Rattle.ld_trace.specs.declared.version.Version.{Version}

-- ---- reading on by nothing, and by one more
pub on-nothing : (version : Version) (room : ℕ) (names : List Name) (whole : List Event) → ReadsOn version room names names whole whole []
on-nothing version room names whole = record {
  added = ([], sym (append-nil names));
  lines = λ done are. rw append-nil are;
  reads = λ old done are read. rw append-nil read;
}

pub on-more : (version : Version) (room : ℕ) (n1 n2 n3 : List Name) (w1 w2 w3 : List Event) (a b : List ℕ) → ReadsOn version room n1 n2 w1 w2 a → ReadsOn version room n2 n3 w2 w3 b
    → ReadsOn version room n1 n3 w1 w3 (a ++ b)
on-more version room n1 n2 n3 w1 w2 w3 a b first second = record {
  added = (first.added.0 ++ second.added.0, second.added.1 ∙ ap (λ l. l ++ second.added.0) first.added.1 ∙ append_assoc n1 first.added.0 second.added.0);
  lines = λ done are. rw (← append_assoc) (second.lines (done ++ a) (first.lines done are));
  reads = λ old done are read. rw (← append_assoc) (second.reads old (done ++ a) (first.lines done are) (first.reads old done are read));
}

-- ---- what a source has left
pub consumes-nothing : (known : Option (List ℕ)) → Consumes known known []
consumes-nothing None = tt
consumes-nothing (Some xs) = refl

pub consumes-more : (a b c : Option (List ℕ)) (xs ys : List ℕ) → Consumes a b xs → Consumes b c ys → Consumes a c (xs ++ ys)
consumes-more None b c xs ys h k = tt
consumes-more (Some l) None c xs ys h k = absurd h
consumes-more (Some l) (Some m) None xs ys h k = absurd k
consumes-more (Some l) (Some m) (Some n) xs ys h k = h ∙ ap (λ r. xs ++ r) k ∙ sym (append_assoc xs ys n)

-- what was read behind the block was consumed too
pub consumes-on : (a b c : Option (List ℕ)) (block longer : List ℕ) → Consumes a b block → ((more : List ℕ) × (longer ≡ block ++ more) × Consumes b c more) → Consumes a c longer
consumes-on a b c block longer first (more, is, then) = rw is (consumes-more a b c block more first then)

-- the first bytes of the block are gone
left-front : (rest : Option (List ℕ)) (block : List ℕ) (count : ℕ) → Consumes (left_of block rest) (left_of (drop count block) rest) (take count block)
left-front None block count = tt
left-front (Some xs) block count = ap (λ l. l ++ xs) (sym (take-append-drop count block)) ∙ append_assoc (take count block) (drop count block) xs

-- bytes that went from the source to the block are still left
left-filled : (old new : Option (List ℕ)) (block more : List ℕ) → Consumes old new more → Consumes (left_of block old) (left_of (block ++ more) new) []
left-filled None new block more h = tt
left-filled (Some xs) None block more h = absurd h
left-filled (Some xs) (Some ys) block more h = ap (λ l. block ++ l) h ∙ sym (append_assoc block more ys)

-- ---- advancing
pub advance-on : (version : Version) (room : ℕ) (n1 n2 n3 : List Name) (w1 w2 w3 : List Event) (a b c : Option (List ℕ)) → Advances version room n1 n2 w1 w2 a b → Advances version room n2 n3 w2 w3 b c
    → Advances version room n1 n3 w1 w3 a c
advance-on version room n1 n2 n3 w1 w2 w3 a b c first second = record {
  taken = first.taken ++ second.taken;
  consumes = consumes-more a b c first.taken second.taken first.consumes second.consumes;
  on = on-more version room n1 n2 n3 w1 w2 w3 first.taken second.taken first.on second.on;
}

pub advance-nothing : (version : Version) (room : ℕ) (names : List Name) (whole : List Event) (known : Option (List ℕ)) → Advances version room names names whole whole known known
advance-nothing version room names whole known = record { taken = []; consumes = consumes-nothing known; on = on-nothing version room names whole }

-- lines at the front of the block were taken
pub advance-front : (version : Version) (room : ℕ) (n1 n2 n3 : List Name) (w1 w2 w3 : List Event) (start rest : Option (List ℕ)) (block : List ℕ) (count : ℕ) → Advances version room n1 n2 w1 w2 start (left_of block rest)
    → ReadsOn version room n2 n3 w2 w3 (take count block) → Advances version room n1 n3 w1 w3 start (left_of (drop count block) rest)
advance-front version room n1 n2 n3 w1 w2 w3 start rest block count first on =
    advance-on version room n1 n2 n3 w1 w2 w3 start (left_of block rest) (left_of (drop count block) rest) first (record { taken = take count block; consumes = left-front rest block count; on = on })

-- the block got more bytes of the source
pub advance-filled : (version : Version) (room : ℕ) (n1 n2 : List Name) (w1 w2 : List Event) (start old new : Option (List ℕ)) (block longer : List ℕ) → Advances version room n1 n2 w1 w2 start (left_of block old)
    → ((more : List ℕ) × (longer ≡ block ++ more) × Consumes old new more) → Advances version room n1 n2 w1 w2 start (left_of longer new)
advance-filled version room n1 n2 w1 w2 start old new block longer first (more, is, gone) =
    rw is
    (advance-on version room n1 n2 n2 w1 w2 w2 start (left_of block old) (left_of (block ++ more) new) first (record { taken = []; consumes = left-filled old new block more gone; on = on-nothing version room n2 w2 }))

-- lines at the front of the block were taken, and then it got more bytes
pub advance-block : (version : Version) (room : ℕ) (n1 n2 n3 : List Name) (w1 w2 w3 : List Event) (start old new : Option (List ℕ)) (block left longer : List ℕ) (count : ℕ) → Advances version room n1 n2 w1 w2 start (left_of block old)
    → ReadsOn version room n2 n3 w2 w3 (take count block) → left ≡ drop count block → ((more : List ℕ) × (longer ≡ left ++ more) × Consumes old new more) → Advances version room n1 n3 w1 w3 start (left_of longer new)
advance-block version room n1 n2 n3 w1 w2 w3 start old new block left longer count first on is filled =
    advance-filled version room n1 n3 w1 w3 start old new left longer (rw is (advance-front version room n1 n2 n3 w1 w2 w3 start old block count first on)) filled

-- ---- the whole
-- what is so of the bytes behind those that were taken is so of all
pub rest-whole : (before after : Option (List ℕ)) (header taken : List ℕ) (P : List ℕ → Type 0) → Consumes before after taken → IfSome after (λ rest. P ((header ++ taken) ++ rest)) → IfSome before (λ bytes. P (header ++ bytes))
rest-whole None after header taken P h k = tt
rest-whole (Some bytes) None header taken P h k = absurd h
rest-whole (Some bytes) (Some rest) header taken P h k = rw (h, ← append_assoc) k

-- what is so of the bytes that were taken is so of all, if those were all
pub all-whole : (before rest : Option (List ℕ)) (header taken : List ℕ) (P : List ℕ → Type 0) → Consumes before (left_of [] rest) taken → IsAtEnd rest → P (header ++ taken) → IfSome before (λ bytes. P (header ++ bytes))
all-whole None rest header taken P h end is = tt
all-whole (Some bytes) None header taken P h end is = absurd h
all-whole (Some bytes) (Some xs) header taken P h end is = rw (h, end, append-nil taken) is
