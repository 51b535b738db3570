-- What a call on a source over a reader takes, as far as its loop has come.
use Rattle.std.proofs.Common.{◌≡◌, ◌≢◌, ◌∙◌, inl, inr, ℕ, suc, ◌+◌, ◌-◌, ◌<◌, ◌≤◌, ◌==◌, Bool, true, false, IsTrue, not, cond, nat_lt, List, [], ◌∷◌, ◌++◌, length, take, drop, Option, Some, None, Result, Ok, Err, OnOk, is_err, is_some, position, refl, sym, ap, subst, arith, append_assoc, append-nil}
use Rattle.std.specs.Prelude.{slice_range}
use Rattle.std.specs.Io.KnownBytes.{Consumes, IsAtEnd, Keeps, prepend_known}
use Rattle.std.specs.List.{after_first, before_first, position_or_len}
use Rattle.std.proofs.KnownBytes.{Consumes-kept, Consumes-nil}
use Rattle.std.proofs.lemmas.Bool.{eqb-false, eqb-true, false≢true, ltb-false, ltb-true}
use Rattle.std.proofs.lemmas.List.{drop-drop, drop-take, drop_all, length-take, take_all}
use Rattle.std.proofs.lemmas.List.Elements.{All-append, All-cons, All-nil, All-same}
use Rattle.std.proofs.lemmas.List.Sums.{passes_at_first, split_at_first}
use Rattle.ba_source.specs.StdSource.{HasNoFeed, StandsFor, TakesKnown, TakesLine, TakesOf, Tells, is_feed}
use Rattle.ba_source.specs.Taking.{Answer}
use Rattle.ba_source.specs.declared.source.SourceFail.TheVariants as fail
use Rattle.ba_source.specs.declared.std_source.Line.{Line}
use Rattle.ba_source.specs.declared.std_source.StdSource.{StdSource}

-- ---- bytes that were read

-- what is left of a range, once some of it were taken
pub taken_from : (xs : List ℕ) (from to count : ℕ) → count ≤ length (slice_range xs from to) → slice_range xs (from + count) to ≡ drop count (slice_range xs from to)
taken_from xs from to count some =
    let within : count ≤ to - from = omega (arith, some, length-take (to - from) (drop from xs)) in
    let rest : count + (to - (from + count)) ≡ to - from = omega (arith, within) in
    ap (λ ys. take (to - (from + count)) ys) (sym (drop-drop count from xs)) ∙ (sym (drop-take count (to - (from + count)) (drop from xs)) ∙ ap (λ n. drop count (take n (drop from xs))) rest)

-- ---- the first line feed

found_at : (b : Bool) (first n : ℕ) → cond b (Some first) None ≡ Some n → (b ≡ true) × (first ≡ n)
found_at true first n e = (refl, cc e)
found_at false first n e = cc e

not_found : (b : Bool) (first : ℕ) → ◌≡◌ {A = Option ℕ} (cond b (Some first) None) None → b ≡ false
not_found true first e = cc e
not_found false first e = refl

pub before_some : (xs : List ℕ) (n : ℕ) → position is_feed xs ≡ Some n → before_first is_feed xs ≡ take n xs
before_some xs n e = ap (λ i. take i xs) (found_at (nat_lt (position_or_len is_feed xs) (length xs)) (position_or_len is_feed xs) n e).1

short : (xs : List ℕ) → position is_feed xs ≡ None → length xs ≤ position_or_len is_feed xs
short xs e = ltb-false _ _ (not_found (nat_lt (position_or_len is_feed xs) (length xs)) (position_or_len is_feed xs) e)

pub before_none : (xs : List ℕ) → position is_feed xs ≡ None → before_first is_feed xs ≡ xs
before_none xs e = take_all (position_or_len is_feed xs) xs (short xs e)

after_none : (xs : List ℕ) → position is_feed xs ≡ None → after_first is_feed xs ≡ []
after_none xs e = drop_all (position_or_len is_feed xs + 1) xs (omega (arith, short xs e))

split_some : (xs : List ℕ) (n : ℕ) → position is_feed xs ≡ Some n → xs ≡ before_first is_feed xs ++ 10 ∷ after_first is_feed xs
split_some xs n e =
    let within : position_or_len is_feed xs < length xs = ltb-true _ _ (found_at (nat_lt (position_or_len is_feed xs) (length xs)) (position_or_len is_feed xs) n e).0 in
    split_at_first is_feed xs 0 within ∙ ap (λ b. before_first is_feed xs ++ b ∷ after_first is_feed xs) (eqb-true _ _ (passes_at_first is_feed xs 0 within))

no_feed_before : (xs : List ℕ) → HasNoFeed (before_first is_feed xs)
no_feed_before [] = All-nil (λ b. b ≢ 10)
no_feed_before (x ∷ xs) = by (x == 10) refl (no_feed_before xs)
  where
    by : (b : Bool) → (x == 10) ≡ b → HasNoFeed (before_first is_feed xs) → HasNoFeed (take (cond (not b) (1 + position_or_len is_feed xs) 0) (x ∷ xs))
    by true e rest = All-nil (λ b. b ≢ 10)
    by false e rest =
        let more : 1 + position_or_len is_feed xs ≡ suc (position_or_len is_feed xs) = omega arith in
        subst (λ n. HasNoFeed (take n (x ∷ xs))) (sym more) (All-cons (λ b. b ≢ 10) x (before_first is_feed xs) (eqb-false x 10 e) rest)

-- ---- the loop

abbrev IsBegun : Bool → List ℕ → Type 0
IsBegun true read = read ≢ []
IsBegun false read = read ≡ []

-- so much is read of the line
pub record Begun (limit : ℕ) (old new : Option (List ℕ)) (line : Line) (is_begun : Bool) : Type 0 where
  pub read : List ℕ
  pub one : HasNoFeed read
  pub consumed : Consumes old new read
  pub stands : StandsFor limit read line
  pub begun : IsBegun is_begun read

pub starts : (limit : ℕ) (old : Option (List ℕ)) (line : Line) → StandsFor limit [] line → Begun limit old old line false
starts limit old line stands = record { read = []; one = All-nil (λ b. b ≢ 10); consumed = Consumes-nil old; stands = stands; begun = refl }

-- where reading fails, what was read of the line is lost
pub fails : (limit : ℕ) (old mid new : Option (List ℕ)) (line : Line) (b : Bool) → Begun limit old mid line b → Keeps mid new → TakesKnown limit old new (Err fail.Fault)
fails limit old mid new line b h keeps = by old new (Consumes-kept old mid new h.read h.consumed keeps)
  where
    by : (before after : Option (List ℕ)) → Consumes before after h.read → TakesKnown limit before after (Err fail.Fault)
    by None after e = tt
    by (Some before) None e = absurd e
    by (Some before) (Some after) e = record { front = h.read; part = h.one; are = e }

-- at the end nothing is left
pub nothing : (limit : ℕ) (old mid new : Option (List ℕ)) (line : Line) → Begun limit old mid line false → Keeps mid new → IsAtEnd new → TakesKnown limit old new (Ok None)
nothing limit old mid new line h keeps end = by old new (Consumes-kept old mid new h.read h.consumed keeps) end
  where
    by : (before after : Option (List ℕ)) → Consumes before after h.read → IsAtEnd after → TakesKnown limit before after (Ok None)
    by None after e none = tt
    by (Some before) None e none = absurd e
    by (Some before) (Some after) e none = (e ∙ (ap (λ xs. xs ++ after) h.begun ∙ none), none)

takes : (limit : ℕ) (before after : List ℕ) (answer : Answer) → TakesLine limit before after answer → TakesOf limit before after answer
takes limit before after (Ok None) h = absurd h.told
takes limit before after (Err fail.Fault) h = absurd h.told
takes limit before after (Ok (Some bytes)) h = h
takes limit before after (Err (fail.TooLong n)) h = h
takes limit before after (Err fail.NoMemory) h = h

-- the last line, which is read to the end
pub last : (limit : ℕ) (old mid new given : Option (List ℕ)) (line : Line) (answer : Answer) → Begun limit old mid line true → Keeps mid new → IsAtEnd new → given ≡ new
    → ((bytes : List ℕ) → StandsFor limit bytes line → Tells limit bytes answer) → TakesKnown limit old given answer
last limit old mid new given line answer h keeps end same tells =
    subst (λ it. TakesKnown limit old it answer) (sym same) (by old new (Consumes-kept old mid new h.read h.consumed keeps) end)
  where
    by : (before after : Option (List ℕ)) → Consumes before after h.read → IsAtEnd after → TakesKnown limit before after answer
    by None after e none = tt
    by (Some before) None e none = absurd e
    by (Some before) (Some after) e none =
        takes limit before after answer
        (record { line = h.read; one = h.one; told = tells h.read h.stands; ends = inr (e ∙ (ap (λ xs. h.read ++ xs) none ∙ append-nil h.read), h.begun, none) })

pub empty_is : (xs : List ℕ) → (length xs == 0) ≡ true → xs ≡ []
empty_is [] e = refl
empty_is (x ∷ xs) e = absurd (omega (arith, eqb-true (length (x ∷ xs)) 0 e))

pub some_is : (xs : List ℕ) → (length xs == 0) ≡ false → xs ≢ []
some_is [] e = cc e
some_is (x ∷ xs) e = λ none. cc none

pub went_well : {X E : Type 0} (P : Type 0) (r : Result X E) → is_err r ≡ false → OnOk r P → P
went_well P (Ok x) well h = h
went_well P (Err e) well h = cc well

some_at : (o : Option ℕ) → is_some o ≡ true → (n : ℕ) × (o ≡ Some n)
some_at (Some n) e = (n, refl)
some_at None e = cc e

none_at : (o : Option ℕ) → is_some o ≡ false → o ≡ None
none_at (Some n) e = cc e
none_at None e = refl

-- a line that ends in what is unread
pub found : (limit : ℕ) (old mid rest given : Option (List ℕ)) (xs : List ℕ) (line new : Line) (b : Bool) (answer : Answer) → Begun limit old mid line b → Keeps mid (prepend_known xs rest) → is_some (position is_feed xs) ≡ true
    → ((front : List ℕ) → StandsFor limit front line → StandsFor limit (front ++ before_first is_feed xs) new) → given ≡ prepend_known (after_first is_feed xs) rest
    → ((bytes : List ℕ) → StandsFor limit bytes new → Tells limit bytes answer) → TakesKnown limit old given answer
found limit old mid rest given xs line new b answer h keeps some stands same tells =
    subst (λ it. TakesKnown limit old it answer) (sym same) (by old rest (Consumes-kept old mid (prepend_known xs rest) h.read h.consumed keeps))
  where
    front : List ℕ
    front = before_first is_feed xs

    after : List ℕ
    after = after_first is_feed xs

    is : xs ≡ front ++ 10 ∷ after
    is = let n = some_at (position is_feed xs) some in split_some xs n.0 n.1

    by : (before more : Option (List ℕ)) → Consumes before (prepend_known xs more) h.read → TakesKnown limit before (prepend_known after more) answer
    by None more e = tt
    by (Some before) None e = absurd e
    by (Some before) (Some more) e =
        let whole : before ≡ (h.read ++ front) ++ 10 ∷ (after ++ more) =
        e ∙ (ap (λ ys. h.read ++ (ys ++ more)) is ∙ (ap (λ ys. h.read ++ ys) (append_assoc front (10 ∷ after) more) ∙ sym (append_assoc h.read front (10 ∷ (after ++ more))))) in
        takes limit before (after ++ more) answer
        (record { line = h.read ++ front; one = All-append (λ b. b ≢ 10) h.read front h.one (no_feed_before xs); told = tells (h.read ++ front) (stands h.read h.stands); ends = inl whole })

some_more : (xs ys : List ℕ) → ys ≢ [] → (xs ++ ys) ≢ []
some_more [] ys some e = some e
some_more (x ∷ xs) ys some e = cc e

-- a line that goes on behind what is unread
pub onward : (limit : ℕ) (old mid rest new : Option (List ℕ)) (xs : List ℕ) (line longer : Line) (b : Bool) → Begun limit old mid line b → Keeps mid (prepend_known xs rest) → is_some (position is_feed xs) ≡ false → xs ≢ []
    → ((front : List ℕ) → StandsFor limit front line → StandsFor limit (front ++ before_first is_feed xs) longer) → new ≡ prepend_known (after_first is_feed xs) rest → Begun limit old new longer true
onward limit old mid rest new xs line longer b h keeps no_feed some stands same =
    record {
      read = h.read ++ xs;
      one = All-append (λ b. b ≢ 10) h.read xs h.one (All-same (λ b. b ≢ 10) xs (before_first is_feed xs) (sym all) (no_feed_before xs));
      consumed = subst (λ it. Consumes old it (h.read ++ xs)) (sym (same ∙ ap (λ ys. prepend_known ys rest) (after_none xs none))) (by old rest (Consumes-kept old mid (prepend_known xs rest) h.read h.consumed keeps));
      stands = subst (λ ys. StandsFor limit (h.read ++ ys) longer) all (stands h.read h.stands);
      begun = some_more h.read xs some;
    }
  where
    none : position is_feed xs ≡ None
    none = none_at (position is_feed xs) no_feed

    all : before_first is_feed xs ≡ xs
    all = before_none xs none

    by : (before more : Option (List ℕ)) → Consumes before (prepend_known xs more) h.read → Consumes before (prepend_known [] more) (h.read ++ xs)
    by None more e = tt
    by (Some before) None e = absurd e
    by (Some before) (Some more) e = e ∙ sym (append_assoc h.read xs more)

-- ---- whether the reader was asked

abbrev pub HasFeed : List ℕ → Type 0
HasFeed bytes = IsTrue (is_some (position is_feed bytes))

-- before the first bytes of a line are taken nothing was asked; after them none of the unread ones was a line feed
abbrev pub Held : {R : Type 0} → StdSource R → StdSource R → Bool → Type 0
Held old mid false = (mid.reader ≡ old.reader) × (mid.unread ≡ old.unread)
Held old mid true = ¬ (HasFeed old.unread)

some_unread : (bytes : List ℕ) → HasFeed bytes → bytes ≢ []
some_unread [] feed none = false≢true feed
some_unread (b ∷ bytes) feed none = cc

pub held_reader : {R : Type 0} (old mid : StdSource R) (begun : Bool) → Held old mid begun → HasFeed old.unread → mid.reader ≡ old.reader
held_reader old mid false held feed = held.0
held_reader old mid true held feed = absurd (held feed)

pub held_fill : {R : Type 0} (old mid new : StdSource R) (begun : Bool) → Held old mid begun → (mid.unread ≢ [] → (new.reader ≡ mid.reader) × (new.unread ≡ mid.unread)) → HasFeed old.unread →
    (new.reader ≡ old.reader) × (new.unread ≡ old.unread)
held_fill old mid new false held waits feed =
    let there = subst (λ bytes. bytes ≢ []) (sym held.1) (some_unread old.unread feed) in
    let same = waits there in
    (same.0 ∙ held.0, same.1 ∙ held.1)
held_fill old mid new true held waits feed = absurd (held feed)

pub held_next : {R : Type 0} (old mid new : StdSource R) (begun : Bool) → Held old mid begun → (mid.unread ≢ [] → (new.reader ≡ mid.reader) × (new.unread ≡ mid.unread)) →
    is_some (position is_feed new.unread) ≡ false → ¬ (HasFeed old.unread)
held_next old mid new begun held waits none feed =
    let same = held_fill old mid new begun held waits feed in
    false≢true (sym none ∙ subst HasFeed (sym same.1) feed)
