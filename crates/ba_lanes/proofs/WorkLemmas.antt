-- The lanes of a run before, while and after they are joined.
use Rattle.std.proofs.Common.{◌≡◌, ◌≢◌, ◌∙◌, refl, sym, ap, subst, ℕ, suc, zero, ◌+◌, ◌<◌, ◌≤◌, ◌⊎◌, inl, inr, Bool, true, false, List, [], ◌∷◌, ◌++◌, length, map, take, drop, get_or, drop-cons, add-one, length-append, append_assoc, Result, Ok, Err, arith}
use Rattle.std.proofs.Math.ListN.{get_or-append}
use Rattle.std.proofs.Math.Seq.{get_or-append_seam}
use Rattle.std.proofs.lemmas.Bool.Decides.{nat_tests}
use Rattle.std.proofs.lemmas.List.{take_all, take_more}
use Rattle.std.specs.Prelude.{IfOk, nat_lt, slice_set}
use Rattle.ba_input.specs.declared.input.Input.{Input}
use Rattle.ba_session.specs.Passing.{AreJoined, AreOf}
use Rattle.ba_session.specs.declared.service.Passes.{Passes}
use Rattle.ba_session.specs.declared.service.Service.{Service}
use Rattle.ba_lanes.proofs.HistoryLemmas.{have_joined_more, have_joined_none, has_made, still_see, sum_up}
use Rattle.ba_lanes.proofs.LineLemmas.{nothing_more, other_end, other_line, own_end, own_line, same_or_not}
use Rattle.ba_lanes.specs.Lanes.{lines_of, of_lane}
use Rattle.ba_lanes.specs.Legal.{AreLoads, LineDone, Load}
use Rattle.ba_lanes.specs.Serving.{AreUnused, HasDone, HasServed, HaveJoined, IsDone, SeeLoads, SeeMore, SumUp}
use Rattle.ba_lanes.specs.Working.{AreGathered, AreSplitOff, IsWork}
use Rattle.ba_lanes.specs.declared.lane.Lane.{Lane}
use Rattle.ba_lanes.specs.declared.journal.Entry.{Entry}
use Rattle.ba_lanes.specs.declared.work.Work.{Work}

-- ---- one lane

pub is_done : (input : Input) (service : Service) (k : ℕ) (first : Passes) (lane : Lane) → AreUnused k first → HasServed input service first k input.script.entries lane → IsDone input service k lane
is_done input service k first lane unused h = record {
  served = h.served;
  has = record {
    entries = h.entries;
    lines_are = h.lines_are;
    of = h.of;
    versions = has_made k _ _ _ unused.versions h.makes.versions;
    shelves = λ i low. has_made k _ _ _ (unused.shelves i low) (h.makes.shelves i low);
  };
}

-- ---- lists by their places

-- one more element, with what is known of it
pub each_more : {X : Type 0} (Q : ℕ → X → Type 0) (xs ys : List X) (n : ℕ) (x : X) → ((k : ℕ) (d : X) → k < n → Q k (get_or xs k d)) → ys ≡ xs ++ x ∷ [] → length xs ≡ n → Q n x → (k : ℕ) (d : X) → k < n + 1 → Q k (get_or ys k d)
each_more Q xs ys n x all more long here k d low = by (same_or_not k n)
  where
    by : (k ≡ n) ⊎ (k ≢ n) → Q k (get_or ys k d)
    by (inl e) =
        let at : x ≡ get_or ys k d = sym (ap (λ l. get_or l k d) more ∙ ap (λ m. get_or (xs ++ x ∷ []) m d) (e ∙ sym long) ∙ get_or-append_seam xs x [] d) in
        subst (Q k) at (subst (λ m. Q m x) (sym e) here)
    by (inr differ) =
        let at : get_or xs k d ≡ get_or ys k d = sym (ap (λ l. get_or l k d) more ∙ get_or-append xs (x ∷ []) d k (omega (arith, long, low, differ))) in
        subst (Q k) at (all k d (omega (arith, low, differ)))

-- ---- one family of what all lanes did

record Chosen {X : Type 0} (w : ℕ) (Q : ℕ → X → Type 0) (none : X) : Type 0 where
  pub at : ℕ → X
  pub is : (k : ℕ) → k < w → Q k (at k)

chosen : {X : Type 0} (w : ℕ) (Q : ℕ → X → Type 0) (none : X) → ((k : ℕ) → k < w → (x : X) × Q k x) → Chosen w Q none
chosen {X} w Q none each = record { at = λ k. (pick k (nat_lt k w) refl).0; is = λ k low. (pick k (nat_lt k w) refl).1 low }
  where
    pick : (k : ℕ) (t : Bool) → nat_lt k w ≡ t → (x : X) × (k < w → Q k x)
    pick k true e = let it = each k (let t = e in grind (arith, nat_tests)) in (it.0, λ low. it.1)
    pick k false e = (none, λ low. absurd (let t = e in grind (arith, nat_tests)))

-- ---- queues that are merged

set_here : {X : Type 0} (xs : List X) (n : ℕ) (x d : X) → n < length xs → get_or (slice_set xs n x) n d ≡ x
set_here [] n x d low = absurd (omega (arith, low))
set_here (y ∷ xs) zero x d low = refl
set_here (y ∷ xs) (suc n) x d low = set_here xs n x d (omega (arith, low))

set_there : {X : Type 0} (xs : List X) (n k : ℕ) (x d : X) → k ≢ n → get_or (slice_set xs n x) k d ≡ get_or xs k d
set_there [] n k x d differ = refl
set_there (y ∷ xs) zero zero x d differ = absurd (differ refl)
set_there (y ∷ xs) zero (suc k) x d differ = refl
set_there (y ∷ xs) (suc n) zero x d differ = refl
set_there (y ∷ xs) (suc n) (suc k) x d differ = set_there xs n k x d (λ e. differ (ap suc e))

set_long : {X : Type 0} (xs : List X) (n : ℕ) (x : X) → length (slice_set xs n x) ≡ length xs
set_long [] n x = refl
set_long (y ∷ xs) zero x = refl
set_long (y ∷ xs) (suc n) x = ap suc (set_long xs n x)

-- Of lanes' queues, what is taken for the first i lines and what is left in them.
pub record Merging {L X Q : Type 0} (items : Q → List X) (lane : L → ℕ) (w : ℕ) (lines : List L) (first : List Q) (i : ℕ) (queues : List Q) (taken : List X) : Type 0 where
  pub many : length taken ≡ length (take i lines)
  pub as_many : length queues ≡ w
  pub each : (k : ℕ) (d : Q) → k < w → of_lane lane k (take i lines) taken ++ items (get_or queues k d) ≡ items (get_or first k d)
  pub left : (k : ℕ) (d : Q) → k < w → length (items (get_or queues k d)) ≡ length (lines_of lane k (drop i lines))

module _ {L X Q : Type 0} (items : Q → List X) (lane : L → ℕ) (w : ℕ) (lines : List L) (first : List Q) where
  pub merging_none : length first ≡ w → ((k : ℕ) (d : Q) → k < w → length (items (get_or first k d)) ≡ length (lines_of lane k lines)) → Merging items lane w lines first 0 first []
  merging_none long left = record { many = refl; as_many = long; each = λ k d low. refl; left = left }

  module _ (i : ℕ) (line : L) (below : i < length lines) (at : line ≡ get_or lines i line) (queues : List Q) (taken : List X) (h : Merging items lane w lines first i queues taken) (low : lane line < w) where
    rest_is : drop i lines ≡ line ∷ drop (i + 1) lines
    rest_is = drop-cons lines i line below ∙ ap (λ z. z ∷ drop (suc i) lines) (sym at) ∙ ap (λ z. line ∷ drop z lines) (sym (add-one i))

    front_is : take (i + 1) lines ≡ take i lines ++ line ∷ []
    front_is = take_more lines i line below ∙ ap (λ z. take i lines ++ z ∷ []) (sym at)

    -- the line's queue isn't empty
    pub some_left : (d : Q) → 0 < length (items (get_or queues (lane line) d))
    some_left d =
        let left = h.left (lane line) d low in
        let rest = ap (λ z. length (lines_of lane (lane line) z)) rest_is in
        let own = ap length (own_line lane line (drop (i + 1) lines)) in
        omega (arith, left, rest, own)

    pub merging_more : (old new : Q) (x : X) (next : List Q) (more : List X) → ((d : Q) → old ≡ get_or queues (lane line) d) → items old ≡ x ∷ items new → next ≡ slice_set queues (lane line) new → more ≡ taken ++ x ∷ [] →
        Merging items lane w lines first (i + 1) next more
    merging_more old new x next more old_is popped next_is more_is = record {
      many = let m = h.many in omega (arith, m, ap length more_is, length-append taken (x ∷ []), ap length front_is, length-append (take i lines) (line ∷ []));
      as_many = ap length next_is ∙ set_long queues (lane line) new ∙ h.as_many;
      each = λ k d inside. each k d inside (same_or_not (lane line) k);
      left = λ k d inside. left k d inside (same_or_not (lane line) k);
    }
      where
        taken_is : (k : ℕ) → of_lane lane k (take (i + 1) lines) more ≡ of_lane lane k (take i lines ++ line ∷ []) (taken ++ x ∷ [])
        taken_is k = λ j. of_lane lane k (front_is j) (more_is j)

        each : (k : ℕ) (d : Q) → k < w → (lane line ≡ k) ⊎ (lane line ≢ k) → of_lane lane k (take (i + 1) lines) more ++ items (get_or next k d) ≡ items (get_or first k d)
        each k d inside (inl e) =
            let here : get_or next k d ≡ new =
            ap (λ z. get_or z k d) next_is ∙ ap (λ z. get_or (slice_set queues (lane line) new) z d) (sym e) ∙ set_here queues (lane line) new d (let m = h.as_many in omega (arith, m, low)) in
            ap (λ z. z ++ items (get_or next k d)) (taken_is k ∙ own_end lane k (take i lines) taken line x h.many e)
            ∙ ap (λ z. (of_lane lane k (take i lines) taken ++ x ∷ []) ++ items z) here
            ∙ append_assoc (of_lane lane k (take i lines) taken) (x ∷ []) (items new)
            ∙ ap (λ z. of_lane lane k (take i lines) taken ++ z) (sym popped ∙ ap items (old_is d ∙ ap (λ z. get_or queues z d) e))
            ∙ h.each k d inside
        each k d inside (inr differ) =
            let there : get_or next k d ≡ get_or queues k d = ap (λ z. get_or z k d) next_is ∙ set_there queues (lane line) k new d (λ same. differ (sym same)) in
            ap (λ z. z ++ items (get_or next k d)) (taken_is k ∙ other_end lane k (take i lines) taken line x h.many differ)
            ∙ ap (λ z. of_lane lane k (take i lines) taken ++ items z) there ∙ h.each k d inside

        left : (k : ℕ) (d : Q) → k < w → (lane line ≡ k) ⊎ (lane line ≢ k) → length (items (get_or next k d)) ≡ length (lines_of lane k (drop (i + 1) lines))
        left k d inside (inl e) =
            let here : get_or next k d ≡ new =
            ap (λ z. get_or z k d) next_is ∙ ap (λ z. get_or (slice_set queues (lane line) new) z d) (sym e) ∙ set_here queues (lane line) new d (let m = h.as_many in omega (arith, m, low)) in
            let before : length (items old) ≡ length (lines_of lane k (drop i lines)) = ap (λ z. length (items z)) (old_is d ∙ ap (λ z. get_or queues z d) e) ∙ h.left k d inside in
            let rest : length (lines_of lane k (drop i lines)) ≡ suc (length (lines_of lane k (drop (i + 1) lines))) =
            ap (λ z. length (lines_of lane k z)) rest_is ∙ subst (λ z. length (lines_of lane z (line ∷ drop (i + 1) lines)) ≡ suc (length (lines_of lane z (drop (i + 1) lines)))) e (ap length (own_line lane line (drop (i + 1) lines))) in
            omega (arith, ap (λ z. length (items z)) here, ap length popped, before, rest)
        left k d inside (inr differ) =
            let there : get_or next k d ≡ get_or queues k d = ap (λ z. get_or z k d) next_is ∙ set_there queues (lane line) k new d (λ same. differ (sym same)) in
            ap (λ z. length (items z)) there ∙ h.left k d inside ∙ ap (λ z. length (lines_of lane k z)) rest_is ∙ ap length (other_line lane k line (drop (i + 1) lines) differ)

  -- once all lines are taken for, nothing is left
  pub merging_all : (i : ℕ) (queues : List Q) (taken : List X) → length lines ≤ i → Merging items lane w lines first i queues taken →
      (length taken ≡ length lines) × ((k : ℕ) (d : Q) → k < w → of_lane lane k lines taken ≡ items (get_or first k d))
  merging_all i queues taken past h = (
    h.many ∙ ap length (take_all i lines past),
    λ k d inside.
        let none : items (get_or queues k d) ≡ [] = empty (items (get_or queues k d)) (h.left k d inside ∙ ap (λ z. length (lines_of lane k z)) (drop_all i lines past)) in
        sym (nothing_more (of_lane lane k lines taken)) ∙ ap (λ z. of_lane lane k lines taken ++ z) (sym none)
        ∙ ap (λ z. of_lane lane k z taken ++ items (get_or queues k d)) (sym (take_all i lines past)) ∙ h.each k d inside,
  )
    where
      empty : (xs : List X) → length xs ≡ 0 → xs ≡ []
      empty [] e = refl
      empty (x ∷ xs) e = absurd (omega (arith, e))

      drop_all : (i : ℕ) (ls : List L) → length ls ≤ i → drop i ls ≡ []
      drop_all zero [] past = refl
      drop_all zero (l ∷ ls) past = absurd (omega (arith, past))
      drop_all (suc i) [] past = refl
      drop_all (suc i) (l ∷ ls) past = drop_all i ls (omega (arith, past))

-- ---- lanes that are joined

-- what is left of a list begins with its next element
pub next_of : {X : Type 0} (xs : List X) (n : ℕ) (x : X) (rest : List X) → drop n xs ≡ x ∷ rest → (n < length xs) × ((d : X) → x ≡ get_or xs n d) × (rest ≡ drop (suc n) xs)
next_of [] zero x rest e = absurd (cc)
next_of [] (suc n) x rest e = absurd (cc)
next_of (y ∷ xs) zero x rest e = let first : y ≡ x = cc in let behind : xs ≡ rest = cc in (omega arith, λ d. sym first, sym behind)
next_of (y ∷ xs) (suc n) x rest e = let h = next_of xs n x rest e in let low = h.0 in (omega (arith, low), h.1, h.2)

pub none_of : {X : Type 0} (xs : List X) (n : ℕ) → length (drop n xs) ≡ 0 → length xs ≤ n
none_of [] n e = omega arith
none_of (y ∷ xs) zero e = absurd (omega (arith, e))
none_of (y ∷ xs) (suc n) e = let h = none_of xs n e in omega (arith, h)

pub get_any : {X : Type 0} (xs : List X) (k : ℕ) (d e : X) → k < length xs → get_or xs k d ≡ get_or xs k e
get_any [] k d e low = absurd (omega (arith, low))
get_any (x ∷ xs) zero d e low = refl
get_any (x ∷ xs) (suc k) d e low = get_any xs k d e (omega (arith, low))

-- a call that went well gives a value of which a part is known
pub when_ok : {X E A : Type 0} (r : Result X E) (part : X → A) (a : A) → IfOk r (λ x. part x ≡ a) → (P : A → Type 0) → P a → IfOk r (λ x. P (part x))
when_ok (Ok x) part a is P p = subst P (sym is) p
when_ok (Err e) part a is P p = tt

pub some_of : {X : Type 0} (xs : List X) → 0 < length xs → X
some_of [] low = absurd (omega (arith, low))
some_of (x ∷ xs) low = x

-- the lanes are done, each over the input and the service that its work had
pub off_done : {R S : Type 0} (input : Input) (works done : List (Work R S)) (p : Passes) → AreSplitOff input works p →
    ((k : ℕ) (d : Work R S) → k < input.workers → SeeMore (get_or works k d).lane.passes (get_or done k d).lane.passes) → AreSplitOff input done p
off_done input works done p off more = record {
  loads = off.loads;
  loaded = off.loaded;
  split = off.split;
  see = λ k d low. still_see off.loads (get_or works k d).lane.passes (get_or done k d).lane.passes (more k d low) (off.see k d low);
}

pub done_by : {R S : Type 0} (orders_of : S → ℕ) (input : Input) (service : Service) (k : ℕ) (it new : Work R S) → IsWork orders_of input service k it → IsDone it.input.now it.service.now k new.lane → IsDone input service k new.lane
done_by orders_of input service k it new work h = subst (λ (z : Input × Service). IsDone z.0 z.1 k new.lane) (λ i. (work.input_is i, work.service_is i)) h

module _ {R S Q : Type 0} (items : Q → List Entry) (input : Input) (service : Service) (works : List (Work R S)) where
  -- what is known once the first i lanes are joined
  pub record Gathering (i : ℕ) (queues : List Q) (p : Passes) : Type 0 where
    pub loads : List Load
    pub loaded : AreLoads input loads
    pub done : ℕ → List LineDone
    pub see : (k : ℕ) (d : Work R S) → k < input.workers → SeeLoads loads (get_or works k d).lane.passes
    pub all : (k : ℕ) (d : Work R S) → k < input.workers → HasDone input service k (done k) (get_or works k d).lane
    pub at_most : i ≤ input.workers
    pub many : length queues ≡ i
    pub entries : (k : ℕ) (d : Q) → k < i → items (get_or queues k d) ≡ map (λ it. it.entry) (done k)
    pub joined : HaveJoined loads input.workers i done p
    pub of : AreOf service p
    pub sums : 0 < i → SumUp p

  pub gathering_none : (p : Passes) → 0 < input.workers → length works ≡ input.workers → AreOf service p → AreSplitOff input works p → ((k : ℕ) (d : Work R S) → k < input.workers → IsDone input service k (get_or works k d).lane) → Gathering 0 [] p
  gathering_none p some many of off dones = record {
    loads = off.loads;
    loaded = off.loaded;
    done = family.at;
    see = off.see;
    all = λ k d low. subst (λ z. HasDone input service k (family.at k) z.lane) (get_any works k one d (omega (arith, low, many))) (family.is k low);
    at_most = omega arith;
    many = refl;
    entries = λ k d low. absurd (omega (arith, low));
    joined = have_joined_none off.loads input.workers family.at p off.split;
    of = of;
    sums = λ low. absurd (omega (arith, low));
  }
    where
      one : Work R S
      one = some_of works (omega (arith, some, many))

      family : Chosen input.workers (λ k served. HasDone input service k served (get_or works k one).lane) []
      family = chosen input.workers (λ k served. HasDone input service k served (get_or works k one).lane) [] (λ k low. let it = dones k one low in (it.served, it.has))

  pub gathering_more : (i : ℕ) (queues more : List Q) (old new : Passes) (work : Work R S) (queue : Q) → i < input.workers → ((d : Work R S) → work ≡ get_or works i d) → Gathering i queues old →
      AreJoined old work.lane.passes new → AreOf service new → items queue ≡ work.lane.entries.items → more ≡ queues ++ queue ∷ [] → Gathering (i + 1) more new
  gathering_more i queues more old new work queue low work_is h joined of queue_is more_is = record {
    loads = h.loads;
    loaded = h.loaded;
    done = h.done;
    see = h.see;
    all = h.all;
    at_most = omega (arith, low);
    many = let m = h.many in omega (arith, m, ap length more_is, length-append queues (queue ∷ []));
    entries = each_more (λ k it. items it ≡ map (λ it. it.entry) (h.done k)) queues more i queue h.entries more_is h.many (queue_is ∙ own.entries);
    joined = have_joined_more h.loads input.workers i h.done old work.lane.passes new joined h.joined own.versions own.shelves (subst (λ z. SeeLoads h.loads z.lane.passes) (sym (work_is work)) (h.see i work low));
    of = of;
    sums = λ some. sum_up h.loads input.workers i h.done old work.lane.passes new joined;
  }
    where
      own : HasDone input service i (h.done i) work.lane
      own = subst (λ z. HasDone input service i (h.done i) z.lane) (sym (work_is work)) (h.all i work low)

  pub gathered : (i : ℕ) (queues : List Q) (p : Passes) (d : Q) → length works ≡ input.workers → 0 < input.workers → input.workers ≤ i → Gathering i queues p → AreGathered input (λ k. items (get_or queues k d)) p
  gathered i queues p d long some past h = record {
    loads = h.loads;
    loaded = h.loaded;
    done = h.done;
    entries = λ k low. h.entries k d (omega (arith, low, past));
    lines = λ k low. (h.all k (some_of works (omega (arith, some, long))) low).lines_are;
    joined = subst (λ n. HaveJoined h.loads input.workers n h.done p) all h.joined;
    sums = h.sums (omega (arith, some, past));
  }
    where
      all : i ≡ input.workers
      all = let most = h.at_most in omega (arith, most, past)
