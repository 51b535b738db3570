-- The numbers under which sets are published, and the tables that they stand for.
use Rattle.std.proofs.Common.{◌≡◌, ◌≢◌, ◌∙◌, ℕ, zero, suc, ◌+◌, ◌<◌, ◌==◌, ◌&&◌, ◌||◌, ◌⊎◌, inl, inr, Bool, true, false, not, cond, nat_lt, List, [], ◌∷◌, ◌++◌, All, Contains, Some, add-one, ap, append_assoc, arith, count_by, flat_map, length, length-append, refl, slice_get, subst, sym, true≢false}
use Rattle.std.proofs.Math.Logic.{∥∥₁_elim}
use Rattle.std.proofs.lemmas.Bool.{eqb-true, lt-ltb}
use Rattle.std.proofs.lemmas.List.Elements.{All-append, All-contains, All-contains_itself, All-cons, All-head, All-nil, All-tail, All-weaker, Contains-append_left, Contains-append_right}
use Rattle.std.proofs.lemmas.List.Sums.{sum_by-append, sum_by-cons}
use Rattle.std.proofs.lemmas.Option.{slice_get_within}
use Rattle.std.specs.Coded.{Coded, Coded-set, codes, coded_bool, coded_option}
use Rattle.std.specs.List.{list_any, sum_by}
use Rattle.ba_audit.specs.Lines.{place_of, set_at}
use Rattle.ba_audit.specs.Tests.{may_publish}
use Rattle.ba_audit.specs.declared.numbered.Numbered.{Numbered}
use Rattle.ba_input.specs.declared.input.Input.{Input}
use Rattle.ba_lanes.proofs.JoinLemmas.{told_by}
use Rattle.ba_lanes.proofs.LineLemmas.{in_its_lane}
use Rattle.ba_lanes.proofs.MergeLemmas.{lane_low}
use Rattle.ba_lanes.proofs.ServeLemmas.{same_length}
use Rattle.ba_lanes.specs.Legal.{AreServed, IsServed, Legal, LineCalls, LineDone, begins, done_in, lane_of, no_calls, on_versions, pin_of, versions_made}
use Rattle.ba_lanes.specs.declared.journal.Journal.{Journal}
use Rattle.ba_script.specs.declared.entry.ScriptEntry.{ScriptEntry}
use Rattle.ba_script.specs.declared.entry.ScriptEntry.TheVariants as said
use Rattle.ba_tables.specs.TableSet.{TableSet}
use Rattle.ba_top.proofs.HistoryLemmas.{AreMade, are_made, is_as, is_publication, same_true}
use Rattle.ba_top.proofs.LaneCounts.{calls_counted}
use Rattle.ba_versions.specs.Reads.{calls_of, published as publication, versions_of}
use Rattle.ba_versions.specs.declared.call.VersionCall.{VersionCall}
use Rattle.ba_versions.specs.declared.call.VersionCall.TheVariants.{Publish, Pin, Refused}

coded_tables : Coded TableSet
coded_tables = hlevel codes

-- ---- what lines publish

abbrev pub numbers_in : ℕ → List VersionCall → List Numbered
numbers_in number [] = []
numbers_in number (Publish tables version ∷ calls) = record { version = version; place = number + 1 } ∷ numbers_in number calls
numbers_in number (Pin version tables ∷ calls) = numbers_in number calls
numbers_in number (Refused ∷ calls) = numbers_in number calls

-- the numbers under which a line publishes the set of its number
abbrev pub numbered_of : ScriptEntry → List VersionCall → List Numbered
numbered_of (said.Begin request name context) calls = []
numbered_of (said.Ask request name text) calls = []
numbered_of (said.Read request name key arguments questions) calls = []
numbered_of (said.End request name) calls = []
numbered_of (said.Publish number set) calls = numbers_in number calls

abbrev pub all_numbered : List ScriptEntry → List LineDone → List Numbered
all_numbered [] its = []
all_numbered (e ∷ es) [] = []
all_numbered (e ∷ es) (it ∷ its) = numbered_of e it.made.versions ++ all_numbered es its

pub all_numbered-append : (front : List ScriptEntry) (its : List LineDone) (rest : List ScriptEntry) (more : List LineDone) → length its ≡ length front →
    all_numbered (front ++ rest) (its ++ more) ≡ all_numbered front its ++ all_numbered rest more
all_numbered-append [] [] rest more long = refl
all_numbered-append [] (it ∷ its) rest more long = absurd (omega (arith, long))
all_numbered-append (e ∷ front) [] rest more long = absurd (omega (arith, long))
all_numbered-append (e ∷ front) (it ∷ its) rest more long =
    ap (λ z. numbered_of e it.made.versions ++ z) (all_numbered-append front its rest more (omega (arith, long)))
    ∙ sym (append_assoc (numbered_of e it.made.versions) (all_numbered front its) (all_numbered rest more))

nothing_more : {X : Type 0} (xs : List X) → xs ++ [] ≡ xs
nothing_more [] = refl
nothing_more (x ∷ xs) = ap (λ z. x ∷ z) (nothing_more xs)

pub all_numbered-push : (front : List ScriptEntry) (its : List LineDone) (e : ScriptEntry) (it : LineDone) → length its ≡ length front →
    all_numbered (front ++ e ∷ []) (its ++ it ∷ []) ≡ all_numbered front its ++ numbered_of e it.made.versions
all_numbered-push front its e it long =
    all_numbered-append front its (e ∷ []) (it ∷ []) long ∙ ap (λ z. all_numbered front its ++ z) (nothing_more (numbered_of e it.made.versions))

-- it has the number
abbrev pub is_named : ℕ → Numbered → Bool
is_named version it = it.version == version

numbers_named : (number version : ℕ) (calls : List VersionCall) → count_by (is_named version) (numbers_in number calls) ≡ count_by (is_as version) calls
numbers_named number version [] = refl
numbers_named number version (Publish tables m ∷ calls) =
    sum_by-cons (λ x. cond (is_named version x) 1 0) (record { version = m; place = number + 1 }) (numbers_in number calls)
    ∙ ap (λ n. cond (m == version) 1 0 + n) (numbers_named number version calls)
    ∙ sym (sum_by-cons (λ x. cond (is_as version x) 1 0) (Publish tables m) calls)
numbers_named number version (Pin m tables ∷ calls) = numbers_named number version calls ∙ omega arith ∙ sym (sum_by-cons (λ x. cond (is_as version x) 1 0) (Pin m tables) calls)
numbers_named number version (Refused ∷ calls) = numbers_named number version calls ∙ omega arith ∙ sym (sum_by-cons (λ x. cond (is_as version x) 1 0) Refused calls)

numbers_long : (number : ℕ) (calls : List VersionCall) → length (numbers_in number calls) ≡ count_by is_publication calls
numbers_long number [] = refl
numbers_long number (Publish tables m ∷ calls) =
    let h = numbers_long number calls in
    let e = sum_by-cons (λ x. cond (is_publication x) 1 0) (Publish tables m) calls in
    omega (arith, h, e)
numbers_long number (Pin m tables ∷ calls) =
    let h = numbers_long number calls in
    let e = sum_by-cons (λ x. cond (is_publication x) 1 0) (Pin m tables) calls in
    omega (arith, h, e)
numbers_long number (Refused ∷ calls) =
    let h = numbers_long number calls in
    let e = sum_by-cons (λ x. cond (is_publication x) 1 0) Refused calls in
    omega (arith, h, e)

-- ---- the calls of a line

-- none of them publishes
record IsQuiet (calls : List VersionCall) : Type 0 where
  as_none : (n : ℕ) → count_by (is_as n) calls ≡ 0
  none : count_by is_publication calls ≡ 0

record Publishes (input : Input) (number : ℕ) (calls : List VersionCall) : Type 0 where
  tables : TableSet
  version : ℕ
  there : slice_get input.published number ≡ Some tables
  calls_are : calls ≡ publication tables version ∷ []

abbrev MadeBy : Input → ScriptEntry → List VersionCall → Type 0
MadeBy input (said.Begin request name context) calls = IsQuiet calls
MadeBy input (said.Ask request name text) calls = IsQuiet calls
MadeBy input (said.Read request name key arguments questions) calls = IsQuiet calls
MadeBy input (said.End request name) calls = IsQuiet calls
MadeBy input (said.Publish number set) calls = (calls ≡ []) ⊎ Publishes input number calls

no_call : (calls : List VersionCall) → calls ≡ [] → IsQuiet calls
no_call calls e = subst IsQuiet (sym e) (record { as_none = λ n. refl; none = refl })

one_pin : (calls : List VersionCall) (n : ℕ) (tables : TableSet) → calls ≡ pin_of n tables ∷ [] → IsQuiet calls
one_pin calls n tables e = subst IsQuiet (sym e) (record { as_none = λ m. refl; none = refl })

one_refusal : (calls : List VersionCall) → calls ≡ Refused ∷ [] → IsQuiet calls
one_refusal calls e = subst IsQuiet (sym e) (record { as_none = λ m. refl; none = refl })

abbrev versions_in : LineDone → List VersionCall
versions_in it = it.made.versions

abbrev calls_in : LineCalls → List VersionCall
calls_in made = made.versions

made_by : (input : Input) (earlier : List LineDone) (e : ScriptEntry) (it : LineDone) → IsServed input earlier e it → MadeBy input e it.made.versions
made_by input earlier (said.Begin request name context) it (inl h) = one_pin it.made.versions h.version h.tables (ap versions_in h.is)
made_by input earlier (said.Begin request name context) it (inr h) = by h.made_is
  where
    by : (it.made ≡ no_calls) ⊎ (it.made ≡ on_versions (Refused ∷ [])) → IsQuiet it.made.versions
    by (inl e) = no_call it.made.versions (ap calls_in e)
    by (inr e) = one_refusal it.made.versions (ap calls_in e)
made_by input earlier (said.Ask request name text) it (inl h) = no_call it.made.versions (ap versions_in h.is)
made_by input earlier (said.Ask request name text) it (inr h) = no_call it.made.versions (ap versions_in h.unserved)
made_by input earlier (said.Read request name key arguments questions) it (inl h) = no_call it.made.versions (ap versions_in h.is)
made_by input earlier (said.Read request name key arguments questions) it (inr h) = no_call it.made.versions (ap versions_in h.unserved)
made_by input earlier (said.End request name) it (inl h) = no_call it.made.versions (ap versions_in h.is)
made_by input earlier (said.End request name) it (inr h) = no_call it.made.versions (ap versions_in h.unserved)
made_by input earlier (said.Publish number set) it (inl h) = inr (record { tables = h.tables; version = h.version; there = h.there; calls_are = ap versions_in h.is })
made_by input earlier (said.Publish number set) it (inr h) = inl (ap versions_in h)

line_named : (input : Input) (e : ScriptEntry) (calls : List VersionCall) (version : ℕ) → MadeBy input e calls → count_by (is_as version) calls ≡ count_by (is_named version) (numbered_of e calls)
line_named input (said.Begin request name context) calls version h = h.as_none version
line_named input (said.Ask request name text) calls version h = h.as_none version
line_named input (said.Read request name key arguments questions) calls version h = h.as_none version
line_named input (said.End request name) calls version h = h.as_none version
line_named input (said.Publish number set) calls version h = sym (numbers_named number version calls)

line_long : (input : Input) (e : ScriptEntry) (calls : List VersionCall) → MadeBy input e calls → count_by is_publication calls ≡ length (numbered_of e calls)
line_long input (said.Begin request name context) calls h = h.none
line_long input (said.Ask request name text) calls h = h.none
line_long input (said.Read request name key arguments questions) calls h = h.none
line_long input (said.End request name) calls h = h.none
line_long input (said.Publish number set) calls h = sym (numbers_long number calls)

-- ---- all lines

module _ (input : Input) where
  abbrev as_in : ℕ → LineDone → ℕ
  as_in version it = count_by (is_as version) it.made.versions

  abbrev publications_in : LineDone → ℕ
  publications_in it = count_by is_publication it.made.versions

  all_named : (version : ℕ) (es : List ScriptEntry) (earlier its : List LineDone) → AreServed input earlier es its → sum_by (as_in version) its ≡ count_by (is_named version) (all_numbered es its)
  all_named version [] earlier [] h = refl
  all_named version [] earlier (it ∷ its) h = absurd h
  all_named version (e ∷ es) earlier [] h = absurd h
  all_named version (e ∷ es) earlier (it ∷ its) h =
      let first = line_named input e it.made.versions version (made_by input earlier e it h.0) in
      let rest = all_named version es (earlier ++ it ∷ []) its h.1 in
      sum_by-cons (as_in version) it its
      ∙ ap (λ n. n + sum_by (as_in version) its) first
      ∙ ap (λ n. count_by (is_named version) (numbered_of e it.made.versions) + n) rest
      ∙ sym (sum_by-append (λ x. cond (is_named version x) 1 0) (numbered_of e it.made.versions) (all_numbered es its))

  all_long : (es : List ScriptEntry) (earlier its : List LineDone) → AreServed input earlier es its → sum_by publications_in its ≡ length (all_numbered es its)
  all_long [] earlier [] h = refl
  all_long [] earlier (it ∷ its) h = absurd h
  all_long (e ∷ es) earlier [] h = absurd h
  all_long (e ∷ es) earlier (it ∷ its) h =
      let first = line_long input e it.made.versions (made_by input earlier e it h.0) in
      let rest = all_long es (earlier ++ it ∷ []) its h.1 in
      sum_by-cons publications_in it its
      ∙ ap (λ n. n + sum_by publications_in its) first
      ∙ ap (λ n. length (numbered_of e it.made.versions) + n) rest
      ∙ sym (length-append (numbered_of e it.made.versions) (all_numbered es its))

  -- the set at the place is the version of the number
  module _ (calls : List VersionCall) (list : List TableSet) (made : AreMade input.tables calls list) where
    abbrev sets : List TableSet
    sets = input.tables ∷ input.published

    abbrev IsRight : Numbered → Type 0
    IsRight x = slice_get sets x.place ≡ slice_get list x.version

    line_right : (e : ScriptEntry) (own : List VersionCall) → MadeBy input e own → ((c : VersionCall) → Contains own c → Contains calls c) → All IsRight (numbered_of e own)
    line_right (said.Begin request name context) own h inside = All-nil IsRight
    line_right (said.Ask request name text) own h inside = All-nil IsRight
    line_right (said.Read request name key arguments questions) own h inside = All-nil IsRight
    line_right (said.End request name) own h inside = All-nil IsRight
    line_right (said.Publish number set) own (inl none) inside = subst (λ z. All IsRight (numbers_in number z)) (sym none) (All-nil IsRight)
    line_right (said.Publish number set) own (inr h) inside =
        let among : Contains calls (publication h.tables h.version) = inside (publication h.tables h.version) (subst (λ z. Contains z (publication h.tables h.version)) (sym h.calls_are) (0, omega arith, refl)) in
        let there = made.published_there h.tables h.version among in
        let right : slice_get sets (number + 1) ≡ slice_get list h.version = ap (slice_get sets) (add-one number) ∙ h.there ∙ sym there.2 in
        subst (λ z. All IsRight (numbers_in number z)) (sym h.calls_are) (All-cons IsRight (record { version = h.version; place = number + 1 }) [] right (All-nil IsRight))

    all_right : (es : List ScriptEntry) (earlier its : List LineDone) → AreServed input earlier es its → All (λ it. (c : VersionCall) → Contains it.made.versions c → Contains calls c) its →
        All IsRight (all_numbered es its)
    all_right [] earlier its h inside = All-nil IsRight
    all_right (e ∷ es) earlier [] h inside = All-nil IsRight
    all_right (e ∷ es) earlier (it ∷ its) h inside =
        All-append IsRight (numbered_of e it.made.versions) (all_numbered es its)
        (line_right e it.made.versions (made_by input earlier e it h.0) (All-head (λ it. (c : VersionCall) → Contains it.made.versions c → Contains calls c) it its inside))
        (all_right es (earlier ++ it ∷ []) its h.1 (All-tail (λ it. (c : VersionCall) → Contains it.made.versions c → Contains calls c) it its inside))

    looked_up : (version : ℕ) (ns : List Numbered) → All IsRight ns → 0 < count_by (is_named version) ns → set_at sets (place_of version ns) ≡ slice_get list version
    looked_up version [] right some = absurd (omega (arith, some))
    looked_up version (x ∷ ns) right some = by (x.version == version) refl (looked_up version ns (All-tail IsRight x ns right))
      where
        by : (t : Bool) → (x.version == version) ≡ t → (0 < count_by (is_named version) ns → set_at sets (place_of version ns) ≡ slice_get list version) →
            set_at sets (cond t (Some x.place) (place_of version ns)) ≡ slice_get list version
        by true e more = All-head IsRight x ns right ∙ ap (slice_get list) (eqb-true x.version version e)
        by false e more =
            let c : count_by (is_named version) (x ∷ ns) ≡ count_by (is_named version) ns =
            sum_by-cons (λ y. cond (is_named version y) 1 0) x ns ∙ ap (λ t. cond t 1 0 + count_by (is_named version) ns) e ∙ omega arith in
            more (omega (arith, c, some))

any_counted : {X : Type 0} (p : X → Bool) (xs : List X) → list_any p xs ≡ true → 0 < count_by p xs
any_counted p [] e = absurd (true≢false (sym e))
any_counted p (x ∷ xs) e = by (p x) refl e (any_counted p xs)
  where
    counted : count_by p (x ∷ xs) ≡ cond (p x) 1 0 + count_by p xs
    counted = sum_by-cons (λ y. cond (p y) 1 0) x xs

    by : (t : Bool) → p x ≡ t → (t || list_any p xs) ≡ true → (list_any p xs ≡ true → 0 < count_by p xs) → 0 < count_by p (x ∷ xs)
    by true is h more = let c : count_by p (x ∷ xs) ≡ 1 + count_by p xs = counted ∙ ap (λ t. cond t 1 0 + count_by p xs) is in omega (arith, c)
    by false is h more =
        let c : count_by p (x ∷ xs) ≡ 0 + count_by p xs = counted ∙ ap (λ t. cond t 1 0 + count_by p xs) is in
        let some = more h in
        omega (arith, c, some)

all_three : (a b c : Bool) → a ≡ true → b ≡ true → c ≡ false → (a && (b && not c)) ≡ true
all_three true true false e f g = refl
all_three true true true e f g = absurd (true≢false g)
all_three true false c e f g = absurd (true≢false (sym f))
all_three false b c e f g = absurd (true≢false (sym e))

-- ---- what is known of the versions

-- the words' set is version 0
abbrev pub numbered_all : Input → List LineDone → List Numbered
numbered_all input served = record { version = 0; place = 0 } ∷ all_numbered input.script.entries served

-- a publish line, among others
pub record IsPublishing (input : Input) (served : List LineDone) (front : List ScriptEntry) (its : List LineDone) (version : ℕ) : Type 0 where
  pub number : ℕ
  pub set : List ℕ
  pub rest : List ScriptEntry
  pub it : LineDone
  pub tables : TableSet
  pub more : List LineDone
  pub long : length its ≡ length front
  pub lines_are : input.script.entries ≡ front ++ said.Publish number set ∷ rest
  pub its_are : served ≡ its ++ it ∷ more
  pub calls_are : it.made.versions ≡ publication tables version ∷ []

pub record KnowsVersions (input : Input) (served : List LineDone) : Type 0 where
  pub there : (k version : ℕ) (tables : TableSet) → Contains served (begins k version tables) →
      set_at (input.tables ∷ input.published) (place_of version (numbered_all input served)) ≡ Some tables
  pub may : (front : List ScriptEntry) (its : List LineDone) (version : ℕ) → IsPublishing input served front its version →
      may_publish (numbered_all input served) (all_numbered front its) (Some version) ≡ true

flat_contains : {A B : Type 0} (f : A → List B) (xs : List A) (x : A) (y : B) → Contains xs x → Contains (f x) y → Contains (flat_map f xs) y
flat_contains f xs x y h inside = All-contains (λ z. Contains (f z) y → Contains (flat_map f xs) y) xs x (each xs) h inside
  where
    each : (l : List _) → All (λ z. Contains (f z) y → Contains (flat_map f l) y) l
    each [] = All-nil (λ z. Contains (f z) y → Contains (flat_map f []) y)
    each (z ∷ l) =
        All-cons (λ w. Contains (f w) y → Contains (flat_map f (z ∷ l)) y) z l (λ c. Contains-append_left (f z) (flat_map f l) y c)
        (All-weaker (λ w. Contains (f w) y → Contains (flat_map f l) y) (λ w. Contains (f w) y → Contains (flat_map f (z ∷ l)) y)
        (λ w go c. Contains-append_right (f z) (flat_map f l) y (go c)) l (each l))

module _ (input : Input) (journal : Journal) (legal : Legal input journal) where
  abbrev served : List LineDone
  served = legal.served

  abbrev calls : List VersionCall
  calls = calls_of journal.histories.versions

  abbrev list : List TableSet
  list = versions_of journal.histories.versions

  long : length served ≡ length input.script.entries
  long = same_length input [] input.script.entries served legal.lines

  -- a call of a line stands in the history
  among : (it : LineDone) (c : VersionCall) → Contains served it → Contains it.made.versions c → Contains calls c
  among it c inside own =
      let there = in_its_lane (lane_of input.workers) input.workers input.script.entries served it long (lane_low input legal.input_fits.workers.0) inside in
      let lane : Contains (versions_made (done_in input served there.0)) c = flat_contains versions_in (done_in input served there.0) it c there.2 own in
      subst (λ z. Contains z c) (sym legal.versions.calls.calls_are)
      (told_by (there.0 + 1) legal.versions.calls.log c (subst (λ z. Contains z c) (sym (legal.versions.calls.each there.0 there.1)) lane))

  all_among : All (λ it. (c : VersionCall) → Contains it.made.versions c → Contains calls c) served
  all_among = All-weaker (Contains served) (λ it. (c : VersionCall) → Contains it.made.versions c → Contains calls c) (λ it inside c own. among it c inside own) served (All-contains_itself served)

  counted : (p : VersionCall → Bool) → count_by p calls ≡ sum_by (λ (it : LineDone). count_by p it.made.versions) served
  counted p = calls_counted p versions_in (lane_of input.workers) input.workers (lane_low input legal.input_fits.workers.0) input.script.entries served calls journal.histories.numbers.items long legal.versions.calls

  module _ (made : AreMade input.tables calls list) where
    named : (version : ℕ) → count_by (is_named version) (all_numbered input.script.entries served) ≡ count_by (is_as version) calls
    named version = sym (counted (is_as version) ∙ all_named input version input.script.entries [] served legal.lines)

    many : length list ≡ length (numbered_all input served)
    many = let a = made.long in let b : count_by is_publication calls ≡ length (all_numbered input.script.entries served) = counted is_publication ∙ all_long input input.script.entries [] served legal.lines in omega (arith, a, b)

    right : All (IsRight input calls list made) (numbered_all input served)
    right = All-cons (IsRight input calls list made) (record { version = 0; place = 0 }) (all_numbered input.script.entries served) (sym made.first)
        (all_right input calls list made input.script.entries [] served legal.lines all_among)

    named_some : (version : ℕ) → version < length list → 0 < count_by (is_named version) (numbered_all input served)
    named_some zero low =
        let c = sum_by-cons (λ y. cond (is_named 0 y) 1 0) (record { version = 0; place = 0 }) (all_numbered input.script.entries served) in
        omega (arith, c)
    named_some (suc n) low =
        let c = sum_by-cons (λ y. cond (is_named (suc n) y) 1 0) (record { version = 0; place = 0 }) (all_numbered input.script.entries served) in
        let one = made.each (suc n) (omega arith) low in
        let e = named (suc n) in
        omega (arith, c, one, e)

    at_version : (k version : ℕ) (tables : TableSet) → Contains served (begins k version tables) →
        set_at (input.tables ∷ input.published) (place_of version (numbered_all input served)) ≡ Some tables
    at_version k version tables inside =
        let pinned : slice_get list version ≡ Some tables = made.pinned_there version tables (among (begins k version tables) (pin_of version tables) inside (0, omega arith, refl)) in
        looked_up input calls list made version (numbered_all input served) right (named_some version (slice_get_within list version tables pinned)) ∙ pinned

    publishes : (front : List ScriptEntry) (its : List LineDone) (version : ℕ) → IsPublishing input served front its version →
        may_publish (numbered_all input served) (all_numbered front its) (Some version) ≡ true
    publishes front its version h =
        all_three (nat_lt 0 version) (nat_lt version (length (numbered_all input served))) (list_any (is_named version) (all_numbered front its))
        (lt-ltb 0 version there.0) (lt-ltb version (length (numbered_all input served)) low) (unused (list_any (is_named version) (all_numbered front its)) refl)
      where
        inside : Contains served h.it
        inside = subst (λ z. Contains z h.it) (sym h.its_are) (Contains-append_right its (h.it ∷ h.more) h.it (0, omega arith, refl))

        there : (0 < version) × (version < length list) × (slice_get list version ≡ Some h.tables)
        there = made.published_there h.tables version
            (among h.it (publication h.tables version) inside (subst (λ z. Contains z (publication h.tables version)) (sym h.calls_are) (0, omega arith, refl)))

        low : version < length (numbered_all input served)
        low = let m = many in let l = there.1 in omega (arith, m, l)

        whole : all_numbered input.script.entries served ≡ all_numbered front its ++ (numbered_of (said.Publish h.number h.set) h.it.made.versions ++ all_numbered h.rest h.more)
        whole = ap (λ z. all_numbered z served) h.lines_are ∙ ap (all_numbered (front ++ said.Publish h.number h.set ∷ h.rest)) h.its_are
            ∙ all_numbered-append front its (said.Publish h.number h.set ∷ h.rest) (h.it ∷ h.more) h.long

        own : count_by (is_named version) (numbered_of (said.Publish h.number h.set) h.it.made.versions) ≡ 1
        own = numbers_named h.number version h.it.made.versions ∙ ap (count_by (is_as version)) h.calls_are ∙ ap (λ t. 0 + cond t 1 0) (same_true version)

        sums : count_by (is_named version) (all_numbered input.script.entries served)
            ≡ count_by (is_named version) (all_numbered front its) + (1 + count_by (is_named version) (all_numbered h.rest h.more))
        sums = ap (count_by (is_named version)) whole
            ∙ sum_by-append (λ x. cond (is_named version x) 1 0) (all_numbered front its) (numbered_of (said.Publish h.number h.set) h.it.made.versions ++ all_numbered h.rest h.more)
            ∙ ap (λ n. count_by (is_named version) (all_numbered front its) + n)
            (sum_by-append (λ x. cond (is_named version x) 1 0) (numbered_of (said.Publish h.number h.set) h.it.made.versions) (all_numbered h.rest h.more)
            ∙ ap (λ n. n + count_by (is_named version) (all_numbered h.rest h.more)) own)

        unused : (t : Bool) → list_any (is_named version) (all_numbered front its) ≡ t → list_any (is_named version) (all_numbered front its) ≡ false
        unused false e = e
        unused true e =
            let some = any_counted (is_named version) (all_numbered front its) e in
            let s = sums in
            let n = named version in
            let one = made.once version in
            absurd (omega (arith, some, s, n, one))

  pub knows_versions : KnowsVersions input served
  knows_versions = record {
    there = λ k version tables inside. ∥∥₁_elim legal.versions.legal (Coded-set (coded_option coded_tables) _ _) (λ it. at_version (are_made input.tables it) k version tables inside);
    may = λ front its version h. ∥∥₁_elim legal.versions.legal (Coded-set coded_bool _ _) (λ it. publishes (are_made input.tables it) front its version h);
  }
