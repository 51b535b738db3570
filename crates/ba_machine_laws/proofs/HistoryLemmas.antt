-- What the histories of a legal journal tell of its lines' calls.
use mathlib.Core.List.{map-append}
use Rattle.std.proofs.Common.{◌≡◌, ◌∙◌, ℕ, zero, suc, ◌+◌, ◌<◌, ◌==◌, Bool, true, false, cond, List, [], ◌∷◌, ◌++◌, All, Contains, Some, ap, append-nil, arith, flat_map, get_or, inl, inr, length, length-append, map, refl, slice_get, subst, sym, take, ◌⊎◌}
use Rattle.std.proofs.Math.Logic.{∥∥₁_map, ∥∥₁_map₂}
use Rattle.std.proofs.Math.Nat.{mod-lt}
use Rattle.std.proofs.lemmas.Bool.{eqb-false}
use Rattle.std.proofs.lemmas.List.Concat.{flat_map-append}
use Rattle.std.proofs.lemmas.List.Elements.{All-append, All-contains, All-contains_itself, All-cons, All-from_get_or, All-from_recursion, All-get_or, All-head, All-nil, All-push, All-tail, All-weaker, Contains-append_left, Contains-append_right, Contains-push_cases, recursion_from_All}
use Rattle.std.specs.List.{AllByRecursion}
use Rattle.ba_machine_laws.proofs.KeyLemmas.{get_before}
use Rattle.ba_machine_laws.specs.Agreeing.{HasFound}
use Rattle.ba_machine_laws.specs.Shelves.{FoundIsAdmitted, HasAdmitted, added_in, templates_of}
use Rattle.ba_machine_laws.specs.Whole.{AreSound}
use Rattle.ba_cache.specs.Passes.{ClosedShelf}
use Rattle.ba_cache.specs.Reads as shelf
use Rattle.ba_cache.specs.Rows as shelves
use Rattle.ba_cache.specs.Rows.{Row, count_added}
use Rattle.ba_cache.specs.declared.call.Admit.TheVariants.{Added, Known}
use Rattle.ba_cache.specs.declared.call.ShelfCall.{ShelfCall}
use Rattle.ba_cache.specs.declared.call.ShelfCall.TheVariants as calls
use Rattle.ba_core.specs.State.{State}
use Rattle.ba_input.specs.declared.input.Input.{Input}
use Rattle.ba_kernel.specs.Problems.{StrongAll}
use Rattle.ba_kernel.specs.SearchStates.{Proof}
use Rattle.ba_lanes.proofs.JoinLemmas.{told_by}
use Rattle.ba_lanes.proofs.MergeLemmas.{lane_low}
use Rattle.ba_lanes.proofs.ServeLemmas.{same_length}
use Rattle.ba_lanes.specs.Lanes.{AreOfLanes, by_opening, of_lane}
use Rattle.ba_lanes.specs.Legal.{Legal, LineDone, admits_on, done_in, lane_of, pin_of, shelf_calls_of}
use Rattle.ba_lanes.specs.declared.journal.Journal.{Journal}
use Rattle.ba_model.specs.declared.query.Query.{Query}
use Rattle.ba_machine_laws.specs.Journals.{IsMachineOf, number_by_shelf, templates_in}
use Rattle.ba_session.specs.Asking.{HasNoVerdict, IsGround, Replies, look_at}
use Rattle.ba_session.specs.KeyReads.{AreGrounds, KeyReads}
use Rattle.ba_session.specs.Passing.{ShelfCalls, calls_on, on_shelf}
use Rattle.ba_session.specs.declared.reply.By.{By}
use Rattle.ba_session.specs.declared.reply.By.TheVariants as by
use Rattle.ba_session.specs.declared.reply.KeyReply.{KeyReply}
use Rattle.ba_session.specs.declared.reply.KeyReply.TheVariants as key_reply
use Rattle.ba_session.specs.declared.reply.Reply.{Reply}
use Rattle.ba_session.specs.declared.reply.Reply.TheVariants.{Answer, Blocked, Unread, NoMemory}
use Rattle.ba_session.specs.declared.request.Request.{Request}
use Rattle.ba_settle.specs.Settling.{Effort}
use Rattle.ba_model.specs.declared.policy.Policy.{Policy}
use Rattle.ba_tables.specs.TableSet.{TableSet}
use Rattle.ba_template.specs.Shapes.{shape_of, shard_of}
use Rattle.ba_turn.specs.History.{entry_of}
use Rattle.ba_versions.specs.Calls as versions
use Rattle.ba_versions.specs.Reads.{calls_of}
use Rattle.ba_versions.specs.declared.call.VersionCall.{VersionCall}
use Rattle.ba_versions.specs.declared.call.VersionCall.TheVariants as call

-- ---- versions

-- what a legal history of the versions left: each conforms, and what was pinned stands at its number
pub record AreVersions (opening : TableSet) (made : List VersionCall) (list : List TableSet) : Type 0 where
  pub conform : All (versions.IsVersion opening) list
  pub pinned : (n : ℕ) (tables : TableSet) → Contains made (pin_of n tables) → slice_get list n ≡ Some tables

nothing : {X : Type 0} (x : X) → Contains [] x → ⊥
nothing x h = let low = h.1 in omega (arith, low)

module _ (opening : TableSet) (made : List VersionCall) (old new : List TableSet) (earlier : AreVersions opening made old) where
  one_more : (it : VersionCall) → versions.Steps opening old it new → AreVersions opening (made ++ it ∷ []) new
  one_more it step = record {
    conform = conforms it step;
    pinned = λ n tables h. by n tables (Contains-push_cases made it (pin_of n tables) h);
  }
    where
      conforms : (it : VersionCall) → versions.Steps opening old it new → All (versions.IsVersion opening) new
      conforms (call.Publish told m) s = subst (All (versions.IsVersion opening)) (sym s.appended) (All-push (versions.IsVersion opening) old told.value earlier.conform s.version)
      conforms (call.Pin m told) s = subst (All (versions.IsVersion opening)) (sym s.same) earlier.conform
      conforms call.Refused s = subst (All (versions.IsVersion opening)) (sym s) earlier.conform

      stays : (it : VersionCall) → versions.Steps opening old it new → (n : ℕ) (tables : TableSet) → slice_get old n ≡ Some tables → slice_get new n ≡ Some tables
      stays (call.Publish told m) s n tables there = subst (λ z. slice_get z n ≡ Some tables) (sym s.appended) (get_before old (told.value ∷ []) n tables there)
      stays (call.Pin m told) s n tables there = subst (λ z. slice_get z n ≡ Some tables) (sym s.same) there
      stays call.Refused s n tables there = subst (λ z. slice_get z n ≡ Some tables) (sym s) there

      here : (n : ℕ) (tables : TableSet) → versions.Steps opening old (pin_of n tables) new → slice_get new n ≡ Some tables
      here n tables s = subst (λ z. slice_get z n ≡ Some tables) (sym s.same) s.there

      by : (n : ℕ) (tables : TableSet) → Contains made (pin_of n tables) ⊎ (it ≡ pin_of n tables) → slice_get new n ≡ Some tables
      by n tables (inl c) = stays it step n tables (earlier.pinned n tables c)
      by n tables (inr e) = here n tables (subst (λ z. versions.Steps opening old z new) e step)

pub are_versions : (opening : TableSet) {made : List VersionCall} {list : List TableSet} → versions.Legal opening made list → AreVersions opening made list
are_versions opening (versions.start v) = record {
  conform = All-cons (versions.IsVersion opening) opening [] v (All-nil (versions.IsVersion opening));
  pinned = λ n tables h. absurd (nothing (pin_of n tables) h);
}
are_versions opening (versions.next {calls = made} {old = old} {new = new} it before step) = one_more opening made old new (are_versions opening before) it step

-- ---- shelves

abbrev Sound : Proof → Type 0
Sound template = StrongAll template.problem

-- each template that a legal history of a shelf added is sound
sound_of : {made : List ShelfCall} {rows : List Row} → shelves.Legal made rows → All Sound (templates_of made)
sound_of shelves.start = All-nil Sound
sound_of (shelves.next {made = made} {old = old} {new = new} it before step) =
    subst (All Sound) (sym (flat_map-append added_in made (it ∷ []) ∙ ap (λ more. templates_of made ++ more) (append-nil (added_in it))))
    (All-append Sound (templates_of made) (added_in it) (sound_of before) (added it step))
  where
    added : (it : ShelfCall) → shelves.Steps (count_added made) old it new → All Sound (added_in it)
    added (calls.Look shape found) s = All-nil Sound
    added (calls.Admit t (Added id)) s = All-cons Sound t.value [] s.0.proved.strong (All-nil Sound)
    added (calls.Admit t (Known id)) s = All-nil Sound
    added calls.Refused s = All-nil Sound

pub all_flat : {X A : Type 0} (P : A → Type 0) (f : X → List A) (xs : List X) → All (λ x. All P (f x)) xs → All P (flat_map f xs)
all_flat P f [] all = All-nil P
all_flat P f (x ∷ xs) all =
    All-append P (f x) (flat_map f xs) (All-head (λ x. All P (f x)) x xs all) (all_flat P f xs (All-tail (λ x. All P (f x)) x xs all))

get_behind : {X : Type 0} (xs ys : List X) (n m : ℕ) → n ≡ length xs + m → slice_get (xs ++ ys) n ≡ slice_get ys m
get_behind [] ys n m e = ap (slice_get ys) (omega (arith, e))
get_behind (x ∷ xs) ys zero m e = absurd (omega (arith, e))
get_behind (x ∷ xs) ys (suc n) m e = get_behind xs ys n m (omega (arith, e))

-- an element of the k-th part, among all parts
in_part : {X A : Type 0} (f : X → List A) (xs : List X) (k n : ℕ) (d : X) (a : A) → k < length xs → slice_get (f (get_or xs k d)) n ≡ Some a →
    slice_get (flat_map f xs) (length (flat_map f (take k xs)) + n) ≡ Some a
in_part f [] k n d a low e = absurd (omega (arith, low))
in_part f (x ∷ xs) zero n d a low e = ap (slice_get (f x ++ flat_map f xs)) (omega arith) ∙ get_before (f x) (flat_map f xs) n a e
in_part f (x ∷ xs) (suc k) n d a low e =
    let long = length-append (f x) (flat_map f (take k xs)) in
    get_behind (f x) (flat_map f xs) (length (f x ++ flat_map f (take k xs)) + n) (length (flat_map f (take k xs)) + n) (omega (arith, long))
    ∙ in_part f xs k n d a (omega (arith, low)) e

-- the calls of a shelf as it was closed, and its rows
abbrev pub IsLegal : ClosedShelf → Type 0
IsLegal it = shelves.Legal (shelf.calls_of it.0) (shelf.rows_of it.0)

abbrev added_on : ClosedShelf → List Proof
added_on it = templates_of (shelf.calls_of it.0)

-- where each is so in the truncated sense, all are at once
choose : {X : Type 0} (P : X → Type 0) (xs : List X) → AllByRecursion (λ x. ∥ P x ∥₁) xs → ∥ AllByRecursion P xs ∥₁
choose P [] all = ∣ tt ∣₁
choose P (x ∷ xs) all = ∥∥₁_map₂ all.0 (choose P xs all.1) (λ a b. (a, b))

-- eight shelves have a first one
pub some_shelf : {X : Type 0} (xs : List X) → length xs ≡ 8 → X
some_shelf [] e = absurd (omega (arith, e))
some_shelf (x ∷ xs) e = x

pub same_number : (n : ℕ) → (n == n) ≡ true
same_number n = by (n == n) refl
  where
    by : (t : Bool) → (n == n) ≡ t → (n == n) ≡ true
    by true e = e
    by false e = absurd (eqb-false n n e refl)

pub on_its_shelf : (query : Query) (made : ShelfCalls) (calls : List ShelfCall) → made ≡ on_shelf query calls → made.shard < 8
on_its_shelf query made calls e =
    let same : made.shard ≡ shard_of (shape_of [] query) = ap (λ (z : ShelfCalls). z.shard) e in
    subst (λ n. n < 8) (sym same) (mod-lt _ (omega arith))

-- ---- lines

-- a call of the line is one of the histories
pub record IsMade (journal : Journal) (it : LineDone) : Type 0 where
  pub versions : (c : VersionCall) → Contains it.made.versions c → Contains (calls_of journal.histories.versions) c
  pub shelves : (k : ℕ) (d : ClosedShelf) → k < 8 → (c : ShelfCall) → Contains (shelf_calls_of k it) c → Contains (shelf.calls_of (get_or journal.histories.shelves.items k d).0) c

module _ {L X : Type 0} (P : X → Type 0) (lane : L → ℕ) (w : ℕ) (low : (line : L) → lane line < w) where
  -- what holds of the elements of each lane holds of all
  all_lanes : (lines : List L) (xs : List X) → length xs ≡ length lines → ((k : ℕ) → k < w → All P (of_lane lane k lines xs)) → All P xs
  all_lanes lines [] long each = All-nil P
  all_lanes [] (x ∷ xs) long each = absurd (omega (arith, long))
  all_lanes (line ∷ lines) (x ∷ xs) long each = All-cons P x xs first (all_lanes lines xs (omega (arith, long)) (λ k below. rest k (lane line == k) (each k below)))
    where
      first : P x
      first =
          All-head P x (of_lane lane (lane line) lines xs)
          (subst (λ t. All P (cond t (x ∷ of_lane lane (lane line) lines xs) (of_lane lane (lane line) lines xs))) (same_number (lane line)) (each (lane line) (low line)))

      rest : (k : ℕ) (t : Bool) → All P (cond t (x ∷ of_lane lane k lines xs) (of_lane lane k lines xs)) → All P (of_lane lane k lines xs)
      rest k true all = All-tail P x (of_lane lane k lines xs) all
      rest k false all = all

-- what holds of the elements of all parts together holds of those of each
each_part : {X A : Type 0} (f : X → List A) (S : A → Type 0) (xs : List X) → ((a : A) → Contains (flat_map f xs) a → S a) → All (λ x. (a : A) → Contains (f x) a → S a) xs
each_part f S [] all = All-nil (λ x. (a : _) → Contains (f x) a → S a)
each_part f S (x ∷ xs) all =
    All-cons (λ x. (a : _) → Contains (f x) a → S a) x xs (λ a h. all a (Contains-append_left (f x) (flat_map f xs) a h))
    (each_part f S xs (λ a h. all a (Contains-append_right (f x) (flat_map f xs) a h)))

-- the calls of the lines of each lane stand in the history of all lanes, behind those of the opening pass
of_lanes : {E : Type 0} (opening : List E) (input : Input) (served : List LineDone) (f : LineDone → List E) (made : List E) (numbers : List ℕ) →
    0 < input.workers → length served ≡ length input.script.entries →
    AreOfLanes opening input.workers (λ k. flat_map f (done_in input served k)) made numbers → All (λ it. (c : E) → Contains (f it) c → Contains made c) served
of_lanes opening input served f made numbers some long h =
    all_lanes (λ it. (c : _) → Contains (f it) c → Contains made c) (lane_of input.workers) input.workers (lane_low input some) input.script.entries served long
    (λ k below. each_part f (Contains made) (done_in input served k)
    (λ c there. subst (λ z. Contains z c) (sym (h.calls_are ∙ map-append entry_of (by_opening opening) h.log))
    (Contains-append_right (map entry_of (by_opening opening)) (map entry_of h.log) c (told_by (k + 1) h.log c (subst (λ z. Contains z c) (sym (h.each k below)) there)))))

module _ (input : Input) (journal : Journal) (legal : Legal input journal) where
  long : length legal.served ≡ length input.script.entries
  long = same_length input [] input.script.entries legal.served legal.lines

  on_versions : All (λ it. (c : VersionCall) → Contains it.made.versions c → Contains (calls_of journal.histories.versions) c) legal.served
  on_versions = of_lanes [] input legal.served (λ it. it.made.versions) (calls_of journal.histories.versions) journal.histories.numbers.items legal.input_fits.workers.0 long legal.versions.calls

  on_shelves : (k : ℕ) (d : ClosedShelf) → k < 8 →
      All (λ it. (c : ShelfCall) → Contains (shelf_calls_of k it) c → Contains (shelf.calls_of (get_or journal.histories.shelves.items k d).0) c) legal.served
  on_shelves k d below =
      let it = get_or journal.histories.shelves.items k d in
      of_lanes (admits_on k legal.loads) input legal.served (λ it. shelf_calls_of k it) (shelf.calls_of it.0) it.1.items legal.input_fits.workers.0 long (legal.shelves.each k d below).calls

  pub all_made : All (IsMade journal) legal.served
  all_made = All-weaker (Contains legal.served) (IsMade journal) (λ it among. record {
    versions = All-contains (λ it. (c : VersionCall) → Contains it.made.versions c → Contains (calls_of journal.histories.versions) c) legal.served it on_versions among;
    shelves = λ k d below. All-contains (λ it. (c : ShelfCall) → Contains (shelf_calls_of k it) c → Contains (shelf.calls_of (get_or journal.histories.shelves.items k d).0) c) legal.served it (on_shelves k d below) among;
  }) legal.served (All-contains_itself legal.served)

-- ---- the shelves' histories

-- all shelves have legal histories at once
pub all_legal : (input : Input) (journal : Journal) → Legal input journal → ∥ All IsLegal journal.histories.shelves.items ∥₁
all_legal input journal legal =
    let its = journal.histories.shelves.items in
    let eight = legal.shelves.eight in
    let d = some_shelf its eight in
    let each : All (λ it. ∥ IsLegal it ∥₁) its =
    All-from_get_or (λ it. ∥ IsLegal it ∥₁) its d (λ k below. (legal.shelves.each k d (omega (arith, below, eight))).legal) in
    ∥∥₁_map (choose IsLegal its (recursion_from_All (λ it. ∥ IsLegal it ∥₁) its each)) (All-from_recursion IsLegal its)

-- ---- templates that are found

-- the calls stand on a shelf, if there are any
abbrev pub OnShelf : ShelfCalls → Type 0
OnShelf made = (made.calls ≡ []) ⊎ (made.shard < 8)

ground_on_shelf : (policy : Policy) (asker : Request) (effort : Effort) (query : Query) (basis : By) (made : ShelfCalls) → IsGround policy asker effort query basis made → OnShelf made
ground_on_shelf policy asker effort query (by.Cover cover) made h = inl h.1
ground_on_shelf policy asker effort query (by.Template shard id template found) made h = inr (on_its_shelf query made _ h.made_is)
ground_on_shelf policy asker effort query (by.Proof steps keeping) made h = inr (on_its_shelf query made _ h.made_is)

verdict_on_shelf : (policy : Policy) (asker : Request) (query : Query) (made : ShelfCalls) → HasNoVerdict policy asker query made → OnShelf made
verdict_on_shelf policy asker query made (inl none) = inl none
verdict_on_shelf policy asker query made (inr h) = inr (on_its_shelf query made _ h.made_is)

-- those of a question
pub on_some_shelf : (policy : Policy) (asker : Request) (effort : Effort) (text : List ℕ) (made : ShelfCalls) (reply : Reply) → Replies policy asker effort text made reply → OnShelf made
on_some_shelf policy asker effort text made (Answer query rows basis) h = ground_on_shelf policy asker effort query basis made h.ground
on_some_shelf policy asker effort text made (Blocked query why) h = inr (on_its_shelf query made _ h.denied.made_is)
on_some_shelf policy asker effort text made (Unread fault) h = inl h.1
on_some_shelf policy asker effort text made NoMemory (inl none) = inl none
on_some_shelf policy asker effort text made NoMemory (inr (query, reads, h)) = inr (on_its_shelf query made _ h.made_is)

grounds_on_shelves : (policy : Policy) (asker : Request) (effort : Effort) (queries : List Query) (bases : List By) (made : List ShelfCalls) → AreGrounds policy asker effort queries bases made → All OnShelf made
grounds_on_shelves policy asker effort [] [] [] h = All-nil OnShelf
grounds_on_shelves policy asker effort [] [] (m ∷ made) h = absurd h
grounds_on_shelves policy asker effort [] (b ∷ bases) made h = absurd h
grounds_on_shelves policy asker effort (q ∷ queries) [] made h = absurd h
grounds_on_shelves policy asker effort (q ∷ queries) (b ∷ bases) [] h = absurd h
grounds_on_shelves policy asker effort (q ∷ queries) (b ∷ bases) (m ∷ made) h =
    All-cons OnShelf m made (ground_on_shelf policy asker effort q b m h.0.0) (grounds_on_shelves policy asker effort queries bases made h.1)

-- and those of a read
pub reads_on_shelves : (policy : Policy) (asker : Request) (effort : Effort) (queries : List Query) (made : List ShelfCalls) (reply : KeyReply) → KeyReads policy asker effort queries made reply → All OnShelf made
reads_on_shelves policy asker effort queries made (key_reply.Allowed its bases) h = grounds_on_shelves policy asker effort queries bases made h.1
reads_on_shelves policy asker effort queries made (key_reply.Blocked its before why) h =
    let it = h.1 in
    subst (All OnShelf) (sym it.made_is)
    (All-push OnShelf it.earlier it.last (grounds_on_shelves policy asker effort it.front before it.earlier it.grounds) (inr (on_its_shelf it.query it.last _ it.denied.made_is)))
reads_on_shelves policy asker effort queries made key_reply.NoMemory h = at (grounds_on_shelves policy asker effort h.front h.bases h.earlier h.grounds) h.last
  where
    at : All OnShelf h.earlier → (made ≡ h.earlier)
        ⊎ ((query : Query) × (more : List Query) × (h.back ≡ query ∷ more) × (calls : ShelfCalls) × HasNoVerdict policy asker query calls × (made ≡ h.earlier ++ calls ∷ [])) → All OnShelf made
    at all (inl is) = subst (All OnShelf) (sym is) all
    at all (inr (query, more, back, last, none, is)) = subst (All OnShelf) (sym is) (All-push OnShelf h.earlier last all (verdict_on_shelf policy asker query last none))

-- an element of one part is one of all parts
pub flat_among : {X A : Type 0} (f : X → List A) (xs : List X) (x : X) (a : A) → Contains xs x → Contains (f x) a → Contains (flat_map f xs) a
flat_among f xs x a among inside = All-contains (λ y. (b : _) → Contains (f y) b → Contains (flat_map f xs) b) xs x (each_part f (Contains (flat_map f xs)) xs (λ b there. there)) among a inside

pub on_itself : (made : ShelfCalls) → calls_on made.shard made ≡ made.calls
on_itself made = ap (λ t. cond t made.calls []) (same_number made.shard)

-- the shelves of a journal, each with a legal history, beside a machine for it
module _ (input : Input) (journal : Journal) (s : State) (machine : IsMachineOf input journal s)
    (eight : length journal.histories.shelves.items ≡ 8) (legal : All IsLegal journal.histories.shelves.items) where
  abbrev its : List ClosedShelf
  its = journal.histories.shelves.items

  -- each template of the machine is sound
  pub all_sound : AreSound s
  all_sound = subst (All Sound) (sym machine.templates_are) (all_flat Sound added_on its (All-weaker IsLegal (λ it. All Sound (added_on it)) (λ it h. sound_of h) its legal))

  -- what the calls of a line on a shelf found was admitted to it
  found_by : FoundIsAdmitted → (it : LineDone) → IsMade journal it → (calls : ShelfCalls) → Contains it.made.shelves calls → OnShelf calls → HasFound (number_by_shelf journal) s calls
  found_by law it made calls among (inl none) = record {
    each = λ query found k look inside. absurd (nothing (look_at query found) (subst (λ z. Contains z (look_at query found)) none look));
  }
  found_by law it made calls among (inr below) =
      let d = some_shelf its eight in
      let k = calls.shard in
      let one = get_or its k d in
      let low : k < length its = omega (arith, below, eight) in
      let has : HasAdmitted (length (templates_in (take k its))) s (shelf.calls_of one.0) = record {
        each = λ n template there. ap (λ z. slice_get z (length (templates_in (take k its)) + n)) machine.templates_are ∙ in_part added_on its k n d template low there;
      } in
      law (λ shard. length (templates_in (take shard its))) s calls (shelf.calls_of one.0) (shelf.rows_of one.0) (All-get_or IsLegal its k d low legal) has
      (λ c there. made.shelves k d below c (flat_among (λ (z : ShelfCalls). calls_on k z) it.made.shelves calls c among (subst (λ z. Contains z c) (sym (on_itself calls)) there)))

  pub all_found : FoundIsAdmitted → (it : LineDone) → IsMade journal it → All OnShelf it.made.shelves → All (HasFound (number_by_shelf journal) s) it.made.shelves
  all_found law it made on =
      All-weaker (Contains it.made.shelves) (HasFound (number_by_shelf journal) s)
      (λ calls among. found_by law it made calls among (All-contains OnShelf it.made.shelves calls on among)) it.made.shelves (All-contains_itself it.made.shelves)
