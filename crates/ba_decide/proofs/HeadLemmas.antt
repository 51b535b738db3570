-- Each allowed question is safe after the lines before it.
use Rattle.std.proofs.Common.{◌≡◌, ◌∙◌, ℕ, Bool, ◌+◌, ◌<◌, List, [], ◌∷◌, ◌++◌, None, Some, Ok, length, take, refl, sym, ap, subst, inl, inr, ◌⊎◌, arith}
use Rattle.std.proofs.Math.Seq.{take-append_seam}
use Rattle.std.proofs.lemmas.List.{take-append-le}
use Rattle.std.proofs.lemmas.List.Elements.{All-cons, All-nil}
use Rattle.std.specs.List.{All}
use Rattle.ba_event.specs.Events.{event_of}
use Rattle.ba_event.specs.declared.event.Event.{Event}
use Rattle.ba_event.specs.declared.event.Event.TheVariants as event
use Rattle.ba_judge.specs.Judging.{IsStrong}
use Rattle.ba_judge.specs.Reading.{AreAllowed}
use Rattle.ba_judge.specs.declared.shelves.Shelves.{Shelves}
use Rattle.ba_judge.specs.declared.reading.Read.TheVariants as read
use Rattle.ba_judge.specs.declared.verdict.Allowed.{Allowed}
use Rattle.ba_judge.specs.declared.verdict.Reason.{Reason}
use Rattle.ba_live.proofs.BookLemmas.{none_some}
use Rattle.ba_contradict.specs.Contradictions.{Contradicted}
use Rattle.ba_kernel.specs.declared.step.Step.{Step}
use Rattle.ba_live.proofs.FoundLemmas.{found_is_none, shows_both}
use Rattle.ba_live.proofs.ToldLemmas.{allowed_has_one_answer, shows_told}
use Rattle.ba_parts.proofs.EntryLemmas.{entries_show_rows}
use Rattle.ba_target.specs.declared.target.Target.{Target}
use Rattle.ba_kernel.specs.SearchStates.{Proof}
use Rattle.ba_live.specs.Askers.{asked_more, closed_now}
use Rattle.ba_live.specs.Books.{open_at, asked_at}
use Rattle.ba_live.specs.Steps.{Allows, Blocks, Decides, DecidesAsk, DecidesBegin, DecidesEnd, DecidesRead, DecidesTold, Does, FindsAsking, FindsReading, FindsTelling, Lacks, Reads, reader_in}
use Rattle.ba_live.specs.Wellformed.{IsFresh}
use Rattle.ba_live.specs.declared.decision.Decision.{Decision}
use Rattle.ba_live.specs.declared.decision.Decision.TheVariants as decided
use Rattle.ba_live.specs.declared.live.Live.{Live}
use Rattle.ba_live.specs.declared.open.Open.{Open}
use Rattle.ba_model.specs.declared.policy.Policy.{Policy}
use Rattle.ba_model.specs.declared.query.Query.{Query}
use Rattle.ba_model.specs.declared.value.Value.{Value}
use Rattle.ba_script.specs.declared.line.Member.{Member}
use Rattle.ba_settle.specs.Settling.{Effort}
use Rattle.ba_decide.proofs.StepLemmas.{tracks_allows, tracks_asks, tracks_begins, tracks_closes, tracks_leaves, tracks_part, tracks_tells}
use Rattle.ba_decide.proofs.TrackLemmas.{Says, Tracks, TurnsHere, at_cases, at_within, quiet, same_event, same_said}
use Rattle.ba_decide.specs.Journal.{Entry, Heard, Means, Runs, SaysNothing, Serves, ServesHeard, said, too_long, lost}
use Rattle.ba_decide.specs.Journal.Runs.{none, next}
use Rattle.ba_decide.specs.Told.{AreOfKey, At, ContradictsTold, Headline, IsAsker, IsContradicted, IsDenied, IsReadDenied, IsSafe, IsSent, OfText}

-- ---- steps

is_calm : (e : Entry) (d : Decision) → e.decision ≡ d → (d ≡ decided.Begun → ⊥) → (d ≡ decided.Ended → ⊥) → (name : List ℕ) → TurnsHere e name → ⊥
is_calm e d is b n name turns = quiet e name (λ x. b (sym is ∙ x)) (λ x. n (sym is ∙ x)) turns

-- a decision does something, or there was no memory
does : (effort : Effort) (line : ℕ) (it : Event) (d : Decision) (old new : Live) → Decides effort line it d old new → ((d ≡ decided.Memory) × Lacks it old new) ⊎ Does effort line it d old new
does effort line it decided.Begun old new h = inr h
does effort line it (decided.Allowed x send) old new h = inr h
does effort line it (decided.Blocked x) old new h = inr h
does effort line it (decided.Unread x) old new h = inr h
does effort line it (decided.Read x) old new h = inr h
does effort line it decided.Told old new h = inr h
does effort line it decided.Contradiction old new h = inr h
does effort line it decided.Ended old new h = inr h
does effort line it decided.Memory old new h = inl (refl, h)
does effort line it (decided.Refused x) old new h = inr h

-- what is said by the entry, and its decision
says_of : (e : Entry) (bytes : List ℕ) (it : Event) → e.heard ≡ said bytes → event_of bytes ≡ Ok it → (d : Decision) → e.decision ≡ d → Says e it d
says_of e bytes it heard says d is = record { bytes = bytes; heard = heard; says = says; decision_is = is }

module _ (effort : Effort) (journal : List Entry) (e : Entry) (old new : Live) (tracks : Tracks old.policy journal old) where
  begin_step : (name : List ℕ) (members : List Member) (d : Decision) → e.decision ≡ d → Says e (event.Begin name members) d → DecidesBegin name members d old new → Tracks old.policy (journal ++ e ∷ []) new
  begin_step name members decided.Begun is says h = tracks_begins old.policy journal e old new tracks name members h.context says h.free h.context_is h.opens h.asked
  begin_step name members (decided.Allowed x send) is says h = absurd h
  begin_step name members (decided.Blocked x) is says h = absurd h
  begin_step name members (decided.Unread x) is says h = absurd h
  begin_step name members (decided.Read x) is says h = absurd h
  begin_step name members decided.Told is says h = absurd h
  begin_step name members decided.Contradiction is says h = absurd h
  begin_step name members decided.Ended is says h = absurd h
  begin_step name members decided.Memory is says h = absurd h
  begin_step name members (decided.Refused x) is says h = tracks_leaves old.policy journal e old new tracks h.1 (is_calm e (decided.Refused x) is (λ z. cc) (λ z. cc))

  ask_step : (line : ℕ) (name text : List ℕ) (d : Decision) → line ≡ length journal + 1 → e.decision ≡ d → Says e (event.Ask name text) d → DecidesAsk effort line name text d old new → Tracks old.policy (journal ++ e ∷ []) new
  ask_step line name text decided.Begun number is says h = absurd h
  ask_step line name text (decided.Allowed x send) number is says h =
      tracks_allows old.policy journal e old new tracks line name text x send h.asker h.query says number h.may.served.is_open h.may.reads h.opens h.expects
      (is_calm e (decided.Allowed x send) is (λ z. cc) (λ z. cc))
  ask_step line name text (decided.Blocked x) number is says h =
      tracks_asks old.policy journal e old new tracks name h.asker (asked_more 1 h.asker) h.counts.served.is_open refl refl h.counts.opens h.counts.asked (is_calm e (decided.Blocked x) is (λ z. cc) (λ z. cc))
  ask_step line name text (decided.Unread x) number is says h =
      tracks_asks old.policy journal e old new tracks name h.asker (asked_more 1 h.asker) h.counts.served.is_open refl refl h.counts.opens h.counts.asked (is_calm e (decided.Unread x) is (λ z. cc) (λ z. cc))
  ask_step line name text (decided.Read x) number is says h = absurd h
  ask_step line name text decided.Told number is says h = absurd h
  ask_step line name text decided.Contradiction number is says h =
      tracks_asks old.policy journal e old new tracks name h.asker (closed_now h.asker) h.may.served.is_open refl refl h.closes.opens h.closes.asked
      (is_calm e decided.Contradiction is (λ z. cc) (λ z. cc))
  ask_step line name text decided.Ended number is says h = absurd h
  ask_step line name text decided.Memory number is says h = absurd h
  ask_step line name text (decided.Refused x) number is says h = tracks_leaves old.policy journal e old new tracks h.1 (is_calm e (decided.Refused x) is (λ z. cc) (λ z. cc))

  read_step : (name key : List ℕ) (members : List Member) (d : Decision) → e.decision ≡ d → DecidesRead effort name key members d old new → Tracks old.policy (journal ++ e ∷ []) new
  read_step name key members decided.Begun is h = absurd h
  read_step name key members (decided.Allowed x send) is h = absurd h
  read_step name key members (decided.Blocked x) is h = absurd h
  read_step name key members (decided.Unread x) is h = absurd h
  read_step name key members (decided.Read x) is h =
      tracks_asks old.policy journal e old new tracks name h.asker (asked_more (length h.found.queries) h.asker) h.served.is_open refl refl h.opens h.asked (is_calm e (decided.Read x) is (λ z. cc) (λ z. cc))
  read_step name key members decided.Told is h = absurd h
  read_step name key members decided.Contradiction is h =
      tracks_asks old.policy journal e old new tracks name h.asker (closed_now h.asker) h.served.is_open refl refl h.closes.opens h.closes.asked
      (is_calm e decided.Contradiction is (λ z. cc) (λ z. cc))
  read_step name key members decided.Ended is h = absurd h
  read_step name key members decided.Memory is h = absurd h
  read_step name key members (decided.Refused x) is h = tracks_leaves old.policy journal e old new tracks h.1 (is_calm e (decided.Refused x) is (λ z. cc) (λ z. cc))

  told_step : (told : ℕ) (rows : List (List Value)) (d : Decision) → e.decision ≡ d → Says e (event.Told told rows) d → DecidesTold effort told rows d old new → Tracks old.policy (journal ++ e ∷ []) new
  told_step told rows decided.Begun is says h = absurd h
  told_step told rows (decided.Allowed x send) is says h = absurd h
  told_step told rows (decided.Blocked x) is says h = absurd h
  told_step told rows (decided.Unread x) is says h = absurd h
  told_step told rows (decided.Read x) is says h = absurd h
  told_step told rows decided.Told is says h =
      tracks_tells old.policy journal e old new tracks told rows h.question h.asker h.entries decided.Told tt says h.may.was_asked h.may.served.is_open h.are h.opens h.expects (is_calm e decided.Told is (λ z. cc) (λ z. cc))
  told_step told rows decided.Contradiction is says h =
      tracks_asks old.policy journal e old new tracks h.question.name h.asker (closed_now h.asker) h.may.served.is_open refl refl h.closes.opens h.closes.asked
      (is_calm e decided.Contradiction is (λ z. cc) (λ z. cc))
  told_step told rows decided.Ended is says h = absurd h
  told_step told rows decided.Memory is says h = absurd h
  told_step told rows (decided.Refused x) is says h = tracks_leaves old.policy journal e old new tracks h.1 (is_calm e (decided.Refused x) is (λ z. cc) (λ z. cc))

  end_step : (name : List ℕ) (d : Decision) → e.decision ≡ d → Says e (event.End name) d → DecidesEnd name d old new → Tracks old.policy (journal ++ e ∷ []) new
  end_step name decided.Begun is says h = absurd h
  end_step name (decided.Allowed x send) is says h = absurd h
  end_step name (decided.Blocked x) is says h = absurd h
  end_step name (decided.Unread x) is says h = absurd h
  end_step name (decided.Read x) is says h = absurd h
  end_step name decided.Told is says h = absurd h
  end_step name decided.Contradiction is says h = absurd h
  end_step name decided.Ended is says h = tracks_closes old.policy journal e old new tracks name says h.closes h.forgets
  end_step name decided.Memory is says h = absurd h
  end_step name (decided.Refused x) is says h = tracks_leaves old.policy journal e old new tracks h.1 (is_calm e (decided.Refused x) is (λ z. cc) (λ z. cc))

  lack_step : (it : Event) → Says e it decided.Memory → Lacks it old new → Tracks old.policy (journal ++ e ∷ []) new
  lack_step (event.Begin name members) says h = tracks_leaves old.policy journal e old new tracks h (is_calm e decided.Memory says.decision_is (λ z. cc) (λ z. cc))
  lack_step (event.Ask name text) says h = tracks_leaves old.policy journal e old new tracks h (is_calm e decided.Memory says.decision_is (λ z. cc) (λ z. cc))
  lack_step (event.Read name key members) says h = tracks_leaves old.policy journal e old new tracks h (is_calm e decided.Memory says.decision_is (λ z. cc) (λ z. cc))
  lack_step (event.Told told rows) says (inl h) = tracks_leaves old.policy journal e old new tracks h (is_calm e decided.Memory says.decision_is (λ z. cc) (λ z. cc))
  lack_step (event.Told told rows) says (inr h) =
      tracks_part old.policy journal e old new tracks told rows h.question h.asker h.entries h.front.count decided.Memory tt says h.may.was_asked h.may.served.is_open h.are h.front.opens h.asked
      (is_calm e decided.Memory says.decision_is (λ z. cc) (λ z. cc))
  lack_step (event.End name) says h = tracks_leaves old.policy journal e old new tracks h (is_calm e decided.Memory says.decision_is (λ z. cc) (λ z. cc))

  does_step : (line : ℕ) (it : Event) (d : Decision) → line ≡ length journal + 1 → e.decision ≡ d → Says e it d → Does effort line it d old new → Tracks old.policy (journal ++ e ∷ []) new
  does_step line (event.Begin name members) d number is says h = begin_step name members d is says h
  does_step line (event.Ask name text) d number is says h = ask_step line name text d number is says h
  does_step line (event.Read name key members) d number is says h = read_step name key members d is h
  does_step line (event.Told told rows) d number is says h = told_step told rows d is says h
  does_step line (event.End name) d number is says h = end_step name d is says h

  means_step : (line : ℕ) (bytes : List ℕ) → line ≡ length journal + 1 → e.heard ≡ said bytes → Means effort line bytes e old new → Tracks old.policy (journal ++ e ∷ []) new
  means_step line bytes number heard means =
      let says = says_of e bytes means.event heard means.says in
      elim (does effort line means.event e.decision old new means.decides) [
        | inl (memory, h) ↦ lack_step means.event (says decided.Memory memory) h
        | inr h ↦ does_step line means.event e.decision number refl (says e.decision refl) h
      ]

  nothing_calm : (bytes : List ℕ) (d : Decision) → SaysNothing bytes d → (d ≡ decided.Begun → ⊥) × (d ≡ decided.Ended → ⊥)
  nothing_calm bytes decided.Begun h = absurd h
  nothing_calm bytes (decided.Allowed x send) h = absurd h
  nothing_calm bytes (decided.Blocked x) h = absurd h
  nothing_calm bytes (decided.Unread x) h = absurd h
  nothing_calm bytes (decided.Read x) h = absurd h
  nothing_calm bytes decided.Told h = absurd h
  nothing_calm bytes decided.Contradiction h = absurd h
  nothing_calm bytes decided.Ended h = absurd h
  nothing_calm bytes decided.Memory h = (λ z. cc, λ z. cc)
  nothing_calm bytes (decided.Refused x) h = (λ z. cc, λ z. cc)

  heard_step : (line : ℕ) (h : Heard) → line ≡ length journal + 1 → e.heard ≡ h → ServesHeard effort line h e old new → Tracks old.policy (journal ++ e ∷ []) new
  heard_step line (said bytes) number heard (inl means) = means_step line bytes number heard means
  heard_step line (said bytes) number heard (inr ignores) =
      let calm = nothing_calm bytes e.decision ignores.nothing in
      tracks_leaves old.policy journal e old new tracks ignores.leaves (is_calm e e.decision refl calm.0 calm.1)
  heard_step line too_long number heard u = tracks_leaves old.policy journal e old new tracks u.leaves (is_calm e _ u.decision_is (λ z. cc) (λ z. cc))
  heard_step line lost number heard u = tracks_leaves old.policy journal e old new tracks u.leaves (is_calm e _ u.decision_is (λ z. cc) (λ z. cc))

  pub serves_step : Serves effort (length journal + 1) e old new → Tracks old.policy (journal ++ e ∷ []) new
  serves_step serves = heard_step (length journal + 1) e.heard refl refl serves.heard

-- ---- what the last entry says

-- what the entry decides on an event that it says
meant : (effort : Effort) (line : ℕ) (e : Entry) (old new : Live) (it : Event) (d : Decision) → Serves effort line e old new → Says e it d → ((bytes : List ℕ) → SaysNothing bytes d → ⊥) → Decides effort line it d old new
meant effort line e old new it d serves says some = by e.heard refl serves.heard
  where
    by : (h : Heard) → e.heard ≡ h → ServesHeard effort line h e old new → Decides effort line it d old new
    by (said bytes) heard (inl means) =
        let one : means.event ≡ it = same_event means.event it bytes says.bytes (same_said bytes says.bytes (sym heard ∙ says.heard)) means.says says.says in
        subst (λ x. Decides effort line it x old new) says.decision_is (subst (λ x. Decides effort line x e.decision old new) one means.decides)
    by (said bytes) heard (inr ignores) = absurd (some bytes (subst (SaysNothing bytes) says.decision_is ignores.nothing))
    by too_long heard u = let z : too_long ≡ said says.bytes = sym heard ∙ says.heard in cc
    by lost heard u = let z : lost ≡ said says.bytes = sym heard ∙ says.heard in cc

-- an asker's strongly compliant query is safe
safe : (policy : Policy) (journal : List Entry) (name : List ℕ) (asker : Open) (query : Query) (is : IsAsker policy journal name asker.context asker.trace)
    → IsStrong (record { policy = policy; context = asker.context; trace = asker.trace; query = query }) → IsSafe policy journal name query
safe policy journal name asker query is strong =
    record {
      context = asker.context;
      trace = asker.trace;
      asker = is;
      strong = strong;
      one_answer = λ d e xs ys alike ax ay.
          allowed_has_one_answer (record { policy = policy; context = asker.context; trace = asker.trace; query = query }) is.told d e xs ys is.records strong alike ax ay;
    }

all_safe : (policy : Policy) (journal : List Entry) (name : List ℕ) (asker : Open) (effort : Effort) (old : Shelves) (queries : List Query) (by : List Allowed) → IsAsker policy journal name asker.context asker.trace
    → AreAllowed (reader_in policy asker) effort old queries by → All (IsSafe policy journal name) queries
all_safe policy journal name asker effort old [] [] is h = All-nil (IsSafe policy journal name)
all_safe policy journal name asker effort old [] (b ∷ by) is h = absurd h
all_safe policy journal name asker effort old (q ∷ queries) [] is h = absurd h
all_safe policy journal name asker effort old (q ∷ queries) (b ∷ by) is h = All-cons (IsSafe policy journal name) q queries (safe policy journal name asker q is h.0.judges.1) (all_safe policy journal name asker effort old queries by is h.1)

module _ (effort : Effort) (journal : List Entry) (e : Entry) (old new : Live) (tracks : Tracks old.policy journal old) (serves : Serves effort (length journal + 1) e old new) where
  allowed_here : (name text : List ℕ) (by : Allowed) (send : List ℕ) → Says e (event.Ask name text) (decided.Allowed by send)
      → OfText old.policy text (λ query. IsSent old.target old.policy journal name query send)
  allowed_here name text by send says =
      let h : Allows effort (length journal + 1) name text by send old new = meant effort (length journal + 1) e old new (event.Ask name text) (decided.Allowed by send) serves says (λ bytes z. z) in
      let is = (tracks.each name h.asker h.may.served.is_open).asker_is in (
        h.query,
        h.may.reads,
        record {
          safe = record {
            context = h.asker.context;
            trace = h.asker.trace;
            asker = is;
            strong = h.strong;
            one_answer = λ d e xs ys alike ax ay.
                allowed_has_one_answer (record { policy = old.policy; context = h.asker.context; trace = h.asker.trace; query = h.query }) is.told d e xs ys is.records h.strong alike ax ay;
          };
          printed = h.sent;
          reads = h.reads_back;
        },
      )

  blocked_here : (name text : List ℕ) (reason : Reason) → Says e (event.Ask name text) (decided.Blocked reason) → OfText old.policy text (λ query. IsDenied old.policy effort journal name query reason)
  blocked_here name text reason says =
      let h : Blocks effort name text reason old new = meant effort (length journal + 1) e old new (event.Ask name text) (decided.Blocked reason) serves says (λ bytes z. z) in
      (h.query, h.reads, record { context = h.asker.context; trace = h.asker.trace; asker = (tracks.each name h.asker h.counts.served.is_open).asker_is; blocked = h.blocked })

  read_here : (name key : List ℕ) (members : List Member) (queries : List Query) (by : List Allowed) → Says e (event.Read name key members) (decided.Read (read.Allowed queries by))
      → AreOfKey old.policy key members queries × All (IsSafe old.policy journal name) queries
  read_here name key members queries by says =
      let h : Reads effort name key members (read.Allowed queries by) old new = meant effort (length journal + 1) e old new (event.Read name key members) (decided.Read (read.Allowed queries by)) serves says (λ bytes z. z) in
      let judged = h.judged in (
        record { found = h.found; named = h.is_key.named; arguments = h.arguments; given = h.is_key.given; queries_are = judged.0 },
        subst (All (IsSafe old.policy journal name)) (sym judged.0) (all_safe old.policy journal name h.asker effort old.shelves _ by (tracks.each name h.asker h.served.is_open).asker_is judged.1),
      )

  read_blocked_here : (name key : List ℕ) (members : List Member) (queries : List Query) (by : List Allowed) (reason : Reason) → Says e (event.Read name key members) (decided.Read (read.Blocked queries by reason))
      → AreOfKey old.policy key members queries × IsReadDenied old.policy effort journal name queries reason
  read_blocked_here name key members queries by reason says =
      let h : Reads effort name key members (read.Blocked queries by reason) old new = meant effort (length journal + 1) e old new (event.Read name key members) (decided.Read (read.Blocked queries by reason)) serves says (λ bytes z. z) in
      let judged = h.judged in
      let behind = judged.1 in
      let asker_is = (tracks.each name h.asker h.served.is_open).asker_is in (
        record { found = h.found; named = h.is_key.named; arguments = h.arguments; given = h.is_key.given; queries_are = judged.0 },
        record {
          front = behind.front;
          query = behind.query;
          back = behind.back;
          are = judged.0 ∙ behind.are;
          safe = all_safe old.policy journal name h.asker effort old.shelves behind.front by asker_is behind.allowed;
          denied = record { context = h.asker.context; trace = h.asker.trace; asker = asker_is; blocked = behind.blocked.judges };
        },
      )

  -- what it was told alone can be in no database
  contradicted_by : (name : List ℕ) (asker : Open) (is : open_at old name ≡ Some asker) (steps : List Step) → Contradicted old.policy asker.context asker.trace effort steps → IsContradicted old.policy journal name
  contradicted_by name asker is steps h =
      let a = (tracks.each name asker is).asker_is in
      record {
        context = asker.context;
        trace = asker.trace;
        asker = a;
        none = λ d conforms gives. h.none.none d conforms (shows_told old.policy asker.context d conforms a.records gives);
      }

  contradicted_here : (name text : List ℕ) → Says e (event.Ask name text) decided.Contradiction → IsContradicted old.policy journal name
  contradicted_here name text says =
      let h : FindsAsking effort name text old new = meant effort (length journal + 1) e old new (event.Ask name text) decided.Contradiction serves says (λ bytes z. z) in
      contradicted_by name h.asker h.may.served.is_open h.steps h.contradicted

  read_contradicted_here : (name key : List ℕ) (members : List Member) → Says e (event.Read name key members) decided.Contradiction → IsContradicted old.policy journal name
  read_contradicted_here name key members says =
      let h : FindsReading effort name key members old new = meant effort (length journal + 1) e old new (event.Read name key members) decided.Contradiction serves says (λ bytes z. z) in
      contradicted_by name h.asker h.served.is_open h.steps h.contradicted

  told_contradicted_here : (line : ℕ) (rows : List (List Value)) → Says e (event.Told line rows) decided.Contradiction → ContradictsTold old.policy journal line rows
  told_contradicted_here line rows says =
      let h : FindsTelling effort line rows old new = meant effort (length journal + 1) e old new (event.Told line rows) decided.Contradiction serves says (λ bytes z. z) in
      let t = tracks.each h.question.name h.asker h.may.served.is_open in
      let a = t.asker_is in
      record {
        name = h.question.name;
        query = h.question.query;
        context = h.asker.context;
        trace = h.asker.trace;
        asker = a;
        allowed = t.questions line h.question h.may.was_asked refl;
        none = λ d conforms gives given.
            (found_is_none old.policy effort h.asker.context h.asker.trace h.entries h.found).none d conforms
            (shows_both h.asker.context d h.asker.trace h.entries (shows_told old.policy h.asker.context d conforms a.records gives)
            ((entries_show_rows old.policy.schema h.asker.context d h.question.query rows h.entries conforms h.are).0 given));
      }

-- ---- all entries

record Holds (policy : Policy) (target : Target) (effort : Effort) (journal : List Entry) (now : Live) : Type 0 where
  policy_is : now.policy ≡ policy
  target_is : now.target ≡ target
  tracks : Tracks policy journal now
  headline : Headline policy target effort journal

take_front : (journal : List Entry) (e : Entry) (place : ℕ) → place < length journal → take place (journal ++ e ∷ []) ≡ take place journal
take_front journal e place below = take-append-le place journal (e ∷ []) (omega (arith, below))

take_here : (journal : List Entry) (e : Entry) (place : ℕ) → place ≡ length journal → take place (journal ++ e ∷ []) ≡ journal
take_here journal e place same = ap (λ n. take n (journal ++ e ∷ [])) same ∙ take-append_seam journal (e ∷ [])

headline_more : (policy : Policy) (target : Target) (effort : Effort) (journal : List Entry) (e : Entry) → Headline policy target effort journal
    → ((name text : List ℕ) (by : Allowed) (send : List ℕ) → Says e (event.Ask name text) (decided.Allowed by send) → OfText policy text (λ query. IsSent target policy journal name query send))
    → ((name text : List ℕ) (reason : Reason) → Says e (event.Ask name text) (decided.Blocked reason) → OfText policy text (λ query. IsDenied policy effort journal name query reason))
    → ((name key : List ℕ) (members : List Member) (queries : List Query) (by : List Allowed) → Says e (event.Read name key members) (decided.Read (read.Allowed queries by)) → AreOfKey policy key members queries × All (IsSafe policy journal name) queries)
    → ((name key : List ℕ) (members : List Member) (queries : List Query) (by : List Allowed) (reason : Reason) → Says e (event.Read name key members) (decided.Read (read.Blocked queries by reason)) → AreOfKey policy key members queries × IsReadDenied policy effort journal name queries reason)
    → ((name text : List ℕ) → Says e (event.Ask name text) decided.Contradiction → IsContradicted policy journal name)
    → ((name key : List ℕ) (members : List Member) → Says e (event.Read name key members) decided.Contradiction → IsContradicted policy journal name)
    → ((line : ℕ) (rows : List (List Value)) → Says e (event.Told line rows) decided.Contradiction → ContradictsTold policy journal line rows)
    → Headline policy target effort (journal ++ e ∷ [])
headline_more policy target effort journal e head allowed blocked keys stops asking reading telling =
    record {
      allowed = λ place name text by send at.
          elim (at_cases policy journal e place _ _ at) [
            | inl there ↦ subst (λ (js : List Entry). OfText policy text (λ query. IsSent target policy js name query send)) (sym (take_front journal e place (at_within policy journal e place _ _ there))) (head.allowed place name text by send there)
            | inr (same, says) ↦ subst (λ (js : List Entry). OfText policy text (λ query. IsSent target policy js name query send)) (sym (take_here journal e place same)) (allowed name text by send says)
          ];
      contradicted = λ place name text at.
          elim (at_cases policy journal e place _ _ at) [
            | inl there ↦ subst (λ (js : List Entry). IsContradicted policy js name) (sym (take_front journal e place (at_within policy journal e place _ _ there))) (head.contradicted place name text there)
            | inr (same, says) ↦ subst (λ (js : List Entry). IsContradicted policy js name) (sym (take_here journal e place same)) (asking name text says)
          ];
      read_contradicted = λ place name key members at.
          elim (at_cases policy journal e place _ _ at) [
            | inl there ↦ subst (λ (js : List Entry). IsContradicted policy js name) (sym (take_front journal e place (at_within policy journal e place _ _ there))) (head.read_contradicted place name key members there)
            | inr (same, says) ↦ subst (λ (js : List Entry). IsContradicted policy js name) (sym (take_here journal e place same)) (reading name key members says)
          ];
      told_contradicted = λ place line rows at.
          elim (at_cases policy journal e place _ _ at) [
            | inl there ↦ subst (λ (js : List Entry). ContradictsTold policy js line rows) (sym (take_front journal e place (at_within policy journal e place _ _ there))) (head.told_contradicted place line rows there)
            | inr (same, says) ↦ subst (λ (js : List Entry). ContradictsTold policy js line rows) (sym (take_here journal e place same)) (telling line rows says)
          ];
      blocked = λ place name text reason at.
          elim (at_cases policy journal e place _ _ at) [
            | inl there ↦ subst (λ (js : List Entry). OfText policy text (λ query. IsDenied policy effort js name query reason)) (sym (take_front journal e place (at_within policy journal e place _ _ there))) (head.blocked place name text reason there)
            | inr (same, says) ↦ subst (λ (js : List Entry). OfText policy text (λ query. IsDenied policy effort js name query reason)) (sym (take_here journal e place same)) (blocked name text reason says)
          ];
      read = λ place name key members queries by at.
          elim (at_cases policy journal e place _ _ at) [
            | inl there ↦ subst (λ (js : List Entry). AreOfKey policy key members queries × All (IsSafe policy js name) queries) (sym (take_front journal e place (at_within policy journal e place _ _ there))) (head.read place name key members queries by there)
            | inr (same, says) ↦ subst (λ (js : List Entry). AreOfKey policy key members queries × All (IsSafe policy js name) queries) (sym (take_here journal e place same)) (keys name key members queries by says)
          ];
      read_blocked = λ place name key members queries by reason at.
          elim (at_cases policy journal e place _ _ at) [
            | inl there ↦ subst (λ (js : List Entry). AreOfKey policy key members queries × IsReadDenied policy effort js name queries reason) (sym (take_front journal e place (at_within policy journal e place _ _ there))) (head.read_blocked place name key members queries by reason there)
            | inr (same, says) ↦ subst (λ (js : List Entry). AreOfKey policy key members queries × IsReadDenied policy effort js name queries reason) (sym (take_here journal e place same)) (stops name key members queries by reason says)
          ];
    }

no_entry : (place : ℕ) (it : Event) (d : Decision) → At [] place it d → ⊥
no_entry place it d at = none_some at.entry None refl at.there

holds_start : (policy : Policy) (target : Target) (loaded : List Proof) (budget : ℕ) (effort : Effort) (start : Live) → IsFresh policy target loaded budget start → Holds policy target effort [] start
holds_start policy target loaded budget effort start fresh =
    record {
      policy_is = fresh.policy_is;
      target_is = fresh.target_is;
      tracks = record {
        each = λ name asker is. absurd (none_some asker (open_at start name) (fresh.nothing_open name) is);
        owned = λ line question is. absurd (none_some question (asked_at start line) (fresh.nothing_asked line) is);
      };
      headline = record {
        allowed = λ place name text by send at. absurd (no_entry place _ _ at);
        contradicted = λ place name text at. absurd (no_entry place _ _ at);
        read_contradicted = λ place name key members at. absurd (no_entry place _ _ at);
        told_contradicted = λ place line rows at. absurd (no_entry place _ _ at);
        blocked = λ place name text reason at. absurd (no_entry place _ _ at);
        read = λ place name key members queries by at. absurd (no_entry place _ _ at);
        read_blocked = λ place name key members queries by reason at. absurd (no_entry place _ _ at);
      };
    }

holds_own : (effort : Effort) (journal : List Entry) (e : Entry) (old new : Live) → Tracks old.policy journal old → Headline old.policy old.target effort journal → Serves effort (length journal + 1) e old new
    → Holds old.policy old.target effort (journal ++ e ∷ []) new
holds_own effort journal e old new tracks head serves =
    record {
      policy_is = serves.stays.policy;
      target_is = serves.stays.target;
      tracks = serves_step effort journal e old new tracks serves;
      headline = headline_more old.policy old.target effort journal e head (allowed_here effort journal e old new tracks serves) (blocked_here effort journal e old new tracks serves)
          (read_here effort journal e old new tracks serves) (read_blocked_here effort journal e old new tracks serves) (contradicted_here effort journal e old new tracks serves)
          (read_contradicted_here effort journal e old new tracks serves) (told_contradicted_here effort journal e old new tracks serves);
    }

holds_more : (policy : Policy) (target : Target) (effort : Effort) (journal : List Entry) (e : Entry) (old new : Live) → Holds policy target effort journal old → Serves effort (length journal + 1) e old new
    → Holds policy target effort (journal ++ e ∷ []) new
holds_more policy target effort journal e old new holds serves =
    subst (λ t. Holds policy t effort (journal ++ e ∷ []) new) holds.target_is
    (subst (λ p. Holds p old.target effort (journal ++ e ∷ []) new) holds.policy_is
    (holds_own effort journal e old new
    (subst (λ p. Tracks p journal old) (sym holds.policy_is) holds.tracks)
    (subst (λ t. Headline old.policy t effort journal) (sym holds.target_is) (subst (λ p. Headline p target effort journal) (sym holds.policy_is) holds.headline))
    serves))

holds_all : (policy : Policy) (target : Target) (loaded : List Proof) (budget : ℕ) (evidence : Bool) (effort : Effort) (start : Live) (journal : List Entry) (texts : List (List ℕ)) (now : Live)
    → IsFresh policy target loaded budget start → Runs evidence effort start journal texts now → Holds policy target effort journal now
holds_all policy target loaded budget evidence effort start [] [] now fresh none = holds_start policy target loaded budget effort start fresh
holds_all policy target loaded budget evidence effort start _ _ now fresh (next {earlier = earlier} {texts = texts} {old = old} it text rest serves is) =
    holds_more policy target effort earlier it old now (holds_all policy target loaded budget evidence effort start earlier texts old fresh rest) serves

pub runs_headline : (policy : Policy) (target : Target) (loaded : List Proof) (budget : ℕ) (evidence : Bool) (effort : Effort) (start : Live) (journal : List Entry) (texts : List (List ℕ)) (now : Live)
    → IsFresh policy target loaded budget start → Runs evidence effort start journal texts now → Headline policy target effort journal
runs_headline policy target loaded budget evidence effort start journal texts now fresh runs = (holds_all policy target loaded budget evidence effort start journal texts now fresh runs).headline
