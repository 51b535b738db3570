-- What is tracked follows each step.
use Rattle.std.proofs.Common.{◌≡◌, ◌∙◌, ℕ, ◌+◌, ◌<◌, List, [], ◌∷◌, ◌++◌, Bool, true, false, cond, Option, Some, None, Ok, length, refl, sym, ap, subst, arith}
use Rattle.std.proofs.lemmas.List.Elements.{All-nil, All-push, All-weaker}
use Rattle.std.specs.Str.{bytes_eq}
use Rattle.ba_comply.specs.declared.trace.TraceEntry.{TraceEntry}
use Rattle.ba_event.specs.declared.event.Event.TheVariants as event
use Rattle.ba_judge.specs.declared.verdict.Allowed.{Allowed}
use Rattle.ba_live.proofs.BookLemmas.{asked_after, bytes_equal, none_some, opened_at, opens_away, opens_here, same_some}
use Rattle.ba_live.proofs.BookLemmas.At.{this, that}
use Rattle.ba_live.specs.Askers.{new_open, with_front, with_line, with_told}
use Rattle.ba_live.specs.Books.{Expects, Forgets, LeavesAll, LeavesAsked, Opens, asked_at, open_at, open_in, unless_of}
use Rattle.ba_live.specs.Laws.{RecordsTold, ToldRows}
use Rattle.ba_live.specs.Laws.RecordsTold.{nothing, more, some}
use Rattle.ba_live.specs.declared.decision.Decision.{Decision}
use Rattle.ba_live.specs.declared.decision.Decision.TheVariants as decided
use Rattle.ba_live.specs.declared.live.Live.{Live}
use Rattle.ba_live.specs.declared.open.Asked.{Asked}
use Rattle.ba_live.specs.declared.open.Open.{Open}
use Rattle.ba_model.specs.declared.policy.Context.{Context}
use Rattle.ba_model.specs.declared.policy.Policy.{Policy}
use Rattle.ba_model.specs.declared.query.Query.{Query}
use Rattle.ba_model.specs.declared.value.Value.{Value}
use Rattle.ba_parts.specs.Recording.{AreEntries}
use Rattle.ba_script.specs.Contexts.{context_of}
use Rattle.ba_script.specs.declared.line.Member.{Member}
use Rattle.ba_sql_query.specs.Texts.{query_of}
use Rattle.ba_decide.proofs.TrackLemmas.{Says, Tracked, Tracks, TurnsHere, allowed_more, at_here, at_within, began_here, began_more, began_within, goes_on, not_same, quiet_begin, quiet_end, told_more}
use Rattle.ba_decide.specs.Journal.{Entry}
use Rattle.ba_decide.specs.Told.{BeganAt, MayRecord, WasAllowed, WasTold}

module _ (policy : Policy) (journal : List Entry) (e : Entry) (old new : Live) (tracks : Tracks policy journal old) where
  -- nothing changes
  pub tracks_leaves : LeavesAll old new → ((name : List ℕ) → TurnsHere e name → ⊥) → Tracks policy (journal ++ e ∷ []) new
  tracks_leaves leaves calm =
      record {
        each = λ name asker is.
            goes_on policy journal e old new name asker asker (tracks.each name asker (sym (leaves.requests.each name) ∙ is)) refl refl (λ line question asked named. sym (leaves.questions.each line) ∙ asked) (calm name);
        owned = λ line question is.
            let owner = tracks.owned line question (sym (leaves.questions.each line) ∙ is) in
            (owner.0, leaves.requests.each question.name ∙ owner.1);
      }

  -- under a name that was open this is open
  owner_after : (name : List ℕ) (asker after : Open) → open_at old name ≡ Some asker → Opens name (Some after) old.requests new.requests → (question : Asked)
      → (owner : Open) × (open_at old question.name ≡ Some owner) → (owner : Open) × (open_at new question.name ≡ Some owner)
  owner_after name asker after is opens question owner = by (bytes_eq name question.name) refl
    where
      by : (b : Bool) → bytes_eq name question.name ≡ b → (owner : Open) × (open_at new question.name ≡ Some owner)
      by true here = (after, opens.each question.name ∙ ap (λ b. cond b (Some after) (open_in old.requests question.name)) here)
      by false away = (owner.0, opens_away name (Some after) old.requests new.requests question.name opens away ∙ owner.1)

  -- an open request asks, and no question may be told that might not
  pub tracks_asks : (name : List ℕ) (asker after : Open) → open_at old name ≡ Some asker → after.context ≡ asker.context → after.trace ≡ asker.trace → Opens name (Some after) old.requests new.requests
      → LeavesAsked old.questions new.questions → ((name : List ℕ) → TurnsHere e name → ⊥) → Tracks policy (journal ++ e ∷ []) new
  tracks_asks name asker after is context trace opens asked calm =
      record {
        each = λ other it now.
            elim (opened_at name (Some after) old.requests new.requests other it opens now) [
              | this here same ↦
                  subst (Tracked policy (journal ++ e ∷ []) new other) (same_some after it same)
                  (goes_on policy journal e old new other asker after (tracks.each other asker (subst (λ n. open_at old n ≡ Some asker) here is)) context trace (λ line question told named. sym (asked.each line) ∙ told) (calm other))
              | that away was ↦ goes_on policy journal e old new other it it (tracks.each other it was) refl refl (λ line question told named. sym (asked.each line) ∙ told) (calm other)
            ];
        owned = λ line question told. owner_after name asker after is opens question (tracks.owned line question (sym (asked.each line) ∙ told));
      }

  -- a request begins
  pub tracks_begins : (name : List ℕ) (members : List Member) (context : Context) → Says e (event.Begin name members) decided.Begun → open_at old name ≡ None
      → context_of policy.params members ≡ Some context → Opens name (Some (new_open context)) old.requests new.requests → LeavesAsked old.questions new.questions → Tracks policy (journal ++ e ∷ []) new
  tracks_begins name members context says free given opens asked =
      record {
        each = λ other it now.
            elim (opened_at name (Some (new_open context)) old.requests new.requests other it opens now) [
              | this here same ↦
                  subst (λ (n : List ℕ). Tracked policy (journal ++ e ∷ []) new n it) here
                  (subst (Tracked policy (journal ++ e ∷ []) new name) (same_some (new_open context) it same) fresh)
              | that away was ↦ goes_on policy journal e old new other it it (tracks.each other it was) refl refl (λ line question told named. sym (asked.each line) ∙ told) (quiet_begin e name other members says away)
            ];
        owned = λ line question told. owner line question (tracks.owned line question (sym (asked.each line) ∙ told));
      }
    where
      none_of : (question : Asked) → (owner : Open) × (open_at old question.name ≡ Some owner) → name ≡ question.name → ⊥
      none_of question owner same = none_some owner.0 (open_at old question.name) (sym (ap (open_at old) same) ∙ free) owner.1

      owner : (line : ℕ) (question : Asked) → (owner : Open) × (open_at old question.name ≡ Some owner) → (owner : Open) × (open_at new question.name ≡ Some owner)
      owner line question its = by (bytes_eq name question.name) refl
        where
          by : (b : Bool) → bytes_eq name question.name ≡ b → (owner : Open) × (open_at new question.name ≡ Some owner)
          by true here = absurd (none_of question its (bytes_equal name question.name here))
          by false away = (its.0, opens_away name (Some (new_open context)) old.requests new.requests question.name opens away ∙ its.1)

      fresh : Tracked policy (journal ++ e ∷ []) new name (new_open context)
      fresh =
          record {
            asker_is = record {
              began = length journal;
              request = began_here policy journal e name members context says given;
              told = [];
              were = All-nil (WasTold policy (journal ++ e ∷ []) name (length journal));
              records = nothing;
            };
            questions = λ line question told named. absurd (none_of question (tracks.owned line question (sym (asked.each line) ∙ told)) (sym named));
          }

  -- a question is allowed, and may be told
  pub tracks_allows : (line : ℕ) (name text : List ℕ) (by : Allowed) (send : List ℕ) (asker : Open) (query : Query) → Says e (event.Ask name text) (decided.Allowed by send) → line ≡ length journal + 1
      → open_at old name ≡ Some asker → query_of policy.schema policy.params text ≡ Ok query → Opens name (Some (with_line line asker)) old.requests new.requests
      → Expects line (Some (record { name = name; query = query })) old.questions new.questions → ((name : List ℕ) → TurnsHere e name → ⊥) → Tracks policy (journal ++ e ∷ []) new
  tracks_allows line name text by send asker query says number is reads opens expects calm =
      record {
        each = λ other it now.
            elim (opened_at name (Some (with_line line asker)) old.requests new.requests other it opens now) [
              | this here same ↦
                  subst (λ (n : List ℕ). Tracked policy (journal ++ e ∷ []) new n it) here
                  (subst (Tracked policy (journal ++ e ∷ []) new name) (same_some (with_line line asker) it same) own)
              | that away was ↦ goes_on policy journal e old new other it it (tracks.each other it was) refl refl (others other away) (calm other)
            ];
        owned = λ place question told.
            elim (asked_after line (Some asked) old.questions new.questions place question expects told) [
              | this here same ↦ (with_line line asker, subst (λ (q : Asked). open_at new q.name ≡ Some (with_line line asker)) (same_some asked question same) (opens_here name (Some (with_line line asker)) old.requests new.requests opens))
              | that away was ↦ owner_after name asker (with_line line asker) is opens question (tracks.owned place question was)
            ];
      }
    where
      asked : Asked
      asked = record { name = name; query = query }

      others : (other : List ℕ) → bytes_eq name other ≡ false → (place : ℕ) (question : Asked) → asked_at new place ≡ Some question → question.name ≡ other → asked_at old place ≡ Some question
      others other away place question told named =
          elim (asked_after line (Some asked) old.questions new.questions place question expects told) [
            | this here same ↦ absurd (not_same name other away (ap (λ (q : Asked). q.name) (same_some asked question same) ∙ named))
            | that off was ↦ was
          ]

      before : Tracked policy journal old name asker
      before = tracks.each name asker is

      began : ℕ
      began = before.asker_is.began

      here_allowed : WasAllowed policy (journal ++ e ∷ []) name before.asker_is.began line query
      here_allowed =
          record {
            place = length journal;
            line_is = number;
            after = began_within policy journal e name asker.context before.asker_is.began before.asker_is.request;
            text = text;
            by = by;
            send = send;
            asks = at_here policy journal e (event.Ask name text) (decided.Allowed by send) says;
            reads = reads;
          }

      own : Tracked policy (journal ++ e ∷ []) new name (with_line line asker)
      own =
          let a = before.asker_is in
          record {
            asker_is = record {
              began = a.began;
              request = began_more policy journal e name asker.context a.began (calm name) a.request;
              told = a.told;
              were = All-weaker (WasTold policy journal name a.began) (WasTold policy (journal ++ e ∷ []) name a.began) (told_more policy journal e name a.began) a.told a.were;
              records = a.records;
            };
            questions = λ place question told named.
                elim (asked_after line (Some asked) old.questions new.questions place question expects told) [
                  | this here same ↦
                      subst (λ (n : ℕ). WasAllowed policy (journal ++ e ∷ []) name before.asker_is.began n question.query) here
                      (subst (λ (q : Asked). WasAllowed policy (journal ++ e ∷ []) name before.asker_is.began line q.query) (same_some asked question same) here_allowed)
                  | that away was ↦ allowed_more policy journal e name before.asker_is.began place question.query (before.questions place question was named)
                ];
          }

still_asked : (told : ℕ) (old new : Live) (line : ℕ) (one : Asked) → Expects told None old.questions new.questions → asked_at new line ≡ Some one → asked_at old line ≡ Some one
still_asked told old new line one expects asked =
    elim (asked_after told None old.questions new.questions line one expects asked) [
      | this here same ↦ absurd (none_some one None refl same)
      | that away found ↦ found
    ]

-- ---- rows are told

-- what was told of a question: it was told these rows at the last entry
told_here : (policy : Policy) (journal : List Entry) (e : Entry) (old : Live) (told : ℕ) (rows : List (List Value)) (question : Asked) (asker : Open) (d : Decision)
    → MayRecord d → Says e (event.Told told rows) d → asked_at old told ≡ Some question → (t : Tracked policy journal old question.name asker)
    → WasTold policy (journal ++ e ∷ []) question.name t.asker_is.began (record { query = question.query; rows = rows })
told_here policy journal e old told rows question asker d may says was t =
    let allowed = t.questions told question was refl in
    let within : allowed.place < length journal = at_within policy journal e allowed.place _ _ allowed.asks in
    record {
      line = told;
      allowed = allowed_more policy journal e question.name t.asker_is.began told question.query allowed;
      place = length journal;
      later = omega (arith, allowed.line_is, within);
      decision = d;
      recorded = may;
      tells = at_here policy journal e (event.Told told rows) d says;
    }

-- the request goes on with more in its trace, of what it was told
goes_on_told : (policy : Policy) (journal : List Entry) (e : Entry) (old new : Live) (name : List ℕ) (asker after : Open) (it : ToldRows) (t : Tracked policy journal old name asker)
    → after.context ≡ asker.context → WasTold policy (journal ++ e ∷ []) name t.asker_is.began it
    → RecordsTold policy asker.context (t.asker_is.told ++ it ∷ []) after.trace
    → ((line : ℕ) (one : Asked) → asked_at new line ≡ Some one → asked_at old line ≡ Some one) → (TurnsHere e name → ⊥) → Tracked policy (journal ++ e ∷ []) new name after
goes_on_told policy journal e old new name asker after it t context was records still calm =
    let a = t.asker_is in
    record {
      asker_is = record {
        began = a.began;
        request = subst (λ c. BeganAt policy (journal ++ e ∷ []) name c a.began) (sym context) (began_more policy journal e name asker.context a.began calm a.request);
        told = a.told ++ it ∷ [];
        were = All-push (WasTold policy (journal ++ e ∷ []) name a.began) a.told it (All-weaker (WasTold policy journal name a.began) (WasTold policy (journal ++ e ∷ []) name a.began) (told_more policy journal e name a.began) a.told a.were) was;
        records = subst (λ c. RecordsTold policy c (a.told ++ it ∷ []) after.trace) (sym context) records;
      };
      questions = λ line one asked named. allowed_more policy journal e name a.began line one.query (t.questions line one (still line one asked) named);
    }

-- under the name more stands in the trace, and no question may be told that might not
pub tracks_more : (policy : Policy) (journal : List Entry) (e : Entry) (old new : Live) → Tracks policy journal old → (name : List ℕ) (asker after : Open) → open_at old name ≡ Some asker
    → Opens name (Some after) old.requests new.requests → Tracked policy (journal ++ e ∷ []) new name after
    → ((line : ℕ) (one : Asked) → asked_at new line ≡ Some one → asked_at old line ≡ Some one) → ((name : List ℕ) → TurnsHere e name → ⊥) → Tracks policy (journal ++ e ∷ []) new
tracks_more policy journal e old new tracks name asker after is opens own still calm =
    record {
      each = λ other it now.
          elim (opened_at name (Some after) old.requests new.requests other it opens now) [
            | this here same ↦
                subst (λ (n : List ℕ). Tracked policy (journal ++ e ∷ []) new n it) here
                (subst (Tracked policy (journal ++ e ∷ []) new name) (same_some after it same) own)
            | that away found ↦ goes_on policy journal e old new other it it (tracks.each other it found) refl refl (λ line one asked named. still line one asked) (calm other)
          ];
      owned = λ line one asked. owner_after policy journal e old new tracks name asker after is opens one (tracks.owned line one (still line one asked));
    }

pub tracks_tells : (policy : Policy) (journal : List Entry) (e : Entry) (old new : Live) → Tracks policy journal old → (told : ℕ) (rows : List (List Value)) (question : Asked) (asker : Open) (entries : List TraceEntry) (d : Decision)
    → MayRecord d → Says e (event.Told told rows) d → asked_at old told ≡ Some question → open_at old question.name ≡ Some asker → AreEntries policy.schema asker.context question.query rows entries
    → Opens question.name (Some (with_told told entries asker)) old.requests new.requests → Expects told None old.questions new.questions → ((name : List ℕ) → TurnsHere e name → ⊥)
    → Tracks policy (journal ++ e ∷ []) new
tracks_tells policy journal e old new tracks told rows question asker entries d may says was is are opens expects calm =
    let t = tracks.each question.name asker is in
    let still : (line : ℕ) (one : Asked) → asked_at new line ≡ Some one → asked_at old line ≡ Some one = λ line one asked. still_asked told old new line one expects asked in
    tracks_more policy journal e old new tracks question.name asker (with_told told entries asker) is opens
    (goes_on_told policy journal e old new question.name asker (with_told told entries asker) (record { query = question.query; rows = rows }) t refl (told_here policy journal e old told rows question asker d may says was t)
    (more (record { query = question.query; rows = rows }) t.asker_is.records are) still (calm question.name))
    still calm

pub tracks_part : (policy : Policy) (journal : List Entry) (e : Entry) (old new : Live) → Tracks policy journal old → (told : ℕ) (rows : List (List Value)) (question : Asked) (asker : Open) (entries : List TraceEntry) (count : ℕ) (d : Decision)
    → MayRecord d → Says e (event.Told told rows) d → asked_at old told ≡ Some question → open_at old question.name ≡ Some asker → AreEntries policy.schema asker.context question.query rows entries
    → Opens question.name (Some (with_front count entries asker)) old.requests new.requests → LeavesAsked old.questions new.questions → ((name : List ℕ) → TurnsHere e name → ⊥)
    → Tracks policy (journal ++ e ∷ []) new
tracks_part policy journal e old new tracks told rows question asker entries count d may says was is are opens asked calm =
    let t = tracks.each question.name asker is in
    let still : (line : ℕ) (one : Asked) → asked_at new line ≡ Some one → asked_at old line ≡ Some one = λ line one found. sym (asked.each line) ∙ found in
    tracks_more policy journal e old new tracks question.name asker (with_front count entries asker) is opens
    (goes_on_told policy journal e old new question.name asker (with_front count entries asker) (record { query = question.query; rows = rows }) t refl (told_here policy journal e old told rows question asker d may says was t)
    (some (record { query = question.query; rows = rows }) count t.asker_is.records are) still (calm question.name))
    still calm

-- ---- a request ends

of_other : (name : List ℕ) (was now : Option Asked) (question : Asked) → now ≡ unless_of name was → now ≡ Some question → (was ≡ Some question) × (bytes_eq name question.name ≡ false)
of_other name None now question e has = absurd (none_some question now e has)
of_other name (Some it) now question e has = by (bytes_eq name it.name) refl (sym e ∙ has)
  where
    by : (b : Bool) → bytes_eq name it.name ≡ b → cond b None (Some it) ≡ Some question → (Some it ≡ Some question) × (bytes_eq name question.name ≡ false)
    by true here found = absurd (none_some question None refl found)
    by false away found = (found, subst (λ (q : Asked). bytes_eq name q.name ≡ false) (same_some it question found) away)

pub tracks_closes : (policy : Policy) (journal : List Entry) (e : Entry) (old new : Live) → Tracks policy journal old → (name : List ℕ) → Says e (event.End name) decided.Ended
    → Opens name None old.requests new.requests → Forgets name old.questions new.questions → Tracks policy (journal ++ e ∷ []) new
tracks_closes policy journal e old new tracks name says closes forgets =
    record {
      each = λ other it now.
          elim (opened_at name None old.requests new.requests other it closes now) [
            | this here same ↦ absurd (none_some it None refl same)
            | that away found ↦ goes_on policy journal e old new other it it (tracks.each other it found) refl refl (λ line one asked named. (still line one asked).0) (quiet_end e name other says away)
          ];
      owned = λ line one asked.
          let owner = tracks.owned line one (still line one asked).0 in
          (owner.0, opens_away name None old.requests new.requests one.name closes (still line one asked).1 ∙ owner.1);
    }
  where
    still : (line : ℕ) (one : Asked) → asked_at new line ≡ Some one → (asked_at old line ≡ Some one) × (bytes_eq name one.name ≡ false)
    still line one asked = of_other name (asked_at old line) (asked_at new line) one (forgets.each line) asked
