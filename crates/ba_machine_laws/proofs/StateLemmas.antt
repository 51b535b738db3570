-- Steps of the machine at a request's number: that each is there, and no other.
use Rattle.std.proofs.Common.{◌≡◌, ◌≢◌, ◌∙◌, ℕ, ◌<◌, ◌≤◌, Bool, true, false, List, [], ◌∷◌, ◌++◌, All, Contains, None, Option, Some, ap, arith, eqb, inl, inr, is_some, length, refl, slice_get, subst, sym, true≢false, ◌⊎◌, IsSome}
use Rattle.std.proofs.lemmas.Bool.Decides.{eqb_tells}
use Rattle.std.proofs.lemmas.List.Elements.{All-contains}
use Rattle.std.proofs.lemmas.Option.{none-some, same_Some, slice_get_within}
use Rattle.std.specs.List.{AllZip}
use Rattle.ba_machine_laws.proofs.KeyLemmas.{one_list, with_entry, with_here, with_others, with_rises, without, without_here, without_others, without_rises}
use Rattle.ba_machine_laws.specs.Agreeing.{AreRising, IsReplyTo}
use Rattle.ba_core.specs.State.{ChangesOnly, State, opened_at}
use Rattle.ba_core.specs.Steps.{Fits, HasTemplate, AnswersAsk, IsBegun, IsEnded, Reads, RefusesAsk, RefusesBegin, RefusesEnd, RefusesRead, Steps}
use Rattle.ba_core.specs.declared.event.Asked.{Asked}
use Rattle.ba_core.specs.declared.event.Asked.TheVariants as asked
use Rattle.ba_core.specs.declared.event.CoreFault.{CoreFault}
use Rattle.ba_core.specs.declared.event.CoreFault.TheVariants.{NoRequest, NoTemplate, NoVersion, Taken, Unfit}
use Rattle.ba_core.specs.declared.event.CoreReply.{CoreReply}
use Rattle.ba_core.specs.declared.event.CoreReply.TheVariants as replies
use Rattle.ba_core.specs.declared.event.Event.TheVariants as events
use Rattle.ba_core.specs.declared.event.Ground.{Ground}
use Rattle.ba_core.specs.declared.event.Ground.TheVariants as grounds
use Rattle.ba_core.specs.declared.opened.Opened.{Opened}
use Rattle.ba_model.specs.Meaning.{AnswerIsUnique, IsAnswer}
use Rattle.ba_model.specs.declared.policy.Context.{Context}
use Rattle.ba_model.specs.declared.query.Query.{Query}
use Rattle.ba_model.specs.declared.value.Value.{Value}
use Rattle.ba_tables.specs.TableSet.{TableSet}

-- ---- changes of one number

-- the open request of a number after two changes of one number
same_at : (old new next : State) (k : ℕ) (it : Option Opened) → ChangesOnly old new k it → ChangesOnly old next k it →
    (q : ℕ) → ((eqb q k ≡ true) × (q ≡ k)) ⊎ ((eqb q k ≡ false) × (q ≢ k)) → opened_at next q ≡ opened_at new q
same_at old new next k it h g q (inl same) = ap (opened_at next) same.1 ∙ g.here ∙ sym h.here ∙ ap (opened_at new) (sym same.1)
same_at old new next k it h g q (inr apart) = g.others q apart.1 ∙ sym (h.others q apart.1)

-- two states with one change of one number have the same open requests
pub same_requests : (old new next : State) (k : ℕ) (it : Option Opened) → ChangesOnly old new k it → AreRising new → ChangesOnly old next k it → AreRising next →
    next.requests ≡ new.requests
same_requests old new next k it h rising g other = one_list next.requests new.requests other rising (λ q. same_at old new next k it h g q (eqb_tells q k))

pub not_open : (s : State) (k : ℕ) → opened_at s k ≡ None → IsSome (opened_at s k) → ⊥
not_open s k free there = true≢false (sym there ∙ ap is_some free)

not_past : (m n : ℕ) → m < n → n ≤ m → ⊥
not_past m n less more = omega arith

-- ---- a request begins

module _ (s : State) (k : ℕ) (context : Context) (version : ℕ) (tables : TableSet)
    (free : opened_at s k ≡ None) (there : slice_get s.versions version ≡ Some tables) where
  abbrev begun : Opened
  begun = record { context = context; version = version; trace = [] }

  abbrev pub begun_state : State
  begun_state = record s { requests = with_entry k begun s.requests }

  in_range : version < length s.versions
  in_range = slice_get_within s.versions version tables there

  pub begun_opens : ChangesOnly s begun_state k (Some begun)
  begun_opens = record { here = with_here k begun s.requests; others = with_others k begun s.requests }

  begun_rises : AreRising s → AreRising begun_state
  begun_rises rising = with_rises k begun s.requests rising

  begun_allowed : (fault : CoreFault) → RefusesBegin s k version fault → ⊥
  begun_allowed Taken h = not_open s k free h
  begun_allowed NoVersion h = not_past version (length s.versions) in_range h.1
  begun_allowed NoRequest h = h
  begun_allowed NoTemplate h = h
  begun_allowed Unfit h = h

  begun_only : (other : CoreReply) (next : State) → Steps s (events.Begin k context version) other next → other ≡ replies.Begun
  begun_only (replies.Number n) next h = absurd h
  begun_only replies.Begun next h = refl
  begun_only (replies.Asked it) next h = absurd h
  begun_only (replies.Read allowed) next h = absurd h
  begun_only replies.Ended next h = absurd h
  begun_only (replies.Refused fault) next h = absurd (begun_allowed fault h.0)

  begun_alone : (next : State) → IsBegun s k context version next → AreRising s → AreRising next → next ≡ begun_state
  begun_alone next h rising rises =
      h.rest ∙ ap (λ es. record s { requests = es }) (same_requests s begun_state next k (Some begun) begun_opens (begun_rises rising) h.opens rises)

  pub begun_reply : IsReplyTo s (events.Begin k context version) replies.Begun begun_state
  begun_reply = record {
    step = record { free = free; there = in_range; opens = begun_opens; rest = refl };
    only = begun_only;
    rising = begun_rises;
    alone = begun_alone;
  }

-- ---- a question

module _ (s : State) (k : ℕ) (asker : Opened) (query : Query) (why : Ground)
    (is_open : opened_at s k ≡ Some asker) (fits : Fits s.policy s.templates asker query why) (named : HasTemplate s.templates why) where
  ask_allowed : (fault : CoreFault) → RefusesAsk s k query why fault → ⊥
  ask_allowed Taken h = h
  ask_allowed NoRequest h = none-some asker (sym h ∙ is_open)
  ask_allowed NoVersion h = h
  ask_allowed NoTemplate h = h.lacks named
  ask_allowed Unfit h = h.unfit (subst (λ a. Fits s.policy s.templates a query why) (same_Some asker h.asker (sym is_open ∙ h.is_open)) fits)

  module _ (no_refusal : why ≢ grounds.Refuse) (tables : TableSet) (pinned : slice_get s.versions asker.version ≡ Some tables)
      (rows : List (List Value)) (answer : IsAnswer query asker.context tables.rows rows) (unique : AnswerIsUnique) where
    abbrev told : Opened → List (List Value) → Opened
    told it its = record it { trace = it.trace ++ record { query = query; rows = its } ∷ [] }

    abbrev pub told_state : State
    told_state = record s { requests = with_entry k (told asker rows) s.requests; log = s.log ++ record { request = k; query = query; rows = rows } ∷ [] }

    pub told_opens : ChangesOnly s told_state k (Some (told asker rows))
    told_opens = record { here = with_here k (told asker rows) s.requests; others = with_others k (told asker rows) s.requests }

    told_rises : AreRising s → AreRising told_state
    told_rises rising = with_rises k (told asker rows) s.requests rising

    -- the request and its tables are these, and so are the rows
    same_rows : (others : List (List Value)) (ts : TableSet) → slice_get s.versions asker.version ≡ Some ts → IsAnswer query asker.context ts.rows others → others ≡ rows
    same_rows others ts is theirs =
        unique query asker.context tables.rows others rows (subst (λ t. IsAnswer query asker.context t.rows others) (same_Some ts tables (sym is ∙ pinned)) theirs) answer

    rows_are : (others : List (List Value)) (it : Opened) → asker ≡ it → (ts : TableSet) → slice_get s.versions it.version ≡ Some ts → IsAnswer query it.context ts.rows others → others ≡ rows
    rows_are others it same ts is theirs =
        same_rows others ts (subst (λ a. slice_get s.versions a.version ≡ Some ts) (sym same) is) (subst (λ a. IsAnswer query a.context ts.rows others) (sym same) theirs)

    answered_only : (others : List (List Value)) (next : State) → AnswersAsk s k query why others next → others ≡ rows
    answered_only others next h =
        rows_are others h.released.asker (same_Some asker h.released.asker (sym is_open ∙ h.released.is_open)) h.released.tables h.released.pinned h.released.answer

    asked_only : (it : Asked) (next : State) → Steps s (events.Ask k query why) (replies.Asked it) next → it ≡ asked.Answer rows
    asked_only (asked.Answer others) next h = ap asked.Answer (answered_only others next h)
    asked_only asked.Blocked next h = absurd (no_refusal h.0.refusal)

    told_only : (other : CoreReply) (next : State) → Steps s (events.Ask k query why) other next → other ≡ replies.Asked (asked.Answer rows)
    told_only (replies.Number n) next h = absurd h
    told_only replies.Begun next h = absurd h
    told_only (replies.Asked it) next h = ap replies.Asked (asked_only it next h)
    told_only (replies.Read allowed) next h = absurd h
    told_only replies.Ended next h = absurd h
    told_only (replies.Refused fault) next h = absurd (ask_allowed fault h.0)

    told_alone : (next : State) → AnswersAsk s k query why rows next → AreRising s → AreRising next → next ≡ told_state
    told_alone next h rising rises =
        let same = same_Some asker h.recorded.asker (sym is_open ∙ h.recorded.is_open) in
        let opens : ChangesOnly s next k (Some (told asker rows)) = subst (λ a. ChangesOnly s next k (Some (told a rows))) (sym same) h.recorded.trace in
        let requests_same = same_requests s told_state next k (Some (told asker rows)) told_opens (told_rises rising) opens rises in
        h.recorded.rest ∙ (λ i. record s { requests = requests_same i; log = h.recorded.log i })

    pub told_reply : IsReplyTo s (events.Ask k query why) (replies.Asked (asked.Answer rows)) told_state
    told_reply = record {
      step = record {
        released = record { asker = asker; is_open = is_open; fits = fits; no_refusal = no_refusal; tables = tables; pinned = pinned; answer = answer };
        recorded = record { asker = asker; is_open = is_open; trace = told_opens; log = refl; rest = refl };
      };
      only = told_only;
      rising = told_rises;
      alone = told_alone;
    }

-- ---- a question that is refused

module _ (s : State) (k : ℕ) (asker : Opened) (query : Query)
    (is_open : opened_at s k ≡ Some asker) (fits : Fits s.policy s.templates asker query grounds.Refuse) where
  refused_only : (it : Asked) (next : State) → Steps s (events.Ask k query grounds.Refuse) (replies.Asked it) next → it ≡ asked.Blocked
  refused_only (asked.Answer others) next h = absurd (h.released.no_refusal refl)
  refused_only asked.Blocked next h = refl

  blocked_only : (other : CoreReply) (next : State) → Steps s (events.Ask k query grounds.Refuse) other next → other ≡ replies.Asked asked.Blocked
  blocked_only (replies.Number n) next h = absurd h
  blocked_only replies.Begun next h = absurd h
  blocked_only (replies.Asked it) next h = ap replies.Asked (refused_only it next h)
  blocked_only (replies.Read allowed) next h = absurd h
  blocked_only replies.Ended next h = absurd h
  blocked_only (replies.Refused fault) next h = absurd (ask_allowed s k asker query grounds.Refuse is_open fits tt fault h.0)

  pub blocked_reply : IsReplyTo s (events.Ask k query grounds.Refuse) (replies.Asked asked.Blocked) s
  blocked_reply = record {
    step = (record { asker = asker; is_open = is_open; fits = fits; refusal = refl }, refl);
    only = blocked_only;
    rising = λ rising. rising;
    alone = λ next h rising rises. h.1;
  }

-- ---- a read

module _ (s : State) (k : ℕ) (asker : Opened) (queries : List Query) (why : List Ground)
    (is_open : opened_at s k ≡ Some asker) (fit : AllZip (Fits s.policy s.templates asker) queries why) (named : All (HasTemplate s.templates) why) where
  read_allowed : (fault : CoreFault) → RefusesRead s k queries why fault → ⊥
  read_allowed Taken h = h
  read_allowed NoRequest h = none-some asker (sym h ∙ is_open)
  read_allowed NoVersion h = h
  read_allowed NoTemplate h = h.lacks named
  read_allowed Unfit h = h.unfit (subst (λ a. AllZip (Fits s.policy s.templates a) queries why) (same_Some asker h.asker (sym is_open ∙ h.is_open)) fit)

  read_only : (told : Bool) → ((other : Bool) → Reads s k queries why other → other ≡ told) → (other : CoreReply) (next : State) → Steps s (events.Read k queries why) other next → other ≡ replies.Read told
  read_only told one (replies.Number n) next h = absurd h
  read_only told one replies.Begun next h = absurd h
  read_only told one (replies.Asked it) next h = absurd h
  read_only told one (replies.Read other) next h = ap replies.Read (one other h.0)
  read_only told one replies.Ended next h = absurd h
  read_only told one (replies.Refused fault) next h = absurd (read_allowed fault h.0)

  replied : (told : Bool) → Reads s k queries why told → ((other : Bool) → Reads s k queries why other → other ≡ told) → IsReplyTo s (events.Read k queries why) (replies.Read told) s
  replied told reads one = record {
    step = (reads, refl);
    only = read_only told one;
    rising = λ rising. rising;
    alone = λ next h rising rises. h.1;
  }

  -- where no ground is a refusal, the read is let through
  module _ (none : All (λ it. it ≢ grounds.Refuse) why) where
    not_blocked : (other : Bool) → Reads s k queries why other → other ≡ true
    not_blocked true h = refl
    not_blocked false h = absurd (All-contains (λ it. it ≢ grounds.Refuse) why grounds.Refuse none h.refusal refl)

    pub through_reply : IsReplyTo s (events.Read k queries why) (replies.Read true) s
    through_reply = replied true (record { asker = asker; is_open = is_open; fit = fit; no_refusal = none }) not_blocked

  -- where one is, it is blocked
  module _ (refused : Contains why grounds.Refuse) where
    not_through : (other : Bool) → Reads s k queries why other → other ≡ false
    not_through true h = absurd (All-contains (λ it. it ≢ grounds.Refuse) why grounds.Refuse h.no_refusal refused refl)
    not_through false h = refl

    pub barred_reply : IsReplyTo s (events.Read k queries why) (replies.Read false) s
    barred_reply = replied false (record { asker = asker; is_open = is_open; fit = fit; refusal = refused }) not_through

-- ---- a request ends

module _ (s : State) (k : ℕ) (asker : Opened) (is_open : opened_at s k ≡ Some asker) where
  abbrev pub ended_state : State
  ended_state = record s { requests = without k s.requests }

  pub ended_closes : ChangesOnly s ended_state k None
  ended_closes = record { here = without_here k s.requests; others = without_others k s.requests }

  ended_rises : AreRising s → AreRising ended_state
  ended_rises rising = without_rises k s.requests rising

  ended_allowed : (fault : CoreFault) → RefusesEnd s k fault → ⊥
  ended_allowed Taken h = h
  ended_allowed NoRequest h = none-some asker (sym h ∙ is_open)
  ended_allowed NoVersion h = h
  ended_allowed NoTemplate h = h
  ended_allowed Unfit h = h

  ended_only : (other : CoreReply) (next : State) → Steps s (events.End k) other next → other ≡ replies.Ended
  ended_only (replies.Number n) next h = absurd h
  ended_only replies.Begun next h = absurd h
  ended_only (replies.Asked it) next h = absurd h
  ended_only (replies.Read allowed) next h = absurd h
  ended_only replies.Ended next h = refl
  ended_only (replies.Refused fault) next h = absurd (ended_allowed fault h.0)

  ended_alone : (next : State) → IsEnded s k next → AreRising s → AreRising next → next ≡ ended_state
  ended_alone next h rising rises =
      h.rest ∙ ap (λ es. record s { requests = es }) (same_requests s ended_state next k None ended_closes (ended_rises rising) h.closes rises)

  pub ended_reply : IsReplyTo s (events.End k) replies.Ended ended_state
  ended_reply = record {
    step = record { was_open = ap is_some is_open; closes = ended_closes; rest = refl };
    only = ended_only;
    rising = ended_rises;
    alone = ended_alone;
  }
