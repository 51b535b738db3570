-- Two ideal journals of inputs that ask the same have the same verdicts.
use Rattle.std.proofs.Common.{◌≡◌, ◌∙◌, ℕ, suc, ◌==◌, cond, false, List, [], ◌∷◌, ◌++◌, All, Contains, Err, Ok, Result, Some, ap, ap₂, append-nil, arith, flat_map, length, map, refl, slice_get, subst, sym}
use Rattle.std.proofs.lemmas.List.Concat.{flat_map-append}
use Rattle.std.proofs.lemmas.List.Elements.{All-contains, All-head, All-tail, Contains-append_right}
use Rattle.std.proofs.lemmas.Option.{same_Some}
use Rattle.ba_comply.specs.declared.trace.TraceEntry.{TraceEntry}
use Rattle.ba_input.specs.declared.input.Input.{Input}
use Rattle.ba_lanes.proofs.IdealLemmas.{legal_is_ideal}
use Rattle.ba_lanes.specs.Ideal.{AsksByEquations, IsIdeal, IsIdealAsk, IsIdealAt, IsIdealKeyRead, IsIdealKeyReply, IsIdealReadBlock, IsIdealReply, StandsOverInput, UsesEquations}
use Rattle.ba_lanes.specs.Lanes.{EachAfter}
use Rattle.ba_lanes.specs.Legal.{HasContext, answer_of, contexts_of, trace_in}
use Rattle.ba_lanes.specs.declared.journal.Entry.{Entry}
use Rattle.ba_lanes.specs.declared.journal.Entry.TheVariants.{Ask}
use Rattle.ba_lanes.specs.declared.journal.Journal.{Journal}
use Rattle.ba_machine_laws.specs.Ideals.{AskTheSame, HaveSameVerdicts, IdealsAgree, LegalIsIdeal, RunsAgree, answered, blocked_at, unread, verdict_at, verdict_of, verdict_of_read}
use Rattle.ba_model.specs.Equations.{PolicyIsOfEquations}
use Rattle.ba_model.specs.Meaning.{AnswerIsUnique, IsAnswer}
use Rattle.ba_model.specs.declared.policy.CacheKey.{CacheKey}
use Rattle.ba_model.specs.declared.policy.Context.{Context}
use Rattle.ba_model.specs.declared.policy.Policy.{Policy}
use Rattle.ba_model.specs.declared.query.Query.{Query}
use Rattle.ba_model.specs.declared.value.Value.{Value}
use Rattle.ba_script.specs.Reading.{is_publish}
use Rattle.ba_script.specs.declared.entry.Script.{Script}
use Rattle.ba_script.specs.declared.entry.ScriptEntry.{ScriptEntry}
use Rattle.ba_script.specs.declared.entry.ScriptEntry.TheVariants as said
use Rattle.ba_session.specs.Asking.{HasFault, IsCompliant, Reads, answer_in}
use Rattle.ba_keys.specs.Literals.{key_queries}
use Rattle.ba_session.specs.declared.reply.KeyReply.{KeyReply}
use Rattle.ba_session.specs.declared.reply.KeyReply.TheVariants as key_reply
use Rattle.ba_session.specs.declared.reply.Reply.{Reply}
use Rattle.ba_session.specs.declared.reply.Reply.TheVariants.{Answer, Blocked, Unread, NoMemory}
use Rattle.ba_session.specs.declared.reply.Why.TheVariants.{Refuted, Spent, Stuck}
use Rattle.ba_session.specs.declared.request.Request.{Request}
use Rattle.ba_sql_query.proofs.ReadingLemmas.{one_query, text_complete}
use Rattle.ba_sql_query.specs.declared.fault.ReadQueryFault.{ReadQueryFault}

-- ---- replies

-- the same verdict, and the same answer for the trace
pub record AreAlike (reply it : Reply) : Type 0 where
  pub verdict : verdict_of reply ≡ verdict_of it
  pub answer : answer_in reply ≡ answer_in it

abbrev no_query : ReadQueryFault → Result Query ReadQueryFault
no_query fault = Err fault

same_faults : (f g : ReadQueryFault) → no_query f ≡ no_query g → f ≡ g
same_faults f g e = cc

no_fault : (f : ReadQueryFault) (q : Query) → Err f ≡ Ok q → ⊥
no_fault f q e = cc

module _ (unique : AnswerIsUnique) (policy : Policy) (asker : Request) (text : List ℕ) where
  one_reading : (p q : Query) → Reads policy text p → Reads policy text q → p ≡ q
  one_reading p q a b = one_query policy.schema policy.params text p q a b

  read_and_unread : (q : Query) (fault : ReadQueryFault) → Reads policy text q → HasFault policy text fault → ⊥
  read_and_unread q fault reads faulty = no_fault fault q (sym faulty ∙ text_complete policy.schema policy.params text q reads)

  alike : (reply it : Reply) → IsIdealReply policy asker text reply → IsIdealReply policy asker text it → AreAlike reply it
  alike (Answer query rows by) (Answer other others ground) h k =
      let same : query ≡ other = one_reading query other h.reads k.reads in
      let same_rows : rows ≡ others = unique query asker.context asker.tables.rows rows others h.answer (subst (λ z. IsAnswer z asker.context asker.tables.rows others) (sym same) k.answer) in
      record { verdict = ap (λ z. Some (answered z)) same_rows; answer = λ i. record { query = same i; rows = same_rows i } ∷ [] }
  alike (Answer query rows by) (Blocked other (Refuted pair)) h k =
      absurd (k.uncompliant (subst (IsCompliant policy asker) (one_reading query other h.reads k.reads) h.compliant))
  alike (Answer query rows by) (Blocked other (Spent steps)) h k = absurd k
  alike (Answer query rows by) (Blocked other (Stuck leaf clause)) h k = absurd k
  alike (Answer query rows by) (Unread fault) h k = absurd (read_and_unread query fault h.reads k)
  alike (Answer query rows by) NoMemory h k = absurd k
  alike (Blocked query (Refuted pair)) (Answer other others ground) h k =
      absurd (h.uncompliant (subst (IsCompliant policy asker) (one_reading other query k.reads h.reads) k.compliant))
  alike (Blocked query (Refuted pair)) (Blocked other (Refuted pairs)) h k = record { verdict = refl; answer = refl }
  alike (Blocked query (Refuted pair)) (Blocked other (Spent steps)) h k = absurd k
  alike (Blocked query (Refuted pair)) (Blocked other (Stuck leaf clause)) h k = absurd k
  alike (Blocked query (Refuted pair)) (Unread fault) h k = absurd (read_and_unread query fault h.reads k)
  alike (Blocked query (Refuted pair)) NoMemory h k = absurd k
  alike (Blocked query (Spent steps)) it h k = absurd h
  alike (Blocked query (Stuck leaf clause)) it h k = absurd h
  alike (Unread fault) (Answer other others ground) h k = absurd (read_and_unread other fault k.reads h)
  alike (Unread fault) (Blocked other (Refuted pair)) h k = absurd (read_and_unread other fault k.reads h)
  alike (Unread fault) (Blocked other (Spent steps)) h k = absurd k
  alike (Unread fault) (Blocked other (Stuck leaf clause)) h k = absurd k
  alike (Unread fault) (Unread second) h k =
      let same : fault ≡ second = same_faults fault second (sym h ∙ k) in
      record { verdict = ap (λ z. Some (unread z)) same; answer = refl }
  alike (Unread fault) NoMemory h k = absurd k
  alike NoMemory it h k = absurd h

-- ---- reads

head_is : {A : Type 0} (x y : A) (xs ys : List A) → x ∷ xs ≡ y ∷ ys → x ≡ y
head_is x y xs ys e = cc

tail_is : {A : Type 0} (x y : A) (xs ys : List A) → x ∷ xs ≡ y ∷ ys → xs ≡ ys
tail_is x y xs ys e = cc

-- there is one first element of which something doesn't hold
one_first : {X : Type 0} (P : X → Type 0) (front other : List X) (x y : X) (back rest : List X) → front ++ x ∷ back ≡ other ++ y ∷ rest → All P front → ¬ (P x) → All P other → ¬ (P y) → length front ≡ length other
one_first P [] [] x y back rest e a fails b lacks = refl
one_first P [] (z ∷ other) x y back rest e a fails b lacks = absurd (fails (subst P (sym (head_is x z back (other ++ y ∷ rest) e)) (All-head P z other b)))
one_first P (z ∷ front) [] x y back rest e a fails b lacks = absurd (lacks (subst P (head_is z y (front ++ x ∷ back) rest e) (All-head P z front a)))
one_first P (z ∷ front) (w ∷ other) x y back rest e a fails b lacks =
    ap suc (one_first P front other x y back rest (tail_is z w (front ++ x ∷ back) (other ++ y ∷ rest) e) (All-tail P z front a) fails (All-tail P w other b) lacks)

module _ (policy : Policy) (asker : Request) (queries : List Query) where
  abbrev Strong : Query → Type 0
  Strong = IsCompliant policy asker

  -- all are compliant, or one isn't
  not_both : (its : List Query) (index : ℕ) → All Strong queries → IsIdealReadBlock policy asker queries its index → ⊥
  not_both its index all h =
      let among : Contains queries h.query = subst (λ z. Contains z h.query) (sym h.parts) (Contains-append_right h.front (h.query ∷ h.back) h.query (0, omega arith, refl)) in
      h.uncompliant (All-contains Strong queries h.query all among)

  one_index : (its others : List Query) (index other : ℕ) → IsIdealReadBlock policy asker queries its index → IsIdealReadBlock policy asker queries others other → index ≡ other
  one_index its others index other h k =
      h.index_is ∙ one_first Strong h.front k.front h.query k.query h.back k.back (sym h.parts ∙ k.parts) h.compliant h.uncompliant k.compliant k.uncompliant ∙ sym k.index_is

  alike_read : (reply it : KeyReply) → IsIdealKeyReply policy asker queries reply → IsIdealKeyReply policy asker queries it → verdict_of_read reply ≡ verdict_of_read it
  alike_read (key_reply.Allowed its by) (key_reply.Allowed others bases) h k = refl
  alike_read (key_reply.Allowed its by) (key_reply.Blocked others before (Refuted pair)) h k = absurd (not_both others (length before) h.compliant k)
  alike_read (key_reply.Allowed its by) (key_reply.Blocked others before (Spent steps)) h k = absurd k
  alike_read (key_reply.Allowed its by) (key_reply.Blocked others before (Stuck leaf clause)) h k = absurd k
  alike_read (key_reply.Allowed its by) key_reply.NoMemory h k = absurd k
  alike_read (key_reply.Blocked its before (Refuted pair)) (key_reply.Allowed others bases) h k = absurd (not_both its (length before) k.compliant h)
  alike_read (key_reply.Blocked its before (Refuted pair)) (key_reply.Blocked others earlier (Refuted pairs)) h k =
      ap (λ n. Some (blocked_at n)) (one_index its others (length before) (length earlier) h k)
  alike_read (key_reply.Blocked its before (Refuted pair)) (key_reply.Blocked others earlier (Spent steps)) h k = absurd k
  alike_read (key_reply.Blocked its before (Refuted pair)) (key_reply.Blocked others earlier (Stuck leaf clause)) h k = absurd k
  alike_read (key_reply.Blocked its before (Refuted pair)) key_reply.NoMemory h k = absurd k
  alike_read (key_reply.Blocked its before (Spent steps)) it h k = absurd h
  alike_read (key_reply.Blocked its before (Stuck leaf clause)) it h k = absurd h
  alike_read key_reply.NoMemory it h k = absurd h

-- ---- lines

module _ (unique : AnswerIsUnique) (input other : Input) (same : AskTheSame input other) where
  -- a request that stands over both inputs is one, if it was told the same
  same_asker : (request : ℕ) (past gone : List Entry) → trace_in request past ≡ trace_in request gone → (asker second : Request) → StandsOverInput input request past asker → StandsOverInput other request gone second →
      asker ≡ second
  same_asker request past gone told asker second h k =
      let there : HasContext input.script request second.context = subst (λ (z : Script). HasContext z request second.context) (sym same.script) k.context in
      let context : asker.context ≡ second.context = same_Some asker.context second.context (sym h.context ∙ there) in
      let version = h.version ∙ sym k.version in
      let tables = h.tables ∙ same.tables ∙ sym k.tables in
      let trace = h.trace ∙ told ∙ sym k.trace in
      λ i. record { context = context i; version = version i; tables = tables i; trace = trace i }

  -- the same verdict, and the same answers for the traces
  record AreSame (entry it : Entry) : Type 0 where
    verdict : verdict_at entry ≡ verdict_at it
    answers : (number : ℕ) → answer_of number entry ≡ answer_of number it

  one_entry : (entry it : Entry) → entry ≡ it → AreSame entry it
  one_entry entry it e = record { verdict = ap verdict_at e; answers = λ number. ap (answer_of number) e }

  same_ask : (request : ℕ) (text : List ℕ) (past gone : List Entry) → trace_in request past ≡ trace_in request gone → (entry it : Entry) → IsIdealAsk input past request text entry →
      IsIdealAsk other gone request text it → AreSame entry it
  same_ask request text past gone told entry it h k =
      let asker = same_asker request past gone told h.asker k.asker h.stands k.stands in
      let second : IsIdealReply input.policy h.asker text k.reply =
      subst (λ (z : Request). IsIdealReply input.policy z text k.reply) (sym asker) (subst (λ (z : Policy). IsIdealReply z k.asker text k.reply) (sym same.policy) k.ideal) in
      let are = alike unique input.policy h.asker text h.reply k.reply h.ideal second in
      record {
        verdict = ap verdict_at h.is ∙ are.verdict ∙ sym (ap verdict_at k.is);
        answers = λ number. ap (answer_of number) h.is ∙ ap (λ z. cond (request == number) z []) are.answer ∙ sym (ap (answer_of number) k.is);
      }

  same_read : (request : ℕ) (number : ℕ) (args : Context) (past gone : List Entry) → trace_in request past ≡ trace_in request gone → (entry it : Entry) → IsIdealKeyRead input past request number args entry →
      IsIdealKeyRead other gone request number args it → AreSame entry it
  same_read request number args past gone told entry it h k =
      let asker = same_asker request past gone told h.asker k.asker h.stands k.stands in
      let key : h.key ≡ k.key = same_Some h.key k.key (sym h.key_is ∙ ap (λ (p : Policy). slice_get p.keys number) same.policy ∙ k.key_is) in
      let second : IsIdealKeyReply input.policy h.asker (key_queries input.policy h.key args) k.reply =
      subst (λ (z : CacheKey). IsIdealKeyReply input.policy h.asker (key_queries input.policy z args) k.reply) (sym key)
      (subst (λ (z : Request). IsIdealKeyReply input.policy z (key_queries input.policy k.key args) k.reply) (sym asker)
      (subst (λ (z : Policy). IsIdealKeyReply z k.asker (key_queries z k.key args) k.reply) (sym same.policy) k.ideal)) in
      record {
        verdict = ap verdict_at h.is ∙ alike_read input.policy h.asker (key_queries input.policy h.key args) h.reply k.reply h.ideal second ∙ sym (ap verdict_at k.is);
        answers = λ n. ap (answer_of n) h.is ∙ sym (ap (answer_of n) k.is);
      }

  same_line : (line : ScriptEntry) (past gone : List Entry) → ((number : ℕ) → trace_in number past ≡ trace_in number gone) → (entry it : Entry) → IsIdealAt input past line entry → IsIdealAt other gone line it →
      AreSame entry it
  same_line (said.Begin r name context) past gone told entry it h k = one_entry entry it (h ∙ sym k)
  same_line (said.Ask r name text) past gone told entry it h k = same_ask r text past gone (told r) entry it h k
  same_line (said.Read r name key args qs) past gone told entry it h k = same_read r key args past gone (told r) entry it h k
  same_line (said.End r name) past gone told entry it h k = one_entry entry it (h ∙ sym k)
  same_line (said.Publish n set) past gone told entry it h k = absurd h

  trace_then : (number : ℕ) (past : List Entry) (entry : Entry) → trace_in number (past ++ entry ∷ []) ≡ trace_in number past ++ answer_of number entry
  trace_then number past entry = flat_map-append (answer_of number) past (entry ∷ []) ∙ ap (λ z. trace_in number past ++ z) (append-nil (answer_of number entry))

  same_lines : (lines : List ScriptEntry) (entries its past gone : List Entry) → ((number : ℕ) → trace_in number past ≡ trace_in number gone) → EachAfter (IsIdealAt input) past lines entries →
      EachAfter (IsIdealAt other) gone lines its → map verdict_at entries ≡ map verdict_at its
  same_lines [] [] [] past gone told h k = refl
  same_lines [] [] (it ∷ its) past gone told h k = absurd k
  same_lines [] (entry ∷ entries) its past gone told h k = absurd h
  same_lines (line ∷ lines) [] its past gone told h k = absurd h
  same_lines (line ∷ lines) (entry ∷ entries) [] past gone told h k = absurd k
  same_lines (line ∷ lines) (entry ∷ entries) (it ∷ its) past gone told h k =
      let one = same_line line past gone told entry it h.0 k.0 in
      ap₂ (λ verdict verdicts. verdict ∷ verdicts) one.verdict
      (same_lines lines entries its (past ++ entry ∷ []) (gone ++ it ∷ [])
      (λ number. trace_then number past entry ∙ ap₂ (λ a b. a ++ b) (told number) (one.answers number) ∙ sym (trace_then number gone it)) h.1 k.1)

pub ideals_agree : AnswerIsUnique → IdealsAgree
ideals_agree unique input other journal second same h k =
    same_lines unique input other same input.script.entries journal.entries second.entries [] [] (λ number. refl) h.lines
    (subst (λ (z : Script). EachAfter (IsIdealAt other) [] z.entries second.entries) (sym same.script) k.lines)

-- ---- runs

uses_too : (input other : Input) → AskTheSame input other → UsesEquations input → UsesEquations other
uses_too input other same uses = record {
  policy = subst PolicyIsOfEquations same.policy uses.policy;
  questions = subst (λ (z : Script). All (AsksByEquations other.policy) z.entries) same.script (subst (λ p. All (AsksByEquations p) input.script.entries) same.policy uses.questions);
  unpublished = subst (λ (z : Script). All (λ line. is_publish line ≡ false) z.entries) same.script uses.unpublished;
}

pub runs_agree : AnswerIsUnique → RunsAgree
runs_agree unique input other journal second same uses legal legal_too fully fully_too =
    ideals_agree unique input other journal second same (legal_is_ideal input journal legal uses fully)
    (legal_is_ideal other second legal_too (uses_too input other same uses) fully_too)
