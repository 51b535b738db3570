-- The first test that fails, by the parts of a line.
use Rattle.std.proofs.Common.{◌≡◌, ◌∙◌, ◌↔◌, refl, sym, ap, subst, ℕ, ◌+◌, ◌<◌, inl, inr, List, [], ◌∷◌, Bool, true, false, Option, Some, None, Result, Ok, Err, IsTrue, arith}
use Rattle.std.proofs.lemmas.Bool.{false≢true}
use Rattle.std.specs.Option.{option_to_list}
use Rattle.std.specs.Prelude.{slice_get}
use Rattle.ba_direct.specs.Cover.{Covered as IsCovered}
use Rattle.ba_comply.specs.declared.trace.TraceEntry.{TraceEntry}
use Rattle.ba_model.specs.Meaning.{AnswerIsUnique, IsAnswer}
use Rattle.ba_model.specs.declared.policy.Policy.{Policy}
use Rattle.ba_model.specs.declared.query.Query.{Query}
use Rattle.ba_model.specs.declared.value.Value.{Value}
use Rattle.ba_script.specs.declared.entry.ScriptEntry.{ScriptEntry}
use Rattle.ba_script.specs.declared.entry.ScriptEntry.TheVariants as said
use Rattle.ba_sql_query.specs.declared.fault.ReadQueryFault.{ReadQueryFault}
use Rattle.ba_printed.specs.declared.line.Evidence.{Evidence}
use Rattle.ba_printed.specs.declared.line.LineReason.TheVariants as unreadable
use Rattle.ba_printed.specs.declared.line.PrintedBlock.{PrintedBlock}
use Rattle.ba_printed.specs.declared.line.PrintedLine.{PrintedLine}
use Rattle.ba_printed.specs.declared.line.PrintedLine.TheVariants as printed
use Rattle.ba_audit.specs.Audits.{IsNoVerdict, ShowsQuery, ShowsText}
use Rattle.ba_audit.specs.Keeping.{MeetsKept, MeetsTaken, TellsHeard, known_in}
use Rattle.ba_audit.specs.Lines.{Basis, Reading, is_answer, is_block, is_memory, queries_read, reading_of, recorded, rows_in, told_by, unread_in}
use Rattle.ba_audit.specs.Tests.{IsFirstUnmet, IsRightlyBy, IsRightlyUnread, MeetsAll, MeetsAnswer, MeetsAsked, MeetsBehind, MeetsBlock, MeetsForm, MeetsKeyBlock, MeetsKeyRead, MeetsOpening, MeetsQueries, MeetsQuery, MeetsReader, MeetsSaid, MeetsText, fault_of, is_kind, is_version, may_go_on, rank, request_in}
use Rattle.ba_audit.specs.declared.heard.Heard.{Heard}
use Rattle.ba_audit.specs.declared.heard.Heard.TheVariants.{Unmet, Met}
use Rattle.ba_audit.specs.declared.numbered.Numbered.{Numbered}
use Rattle.ba_wire.specs.declared.audit.AuditReason.{AuditReason as Reason}
use Rattle.ba_wire.specs.declared.audit.AuditReason.TheVariants.{Count, Json, Shape, Kind, Version, Unread, By, Covered, Rows, Proof, Pair, Summary}
use Rattle.ba_audit.specs.declared.request.Asker.{Asker}
use Rattle.ba_audit.specs.declared.request.Begun.{Begun}
use Rattle.ba_audit.specs.declared.request.Begun.TheVariants.{Silent, Asking}
use Rattle.ba_audit.specs.declared.told.Told.{Told}

pub not_true : IsTrue false → ⊥
not_true t = cc

pub is_true : {b : Bool} → b ≡ true → IsTrue b
is_true sure = subst IsTrue (sym sure) cc

-- ---- tests by other names

pub all_as : (P Q : Reason → Type 0) → ((reason : Reason) → P reason → Q reason) → MeetsAll P → MeetsAll Q
all_as P Q to h = record { meets = λ reason. to reason (h.meets reason) }

pub first_as : (P Q : Reason → Type 0) → ((reason : Reason) → P reason → Q reason) → ((reason : Reason) → Q reason → P reason) → (reason : Reason) → IsFirstUnmet P reason → IsFirstUnmet Q reason
first_as P Q to from reason h = record { unmet = λ q. h.unmet (from reason q); before = λ other lt. to other (h.before other lt) }

pub heard_as : (P Q : Reason → Type 0) → ((reason : Reason) → P reason → Q reason) → ((reason : Reason) → Q reason → P reason) → (told other : List TraceEntry) → told ≡ other → (S T : Type 0) → (S → T) → (heard : Heard) → TellsHeard P told S heard → TellsHeard Q other T heard
heard_as P Q to from told other same S T shows (Unmet reason) h = first_as P Q to from reason h
heard_as P Q to from told other same S T shows (Met added) h = (all_as P Q to h.0, h.1 ∙ same, shows h.2)

-- ---- tests that a question owes nothing to

abbrev pub IsFree : Reason → Type 0
IsFree By = ⊥
IsFree Covered = ⊥
IsFree Rows = ⊥
IsFree Proof = ⊥
IsFree Pair = ⊥
IsFree reason = Unit {0}

free_answer : (policy : Policy) (asker : Asker) (q : Query) (it : Evidence) (rows : List (List Value)) (reason : Reason) → IsFree reason → MeetsAnswer policy asker q it rows reason
free_answer policy asker q it rows Count free = tt
free_answer policy asker q it rows Json free = tt
free_answer policy asker q it rows Shape free = tt
free_answer policy asker q it rows Kind free = tt
free_answer policy asker q it rows Version free = tt
free_answer policy asker q it rows Unread free = tt
free_answer policy asker q it rows By free = absurd free
free_answer policy asker q it rows Covered free = tt
free_answer policy asker q it rows Rows free = absurd free
free_answer policy asker q it rows Proof free = absurd free
free_answer policy asker q it rows Pair free = tt
free_answer policy asker q it rows Summary free = tt

free_block : (policy : Policy) (asker : Asker) (q : Query) (it : PrintedBlock) (reason : Reason) → IsFree reason → MeetsBlock policy asker q it reason
free_block policy asker q it Count free = tt
free_block policy asker q it Json free = tt
free_block policy asker q it Shape free = tt
free_block policy asker q it Kind free = tt
free_block policy asker q it Version free = tt
free_block policy asker q it Unread free = tt
free_block policy asker q it By free = tt
free_block policy asker q it Covered free = absurd free
free_block policy asker q it Rows free = tt
free_block policy asker q it Proof free = tt
free_block policy asker q it Pair free = absurd free
free_block policy asker q it Summary free = tt

free_query : (policy : Policy) (asker : Asker) (q : Query) (line : PrintedLine) (reason : Reason) → IsFree reason → MeetsQuery policy asker q line reason
unfolding MeetsQuery
free_query policy asker q (printed.Begin begin line version) reason free = tt
free_query policy asker q (printed.End end line) reason free = tt
free_query policy asker q (printed.Publish line publish version) reason free = tt
free_query policy asker q (printed.Answer it line request rows version) reason free = free_answer policy asker q it rows reason free
free_query policy asker q (printed.Block it line request version) reason free = free_block policy asker q it reason free
free_query policy asker q (printed.Read it key line read version) reason free = tt
free_query policy asker q (printed.ReadBlock it key line query read version) reason free = tt
free_query policy asker q printed.UnevenRead reason free = tt
free_query policy asker q (printed.Unread line request unread version) reason free = tt
free_query policy asker q (printed.Memory line) reason free = tt
free_query policy asker q (printed.Summary summary) reason free = tt

-- ---- of a question whose text reads as a query, and which doesn't say otherwise

module _ (policy : Policy) (asker : Asker) (q : Query) (reading : Result Query ReadQueryFault) (is : reading ≡ Ok q) (line : PrintedLine) (says : unread_in line ≡ None) where
  abbrev pub OfQuery : Reason → Type 0
  OfQuery reason = MeetsQuery policy asker q line reason

  abbrev pub OfText : Reason → Type 0
  OfText reason = MeetsAsked policy (Some (Asking asker)) reading line reason

  at_text : (reason : Reason) → OfQuery reason → MeetsText policy (Some (Asking asker)) reading line reason
  at_text reason h = subst (λ r. MeetsText policy (Some (Asking asker)) r line reason) (sym is) h

  at_query : (reason : Reason) → MeetsText policy (Some (Asking asker)) reading line reason → OfQuery reason
  at_query reason h = subst (λ r. MeetsText policy (Some (Asking asker)) r line reason) is h

  to_text : (reason : Reason) → OfQuery reason → OfText reason
  to_text Count h = tt
  to_text Json h = tt
  to_text Shape h = tt
  to_text Kind h = tt
  to_text Version h = tt
  to_text Unread h = inr (says ∙ sym (ap fault_of is))
  to_text By h = at_text By h
  to_text Covered h = at_text Covered h
  to_text Rows h = at_text Rows h
  to_text Proof h = at_text Proof h
  to_text Pair h = at_text Pair h
  to_text Summary h = tt

  from_text : (reason : Reason) → OfText reason → OfQuery reason
  from_text Count h = free_query policy asker q line Count tt
  from_text Json h = free_query policy asker q line Json tt
  from_text Shape h = free_query policy asker q line Shape tt
  from_text Kind h = free_query policy asker q line Kind tt
  from_text Version h = free_query policy asker q line Version tt
  from_text Unread h = free_query policy asker q line Unread tt
  from_text By h = at_query By h
  from_text Covered h = at_query Covered h
  from_text Rows h = at_query Rows h
  from_text Proof h = at_query Proof h
  from_text Pair h = at_query Pair h
  from_text Summary h = free_query policy asker q line Summary tt

  pub heard_text : (heard : Heard) → TellsHeard OfQuery (recorded (Ok q) (rows_in line)) (ShowsQuery policy asker q line) heard →
      TellsHeard OfText (recorded reading (rows_in line)) (ShowsText policy (Some (Asking asker)) reading line) heard
  heard_text heard h =
      heard_as OfQuery OfText to_text from_text (recorded (Ok q) (rows_in line)) (recorded reading (rows_in line)) (ap (λ r. recorded r (rows_in line)) (sym is))
      (ShowsQuery policy asker q line) (ShowsText policy (Some (Asking asker)) reading line) (λ shows. subst (λ r. ShowsText policy (Some (Asking asker)) r line) (sym is) shows) heard h

-- ---- of any text

module _ (policy : Policy) (held : Option Begun) (reading : Result Query ReadQueryFault) (line : PrintedLine) where
  pub before_unread : (other : Reason) → rank other < 5 → MeetsAsked policy held reading line other
  unfolding rank
  before_unread Count lt = tt
  before_unread Json lt = tt
  before_unread Shape lt = tt
  before_unread Kind lt = tt
  before_unread Version lt = tt
  before_unread Unread lt = absurd (omega (arith, lt))
  before_unread By lt = absurd (omega (arith, lt))
  before_unread Covered lt = absurd (omega (arith, lt))
  before_unread Rows lt = absurd (omega (arith, lt))
  before_unread Proof lt = absurd (omega (arith, lt))
  before_unread Pair lt = absurd (omega (arith, lt))
  before_unread Summary lt = tt

  -- it says otherwise than the text
  pub first_unread : is_memory line ≡ false → (unread_in line ≡ fault_of reading → ⊥) → IsFirstUnmet (MeetsAsked policy held reading line) Unread
  unfolding rank
  first_unread wrong differs = record { unmet = fails; before = before_unread }
    where
      fails : IsRightlyUnread reading line → ⊥
      fails (inl memory) = not_true (subst IsTrue wrong memory)
      fails (inr same) = differs same

  -- where there is nothing behind what it says
  all_asked : IsRightlyUnread reading line → ((reason : Reason) → MeetsText policy held reading line reason) → MeetsAll (MeetsAsked policy held reading line)
  all_asked rightly behind = record { meets = met }
    where
      met : (reason : Reason) → MeetsAsked policy held reading line reason
      met Count = tt
      met Json = tt
      met Shape = tt
      met Kind = tt
      met Version = tt
      met Unread = rightly
      met By = behind By
      met Covered = behind Covered
      met Rows = behind Rows
      met Proof = behind Proof
      met Pair = behind Pair
      met Summary = tt

-- a memory line has no rows, and owes nothing
memory_rows : (line : PrintedLine) → is_memory line ≡ true → rows_in line ≡ None
unfolding is_memory rows_in
memory_rows (printed.Begin begin line version) e = refl
memory_rows (printed.End end line) e = refl
memory_rows (printed.Publish line publish version) e = refl
memory_rows (printed.Answer it line request rows version) e = absurd (false≢true e)
memory_rows (printed.Block it line request version) e = refl
memory_rows (printed.Read it key line read version) e = refl
memory_rows (printed.ReadBlock it key line query read version) e = refl
memory_rows printed.UnevenRead e = refl
memory_rows (printed.Unread line request unread version) e = refl
memory_rows (printed.Memory line) e = refl
memory_rows (printed.Summary summary) e = refl

memory_query : (policy : Policy) (asker : Asker) (q : Query) (line : PrintedLine) → is_memory line ≡ true → (reason : Reason) → MeetsQuery policy asker q line reason
unfolding is_memory MeetsQuery
memory_query policy asker q (printed.Begin begin line version) e reason = tt
memory_query policy asker q (printed.End end line) e reason = tt
memory_query policy asker q (printed.Publish line publish version) e reason = tt
memory_query policy asker q (printed.Answer it line request rows version) e reason = absurd (false≢true e)
memory_query policy asker q (printed.Block it line request version) e reason = absurd (false≢true e)
memory_query policy asker q (printed.Read it key line read version) e reason = tt
memory_query policy asker q (printed.ReadBlock it key line query read version) e reason = tt
memory_query policy asker q printed.UnevenRead e reason = tt
memory_query policy asker q (printed.Unread line request unread version) e reason = tt
memory_query policy asker q (printed.Memory line) e reason = tt
memory_query policy asker q (printed.Summary summary) e reason = tt

memory_text : (policy : Policy) (held : Option Begun) (reading : Result Query ReadQueryFault) (line : PrintedLine) → is_memory line ≡ true → (reason : Reason) → MeetsText policy held reading line reason
memory_text policy None reading line e reason = tt
memory_text policy (Some Silent) reading line e reason = tt
memory_text policy (Some (Asking asker)) (Ok q) line e reason = memory_query policy asker q line e reason
memory_text policy (Some (Asking asker)) (Err fault) line e reason = tt

recorded_none : (reading : Result Query ReadQueryFault) → recorded reading None ≡ []
recorded_none (Ok q) = refl
recorded_none (Err fault) = refl

abbrev IsNothing : {X : Type 0} → Option X → Type 0
IsNothing None = Unit {0}
IsNothing (Some x) = ⊥

pub memory_verdict : (line : PrintedLine) → is_memory line ≡ true → IsNoVerdict line
unfolding is_memory is_answer is_block
memory_verdict (printed.Begin begin line version) e = record { no_answer = refl; no_block = refl }
memory_verdict (printed.End end line) e = record { no_answer = refl; no_block = refl }
memory_verdict (printed.Publish line publish version) e = record { no_answer = refl; no_block = refl }
memory_verdict (printed.Answer it line request rows version) e = absurd (false≢true e)
memory_verdict (printed.Block it line request version) e = absurd (false≢true e)
memory_verdict (printed.Read it key line read version) e = absurd (false≢true e)
memory_verdict (printed.ReadBlock it key line query read version) e = absurd (false≢true e)
memory_verdict printed.UnevenRead e = record { no_answer = refl; no_block = refl }
memory_verdict (printed.Unread line request unread version) e = record { no_answer = refl; no_block = refl }
memory_verdict (printed.Memory line) e = record { no_answer = refl; no_block = refl }
memory_verdict (printed.Summary summary) e = record { no_answer = refl; no_block = refl }

memory_query_shows : (policy : Policy) (asker : Asker) (q : Query) (line : PrintedLine) → is_memory line ≡ true → ShowsQuery policy asker q line
unfolding is_memory ShowsQuery
memory_query_shows policy asker q (printed.Begin begin line version) e = tt
memory_query_shows policy asker q (printed.End end line) e = tt
memory_query_shows policy asker q (printed.Publish line publish version) e = tt
memory_query_shows policy asker q (printed.Answer it line request rows version) e = absurd (false≢true e)
memory_query_shows policy asker q (printed.Block it line request version) e = absurd (false≢true e)
memory_query_shows policy asker q (printed.Read it key line read version) e = tt
memory_query_shows policy asker q (printed.ReadBlock it key line query read version) e = tt
memory_query_shows policy asker q printed.UnevenRead e = tt
memory_query_shows policy asker q (printed.Unread line request unread version) e = tt
memory_query_shows policy asker q (printed.Memory line) e = tt
memory_query_shows policy asker q (printed.Summary summary) e = tt

memory_shows : (policy : Policy) (held : Option Begun) (reading : Result Query ReadQueryFault) (line : PrintedLine) → is_memory line ≡ true → ShowsText policy held reading line
memory_shows policy None reading line e = memory_verdict line e
memory_shows policy (Some Silent) reading line e = memory_verdict line e
memory_shows policy (Some (Asking asker)) (Ok q) line e = memory_query_shows policy asker q line e
memory_shows policy (Some (Asking asker)) (Err fault) line e = memory_verdict line e

unread_verdict : (line : PrintedLine) (fault : ReadQueryFault) → unread_in line ≡ Some fault → IsNoVerdict line
unfolding unread_in is_answer is_block
unread_verdict (printed.Begin begin line version) fault e = record { no_answer = refl; no_block = refl }
unread_verdict (printed.End end line) fault e = record { no_answer = refl; no_block = refl }
unread_verdict (printed.Publish line publish version) fault e = record { no_answer = refl; no_block = refl }
unread_verdict (printed.Answer it line request rows version) fault e = absurd (subst IsNothing e tt)
unread_verdict (printed.Block it line request version) fault e = absurd (subst IsNothing e tt)
unread_verdict (printed.Read it key line read version) fault e = absurd (subst IsNothing e tt)
unread_verdict (printed.ReadBlock it key line query read version) fault e = absurd (subst IsNothing e tt)
unread_verdict printed.UnevenRead fault e = record { no_answer = refl; no_block = refl }
unread_verdict (printed.Unread line request unread version) fault e = record { no_answer = refl; no_block = refl }
unread_verdict (printed.Memory line) fault e = record { no_answer = refl; no_block = refl }
unread_verdict (printed.Summary summary) fault e = record { no_answer = refl; no_block = refl }

pub heard_memory : (policy : Policy) (held : Option Begun) (reading : Result Query ReadQueryFault) (line : PrintedLine) → is_memory line ≡ true →
    TellsHeard (MeetsAsked policy held reading line) (recorded reading (rows_in line)) (ShowsText policy held reading line) (Met None)
heard_memory policy held reading line e = (
  all_asked policy held reading line (inl (is_true e)) (memory_text policy held reading line e),
  sym (ap (recorded reading) (memory_rows line e) ∙ recorded_none reading),
  memory_shows policy held reading line e,
)

-- a text without a reading, which is said with its fault
pub heard_fault : (policy : Policy) (asker : Asker) (fault : ReadQueryFault) (reading : Result Query ReadQueryFault) → reading ≡ Err fault → (line : PrintedLine) → unread_in line ≡ Some fault →
    TellsHeard (MeetsAsked policy (Some (Asking asker)) reading line) (recorded reading (rows_in line)) (ShowsText policy (Some (Asking asker)) reading line) (Met None)
heard_fault policy asker fault reading is line says = (
  all_asked policy (Some (Asking asker)) reading line (inr (says ∙ sym (ap fault_of is))) (λ reason. subst (λ r. MeetsText policy (Some (Asking asker)) r line reason) (sym is) tt),
  sym (ap (λ r. recorded r (rows_in line)) is),
  subst (λ r. ShowsText policy (Some (Asking asker)) r line) (sym is) (unread_verdict line fault says),
)

below_covered : (policy : Policy) (asker : Asker) (q : Query) (it : PrintedBlock) (other : Reason) → rank other < 7 → MeetsBlock policy asker q it other
unfolding rank
below_covered policy asker q it Count lt = tt
below_covered policy asker q it Json lt = tt
below_covered policy asker q it Shape lt = tt
below_covered policy asker q it Kind lt = tt
below_covered policy asker q it Version lt = tt
below_covered policy asker q it Unread lt = tt
below_covered policy asker q it By lt = tt
below_covered policy asker q it Covered lt = absurd (omega (arith, lt))
below_covered policy asker q it Rows lt = absurd (omega (arith, lt))
below_covered policy asker q it Proof lt = absurd (omega (arith, lt))
below_covered policy asker q it Pair lt = absurd (omega (arith, lt))
below_covered policy asker q it Summary lt = absurd (omega (arith, lt))

-- ---- what a read owes before its evidence

pub key_read_low : (policy : Policy) (asker : Asker) (qs : List Query) (its : List Evidence) (other : Reason) → rank other < 6 → MeetsKeyRead policy asker qs its other
unfolding rank
key_read_low policy asker qs its Count lt = tt
key_read_low policy asker qs its Json lt = tt
key_read_low policy asker qs its Shape lt = tt
key_read_low policy asker qs its Kind lt = tt
key_read_low policy asker qs its Version lt = tt
key_read_low policy asker qs its Unread lt = tt
key_read_low policy asker qs its By lt = absurd (omega (arith, lt))
key_read_low policy asker qs its Covered lt = absurd (omega (arith, lt))
key_read_low policy asker qs its Rows lt = absurd (omega (arith, lt))
key_read_low policy asker qs its Proof lt = absurd (omega (arith, lt))
key_read_low policy asker qs its Pair lt = absurd (omega (arith, lt))
key_read_low policy asker qs its Summary lt = absurd (omega (arith, lt))

key_block_low : (policy : Policy) (asker : Asker) (found : Option Query) (why : PrintedBlock) (other : Reason) → rank other < 6 → MeetsKeyBlock policy asker found why other
key_block_low policy asker None why other lt = tt
key_block_low policy asker (Some q) why other lt = below_covered policy asker q why other (omega (arith, lt))

queries_low : (policy : Policy) (asker : Asker) (qs : List Query) (line : PrintedLine) (other : Reason) → rank other < 6 → MeetsQueries policy asker qs line other
unfolding MeetsQueries
queries_low policy asker qs (printed.Begin begin line version) other lt = tt
queries_low policy asker qs (printed.End end line) other lt = tt
queries_low policy asker qs (printed.Publish line publish version) other lt = tt
queries_low policy asker qs (printed.Answer it line request rows version) other lt = tt
queries_low policy asker qs (printed.Block it line request version) other lt = tt
queries_low policy asker qs (printed.Read its key line read version) other lt = key_read_low policy asker qs its other lt
queries_low policy asker qs (printed.ReadBlock why key line query read version) other lt = key_block_low policy asker (slice_get qs query) why other lt
queries_low policy asker qs printed.UnevenRead other lt = tt
queries_low policy asker qs (printed.Unread line request unread version) other lt = tt
queries_low policy asker qs (printed.Memory line) other lt = tt
queries_low policy asker qs (printed.Summary summary) other lt = tt

reader_low : (policy : Policy) (held : Option Begun) (qs : List Query) (line : PrintedLine) (other : Reason) → rank other < 5 → MeetsReader policy held qs line other
reader_low policy None qs line other lt = tt
reader_low policy (Some Silent) qs line other lt = tt
reader_low policy (Some (Asking asker)) qs line other lt = queries_low policy asker qs line other (omega (arith, lt))

-- ---- kind and version

pub behind_low : (policy : Policy) (held : Option Begun) (e : ScriptEntry) (line : PrintedLine) (other : Reason) → rank other < 5 → MeetsBehind policy held e line other
unfolding MeetsBehind
behind_low policy held (said.Begin request name context) line other lt = tt
behind_low policy held (said.Ask request name text) line other lt = before_unread policy held (reading_of policy text) line other lt
behind_low policy held (said.Read request name key arguments questions) line other lt = reader_low policy held (queries_read policy key arguments) line other lt
behind_low policy held (said.End request name) line other lt = tt
behind_low policy held (said.Publish number set) line other lt = tt

module _ (basis : Basis) (number : ℕ) (used : List Numbered) (held : Option Begun) (e : ScriptEntry) (line : PrintedLine) where
  abbrev pub OfSaid : Reason → Type 0
  OfSaid reason = MeetsSaid basis number used held e line reason

  below_kind : (other : Reason) → rank other < 3 → OfSaid other
  unfolding rank
  below_kind Count lt = (tt, behind_low basis.policy held e line Count (omega arith))
  below_kind Json lt = (tt, behind_low basis.policy held e line Json (omega arith))
  below_kind Shape lt = (tt, behind_low basis.policy held e line Shape (omega arith))
  below_kind Kind lt = absurd (omega (arith, lt))
  below_kind Version lt = absurd (omega (arith, lt))
  below_kind Unread lt = absurd (omega (arith, lt))
  below_kind By lt = absurd (omega (arith, lt))
  below_kind Covered lt = absurd (omega (arith, lt))
  below_kind Rows lt = absurd (omega (arith, lt))
  below_kind Proof lt = absurd (omega (arith, lt))
  below_kind Pair lt = absurd (omega (arith, lt))
  below_kind Summary lt = absurd (omega (arith, lt))

  pub first_kind : is_kind basis.policy e number held line ≡ false → IsFirstUnmet OfSaid Kind
  unfolding rank
  first_kind wrong = record { unmet = λ m. not_true (subst IsTrue wrong m.0); before = below_kind }

  below_version : IsTrue (is_kind basis.policy e number held line) → (other : Reason) → rank other < 4 → OfSaid other
  unfolding rank
  below_version kind Count lt = (tt, behind_low basis.policy held e line Count (omega arith))
  below_version kind Json lt = (tt, behind_low basis.policy held e line Json (omega arith))
  below_version kind Shape lt = (tt, behind_low basis.policy held e line Shape (omega arith))
  below_version kind Kind lt = (kind, behind_low basis.policy held e line Kind (omega arith))
  below_version kind Version lt = absurd (omega (arith, lt))
  below_version kind Unread lt = absurd (omega (arith, lt))
  below_version kind By lt = absurd (omega (arith, lt))
  below_version kind Covered lt = absurd (omega (arith, lt))
  below_version kind Rows lt = absurd (omega (arith, lt))
  below_version kind Proof lt = absurd (omega (arith, lt))
  below_version kind Pair lt = absurd (omega (arith, lt))
  below_version kind Summary lt = absurd (omega (arith, lt))

  pub first_version : is_kind basis.policy e number held line ≡ true → is_version basis used held e line ≡ false → IsFirstUnmet OfSaid Version
  unfolding rank
  first_version kind wrong = record { unmet = λ m. not_true (subst IsTrue wrong m.0); before = below_version (is_true kind) }

  opening : IsTrue (is_kind basis.policy e number held line) → IsTrue (is_version basis used held e line) → (reason : Reason) → MeetsOpening basis number used held e line reason
  opening kind version Count = tt
  opening kind version Json = tt
  opening kind version Shape = tt
  opening kind version Kind = kind
  opening kind version Version = version
  opening kind version Unread = tt
  opening kind version By = tt
  opening kind version Covered = tt
  opening kind version Rows = tt
  opening kind version Proof = tt
  opening kind version Pair = tt
  opening kind version Summary = tt

  pub heard_said : is_kind basis.policy e number held line ≡ true → is_version basis used held e line ≡ true → (told : List TraceEntry) (Shows : Type 0) (heard : Heard) →
      TellsHeard (MeetsBehind basis.policy held e line) told Shows heard → TellsHeard OfSaid told Shows heard
  heard_said kind version told Shows heard h =
      heard_as (MeetsBehind basis.policy held e line) OfSaid (λ reason b. (opening (is_true kind) (is_true version) reason, b)) (λ reason m. m.1) told told refl Shows Shows (λ x. x) heard h

-- ---- form

pub form_met : (ended : Bool) → IsTrue ended → (line : PrintedLine) (reason : Reason) → MeetsForm ended (Ok line) reason
form_met ended sure line Count = tt
form_met ended sure line Json = sure
form_met ended sure line Shape = tt
form_met ended sure line Kind = tt
form_met ended sure line Version = tt
form_met ended sure line Unread = tt
form_met ended sure line By = tt
form_met ended sure line Covered = tt
form_met ended sure line Rows = tt
form_met ended sure line Proof = tt
form_met ended sure line Pair = tt
form_met ended sure line Summary = tt

below_json : (ended : Bool) (reading : Reading) (other : Reason) → rank other < 1 → MeetsForm ended reading other
unfolding rank
below_json ended reading Count lt = tt
below_json ended reading Json lt = absurd (omega (arith, lt))
below_json ended reading Shape lt = absurd (omega (arith, lt))
below_json ended reading Kind lt = tt
below_json ended reading Version lt = tt
below_json ended reading Unread lt = tt
below_json ended reading By lt = tt
below_json ended reading Covered lt = tt
below_json ended reading Rows lt = tt
below_json ended reading Proof lt = tt
below_json ended reading Pair lt = tt
below_json ended reading Summary lt = tt

-- a line that isn't ended
pub first_unended : (ended : Bool) → ended ≡ false → (reading : Reading) → IsFirstUnmet (MeetsForm ended reading) Json
unfolding rank
first_unended ended wrong (Ok line) = record { unmet = λ sure. not_true (subst IsTrue wrong sure); before = below_json ended (Ok line) }
first_unended ended wrong (Err unreadable.Json) = record { unmet = λ sure. sure; before = below_json ended (Err unreadable.Json) }
first_unended ended wrong (Err unreadable.Shape) = record { unmet = λ sure. not_true (subst IsTrue wrong sure); before = below_json ended (Err unreadable.Shape) }

pub first_json : (ended : Bool) → IsFirstUnmet (MeetsForm ended (Err unreadable.Json)) Json
unfolding rank
first_json ended = record { unmet = λ sure. sure; before = below_json ended (Err unreadable.Json) }

below_shape : (ended : Bool) → IsTrue ended → (other : Reason) → rank other < 2 → MeetsForm ended (Err unreadable.Shape) other
unfolding rank
below_shape ended sure Count lt = tt
below_shape ended sure Json lt = sure
below_shape ended sure Shape lt = absurd (omega (arith, lt))
below_shape ended sure Kind lt = tt
below_shape ended sure Version lt = tt
below_shape ended sure Unread lt = tt
below_shape ended sure By lt = tt
below_shape ended sure Covered lt = tt
below_shape ended sure Rows lt = tt
below_shape ended sure Proof lt = tt
below_shape ended sure Pair lt = tt
below_shape ended sure Summary lt = tt

pub first_shape : (ended : Bool) → IsTrue ended → IsFirstUnmet (MeetsForm ended (Err unreadable.Shape)) Shape
unfolding rank
first_shape ended sure = record { unmet = λ wrong. wrong; before = below_shape ended sure }

-- ---- a form with what is behind it, which owes nothing before a form is there

-- the first test of a form that fails is the first of form and what is behind it
pub first_of_form : (ended : Bool) (reading : Reading) (Behind : Reason → Type 0) → ((other : Reason) → rank other < 3 → Behind other) → (reason : Reason) →
    IsFirstUnmet (MeetsForm ended reading) reason → IsFirstUnmet (λ r. MeetsForm ended reading r × Behind r) reason
unfolding rank
first_of_form ended reading Behind low Count h = absurd (h.unmet tt)
first_of_form ended reading Behind low Json h = record { unmet = λ m. h.unmet m.0; before = λ other lt. (h.before other lt, low other (omega (arith, lt))) }
first_of_form ended reading Behind low Shape h = record { unmet = λ m. h.unmet m.0; before = λ other lt. (h.before other lt, low other (omega (arith, lt))) }
first_of_form ended reading Behind low Kind h = absurd (h.unmet tt)
first_of_form ended reading Behind low Version h = absurd (h.unmet tt)
first_of_form ended reading Behind low Unread h = absurd (h.unmet tt)
first_of_form ended reading Behind low By h = absurd (h.unmet tt)
first_of_form ended reading Behind low Covered h = absurd (h.unmet tt)
first_of_form ended reading Behind low Rows h = absurd (h.unmet tt)
first_of_form ended reading Behind low Proof h = absurd (h.unmet tt)
first_of_form ended reading Behind low Pair h = absurd (h.unmet tt)
first_of_form ended reading Behind low Summary h = absurd (h.unmet tt)

-- what an entry's line owes is owed behind its form
pub kept_low : (basis : Basis) (number : ℕ) (told : Told) (e : ScriptEntry) (reading : Reading) (other : Reason) → rank other < 3 → MeetsKept basis number told e reading other
kept_low basis number told e (Ok line) other lt = below_kind basis number told.used.items (known_in told (request_in e)) e line other lt
kept_low basis number told e (Err why) other lt = tt

-- ---- the first test of an answer, or of a block, that fails

module _ (policy : Policy) (asker : Asker) (q : Query) (it : Evidence) (rows : List (List Value)) where
  below_by : (other : Reason) → rank other < 6 → MeetsAnswer policy asker q it rows other
  unfolding rank
  below_by Count lt = tt
  below_by Json lt = tt
  below_by Shape lt = tt
  below_by Kind lt = tt
  below_by Version lt = tt
  below_by Unread lt = tt
  below_by By lt = absurd (omega (arith, lt))
  below_by Covered lt = absurd (omega (arith, lt))
  below_by Rows lt = absurd (omega (arith, lt))
  below_by Proof lt = absurd (omega (arith, lt))
  below_by Pair lt = absurd (omega (arith, lt))
  below_by Summary lt = absurd (omega (arith, lt))

  pub first_by : (b : Bool) → (IsTrue b ↔ IsRightlyBy policy asker q it) → b ≡ false → IsFirstUnmet (MeetsAnswer policy asker q it rows) By
  unfolding rank
  first_by b is wrong = record { unmet = λ h. not_true (subst IsTrue wrong (is.1 h)); before = below_by }

  below_rows : IsRightlyBy policy asker q it → (other : Reason) → rank other < 8 → MeetsAnswer policy asker q it rows other
  unfolding rank
  below_rows by Count lt = tt
  below_rows by Json lt = tt
  below_rows by Shape lt = tt
  below_rows by Kind lt = tt
  below_rows by Version lt = tt
  below_rows by Unread lt = tt
  below_rows by By lt = by
  below_rows by Covered lt = tt
  below_rows by Rows lt = absurd (omega (arith, lt))
  below_rows by Proof lt = absurd (omega (arith, lt))
  below_rows by Pair lt = absurd (omega (arith, lt))
  below_rows by Summary lt = absurd (omega (arith, lt))

  pub first_rows : (b : Bool) → (IsTrue b ↔ IsRightlyBy policy asker q it) → b ≡ true → AnswerIsUnique → (answer : List (List Value)) → IsAnswer q asker.context asker.tables.rows answer → (s : Bool) → (IsTrue s ↔ (rows ≡ answer)) → s ≡ false →
      IsFirstUnmet (MeetsAnswer policy asker q it rows) Rows
  unfolding rank
  first_rows b is sure law answer answers s same wrong = record {
    unmet = λ h. not_true (subst IsTrue wrong (same.1 (law q asker.context asker.tables.rows rows answer h answers)));
    before = below_rows (is.0 (is_true sure));
  }

pub first_covered : (policy : Policy) (asker : Asker) (q : Query) (it : PrintedBlock) (b : Bool) → (IsTrue b ↔ IsCovered policy asker.context q) → b ≡ true → IsFirstUnmet (MeetsBlock policy asker q it) Covered
unfolding rank
first_covered policy asker q it b is sure = record { unmet = λ wrong. wrong (is.0 (is_true sure)); before = below_covered policy asker q it }

-- ---- what goes on

abbrev pub goes : Option Begun → PrintedLine → Type 0
goes held line = IsTrue (may_go_on held line)

pub true_of : (b : Bool) → IsTrue b → b ≡ true
true_of true t = refl
true_of false t = absurd (not_true t)

-- of a request that found wrong memory there are memory lines alone
pub silent_memory : (held : Option Begun) → held ≡ Some Silent → (line : PrintedLine) → goes held line → is_memory line ≡ true
silent_memory held is line h = true_of (is_memory line) (subst (λ z. goes z line) is h)
