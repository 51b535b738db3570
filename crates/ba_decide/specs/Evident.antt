-- The line of a decision with its evidence.
use Rattle.std.specs.Prelude.{◌≡◌, ◌⊎◌, ℕ, Bool, true, false, List, [], ◌∷◌, ◌++◌, Some, length, ⊤}
use Rattle.ba_comply.specs.declared.trace.TraceEntry.{TraceEntry}
use Rattle.ba_evidence.specs.Evidence.{Evidence, covered, matched, proved}
use Rattle.ba_evidence.specs.Said.{Based, Basis, TellsBased, allowed_json, pair_read_json, pair_said_json, parts, read_said_json, weaker_json, whole}
use Rattle.ba_evidence.specs.declared.said_reads.ReadGrounds.{ReadGrounds}
use Rattle.ba_judge.specs.Judging.{Asked as Question, after_trace, part_of, question_of}
use Rattle.ba_judge.specs.declared.reading.Read.{Read}
use Rattle.ba_judge.specs.declared.reading.Read.TheVariants as reads
use Rattle.ba_judge.specs.declared.verdict.Allowed.{Allowed}
use Rattle.ba_judge.specs.declared.verdict.Allowed.TheVariants.{Whole, Parts, WeakerWhole, WeakerParts}
use Rattle.ba_judge.specs.declared.verdict.By.{By}
use Rattle.ba_judge.specs.declared.verdict.By.TheVariants.{Cover, Template, Proof}
use Rattle.ba_judge.specs.declared.verdict.Reason.{Reason}
use Rattle.ba_judge.specs.declared.verdict.Reason.TheVariants.{Refuted, Spent, Stuck, Contradiction}
use Rattle.ba_kernel.specs.Replays.{Closes}
use Rattle.ba_kernel.specs.SearchStates as kernel
use Rattle.ba_kernel.specs.declared.step.Step.{Step}
use Rattle.ba_live.specs.Books.{asked_at, open_at}
use Rattle.ba_live.specs.Steps.{question_in}
use Rattle.ba_live.specs.declared.decision.Decision.{Decision}
use Rattle.ba_live.specs.declared.decision.Decision.TheVariants as decided
use Rattle.ba_live.specs.declared.decision.Subject.{Subject}
use Rattle.ba_live.specs.declared.decision.Subject.TheVariants as subject
use Rattle.ba_live.specs.declared.live.Live.{Live}
use Rattle.ba_live.specs.declared.open.Asked.{Asked}
use Rattle.ba_live.specs.declared.open.Open.{Open}
use Rattle.ba_match.specs.Instances.{instance_of}
use Rattle.ba_model.specs.declared.policy.Parameter.{Parameter}
use Rattle.ba_model.specs.declared.policy.Policy.{Policy}
use Rattle.ba_model.specs.declared.query.Part.{Part}
use Rattle.ba_model.specs.declared.query.Query.{Query}
use Rattle.ba_template.specs.declared.found.Match.{Match}
use Rattle.ba_weaker.specs.Weaker.{IsWeakerTrace}
use Rattle.ba_wire.specs.Printed.{json_line}
use Rattle.ba_decide.specs.Text.{decision_bytes, keyed_bytes, memory_bytes, named_bytes, needed}
use Rattle.ba_decide.specs.declared.evident.Told.{Told}

-- ---- what is told of a ground

-- the steps of the template's instance close the question's problem
pub record IsInstance (asked : Question) (template : kernel.Proof) (found : Match)
    (steps : List Step) : Type 0 where
  pub steps_are : steps ≡ instance_of found asked.trace template.steps
  pub closes : Closes (question_of asked) steps

-- the steps, where a template allows the question
abbrev pub AreStepsOf : Question → By → List Step → Type 0
AreStepsOf asked (Cover cover) steps = ⊤
AreStepsOf asked (Template template found) steps = IsInstance asked template found steps
AreStepsOf asked (Proof taken) steps = ⊤

abbrev pub evidence_with : By → List Step → Evidence
evidence_with (Cover cover) steps = covered cover
evidence_with (Template template found) steps = matched steps
evidence_with (Proof taken) steps = proved taken

abbrev pub told_evidence : Told → Evidence
told_evidence it = evidence_with it.ground.now it.steps

-- what allows the question, as evidence: of a template its instance
pub record IsEvidence (asked : Question) (by : By) (it : Evidence) : Type 0 where
  pub steps : List Step
  pub are : AreStepsOf asked by steps
  pub it_is : it ≡ evidence_with by steps

-- of each part
abbrev pub AreEvidence : Question → List Part → List By → List Evidence → Type 0
AreEvidence asked [] [] [] = ⊤
AreEvidence asked [] [] (it ∷ its) = ⊥
AreEvidence asked [] (by ∷ bys) its = ⊥
AreEvidence asked (part ∷ all) [] its = ⊥
AreEvidence asked (part ∷ all) (by ∷ bys) [] = ⊥
AreEvidence asked (part ∷ all) (by ∷ bys) (it ∷ its) =
    IsEvidence (part_of asked part) by it × AreEvidence asked all bys its

-- on what it rests after its own trace
abbrev pub IsBasis : Question → Allowed → Basis → Type 0
IsBasis asked (Whole by) (whole it) = IsEvidence asked by it
IsBasis asked (Whole by) (parts its) = ⊥
IsBasis asked (Parts bys) (whole it) = ⊥
IsBasis asked (Parts bys) (parts its) = AreEvidence asked asked.query.parts bys its
IsBasis asked (WeakerWhole by) it = ⊥
IsBasis asked (WeakerParts bys) it = ⊥

-- ---- questions

-- the line tells on what the question rests after what was told
pub record TellsPlain (params : List Parameter) (asked : Question) (number : ℕ) (name : List ℕ)
    (it : Allowed) (send text : List ℕ) : Type 0 where
  pub on : Basis
  pub is : IsBasis asked it on
  pub text_is : text ≡ json_line (allowed_json params (needed it) on number name send)

-- the line tells on what the question rests after the weaker trace, and that its rows are weaker
pub record TellsWeaker (params : List Parameter) (asked : Question) (number : ℕ) (name : List ℕ)
    (it : Allowed) (send text : List ℕ) : Type 0 where
  pub trace : List TraceEntry
  pub weaker : IsWeakerTrace asked.trace trace
  pub on : Basis
  pub is : IsBasis (after_trace asked trace) it on
  pub text_is : text ≡ json_line (weaker_json params (needed it) on number name send)

-- the line tells on what the allowed question rests
abbrev pub TellsBasis : List Parameter → Question → ℕ → List ℕ → Allowed → List ℕ → List ℕ →
    Type 0
TellsBasis params asked number name (WeakerWhole by) send text =
    TellsWeaker params asked number name (Whole by) send text
TellsBasis params asked number name (WeakerParts bys) send text =
    TellsWeaker params asked number name (Parts bys) send text
TellsBasis params asked number name it send text =
    TellsPlain params asked number name it send text

pub record TellsAllowed (live : Live) (number : ℕ) (name : List ℕ) (it : Allowed)
    (send text : List ℕ) : Type 0 where
  pub asker : Open
  pub is_open : open_at live name ≡ Some asker
  pub question : Asked
  pub was_asked : asked_at live number ≡ Some question
  pub tells : TellsBasis live.policy.params (question_in live.policy asker question.query) number
      name it send text

-- the pair that refutes the question; else the line is the plain one
abbrev pub TellsBlocked : Live → ℕ → List ℕ → Reason → List ℕ → Type 0
TellsBlocked live number name (Refuted pair) text =
    text ≡ json_line (pair_said_json live.policy.schema pair number name)
TellsBlocked live number name (Spent steps) text =
    text ≡ named_bytes number name (decided.Blocked (Spent steps))
TellsBlocked live number name (Stuck leaf clause) text =
    text ≡ named_bytes number name (decided.Blocked (Stuck leaf clause))
TellsBlocked live number name (Contradiction steps) text =
    text ≡ named_bytes number name (decided.Blocked (Contradiction steps))

abbrev pub TellsNamed : Live → ℕ → List ℕ → Decision → List ℕ → Type 0
TellsNamed live number name (decided.Allowed it send) text =
    TellsAllowed live number name it send text
TellsNamed live number name (decided.Blocked it) text = TellsBlocked live number name it text
TellsNamed live number name it text = text ≡ named_bytes number name it

-- ---- reads of cache keys

pub record IsBased (asked : Question) (it : Allowed) (based : Based) : Type 0 where
  pub by : based.by ≡ needed it
  pub on : IsBasis asked it based.on

-- each of the queries, asked by what is open
abbrev pub AreBased : Policy → Open → List Query → List Allowed → List Based → Type 0
AreBased policy asker [] [] [] = ⊤
AreBased policy asker [] [] (based ∷ list) = ⊥
AreBased policy asker [] (it ∷ its) list = ⊥
AreBased policy asker (query ∷ queries) [] list = ⊥
AreBased policy asker (query ∷ queries) (it ∷ its) [] = ⊥
AreBased policy asker (query ∷ queries) (it ∷ its) (based ∷ list) =
    IsBased (question_in policy asker query) it based × AreBased policy asker queries its list

-- what is told of one more query
pub record AddsBased (params : List Parameter) (asked : Question) (it : Allowed)
    (old new : ReadGrounds) : Type 0 where
  pub based : Based
  pub is : IsBased asked it based
  pub tells : (before : List Based) → TellsBased params before old →
      TellsBased params (before ++ based ∷ []) new

-- what is told of these queries
pub record HoldsBased (policy : Policy) (asker : Open) (queries : List Query) (by : List Allowed)
    (it : ReadGrounds) : Type 0 where
  pub list : List Based
  pub are : AreBased policy asker queries by list
  pub tells : TellsBased policy.params list it

-- the line tells on what the queries of the key rest
pub record TellsReadable (live : Live) (number : ℕ) (name key : List ℕ) (queries : List Query)
    (by : List Allowed) (text : List ℕ) : Type 0 where
  pub asker : Open
  pub is_open : open_at live name ≡ Some asker
  pub list : List Based
  pub are : AreBased live.policy asker queries by list
  pub text_is : text ≡ json_line (read_said_json live.policy.params list key number name)

abbrev pub TellsKeyBlocked : Live → ℕ → List ℕ → List ℕ → List Query → List Allowed → Reason →
    List ℕ → Type 0
TellsKeyBlocked live number name key queries before (Refuted pair) text =
    text ≡ json_line (pair_read_json live.policy.schema pair key number (length before) name)
TellsKeyBlocked live number name key queries before (Spent steps) text =
    text ≡ keyed_bytes number name key (decided.Read (reads.Blocked queries before (Spent steps)))
TellsKeyBlocked live number name key queries before (Stuck leaf clause) text =
    text ≡ keyed_bytes number name key
    (decided.Read (reads.Blocked queries before (Stuck leaf clause)))
TellsKeyBlocked live number name key queries before (Contradiction steps) text =
    text ≡ keyed_bytes number name key
    (decided.Read (reads.Blocked queries before (Contradiction steps)))

abbrev pub TellsRead : Live → ℕ → List ℕ → List ℕ → Read → List ℕ → Type 0
TellsRead live number name key (reads.Allowed queries by) text =
    TellsReadable live number name key queries by text
TellsRead live number name key (reads.Blocked queries before why) text =
    TellsKeyBlocked live number name key queries before why text

abbrev pub TellsKeyed : Live → ℕ → List ℕ → List ℕ → Decision → List ℕ → Type 0
TellsKeyed live number name key (decided.Read it) text = TellsRead live number name key it text
TellsKeyed live number name key it text = text ≡ keyed_bytes number name key it

-- ---- decisions

-- the line of the decision on the event of a line, which is about this, after which the service
-- is so
abbrev pub IsEvident : Live → ℕ → Subject → Decision → List ℕ → Type 0
IsEvident live number (subject.Request name) it text = TellsNamed live number name it text
IsEvident live number (subject.Key name key) it text = TellsKeyed live number name key it text
IsEvident live number (subject.Line asked) it text =
    text ≡ decision_bytes number (subject.Line asked) it
IsEvident live number subject.Nobody it text = text ≡ decision_bytes number subject.Nobody it

-- the line of the decision: with its evidence, where that is asked for, or plain
abbrev pub IsLineOf : Bool → Live → ℕ → Subject → Decision → List ℕ → Type 0
IsLineOf true live number it decision text = IsEvident live number it decision text
IsLineOf false live number it decision text = text ≡ decision_bytes number it decision

-- the text is the line of the decision, or says that there was no memory for it
abbrev pub IsTextOf : Bool → Live → ℕ → Subject → Decision → List ℕ → Type 0
IsTextOf evidence live number it decision text =
    IsLineOf evidence live number it decision text ⊎ (text ≡ memory_bytes number)
