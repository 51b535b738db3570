-- What is printed of reads of cache keys: the tests of their queries, and what they show.
use Rattle.std.proofs.Common.{◌≡◌, ◌∙◌, ◌↔◌, refl, sym, ap, subst, ℕ, zero, suc, ◌<◌, ◌⊎◌, inl, inr, List, [], ◌∷◌, length, Bool, true, false, Option, Some, None, IsTrue, arith}
use Rattle.std.proofs.lemmas.Bool.{ltb-true}
use Rattle.std.proofs.lemmas.List.{length-map}
use Rattle.std.proofs.lemmas.List.Elements.{All-cons, All-nil, All-weaker, recursion_from_All}
use Rattle.std.proofs.lemmas.Option.{get_or_from_slice_get, slice_get_within}
use Rattle.std.specs.List.{All, AllByRecursion, AllZip}
use Rattle.std.specs.Prelude.{◌&&◌, ◌||◌, slice_get}
use Rattle.ba_comply.specs.Comply.{Strong}
use Rattle.ba_kernel.specs.Asked.{QuestionFits}
use Rattle.ba_keys.specs.Literals.{key_queries, query_with}
use Rattle.ba_model.proofs.FitLemmas.{AllZip-at}
use Rattle.ba_model.specs.Fit.{IsQuery, KeyFits, kinds_of}
use Rattle.ba_model.specs.declared.policy.CacheKey.{CacheKey}
use Rattle.ba_model.specs.declared.policy.Context.{Context}
use Rattle.ba_model.specs.declared.policy.Policy.{Policy}
use Rattle.ba_model.specs.declared.query.Query.{Query}
use Rattle.ba_script.specs.Scripts.{ReadFits}
use Rattle.ba_script.specs.declared.entry.ScriptEntry.{ScriptEntry}
use Rattle.ba_script.specs.declared.entry.ScriptEntry.TheVariants as said
use Rattle.ba_printed.specs.declared.line.Evidence.{Evidence}
use Rattle.ba_printed.specs.declared.line.PrintedBlock.{PrintedBlock}
use Rattle.ba_printed.specs.declared.line.PrintedLine.{PrintedLine}
use Rattle.ba_printed.specs.declared.line.PrintedLine.TheVariants as printed
use Rattle.ba_audit.specs.Audits.{EvidenceIsStrong, IsChecked, ShowsKeyBlock, ShowsQueries, ShowsReader}
use Rattle.ba_audit.specs.Keeping.{AskerFits, IsReadOf, TellsHeard}
use Rattle.ba_audit.specs.Lines.{is_memory, key_at, queries_behind, queries_read}
use Rattle.ba_audit.specs.Tests.{IsFirstUnmet, IsProved, IsRightlyBy, MeetsAll, MeetsKeyBlock, MeetsKeyRead, MeetsQueries, MeetsReader, TellsFirst, has_form, is_key, is_within, rank}
use Rattle.ba_audit.specs.declared.heard.Heard.TheVariants.{Met}
use Rattle.ba_audit.specs.declared.request.Asker.{Asker}
use Rattle.ba_audit.specs.declared.request.Begun.{Begun}
use Rattle.ba_audit.specs.declared.request.Begun.TheVariants.{Silent}
use Rattle.ba_wire.specs.declared.audit.AuditReason.{AuditReason as Reason}
use Rattle.ba_wire.specs.declared.audit.AuditReason.TheVariants.{Count, Json, Shape, Kind, Version, Unread, By, Covered, Rows, Proof, Pair, Summary}
use Rattle.ba_audit.proofs.AskLemmas.{question_fits}
use Rattle.ba_audit.proofs.TestLemmas.{is_true, key_read_low, memory_verdict, not_true, true_of}

-- ---- two lists, side by side

-- where R fails of two items at one place, it doesn't hold of all
pub zip_not : {A B : Type 0} (R : A → B → Type 0) (xs : List A) (ys : List B) (i : ℕ) (x : A) (y : B) → slice_get xs i ≡ Some x → slice_get ys i ≡ Some y → (b : Bool) → (IsTrue b ↔ R x y) → b ≡ false → IsTrue false ↔ AllZip R xs ys
zip_not R xs ys i x y e f b is wrong = (
  λ t. absurd (not_true t),
  λ h.
      let at = AllZip-at R xs ys i x h e in
      let same : at.0 ≡ y = (let both = sym at.1 ∙ f in cc) in
      absurd (not_true (subst IsTrue wrong (is.1 (subst (R x) same at.2)))),
)

pub holds_at : {A : Type 0} (P : A → Type 0) (xs : List A) → All P xs → (i : ℕ) (x : A) → slice_get xs i ≡ Some x → P x
holds_at P xs all i x e = subst P (get_or_from_slice_get xs i x x e) (all i x (slice_get_within xs i x e))

some_at : {A : Type 0} (xs : List A) (n : ℕ) → n < length xs → slice_get xs n ≡ None → ⊥
some_at [] n lt e = absurd (omega (arith, lt))
some_at (x ∷ xs) zero lt e = cc
some_at (x ∷ xs) (suc n) lt e = some_at xs n (omega (arith, lt)) e

-- ---- the first test of a read that fails

module _ (policy : Policy) (asker : Asker) (qs : List Query) (its : List Evidence) where
  pub first_key_by : (b : Bool) → (IsTrue b ↔ AllZip (IsRightlyBy policy asker) qs its) → b ≡ false → IsFirstUnmet (MeetsKeyRead policy asker qs its) By
  unfolding rank
  first_key_by b is wrong = record { unmet = λ h. not_true (subst IsTrue wrong (is.1 h)); before = key_read_low policy asker qs its }

  below_key_proof : AllZip (IsRightlyBy policy asker) qs its → (other : Reason) → rank other < 9 → MeetsKeyRead policy asker qs its other
  unfolding rank
  below_key_proof by Count lt = tt
  below_key_proof by Json lt = tt
  below_key_proof by Shape lt = tt
  below_key_proof by Kind lt = tt
  below_key_proof by Version lt = tt
  below_key_proof by Unread lt = tt
  below_key_proof by By lt = by
  below_key_proof by Covered lt = tt
  below_key_proof by Rows lt = tt
  below_key_proof by Proof lt = absurd (omega (arith, lt))
  below_key_proof by Pair lt = absurd (omega (arith, lt))
  below_key_proof by Summary lt = absurd (omega (arith, lt))

  pub first_key_proof : (b p : Bool) → (IsTrue b ↔ AllZip (IsRightlyBy policy asker) qs its) → b ≡ true → (IsTrue p ↔ AllZip (IsProved policy asker) qs its) → p ≡ false → IsFirstUnmet (MeetsKeyRead policy asker qs its) Proof
  unfolding rank
  first_key_proof b p is sure proves wrong = record { unmet = λ h. not_true (subst IsTrue wrong (proves.1 h)); before = below_key_proof (is.0 (is_true sure)) }

  pub all_key : (b p : Bool) → (IsTrue b ↔ AllZip (IsRightlyBy policy asker) qs its) → b ≡ true → (IsTrue p ↔ AllZip (IsProved policy asker) qs its) → p ≡ true → MeetsAll (MeetsKeyRead policy asker qs its)
  all_key b p is sure proves proved = record { meets = met }
    where
      met : (reason : Reason) → MeetsKeyRead policy asker qs its reason
      met Count = tt
      met Json = tt
      met Shape = tt
      met Kind = tt
      met Version = tt
      met Unread = tt
      met By = is.0 (is_true sure)
      met Covered = tt
      met Rows = tt
      met Proof = proves.0 (is_true proved)
      met Pair = tt
      met Summary = tt

-- ---- what a read shows

strong_all : EvidenceIsStrong → (policy : Policy) (asker : Asker) (qs : List Query) (its : List Evidence) → AllByRecursion (QuestionFits policy asker.context asker.trace) qs →
    AllZip (IsRightlyBy policy asker) qs its → AllZip (IsProved policy asker) qs its → All (Strong policy asker.context asker.trace) qs
strong_all law policy asker [] [] fit by proved = All-nil (Strong policy asker.context asker.trace)
strong_all law policy asker [] (it ∷ its) fit by proved = absurd by
strong_all law policy asker (q ∷ qs) [] fit by proved = absurd by
strong_all law policy asker (q ∷ qs) (it ∷ its) fit by proved =
    All-cons (Strong policy asker.context asker.trace) q qs (law policy asker q it fit.0 by.0 proved.0) (strong_all law policy asker qs its fit.1 by.1 proved.1)

block_shows : (policy : Policy) (asker : Asker) (found : Option Query) (why : PrintedBlock) → (found ≡ None → ⊥) → ((reason : Reason) → MeetsKeyBlock policy asker found why reason) → ShowsKeyBlock policy asker found why
block_shows policy asker None why some meets = absurd (some refl)
block_shows policy asker (Some q) why some meets = record { query = q; is = refl; uncovered = meets Covered; refuted = meets Pair }

queries_show : EvidenceIsStrong → (policy : Policy) (asker : Asker) (qs : List Query) (line : PrintedLine) → IsTrue (is_within (length qs) line) → All (QuestionFits policy asker.context asker.trace) qs →
    MeetsAll (MeetsQueries policy asker qs line) → ShowsQueries policy asker qs line
unfolding MeetsQueries ShowsQueries is_within
queries_show law policy asker qs (printed.Begin begin line version) within fit all = tt
queries_show law policy asker qs (printed.End end line) within fit all = tt
queries_show law policy asker qs (printed.Publish line publish version) within fit all = tt
queries_show law policy asker qs (printed.Answer it line request rows version) within fit all = tt
queries_show law policy asker qs (printed.Block it line request version) within fit all = tt
queries_show law policy asker qs (printed.Read its key line read version) within fit all =
    strong_all law policy asker qs its (recursion_from_All (QuestionFits policy asker.context asker.trace) qs fit) (all.meets By) (all.meets Proof)
queries_show law policy asker qs (printed.ReadBlock why key line query read version) within fit all =
    block_shows policy asker (slice_get qs query) why (some_at qs query (ltb-true query (length qs) (true_of _ within))) all.meets
queries_show law policy asker qs printed.UnevenRead within fit all = tt
queries_show law policy asker qs (printed.Unread line request unread version) within fit all = tt
queries_show law policy asker qs (printed.Memory line) within fit all = tt
queries_show law policy asker qs (printed.Summary summary) within fit all = tt

-- a read whose queries, by another name, meet each test
pub heard_queries : EvidenceIsStrong → (policy : Policy) (asker : Asker) (qs seen : List Query) → seen ≡ qs → (line : PrintedLine) → IsTrue (is_within (length qs) line) → All (QuestionFits policy asker.context asker.trace) seen →
    (o : Option Reason) → TellsFirst (MeetsQueries policy asker seen line) o → o ≡ None → TellsHeard (MeetsQueries policy asker qs line) [] (ShowsQueries policy asker qs line) (Met None)
heard_queries law policy asker qs seen same line within fit o tells none =
    let all : MeetsAll (MeetsQueries policy asker qs line) = subst (λ z. MeetsAll (MeetsQueries policy asker z line)) same (subst (TellsFirst (MeetsQueries policy asker seen line)) none tells) in
    (all, refl, queries_show law policy asker qs line within (subst (All (QuestionFits policy asker.context asker.trace)) same fit) all)

-- or of which one doesn't
pub unmet_queries : (policy : Policy) (asker : Asker) (qs seen : List Query) → seen ≡ qs → (line : PrintedLine) (o : Option Reason) → TellsFirst (MeetsQueries policy asker seen line) o → (reason : Reason) → o ≡ Some reason →
    IsFirstUnmet (MeetsQueries policy asker qs line) reason
unmet_queries policy asker qs seen same line o tells reason is =
    subst (λ z. IsFirstUnmet (MeetsQueries policy asker z line) reason) same (subst (TellsFirst (MeetsQueries policy asker seen line)) is tells)

-- of a request that found no memory there are memory lines alone
pub heard_silent : (policy : Policy) (held : Option Begun) → held ≡ Some Silent → (qs : List Query) (line : PrintedLine) → is_memory line ≡ true →
    TellsHeard (MeetsReader policy held qs line) [] (ShowsReader policy held qs line) (Met None)
heard_silent policy held is qs line memory =
    subst (λ h. TellsHeard (MeetsReader policy h qs line) [] (ShowsReader policy h qs line) (Met None)) (sym is) (record { meets = λ reason. tt }, refl, memory_verdict line memory)

-- ---- the key and its queries

-- with the policy by the names under which the key is looked up and its queries are made
module _ (policy first second : Policy) (same_first : first ≡ policy) (same_second : second ≡ policy) (number : ℕ) (arguments : Context) where
  pub key_within : IsReadOf policy number arguments → number < length first.keys
  key_within read = subst (λ (p : Policy). number < length p.keys) (sym same_first) (slice_get_within policy.keys number read.key read.is)

  module _ (key : CacheKey) (at : slice_get first.keys number ≡ Some key) where
    found : slice_get policy.keys number ≡ Some key
    found = subst (λ (p : Policy). slice_get p.keys number ≡ Some key) same_first at

    pub key_fits : IsChecked policy → KeyFits second key
    key_fits checked = subst (λ (p : Policy). KeyFits p key) (sym same_second) (holds_at (KeyFits policy) policy.keys checked.fits.keys number key found)

    pub queries_are : (seen : List Query) → seen ≡ key_queries second key arguments → seen ≡ queries_read policy number arguments
    queries_are seen is =
        is ∙ ap (λ (p : Policy). key_queries p key arguments) same_second ∙ sym (ap (queries_behind policy arguments) found)

  pub questions_fit : (asker : Asker) (qs : List Query) → IsChecked policy → AskerFits policy asker → All (IsQuery second.schema (kinds_of second.params) []) qs → All (QuestionFits policy asker.context asker.trace) qs
  questions_fit asker qs checked fits all =
      let ours : All (IsQuery policy.schema (kinds_of policy.params) []) qs = subst (λ (p : Policy). All (IsQuery p.schema (kinds_of p.params) []) qs) same_second all in
      All-weaker (IsQuery policy.schema (kinds_of policy.params) []) (QuestionFits policy asker.context asker.trace) (λ q h. question_fits policy asker q checked fits h) qs ours

-- ---- what a line's form says of a read

or_else : (a b : Bool) → IsTrue (a || b) → (a ≡ true) ⊎ IsTrue b
or_else true b h = inl refl
or_else false b h = inr h

and_second : (a b : Bool) → IsTrue (a && b) → IsTrue b
and_second true b h = h
and_second false b h = absurd (not_true h)

memory_within : (n : ℕ) (line : PrintedLine) → is_memory line ≡ true → IsTrue (is_within n line)
unfolding is_memory is_within
memory_within n (printed.Begin begin line version) e = cc
memory_within n (printed.End end line) e = cc
memory_within n (printed.Publish line publish version) e = cc
memory_within n (printed.Answer it line request rows version) e = cc
memory_within n (printed.Block it line request version) e = cc
memory_within n (printed.Read its key line read version) e = absurd (not_true (is_true e))
memory_within n (printed.ReadBlock why key line query read version) e = absurd (not_true (is_true e))
memory_within n printed.UnevenRead e = cc
memory_within n (printed.Unread line request unread version) e = cc
memory_within n (printed.Memory line) e = cc
memory_within n (printed.Summary summary) e = cc

found_within : (policy : Policy) (arguments : Context) (found : Option CacheKey) (line : PrintedLine) → IsTrue (is_key found line) → IsTrue (is_within (length (queries_behind policy arguments found)) line)
found_within policy arguments None line h = absurd (not_true h)
found_within policy arguments (Some key) line h =
    subst (λ n. IsTrue (is_within n line)) (sym (length-map key.queries (query_with (length policy.params) arguments.values))) (and_second _ _ h)

module _ (policy : Policy) (e : ScriptEntry) {request : ℕ} {name : List ℕ} {key : ℕ} {arguments : Context} {questions : ℕ} (is : e ≡ said.Read request name key arguments questions) where
  -- it is within the queries of its key
  pub form_within : (line : PrintedLine) → IsTrue (is_memory line || has_form policy e line) → IsTrue (is_within (length (queries_read policy key arguments)) line)
  unfolding has_form
  form_within line form =
      elim (or_else (is_memory line) (has_form policy e line) form) [
        | inl memory ↦ memory_within (length (queries_read policy key arguments)) line memory
        | inr said ↦ found_within policy arguments (key_at policy key) line (and_second _ _ (subst (λ z. IsTrue (has_form policy z line)) is said))
      ]

  pub read_of : ReadFits policy.keys e → IsReadOf policy key arguments
  read_of fits = let here = subst (ReadFits policy.keys) is fits in record { key = here.0; is = here.1; fits = here.2 }
