-- What is asked fits, and what is forgotten.
use Rattle.std.proofs.Common.{◌≡◌, ◌∙◌, ℕ, ◌+◌, ◌≤◌, arith, nat_lt, List, [], ◌∷◌, Bool, true, false, cond, Option, Some, None, refl, sym, ap, subst}
use Rattle.std.proofs.lemmas.Bool.{ltb-false}
use Rattle.std.proofs.lemmas.List.Elements.{All-contains, All-head, All-tail, All-weaker}
use Rattle.std.specs.List.{All, AllZip, Contains}
use Rattle.std.specs.Str.{bytes_eq}
use Rattle.ba_kernel.specs.Asked.{QuestionFits}
use Rattle.ba_model.specs.Conform.{IsOfKind}
use Rattle.ba_model.specs.Fit.{ContextFits, IsQuery, KeyFits, kinds_of}
use Rattle.ba_model.specs.declared.policy.CacheKey.{CacheKey}
use Rattle.ba_model.specs.declared.policy.Context.{Context}
use Rattle.ba_model.specs.declared.policy.Parameter.{Parameter}
use Rattle.ba_model.specs.declared.policy.Policy.{Policy}
use Rattle.ba_model.specs.declared.query.Query.{Query}
use Rattle.ba_model.specs.declared.schema.Kind.{Kind}
use Rattle.ba_model.specs.declared.schema.Kind.TheVariants.{Int as IntKind, Text as TextKind}
use Rattle.ba_model.specs.declared.schema.Schema.{Schema}
use Rattle.ba_model.specs.declared.value.Value.{Value}
use Rattle.ba_script.proofs.MeaningLemmas.{context_is}
use Rattle.ba_script.specs.Contexts.{IsValueFor, context_of, of_kind}
use Rattle.ba_script.specs.declared.line.Given.{Given}
use Rattle.ba_script.specs.declared.line.Given.TheVariants.{Int, Text, Other}
use Rattle.ba_script.specs.declared.line.Member.{Member}
use Rattle.ba_live.proofs.BookLemmas.{among_contains, bytes_equal, bytes_same, contains_among, none_some, same_some}
use Rattle.ba_live.specs.Books.{Forgets, ForgetsAll, asked_at, asked_in, is_among, open_at, unless_of}
use Rattle.ba_live.specs.Steps.{key_named}
use Rattle.ba_live.specs.Wellformed.{IsListed, IsSound}
use Rattle.ba_live.specs.declared.books.Questions.{Questions}
use Rattle.ba_live.specs.declared.live.Live.{Live}
use Rattle.ba_live.specs.declared.open.Asked.{Asked}
use Rattle.ba_live.specs.declared.open.Open.{Open}

-- ---- contexts

kind_is : (k : Kind) (given : Given) (v : Value) → of_kind k given ≡ Some v → IsOfKind k v
kind_is IntKind (Int n) v e = subst (IsOfKind IntKind) (same_some _ v e) tt
kind_is IntKind (Text t) v e = cc
kind_is IntKind Other v e = cc
kind_is TextKind (Int n) v e = cc
kind_is TextKind (Text t) v e = subst (IsOfKind TextKind) (same_some _ v e) tt
kind_is TextKind Other v e = cc

values_fit : (members : List Member) (params : List Parameter) (vs : List Value) → AllZip (IsValueFor members) params vs → AllZip IsOfKind (kinds_of params) vs
values_fit members [] [] h = h
values_fit members [] (v ∷ vs) h = h
values_fit members (p ∷ ps) [] h = h
values_fit members (p ∷ ps) (v ∷ vs) h = (kind_is p.kind h.0.0 v h.0.2, values_fit members ps vs h.1)

pub context_fits : (params : List Parameter) (members : List Member) (context : Context) → context_of params members ≡ Some context → ContextFits (kinds_of params) context
context_fits params members context is = values_fit members params context.values (context_is params members context is).values

-- ---- questions

pub question_fits : (it : Live) (name : List ℕ) (asker : Open) (query : Query) → IsSound it → open_at it name ≡ Some asker → IsQuery it.policy.schema (kinds_of it.policy.params) [] query
    → QuestionFits it.policy asker.context asker.trace query
question_fits it name asker query sound is fits =
    record {
      tables = sound.servable.tables;
      rules = sound.servable.rules;
      policy_fits = sound.servable.fits;
      context = (sound.askers name asker is).context;
      trace_fits = (sound.askers name asker is).trace;
      asked = fits;
    }

pub questions_fit : (it : Live) (name : List ℕ) (asker : Open) (queries : List Query) → IsSound it → open_at it name ≡ Some asker → All (IsQuery it.policy.schema (kinds_of it.policy.params) []) queries
    → All (QuestionFits it.policy asker.context asker.trace) queries
questions_fit it name asker queries sound is fit =
    All-weaker (IsQuery it.policy.schema (kinds_of it.policy.params) []) (QuestionFits it.policy asker.context asker.trace) (λ query fits. question_fits it name asker query sound is fits) queries fit

key_is : (P : CacheKey → Type 0) (name : List ℕ) (keys : List CacheKey) (found : CacheKey) → key_named name keys ≡ Some found → All P keys → P found
key_is P name [] found e all = cc
key_is P name (key ∷ keys) found e all = by (bytes_eq key.name name) (λ later. key_is P name keys found later (All-tail P key keys all)) e
  where
    by : (b : Bool) → (key_named name keys ≡ Some found → P found) → cond b (Some key) (key_named name keys) ≡ Some found → P found
    by true rest e = subst P (same_some key found e) (All-head P key keys all)
    by false rest e = rest e

pub key_fits : (it : Live) (name : List ℕ) (keys : List CacheKey) (found : CacheKey) → IsSound it → keys ≡ it.policy.keys → key_named name keys ≡ Some found → KeyFits it.policy found
key_fits it name keys found sound are e = key_is (KeyFits it.policy) name keys found e (subst (All (KeyFits it.policy)) (sym are) sound.servable.fits.keys)

pub given_fits : (params ps : List Parameter) (ms : List Member) (found : Option Context) (context : Context) → ps ≡ params → found ≡ context_of ps ms → found ≡ Some context → ContextFits (kinds_of params) context
given_fits params ps ms found context e f is = subst (λ (x : List Parameter). ContextFits (kinds_of x) context) e (context_fits ps ms context (sym f ∙ is))

-- so many questions that a request may ask
pub questions_may : (most asked count asks : ℕ) (left : Option ℕ) → left ≡ cond (nat_lt most (asked + count)) None (Some count) → left ≡ Some asks → asked + asks ≤ most
questions_may most asked count asks left e is = by (nat_lt most (asked + count)) refl (sym e ∙ is)
  where
    by : (b : Bool) → nat_lt most (asked + count) ≡ b → cond b None (Some count) ≡ Some asks → asked + asks ≤ most
    by true over now = absurd (none_some asks None refl now)
    by false under now =
        let same : count ≡ asks = same_some count asks now in
        let below : asked + count ≤ most = ltb-false most (asked + count) under in
        omega (arith, same, below)

-- ---- forgotten

pub forgets_name : (name : List ℕ) (asker : Open) (old : Live) (new : Questions) → IsSound old → open_at old name ≡ Some asker → ForgetsAll asker.lines old.questions new → Forgets name old.questions new
forgets_name name asker old new sound is forgets = record { each = λ line. by line (asked_at old line) refl }
  where
    listed_is : (line : ℕ) (question : Asked) → asked_at old line ≡ Some question → Contains asker.lines line → question.name ≡ name
    listed_is line question was there =
        let listed = All-contains (IsListed old name) asker.lines line (sound.lines name asker is) there in
        ap (λ (q : Asked). q.name) (same_some question listed.question (sym was ∙ listed.was_asked)) ∙ listed.name_is

    is_there : (line : ℕ) (question : Asked) → asked_at old line ≡ Some question → bytes_eq name question.name ≡ true → is_among asker.lines line ≡ true
    is_there line question was same =
        let it = sound.questions line question was in
        contains_among asker.lines line
        (subst (λ (o : Open). Contains o.lines line) (same_some it.asker asker (sym it.is_open ∙ (sym (ap (open_at old) (bytes_equal name question.name same)) ∙ is))) it.listed)

    is_not : (line : ℕ) (question : Asked) → asked_at old line ≡ Some question → bytes_eq name question.name ≡ false → is_among asker.lines line ≡ false
    is_not line question was other = no (is_among asker.lines line) refl
      where
        both : (b : Bool) → b ≡ true → b ≡ false → ⊥
        both b t f = cc

        no : (b : Bool) → is_among asker.lines line ≡ b → is_among asker.lines line ≡ false
        no false e = e
        no true e =
            absurd (both (bytes_eq name question.name) (subst (λ n. bytes_eq name n ≡ true) (sym (listed_is line question was (among_contains asker.lines line e))) (bytes_same name)) other)

    either : (b : Bool) (o : Option Asked) → o ≡ None → cond b None o ≡ None
    either true o e = refl
    either false o e = e

    by : (line : ℕ) (was : Option Asked) → asked_at old line ≡ was → asked_in new line ≡ unless_of name (asked_at old line)
    by line None was = forgets.each line ∙ (either (is_among asker.lines line) (asked_at old line) was ∙ sym (ap (unless_of name) was))
    by line (Some question) was = named (bytes_eq name question.name) refl
      where
        named : (b : Bool) → bytes_eq name question.name ≡ b → asked_in new line ≡ unless_of name (asked_at old line)
        named true same =
            forgets.each line
            ∙ (ap (λ b. cond b None (asked_at old line)) (is_there line question was same)
            ∙ sym (ap (unless_of name) was ∙ ap (λ b. cond b None (Some question)) same))
        named false other =
            forgets.each line
            ∙ (ap (λ b. cond b None (asked_at old line)) (is_not line question was other)
            ∙ (was ∙ sym (ap (unless_of name) was ∙ ap (λ b. cond b None (Some question)) other)))

-- ---- a query that was read

pub query_moves : (policy one other : Policy) (s : Schema) (q it : Query) → one ≡ policy → other ≡ policy → s ≡ other.schema → it ≡ q → IsQuery s (kinds_of one.params) [] q
    → IsQuery policy.schema (kinds_of policy.params) [] it
query_moves policy one other s q it e f schema same fits =
    subst (λ (x : Query). IsQuery policy.schema (kinds_of policy.params) [] x) (sym same)
    (subst (λ (p : Policy). IsQuery policy.schema (kinds_of p.params) [] q) e
    (subst (λ (x : Schema). IsQuery x (kinds_of one.params) [] q) (schema ∙ ap (λ (p : Policy). p.schema) f) fits))
