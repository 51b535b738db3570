-- What is read fits: a context its parameters, a row its query.
use Rattle.std.proofs.Common.{◌≡◌, ◌∙◌, ℕ, suc, ◌+◌, ◌≤◌, ◌==◌, inl, inr, List, [], ◌∷◌, length, map, All, Bool, true, false, cond, nat_lt, Option, Some, None, option_map, refl, sym, ap, subst, arith, eqb-true}
use Rattle.std.specs.Prelude.{Result, Ok, Err, is_some, option_and_then, slice_get, ⊤}
use Rattle.std.proofs.lemmas.Bool.{ltb-false}
use Rattle.std.specs.List.{AllByRecursion, AllZip}
use Rattle.std.proofs.lemmas.List.Elements.{All-from_recursion, recursion_from_All}
use Rattle.serde_json.specs.Data.{Data, Members}
use Rattle.serde_json.specs.Find.{as_null, as_object}
use Rattle.ba_model.specs.Conform.{IsOfKind}
use Rattle.ba_model.specs.Fit.{ContextFits, IsQuery, PartFits, kind_of, kinds_of}
use Rattle.ba_model.specs.Readings.{◌>>=◌, each}
use Rattle.ba_model.specs.Limits.{most_steps}
use Rattle.ba_model.specs.declared.policy.Context.{Context}
use Rattle.ba_model.specs.declared.policy.Parameter.{Parameter}
use Rattle.ba_model.specs.declared.policy.Policy.{Policy}
use Rattle.ba_model.specs.declared.query.Part.{Part}
use Rattle.ba_model.specs.declared.query.Query.{Query}
use Rattle.ba_model.specs.declared.schema.Kind.{Kind}
use Rattle.ba_model.specs.declared.schema.Kind.TheVariants.{Int as IntKind, Text as TextKind}
use Rattle.ba_model.specs.declared.schema.Schema.{Schema}
use Rattle.ba_model.specs.declared.value.Value.{Value}
use Rattle.ba_model.specs.declared.value.Value.TheVariants as value
use Rattle.ba_comply.specs.declared.trace.TraceEntry.{TraceEntry}
use Rattle.ba_kernel.specs.Asked.{MayBeOfKind, QuestionFits, RecordFits}
use Rattle.ba_kernel.specs.Problems.{problem_of}
use Rattle.ba_kernel.specs.declared.problem.Problem.{Problem}
use Rattle.ba_kernel.specs.declared.step.Step.{Step}
use Rattle.ba_script.specs.Contexts.{are_declared, context_of, context_with, given_for, of_kind, value_for, values_for, with_rest}
use Rattle.ba_script.specs.Script.{given_members, given_of}
use Rattle.ba_script.specs.declared.line.Given.{Given}
use Rattle.ba_script.specs.declared.line.Given.TheVariants as given
use Rattle.ba_script.specs.declared.line.Member.{Member}
use Rattle.ba_proof.proofs.EntryLemmas.{KindsFrom, kinds_there}
use Rattle.ba_proof.specs.Checked.{IsAsked, IsPolicy}
use Rattle.ba_proof.specs.Reading.{context_at, entry_with, few_at, head_kind, row_of, row_under, row_value, steps_at, too_many, value_at, values_from}
use Rattle.ba_proof.specs.Steps.{step_at}
use Rattle.ba_proof.specs.Shapes.{as_list, or_bad}
use Rattle.ba_proof.specs.declared.fault.ProofFault.{ProofFault}
use Rattle.ba_proof.specs.declared.fault.ProofFault.TheVariants.{TooLong}
use Rattle.ba_proof.specs.declared.fault.ProofField.TheVariants as field
use Rattle.ba_proof.specs.declared.fault.ProofField.{ProofField}

-- ---- contexts

kind_fits : (k : Kind) (g : Given) (v : Value) → of_kind k g ≡ Some v → IsOfKind k v
kind_fits IntKind (given.Int n) value.Null e = cc e
kind_fits IntKind (given.Int n) (value.Int m) e = tt
kind_fits IntKind (given.Int n) (value.Text t) e = cc e
kind_fits IntKind (given.Text s) v e = cc e
kind_fits IntKind given.Other v e = cc e
kind_fits TextKind (given.Int n) v e = cc e
kind_fits TextKind (given.Text s) value.Null e = cc e
kind_fits TextKind (given.Text s) (value.Int m) e = cc e
kind_fits TextKind (given.Text s) (value.Text t) e = tt
kind_fits TextKind given.Other v e = cc e

value_is : (k : Kind) (g : Option Given) (v : Value) → option_and_then (of_kind k) g ≡ Some v → IsOfKind k v
value_is k None v e = cc e
value_is k (Some g) v e = kind_fits k g v e

rest_is : (o : Option Value) (rest : Option (List Value)) (vs : List Value) → with_rest o rest ≡ Some vs → (v : Value) × (ws : List Value) × (o ≡ Some v) × (rest ≡ Some ws) × (vs ≡ v ∷ ws)
rest_is None rest vs e = cc e
rest_is (Some v) None vs e = cc e
rest_is (Some v) (Some ws) vs e = (v, ws, refl, refl, cc e)

values_of_kind : (members : List Member) (params : List Parameter) (vs : List Value) → values_for members params ≡ Some vs → AllZip IsOfKind (kinds_of params) vs
values_of_kind members [] vs e = let none : [] ≡ vs = cc e in subst (AllZip IsOfKind []) none tt
values_of_kind members (p ∷ ps) vs e =
    let it = rest_is (value_for members p) (values_for members ps) vs e in
    subst (AllZip IsOfKind (kinds_of (p ∷ ps))) (sym it.4) (value_is p.kind (given_for p.name members) it.0 it.2, values_of_kind members ps it.1 it.3)

declared_values : (b : Bool) (vs : Option (List Value)) (c : Context) → cond b (option_map context_with vs) None ≡ Some c → vs ≡ Some c.values
declared_values true (Some vs) c e = let same : context_with vs ≡ c = cc e in ap (λ (it : Context). Some it.values) same
declared_values true None c e = cc e
declared_values false vs c e = cc e

context_is : (params : List Parameter) (members : List Member) (c : Context) → context_of params members ≡ Some c → ContextFits (kinds_of params) c
unfolding context_of
context_is params members c e = values_of_kind members params c.values (declared_values (are_declared params members) (values_for members params) c e)

pub good : {A : Type 0} (f : ProofField) (o : Option A) (x : A) → or_bad f o ≡ Ok x → o ≡ Some x
good f None x e = cc e
good f (Some y) x e = ap Some (cc e)

object_is : (params : List Parameter) (o : Option Members) (c : Context) → option_and_then (λ members. context_of params (given_members members)) o ≡ Some c → ContextFits (kinds_of params) c
object_is params None c e = cc e
object_is params (Some ms) c e = context_is params (given_members ms) c e

pub context_fits : (params : List Parameter) (found : Option Data) (c : Context) → context_at params found ≡ Ok c → ContextFits (kinds_of params) c
unfolding context_at
context_fits params found c e = object_is params (option_and_then as_object found) c (good _ _ c e)

-- ---- rows

pub bound : {A B F : Type 0} (r : Result A F) (f : A → Result B F) (y : B) → (r >>= f) ≡ Ok y → (x : A) × (r ≡ Ok x) × (f x ≡ Ok y)
bound (Ok x) f y e = (x, refl, e)
bound (Err r) f y e = cc e

row_value_fits : (k : Kind) (d : Data) (v : Value) → row_value k d ≡ Some v → MayBeOfKind k v
row_value_fits k d v e = by (is_some (as_null d)) e
  where
    by : (b : Bool) → cond b (Some value.Null) (of_kind k (given_of d)) ≡ Some v → MayBeOfKind k v
    by true h = inr (cc h)
    by false h = inl (kind_fits k (given_of d) v h)

of_head : (k : Kind) (o : Option Kind) (d : Data) (v : Value) (f : ProofField) → o ≡ Some k → or_bad f (option_and_then (λ kind. row_value kind d) o) ≡ Ok v → MayBeOfKind k v
of_head k None d v f is e = cc is
of_head k (Some j) d v f is e = let same : j ≡ k = cc is in subst (λ (it : Kind). MayBeOfKind it v) same (row_value_fits j d v (good f (row_value j d) v e))

values_fit : (schema : Schema) (params : List Parameter) (part : Part) (place : ℕ) (ks : List Kind) (ds : List Data) (vs : List Value) → KindsFrom schema params part place ks
    → length ds ≡ length ks → values_from schema params part place ds ≡ Ok vs → AllZip MayBeOfKind ks vs
unfolding value_at
values_fit schema params part place [] [] vs at wide e = let none : [] ≡ vs = cc e in subst (AllZip MayBeOfKind []) none tt
values_fit schema params part place [] (d ∷ ds) vs at wide e = absurd (omega (arith, wide))
values_fit schema params part place (k ∷ ks) [] vs at wide e = absurd (omega (arith, wide))
values_fit schema params part place (k ∷ ks) (d ∷ ds) vs at wide e =
    let first = bound (value_at schema params part place d) (λ v. (values_from schema params part (place + 1) ds >>= λ ws. Ok (v ∷ ws))) vs e in
    let rest = bound (values_from schema params part (place + 1) ds) (λ ws. Ok (first.0 ∷ ws)) vs first.2 in
    let all : first.0 ∷ rest.0 ≡ vs = cc rest.2 in
    subst (AllZip MayBeOfKind (k ∷ ks)) all
    (of_head k (head_kind schema params part place) d first.0 _ at.0 first.1, values_fit schema params part (place + 1) ks ds rest.0 at.1 (omega (arith, wide)) rest.1)

same_length : {X Y : Type 0} (f : X → Option Y) (xs : List X) (ys : List Y) → map f xs ≡ map Some ys → length xs ≡ length ys
same_length f [] [] e = refl
same_length f [] (y ∷ ys) e = cc e
same_length f (x ∷ xs) [] e = cc e
same_length f (x ∷ xs) (y ∷ ys) e = let rest : map f xs ≡ map Some ys = cc e in ap suc (same_length f xs ys rest)

pub wide_enough : {A F : Type 0} (b : Bool) (r : Result A F) (e : F) (x : A) → cond b r (Err e) ≡ Ok x → (b ≡ true) × (r ≡ Ok x)
wide_enough true r e x h = (refl, h)
wide_enough false r e x h = cc h

row_fits : (schema : Schema) (params : List Parameter) (part : Part) (ks : List Kind) (ds : List Data) (row : List Value)
    → map (kind_of schema (kinds_of params) [] part.from) part.head ≡ map Some ks → row_under schema params part ds ≡ Ok row → AllZip MayBeOfKind ks row
unfolding row_under
row_fits schema params part ks ds row kinds e =
    let two = wide_enough (length ds == length part.head) (values_from schema params part 0 ds) _ row e in
    let wide : length ds ≡ length ks = eqb-true (length ds) (length part.head) two.0 ∙ same_length (kind_of schema (kinds_of params) [] part.from) part.head ks kinds in
    values_fit schema params part 0 ks ds row (kinds_there schema params part [] part.head 0 ks refl refl kinds) wide two.1

first_fits : (schema : Schema) (params : List Parameter) (parts : List Part) (ks : List Kind) (ds : List Data) (row : List Value) (f : ProofField)
    → AllByRecursion (PartFits schema (kinds_of params) [] ks) parts → (or_bad f (slice_get parts 0) >>= λ part. row_under schema params part ds) ≡ Ok row → AllZip MayBeOfKind ks row
first_fits schema params [] ks ds row f fits e = cc e
first_fits schema params (part ∷ parts) ks ds row f fits e = row_fits schema params part ks ds row fits.0.head e

-- a query and a row that were read may be recorded
pub record_fits : (policy : Policy) (q : Query) (ds : List Data) (row : List Value) → IsQuery policy.schema (kinds_of policy.params) [] q
    → row_of policy.schema policy.params q ds ≡ Ok row → RecordFits policy (entry_with q row)
record_fits policy q ds row fits e = record {
  query = fits;
  rows = All-from_recursion (AllZip MayBeOfKind fits.fits.kinds) (row ∷ []) (first_fits policy.schema policy.params q.parts fits.fits.kinds ds row _ (recursion_from_All (PartFits policy.schema (kinds_of policy.params) [] fits.fits.kinds) q.parts fits.fits.parts) e, tt);
}

-- ---- steps

each_long : {A B F : Type 0} (f : A → Result B F) (xs : List A) (ys : List B) → each f xs ≡ Ok ys → length ys ≡ length xs
each_long f [] ys e = let none : [] ≡ ys = cc e in ap length (sym none)
each_long f (x ∷ xs) ys e =
    let first = bound (f x) (λ y. (each f xs >>= λ zs. Ok (y ∷ zs))) ys e in
    let rest = bound (each f xs) (λ zs. Ok (first.0 ∷ zs)) ys first.2 in
    let all : first.0 ∷ rest.0 ≡ ys = cc rest.2 in
    ap length (sym all) ∙ ap suc (each_long f xs rest.0 rest.1)

-- ---- the question

-- what was read under a policy that was read is a question
pub question_fits : (policy : Policy) (found : Option Data) (c : Context) (trace : List TraceEntry) (q : Query) → IsPolicy policy → context_at policy.params found ≡ Ok c
    → All (RecordFits policy) trace → IsQuery policy.schema (kinds_of policy.params) [] q → QuestionFits policy c trace q
question_fits policy found c trace q is context recorded asked = record {
  tables = is.tables;
  rules = is.rules;
  policy_fits = is.views;
  context = context_fits policy.params found c context;
  trace_fits = recorded;
  asked = asked;
}

not_refused : (b : Bool) (f : ProofFault) → ◌≡◌ {A = Result ⊤ ProofFault} (cond b (Err f) (Ok tt)) (Ok tt) → b ≡ false
not_refused true f e = cc e
not_refused false f e = refl

-- there are no more steps than the limit
pub few_steps : (params : List Parameter) (version : ℕ) (found : Option Data) (steps : List Step) → few_at found ≡ Ok tt → steps_at params version found ≡ Ok steps → length steps ≤ most_steps
unfolding few_at steps_at
few_steps params version None steps few e = cc e
few_steps params version (Some d) steps few e = by (as_list d) few e
  where
    by : (o : Option (List Data)) → ◌≡◌ {A = Result ⊤ ProofFault} (cond (too_many o) (Err TooLong) (Ok tt)) (Ok tt) → (or_bad field.Steps o >>= each (step_at params 0 version)) ≡ Ok steps
        → length steps ≤ most_steps
    by None f e = cc e
    by (Some ds) f e =
        let same : length steps ≡ length ds = each_long (step_at params 0 version) ds steps e in
        let most : length ds ≤ most_steps = ltb-false most_steps (length ds) (not_refused (nat_lt most_steps (length ds)) TooLong f) in
        subst (λ n. n ≤ most_steps) (sym same) most

-- the same, where the policy was read in parts
pub read_question_fits : (policy one two three : Policy) (params : List Parameter) (found : Option Data) (c : Context) (trace : List TraceEntry) (q goal : Query) → one ≡ policy → two ≡ policy → three ≡ policy
    → params ≡ one.params → context_at params found ≡ Ok c → All (RecordFits two) trace → IsQuery three.schema (kinds_of three.params) [] q → goal ≡ q → IsPolicy policy → QuestionFits policy c trace goal
read_question_fits policy one two three params found c trace q goal e f g same context recorded asked is_q is =
    let read : context_at policy.params found ≡ Ok c = subst (λ (it : Policy). context_at it.params found ≡ Ok c) e (subst (λ (it : List Parameter). context_at it found ≡ Ok c) same context) in
    let rows : All (RecordFits policy) trace = subst (λ (it : Policy). All (RecordFits it) trace) f recorded in
    let query : IsQuery policy.schema (kinds_of policy.params) [] q = subst (λ (it : Policy). IsQuery it.schema (kinds_of it.params) [] q) g asked in
    subst (λ (it : Query). QuestionFits policy c trace it) (sym is_q) (question_fits policy found c trace q is read rows query)

-- and so the problem that is made of it is one of a question
pub read_question_asked : (policy one two three : Policy) (params : List Parameter) (found : Option Data) (c : Context) (trace : List TraceEntry) (q goal : Query) (p : Problem) → one ≡ policy → two ≡ policy
    → three ≡ policy → params ≡ one.params → context_at params found ≡ Ok c → All (RecordFits two) trace → IsQuery three.schema (kinds_of three.params) [] q → goal ≡ q
    → p ≡ problem_of policy c trace goal → IsPolicy policy → IsAsked policy p
read_question_asked policy one two three params found c trace q goal p e f g same context recorded asked is_q made is = record {
  context = c;
  trace = trace;
  query = goal;
  fits = read_question_fits policy one two three params found c trace q goal e f g same context recorded asked is_q is;
  is = made;
}
