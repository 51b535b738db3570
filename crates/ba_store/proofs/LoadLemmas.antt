-- What a line says passes the tests, so that its steps can be taken.
use Rattle.std.proofs.Common.{◌≡◌, ◌∙◌, ℕ, suc, ◌+◌, ◌≤◌, Bool, true, false, cond, List, [], ◌∷◌, length, nat_le, refl, sym, ap, subst, arith, All, codes}
use Rattle.std.specs.Prelude.{Option, Some, None, Result, Ok, Err, ⊤, slice_get}
use Rattle.std.proofs.lemmas.Bool.{leb-true}
use Rattle.std.proofs.lemmas.List.Elements.{All-from_recursion, All-weaker}
use Rattle.std.specs.List.{AllByRecursion}
use Rattle.serde_json.specs.Data.{Data, Members, no_members, member}
use Rattle.std.specs.Str.{is_utf8}
use Rattle.serde_json.specs.Find.{as_object, get}
use Rattle.serde_json.specs.Read.{read}
use Rattle.ba_model.specs.Fit.{AtomFits, IsQuery, kinds_of}
use Rattle.ba_model.specs.Limits.{most_entries, most_operands, most_steps}
use Rattle.ba_model.specs.Readings.{◌>>=◌, each, widened}
use Rattle.ba_model.specs.declared.policy.Parameter.{Parameter}
use Rattle.ba_model.specs.declared.policy.Policy.{Policy}
use Rattle.ba_model.specs.declared.query.Atom.{Atom}
use Rattle.ba_model.specs.declared.query.Operand.{Operand}
use Rattle.ba_model.specs.declared.query.Part.{Part}
use Rattle.ba_model.specs.declared.query.Query.{Query}
use Rattle.ba_model.specs.declared.schema.Kind.{Kind}
use Rattle.ba_model.specs.declared.schema.Schema.{Schema}
use Rattle.ba_kernel.proofs.DraftLemmas.{entry_from_stands, fits_from_parts}
use Rattle.ba_kernel.specs.Courses.{EntryFits, ProblemFits}
use Rattle.ba_kernel.specs.Drafts.{IsChecked, IsWellFormed}
use Rattle.ba_kernel.specs.declared.problem.Problem.{Problem}
use Rattle.ba_kernel.specs.declared.problem.ProblemEntry.{ProblemEntry}
use Rattle.ba_kernel.specs.declared.step.Step.{Step}
use Rattle.ba_template.specs.Templates.{EachVarStands}
use Rattle.ba_proof.proofs.FitLemmas.{bound, wide_enough}
use Rattle.ba_proof.specs.Steps.{step_at}
use Rattle.ba_proof.specs.declared.fault.ProofFault.{ProofFault}
use Rattle.ba_proof.specs.declared.proof.Proof.{Proof}
use Rattle.ba_proof.specs.declared.version.TheConstants.{RULE_VERSION}
use Rattle.ba_store.proofs.FitLemmas.{assumed_is, stands_is, tests_query, vars_is}
use Rattle.ba_store.specs.Fits.{is_assumed, is_query, row_stands, stands_for, vars_stand}
use Rattle.ba_store.specs.Reading.{asked_at, assumed_at, checked, condition_at, draft_of, draft_or, draft_with, entries_at, entries_of, entry_at, entry_form, entry_of, entry_with, few_entries, few_steps, few_vars, fields_of, fields_or, goal_at, if_assumed, if_stands, if_vars_stand, keys_at, kind_at, problem_at, problem_with, query_at, query_with, steps_at, steps_of, vars_at, version_at, with_condition}
use Rattle.ba_store.specs.Shapes.{list_at, or_bad}
use Rattle.ba_store.specs.Tests.{PassesTests}
use Rattle.ba_store.specs.declared.fault.LineFault.{LineFault}
use Rattle.ba_store.specs.declared.fault.LineFault.TheVariants.{Field}
use Rattle.ba_store.specs.declared.fault.StoreField.{StoreField}
use Rattle.ba_store.specs.declared.fault.StoreField.TheVariants as field

pub ok_same : {A F : Type 0} (x y : A) → ◌≡◌ {A = Result A F} (Ok x) (Ok y) → x ≡ y
ok_same x y e = cc e

pub widened_ok : {A F G : Type 0} (into : F → G) (r : Result A F) (x : A) → widened into r ≡ Ok x → r ≡ Ok x
widened_ok into (Ok y) x e = ap Ok (ok_same y x e)
widened_ok into (Err f) x e = cc e

-- what holds of each that a reading gives holds of all
each_recursion : {A B F : Type 0} (f : A → Result B F) (P : B → Type 0) → ((x : A) (y : B) → f x ≡ Ok y → P y) → (xs : List A) (ys : List B) → each f xs ≡ Ok ys → AllByRecursion P ys
each_recursion f P h [] ys e = subst (AllByRecursion P) (ok_same [] ys e) tt
each_recursion f P h (x ∷ xs) ys e =
    let first = bound (f x) (λ y. (each f xs >>= λ zs. Ok (y ∷ zs))) ys e in
    let rest = bound (each f xs) (λ zs. Ok (first.0 ∷ zs)) ys first.2 in
    subst (AllByRecursion P) (ok_same (first.0 ∷ rest.0) ys rest.2) (h x first.0 first.1, each_recursion f P h xs rest.0 rest.1)

each_all : {A B F : Type 0} (f : A → Result B F) (P : B → Type 0) → ((x : A) (y : B) → f x ≡ Ok y → P y) → (xs : List A) (ys : List B) → each f xs ≡ Ok ys → All P ys
each_all f P h xs ys e = All-from_recursion P ys (each_recursion f P h xs ys e)

each_long : {A B F : Type 0} (f : A → Result B F) (xs : List A) (ys : List B) → each f xs ≡ Ok ys → length ys ≡ length xs
each_long f [] ys e = ap length (sym (ok_same [] ys e))
each_long f (x ∷ xs) ys e =
    let first = bound (f x) (λ y. (each f xs >>= λ zs. Ok (y ∷ zs))) ys e in
    let rest = bound (each f xs) (λ zs. Ok (first.0 ∷ zs)) ys first.2 in
    ap length (sym (ok_same (first.0 ∷ rest.0) ys rest.2)) ∙ ap suc (each_long f xs rest.0 rest.1)

-- ---- queries

checked_is : (it : StoreField) (schema : Schema) (params : List Parameter) (vars : List Kind) (parts : List Part) (q : Query) → checked it schema params vars parts ≡ Ok q
    → IsQuery schema (kinds_of params) vars q
unfolding checked
checked_is it schema params vars parts q e =
    let h = wide_enough (is_query schema (kinds_of params) vars parts) (Ok (query_with parts)) it q e in
    subst (IsQuery schema (kinds_of params) vars) (ok_same (query_with parts) q h.1) (tests_query schema (kinds_of params) vars parts h.0)

pub query_is : (it : StoreField) (schema : Schema) (params : List Parameter) (vars : List Kind) (d : Data) (q : Query) → query_at it schema params vars d ≡ Ok q
    → IsQuery schema (kinds_of params) vars q
unfolding query_at
query_is it schema params vars d q e =
    let parts = bound _ (checked it schema params vars) q e in
    checked_is it schema params vars parts.0 q parts.2

goal_is : (schema : Schema) (params : List Parameter) (vars : List Kind) (found : Option Data) (q : Query) → goal_at schema params vars found ≡ Ok q
    → IsQuery schema (kinds_of params) vars q
unfolding goal_at
goal_is schema params vars found q e =
    let d = bound (or_bad field.Goal found) (query_at field.Goal schema params vars) q e in
    query_is field.Goal schema params vars d.0 q d.2

-- ---- variables

vars_few : (params : List Parameter) (found : Option Data) (vars : List Kind) → vars_at params found ≡ Ok vars → length vars + length params ≤ most_operands
unfolding vars_at
vars_few params found vars e =
    let few = bound (or_bad field.Vars found >>= list_at field.Vars >>= few_vars params) (each kind_at) vars e in
    let items = bound (or_bad field.Vars found >>= list_at field.Vars) (few_vars params) few.0 few.1 in
    let within = wide_enough (nat_le (length items.0 + length params) most_operands) (Ok items.0) field.Vars few.0 items.2 in
    let same : length vars ≡ length items.0 = each_long kind_at few.0 vars few.2 ∙ ap length (sym (ok_same items.0 few.0 within.1)) in
    subst (λ n. n + length params ≤ most_operands) (sym same) (leb-true (length items.0 + length params) most_operands within.0)

-- ---- entries

module _ (p : Problem) where
  first_stands : (q : Query) (row : List Operand) (first : Option Part) → slice_get q.parts 0 ≡ first → IsQuery p.policy.schema (kinds_of p.policy.params) p.vars q
      → stands_for p.policy.schema (kinds_of p.policy.params) p.vars first row ≡ true → EntryFits p (entry_with q row)
  first_stands q row None there fits e = cc e
  first_stands q row (Some part) there fits e = entry_from_stands p (entry_with q row) part there fits (stands_is p part.from part.head row e)

  stands_entry : (q : Query) (row : List Operand) (entry : ProblemEntry) → IsQuery p.policy.schema (kinds_of p.policy.params) p.vars q
      → if_stands p.policy.schema p.policy.params p.vars q row ≡ Ok entry → EntryFits p entry
  stands_entry q row entry fits e =
      let h = wide_enough (row_stands p.policy.schema (kinds_of p.policy.params) p.vars q row) (Ok (entry_with q row)) field.Entries entry e in
      subst (EntryFits p) (ok_same (entry_with q row) entry h.1) (first_stands q row (slice_get q.parts 0) refl fits h.0)

  entry_is : (a b : Data) (entry : ProblemEntry) → entry_of p.policy.schema p.policy.params p.vars a b ≡ Ok entry → EntryFits p entry
  unfolding entry_of
  entry_is a b entry e =
      let q = bound (query_at field.Entries p.policy.schema p.policy.params p.vars a) _ entry e in
      let row = bound _ (if_stands p.policy.schema p.policy.params p.vars q.0) entry q.2 in
      stands_entry q.0 row.0 entry (query_is field.Entries p.policy.schema p.policy.params p.vars a q.0 q.1) row.2

  form_is : (ms : Members) (entry : ProblemEntry) → entry_form p.policy.schema p.policy.params p.vars ms ≡ Ok entry → EntryFits p entry
  form_is no_members entry e = cc e
  form_is (member k a no_members) entry e = cc e
  form_is (member k a (member l b no_members)) entry e = entry_is a b entry (wide_enough _ (entry_of p.policy.schema p.policy.params p.vars a b) field.Entries entry e).1
  form_is (member k a (member l b (member m c more))) entry e = cc e

  pub entry_fits : (d : Data) (entry : ProblemEntry) → entry_at p.policy.schema p.policy.params p.vars d ≡ Ok entry → EntryFits p entry
  entry_fits d entry e =
      let ms = bound (or_bad field.Entries (as_object d)) (entry_form p.policy.schema p.policy.params p.vars) entry e in
      form_is ms.0 entry ms.2

  entries_fit : (found : Option Data) (entries : List ProblemEntry) → entries_of p.policy.schema p.policy.params p.vars found ≡ Ok entries → All (EntryFits p) entries × (length entries ≤ most_entries)
  unfolding entries_of
  entries_fit found entries e =
      let few = bound (or_bad field.Entries found >>= list_at field.Entries >>= few_entries) (each (entry_at p.policy.schema p.policy.params p.vars)) entries e in
      let items = bound (or_bad field.Entries found >>= list_at field.Entries) few_entries few.0 few.1 in
      let within = wide_enough (nat_le (length items.0) most_entries) (Ok items.0) field.Entries few.0 items.2 in
      let same : length entries ≡ length items.0 = each_long (entry_at p.policy.schema p.policy.params p.vars) few.0 entries few.2 ∙ ap length (sym (ok_same items.0 few.0 within.1)) in (
        each_all (entry_at p.policy.schema p.policy.params p.vars) (EntryFits p) entry_fits few.0 entries few.2,
        subst (λ n. n ≤ most_entries) (sym same) (leb-true (length items.0) most_entries within.0),
      )

  -- ---- the condition

  pub assumed_fits : (d : Data) (atom : Atom) → assumed_at p.policy.schema p.policy.params p.vars d ≡ Ok atom → AtomFits p.policy.schema (kinds_of p.policy.params) p.vars [] atom
  assumed_fits d atom e =
      let it = bound _ (if_assumed p.policy.schema p.policy.params p.vars) atom e in
      let h = wide_enough (is_assumed p.policy.schema (kinds_of p.policy.params) p.vars it.0) (Ok it.0) field.Condition atom it.2 in
      subst (AtomFits p.policy.schema (kinds_of p.policy.params) p.vars []) (ok_same it.0 atom h.1) (assumed_is p.policy.schema (kinds_of p.policy.params) p.vars it.0 h.0)

  condition_fits : (found : Option Data) (atoms : List Atom) → condition_at p.policy.schema p.policy.params p.vars found ≡ Ok atoms
      → All (AtomFits p.policy.schema (kinds_of p.policy.params) p.vars []) atoms
  unfolding condition_at
  condition_fits found atoms e =
      let items = bound (or_bad field.Condition found >>= list_at field.Condition) (each (assumed_at p.policy.schema p.policy.params p.vars)) atoms e in
      each_all (assumed_at p.policy.schema p.policy.params p.vars) (AtomFits p.policy.schema (kinds_of p.policy.params) p.vars []) assumed_fits items.0 atoms items.2

-- ---- steps

steps_few : (params : List Parameter) (vars : ℕ) (found : Option Data) (all : List Step) → steps_at params vars found ≡ Ok all → length all ≤ most_steps
unfolding steps_at
steps_few params vars found all e =
    let few = bound (or_bad field.Steps found >>= list_at field.Steps >>= few_steps) (steps_of params vars) all e in
    let items = bound (or_bad field.Steps found >>= list_at field.Steps) few_steps few.0 few.1 in
    let within = wide_enough (nat_le (length items.0) most_steps) (Ok items.0) field.Steps few.0 items.2 in
    let taken = widened_ok (λ (fault : ProofFault). field.Steps) (each (step_at params vars RULE_VERSION) few.0) all few.2 in
    let same : length all ≡ length items.0 = each_long (step_at params vars RULE_VERSION) few.0 all taken ∙ ap length (sym (ok_same items.0 few.0 within.1)) in
    subst (λ n. n ≤ most_steps) (sym same) (leb-true (length items.0) most_steps within.0)

-- ---- the problem

-- of the policy, with few variables, a goal that is a query, and few entries that are well formed
record IsAsked (policy : Policy) (p : Problem) : Type 0 where
  vars : List Kind
  goal : Query
  entries : List ProblemEntry
  is : p ≡ problem_with policy vars [] entries goal
  few_vars_ : length vars + length policy.params ≤ most_operands
  goal_fits : IsQuery policy.schema (kinds_of policy.params) vars goal
  fit : All (EntryFits p) entries
  few_entries_ : length entries ≤ most_entries
  stands : vars_stand p ≡ true

-- the readings behind the first ones
abbrev pub then_entries : Policy → Data → List Kind → Query → Result Problem StoreField
then_entries policy d vars goal = entries_of policy.schema policy.params vars (get (codes "entries") d) >>= λ entries. if_vars_stand (problem_with policy vars [] entries goal)

abbrev pub then_goal : Policy → Data → List Kind → Result Problem StoreField
then_goal policy d vars = goal_at policy.schema policy.params vars (get (codes "goal") d) >>= then_entries policy d vars

abbrev pub then_vars : Policy → Data → Result Problem StoreField
then_vars policy d = vars_at policy.params (get (codes "vars") d) >>= then_goal policy d

asked_is : (policy : Policy) (d : Data) (p : Problem) → asked_at policy d ≡ Ok p → IsAsked policy p
unfolding asked_at entries_at
asked_is policy d p e =
    let version = bound (version_at (get (codes "version") d)) (λ (version : ⊤). then_vars policy d) p e in
    let vars = bound (vars_at policy.params (get (codes "vars") d)) (then_goal policy d) p version.2 in
    let goal = bound (goal_at policy.schema policy.params vars.0 (get (codes "goal") d)) (then_entries policy d vars.0) p vars.2 in
    let entries =
    bound (entries_of policy.schema policy.params vars.0 (get (codes "entries") d)) (λ (entries : List ProblemEntry). if_vars_stand (problem_with policy vars.0 [] entries goal.0)) p goal.2 in
    let stand = wide_enough (vars_stand (problem_with policy vars.0 [] entries.0 goal.0)) (Ok (problem_with policy vars.0 [] entries.0 goal.0)) field.Entries p entries.2 in
    let same : problem_with policy vars.0 [] entries.0 goal.0 ≡ p = ok_same (problem_with policy vars.0 [] entries.0 goal.0) p stand.1 in
    let fit = entries_fit (problem_with policy vars.0 [] entries.0 goal.0) (get (codes "entries") d) entries.0 entries.1 in
    record {
      vars = vars.0;
      goal = goal.0;
      entries = entries.0;
      is = sym same;
      few_vars_ = vars_few policy.params (get (codes "vars") d) vars.0 vars.1;
      goal_fits = goal_is policy.schema policy.params vars.0 (get (codes "goal") d) goal.0 goal.1;
      fit = subst (λ it. All (EntryFits it) entries.0) same fit.0;
      few_entries_ = fit.1;
      stands = subst (λ it. vars_stand it ≡ true) same stand.0;
    }

-- an entry fits whatever is assumed
fits_still : (p : Problem) (assumed : List Atom) (entry : ProblemEntry) → EntryFits p entry → EntryFits (with_condition p assumed) entry
fits_still p assumed entry h = record { query = h.query; row = h.row }

all_still : (p : Problem) (assumed : List Atom) (entries : List ProblemEntry) → All (EntryFits p) entries → All (EntryFits (with_condition p assumed)) entries
all_still p assumed entries h = All-weaker (EntryFits p) (EntryFits (with_condition p assumed)) (fits_still p assumed) entries h

whole : (policy : Policy) (vars : List Kind) (goal : Query) (entries : List ProblemEntry) (assumed : List Atom) (all : List Step) → length vars + length policy.params ≤ most_operands
    → IsQuery policy.schema (kinds_of policy.params) vars goal → All (EntryFits (problem_with policy vars [] entries goal)) entries → length entries ≤ most_entries
    → EachVarStands (problem_with policy vars [] entries goal) → All (AtomFits policy.schema (kinds_of policy.params) vars []) assumed → length all ≤ most_steps
    → PassesTests policy (problem_with policy vars assumed entries goal) all
whole policy vars goal entries assumed all few goal_fits fit few_e stand atoms few_s =
    record {
      of_policy = refl;
      formed = record { entries = all_still (problem_with policy vars [] entries goal) assumed entries fit; assumed = atoms; goal = goal_fits };
      few_vars = few;
      stands = record { stands = stand.stands };
      few_entries = few_e;
      few_steps = few_s;
    }

under_condition : (policy : Policy) (p : Problem) (assumed : List Atom) (all : List Step) → IsAsked policy p → All (AtomFits p.policy.schema (kinds_of p.policy.params) p.vars []) assumed
    → length all ≤ most_steps → PassesTests policy (with_condition p assumed) all
under_condition policy p assumed all h atoms few =
    let q = problem_with policy h.vars [] h.entries h.goal in
    let same : q ≡ p = sym h.is in
    subst (λ (it : Problem). PassesTests policy (with_condition it assumed) all) same
    (whole policy h.vars h.goal h.entries assumed all h.few_vars_ h.goal_fits (subst (λ it. All (EntryFits it) h.entries) h.is h.fit) h.few_entries_
    (vars_is q (subst (λ it. vars_stand it ≡ true) h.is h.stands))
    (subst (λ (it : Problem). All (AtomFits it.policy.schema (kinds_of it.policy.params) it.vars []) assumed) h.is atoms) few)

abbrev pub then_keys : Members → Problem → List Step → Result Proof StoreField
then_keys ms problem steps = keys_at ms >>= λ keys. Ok (draft_with problem steps)

abbrev pub then_steps : Policy → Data → Members → Problem → Result Proof StoreField
then_steps policy d ms problem = steps_at policy.params (length problem.vars) (get (codes "steps") d) >>= then_keys ms problem

abbrev pub then_condition : Policy → Data → Problem → Result Problem StoreField
then_condition policy d p = condition_at policy.schema policy.params p.vars (get (codes "condition") d) >>= λ assumed. Ok (with_condition p assumed)

pub fields_pass : (policy : Policy) (d : Data) (ms : Members) (draft : Proof) → fields_of policy d ms ≡ Ok draft → PassesTests policy draft.problem draft.steps
unfolding fields_of problem_at
fields_pass policy d ms draft e =
    let problem = bound (asked_at policy d >>= then_condition policy d) (then_steps policy d ms) draft e in
    let asked = bound (asked_at policy d) (then_condition policy d) problem.0 problem.1 in
    let assumed = bound (condition_at policy.schema policy.params asked.0.vars (get (codes "condition") d)) (λ (assumed : List Atom). Ok (with_condition asked.0 assumed)) problem.0 asked.2 in
    let steps = bound (steps_at policy.params (length problem.0.vars) (get (codes "steps") d)) (then_keys ms problem.0) draft problem.2 in
    let keys = bound (keys_at ms) (λ (keys : ⊤). Ok (draft_with problem.0 steps.0)) draft steps.2 in
    let same : draft_with problem.0 steps.0 ≡ draft = ok_same (draft_with problem.0 steps.0) draft keys.2 in
    let is = asked_is policy d asked.0 asked.1 in
    let of_policy : asked.0.policy ≡ policy = ap (λ (it : Problem). it.policy) is.is in
    let made : with_condition asked.0 assumed.0 ≡ problem.0 = ok_same (with_condition asked.0 assumed.0) problem.0 assumed.2 in
    let atoms = condition_fits asked.0 (get (codes "condition") d) assumed.0 (subst (λ (it : Policy). condition_at it.schema it.params asked.0.vars (get (codes "condition") d) ≡ Ok assumed.0) (sym of_policy) assumed.1) in
    subst (λ (it : Proof). PassesTests policy it.problem it.steps) same
    (subst (λ it. PassesTests policy it steps.0) made
    (under_condition policy asked.0 assumed.0 steps.0 is atoms (steps_few policy.params (length problem.0.vars) (get (codes "steps") d) steps.0 steps.1)))

pub draft_passes : (policy : Policy) (bytes : List ℕ) (draft : Proof) → draft_of policy bytes ≡ Ok draft → PassesTests policy draft.problem draft.steps
unfolding draft_of
draft_passes policy bytes draft e = by (read bytes) (wide_enough (is_utf8 bytes) (draft_or policy (read bytes)) _ draft e).1
  where
    in_object : (d : Data) (o : Option Members) → fields_or policy d o ≡ Ok draft → PassesTests policy draft.problem draft.steps
    in_object d None h = cc h
    in_object d (Some ms) h = fields_pass policy d ms draft (widened_ok Field (fields_of policy d ms) draft h)

    by : (o : Option Data) → draft_or policy o ≡ Ok draft → PassesTests policy draft.problem draft.steps
    by None h = cc h
    by (Some d) h = in_object d (as_object d) h

pub draft_fits : (policy : Policy) (p : Problem) (all : List Step) → IsChecked policy → PassesTests policy p all → ProblemFits p
draft_fits policy p all checked h = fits_from_parts p (subst IsChecked (sym h.of_policy) checked) h.formed
